-- An answer as one number, for callers in other languages.
use Rattle.std.specs.Prelude.{ℕ, ◌+◌, ◌*◌, ◌<◌}
use Rattle.answers.specs.Numbers.{numbers, Answer}

-- 2^32 times the refusal's number, 0 for acceptance, plus the text's length or the place
abbrev pub packed_of : Answer → ℕ
packed_of answer = 4294967296 * (numbers answer).0 + (numbers answer).1

-- the length or place is below 2^32, so that both parts can be read off
abbrev pub Small : Answer → Type 0
Small answer = (numbers answer).1 < 4294967296
