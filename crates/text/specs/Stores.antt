-- What a call that stores bytes into a lent buffer answers, and what the buffer then holds.
-- Where the bytes do not fit nothing is written.
use Rattle.std.specs.Prelude.{ℕ, ◌+◌, List, Bool, cond, length, replicate, leb, ltb, Option, Some, None, Result, Ok, Err}
use Rattle.std.proofs.lemmas.List.Edits.{sets}
use Rattle.text.specs.Numbers.{two_bytes}
use Rattle.text.specs.declared.numbers.Unstored.{Unstored}
use Rattle.text.specs.declared.numbers.Unstored.TheVariants.{NoRoom, TooLarge}

-- bytes fit at a place of a buffer
abbrev pub fits : List ℕ → ℕ → List ℕ → Bool
fits buffer at bytes = leb (at + length bytes) (length buffer)

-- the place behind the bytes, or that there is no room for them
abbrev pub stored_end : List ℕ → ℕ → List ℕ → Option ℕ
stored_end buffer at bytes = cond (fits buffer at bytes) (Some (at + length bytes)) None

-- the buffer with the bytes at their place, every other byte as it was
abbrev pub stored_buffer : List ℕ → ℕ → List ℕ → List ℕ
stored_buffer buffer at bytes = cond (fits buffer at bytes) (sets buffer at bytes) buffer

-- a number above 65,535 has no stored form
abbrev pub number_end : List ℕ → ℕ → ℕ → Result ℕ Unstored
number_end buffer at n = cond (ltb 65535 n) (Err TooLarge) (cond (fits buffer at (two_bytes n)) (Ok (at + 2)) (Err NoRoom))

abbrev pub number_buffer : List ℕ → ℕ → ℕ → List ℕ
number_buffer buffer at n = cond (ltb 65535 n) buffer (stored_buffer buffer at (two_bytes n))

-- a buffer of zeros
abbrev pub zeros : ℕ → List ℕ
zeros n = replicate n 0
