-- Two-byte numbers, by document 01: "All two-byte numbers are low byte first."
use Rattle.std.specs.Prelude.{ℕ, ◌+◌, ◌*◌, ◌/◌, ◌%◌, List, [], ◌∷◌, cond, length, get_or, leb, Option, Some, None}

-- the stored form of a number
abbrev pub two_bytes : ℕ → List ℕ
two_bytes n = n % 256 ∷ n / 256 ∷ []

-- the number whose stored form stands at a place
abbrev pub number_at : List ℕ → ℕ → ℕ
number_at bytes at = get_or bytes at 0 + 256 * get_or bytes (at + 1) 0

-- reading a number, which is missing where the list ends before its second byte
abbrev pub read_number : List ℕ → ℕ → Option ℕ
read_number bytes at = cond (leb (at + 2) (length bytes)) (Some (number_at bytes at)) None
