-- A number's stored form, and the number of a stored form.
use mathlib.Core.Path.{◌≡◌}
use mathlib.Core.List.{List, [], ◌∷◌, ◌++◌}
use Prim.Native.Nat.{ℕ, ◌+◌, ◌*◌, ◌/◌, ◌%◌, ◌<◌}
use native.Mathlib.Omega.{arith}
use lib.ListN.{length}
use lib.Seq.{get_or-append_seam, get_or-append-add}
use Rattle.text.specs.Numbers.{two_bytes, number_at}

-- the number that stands where a number's stored form does is the number
pub number_stored : (before after : List ℕ) (n : ℕ) → number_at (before ++ (two_bytes n ++ after)) (length before) ≡ n
number_stored before after n =
    rw (get_or-append_seam before (n % 256) (n / 256 ∷ after) 0, get_or-append-add before (two_bytes n ++ after) 1 0) (omega arith)

-- the stored form of two bytes' number is the two bytes
pub two_bytes_number : (low high : ℕ) → low < 256 → two_bytes (low + 256 * high) ≡ low ∷ high ∷ []
two_bytes_number low high small =
    let first : (low + 256 * high) % 256 ≡ low = omega arith in
    let second : (low + 256 * high) / 256 ≡ high = omega arith in
    rw (first, second)
