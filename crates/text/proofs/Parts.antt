-- Parts of a list: as one byte and the rest, and between two places.
use mathlib.Core.Path.{◌≡◌}
use mathlib.Core.List.{List, [], ◌∷◌, ◌++◌}
use Prim.Native.Nat.{ℕ, zero, suc, ◌+◌, ◌-◌, ◌≤◌, ◌<◌}
use native.Mathlib.Omega.{arith}
use native.Mathlib.Numerals.{add-one}
use native.Mathlib.Nat.{sub-zero, zero-sub, suc-sub-suc}
use lib.ListN.{length, get_or, take, drop}
use lib.Seq.{slice, take-nil, take-suc, drop-cons}

-- the byte at a place, and what stands behind it
pub drop_step : (bytes : List ℕ) (i : ℕ) → i < length bytes → drop i bytes ≡ get_or bytes i 0 ∷ drop (i + 1) bytes
drop_step bytes i within = rw add-one (drop-cons bytes i 0 within)

-- what stands before the byte that ends a part, and that byte
pub take_last : (bytes : List ℕ) (end : ℕ) → 0 < end → end ≤ length bytes → take end bytes ≡ take (end - 1) bytes ++ (get_or bytes (end - 1) 0 ∷ [])
take_last bytes zero some within = absurd (omega arith)
take_last bytes (suc n) some within =
    let one_less : suc n - 1 ≡ n = omega arith in
    rw one_less (take-suc bytes n 0 within)

-- a part that the code lends is the part between its places
pub part_slice : (from to : ℕ) (list : List ℕ) → take (to - from) (drop from list) ≡ slice from to list
part_slice zero to list = rw (sub-zero to)
part_slice (suc from) to [] = simp take-nil
part_slice (suc from) zero (x ∷ list) = rw (zero-sub (suc from))
part_slice (suc from) (suc to) (x ∷ list) = rw (suc-sub-suc to from) (part_slice from to list)
