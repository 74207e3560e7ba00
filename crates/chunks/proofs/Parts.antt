-- Laws of the part of a list between two places.
use mathlib.Core.Path.{◌≡◌, refl, sym}
use mathlib.Core.List.{List, [], ◌∷◌, ◌++◌}
use Prim.Native.Nat.{ℕ, zero, suc, ◌+◌, ◌≤◌}
use native.Mathlib.Omega.{arith}
use lib.ListN.{length, drop, take-append-drop}
use lib.Seq.{slice, take-append-add, take-append_seam, drop-append_seam}

-- what stands behind a place is a part from there on and what stands behind the part
pub part_drop : (from to : ℕ) (list : List ℕ) → from ≤ to → drop from list ≡ slice from to list ++ drop to list
part_drop zero to list order = sym (take-append-drop to list)
part_drop (suc from) zero list order = absurd (omega arith)
part_drop (suc from) (suc to) [] order = refl
part_drop (suc from) (suc to) (x ∷ list) order = part_drop from to list (omega arith)

-- the part where a list stands between two others is that list
pub part_between : (front list back : List ℕ) → slice (length front) (length front + length list) (front ++ (list ++ back)) ≡ list
part_between front list back = rw (take-append-add front (list ++ back) (length list), take-append_seam list back) (drop-append_seam front list)
