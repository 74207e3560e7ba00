-- Lists whose numbers are all bytes.
use mathlib.Core.List.{List, ◌∷◌}
use Prim.Native.Nat.{ℕ, zero, suc, ◌<◌}
use lib.ListN.{get_or}

-- a byte before others
pub one_more : (byte : ℕ) (bytes : List ℕ) → byte < 256 → ((i : ℕ) → get_or bytes i 0 < 256) → (i : ℕ) → get_or (byte ∷ bytes) i 0 < 256
one_more byte bytes small rest zero = small
one_more byte bytes small rest (suc i) = rest i
