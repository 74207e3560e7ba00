-- A text in a casing, byte by byte.
use Prim.Native.Nat.{ℕ, suc, ◌+◌, ◌≤◌, ◌<◌}
use mathlib.Core.Path.{◌≡◌}
use mathlib.Core.List.{List, ◌++◌, append-nil}
use native.Mathlib.Numerals.{add-one}
use native.Mathlib.Omega.{arith}
use lib.ListN.{length, get_or, take, drop, set, drop_of_length-le}
use lib.Seq.{drop-cons, drop-set-lt, take-suc-set, append_snoc, take_all}
use Rattle.options.specs.Casings.{cased_byte, cased}
use Rattle.options.specs.declared.Casing.{Casing}

-- a text with its bytes from i on in the casing
unfoldable pub cased_from : Casing → ℕ → List ℕ → List ℕ
cased_from casing i text = take i text ++ cased casing (drop i text)

-- byte i may be put in the casing at once
pub cased_next : (casing : Casing) (text : List ℕ) (i : ℕ) → i < length text
    → cased_from casing (i + 1) (set text i (cased_byte casing (get_or text i 0))) ≡ cased_from casing i text
unfolding cased_from cased
cased_next casing text i h =
    let below : i < suc i = omega arith in
    simp (add-one, take-suc-set, drop-set-lt, drop-cons text i 0 h, append_snoc)

-- no byte is left
pub cased_all : (casing : Casing) (text : List ℕ) (i : ℕ) → length text ≤ i → cased_from casing i text ≡ text
unfolding cased_from cased
cased_all casing text i h = simp (take_all i text h, drop_of_length-le text h, append-nil)
