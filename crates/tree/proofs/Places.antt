-- Bytes that stand in a list from a place to another, and forms one behind the other.
use mathlib.Core.Path.{◌≡◌, refl, sym, ap, ◌∙◌}
use mathlib.Core.List.{List, [], ◌∷◌, ◌++◌}
use Prim.Native.Nat.{ℕ, suc, ◌+◌, ◌≤◌, ◌<◌}
use native.Mathlib.Omega.{arith}
use lib.ListN.{length, get_or, take, drop, take-append-drop}
use lib.Seq.{slice, slice_empty, slice-cons, take-take, drop-append-le, length-take-le}
use Rattle.text.specs.Numbers.{two_bytes, number_at}
use Rattle.text.proofs.TwoBytes.{two_bytes_number}

-- a form stands from a place to an end
pub record Stands (bytes : List ℕ) (at : ℕ) (form : List ℕ) (end : ℕ) : Type 0 where
  pub same : form ≡ slice at end bytes
  pub onward : at ≤ end
  pub inside : end ≤ length bytes

-- a part up to a place and the part behind it
slices : (at middle end : ℕ) (bytes : List ℕ) → at ≤ middle → middle ≤ end → end ≤ length bytes
    → slice at middle bytes ++ slice middle end bytes ≡ slice at end bytes
slices at middle end bytes first second inside =
    let front : take middle (take end bytes) ≡ take middle bytes = take-take middle end bytes second in
    let long : at ≤ length (take middle (take end bytes)) = rw (front, length-take-le middle bytes (omega arith)) first in
    rw (← front) (sym (drop-append-le at (take middle (take end bytes)) (drop middle (take end bytes)) long) ∙ ap (drop at) (take-append-drop middle (take end bytes)))

-- the empty form stands everywhere
pub none_stands : (bytes : List ℕ) (at : ℕ) → at ≤ length bytes → Stands bytes at [] at
none_stands bytes at inside = record { same = sym (slice_empty at bytes); onward = omega arith; inside = inside }

-- two forms, one behind the other
pub both_stand : {bytes : List ℕ} {at middle end : ℕ} {first second : List ℕ} → Stands bytes at first middle → Stands bytes middle second end
    → Stands bytes at (first ++ second) end
both_stand {bytes} {at} {middle} {end} one two = record {
  same = rw (one.same, two.same) (slices at middle end bytes one.onward two.onward two.inside);
  onward = omega arith;
  inside = two.inside;
}

-- a part of the list
pub part_stands : (bytes : List ℕ) (at end : ℕ) → at ≤ end → end ≤ length bytes → Stands bytes at (slice at end bytes) end
part_stands bytes at end onward inside = record { same = refl; onward = onward; inside = inside }

-- one byte
pub byte_stands : (bytes : List ℕ) (at : ℕ) → at < length bytes → Stands bytes at (get_or bytes at 0 ∷ []) (at + 1)
byte_stands bytes at inside =
    let next : at + 1 ≡ suc at = omega arith in
    record {
      same = rw next (sym (slice-cons at (suc at) bytes 0 (omega arith) inside ∙ ap (λ (rest : List ℕ). get_or bytes at 0 ∷ rest) (slice_empty (suc at) bytes)));
      onward = omega arith;
      inside = omega arith;
    }

-- a two-byte number
pub number_stands : (bytes : List ℕ) (at : ℕ) → get_or bytes at 0 < 256 → at + 2 ≤ length bytes → Stands bytes at (two_bytes (number_at bytes at)) (at + 2)
number_stands bytes at small inside =
    let next : at + 1 + 1 ≡ at + 2 = omega arith in
    rw (two_bytes_number (get_or bytes at 0) (get_or bytes (at + 1) 0) small, ← next)
    (both_stand (byte_stands bytes at (omega arith)) (byte_stands bytes (at + 1) (omega arith)))
