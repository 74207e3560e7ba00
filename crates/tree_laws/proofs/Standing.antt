-- A form that stands at a place can be taken apart: each of its parts stands where the part before it ends.
use mathlib.Core.Path.{◌≡◌, sym, ap, ◌∙◌}
use mathlib.Core.List.{List, [], ◌∷◌, ◌++◌}
use Prim.Native.Nat.{ℕ, suc, ◌+◌, ◌%◌, ◌/◌, ◌≤◌, ◌<◌}
use native.Mathlib.Omega.{arith}
use lib.ListN.{length, get_or, take, drop, length-append}
use lib.Seq.{slice, slice-cons, length-slice, length-take-le, take-take, take-add, take-append_seam, take-append-add, drop-append_seam, drop-drop, drop_at}
use Rattle.text.specs.Numbers.{two_bytes, number_at}
use Rattle.tree.proofs.Places.{Stands}

-- where a form ends
pub ends : {bytes : List ℕ} {at end : ℕ} {form : List ℕ} → Stands bytes at form end → end ≡ at + length form
ends {bytes} {at} {end} stands = rw (stands.same, length-slice at end bytes stands.inside) (omega arith)

-- the first bytes of a part of a list
front : (at count : ℕ) (bytes : List ℕ) → at ≤ length bytes → slice at (at + count) bytes ≡ take count (drop at bytes)
front at count bytes inside = rw (take-add at count bytes) (drop_at (take at bytes) (take count (drop at bytes)) at (length-take-le at bytes inside))

-- a form in two parts
pub apart : {bytes : List ℕ} {at end : ℕ} (first second : List ℕ) → Stands bytes at (first ++ second) end
    → Stands bytes at first (at + length first) × Stands bytes (at + length first) second end
apart {bytes} {at} {end} first second stands =
    let count : ℕ = length first in
    let last : end ≡ at + (count + length second) = ends stands ∙ rw (length-append first second) in
    let long : length (take end bytes) ≡ end = length-take-le end bytes stands.inside in
    let near : slice at (at + count) bytes ≡ first =
    ap (drop at) (sym (take-take (at + count) end bytes (omega arith)))
    ∙ front at count (take end bytes) (omega arith)
    ∙ ap (take count) (sym stands.same)
    ∙ take-append_seam first second in
    let far : slice (at + count) end bytes ≡ second =
    sym (drop-drop count at (take end bytes)) ∙ ap (drop count) (sym stands.same) ∙ drop-append_seam first second in (
      record { same = sym near; onward = omega arith; inside = omega (arith, stands.inside) },
      record { same = sym far; onward = omega arith; inside = stands.inside },
    )

-- the first byte
pub byte_at : {bytes : List ℕ} {at end : ℕ} (byte : ℕ) (rest : List ℕ) → Stands bytes at (byte ∷ rest) end → (get_or bytes at 0 ≡ byte) × (at < length bytes)
byte_at {bytes} {at} {end} byte rest stands =
    let last : end ≡ at + suc (length rest) = ends stands in
    let inside : end ≤ length bytes = stands.inside in
    let head : slice at end bytes ≡ get_or bytes at 0 ∷ slice (suc at) end bytes = slice-cons at end bytes 0 (omega arith) inside in
    let same : byte ∷ rest ≡ get_or bytes at 0 ∷ slice (suc at) end bytes = stands.same ∙ head in
    ((cc), omega arith)

-- a two-byte number
pub number_at_lem : {bytes : List ℕ} {at end : ℕ} (number : ℕ) → Stands bytes at (two_bytes number) end → (number_at bytes at ≡ number) × (at + 2 ≤ length bytes)
number_at_lem number stands =
    let low = byte_at (number % 256) (number / 256 ∷ []) stands in
    let high = byte_at (number / 256) [] (apart (number % 256 ∷ []) (number / 256 ∷ []) stands).1 in
    (rw (low.0, high.0) (omega arith), omega (arith, high.1))

-- what is known of a length and as many bytes
pub record Sized (bytes : List ℕ) (at : ℕ) (text : List ℕ) (end : ℕ) : Type 0 where
  pub room : at + 2 ≤ length bytes
  pub count : number_at bytes at ≡ length text
  pub last : end ≡ at + 2 + length text
  pub letters : Stands bytes (at + 2) text end

-- where they stand
pub sized : {bytes : List ℕ} {at end : ℕ} (text : List ℕ) → Stands bytes at (two_bytes (length text) ++ text) end → Sized bytes at text end
sized text stands =
    let parts = apart (two_bytes (length text)) text stands in
    let number = number_at_lem (length text) parts.0 in
    record { room = number.1; count = number.0; last = ends parts.1; letters = parts.1 }

-- a form between any bytes before and behind it
pub between : (before form behind : List ℕ) → Stands (before ++ (form ++ behind)) (length before) form (length before + length form)
between before form behind = record {
  same = sym (rw (take-append-add before (form ++ behind) (length form), take-append_seam form behind) (drop-append_seam before form));
  onward = omega arith;
  inside = omega (arith, length-append before (form ++ behind), length-append form behind);
}
