-- Bytes that are written through a window.
use mathlib.Core.Path.{◌≡◌, sym, ap, ◌∙◌}
use mathlib.Core.List.{List, [], ◌∷◌, ◌++◌}
use mathlib.Core.Bool.{and-false}
use Prim.Native.Nat.{ℕ, suc, ◌+◌, ◌-◌, ◌≤◌, ◌<◌, min, max}
use native.Mathlib.Omega.{arith}
use native.Mathlib.Nat.{le_refl, le_trans, add-le-add, min-le_left}
use lib.ListN.{length, take, drop, set, length-append, length-replicate, replicate-append-replicate, length-take}
use lib.Seq.{slice, sets, drop-nil, take-nil, drop_at, take_at, take_all, take-length}
use lib.Dec.{ltb, leb}
use borrow.Author.Tests.{ltb-true, ltb-false, leb-true, leb-false}
use Rattle.text.specs.Ink.{spaces}
use Rattle.text.proofs.Choices.{by_test}
use Rattle.text.proofs.Parts.{part_slice}
use Rattle.join.specs.Sinks.{puts, puts_writes, Room}
use Rattle.join.specs.Walk.{step_bytes, step_length}
use Rattle.join.specs.declared.piece.Step.{Step}
use Rattle.join.specs.declared.sink.Window.{Window}

-- bytes at a place of a line, written through a window, are one run: the part that the window shows
pub puts_slice : (text : List ℕ) (window : Window) (at : ℕ) (bytes : List ℕ)
    → puts window text at bytes ≡ sets text (window.base + (at - window.low)) (slice (window.low - at) (window.high - at) bytes)
unfolding puts
puts_slice text window at [] = rw (take-nil {A = ℕ} (window.high - at), drop-nil {A = ℕ} (window.low - at))
puts_slice text window at (b ∷ bytes) =
    by_test (ltb at window.high)
    (λ before.
    let below = ltb-true at window.high before in
    let to : window.high - at ≡ suc (window.high - (at + 1)) = omega arith in
    by_test (leb window.low at)
    (λ inside.
    let above = leb-true window.low at inside in
    let from : window.low - at ≡ 0 = omega arith in
    let from_next : window.low - (at + 1) ≡ 0 = omega arith in
    let next : window.base + (at + 1 - window.low) ≡ suc (window.base + (at - window.low)) = omega arith in
    rw (inside, before) (puts_slice (set text (window.base + (at - window.low)) b) window (at + 1) bytes ∙ rw (to, from, from_next, next)))
    (λ outside.
    let above = leb-false window.low at outside in
    let from : window.low - at ≡ suc (window.low - (at + 1)) = omega arith in
    let next : at + 1 - window.low ≡ at - window.low = omega arith in
    rw outside (puts_slice text window (at + 1) bytes ∙ rw (to, from, next))))
    (λ behind.
    let above = ltb-false at window.high behind in
    let to : window.high - at ≡ 0 = omega arith in
    let to_next : window.high - (at + 1) ≡ 0 = omega arith in
    rw (behind, and-false (leb window.low at))
    (puts_slice text window (at + 1) bytes ∙ rw (to, to_next, drop-nil {A = ℕ} (window.low - at), drop-nil {A = ℕ} (window.low - (at + 1)))))

-- no more is taken than there is
take_clipped : (n : ℕ) (bytes : List ℕ) → take (min n (length bytes)) bytes ≡ take n bytes
take_clipped n bytes =
    by_test (leb n (length bytes))
    (λ q. let some : min n (length bytes) ≡ n = omega (arith, leb-true n (length bytes) q) in rw some)
    (λ q. let all : min n (length bytes) ≡ length bytes = omega (arith, leb-false n (length bytes) q) in
    rw (all, take-length bytes) (sym (take_all n bytes (omega (arith, leb-false n (length bytes) q)))))

-- a part of spaces is spaces
spaces_part : (from count n : ℕ) → from + count ≤ n → take count (drop from (spaces n)) ≡ spaces count
spaces_part from count n within =
    let rest = n - (from + count) in
    let parts : n ≡ from + (count + rest) = omega arith in
    let split : spaces n ≡ spaces from ++ (spaces count ++ spaces rest) =
    ap (λ (k : ℕ). spaces k) parts ∙ sym (rw (replicate-append-replicate {A = ℕ} count rest 32) (replicate-append-replicate {A = ℕ} from (count + rest) 32)) in
    rw (split, drop_at (spaces from) (spaces count ++ spaces rest) from (length-replicate from 32)) (take_at (spaces count) (spaces rest) count (length-replicate count 32))

-- how far the later of two places is behind each
later : (at low from : ℕ) → from ≡ max at low → (from - low ≡ at - low) × (from - at ≡ low - at)
later at low from first = (omega arith, omega arith)

-- how many bytes a part has
part_count : (at from to : ℕ) → at ≤ from → to - at - (from - at) ≡ to - from
part_count at from to onward = omega arith

-- the bytes that the window shows have room
pub shown_room : (window : Window) (at n room : ℕ) {from to : ℕ} → from ≡ max at window.low → to ≡ min n window.high → from < to → Room window room
    → window.base + (from - window.low) + (to - from) ≤ room
shown_room window at n room first last some fits = omega arith

module _ (text : List ℕ) (window : Window) (at : ℕ) (bytes : List ℕ) {from to : ℕ} (first : from ≡ max at window.low) (last : to ≡ min (at + length bytes) window.high) where
  -- the part that the window shows, as the code counts it
  puts_part : puts window text at bytes ≡ sets text (window.base + (from - window.low)) (take (to - at - (from - at)) (drop (from - at) bytes))
  puts_part =
      let start = later at window.low from first in
      let end : to - at ≡ min (window.high - at) (length bytes) = omega arith in
      puts_slice text window at bytes ∙ rw (part_slice (from - at) (to - at) bytes, start.0, start.1, end, take_clipped (window.high - at) bytes)

  -- bytes of which the window shows none leave the text as it is
  pub puts_hidden : to ≤ from → text ≡ puts window text at bytes
  puts_hidden none =
      let nothing : to - at - (from - at) ≡ 0 = omega arith in
      sym (puts_part ∙ rw nothing)

  -- bytes of which the window shows some are stored as that part of them
  pub puts_shown : sets text (window.base + (from - window.low)) (take (to - at - (from - at)) (drop (from - at) bytes)) ≡ puts window text at bytes
  puts_shown = sym puts_part

  -- which has room
  pub part_room : from < to → Room window (length text) → window.base + (from - window.low) + length (take (to - at - (from - at)) (drop (from - at) bytes)) ≤ length text
  part_room some room =
      let part = drop (from - at) bytes in
      let count : to - at - (from - at) ≡ to - from = part_count at from to (omega arith) in
      let whole = shown_room window at (at + length bytes) (length text) first last some room in
      rw (count, length-take (to - from) part) (le_trans (add-le-add (le_refl _) (min-le_left (to - from) (length part))) whole)

-- spaces of which the window shows some are stored as so many spaces
pub spaces_shown : (text : List ℕ) (window : Window) (at count : ℕ) {from to : ℕ} → from ≡ max at window.low → to ≡ min (at + count) window.high
    → from < to → sets text (window.base + (from - window.low)) (spaces (to - from)) ≡ puts window text at (spaces count)
spaces_shown text window at count {from} {to} first last some =
    let within : from - at + (to - from) ≤ count = omega arith in
    rw (← (spaces_part (from - at) (to - from) count within), ← (part_count at from to (omega arith)))
    (puts_shown text window at (spaces count) first (rw (length-replicate {A = ℕ} count 32) last))

-- ---- a step

-- how many bytes a step has
pub step_count : (step : Step) → length (step_bytes step) ≡ step_length step
step_count step = simp (length-append, length-replicate) (omega arith)

-- its spaces before, its text and its spaces behind, written one behind the other
pub puts_step : (text : List ℕ) (window : Window) (at : ℕ) (step : Step) {padded laid written : List ℕ}
    → padded ≡ puts window text at (spaces step.before)
    → laid ≡ puts window padded (at + step.before) step.text.now
    → written ≡ puts window laid (at + step.before + length step.text.now) (spaces step.behind)
    → written ≡ puts window text at (step_bytes step)
puts_step text window at step e f g =
    let behind = (puts_writes window).more (puts window text at (spaces step.before)) (at + step.before) step.text.now (spaces step.behind) in
    rw (g, f, e)
    (sym ((puts_writes window).more text at (spaces step.before) (step.text.now ++ spaces step.behind) ∙ rw (length-replicate {A = ℕ} step.before 32) behind))
