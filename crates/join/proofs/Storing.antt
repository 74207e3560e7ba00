-- Runs that are stored one behind the other.
use mathlib.Core.Path.{◌≡◌, refl, sym, ap, ◌∙◌}
use mathlib.Core.List.{List, [], ◌∷◌, ◌++◌}
use Prim.Native.Nat.{ℕ, suc, ◌+◌, ◌-◌, ◌*◌, ◌/◌, ◌≤◌, ◌<◌}
use native.Mathlib.Omega.{arith}
use lib.ListN.{length, get_or, take, drop, set, take-append-drop, length-replicate}
use lib.Seq.{slice, sets, sets-eq, length-sets, length-slice, length-take-le, take_all, take-take, take-set-le, drop-set-lt}
use Rattle.std.proofs.lemmas.Slice.{take-put_mid, drop-put_mid}
use borrow.Rule.Slice.PartMut.{put_mid}
use Rattle.text.specs.Ink.{spaces}
use Rattle.text.proofs.Parts.{part_slice}
use Rattle.text.proofs.Buffers.{sets_append}
use Rattle.join.specs.Sinks.{puts}
use Rattle.join.specs.Walk.{step_bytes, step_length}
use Rattle.join.specs.declared.piece.Step.{Step}
use Rattle.join.specs.declared.sink.Window.{Window}
use Rattle.join.proofs.Pieces.{slice_one}
use Rattle.join.proofs.Windows.{puts_slice, step_count}

-- ---- runs that are stored one over the other

-- what stands before a run is left
take_sets : (bytes text : List ℕ) (at n : ℕ) → n ≤ at → take n (sets text at bytes) ≡ take n text
take_sets [] text at n before = refl
take_sets (b ∷ bytes) text at n before = take_sets bytes (set text at b) (suc at) n (omega arith) ∙ take-set-le n text at b before

-- what stands behind it too
drop_sets : (bytes text : List ℕ) (at n : ℕ) → at + length bytes ≤ n → drop n (sets text at bytes) ≡ drop n text
drop_sets [] text at n behind = refl
drop_sets (b ∷ bytes) text at n behind = drop_sets bytes (set text at b) (suc at) n (omega arith) ∙ drop-set-lt n text at b (omega arith)

-- a run over a shorter one
sets_again : (text short long : List ℕ) (at : ℕ) → length short ≤ length long → at + length long ≤ length text → sets (sets text at short) at long ≡ sets text at long
sets_again text short long at shorter room =
    let behind = at + length long in
    sets-eq long (sets text at short) at (omega (arith, length-sets text at short))
    ∙ rw (take_sets short text at at (omega arith), drop_sets short text at behind (omega arith)) (sym (sets-eq long text at room))

-- the front of a run, by a place in it
front_parts : (bytes : List ℕ) (k n : ℕ) → k ≤ n → take n bytes ≡ take k bytes ++ slice k n bytes
front_parts bytes k n within = sym (rw (← (take-take k n bytes within)) (take-append-drop k (take n bytes)))

-- the front of a run, and over its end or behind it the bytes up to a later place: the front up to there
pub sets_on : (text bytes : List ℕ) (place k m n : ℕ) → k ≤ m → m ≤ n → n ≤ length bytes → place + n ≤ length text
    → sets (sets text place (take m bytes)) (place + k) (slice k n bytes) ≡ sets text place (take n bytes)
sets_on text bytes place k m n over onward inside room =
    let front = take k bytes in
    let base = sets text place front in
    let count : length front ≡ k = length-take-le k bytes (omega arith) in
    let short : sets text place (take m bytes) ≡ sets base (place + k) (slice k m bytes) =
    ap (sets text place) (front_parts bytes k m over) ∙ sets_append text place front (slice k m bytes) ∙ ap (λ (x : ℕ). sets base (place + x) (slice k m bytes)) count in
    let long : sets text place (take n bytes) ≡ sets base (place + k) (slice k n bytes) =
    ap (sets text place) (front_parts bytes k n (omega arith)) ∙ sets_append text place front (slice k n bytes) ∙ ap (λ (x : ℕ). sets base (place + x) (slice k n bytes)) count in
    let shorter : length (slice k m bytes) ≤ length (slice k n bytes) = omega (arith, length-slice k m bytes (omega arith), length-slice k n bytes inside) in
    let fits : place + k + length (slice k n bytes) ≤ length base = omega (arith, length-slice k n bytes inside, length-sets text place front) in
    ap (λ (d : List ℕ). sets d (place + k) (slice k n bytes)) short ∙ sets_again base (slice k m bytes) (slice k n bytes) (place + k) shorter fits ∙ sym long

-- all of a run
pub sets_rest : (text bytes : List ℕ) (place k m n : ℕ) → k ≤ m → m ≤ n → n ≡ length bytes → place + n ≤ length text
    → sets (sets text place (take m bytes)) (place + k) (slice k n bytes) ≡ sets text place bytes
sets_rest text bytes place k m n over onward all room =
    sets_on text bytes place k m n over onward (omega arith) room ∙ ap (sets text place) (take_all n bytes (omega arith))

-- one byte more
set_on : (text bytes : List ℕ) (place k m n : ℕ) → k ≤ m → m ≤ n → n ≡ k + 1 → n ≤ length bytes → place + n ≤ length text
    → set (sets text place (take m bytes)) (place + k) (get_or bytes k 0) ≡ sets text place (take n bytes)
set_on text bytes place k m n over onward next inside room =
    sym (ap (sets (sets text place (take m bytes)) (place + k)) (slice_one k n bytes (omega arith) inside)) ∙ sets_on text bytes place k m n over onward inside room

-- ---- a few bytes, stored one by one

-- a run without bytes
pub sets_none : (text bytes : List ℕ) (place : ℕ) → length bytes ≡ 0 → text ≡ sets text place bytes
sets_none text [] place none = refl
sets_none text (b ∷ bytes) place none = absurd (omega arith)

-- the first byte
set_first : (text bytes : List ℕ) (place : ℕ) → 0 < length bytes → set text place (get_or bytes 0 0) ≡ sets text place (take 1 bytes)
set_first text [] place some = absurd (omega arith)
set_first text (b ∷ bytes) place some = refl

-- the first, the middle and the last of at most three
pub few_stored : (text bytes : List ℕ) (place : ℕ) → 0 < length bytes → length bytes < 4 → place + length bytes ≤ length text
    → set (set (set text place (get_or bytes 0 0)) (place + length bytes / 2) (get_or bytes (length bytes / 2) 0)) (place + (length bytes - 1)) (get_or bytes (length bytes - 1) 0)
    ≡ sets text place bytes
few_stored text bytes place some few room =
    let middle = length bytes / 2 in
    let last = length bytes - 1 in
    rw (
      set_first text bytes place some,
      set_on text bytes place middle 1 (middle + 1) (omega arith) (omega arith) refl (omega arith) (omega arith),
      set_on text bytes place last (middle + 1) (last + 1) (omega arith) (omega arith) refl (omega arith) (omega arith),
    ) (ap (sets text place) (take_all (last + 1) bytes (omega arith)))

-- ---- parts

-- a part of a text that was written over is a run stored in it
pub part_stored : (text bytes : List ℕ) (place count : ℕ) {part : List ℕ} → part ≡ bytes → count ≡ length bytes → place + length bytes ≤ length text
    → put_mid place count text part ≡ sets text place bytes
part_stored text bytes place count {part} same size room =
    let n = place + length bytes in
    let whole : put_mid place count text bytes ≡ sets text place bytes =
    sym (take-append-drop n (put_mid place count text bytes))
    ∙ rw (
      take-put_mid place count text bytes n refl (omega arith),
      drop-put_mid place count text bytes n (omega arith) (omega arith) (sym size),
      sets-eq bytes text place room,
    ) in
    rw same whole

-- the first bytes and the last ones, which meet or overlap, are all of them
pub ends_stored : (text bytes : List ℕ) (place n : ℕ) {front back : List ℕ} → n ≤ length bytes → length bytes ≤ 2 * n → place + length bytes ≤ length text
    → front ≡ take n bytes → back ≡ take (length bytes - n + n - (length bytes - n)) (drop (length bytes - n) bytes)
    → put_mid (place + (length bytes - n)) (place + (length bytes - n) + n - (place + (length bytes - n))) (put_mid place (place + n - place) text front) back
    ≡ sets text place bytes
ends_stored text bytes place n {front} {back} some few room first last =
    let start = length bytes - n in
    let end : start + n ≡ length bytes = omega arith in
    let tail : back ≡ slice start (start + n) bytes = last ∙ part_slice start (start + n) bytes in
    let count : length (take n bytes) ≡ n = length-take-le n bytes some in
    let count' : length (slice start (start + n) bytes) ≡ n = omega (arith, length-slice start (start + n) bytes (omega arith)) in
    let base : put_mid place (place + n - place) text front ≡ sets text place (take n bytes) = part_stored text (take n bytes) place (place + n - place) first (omega arith) (omega arith) in
    let long = length-sets text place (take n bytes) in
    rw base (part_stored (sets text place (take n bytes)) (slice start (start + n) bytes) (place + start) (place + start + n - (place + start)) tail (omega arith) (omega arith)
    ∙ sets_rest text bytes place start n (start + n) (omega arith) (omega arith) end (omega arith))

-- the spaces before, the text and the spaces behind of a step, stored one behind the other
pub sets_step : (text : List ℕ) (place : ℕ) (step : Step) {padded laid stored : List ℕ}
    → padded ≡ sets text place (spaces step.before)
    → laid ≡ sets padded (place + step.before) step.text.now
    → stored ≡ sets laid (place + step.before + length step.text.now) (spaces step.behind)
    → stored ≡ sets text place (step_bytes step)
sets_step text place step e f g =
    let behind = sets_append (sets text place (spaces step.before)) (place + step.before) step.text.now (spaces step.behind) in
    rw (g, f, e)
    (sym (sets_append text place (spaces step.before) (step.text.now ++ spaces step.behind) ∙ rw (length-replicate {A = ℕ} step.before 32) behind))

-- bytes of which the window shows all are stored as they are
puts_all : (text : List ℕ) (window : Window) (at : ℕ) (bytes : List ℕ) → window.low ≤ at → at + length bytes ≤ window.high
    → sets text (window.base + (at - window.low)) bytes ≡ puts window text at bytes
puts_all text window at bytes before within =
    let none : window.low - at ≡ 0 = omega arith in
    sym (puts_slice text window at bytes ∙ rw (none, take_all (window.high - at) bytes (omega arith)))

-- so is a step
pub step_shown : (text : List ℕ) (window : Window) (at : ℕ) (step : Step) {stored : List ℕ} → window.low ≤ at → at + step_length step ≤ window.high
    → stored ≡ sets text (window.base + (at - window.low)) (step_bytes step) → stored ≡ puts window text at (step_bytes step)
step_shown text window at step before within e =
    e ∙ puts_all text window at (step_bytes step) before (omega (arith, step_count step))
