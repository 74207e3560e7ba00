-- Laws of accepted texts.
use mathlib.Core.Path.{◌≡◌, refl, sym, ◌∙◌}
use mathlib.Core.List.{List, [], ◌∷◌, ◌++◌}
use mathlib.Core.Bool.{true, false, ◌&&◌}
use Prim.Native.Nat.{ℕ, zero, suc, ◌-◌, ◌≤◌, ◌<◌}
use native.Mathlib.Omega.{arith}
use lib.ListN.{length, take, drop, take-append-drop, length-take, length-drop}
use lib.Seq.{slice}
use Rattle.text.specs.Ink.{spaces}
use Rattle.text.specs.Accepted.{accepted_byte, accepted_text, fault_at}
use Rattle.text.proofs.Choices.{by_test, true_false, and_true_left, and_true_right}

-- two texts end to end are accepted where each is
pub accepted_append : (xs ys : List ℕ) → accepted_text (xs ++ ys) ≡ (accepted_text xs && accepted_text ys)
unfolding accepted_text
accepted_append [] ys = refl
accepted_append (x ∷ xs) ys = by_test (accepted_byte x) (λ q. rw q (accepted_append xs ys)) (λ q. rw q)

-- spaces are accepted
pub accepted_spaces : (n : ℕ) → accepted_text (spaces n) ≡ true
unfolding accepted_text accepted_byte
accepted_spaces zero = refl
accepted_spaces (suc n) = accepted_spaces n

-- an accepted text has no fault before its end
pub fault_none : (xs : List ℕ) → accepted_text xs ≡ true → fault_at xs ≡ length xs
unfolding accepted_text fault_at
fault_none [] e = refl
fault_none (x ∷ xs) e = by_test (accepted_byte x) (λ q. rw q (omega (arith, fault_none xs (rw q at e)))) (λ q. true_false (sym (rw q at e)))

-- a text that is not accepted has one
pub fault_some : (xs : List ℕ) → accepted_text xs ≡ false → fault_at xs < length xs
unfolding accepted_text fault_at
fault_some [] e = true_false e
fault_some (x ∷ xs) e = by_test (accepted_byte x) (λ q. rw q (omega (arith, fault_some xs (rw q at e)))) (λ q. rw q (omega arith))

-- a text with no fault before its end is accepted
pub fault_accepted : (xs : List ℕ) → fault_at xs ≡ length xs → accepted_text xs ≡ true
fault_accepted xs e = by_test (accepted_text xs) (λ q. q) (λ q. absurd (omega (arith, fault_some xs q)))

-- the first byte that is not accepted stands within the text, or at its end where all are
pub fault_within : (text : List ℕ) → fault_at text ≤ length text
fault_within text = by_test (accepted_text text) (λ t. omega (arith, fault_none text t)) (λ t. omega (arith, fault_some text t))

-- so does that of a part, as the code takes one
pub fault_part : (from to : ℕ) (list : List ℕ) → to ≤ length list → fault_at (take (to - from) (drop from list)) ≤ to - from
fault_part from to list within =
    let size : length (take (to - from) (drop from list)) ≡ to - from = simp (length-take, length-drop) (omega arith) in
    omega (arith, fault_within (take (to - from) (drop from list)), size)

-- a part of an accepted text is accepted
pub accepted_part : (from to : ℕ) (text : List ℕ) → accepted_text text ≡ true → accepted_text (slice from to text) ≡ true
accepted_part from to text e =
    let front = accepted_append (take to text) (drop to text) in
    let left : accepted_text (take to text) ≡ true = and_true_left _ _ (sym front ∙ rw (take-append-drop to text) e) in
    let back = accepted_append (take from (take to text)) (slice from to text) in
    and_true_right (accepted_text (take from (take to text))) _ (sym back ∙ rw (take-append-drop from (take to text)) left)
