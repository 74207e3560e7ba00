-- The parts of a record's own bytes that say how long they are, by the way that the definitions go.
use Rattle.std.specs.Prelude.{Option, Some, None}
use Rattle.std.specs.Bool.{then_some}
use mathlib.Core.Path.{◌≡◌, refl, sym, ap, ◌∙◌}
use mathlib.Core.List.{List}
use mathlib.Core.Bool.{Bool, true, false, cond}
use Prim.Native.Nat.{ℕ, zero, suc, ◌+◌, ◌-◌, ◌≤◌, ◌<◌}
use native.Mathlib.Omega.{arith}
use native.Mathlib.Numerals.{sub-one}
use borrow.Author.Tests.{lt-ltb, le-ltb, ltb-true, ltb-false, leb-true, eqb-true, eqb-false}
use lib.Dec.{eqb, leb, ltb}
use lib.ListN.{length, get_or, take, drop}
use lib.Seq.{length-slice}
use Rattle.std.proofs.lemmas.List.{get_or-take, get_or-drop}
use Rattle.text.specs.Numbers.{read_number}
use Rattle.text.proofs.Parts.{part_slice}
use Rattle.text.proofs.Choices.{by_test}
use Rattle.tree.specs.Own.{sized_on, sized_end, trivium_end, behind, trivia_end, text_of_count, text_end}
use Rattle.tree.specs.declared.grammar.TextRule.{TextRule}
use Rattle.tree.specs.declared.grammar.TextRule.TheVariants.{NoText, Free, Byte}
use Rattle.tree.specs.Walk.{allows}

module _ (bytes : List ℕ) (at : ℕ) {number : Option ℕ} (e : number ≡ read_number bytes at) where
  -- a number that was read stands within the bytes
  pub read_inside : (count : ℕ) → number ≡ Some count → at + 2 ≤ length bytes
  read_inside count told =
      by_test (leb (at + 2) (length bytes)) (leb-true _ _) (λ t. let z : ◌≡◌ {A = ℕ} 0 1 = cc (rw t at (sym told ∙ e)) in omega arith)

-- ---- a text by the place behind it

module _ (bytes : List ℕ) (at : ℕ) where
  -- a text that stands is one of the rule's
  abbrev pub text_to : TextRule → Option ℕ → Option ℕ
  text_to rule None = None
  text_to rule (Some end) = then_some (allows rule (take (end - (at + 2)) (drop (at + 2) bytes))) end

  -- none of a choice between none and none
  none_of : (test : Bool) → cond {A = Option ℕ} test None None ≡ None
  none_of true = refl
  none_of false = refl

  -- a choice between a place and none
  chosen : (test : Bool) (place end : ℕ) → place ≡ end → cond test (Some place) None ≡ then_some test end
  chosen true place end is = rw is
  chosen false place end is = refl

  -- a text is as long as its length says
  part_length : (count : ℕ) → at + 2 + count ≤ length bytes → length (take (at + 2 + count - (at + 2)) (drop (at + 2) bytes)) ≡ count
  part_length count h =
      rw (part_slice (at + 2) (at + 2 + count) bytes) (omega (arith, length-slice (at + 2) (at + 2 + count) bytes h))

  -- a text whose bytes are not all there
  past_end : (rule : TextRule) (count : ℕ) → length bytes < at + 2 + count → text_of_count bytes at rule (Some count) ≡ None
  past_end NoText count h = none_of (eqb count 0)
  past_end Free count h = rw (lt-ltb _ _ h) (none_of (eqb count 0))
  past_end (Byte low high) count h = by_test (eqb count 1)
      (λ one. rw (eqb-true count 1 one, le-ltb (at + 2) (length bytes) (let is = eqb-true count 1 one in omega arith)))
      (λ one. rw one (none_of (eqb count 0)))

  -- a text whose bytes are
  whole_text : (rule : TextRule) (count : ℕ) → at + 2 + count ≤ length bytes
      → text_of_count bytes at rule (Some count) ≡ text_to rule (Some (at + 2 + count))
  whole_text NoText count h = none_of (eqb count 0)
  whole_text Free count h = by_test (eqb count 0)
      (λ z. rw (z, part_length count h, le-ltb 0 count (omega (arith, eqb-true count 0 z))))
      (λ z. rw (z, le-ltb (length bytes) (at + 2 + count) h, part_length count h, lt-ltb 0 count (omega (arith, eqb-false count 0 z))))
  whole_text (Byte low high) count h = by_test (eqb count 1)
      (λ one.
      let is : count ≡ 1 = eqb-true count 1 one in
      let inside : at + 2 + 1 ≤ length bytes = omega arith in
      let start : at + 2 + 0 ≡ at + 2 = omega arith in
      let first : get_or (take (at + 2 + 1 - (at + 2)) (drop (at + 2) bytes)) 0 0 ≡ get_or bytes (at + 2) 0 =
      get_or-take (at + 2 + 1 - (at + 2)) (drop (at + 2) bytes) 0 0 (omega arith) ∙ rw start at (get_or-drop (at + 2) bytes 0 0) in
      rw (is, lt-ltb (at + 2) (length bytes) (omega arith), part_length 1 inside, first) (chosen _ _ _ (omega arith)))
      (λ one. rw (part_length count h, one) (none_of (eqb count 0)))

  -- by what the length reads as
  text_over : (rule : TextRule) (read : Option ℕ) → text_of_count bytes at rule read ≡ text_to rule (sized_on bytes at read)
  text_over rule None = refl
  text_over rule (Some count) = by_test (ltb (length bytes) (at + 2 + count))
      (λ t. rw t (past_end rule count (ltb-true _ _ t)))
      (λ t. rw t (whole_text rule count (ltb-false _ _ t)))

  -- what is a length and its bytes lies behind its place and within the bytes
  pub sized_inside : (end : ℕ) → sized_end bytes at ≡ Some end → (at + 2 ≤ end) × (end ≤ length bytes)
  unfolding sized_end
  sized_inside end e = inside (read_number bytes at) refl e
    where
      inside : (read : Option ℕ) → read_number bytes at ≡ read → sized_on bytes at read ≡ Some end → (at + 2 ≤ end) × (end ≤ length bytes)
      inside None is e = let z : ◌≡◌ {A = ℕ} 0 1 = cc in absurd (omega arith)
      inside (Some count) is e = by_test (ltb (length bytes) (at + 2 + count))
          (λ t. let z : ◌≡◌ {A = ℕ} 0 1 = cc (rw t at e) in absurd (omega arith))
          (λ t. let same : at + 2 + count ≡ end = cc (rw t at e) in let fits = ltb-false _ _ t in omega arith)

  -- a text is a length and its bytes that its rule allows
  pub text_sized : (rule : TextRule) → text_end bytes at rule ≡ text_to rule (sized_end bytes at)
  unfolding text_end sized_end
  text_sized rule = text_over rule (read_number bytes at)

-- ---- trivia

-- no trivia item is left
pub trivia_none : (bytes : List ℕ) (at left : ℕ) → left ≤ 0 → trivia_end bytes at left ≡ Some at
unfolding trivia_end
trivia_none bytes at zero h = refl
trivia_none bytes at (suc left) h = let z : ⊥ = omega arith in absurd z

-- a trivia item by what it reads as, and then the others
pub trivia_next : (bytes : List ℕ) (at left : ℕ) → 0 < left → {item : Option ℕ} → item ≡ trivium_end bytes at → (span : Option ℕ) → item ≡ span
    → trivia_end bytes at left ≡ behind span (λ place. trivia_end bytes place (left - 1))
unfolding trivia_end
trivia_next bytes at zero h e span told = let z : ⊥ = omega arith in absurd z
trivia_next bytes at (suc left) h e span told =
    simp sub-one (ap (λ (found : Option ℕ). behind found (λ place. trivia_end bytes place left)) (sym e ∙ told))
