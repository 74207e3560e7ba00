-- A tree that was read without refusal, whose texts are accepted, is well formed.
--   read_formed : .. read levels bytes class at .checked ≡ no_refusal → texts_checked (read levels bytes class at .texts) ≡ no_refusal → WellFormed levels class at (read levels bytes class at .tree)
use Rattle.std.specs.Prelude.{Option, Some, None, Ok}
use Rattle.answers.specs.Numbers.{no_refusal}
use mathlib.Core.Path.{◌≡◌, refl, sym, ap, subst, ◌∙◌}
use mathlib.Core.List.{List, [], ◌∷◌, ◌++◌}
use mathlib.Core.Bool.{Bool, true, false, ◌&&◌, ◌||◌}
use mathlib.Core.Logic.{◌⊎◌, inl, inr}
use Prim.Native.Nat.{ℕ, zero, suc, ◌+◌, ◌%◌, ◌/◌, ◌≤◌, ◌<◌}
use native.Mathlib.Omega.{arith}
use lib.ListN.{length, get_or, replicate, length-append}
use lib.Dec.{eqb, ltb, leb}
use lib.Seq.{slice, slice_empty, slice-cons, length-slice}
use borrow.Author.Tests.{ltb-true, ltb-false, leb-true, leb-false, eqb-true, eqb-false, le-leb, ne_eqb}
use Rattle.answers.proofs.Cases.{failed_passed}
use Rattle.text.specs.Numbers.{two_bytes, number_at}
use Rattle.text.specs.Accepted.{accepted_text}
use Rattle.text.proofs.Choices.{by_test, true_false, and_true_left, and_true_right}
use Rattle.tree.specs.Grammar.{Slot, must, may, kind_of, kind_number, rule, fields}
use Rattle.tree.specs.Tree.{Tree, Trivium, absent, node, built}
use Rattle.tree.specs.Own.{is_list, may_stand, fields_fit, text_fits, else_fits, trivia_fits, map_fits}
use Rattle.tree.specs.Own.{trivium_end, trivia_end, behind, trivia_read, text_on, text_end, rest_of, leaf_on, own_of, read_own}
use Rattle.tree.specs.Reading.{Placed, trivium_behind, trivium_text, trivia_from, text_of, trivia_texts, texts_of, Due, due, slot_class, fields_due, parts_due, Reading, read_parts, record_of, read}
use Rattle.tree.specs.Stored.{stored_trivium, stored_items, stored_trivia, stored_with, stored}
use Rattle.tree.specs.Checking.{texts_checked}
use Rattle.tree.specs.declared.grammar.Kind.{Kind}
use Rattle.tree.specs.declared.grammar.Kind.TheVariants as variant
use Rattle.tree.specs.declared.grammar.Class.{Class}
use Rattle.tree.specs.declared.grammar.Rule.{Rule}
use Rattle.tree.specs.declared.grammar.TextRule.{TextRule}
use Rattle.tree.specs.declared.grammar.TextRule.TheVariants.{NoText, Free, Byte}
use Rattle.tree.specs.declared.own.Own.{Own}
use Rattle.tree.specs.declared.own.TriviaSpan.{TriviaSpan}
use Rattle.tree.proofs.Cases.{by_choice, refused_record_lem, broken_behind, both_passed}
use Rattle.tree.proofs.KindLayout.{kind_number_lem}
use Rattle.tree.proofs.OwnBytes.{TextHeld, Headed, leaf_number, text_held, item_held, items_held, trivia_cases, own_cases, leaf_other}
use Rattle.tree.proofs.Readings.{every_reading}
use Rattle.tree.proofs.RoundTrip.{round_trip}
use Rattle.tree_laws.specs.WellFormed.{TriviumFits, EachFits, TriviaFit, TextFits, FieldsFit, ItemsFit, Within, ElseFits, Formed, WellFormed}
use Rattle.tree_laws.specs.WellFormed as well
use Rattle.tree_laws.specs.Correspondence.{AllBytes}
use Rattle.tree_laws.proofs.Heads.{own_read}
use Rattle.tree_laws.proofs.ReadBack.{only_fields}

-- where a text and those behind it are accepted, each is
texts_one : (text : Placed) (texts : List Placed) → texts_checked (text ∷ texts) ≡ no_refusal → (accepted_text text.bytes ≡ true) × (texts_checked texts ≡ no_refusal)
unfolding texts_checked
texts_one text texts e = by_choice (accepted_text text.bytes) _ _ no_refusal e (λ q f. (q, f)) (λ q f. failed_passed f)

-- and of two lists both are
texts_apart : (first second : List Placed) → texts_checked (first ++ second) ≡ no_refusal → (texts_checked first ≡ no_refusal) × (texts_checked second ≡ no_refusal)
unfolding texts_checked
texts_apart [] second e = (refl, e)
texts_apart (text ∷ first) second e =
    let one = texts_one text (first ++ second) e in
    let rest = texts_apart first second one.1 in
    (rw one.0 rest.0, rest.1)

-- of trivia items that were read the first was
first_read : (bytes : List ℕ) (at count end : ℕ) → trivia_end bytes at (suc count) ≡ Some end → (place : ℕ) × (trivium_end bytes at ≡ Some place)
unfolding trivia_end
first_read bytes at count end e = go (trivium_end bytes at) refl e
  where
    go : (span : Option ℕ) → trivium_end bytes at ≡ span → behind span (λ place. trivia_end bytes place count) ≡ Some end → (place : ℕ) × (trivium_end bytes at ≡ Some place)
    go (Some place) is f = (place, is)
    go None is f = broken_behind f

-- trivia that are not none have two bytes before their items
trivia_long : (items : List Trivium) → 0 < length items → length (stored_trivia items) ≡ 2 + length (stored_items items)
trivia_long [] some = absurd (omega arith)
trivia_long (item ∷ items) some = length-append (two_bytes (length (item ∷ items))) (stored_items (item ∷ items))

module _ (bytes : List ℕ) (small : AllBytes bytes) where
  -- a two-byte number
  number_small : (at : ℕ) → number_at bytes at ≤ 65535
  number_small at = omega (arith, small at, small (at + 1))

  -- ---- trivia

  -- a trivia item that was read fits, and is stored in the bytes up to the next
  item_formed : (at end : ℕ) → trivium_end bytes at ≡ Some end → accepted_text (trivium_text bytes at) ≡ true
      → TriviumFits (record { code = get_or bytes at 0; text = trivium_text bytes at })
      × (at + length (stored_trivium (record { code = get_or bytes at 0; text = trivium_text bytes at })) ≡ trivium_behind bytes at)
  unfolding trivium_end
  item_formed at end e accepted =
      let inside : trivium_behind bytes at ≤ length bytes = (item_held bytes at end e).0.inside in
      by_test (eqb (get_or bytes at 0) 1)
      (λ q.
      let one : get_or bytes at 0 ≡ 1 = eqb-true (get_or bytes at 0) 1 q in
      (record { code = omega arith; newline = λ is. rw q; long = rw q (omega arith); accepted = accepted }, rw q))
      (λ q.
      let count : ℕ = number_at bytes (at + 1) in
      let long : length (slice (at + 3) (at + 3 + count) bytes) ≡ count = length-slice (at + 3) (at + 3 + count) bytes (rw q at inside) ∙ omega arith in (
        record {
          code = by_choice (leb (length bytes) at) _ _ (Some end) e (λ z f. broken_behind f)
              (λ z f. by_choice (ltb 3 (get_or bytes at 0)) _ _ (Some end) (rw q at f) (λ high g. broken_behind g) (λ high g. ltb-false 3 (get_or bytes at 0) high));
          newline = λ is. absurd (eqb-false (get_or bytes at 0) 1 q is);
          long = rw (q, long) (number_small (at + 1));
          accepted = accepted;
        },
        rw (q, long) (omega arith),
      ))

  -- what is known of trivia items that were read, one behind the other
  record ItemsFormed (at count end : ℕ) : Type 0 where
    each : EachFits (trivia_from bytes at count)
    counted : length (trivia_from bytes at count) ≡ count
    long : at + length (stored_items (trivia_from bytes at count)) ≡ end

  -- they fit
  items_formed : (at count end : ℕ) → trivia_end bytes at count ≡ Some end → texts_checked (trivia_texts bytes at count) ≡ no_refusal → ItemsFormed at count end
  unfolding trivia_end trivia_from trivia_texts stored_items
  items_formed at zero end e accepted =
      let same : at ≡ end = cc in
      record { each = well.none; counted = refl; long = omega arith }
  items_formed at (suc count) end e accepted =
      let item : Trivium = record { code = get_or bytes at 0; text = trivium_text bytes at } in
      let behind_it : ℕ = trivium_behind bytes at in
      let texts = texts_one _ (trivia_texts bytes behind_it count) accepted in
      let first = first_read bytes at count end e in
      let one = item_formed at first.0 first.1 texts.0 in
      let rest = items_formed behind_it count end (items_held bytes at count end e).1 texts.1 in
      record {
        each = well.next one.0 rest.each;
        counted = ap suc rest.counted;
        long = omega (arith, length-append (stored_trivium item) (stored_items (trivia_from bytes behind_it count)), one.1, rest.long);
      }

  -- trivia that were read fit where they may stand, and end where the record goes on
  trivia_formed : (at bit : ℕ) (allowed : Bool) → ((bit ≡ 0 → ⊥) → allowed ≡ true) → (trivia : TriviaSpan) → trivia_read bytes at bit ≡ Some trivia
      → texts_checked (trivia_texts bytes trivia.first trivia.count) ≡ no_refusal
      → TriviaFit allowed (trivia_from bytes trivia.first trivia.count)
      × (at + length (stored_trivia (trivia_from bytes trivia.first trivia.count)) ≡ trivia.end)
  unfolding trivia_from
  trivia_formed at bit allowed may-stand =
      trivia_cases bytes at bit
      (λ (trivia : TriviaSpan).
      texts_checked (trivia_texts bytes trivia.first trivia.count) ≡ no_refusal
      → TriviaFit allowed (trivia_from bytes trivia.first trivia.count)
      × (at + length (stored_trivia (trivia_from bytes trivia.first trivia.count)) ≡ trivia.end))
      (λ without accepted. (well.without, omega arith))
      (λ end some room count is accepted.
      let items : List Trivium = trivia_from bytes (at + 2) (number_at bytes at) in
      let formed = items_formed (at + 2) (number_at bytes at) end is accepted in (
        subst (λ (allowed : Bool). TriviaFit allowed items) (sym (may-stand some)) (well.with (omega (arith, formed.counted, number_small at)) formed.each),
        omega (arith, trivia_long items (omega (arith, formed.counted)), formed.long),
      ))

  -- ---- a leaf's text

  -- a text that was read fits
  text_formed : (text-rule : TextRule) (at end : ℕ) → text_end bytes at text-rule ≡ Some end → accepted_text (slice (at + 2) end bytes) ≡ true
      → TextFits text-rule (slice (at + 2) end bytes)
  unfolding text_end
  text_formed text-rule at end e accepted =
      by_test (leb (at + 2) (length bytes))
      (λ room. by_choice (eqb (number_at bytes at) 0) _ _ (Some end) (rw room at e)
      (λ none f. broken_behind f)
      (λ none f. by_rule text-rule f accepted))
      (λ room. broken_behind (rw room at e))
    where
      by_rule : (text-rule : TextRule) → text_on bytes at text-rule (number_at bytes at) ≡ Some end → accepted_text (slice (at + 2) end bytes) ≡ true
          → TextFits text-rule (slice (at + 2) end bytes)
      by_rule NoText f accepted = broken_behind f
      by_rule Free f accepted =
          let held = text_held bytes at end text-rule e in
          let long : length (slice (at + 2) end bytes) ≤ 65535 = rw (length-slice (at + 2) end bytes held.inside) (omega (arith, number_small at)) in
          well.free long accepted
      by_rule (Byte low high) f accepted =
          let held = text_held bytes at end text-rule e in
          let byte : ℕ = get_or bytes (at + 2) 0 in
          by_choice (eqb (number_at bytes at) 1 && (ltb (at + 2) (length bytes) && (leb low byte && leb byte high))) _ _ (Some end) f
          (λ q g.
          let last : suc (at + 2) ≡ end = omega (arith, held.last, eqb-true (number_at bytes at) 1 (and_true_left (eqb (number_at bytes at) 1) _ q)) in
          let one : slice (at + 2) end bytes ≡ byte ∷ [] =
          slice-cons (at + 2) end bytes 0 (omega arith) held.inside ∙ rw (last, slice_empty end bytes) in
          let range = and_true_right (ltb (at + 2) (length bytes)) (leb low byte && leb byte high) (and_true_right (eqb (number_at bytes at) 1) _ q) in
          rw one (well.one (leb-true low byte (and_true_left (leb low byte) _ range)) (leb-true byte high (and_true_right (leb low byte) _ range)) (rw one at accepted)))
          (λ q g. broken_behind g)

-- ---- the map

-- what a map that fits tells of a record that is no list
map_told : (rule : Rule) (number : ℕ) (kind : Kind) (map : ℕ) → map_fits rule number kind map ≡ true → eqb number 24 ≡ false
    → (trivia_fits rule number map ≡ true)
    × (leaf_number number ≡ true → text_fits rule.text (map / 2) ≡ true)
    × (leaf_number number ≡ false → (else_fits number (map / 2) ≡ true) × (fields_fit (fields kind rule.value) (map / 2) ≡ true))
unfolding map_fits
map_told rule number kind map fits other =
    let whole = rw other at fits in (
      and_true_left (trivia_fits rule number map) _ whole,
      λ leaf. rw leaf at (and_true_right (trivia_fits rule number map) _ whole),
      λ leaf.
          let both = rw leaf at (and_true_right (trivia_fits rule number map) _ whole) in
          (and_true_left (else_fits number (map / 2)) _ both, and_true_right (else_fits number (map / 2)) _ both),
    )

-- where trivia stand they may
trivia_told : (rule : Rule) (number map : ℕ) → trivia_fits rule number map ≡ true → (map % 2 ≡ 0 → ⊥) → (rule.located || eqb number 26) ≡ true
trivia_told rule number map fits some = rw (ne_eqb (map % 2) 0 some) at fits

-- a kind that may stand is within the class
within_told : (class : Class) (number : ℕ) → may_stand (rule class) number ≡ true → eqb number 24 ≡ false → Within class number
within_told class number stands other =
    let both = rw other at stands in (
      leb-true _ _ (and_true_left (leb (kind_number (rule class).first) number) _ both),
      leb-true _ _ (and_true_right (leb (kind_number (rule class).first) number) _ both),
    )

-- a number that is no leaf's
leaf_told : (number : ℕ) → leaf_number number ≡ false → (eqb number 25 ≡ false) × (eqb number 26 ≡ false)
leaf_told number leaf = by_test (eqb number 25) (λ q. true_false (rw q at leaf)) (λ q. (q, rw q at leaf))

-- a number of a record with fields
other_told : (number : ℕ) → eqb number 24 ≡ false → leaf_number number ≡ false → (number < 24) ⊎ (26 < number)
other_told number list leaf =
    by_test (ltb number 24) (λ q. inl (ltb-true number 24 q))
    (λ q. inr (omega (arith, ltb-false number 24 q, eqb-false number 24 list, eqb-false number 25 (leaf_told number leaf).0, eqb-false number 26 (leaf_told number leaf).1)))

-- of a choice of tests that is true the first is where the second is not
or_left : (first second : Bool) → (first || second) ≡ true → second ≡ false → first ≡ true
or_left true second e clear = refl
or_left false second e clear = true_false (sym e ∙ clear)

-- a class of lists has a class of items
list_class_lem : (items : Option Class) → is_list items ≡ true → (item : Class) × (items ≡ Some item)
list_class_lem None e = true_false (sym e)
list_class_lem (Some item) e = (item, refl)

-- where a text's bit is clear, and that fits, no text does
no_text_fits : (text-rule : TextRule) → text_fits text-rule 0 ≡ true → TextFits text-rule []
unfolding accepted_text
no_text_fits NoText e = well.none
no_text_fits Free e = well.free {text = []} (omega arith) refl
no_text_fits (Byte low high) e = true_false (sym e)

-- where a leaf was read its text ended
leaf_end : (at : ℕ) (kind : Kind) (flags : ℕ) (trivia : TriviaSpan) (end : ℕ) (span : Option ℕ)
    → leaf_on at kind flags trivia span ≡ Ok (own_of kind flags trivia (trivia.end + 2) end 0) → span ≡ Some end
leaf_end at kind flags trivia end (Some last) e =
    let same : own_of kind flags trivia (trivia.end + 2) last 0 ≡ own_of kind flags trivia (trivia.end + 2) end 0 = cc in
    rw (ap (λ (own : Own). own.end) same)
leaf_end at kind flags trivia end None e = refused_record_lem e

-- the bits from a place on
abbrev bits_from : ℕ → ℕ → ℕ
bits_from zero bits = bits
bits_from (suc place) bits = bits_from place (bits / 2)

-- the bits of an `If` that fit are those of parts that stand together
else_told : (number : ℕ) (kind : Kind) (bits : ℕ) → kind_of number ≡ Some kind → else_fits number bits ≡ true → kind ≡ variant.If → bits_from 3 bits % 2 ≡ bits_from 4 bits % 2
else_told number kind bits known fits is =
    let ten : number ≡ 10 = sym (kind_number_lem number kind known) ∙ rw is (kind_number_lem 10 variant.If refl) in
    let same : bits / 8 % 2 ≡ bits / 16 % 2 = eqb-true (bits / 8 % 2) (bits / 16 % 2) (rw ten at fits) in
    let eighth : bits / 2 / 2 / 2 ≡ bits / 8 = omega arith in
    let sixteenth : bits / 2 / 2 / 2 / 2 ≡ bits / 16 = omega arith in
    rw (sixteenth, eighth) same

-- the accepted texts of a record: those of its trivia, its own and those of its parts
record OwnTexts (bytes : List ℕ) (own : Own) (rest : List Placed) : Type 0 where
  trivia : texts_checked (trivia_texts bytes own.trivia own.trivia_count) ≡ no_refusal
  text : accepted_text (text_of bytes own) ≡ true
  parts : texts_checked rest ≡ no_refusal

-- where all are accepted, each is
own_texts : (bytes : List ℕ) (own : Own) (rest : List Placed) → texts_checked (texts_of bytes own ++ rest) ≡ no_refusal → OwnTexts bytes own rest
own_texts bytes own rest e =
    let both = texts_apart (texts_of bytes own) rest e in
    let mine = texts_apart (trivia_texts bytes own.trivia own.trivia_count) _ both.0 in
    record { trivia = mine.0; text = (texts_one _ [] mine.1).0; parts = both.1 }

-- what is said of a reading
abbrev FormedRead : ℕ → Class → ℕ → Reading → Type 0
FormedRead levels class at reading = reading.checked ≡ no_refusal → texts_checked reading.texts ≡ no_refusal → WellFormed levels class at reading.tree

-- what bits that fit fields tell of the first: those behind it fit, and where its bit is clear it may be left out
field_told : (slot : Slot) (slots : List Slot) (bits : ℕ) → fields_fit (slot ∷ slots) bits ≡ true
    → (fields_fit slots (bits / 2) ≡ true) × (eqb (bits % 2) 1 ≡ false → (class : Class) × (slot ≡ may class))
unfolding fields_fit
field_told (must class) slots bits fits = (and_true_right (eqb (bits % 2) 1) (fields_fit slots (bits / 2)) fits, λ clear. true_false (sym (rw clear at fits)))
field_told (may class) slots bits fits = (fits, λ clear. (class, refl))

module _ (bytes : List ℕ) (small : AllBytes bytes) (levels : ℕ) (below : (class : Class) (at : ℕ) → FormedRead levels class at (read levels bytes class at)) where
  -- where a part that was read ends
  part_end : (class : Class) (at : ℕ) → (read levels bytes class at).checked ≡ no_refusal
      → (at + length (stored (read levels bytes class at).tree) ≡ (read levels bytes class at).end) × (at < (read levels bytes class at).end)
  part_end class at passed =
      let laid = round_trip levels bytes small class at passed in
      let end : ℕ = (read levels bytes class at).end in
      (rw (laid.0, length-slice at end bytes laid.2) (omega (arith, laid.1)), laid.1)

  -- fields that were read fit
  fields_formed : (slots : List Slot) (bits at : ℕ) → fields_fit slots bits ≡ true → (read_parts (read levels bytes) (fields_due slots bits) at).checked ≡ no_refusal
      → texts_checked (read_parts (read levels bytes) (fields_due slots bits) at).texts ≡ no_refusal
      → FieldsFit (WellFormed levels) slots at (read_parts (read levels bytes) (fields_due slots bits) at).trees
  unfolding read_parts fields_due
  fields_formed [] bits at fits passed accepted = well.none
  fields_formed (slot ∷ slots) bits at fits passed accepted =
      let told = field_told slot slots bits fits in
      by_test (eqb (bits % 2) 1)
      (λ q.
      let class : Class = slot_class slot in
      let next : ℕ = (read levels bytes class at).end in
      let rest : List Due = fields_due slots (bits / 2) in
      let both = both_passed (read levels bytes class at).checked (read_parts (read levels bytes) rest next).checked (rw q at passed) in
      let texts = texts_apart (read levels bytes class at).texts (read_parts (read levels bytes) rest next).texts (rw q at accepted) in
      let others : FieldsFit (WellFormed levels) slots (at + length (stored (read levels bytes class at).tree)) (read_parts (read levels bytes) rest next).trees =
      rw (part_end class at both.0).0 (fields_formed slots (bits / 2) next told.0 both.1 texts.1) in
      rw q (well.standing (below class at both.0 texts.0) others))
      (λ q.
      rw (q, (told.1 q).1) (well.left_out (fields_formed slots (bits / 2) at told.0 (rw q at passed) (rw q at accepted))))

  -- a field is left out where its bit is clear
  left_out : (slots : List Slot) (bits at place : ℕ) → bits_from place bits % 2 ≡ 0 → get_or (read_parts (read levels bytes) (fields_due slots bits) at).trees place absent ≡ absent
  unfolding read_parts fields_due
  left_out [] bits at place clear = refl
  left_out (slot ∷ slots) bits at zero clear = rw clear
  left_out (slot ∷ slots) bits at (suc place) clear =
      by_test (eqb (bits % 2) 1)
      (λ q. rw q (left_out slots (bits / 2) (read levels bytes (slot_class slot) at).end place clear))
      (λ q. rw q (left_out slots (bits / 2) at place clear))

  -- and only there
  only_clear : (slots : List Slot) (bits at place : ℕ) → place < length slots → (read_parts (read levels bytes) (fields_due slots bits) at).checked ≡ no_refusal
      → get_or (read_parts (read levels bytes) (fields_due slots bits) at).trees place absent ≡ absent → bits_from place bits % 2 ≡ 0
  unfolding read_parts fields_due stored_with
  only_clear [] bits at place inside passed is = absurd (omega arith)
  only_clear (slot ∷ slots) bits at zero inside passed is =
      by_test (eqb (bits % 2) 1)
      (λ q.
      let class : Class = slot_class slot in
      let next : ℕ = (read levels bytes class at).end in
      let end = part_end class at (both_passed (read levels bytes class at).checked (read_parts (read levels bytes) (fields_due slots (bits / 2)) next).checked (rw q at passed)).0 in
      let left : (read levels bytes class at).tree ≡ absent = rw q at is in
      let here : at + 0 ≡ next = rw left at end.0 in
      absurd (omega (arith, end.1)))
      (λ q. omega (arith, eqb-false (bits % 2) 1 q))
  only_clear (slot ∷ slots) bits at (suc place) inside passed is =
      by_test (eqb (bits % 2) 1)
      (λ q.
      let class : Class = slot_class slot in
      let next : ℕ = (read levels bytes class at).end in
      only_clear slots (bits / 2) next place (omega arith)
      (both_passed (read levels bytes class at).checked (read_parts (read levels bytes) (fields_due slots (bits / 2)) next).checked (rw q at passed)).1 (rw q at is))
      (λ q. only_clear slots (bits / 2) at place (omega arith) (rw q at passed) (rw q at is))

  -- `tag_else` and `else_` that were read stand together
  else_formed : (number : ℕ) (kind : Kind) (value : Class) (bits at : ℕ) → kind_of number ≡ Some kind → else_fits number bits ≡ true
      → (read_parts (read levels bytes) (fields_due (fields kind value) bits) at).checked ≡ no_refusal
      → ElseFits kind (read_parts (read levels bytes) (fields_due (fields kind value) bits) at).trees
  else_formed number kind value bits at known fits passed is =
      let slots : List Slot = fields kind value in
      let same = else_told number kind bits known fits is in
      let five : length slots ≡ 5 = rw is in (
        λ left. left_out slots bits at 4 (sym same ∙ only_clear slots bits at 3 (omega arith) passed left),
        λ left. left_out slots bits at 3 (same ∙ only_clear slots bits at 4 (omega arith) passed left),
      )

  -- items that were read fit
  list_formed : (class : Class) (count at : ℕ) → (read_parts (read levels bytes) (replicate count (due class)) at).checked ≡ no_refusal
      → texts_checked (read_parts (read levels bytes) (replicate count (due class)) at).texts ≡ no_refusal
      → ItemsFit (WellFormed levels) class at (read_parts (read levels bytes) (replicate count (due class)) at).trees
      × (length (read_parts (read levels bytes) (replicate count (due class)) at).trees ≡ count)
  unfolding read_parts
  list_formed class zero at passed accepted = (well.none, refl)
  list_formed class (suc count) at passed accepted =
      let next : ℕ = (read levels bytes class at).end in
      let rest : List Due = replicate count (due class) in
      let both = both_passed (read levels bytes class at).checked (read_parts (read levels bytes) rest next).checked passed in
      let texts = texts_apart (read levels bytes class at).texts (read_parts (read levels bytes) rest next).texts accepted in
      let others = list_formed class count next both.1 texts.1 in
      let fit : ItemsFit (WellFormed levels) class (at + length (stored (read levels bytes class at).tree)) (read_parts (read levels bytes) rest next).trees =
      rw (part_end class at both.0).0 others.0 in
      (well.next (below class at both.0 texts.0) fit, ap suc others.1)

  -- ---- a record

  module _ (class : Class) (at : ℕ) where
    -- what is said of a record of own bytes that were read
    abbrev FormedOwn : Own → Type 0
    FormedOwn own =
        read_own bytes at class (suc levels) ≡ Ok own → (read_parts (read levels bytes) (parts_due class own) own.end).checked ≡ no_refusal
        → OwnTexts bytes own (read_parts (read levels bytes) (parts_due class own) own.end).texts
        → WellFormed (suc levels) class at (record_of bytes at own (read_parts (read levels bytes) (parts_due class own) own.end)).tree

    -- a list
    list_own : (kind : Kind) (trivia : TriviaSpan) → Headed bytes at class kind trivia → get_or bytes at 0 ≡ 24 → trivia.end + 2 ≤ length bytes
        → FormedOwn (own_of kind (get_or bytes (at + 1) 0) trivia (trivia.end + 2) (trivia.end + 2) (number_at bytes trivia.end))
    unfolding WellFormed parts_due fields_due built map_fits trivia_from trivia_read
    list_own kind trivia headed is room own passed texts =
        let known : kind_of 24 ≡ Some kind = rw is at headed.kind_is in
        let same : kind ≡ variant.Vec = cc in
        let empty : get_or bytes (at + 1) 0 ≡ 0 = eqb-true (get_or bytes (at + 1) 0) 0 (rw is at headed.fits) in
        let none : Some (record { first = at + 2; count = 0; end = at + 2 }) ≡ Some trivia = rw empty at headed.trivia_is in
        let no_items : trivia.count ≡ 0 = cc in
        let last : trivia.end ≡ at + 2 = cc in
        let listed = list_class_lem (rule class).items (rw is at headed.standing) in
        let count : ℕ = number_at bytes trivia.end in
        let items = list_formed listed.0 count (trivia.end + 2) (rw (same, listed.1) at passed) (rw (same, listed.1) at texts.parts) in
        let trees : List Tree = (read_parts (read levels bytes) (replicate count (due listed.0)) (trivia.end + 2)).trees in
        let few : length trees ≤ 65535 = rw items.1 (number_small bytes small trivia.end) in
        let behind_count : trivia.end + 2 ≡ at + 4 = omega arith in
        let fit : ItemsFit (WellFormed levels) listed.0 (at + 4) trees = subst (λ (place : ℕ). ItemsFit (WellFormed levels) listed.0 place trees) behind_count items.0 in
        rw (same, no_items, listed.1) (well.list listed.1 few fit)

    -- a leaf or path item whose text fits
    leaf_formed : (kind : Kind) (trivia : TriviaSpan) (text : List ℕ) (parts : List Tree) → Headed bytes at class kind trivia → leaf_number (get_or bytes at 0) ≡ true
        → texts_checked (trivia_texts bytes trivia.first trivia.count) ≡ no_refusal → TextFits (rule class).text text
        → Formed (WellFormed levels) class at (node at (trivia_from bytes trivia.first trivia.count) (built kind text parts))
    unfolding built
    leaf_formed kind trivia text parts headed leaf accepted fits =
        let number : ℕ = get_or bytes at 0 in
        let flags : ℕ = get_or bytes (at + 1) 0 in
        let other = leaf_other number leaf in
        let told = map_told (rule class) number kind flags headed.fits other in
        let within = within_told class number headed.standing other in
        by_test (eqb number 25)
        (λ q.
        let is : number ≡ 25 = eqb-true number 25 q in
        let known : kind_of 25 ≡ Some kind = rw is at headed.kind_is in
        let same : kind ≡ variant.Leaf = cc in
        let trivia_fit = trivia_formed bytes small (at + 2) (flags % 2) (rule class).located
        (λ some. or_left (rule class).located (eqb number 26) (trivia_told (rule class) number flags told.0 some) (rw is)) trivia headed.trivia_is accepted in
        rw same (well.leaf (rw is at within) trivia_fit.0 fits))
        (λ q.
        let is : number ≡ 26 = eqb-true number 26 (rw q at leaf) in
        let known : kind_of 26 ≡ Some kind = rw is at headed.kind_is in
        let same : kind ≡ variant.PathItem = cc in
        rw same (well.path (rw is at within) (trivia_formed bytes small (at + 2) (flags % 2) true (λ some. refl) trivia headed.trivia_is accepted).0 fits))

    -- a leaf with its text
    text_own : (kind : Kind) (trivia : TriviaSpan) (end : ℕ) → Headed bytes at class kind trivia → leaf_number (get_or bytes at 0) ≡ true
        → 2 ≤ get_or bytes (at + 1) 0 → TextHeld bytes trivia.end end
        → FormedOwn (own_of kind (get_or bytes (at + 1) 0) trivia (trivia.end + 2) end 0)
    unfolding WellFormed rest_of
    text_own kind trivia end headed leaf high held own passed texts =
        let number : ℕ = get_or bytes at 0 in
        let flags : ℕ = get_or bytes (at + 1) 0 in
        let rest = rw (leaf_other number leaf, leaf, le-leb 2 flags high) at (sym (own_read levels headed) ∙ own) in
        let is : text_end bytes trivia.end (rule class).text ≡ Some end = leaf_end at kind flags trivia end (text_end bytes trivia.end (rule class).text) rest in
        leaf_formed kind trivia (slice (trivia.end + 2) end bytes) _ headed leaf texts.trivia (text_formed bytes small (rule class).text trivia.end end is texts.text)

    -- a record with fields
    fielded_own : (kind : Kind) (trivia : TriviaSpan) → Headed bytes at class kind trivia → eqb (get_or bytes at 0) 24 ≡ false → leaf_number (get_or bytes at 0) ≡ false
        → FormedOwn (own_of kind (get_or bytes (at + 1) 0) trivia trivia.end trivia.end 0)
    unfolding WellFormed
    fielded_own kind trivia headed list leaf own passed texts =
        let number : ℕ = get_or bytes at 0 in
        let flags : ℕ = get_or bytes (at + 1) 0 in
        let slots : List Slot = fields kind (rule class).value in
        let told = map_told (rule class) number kind flags headed.fits list in
        let fits = told.2 leaf in
        let only = only_fields class (own_of kind flags trivia trivia.end trivia.end 0) refl in
        let passed_fields : (read_parts (read levels bytes) (fields_due slots (flags / 2)) trivia.end).checked ≡ no_refusal = rw only at passed in
        let trivia_fit = trivia_formed bytes small (at + 2) (flags % 2) (rule class).located
        (λ some. or_left (rule class).located (eqb number 26) (trivia_told (rule class) number flags told.0 some) (leaf_told number leaf).1) trivia headed.trivia_is texts.trivia in
        let trees : List Tree = (read_parts (read levels bytes) (fields_due slots (flags / 2)) trivia.end).trees in
        let parts_fit : FieldsFit (WellFormed levels) slots (at + 2 + length (stored_trivia (trivia_from bytes trivia.first trivia.count))) trees =
        rw trivia_fit.1 (fields_formed slots (flags / 2) trivia.end fits.1 passed_fields (rw only at texts.parts)) in
        rw (only, slice_empty trivia.end bytes)
        (well.fielded headed.kind_is (other_told number list leaf) (within_told class number headed.standing list) trivia_fit.0 parts_fit
        (else_formed number kind (rule class).value (flags / 2) trivia.end headed.kind_is fits.0 passed_fields))

    -- any other record
    other_own : (kind : Kind) (trivia : TriviaSpan) → Headed bytes at class kind trivia → eqb (get_or bytes at 0) 24 ≡ false
        → (leaf_number (get_or bytes at 0) && leb 2 (get_or bytes (at + 1) 0)) ≡ false
        → FormedOwn (own_of kind (get_or bytes (at + 1) 0) trivia trivia.end trivia.end 0)
    unfolding WellFormed
    other_own kind trivia headed list no_text =
        by_test (leaf_number (get_or bytes at 0))
        (λ leaf own passed texts.
        let flags : ℕ = get_or bytes (at + 1) 0 in
        let bit = (map_told (rule class) (get_or bytes at 0) kind flags headed.fits list).1 leaf in
        let none : flags / 2 ≡ 0 = omega (arith, leb-false 2 flags (rw leaf at no_text)) in
        leaf_formed kind trivia (slice trivia.end trivia.end bytes) _ headed leaf texts.trivia
        (rw (slice_empty trivia.end bytes) (no_text_fits (rule class).text (rw none at bit))))
        (λ leaf. fielded_own kind trivia headed list leaf)

-- a tree that was read without refusal, whose texts are accepted, is well formed
pub read_formed : (levels : ℕ) (bytes : List ℕ) → AllBytes bytes → (class : Class) (at : ℕ) → (read levels bytes class at).checked ≡ no_refusal
    → texts_checked (read levels bytes class at).texts ≡ no_refusal → WellFormed levels class at (read levels bytes class at).tree
read_formed levels bytes small =
    every_reading bytes FormedRead
    (λ levels class at reader why passed. failed_passed passed)
    (λ levels class at own is below passed accepted.
    own_cases bytes at class (FormedOwn bytes small levels below class at) (list_own bytes small levels below class at) (text_own bytes small levels below class at)
    (other_own bytes small levels below class at) (suc levels) own is is passed
    (own_texts bytes own (read_parts (read levels bytes) (parts_due class own) own.end).texts accepted))
    levels
