-- A well-formed tree whose stored form stands at its place is read back from there, without refusal.
--   read_back : .. WellFormed levels class at tree → Stands bytes at (stored tree) end → Found (read levels bytes class at) tree end
use Rattle.std.specs.Prelude.{Option, Some, None, Ok}
use Rattle.answers.specs.Numbers.{no_refusal}
use mathlib.Core.Path.{◌≡◌, refl, sym, ap, ◌∙◌}
use mathlib.Core.List.{List, [], ◌∷◌, ◌++◌, map, append-nil}
use mathlib.Core.Bool.{Bool, true, false, ◌||◌}
use mathlib.Core.Logic.{◌⊎◌, inl, inr}
use Prim.Native.Nat.{ℕ, zero, suc, ◌+◌, ◌*◌, ◌%◌, ◌/◌, ◌<◌}
use native.Mathlib.Omega.{arith}
use lib.ListN.{length, get_or, replicate}
use lib.Dec.{eqb, leb}
use lib.Seq.{slice, slice_empty}
use borrow.Author.Tests.{eqb-true, lt-ltb, le-ltb, le-leb, lt-leb, eq-eqb, ne_eqb}
use Rattle.answers.proofs.Cases.{failed_passed}
use Rattle.text.specs.Numbers.{two_bytes}
use Rattle.text.specs.Accepted.{accepted_text}
use Rattle.text.specs.Ink.{flat}
use Rattle.text.proofs.Choices.{by_test, or_right}
use Rattle.tree.specs.Grammar.{Slot, must, may, kind_of, rule, fields}
use Rattle.tree.specs.Tree.{Tree, Trivium, absent, node, Vec, chain, built}
use Rattle.tree.specs.Own.{may_stand, fields_fit, text_fits, else_fits, map_fits, text_end, rest_of, read_own, own_of}
use Rattle.tree.specs.Reading.{Placed, trivia_of, text_of, texts_of, trivia_texts, Due, due, slot_class, fields_due, items_due, parts_due, Reading, Readings, Reader, read_parts, read}
use Rattle.tree.specs.Stored.{part_bits, stored_trivia, trivia_bit, stored_text, stored_node, stored_leaf, stored_with, stored}
use Rattle.tree.specs.Checking.{texts_checked}
use Rattle.tree.specs.declared.grammar.Kind.{Kind}
use Rattle.tree.specs.declared.grammar.Kind.TheVariants as variant
use Rattle.tree.specs.declared.grammar.Class.{Class}
use Rattle.tree.specs.declared.grammar.Class.TheVariants.{LocatedExpression}
use Rattle.tree.specs.declared.grammar.TextRule.{TextRule}
use Rattle.tree.specs.declared.own.Own.{Own}
use Rattle.tree.proofs.Cases.{by_choice}
use Rattle.tree.specs.Grammar.{kind_number}
use Rattle.tree.proofs.KindLayout.{forms_from, node_stored, kind_number_lem, forms_all, items_counted, items_stored, leaf_stored}
use Rattle.tree.proofs.Places.{Stands}
use Rattle.tree.proofs.OwnBytes.{leaf_number, leaf_other}
use Rattle.tree_laws.specs.WellFormed.{TriviaFit, TextFits, FieldsFit, standing, left_out, ItemsFit, Formed, ElseFits, Within, WellFormed}
use Rattle.tree_laws.specs.WellFormed as well
use Rattle.tree_laws.proofs.Standing.{ends, apart, byte_at, number_at_lem, Sized, sized}
use Rattle.tree_laws.proofs.Heads.{HeadStands, head_read, own_read, headed}

-- a reading gives a tree and its end, refuses nothing, and its texts are accepted
pub record Found (reading : Reading) (tree : Tree) (end : ℕ) : Type 0 where
  pub tree_is : reading.tree ≡ tree
  pub end_is : reading.end ≡ end
  pub passed : reading.checked ≡ no_refusal
  pub accepted : texts_checked reading.texts ≡ no_refusal

-- so with parts
record AllFound (readings : Readings) (trees : List Tree) (end : ℕ) : Type 0 where
  trees_are : readings.trees ≡ trees
  end_is : readings.end ≡ end
  passed : readings.checked ≡ no_refusal
  accepted : texts_checked readings.texts ≡ no_refusal

-- texts one behind the other are accepted where both are
texts_both : (first second : List Placed) → texts_checked first ≡ no_refusal → texts_checked second ≡ no_refusal → texts_checked (first ++ second) ≡ no_refusal
unfolding texts_checked
texts_both [] second one two = two
texts_both (text ∷ first) second one two =
    by_choice (accepted_text text.bytes) _ _ no_refusal one
    (λ q f. rw q (texts_both first second f two))
    (λ q f. failed_passed f)

-- ---- parts

-- the bits behind the lowest are those of the parts behind the first
bits_behind : (form : List ℕ) (forms : List (List ℕ)) → part_bits (form ∷ forms) / 2 ≡ part_bits forms
unfolding part_bits
bits_behind [] forms = omega arith
bits_behind (byte ∷ form) forms = omega arith

-- the lowest bit stands where the first part does
bit_stands : (form : List ℕ) (forms : List (List ℕ)) → 0 < length form → part_bits (form ∷ forms) % 2 ≡ 1
unfolding part_bits
bit_stands [] forms some = absurd (omega arith)
bit_stands (byte ∷ form) forms some = omega arith

-- and is clear where it does not
bit_clear : (forms : List (List ℕ)) → part_bits ([] ∷ forms) % 2 ≡ 0
unfolding part_bits
bit_clear forms = omega arith

-- two parts have the same bit where both are empty or neither is
same_bit : (first second : List ℕ) → (length first ≡ 0 → length second ≡ 0) → (length second ≡ 0 → length first ≡ 0)
    → part_bits (first ∷ second ∷ []) % 2 ≡ part_bits (second ∷ []) % 2
unfolding part_bits
same_bit [] [] one other = omega arith
same_bit [] (byte ∷ second) one other = absurd (omega (arith, one refl))
same_bit (byte ∷ first) [] one other = absurd (omega (arith, other refl))
same_bit (byte ∷ first) (other_byte ∷ second) one other = omega arith

-- so with the fourth and the fifth of five
fourth_fifth : (first second third fourth fifth : List ℕ) → (length fourth ≡ 0 → length fifth ≡ 0) → (length fifth ≡ 0 → length fourth ≡ 0)
    → part_bits (first ∷ second ∷ third ∷ fourth ∷ fifth ∷ []) / 8 % 2 ≡ part_bits (first ∷ second ∷ third ∷ fourth ∷ fifth ∷ []) / 16 % 2
fourth_fifth first second third fourth fifth one other =
    let one_behind = bits_behind first (second ∷ third ∷ fourth ∷ fifth ∷ []) in
    let two_behind = bits_behind second (third ∷ fourth ∷ fifth ∷ []) in
    let three_behind = bits_behind third (fourth ∷ fifth ∷ []) in
    let eighth : part_bits (first ∷ second ∷ third ∷ fourth ∷ fifth ∷ []) / 8 ≡ part_bits (fourth ∷ fifth ∷ []) = omega arith in
    let sixteenth : part_bits (first ∷ second ∷ third ∷ fourth ∷ fifth ∷ []) / 16 ≡ part_bits (fifth ∷ []) = omega (arith, bits_behind fourth (fifth ∷ [])) in
    rw (eighth, sixteenth) (same_bit fourth fifth one other)

-- a field's bit fits where it stands
bit_fits : (slot : Slot) (slots : List Slot) (bits : ℕ) → bits % 2 ≡ 1 → fields_fit slots (bits / 2) ≡ true → fields_fit (slot ∷ slots) bits ≡ true
unfolding fields_fit
bit_fits (must class) slots bits one rest = rw (one, rest)
bit_fits (may class) slots bits one rest = rest

-- there are as many parts as fields
pub parts_counted : {Below : Class → ℕ → Tree → Type 0} {slots : List Slot} {at : ℕ} {parts : List Tree} → FieldsFit Below slots at parts → length parts ≡ length slots
parts_counted well.none = refl
parts_counted (standing first rest) = ap suc (parts_counted rest)
parts_counted (left_out rest) = ap suc (parts_counted rest)

module _ (Below : Class → ℕ → Tree → Type 0) (some : (class : Class) (at : ℕ) (tree : Tree) → Below class at tree → 0 < length (stored tree)) where
  -- the bits of fields that fit do
  bits_fit : {slots : List Slot} {at : ℕ} {parts : List Tree} → FieldsFit Below slots at parts → fields_fit slots (part_bits (map stored parts)) ≡ true
  unfolding fields_fit stored_with
  bits_fit well.none = unfold part_bits in refl
  bits_fit (standing {slot} {slots} {at} {part} {parts} first rest) =
      bit_fits slot slots (part_bits (map stored (part ∷ parts))) (bit_stands (stored part) (map stored parts) (some (slot_class slot) at part first))
      (rw (bits_behind (stored part) (map stored parts)) (bits_fit rest))
  bits_fit (left_out {class} {slots} {at} {parts} rest) = rw (bits_behind [] (map stored parts)) (bits_fit rest)

  -- a field without bytes is left out
  empty_absent : {slots : List Slot} {at : ℕ} {parts : List Tree} → FieldsFit Below slots at parts → (place : ℕ)
      → length (stored (get_or parts place absent)) ≡ 0 → get_or parts place absent ≡ absent
  empty_absent well.none place e = refl
  empty_absent (standing {slot} {slots} {at} {part} {parts} first rest) zero e = absurd (omega (arith, some (slot_class slot) at part first))
  empty_absent (standing first rest) (suc place) e = empty_absent rest place e
  empty_absent (left_out rest) zero e = refl
  empty_absent (left_out rest) (suc place) e = empty_absent rest place e

  -- `tag_else` and `else_` have the same bit
  else_fits_lem : (value : Class) {at : ℕ} {parts : List Tree} → FieldsFit Below (fields variant.If value) at parts → ElseFits variant.If parts
      → part_bits (map stored parts) / 8 % 2 ≡ part_bits (map stored parts) / 16 % 2
  unfolding stored_with
  else_fits_lem value {at} {parts} fits together =
      let form : ℕ → List ℕ = λ place. stored (get_or parts place absent) in
      let five : forms_from 0 5 parts ≡ map stored parts = rw (parts_counted fits) at (forms_all parts) in
      rw (← five) (fourth_fifth (form 0) (form 1) (form 2) (form 3) (form 4)
      (λ e. rw ((together refl).0 (empty_absent fits 3 e)))
      (λ e. rw ((together refl).1 (empty_absent fits 4 e))))

module _ (bytes : List ℕ) (Below : Class → ℕ → Tree → Type 0) (reader : Reader)
    (some : (class : Class) (at : ℕ) (tree : Tree) → Below class at tree → 0 < length (stored tree))
    (found : (class : Class) (at end : ℕ) (tree : Tree) → Below class at tree → Stands bytes at (stored tree) end → Found (reader class at) tree end)
  where
    -- a part that stands and those behind it
    one_found : (class : Class) (at end : ℕ) (part : Tree) (parts : List Tree) (dues : List Due) → Below class at part
        → Stands bytes at (stored part ++ flat (map stored parts)) end
        → (Stands bytes (at + length (stored part)) (flat (map stored parts)) end → AllFound (read_parts reader dues (at + length (stored part))) parts end)
        → AllFound (read_parts reader (due class ∷ dues) at) (part ∷ parts) end
    unfolding read_parts
    one_found class at end part parts dues below stands rest =
        let two = apart (stored part) (flat (map stored parts)) stands in
        let one = found class at (at + length (stored part)) part below two.0 in
        let others = rest two.1 in
        record {
          trees_are = rw (one.end_is, one.tree_is, others.trees_are);
          end_is = rw one.end_is others.end_is;
          passed = rw (one.end_is, one.passed) others.passed;
          accepted = rw one.end_is (texts_both (reader class at).texts (read_parts reader dues (at + length (stored part))).texts one.accepted others.accepted);
        }

    -- the fields of a record
    fields_found : {slots : List Slot} {at end : ℕ} {parts : List Tree} → FieldsFit Below slots at parts → Stands bytes at (flat (map stored parts)) end
        → AllFound (read_parts reader (fields_due slots (part_bits (map stored parts))) at) parts end
    unfolding read_parts fields_due flat stored_with texts_checked
    fields_found {at} {end} well.none here =
        let last : end ≡ at + 0 = ends here in
        record { trees_are = refl; end_is = omega arith; passed = refl; accepted = refl }
    fields_found {end} (standing {slot} {slots} {at} {part} {parts} first rest) here =
        rw (bit_stands (stored part) (map stored parts) (some (slot_class slot) at part first), bits_behind (stored part) (map stored parts))
        (one_found (slot_class slot) at end part parts (fields_due slots (part_bits (map stored parts))) first here (fields_found rest))
    fields_found (left_out {class} {slots} {at} {parts} rest) here =
        let behind = fields_found rest here in
        rw (bit_clear (map stored parts), bits_behind [] (map stored parts))
        (record { trees_are = rw behind.trees_are; end_is = behind.end_is; passed = behind.passed; accepted = behind.accepted })

    -- the items of a list
    items_found : {class : Class} {at end : ℕ} {items : List Tree} → ItemsFit Below class at items → Stands bytes at (flat (map stored items)) end
        → AllFound (read_parts reader (replicate (length items) (due class)) at) items end
    unfolding read_parts flat texts_checked
    items_found {class} {at} {end} well.none here =
        let last : end ≡ at + 0 = ends here in
        record { trees_are = refl; end_is = omega arith; passed = refl; accepted = refl }
    items_found {class} {end} (well.next {at} {item} {items} first rest) here =
        one_found class at end item items (replicate (length items) (due class)) first here (items_found rest)

-- ---- stored forms

-- the stored form of a list
pub list_form : (at : ℕ) (items : List Tree) → stored (node at [] (Vec (chain items))) ≡ 24 ∷ 0 ∷ (two_bytes (length items) ++ flat (map stored items))
unfolding stored_with
list_form at items = rw (items_counted items, items_stored items)

-- the stored form of a leaf or path item
pub leaf_form : (at number : ℕ) (kind : Kind) (trivia : List Trivium) (text : List ℕ) → leaf_number number ≡ true → kind_of number ≡ Some kind
    → stored (node at trivia (built kind text [])) ≡ stored_leaf number trivia text
unfolding stored_with
leaf_form at number kind trivia text leaf known = (leaf_stored number kind LocatedExpression trivia text [] leaf known).0

-- a number that is neither a list's nor a leaf's
other_number : (number : ℕ) → (number < 24) ⊎ (26 < number) → (eqb number 24 ≡ false) × (leaf_number number ≡ false)
other_number number (inl low) = (ne_eqb number 24 (omega arith), rw (ne_eqb number 25 (omega arith), ne_eqb number 26 (omega arith)))
other_number number (inr high) = (ne_eqb number 24 (omega arith), rw (ne_eqb number 25 (omega arith), ne_eqb number 26 (omega arith)))

-- the stored form of a record with fields
pub fielded_form : (at number : ℕ) (kind : Kind) (value : Class) (trivia : List Trivium) (parts : List Tree) → kind_of number ≡ Some kind → (number < 24) ⊎ (26 < number)
    → length parts ≡ length (fields kind value) → stored (node at trivia (built kind [] parts)) ≡ stored_node number trivia (map stored parts)
unfolding stored_with
fielded_form at number kind value trivia parts known other counted =
    let is : kind_number kind ≡ number = kind_number_lem number kind known in
    let tests = other_number number other in
    node_stored kind value trivia [] parts (rw is tests.0) (rw is tests.1) ∙ rw (is, ← counted, forms_all parts)

-- a record that is formed has bytes
formed_some : {Below : Class → ℕ → Tree → Type 0} {class : Class} {at : ℕ} {tree : Tree} → Formed Below class at tree → 0 < length (stored tree)
unfolding built
formed_some {at} (well.list {item} {items} of count fits) = rw (list_form at items) (omega arith)
formed_some {at} (well.leaf {trivia} {text} within trivia-fit text-fit) =
    rw (leaf_form at 25 variant.Leaf trivia text refl refl) (omega arith)
formed_some {at} (well.path {trivia} {text} within trivia-fit text-fit) =
    rw (leaf_form at 26 variant.PathItem trivia text refl refl) (omega arith)
formed_some {class} {at} (well.fielded {number} {kind} {trivia} {parts} known other within trivia-fit fits together) =
    rw (fielded_form at number kind (rule class).value trivia parts known other (parts_counted fits)) (omega arith)

-- so has a well-formed tree
pub some_bytes : (levels : ℕ) (class : Class) (at : ℕ) (tree : Tree) → WellFormed levels class at tree → 0 < length (stored tree)
unfolding WellFormed
some_bytes zero class at tree formed = absurd formed
some_bytes (suc levels) class at tree formed = formed_some formed

-- ---- a record

-- trivia stand only where they may
trivia_may : {located : Bool} {items : List Trivium} → TriviaFit located items → (allowed : Bool) → (located ≡ true → allowed ≡ true)
    → (bit : ℕ) → bit ≡ trivia_bit items → (eqb bit 0 || allowed) ≡ true
trivia_may well.without allowed located bit is = rw is
trivia_may (well.with count each) allowed located bit is = or_right (eqb bit 0) allowed (located refl)

-- a bit of trivia and other bits
pub bit_below : (items : List Trivium) (bits : ℕ) → ((trivia_bit items + 2 * bits) % 2 ≡ trivia_bit items) × ((trivia_bit items + 2 * bits) / 2 ≡ bits)
bit_below [] bits = (omega arith, omega arith)
bit_below (item ∷ items) bits = (omega arith, omega arith)

-- a text that fits is accepted
pub text_accepted : {text-rule : TextRule} {text : List ℕ} → TextFits text-rule text → accepted_text text ≡ true
unfolding accepted_text
text_accepted well.none = refl
text_accepted (well.free long accepted) = accepted
text_accepted (well.one low high accepted) = accepted

-- so does its bit
text_bit_fits : {text-rule : TextRule} (text : List ℕ) → TextFits text-rule text → text_fits text-rule (part_bits (stored_text text ∷ [])) ≡ true
unfolding part_bits
text_bit_fits [] well.none = refl
text_bit_fits [] (well.free long accepted) = refl
text_bit_fits (byte ∷ text) (well.free long accepted) = refl
text_bit_fits (byte ∷ text) (well.one low high accepted) = refl

-- a text that stands is read
text_read : {bytes : List ℕ} {at end : ℕ} {text-rule : TextRule} (byte : ℕ) (text : List ℕ) → TextFits text-rule (byte ∷ text) → Sized bytes at (byte ∷ text) end
    → text_end bytes at text-rule ≡ Some end
unfolding text_end
text_read {bytes} {at} {end} byte text (well.free long accepted) sized =
    let last : at + 2 + length (byte ∷ text) ≡ end = omega arith in
    rw (le-leb (at + 2) (length bytes) sized.room, sized.count, ne_eqb (length (byte ∷ text)) 0 (omega arith), last, le-ltb (length bytes) end sized.letters.inside)
text_read {bytes} {at} {end} byte text (well.one {low} {high} low-is high_is accepted) sized =
    let last : at + 3 ≡ end = omega arith in
    let letter = byte_at byte [] sized.letters in
    rw (le-leb (at + 2) (length bytes) sized.room, sized.count, lt-ltb (at + 2) (length bytes) letter.1, letter.0, le-leb low byte low-is, le-leb byte high high_is, last)

-- the bits of an `If` are those of parts that stand together
else_may : (number : ℕ) (kind : Kind) (bits : ℕ) → kind_of number ≡ Some kind → (kind ≡ variant.If → bits / 8 % 2 ≡ bits / 16 % 2) → else_fits number bits ≡ true
else_may number kind bits known together =
    by_test (eqb number 10)
    (λ q.
    let if_known : kind_of 10 ≡ Some kind = rw (eqb-true number 10 q) at known in
    let is : kind ≡ variant.If = cc in
    rw q (eq-eqb (bits / 8 % 2) (bits / 16 % 2) (together is)))
    (λ q. rw q)

-- where the count is 0 only fields are due
pub only_fields : (class : Class) (own : Own) → own.count ≡ 0 → parts_due class own ≡ fields_due (fields own.kind (rule class).value) (own.map / 2)
unfolding parts_due
only_fields class own is = rw (is, none (rule class).items) (append-nil (fields_due (fields own.kind (rule class).value) (own.map / 2)))
  where
    none : (items : Option Class) → items_due items 0 ≡ []
    none None = refl
    none (Some item) = refl

module _ (bytes : List ℕ) (levels : ℕ) (class : Class) (at : ℕ) where
  -- a record whose own bytes and parts are read
  record_found : {trivia : List Trivium} {text : List ℕ} {parts : List Tree} {end : ℕ} (own : Own) → read_own bytes at class (suc levels) ≡ Ok own
      → trivia_of bytes own ≡ trivia → texts_checked (trivia_texts bytes own.trivia own.trivia_count) ≡ no_refusal
      → text_of bytes own ≡ text → accepted_text text ≡ true → AllFound (read_parts (read levels bytes) (parts_due class own) own.end) parts end
      → Found (read (suc levels) bytes class at) (node at trivia (built own.kind text parts)) end
  unfolding read texts_checked
  record_found own is trivia-is trivia-accepted text-is text_accepted parts =
      rw is (record {
        tree_is = rw (trivia-is, text-is, parts.trees_are);
        end_is = parts.end_is;
        passed = parts.passed;
        accepted =
            texts_both (texts_of bytes own) (read_parts (read levels bytes) (parts_due class own) own.end).texts
            (texts_both (trivia_texts bytes own.trivia own.trivia_count) _ trivia-accepted (rw (text-is, text_accepted)))
            parts.accepted;
      })

  -- a leaf or path item whose own bytes are read
  leaf_own : {number flags end : ℕ} {kind : Kind} {trivia : List Trivium} {text rest : List ℕ} (text_at : ℕ)
      → (head : HeadStands bytes at number flags trivia rest end) → leaf_number number ≡ true → kind_of number ≡ Some kind
      → read_own bytes at class (suc levels) ≡ Ok (own_of kind flags head.trivia.span text_at end 0)
      → slice text_at end bytes ≡ text → accepted_text text ≡ true
      → Found (read (suc levels) bytes class at) (node at trivia (built kind text [])) end
  unfolding fields_due read_parts texts_checked
  leaf_own {number} {flags} {end} {kind} {trivia} {text} text_at head leaf known is text-is accepted =
      let own : Own = own_of kind flags head.trivia.span text_at end 0 in
      let no_parts : parts_due class own ≡ [] = only_fields class own refl ∙ rw (leaf_stored number kind (rule class).value trivia text [] leaf known).1 in
      record_found own is head.trivia.same head.trivia.texts text-is accepted
      (rw no_parts (record { trees_are = refl; end_is = refl; passed = refl; accepted = refl }))

  -- by its text
  text_found : {number flags end : ℕ} {kind : Kind} {trivia : List Trivium} (text : List ℕ) → TextFits (rule class).text text
      → (head : HeadStands bytes at number flags trivia (stored_text text) end) → flags ≡ trivia_bit trivia + 2 * part_bits (stored_text text ∷ [])
      → leaf_number number ≡ true → kind_of number ≡ Some kind
      → read_own bytes at class (suc levels) ≡ rest_of bytes at (rule class).text number kind flags head.trivia.span
      → Found (read (suc levels) bytes class at) (node at trivia (built kind text [])) end
  unfolding rest_of part_bits
  text_found {number} {flags} {end} {kind} {trivia} [] fits head flags-are leaf known own =
      let last : head.trivia.span.end ≡ end = omega (arith, head.trivia.last, ends head.behind) in
      let low : leb 2 flags ≡ false = lt-leb 2 flags (omega (arith, (bit_below trivia 0).0)) in
      leaf_own end head leaf known (own ∙ rw (leaf_other number leaf, leaf, low, last)) (slice_empty end bytes) (text_accepted fits)
  text_found {number} {flags} {end} {kind} {trivia} (byte ∷ text) fits head flags-are leaf known own =
      let start : head.trivia.span.end ≡ at + 2 + length (stored_trivia trivia) = head.trivia.last in
      let high : leb 2 flags ≡ true = le-leb 2 flags (omega arith) in
      let letters = sized (byte ∷ text) head.behind in
      leaf_own (at + 2 + length (stored_trivia trivia) + 2) head leaf known
      (own ∙ rw (leaf_other number leaf, leaf, high, start, text_read byte text fits letters)) (sym letters.letters.same) (text_accepted fits)

  -- a leaf or path item
  leaf_found : {number end : ℕ} {kind : Kind} {located : Bool} {trivia : List Trivium} (text : List ℕ)
      → leaf_number number ≡ true → kind_of number ≡ Some kind → Within class number → TriviaFit located trivia → (located ≡ true → ((rule class).located || eqb number 26) ≡ true)
      → TextFits (rule class).text text → Stands bytes at (stored_leaf number trivia text) end
      → Found (read (suc levels) bytes class at) (node at trivia (built kind text [])) end
  unfolding map_fits flat
  leaf_found {number} {end} {kind} {located} {trivia} text leaf known within trivia-fit where-located text-fit here =
      let bits : ℕ = part_bits (stored_text text ∷ []) in
      let flags : ℕ = trivia_bit trivia + 2 * bits in
      let below = bit_below trivia bits in
      let not_list = leaf_other number leaf in
      let head = head_read number flags trivia (stored_text text) trivia-fit (rw (append-nil (stored_text text)) at here) in
      let stands : may_stand (rule class) number ≡ true =
      rw (not_list, le-leb (kind_number (rule class).first) number within.0, le-leb number (kind_number (rule class).last) within.1) in
      let fits : map_fits (rule class) number kind flags ≡ true =
      rw (not_list, leaf, trivia_may trivia-fit ((rule class).located || eqb number 26) where-located (flags % 2) below.0, below.1) (text_bit_fits text text-fit) in
      text_found text text-fit head refl leaf known
      (rw (head.number_is, head.flags_are) at (own_read levels (headed class kind head below.0 known stands fits)))

  -- so that the readings one level below are found
  module _ (below : (field : Class) (place end : ℕ) (tree : Tree) → WellFormed levels field place tree → Stands bytes place (stored tree) end
      → Found (read levels bytes field place) tree end)
    where
      -- a record with fields
      fielded_found : {number end : ℕ} {kind : Kind} {trivia : List Trivium} {parts : List Tree}
          → kind_of number ≡ Some kind → (number < 24) ⊎ (26 < number) → Within class number → TriviaFit (rule class).located trivia
          → FieldsFit (WellFormed levels) (fields kind (rule class).value) (at + 2 + length (stored_trivia trivia)) parts → ElseFits kind parts
          → Stands bytes at (stored_node number trivia (map stored parts)) end
          → Found (read (suc levels) bytes class at) (node at trivia (built kind [] parts)) end
      unfolding map_fits rest_of
      fielded_found {number} {end} {kind} {trivia} {parts} known other within trivia-fit fields_fit together here =
          let bits : ℕ = part_bits (map stored parts) in
          let flags : ℕ = trivia_bit trivia + 2 * bits in
          let parted = bit_below trivia bits in
          let tests = other_number number other in
          let some = some_bytes levels in
          let head = head_read number flags trivia (flat (map stored parts)) trivia-fit here in
          let stands : may_stand (rule class) number ≡ true =
          rw (tests.0, le-leb (kind_number (rule class).first) number within.0, le-leb number (kind_number (rule class).last) within.1) in
          let else_fit : else_fits number bits ≡ true =
          else_may number kind bits known (λ is. else_fits_lem (WellFormed levels) some (rule class).value (rw is at fields_fit) (rw is at together)) in
          let fits : map_fits (rule class) number kind flags ≡ true =
          rw (tests.0, tests.1, trivia_may trivia-fit ((rule class).located || eqb number 26) (λ e. rw e) (flags % 2) parted.0, parted.1, else_fit)
          (bits_fit (WellFormed levels) some fields_fit) in
          let own = rw (head.number_is, head.flags_are) at (own_read levels (headed class kind head parted.0 known stands fits)) in
          let place : ℕ = at + 2 + length (stored_trivia trivia) in
          let last : head.trivia.span.end ≡ place = head.trivia.last in
          let found : Own = own_of kind flags head.trivia.span place place 0 in
          record_found found (own ∙ rw (tests.0, tests.1, last)) head.trivia.same head.trivia.texts (slice_empty place bytes) (unfold accepted_text in refl)
          (rw (only_fields class found refl, parted.1) (fields_found bytes (WellFormed levels) (read levels bytes) some below fields_fit head.behind))

      -- a list
      list_found : {item : Class} {items : List Tree} {end : ℕ} → (rule class).items ≡ Some item → ItemsFit (WellFormed levels) item (at + 4) items
          → Stands bytes at (24 ∷ 0 ∷ (two_bytes (length items) ++ flat (map stored items))) end
          → Found (read (suc levels) bytes class at) (node at [] (Vec (chain items))) end
      unfolding map_fits rest_of parts_due fields_due built
      list_found {item} {items} {end} of items-fit here =
          let count : ℕ = length items in
          let head = head_read 24 0 [] (two_bytes count ++ flat (map stored items)) (well.without {located = false}) here in
          let stands : may_stand (rule class) 24 ≡ true = rw of in
          let own = rw (head.number_is, head.flags_are) at (own_read levels (headed class variant.Vec head refl refl stands refl)) in
          let start : at + 2 + 0 ≡ at + 2 = omega arith in
          let parts = apart (two_bytes count) (flat (map stored items)) (rw start at head.behind) in
          let number = number_at_lem count parts.0 in
          let last : head.trivia.span.end ≡ at + 2 = omega (arith, head.trivia.last) in
          let place : at + 2 + 2 ≡ at + 4 = omega arith in
          record_found (own_of variant.Vec 0 head.trivia.span (at + 4) (at + 4) count) (own ∙ rw (last, le-leb (at + 2 + 2) (length bytes) number.1, number.0, place))
          head.trivia.same head.trivia.texts (slice_empty (at + 4) bytes) (unfold accepted_text in refl)
          (rw of (items_found bytes (WellFormed levels) (read levels bytes) (some_bytes levels) below items-fit (rw place at parts.1)))

      -- a record of any kind
      formed_found : {tree : Tree} {end : ℕ} → Formed (WellFormed levels) class at tree → Stands bytes at (stored tree) end → Found (read (suc levels) bytes class at) tree end
      unfolding built
      formed_found (well.list {item} {items} of count fits) here = list_found of fits (rw (list_form at items) at here)
      formed_found (well.leaf {trivia} {text} within trivia-fit text-fit) here =
          leaf_found text refl refl within trivia-fit (λ e. rw e) text-fit (rw (leaf_form at 25 variant.Leaf trivia text refl refl) at here)
      formed_found (well.path {trivia} {text} within trivia-fit text-fit) here =
          leaf_found text refl refl within trivia-fit (λ e. or_right (rule class).located true refl) text-fit (rw (leaf_form at 26 variant.PathItem trivia text refl refl) at here)
      formed_found (well.fielded {number} {kind} {trivia} {parts} known other within trivia-fit fits together) here =
          fielded_found known other within trivia-fit fits together
          (rw (fielded_form at number kind (rule class).value trivia parts known other (parts_counted fits)) at here)

-- a well-formed tree whose stored form stands at its place is read back
pub read_back : (levels : ℕ) (bytes : List ℕ) (class : Class) (at end : ℕ) (tree : Tree) → WellFormed levels class at tree → Stands bytes at (stored tree) end
    → Found (read levels bytes class at) tree end
unfolding WellFormed
read_back zero bytes class at end tree formed here = absurd formed
read_back (suc levels) bytes class at end tree formed here = formed_found bytes levels class at (read_back levels bytes) formed here
