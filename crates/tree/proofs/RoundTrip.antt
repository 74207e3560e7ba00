-- Reading and layout speak of the same bytes: what is read without refusal is stored as the bytes that were read.
--   round_trip : .. read levels bytes class at .checked ≡ no_refusal → stored (read levels bytes class at .tree) ≡ slice at (read levels bytes class at .end) bytes, ..
--   file_round_trip : .. tree_checked limit levels bytes ≡ no_refusal → stored (read_file levels bytes).tree ≡ bytes
use Rattle.std.specs.Prelude.{Option, Some, None, Ok}
use Rattle.answers.specs.Numbers.{no_refusal}
use mathlib.Core.Path.{◌≡◌, refl, sym, ◌∙◌}
use mathlib.Core.List.{List, [], ◌∷◌, ◌++◌, map, append-nil}
use mathlib.Core.Bool.{true, false, ◌&&◌}
use Prim.Native.Nat.{ℕ, zero, suc, ◌+◌, ◌*◌, ◌/◌, ◌%◌, ◌≤◌, ◌<◌}
use native.Mathlib.Omega.{arith}
use lib.ListN.{length, get_or, length-replicate}
use lib.Dec.{eqb, ltb, leb}
use lib.Seq.{slice, slice_empty, length-slice, take-length}
use borrow.Author.Tests.{ltb-true, ltb-false, leb-false, eqb-true, eqb-false}
use Rattle.answers.proofs.Cases.{failed_passed}
use Rattle.text.specs.Numbers.{two_bytes, number_at}
use Rattle.text.specs.Ink.{flat}
use Rattle.text.proofs.Choices.{by_test, true_false, and_true_left, and_true_right}
use Rattle.tree.specs.Grammar.{Slot, must, may, kind_of, rule, fields}
use Rattle.tree.specs.Tree.{Tree, Trivium, chain, built}
use Rattle.tree.specs.Own.{is_list, fields_fit, text_fits, else_fits, trivia_fits, map_fits, trivia_end, trivia_read, own_of, read_own}
use Rattle.tree.specs.Reading.{trivium_behind, trivium_text, trivia_from, Due, nothing, due, slot_class, fields_due, items_due, parts_due, Reading, Reader, read_parts, record_of, read}
use Rattle.tree.specs.Stored.{stored_trivium, stored_items, stored_trivia, trivia_bit, part_bits, stored_text, item_count, stored_with, stored}
use Rattle.tree.specs.Checking.{read_file, tree_checked}
use Rattle.tree.specs.declared.grammar.Kind.{Kind}
use Rattle.tree.specs.declared.grammar.Kind.TheVariants as variant
use Rattle.tree.specs.declared.grammar.Class.{Class}
use Rattle.tree.specs.declared.grammar.Class.TheVariants.{Tokens}
use Rattle.tree.specs.declared.grammar.Rule.{Rule}
use Rattle.tree.specs.declared.grammar.TextRule.{TextRule}
use Rattle.tree.specs.declared.grammar.TextRule.TheVariants.{NoText, Free, Byte}
use Rattle.tree.specs.declared.own.Own.{Own}
use Rattle.tree.specs.declared.own.TriviaSpan.{TriviaSpan}
use Rattle.tree.proofs.Cases.{by_choice, both_passed}
use Rattle.tree.specs.Grammar.{kind_number}
use Rattle.tree.proofs.KindLayout.{node_stored, kind_number_lem, forms_all, items_counted, items_stored, leaf_stored}
use Rattle.tree.proofs.Places.{Stands, none_stands, both_stand, part_stands, byte_stands, number_stands}
use Rattle.tree.proofs.OwnBytes.{TextHeld, ItemHeld, Headed, leaf_number, items_held, trivia_cases, own_cases}
use Rattle.tree.proofs.Readings.{every_reading, file_passed}

-- ---- texts and trivia

-- a text that is not empty has its length before it
text_stored : (text : List ℕ) → 0 < length text → stored_text text ≡ two_bytes (length text) ++ text
text_stored [] some = absurd (omega arith)
text_stored (byte ∷ text) some = refl

-- its bit stands
text_bit : (text : List ℕ) → 0 < length text → part_bits (stored_text text ∷ []) ≡ 1
unfolding part_bits
text_bit [] some = absurd (omega arith)
text_bit (byte ∷ text) some = refl

-- trivia that are not none have their count before them
trivia_stored : (items : List Trivium) → 0 < length items → stored_trivia items ≡ two_bytes (length items) ++ stored_items items
trivia_stored [] some = absurd (omega arith)
trivia_stored (item ∷ items) some = refl

-- their bit stands
trivia_bit_lem : (items : List Trivium) → 0 < length items → trivia_bit items ≡ 1
trivia_bit_lem [] some = absurd (omega arith)
trivia_bit_lem (item ∷ items) some = refl

-- there are as many as their count says
trivia_counted : (bytes : List ℕ) (at count : ℕ) → length (trivia_from bytes at count) ≡ count
unfolding trivia_from
trivia_counted bytes at zero = refl
trivia_counted bytes at (suc count) = rw (trivia_counted bytes (trivium_behind bytes at) count)

module _ (bytes : List ℕ) (small : (i : ℕ) → get_or bytes i 0 < 256) where
  -- a length and as many bytes
  sized_stands : (at : ℕ) → at + 2 + number_at bytes at ≤ length bytes
      → Stands bytes at (two_bytes (length (slice (at + 2) (at + 2 + number_at bytes at) bytes)) ++ slice (at + 2) (at + 2 + number_at bytes at) bytes) (at + 2 + number_at bytes at)
  sized_stands at inside =
      let count : ℕ = number_at bytes at in
      let long : length (slice (at + 2) (at + 2 + count) bytes) ≡ count = length-slice (at + 2) (at + 2 + count) bytes inside ∙ omega arith in
      rw long (both_stand (number_stands bytes at (small at) (omega arith)) (part_stands bytes (at + 2) (at + 2 + count) (omega arith) inside))

  -- a trivia item
  item_stands : (at : ℕ) → ItemHeld bytes at
      → Stands bytes at (stored_trivium (record { code = get_or bytes at 0; text = trivium_text bytes at })) (trivium_behind bytes at)
  item_stands at held =
      let inside : trivium_behind bytes at ≤ length bytes = held.inside in
      let onward : at < trivium_behind bytes at = held.onward in
      by_test (eqb (get_or bytes at 0) 1)
      (λ q.
      let one : get_or bytes at 0 ≡ 1 = eqb-true (get_or bytes at 0) 1 q in
      rw q (rw one at (byte_stands bytes at (omega arith))))
      (λ q.
      let last : at + 1 + 2 + number_at bytes (at + 1) ≡ at + 3 + number_at bytes (at + 1) = omega arith in
      let first : at + 1 + 2 ≡ at + 3 = omega arith in
      let room : at + 1 + 2 + number_at bytes (at + 1) ≤ length bytes = rw last (rw q at inside) in
      rw q (both_stand (byte_stands bytes at (omega arith)) (rw (last, first) at (sized_stands (at + 1) room))))

  -- trivia items, one behind the other
  items_stand : (at count end : ℕ) → at ≤ length bytes → trivia_end bytes at count ≡ Some end → Stands bytes at (stored_items (trivia_from bytes at count)) end
  unfolding trivia_end trivia_from stored_items
  items_stand at zero end inside e =
      let same : at ≡ end = cc in
      rw (← same) (none_stands bytes at inside)
  items_stand at (suc count) end inside e =
      let held = items_held bytes at count end e in
      both_stand (item_stands at held.0) (items_stand (trivium_behind bytes at) count end held.0.inside held.1)

  -- trivia that were read stand, and their bit
  trivia_stand : (at bit : ℕ) → bit < 2 → at ≤ length bytes → (trivia : TriviaSpan) → trivia_read bytes at bit ≡ Some trivia
      → Stands bytes at (stored_trivia (trivia_from bytes trivia.first trivia.count)) trivia.end
      × (trivia_bit (trivia_from bytes trivia.first trivia.count) ≡ bit)
  unfolding trivia_from
  trivia_stand at bit two inside =
      trivia_cases bytes at bit
      (λ (trivia : TriviaSpan).
      Stands bytes at (stored_trivia (trivia_from bytes trivia.first trivia.count)) trivia.end
      × (trivia_bit (trivia_from bytes trivia.first trivia.count) ≡ bit))
      (λ without. (none_stands bytes at inside, sym without))
      (λ end some room count is.
      let items : List Trivium = trivia_from bytes (at + 2) (number_at bytes at) in
      let counted : length items ≡ number_at bytes at = trivia_counted bytes (at + 2) (number_at bytes at) in (
        rw (trivia_stored items (omega arith), counted)
            (both_stand (number_stands bytes at (small at) room) (items_stand (at + 2) (number_at bytes at) end room is)),
        trivia_bit_lem items (omega arith) ∙ omega arith,
      ))

  -- kind, map and trivia stand
  head_stands : (at : ℕ) (class : Class) (kind : Kind) (trivia : TriviaSpan) → Headed bytes at class kind trivia
      → Stands bytes at (get_or bytes at 0 ∷ get_or bytes (at + 1) 0 ∷ stored_trivia (trivia_from bytes trivia.first trivia.count)) trivia.end
      × (trivia_bit (trivia_from bytes trivia.first trivia.count) ≡ get_or bytes (at + 1) 0 % 2)
      × (at + 2 ≤ trivia.end)
  head_stands at class kind trivia headed =
      let room : at + 2 ≤ length bytes = headed.room in
      let next : at + 1 + 1 ≡ at + 2 = omega arith in
      let read = trivia_stand (at + 2) (get_or bytes (at + 1) 0 % 2) (omega arith) room trivia headed.trivia_is in
      let two : Stands bytes at (get_or bytes at 0 ∷ get_or bytes (at + 1) 0 ∷ []) (at + 2) =
      rw (← next) (both_stand (byte_stands bytes at (omega arith)) (byte_stands bytes (at + 1) (omega arith))) in
      (both_stand two read.0, read.1, read.0.onward)

-- ---- parts

-- the bits of fields fit where those of the fields behind the first do
fits_behind : (slot : Slot) (slots : List Slot) (bits : ℕ) → fields_fit (slot ∷ slots) bits ≡ true → fields_fit slots (bits / 2) ≡ true
unfolding fields_fit
fits_behind (must class) slots bits e = and_true_right (eqb (bits % 2) 1) (fields_fit slots (bits / 2)) e
fits_behind (may class) slots bits e = e

-- the bit of a form that is not empty stands
form_bit : (form : List ℕ) (forms : List (List ℕ)) → 0 < length form → part_bits (form ∷ forms) ≡ 1 + 2 * part_bits forms
unfolding part_bits
form_bit [] forms some = absurd (omega arith)
form_bit (byte ∷ form) forms some = refl

-- there are as many trees as parts
pub trees_counted : (reader : Reader) (parts : List Due) (at : ℕ) → length (read_parts reader parts at).trees ≡ length parts
unfolding read_parts
trees_counted reader [] at = refl
trees_counted reader (nothing ∷ parts) at = rw (trees_counted reader parts at)
trees_counted reader (due class ∷ parts) at = rw (trees_counted reader parts (reader class at).end)

-- there are as many fields as slots
pub fields_counted : (slots : List Slot) (bits : ℕ) → length (fields_due slots bits) ≡ length slots
unfolding fields_due
fields_counted [] bits = refl
fields_counted (slot ∷ slots) bits = rw (fields_counted slots (bits / 2))

-- a record that was read without refusal has its stored form at its place
abbrev Laid : List ℕ → ℕ → Reading → Type 0
Laid bytes at reading = reading.checked ≡ no_refusal → Stands bytes at (stored reading.tree) reading.end × (at < reading.end)

module _ (bytes : List ℕ) (reader : Reader) (below : (class : Class) (at : ℕ) → Laid bytes at (reader class at)) where
  -- parts that were read stand one behind the other
  parts_stand : (parts : List Due) (at : ℕ) → at ≤ length bytes → (read_parts reader parts at).checked ≡ no_refusal
      → Stands bytes at (flat (map stored (read_parts reader parts at).trees)) (read_parts reader parts at).end
  unfolding read_parts flat stored_with
  parts_stand [] at inside e = none_stands bytes at inside
  parts_stand (nothing ∷ parts) at inside e = parts_stand parts at inside e
  parts_stand (due class ∷ parts) at inside e =
      let next : ℕ = (reader class at).end in
      let passed = both_passed (reader class at).checked (read_parts reader parts next).checked e in
      let first = (below class at passed.0).0 in
      both_stand first (parts_stand parts next first.inside passed.1)

  -- the bits of the parts are those of the map
  fields_bits : (slots : List Slot) (bits at : ℕ) → fields_fit slots bits ≡ true → (read_parts reader (fields_due slots bits) at).checked ≡ no_refusal
      → part_bits (map stored (read_parts reader (fields_due slots bits) at).trees) ≡ bits
  unfolding fields_due read_parts part_bits stored_with
  fields_bits [] bits at fits e = sym (eqb-true bits 0 (unfold fields_fit in fits))
  fields_bits (slot ∷ slots) bits at fits e =
      let behind = fits_behind slot slots bits fits in
      by_test (eqb (bits % 2) 1)
      (λ q.
      let class : Class = slot_class slot in
      let next : ℕ = (reader class at).end in
      let passed = both_passed (reader class at).checked (read_parts reader (fields_due slots (bits / 2)) next).checked (rw q at e) in
      let first = below class at passed.0 in
      let some : 0 < length (stored (reader class at).tree) = rw (first.0.same, length-slice at next bytes first.0.inside) (omega arith) in
      let rest = fields_bits slots (bits / 2) next behind passed.1 in
      let forms : List (List ℕ) = map stored (read_parts reader (fields_due slots (bits / 2)) next).trees in
      rw q (form_bit (stored (reader class at).tree) forms some ∙ omega (arith, eqb-true (bits % 2) 1 q)))
      (λ q.
      let rest = fields_bits slots (bits / 2) at behind (rw q at e) in
      rw (q, rest) (omega (arith, eqb-false (bits % 2) 1 q)))

-- ---- a record

-- without items a node or leaf has only its fields
pub no_items : (items : Option Class) → items_due items 0 ≡ []
no_items None = refl
no_items (Some class) = refl

-- a list's items are as many as its count
items_due_lem : (items : Option Class) (count : ℕ) → is_list items ≡ true → length (items_due items count) ≡ count
items_due_lem None count e = true_false (sym e)
items_due_lem (Some class) count e = length-replicate count (due class)

-- a leaf's text has one bit at the most
text_bits : (rule : TextRule) (bits : ℕ) → text_fits rule bits ≡ true → bits < 2
text_bits NoText bits e = omega (arith, eqb-true bits 0 e)
text_bits Free bits e = ltb-true bits 2 e
text_bits (Byte low high) bits e = omega (arith, eqb-true bits 1 e)

-- a map that fits a leaf's record fits its text
leaf_fits : (rule : Rule) (number : ℕ) (kind : Kind) (map : ℕ) → map_fits rule number kind map ≡ true → leaf_number number ≡ true → text_fits rule.text (map / 2) ≡ true
unfolding map_fits
leaf_fits rule number kind map fits leaf =
    by_test (eqb number 24)
    (λ q. true_false (sym (rw (eqb-true number 24 q) at leaf)))
    (λ q. rw leaf at (and_true_right (trivia_fits rule number map) _ (rw q at fits)))

-- one that fits a node's record fits its fields
pub node_fits : (rule : Rule) (number : ℕ) (kind : Kind) (map : ℕ) → map_fits rule number kind map ≡ true → eqb number 24 ≡ false → leaf_number number ≡ false
    → (else_fits number (map / 2) ≡ true) × (fields_fit (fields kind rule.value) (map / 2) ≡ true)
unfolding map_fits
node_fits rule number kind map fits list leaf =
    let both : (else_fits number (map / 2) && fields_fit (fields kind rule.value) (map / 2)) ≡ true =
    rw leaf at (and_true_right (trivia_fits rule number map) _ (rw list at fits)) in
    (and_true_left (else_fits number (map / 2)) _ both, and_true_right (else_fits number (map / 2)) _ both)

module _ (bytes : List ℕ) (small : (i : ℕ) → get_or bytes i 0 < 256) (reader : Reader) (below : (class : Class) (at : ℕ) → Laid bytes at (reader class at))
    (at : ℕ) (class : Class) where
  -- so with a record of its own bytes
  abbrev LaidOwn : Own → Type 0
  LaidOwn own = Laid bytes at (record_of bytes at own (read_parts reader (parts_due class own) own.end))

  -- a list
  list_laid : (kind : Kind) (trivia : TriviaSpan) → Headed bytes at class kind trivia → get_or bytes at 0 ≡ 24 → trivia.end + 2 ≤ length bytes
      → LaidOwn (own_of kind (get_or bytes (at + 1) 0) trivia (trivia.end + 2) (trivia.end + 2) (number_at bytes trivia.end))
  unfolding stored_with built parts_due fields_due map_fits
  list_laid kind trivia headed is room =
      let known : kind_of 24 ≡ Some kind = rw is at headed.kind_is in
      let same : kind ≡ variant.Vec = cc in
      let empty : get_or bytes (at + 1) 0 ≡ 0 = eqb-true _ _ (rw is at headed.fits) in
      let listed : is_list (rule class).items ≡ true = rw is at headed.standing in
      let head = head_stands bytes small at class kind trivia headed in
      rw same (λ passed.
      let count : ℕ = number_at bytes trivia.end in
      let parts : List Due = items_due (rule class).items count in
      let trees : List Tree = (read_parts reader parts (trivia.end + 2)).trees in
      let items = parts_stand bytes reader below parts (trivia.end + 2) room passed in
      let counted : item_count (chain trees) ≡ count = items_counted trees ∙ trees_counted reader parts (trivia.end + 2) ∙ items_due_lem (rule class).items count listed in
      let bit : trivia_bit (trivia_from bytes trivia.first trivia.count) ≡ get_or bytes (at + 1) 0 = head.1 ∙ omega arith in
      let whole = both_stand head.0 (both_stand (number_stands bytes trivia.end (small trivia.end) room) items) in
      (rw (counted, items_stored trees, bit) (rw is at whole), omega (arith, items.onward)))

  -- a leaf, whether its text stands or not
  leaf_laid : (kind : Kind) (trivia : TriviaSpan) (text end : ℕ) → Headed bytes at class kind trivia → leaf_number (get_or bytes at 0) ≡ true
      → Stands bytes trivia.end (stored_text (slice text end bytes)) end → part_bits (stored_text (slice text end bytes) ∷ []) ≡ get_or bytes (at + 1) 0 / 2
      → LaidOwn (own_of kind (get_or bytes (at + 1) 0) trivia text end 0)
  unfolding parts_due fields_due read_parts stored_with flat
  leaf_laid kind trivia text end headed leaf stands bits =
      let number : ℕ = get_or bytes at 0 in
      let items : List Trivium = trivia_from bytes trivia.first trivia.count in
      let letters : List ℕ = slice text end bytes in
      let head = head_stands bytes small at class kind trivia headed in
      let as_leaf = leaf_stored number kind (rule class).value items letters [] leaf headed.kind_is in
      let no_parts : parts_due class (own_of kind (get_or bytes (at + 1) 0) trivia text end 0) ≡ [] = rw (as_leaf.1, no_items (rule class).items) in
      let flags : trivia_bit items + 2 * part_bits (stored_text letters ∷ []) ≡ get_or bytes (at + 1) 0 = omega (arith, head.1, bits) in
      rw no_parts (λ passed.
      (rw (as_leaf.0, flags, append-nil (stored_text letters)) (both_stand head.0 stands), omega (arith, stands.onward)))

  -- a leaf with its text
  text_laid : (kind : Kind) (trivia : TriviaSpan) (end : ℕ) → Headed bytes at class kind trivia → leaf_number (get_or bytes at 0) ≡ true
      → 2 ≤ get_or bytes (at + 1) 0 → TextHeld bytes trivia.end end
      → LaidOwn (own_of kind (get_or bytes (at + 1) 0) trivia (trivia.end + 2) end 0)
  text_laid kind trivia end headed leaf stands held =
      let start : ℕ = trivia.end in
      let inside : start + 2 + number_at bytes start ≤ length bytes = omega (arith, held.inside, held.last) in
      let letters : List ℕ = slice (start + 2) (start + 2 + number_at bytes start) bytes in
      let some : 0 < length letters = rw (length-slice (start + 2) (start + 2 + number_at bytes start) bytes inside) (omega (arith, held.some)) in
      let one = text_bits (rule class).text (get_or bytes (at + 1) 0 / 2) (leaf_fits (rule class) (get_or bytes at 0) kind (get_or bytes (at + 1) 0) headed.fits leaf) in
      leaf_laid kind trivia (start + 2) end headed leaf
      (rw (held.last, text_stored letters some) (sized_stands bytes small start inside))
      (rw held.last (text_bit letters some ∙ omega arith))

  -- a record with fields
  node_laid : (kind : Kind) (trivia : TriviaSpan) → Headed bytes at class kind trivia → eqb (get_or bytes at 0) 24 ≡ false → leaf_number (get_or bytes at 0) ≡ false
      → LaidOwn (own_of kind (get_or bytes (at + 1) 0) trivia trivia.end trivia.end 0)
  unfolding parts_due stored_with
  node_laid kind trivia headed list leaf =
      let number : ℕ = get_or bytes at 0 in
      let flags : ℕ = get_or bytes (at + 1) 0 in
      let end : ℕ = trivia.end in
      let slots : List Slot = fields kind (rule class).value in
      let items : List Trivium = trivia_from bytes trivia.first trivia.count in
      let head = head_stands bytes small at class kind trivia headed in
      let is : kind_number kind ≡ number = kind_number_lem number kind headed.kind_is in
      let only_fields : parts_due class (own_of kind flags trivia end end 0) ≡ fields_due slots (flags / 2) =
      rw (no_items (rule class).items) (append-nil (fields_due slots (flags / 2))) in
      let trees : List Tree = (read_parts reader (fields_due slots (flags / 2)) end).trees in
      let counted : length trees ≡ length slots = trees_counted reader (fields_due slots (flags / 2)) end ∙ fields_counted slots (flags / 2) in
      let as_node = node_stored kind (rule class).value items (slice end end bytes) trees (rw is list) (rw is leaf) in
      rw only_fields (λ passed.
      let parts = parts_stand bytes reader below (fields_due slots (flags / 2)) end head.0.inside passed in
      let bits = fields_bits bytes reader below slots (flags / 2) end
      (node_fits (rule class) number kind flags headed.fits list leaf).1 passed in
      let byte : trivia_bit items + 2 * part_bits (map stored trees) ≡ flags = omega (arith, head.1, bits) in
      (rw (as_node, is, ← counted, forms_all trees, byte) (both_stand head.0 parts), omega (arith, parts.onward)))

  -- a record with neither a count nor a text
  other_laid : (kind : Kind) (trivia : TriviaSpan) → Headed bytes at class kind trivia → eqb (get_or bytes at 0) 24 ≡ false
      → (leaf_number (get_or bytes at 0) && leb 2 (get_or bytes (at + 1) 0)) ≡ false
      → LaidOwn (own_of kind (get_or bytes (at + 1) 0) trivia trivia.end trivia.end 0)
  unfolding part_bits
  other_laid kind trivia headed list no_text =
      let end : ℕ = trivia.end in
      let inside : end ≤ length bytes = (head_stands bytes small at class kind trivia headed).0.inside in
      by_test (leaf_number (get_or bytes at 0))
      (λ leaf.
      leaf_laid kind trivia end end headed leaf
      (rw (slice_empty end bytes) (none_stands bytes end inside))
      (rw (slice_empty end bytes) (omega (arith, leb-false 2 (get_or bytes (at + 1) 0) (rw leaf at no_text)))))
      (λ leaf. node_laid kind trivia headed list leaf)

  -- a record whose own bytes were read
  record_laid : (levels : ℕ) (own : Own) → read_own bytes at class levels ≡ Ok own → LaidOwn own
  record_laid levels own e = own_cases bytes at class LaidOwn list_laid text_laid other_laid levels own e

-- ---- every reading

-- a record that was read without refusal is stored as the bytes from its place to its end, which lie within the bytes
pub round_trip : (levels : ℕ) (bytes : List ℕ) → ((i : ℕ) → get_or bytes i 0 < 256) → (class : Class) (at : ℕ) → (read levels bytes class at).checked ≡ no_refusal
    → (stored (read levels bytes class at).tree ≡ slice at (read levels bytes class at).end bytes)
    × (at < (read levels bytes class at).end)
    × ((read levels bytes class at).end ≤ length bytes)
round_trip levels bytes small class at passed =
    let laid =
    every_reading bytes (λ levels class at reading. Laid bytes at reading)
    (λ levels class at reader why e. failed_passed e)
    (λ levels class at own is below. record_laid bytes small (read levels bytes) below at class (suc levels) own is)
    levels class at passed in
    (laid.0.same, laid.1, laid.0.inside)

-- a tree that passed is stored as its bytes
pub file_round_trip : (limit levels : ℕ) (bytes : List ℕ) → ((i : ℕ) → get_or bytes i 0 < 256) → tree_checked limit levels bytes ≡ no_refusal
    → stored (read_file levels bytes).tree ≡ bytes
file_round_trip limit levels bytes small e =
    let passed = file_passed limit levels bytes e in
    let laid = round_trip levels bytes small Tokens 0 passed.layout in
    let end : ℕ = (read_file levels bytes).end in
    by_choice (ltb end (length bytes)) _ _ no_refusal passed.end
    (λ q f. failed_passed f)
    (λ q f.
    let last : end ≡ length bytes = omega (arith, laid.2, ltb-false end (length bytes) q) in
    laid.0 ∙ rw last (take-length bytes))
