-- A tree that was read without refusal keeps the grammar.
use Rattle.std.specs.Prelude.{Option, Some, None, Ok}
use Rattle.answers.specs.Numbers.{no_refusal}
use mathlib.Core.Path.{◌≡◌, refl, sym, ◌∙◌}
use mathlib.Core.Logic.{inl, inr}
use mathlib.Core.List.{List, [], ◌∷◌, append-nil}
use mathlib.Core.Bool.{true, false, ◌||◌, or-true}
use Prim.Native.Nat.{ℕ, zero, suc, ◌+◌, ◌/◌, ◌%◌, ◌≤◌}
use native.Mathlib.Omega.{arith}
use lib.ListN.{length, get_or}
use lib.Dec.{eqb}
use lib.Seq.{slice}
use borrow.Author.Tests.{eqb-true, ne_eqb}
use Rattle.answers.proofs.Cases.{failed_passed}
use Rattle.text.specs.Numbers.{number_at}
use Rattle.text.proofs.Choices.{by_test, true_false, and_true_left, and_true_right}
use Rattle.tree.specs.Grammar.{Slot, must, may, kind_of, rule, fields}
use Rattle.tree.specs.Own.{is_list, fields_fit, else_fits, trivia_fits, map_fits, own_of, read_own}
use Rattle.tree.specs.Reading.{trivia_from, fields_due, items_due, parts_due, Reading, Reader, read_parts, record_of, read}
use Rattle.tree.specs.Tree.{Tree, absent, nil, Vec, chain, built}
use Rattle.tree.specs.declared.grammar.Kind.{Kind}
use Rattle.tree.specs.declared.grammar.Kind.TheVariants as variant
use Rattle.tree.specs.declared.grammar.Class.{Class}
use Rattle.tree.specs.declared.own.Own.{Own}
use Rattle.tree.specs.declared.own.TriviaSpan.{TriviaSpan}
use Rattle.tree.proofs.Cases.{both_passed}
use Rattle.tree.proofs.KindLayout.{leaf_stored}
use Rattle.tree.proofs.OwnBytes.{Headed, leaf_number, trivia_cases, own_cases, leaf_other}
use Rattle.tree.proofs.RoundTrip.{no_items, node_fits}
use Rattle.tree.proofs.Readings.{every_reading}
use Rattle.events.specs.Views.{view, token_number, stands, bit_at}
use Rattle.events.proofs.OwnParts.{token_number_lem, both_stand}
use Rattle.reading.proofs.Shape.{Allowed, TriviaAllowed, no_trivia, item_in, Given, Shaped}

-- ---- a tree of a kind

-- a field by its slot, and whether it stands by its bit
abbrev SlotShaped : Slot → Tree → Type 0
SlotShaped (must class) tree = Shaped class tree
SlotShaped (may class) tree = Given tree (Shaped class tree)

abbrev FieldShaped : Slot → ℕ → Tree → Type 0
FieldShaped slot bits tree = SlotShaped slot tree × (stands tree ≡ eqb (bits % 2) 1)

-- fields from a place on
abbrev FieldsShaped : List Slot → ℕ → ℕ → List Tree → Type 0
FieldsShaped [] bits place trees = Unit
FieldsShaped (slot ∷ slots) bits place trees = FieldShaped slot bits (get_or trees place absent) × FieldsShaped slots (bits / 2) (suc place) trees

-- `else` and its block stand together
else_together : (bits : ℕ) (tag block : Tree) → else_fits 10 bits ≡ true → stands tag ≡ eqb (bits / 2 / 2 / 2 % 2) 1 → stands block ≡ eqb (bits / 2 / 2 / 2 / 2 % 2) 1
    → stands tag ≡ stands block
unfolding bit_at
else_together bits tag block fits tags blocks = tags ∙ both_stand bits fits ∙ sym blocks

-- a tree of a kind that may stand there, of fields that keep the grammar
built_shaped : (kind : Kind) (class : Class) (text : List ℕ) (bits : ℕ) (trees : List Tree) → Allowed class (token_number (built kind text trees))
    → else_fits (token_number (built kind text trees)) bits ≡ true → eqb (token_number (built kind text trees)) 24 ≡ false
    → FieldsShaped (fields kind (rule class).value) bits 0 trees → Shaped class (built kind text trees)
unfolding Shaped built view
built_shaped variant.Align class text bits trees allowed fits other parts = (allowed, parts.0.0, parts.1.0.0)
built_shaped variant.Assert class text bits trees allowed fits other parts = (allowed, parts.0.0, parts.1.0.0, parts.1.1.0.0)
built_shaped variant.Braces class text bits trees allowed fits other parts = (allowed, parts.0.0)
built_shaped variant.Config class text bits trees allowed fits other parts = (allowed, parts.0.0)
built_shaped variant.ConfigPair class text bits trees allowed fits other parts = (allowed, parts.0.0, parts.1.0.0, parts.1.1.0.0)
built_shaped variant.Data class text bits trees allowed fits other parts = (allowed, parts.0.0, parts.1.0.0)
built_shaped variant.Definition class text bits trees allowed fits other parts = (allowed, parts.0.0, parts.1.0.0, parts.1.1.0.0)
built_shaped variant.Eof class text bits trees allowed fits other parts = (allowed, parts.0.0)
built_shaped variant.Error class text bits trees allowed fits other parts = (allowed, parts.0.0)
built_shaped variant.Expression class text bits trees allowed fits other parts = (allowed, parts.0.0)
built_shaped variant.If class text bits trees allowed fits other parts = (
  allowed,
  parts.0.0,
  parts.1.0.0,
  parts.1.1.0.0,
  parts.1.1.1.0.0,
  parts.1.1.1.1.0.0,
  else_together bits (get_or trees 3 absent)
      (get_or trees 4 absent) fits parts.1.1.1.0.1 parts.1.1.1.1.0.1,
)
built_shaped variant.Import class text bits trees allowed fits other parts = (allowed, parts.0.0, parts.1.0.0, parts.1.1.0.0, parts.1.1.1.0.0, parts.1.1.1.1.0.0)
built_shaped variant.File class text bits trees allowed fits other parts = (allowed, parts.0.0, parts.1.0.0)
built_shaped variant.Instruction class text bits trees allowed fits other parts = (allowed, parts.0.0, parts.1.0.0)
built_shaped variant.Label class text bits trees allowed fits other parts = (allowed, parts.0.0, parts.1.0.0, parts.1.1.0.0)
built_shaped variant.Loop class text bits trees allowed fits other parts = (allowed, parts.0.0, parts.1.0.0, parts.1.1.0.0)
built_shaped variant.MacroDefinition class text bits trees allowed fits other parts =
    (allowed, parts.0.0, parts.1.0.0, parts.1.1.0.0, parts.1.1.1.0.0, parts.1.1.1.1.0.0, parts.1.1.1.1.1.0.0)
built_shaped variant.MacroInvocation class text bits trees allowed fits other parts = (allowed, parts.0.0, parts.1.0.0, parts.1.1.0.0, parts.1.1.1.0.0)
built_shaped variant.ProgramCounterDefinition class text bits trees allowed fits other parts = (allowed, parts.0.0, parts.1.0.0, parts.1.1.0.0)
built_shaped variant.Segment class text bits trees allowed fits other parts = (allowed, parts.0.0, parts.1.0.0, parts.1.1.0.0)
built_shaped variant.Test class text bits trees allowed fits other parts = (allowed, parts.0.0, parts.1.0.0, parts.1.1.0.0)
built_shaped variant.Text class text bits trees allowed fits other parts = (allowed, parts.0.0, parts.1.0.0, parts.1.1.0.0)
built_shaped variant.Trace class text bits trees allowed fits other parts = (allowed, parts.0.0, parts.1.0.0, parts.1.1.0.0, parts.1.1.1.0.0)
built_shaped variant.VariableDefinition class text bits trees allowed fits other parts = (allowed, parts.0.0, parts.1.0.0, parts.1.1.0.0, parts.1.1.1.0.0)
built_shaped variant.Vec class text bits trees allowed fits other parts = true_false other
built_shaped variant.Leaf class text bits trees allowed fits other parts = allowed
built_shaped variant.PathItem class text bits trees allowed fits other parts = allowed
built_shaped variant.Block class text bits trees allowed fits other parts = (allowed, parts.0.0, parts.1.0.0, parts.1.1.0.0)
built_shaped variant.BinaryExpression class text bits trees allowed fits other parts = (allowed, parts.0.0, parts.1.0.0, parts.1.1.0.0)
built_shaped variant.Factor class text bits trees allowed fits other parts = (allowed, parts.0.0, parts.1.0.0, parts.1.1.0.0)
built_shaped variant.CurrentProgramCounter class text bits trees allowed fits other parts = (allowed, parts.0.0)
built_shaped variant.ExprParens class text bits trees allowed fits other parts = (allowed, parts.0.0, parts.1.0.0, parts.1.1.0.0)
built_shaped variant.FunctionCall class text bits trees allowed fits other parts = (allowed, parts.0.0, parts.1.0.0, parts.1.1.0.0, parts.1.1.1.0.0)
built_shaped variant.IdentifierValue class text bits trees allowed fits other parts = (allowed, parts.0.0, parts.1.0.0)
built_shaped variant.Number class text bits trees allowed fits other parts = (allowed, parts.0.0, parts.1.0.0)
built_shaped variant.StringFactor class text bits trees allowed fits other parts = (allowed, parts.0.0)
built_shaped variant.InterpolatedString class text bits trees allowed fits other parts = (allowed, parts.0.0, parts.1.0.0)
built_shaped variant.Operand class text bits trees allowed fits other parts = (allowed, parts.0.0, parts.1.0.0, parts.1.1.0.0, parts.1.1.1.0.0, parts.1.1.1.1.0.0)
built_shaped variant.RegisterSuffix class text bits trees allowed fits other parts = (allowed, parts.0.0, parts.1.0.0)
built_shaped variant.ImportAs class text bits trees allowed fits other parts = (allowed, parts.0.0, parts.1.0.0)
built_shaped variant.ImportAll class text bits trees allowed fits other parts = (allowed, parts.0.0, parts.1.0.0)
built_shaped variant.SpecificImportArg class text bits trees allowed fits other parts = (allowed, parts.0.0, parts.1.0.0)
built_shaped variant.ArgItem class text bits trees allowed fits other parts = (allowed, parts.0.0, parts.1.0.0)

-- ---- trivia

-- trivia stand only where they may
trivia_allowed : (bytes : List ℕ) (at : ℕ) (class : Class) (kind : Kind) (trivia : TriviaSpan) → Headed bytes at class kind trivia
    → (tree : Tree) → token_number tree ≡ get_or bytes at 0 → TriviaAllowed class (trivia_from bytes trivia.first trivia.count) tree
unfolding trivia_from map_fits
trivia_allowed bytes at class kind trivia headed tree number =
    trivia_cases bytes (at + 2) (get_or bytes (at + 1) 0 % 2)
    (λ (span : TriviaSpan). TriviaAllowed class (trivia_from bytes span.first span.count) tree)
    (λ without. refl)
    (λ end some room count is.
    let bit : eqb (get_or bytes (at + 1) 0 % 2) 0 ≡ false = ne_eqb (get_or bytes (at + 1) 0 % 2) 0 some in
    by_test (eqb (get_or bytes at 0) 24)
    (λ q. absurd (some (omega (arith, eqb-true (get_or bytes (at + 1) 0) 0 (rw q at headed.fits)))))
    (λ q.
    let located : ((rule class).located || eqb (token_number tree) 26) ≡ true =
    rw number (rw bit at (and_true_left (trivia_fits (rule class) (get_or bytes at 0) (get_or bytes (at + 1) 0)) _ (rw q at headed.fits))) in
    rw located (or-true (no_trivia (trivia_from bytes (at + 2 + 2) (number_at bytes (at + 2)))))))
    trivia headed.trivia_is

-- ---- parts

-- what is claimed of a reading
abbrev Reads : Class → Reading → Type 0
Reads class reading = reading.checked ≡ no_refusal → Shaped class reading.tree × (stands reading.tree ≡ true)

-- fields behind another
fields_behind : (slots : List Slot) (bits place : ℕ) (tree : Tree) (trees : List Tree) → FieldsShaped slots bits place trees → FieldsShaped slots bits (suc place) (tree ∷ trees)
fields_behind [] bits place tree trees parts = tt
fields_behind (slot ∷ slots) bits place tree trees parts = (parts.0, fields_behind slots (bits / 2) (suc place) tree trees parts.1)

module _ (reader : Reader) (below : (class : Class) (at : ℕ) → Reads class (reader class at)) where
  -- fields whose bits fit keep the grammar
  fields_shaped : (slots : List Slot) (bits at : ℕ) → fields_fit slots bits ≡ true → (read_parts reader (fields_due slots bits) at).checked ≡ no_refusal
      → FieldsShaped slots bits 0 (read_parts reader (fields_due slots bits) at).trees
  unfolding fields_fit fields_due read_parts view
  fields_shaped [] bits at fits e = tt
  fields_shaped (must class ∷ slots) bits at fits e =
      let q : eqb (bits % 2) 1 ≡ true = and_true_left (eqb (bits % 2) 1) (fields_fit slots (bits / 2)) fits in
      let next : ℕ = (reader class at).end in
      let passed = both_passed (reader class at).checked (read_parts reader (fields_due slots (bits / 2)) next).checked (rw q at e) in
      let one = below class at passed.0 in
      let rest = fields_shaped slots (bits / 2) next (and_true_right (eqb (bits % 2) 1) (fields_fit slots (bits / 2)) fits) passed.1 in
      rw q ((one.0, one.1), fields_behind slots (bits / 2) 0 _ _ rest)
  fields_shaped (may class ∷ slots) bits at fits e =
      by_test (eqb (bits % 2) 1)
      (λ q.
      let next : ℕ = (reader class at).end in
      let passed = both_passed (reader class at).checked (read_parts reader (fields_due slots (bits / 2)) next).checked (rw q at e) in
      let one = below class at passed.0 in
      let rest = fields_shaped slots (bits / 2) next fits passed.1 in
      rw q ((inr one.0, one.1), fields_behind slots (bits / 2) 0 _ _ rest))
      (λ q.
      let rest = fields_shaped slots (bits / 2) at fits (rw q at e) in
      rw q ((inl refl, refl), fields_behind slots (bits / 2) 0 _ _ rest))

  -- so do the items of a list
  items_shaped : (class : Class) (items : Option Class) → (rule class).items ≡ items → is_list items ≡ true → (count at : ℕ) → (read_parts reader (items_due items count) at).checked ≡ no_refusal
      → Shaped class (chain (read_parts reader (items_due items count) at).trees)
  unfolding read_parts chain Shaped
  items_shaped class None is listed count at e = true_false (sym listed)
  items_shaped class (Some item) is listed zero at e = rw is
  items_shaped class (Some item) is listed (suc count) at e =
      let next : ℕ = (reader item at).end in
      let passed = both_passed (reader item at).checked (read_parts reader (items_due (Some item) count) next).checked e in
      let one : Shaped (item_in (rule class).items class) (reader item at).tree = rw is (below item at passed.0).0 in
      (rw is, one, items_shaped class (Some item) is listed count next passed.1)

-- ---- a record

-- a leaf is no `If`
leaf_else : (number bits : ℕ) → leaf_number number ≡ true → else_fits number bits ≡ true
leaf_else number bits leaf =
    by_test (eqb number 25)
    (λ q. rw (eqb-true number 25 q))
    (λ q. let is : number ≡ 26 = eqb-true number 26 (rw q at leaf) in rw is)

module _ (bytes : List ℕ) (reader : Reader) (below : (class : Class) (at : ℕ) → Reads class (reader class at)) (at : ℕ) (class : Class) where
  abbrev OwnReads : Own → Type 0
  OwnReads own = Reads class (record_of bytes at own (read_parts reader (parts_due class own) own.end))

  -- a list
  list_reads : (kind : Kind) (trivia : TriviaSpan) → Headed bytes at class kind trivia → get_or bytes at 0 ≡ 24 → trivia.end + 2 ≤ length bytes
      → OwnReads (own_of kind (get_or bytes (at + 1) 0) trivia (trivia.end + 2) (trivia.end + 2) (number_at bytes trivia.end))
  unfolding built parts_due fields_due Shaped view
  list_reads kind trivia headed is room =
      let known : kind_of 24 ≡ Some kind = rw is at headed.kind_is in
      let same : kind ≡ variant.Vec = cc in
      let listed : is_list (rule class).items ≡ true = rw is at headed.standing in
      let allowed = trivia_allowed bytes at class kind trivia headed in
      rw same (λ passed.
      ((allowed (Vec nil) (sym is), (listed, items_shaped reader below class (rule class).items refl listed (number_at bytes trivia.end) (trivia.end + 2) passed)), refl))

  -- any other record
  other_reads : (kind : Kind) (trivia : TriviaSpan) (text end : ℕ) → Headed bytes at class kind trivia → eqb (get_or bytes at 0) 24 ≡ false
      → OwnReads (own_of kind (get_or bytes (at + 1) 0) trivia text end 0)
  unfolding parts_due Shaped view
  other_reads kind trivia text end headed list =
      let number : ℕ = get_or bytes at 0 in
      let flags : ℕ = get_or bytes (at + 1) 0 in
      let slots : List Slot = fields kind (rule class).value in
      let only_fields : parts_due class (own_of kind flags trivia text end 0) ≡ fields_due slots (flags / 2) =
      rw (no_items (rule class).items) (append-nil (fields_due slots (flags / 2))) in
      rw only_fields (λ passed.
      let trees : List Tree = (read_parts reader (fields_due slots (flags / 2)) end).trees in
      let tree : Tree = built kind (slice text end bytes) trees in
      let is : token_number tree ≡ number = token_number_lem number kind (slice text end bytes) trees headed.kind_is in
      let shaped : Shaped class tree =
      by_test (leaf_number number)
      (λ leaf.
      let none : slots ≡ [] = (leaf_stored number kind (rule class).value [] [] [] leaf headed.kind_is).1 in
      built_shaped kind class (slice text end bytes) (flags / 2) trees (rw is headed.standing) (rw is (leaf_else number (flags / 2) leaf)) (rw is list) (rw none tt))
      (λ leaf.
      let fits = node_fits (rule class) number kind flags headed.fits list leaf in
      built_shaped kind class (slice text end bytes) (flags / 2) trees (rw is headed.standing) (rw is fits.0) (rw is list)
      (fields_shaped reader below slots (flags / 2) end fits.1 passed)) in
      ((trivia_allowed bytes at class kind trivia headed tree is, shaped), refl))

  -- a record whose own bytes were read
  record_reads : (levels : ℕ) (own : Own) → read_own bytes at class levels ≡ Ok own → OwnReads own
  record_reads levels own e =
      own_cases bytes at class OwnReads list_reads
      (λ kind trivia end headed leaf stands text. other_reads kind trivia (trivia.end + 2) end headed (leaf_other (get_or bytes at 0) leaf))
      (λ kind trivia headed list no_text. other_reads kind trivia trivia.end trivia.end headed list)
      levels own e

-- ---- every reading

-- a tree that was read without refusal keeps the grammar
pub read_shaped : (levels : ℕ) (bytes : List ℕ) (class : Class) (at : ℕ) → (read levels bytes class at).checked ≡ no_refusal → Shaped class (read levels bytes class at).tree
read_shaped levels bytes class at passed =
    (every_reading bytes (λ levels class at reading. Reads class reading)
    (λ levels class at reader why e. failed_passed e)
    (λ levels class at own is below. record_reads bytes (read levels bytes) below at class (suc levels) own is)
    levels class at passed).0
