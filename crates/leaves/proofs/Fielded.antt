-- Records of a kind: reading them is reading the fields, or the items, behind own bytes.
--   kind_read : a record of a kind with fields
--   list_read : one that is a list
use Rattle.std.specs.Prelude.{Some, None, Ok}
use mathlib.Core.Path.{◌≡◌, refl, sym, ap, ◌∙◌}
use mathlib.Core.Logic.{⊎_elim}
use mathlib.Core.List.{List, [], ◌∷◌}
use mathlib.Core.Bool.{Bool, true, false, ◌&&◌, ◌||◌}
use Prim.Native.Nat.{ℕ, zero, suc, ◌-◌, ◌/◌, ◌%◌, ◌≤◌}
use lib.ListN.{get_or, replicate}
use lib.Dec.{eqb, leb}
use borrow.Author.Tests.{leb-true}
use Rattle.text.proofs.Choices.{by_test, true_false, and_true_left, and_true_right, neither}
use Rattle.tree.specs.Tree.{Tree, node, built}
use Rattle.tree.specs.Grammar.{Slot, must, may, rule, fields}
use Rattle.tree.specs.Own.{fields_fit, may_stand, read_own}
use Rattle.tree.specs.Reading.{Reader, due, fields_due, parts_due, read_parts, trivia_of, read}
use Rattle.tree.specs.declared.grammar.Kind.{Kind}
use Rattle.tree.specs.declared.grammar.Kind.TheVariants as variant
use Rattle.tree.specs.declared.grammar.Class.{Class}
use Rattle.tree.specs.declared.grammar.Rule.{Rule}
use Rattle.tree.specs.declared.own.Own.{Own}
use Rattle.tree.specs.Grammar.{kind_number}
use Rattle.tree.proofs.KindLayout.{kind_number_lem}
use Rattle.tree.proofs.OwnBytes.{leaf_number}
use Rattle.events.specs.Views.{bit_at}
use Rattle.events.proofs.OwnParts.{record_headed, record_parts}
use Rattle.leaves.specs.Lists.{item_trees, items_end}
use Rattle.leaves.specs.Records.{field_trees, fields_end}
use Rattle.leaves.proofs.Records.{read_record}

-- ---- fields

-- fields whose bits fit are read one behind the other
fields_read : (reader : Reader) (slots : List Slot) (bits at : ℕ) → fields_fit slots bits ≡ true
    → ((read_parts reader (fields_due slots bits) at).trees ≡ field_trees reader slots bits at) × ((read_parts reader (fields_due slots bits) at).end ≡ fields_end reader slots bits at)
unfolding fields_fit fields_due read_parts field_trees fields_end bit_at
fields_read reader [] bits at fits = (refl, refl)
fields_read reader (must class ∷ slots) bits at fits =
    let rest = fields_read reader slots (bits / 2) (reader class at).end (and_true_right (eqb (bits % 2) 1) (fields_fit slots (bits / 2)) fits) in
    rw (and_true_left (eqb (bits % 2) 1) (fields_fit slots (bits / 2)) fits, rest.0, rest.1) (refl, refl)
fields_read reader (may class ∷ slots) bits at fits =
    by_test (eqb (bits % 2) 1)
    (λ stands. let rest = fields_read reader slots (bits / 2) (reader class at).end fits in rw (stands, rest.0, rest.1) (refl, refl))
    (λ none. let rest = fields_read reader slots (bits / 2) at fits in rw (none, rest.0, rest.1) (refl, refl))

-- a kind with fields: neither a list nor a leaf
abbrev pub bare : Kind → Bool
bare kind = eqb (kind_number kind) 24 || leaf_number (kind_number kind)

-- its tree has no text
text_free : (kind : Kind) (text : List ℕ) (trees : List Tree) → bare kind ≡ false → built kind text trees ≡ built kind [] trees
unfolding built
text_free variant.Align text trees other = refl
text_free variant.Assert text trees other = refl
text_free variant.Braces text trees other = refl
text_free variant.Config text trees other = refl
text_free variant.ConfigPair text trees other = refl
text_free variant.Data text trees other = refl
text_free variant.Definition text trees other = refl
text_free variant.Eof text trees other = refl
text_free variant.Error text trees other = refl
text_free variant.Expression text trees other = refl
text_free variant.If text trees other = refl
text_free variant.Import text trees other = refl
text_free variant.File text trees other = refl
text_free variant.Instruction text trees other = refl
text_free variant.Label text trees other = refl
text_free variant.Loop text trees other = refl
text_free variant.MacroDefinition text trees other = refl
text_free variant.MacroInvocation text trees other = refl
text_free variant.ProgramCounterDefinition text trees other = refl
text_free variant.Segment text trees other = refl
text_free variant.Test text trees other = refl
text_free variant.Text text trees other = refl
text_free variant.Trace text trees other = refl
text_free variant.VariableDefinition text trees other = refl
text_free variant.Vec text trees other = refl
text_free variant.Leaf text trees other = true_false other
text_free variant.PathItem text trees other = true_false other
text_free variant.Block text trees other = refl
text_free variant.BinaryExpression text trees other = refl
text_free variant.Factor text trees other = refl
text_free variant.CurrentProgramCounter text trees other = refl
text_free variant.ExprParens text trees other = refl
text_free variant.FunctionCall text trees other = refl
text_free variant.IdentifierValue text trees other = refl
text_free variant.Number text trees other = refl
text_free variant.StringFactor text trees other = refl
text_free variant.InterpolatedString text trees other = refl
text_free variant.Operand text trees other = refl
text_free variant.RegisterSuffix text trees other = refl
text_free variant.ImportAs text trees other = refl
text_free variant.ImportAll text trees other = refl
text_free variant.SpecificImportArg text trees other = refl
text_free variant.ArgItem text trees other = refl

-- its fields are read one behind the other
pub kind_read : (bytes : List ℕ) (class : Class) (at levels : ℕ) (own : Own) (kind : Kind) → read_own bytes at class levels ≡ Ok own → own.kind ≡ kind → bare kind ≡ false
    → ((read levels bytes class at).tree ≡ node at (trivia_of bytes own) (built kind [] (field_trees (read (levels - 1) bytes) (fields kind (rule class).value) (own.map / 2) own.end)))
    × ((read levels bytes class at).end ≡ fields_end (read (levels - 1) bytes) (fields kind (rule class).value) (own.map / 2) own.end)
kind_read bytes class at levels own kind is same other =
    let number : kind_number kind ≡ get_or bytes at 0 = ap kind_number (sym same) ∙ kind_number_lem (get_or bytes at 0) own.kind (record_headed bytes at class levels own is).1.kind_is in
    let both = neither (eqb (kind_number kind) 24) (leaf_number (kind_number kind)) other in
    ⊎_elim
    (λ vec.
    let list : kind ≡ variant.Vec = sym same ∙ vec in
    true_false (rw list at both.0))
    (λ held.
    let fit = held.fits (rw number at both.1) in
    let done = fields_read (read (levels - 1) bytes) (fields own.kind (rule class).value) (own.map / 2) own.end fit in
    rw ((read_record bytes class at levels own is).1, held.parts, done.0, done.1, same, text_free kind _ _ other) (refl, refl))
    (record_parts bytes at class levels own is)

-- where no list may stand it lies between the first and the last
pub standing_range : (rule : Rule) (number : ℕ) → rule.items ≡ None → may_stand rule number ≡ true
    → (kind_number rule.first ≤ number) × (number ≤ kind_number rule.last)
standing_range rule number none stands =
    by_test (eqb number 24)
    (λ list. true_false (sym (rw (list, none) at stands)))
    (λ other.
    let within : (leb (kind_number rule.first) number && leb number (kind_number rule.last)) ≡ true = rw other at stands in (
      leb-true _ _ (and_true_left (leb (kind_number rule.first) number) (leb number (kind_number rule.last)) within),
      leb-true _ _ (and_true_right (leb (kind_number rule.first) number) (leb number (kind_number rule.last)) within),
    ))

-- ---- items

-- items are read one behind the other
items_read : (reader : Reader) (class : Class) (count at : ℕ)
    → ((read_parts reader (replicate count (due class)) at).trees ≡ item_trees reader class count at)
    × ((read_parts reader (replicate count (due class)) at).end ≡ items_end reader class count at)
unfolding read_parts item_trees items_end
items_read reader class zero at = (refl, refl)
items_read reader class (suc count) at =
    let rest = items_read reader class count (reader class at).end in rw (rest.0, rest.1) (refl, refl)

-- so are those of a list
pub list_read : (bytes : List ℕ) (class item : Class) (at levels : ℕ) (own : Own) → read_own bytes at class levels ≡ Ok own → own.kind ≡ variant.Vec
    → (rule class).items ≡ Some item
    → ((read levels bytes class at).tree ≡ node at (trivia_of bytes own) (built variant.Vec [] (item_trees (read (levels - 1) bytes) item own.count own.end)))
    × ((read levels bytes class at).end ≡ items_end (read (levels - 1) bytes) item own.count own.end)
unfolding parts_due fields_due built
list_read bytes class item at levels own is same items =
    let done = items_read (read (levels - 1) bytes) item own.count own.end in
    rw ((read_record bytes class at levels own is).1, same, items, done.0, done.1) (refl, refl)
