-- Laws of the expressions' printers: which kind is left where no other stands, and what goes on item by item.
use mathlib.Core.Path.{◌≡◌, refl}
use mathlib.Core.Bool.{Bool, true, false, ◌&&◌}
use Prim.Native.Nat.{ℕ, zero, suc, ◌-◌, ◌<◌, ◌≤◌}
use native.Mathlib.Omega.{arith}
use native.Mathlib.Numerals.{sub-one}
use lib.ListN.{get_or}
use lib.Dec.{eqb, leb}
use borrow.Author.Tests.{eqb-true}
use Rattle.std.specs.Prelude.{Option, Some, None}
use Rattle.text.proofs.Choices.{by_test, no_other}
use Rattle.tree.specs.Tree.{built, chain}
use Rattle.tree.specs.Grammar.{rule}
use Rattle.tree.specs.Own.{may_stand}
use Rattle.tree.specs.Reading.{read}
use Rattle.tree.specs.declared.grammar.Class.TheVariants.{LocatedFactor}
use Rattle.tree.specs.declared.grammar.Kind.TheVariants as variant
use Rattle.tree.specs.declared.own.Own.{Own}
use Rattle.tree.specs.Grammar.{kind_number}
use Rattle.tree.proofs.KindLayout.{kind_number_lem}
use Rattle.printing.specs.Events.{clear}
use Rattle.events.specs.Trees.{events_in}
use Rattle.events.proofs.OwnParts.{record_headed}
use Rattle.leaves.specs.Lists.{item_trees, items_end}
use Rattle.printers.specs.declared.Printer.{Printer}
use Rattle.printers.specs.Going.{Goes}
use Rattle.printers.specs.Records.{GoesRecord, Opens}
use Rattle.printers.proofs.Going.{◌onward◌}
use Rattle.printers.proofs.Opening.{opened_own, opened_range, opened_by_number}
use Rattle.expressions.specs.Expressions.{expression_class, list_class, item_class, value_class, list_place}
use Rattle.expressions.specs.declared.expression.Arguments.{Arguments}
use Rattle.expressions.specs.declared.expression.Arguments.TheVariants.{Expressions, Identifiers, Imports}

-- ---- the classes

-- an expression's
expression_rule : (located : Bool) → (rule (expression_class located)).items ≡ None
expression_rule true = refl
expression_rule false = refl

-- an argument's
pub item_rule : (of : Arguments) → ((rule (item_class of)).items ≡ None)
    × ((rule (item_class of)).first ≡ variant.ArgItem) × ((rule (item_class of)).last ≡ variant.ArgItem)
    × ((rule (item_class of)).value ≡ value_class of)
item_rule Expressions = (refl, refl, refl, refl)
item_rule Identifiers = (refl, refl, refl, refl)
item_rule Imports = (refl, refl, refl, refl)

-- ---- which kind is left

-- an expression that is not a binary one is a factor, with trivia or without
factor_left : (located : Bool) (number : ℕ)
    → (kind_number (rule (expression_class located)).first ≤ number) × (number ≤ kind_number (rule (expression_class located)).last)
    → (number ≡ 28 → ⊥) → number ≡ 29
factor_left true number range other = omega (arith, range.0, range.1, other)
factor_left false number range other = omega (arith, range.0, range.1, other)

-- where it is not named by its number, that of a list, it would be a star's
list_other : (of : Arguments) (number : ℕ)
    → (leb (kind_number (rule (list_class of)).first) number && leb number (kind_number (rule (list_class of)).last)) ≡ true
    → (number ≡ 40 → ⊥) → number ≡ 24
list_other Expressions number within other = no_other 24 number within
list_other Identifiers number within other = no_other 24 number within
list_other Imports number within other = absurd (other (no_other 40 number within))

-- where no star stands it is the list
list_number : (of : Arguments) (number : ℕ) → may_stand (rule (list_class of)) number ≡ true → (number ≡ 40 → ⊥) → number ≡ 24
list_number of number standing other =
    by_test (eqb number 24)
    (λ same. eqb-true number 24 same)
    (λ differs.
    let within : (leb (kind_number (rule (list_class of)).first) number && leb number (kind_number (rule (list_class of)).last)) ≡ true =
    rw differs at standing in
    list_other of number within other)

-- what is left where a record was opened
module _ {before between : Printer} {shown : Bool} {levels : ℕ} {stands : Bool} {found : Option Own} {own : Own} where
  -- of the expressions, where it is no binary one
  pub factor_is : (located : Bool) → Opens before between shown levels (expression_class located) stands found → found ≡ Some own
      → (own.kind ≡ variant.BinaryExpression → ⊥) → own.kind ≡ variant.Factor
  unfolding built
  factor_is located opens is no_binary =
      let number = factor_left located (kind_number own.kind) (opened_range opens is (expression_rule located))
      (λ same. no_binary (opened_by_number opens is 28 variant.BinaryExpression same refl)) in
      opened_by_number opens is 29 variant.Factor number refl

  -- of the factor's cases, where it is none of those with an arm
  pub counter_is : Opens before between shown levels LocatedFactor stands found → found ≡ Some own
      → (own.kind ≡ variant.ExprParens → ⊥) → (own.kind ≡ variant.FunctionCall → ⊥) → (own.kind ≡ variant.IdentifierValue → ⊥)
      → (own.kind ≡ variant.Number → ⊥) → (own.kind ≡ variant.StringFactor → ⊥) → own.kind ≡ variant.CurrentProgramCounter
  unfolding built
  counter_is opens is no_parens no_call no_identifier no_number no_string =
      let range = opened_range opens is refl in
      let not31 : kind_number own.kind ≡ 31 → ⊥ = λ same. no_parens (opened_by_number opens is 31 variant.ExprParens same refl) in
      let not32 : kind_number own.kind ≡ 32 → ⊥ = λ same. no_call (opened_by_number opens is 32 variant.FunctionCall same refl) in
      let not33 : kind_number own.kind ≡ 33 → ⊥ = λ same. no_identifier (opened_by_number opens is 33 variant.IdentifierValue same refl) in
      let not34 : kind_number own.kind ≡ 34 → ⊥ = λ same. no_number (opened_by_number opens is 34 variant.Number same refl) in
      let not35 : kind_number own.kind ≡ 35 → ⊥ = λ same. no_string (opened_by_number opens is 35 variant.StringFactor same refl) in
      let number : kind_number own.kind ≡ 30 = omega (arith, range.0, range.1, not31, not32, not33, not34, not35) in
      opened_by_number opens is 30 variant.CurrentProgramCounter number refl

  -- of arguments, where it is no star
  pub list_is : (of : Arguments) → Opens before between shown levels (list_class of) stands found → found ≡ Some own
      → (own.kind ≡ variant.ImportAll → ⊥) → own.kind ≡ variant.Vec
  unfolding built
  list_is of opens is no_star =
      let headed = (record_headed before.tree.now before.at (list_class of) levels own (opened_own opens is).1).1 in
      let number = list_number of (kind_number own.kind) (rw (kind_number_lem (get_or before.tree.now before.at 0) own.kind headed.kind_is) headed.standing)
      (λ same. no_star (opened_by_number opens is 40 variant.ImportAll same refl)) in
      opened_by_number opens is 24 variant.Vec number refl

-- the items of such a list
pub list_items : (of : Arguments) → (rule (list_class of)).items ≡ Some (item_class of)
list_items Expressions = refl
list_items Identifiers = refl
list_items Imports = refl

-- ---- a list, item by item

-- so many arguments go on
abbrev pub GoesArguments : Printer → Printer → ℕ → Arguments → ℕ → Type 0
GoesArguments before after levels of left =
    Goes before after (λ page at. events_in page.context (list_place of) true (chain (item_trees (read levels page.tree) (item_class of) left at)))
    (λ page at. items_end (read levels page.tree) (item_class of) left at)

module _ {before after : Printer} (levels : ℕ) where
  -- no item is left
  pub none_left : (of : Arguments) (left : ℕ) → left ≤ 0 → Goes before after (λ page at. clear) (λ page at. at) → GoesArguments before after levels of left
  unfolding events_in chain item_trees items_end
  none_left of (suc left) none goes = absurd (omega arith)
  none_left Expressions zero none goes = goes
  none_left Identifiers zero none goes = goes
  none_left Imports zero none goes = goes

  -- one item, and those that are left behind it
  pub one_left : {between : Printer} (of : Arguments) (left : ℕ) → 0 < left → GoesRecord before between (list_place of) true levels (item_class of)
      → GoesArguments between after levels of (left - 1) → GoesArguments before after levels of left
  unfolding events_in chain item_trees items_end
  one_left of zero some item rest = absurd (omega arith)
  one_left Expressions (suc left) some item rest = item onward (rw sub-one at rest)
  one_left Identifiers (suc left) some item rest = item onward (rw sub-one at rest)
  one_left Imports (suc left) some item rest = item onward (rw sub-one at rest)
