-- What a printer goes on with is what its calls go on with one behind the other; each call is of fewer levels, or of the same levels
-- from a printer of fields to one of records.
use mathlib.Core.Path.{◌≡◌, refl, sym, ◌∙◌}
use mathlib.Core.Logic.{⊎_elim}
use mathlib.Core.Bool.{true, false, cond, ◌||◌}
use Prim.Native.Nat.{◌+◌, ◌-◌}
use native.Mathlib.Omega.{arith}
use Rattle.tree.specs.Tree.{built}
use Rattle.tree.specs.Reading.{read}
use Rattle.tree.specs.declared.grammar.Class.TheVariants.{Char, LocatedFactor}
use Rattle.tree.specs.declared.grammar.Kind.TheVariants as variant
use Rattle.printing.specs.Running.{run}
use Rattle.events.specs.Printed.{plain}
use Rattle.events.specs.Views.{view, bit_at}
use Rattle.events.specs.Trees.{leaf, events_in}
use Rattle.leaves.specs.Records.{field_trees, fields_end}
use Rattle.leaves.proofs.Classes.{word_leaf, char_leaf, binary_op_leaf}
use Rattle.printers.proofs.Going.{◌onward◌, runs_alike, ends_alike, aside, has_ended}
use Rattle.printers.proofs.Opening.{closed, opened_levels, opened_one, opened_kind, opened_list}
use Rattle.expressions.specs.Expressions.{item_class, list_place}
use Rattle.expressions.proofs.Stands.{field_stands}
use Rattle.expressions.proofs.Cycle.{item_rule, factor_is, counter_is, list_is, list_items, none_left, one_left}
use Rattle.expressions.proofs.expression.+expression.Goals as goal

-- ---- format_argument: the value, its comma and a space to come are the events of the record that was opened

pub format_argument-returns-in_default : goal.format_argument-returns-in_default
format_argument-returns-in_default t c = rw (← c.item_class.ensures) (closed c.open.ensures (list_place c.args.of) c.in_default.is)

pub format_argument-overflow_sub-levels : goal.format_argument-overflow_sub-levels
format_argument-overflow_sub-levels t c = opened_levels c.open.ensures c.in-Some.is

pub format_argument-format_value-requires : goal.format_argument-format_value-requires
format_argument-format_value-requires t c = let some = opened_levels c.open.ensures c.in-Some.is in (omega (arith, some), tt)

pub format_argument-overflow_sub-levels-2 : goal.format_argument-overflow_sub-levels-2
format_argument-overflow_sub-levels-2 t c = opened_levels c.open.ensures c.in-Some.is

pub format_argument-returns : goal.format_argument-returns
unfolding built field_trees fields_end events_in bit_at
format_argument-returns t c =
    let of = c.args.of in
    let opens = rw c.item_class.ensures at c.open.ensures in
    let is = c.in-Some.is in
    let rule = item_rule of in
    opened_kind opens is (list_place of) variant.ArgItem (opened_one opens is variant.ArgItem rule.0 rule.1 rule.2) refl
    (rw rule.3 (c.format_value.ensures onward rw c.stands-comma.ensures at (c.format_optional_leaf.ensures.leaf char_leaf) onward c.spc_if_next.ensures.goes))

-- ---- format_arguments: a list is its items and a star its fields; what is no star is a list, as nothing else may stand there

pub format_arguments-returns-in_default : goal.format_arguments-returns-in_default
format_arguments-returns-in_default t c = rw (← c.list_class.ensures) (closed c.open.ensures (list_place c.args.of) c.in_default.is)

pub format_arguments-overflow_sub-levels : goal.format_arguments-overflow_sub-levels
format_arguments-overflow_sub-levels t c = opened_levels c.open.ensures c.in-Some.is

pub format_arguments-overflow_sub-levels-in_default-kind : goal.format_arguments-overflow_sub-levels-in_default-kind
format_arguments-overflow_sub-levels-in_default-kind t c = opened_levels c.open.ensures c.in-Some.is

pub format_arguments-format_each_argument-requires : goal.format_arguments-format_each_argument-requires
format_arguments-format_each_argument-requires t c = let some = opened_levels c.open.ensures c.in-Some.is in (omega (arith, some), tt)

pub format_arguments-returns-in-ImportAll : goal.format_arguments-returns-in-ImportAll
unfolding built field_trees fields_end events_in
format_arguments-returns-in-ImportAll t c =
    let opens = rw c.list_class.ensures at c.open.ensures in
    opened_kind opens c.in-Some.is (list_place c.args.of) variant.ImportAll c.in-ImportAll.is refl c.format_import_all.ensures

pub format_arguments-returns-in_default-kind : goal.format_arguments-returns-in_default-kind
format_arguments-returns-in_default-kind t c =
    let of = c.args.of in
    let opens = rw c.list_class.ensures at c.open.ensures in
    let is = c.in-Some.is in
    opened_list opens is (list_place of) (item_class of) (list_is of opens is c.in_default-kind.not-ImportAll) (list_items of) c.format_each_argument.ensures

-- ---- format_binary_expression: the operator is skipped, and printed where it stands once the left side is

pub format_binary_expression-format_expression-requires : goal.format_binary_expression-format_expression-requires
format_binary_expression-format_expression-requires t c = (omega arith, tt)

pub format_binary_expression-format_expression-requires-2 : goal.format_binary_expression-format_expression-requires-2
format_binary_expression-format_expression-requires-2 t c = (omega arith, tt)

pub format_binary_expression-returns : goal.format_binary_expression-returns
unfolding built field_trees fields_end events_in run
format_binary_expression-returns t c =
    let operator = c.format_leaf.ensures.leaf binary_op_leaf onward c.push-2.ensures.goes in
    runs_alike (c.skip.ensures onward c.format_expression.ensures onward aside (c.push.ensures.goes onward c.move_to.ensures.goes) operator c.move_to-2.ensures.goes
    onward c.format_expression-2.ensures)
    (λ x. refl)

-- ---- format_call: the fields are printed in their order

pub format_call-format_arguments-requires : goal.format_call-format_arguments-requires
format_call-format_arguments-requires t c = (omega arith, tt)

pub format_call-returns : goal.format_call-returns
unfolding built field_trees fields_end events_in
format_call-returns t c =
    c.format_leaf.ensures.leaf word_leaf onward c.format_leaf-2.ensures.leaf char_leaf onward c.format_arguments.ensures
    onward c.format_leaf-3.ensures.leaf char_leaf

-- ---- format_each_argument: at the head of the loop, what goes on with the arguments that are left has gone on with all

pub format_each_argument-loop-init : goal.format_each_argument-loop-init
format_each_argument-loop-init t c after rest = let all : c.args.count - 0 ≡ c.args.count = omega arith in rw all at rest

pub format_each_argument-returns-then-is_some : goal.format_each_argument-returns-then-is_some
format_each_argument-returns-then-is_some t c = c.loop.invariant _ (has_ended (sym c.is_some.ensures ∙ c.if-is_some.true))

pub format_each_argument-format_argument-requires : goal.format_each_argument-format_argument-requires
format_each_argument-format_argument-requires t c = (omega arith, tt)

pub format_each_argument-loop-preserved : goal.format_each_argument-loop-preserved
format_each_argument-loop-preserved t c after rest =
    let left = c.args.count - c.loop.counter in
    let next : left - 1 ≡ c.args.count - (c.loop.counter + 1) = omega arith in
    c.loop.invariant after (one_left c.args.levels c.args.of left (omega arith) c.format_argument.ensures (rw (← next) at rest))

pub format_each_argument-returns : goal.format_each_argument-returns
format_each_argument-returns t c =
    c.loop.invariant _ (none_left c.args.levels c.args.of (c.args.count - c.loop.counter) (omega arith) c.clear_spc_if_next.ensures.goes)

-- ---- format_expression: what is no binary expression is a factor, as nothing else may stand there

pub format_expression-returns-in_default : goal.format_expression-returns-in_default
format_expression-returns-in_default t c = rw (← c.expression_class.ensures) (closed c.open.ensures (leaf plain) c.in_default.is)

pub format_expression-overflow_sub-levels : goal.format_expression-overflow_sub-levels
format_expression-overflow_sub-levels t c = opened_levels c.open.ensures c.in-Some.is

pub format_expression-format_binary_expression-requires : goal.format_expression-format_binary_expression-requires
format_expression-format_binary_expression-requires t c = let some = opened_levels c.open.ensures c.in-Some.is in (omega (arith, some), tt)

pub format_expression-overflow_sub-levels-in_default-kind : goal.format_expression-overflow_sub-levels-in_default-kind
format_expression-overflow_sub-levels-in_default-kind t c = opened_levels c.open.ensures c.in-Some.is

pub format_expression-format_factor-requires : goal.format_expression-format_factor-requires
format_expression-format_factor-requires t c = let some = opened_levels c.open.ensures c.in-Some.is in (omega (arith, some), tt)

pub format_expression-returns-in-BinaryExpression : goal.format_expression-returns-in-BinaryExpression
unfolding built field_trees fields_end events_in
format_expression-returns-in-BinaryExpression t c =
    let opens = rw c.expression_class.ensures at c.open.ensures in
    opened_kind opens c.in-Some.is (leaf plain) variant.BinaryExpression c.in-BinaryExpression.is refl c.format_binary_expression.ensures

pub format_expression-returns-in_default-kind : goal.format_expression-returns-in_default-kind
unfolding built
format_expression-returns-in_default-kind t c =
    let opens = rw c.expression_class.ensures at c.open.ensures in
    let is = c.in-Some.is in
    opened_kind opens is (leaf plain) variant.Factor (factor_is c.args.located opens is c.in_default-kind.not-BinaryExpression) refl c.format_factor.ensures

-- ---- format_expression_factor: each case has its printer; what has no arm is the program counter

pub format_expression_factor-returns-in_default : goal.format_expression_factor-returns-in_default
format_expression_factor-returns-in_default t c = closed c.open.ensures (leaf plain) c.in_default.is

pub format_expression_factor-overflow_sub-inner : goal.format_expression_factor-overflow_sub-inner
format_expression_factor-overflow_sub-inner t c = opened_levels c.open.ensures c.in-Some.is

pub format_expression_factor-format_parens-requires : goal.format_expression_factor-format_parens-requires
format_expression_factor-format_parens-requires t c = let some = opened_levels c.open.ensures c.in-Some.is in (omega (arith, some), tt)

pub format_expression_factor-format_call-requires : goal.format_expression_factor-format_call-requires
format_expression_factor-format_call-requires t c = let some = opened_levels c.open.ensures c.in-Some.is in (omega (arith, some), tt)

pub format_expression_factor-returns-in-ExprParens : goal.format_expression_factor-returns-in-ExprParens
unfolding built field_trees fields_end events_in
format_expression_factor-returns-in-ExprParens t c =
    opened_kind c.open.ensures c.in-Some.is (leaf plain) variant.ExprParens c.in-ExprParens.is refl c.format_parens.ensures

pub format_expression_factor-returns-in-FunctionCall : goal.format_expression_factor-returns-in-FunctionCall
unfolding built field_trees fields_end events_in
format_expression_factor-returns-in-FunctionCall t c =
    opened_kind c.open.ensures c.in-Some.is (leaf plain) variant.FunctionCall c.in-FunctionCall.is refl c.format_call.ensures

pub format_expression_factor-returns-in-IdentifierValue : goal.format_expression_factor-returns-in-IdentifierValue
unfolding built field_trees fields_end events_in
format_expression_factor-returns-in-IdentifierValue t c =
    opened_kind c.open.ensures c.in-Some.is (leaf plain) variant.IdentifierValue c.in-IdentifierValue.is refl c.format_identifier_value.ensures

pub format_expression_factor-returns-in-Number : goal.format_expression_factor-returns-in-Number
unfolding built field_trees fields_end events_in
format_expression_factor-returns-in-Number t c =
    opened_kind c.open.ensures c.in-Some.is (leaf plain) variant.Number c.in-Number.is refl c.format_number.ensures

pub format_expression_factor-returns-in-StringFactor : goal.format_expression_factor-returns-in-StringFactor
unfolding built field_trees fields_end events_in
format_expression_factor-returns-in-StringFactor t c =
    opened_kind c.open.ensures c.in-Some.is (leaf plain) variant.StringFactor c.in-StringFactor.is refl c.format_string.ensures

pub format_expression_factor-returns-in_default-kind : goal.format_expression_factor-returns-in_default-kind
unfolding built field_trees fields_end events_in
format_expression_factor-returns-in_default-kind t c =
    let opens = c.open.ensures in
    let is = c.in-Some.is in
    let other = c.in_default-kind in
    let kind = counter_is opens is other.not-ExprParens other.not-FunctionCall other.not-IdentifierValue other.not-Number other.not-StringFactor in
    opened_kind opens is (leaf plain) variant.CurrentProgramCounter kind refl (c.format_leaf.ensures.leaf char_leaf)

-- ---- format_factor: the signs are printed behind the factor that was skipped, and the walk goes back to it; without signs nothing is skipped

pub format_factor-format_expression_factor-requires : goal.format_factor-format_expression_factor-requires
format_factor-format_expression_factor-requires t c = (omega arith, tt)

pub format_factor-returns-then-not-tag_neg : goal.format_factor-returns-then-not-tag_neg
unfolding built field_trees fields_end events_in bit_at run view
format_factor-returns-then-not-tag_neg t c =
    let not = c.stands-tag_not.ensures in
    let neg = c.stands-tag_neg.ensures in
    let none = c.if-not-tag_neg.true in
    ends_alike c.format_expression_factor.ensures (λ x. rw (← not, ← neg, none.0, none.1) refl) (rw (← not, ← neg, none.0, none.1) refl)

pub format_factor-format_expression_factor-requires-2 : goal.format_factor-format_expression_factor-requires-2
format_factor-format_expression_factor-requires-2 t c = (omega arith, tt)

pub format_factor-returns : goal.format_factor-returns
unfolding built field_trees fields_end events_in bit_at run
format_factor-returns t c =
    let levels = c.args.levels in
    let tree = c.args.printer.now.tree.now in
    let first = c.stands-tag_not.result in
    let second = c.stands-tag_neg.result in
    let some : (first || second) ≡ true =
    ⊎_elim (λ (one : first ≡ true). simp one) (λ (other : (first ≡ false) × (second ≡ true)). simp (other.0, other.1)) c.if-not-tag_neg.either in
    let behind = (read levels tree LocatedFactor c.args.printer.now.at).end in
    let next = cond first (read levels tree Char behind).end behind in
    let not = c.stands-tag_not.ensures in
    let neg = c.stands-tag_neg.ensures in
    ends_alike (c.format_tags.ensures onward aside c.move_to.ensures.goes c.format_expression_factor-2.ensures c.move_to-2.ensures.goes)
    (λ x. rw (← not, ← neg, field_stands first levels tree Char behind, field_stands second levels tree Char next, some) refl)
    (rw (← not, ← neg) refl)

-- ---- format_parens: the fields are printed in their order

pub format_parens-format_expression-requires : goal.format_parens-format_expression-requires
format_parens-format_expression-requires t c = (omega arith, tt)

pub format_parens-returns : goal.format_parens-returns
unfolding built field_trees fields_end events_in
format_parens-returns t c = c.format_leaf.ensures.leaf char_leaf onward c.format_expression.ensures onward c.format_leaf-2.ensures.leaf char_leaf

-- ---- format_value: each sort of list has its own class of values

pub format_value-format_expression-requires : goal.format_value-format_expression-requires
format_value-format_expression-requires t c = (omega arith, tt)

pub format_value-returns-in-Expressions : goal.format_value-returns-in-Expressions
format_value-returns-in-Expressions t c = rw c.in-Expressions.is c.format_expression.ensures

pub format_value-returns-in-Identifiers : goal.format_value-returns-in-Identifiers
format_value-returns-in-Identifiers t c = rw c.in-Identifiers.is (c.format_leaf.ensures.leaf word_leaf)

pub format_value-returns-in-Imports : goal.format_value-returns-in-Imports
format_value-returns-in-Imports t c = rw c.in-Imports.is c.format_import_path.ensures
