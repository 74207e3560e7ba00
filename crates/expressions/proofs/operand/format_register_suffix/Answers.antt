-- A record that was opened is printed field by field.
use mathlib.Core.Path.{refl}
use Rattle.tree.specs.Tree.{built}
use Rattle.tree.specs.declared.grammar.Kind.TheVariants as variant
use Rattle.events.specs.Printed.{plain}
use Rattle.events.specs.Trees.{leaf, events_in}
use Rattle.leaves.specs.Records.{field_trees, fields_end}
use Rattle.leaves.proofs.Classes.{char_leaf, index_register_leaf}
use Rattle.printers.proofs.Going.{◌onward◌}
use Rattle.printers.proofs.Opening.{closed, opened_levels, opened_one, opened_kind}
use Rattle.expressions.proofs.operand.format_register_suffix.Goals as goal

pub returns-in_default : goal.returns-in_default
returns-in_default c = closed c.open.ensures (leaf plain) c.in_default.is

pub overflow_sub-levels : goal.overflow_sub-levels
overflow_sub-levels c = opened_levels c.open.ensures c.in-Some.is

pub overflow_sub-levels-2 : goal.overflow_sub-levels-2
overflow_sub-levels-2 c = opened_levels c.open.ensures c.in-Some.is

pub returns : goal.returns
unfolding built field_trees fields_end events_in
returns c =
    let opens = c.open.ensures in
    let is = c.in-Some.is in
    opened_kind opens is (leaf plain) variant.RegisterSuffix (opened_one opens is variant.RegisterSuffix refl refl refl) refl
    (c.format_leaf.ensures.leaf char_leaf onward c.spc_if_next.ensures.goes onward c.format_leaf-2.ensures.leaf index_register_leaf
    onward c.clear_spc_if_next.ensures.goes)
