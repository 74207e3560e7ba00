-- An operand that was opened is printed in two parts, its front and its tail.
use mathlib.Core.Path.{refl}
use Prim.Native.Nat.{◌-◌}
use Rattle.tree.specs.Reading.{read}
use Rattle.tree.specs.Tree.{built}
use Rattle.tree.specs.declared.grammar.Class.TheVariants.{Char, LocatedExpression}
use Rattle.tree.specs.declared.grammar.Kind.TheVariants as variant
use Rattle.printing.specs.Running.{run}
use Rattle.events.specs.Printed.{plain}
use Rattle.events.specs.Views.{bit_at}
use Rattle.events.specs.Trees.{leaf, events_in}
use Rattle.leaves.specs.Records.{field_trees, fields_end}
use Rattle.printers.proofs.Going.{◌onward◌, ends_alike}
use Rattle.printers.proofs.Opening.{closed, opened_levels, opened_one, opened_kind}
use Rattle.expressions.proofs.Stands.{field_stands}
use Rattle.expressions.proofs.operand.format_operand.Goals as goal

pub returns-in_default : goal.returns-in_default
returns-in_default c = closed c.open.ensures (leaf plain) c.in_default.is

pub overflow_sub-levels : goal.overflow_sub-levels
overflow_sub-levels c = opened_levels c.open.ensures c.in-Some.is

pub overflow_sub-levels-2 : goal.overflow_sub-levels-2
overflow_sub-levels-2 c = opened_levels c.open.ensures c.in-Some.is

pub returns : goal.returns
unfolding built field_trees fields_end events_in bit_at run
returns c =
    let opens = c.open.ensures in
    let is = c.in-Some.is in
    let levels = c.args.levels - 1 in
    let from = c.open.new.printer in
    let lchar = field_stands c.stands.result levels from.tree.now Char (read levels from.tree.now LocatedExpression from.at).end in
    opened_kind opens is (leaf plain) variant.Operand (opened_one opens is variant.Operand refl refl refl) refl
    (ends_alike (c.format_front.ensures onward c.format_tail.ensures)
    (λ x. rw (← c.stands.ensures, ← c.stands-2.ensures, ← c.stands-3.ensures, lchar) refl)
    (rw (← c.stands.ensures, ← c.stands-2.ensures, ← c.stands-3.ensures) refl))
