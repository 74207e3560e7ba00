-- A list that was opened is its items, one behind the other.
use mathlib.Core.Path.{refl}
use Rattle.tree.specs.declared.grammar.Class.TheVariants.{StringItem}
use Rattle.events.specs.Trees.{in_string}
use Rattle.printers.proofs.Opening.{closed, opened_levels, opened_list}
use Rattle.expressions.proofs.StringItems.{opened_items}
use Rattle.expressions.proofs.strings.format_string_items.Goals as goal

pub returns-in_default : goal.returns-in_default
returns-in_default c = closed c.open.ensures in_string c.in_default.is

pub overflow_sub-levels : goal.overflow_sub-levels
overflow_sub-levels c = opened_levels c.open.ensures c.in-Some.is

pub returns : goal.returns
returns c =
    let opens = c.open.ensures in
    let is = c.in-Some.is in
    opened_list opens is in_string StringItem (opened_items opens is) refl c.format_each_item.ensures
