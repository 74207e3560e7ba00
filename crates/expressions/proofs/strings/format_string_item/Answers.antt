-- An item that was opened is a path, which is pushed between braces, or a text.
use denote.Enum.Bare.{differs_true, differs_false}
use mathlib.Core.Path.{refl, sym}
use Rattle.std.proofs.Common.{rules}
use Rattle.text.proofs.Parts.{part_slice}
use Rattle.tree.specs.contracts.grammar.Kind.{the_type}
use Rattle.events.specs.Printed.{plain, printed}
use Rattle.events.specs.Trees.{leaf, events_in}
use Rattle.printers.proofs.Going.{◌onward◌}
use Rattle.printers.proofs.Opening.{closed, opened_as}
use Rattle.expressions.proofs.StringItems.{text_item, text_read, path_read}
use Rattle.expressions.proofs.strings.format_string_item.Goals as goal

pub returns-in_default : goal.returns-in_default
returns-in_default c = closed c.open.ensures (leaf plain) c.in_default.is

pub returns-then-ne : goal.returns-then-ne
unfolding events_in printed
returns-then-ne c =
    let opens = c.open.ensures in
    let is = c.in-Some.is in
    let text = text_item opens is (differs_true the_type _ _ (sym c.if-ne.ensures)) in
    opened_as opens is (leaf plain) (text_read _ _ _ text) (rw part_slice at c.push.ensures.goes) refl refl

pub returns : goal.returns
unfolding events_in
returns c =
    let opens = c.open.ensures in
    let is = c.in-Some.is in
    let path = differs_false the_type (search rules) _ _ (sym c.if-ne.ensures) in
    opened_as opens is (leaf plain) (path_read _ _ _ path) (c.push-2.ensures.goes onward rw part_slice at c.push-3.ensures.goes onward c.push-4.ensures.goes) refl refl
