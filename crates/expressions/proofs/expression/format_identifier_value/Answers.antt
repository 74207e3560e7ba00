-- Without a modifier the path is a leaf; with one, the path is skipped on the way to it and printed behind it.
use mathlib.Core.Path.{refl}
use Rattle.tree.specs.Tree.{built}
use Rattle.tree.specs.declared.grammar.Class.TheVariants.{Word, AddressModifier}
use Rattle.tree.specs.Reading.{read}
use Rattle.printing.specs.Running.{run}
use Rattle.events.specs.Views.{view, bit_at}
use Rattle.events.specs.Trees.{events_in}
use Rattle.events.proofs.Heads.{read_stands}
use Rattle.leaves.specs.Records.{field_trees, fields_end}
use Rattle.leaves.proofs.Classes.{word_leaf, address_modifier_leaf}
use Rattle.printers.proofs.Going.{◌onward◌, ends_alike, aside}
use Rattle.expressions.proofs.expression.format_identifier_value.Goals as goal

pub returns-then-not-stands : goal.returns-then-not-stands
unfolding built field_trees fields_end events_in bit_at run view
returns-then-not-stands c =
    ends_alike (c.format_leaf.ensures.leaf word_leaf)
    (λ x. rw (← c.stands.ensures, c.if-not-stands.true) refl) (rw (← c.stands.ensures, c.if-not-stands.true) refl)

pub returns : goal.returns
unfolding built field_trees fields_end events_in bit_at run
returns c =
    let levels = c.args.levels in
    let tree = c.args.printer.now.tree.now in
    let path = read levels tree Word c.args.printer.now.at in
    ends_alike (c.skip.ensures onward c.format_leaf-2.ensures.leaf address_modifier_leaf
    onward aside c.move_to.ensures.goes (c.format_leaf-3.ensures.leaf word_leaf) c.move_to-2.ensures.goes)
    (λ x. rw (← c.stands.ensures, c.if-not-stands.false, read_stands levels tree AddressModifier path.end) refl)
    (rw (← c.stands.ensures, c.if-not-stands.false) refl)
