-- The items that are left lie in the tree, and go on to where all of them come to.
use mathlib.Core.List.{map}
use Rattle.tree.specs.Parts.{trivia_left}
use Rattle.leaves.specs.Items.{item_of}
use Rattle.wording.specs.Lines.{Gets}
use Rattle.wording.specs.Losses.{comments}
use Rattle.wording.specs.declared.lines.Line.{Line}
use Rattle.leaves.proofs.Spans.{Lie}
use Rattle.wording.proofs.places.put_comments.Given as goal

abbrev pub invariant-loop-item : goal.invariant-loop-item
invariant-loop-item l =
    let spans = trivia_left l.item-iterator in
    let start = trivia_left l.initial.item-iterator in
    Lie l.tree spans
    × ((after : Line) → Gets l.line after (comments (map (item_of l.tree) spans)) → Gets l.initial.line after (comments (map (item_of l.tree) start)))
