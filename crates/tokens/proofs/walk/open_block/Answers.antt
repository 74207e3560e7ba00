-- The position of braces says whether a newline stands before the brace; behind it there is one.
use Rattle.events.specs.Trees.{opening}
use Rattle.leaves.proofs.Classes.{open_brace_leaf}
use Rattle.printers.proofs.Going.{◌onward◌}
use Rattle.tokens.proofs.Cycle.{same_line, at_position}
use Rattle.tokens.proofs.walk.open_block.Goals as goal
use Rattle.tokens.proofs.walk.open_block.Goals.{in-NewLine, in_default}

pub returns : goal.returns
returns c =
    let brace = c.format_leaf.ensures.leaf open_brace_leaf onward c.push-2.ensures.goes in
    elim c.match-printer.branch [
      | in-NewLine w ↦ at_position opening w.in-NewLine.is (w.push.ensures.goes onward (rw w.printer-is at brace))
      | in_default w ↦ at_position opening (same_line _ w.in_default.not-NewLine) (rw w.printer-is at brace)
    ]
