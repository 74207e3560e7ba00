-- Where they are not shown, or there are none, nothing is printed.
use Rattle.printers.proofs.Exact.{exact_stays}
use Rattle.printers.proofs.Items.{no_item}
use Rattle.printers.proofs.trivia.shown_trivia.Goals as goal
use Rattle.printers.proofs.trivia.shown_trivia.Goals.{else-shown-via-then-shown+else-own-gt0, else-shown-via-else-shown}

pub returns-else-shown : goal.returns-else-shown
returns-else-shown c = elim c.else-shown.branch [
  | else-shown-via-then-shown+else-own-gt0 w ↦ rw w.if-shown.true (no_item _ _ _ w.if-own-gt0.false)
  | else-shown-via-else-shown w ↦ rw w.if-shown.false exact_stays
]
