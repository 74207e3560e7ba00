-- A text behind a space or before a colon is no newline.
use Rattle.printing.proofs.Pushing.{newline_spaced, newline_colon}
use Rattle.printers.proofs.lone_newline.Goals as goal
use Rattle.printers.proofs.lone_newline.Goals.{then-spaced-via-then-spaced, then-spaced-via-else-spaced+then-colon}

pub returns-then-spaced : goal.returns-then-spaced
returns-then-spaced c = elim c.then-spaced.branch [
  | then-spaced-via-then-spaced w ↦ rw w.if-spaced.true (newline_spaced _)
  | then-spaced-via-else-spaced+then-colon w ↦ rw (w.if-spaced.false, w.if-colon.true) (newline_colon _)
]
