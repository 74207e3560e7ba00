-- The definition makes the same test.
use Rattle.join.proofs.lines.line_start.Goals as goal

pub returns-then-past : goal.returns-then-past
returns-then-past c = simp c.if-past.true
