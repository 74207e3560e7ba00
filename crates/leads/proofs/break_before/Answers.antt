-- A newline is pushed just where the rule has one.
use mathlib.Core.Path.{sym, ◌∙◌}
use Rattle.printers.proofs.Exact.{exact_stays}
use Rattle.leads.proofs.break_before.Goals as goal

pub returns-in_default : goal.returns-in_default
returns-in_default c = rw c.in_default.is exact_stays

pub returns-else-breaks : goal.returns-else-breaks
returns-else-breaks c = rw (c.in-Some.is, sym c.breaks.ensures ∙ c.if-breaks.false) exact_stays
