-- A walk that has ended stays; what is met on the way ends it; else the trivia are run, then the newline.
use mathlib.Core.Path.{refl, sym, ap, ◌∙◌}
use Rattle.tree.specs.Tree.{built}
use Rattle.tree.specs.declared.grammar.Class.TheVariants.{CloseBrace}
use Rattle.printing.specs.Running.{run}
use Rattle.events.specs.Trees.{stop_at}
use Rattle.events.proofs.Heads.{own_refused, own_read}
use Rattle.leaves.proofs.Leaves.{own_items}
use Rattle.printers.proofs.Going.{◌onward◌, has_ended, runs_alike, stops_first}
use Rattle.leads.proofs.format_lead_out.Goals as goal

pub returns-then-is_some : goal.returns-then-is_some
returns-then-is_some c = has_ended (sym c.is_some.ensures ∙ c.if-is_some.true)

pub returns-in-Ok : goal.returns-in-Ok
unfolding run built
returns-in-Ok c =
    let read = c.read_own.ensures in
    let brace = own_read _ _ CloseBrace _ _ (sym read.answer ∙ c.in-Ok.is) in
    runs_alike (c.list_trivia.ensures.goes onward c.break_before.ensures.goes) (λ x. rw (brace.0, brace.1, ← own_items _ _ _ read.fits c.in-Ok.is))

pub returns-in-Err : goal.returns-in-Err
returns-in-Err c =
    stops_first (sym c.is_some.ensures ∙ c.if-is_some.false) refl refl refl
    (ap stop_at (own_refused _ _ CloseBrace _ _ (sym c.read_own.ensures.answer ∙ c.in-Err.is)))
