-- At the head of the loop the parts that are left go on with the search of the record's parts; each part stands one level
-- further down. Where the record passed no refusal is met: of its own bytes, of what it shows by itself, or of a part.
use mathlib.Core.Path.{◌∙◌}
use native.Mathlib.Omega.{arith}
use Rattle.tree.proofs.Planning.{plan_due}
use Rattle.tree.proofs.Records.{level_left}
use Rattle.losses.proofs.Searching.{parts_start, search_done, search_on, part_unread}
use Rattle.losses.proofs.Searching.{search_refused, part_refused, record_searched}
use Rattle.losses.proofs.firsts.Search.+visit.Goals as goal

pub returns-in_err-own : goal.returns-in_err-own
returns-in_err-own t c = search_refused _ _ _ _ c.args.listed c.read_own.ensures.answer c.in_err-own.was

pub record_uses-requires : goal.record_uses-requires
record_uses-requires t c = level_left _ _ _ _ _ c.read_own.ensures.answer _ c.in_ok-own.was

pub loop-field-init : goal.loop-field-init
loop-field-init t c = parts_start _ _ _ _ _

pub overflow_sub-levels : goal.overflow_sub-levels
overflow_sub-levels t c = omega (arith, level_left _ _ _ _ _ c.read_own.ensures.answer _ c.in_ok-own.was)

pub visit-requires : goal.visit-requires
visit-requires t c = (omega (arith, level_left _ _ _ _ _ c.read_own.ensures.answer _ c.in_ok-own.was), tt)

pub returns-in_err-place : goal.returns-in_err-place
returns-in_err-place t c =
    part_refused _ _ _ _ c.args.listed c.read_own.ensures.answer _ c.in_ok-own.was
    (plan_due _ _ (c.into_iter-field-iterator.ensures.into_iter_gives ∙ c.plan_of-field-items.ensures)) c.record_uses.ensures
    (part_unread _ _ _ _ _ _ _ c.loop-field.invariant _ _ c.in-Some.ensures.steps c.visit.ensures c.in_err-place.was)

pub loop-field-preserved : goal.loop-field-preserved
loop-field-preserved t c = search_on _ _ _ _ _ _ _ c.loop-field.invariant _ _ c.in-Some.ensures.steps c.visit.ensures c.in_ok-place.was

pub returns : goal.returns
returns t c =
    record_searched _ _ _ _ c.args.listed c.read_own.ensures.answer _ c.in_ok-own.was
    (plan_due _ _ (c.into_iter-field-iterator.ensures.into_iter_gives ∙ c.plan_of-field-items.ensures)) c.record_uses.ensures
    c.listed_below-below.ensures
    (search_done _ _ _ _ _ _ _ c.loop-field.invariant c.in-None.ensures.steps.0)
