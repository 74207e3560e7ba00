-- At the head of the loop the plan that is left goes on with the walk over the record's; each part stands one level further down.
use mathlib.Core.Path.{refl, sym, ◌∙◌}
use native.Mathlib.Omega.{arith}
use Rattle.std.proofs.lemmas.Result.{err_from_is_err_and}
use Rattle.tree.proofs.Planning.{plan_due}
use Rattle.tree.proofs.Records.{read_refused, read_walked, level_left, walk_none, walk_done, walk_refused, walk_on}
use Rattle.tree.proofs.check.+read_parts.Goals as goal

pub loop-field-init : goal.loop-field-init
loop-field-init t c =
    rw (plan_due c.args.class c.args.own (c.into_iter-field-iterator.ensures.into_iter_gives ∙ c.plan_of-field-items.ensures))

pub returns-in-Err : goal.returns-in-Err
returns-in-Err t c =
    walk_refused _ _ _ _ _ c.loop-field.invariant c.in-Some.ensures.steps
    (read_refused _ _ _ _ _ c.read_own.ensures.answer _ _ c.in-Err.is) _ refl

pub own_fault-seen-requires : goal.own_fault-seen-requires
own_fault-seen-requires t c = (_, c.in-Ok.ensures.fits)

pub read_parts-requires : goal.read_parts-requires
read_parts-requires t c = omega (arith, level_left _ _ _ _ _ c.read_own.ensures.answer _ c.in-Ok.is)

pub returns-in_err-place : goal.returns-in_err-place
returns-in_err-place t c =
    let p = err_from_is_err_and c.from_residual.result c.from_residual.ensures.1 in
    let same = c.read_parts.ensures ∙ sym (read_walked _ _ _ _ _ c.read_own.ensures.answer _ _ _ c.in-Ok.is c.own_fault-seen.ensures) in
    rw (p.1, p.2) (sym c.in_err-place.was ∙ walk_refused _ _ _ _ _ c.loop-field.invariant c.in-Some.ensures.steps same _ c.in_err-place.was)

pub loop-field-preserved-then-has_parts : goal.loop-field-preserved-then-has_parts
loop-field-preserved-then-has_parts t c =
    let same = c.read_parts.ensures ∙ sym (read_walked _ _ _ _ _ c.read_own.ensures.answer _ _ _ c.in-Ok.is c.own_fault-seen.ensures) in
    walk_on _ _ _ _ _ c.loop-field.invariant c.in-Some.ensures.steps same _ _ c.in_ok-place.was

pub loop-field-preserved : goal.loop-field-preserved
loop-field-preserved t c =
    let leaf = walk_none _ _ _ _ _ c.has_parts.ensures c.if-has_parts.false
    ∙ sym (read_walked _ _ _ _ _ c.read_own.ensures.answer _ _ _ c.in-Ok.is c.own_fault-seen.ensures) in
    walk_on _ _ _ _ _ c.loop-field.invariant c.in-Some.ensures.steps leaf _ _ refl

pub returns : goal.returns
returns t c = walk_done _ _ _ c.loop-field.invariant c.in-None.ensures.steps.0
