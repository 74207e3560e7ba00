-- Each text in turn is the first that is left.
use Rattle.std.proofs.Common.{◌+◌, rules, arith, sym, ap}
use Rattle.text.proofs.Parts.{part_slice}
use Rattle.text.proofs.Accepted.{fault_part}
use Rattle.chunks.proofs.Judging.{going_first, going_inside, going_bad, going_on, going_none}
use Rattle.chunks.proofs.list.check_texts.Goals as goal

pub loop-chunk-init : goal.loop-chunk-init
loop-chunk-init c =
    let all = going_first c.args.judged.list.now c.args.judged.at in
    search (rules, all)

pub slice_bounds-fault_at-count : goal.slice_bounds-fault_at-count
slice_bounds-fault_at-count c = let inside = going_inside c.loop-chunk.invariant.2 c.in-Some.ensures.steps in omega arith

pub overflow_add-fault : goal.overflow_add-fault
overflow_add-fault c =
    let inside = going_inside c.loop-chunk.invariant.2 c.in-Some.ensures.steps in
    omega (arith, c.fault_at.ensures, fault_part c.in-Some.chunk.start c.in-Some.chunk.end c.args.judged.list.now inside.end)

pub returns-then-fault-chunk : goal.returns-then-fault-chunk
returns-then-fault-chunk c =
    let part = part_slice c.in-Some.chunk.start c.in-Some.chunk.end c.args.judged.list.now in
    sym (going_bad c.loop-chunk.invariant.2 c.in-Some.ensures.steps (rw part at (ap (λ x. c.in-Some.chunk.start + x) c.fault_at.ensures)) c.if-fault-chunk.true)

pub loop-chunk-preserved : goal.loop-chunk-preserved
loop-chunk-preserved c =
    let part = part_slice c.in-Some.chunk.start c.in-Some.chunk.end c.args.judged.list.now in
    (tt, tt, going_on c.loop-chunk.invariant.2 c.in-Some.ensures.steps (rw part at (ap (λ x. c.in-Some.chunk.start + x) c.fault_at.ensures)) c.if-fault-chunk.false)

pub returns : goal.returns
returns c = sym (going_none c.loop-chunk.invariant.2 c.in-None.ensures.steps.0)
