-- At the head of the loop the plan that is left goes on with the walk over the record's parts; each part stands one level further down.
use Prim.Native.Nat.{◌-◌}
use Rattle.tree.specs.Reading.{parts_due, read}
use Rattle.tree.specs.Walk.{standing, walker_of}
use Rattle.tree.proofs.Records.{PartsLeft}
use Rattle.tree.proofs.check.+read_parts.Given as goal

abbrev pub decreases-read_parts : goal.decreases-read_parts
decreases-read_parts l = l.levels

abbrev pub invariant-loop-field : goal.invariant-loop-field
invariant-loop-field l =
    let walker = walker_of (read (l.levels - 1) l.tree) l.tree in
    PartsLeft walker (standing (parts_due l.fn.class l.fn.own)) l.fn.own.end l.fn.fault l.field-iterator l.place l.seen
