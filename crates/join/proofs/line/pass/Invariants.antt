-- Whatever line goes on from the spot, before each step it went on to where the walk is, and a step takes it one chunk further.
use Rattle.std.proofs.Common.{◌≡◌, ℕ, ◌-◌, length}
use Rattle.join.specs.Walk.{Ran}
use Rattle.std.specs.Prelude.{Some}
use Rattle.join.proofs.line.pass.Given as goal

abbrev pub invariant-loop-sink : goal.invariant-loop-sink
invariant-loop-sink g l =
    ((n : ℕ) → Ran l.judged.margins l.judged.list.now l.initial.here (g.S.Sink.put l.sink) l.initial.text l.text l.initial.reached (Some n) l.reached l.here)
    × (length l.text ≡ length l.initial.text)

abbrev pub decreases-loop-sink : goal.decreases-loop-sink
decreases-loop-sink g l = length l.judged.list.now - l.here.at
