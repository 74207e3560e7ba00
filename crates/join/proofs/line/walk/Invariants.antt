-- Before each turn the measures are those of the line so far, which was given on; chunks without a newline run on, and the step behind them adds the next piece to both.
use Rattle.std.proofs.Common.{◌≡◌, ◌-◌, length}
use Rattle.join.proofs.Walking.{Placing}
use Rattle.join.proofs.line.walk.Given as goal

abbrev pub invariant-loop-ended : goal.invariant-loop-ended
invariant-loop-ended g l =
    Placing l.judged.margins l.judged.list.now l.initial.here (g.S.Sink.put l.sink) l.initial.text l.text l.measure l.indent l.here l.ended × (length l.text ≡ length l.initial.text)

abbrev pub decreases-loop-ended : goal.decreases-loop-ended
decreases-loop-ended g l = length l.judged.list.now - l.here.at
