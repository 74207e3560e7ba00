-- The text so far with the lines still to come is all of the text: so it is at the start, a turn adds one line, and at the end no line is left.
use Prim.Native.Nat.{◌-◌}
use lib.ListN.{length}
use Rattle.chunks.specs.Reading.{chunks_of}
use Rattle.columns.specs.Setting.{text_of}
use Rattle.join.proofs.Running.{Running}
use Rattle.join.proofs.lines.measure_lines.Given as goal

abbrev pub invariant-loop-spot : goal.invariant-loop-spot
invariant-loop-spot l = Running l.judged.margins l.judged.list.now (text_of l.judged.margins (chunks_of l.judged.list.now)) l.past l.spot

abbrev pub decreases-loop-spot : goal.decreases-loop-spot
decreases-loop-spot l = length l.judged.list.now - l.spot.at
