-- The buffer starts with the text so far, which with the lines still to come is all of the text: a turn writes one line, and at the end no line is left.
use mathlib.Core.Path.{◌≡◌}
use Prim.Native.Nat.{◌-◌}
use lib.ListN.{length}
use Rattle.chunks.specs.Reading.{chunks_of}
use Rattle.columns.specs.Setting.{text_of}
use Rattle.join.proofs.Running.{Holding}
use Rattle.join.proofs.lines.write_lines.Given as goal

abbrev pub invariant-loop-spot : goal.invariant-loop-spot
invariant-loop-spot l = Holding l.judged.margins l.judged.list.now (text_of l.judged.margins (chunks_of l.judged.list.now)) l.past l.spot l.text × (length l.text ≡ length l.initial.text)

abbrev pub decreases-loop-spot : goal.decreases-loop-spot
decreases-loop-spot l = length l.judged.list.now - l.spot.at
