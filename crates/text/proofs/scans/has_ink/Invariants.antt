-- Where only blanks were passed, what is left has ink just where the line has.
use Prim.Native.Nat.{◌-◌, ◌≤◌}
use mathlib.Core.Path.{◌≡◌}
use lib.ListN.{length, drop}
use Rattle.text.specs.Ink.{all_blank}
use Rattle.text.proofs.scans.has_ink.Given as goal

abbrev pub invariant-loop-i : goal.invariant-loop-i
invariant-loop-i l = (l.i ≤ length l.line) × (all_blank (drop l.i l.line) ≡ all_blank l.line)

abbrev pub decreases-loop-i : goal.decreases-loop-i
decreases-loop-i l = length l.line - l.i
