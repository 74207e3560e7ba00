-- What is stored is the front of the bytes, and at the end all of them.
use mathlib.Core.Path.{◌≡◌}
use lib.ListN.{take}
use lib.Seq.{sets}
use Rattle.text.proofs.stores.copy.Given as goal

abbrev pub invariant-loop-i : goal.invariant-loop-i
invariant-loop-i l = l.buffer ≡ sets l.initial.buffer l.at (take l.i l.bytes)
