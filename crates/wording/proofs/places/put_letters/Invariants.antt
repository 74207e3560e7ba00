-- The letters that are left go on to where all of them come to.
use Prim.Native.Nat.{◌-◌}
use Rattle.wording.specs.Lines.{Gets}
use Rattle.wording.specs.Losses.{letters}
use Rattle.wording.specs.declared.lines.Line.{Line}
use Rattle.wording.proofs.places.put_letters.Given as goal

abbrev pub invariant-loop-letter : goal.invariant-loop-letter
invariant-loop-letter l =
    (after : Line) → Gets l.line after (letters (105 - l.letter) l.letter l.rest) → Gets l.initial.line after (letters 8 97 l.bits)
