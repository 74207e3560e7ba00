-- The bytes before the index are shown.
use Rattle.std.proofs.Common.{map, take}
use Rattle.wording.specs.Lines.{Gets, shown}
use Rattle.wording.proofs.lines.Line.put_quoted.Given as goal

abbrev pub invariant-loop-byte : goal.invariant-loop-byte
invariant-loop-byte l = Gets l.initial.self l.self (map shown (take l.byte-index l.bytes))
