-- The fields before field k are passed and read.
use Rattle.options.proofs.Values.{ReadTo}
use Rattle.options.proofs.read_values.Given as goal

abbrev pub invariant-loop-k : goal.invariant-loop-k
invariant-loop-k l = ReadTo l.stored l.values l.k l.place
