-- The numbers do not wrap, as the line starts next to the text so far.
use native.Mathlib.Omega.{arith}
use Rattle.join.proofs.Running.{start_near}
use Rattle.join.proofs.lines.grown.Goals as goal

pub overflow_add-result : goal.overflow_add-result
overflow_add-result c = omega (arith, start_near c.args.past)
