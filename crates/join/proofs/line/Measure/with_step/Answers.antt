-- The spaces before, the text and the spaces behind are measured one behind the other.
use mathlib.Core.List.{append_assoc}
use native.Mathlib.Omega.{arith}
use Rattle.join.proofs.line.Measure.with_step.Goals as goal

pub returns : goal.returns
returns c = record {
  measured = λ bytes known. simp append_assoc at (c.with_blanks-2.ensures.measured _ (c.with_text.ensures.measured _ (c.with_blanks.ensures.measured bytes known)));
  length = (omega arith, c.with_blanks-2.ensures.length.1);
}
