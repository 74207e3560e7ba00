-- Spaces behind a line lead with its blanks where it has no ink, and change its length alone where it has.
use mathlib.Core.Path.{refl}
use native.Mathlib.Omega.{arith}
use lib.ListN.{length-replicate}
use Rattle.text.specs.Ink.{spaces}
use Rattle.text.proofs.Ink.{spaces_blank}
use Rattle.join.proofs.Measures.{blanks_behind_blanks, blanks_behind_ink}
use Rattle.join.proofs.line.Measure.with_blanks.Goals as goal

pub returns-then-self-eq0 : goal.returns-then-self-eq0
returns-then-self-eq0 c =
    let count = c.args.count in
    record {
      measured = λ bytes known. blanks_behind_blanks known (spaces count) c.if-self-eq0.true (spaces_blank count) (length-replicate count 32);
      length = (refl, omega arith);
    }

pub returns : goal.returns
returns c =
    let count = c.args.count in
    record {
      measured = λ bytes known. blanks_behind_ink known (spaces count) c.if-self-eq0.false (spaces_blank count) (length-replicate count 32);
      length = (refl, omega arith);
    }
