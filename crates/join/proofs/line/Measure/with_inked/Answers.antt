-- The text between its spaces makes the line longer, and where it has ink moves the end of the ink to its own.
use mathlib.Core.Path.{sym, ◌∙◌}
use native.Mathlib.Omega.{arith}
use Rattle.text.proofs.Ink.{ink_end_le}
use Rattle.join.proofs.Measures.{between_blank, between_ink}
use Rattle.join.proofs.line.Measure.with_inked.Goals as goal

pub returns-then-ink-eq0 : goal.returns-then-ink-eq0
returns-then-ink-eq0 c =
    let step = c.args.step in
    record {
      measured = λ line known. between_blank known c.requires.inked step.before step.text.now step.behind (sym c.ink_end-ink.ensures ∙ c.if-ink-eq0.true);
      length = (omega arith, omega (arith, c.requires.fits.leading));
    }

pub overflow_add-result : goal.overflow_add-result
overflow_add-result c = omega (arith, c.ink_end-ink.ensures, ink_end_le c.args.step.text.now, c.requires.fits.small)

pub returns : goal.returns
returns c =
    let step = c.args.step in
    record {
      measured = λ line known. between_ink known c.requires.inked step.before step.text.now step.behind c.ink_end-ink.ensures c.if-ink-eq0.false;
      length = (omega arith, omega (arith, c.requires.fits.leading));
    }
