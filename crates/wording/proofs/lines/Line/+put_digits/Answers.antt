-- The digits before the last, where there are any, and then the last.
use Rattle.wording.specs.Lines.{digits}
use Rattle.wording.proofs.Pieces.{◌onward◌, stays, digits_few, digits_many}
use Rattle.wording.proofs.lines.Line.+put_digits.Goals.{then-n-ge10, else-n-ge10}
use Rattle.wording.proofs.lines.Line.+put_digits.Goals as goal

pub returns-then-most-eq0 : goal.returns-then-most-eq0
unfolding digits
returns-then-most-eq0 t c = rw c.if-most-eq0.true stays

pub returns : goal.returns
returns t c =
    elim c.if-n-ge10.branch [
      | then-n-ge10 w ↦ rw (digits_many _ _ c.if-most-eq0.false w.if-n-ge10.true) (w.put_digits.ensures onward rw w.self-is at c.put.ensures)
      | else-n-ge10 w ↦ rw (digits_few _ _ c.if-most-eq0.false w.if-n-ge10.false) (rw w.self-is at c.put.ensures)
    ]
