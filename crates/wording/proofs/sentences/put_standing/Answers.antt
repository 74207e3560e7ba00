-- A byte stands there.
use borrow.Author.Tests.{lt-leb}
use Rattle.text.specs.Literals.{ascii}
use Rattle.wording.proofs.Pieces.{◌onward◌}
use Rattle.wording.proofs.sentences.put_standing.Goals as goal

pub returns : goal.returns
unfolding ascii
returns c =
    rw (lt-leb _ _ c.if-input-place.false, ← c.from.ensures) (c.put-2.ensures onward c.put_number.ensures onward c.put-3.ensures)
