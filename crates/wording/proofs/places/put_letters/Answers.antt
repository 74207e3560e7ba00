-- A letter is put where its bit stands, and the others go on from there.
use Prim.Native.Nat.{◌+◌, ◌-◌}
use native.Mathlib.Omega.{arith}
use borrow.Author.Tests.{ne_eqb}
use Rattle.wording.proofs.Pieces.{◌onward◌, stays, letters_none, letters_next}
use Rattle.wording.proofs.places.put_letters.Goals.{then-rest-eq1, else-rest-eq1}
use Rattle.wording.proofs.places.put_letters.Goals as goal

pub loop-letter-preserved : goal.loop-letter-preserved
loop-letter-preserved c after rest =
    let at = c.loop-letter.letter in
    let next = letters_next (105 - at) at c.loop-letter.rest (105 - (at + 1)) (omega arith) in
    c.loop-letter.invariant after (rw next (elim c.if-rest-eq1.branch [
      | then-rest-eq1 w ↦ rw w.if-rest-eq1.true (w.put.ensures onward rw w.line-is at rest)
      | else-rest-eq1 w ↦ rw (ne_eqb _ _ w.if-rest-eq1.false) (rw w.line-is at rest)
    ]))

pub returns : goal.returns
returns c =
    c.loop-letter.invariant _ (rw (letters_none (105 - c.loop-letter.letter) c.loop-letter.letter c.loop-letter.rest (omega arith)) stays)
