-- A bit is 128 at most, and the letters so far are below it.
use Rattle.std.proofs.Common.{refl, arith}
use Rattle.losses.proofs.Letters.{letters_start, bit_small, letters_on, letters_end}
use Rattle.losses.proofs.firsts.Search.letters_at.Goals as goal
use Rattle.losses.proofs.firsts.Search.letters_at.Goals.{then-eq, else-eq}

pub loop-first-init : goal.loop-first-init
loop-first-init c = letters_start _ _

pub overflow_add-letters : goal.overflow_add-letters
overflow_add-letters c = omega (arith, bit_small c.loop-first.invariant c.loop-first-test.true, c.loop-first.invariant.below)

pub overflow_mul-bit : goal.overflow_mul-bit
overflow_mul-bit c = omega (arith, bit_small c.loop-first.invariant c.loop-first-test.true)

pub loop-first-preserved : goal.loop-first-preserved
loop-first-preserved c =
    letters_on c.loop-first.invariant c.eq.result (omega arith) c.eq.ensures
    (elim c.if-eq.branch [ then-eq w ↦ rw (w.letters-is, w.if-eq.true) refl | else-eq w ↦ rw (w.letters-is, w.if-eq.false) (omega arith) ])

pub returns : goal.returns
returns c = letters_end c.loop-first.invariant (omega arith)
