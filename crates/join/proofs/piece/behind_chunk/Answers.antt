-- What follows is nothing at the list's end, and else the chunk there, which is a newline just where its text is one byte, a 10.
use Rattle.std.proofs.Common.{sym, ap, ◌∙◌}
use borrow.Author.Tests.{eq-eqb, ne_eqb}
use Rattle.columns.specs.Pieces.{following}
use Rattle.join.proofs.Places.{follows_nothing, follows_one, follows_other, none_past}
use Rattle.join.proofs.piece.behind_chunk.Goals as goal
use Rattle.join.proofs.piece.behind_chunk.Goals.{else-chunk-eq1-via-then-chunk-eq1+else-list-chunk-eq-NEWLINE, else-chunk-eq1-via-else-chunk-eq1}

pub returns-in_default : goal.returns-in_default
returns-in_default c = sym (ap following (follows_nothing _ _ (none_past _ _ c.requires.0 (sym c.chunk.ensures.answer ∙ c.in_default.is))))

pub returns-then-list-chunk-eq-NEWLINE : goal.returns-then-list-chunk-eq-NEWLINE
returns-then-list-chunk-eq-NEWLINE c =
    let found = sym c.chunk.ensures.answer ∙ c.in-Some.is in
    sym (follows_one _ _ _ found c.in-Some.ensures.fits.inside c.if-chunk-eq1.true ∙ rw (eq-eqb _ _ c.if-list-chunk-eq-NEWLINE.true))

pub returns : goal.returns
returns c =
    let found = sym c.chunk.ensures.answer ∙ c.in-Some.is in
    elim c.else-chunk-eq1.branch [
      | else-chunk-eq1-via-then-chunk-eq1+else-list-chunk-eq-NEWLINE w ↦
          sym (follows_one _ _ _ found c.in-Some.ensures.fits.inside w.if-chunk-eq1.true ∙ rw (ne_eqb _ _ w.if-list-chunk-eq-NEWLINE.false))
      | else-chunk-eq1-via-else-chunk-eq1 w ↦ sym (follows_other _ _ _ found c.in-Some.ensures.fits.inside w.if-chunk-eq1.false)
    ]
