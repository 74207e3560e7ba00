-- At the list's end no chunk is reached, and before it the chunk that stands there.
use Rattle.std.proofs.Common.{arith, sym, ◌∙◌}
use Rattle.join.proofs.Places.{reached_end, reached_chunk, none_past}
use Rattle.join.proofs.piece.spot_at.Goals as goal

pub returns-in_default : goal.returns-in_default
returns-in_default c = reached_end _ _ c.requires.0 c.requires.1 (none_past _ _ c.requires.0 (sym c.chunk.ensures.answer ∙ c.in_default.is))

pub returns : goal.returns
returns c =
    let fits = c.in-Some.ensures.fits in
    reached_chunk _ _ c.in-Some.chunk c.requires.0 (omega arith) (sym c.chunk.ensures.answer ∙ c.in-Some.is) fits
