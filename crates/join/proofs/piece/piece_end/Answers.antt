-- A piece ends behind the first newline of the part, or with the part where there is none.
use Rattle.join.proofs.Pieces.{ends_newline, ends_part}
use Rattle.join.proofs.piece.piece_end.Goals as goal

pub returns-then-count-end : goal.returns-then-count-end
returns-then-count-end c =
    ends_newline _ _ _ c.requires.0 c.requires.1 c.newline_at-count.ensures c.if-count-end.true

pub returns : goal.returns
returns c =
    ends_part _ _ _ c.requires.0 c.requires.1 c.newline_at-count.ensures c.if-count-end.false
