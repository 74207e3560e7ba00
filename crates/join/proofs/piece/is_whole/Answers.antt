-- A rest in which no newline is found has none.
use Rattle.join.proofs.Pieces.{far_newline}
use Rattle.join.proofs.piece.is_whole.Goals as goal

pub returns-then-spot-list : goal.returns-then-spot-list
returns-then-spot-list c =
    λ e. record {
      more = c.if-spot-list.true;
      plain = far_newline c.args.spot.at c.args.spot.end c.args.list.now c.requires.inside (c.is_clear.ensures e);
    }
