-- Within the chunk the walk stands at the piece's end; behind its last piece it stands where the next chunk is reached.
use mathlib.Core.Path.{◌≡◌}
use native.Mathlib.Omega.{arith}
use Rattle.join.proofs.Places.{passed_inside, passed_chunk}
use Rattle.join.proofs.piece.spot_after.Goals as goal

pub returns-then-end-spot : goal.returns-then-end-spot
returns-then-end-spot c =
    passed_inside _ _ _ c.requires.0 c.requires.1 c.if-end-spot.true

pub spot_at-requires : goal.spot_at-requires
spot_at-requires c =
    let same : c.args.end ≡ c.args.spot.end = omega arith in
    (rw same c.requires.0.laid, omega arith)

pub returns : goal.returns
returns c =
    passed_chunk _ _ _ c.requires.0 c.requires.1 _ c.requires.2 c.if-end-spot.false c.spot_at.ensures
