-- The piece is the rest of its chunk, laid as the definition adds it, and the next chunk stands behind it.
use mathlib.Core.Path.{refl}
use native.Mathlib.Omega.{arith}
use Rattle.text.proofs.Parts.{part_slice}
use Rattle.join.proofs.Steps.{stepped_whole}
use Rattle.join.proofs.piece.Judged.step_whole.Goals as goal

pub lay_piece-lay-requires : goal.lay_piece-lay-requires
lay_piece-lay-requires c =
    let given = c.requires.inside in
    record { inside = given; piece = (given.standing.some given.some, omega arith) }

pub spot_after-requires : goal.spot_after-requires
spot_after-requires c =
    let given = c.requires.inside in
    (given.standing, given.standing.some given.some, omega arith)

pub returns : goal.returns
returns c =
    let given = c.requires.inside in (
      stepped_whole _ _ _ _ _ _ c.args.self.narrow given.standing given.some c.requires.whole
          c.lay_piece-lay.ensures c.spot_after.ensures (part_slice c.args.spot.at c.args.spot.end c.args.self.list.now),
      refl,
    )
