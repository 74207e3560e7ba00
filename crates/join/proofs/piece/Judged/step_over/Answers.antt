-- The piece at the spot is laid as the definition adds it, or left out where it adds only blanks to a line that it ends; the pieces from the spot on are this one and those of the spot behind it.
use mathlib.Core.Path.{refl}
use borrow.Author.Tests.{le-leb, lt-leb}
use native.Mathlib.Omega.{arith}
use Rattle.text.proofs.Parts.{part_slice}
use Rattle.join.proofs.Pieces.{piece_some, piece_within}
use Rattle.join.proofs.Steps.{stepped_ignored, stepped_kept, stepped_newline}
use Rattle.join.proofs.piece.Judged.step_over.Goals as goal
use Rattle.join.proofs.piece.Judged.step_over.Goals.{then-last, else-last}

pub spot_after-requires : goal.spot_after-requires
spot_after-requires c =
    let given = c.requires in
    (given.standing, given.standing.some given.some, omega arith)

pub returns-then-is_newline : goal.returns-then-is_newline
returns-then-is_newline c =
    let lone = c.is_newline.ensures c.if-is_newline.true in
    stepped_newline _ _ _ _ _ c.args.self.narrow c.requires.standing c.requires.some lone c.spot_after.ensures refl c.keeps_newline.ensures

pub lay_piece-lay-requires : goal.lay_piece-lay-requires
lay_piece-lay-requires c =
    let some = piece_some _ _ c.requires.standing c.requires.some in
    let within = piece_within _ _ c.requires.standing c.requires.some in
    record { inside = c.requires; piece = (omega (arith, some, c.piece_end-piece.ensures.0), omega (arith, within, c.piece_end-piece.ensures.0)) }

pub spot_after-behind-requires : goal.spot_after-behind-requires
spot_after-behind-requires c =
    let some = piece_some _ _ c.requires.standing c.requires.some in
    let within = piece_within _ _ c.requires.standing c.requires.some in
    (c.requires.standing, omega (arith, some, c.piece_end-piece.ensures.0), omega (arith, within, c.piece_end-piece.ensures.0))

pub returns-then-lay : goal.returns-then-lay
returns-then-lay c =
    let piece = c.piece_end-piece in
    stepped_ignored _ _ _ _ piece.result _ _ c.args.self.narrow c.requires.standing c.requires.some piece.ensures.0 piece.ensures.1
    c.lay_piece-lay.ensures c.spot_after-behind.ensures refl c.if-lay.true refl

pub returns : goal.returns
returns c =
    let piece = c.piece_end-piece in
    stepped_kept _ _ _ _ piece.result _ _ c.args.self.narrow c.requires.standing c.requires.some piece.ensures.0 piece.ensures.1
    c.lay_piece-lay.ensures c.spot_after-behind.ensures (part_slice c.args.spot.at piece.result.end c.args.self.list.now) c.if-lay.false
    (elim c.if-last.branch [
      | then-last w ↦ rw (w.result-is, le-leb _ _ w.if-last.true)
      | else-last w ↦ rw (w.result-is, lt-leb _ _ w.if-last.false)
    ])
