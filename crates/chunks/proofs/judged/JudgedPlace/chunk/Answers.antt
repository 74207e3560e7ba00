-- Before the list's end a chunk stands, whose head is the one that its map tells.
use Rattle.std.proofs.Common.{arith, sym}
use Rattle.chunks.proofs.Reading.{chunk_end}
use Rattle.chunks.proofs.Types.{told_ok, told_small}
use Rattle.chunks.proofs.Heads.{found_fits, plain_inside, plain_found, indented_inside, indented_found}
use Rattle.chunks.proofs.judged.JudgedPlace.chunk.Goals as goal

pub returns-then-list-at-clause-answer : goal.returns-then-list-at-clause-answer
returns-then-list-at-clause-answer c = sym (chunk_end _ _ c.if-list-at.true)

pub unwrap-requires : goal.unwrap-requires
unwrap-requires c = told_small _ c.try_from.ensures (plain_inside _ _ c.args.self.laid c.if-list-at.false c.if-map-lt4.true).1

pub number_at-requires : goal.number_at-requires
number_at-requires c = let head = plain_inside _ _ c.args.self.laid c.if-list-at.false c.if-map-lt4.true in omega arith

pub returns-then-map-lt4 : goal.returns-then-map-lt4
returns-then-map-lt4 c =
    let found = plain_found _ _ c.args.self.laid c.if-list-at.false c.if-map-lt4.true (told_ok _ c.try_from.ensures c.unwrap.ensures) c.number_at.ensures.value in
    record { answer = found; fits = found_fits _ _ found (omega arith) }

pub unwrap-requires-2 : goal.unwrap-requires-2
unwrap-requires-2 c = told_small _ c.try_from-2.ensures (indented_inside _ _ c.args.self.laid c.if-list-at.false c.if-map-lt4.false).1

pub number_at-requires-2 : goal.number_at-requires-2
number_at-requires-2 c = let head = indented_inside _ _ c.args.self.laid c.if-list-at.false c.if-map-lt4.false in omega arith

pub number_at-requires-3 : goal.number_at-requires-3
number_at-requires-3 c = let head = indented_inside _ _ c.args.self.laid c.if-list-at.false c.if-map-lt4.false in omega arith

pub returns : goal.returns
returns c =
    let found = indented_found _ _ c.args.self.laid c.if-list-at.false c.if-map-lt4.false
    (told_ok _ c.try_from-2.ensures c.unwrap-2.ensures) c.number_at-2.ensures.value c.number_at-3.ensures.value in
    record { answer = found; fits = found_fits _ _ found (omega arith) }
