-- The buffer starts with the text so far, which with the lines still to come is all of the text: a turn writes one line, and at the end no line is left.
use mathlib.Core.Path.{refl, sym, ◌∙◌}
use native.Mathlib.Omega.{arith}
use Rattle.join.proofs.Running.{holding_start, holding_done, line_fits, line_small, line_room, holding_kept, holding_dropped}
use Rattle.join.proofs.lines.write_lines.Goals as goal
use Rattle.join.proofs.lines.write_lines.Goals.{in-Some, in_default}

pub spot_at-spot-requires : goal.spot_at-spot-requires
spot_at-spot-requires c = (c.args.judged.laid, omega arith)

pub loop-spot-init : goal.loop-spot-init
loop-spot-init c = (holding_start _ _ _ _ c.spot_at-spot.ensures, refl)

pub guess_of-guess-requires : goal.guess_of-guess-requires
guess_of-guess-requires c = c.loop-spot.invariant.0.running.standing.small

pub try_line-walked-requires : goal.try_line-walked-requires
try_line-walked-requires c =
    let given = c.requires in
    let turn = c.loop-spot.invariant in
    let running = turn.0.running in
    let here = running.standing in
    record {
      inside = record { standing = here; some = c.loop-spot-test.true };
      length_bound = (omega (arith, running.small, c.args.judged.short), omega (arith, turn.1, given.1), c.guess_of-guess.ensures.0, c.guess_of-guess.ensures.1);
    }

pub cut_of-requires : goal.cut_of-requires
cut_of-requires c = c.try_line-walked.ensures.walked.low

pub mend-requires : goal.mend-requires
mend-requires c =
    let given = c.requires in
    let turn = c.loop-spot.invariant in
    let running = turn.0.running in
    let tried = c.try_line-walked in
    let found = tried.ensures.walked in
    let made = sym c.cut_of.ensures ∙ c.in-Some.is in
    record {
      inside = record { standing = running.standing; some = c.loop-spot-test.true };
      cut_fits = line_fits running c.args.judged.narrow found made;
      fact = λ _. omega (arith, line_room running c.args.judged.narrow found made, turn.1, given.0, tried.auto.text);
    }

pub grown-past-requires : goal.grown-past-requires
grown-past-requires c =
    let made = sym c.cut_of.ensures ∙ c.in-Some.is in
    line_small c.loop-spot.invariant.0.running c.args.judged.narrow c.try_line-walked.ensures.walked made c.args.judged.short

pub loop-spot-smaller : goal.loop-spot-smaller
loop-spot-smaller c =
    omega (arith, c.loop-spot-test.true, c.try_line-walked.ensures.walked.onward)

pub loop-spot-preserved : goal.loop-spot-preserved
loop-spot-preserved c =
    let turn = c.loop-spot.invariant in
    let holding = turn.0 in
    let tried = c.try_line-walked in
    let found = tried.ensures.walked in
    let narrow = c.args.judged.narrow in (
      elim c.match-cut_of.branch [
        | in-Some w ↦
            let made = sym c.cut_of.ensures ∙ w.in-Some.is in
            rw (w.past-is, w.text-is, w.grown-past.ensures)
            (holding_kept holding.running narrow found holding.held tried.ensures.tried made w.mend.ensures (turn.1 ∙ c.requires.0) tried.auto.text)
        | in_default w ↦
            rw (w.past-is, w.text-is) (holding_dropped holding.running narrow found holding.held tried.ensures.tried (sym c.cut_of.ensures ∙ w.in_default.is))
      ],
      c.match-cut_of.auto.text ∙ tried.auto.text ∙ turn.1,
    )

pub shape_of-text : goal.shape_of-text
shape_of-text c = c.loop-spot.invariant.1

pub returns : goal.returns
returns c = holding_done c.loop-spot.invariant.0 c.loop-spot-test.false (c.loop-spot.invariant.1 ∙ c.requires.0)
