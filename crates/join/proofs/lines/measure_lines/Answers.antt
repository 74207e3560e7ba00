-- The text so far with the lines still to come is all of the text: so it is at the start, a turn adds one line, and at the end no line is left.
use mathlib.Core.Path.{sym, ◌∙◌}
use native.Mathlib.Omega.{arith}
use Rattle.join.proofs.Running.{running_start, running_length, line_small, running_kept, running_dropped}
use Rattle.join.proofs.lines.measure_lines.Goals as goal
use Rattle.join.proofs.lines.measure_lines.Goals.{in-Some, in_default}

pub spot_at-spot-requires : goal.spot_at-spot-requires
spot_at-spot-requires c = (c.args.judged.laid, omega arith)

pub loop-spot-init : goal.loop-spot-init
loop-spot-init c = running_start _ _ _ c.spot_at-spot.ensures

pub walk-walked-requires : goal.walk-walked-requires
walk-walked-requires c =
    record { inside = record { standing = c.loop-spot.invariant.standing; some = c.loop-spot-test.true }; room = tt }

pub cut_of-requires : goal.cut_of-requires
cut_of-requires c = c.walk-walked.ensures.walked.low

pub grown-past-requires : goal.grown-past-requires
grown-past-requires c =
    let made = sym c.cut_of.ensures ∙ c.in-Some.is in
    line_small c.loop-spot.invariant c.args.judged.narrow c.walk-walked.ensures.walked made c.args.judged.short

pub loop-spot-smaller : goal.loop-spot-smaller
loop-spot-smaller c = omega (arith, c.loop-spot-test.true, c.walk-walked.ensures.walked.onward)

pub loop-spot-preserved : goal.loop-spot-preserved
loop-spot-preserved c =
    let turn = c.loop-spot.invariant in
    let narrow = c.args.judged.narrow in
    let found = c.walk-walked.ensures.walked in
    elim c.match-cut_of.branch [
      | in-Some w ↦ rw (w.past-is, w.grown-past.ensures) (running_kept turn narrow found (sym c.cut_of.ensures ∙ w.in-Some.is))
      | in_default w ↦ rw w.past-is (running_dropped turn narrow found (sym c.cut_of.ensures ∙ w.in_default.is))
    ]

pub returns : goal.returns
returns c =
    let found = running_length c.loop-spot.invariant c.loop-spot-test.false c.args.judged.short in
    record { length = found.0; small = found.1 }
