-- Whatever line goes on from the spot, before each step it went on to where the walk is and was given on; a step takes both one chunk further.
use mathlib.Core.Path.{refl, ◌∙◌}
use native.Mathlib.Omega.{arith}
use Rattle.std.specs.Prelude.{Some}
use Rattle.join.proofs.Walking.{run_fits, ran_start, ran_on}
use Rattle.join.proofs.line.pass.Goals as goal

pub loop-sink-init : goal.loop-sink-init
loop-sink-init g c =
    (λ n. ran_start _ _ _ _ _ _ (Some n) (g.met.S.Sink.writes c.args.sink) c.requires.inside.standing c.requires.inside.some c.requires.leading_le_length.0, refl)

pub is_whole-requires : goal.is_whole-requires
is_whole-requires g c = (c.loop-sink.invariant.0 0).standing

pub step_whole-step-requires : goal.step_whole-step-requires
step_whole-step-requires g c =
    let ran = c.loop-sink.invariant.0 0 in
    record { inside = record { standing = ran.standing; some = ran.some }; whole = c.is_whole.ensures c.loop-sink-test.true }

pub take-requires : goal.take-requires
take-requires g c =
    let given = c.requires in
    let turn = c.loop-sink.invariant in
    record {
      room = rw turn.1 given.room;
      end = (run_fits 0 (turn.0 0) c.step_whole-step.ensures.0 given.leading_le_length.1 c.args.judged.short).small;
    }

pub with_step-reached-requires : goal.with_step-reached-requires
with_step-reached-requires g c =
    run_fits 0 (c.loop-sink.invariant.0 0) c.step_whole-step.ensures.0 c.requires.leading_le_length.1 c.args.judged.short

pub loop-sink-smaller : goal.loop-sink-smaller
loop-sink-smaller g c =
    omega (arith, c.step_whole-step.ensures.0.onward, (c.loop-sink.invariant.0 0).some)

pub loop-sink-preserved : goal.loop-sink-preserved
loop-sink-preserved g c =
    let turn = c.loop-sink.invariant in
    let counted = c.with_step-reached.ensures in
    let stepped = c.step_whole-step.ensures in (
      λ n. ran_on n (turn.0 n) stepped.0 (g.met.S.Sink.writes c.args.sink) stepped.1 c.take.ensures counted.measured counted.length.0 counted.length.1,
      c.take.auto.text ∙ turn.1,
    )

pub shape_of-text : goal.shape_of-text
shape_of-text g c = c.loop-sink.invariant.1

pub returns : goal.returns
returns g c = c.loop-sink.invariant.0
