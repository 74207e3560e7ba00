-- Before each turn the measures are those of the line so far, which was given on; chunks without a newline run on, and the step behind them adds the next piece to both.
use Rattle.std.specs.Prelude.{Option, Some, None}
use Rattle.std.specs.Option.{unwrap_or}
use Rattle.columns.specs.Layout.{indent_of}
use Prim.Native.Nat.{ℕ}
use mathlib.Core.Path.{◌≡◌, refl, ◌∙◌}
use native.Mathlib.Omega.{arith}
use Rattle.join.proofs.Walking.{placing_start, pausing_start, pausing_short, pausing_run, pausing_fits, pausing_on, pausing_empty, placing_walked, placing_shown}
use Rattle.join.proofs.line.walk.Goals as goal
use Rattle.join.proofs.line.walk.Goals.{then-not-is_empty, else-not-is_empty}

pub loop-ended-init : goal.loop-ended-init
loop-ended-init g c =
    (placing_start _ _ _ _ _ (g.met.S.Sink.writes c.args.sink) c.requires.inside.standing c.requires.inside.some, refl)

pub pass_on-run-requires : goal.pass_on-run-requires
pass_on-run-requires g c =
    let given = c.requires in
    let turn = c.loop-ended in
    let pausing = pausing_start (rw c.loop-ended-test.true at turn.invariant.0) c.takes-indent.ensures in
    record {
      inside = record { standing = pausing.walking.standing; some = pausing.walking.more refl };
      leading_le_length = (pausing.fits, pausing_short pausing);
      room = rw turn.invariant.1 given.room;
    }

pub step_over-step-requires : goal.step_over-step-requires
step_over-step-requires g c =
    let ran = c.pass_on-run.ensures in
    record { standing = ran.standing; some = ran.some }

pub take-requires : goal.take-requires
take-requires g c =
    let turn = c.loop-ended in
    let pausing = pausing_start (rw c.loop-ended-test.true at turn.invariant.0) c.takes-indent.ensures in
    let run = c.pass_on-run in
    let on = pausing_run (g.met.S.Sink.writes c.args.sink) pausing run.ensures in
    record { room = rw (run.auto.text ∙ turn.invariant.1) c.requires.room; end = (pausing_fits on c.step_over-step.ensures c.args.judged.short).small }

pub with_step-measure-requires : goal.with_step-measure-requires
with_step-measure-requires g c =
    let pausing = pausing_start (rw c.loop-ended-test.true at c.loop-ended.invariant.0) c.takes-indent.ensures in
    pausing_fits (pausing_run (g.met.S.Sink.writes c.args.sink) pausing c.pass_on-run.ensures) c.step_over-step.ensures c.args.judged.short

pub loop-ended-smaller : goal.loop-ended-smaller
loop-ended-smaller g c =
    let ran = c.pass_on-run.ensures in
    omega (arith, ran.some, ran.onward, c.step_over-step.ensures.onward)

pub loop-ended-preserved : goal.loop-ended-preserved
loop-ended-preserved g c =
    let writes = g.met.S.Sink.writes c.args.sink in
    let turn = c.loop-ended in
    let run = c.pass_on-run in
    let pausing = pausing_start (rw c.loop-ended-test.true at turn.invariant.0) c.takes-indent.ensures in
    let on = pausing_run writes pausing run.ensures in
    let stepped = c.step_over-step.ensures in (
      elim c.if-not-is_empty.branch [
        | then-not-is_empty w ↦
            let counted = w.with_step-measure.ensures in
            rw (w.text-is, w.measure-is) (pausing_on on stepped writes w.take.ensures counted.measured counted.length.1)
        | else-not-is_empty w ↦ rw (w.text-is, w.measure-is) (pausing_empty on stepped writes (c.is_empty.ensures w.if-not-is_empty.false))
      ],
      c.if-not-is_empty.auto.text ∙ run.auto.text ∙ turn.invariant.1,
    )

pub shape_of-text : goal.shape_of-text
shape_of-text g c = c.loop-ended.invariant.1

-- a line's indent, or 0
or_none : (indent : Option ℕ) → unwrap_or indent 0 ≡ indent_of indent
or_none (Some count) = refl
or_none None = refl

pub returns : goal.returns
returns g c =
    let turn = c.loop-ended.invariant.0 in
    let ended = c.loop-ended-test.false in
    record { walked = placing_walked turn ended (c.unwrap_or.ensures ∙ or_none c.loop-ended.indent); showing = placing_shown turn ended }
