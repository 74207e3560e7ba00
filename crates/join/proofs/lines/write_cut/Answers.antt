-- The newline, the spaces and what the window shows of the line are one run of bytes behind the text so far.
use native.Mathlib.Omega.{arith}
use Rattle.join.specs.Walk.{line_at}
use Rattle.join.proofs.Running.{start_near, cut_end, cut_shown}
use Rattle.join.proofs.lines.write_cut.Goals as goal

pub overflow_add-base : goal.overflow_add-base
overflow_add-base c = omega (arith, start_near c.args.past)

pub walk-requires : goal.walk-requires
walk-requires c =
    let args = c.args in
    let end = cut_end args.past args.cut (line_at args.judged.margins args.judged.list.now args.spot).line.bytes c.requires.cut_fits in
    record {
      inside = c.requires.inside;
      room = omega (arith, c.line_start-start.ensures, c.put_newline.auto.text, c.fill.auto.buffer);
    }

pub returns : goal.returns
returns c =
    let started = c.line_start-start.ensures in
    let newlined = c.put_newline.ensures in
    let led = c.fill.ensures.buffer in
    cut_shown c.args.past c.args.cut _ _ _ _ _ c.requires.cut_fits started c.requires.line_in_bounds newlined led c.walk.ensures.showing
