-- The window goes from where the line is guessed to start to the end of the text, so it shows all of the line that has room.
use mathlib.Core.Path.{◌∙◌}
use native.Mathlib.Omega.{arith}
use Rattle.join.proofs.Running.{start_near, line_tried}
use Rattle.join.proofs.lines.try_line.Goals as goal

pub overflow_add-base : goal.overflow_add-base
overflow_add-base c = omega (arith, start_near c.args.past)

pub walk-requires : goal.walk-requires
walk-requires c = record { inside = c.requires.inside; room = c.window_of-window.ensures.within }

pub returns : goal.returns
returns c =
    let started = c.line_start-start.ensures in
    let newlined = c.put_newline in
    let led = c.fill in
    let window = c.window_of-window.ensures.answer in
    let walked = c.walk.ensures in
    let size = led.auto.buffer ∙ newlined.auto.text in
    record {
      walked = walked.walked;
      tried = line_tried c.args.past c.args.guess _ _ _ _ _ started newlined.ensures led.ensures.buffer (rw (window, size) at walked.showing);
    }
