-- What the window shows all of is stored as it is.
use Rattle.join.proofs.Storing.{step_shown}
use Rattle.join.proofs.sink.WindowSink.take.Goals as goal

pub returns-then-end-self : goal.returns-then-end-self
returns-then-end-self c =
    step_shown c.args.text.now c.args.self c.args.at c.args.step c.if-self-at.true (rw c.length.ensures at c.if-end-self.true) c.store_step.ensures
