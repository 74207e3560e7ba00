-- Once the indent is set the chunks run on; before, line and text are left as they are.
use Rattle.join.proofs.Walking.{ran_start}
use Rattle.join.proofs.line.pass_on.Goals as goal

pub returns-in-Some : goal.returns-in-Some
returns-in-Some g c = rw c.in-Some.is (c.pass.ensures _)

pub returns-in-None : goal.returns-in-None
returns-in-None g c =
    let given = c.requires in
    ran_start _ _ _ _ _ _ _ (g.met.S.Sink.writes c.args.sink) given.inside.standing given.inside.some given.leading_le_length.0
