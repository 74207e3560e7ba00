-- The spaces before, the text and the spaces behind are written one behind the other.
use Rattle.join.proofs.Windows.{puts_step}
use Rattle.join.proofs.sink.put_step.Goals as goal

pub returns : goal.returns
returns c =
    puts_step c.args.text.now c.args.window c.args.at c.args.step c.put_spaces.ensures c.put_bytes.ensures c.put_spaces-2.ensures
