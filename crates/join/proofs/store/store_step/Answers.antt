-- The spaces before, the text and the spaces behind are stored one behind the other.
use Rattle.join.proofs.Storing.{sets_step}
use Rattle.join.proofs.store.store_step.Goals as goal

pub returns : goal.returns
returns c =
    sets_step c.args.text.now c.args.place c.args.step c.store_spaces.ensures c.store_bytes.ensures c.store_spaces-2.ensures
