-- The first bytes and the last ones are all of them.
use Rattle.join.proofs.Storing.{ends_stored}
use Rattle.join.proofs.store.store_ends.Goals as goal

pub returns : goal.returns
returns g c =
    ends_stored c.args.text.now c.args.bytes.now c.args.place g.row.N c.requires.0 c.requires.1 c.requires.2 c.copy_from_slice.ensures.after c.copy_from_slice-2.ensures.after
