-- An accepted text is ASCII.
use Rattle.text.proofs.Places.{ascii_accepted}
use Rattle.text.proofs.scans.is_accepted.Goals as goal

pub returns : goal.returns
returns c = ascii_accepted c.args.bytes.now c.is_ascii.ensures.cases
