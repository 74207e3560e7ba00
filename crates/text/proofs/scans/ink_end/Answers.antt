-- `rposition` finds the last ink.
use Rattle.std.proofs.Common.{rules}
use Rattle.text.proofs.Places.{ink_end_found}
use Rattle.text.proofs.scans.ink_end.Goals as goal

pub returns : goal.returns
returns c = ink_end_found c.rposition.result c.args.bytes.now c.map_or.result (search rules) (search rules)
