-- `position` stops where the definition does.
use Rattle.std.proofs.Common.{◌∙◌, rules}
use Rattle.text.specs.Accepted.{accepted_byte}
use Rattle.text.proofs.Places.{fault_found}
use Rattle.text.proofs.scans.fault_at.Goals as goal

pub returns : goal.returns
unfolding accepted_byte
returns c = c.unwrap_or.ensures ∙ fault_found c.position.result c.args.bytes.now (search rules)
