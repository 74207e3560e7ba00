-- `position` stops where the definition does.
use Rattle.std.proofs.Common.{◌∙◌, rules}
use Rattle.text.proofs.Places.{ink_found}
use Rattle.text.proofs.scans.leading_blanks.Goals as goal

pub returns : goal.returns
returns c = c.unwrap_or.ensures ∙ ink_found c.position.result c.args.bytes.now (search rules)
