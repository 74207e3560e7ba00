-- `position` stops where the definition does.
use Rattle.std.proofs.Common.{◌∙◌, rules}
use Rattle.text.proofs.Places.{newline_found}
use Rattle.text.proofs.scans.newline_at.Goals as goal

pub returns : goal.returns
returns c = c.unwrap_or.ensures ∙ newline_found c.position.result c.args.bytes.now (search rules)
