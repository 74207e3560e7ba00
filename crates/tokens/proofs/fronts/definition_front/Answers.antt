-- The tag with the name, and a space behind them.
use Rattle.printers.proofs.Going.{◌onward◌}
use Rattle.tokens.proofs.fronts.definition_front.Goals as goal

pub returns : goal.returns
returns c = c.tag_and_name.ensures onward c.push.ensures.goes
