-- The position of braces says whether the tag stands between spaces or on a new line.
use Rattle.leaves.proofs.Classes.{word_leaf}
use Rattle.printers.proofs.Going.{◌onward◌}
use Rattle.tokens.specs.Inner.{else_front}
use Rattle.tokens.proofs.Cycle.{at_position}
use Rattle.tokens.proofs.walk.format_else.Goals as goal

pub returns-in-SameLine : goal.returns-in-SameLine
returns-in-SameLine c =
    at_position else_front c.in-SameLine.is (c.push.ensures.goes onward c.format_leaf.ensures.leaf word_leaf onward c.push-in-SameLine.ensures.goes)

pub returns-in-NewLine : goal.returns-in-NewLine
returns-in-NewLine c = at_position else_front c.in-NewLine.is (c.push-in-NewLine.ensures.goes onward c.format_leaf-in-NewLine.ensures.leaf word_leaf)
