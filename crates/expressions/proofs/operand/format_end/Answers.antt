-- By the mode: the character and then the register, the register and then the character, or the register alone.
use mathlib.Core.Path.{refl, sym}
use Rattle.printers.proofs.Going.{◌onward◌, there}
use Rattle.expressions.proofs.Operands.{order_other}
use Rattle.expressions.proofs.operand.format_end.Goals as goal

pub returns-in-Indirect : goal.returns-in-Indirect
returns-in-Indirect c = rw c.in-Indirect.is (c.format_register_suffix.ensures onward c.format_closing.ensures)

pub returns-in-OuterIndirect : goal.returns-in-OuterIndirect
returns-in-OuterIndirect c = rw c.in-OuterIndirect.is (c.format_closing-in-OuterIndirect.ensures onward c.format_register_suffix-in-OuterIndirect.ensures)

pub returns-in_default : goal.returns-in_default
returns-in_default c = there c.format_register_suffix-in_default.ensures (sym (order_other c.args.mode _ _ c.in_default.not-Indirect c.in_default.not-OuterIndirect)) refl
