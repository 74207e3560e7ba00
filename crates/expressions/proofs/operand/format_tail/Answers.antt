-- The closing character is skipped, and the mode that is read behind it says the order of the rest; where none can be read the walk ends.
use mathlib.Core.Path.{refl}
use Rattle.text.proofs.Parts.{part_slice}
use Rattle.printers.proofs.Going.{◌onward◌, there}
use Rattle.printers.proofs.Opening.{opened_fits}
use Rattle.expressions.proofs.Operands.{mode_closed, mode_opened}
use Rattle.expressions.proofs.operand.format_tail.Goals as goal

pub returns-in_default : goal.returns-in_default
returns-in_default c = there (c.skip.ensures onward mode_closed c.open.ensures _ _ _ c.in_default.is) refl refl

pub slice_bounds-of_text-start : goal.slice_bounds-of_text-start
slice_bounds-of_text-start c = (opened_fits c.open.ensures c.in-Some.is).0

pub slice_bounds-of_text-end : goal.slice_bounds-of_text-end
slice_bounds-of_text-end c = (opened_fits c.open.ensures c.in-Some.is).1

pub returns : goal.returns
returns c = there (c.skip.ensures onward mode_opened c.open.ensures _ _ _ c.in-Some.is (rw part_slice at c.of_text-mode.ensures) c.format_end.ensures) refl refl
