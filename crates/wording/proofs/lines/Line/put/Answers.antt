-- The piece stands in the buffer, or there is no room for it.
use mathlib.Core.Path.{refl, sym, ◌∙◌}
use Rattle.wording.proofs.Pieces.{put_stored, put_left}
use Rattle.wording.proofs.lines.Line.put.Goals as goal

pub returns-in-Some : goal.returns-in-Some
returns-in-Some c = record { line = put_stored _ _ _ (sym c.copy.ensures.answer ∙ c.in-Some.is) c.copy.ensures.buffer; lender = refl }

pub returns-in_default : goal.returns-in_default
returns-in_default c = record { line = put_left _ _ _ c.copy.ensures.answer c.copy.ensures.buffer c.in_default.not-Some; lender = refl }
