-- The spaces stand in the buffer, or there is no room for them.
use mathlib.Core.Path.{refl, sym, ◌∙◌}
use Rattle.wording.proofs.Pieces.{put_stored, put_left}
use Rattle.wording.proofs.lines.Line.put_spaces.Goals as goal

pub returns-in-Some : goal.returns-in-Some
returns-in-Some c = record { line = put_stored _ _ _ (sym c.fill.ensures.answer ∙ c.in-Some.is) c.fill.ensures.buffer; lender = refl }

pub returns-in_default : goal.returns-in_default
returns-in_default c = record { line = put_left _ _ _ c.fill.ensures.answer c.fill.ensures.buffer c.in_default.not-Some; lender = refl }
