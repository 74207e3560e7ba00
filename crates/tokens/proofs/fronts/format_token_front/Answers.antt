-- Each kind has its front, and all others have none.
use Rattle.tokens.proofs.FrontParts.{no_front}
use Rattle.tokens.proofs.fronts.format_token_front.Goals as goal

pub returns-in_default : goal.returns-in_default
returns-in_default c =
    let other = c.in_default in
    no_front _ _ other.not-ConfigPair other.not-Definition other.not-If other.not-Import other.not-Label other.not-Loop
    other.not-MacroDefinition other.not-Segment other.not-Test
