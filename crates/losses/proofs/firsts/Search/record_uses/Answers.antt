-- A head that was refused, which cannot be where the record passed; a record that is an operand, and any other.
use Rattle.losses.proofs.Shown.{operand_shown, record_shown}
use Rattle.losses.proofs.firsts.Search.record_uses.Goals as goal

pub returns-in-Operand : goal.returns-in-Operand
returns-in-Operand c =
    operand_shown _ _ _ _ _ c.args.listed
    c.own_spot.ensures c.head_spot.ensures c.own_use.ensures
    c.head_use.ensures.unused c.head_use.ensures.takes c.in-Operand.is c.closing_use.ensures

pub returns-in_default : goal.returns-in_default
returns-in_default c =
    record_shown _ _ _ _ _ c.args.listed
    c.own_spot.ensures c.head_spot.ensures c.own_use.ensures
    c.head_use.ensures.unused c.head_use.ensures.takes c.in_default.not-Operand
