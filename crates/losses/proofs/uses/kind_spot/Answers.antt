-- Each kind by itself.
use mathlib.Core.Path.{refl}
use Rattle.tree.proofs.KindNumbers.{other_number}
use Rattle.losses.proofs.uses.kind_spot.Goals as goal

pub returns-in-SpecificImportArg : goal.returns-in-SpecificImportArg
returns-in-SpecificImportArg c = rw c.in-SpecificImportArg.is refl

pub returns-in-PathItem : goal.returns-in-PathItem
returns-in-PathItem c = rw c.in-PathItem.is refl

pub returns-in_default : goal.returns-in_default
returns-in_default c =
    let kind = c.args.kind in
    rw (
      other_number 41 refl c.in_default.not-SpecificImportArg,
      other_number 26 refl c.in_default.not-PathItem,
    ) refl
