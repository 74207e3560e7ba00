-- Each kind by itself, and all others.
use mathlib.Core.Path.{refl}
use mathlib.Core.Logic.{⊎_elim}
use Rattle.tree.proofs.KindNumbers.{other_number}
use Rattle.losses.proofs.search.listed_below.Goals as goal

pub returns-in-Vec : goal.returns-in-Vec
returns-in-Vec c = rw c.in-Vec.is refl

pub returns-in-Braces : goal.returns-in-Braces
returns-in-Braces c = ⊎_elim (λ is. rw is refl) (λ rest. ⊎_elim (λ is. rw is refl) (λ is. rw is refl) rest) c.in-Braces.is

pub returns-in_default : goal.returns-in_default
returns-in_default c =
    let kind = c.args.kind in
    let not = c.in_default in
    rw (
      other_number 24 refl not.not-Vec,
      other_number 2 refl not.not-Braces,
      other_number 3 refl not.not-Config,
      other_number 27 refl not.not-Block,
    ) refl
