-- Each kind by itself, and all others.
use mathlib.Core.Path.{refl}
use mathlib.Core.Logic.{⊎_elim}
use Rattle.tree.specs.Tree.{built}
use Rattle.events.specs.Trees.{one_of}
use Rattle.tree.proofs.KindNumbers.{other_number}
use Rattle.leads.proofs.after_same.Goals as goal

pub returns-in-Braces : goal.returns-in-Braces
unfolding one_of built
returns-in-Braces c = ⊎_elim (λ is. rw is) (⊎_elim (λ is. rw is) (⊎_elim (λ is. rw is) (⊎_elim (λ is. rw is) (λ is. rw is)))) c.in-Braces.is

pub returns-in-Import : goal.returns-in-Import
unfolding one_of built
returns-in-Import c = ⊎_elim (λ is. rw is) (λ is. rw is) c.in-Import.is

pub returns-in_default : goal.returns-in_default
unfolding one_of
returns-in_default c =
    let other = c.in_default in
    rw (
      other_number 2 refl other.not-Braces,
      other_number 6 refl other.not-Definition,
      other_number 10 refl other.not-If,
      other_number 15 refl other.not-Loop,
      other_number 19 refl other.not-Segment,
      other_number 11 refl other.not-Import,
      other_number 14 refl other.not-Label,
    )
