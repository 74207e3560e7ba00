-- The same tests as the definition's, by the kind instead of its number.
use mathlib.Core.Logic.{⊎_elim}
use mathlib.Core.Path.{refl}
use lib.ListN.{get_or}
use Rattle.tree.specs.declared.grammar.Kind.TheVariants.{Braces, Config, Expression}
use Rattle.tree.proofs.KindLayout.{kind_number_lem}
use Rattle.tree.proofs.KindNumbers.{kind_moved, no_kind}
use Rattle.tree.proofs.parts.token_head.Goals as goal

pub returns-in-Braces : goal.returns-in-Braces
returns-in-Braces c = λ at known.
    ⊎_elim
    (λ braces. rw (kind_moved (get_or c.args.tree.now at 0) _ known 2 Braces refl braces) c.inner_head.ensures)
    (λ config. rw (kind_moved (get_or c.args.tree.now at 0) _ known 3 Config refl config) c.inner_head.ensures)
    c.in-Braces.is

pub returns-in-Expression : goal.returns-in-Expression
returns-in-Expression c = λ at known.
    rw (kind_moved (get_or c.args.tree.now at 0) _ known 9 Expression refl c.in-Expression.is) c.inner_head-in-Expression.ensures

pub returns-in_default : goal.returns-in_default
returns-in_default c = λ at known.
    let is = kind_number_lem (get_or c.args.tree.now at 0) _ known in
    rw (
      no_kind (get_or c.args.tree.now at 0) _ known 2 Braces refl c.in_default.not-Braces,
      no_kind (get_or c.args.tree.now at 0) _ known 3 Config refl c.in_default.not-Config,
      no_kind (get_or c.args.tree.now at 0) _ known 9 Expression refl c.in_default.not-Expression,
    ) (rw is at c.field_head.ensures)
