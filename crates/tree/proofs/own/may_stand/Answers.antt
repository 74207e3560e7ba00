-- A list has the number that the definition tests; the number of any other kind lies between the bounds' or not.
use Rattle.std.specs.Prelude.{Option, Some, None, is_some}
use mathlib.Core.Path.{◌≡◌, refl, ◌∙◌}
use borrow.Author.Tests.{le-leb, lt-leb}
use Rattle.tree.specs.Own.{is_list}
use Rattle.tree.specs.declared.grammar.Class.{Class}
use Rattle.tree.proofs.KindNumbers.{other_number}
use Rattle.tree.proofs.own.may_stand.Goals as goal

-- a class of lists has items
listed : (items : Option Class) → is_some items ≡ is_list items
listed None = refl
listed (Some class) = refl

pub returns-in-Vec : goal.returns-in-Vec
returns-in-Vec c = rw c.in-Vec.is (c.is_some.ensures ∙ listed _)

pub returns-then-number : goal.returns-then-number
returns-then-number c =
    rw (
      c.number-then-number.ensures,
      c.number-then-number-2.ensures,
      other_number 24 refl c.in_default.not-Vec,
      ← c.number.ensures,
      ← c.number-in_default.ensures,
      le-leb _ _ c.if-number.true,
    )

pub returns-else-number : goal.returns-else-number
returns-else-number c = rw (other_number 24 refl c.in_default.not-Vec, ← c.number.ensures, ← c.number-in_default.ensures, lt-leb _ _ c.if-number.false)
