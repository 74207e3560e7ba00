-- A path item has the number that the definition tests.
use mathlib.Core.Path.{◌≡◌, refl}
use mathlib.Core.Bool.{Bool, true, false, ◌||◌}
use Rattle.tree.proofs.own.trivia_fits.Goals as goal

-- a disjunction whose last part holds
last : (a b : Bool) → true ≡ (a || (b || true))
last true b = refl
last false true = refl
last false false = refl

pub returns-in-PathItem : goal.returns-in-PathItem
returns-in-PathItem c = rw c.in-PathItem.is (last _ _)
