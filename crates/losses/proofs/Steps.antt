-- What a search becomes with one record more, place by place.
use mathlib.Core.Path.{◌≡◌, refl}
use mathlib.Core.Bool.{Bool, true, false}
use Prim.Native.Nat.{ℕ, ◌<◌}
use native.Mathlib.Omega.{arith}
use lib.Dec.{eqb}
use borrow.Author.Tests.{ne_eqb}
use Rattle.reading.specs.Places.{Spot, spot_number, opening_brace, label_colon, value_head, import_path, path_item, register_letter, expression_head, closing_character}
use Rattle.losses.specs.Visits.{Takes, TakesIf}
use Rattle.losses.specs.declared.firsts.Search.{Search}

-- a place's number is below 8, which is no place's
pub spot_below : (spot : Spot) → spot_number spot < 8
spot_below opening_brace = omega arith
spot_below label_colon = omega arith
spot_below value_head = omega arith
spot_below import_path = omega arith
spot_below path_item = omega arith
spot_below register_letter = omega arith
spot_below expression_head = omega arith
spot_below closing_character = omega arith

pub no_spot_lem : (spot : Spot) → eqb (spot_number spot) 8 ≡ false
no_spot_lem spot = ne_eqb (spot_number spot) 8 (λ e. omega (arith, e, spot_below spot))

module _ {after before : Search} {at number : ℕ} where
  -- where a record uses a place
  pub takes_used : {used : Bool} → used ≡ true → Takes after before at number → TakesIf after before at number used
  takes_used is takes = record { from = takes.from; each = λ spot. rw is (takes.each spot) }

module _ {before : Search} {at number : ℕ} where
  -- where it does not
  pub takes_unused : {used : Bool} → used ≡ false → TakesIf before before at number used
  takes_unused is = record { from = refl; each = λ spot. rw is refl }
