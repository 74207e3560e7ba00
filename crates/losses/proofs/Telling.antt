-- What an answer of `lost` tells: none at all, that no place is used; so demand 3's premise can be tested.
--   nothing_lost : batch_checked bytes ≡ no_refusal → lost_from 0 bytes ≡ Ok None → uses_place (read_file 64 bytes).tree ≡ false
--   first_never : first_in 0 spot tree ≡ None → uses spot tree ≡ false
use Rattle.std.specs.Prelude.{Option, Some, None, Ok}
use Rattle.answers.specs.Numbers.{no_refusal}
use mathlib.Core.Path.{◌≡◌, refl, sym, ap, ◌∙◌}
use mathlib.Core.List.{List, [], ◌∷◌}
use mathlib.Core.Bool.{false}
use Prim.Native.Nat.{ℕ, zero, suc}
use native.Mathlib.Omega.{arith}
use lib.ListN.{get_or}
use lib.Dec.{eqb, ltb}
use borrow.Author.Tests.{le-ltb}
use Rattle.text.proofs.Choices.{by_test}
use Rattle.tree.specs.Checking.{read_file, batch_checked}
use Rattle.tree.specs.Tree.{Tree}
use Rattle.reading.specs.Places.{Spot, Use, opening_brace, label_colon, value_head, import_path, path_item, register_letter, expression_head, closing_character}
use Rattle.reading.specs.Places.{spot_number, places_in, among, uses, uses_place}
use Rattle.losses.specs.Lost.{Firsts, earlier_of, first_from, first_in, firsts_in, lesser_of, least_of, Lost, answer_with, lost_on, lost_from}

-- ---- a first record stays one

-- a first record is not none
pub at_never : {R : Type 0} {at : ℕ} → Some at ≡ None → R
at_never e = let zero_one : ◌≡◌ {A = ℕ} 0 1 = cc in absurd (omega arith)

-- with another record there is one
earlier_some : (first : Option ℕ) (at : ℕ) → (place : ℕ) × (earlier_of first at ≡ Some place)
earlier_some None at = (at, refl)
earlier_some (Some other) at = by_test (ltb at other) (λ q. (at, rw q)) (λ q. (other, rw q))

some_stays : (from : ℕ) (spot : Spot) (place : ℕ) (found : List Use) → (at : ℕ) × (first_from from spot (Some place) found ≡ Some at)
unfolding first_from
some_stays from spot place [] = (place, refl)
some_stays from spot place (used ∷ others) =
    by_test (eqb (spot_number spot) (spot_number used.spot))
    (λ q. by_test (ltb used.place from)
    (λ r. let rest = some_stays from spot place others in (rest.0, rw (q, r) rest.1))
    (λ r.
    let next = earlier_some (Some place) used.place in
    let rest = some_stays from spot next.0 others in
    (rest.0, rw (q, r, next.1) rest.1)))
    (λ q. let rest = some_stays from spot place others in (rest.0, rw q rest.1))

-- ---- none is found where none is used

-- of uses from the first byte on
never_among : (spot : Spot) (found : List Use) → first_from 0 spot None found ≡ None → among spot found ≡ false
unfolding first_from among
never_among spot [] none = refl
never_among spot (used ∷ others) none =
    let counts : ltb used.place 0 ≡ false = le-ltb used.place 0 (omega arith) in
    by_test (eqb (spot_number spot) (spot_number used.spot))
    (λ q. let found = some_stays 0 spot used.place others in at_never (sym found.1 ∙ rw (q, counts) at none))
    (λ q. rw q (never_among spot others (rw q at none)))

pub first_never : (spot : Spot) (tree : Tree) → first_in 0 spot tree ≡ None → uses spot tree ≡ false
first_never spot tree none = never_among spot (places_in false tree) none

-- the lesser of two is none where both are
lesser_never : (one other : Option ℕ) → lesser_of one other ≡ None → (one ≡ None) × (other ≡ None)
lesser_never None other e = (refl, e)
lesser_never (Some place) None e = at_never e
lesser_never (Some place) (Some other) e = by_test (ltb other place) (λ q. at_never (rw q at e)) (λ q. at_never (rw q at e))

-- the least is none where all are
least_never : (firsts : Firsts) (number : ℕ) → least_of firsts ≡ None → get_or firsts number None ≡ None
least_never [] number e = refl
least_never (first ∷ firsts) zero e = (lesser_never first (least_of firsts) e).0
least_never (first ∷ firsts) (suc number) e = least_never firsts number (lesser_never first (least_of firsts) e).1

-- the answer is none where the least is
answer_unused : (firsts : Firsts) (least : Option ℕ) → answer_with firsts least ≡ None → least ≡ None
answer_unused firsts None e = refl
answer_unused firsts (Some at) e = let zero_one : ◌≡◌ {A = ℕ} 0 1 = cc in absurd (omega arith)

-- `lost` finds nothing from the first byte on: the tree uses none of the eight places
pub nothing_lost : (bytes : List ℕ) → batch_checked bytes ≡ no_refusal → lost_from 0 bytes ≡ Ok None → uses_place (read_file 64 bytes).tree ≡ false
unfolding lost_from
nothing_lost bytes passed none =
    let tree : Tree = (read_file 64 bytes).tree in
    let firsts : Firsts = firsts_in 0 tree in
    let told : ◌≡◌ {A = Lost} (Ok (answer_with firsts (least_of firsts))) (Ok None) = sym (ap (lost_on 0 tree) passed) ∙ none in
    let unused : answer_with firsts (least_of firsts) ≡ None = cc in
    let never : (number : ℕ) → get_or firsts number None ≡ None =
    λ number. least_never firsts number (answer_unused firsts (least_of firsts) unused) in
    rw (
      first_never opening_brace tree (never 0),
      first_never label_colon tree (never 1),
      first_never value_head tree (never 2),
      first_never import_path tree (never 3),
      first_never path_item tree (never 4),
      first_never register_letter tree (never 5),
      first_never expression_head tree (never 6),
      first_never closing_character tree (never 7),
    )
