-- Called again behind each of its answers, `lost` lists every use of a place and nothing else.
--   every_use_told : a use at or after `from` is told by the answer from there, or a record before it is
--   told_used : what is told is a use
use Rattle.std.specs.Prelude.{Option, Some, None, Ok, map}
use Rattle.answers.specs.Numbers.{no_refusal}
use mathlib.Core.Path.{◌≡◌, refl, sym, ap, subst, ◌∙◌}
use mathlib.Core.Logic.{◌⊎◌, inl, inr, ⊎_elim}
use mathlib.Core.List.{List, [], ◌∷◌, ◌++◌}
use mathlib.Core.Bool.{Bool, true, false, cond}
use Prim.Native.Nat.{ℕ, zero, suc, ◌≤◌}
use native.Mathlib.Omega.{arith}
use lib.ListN.{get_or}
use lib.Dec.{eqb, ltb}
use borrow.Author.Tests.{le-ltb, ltb-false, ltb-true, eq-eqb, eqb-true}
use Rattle.text.proofs.Choices.{by_test}
use Rattle.tree.specs.Tree.{Tree}
use Rattle.tree.specs.Checking.{read_file, batch_checked}
use Rattle.reading.specs.Places.{Spot, Use, opening_brace, label_colon, value_head, import_path, path_item, register_letter, expression_head, closing_character}
use Rattle.reading.specs.Places.{spot_number, places_in}
use Rattle.losses.specs.Lost.{Firsts, spots, earlier_of, first_with, first_from, first_in, firsts_in, lesser_of, least_of, letters_at, Lost, answer_with, lost_on, lost_from}
use Rattle.losses.specs.Visits.{first_of}
use Rattle.losses.specs.declared.search.Loss.{Loss}
use Rattle.losses.proofs.Telling.{at_never}

-- ---- a first record within bounds

-- there is one, and it stands at or before an offset
abbrev UpTo : ℕ → Option ℕ → Type 0
UpTo limit None = ⊥
UpTo limit (Some place) = place ≤ limit

-- if there is one, it stands at or after an offset
abbrev Onward : ℕ → Option ℕ → Type 0
Onward from None = Unit
Onward from (Some place) = from ≤ place

earlier_up_to : (limit : ℕ) (first : Option ℕ) (at : ℕ) → UpTo limit first → UpTo limit (earlier_of first at)
earlier_up_to limit None at none = absurd none
earlier_up_to limit (Some other) at within = by_test (ltb at other) (λ q. rw q (omega (arith, ltb-true at other q, within))) (λ q. rw q within)

earlier_itself : (first : Option ℕ) (at : ℕ) → UpTo at (earlier_of first at)
earlier_itself None at = omega arith
earlier_itself (Some other) at = by_test (ltb at other) (λ q. rw q (omega arith)) (λ q. rw q (ltb-false at other q))

earlier_onward : (from : ℕ) (first : Option ℕ) (at : ℕ) → Onward from first → from ≤ at → Onward from (earlier_of first at)
earlier_onward from None at onward here = here
earlier_onward from (Some other) at onward here = by_test (ltb at other) (λ q. rw q here) (λ q. rw q onward)

-- ---- the first of some uses

from_up_to : (from limit : ℕ) (spot : Spot) (first : Option ℕ) (uses : List Use) → UpTo limit first → UpTo limit (first_from from spot first uses)
unfolding first_from
from_up_to from limit spot first [] within = within
from_up_to from limit spot first (used ∷ others) within =
    by_test (eqb (spot_number spot) (spot_number used.spot))
    (λ q. by_test (ltb used.place from)
    (λ r. rw (q, r) (from_up_to from limit spot first others within))
    (λ r. rw (q, r) (from_up_to from limit spot (earlier_of first used.place) others (earlier_up_to limit first used.place within))))
    (λ q. rw q (from_up_to from limit spot first others within))

from_onward : (from : ℕ) (spot : Spot) (first : Option ℕ) (uses : List Use) → Onward from first → Onward from (first_from from spot first uses)
unfolding first_from
from_onward from spot first [] onward = onward
from_onward from spot first (used ∷ others) onward =
    by_test (eqb (spot_number spot) (spot_number used.spot))
    (λ q. by_test (ltb used.place from)
    (λ r. rw (q, r) (from_onward from spot first others onward))
    (λ r. rw (q, r) (from_onward from spot (earlier_of first used.place) others (earlier_onward from first used.place onward (ltb-false used.place from r)))))
    (λ q. rw q (from_onward from spot first others onward))

-- the first of uses whose first is of the place and at or after `from`
from_same : (from : ℕ) (first : Option ℕ) (used : Use) (behind : List Use) → eqb (spot_number used.spot) (spot_number used.spot) ≡ true
    → ltb used.place from ≡ false → UpTo used.place (first_from from used.spot (earlier_of first used.place) behind)
    → UpTo used.place (first_from from used.spot first (used ∷ behind))
unfolding first_from
from_same from first used behind same counts t =
    subst (λ (chosen : Bool). UpTo used.place (first_from from used.spot (cond chosen (first_with from first used.place) first) behind)) (sym same)
    (subst (λ (below : Bool). UpTo used.place (first_from from used.spot (cond below first (earlier_of first used.place)) behind)) (sym counts) t)

-- a use at or after `from` is not behind the first of its place
use_up_to : (from : ℕ) (first : Option ℕ) (before : List Use) (used : Use) (behind : List Use) → from ≤ used.place
    → UpTo used.place (first_from from used.spot first (before ++ (used ∷ behind)))
unfolding first_from
use_up_to from first [] used behind here =
    from_same from first used behind (eq-eqb (spot_number used.spot) (spot_number used.spot) refl) (le-ltb used.place from here)
    (from_up_to from used.place used.spot (earlier_of first used.place) behind (earlier_itself first used.place))
use_up_to from first (other ∷ others) used behind here =
    use_up_to from (cond (eqb (spot_number used.spot) (spot_number other.spot)) (first_with from first other.place) first) others used behind here

-- ---- the first of two, and of several

lesser_left : (limit : ℕ) (one other : Option ℕ) → UpTo limit one → UpTo limit (lesser_of one other)
lesser_left limit None other none = absurd none
lesser_left limit (Some place) None within = within
lesser_left limit (Some place) (Some other) within = by_test (ltb other place) (λ q. rw q (omega (arith, ltb-true other place q, within))) (λ q. rw q within)

lesser_right : (limit : ℕ) (one other : Option ℕ) → UpTo limit other → UpTo limit (lesser_of one other)
lesser_right limit None other within = within
lesser_right limit (Some place) None none = absurd none
lesser_right limit (Some place) (Some other) within = by_test (ltb other place) (λ q. rw q within) (λ q. rw q (omega (arith, ltb-false other place q, within)))

lesser_onward : (from : ℕ) (one other : Option ℕ) → Onward from one → Onward from other → Onward from (lesser_of one other)
lesser_onward from None other left right = right
lesser_onward from (Some place) None left right = left
lesser_onward from (Some place) (Some other) left right = by_test (ltb other place) (λ q. rw q right) (λ q. rw q left)

lesser_one : (at : ℕ) (one other : Option ℕ) → lesser_of one other ≡ Some at → (one ≡ Some at) ⊎ (other ≡ Some at)
lesser_one at None other e = inr e
lesser_one at (Some place) None e = inl e
lesser_one at (Some place) (Some other) e = by_test (ltb other place) (λ q. inr (rw q at e)) (λ q. inl (rw q at e))

-- the least is not behind any of them
least_up_to : (limit : ℕ) (firsts : Firsts) (number : ℕ) → UpTo limit (get_or firsts number None) → UpTo limit (least_of firsts)
least_up_to limit [] number none = absurd none
least_up_to limit (first ∷ firsts) zero within = lesser_left limit first (least_of firsts) within
least_up_to limit (first ∷ firsts) (suc number) within = lesser_right limit first (least_of firsts) (least_up_to limit firsts number within)

module _ (of : Spot → Option ℕ) where
  least_onward : (from : ℕ) → ((spot : Spot) → Onward from (of spot)) → (some : List Spot) → Onward from (least_of (map of some))
  least_onward from each [] = tt
  least_onward from each (spot ∷ some) = lesser_onward from (of spot) (least_of (map of some)) (each spot) (least_onward from each some)

  -- and is one of them
  pub least_one : (at : ℕ) (some : List Spot) → least_of (map of some) ≡ Some at → (spot : Spot) × (of spot ≡ Some at)
  least_one at [] e = at_never (sym e)
  least_one at (spot ∷ some) e = ⊎_elim (λ is. (spot, is)) (λ rest. least_one at some rest) (lesser_one at (of spot) (least_of (map of some)) e)

  -- each stands at its number
  pub first_of_lem : (spot : Spot) → first_of (map of spots) spot ≡ of spot
  first_of_lem opening_brace = refl
  first_of_lem label_colon = refl
  first_of_lem value_head = refl
  first_of_lem import_path = refl
  first_of_lem path_item = refl
  first_of_lem register_letter = refl
  first_of_lem expression_head = refl
  first_of_lem closing_character = refl

-- ---- every use is told

-- the answer from an offset at or before a use: a record at or before it; where it is the use's own, the use's place is among its letters, since its first record is this one
pub record Told (from : ℕ) (bytes : List ℕ) (used : Use) : Type 0 where
  pub at : ℕ
  pub answer : lost_from from bytes ≡ Ok (Some (record { place = at; letters = letters_at (firsts_in from (read_file 64 bytes).tree) at }))
  pub onward : from ≤ at
  pub reached : at ≤ used.place
  pub letter : at ≡ used.place → first_in from used.spot (read_file 64 bytes).tree ≡ Some at

-- a first record within bounds stands somewhere
there : (limit : ℕ) (first : Option ℕ) → UpTo limit first → (at : ℕ) × ((first ≡ Some at) × (at ≤ limit))
there limit None none = absurd none
there limit (Some at) within = (at, (refl, within))

pub every_use_told : (from : ℕ) (bytes : List ℕ) (before : List Use) (used : Use) (behind : List Use) → batch_checked bytes ≡ no_refusal
    → places_in false (read_file 64 bytes).tree ≡ before ++ (used ∷ behind) → from ≤ used.place → Told from bytes used
unfolding lost_from
every_use_told from bytes before used behind passed places here =
    let tree : Tree = (read_file 64 bytes).tree in
    let firsts : Firsts = firsts_in from tree in
    let own : UpTo used.place (first_in from used.spot tree) =
    subst (λ (uses : List Use). UpTo used.place (first_from from used.spot None uses)) (sym places) (use_up_to from None before used behind here) in
    let first = there used.place (first_in from used.spot tree) own in
    let of : Spot → Option ℕ = λ spot. first_in from spot tree in
    let is : first_of firsts used.spot ≡ Some first.0 = first_of_lem of used.spot ∙ first.1.0 in
    let least = there first.0 (least_of firsts)
    (least_up_to first.0 firsts (spot_number used.spot) (subst (λ (one : Option ℕ). UpTo first.0 one) (sym is) (omega arith))) in
    let lower : Onward from (least_of firsts) = least_onward of from (λ spot. from_onward from spot None (places_in false tree) tt) spots in
    record {
      at = least.0;
      answer = ap (lost_on from tree) passed ∙ ap (λ (least : Option ℕ). Ok (answer_with firsts least)) least.1.0;
      onward = subst (λ (one : Option ℕ). Onward from one) least.1.0 lower;
      reached = omega (arith, least.1.1, first.1.1);
      letter = λ same. first.1.0 ∙ ap (λ (place : ℕ). Some place) (omega (arith, least.1.1, first.1.1, same));
    }

-- ---- nothing else is told

-- some uses have one of a place at an offset
pub record Occurs (at : ℕ) (spot : Spot) (uses : List Use) : Type 0 where
  pub before : List Use
  pub used : Use
  pub behind : List Use
  pub split : uses ≡ before ++ (used ∷ behind)
  pub stands : used.place ≡ at
  pub same : spot_number spot ≡ spot_number used.spot

occurs_on : (at : ℕ) (spot : Spot) (other : Use) (others : List Use) → Occurs at spot others → Occurs at spot (other ∷ others)
occurs_on at spot other others found = record {
  before = other ∷ found.before;
  used = found.used;
  behind = found.behind;
  split = ap (λ (uses : List Use). other ∷ uses) found.split;
  stands = found.stands;
  same = found.same;
}

earlier_one : (at : ℕ) (first : Option ℕ) (place : ℕ) → earlier_of first place ≡ Some at → (first ≡ Some at) ⊎ (Some place ≡ Some at)
earlier_one at None place e = inr e
earlier_one at (Some other) place e = by_test (ltb place other) (λ q. inr (rw q at e)) (λ q. inl (rw q at e))

at_same : {one other : ℕ} → Some one ≡ Some other → one ≡ other
at_same e = cc

from_occurs : (from at : ℕ) (spot : Spot) (first : Option ℕ) (uses : List Use) → first_from from spot first uses ≡ Some at → (first ≡ Some at) ⊎ Occurs at spot uses
unfolding first_from
from_occurs from at spot first [] e = inl e
from_occurs from at spot first (used ∷ others) e =
    by_test (eqb (spot_number spot) (spot_number used.spot))
    (λ q. by_test (ltb used.place from)
    (λ r. ⊎_elim (λ is. inl is) (λ found. inr (occurs_on at spot used others found)) (from_occurs from at spot first others (rw (q, r) at e)))
    (λ r. ⊎_elim
    (λ is. ⊎_elim (λ is. inl is)
    (λ is. inr (record { before = []; used = used; behind = others; split = refl; stands = at_same is; same = eqb-true _ _ q }))
    (earlier_one at first used.place is))
    (λ found. inr (occurs_on at spot used others found))
    (from_occurs from at spot (earlier_of first used.place) others (rw (q, r) at e))))
    (λ q. ⊎_elim (λ is. inl is) (λ found. inr (occurs_on at spot used others found)) (from_occurs from at spot first others (rw q at e)))

answer_used : (firsts : Firsts) (least : Option ℕ) (loss : Loss) → answer_with firsts least ≡ Some loss → least ≡ Some loss.place
answer_used firsts None loss e = let zero_one : ◌≡◌ {A = ℕ} 0 1 = cc in absurd (omega arith)
answer_used firsts (Some at) loss e =
    let same : ◌≡◌ {A = Loss} (record { place = at; letters = letters_at firsts at }) loss = cc in
    ap (λ (loss : Loss). Some loss.place) same

pub told_used : (from : ℕ) (bytes : List ℕ) (loss : Loss) → batch_checked bytes ≡ no_refusal → lost_from from bytes ≡ Ok (Some loss)
    → (spot : Spot) × Occurs loss.place spot (places_in false (read_file 64 bytes).tree)
unfolding lost_from
told_used from bytes loss passed told =
    let tree : Tree = (read_file 64 bytes).tree in
    let firsts : Firsts = firsts_in from tree in
    let said : ◌≡◌ {A = Lost} (Ok (answer_with firsts (least_of firsts))) (Ok (Some loss)) = sym (ap (lost_on from tree) passed) ∙ told in
    let answered : answer_with firsts (least_of firsts) ≡ Some loss = cc in
    let one = least_one (λ spot. first_in from spot tree) loss.place spots (answer_used firsts (least_of firsts) loss answered) in
    (one.0, ⊎_elim (λ none. at_never (sym none)) (λ found. found) (from_occurs from loss.place one.0 None (places_in false tree) one.1))
