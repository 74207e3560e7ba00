-- What the first records become with the uses that a record shows.
use Rattle.std.specs.Prelude.{Option}
use mathlib.Core.Path.{◌≡◌, refl, sym, ◌∙◌}
use mathlib.Core.List.{List, [], ◌∷◌, ◌++◌, append-nil}
use mathlib.Core.Bool.{Bool, true, false, cond, ◌&&◌, ◌||◌}
use Prim.Native.Nat.{ℕ}
use lib.Dec.{eqb}
use borrow.Author.Tests.{eqb-true}
use Rattle.text.proofs.Choices.{by_test}
use Rattle.tree.specs.Rows.{class_number}
use Rattle.tree.specs.declared.grammar.Class.{Class}
use Rattle.reading.specs.Places.{Spot, Use, spot_number, opening_brace, label_colon, value_head, import_path, path_item, register_letter, expression_head, mark}
use Rattle.losses.specs.Lost.{first_with, first_from}
use Rattle.losses.specs.Visits.{first_of, TakesIf, TakesAll, kind_spot, own_spot, head_spot, own_marks, head_marks}
use Rattle.losses.specs.declared.firsts.Search.{Search}
use Rattle.losses.proofs.Steps.{no_spot_lem}

-- ---- uses behind others

pub from_append : (from : ℕ) (spot : Spot) (first : Option ℕ) (some others : List Use)
    → first_from from spot first (some ++ others) ≡ first_from from spot (first_from from spot first some) others
unfolding first_from
from_append from spot first [] others = refl
from_append from spot first (used ∷ some) others =
    from_append from spot (cond (eqb (spot_number spot) (spot_number used.spot)) (first_with from first used.place) first) some others

module _ {after middle before : Search} {some others : List Use} where
  pub all_then : TakesAll middle before some → TakesAll after middle others → TakesAll after before (some ++ others)
  all_then first second = record {
    from = second.from ∙ first.from;
    each = λ spot. second.each spot ∙ rw (first.from, first.each spot) (sym (from_append before.from spot (first_of before.firsts spot) some others));
  }

-- none
pub all_none : {before : Search} → TakesAll before before []
unfolding first_from
all_none = record { from = refl; each = λ spot. refl }

-- ---- a place that may be used

module _ {after before : Search} {at number : ℕ} {used : Bool} (takes : TakesIf after before at number used) where
  -- it is one of the eight
  pub one_used : (spot : Spot) → number ≡ spot_number spot → TakesAll after before (mark at spot used)
  unfolding first_from
  one_used spot is =
      by_test used
      (λ q. record { from = takes.from; each = λ other. rw q (rw (q, is) at (takes.each other)) })
      (λ q. record { from = takes.from; each = λ other. rw q (rw q at (takes.each other)) })

  -- it is none
  pub none_used : number ≡ 8 → TakesAll after before []
  unfolding first_from
  none_used is =
      by_test used
      (λ q. record { from = takes.from; each = λ other. rw (q, is, no_spot_lem other) at (takes.each other) })
      (λ q. record { from = takes.from; each = λ other. rw q at (takes.each other) })

-- ---- a record's own place, and its head's

module _ {after before : Search} {at spot : ℕ} {used : Bool} (takes : TakesIf after before at spot used) (class : Class) (number : ℕ) (listed : Bool) where
  -- by its kind
  kind_used : spot ≡ kind_spot number → TakesAll after before (mark at import_path (eqb number 41 && used) ++ mark at path_item (eqb number 26 && used))
  kind_used is =
      by_test (eqb number 41)
      (λ import.
      let other : eqb number 26 ≡ false = rw (eqb-true number 41 import) in
      rw (import, other, append-nil (mark at import_path used)) (one_used takes import_path (rw import at is)))
      (λ import. by_test (eqb number 26)
      (λ item. rw (import, item) (one_used takes path_item (rw (import, item) at is)))
      (λ item. rw (import, item) (none_used takes (rw (import, item) at is))))

  -- by its field
  pub own_used : spot ≡ own_spot class number listed → TakesAll after before (own_marks class number listed at used)
  own_used is =
      by_test (eqb (class_number class) 3)
      (λ brace. by_test listed
      (λ in_List. rw (brace, in_List) (none_used takes (rw (brace, in_List) at is)))
      (λ in_List. rw (brace, in_List) (one_used takes opening_brace (rw (brace, in_List) at is))))
      (λ brace. by_test (eqb (class_number class) 5)
      (λ colon. rw (brace, colon) (one_used takes label_colon (rw (brace, colon) at is)))
      (λ colon. by_test (eqb (class_number class) 8)
      (λ register. rw (brace, colon, register) (one_used takes register_letter (rw (brace, colon, register) at is)))
      (λ register. rw (brace, colon, register) (kind_used (rw (brace, colon, register) at is)))))

  -- a token's head
  pub head_used : (eqb (class_number class) 20 || eqb (class_number class) 21) ≡ true → spot ≡ head_spot class number listed
      → TakesAll after before (head_marks class number listed at used)
  head_used token is =
      by_test (eqb number 9)
      (λ nine. by_test listed
      (λ in_List. rw (token, nine, in_List) (one_used takes expression_head (rw (token, nine, in_List) at is)))
      (λ in_List. rw (token, nine, in_List) (none_used takes (rw (token, nine, in_List) at is))))
      (λ nine. by_test listed
      (λ in_List. rw (token, nine, in_List) (none_used takes (rw (token, nine, in_List) at is)))
      (λ in_List. rw (token, nine, in_List) (one_used takes value_head (rw (token, nine, in_List) at is))))
