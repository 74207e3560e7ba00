-- The head of a token that was read without refusal is found in the bytes, and its own bytes hold its trivia.
use Rattle.std.specs.Prelude.{Result, Ok, Err}
use Rattle.answers.specs.Numbers.{no_refusal}
use mathlib.Core.Path.{◌≡◌, refl, sym, ◌∙◌}
use mathlib.Core.List.{List}
use Prim.Native.Nat.{ℕ}
use Rattle.answers.specs.declared.Refusal.{Refusal}
use Rattle.answers.proofs.Cases.{failed_passed}
use Rattle.tree.specs.Own.{read_own, Fits}
use Rattle.tree.specs.Parts.{head_at}
use Rattle.tree.specs.Reading.{read}
use Rattle.tree.specs.declared.grammar.Class.{Class}
use Rattle.tree.specs.declared.own.Own.{Own}
use Rattle.tree.specs.declared.parts.Head.{Head}
use Rattle.events.specs.Views.{view}
use Rattle.events.specs.Refusals.{head_refusal}
use Rattle.events.proofs.Heads.{head_is, head_missing, head_refused}
use Rattle.events.proofs.Refusals.{read_refusal}
use Rattle.leaves.specs.Items.{items_at}
use Rattle.leaves.proofs.Leaves.{own_items}
use Rattle.reading.specs.Places.{has_comment}
use Rattle.losses.specs.Visits.{TokenClass, TakesIf, TakesHead}
use Rattle.losses.specs.declared.firsts.Search.{Search}
use Rattle.events.proofs.Passed.{head_passed}
use Rattle.losses.proofs.Records.{node_read}

module _ (levels : ℕ) (bytes : List ℕ) (class : Class) (at : ℕ) {place : Result Head Refusal} (same : place ≡ head_at levels bytes class at) where
  -- no refusal is met on the way
  none_met : (read levels bytes class at).checked ≡ no_refusal → head_refusal (read levels bytes class at).tree ≡ no_refusal
  none_met passed = head_passed (read levels bytes class at).tree (read_refusal levels bytes class at ∙ passed)

  -- so a head is found
  pub head_missed : {R : Type 0} {why : Refusal} → place ≡ Err why → (read levels bytes class at).checked ≡ no_refusal → TokenClass class → R
  head_missed {R} {why} is passed token =
      failed_passed (sym (head_missing bytes class token.0 token.1 levels at why (sym same ∙ is)) ∙ none_met passed)

  module _ (head : Head) (is : place ≡ Ok head) {found : Result Own Refusal} (read-own : found ≡ read_own bytes head.place head.class head.levels) where
    -- its own bytes are read
    pub head_unread : {R : Type 0} {why : Refusal} → found ≡ Err why → (read levels bytes class at).checked ≡ no_refusal → TokenClass class → R
    head_unread {R} {why} refused passed token =
        failed_passed (sym (head_refused bytes class token.0 token.1 levels at head why (sym same ∙ is) (sym read-own ∙ refused)) ∙ none_met passed)

    -- and hold its trivia
    pub head_taken : {after before : Search} {spot : ℕ} (own : Own) → Fits bytes head.place found → found ≡ Ok own
        → TakesIf after before head.place spot (has_comment (items_at bytes own.trivia own.trivia_count))
        → TakesHead no_refusal after before levels bytes class at spot
    unfolding view
    head_taken own fits held takes passed token =
        let head_tree = head_is bytes class token.0 token.1 levels at head (sym same ∙ is)
        ∙ node_read head.levels bytes head.class head.place own (sym read-own ∙ held) in
        (refl, rw head_tree (rw (own_items bytes head.place own fits held) at takes))
