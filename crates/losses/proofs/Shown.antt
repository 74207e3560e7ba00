-- What a record shows by itself, step by step: a comment on it, on its head, and an operand's closing character.
use Rattle.std.specs.Prelude.{Ok}
use Rattle.answers.specs.Numbers.{no_refusal, Checked}
use mathlib.Core.Path.{◌≡◌, refl, sym, ◌∙◌}
use mathlib.Core.List.{List}
use mathlib.Core.Bool.{Bool, false, ◌||◌}
use Prim.Native.Nat.{ℕ}
use lib.ListN.{get_or}
use lib.Dec.{eqb}
use Rattle.text.proofs.Choices.{by_test}
use Rattle.tree.specs.Own.{read_own}
use Rattle.tree.specs.Reading.{read}
use Rattle.tree.specs.Grammar.{kind_number}
use Rattle.tree.proofs.KindLayout.{kind_number_lem}
use Rattle.tree.specs.Tree.{Tree}
use Rattle.tree.specs.Rows.{class_number}
use Rattle.tree.specs.declared.grammar.Class.{Class}
use Rattle.tree.specs.declared.grammar.Kind.TheVariants as variant
use Rattle.tree.specs.declared.own.Own.{Own}
use Rattle.tree.proofs.OwnBytes.{own_fits}
use Rattle.events.specs.Views.{own_trivia, head_of, stands_at, token_number}
use Rattle.events.proofs.Heads.{own_read, number_read}
use Rattle.events.proofs.OwnParts.{record_headed}
use Rattle.leaves.specs.Items.{items_at}
use Rattle.leaves.proofs.Items.{items_kept}
use Rattle.reading.specs.Places.{has_comment, closing_character}
use Rattle.losses.specs.Visits.{own_spot, head_spot, own_marks, head_marks}
use Rattle.losses.specs.Visits.{TakesIf, TakesAll, TakesHead, TakesClosing, TakesRecord}
use Rattle.losses.specs.declared.firsts.Search.{Search}
use Rattle.tree.proofs.KindNumbers.{other_number}
use Rattle.losses.proofs.Records.{token_class_lem}
use Rattle.losses.proofs.Marks.{all_then, all_none, one_used, own_used, head_used}

module _ (levels : ℕ) (bytes : List ℕ) (class : Class) (at : ℕ) (own : Own) (listed : Bool) {spot head : ℕ} {before by-own by-head : Search} {headed : Checked}
    (spot_is : spot ≡ own_spot class (kind_number own.kind) listed) (head_is : head ≡ head_spot class (kind_number own.kind) listed)
    (own-takes : TakesIf by-own before at spot (has_comment (items_at bytes own.trivia own.trivia_count)))
    (unheaded : head ≡ 8 → (headed ≡ no_refusal) × (by-head ≡ by-own)) (head-takes : TakesHead headed by-head by-own levels bytes class at head)
  where
    -- its kind's number
    abbrev number : ℕ
    number = kind_number own.kind

    byte : read_own bytes at class levels ≡ Ok own → number ≡ get_or bytes at 0
    byte is = kind_number_lem (get_or bytes at 0) own.kind (record_headed bytes at class levels own is).1.kind_is

    module _ (is : read_own bytes at class levels ≡ Ok own) (passed : (read levels bytes class at).checked ≡ no_refusal) where
      abbrev tree : Tree
      tree = (read levels bytes class at).tree

      -- its number, and its trivia
      number_is : number ≡ token_number tree
      number_is = byte is ∙ sym (number_read levels bytes class at own is)

      trivia_are : items_at bytes own.trivia own.trivia_count ≡ own_trivia tree
      trivia_are =
          let fits = own_fits bytes at class levels own is in
          items_kept bytes own.trivia own.trivia_count fits.items.0 fits.items.1 ∙ sym (own_read levels bytes class at own is).1

      -- a comment on it
      own_all : TakesAll by-own before (own_marks class (token_number tree) listed at (has_comment (own_trivia tree)))
      own_all = rw (number_is, trivia_are) at (own_used own-takes class number listed spot_is)

      -- a comment on its head
      head_all : TakesAll by-head by-own (head_marks class (token_number tree) listed (stands_at (head_of tree)) (has_comment (own_trivia (head_of tree))))
      head_all =
          by_test (eqb (class_number class) 20 || eqb (class_number class) 21)
          (λ token. rw number_is at (head_used (head-takes passed (token_class_lem class token)).1 class number listed token head_is))
          (λ token. rw (token, (unheaded (head_is ∙ rw token)).1) all_none)

    -- it is an operand
    pub operand_shown : {closing : Checked} {after : Search} → own.kind ≡ variant.Operand → TakesClosing closing after by-head levels bytes own
        → TakesRecord closing after before levels bytes class at own listed
    operand_shown kind closing is passed =
        let operand : number ≡ 37 = rw kind refl in
        let shows = closing class at is kind passed in
        let last = one_used shows.1 closing_character refl in
        (shows.0, all_then (own_all is passed) (all_then (head_all is passed) (rw (sym (number_is is passed) ∙ operand) last)))

    -- it is none
    pub record_shown : (own.kind ≡ variant.Operand → ⊥) → TakesRecord no_refusal by-head before levels bytes class at own listed
    record_shown other is passed =
        let number_other : eqb (token_number (read levels bytes class at).tree) 37 ≡ false =
        rw (sym (number_is is passed)) (other_number 37 refl other) in
        (refl, all_then (own_all is passed) (all_then (head_all is passed) (rw number_other all_none)))
