-- What is read of a tree has the number and value of document 01.
--   tree_numbers_lem, length_numbers_lem : of a judgement; own_known, skip_known, head_known, behind_known : of what a walk reads
use Rattle.std.specs.Prelude.{Option, Result, Some, None, Ok, Err}
use Rattle.tree.specs.declared.parts.Head.{Head}
use Rattle.answers.specs.declared.Refusal.{Refusal}
use mathlib.Core.Path.{◌≡◌, refl, ap, ◌∙◌}
use mathlib.Core.List.{List, [], ◌∷◌}
use mathlib.Core.Bool.{Bool, true, false, cond, ◌&&◌, ◌||◌}
use Prim.Native.Nat.{ℕ, ◌+◌, ◌-◌, ◌%◌}
use lib.ListN.{length, get_or}
use lib.Dec.{eqb, ltb, leb}
use Rattle.answers.specs.Numbers.{no_refusal, numbers_checked, and_then, Checked}
use Rattle.answers.proofs.Numbers.{chosen_numbers, then_numbers, refused_number}
use Rattle.text.specs.Accepted.{accepted_text}
use Rattle.text.specs.Numbers.{read_number}
use Rattle.tree.specs.Grammar.{kind_of, rule}
use Rattle.tree.specs.Own.{may_stand, map_fits, trivia_read, text_end, leaf_on, list_on, rest_of, trivia_of_record, map_of_record, own_at, read_own}
use Rattle.tree.specs.Own.{Fits, numbers_own, was_read, own_end, own_numbers}
use Rattle.tree.specs.Reading.{Placed, read}
use Rattle.tree.specs.Checking.{read_file, length_checked, end_checked, texts_checked, tree_checked}
use Rattle.tree.specs.Checking.{length_numbers, texts_numbers, tree_numbers}
use Rattle.tree.specs.Parts.{skipped_on, skipped, second_field, field_head, inner_on, inner_head, head_on, head_behind, head_at}
use Rattle.tree.specs.Parts.{numbers_skipped, read_numbers, numbers_head, field_numbers, inner_numbers, token_numbers, behind_numbers, head_numbers_on, head_numbers}
use Rattle.tree.specs.declared.grammar.Class.{Class}
use Rattle.tree.specs.declared.grammar.Class.TheVariants.{DataSize, BinaryOp, LocatedExpression, BareExpression, BlockRecord, ExpressionArguments}
use Rattle.tree.specs.declared.grammar.Kind.{Kind}
use Rattle.tree.specs.declared.grammar.Rule.{Rule}
use Rattle.tree.specs.declared.grammar.TextRule.{TextRule}
use Rattle.tree.specs.declared.own.Own.{Own}
use Rattle.tree.specs.declared.own.TriviaSpan.{TriviaSpan}

-- ---- a judgement

pub length_numbers_lem : (limit : ℕ) (bytes : List ℕ) → numbers_checked (length_checked limit bytes) ≡ length_numbers limit bytes
unfolding length_numbers
length_numbers_lem limit bytes = chosen_numbers (eqb (length bytes) 0) _ _ ∙ rw (chosen_numbers (ltb limit (length bytes)) _ _) refl

texts_numbers_lem : (texts : List Placed) → numbers_checked (texts_checked texts) ≡ texts_numbers texts
unfolding texts_checked texts_numbers
texts_numbers_lem [] = refl
texts_numbers_lem (text ∷ texts) = chosen_numbers (accepted_text text.bytes) (texts_checked texts) _ ∙ rw (texts_numbers_lem texts) refl

pub tree_numbers_lem : (limit levels : ℕ) (bytes : List ℕ) → numbers_checked (tree_checked limit levels bytes) ≡ tree_numbers limit levels bytes
unfolding tree_checked tree_numbers
tree_numbers_lem limit levels bytes =
    let file = read_file levels bytes in
    let behind = and_then (end_checked bytes file.end) (texts_checked file.texts) in
    then_numbers (length_checked limit bytes) (and_then file.checked behind)
    ∙ rw (
      length_numbers_lem limit bytes,
      then_numbers file.checked behind,
      then_numbers (end_checked bytes file.end) (texts_checked file.texts),
      chosen_numbers (ltb file.end (length bytes)) (Err (record { reason = _; place = file.end })) no_refusal,
      texts_numbers_lem file.texts,
    ) refl

-- ---- own bytes: where they are refused behind the first byte it is for the layout, at the record's place

module _ (bytes : List ℕ) (at : ℕ) where
  abbrev Laid : Result Own Refusal → Type 0
  Laid found = numbers_own found ≡ cond (was_read found) (0, own_end at found) (5, at)

  list_laid : (kind : Kind) (map : ℕ) (trivia : TriviaSpan) (count : Option ℕ) → Laid (list_on at kind map trivia count)
  list_laid kind map trivia (Some count) = refl
  list_laid kind map trivia None = refl

  leaf_laid : (kind : Kind) (map : ℕ) (trivia : TriviaSpan) (span : Option ℕ) → Laid (leaf_on at kind map trivia span)
  leaf_laid kind map trivia (Some end) = refl
  leaf_laid kind map trivia None = refl

  choice_laid : (test : Bool) (taken left : Result Own Refusal) → Laid taken → Laid left → Laid (cond test taken left)
  choice_laid true taken left is other = is
  choice_laid false taken left is other = other

  rest_laid : (text : TextRule) (number : ℕ) (kind : Kind) (map : ℕ) (trivia : TriviaSpan) → Laid (rest_of bytes at text number kind map trivia)
  unfolding rest_of
  rest_laid text number kind map trivia =
      choice_laid (eqb number 24) _ _ (list_laid kind map trivia (read_number bytes trivia.end))
      (choice_laid ((eqb number 25 || eqb number 26) && leb 2 map) _ _ (leaf_laid kind map trivia (text_end bytes trivia.end text)) refl)

  trivia_laid : (ruled : Rule) (number : ℕ) (kind : Kind) (map : ℕ) (trivia : Option TriviaSpan) → Laid (trivia_of_record bytes at ruled number kind map trivia)
  trivia_laid ruled number kind map (Some trivia) = rest_laid ruled.text number kind map trivia
  trivia_laid ruled number kind map None = refl

  map_laid : (ruled : Rule) (number : ℕ) (kind : Option Kind) → Laid (map_of_record bytes at ruled number kind)
  map_laid ruled number None = refl
  map_laid ruled number (Some kind) =
      let map = get_or bytes (at + 1) 0 in
      choice_laid (ltb (length bytes) (at + 2)) _ _ refl
      (choice_laid (map_fits ruled number kind map) _ _ (trivia_laid ruled number kind map (trivia_read bytes (at + 2) (map % 2))) refl)

  own_laid : (class : Class) → Laid (own_at bytes at class)
  unfolding own_at
  own_laid class =
      let number = get_or bytes at 0 in
      choice_laid (may_stand (rule class) number) _ _ (map_laid (rule class) number (kind_of number)) refl

choice_own : (test : Bool) (taken left : Result Own Refusal) → numbers_own (cond test taken left) ≡ cond test (numbers_own taken) (numbers_own left)
choice_own true taken left = refl
choice_own false taken left = refl

pub own_numbers_lem : (bytes : List ℕ) (at : ℕ) (class : Class) (levels : ℕ) → numbers_own (read_own bytes at class levels) ≡ own_numbers bytes at class levels
unfolding read_own own_numbers
own_numbers_lem bytes at class levels =
    choice_own (leb (length bytes) at) _ _ ∙ rw (choice_own (eqb levels 0) _ (own_at bytes at class), own_laid bytes at class) refl

-- ---- a record that is skipped

skip_on : (end : ℕ) (checked : Checked) → numbers_skipped (skipped_on end checked) ≡ cond (eqb (numbers_checked checked).0 0) (0, end) (numbers_checked checked)
skip_on end (Ok tt) = refl
skip_on end (Err refusal) = rw (refused_number refusal.reason) refl

pub skip_numbers : (levels : ℕ) (bytes : List ℕ) (class : Class) (at : ℕ) → numbers_skipped (skipped levels bytes class at) ≡ read_numbers levels bytes class at
unfolding skipped read_numbers
skip_numbers levels bytes class at = skip_on (read levels bytes class at).end (read levels bytes class at).checked

-- ---- a token's head

second_numbers : (levels : ℕ) (class : Class) (found : Result ℕ Refusal) → numbers_head (second_field levels class found) ≡ numbers_skipped found
second_numbers levels class (Ok place) = refl
second_numbers levels class (Err refusal) = refl

choice_head : (test : Bool) (taken left : Result Head Refusal) → numbers_head (cond test taken left) ≡ cond test (numbers_head taken) (numbers_head left)
choice_head true taken left = refl
choice_head false taken left = refl

module _ (levels : ℕ) (bytes : List ℕ) where
  field_numbers_lem : (class : Class) (number : ℕ) (own : Own) → numbers_head (field_head levels bytes class number own) ≡ field_numbers levels bytes number own
  unfolding field_head
  field_numbers_lem class number own =
      let below = levels - 1 in
      choice_head (eqb number 5) _ _
      ∙ rw (
        choice_head (eqb number 28) (second_field below LocatedExpression (skipped below bytes BinaryOp own.end)) _,
        second_numbers below DataSize (skipped below bytes ExpressionArguments own.end),
        second_numbers below LocatedExpression (skipped below bytes BinaryOp own.end),
        skip_numbers below bytes ExpressionArguments own.end,
        skip_numbers below bytes BinaryOp own.end,
      ) refl

  inner_numbers_lem : (class : Class) (at : ℕ) (found : Result Own Refusal) → numbers_head (inner_on levels bytes class at found) ≡ inner_numbers levels bytes (get_or bytes at 0) found
  inner_numbers_lem class at (Ok own) = field_numbers_lem class (get_or bytes at 0) own
  inner_numbers_lem class at (Err refusal) = refl

module _ (levels : ℕ) (bytes : List ℕ) (class : Class) (at : ℕ) where
  token_numbers_lem : (own : Own) → numbers_head (head_on levels bytes class at (Ok own)) ≡ token_numbers levels bytes (get_or bytes at 0) own
  unfolding inner_head
  token_numbers_lem own =
      let below = levels - 1 in
      let number = get_or bytes at 0 in
      choice_head (eqb number 2 || eqb number 3) (inner_head below bytes BlockRecord own.end) _
      ∙ rw (
        choice_head (eqb number 9) (inner_head below bytes BareExpression own.end) (field_head levels bytes class number own),
        inner_numbers_lem below bytes BlockRecord own.end (read_own bytes own.end BlockRecord below),
        inner_numbers_lem below bytes BareExpression own.end (read_own bytes own.end BareExpression below),
        field_numbers_lem levels bytes class number own,
      ) refl

  pub behind_numbers_lem : (own : Own) → numbers_head (head_behind levels bytes class at own) ≡ behind_numbers levels bytes at own
  unfolding head_behind behind_numbers
  behind_numbers_lem own =
      choice_head (eqb levels 0) _ _ ∙ rw (choice_head (leb (length bytes) at) _ (head_on levels bytes class at (Ok own)), token_numbers_lem own) refl

  found_numbers : (found : Result Own Refusal) → numbers_head (head_on levels bytes class at found) ≡ head_numbers_on levels bytes (get_or bytes at 0) found
  found_numbers (Ok own) = token_numbers_lem own
  found_numbers (Err refusal) = refl

  pub head_numbers_lem : numbers_head (head_at levels bytes class at) ≡ head_numbers levels bytes class at
  unfolding head_at head_numbers
  head_numbers_lem = found_numbers (read_own bytes at class levels)

-- ---- an answer that is known, with the numbers of its definition

pub own_known : {found : Result Own Refusal} (bytes : List ℕ) (at : ℕ) (class : Class) (levels : ℕ) → found ≡ read_own bytes at class levels → Fits bytes at found
    → (found ≡ read_own bytes at class levels) × (Fits bytes at found × (numbers_own found ≡ own_numbers bytes at class levels))
own_known bytes at class levels is fits = (is, (fits, ap numbers_own is ∙ own_numbers_lem bytes at class levels))

pub skip_known : {found : Result ℕ Refusal} (levels : ℕ) (bytes : List ℕ) (class : Class) (at : ℕ) → found ≡ skipped levels bytes class at
    → (found ≡ skipped levels bytes class at) × (numbers_skipped found ≡ read_numbers levels bytes class at)
skip_known levels bytes class at is = (is, ap numbers_skipped is ∙ skip_numbers levels bytes class at)

pub behind_known : {found : Result Head Refusal} (levels : ℕ) (bytes : List ℕ) (class : Class) (at : ℕ) (own : Own) → found ≡ head_behind levels bytes class at own
    → (found ≡ head_behind levels bytes class at own) × (numbers_head found ≡ behind_numbers levels bytes at own)
behind_known levels bytes class at own is = (is, ap numbers_head is ∙ behind_numbers_lem levels bytes class at own)

pub head_known : {found : Result Head Refusal} (levels : ℕ) (bytes : List ℕ) (class : Class) (at : ℕ) → found ≡ head_at levels bytes class at
    → (found ≡ head_at levels bytes class at) × (numbers_head found ≡ head_numbers levels bytes class at)
head_known levels bytes class at is = (is, ap numbers_head is ∙ head_numbers_lem levels bytes class at)
