-- Every record that uses a place stands within the bytes; so the offset and the letters of an answer are small.
--   narrow_lost : lost ≡ lost_from from bytes → (lost ≡ lost_from from bytes) × (Narrow lost × (numbers_lost lost ≡ lost_numbers from bytes))
use Rattle.std.specs.Prelude.{Option, Result, Some, None, Ok, Err, map}
use Rattle.tree.specs.declared.parts.Head.{Head}
use Rattle.answers.specs.declared.Refusal.{Refusal}
use Rattle.tree.specs.declared.own.Own.{Own}
use Rattle.answers.specs.Numbers.{no_refusal, Checked}
use mathlib.Core.Path.{◌≡◌, refl, sym, ap, subst, ◌∙◌}
use mathlib.Core.List.{List, [], ◌∷◌, ◌++◌}
use mathlib.Core.Bool.{Bool, true, false, not, ◌&&◌, ◌||◌}
use Prim.Native.Nat.{ℕ, zero, suc, ◌-◌, ◌<◌}
use native.Mathlib.Omega.{arith}
use lib.ListN.{length, get_or}
use lib.Dec.{eqb}
use Rattle.text.proofs.Choices.{cond_both}
use Rattle.tree.specs.Tree.{Tree, absent}
use Rattle.tree.specs.Own.{read_own}
use Rattle.tree.specs.Parts.{head_at}
use Rattle.tree.specs.Reading.{Due, nothing, due, Reading, parts_due, read_parts, read}
use Rattle.tree.specs.Checking.{read_file, batch_checked}
use Rattle.tree.specs.Rows.{class_number}
use Rattle.tree.specs.Walk.{standing}
use Rattle.tree.specs.declared.grammar.Class.{Class}
use Rattle.tree.specs.declared.grammar.Class.TheVariants.{Tokens}
use Rattle.tree.proofs.Cases.{both_passed}
use Rattle.tree.proofs.Limits.{length_passed}
use Rattle.tree.proofs.Readings.{every_reading, no_record, file_passed}
use Rattle.events.specs.Views.{view, own_trivia, head_of, stands_at, token_number, index_of}
use Rattle.events.proofs.OwnParts.{record_headed}
use Rattle.events.proofs.Heads.{head_is}
use Rattle.leaves.proofs.Records.{read_record}
use Rattle.reading.specs.Places.{Spot, Use, opening_brace, label_colon, value_head, import_path, path_item, register_letter, expression_head, closing_character}
use Rattle.reading.specs.Places.{has_comment, spot_number, mark, at_closing_character}
use Rattle.losses.specs.Lost.{Firsts, spots, first_in, firsts_in, least_of, letters_at, Lost, lost_from, numbers_lost, lost_numbers, Narrow}
use Rattle.losses.specs.Visits.{seen_in, own_marks, head_marks, closing_marks, own_uses, listed_below, uses_along, checked_along, part_trees, TokenClass}
use Rattle.losses.specs.declared.search.Loss.{Loss}
use Rattle.losses.proofs.Along.{parts_checked}
use Rattle.losses.proofs.HeadFound.{head_missed}
use Rattle.losses.proofs.Letters.{bits_some, bits_most}
use Rattle.losses.proofs.Listing.{least_one, first_of_lem, told_used}
use Rattle.losses.proofs.Numbers.{lost_numbers_lem}
use Rattle.losses.proofs.Passed.{own_unread}
use Rattle.losses.proofs.Records.{token_class_lem, record_uses}

-- ---- uses below a limit

unfoldable Below : ℕ → List Use → Type 0
Below limit [] = Unit
Below limit (used ∷ others) = (used.place < limit) × Below limit others

module _ (limit : ℕ) where
  -- one behind the other
  both_below : (some others : List Use) → Below limit some → Below limit others → Below limit (some ++ others)
  unfolding Below
  both_below [] others first next = next
  both_below (used ∷ some) others first next = (first.0, both_below some others first.1 next)

  -- a place that may be used
  mark_below : (place : ℕ) (spot : Spot) (used : Bool) → place < limit → Below limit (mark place spot used)
  unfolding Below
  mark_below place spot true inside = (inside, tt)
  mark_below place spot false inside = tt

  -- what a comment on the record itself uses
  own_below : (class : Class) (number : ℕ) (listed : Bool) (at : ℕ) (used : Bool) → at < limit → Below limit (own_marks class number listed at used)
  own_below class number listed at used inside =
      cond_both (Below limit) (eqb (class_number class) 3) _ _ (λ brace. mark_below at opening_brace (not listed && used) inside)
      (λ brace. cond_both (Below limit) (eqb (class_number class) 5) _ _ (λ colon. mark_below at label_colon used inside)
      (λ colon. cond_both (Below limit) (eqb (class_number class) 8) _ _ (λ register. mark_below at register_letter used inside)
      (λ register. both_below (mark at import_path (eqb number 41 && used)) (mark at path_item (eqb number 26 && used))
      (mark_below at import_path (eqb number 41 && used) inside) (mark_below at path_item (eqb number 26 && used) inside))))

  -- and one on a token's head
  head_below : (class : Class) (number : ℕ) (listed : Bool) (at : ℕ) (used : Bool) → (TokenClass class → at < limit)
      → Below limit (head_marks class number listed at used)
  unfolding Below
  head_below class number listed at used inside =
      cond_both (Below limit) (eqb (class_number class) 20 || eqb (class_number class) 21) _ _
      (λ token.
      let here = inside (token_class_lem class token) in
      cond_both (Below limit) (eqb number 9) _ _
      (λ nine. mark_below at expression_head (listed && used) here) (λ other. mark_below at value_head (not listed && used) here))
      (λ other. tt)

  -- the closing character of an operand
  closing_below : (number : ℕ) (parts : List Tree) → stands_at (get_or parts 2 absent) < limit → Below limit (closing_marks number parts)
  unfolding Below
  closing_below number parts inside =
      cond_both (Below limit) (eqb number 37) _ _
      (λ operand. mark_below (stands_at (get_or parts 2 absent)) closing_character (at_closing_character (index_of (get_or parts 3 absent)) (get_or parts 2 absent)) inside)
      (λ other. tt)

module _ (bytes : List ℕ) (some : 0 < length bytes) where
  -- ---- a record stands within the bytes; what is no record stands nowhere, which counts as 0

  read_stands : (levels : ℕ) (class : Class) (at : ℕ) → stands_at (read levels bytes class at).tree < length bytes
  unfolding view
  read_stands =
      every_reading bytes (λ levels class at reading. stands_at reading.tree < length bytes) (λ levels class at reader why. some)
      (λ levels class at own is below. omega (arith, (record_headed bytes at class (suc levels) own is).1.room))

  -- so does a part of one
  parts_stand : (levels : ℕ) (parts : List Due) (at place : ℕ) → stands_at (get_or (read_parts (read levels bytes) parts at).trees place absent) < length bytes
  unfolding read_parts view
  parts_stand levels [] at place = some
  parts_stand levels (nothing ∷ parts) at zero = some
  parts_stand levels (nothing ∷ parts) at (suc place) = parts_stand levels parts at place
  parts_stand levels (due class ∷ parts) at zero = read_stands levels class at
  parts_stand levels (due class ∷ parts) at (suc place) = parts_stand levels parts (read levels bytes class at).end place

  -- and a token's head
  head_stands : (levels : ℕ) (class : Class) (at : ℕ) (found : Result Head Refusal) → found ≡ head_at levels bytes class at → (read levels bytes class at).checked ≡ no_refusal
      → TokenClass class → stands_at (head_of (read levels bytes class at).tree) < length bytes
  head_stands levels class at (Ok head) is passed token =
      rw (head_is bytes class token.0 token.1 levels at head (sym is)) (read_stands head.levels head.class head.place)
  head_stands levels class at (Err why) is passed token = head_missed levels bytes class at is refl passed token

-- ---- so the uses that records show do

module _ (bytes : List ℕ) where
  -- those of parts, one behind the other
  along_below : (levels : ℕ) → ((class : Class) (at : ℕ) (listed : Bool) → (read levels bytes class at).checked ≡ no_refusal
      → Below (length bytes) (seen_in class listed (read levels bytes class at).tree))
      → (listed : Bool) (classes : List Class) (place : ℕ) → checked_along (read levels bytes) classes place ≡ no_refusal
      → Below (length bytes) (uses_along (read levels bytes) listed classes place)
  unfolding Below uses_along checked_along
  along_below levels below listed [] place passed = tt
  along_below levels below listed (class ∷ classes) place passed =
      let next : ℕ = (read levels bytes class place).end in
      let both = both_passed (read levels bytes class place).checked (checked_along (read levels bytes) classes next) passed in
      both_below (length bytes) (seen_in class listed (read levels bytes class place).tree) (uses_along (read levels bytes) listed classes next)
      (below class place listed both.0) (along_below levels below listed classes next both.1)

  -- where no level is left nothing was read
  unread_below : (class : Class) (at : ℕ) (listed : Bool) (found : Result Own Refusal) → read_own bytes at class zero ≡ found → (read zero bytes class at).checked ≡ no_refusal
      → Below (length bytes) (seen_in class listed (read zero bytes class at).tree)
  unread_below class at listed (Ok own) is passed = no_record bytes at class own is
  unread_below class at listed (Err why) is passed = own_unread zero bytes class at passed is

  -- a record shows its own uses, and those of its parts
  record_below : (levels : ℕ) → ((class : Class) (at : ℕ) (listed : Bool) → (read (levels - 1) bytes class at).checked ≡ no_refusal
      → Below (length bytes) (seen_in class listed (read (levels - 1) bytes class at).tree))
      → (class : Class) (at : ℕ) (listed : Bool) (found : Result Own Refusal) → read_own bytes at class levels ≡ found
      → (read levels bytes class at).checked ≡ no_refusal → Below (length bytes) (seen_in class listed (read levels bytes class at).tree)
  record_below levels below class at listed (Err why) is passed = own_unread levels bytes class at passed is
  record_below levels below class at listed (Ok own) is passed =
      let limit : ℕ = length bytes in
      let tree : Tree = (read levels bytes class at).tree in
      let parts : List Tree = part_trees levels bytes class own in
      let number : ℕ = token_number tree in
      let used : Bool = has_comment (own_trivia tree) in
      let reading = (read_record bytes class at levels own is).1 in
      let parts_passed = sym (parts_checked (read (levels - 1) bytes) (parts_due class own) own.end) ∙ sym (ap (λ (reading : Reading). reading.checked) reading) ∙ passed in
      let here : at < limit = omega (arith, (record_headed bytes at class levels own is).1.room) in
      let some : 0 < limit = omega (arith, here) in
      let head = head_stands bytes some levels class at (head_at levels bytes class at) refl passed in
      let closing = closing_below limit number parts (parts_stand bytes some (levels - 1) (parts_due class own) own.end 2) in
      let own_uses_here = both_below limit (own_marks class number listed at used) _ (own_below limit class number listed at used here)
      (both_below limit (head_marks class number listed (stands_at (head_of tree)) (has_comment (own_trivia (head_of tree)))) (closing_marks number parts)
      (head_below limit class number listed (stands_at (head_of tree)) (has_comment (own_trivia (head_of tree))) head) closing) in
      rw (record_uses levels bytes class at own is listed)
      (both_below limit (own_uses class listed tree at parts) _ own_uses_here
      (along_below (levels - 1) below (listed_below (get_or bytes at 0) listed) (standing (parts_due class own)) own.end parts_passed))

  uses_below : (levels : ℕ) (class : Class) (at : ℕ) (listed : Bool) → (read levels bytes class at).checked ≡ no_refusal
      → Below (length bytes) (seen_in class listed (read levels bytes class at).tree)
  uses_below zero class at listed = unread_below class at listed (read_own bytes at class zero) refl
  uses_below (suc levels) class at listed =
      let one_less : suc levels - 1 ≡ levels = omega arith in
      record_below (suc levels) (rw one_less (uses_below levels)) class at listed (read_own bytes at class (suc levels)) refl

-- ---- the offset of an answer is that of a use

-- one of some uses below a limit
one_below : (limit : ℕ) (before : List Use) (used : Use) (behind : List Use) → Below limit (before ++ (used ∷ behind)) → used.place < limit
unfolding Below
one_below limit [] used behind below = below.0
one_below limit (other ∷ before) used behind below = one_below limit before used behind below.1

told_below : (from : ℕ) (bytes : List ℕ) (loss : Loss) → batch_checked bytes ≡ no_refusal → lost_from from bytes ≡ Ok (Some loss) → loss.place < length bytes
told_below from bytes loss passed told =
    let found = (told_used from bytes loss passed told).1 in
    let below = uses_below bytes 64 Tokens 0 false (file_passed 65535 64 bytes passed).layout in
    subst (λ (place : ℕ). place < length bytes) found.stands
    (one_below (length bytes) found.before found.used found.behind (subst (Below (length bytes)) found.split below))

-- ---- the answer

lost_on_narrow : (from : ℕ) (bytes : List ℕ) (checked : Checked) (least : Option ℕ) → batch_checked bytes ≡ checked
    → least_of (firsts_in from (read_file 64 bytes).tree) ≡ least → Narrow (lost_from from bytes)
unfolding lost_from
lost_on_narrow from bytes (Err refusal) least is here = rw is tt
lost_on_narrow from bytes (Ok tt) None is here = rw (is, here) tt
lost_on_narrow from bytes (Ok tt) (Some at) is here =
    let of : Spot → Option ℕ = λ spot. first_in from spot (read_file 64 bytes).tree in
    let firsts : Firsts = map of spots in
    let spot = least_one of at spots here in
    let below = told_below from bytes (record { place = at; letters = letters_at firsts at }) is (rw (is, here) refl) in
    let short = length_passed 65535 bytes (file_passed 65535 64 bytes is).size in
    rw (is, here) (omega (arith, below, short), bits_some at firsts (spot_number spot.0) 1 (first_of_lem of spot.0 ∙ spot.1), omega (arith, bits_most at 0 firsts))

-- an answer that is what the definition says is small, and has document 01's numbers
pub narrow_lost : (lost : Lost) (from : ℕ) (bytes : List ℕ) → lost ≡ lost_from from bytes
    → (lost ≡ lost_from from bytes) × (Narrow lost × (numbers_lost lost ≡ lost_numbers from bytes))
narrow_lost lost from bytes is =
    let narrow : Narrow (lost_from from bytes) = lost_on_narrow from bytes (batch_checked bytes) (least_of (firsts_in from (read_file 64 bytes).tree)) refl refl in
    (is, (rw is narrow, lost_numbers_lem from bytes is))
