-- The loop over a record's parts: those that are left go on with the search of all.
use Rattle.std.specs.Prelude.{Result, Ok, Err}
use Rattle.answers.specs.Numbers.{no_refusal, Checked}
use mathlib.Core.Path.{◌≡◌, refl, sym, ap, ◌∙◌}
use mathlib.Core.List.{List, [], ◌∷◌, ◌++◌, append-nil, append_assoc}
use mathlib.Core.Bool.{Bool}
use Prim.Native.Nat.{ℕ, ◌-◌}
use lib.ListN.{get_or}
use Rattle.answers.specs.declared.Refusal.{Refusal}
use Rattle.tree.specs.Own.{read_own}
use Rattle.tree.specs.Reading.{Reading, Reader, parts_due, read}
use Rattle.tree.specs.Walk.{standing}
use Rattle.tree.specs.declared.grammar.Class.{Class}
use Rattle.tree.specs.declared.own.Own.{Own}
use Rattle.tree.proofs.Cases.{both_passed}
use Rattle.tree.specs.Grammar.{kind_number}
use Rattle.tree.proofs.KindLayout.{kind_number_lem}
use Rattle.events.proofs.OwnParts.{record_headed}
use Rattle.leaves.proofs.Records.{read_record}
use Rattle.reading.specs.Places.{Use}
use Rattle.losses.specs.Visits.{seen_in, listed_below, uses_along, end_along, checked_along, TakesAll, TakesRecord, Searches}
use Rattle.losses.specs.declared.firsts.Search.{Search}
use Rattle.losses.proofs.Along.{parts_end, parts_checked}
use Rattle.losses.proofs.Marks.{all_then, all_none}
use Rattle.losses.proofs.Passed.{own_unread, next_unskipped, same_next}
use Rattle.losses.proofs.Records.{record_uses}

module _ (reader : Reader) (listed : Bool) where
  -- what searching parts of these classes has taken, and what it leaves to do
  pub record Left (some : List Class) (place : ℕ) (before : Search) (others : List Class) (behind : ℕ) (after : Search) : Type 0 where
    pub passed : checked_along reader others behind ≡ no_refusal
    pub end : end_along reader some place ≡ end_along reader others behind
    pub uses : List Use
    pub split : uses_along reader listed some place ≡ uses ++ uses_along reader listed others behind
    pub takes : TakesAll after before uses

  -- the same of parts of which none is refused
  abbrev pub PartsLeft : List Class → ℕ → Search → List Class → ℕ → Search → Type 0
  PartsLeft some place before others behind after = checked_along reader some place ≡ no_refusal → Left some place before others behind after

  -- before the first part
  pub parts_start : (some : List Class) (place : ℕ) (before : Search) → PartsLeft some place before some place before
  parts_start some place before passed = record { passed = passed; end = refl; uses = []; split = refl; takes = all_none }

  module _ (some : List Class) (place : ℕ) (before : Search) {left : List Class} (behind : ℕ) (after : Search)
      (walk : PartsLeft some place before left behind after) where
    -- no part is left
    pub search_done : left ≡ [] → checked_along reader some place ≡ no_refusal
        → (behind ≡ end_along reader some place) × TakesAll after before (uses_along reader listed some place)
    unfolding uses_along end_along
    search_done none passed =
        let done = rw none at (walk passed) in
        (sym done.end, rw (done.split ∙ append-nil done.uses) done.takes)

    -- a part was searched
    module _ (class : Class) (others : List Class) (first : left ≡ class ∷ others) {searched : Result ℕ Refusal} {found : Search}
        (searches : (reader class behind).checked ≡ no_refusal
        → (searched ≡ Ok (reader class behind).end) × TakesAll found after (seen_in class listed (reader class behind).tree)) where
      -- those that are left go on behind it
      pub search_on : {end : ℕ} → searched ≡ Ok end → PartsLeft some place before others end found
      unfolding uses_along end_along checked_along
      search_on {end} whole passed =
          let here = rw first at (walk passed) in
          let both = both_passed (reader class behind).checked (checked_along reader others (reader class behind).end) here.passed in
          let done = searches both.0 in
          let seen : List Use = seen_in class listed (reader class behind).tree in
          let same : end ≡ (reader class behind).end = same_next (sym whole ∙ done.0) in
          record {
            passed = rw same both.1;
            end = here.end ∙ ap (end_along reader others) (sym same);
            uses = here.uses ++ seen;
            split = here.split ∙ sym (append_assoc here.uses seen (uses_along reader listed others (reader class behind).end))
                ∙ ap (λ (place : ℕ). (here.uses ++ seen) ++ uses_along reader listed others place) (sym same);
            takes = all_then here.takes done.1;
          }

      -- it was not refused where all parts passed
      pub part_unread : {why : Refusal} → searched ≡ Err why → checked_along reader some place ≡ no_refusal → ⊥
      unfolding checked_along
      part_unread none passed =
          let here = rw first at (walk passed) in
          let both = both_passed (reader class behind).checked (checked_along reader others (reader class behind).end) here.passed in
          next_unskipped (sym (searches both.0).0 ∙ none)

-- ---- a record

module _ (levels : ℕ) (bytes : List ℕ) (class : Class) (at : ℕ) (listed : Bool) {found : Result Own Refusal} (same : found ≡ read_own bytes at class levels) where
  -- its own bytes are not refused where it passed
  pub search_refused : {searched : Result ℕ Refusal} {after before : Search} {why : Refusal} → found ≡ Err why
      → Searches searched after before levels bytes class at listed
  search_refused is passed = own_unread levels bytes class at passed (sym same ∙ is)

  module _ (own : Own) (is : found ≡ Ok own) {parts : List Class} (stand : parts ≡ standing (parts_due class own))
      {seen : Checked} {middle before : Search} (shown : TakesRecord seen middle before levels bytes class at own listed) where
    abbrev reader : Reader
    reader = read (levels - 1) bytes

    -- its parts passed too
    parts_passed : (read levels bytes class at).checked ≡ no_refusal → checked_along reader parts own.end ≡ no_refusal
    parts_passed passed =
        ap (λ (parts : List Class). checked_along reader parts own.end) stand
        ∙ sym (parts_checked reader (parts_due class own) own.end)
        ∙ sym (ap (λ (reading : Reading). reading.checked) (read_record bytes class at levels own (sym same ∙ is)).1) ∙ passed

    -- so none of them is refused
    pub part_refused : {searched : Result ℕ Refusal} {after : Search} → (checked_along reader parts own.end ≡ no_refusal → ⊥)
        → Searches searched after before levels bytes class at listed
    part_refused never passed = absurd (never (parts_passed passed))

    -- it is what it shows by itself, and its parts
    pub record_searched : {after : Search} {end : ℕ} {below : Bool} → below ≡ listed_below (kind_number own.kind) listed
        → (checked_along reader parts own.end ≡ no_refusal
        → (end ≡ end_along reader parts own.end) × TakesAll after middle (uses_along reader below parts own.end))
        → Searches (Ok end) after before levels bytes class at listed
    record_searched below-is walked passed =
        let held = sym same ∙ is in
        let byte = kind_number_lem (get_or bytes at 0) own.kind (record_headed bytes at class levels own held).1.kind_is in
        let reading = (read_record bytes class at levels own held).1 in
        let done = rw stand at (walked (parts_passed passed)) in
        let behind = done.0 ∙ sym (parts_end reader (parts_due class own) own.end) ∙ sym (ap (λ (reading : Reading). reading.end) reading) in
        let uses = all_then (shown held passed).1 (rw (below-is ∙ ap (λ (number : ℕ). listed_below number listed) byte) at done.1) in
        (ap (λ (place : ℕ). Ok place) behind, rw (record_uses levels bytes class at own held listed) uses)
