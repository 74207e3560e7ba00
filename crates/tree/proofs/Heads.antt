-- Laws of what the walk reads beside own bytes: the place behind a record, a trivia item as `trivia_from` has it, and a token's head.
use Rattle.std.specs.Prelude.{Option, Result, Some, None, Ok, Err}
use Rattle.answers.specs.Numbers.{Checked}
use mathlib.Core.Path.{◌≡◌, refl, sym, ap, ◌∙◌}
use mathlib.Core.Bool.{false}
use mathlib.Core.List.{List, [], ◌∷◌}
use Prim.Native.Nat.{ℕ, zero, suc, ◌+◌, ◌-◌, ◌%◌, ◌≤◌, ◌<◌}
use native.Mathlib.Omega.{arith}
use lib.Dec.{eqb, leb}
use Rattle.std.proofs.Common.{cond}
use lib.ListN.{length, get_or}
use lib.Seq.{slice, slice_empty}
use borrow.Author.Tests.{eq-eqb, ne_eqb, le-leb, lt-leb, lt-ltb}
use Rattle.answers.specs.declared.Refusal.{Refusal}
use Rattle.text.specs.Numbers.{number_at}
use Rattle.text.proofs.Choices.{by_test}
use Rattle.tree.specs.Codes.{code_of, code_number}
use Rattle.tree.specs.declared.codes.Code.{Code}
use Rattle.tree.specs.Grammar.{Slot}
use Rattle.tree.specs.Own.{layout, trivium_end, read_own}
use Rattle.tree.specs.Reading.{Placed, slot_class, trivium_behind, trivium_text, trivia_from, read}
use Rattle.tree.specs.Rows.{slot_code, row_of}
use Rattle.tree.specs.Walk.{record_on, record_read}
use Rattle.tree.specs.Parts.{skipped_on, skipped, item_to, trivium_on, trivium_at, first_class, field_head, head_on, head_behind, head_at}
use Rattle.tree.specs.declared.grammar.Class.{Class}
use Rattle.tree.specs.declared.own.Own.{Own}
use Rattle.tree.specs.declared.parts.TriviumSpan.{TriviumSpan}
use Rattle.tree.proofs.Rows.{row_first, row_none}
use Rattle.tree.proofs.Coded.{code_is, no_code}
use Rattle.tree.proofs.OwnBytes.{item_held, own_cases, own_fits}
use Rattle.tree.proofs.KindNumbers.{none_at}
use Rattle.tree.specs.Grammar.{kind_of}
use Rattle.tree.specs.Walk.{first_field}
use Rattle.tree.specs.Parts.{spans_on, spans_at}
use native.Mathlib.Numerals.{sub-one}
use Rattle.tree.specs.declared.grammar.Kind.TheVariants.{Braces, Config, Expression, Data, BinaryExpression}
use mathlib.Core.Logic.{◌⊎◌, ⊎_elim}
use Rattle.tree.proofs.Records.{level_left}

-- ---- the place behind a record

-- what a record that was read says of it
abbrev pub skipped_of : Result (ℕ × ℕ) Refusal → Result ℕ Refusal
skipped_of (Ok (end, fault)) = Ok end
skipped_of (Err refusal) = Err refusal

-- it is the end of what was read, or the refusal met
skip_on : (bytes : List ℕ) (fault end : ℕ) (texts : List Placed) (checked : Checked) → skipped_of (record_on bytes fault end texts checked) ≡ skipped_on end checked
skip_on bytes fault end texts (Ok tt) = refl
skip_on bytes fault end texts (Err refusal) = refl

-- so it is for every record
pub skip_read : (levels : ℕ) (bytes : List ℕ) (class : Class) (at fault : ℕ) (read_record found : Result (ℕ × ℕ) Refusal)
    → read_record ≡ record_read bytes fault (read levels bytes class at) → read_record ≡ found → skipped_of found ≡ skipped levels bytes class at
unfolding skipped record_read
skip_read levels bytes class at fault read_record found same is =
    let reading = read levels bytes class at in
    ap skipped_of (sym is ∙ same) ∙ skip_on bytes fault reading.end reading.texts reading.checked

-- ---- a trivia item

-- an item that was read: its code, its text, which lies within the bytes, and the place behind it
pub record ItemRead (bytes : List ℕ) (at : ℕ) (item : TriviumSpan) : Type 0 where
  pub code : code_number item.code ≡ get_or bytes at 0
  pub text : slice item.start item.end bytes ≡ trivium_text bytes at
  pub order : item.start ≤ item.end
  pub inside : item.end ≤ length bytes
  pub behind : item.end ≡ trivium_behind bytes at

-- the item up to the place that `trivium_end` gives is one
item_here : (bytes : List ℕ) (at end : ℕ) (item : TriviumSpan) (found : Option Code) → trivium_end bytes at ≡ Some end → code_of (get_or bytes at 0) ≡ found
    → item_to at end found ≡ Some item → ItemRead bytes at item
item_here bytes at end item None is known e = let z : ◌≡◌ {A = ℕ} 0 1 = cc in absurd (omega arith)
item_here bytes at end item (Some code) is known e =
    let held = item_held bytes at end is in
    let item_end = held.0.inside in
    let byte = code_is (get_or bytes at 0) code known in
    let same : record { code = code; start = cond (eqb (code_number code) 1) end (at + 3); end = end } ≡ item = cc in
    rw (← same, byte)
    (by_test (eqb (get_or bytes at 0) 1)
    (λ t. record {
      code = byte;
      text = rw t (slice_empty end bytes);
      order = rw t (omega arith);
      inside = omega arith;
      behind = sym held.1;
    })
    (λ t.
    let behind_text : end ≡ at + 3 + number_at bytes (at + 1) = rw t at (sym held.1) in
    record {
      code = byte;
      text = rw t (ap (λ (behind : ℕ). slice (at + 3) behind bytes) behind_text);
      order = rw t (omega arith);
      inside = omega arith;
      behind = sym held.1;
    }))

-- by what `trivium_end` gives
item_on : (bytes : List ℕ) (at : ℕ) (item : TriviumSpan) (span : Option ℕ) → trivium_end bytes at ≡ span → trivium_on bytes at span ≡ Some item → ItemRead bytes at item
item_on bytes at item (Some end) is e = item_here bytes at end item (code_of (get_or bytes at 0)) is refl e
item_on bytes at item None is e = let z : ◌≡◌ {A = ℕ} 0 1 = cc in absurd (omega arith)

-- what `trivium_at` finds is one
pub item_read : (bytes : List ℕ) (at : ℕ) (item : TriviumSpan) → trivium_at bytes at ≡ Some item → ItemRead bytes at item
unfolding trivium_at
item_read bytes at item e = item_on bytes at item (trivium_end bytes at) refl e

-- where `trivium_end` gives a place one is found up to there
item_found : (bytes : List ℕ) (at end : ℕ) (code : Option Code) → trivium_end bytes at ≡ Some end → code_of (get_or bytes at 0) ≡ code
    → (item : TriviumSpan) × (item_to at end code ≡ Some item) × (item.end ≡ end)
unfolding trivium_end
item_found bytes at end (Some code) is known = (record { code = code; start = cond (eqb (code_number code) 1) end (at + 3); end = end }, refl, refl)
item_found bytes at end None is known =
    let byte = get_or bytes at 0 in
    let past = no_code byte known in
    let other : eqb byte 1 ≡ false = ne_eqb byte 1 (λ same. omega (arith, same, past)) in
    by_test (leb (length bytes) at)
    (λ over. let none : None ≡ Some end = rw over at is in let z : ◌≡◌ {A = ℕ} 0 1 = cc in absurd (omega arith))
    (λ here. let none : None ≡ Some end = rw (here, other, lt-ltb 3 byte past) at is in let z : ◌≡◌ {A = ℕ} 0 1 = cc in absurd (omega arith))

pub item_stands : (bytes : List ℕ) (at end : ℕ) → trivium_end bytes at ≡ Some end → (item : TriviumSpan) × (trivium_at bytes at ≡ Some item) × (item.end ≡ end)
unfolding trivium_at
item_stands bytes at end is =
    let found = item_found bytes at end (code_of (get_or bytes at 0)) is refl in
    (found.0, ap (trivium_on bytes at) is ∙ found.1, found.2)

-- it is the first of the items that stand there
pub items_first : (bytes : List ℕ) (at count : ℕ) (item : TriviumSpan) → trivium_at bytes at ≡ Some item
    → trivia_from bytes at (suc count) ≡ record { code = code_number item.code; text = slice item.start item.end bytes } ∷ trivia_from bytes item.end count
unfolding trivia_from
items_first bytes at count item e = let this = item_read bytes at item e in rw (this.code, this.text, this.behind)

-- ---- a token's head

-- the class of the first field, from the row
module _ (class : Class) (slots : List Slot) (row : ℕ) (same : row ≡ row_of slots) where
  -- a row of no fields
  pub first_none : row ≡ 0 → class ≡ first_class class slots
  first_none e = sym (ap (first_class class) (row_none row slots same (omega arith)))

  -- a row with a first one
  pub first_some : (row ≡ 0 → ⊥) → (found : Class) → ((slot : Slot) → row % 128 ≡ slot_code slot → found ≡ slot_class slot) → found ≡ first_class class slots
  first_some h found known =
      let first = row_first row slots same (omega (arith, h)) in
      known first.slot first.code ∙ sym (ap (first_class class) first.same)

module _ (levels : ℕ) (bytes : List ℕ) (class : Class) (at : ℕ) (read-own : Result Own Refusal) (same : read-own ≡ read_own bytes at class levels) where
  -- the own bytes of a token are refused
  pub head_refused : (refusal : Refusal) → read-own ≡ Err refusal → Err refusal ≡ head_at levels bytes class at
  unfolding head_at
  head_refused refusal is = ap (head_on levels bytes class at) (sym is ∙ same)

  -- behind the own bytes of a token that were read stands its head
  pub head_behind_read : (own : Own) → read-own ≡ Ok own → head_behind levels bytes class at own ≡ head_at levels bytes class at
  unfolding head_behind head_at
  head_behind_read own is =
      let held = own_fits bytes at class levels own (sym same ∙ is) in
      let level = level_left levels bytes class at read-own same own is in
      let here : head_behind levels bytes class at own ≡ head_on levels bytes class at (Ok own) =
      simp (ne_eqb levels 0 (λ none. omega (arith, level, none)), lt-leb (length bytes) at (omega (arith, held.behind, held.part, held.inside))) in
      here ∙ ap (head_on levels bytes class at) (sym is ∙ same)

-- ---- behind own bytes, whatever they are

-- own bytes that were read have the kind of their first byte
pub kind_read : (bytes : List ℕ) (at : ℕ) (class : Class) (levels : ℕ) (own : Own) → read_own bytes at class levels ≡ Ok own → kind_of (get_or bytes at 0) ≡ Some own.kind
kind_read bytes at class =
    own_cases bytes at class (λ own. kind_of (get_or bytes at 0) ≡ Some own.kind)
    (λ kind trivia headed number room. headed.kind_is)
    (λ kind trivia end headed leaf stands text. headed.kind_is)
    (λ kind trivia headed list leaf. headed.kind_is)

module _ (levels : ℕ) (bytes : List ℕ) (class : Class) (at : ℕ) (own : Own) where
  -- no head, where no level is left or no byte
  pub head_none : (levels ≡ 0) ⊎ ((levels ≡ 0 → ⊥) × (length bytes ≤ at)) → Err (layout at) ≡ head_behind levels bytes class at own
  unfolding head_behind
  head_none = ⊎_elim (λ low. rw (eq-eqb _ _ low)) (λ past. rw (ne_eqb _ _ past.0, le-leb _ _ past.1))

  module _ (some : levels ≡ 0 → ⊥) (inside : at < length bytes) where
    -- else what stands there is that of a token
    pub head_there : head_behind levels bytes class at own ≡ head_on levels bytes class at (Ok own)
    unfolding head_behind
    head_there = simp (ne_eqb _ _ some, lt-leb _ _ inside)

    -- of a byte of no kind the first field
    pub head_unknown : kind_of (get_or bytes at 0) ≡ None → Ok (first_field levels class own) ≡ head_behind levels bytes class at own
    unfolding field_head
    head_unknown none =
        let other = none_at (get_or bytes at 0) none in
        sym
        (head_there
        ∙ rw (other 2 Braces refl, other 3 Config refl, other 9 Expression refl, other 5 Data refl, other 28 BinaryExpression refl))

-- ---- trivia items in a row

-- none is left
pub spans_none : (bytes : List ℕ) (at left : ℕ) → left ≡ 0 → spans_at bytes at left ≡ []
unfolding spans_at
spans_none bytes at left none = rw none

-- the first by what it reads as, and then the others
pub spans_next : (bytes : List ℕ) (at left : ℕ) → (left ≡ 0 → ⊥) → (found : Option TriviumSpan) → trivium_at bytes at ≡ found
    → spans_at bytes at left ≡ spans_on (λ place. spans_at bytes place (left - 1)) found
unfolding spans_at
spans_next bytes at zero some found is = absurd (some refl)
spans_next bytes at (suc left) some found is = rw (sub-one, is)
