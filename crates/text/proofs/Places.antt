-- What the library's scans of a list find, as the definitions of `specs/` have it.
use Rattle.std.proofs.Common.{◌≡◌, ℕ, ◌+◌, ◌-◌, ◌<◌, ◌≤◌, not, Bool, true, false, cond, eqb, List, [], ◌∷◌, length, get_or, take, drop, refl, sym, ap, ◌∙◌, arith}
use Rattle.std.proofs.Common.{Option, Some, None, MatchBool, MatchOption}
use Rattle.std.specs.List.{prefix_len}
use Rattle.std.specs.Option.{unwrap_or}
use Rattle.std.specs.Str.{IsAscii, IsNotAscii}
use Rattle.std.proofs.lemmas.List.Recursion.{same_from_clauses, and_from_places, and_fails_at}
use Rattle.std.proofs.lemmas.List.Sums.{prefix_len_is}
use Rattle.std.proofs.lemmas.Grind.{common_steps}
use lib.ListN.{length-take, length-drop, take-append-drop}
use lib.Seq.{get_or-drop}
use borrow.Author.Tests.{le-leb, lt-leb}
use Rattle.text.specs.Ink.{blank, all_blank, leading_blanks, trim_end, ink_end}
use Rattle.text.specs.Lines.{newline_at}
use Rattle.text.specs.Accepted.{accepted_byte, accepted_text, fault_at}
use Rattle.text.proofs.Choices.{by_test}
use Rattle.text.proofs.Ink.{ink_end_zero, trim_append_blank, trim_last_ink}

-- where a scan stops that passes what a test says: at the first byte of which the test is false, or at the end where there is none
abbrev pub Stopped : (ℕ → Bool) → List ℕ → Option ℕ → Type 0
Stopped passed bytes found =
    MatchOption found
    ((k : ℕ) → k < length bytes → passed (get_or bytes k 0) ≡ true)
    (λ place. (place < length bytes) × (passed (get_or bytes place 0) ≡ false) × ((k : ℕ) → k < place → passed (get_or bytes k 0) ≡ true))

module _ (place_in : List ℕ → ℕ) (passed : ℕ → Bool) (none : place_in [] ≡ 0) (step : (b : ℕ) (bs : List ℕ) → place_in (b ∷ bs) ≡ cond (passed b) (1 + place_in bs) 0) where
  same : (bytes : List ℕ) → place_in bytes ≡ prefix_len passed bytes
  same bytes = same_from_clauses place_in (prefix_len passed) (λ b place. cond (passed b) (1 + place) 0) none step (λ _ _. refl) bytes

  -- a place that is defined by recursion is the one that such a scan finds
  place_found : (found : Option ℕ) (bytes : List ℕ) → Stopped passed bytes found → unwrap_or found (length bytes) ≡ place_in bytes
  place_found None bytes all =
      sym (same bytes ∙ prefix_len_is passed bytes (length bytes) 0 (omega arith) all (λ past. absurd (omega arith)))
  place_found (Some place) bytes (within, stops, before) =
      sym (same bytes ∙ prefix_len_is passed bytes place 0 (omega arith) before (λ _. stops))

pub newline_found : (found : Option ℕ) (bytes : List ℕ) → Stopped (λ b. not (eqb b 10)) bytes found → unwrap_or found (length bytes) ≡ newline_at bytes
unfolding newline_at
newline_found found bytes stopped = place_found newline_at (λ b. not (eqb b 10)) refl (λ b bs. by_test (eqb b 10) (λ q. rw q) (λ q. rw q)) found bytes stopped

pub fault_found : (found : Option ℕ) (bytes : List ℕ) → Stopped accepted_byte bytes found → unwrap_or found (length bytes) ≡ fault_at bytes
unfolding fault_at
fault_found found bytes stopped = place_found fault_at accepted_byte refl (λ _ _. refl) found bytes stopped

pub ink_found : (found : Option ℕ) (bytes : List ℕ) → Stopped blank bytes found → unwrap_or found (length bytes) ≡ leading_blanks bytes
unfolding leading_blanks
ink_found found bytes stopped = place_found leading_blanks blank refl (λ _ _. refl) found bytes stopped

-- a byte above 127 is one of the list
high_within : (bytes : List ℕ) (i : ℕ) → 128 ≤ get_or bytes i 0 → i < length bytes
high_within bytes i high = grind (arith, common_steps)

-- a text is accepted where it is ASCII
pub ascii_accepted : {said : Bool} (bytes : List ℕ) → MatchBool said (IsAscii bytes) (IsNotAscii bytes) → said ≡ accepted_text bytes
unfolding accepted_text accepted_byte
ascii_accepted {said = true} bytes small = sym (and_from_places accepted_text accepted_byte refl (λ _ _. refl) bytes 0 (λ i _. le-leb _ 127 (omega (arith, small i))))
ascii_accepted {said = false} bytes (i, high) =
    sym (and_fails_at accepted_text accepted_byte refl (λ _ _. refl) bytes i 0 (high_within bytes i high) (lt-leb _ 127 (omega arith)))

-- what is blank from a place on is blank behind it
blank_behind : (bytes : List ℕ) (from : ℕ) → ((k : ℕ) → from ≤ k → k < length bytes → blank (get_or bytes k 0) ≡ true) → all_blank (drop from bytes) ≡ true
unfolding all_blank
blank_behind bytes from blanks =
    and_from_places all_blank blank refl (λ _ _. refl) (drop from bytes) 0
    (λ i within. rw (get_or-drop from bytes i 0) (blanks (from + i) (omega arith) (omega (arith, length-drop from bytes))))

-- a place from which all is blank and before which ink stands, as `rposition` finds it, is the end of the ink
pub ink_end_found : (found : Option ℕ) (bytes : List ℕ) (said : ℕ)
    → MatchOption found
    ((k : ℕ) → k < length bytes → blank (get_or bytes k 0) ≡ true)
    (λ last. (last < length bytes) × (blank (get_or bytes last 0) ≡ false) × ((k : ℕ) → last < k → k < length bytes → blank (get_or bytes k 0) ≡ true))
    → MatchOption found (said ≡ 0) (λ last. said ≡ last + 1) → said ≡ ink_end bytes
ink_end_found None bytes said all is = is ∙ sym (ink_end_zero bytes (blank_behind bytes 0 (λ k _. all k)))
ink_end_found (Some last) bytes said (within, ink, behind) is =
    let end : ℕ = last + 1 in
    let same : end - 1 ≡ last = omega arith in
    let cut = trim_append_blank (take end bytes) (drop end bytes) (blank_behind bytes end (λ k from. behind k (omega arith))) in
    let kept = trim_last_ink bytes end (omega arith) (omega arith) (rw same ink) in
    let front : length (take end bytes) ≡ end = rw length-take (omega arith) in
    is ∙ sym (ap (λ (list : List ℕ). length (trim_end list)) (sym (take-append-drop end bytes)) ∙ ap length (cut ∙ kept) ∙ front)
