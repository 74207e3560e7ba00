-- A line's measures with more bytes behind it, by whether the line and the bytes have ink.
use mathlib.Core.Path.{◌≡◌, refl, sym, ap, ◌∙◌}
use mathlib.Core.List.{List, ◌++◌}
use mathlib.Core.Bool.{true, false}
use Prim.Native.Nat.{ℕ, ◌+◌}
use native.Mathlib.Omega.{arith}
use lib.ListN.{length, length-append, length-replicate}
use Rattle.text.specs.Ink.{all_blank, leading_blanks, trim_end, ink_end, spaces}
use Rattle.text.proofs.Choices.{by_test, true_false}
use Rattle.text.proofs.Ink.{blank_append, spaces_blank, trim_append_ink, trim_append_blank, ink_end_zero, ink_end_some, leading_append_ink, leading_append_blank, leading_blank}
use Rattle.join.specs.Walk.{Measured, Inked}
use Rattle.join.specs.declared.line.Measure.{Measure}

-- where the ink ends at 0 there is none
pub end_blank : (bytes : List ℕ) → ink_end bytes ≡ 0 → all_blank bytes ≡ true
end_blank bytes e = by_test (all_blank bytes) (λ q. q) (λ q. absurd (omega (arith, ink_end_some bytes q)))

-- where it does not there is some
pub end_ink : (bytes : List ℕ) → (ink_end bytes ≡ 0 → ⊥) → all_blank bytes ≡ false
end_ink bytes f = by_test (all_blank bytes) (λ q. absurd (f (ink_end_zero bytes q))) (λ q. q)

module _ {measure : Measure} {line : List ℕ} (known : Measured measure line) (bytes : List ℕ) where
  -- a line whose ink ends at 0 is blank
  line_blank : measure.ink_end ≡ 0 → all_blank line ≡ true
  line_blank none = end_blank line (sym known.end ∙ none)

  -- any other has ink
  line_ink : (measure.ink_end ≡ 0 → ⊥) → all_blank line ≡ false
  line_ink some = end_ink line (λ e. some (known.end ∙ e))

  -- the length with the bytes
  length_behind : {count : ℕ} → length bytes ≡ count → measure.length + count ≡ length (line ++ bytes)
  length_behind many = omega (arith, known.length, length-append line bytes)

  -- with ink behind the line the ink ends where it ends there
  end_behind : {end : ℕ} → all_blank bytes ≡ false → end ≡ ink_end bytes → measure.length + end ≡ ink_end (line ++ bytes)
  end_behind ink e = rw (trim_append_ink line bytes ink) (omega (arith, known.length, length-append line (trim_end bytes)))

  -- blanks behind blanks lead with them
  pub blanks_behind_blanks : {count : ℕ} → measure.ink_end ≡ 0 → all_blank bytes ≡ true → length bytes ≡ count
      → Measured (record { length = measure.length + count; leading = measure.leading + count; ink_end = 0 }) (line ++ bytes)
  blanks_behind_blanks none blank many =
      let before = line_blank none in
      record {
        length = length_behind many;
        leading = omega (arith, known.leading, leading_append_blank line bytes before, leading_blank line before, leading_blank bytes blank);
        end = sym (ink_end_zero (line ++ bytes) (blank_append line bytes ∙ rw (before, blank)));
      }

  -- blanks behind ink change the length alone
  pub blanks_behind_ink : {count : ℕ} → (measure.ink_end ≡ 0 → ⊥) → all_blank bytes ≡ true → length bytes ≡ count
      → Measured (record { length = measure.length + count; leading = measure.leading; ink_end = measure.ink_end }) (line ++ bytes)
  blanks_behind_ink some blank many = record {
    length = length_behind many;
    leading = known.leading ∙ sym (leading_append_ink line bytes (line_ink some));
    end = known.end ∙ sym (ap length (trim_append_blank line bytes blank));
  }

  -- ink behind blanks: its own blanks lead with them, and its ink is the first
  pub ink_behind_blanks : {leading end : ℕ} → measure.ink_end ≡ 0 → all_blank bytes ≡ false → leading ≡ leading_blanks bytes → end ≡ ink_end bytes
      → Measured (record { length = measure.length + length bytes; leading = measure.length + leading; ink_end = measure.length + end }) (line ++ bytes)
  ink_behind_blanks none ink e f = record {
    length = length_behind refl;
    leading = omega (arith, known.length, leading_append_blank line bytes (line_blank none));
    end = end_behind ink f;
  }

  -- ink behind ink leaves the leading blanks as they are
  pub ink_behind_ink : {end : ℕ} → (measure.ink_end ≡ 0 → ⊥) → all_blank bytes ≡ false → end ≡ ink_end bytes
      → Measured (record { length = measure.length + length bytes; leading = measure.leading; ink_end = measure.length + end }) (line ++ bytes)
  ink_behind_ink some ink f = record {
    length = length_behind refl;
    leading = known.leading ∙ sym (leading_append_ink line bytes (line_ink some));
    end = end_behind ink f;
  }

-- ---- a text between spaces, behind a line with ink

module _ {measure : Measure} {line : List ℕ} (known : Measured measure line) (some : measure.ink_end ≡ 0 → ⊥) (before : ℕ) (text : List ℕ) (behind : ℕ) where
  -- the text between its spaces
  abbrev between : List ℕ
  between = spaces before ++ (text ++ spaces behind)

  -- how long the line is with them
  between_length : measure.length + before + length text + behind ≡ length (line ++ between)
  between_length =
      omega (
        arith,
        known.length,
        length-append line between,
        length-append (spaces before) (text ++ spaces behind),
        length-append text (spaces behind),
        length-replicate {A = ℕ} before 32,
        length-replicate {A = ℕ} behind 32,
      )

  -- its leading blanks stay
  between_leading : measure.leading ≡ leading_blanks (line ++ between)
  between_leading = known.leading ∙ sym (leading_append_ink line between (line_ink known between some))

  -- a blank text leaves the end of the ink
  pub between_blank : ink_end text ≡ 0 → Measured (record { length = measure.length + before + length text + behind; leading = measure.leading; ink_end = measure.ink_end }) (line ++ between)
  between_blank none =
      let blank : all_blank between ≡ true =
      blank_append (spaces before) (text ++ spaces behind) ∙ rw (spaces_blank before, blank_append text (spaces behind), end_blank text none, spaces_blank behind) in
      record { length = between_length; leading = between_leading; end = known.end ∙ sym (ap length (trim_append_blank line between blank)) }

  -- any other moves it to the text's
  pub between_ink : {end : ℕ} → end ≡ ink_end text → (end ≡ 0 → ⊥)
      → Measured (record { length = measure.length + before + length text + behind; leading = measure.leading; ink_end = measure.length + before + end }) (line ++ between)
  between_ink {end} e inky =
      let ink : all_blank text ≡ false = end_ink text (λ none. inky (e ∙ none)) in
      let behind_ink : all_blank (text ++ spaces behind) ≡ false = blank_append text (spaces behind) ∙ rw ink in
      let all_ink : all_blank between ≡ false = blank_append (spaces before) (text ++ spaces behind) ∙ rw (spaces_blank before, behind_ink) in
      let trimmed : trim_end (line ++ between) ≡ line ++ (spaces before ++ trim_end text) =
      trim_append_ink line between all_ink
      ∙ ap (λ (rest : List ℕ). line ++ rest) (trim_append_ink (spaces before) (text ++ spaces behind) behind_ink
      ∙ ap (λ (rest : List ℕ). spaces before ++ rest) (trim_append_blank text (spaces behind) (spaces_blank behind))) in
      record {
        length = between_length;
        leading = between_leading;
        end = omega (arith, known.length, ap length trimmed, length-append line (spaces before ++ trim_end text), length-append (spaces before) (trim_end text), length-replicate {A = ℕ} before 32);
      }

-- blanks behind a line measure alike, whichever they are
pub blanks_alike : (measure : Measure) (line xs ys : List ℕ) → all_blank xs ≡ true → all_blank ys ≡ true → length xs ≡ length ys
    → Measured measure (line ++ xs) → Measured measure (line ++ ys)
blanks_alike measure line xs ys blank blank' many known = record {
  length = omega (arith, known.length, length-append line xs, length-append line ys);
  leading = known.leading ∙ by_test (all_blank line)
      (λ q. omega (arith, leading_append_blank line xs q, leading_append_blank line ys q, leading_blank xs blank, leading_blank ys blank'))
      (λ q. leading_append_ink line xs q ∙ sym (leading_append_ink line ys q));
  end = known.end ∙ ap length (trim_append_blank line xs blank ∙ sym (trim_append_blank line ys blank'));
}

-- blanks behind a measured line leave what its cut looks at
pub inked_behind : {measure : Measure} {line : List ℕ} (rest : List ℕ) → Measured measure line → all_blank rest ≡ true → Inked measure (line ++ rest)
inked_behind {line = line} rest known blank = record {
  end = known.end ∙ sym (ap length (trim_append_blank line rest blank));
  leading = λ ink. known.leading ∙ sym (leading_append_ink line rest (by_test (all_blank line) (λ q. true_false (sym (blank_append line rest ∙ rw (q, blank)) ∙ ink)) (λ q. q)));
}
