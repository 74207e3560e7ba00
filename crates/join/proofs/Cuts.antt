-- A line that has ended: by its measures and its indent, what of it is kept and how it is set.
use mathlib.Core.Path.{◌≡◌, sym, ap, ◌∙◌}
use mathlib.Core.List.{List, [], ◌++◌, append_assoc}
use mathlib.Core.Bool.{true, false, cond, ◌||◌, and-false}
use Rattle.std.specs.Prelude.{Option, Some, None}
use Prim.Native.Nat.{ℕ, ◌+◌, ◌≤◌}
use native.Mathlib.Omega.{arith}
use lib.ListN.{length, take, drop, take-append-drop, length-append, replicate-append-replicate}
use lib.Seq.{slice, length-take-le, drop_at}
use lib.Dec.{eqb, ltb, leb}
use borrow.Author.Tests.{ne_eqb, lt-ltb, leb-true, eqb-true, eqb-false}
use Rattle.text.specs.Ink.{all_blank, trim_end, leading_blanks, ink_end, spaces}
use Rattle.text.proofs.Choices.{cond_both, by_test}
use Rattle.text.proofs.Ink.{blank_append, spaces_blank, trim_blank, trim_append_ink, trim_take, ink_end_some, leading_lt, blank_front}
use Rattle.columns.specs.Layout.{Line, indent_of, standalone, set_line, Before, keeps, after}
use Rattle.join.specs.Walk.{Narrow, Inked, cut_of, grown_by, CutFits}
use Rattle.columns.specs.declared.Margins.{Margins}
use Rattle.join.specs.declared.line.Measure.{Measure}
use Rattle.join.specs.declared.lines.Past.{Past}
use Rattle.join.specs.declared.lines.Cut.{Cut}
use Rattle.join.proofs.Measures.{end_blank, end_ink}

-- ---- a line with ink

-- it is standalone just where its first ink stands behind both margins
standalone_ink : (margins : Margins) (bytes : List ℕ) → all_blank bytes ≡ false → standalone margins bytes ≡ leb (margins.label + margins.code) (leading_blanks bytes)
unfolding standalone
standalone_ink margins bytes inked =
    let both = margins.label + margins.code in
    rw (inked, blank_front both bytes inked)
    (by_test (leb both (leading_blanks bytes))
    (λ e. rw (e, lt-ltb both (length bytes) (omega (arith, leb-true both (leading_blanks bytes) e, leading_lt bytes inked))))
    (λ e. rw (e, and-false (ltb both (length bytes)))))

module _ (n : ℕ) (bytes : List ℕ) (inked : all_blank bytes ≡ false) (blank : leb n (leading_blanks bytes) ≡ true) where
  -- behind a blank front the ink is still to come
  behind_ink : all_blank (drop n bytes) ≡ false
  behind_ink =
      let whole = blank_append (take n bytes) (drop n bytes) in
      let front : all_blank (take n bytes) ≡ true = blank_front n bytes inked ∙ blank in
      sym (rw (take-append-drop n bytes, front, inked) at whole)

  -- trimming leaves the blank front, and what stands behind it trimmed
  front_trim : trim_end bytes ≡ take n bytes ++ trim_end (drop n bytes)
  front_trim = ap trim_end (sym (take-append-drop n bytes)) ∙ trim_append_ink (take n bytes) (drop n bytes) behind_ink

  -- the front is whole
  front_length : length (take n bytes) ≡ n
  front_length = length-take-le n bytes (omega (arith, leb-true n (leading_blanks bytes) blank, leading_lt bytes inked))

  -- so the ink ends behind the front
  front_end_lem : n ≤ ink_end bytes
  front_end_lem = omega (arith, front_length, ap length front_trim, length-append (take n bytes) (trim_end (drop n bytes)))

  -- what stands behind the front, trimmed, is the part up to the end of the ink
  behind_trim : trim_end (drop n bytes) ≡ slice n (ink_end bytes) bytes
  behind_trim = sym (ap (drop n) (sym (trim_take bytes) ∙ front_trim) ∙ drop_at (take n bytes) (trim_end (drop n bytes)) n front_length)

-- ---- the three ways that a line is set

-- a line without ink is set as no bytes
set_blank : (margins : Margins) (line : Line) → all_blank line.bytes ≡ true → set_line margins line ≡ []
unfolding set_line standalone
set_blank margins line blank =
    let indent = spaces (indent_of line.indent) in
    rw blank (trim_blank (indent ++ line.bytes) (blank_append indent line.bytes ∙ rw (spaces_blank (indent_of line.indent), blank)))

-- a line with ink that is not standalone: the indent, and the line up to the end of its ink
set_inked : (margins : Margins) (line : Line) → all_blank line.bytes ≡ false → standalone margins line.bytes ≡ false
    → set_line margins line ≡ spaces (indent_of line.indent) ++ slice 0 (ink_end line.bytes) line.bytes
unfolding set_line
set_inked margins line inked near =
    rw near (trim_append_ink (spaces (indent_of line.indent)) line.bytes inked ∙ ap (λ (bytes : List ℕ). spaces (indent_of line.indent) ++ bytes) (trim_take line.bytes))

-- a standalone line: the indent and L spaces, and what stands behind both margins up to the end of its ink
set_standalone : (margins : Margins) (line : Line) → all_blank line.bytes ≡ false → standalone margins line.bytes ≡ true
    → set_line margins line ≡ spaces (indent_of line.indent + margins.label) ++ slice (margins.label + margins.code) (ink_end line.bytes) line.bytes
unfolding set_line
set_standalone margins line inked alone =
    let both = margins.label + margins.code in
    let bytes = line.bytes in
    let indent = indent_of line.indent in
    let front : leb both (leading_blanks bytes) ≡ true = sym (standalone_ink margins bytes inked) ∙ alone in
    let lead : spaces indent ++ spaces margins.label ≡ spaces (indent + margins.label) = replicate-append-replicate {A = ℕ} indent margins.label 32 in
    rw (alone, ← append_assoc (spaces indent) (spaces margins.label) (drop both bytes), lead)
    (trim_append_ink (spaces (indent + margins.label)) (drop both bytes) (behind_ink both bytes inked front)
    ∙ ap (λ (rest : List ℕ). spaces (indent + margins.label) ++ rest) (behind_trim both bytes inked front))

-- ---- the cut

-- what came before a line, of the text so far
abbrev pub before_of : Past → Before
before_of past = record { blank = past.blank; standalone = past.standalone }

-- a kept line is set as its cut says, and the cut says what then came before the next
pub record Kept (margins : Margins) (past : Past) (line : Line) (cut : Cut) : Type 0 where
  pub kept : keeps (before_of past) line.bytes ≡ true
  pub set : set_line margins line ≡ spaces cut.lead ++ slice cut.low cut.high line.bytes
  pub after : after margins (before_of past) line.bytes ≡ before_of (grown_by past cut)
  pub fits : CutFits cut (ink_end line.bytes)

-- behind any other line all is as before
pub record Dropped (margins : Margins) (past : Past) (line : Line) : Type 0 where
  pub dropped : keeps (before_of past) line.bytes ≡ false
  pub after : after margins (before_of past) line.bytes ≡ before_of past

-- what a cut says
abbrev pub CutSays : Margins → Past → Line → Option Cut → Type 0
CutSays margins past line (Some cut) = Kept margins past line cut
CutSays margins past line None = Dropped margins past line

module _ (margins : Margins) (narrow : Narrow margins) (past : Past) (line : Line) (measure : Measure) (indent : ℕ)
    (inked-at : Inked measure line.bytes) (same : indent ≡ indent_of line.indent) (low : indent ≤ 4096) where
  -- of a line without ink
  says_blank : all_blank line.bytes ≡ true
      → CutSays margins past line (cond (past.blank || past.standalone) None (Some (record { standalone = false; lead = 0; low = 0; high = 0 })))
  unfolding keeps after standalone
  says_blank blank =
      by_test (past.blank || past.standalone)
      (λ e. rw e (record { dropped = rw (blank, e); after = rw (blank, e) }))
      (λ e. rw e (record {
        kept = rw (blank, e);
        set = set_blank margins line blank;
        after = rw (blank, e);
        fits = record { part = omega arith; within = omega arith; small = omega arith };
      }))

  -- of a standalone line
  says_standalone : all_blank line.bytes ≡ false → standalone margins line.bytes ≡ true
      → Kept margins past line (record { standalone = true; lead = indent + margins.label; low = margins.label + margins.code; high = measure.ink_end })
  unfolding keeps after
  says_standalone inked alone =
      let front : leb (margins.label + margins.code) (leading_blanks line.bytes) ≡ true = sym (standalone_ink margins line.bytes inked) ∙ alone in
      let some = ink_end_some line.bytes inked in
      let end = inked-at.end in
      record {
        kept = rw inked;
        set = rw (end, same) (set_standalone margins line inked alone);
        after = rw (inked, alone, ne_eqb measure.ink_end 0 (λ none. omega arith));
        fits = record {
          part = omega (arith, front_end_lem (margins.label + margins.code) line.bytes inked front);
          within = omega arith;
          small = omega (arith, narrow.label);
        };
      }

  -- of any other line with ink
  says_inked : all_blank line.bytes ≡ false → standalone margins line.bytes ≡ false
      → Kept margins past line (record { standalone = false; lead = indent; low = 0; high = measure.ink_end })
  unfolding keeps after
  says_inked inked near =
      let some = ink_end_some line.bytes inked in
      let end = inked-at.end in
      record {
        kept = rw inked;
        set = rw (end, same) (set_inked margins line inked near);
        after = rw (inked, near, ne_eqb measure.ink_end 0 (λ none. omega arith));
        fits = record { part = omega arith; within = omega arith; small = omega arith };
      }

  -- the cut of a measured line says what becomes of the line
  pub cut_says : CutSays margins past line (cut_of margins past measure indent)
  cut_says =
      let P = CutSays margins past line in
      let bytes = line.bytes in
      let both = margins.label + margins.code in
      cond_both P (eqb measure.ink_end 0) _ _
      (λ none. says_blank (end_blank bytes (sym inked-at.end ∙ eqb-true measure.ink_end 0 none)))
      (λ some.
      let inked = end_ink bytes (λ none. eqb-false measure.ink_end 0 some (inked-at.end ∙ none)) in
      let alone : standalone margins bytes ≡ leb both measure.leading = rw (inked-at.leading inked) (standalone_ink margins bytes inked) in
      cond_both P (leb both measure.leading) _ _ (λ far. says_standalone inked (alone ∙ far)) (λ near. says_inked inked (alone ∙ near)))
