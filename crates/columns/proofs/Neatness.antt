-- Whatever the chunks and the margins, no line of the text ends in a blank and no two empty lines touch.
--   text_blanks : (margins : Margins) (chunks : List Chunk) → no_line_ends_in_blank (text_of margins chunks) ≡ true
--   text_empties : (margins : Margins) (chunks : List Chunk) → no_empty_lines_touch (text_of margins chunks) ≡ true
use mathlib.Core.Path.{◌≡◌, refl, sym, ◌∙◌}
use mathlib.Core.List.{List, [], ◌∷◌, ◌++◌, map}
use mathlib.Core.Bool.{true, false, not, ◌&&◌, ◌||◌}
use Prim.Native.Nat.{ℕ, ◌+◌}
use lib.ListN.{length, take, drop, take-append-drop}
use lib.Dec.{eqb}
use borrow.Author.Tests.{eqb-true}
use Rattle.text.specs.Ink.{ink, all_blank, trim_end, spaces}
use Rattle.text.specs.Lines.{has_newline, plain, is_empty, none_ends_in_blank, none_empty_touch, no_line_ends_in_blank, no_empty_lines_touch}
use Rattle.text.proofs.Choices.{cond_both, by_test, true_false, and_true_right}
use Rattle.text.proofs.Ink.{ink_blank, blank_no_ink, spaces_blank, newline_blank, trim_blank, trim_some, trim_ink, trim_append_ink, trim_append_blank, trim_ends}
use Rattle.text.proofs.Lines.{newline_append, newline_spaces, lines_joined}
use Rattle.chunks.specs.Stored.{Chunk}
use Rattle.columns.specs.Pieces.{Piece, pieces}
use Rattle.columns.specs.Layout.{added, Line, fresh, indent_of, add, is_last, ends, standalone, placed, set_line, Before, at_start, keeps, kept_lines}
use Rattle.columns.specs.Setting.{lines_kept, text_of}
use Rattle.columns.specs.declared.Margins.{Margins}
use Rattle.columns.proofs.Texts.{texts_of, Each, each_piece, added_between, kept_before, kept_cases}
use Rattle.columns.proofs.Ink.{set_ink}

-- ---- tidy bytes: no newline is left once trailing blanks are cut

abbrev Tidy : List ℕ → Type 0
Tidy bytes = has_newline (trim_end bytes) ≡ false

-- tidy bytes are tidy behind bytes without newlines
tidy_append : (xs ys : List ℕ) → has_newline xs ≡ false → Tidy ys → Tidy (xs ++ ys)
unfolding has_newline trim_end
tidy_append [] ys none tidy = tidy
tidy_append (x ∷ xs) ys none tidy =
    cond_both (λ (bytes : List ℕ). has_newline bytes ≡ false) (all_blank (x ∷ (xs ++ ys))) [] (x ∷ trim_end (xs ++ ys))
    (λ _. refl)
    (λ _. by_test (eqb x 10) (λ q. true_false (rw q at none)) (λ q. rw q (tidy_append xs ys (rw q at none) tidy)))

-- and tidy without what stands before them
tidy_rest : (xs ys : List ℕ) → Tidy (xs ++ ys) → Tidy ys
unfolding has_newline
tidy_rest xs ys tidy =
    by_test (all_blank ys)
    (λ q. rw (trim_blank ys q))
    (λ q.
    let split : (has_newline xs || has_newline (trim_end ys)) ≡ false = sym (newline_append xs (trim_end ys)) ∙ rw (trim_append_ink xs ys q) at tidy in
    by_test (has_newline xs) (λ r. true_false (rw r at split)) (λ r. rw r at split))

-- a part of a text has a newline at its end, where it is cut, or none
tidy_pieces : (chunks : List Chunk) → Each Tidy (texts_of (pieces chunks))
unfolding has_newline
tidy_pieces =
    each_piece Tidy
    (λ b. by_test (eqb b 10) (λ q. rw (eqb-true b 10 q, trim_blank (10 ∷ []) newline_blank)) (λ q. tidy_append (b ∷ []) [] (rw q) (rw (trim_blank [] (spaces_blank 0)))))
    (λ b t other tidy. tidy_append (b ∷ []) t (rw other) tidy)

module _ (margins : Margins) where
  -- what a piece adds is tidy
  added_tidy : (n : ℕ) (piece : Piece) → Tidy piece.text → Tidy (added margins n piece)
  unfolding has_newline
  added_tidy n piece tidy =
      added_between Tidy margins n piece
      (λ _. rw (trim_blank [] (spaces_blank 0)))
      (λ _ before behind _. tidy_append (spaces before) (piece.text ++ spaces behind) (newline_spaces before) (rw (trim_append_blank piece.text (spaces behind) (spaces_blank behind)) tidy))

  -- where the line goes on it has no newline
  added_plain : (n : ℕ) (piece : Piece) → ends margins n piece ≡ false → has_newline (added margins n piece) ≡ false
  unfolding has_newline ends
  added_plain n piece e =
      let text = piece.text in
      added_between (λ (bytes : List ℕ). has_newline bytes ≡ false) margins n piece
      (λ _. refl)
      (λ i before behind _.
      let none : has_newline text ≡ false = by_test (has_newline text) (λ q. by_test (is_last piece.follows) (λ r. true_false (rw r at e)) (λ r. true_false (rw (r, q, i) at e))) (λ q. q) in
      rw (newline_append (spaces before) (text ++ spaces behind), newline_spaces before, newline_append text (spaces behind), none) (newline_spaces behind))

  -- a line set has no newline
  set_plain : (line : Line) → Tidy line.bytes → has_newline (set_line margins line) ≡ false
  unfolding set_line
  set_plain line tidy =
      let both = margins.label + margins.code in
      let front = take both line.bytes in
      let rest = drop both line.bytes in
      tidy_append (spaces (indent_of line.indent)) (placed margins line.bytes) (newline_spaces (indent_of line.indent))
      (cond_both Tidy (standalone margins line.bytes) (spaces margins.label ++ rest) line.bytes
      (λ _. tidy_append (spaces margins.label) rest (newline_spaces margins.label) (tidy_rest front rest (rw (take-append-drop both line.bytes) tidy)))
      (λ _. tidy))

  -- so has none that is kept
  kept_plain : (before : Before) (line : Line) (ps : List Piece) → has_newline line.bytes ≡ false → Each Tidy (texts_of ps)
      → plain (map (set_line margins) (kept_lines margins before line ps)) ≡ true
  unfolding plain kept_lines has_newline add
  kept_plain before line [] none tidy = refl
  kept_plain before line (piece ∷ ps) none (tidy, rest) =
      let n = length line.bytes in
      let together = tidy_append line.bytes (added margins n piece) none (added_tidy n piece tidy) in
      kept_cases (λ (lines : List Line). plain (map (set_line margins) lines) ≡ true) margins before line piece ps
      (λ e k. rw (set_plain (add margins line piece) together) (kept_plain (kept_before margins (add margins line piece).bytes) fresh ps refl rest))
      (λ e k. kept_plain before fresh ps refl rest)
      (λ e. kept_plain before (add margins line piece) ps (newline_append line.bytes (added margins n piece) ∙ rw none (added_plain n piece e)) rest)

  -- ---- no line set ends in a blank

  set_ends : (lines : List Line) → none_ends_in_blank (map (set_line margins) lines) ≡ true
  unfolding none_ends_in_blank set_line
  set_ends [] = refl
  set_ends (line ∷ lines) = rw (trim_ends (spaces (indent_of line.indent) ++ placed margins line.bytes)) (set_ends lines)

-- ---- no two empty lines kept touch

-- lists with the same ink are all blank alike
blank_by_ink : (xs ys : List ℕ) → ink xs ≡ ink ys → all_blank xs ≡ all_blank ys
blank_by_ink xs ys e =
    by_test (all_blank ys)
    (λ q. blank_no_ink xs (e ∙ ink_blank ys q) ∙ sym q)
    (λ q. by_test (all_blank xs) (λ r. true_false (sym (blank_no_ink ys (sym e ∙ ink_blank xs r)) ∙ q)) (λ r. r ∙ sym q))

-- of a list nothing is left just where it is all blank
trim_empty : (xs : List ℕ) → is_empty (trim_end xs) ≡ all_blank xs
trim_empty xs = by_test (all_blank xs) (λ q. rw (trim_blank xs q, q)) (λ q. trim_some xs q ∙ sym q)

module _ (margins : Margins) where
  -- a line set is empty just where its bytes are blank
  set_empty : (line : Line) → is_empty (set_line margins line) ≡ all_blank line.bytes
  unfolding set_line
  set_empty line =
      let bytes = spaces (indent_of line.indent) ++ placed margins line.bytes in
      trim_empty bytes ∙ blank_by_ink bytes line.bytes (sym (trim_ink bytes) ∙ set_ink margins line)

  -- a blank line is not kept behind a blank one
  kept_other : (before : Before) (bytes : List ℕ) → keeps before bytes ≡ true → (before.blank && all_blank bytes) ≡ false
  unfolding keeps
  kept_other before bytes k =
      by_test (all_blank bytes)
      (λ q. by_test before.blank (λ r. true_false (sym (rw (q, r) at k))) (λ r. rw r))
      (λ q. by_test before.blank (λ r. rw (r, q)) (λ r. rw r))

  -- the lines kept, behind one that is empty where the last line kept was blank
  kept_apart : (before : Before) (line : Line) (ps : List Piece) (front : List ℕ) → is_empty front ≡ before.blank
      → none_empty_touch (front ∷ map (set_line margins) (kept_lines margins before line ps)) ≡ true
  unfolding none_empty_touch kept_lines
  kept_apart before line [] front e = refl
  kept_apart before line (piece ∷ ps) front e =
      let next = add margins line piece in
      kept_cases (λ (lines : List Line). none_empty_touch (front ∷ map (set_line margins) lines) ≡ true) margins before line piece ps
      (λ _ k. rw (e, set_empty next, kept_other before next.bytes k) (kept_apart (kept_before margins next.bytes) fresh ps (set_line margins next) (set_empty next)))
      (λ _ _. kept_apart before fresh ps front e)
      (λ _. kept_apart before next ps front e)

-- without the first line
apart_rest : (front : List ℕ) (lines : List (List ℕ)) → none_empty_touch (front ∷ lines) ≡ true → none_empty_touch lines ≡ true
unfolding none_empty_touch
apart_rest front [] e = refl
apart_rest front (line ∷ lines) e = and_true_right (not (is_empty front && is_empty line)) (none_empty_touch (line ∷ lines)) e

-- ---- the laws

text_plain : (margins : Margins) (chunks : List Chunk) → plain (map (set_line margins) (lines_kept margins chunks)) ≡ true
unfolding lines_kept has_newline
text_plain margins chunks = kept_plain margins at_start fresh (pieces chunks) refl (tidy_pieces chunks)

pub text_blanks : (margins : Margins) (chunks : List Chunk) → no_line_ends_in_blank (text_of margins chunks) ≡ true
unfolding text_of none_ends_in_blank
text_blanks margins chunks =
    let lines = lines_kept margins chunks in
    lines_joined (λ (set : List (List ℕ)). none_ends_in_blank set ≡ true) (map (set_line margins) lines) (text_plain margins chunks) refl (set_ends margins lines)

pub text_empties : (margins : Margins) (chunks : List Chunk) → no_empty_lines_touch (text_of margins chunks) ≡ true
unfolding text_of lines_kept none_empty_touch
text_empties margins chunks =
    let lines = map (set_line margins) (lines_kept margins chunks) in
    lines_joined (λ (set : List (List ℕ)). none_empty_touch set ≡ true) lines (text_plain margins chunks) refl
    (apart_rest (0 ∷ []) lines (kept_apart margins at_start fresh (pieces chunks) (0 ∷ []) refl))
