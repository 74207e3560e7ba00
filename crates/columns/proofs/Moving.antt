-- A label moves down just when it is alone on its line and shorter than the label margin: a line has 1 to L bytes, so that a lone newline is ignored, just then.
--   one_label : let n = length (line_of margins ps).bytes in (ltb 0 n && leb n margins.label) ≡ one_label_alone margins ps
--   ignored_exactly : ignored margins (length (line_of margins ps).bytes) piece ≡ (lone_newline piece && one_label_alone margins ps)
--   newlines_vanish, where one_label_alone margins (label ∷ ns) ≡ true : kept_lines margins before fresh ((label ∷ ns) ++ rest) ≡ kept_lines margins before fresh (label ∷ rest)
use Rattle.std.specs.Prelude.{Some}
use mathlib.Core.Path.{◌≡◌, refl, sym, ap, ◌∙◌}
use mathlib.Core.List.{List, [], ◌∷◌, ◌++◌, append-nil}
use mathlib.Core.Bool.{Bool, true, false, not, ◌&&◌, and-true, and-false, and_assoc}
use Prim.Native.Nat.{ℕ, ◌+◌, ◌-◌, ◌≤◌, ◌<◌}
use native.Mathlib.Omega.{arith}
use lib.ListN.{length, length-append, length-replicate}
use lib.Dec.{ltb, leb}
use borrow.Author.Tests.{not-true, lt-ltb, le-ltb, le-leb, lt-leb, leb-true, leb-false}
use Rattle.text.specs.Ink.{spaces}
use Rattle.text.proofs.Choices.{by_test, true_false, and_true_left, and_true_right}
use Rattle.options.specs.declared.Alignment.{Alignment}
use Rattle.options.specs.declared.Alignment.TheVariants.{Left, Right}
use Rattle.chunks.specs.declared.stored.ChunkType.{ChunkType}
use Rattle.chunks.specs.declared.stored.ChunkType.TheVariants.{Code, Label, Comment}
use Rattle.text.specs.Lines.{is_newline}
use Rattle.columns.specs.Pieces.{Piece}
use Rattle.columns.specs.Layout.{aligned, labelled, commented, ignored_in, ignored, laid, added, Line, fresh, indent_with, add, is_last, ends, Before, kept_lines}
use Rattle.columns.specs.Moving.{line_on, line_of, open_on, still_open, is_label, is_code, lone_newline, all_newlines, one_label_alone}
use Rattle.columns.specs.declared.Margins.{Margins}
use Rattle.columns.specs.declared.Follows.{Follows}
use Rattle.columns.specs.declared.Follows.TheVariants.{Nothing, Newline, Other}
use Rattle.columns.proofs.Texts.{texts_of, Each, added_between}

-- each piece has a text
abbrev pub AllSome : List Piece → Type 0
AllSome ps = Each (λ (t : List ℕ). 1 ≤ length t) (texts_of ps)

module _ (margins : Margins) where
  -- a line of n bytes has some, and no more than the label margin
  abbrev is_short : ℕ → Bool
  is_short n = ltb 0 n && leb n margins.label

  -- a piece is ignored where it is a lone newline on such a line
  ignored_is : (n : ℕ) (piece : Piece) → ignored margins n piece ≡ (lone_newline piece && is_short n)
  unfolding ignored
  ignored_is n piece = by_type piece.ty
    where
      by_type : (ty : ChunkType) → ignored_in ty margins n piece.text ≡ ((is_code ty && is_newline piece.text) && is_short n)
      by_type Code = refl
      by_type Label = refl
      by_type Comment = refl

  -- ---- a line longer than the label margin

  -- is not short
  long_line : (n : ℕ) → margins.label < n → is_short n ≡ false
  long_line n long = rw (lt-leb n margins.label long) (and-false (ltb 0 n))

  -- stays longer, whatever comes
  long_stays : (line : Line) (ps : List Piece) → margins.label < length line.bytes → is_short (length (line_on margins line ps).bytes) ≡ false
  unfolding line_on add
  long_stays line [] long = long_line (length line.bytes) long
  long_stays line (piece ∷ ps) long =
      let grown = length-append line.bytes (added margins (length line.bytes) piece) in
      long_stays (add margins line piece) ps (omega arith)

  -- ---- a line as long as the label margin

  full_short : 1 ≤ margins.label → is_short margins.label ≡ true
  full_short wide = rw (lt-ltb 0 margins.label wide, le-leb margins.label margins.label (omega arith))

  -- a piece that is not ignored makes it longer
  added_some : (n : ℕ) (piece : Piece) → ignored margins n piece ≡ false → 1 ≤ length piece.text → 1 ≤ length (added margins n piece)
  added_some n piece e some =
      added_between (λ (bytes : List ℕ). 1 ≤ length bytes) margins n piece (λ i. true_false (sym i ∙ e)) (λ _ before behind _. simp length-append (omega arith))

  -- one that is ignored adds nothing
  ignored_nothing : (n : ℕ) (piece : Piece) → ignored margins n piece ≡ true → added margins n piece ≡ []
  unfolding added
  ignored_nothing n piece e = rw e

  -- so it stays as it is while only lone newlines come
  full_line : (line : Line) (ps : List Piece) → AllSome ps → 1 ≤ margins.label → length line.bytes ≡ margins.label
      → is_short (length (line_on margins line ps).bytes) ≡ all_newlines ps
  unfolding line_on add all_newlines
  full_line line [] some wide full = rw (full, full_short wide)
  full_line line (piece ∷ ps) (some, rest) wide full =
      let n = length line.bytes in
      let grown = length-append line.bytes (added margins n piece) in
      let same : ignored margins n piece ≡ lone_newline piece = ignored_is n piece ∙ rw (full, full_short wide) (and-true (lone_newline piece)) in
      by_test (lone_newline piece)
      (λ q. rw q (full_line (add margins line piece) ps rest wide (omega (arith, ap length (ignored_nothing n piece (same ∙ q))))))
      (λ q. rw q (long_stays (add margins line piece) ps (omega (arith, added_some n piece (same ∙ q) some))))

  -- ---- the first piece of a line

  aligned_length : (alignment : Alignment) (bytes : List ℕ) → length (aligned alignment margins.label bytes) ≡ length bytes + (margins.label - length bytes)
  aligned_length Left bytes = simp (length-append, length-replicate)
  aligned_length Right bytes = simp (length-append, length-replicate) (omega arith)

  -- a label fills the margin, or passes it
  label_length : (text : List ℕ) → length (labelled margins 0 text) ≡ length text + 1 + (margins.label - (length text + 1))
  label_length text = rw (le-ltb margins.label 0 (omega arith)) (omega (arith, aligned_length margins.alignment (text ++ spaces 1), length-append text (spaces 1)))

  -- a comment passes it
  comment_long : (follows : Follows) (text : List ℕ) → 1 ≤ length text → margins.label < length (commented margins 0 follows text)
  comment_long Nothing text some = simp (length-append, length-replicate) (omega arith)
  comment_long Newline text some = simp (length-append, length-replicate) (omega arith)
  comment_long Other text some = simp (length-append, length-replicate) (omega arith)

  -- the line that a first piece and those behind it make
  first_piece : (ty : ChunkType) (piece : Piece) (line : Line) (ps : List Piece) → 1 ≤ length piece.text → AllSome ps → line.bytes ≡ laid ty margins 0 piece
      → is_short (length (line_on margins line ps).bytes) ≡ (is_label ty && (leb (length piece.text + 1) margins.label && all_newlines ps))
  first_piece Code piece line ps some rest e = long_stays line ps (rw e (simp (length-append, length-replicate) (omega arith)))
  first_piece Comment piece line ps some rest e = long_stays line ps (rw e (comment_long piece.follows piece.text some))
  first_piece Label piece line ps some rest e =
      let size : length line.bytes ≡ length piece.text + 1 + (margins.label - (length piece.text + 1)) = ap length e ∙ label_length piece.text in
      by_test (leb (length piece.text + 1) margins.label)
      (λ q.
      let fits : length piece.text + 1 ≤ margins.label = leb-true _ _ q in
      rw q (full_line line ps rest (omega arith) (omega arith)))
      (λ q.
      let long : margins.label < length piece.text + 1 = leb-false _ _ q in
      rw q (long_stays line ps (omega arith)))

  -- ---- the laws

  -- a line has 1 to L bytes just where one label is alone on it
  pub one_label : (ps : List Piece) → AllSome ps
      → let n = length (line_of margins ps).bytes in (ltb 0 n && leb n margins.label) ≡ one_label_alone margins ps
  unfolding line_on one_label_alone add added
  one_label [] some = refl
  one_label (piece ∷ ps) (some, rest) =
      first_piece piece.ty piece (add margins fresh piece) ps some rest (rw (ignored_is 0 piece, and-false (lone_newline piece)))

  -- so a piece is ignored just where it is a lone newline behind one label alone
  pub ignored_exactly : (ps : List Piece) (piece : Piece) → AllSome ps
      → ignored margins (length (line_of margins ps).bytes) piece ≡ (lone_newline piece && one_label_alone margins ps)
  ignored_exactly ps piece some = ignored_is (length (line_of margins ps).bytes) piece ∙ rw (one_label ps some)

  -- the line that pieces make is the setter's behind them
  line_goes_on : (before : Before) (line : Line) (ps rest : List Piece) → open_on margins line ps ≡ true
      → kept_lines margins before line (ps ++ rest) ≡ kept_lines margins before (line_on margins line ps) rest
  unfolding kept_lines line_on open_on
  line_goes_on before line [] rest e = refl
  line_goes_on before line (piece ∷ ps) rest e =
      let n = length line.bytes in
      let next = add margins line piece in
      rw (not-true (ends margins n piece) (and_true_left (not (ends margins n piece)) (open_on margins next ps) e))
      (line_goes_on before next ps rest (and_true_right (not (ends margins n piece)) (open_on margins next ps) e))

  -- lone newlines change nothing of a short line that has its indent
  newlines_nothing : (line : Line) (indent : ℕ) (ns : List Piece) → line.indent ≡ Some indent → is_short (length line.bytes) ≡ true → all_newlines ns ≡ true
      → line_on margins line ns ≡ line
  unfolding line_on add all_newlines
  newlines_nothing line indent [] set short all = refl
  newlines_nothing line indent (piece ∷ ns) set short all =
      let n = length line.bytes in
      let newline : lone_newline piece ≡ true = and_true_left (lone_newline piece) (all_newlines ns) all in
      let bytes : line.bytes ++ added margins n piece ≡ line.bytes = rw (ignored_nothing n piece (ignored_is n piece ∙ rw (newline, short))) (append-nil line.bytes) in
      let indented : indent_with line.indent piece ≡ line.indent = rw set in
      let same : add margins line piece ≡ line = rw (bytes, indented) in
      ap (λ (next : Line). line_on margins next ns) same ∙ newlines_nothing line indent ns set short (and_true_right (lone_newline piece) (all_newlines ns) all)

  -- newlines behind one label alone may as well not be there
  pub newlines_vanish : (before : Before) (label : Piece) (ns rest : List Piece) → 1 ≤ length label.text → label.starts ≡ true
      → one_label_alone margins (label ∷ ns) ≡ true → still_open margins (label ∷ ns) ≡ true
      → kept_lines margins before fresh ((label ∷ ns) ++ rest) ≡ kept_lines margins before fresh (label ∷ rest)
  unfolding line_on open_on one_label_alone all_newlines add
  newlines_vanish before label ns rest some starts alone going =
      let next = add margins fresh label in
      let narrow = leb (length label.text + 1) margins.label in
      let on : not (ends margins 0 label) ≡ true = and_true_left (not (ends margins 0 label)) (open_on margins next ns) going in
      let labels : is_label label.ty ≡ true = and_true_left (is_label label.ty) (narrow && all_newlines ns) alone in
      let fits : (narrow && all_newlines ns) ≡ true = and_true_right (is_label label.ty) (narrow && all_newlines ns) alone in
      let short : is_short (length next.bytes) ≡ true = one_label (label ∷ []) (some, tt) ∙ rw (labels, and_true_left narrow (all_newlines ns) fits) in
      let set : next.indent ≡ Some label.indent = rw starts in
      line_goes_on before fresh (label ∷ ns) rest going
      ∙ ap (λ (line : Line). kept_lines margins before line rest) (newlines_nothing next label.indent ns set short (and_true_right narrow (all_newlines ns) fits))
      ∙ sym (line_goes_on before fresh (label ∷ []) rest (rw on))

  -- ---- and what follows from them

  newlines_append : (ps rest : List Piece) → all_newlines (ps ++ rest) ≡ (all_newlines ps && all_newlines rest)
  unfolding all_newlines
  newlines_append [] rest = refl
  newlines_append (piece ∷ ps) rest = rw (newlines_append ps rest) (sym (and_assoc (lone_newline piece) (all_newlines ps) (all_newlines rest)))

  -- what comes behind one label alone leaves it alone just where it is lone newlines
  alone_append : (ps rest : List Piece) → one_label_alone margins ps ≡ true → one_label_alone margins (ps ++ rest) ≡ all_newlines rest
  unfolding one_label_alone
  alone_append [] rest e = true_false (sym e)
  alone_append (label ∷ ps) rest e =
      let narrow = leb (length label.text + 1) margins.label in
      let fits : (narrow && all_newlines ps) ≡ true = and_true_right (is_label label.ty) (narrow && all_newlines ps) e in
      rw (newlines_append ps rest, and_true_left (is_label label.ty) (narrow && all_newlines ps) e, and_true_left narrow (all_newlines ps) fits, and_true_right narrow (all_newlines ps) fits)

  -- every further newline is ignored too
  pub newline_again : (ps : List Piece) (newline : Piece) → one_label_alone margins ps ≡ true → lone_newline newline ≡ true → one_label_alone margins (ps ++ (newline ∷ [])) ≡ true
  unfolding all_newlines
  newline_again ps newline alone e = alone_append ps (newline ∷ []) alone ∙ rw e

  -- a second label, a comment, or code that is not a lone newline, such as a space, ends this for the rest of the line
  pub other_ends : (ps : List Piece) (other : Piece) (rest : List Piece) → one_label_alone margins ps ≡ true → lone_newline other ≡ false → one_label_alone margins (ps ++ (other ∷ rest)) ≡ false
  unfolding all_newlines
  other_ends ps other rest alone e = alone_append ps (other ∷ rest) alone ∙ rw e

  -- a label of L bytes or more does not move
  pub long_label : (label : Piece) (rest : List Piece) → margins.label ≤ length label.text → one_label_alone margins (label ∷ rest) ≡ false
  unfolding one_label_alone
  long_label label rest long = rw (lt-leb (length label.text + 1) margins.label (omega arith)) (and-false (is_label label.ty))

  -- a piece of the last chunk ends the line, ignored or not
  pub last_ends : (n : ℕ) (piece : Piece) → is_last piece.follows ≡ true → ends margins n piece ≡ true
  unfolding ends
  last_ends n piece e = rw e
