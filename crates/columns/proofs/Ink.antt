-- No ink is lost, added or moved: the ink of a text is the ink of its chunks' texts, in order.
--   text_ink : (margins : Margins) (chunks : List Chunk) → AllWellFormed chunks → ink (text_of margins chunks) ≡ inks (texts chunks)
use mathlib.Core.Path.{◌≡◌, refl, sym, ap, ◌∙◌}
use mathlib.Core.List.{List, [], ◌∷◌, ◌++◌, map, append_assoc}
use mathlib.Core.Bool.{Bool, true, false, not}
use Prim.Native.Nat.{ℕ, ◌+◌, ◌≤◌}
use native.Mathlib.Omega.{arith}
use lib.ListN.{length, take, drop, take-append-drop}
use lib.Dec.{eqb, ltb}
use Rattle.text.specs.Ink.{ink, inks, all_blank, spaces}
use Rattle.text.specs.Lines.{onto, is_newline}
use Rattle.text.proofs.Choices.{cond_both, by_test, true_false, and_true_left, and_true_right}
use Rattle.text.proofs.Ink.{ink_append, inks_append, ink_flat, ink_before, ink_behind, ink_blank, trim_ink}
use Rattle.text.proofs.Lines.{ink_joined, ink_newline}
use Rattle.chunks.specs.Stored.{Chunk, AllWellFormed}
use Rattle.chunks.specs.declared.stored.ChunkType.{ChunkType}
use Rattle.chunks.specs.declared.stored.ChunkType.TheVariants.{Code, Label, Comment}
use Rattle.columns.specs.Pieces.{Piece, cut, pieces_of, pieces, following}
use Rattle.columns.specs.Layout.{ignored_in, ignored, added, Line, fresh, indent_of, add, is_last, ends, standalone, placed, set_line, Before, at_start, keeps, kept_lines}
use Rattle.columns.specs.Setting.{lines_kept, text_of}
use Rattle.columns.specs.Promise.{texts}
use Rattle.columns.specs.declared.Margins.{Margins}
use Rattle.columns.specs.declared.Follows.{Follows}
use Rattle.columns.proofs.Texts.{texts_of, flat_cut, texts_pieces, added_between, kept_before, kept_cases}

-- ---- a piece

-- only a newline is ignored
ignored_newline : (ty : ChunkType) (margins : Margins) (n : ℕ) (text : List ℕ) → ignored_in ty margins n text ≡ true → is_newline text ≡ true
ignored_newline Code margins n text e = and_true_left (is_newline text) _ e
ignored_newline Label margins n text e = true_false (sym e)
ignored_newline Comment margins n text e = true_false (sym e)

-- a piece adds its ink
added_ink : (margins : Margins) (n : ℕ) (piece : Piece) → ink (added margins n piece) ≡ ink piece.text
unfolding ink ignored
added_ink margins n piece =
    added_between (λ (bytes : List ℕ). ink bytes ≡ ink piece.text) margins n piece
    (λ e. sym (ink_newline piece.text (ignored_newline piece.ty margins n piece.text e)))
    (λ _ before behind _. ink_before before (piece.text ++ spaces behind) ∙ ink_behind piece.text behind)

add_ink : (margins : Margins) (line : Line) (piece : Piece) → ink (add margins line piece).bytes ≡ ink line.bytes ++ ink piece.text
unfolding add
add_ink margins line piece = ink_append line.bytes (added margins (length line.bytes) piece) ∙ rw (added_ink margins (length line.bytes) piece)

-- ---- a line that has ended

-- only blanks are cut from a standalone line
placed_ink : (margins : Margins) (bytes : List ℕ) → ink (placed margins bytes) ≡ ink bytes
unfolding standalone
placed_ink margins bytes =
    let both = margins.label + margins.code in
    let front = take both bytes in
    let rest = drop both bytes in
    cond_both (λ (set : List ℕ). ink set ≡ ink bytes) (standalone margins bytes) (spaces margins.label ++ rest) bytes
    (λ e.
    let none : ink front ≡ [] = ink_blank front (and_true_right (ltb both (length bytes)) (all_blank front) (and_true_right (not (all_blank bytes)) _ e)) in
    ink_before margins.label rest ∙ sym (ap ink (sym (take-append-drop both bytes)) ∙ ink_append front rest ∙ rw none))
    (λ _. refl)

-- a line set has the ink of its bytes
pub set_ink : (margins : Margins) (line : Line) → ink (set_line margins line) ≡ ink line.bytes
unfolding set_line
set_ink margins line =
    trim_ink (spaces (indent_of line.indent) ++ placed margins line.bytes) ∙ ink_before (indent_of line.indent) (placed margins line.bytes)
    ∙ placed_ink margins line.bytes

-- a line that is dropped has none
dropped_ink : (before : Before) (bytes : List ℕ) → keeps before bytes ≡ false → ink bytes ≡ []
unfolding keeps
dropped_ink before bytes e = by_test (all_blank bytes) (ink_blank bytes) (λ q. true_false (rw q at e))

-- ---- the lines kept, of pieces of which the last is of the last chunk

-- whether the last piece is of the last chunk; the first argument is the answer where there is none
unfoldable closes : Bool → List Piece → Bool
closes none [] = none
closes none (piece ∷ ps) = closes (is_last piece.follows) ps

-- a line that goes on is not at a piece of the last chunk
open_follows : (margins : Margins) (n : ℕ) (piece : Piece) → ends margins n piece ≡ false → is_last piece.follows ≡ false
unfolding ends
open_follows margins n piece e = by_test (is_last piece.follows) (λ q. true_false (rw q at e)) (λ q. q)

kept_ink : (margins : Margins) (before : Before) (line : Line) (none : Bool) (ps : List Piece) → closes none ps ≡ true → (none ≡ true → ink line.bytes ≡ [])
    → inks (map (set_line margins) (kept_lines margins before line ps)) ≡ ink line.bytes ++ inks (texts_of ps)
unfolding closes kept_lines inks ink
kept_ink margins before line none [] closed empty = rw (empty closed)
kept_ink margins before line none (piece ∷ ps) closed empty =
    let next = add margins line piece in
    let last = is_last piece.follows in
    kept_cases (λ (lines : List Line). inks (map (set_line margins) lines) ≡ ink next.bytes ++ inks (texts_of ps)) margins before line piece ps
    (λ e k. rw (set_ink margins next) (ap (λ (rest : List ℕ). ink next.bytes ++ rest) (kept_ink margins (kept_before margins next.bytes) fresh last ps closed (λ _. refl))))
    (λ e k. rw (dropped_ink before next.bytes k) (kept_ink margins before fresh last ps closed (λ _. refl)))
    (λ e. kept_ink margins before next last ps closed (λ q. true_false (sym q ∙ open_follows margins (length line.bytes) piece e)))
    ∙ ap (λ (front : List ℕ). front ++ inks (texts_of ps)) (add_ink margins line piece)
    ∙ append_assoc (ink line.bytes) (ink piece.text) (inks (texts_of ps))

-- ---- the pieces

-- the ink of pieces is the ink of their chunks
pieces_ink : (chunks : List Chunk) → inks (texts_of (pieces chunks)) ≡ inks (texts chunks)
unfolding pieces inks
pieces_ink [] = refl
pieces_ink (chunk ∷ chunks) =
    ap inks (texts_pieces chunk chunks) ∙ inks_append (cut chunk.text) (texts_of (pieces chunks))
    ∙ rw (← (ink_flat (cut chunk.text)), flat_cut chunk.text, pieces_ink chunks)

-- behind a piece of a chunk there are only pieces of the same
closes_more : (ty : ChunkType) (indent : ℕ) (starts : Bool) (follows : Follows) (ts : List (List ℕ)) (ps : List Piece)
    → closes (is_last follows) (pieces_of ty indent starts follows ts ++ ps) ≡ closes (is_last follows) ps
unfolding closes pieces_of
closes_more ty indent starts follows [] ps = refl
closes_more ty indent starts follows (t ∷ ts) ps = closes_more ty indent false follows ts ps

-- a chunk with a text has a piece
closes_chunk : (none : Bool) (ty : ChunkType) (indent : ℕ) (follows : Follows) (text : List ℕ) (ps : List Piece) → 1 ≤ length text
    → closes none (pieces_of ty indent true follows (cut text) ++ ps) ≡ closes (is_last follows) ps
unfolding closes pieces_of cut
closes_chunk none ty indent follows [] ps some = absurd (omega arith)
closes_chunk none ty indent follows (b ∷ bs) ps some =
    let P : List (List ℕ) → Type 0 = λ ts. closes none (pieces_of ty indent true follows ts ++ ps) ≡ closes (is_last follows) ps in
    cond_both P (eqb b 10) ((b ∷ []) ∷ cut bs) (onto b (cut bs)) (λ _. closes_more ty indent false follows (cut bs) ps) (λ _. onto_closes (cut bs))
  where
    onto_closes : (ts : List (List ℕ)) → closes none (pieces_of ty indent true follows (onto b ts) ++ ps) ≡ closes (is_last follows) ps
    onto_closes [] = refl
    onto_closes (t ∷ ts) = closes_more ty indent false follows ts ps

-- so the last piece of chunks that all have a text is of the last chunk
pieces_close : (chunks : List Chunk) → AllWellFormed chunks → closes (is_last (following chunks)) (pieces chunks) ≡ true
unfolding closes pieces
pieces_close [] good = refl
pieces_close (chunk ∷ chunks) (good, rest) =
    closes_chunk (is_last (following (chunk ∷ chunks))) chunk.ty chunk.indent (following chunks) chunk.text (pieces chunks) good.some ∙ pieces_close chunks rest

-- ---- the law

pub text_ink : (margins : Margins) (chunks : List Chunk) → AllWellFormed chunks → ink (text_of margins chunks) ≡ inks (texts chunks)
unfolding text_of lines_kept ink
text_ink margins chunks good =
    ink_joined (map (set_line margins) (lines_kept margins chunks))
    ∙ kept_ink margins at_start fresh (is_last (following chunks)) (pieces chunks) (pieces_close chunks good) (λ _. refl) ∙ pieces_ink chunks
