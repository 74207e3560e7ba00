-- What the laws of the text share: the pieces by their texts, what a piece adds to a line, and the lines kept case by case.
use mathlib.Core.Path.{◌≡◌, refl, ap, ◌∙◌}
use mathlib.Core.List.{List, [], ◌∷◌, ◌++◌, map, append_assoc, append-nil}
use mathlib.Core.Bool.{Bool, true, false}
use Prim.Native.Nat.{ℕ, suc, ◌+◌, ◌-◌, ◌≤◌}
use native.Mathlib.Omega.{arith}
use lib.ListN.{length}
use lib.Dec.{eqb, ltb}
use Rattle.text.specs.Ink.{flat, spaces, all_blank}
use Rattle.text.specs.Lines.{onto}
use Rattle.text.proofs.Choices.{cond_both, by_test}
use Rattle.options.specs.declared.Alignment.{Alignment}
use Rattle.options.specs.declared.Alignment.TheVariants.{Left, Right}
use Rattle.chunks.specs.Stored.{Chunk}
use Rattle.chunks.specs.declared.stored.ChunkType.{ChunkType}
use Rattle.chunks.specs.declared.stored.ChunkType.TheVariants.{Code, Label, Comment}
use Rattle.columns.specs.Pieces.{Piece, cut, pieces_of, pieces, following}
use Rattle.columns.specs.Layout.{aligned, commented, laid, ignored, added, Line, fresh, add, ends, standalone, Before, keeps, after, kept_lines}
use Rattle.columns.specs.declared.Margins.{Margins}
use Rattle.columns.specs.declared.Follows.{Follows}
use Rattle.columns.specs.declared.Follows.TheVariants.{Nothing, Newline, Other}

-- ---- pieces by their texts

-- the texts of pieces, in order
abbrev pub texts_of : List Piece → List (List ℕ)
texts_of pieces = map (λ (piece : Piece). piece.text) pieces

-- a byte in front of the first text is one in front of the texts end to end
flat_onto : (b : ℕ) (ts : List (List ℕ)) → flat (onto b ts) ≡ b ∷ flat ts
unfolding flat
flat_onto b [] = refl
flat_onto b (t ∷ ts) = refl

-- the parts of a text that is cut, end to end, are the text
pub flat_cut : (t : List ℕ) → flat (cut t) ≡ t
unfolding flat cut
flat_cut [] = refl
flat_cut (b ∷ bs) =
    let whole : b ∷ flat (cut bs) ≡ b ∷ bs = rw (flat_cut bs) in
    cond_both (λ (ts : List (List ℕ)). flat ts ≡ b ∷ bs) (eqb b 10) ((b ∷ []) ∷ cut bs) (onto b (cut bs)) (λ _. whole) (λ _. flat_onto b (cut bs) ∙ whole)

-- the texts of a chunk's pieces, and of those behind them
texts_of_lem : (ty : ChunkType) (indent : ℕ) (starts : Bool) (follows : Follows) (ts : List (List ℕ)) (ps : List Piece)
    → texts_of (pieces_of ty indent starts follows ts ++ ps) ≡ ts ++ texts_of ps
unfolding pieces_of
texts_of_lem ty indent starts follows [] ps = refl
texts_of_lem ty indent starts follows (t ∷ ts) ps = ap (λ (texts : List (List ℕ)). t ∷ texts) (texts_of_lem ty indent false follows ts ps)

-- the texts of pieces are the parts of the chunks' texts
pub texts_pieces : (chunk : Chunk) (chunks : List Chunk) → texts_of (pieces (chunk ∷ chunks)) ≡ cut chunk.text ++ texts_of (pieces chunks)
unfolding pieces
texts_pieces chunk chunks = texts_of_lem chunk.ty chunk.indent true (following chunks) (cut chunk.text) (pieces chunks)

-- each text has a property
abbrev pub Each : (List ℕ → Type 0) → List (List ℕ) → Type 0
Each P [] = Unit
Each P (t ∷ ts) = P t × Each P ts

each_append : (P : List ℕ → Type 0) (xs ys : List (List ℕ)) → Each P xs → Each P ys → Each P (xs ++ ys)
each_append P [] ys none some = some
each_append P (x ∷ xs) ys (first, rest) some = (first, each_append P xs ys rest some)

-- a part of a text is a byte, or a byte other than a newline in front of a part
module _ (P : List ℕ → Type 0) (one : (b : ℕ) → P (b ∷ [])) (more : (b : ℕ) (t : List ℕ) → eqb b 10 ≡ false → P t → P (b ∷ t)) where
  each_onto : (b : ℕ) (ts : List (List ℕ)) → eqb b 10 ≡ false → Each P ts → Each P (onto b ts)
  each_onto b [] other each = (one b, tt)
  each_onto b (t ∷ ts) other (first, rest) = (more b t other first, rest)

  each_cut : (t : List ℕ) → Each P (cut t)
  unfolding cut
  each_cut [] = tt
  each_cut (b ∷ bs) =
      cond_both (Each P) (eqb b 10) ((b ∷ []) ∷ cut bs) (onto b (cut bs)) (λ _. (one b, each_cut bs)) (λ other. each_onto b (cut bs) other (each_cut bs))

  -- so is the text of every piece
  pub each_piece : (chunks : List Chunk) → Each P (texts_of (pieces chunks))
  unfolding pieces
  each_piece [] = tt
  each_piece (chunk ∷ chunks) = rw (texts_pieces chunk chunks) (each_append P (cut chunk.text) (texts_of (pieces chunks)) (each_cut chunk.text) (each_piece chunks))

-- ---- what a piece adds

module _ (P : List ℕ → Type 0) (margins : Margins) (n : ℕ) (piece : Piece) where
  -- what holds of the text between spaces, no more of them than both margins and one
  abbrev Between : Type 0
  Between = (before behind : ℕ) → before + behind ≤ margins.label + margins.code + 1 → P (spaces before ++ (piece.text ++ spaces behind))

  aligned_between : (alignment : Alignment) → Between → P (aligned alignment margins.label (piece.text ++ spaces 1))
  aligned_between Left between = rw append_assoc (between 0 (suc (margins.label - length (piece.text ++ spaces 1))) (omega arith))
  aligned_between Right between = between (margins.label - length (piece.text ++ spaces 1)) 1 (omega arith)

  commented_between : (follows : Follows) → Between → P (commented margins n follows piece.text)
  commented_between Nothing between = rw append-nil at (between (margins.label + margins.code - n) 0 (omega arith))
  commented_between Newline between = rw append-nil at (between (margins.label + margins.code - n) 0 (omega arith))
  commented_between Other between = between (margins.label - n) 1 (omega arith)

  laid_between : (ty : ChunkType) → Between → P (laid ty margins n piece)
  laid_between Label between =
      cond_both P (ltb margins.label n) (piece.text ++ spaces 1) (aligned margins.alignment margins.label (piece.text ++ spaces 1))
      (λ _. between 0 1 (omega arith)) (λ _. aligned_between margins.alignment between)
  laid_between Code between = rw append-nil at (between (margins.label - n) 0 (omega arith))
  laid_between Comment between = commented_between piece.follows between

  -- holds of what a piece adds, where it holds of nothing for a piece that is ignored
  pub added_between : (ignored margins n piece ≡ true → P []) → (ignored margins n piece ≡ false → Between) → P (added margins n piece)
  unfolding added
  added_between none between = cond_both P (ignored margins n piece) [] (laid piece.ty margins n piece) none (λ e. laid_between piece.ty (between e))

-- ---- the lines kept

-- what came before the line behind one that is kept
abbrev pub kept_before : Margins → List ℕ → Before
kept_before margins bytes = record { blank = all_blank bytes; standalone = standalone margins bytes }

-- a line that a piece ends and that is kept, one that is dropped, and one that goes on
pub kept_cases : (P : List Line → Type 0) (margins : Margins) (before : Before) (line : Line) (piece : Piece) (ps : List Piece)
    → let next = add margins line piece in
    let ended = ends margins (length line.bytes) piece in
    (ended ≡ true → keeps before next.bytes ≡ true → P (next ∷ kept_lines margins (kept_before margins next.bytes) fresh ps))
    → (ended ≡ true → keeps before next.bytes ≡ false → P (kept_lines margins before fresh ps))
    → (ended ≡ false → P (kept_lines margins before next ps))
    → P (kept_lines margins before line (piece ∷ ps))
unfolding kept_lines after
kept_cases P margins before line piece ps kept dropped on =
    cond_both P (ends margins (length line.bytes) piece) _ _
    (λ e. by_test (keeps before (add margins line piece).bytes) (λ k. rw k (kept e k)) (λ k. rw k (dropped e k)))
    on
