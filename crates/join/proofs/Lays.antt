-- How a piece is laid is what it adds to its line.
use mathlib.Core.Path.{◌≡◌, refl}
use mathlib.Core.List.{List, ◌++◌, append_assoc, append-nil}
use mathlib.Core.Bool.{Bool, false, ◌&&◌}
use Prim.Native.Nat.{ℕ, ◌+◌, ◌-◌, ◌≤◌}
use native.Mathlib.Omega.{arith}
use lib.ListN.{length, length-append, replicate-append-replicate}
use lib.Dec.{eqb, ltb}
use Rattle.text.specs.Ink.{spaces}
use Rattle.text.specs.Lines.{has_newline}
use Rattle.text.proofs.Choices.{by_test, true_false}
use Rattle.options.specs.declared.Alignment.{Alignment}
use Rattle.options.specs.declared.Alignment.TheVariants.{Left, Right}
use Rattle.chunks.specs.declared.stored.ChunkType.{ChunkType}
use Rattle.chunks.specs.declared.stored.ChunkType.TheVariants.{Code, Label, Comment}
use Rattle.columns.specs.Pieces.{Piece}
use Rattle.columns.specs.Layout.{aligned, labelled, coded, commented, ignored_in, ignored, laid}
use Rattle.join.specs.Walk.{Narrow, lay_aligned, lay_label, lay_code, lay_comment, lay_of}
use Rattle.columns.specs.declared.Margins.{Margins}
use Rattle.columns.specs.declared.Follows.{Follows}
use Rattle.columns.specs.declared.Follows.TheVariants.{Nothing, Newline, Other}
use Rattle.join.specs.declared.piece.Lay.{Lay}
use Rattle.join.proofs.Pieces.{newline_lone}

-- a text between the spaces of a lay
abbrev pub between : Lay → List ℕ → List ℕ
between lay text = spaces lay.before ++ (text ++ spaces lay.behind)

-- a lay is the lay of a text: it tells whether the text is skipped, and else how it is set; and its spaces are few
pub record Lays (skipped : Bool) (set text : List ℕ) (lay : Lay) : Type 0 where
  pub ignored : skipped ≡ lay.ignored
  pub bytes : lay.ignored ≡ false → set ≡ between lay text
  pub small : lay.before + lay.behind ≤ 511

-- a text that is padded to a width, wherever the spaces stand, is not ignored
padded : (text : List ℕ) (before behind : ℕ) → before + behind ≤ 511
    → Lays false (spaces before ++ (text ++ spaces behind)) text (record { before = before; behind = behind; ignored = false })
padded text before behind few = record { ignored = refl; bytes = λ _. refl; small = few }

module _ (margins : Margins) (narrow : Narrow margins) (n : ℕ) (text : List ℕ) where
  -- aligned in the label margin
  aligned_lays : (alignment : Alignment) → Lays false (aligned alignment margins.label (text ++ spaces 1)) text (lay_aligned alignment (margins.label - (length text + 1)))
  aligned_lays Left =
      let pad = margins.label - (length text + 1) in
      rw (length-append text (spaces 1), append_assoc text (spaces 1) (spaces pad), replicate-append-replicate {A = ℕ} 1 pad 32) (padded text 0 (1 + pad) (omega arith))
  aligned_lays Right = rw (length-append text (spaces 1)) (padded text (margins.label - (length text + 1)) 1 (omega arith))

  -- a label
  label_lays : Lays false (labelled margins n text) text (lay_label margins n (length text))
  label_lays =
      by_test (ltb margins.label n)
      (λ long. rw long (padded text 0 1 (omega arith)))
      (λ short. rw short (aligned_lays margins.alignment))

  -- code
  code_lays : Lays (ignored_in Code margins n text) (coded margins n text) text (lay_code margins n (eqb (length text) 1 && has_newline text))
  code_lays =
      rw (← (newline_lone text))
      (by_test (ignored_in Code margins n text)
      (λ skipped. rw skipped (record { ignored = refl; bytes = λ kept. true_false kept; small = omega arith }))
      (λ kept. rw kept (rw append-nil at (padded text (margins.label - n) 0 (omega arith)))))

  -- a comment
  comment_lays : (follows : Follows) → Lays false (commented margins n follows text) text (lay_comment margins n follows)
  comment_lays Nothing = rw append-nil at (padded text (margins.label + margins.code - n) 0 (omega arith))
  comment_lays Newline = rw append-nil at (padded text (margins.label + margins.code - n) 0 (omega arith))
  comment_lays Other = padded text (margins.label - n) 1 (omega arith)

-- the lay of a piece is the lay of its text, by the type of its chunk
pub piece_lays : (margins : Margins) → Narrow margins → (n : ℕ) (piece : Piece)
    → Lays (ignored margins n piece) (laid piece.ty margins n piece) piece.text (lay_of margins piece.ty n (length piece.text) (has_newline piece.text) piece.follows)
unfolding ignored
piece_lays margins narrow n piece = by_type piece.ty
  where
    by_type : (ty : ChunkType)
        → Lays (ignored_in ty margins n piece.text) (laid ty margins n piece) piece.text (lay_of margins ty n (length piece.text) (has_newline piece.text) piece.follows)
    by_type Label = label_lays margins narrow n piece.text
    by_type Code = code_lays margins narrow n piece.text
    by_type Comment = comment_lays margins narrow n piece.text piece.follows
