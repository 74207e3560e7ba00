-- A text's length is a 32-bit number: at most 1,366 times the bytes of its stored chunks.
--   text_length : length (text_of margins chunks) ≤ 1366 * length (stored_list chunks)
--   text_short : length (stored_list chunks) ≤ 1048576 → length (text_of margins chunks) < 2 ^ 32
-- A piece adds itself and at most 511 spaces, and a newline where it ends a line: at most 513 bytes for each of its own.
-- A line's indent, at most 4,096, is paid for by the chunk that set it, whose head has at least 3 bytes. A standalone line gets no longer.
use Rattle.std.specs.Prelude.{Option, Some, None}
use mathlib.Core.Path.{◌≡◌}
use mathlib.Core.List.{List, [], ◌∷◌, ◌++◌, map}
use mathlib.Core.Bool.{Bool, true, false, cond, not}
use Prim.Native.Nat.{ℕ, ◌+◌, ◌*◌, ◌^◌, ◌≤◌, ◌<◌}
use native.Mathlib.Omega.{arith}
use lib.ListN.{length, take, drop, length-append, length-drop, length-replicate}
use borrow.Author.Tests.{ltb-true}
use Rattle.text.specs.Ink.{flat, all_blank, spaces}
use Rattle.text.specs.Lines.{behind, joined}
use Rattle.text.proofs.Choices.{cond_both, and_true_left, and_true_right}
use Rattle.text.proofs.Ink.{ink_end_le}
use Rattle.chunks.specs.Stored.{Chunk, stored_chunk, stored_list, AllWellFormed}
use Rattle.chunks.specs.declared.stored.ChunkType.{ChunkType}
use Rattle.chunks.proofs.Forms.{chunk_length}
use Rattle.columns.specs.Pieces.{Piece, cut, pieces_of, pieces, following}
use Rattle.columns.specs.Layout.{added, Line, fresh, indent_with, indent_of, add, standalone, placed, set_line, Before, at_start, kept_lines}
use Rattle.columns.specs.Setting.{lines_kept, text_of}
use Rattle.columns.specs.declared.Margins.{Margins}
use Rattle.columns.specs.declared.Follows.{Follows}
use Rattle.columns.proofs.Texts.{texts_of, flat_cut, Each, each_piece, added_between, kept_before, kept_cases}

-- ---- what pieces may cost

abbrev start_cost : Bool → ℕ → ℕ
start_cost starts indent = cond starts indent 0

unfoldable cost : List Piece → ℕ
cost [] = 0
cost (piece ∷ ps) = 513 * length piece.text + start_cost piece.starts piece.indent + cost ps

-- of a chunk's pieces only the first may set an indent
cost_of : (ty : ChunkType) (indent : ℕ) (starts : Bool) (follows : Follows) (ts : List (List ℕ)) (ps : List Piece)
    → cost (pieces_of ty indent starts follows ts ++ ps) ≤ 513 * length (flat ts) + start_cost starts indent + cost ps
unfolding cost pieces_of flat
cost_of ty indent starts follows [] ps = omega arith
cost_of ty indent starts follows (t ∷ ts) ps = omega (arith, cost_of ty indent false follows ts ps, length-append t (flat ts))

-- the stored chunks pay for their pieces
pieces_cost : (chunks : List Chunk) → AllWellFormed chunks → cost (pieces chunks) ≤ 1366 * length (stored_list chunks)
unfolding cost pieces stored_list
pieces_cost [] good = omega arith
pieces_cost (chunk ∷ chunks) (good, rest) =
    let text = chunk.text in
    let whole : length (flat (cut text)) ≡ length text = rw (flat_cut text) in
    omega (
      arith,
      cost_of chunk.ty chunk.indent true (following chunks) (cut text) (pieces chunks),
      pieces_cost chunks rest,
      length-append (stored_chunk chunk) (stored_list chunks),
      chunk_length chunk,
      good.indent,
    )

-- ---- the length of a line set

-- a piece that starts a chunk may set the indent
indent_cost : (indent : Option ℕ) (piece : Piece) → indent_of (indent_with indent piece) ≤ indent_of indent + start_cost piece.starts piece.indent
indent_cost (Some indent) piece = omega arith
indent_cost None piece = at_start_lem piece.starts
  where
    at_start_lem : (starts : Bool) → indent_of (cond starts (Some piece.indent) None) ≤ 0 + start_cost starts piece.indent
    at_start_lem true = omega arith
    at_start_lem false = omega arith

-- a standalone line gets no longer
placed_length : (margins : Margins) (bytes : List ℕ) → length (placed margins bytes) ≤ length bytes
unfolding standalone
placed_length margins bytes =
    let both = margins.label + margins.code in
    cond_both (λ (set : List ℕ). length set ≤ length bytes) (standalone margins bytes) (spaces margins.label ++ drop both bytes) bytes
    (λ e.
    let long : both < length bytes = ltb-true both (length bytes) (and_true_left _ (all_blank (take both bytes)) (and_true_right (not (all_blank bytes)) _ e)) in
    simp (length-append, length-replicate, length-drop) (omega arith))
    (λ _. omega arith)

set_length : (margins : Margins) (line : Line) → length (set_line margins line) ≤ indent_of line.indent + length line.bytes
unfolding set_line
set_length margins line =
    let indent = spaces (indent_of line.indent) in
    let bytes = placed margins line.bytes in
    omega (arith, ink_end_le (indent ++ bytes), length-append indent bytes, length-replicate {A = ℕ} (indent_of line.indent) 32, placed_length margins line.bytes)

-- ---- the law

module _ (margins : Margins) (label : margins.label ≤ 255) (code : margins.code ≤ 255) where
  added_length : (n : ℕ) (piece : Piece) → length (added margins n piece) ≤ length piece.text + 511
  added_length n piece =
      added_between (λ (bytes : List ℕ). length bytes ≤ length piece.text + 511) margins n piece
      (λ _. omega arith)
      (λ _ before behind few. simp (length-append, length-replicate) (omega arith))

  -- the lines kept, each behind a newline
  kept_length : (before : Before) (line : Line) (ps : List Piece) → Each (λ (t : List ℕ). 1 ≤ length t) (texts_of ps)
      → length (behind (map (set_line margins) (kept_lines margins before line ps))) ≤ indent_of line.indent + length line.bytes + cost ps
  unfolding cost kept_lines behind add
  kept_length before line [] some = omega arith
  kept_length before line (piece ∷ ps) (some, rest) =
      let next = add margins line piece in
      let n = length line.bytes in
      let more = length-append line.bytes (added margins n piece) in
      let most = added_length n piece in
      let indent = indent_cost line.indent piece in
      kept_cases (λ (lines : List Line). length (behind (map (set_line margins) lines)) ≤ indent_of line.indent + n + cost (piece ∷ ps)) margins before line piece ps
      (λ _ k.
      let before = kept_before margins next.bytes in
      omega (
        arith,
        set_length margins next,
        length-append (set_line margins next) (behind (map (set_line margins) (kept_lines margins before fresh ps))),
        kept_length before fresh ps rest,
      ))
      (λ _ _. omega (arith, kept_length before fresh ps rest))
      (λ _. omega (arith, kept_length before next ps rest))

  pub text_length : (chunks : List Chunk) → AllWellFormed chunks → length (text_of margins chunks) ≤ 1366 * length (stored_list chunks)
  unfolding text_of lines_kept joined behind
  text_length chunks good =
      omega (
        arith,
        joined_le (map (set_line margins) (lines_kept margins chunks)),
        kept_length at_start fresh (pieces chunks) (each_piece (λ (t : List ℕ). 1 ≤ length t) (λ b. omega arith) (λ b t _ _. omega arith) chunks),
        pieces_cost chunks good,
      )
    where
      joined_le : (lines : List (List ℕ)) → length (joined lines) ≤ length (behind lines)
      joined_le [] = omega arith
      joined_le (line ∷ lines) = omega arith

  pub text_short : (chunks : List Chunk) → AllWellFormed chunks → length (stored_list chunks) ≤ 1048576 → length (text_of margins chunks) < 2 ^ 32
  text_short chunks good few = omega (arith, text_length chunks good)
