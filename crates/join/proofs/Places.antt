-- Laws of places in a list that was judged: before its end a chunk stands, and a spot is in a chunk's text or at the list's end.
use Rattle.std.specs.Prelude.{Option, Some, None}
use mathlib.Core.Path.{◌≡◌, refl, sym, ap, ◌∙◌}
use mathlib.Core.List.{List, []}
use mathlib.Core.Bool.{Bool, true, false, cond}
use Prim.Native.Nat.{ℕ, ◌-◌, ◌≤◌, ◌<◌}
use native.Mathlib.Omega.{arith}
use lib.ListN.{length, get_or}
use lib.Seq.{slice, slice_empty, length-slice}
use lib.Dec.{eqb, leb}
use borrow.Author.Tests.{leb-true, leb-false, eq-eqb, ne_eqb}
use Rattle.text.proofs.Choices.{by_test}
use Rattle.chunks.specs.Reading.{chunk_at, chunks_at, ChunkFits}
use Rattle.chunks.specs.declared.stored.ChunkType.TheVariants.{Code}
use Rattle.chunks.specs.declared.stored.StoredChunk.{StoredChunk}
use Rattle.chunks.proofs.Reading.{chunk_end, chunks_at_found, chunks_at_none}
use Rattle.chunks.proofs.Judging.{end_found, end_none}
use Rattle.text.specs.Lines.{is_newline}
use Rattle.columns.specs.Pieces.{cut, following, pieces_of, pieces}
use Rattle.columns.specs.Layout.{is_last}
use Rattle.join.specs.Walk.{Laid, Standing, pieces_at, Reached, Passed}
use Rattle.columns.specs.declared.Follows.TheVariants.{Newline, Other}
use Rattle.join.specs.declared.piece.Spot.{Spot}
use Rattle.join.proofs.Pieces.{newline_lone, slice_one}

-- ---- the chunk at a place

-- what holds of any chunk that is found holds where one is found
by_found : {P : Type 0} (found : Option StoredChunk) → (found ≡ None → ⊥) → ((chunk : StoredChunk) → found ≡ Some chunk → P) → P
by_found (Some chunk) some each = each chunk refl
by_found None some each = absurd (some refl)

-- no chunk is found at the list's end alone
pub none_past : (list : List ℕ) (place : ℕ) → Laid list place → chunk_at list place ≡ None → length list ≤ place
none_past list place laid none = omega (arith, laid, end_none list place none)

module _ (list : List ℕ) (place : ℕ) (laid : Laid list place) (inside : place < length list) where
  -- before the list's end a chunk is found
  by_chunk : {P : Type 0} → ((chunk : StoredChunk) → chunk_at list place ≡ Some chunk → P) → P
  by_chunk each = by_found (chunk_at list place) (λ none. omega (arith, laid, end_none list place none)) each

-- ---- what follows a place

-- nothing at the list's end
pub follows_nothing : (list : List ℕ) (place : ℕ) → length list ≤ place → chunks_at list place ≡ []
follows_nothing list place past = chunks_at_none list place (chunk_end list place past)

-- before it a chunk
follows_chunk : (list : List ℕ) (place : ℕ) (chunk : StoredChunk) → chunk_at list place ≡ Some chunk
    → following (chunks_at list place) ≡ cond (is_newline (slice chunk.start chunk.end list)) Newline Other
follows_chunk list place chunk e = ap following (chunks_at_found list place chunk e)

module _ (list : List ℕ) (place : ℕ) (chunk : StoredChunk) (e : chunk_at list place ≡ Some chunk) (inside : chunk.end ≤ length list) where
  -- which is a newline or not where its text is one byte
  pub follows_one : chunk.end - chunk.start ≡ 1 → following (chunks_at list place) ≡ cond (eqb (get_or list chunk.start 0) 10) Newline Other
  unfolding is_newline
  follows_one one = follows_chunk list place chunk e ∙ rw (slice_one chunk.start chunk.end list one inside)

  -- and else is none
  pub follows_other : (chunk.end - chunk.start ≡ 1 → ⊥) → following (chunks_at list place) ≡ Other
  follows_other more =
      follows_chunk list place chunk e
      ∙ rw (newline_lone (slice chunk.start chunk.end list), length-slice chunk.start chunk.end list inside, ne_eqb (chunk.end - chunk.start) 1 more)

-- so a chunk is the last just where the list ends with it
pub last_is : (list : List ℕ) (place : ℕ) → Laid list place → is_last (following (chunks_at list place)) ≡ leb (length list) place
last_is list place laid =
    by_test (leb (length list) place)
    (λ past. rw (past, follows_nothing list place (leb-true _ _ past)))
    (λ inside. by_chunk list place laid (leb-false _ _ inside) (λ chunk e.
    rw (inside, follows_chunk list place chunk e) (not_last (is_newline (slice chunk.start chunk.end list)))))
  where
    not_last : (newline : Bool) → is_last (cond newline Newline Other) ≡ false
    not_last true = refl
    not_last false = refl

-- ---- spots

-- the list's end is reached
pub reached_end : (list : List ℕ) (place : ℕ) → Laid list place → place ≤ length list → length list ≤ place
    → Reached list place (record { ty = Code; indent = 0; start = place; at = place; end = place })
unfolding pieces_at cut pieces_of
reached_end list place laid within past = record {
  pieces = rw (slice_empty place list);
  standing = record {
    from = omega arith;
    some = λ inside. omega arith;
    inside = within;
    within = omega arith;
    small = omega arith;
    laid = laid;
  };
  onward = omega arith;
  over = λ _. refl;
  more = λ inside. inside;
}

-- a chunk is reached
pub reached_chunk : (list : List ℕ) (place : ℕ) (chunk : StoredChunk) → Laid list place → place < length list → chunk_at list place ≡ Some chunk → ChunkFits list place chunk
    → Reached list place (record { ty = chunk.ty; indent = chunk.indent; start = chunk.start; at = chunk.start; end = chunk.end })
unfolding pieces_at pieces
reached_chunk list place chunk laid inside e fit = record {
  pieces = rw (eq-eqb chunk.start chunk.start refl, chunks_at_found list place chunk e);
  standing = record {
    from = omega arith;
    some = λ _. fit.some;
    inside = fit.inside;
    within = omega arith;
    small = fit.indent;
    laid = sym (end_found list place chunk e) ∙ laid;
  };
  onward = omega arith;
  over = λ past. absurd (omega arith);
  more = λ _. omega arith;
}

module _ (list : List ℕ) (spot : Spot) (end : ℕ) (standing : Standing list spot) (ahead : spot.at < end) where
  -- behind a piece, in the same chunk
  pub passed_inside : end < spot.end → Passed list spot end (record { ty = spot.ty; indent = spot.indent; start = spot.start; at = end; end = spot.end })
  unfolding pieces_at
  passed_inside inside = record {
    pieces = rw (ne_eqb end spot.start (λ same. omega arith));
    standing = record {
      from = omega arith;
      some = λ _. inside;
      inside = standing.inside;
      within = omega arith;
      small = standing.small;
      laid = standing.laid;
    };
    onward = omega arith;
    over = λ past. absurd (omega arith);
    more = λ more. more;
  }

  -- behind a chunk's last piece
  pub passed_chunk : (behind : Spot) → end ≤ spot.end → spot.end ≤ end → Reached list end behind → Passed list spot end behind
  unfolding cut pieces_of
  passed_chunk behind within past reached =
      let same : spot.end ≡ end = omega arith in
      record {
        pieces = reached.pieces ∙ rw (same, slice_empty end list);
        standing = reached.standing;
        onward = reached.onward;
        over = reached.over;
        more = reached.more;
      }
