-- One step of a walk: what the piece at a spot adds, whether it ends the line, and the spot behind it.
use mathlib.Core.Path.{◌≡◌, refl, sym, ap, ◌∙◌}
use mathlib.Core.List.{List, [], ◌∷◌, ◌++◌, append-nil}
use mathlib.Core.Bool.{Bool, true, false, not, ◌&&◌, ◌||◌, and-true, and-false, or-true, or-false}
use Prim.Native.Nat.{ℕ, ◌+◌, ◌-◌, ◌≤◌, ◌<◌}
use native.Mathlib.Omega.{arith}
use lib.ListN.{length, length-append, length-replicate}
use lib.Seq.{slice, length-slice}
use lib.Dec.{eqb, leb, ltb}
use borrow.Author.Tests.{leb-false, ltb-true, ltb-false, lt-ltb, le-leb, lt-leb}
use Rattle.text.specs.Ink.{all_blank, spaces}
use Rattle.text.proofs.Choices.{by_test, true_false}
use Rattle.text.proofs.Ink.{blank_append, spaces_blank, newline_blank}
use Rattle.options.specs.declared.Alignment.{Alignment}
use Rattle.options.specs.declared.Alignment.TheVariants.{Left, Right}
use Rattle.chunks.specs.declared.stored.ChunkType.{ChunkType}
use Rattle.chunks.specs.declared.stored.ChunkType.TheVariants.{Code, Label, Comment}
use Rattle.text.specs.Lines.{newline_at}
use Rattle.chunks.specs.Reading.{chunks_at}
use Rattle.columns.specs.Pieces.{following}
use Rattle.columns.specs.Layout.{ignored, laid, added, ends}
use Rattle.join.specs.Walk.{Narrow, Standing, Passed, lay_aligned, lay_of, piece_at, step_bytes, step_length, Stepped, Whole, LoneNewline}
use denote.Ref.{Bor}
use Rattle.columns.specs.declared.Margins.{Margins}
use Rattle.columns.specs.declared.Follows.{Follows}
use Rattle.columns.specs.declared.Follows.TheVariants.{Nothing, Newline, Other}
use Rattle.join.specs.declared.piece.Lay.{Lay}
use Rattle.join.specs.declared.piece.PieceEnd.{PieceEnd}
use Rattle.join.specs.declared.piece.Spot.{Spot}
use Rattle.join.specs.declared.piece.Step.{Step}
use Rattle.join.proofs.Places.{last_is}
use Rattle.join.proofs.Pieces.{slice_one, rest_at, piece_end, piece_some, piece_within, piece_length_lem, piece_newline_is, pieces_cons}
use Rattle.join.proofs.Lays.{Lays, piece_lays}

-- where neither of two tests holds the first does not
or_left : (first second : Bool) → (first || second) ≡ false → first ≡ false
or_left true second e = e
or_left false second e = refl

-- the lay of the piece at a spot, by where the piece ends
abbrev pub lay_at : Margins → List ℕ → Spot → ℕ → PieceEnd → Lay
lay_at margins list spot n piece = lay_of margins spot.ty n (piece.end - spot.at) piece.newline (following (chunks_at list spot.end))

module _ (margins : Margins) (list : List ℕ) (spot : Spot) (n : ℕ) (piece : PieceEnd) (lay : Lay) (behind : Spot)
    (narrow : Narrow margins) (standing : Standing list spot) (inside : spot.at < length list)
    (end : piece.end ≡ piece_end list spot) (newline : piece.newline ≡ ltb (newline_at (rest_at list spot)) (spot.end - spot.at))
    (is : lay ≡ lay_at margins list spot n piece) (passed : Passed list spot piece.end behind) where
  -- how the piece is laid
  lays_at : Lays (ignored margins n (piece_at list spot)) (laid spot.ty margins n (piece_at list spot)) (piece_at list spot).text lay
  unfolding piece_at
  lays_at =
      rw (is, end, newline, ← (piece_length_lem list spot standing inside), piece_newline_is list spot standing inside)
      (piece_lays margins narrow n (piece_at list spot))

  -- whether the piece ends its line
  ends_at : (skipped : Bool) → lay.ignored ≡ skipped → ends margins n (piece_at list spot) ≡ (leb (length list) spot.end || (piece.newline && not skipped))
  unfolding ends piece_at
  ends_at skipped e =
      rw (lays_at.ignored ∙ e, last_is list spot.end standing.laid, newline ∙ piece_newline_is list spot standing inside)

  -- the step, by what is written of the piece
  stepped : (step : Step) (skipped : Bool) (rest : List ℕ) → lay.ignored ≡ skipped → step.spot ≡ behind
      → step_length step + length rest ≤ 511 + (piece.end - spot.at)
      → added margins n (piece_at list spot) ≡ step_bytes step ++ rest
      → all_blank rest ≡ true → (step.ends ≡ false → rest ≡ [])
      → step.ends ≡ (leb (length list) spot.end || (piece.newline && not skipped)) → Stepped margins list spot n step
  stepped step skipped rest known there few bytes blank all ended =
      let some : spot.at < piece.end = omega (arith, piece_some list spot standing inside, end) in
      let to : piece.end ≤ spot.end = omega (arith, piece_within list spot standing inside, end) in
      let onward : piece.end ≤ step.spot.at = rw there passed.onward in
      record {
        rest = rest;
        bytes = bytes;
        blank = blank;
        all = all;
        ends = ended ∙ sym (ends_at skipped known);
        pieces = rw there (pieces_cons list spot standing inside behind (rw end at passed));
        standing = rw there passed.standing;
        onward = omega arith;
        more = λ on. rw there (passed.more (omega (arith, leb-false (length list) spot.end (or_left _ _ (sym ended ∙ on)))));
        small = omega arith;
      }

  -- a piece that is ignored
  pub stepped_ignored : {last : Bool} {text : Bor (List ℕ)} → text.now ≡ [] → lay.ignored ≡ true → last ≡ leb (length list) spot.end
      → Stepped margins list spot n (record { before = 0; text = text; behind = 0; ends = last; spot = behind })
  unfolding added all_blank
  stepped_ignored none skipped last =
      stepped _ true [] skipped refl (rw none (omega arith)) (rw (lays_at.ignored ∙ skipped, none)) refl (λ _. refl)
      (last ∙ rw (and-false piece.newline) (sym (or-false (leb (length list) spot.end))))

  -- what any other adds
  added_kept : lay.ignored ≡ false → added margins n (piece_at list spot) ≡ spaces lay.before ++ (slice spot.at piece.end list ++ spaces lay.behind)
  unfolding added piece_at
  added_kept kept = rw (lays_at.ignored ∙ kept, end) (lays_at.bytes kept)

  -- any other
  pub stepped_kept : {ended : Bool} {text : Bor (List ℕ)} → text.now ≡ slice spot.at piece.end list → lay.ignored ≡ false → ended ≡ (leb (length list) spot.end || piece.newline)
      → Stepped margins list spot n (record { before = lay.before; text = text; behind = lay.behind; ends = ended; spot = behind })
  unfolding all_blank
  stepped_kept part kept ended =
      let to : piece.end ≤ length list = omega (arith, piece_within list spot standing inside, end, standing.inside) in
      stepped _ false [] kept refl (rw part (omega (arith, lays_at.small, length-slice spot.at piece.end list to)))
      (rw part (added_kept kept ∙ sym (append-nil _))) refl (λ _. refl)
      (rw (and-true piece.newline) ended)

  -- a newline that ends the line, of which nothing is laid
  pub stepped_none : {none : Bor (List ℕ)} → none.now ≡ [] → lay.ignored ≡ false → piece.newline ≡ true → slice spot.at piece.end list ≡ 10 ∷ []
      → Stepped margins list spot n (record { before = 0; text = none; behind = 0; ends = true; spot = behind })
  stepped_none empty kept newlined one =
      let text = slice spot.at piece.end list in
      let adds = added_kept kept in
      let size : length (added margins n (piece_at list spot)) ≡ lay.before + (1 + lay.behind) =
      ap length adds ∙ rw one (simp (length-append, length-replicate) (omega arith)) in
      let blank : all_blank (added margins n (piece_at list spot)) ≡ true =
      ap all_blank adds ∙ rw (
        one,
        blank_append (spaces lay.before) ((10 ∷ []) ++ spaces lay.behind),
        blank_append (10 ∷ []) (spaces lay.behind),
        spaces_blank lay.before,
        spaces_blank lay.behind,
        newline_blank,
      ) in
      stepped _ false (added margins n (piece_at list spot)) kept refl
      (rw empty (omega (arith, lays_at.small, size, piece_some list spot standing inside, end)))
      (rw empty) blank (λ e. true_false e)
      (rw newlined (sym (or-true (leb (length list) spot.end))))

-- ---- a piece without a newline, of a chunk that another follows

-- it is not ignored
lay_plain : (margins : Margins) (ty : ChunkType) (n count : ℕ) (follows : Follows) → (lay_of margins ty n count false follows).ignored ≡ false
lay_plain margins Label n count follows = by_test (ltb margins.label n) (λ e. rw e) (λ e. rw e (aligned_plain margins.alignment (margins.label - (count + 1))))
  where
    aligned_plain : (alignment : Alignment) (pad : ℕ) → (lay_aligned alignment pad).ignored ≡ false
    aligned_plain Left pad = refl
    aligned_plain Right pad = refl
lay_plain margins Code n count follows = rw (and-false (eqb count 1))
lay_plain margins Comment n count Nothing = refl
lay_plain margins Comment n count Newline = refl
lay_plain margins Comment n count Other = refl

module _ (margins : Margins) (list : List ℕ) (spot : Spot) (n : ℕ) (lay : Lay) (behind : Spot)
    (narrow : Narrow margins) (standing : Standing list spot) (inside : spot.at < length list) (whole : Whole list spot)
    (is : lay ≡ lay_at margins list spot n (record { end = spot.end; newline = false })) (passed : Passed list spot spot.end behind) where
  -- it is all of the rest of its chunk, and the line goes on behind it
  pub stepped_whole : {text : Bor (List ℕ)} → text.now ≡ slice spot.at spot.end list
      → Stepped margins list spot n (record { before = lay.before; text = text; behind = lay.behind; ends = false; spot = behind })
  stepped_whole part =
      let far = ltb-false (newline_at (rest_at list spot)) (spot.end - spot.at) whole.plain in
      let end : spot.end ≡ piece_end list spot = omega (arith, length-slice spot.at spot.end list standing.inside, standing.within) in
      let kept : lay.ignored ≡ false = rw is (lay_plain margins spot.ty n (spot.end - spot.at) (following (chunks_at list spot.end))) in
      stepped_kept margins list spot n (record { end = spot.end; newline = false }) lay behind narrow standing inside end (sym whole.plain) is passed part kept
      (sym (rw (lt-leb (length list) spot.end whole.more)))

-- ---- a lone newline

module _ (margins : Margins) (list : List ℕ) (spot : Spot) (n : ℕ) (behind : Spot)
    (narrow : Narrow margins) (standing : Standing list spot) (inside : spot.at < length list) (lone : LoneNewline list spot) (passed : Passed list spot spot.end behind) where
  -- the chunk is the newline
  lone_text : slice spot.at spot.end list ≡ 10 ∷ []
  lone_text = slice_one spot.at spot.end list lone.one standing.inside ∙ rw lone.newline

  -- so nothing of it is laid, whether it ends the line or is ignored
  pub stepped_newline : {ended : Bool} {none : Bor (List ℕ)} → none.now ≡ [] → ended ≡ not (ltb 0 n && leb n margins.label)
      → Stepped margins list spot n (record { before = 0; text = none; behind = 0; ends = ended; spot = behind })
  unfolding newline_at
  stepped_newline empty told =
      let piece : PieceEnd = record { end = spot.end; newline = true } in
      let lay = lay_at margins list spot n piece in
      let end : spot.end ≡ piece_end list spot = rw lone_text (omega (arith, lone.one)) in
      let newline : true ≡ ltb (newline_at (rest_at list spot)) (spot.end - spot.at) = rw (lone_text, lone.one) in
      by_test (ltb 0 n && leb n margins.label)
      (λ skips.
      let skipped : lay.ignored ≡ true = rw (lone.code, lone.one, skips) in
      stepped_ignored margins list spot n piece lay behind narrow standing inside end newline refl passed empty skipped
      (told ∙ ap not skips ∙ sym (lt-leb (length list) spot.end lone.more)))
      (λ keeps.
      let kept : lay.ignored ≡ false = rw (lone.code, lone.one, keeps) in
      rw (told ∙ ap not keeps) (stepped_none margins list spot n piece lay behind narrow standing inside end newline refl passed empty kept refl lone_text))

-- a line that has bytes keeps it where it is longer than the label margin
pub keeps_is : (n label : ℕ) → 0 < n → ltb label n ≡ not (ltb 0 n && leb n label)
keeps_is n label some =
    by_test (ltb label n)
    (λ far. rw (far, lt-leb n label (ltb-true label n far), and-false (ltb 0 n)))
    (λ near. rw (near, lt-ltb 0 n some, le-leb n label (ltb-false label n near)))
