-- The lines of a text, one after the other: what holds before each line, and that a line keeps it.
use mathlib.Core.Path.{◌≡◌, refl, sym, ap, ◌∙◌}
use mathlib.Core.List.{List, [], ◌∷◌, ◌++◌, map, append_assoc, append-nil}
use mathlib.Core.Bool.{Bool, true, false, cond, ◌&&◌}
use Prim.Native.Nat.{ℕ, suc, ◌+◌, ◌-◌, ◌*◌, ◌≤◌, ◌<◌}
use native.Mathlib.Omega.{arith}
use native.Mathlib.Nat.{min-le_left, le_trans}
use lib.ListN.{length, take, drop, set, length-append, length-replicate, length-take}
use lib.Seq.{slice, sets, sets-eq, length-slice, slice_empty, length-take-le, take_all, take-length, take-append-add, take-append-le, take-set-le, take-take}
use lib.Dec.{eqb, leb}
use borrow.Author.Tests.{le-leb, eqb-true}
use Rattle.text.specs.Ink.{ink_end, spaces}
use Rattle.text.specs.Lines.{behind, joined}
use Rattle.text.specs.Stores.{fits, stored_buffer}
use Rattle.text.proofs.Choices.{cond_both, by_test, true_false, and_true_left, and_true_right}
use Rattle.text.proofs.Parts.{part_slice}
use Rattle.text.proofs.Ink.{trim_append_blank, ink_end_le}
use Rattle.text.proofs.Buffers.{sets_append, stored_append}
use Rattle.chunks.specs.Reading.{chunks_of}
use Rattle.columns.specs.Pieces.{Piece, cut, pieces_of, pieces}
use Rattle.columns.specs.Layout.{Line, fresh, Before, add, ends, keeps, after, with_line, kept_lines, set_line}
use Rattle.columns.specs.Setting.{lines_kept, text_of}
use Rattle.join.specs.Walk.{Narrow, Standing, Reached, pieces_at, First, first_line, line_at, LineWalked}
use Rattle.join.specs.Sinks.{Puts, puts}
use Rattle.join.specs.Walk.{cut_of, line_start, grown_by, front, cut_bytes, CutFits, Showing, window_to, Tried, astray}
use Rattle.columns.specs.declared.Margins.{Margins}
use Rattle.join.specs.declared.piece.Spot.{Spot}
use Rattle.join.specs.declared.line.Walked.{Walked}
use Rattle.join.specs.declared.sink.Window.{Window}
use Rattle.join.specs.declared.lines.Past.{Past}
use Rattle.join.specs.declared.lines.Cut.{Cut}
use Rattle.join.specs.declared.lines.Guess.{Guess}
use Rattle.join.proofs.Places.{follows_nothing}
use Rattle.join.proofs.Windows.{puts_slice}
use Rattle.std.specs.Prelude.{Some, None}
use Rattle.join.proofs.Cuts.{before_of, Kept, CutSays, cut_says}

-- ---- where a line is put

-- a line starts behind the newline that goes before it
start_front : (past : Past) → line_start past ≡ past.length + length (front past.any)
start_front past =
    cond_both (λ (n : ℕ). n ≡ past.length + length (front past.any)) past.any (past.length + 1) past.length (λ e. rw e) (λ e. rw e (omega arith))

-- so it starts at most one byte behind the text so far
pub start_near : (past : Past) → (past.length ≤ line_start past) × (line_start past ≤ past.length + 1)
start_near past =
    cond_both (λ (n : ℕ). (past.length ≤ n) × (n ≤ past.length + 1)) past.any (past.length + 1) past.length (λ _. (omega arith, omega arith)) (λ _. (omega arith, omega arith))

module _ (past : Past) (cut : Cut) (bytes : List ℕ) (fit : CutFits cut (ink_end bytes)) where
  -- where the text ends with a line that is set
  pub cut_end : past.length + length (cut_bytes past cut bytes) ≡ line_start past + cut.lead + (cut.high - cut.low)
  cut_end =
      rw (
        length-append (front past.any) (spaces cut.lead ++ slice cut.low cut.high bytes),
        length-append (spaces cut.lead) (slice cut.low cut.high bytes),
        length-replicate {A = ℕ} cut.lead 32,
        length-slice cut.low cut.high bytes (le_trans fit.within (ink_end_le bytes)),
        start_front past,
      )
      (omega arith)

-- a newline, spaces, and the line through its window are the line's bytes
pub cut_written : (past : Past) (cut : Cut) (bytes text text₁ text₂ : List ℕ) {text₃ : List ℕ} (start : ℕ) → start ≡ line_start past
    → past.length + length (cut_bytes past cut bytes) ≤ length text
    → text₁ ≡ stored_buffer text past.length (front past.any)
    → text₂ ≡ stored_buffer text₁ start (spaces cut.lead)
    → text₃ ≡ puts (record { base = start + cut.lead; low = cut.low; high = cut.high }) text₂ 0 bytes
    → text₃ ≡ sets text past.length (cut_bytes past cut bytes)
cut_written past cut bytes text text₁ text₂ start here room newline lead line =
    let n = past.length in
    let before = front past.any ++ spaces cut.lead in
    let part = slice cut.low cut.high bytes in
    let whole : before ++ part ≡ cut_bytes past cut bytes = append_assoc (front past.any) (spaces cut.lead) part in
    let front_end_lem : start ≡ n + length (front past.any) = here ∙ start_front past in
    let before_length : length before ≡ length (front past.any) + cut.lead = length-append (front past.any) (spaces cut.lead) ∙ rw (length-replicate {A = ℕ} cut.lead 32) in
    let end : n + length before ≡ start + cut.lead = omega arith in
    let enough : n + length before ≤ length text = omega (arith, length-append before part, ap length whole) in
    let fit_before : fits text n before ≡ true = le-leb _ _ enough in
    let base : start + cut.lead + (0 - cut.low) ≡ start + cut.lead = omega arith in
    let low : cut.low - 0 ≡ cut.low = omega arith in
    let high : cut.high - 0 ≡ cut.high = omega arith in
    let led : text₂ ≡ sets text n before = lead ∙ rw (newline, front_end_lem) (stored_append text n (front past.any) (spaces cut.lead) fit_before ∙ rw fit_before) in
    line ∙ puts_slice text₂ (record { base = start + cut.lead; low = cut.low; high = cut.high }) 0 bytes
    ∙ rw (base, low, high, led, ← end) (sym (sets_append text n before part) ∙ rw whole)

-- ---- a line that is written where it is guessed to stand

-- stores behind a place leave what stands before it
take_sets : (n : ℕ) (text : List ℕ) (at : ℕ) (bytes : List ℕ) → n ≤ at → take n (sets text at bytes) ≡ take n text
take_sets n text at [] behind = refl
take_sets n text at (b ∷ bytes) behind = take_sets n (set text at b) (suc at) bytes (omega arith) ∙ take-set-le n text at b behind

-- so they do where they are stored only if they fit
take_stored : (n : ℕ) (text : List ℕ) (at : ℕ) (bytes : List ℕ) → n ≤ at → take n (stored_buffer text at bytes) ≡ take n text
take_stored n text at bytes behind = by_test (fits text at bytes) (λ e. rw e (take_sets n text at bytes behind)) (λ e. rw e)

-- up to a byte of what is stored stand what stood before it, and its part
take_stores : (text : List ℕ) (n m : ℕ) (bytes : List ℕ) → n + length bytes ≤ length text → m ≤ length bytes
    → take (n + m) (sets text n bytes) ≡ take n text ++ take m bytes
take_stores text n m bytes room within =
    let before : length (take n text) ≡ n = length-take-le n text (omega arith) in
    let behind = drop (n + length bytes) text in
    let front : take (n + m) (take n text ++ bytes) ≡ take n text ++ take m bytes = rw before at (take-append-add (take n text) bytes m) in
    rw (sets-eq bytes text n room) (take-append-le (n + m) (take n text ++ bytes) behind (omega (arith, length-append (take n text) bytes)) ∙ front)

-- the start of a part is the part up to there
take_slice : (low high far : ℕ) (bytes : List ℕ) → low ≤ high → high ≤ far → take (high - low) (slice low far bytes) ≡ slice low high bytes
take_slice low high far bytes up on =
    rw (← (part_slice low far bytes), ← (part_slice low high bytes)) (take-take (high - low) (far - low) (drop low bytes) (omega arith))

-- a part is no longer than its places are apart
slice_short : (low high : ℕ) (bytes : List ℕ) → length (slice low high bytes) ≤ high - low
slice_short low high bytes = rw (← (part_slice low high bytes), length-take (high - low) (drop low bytes)) (min-le_left (high - low) (length (drop low bytes)))

module _ (past : Past) (guess : Guess) (bytes text text₁ text₂ : List ℕ) {text₃ : List ℕ} (start : ℕ) (here : start ≡ line_start past)
    (newline : text₁ ≡ stored_buffer text past.length (front past.any)) (lead : text₂ ≡ stored_buffer text₁ start (spaces guess.lead))
    (line : text₃ ≡ puts (window_to (length text) (start + guess.lead) guess.low) text₂ 0 bytes) where
  -- the window shows nothing before the line
  window_behind : past.length ≤ start → take past.length (puts (window_to (length text) (start + guess.lead) guess.low) text₂ 0 bytes) ≡ take past.length text₂
  window_behind behind =
      let base = start + guess.lead in
      let shows : Window = record { base = base; low = guess.low; high = guess.low + (length text - base) } in
      let hides : Window = record { base = 0; low = 0; high = 0 } in
      by_test (leb base (length text))
      (λ e. rw e (ap (take past.length) (puts_slice text₂ shows 0 bytes) ∙ take_sets past.length text₂ (base + (0 - guess.low)) (slice (guess.low - 0) (shows.high - 0) bytes) (omega arith)))
      (λ e. rw e (ap (take past.length) (puts_slice text₂ hides 0 bytes)))

  -- the text so far is left
  tried_kept : take past.length text₃ ≡ take past.length text
  tried_kept =
      let near = start_near past in
      let behind : past.length ≤ start = omega arith in
      ap (take past.length) line ∙ window_behind behind ∙ ap (take past.length) lead ∙ take_stored past.length text₁ start (spaces guess.lead) behind
      ∙ ap (take past.length) newline ∙ take_stored past.length text past.length (front past.any) (omega arith)

  -- and the line stands behind it
  tried_shown : (high : ℕ) → guess.low ≤ high → high ≤ length bytes → line_start past + guess.lead + (high - guess.low) ≤ length text
      → take (line_start past + guess.lead + (high - guess.low)) text₃
      ≡ take past.length text ++ (front past.any ++ (spaces guess.lead ++ slice guess.low high bytes))
  tried_shown high up within room =
      let n = past.length in
      let base = start + guess.lead in
      let far = guess.low + (length text - base) in
      let before = front past.any ++ spaces guess.lead in
      let part = slice guess.low far bytes in
      let cut : Cut = record { standalone = false; lead = guess.lead; low = guess.low; high = far } in
      let whole : before ++ part ≡ cut_bytes past cut bytes = append_assoc (front past.any) (spaces guess.lead) part in
      let before_length : length before ≡ length (front past.any) + guess.lead = length-append (front past.any) (spaces guess.lead) ∙ rw (length-replicate {A = ℕ} guess.lead 32) in
      let short = slice_short guess.low far bytes in
      let shown = take_slice guess.low high far bytes up (omega arith) in
      let enough : n + length (cut_bytes past cut bytes) ≤ length text = omega (arith, start_front past, length-append before part, ap length whole) in
      let reach : base ≤ length text = omega arith in
      let stored : text₃ ≡ sets text n (cut_bytes past cut bytes) = cut_written past cut bytes text text₁ text₂ start here enough newline lead (line ∙ rw (le-leb _ _ reach)) in
      let end : line_start past + guess.lead + (high - guess.low) ≡ n + (length before + (high - guess.low)) = omega (arith, start_front past) in
      let some : length before + (high - guess.low) ≤ length (before ++ part) =
      omega (arith, length-append before part, ap length shown, length-slice guess.low high bytes within, length-take (high - guess.low) part) in
      rw (stored, end, ← whole) (take_stores text n (length before + (high - guess.low)) (before ++ part) (rw whole enough) some
      ∙ rw (take-append-add before part (high - guess.low), shown, append_assoc (front past.any) (spaces guess.lead) (slice guess.low high bytes)))

-- a line of which all but blanks at its end is shown stands as if all of it were
module _ {put : Puts} {before text bytes : List ℕ} (showing : Showing put before text bytes true) where
  -- its ink is in what is shown
  shown_ink : ink_end bytes ≤ length showing.shown
  shown_ink = rw (showing.parts, trim_append_blank showing.shown showing.rest showing.blank) (ink_end_le showing.shown)

  -- so is each of its parts up to the end of the ink
  pub shown_slice : (low high : ℕ) → high ≤ ink_end bytes → slice low high showing.shown ≡ slice low high bytes
  shown_slice low high within =
      sym (ap (drop low) (ap (take high) showing.parts ∙ take-append-le high showing.shown showing.rest (omega (arith, shown_ink))))

-- so the line is tried
pub line_tried : (past : Past) (guess : Guess) (bytes text text₁ text₂ : List ℕ) {text₃ : List ℕ} (start : ℕ) → start ≡ line_start past
    → text₁ ≡ stored_buffer text past.length (front past.any) → text₂ ≡ stored_buffer text₁ start (spaces guess.lead)
    → Showing (puts (window_to (length text) (start + guess.lead) guess.low)) text₂ text₃ bytes true → Tried past guess bytes text text₃
line_tried past guess bytes text text₁ text₂ start here newline lead showing = record {
  kept = tried_kept past guess showing.shown text text₁ text₂ start here newline lead showing.written;
  shown = λ high up within room. rw (← (shown_slice showing guess.low high within))
      (tried_shown past guess showing.shown text text₁ text₂ start here newline lead showing.written high up (omega (arith, shown_ink showing)) room);
}

-- a kept line through its own window, all but blanks at its end
pub cut_shown : (past : Past) (cut : Cut) (bytes text text₁ text₂ : List ℕ) {text₃ : List ℕ} (start : ℕ) → CutFits cut (ink_end bytes) → start ≡ line_start past
    → past.length + length (cut_bytes past cut bytes) ≤ length text
    → text₁ ≡ stored_buffer text past.length (front past.any)
    → text₂ ≡ stored_buffer text₁ start (spaces cut.lead)
    → Showing (puts (record { base = start + cut.lead; low = cut.low; high = cut.high })) text₂ text₃ bytes true
    → text₃ ≡ sets text past.length (cut_bytes past cut bytes)
cut_shown past cut bytes text text₁ text₂ start fit here room newline lead showing =
    let same = shown_slice showing cut.low cut.high fit.within in
    cut_written past cut showing.shown text text₁ text₂ start here (rw same room) newline lead showing.written ∙ rw same

-- ---- the line that pieces start with

-- a line that has ended, if it is kept, and the lines of the pieces behind it
abbrev kept_first : Margins → Before → First → List Line
kept_first margins before first =
    with_line (keeps before first.line.bytes) first.line (kept_lines margins (after margins before first.line.bytes) fresh first.rest)

-- where the line that pieces start with ends, these are the lines kept
first_kept : (margins : Margins) (before : Before) (line : Line) (ps : List Piece) → (first_line margins line ps).ended ≡ true
    → kept_lines margins before line ps ≡ kept_first margins before (first_line margins line ps)
unfolding kept_lines first_line
first_kept margins before line [] ended = true_false (sym ended)
first_kept margins before line (piece ∷ ps) ended =
    by_test (ends margins (length line.bytes) piece) (λ e. rw e) (λ e. rw e (first_kept margins before (add margins line piece) ps (rw e at ended)))

-- ---- the text still to come

-- lines still to come, behind another line or at the text's start
abbrev rest_of : Bool → List (List ℕ) → List ℕ
rest_of true lines = behind lines
rest_of false lines = joined lines

-- a line more
rest_cons : (any : Bool) (line : List ℕ) (lines : List (List ℕ)) → rest_of any (line ∷ lines) ≡ (front any ++ line) ++ behind lines
unfolding behind joined
rest_cons true line lines = refl
rest_cons false line lines = refl

-- no line more
rest_none : (any : Bool) → rest_of any [] ≡ []
unfolding behind joined
rest_none true = refl
rest_none false = refl

-- the lines of the pieces from a spot on, each set
abbrev lines_from : Margins → List ℕ → Before → Spot → List (List ℕ)
lines_from margins list before spot = map (set_line margins) (kept_lines margins before fresh (pieces_at list spot))

-- no piece stands at the list's end
pieces_end : (list : List ℕ) (spot : Spot) → Standing list spot → length list ≤ spot.at → pieces_at list spot ≡ []
unfolding pieces_at cut pieces_of pieces
pieces_end list spot standing past =
    let at : spot.at ≡ spot.end = omega arith in
    rw (at, slice_empty spot.end list, follows_nothing list spot.end (omega arith))

-- ---- the text so far

-- what holds before a line: the text so far with the lines still to come is all of the text
pub record Running (margins : Margins) (list all : List ℕ) (past : Past) (spot : Spot) : Type 0 where
  pub done : List ℕ
  pub long : past.length ≡ length done
  pub rest : all ≡ done ++ rest_of past.any (lines_from margins list (before_of past) spot)
  pub standing : Standing list spot
  pub small : past.length ≤ 4864 * spot.at

-- at the start nothing is set
pub running_start : (margins : Margins) (list : List ℕ) (spot : Spot) → Reached list 0 spot
    → Running margins list (text_of margins (chunks_of list)) (record { length = 0; any = false; blank = false; standalone = false }) spot
unfolding text_of lines_kept
running_start margins list spot reached = record {
  done = [];
  long = refl;
  rest = rw reached.pieces;
  standing = reached.standing;
  small = omega arith;
}

-- at the list's end the text so far is all of it
pub running_done : {margins : Margins} {list all : List ℕ} {past : Past} {spot : Spot} (running : Running margins list all past spot) → length list ≤ spot.at
    → all ≡ running.done
unfolding kept_lines
running_done {list = list} {past = past} {spot = spot} running end =
    running.rest ∙ rw (pieces_end list spot running.standing end, rest_none past.any) (append-nil running.done)

-- so its length was found, and it is no large number
pub running_length : {margins : Margins} {list all : List ℕ} {past : Past} {spot : Spot} → Running margins list all past spot → length list ≤ spot.at → length list ≤ 1048576
    → (past.length ≡ length all) × (past.length < 4503599627370496)
running_length running end short =
    let here = running.standing in
    (rw (running_done running end) running.long, omega (arith, running.small))

-- where lines are written, the buffer starts with the text so far
pub record Holding (margins : Margins) (list all : List ℕ) (past : Past) (spot : Spot) (text : List ℕ) : Type 0 where
  pub running : Running margins list all past spot
  pub held : take past.length text ≡ running.done

-- at the start with nothing
pub holding_start : (margins : Margins) (list text : List ℕ) (spot : Spot) → Reached list 0 spot
    → Holding margins list (text_of margins (chunks_of list)) (record { length = 0; any = false; blank = false; standalone = false }) spot text
unfolding running_start
holding_start margins list text spot reached = record { running = running_start margins list spot reached; held = refl }

-- at the list's end a buffer of the text's length is the text
pub holding_done : {margins : Margins} {list all : List ℕ} {past : Past} {spot : Spot} {text : List ℕ}
    → Holding margins list all past spot text → length list ≤ spot.at → length text ≡ length all → text ≡ all
holding_done {past = past} {text = text} holding end size =
    let whole = running_done holding.running end in
    sym (take_all past.length text (omega (arith, holding.running.long, ap length whole))) ∙ holding.held ∙ sym whole

-- ---- a line more

module _ {margins : Margins} {list all : List ℕ} {past : Past} {spot : Spot}
    (running : Running margins list all past spot) (narrow : Narrow margins) {walked : Walked} (found : LineWalked margins list spot walked) where
  -- the line at the spot
  abbrev line : Line
  line = (line_at margins list spot).line

  -- what its cut says
  says : CutSays margins past line (cut_of margins past walked.measure walked.indent)
  says = cut_says margins narrow past line walked.measure walked.indent found.inked found.indent found.low

  -- the lines from here on are this line, if it is kept, and the lines behind it
  lines_here : {kept : Bool} {before : Before} → keeps (before_of past) line.bytes ≡ kept → after margins (before_of past) line.bytes ≡ before
      → lines_from margins list (before_of past) spot ≡ map (set_line margins) (with_line kept line (kept_lines margins before fresh (pieces_at list walked.spot)))
  unfolding line_at
  lines_here kept before = ap (map (set_line margins)) (first_kept margins (before_of past) fresh (pieces_at list spot) found.ended) ∙ rw (before, kept, found.rest)

  -- the same holds behind a line that is not kept
  pub running_dropped : cut_of margins past walked.measure walked.indent ≡ None → Running margins list all past walked.spot
  running_dropped made =
      let told = rw made at says in
      record {
        done = running.done;
        long = running.long;
        rest = running.rest ∙ ap (λ (lines : List (List ℕ)). running.done ++ rest_of past.any lines) (lines_here told.dropped told.after);
        standing = found.standing;
        small = omega (arith, found.onward, running.small);
      }

  module _ {cut : Cut} (made : cut_of margins past walked.measure walked.indent ≡ Some cut) where
    -- what it says of a kept line
    told : Kept margins past line cut
    told = rw made at says

    -- the bytes that the line adds to the text
    abbrev bytes : List ℕ
    bytes = cut_bytes past cut line.bytes

    -- the lines behind it
    abbrev more : List (List ℕ)
    more = lines_from margins list (before_of (grown_by past cut)) walked.spot

    -- the cut lies within the line
    pub line_fits : CutFits cut (ink_end line.bytes)
    line_fits = told.fits

    -- the numbers of the text and of the cut do not grow large
    pub line_small : length list ≤ 1048576 → (past.length < 4503599627370496) × CutFits cut 4294967296
    line_small short =
        let here = running.standing in
        let there = found.standing in
        let fit = line_fits in (
          omega (arith, running.small),
          record { part = fit.part; within = omega (arith, ink_end_le line.bytes, found.small); small = fit.small },
        )

    -- all of the text
    rest_kept : all ≡ (running.done ++ bytes) ++ behind more
    rest_kept =
        running.rest
        ∙ ap (λ (lines : List (List ℕ)). running.done ++ rest_of past.any lines) (lines_here told.kept told.after)
        ∙ ap (λ (rest : List ℕ). running.done ++ rest) (rest_cons past.any (set_line margins line) more)
        ∙ ap (λ (set : List ℕ). running.done ++ ((front past.any ++ set) ++ behind more)) told.set
        ∙ sym (append_assoc running.done bytes (behind more))

    -- the line has room where all of the text has
    pub line_room : past.length + length bytes ≤ length all
    line_room =
        omega (arith, running.long, ap length rest_kept, length-append (running.done ++ bytes) (behind more), length-append running.done bytes)

    -- the same holds behind it
    pub running_kept : Running margins list all (grown_by past cut) walked.spot
    running_kept =
        let end = cut_end past cut line.bytes line_fits in
        let fit = line_fits in
        record {
          done = running.done ++ bytes;
          long = omega (arith, length-append running.done bytes, running.long);
          rest = rest_kept;
          standing = found.standing;
          small = omega (arith, start_near past, ink_end_le line.bytes, found.small, found.onward, running.small);
        }

  -- ---- the line is written

  module _ {text text₁ : List ℕ} {guess : Guess} (held : take past.length text ≡ running.done) (tried : Tried past guess line.bytes text text₁) where
    -- a line that is not kept leaves the text so far
    pub holding_dropped : cut_of margins past walked.measure walked.indent ≡ None → Holding margins list all past walked.spot text₁
    unfolding running_dropped
    holding_dropped made = record { running = running_dropped made; held = tried.kept ∙ held }

    module _ {cut : Cut} {text₂ : List ℕ} (made : cut_of margins past walked.measure walked.indent ≡ Some cut)
        (mended : text₂ ≡ cond (astray cut guess) (sets text₁ past.length (bytes made)) text₁) (size : length text ≡ length all) (size₁ : length text₁ ≡ length text) where
      -- a kept line stands behind it, as it was guessed or mended
      held_kept : take (grown_by past cut).length text₂ ≡ running.done ++ bytes made
      held_kept =
          let fit = line_fits made in
          let room = line_room made in
          let end = cut_end past cut line.bytes fit in
          by_test (eqb cut.lead guess.lead && eqb cut.low guess.low)
          (λ same.
          let lead = eqb-true cut.lead guess.lead (and_true_left _ _ same) in
          let low = eqb-true cut.low guess.low (and_true_right (eqb cut.lead guess.lead) _ same) in
          let left : text₂ ≡ text₁ = mended ∙ rw same in
          let whole = tried.shown cut.high (omega (arith, fit.part)) fit.within (omega arith) in
          rw (left, ← held) (rw (← lead, ← low) at whole))
          (λ other.
          let anew : text₂ ≡ sets text₁ past.length (bytes made) = mended ∙ rw other in
          let all_of = take_stores text₁ past.length (length (bytes made)) (bytes made) (omega arith) (omega arith) in
          rw (sym end, anew) (all_of ∙ rw (take-length (bytes made), tried.kept, held)))

      -- so the buffer starts with the text behind it
      pub holding_kept : Holding margins list all (grown_by past cut) walked.spot text₂
      unfolding running_kept
      holding_kept = record { running = running_kept made; held = held_kept }
