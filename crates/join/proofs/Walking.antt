-- The walk of a line, piece by piece: what holds before each step, and that a step keeps it.
use Rattle.std.specs.Prelude.{Option, Some, None}
use mathlib.Core.Path.{◌≡◌, refl, sym, ap, ◌∙◌}
use mathlib.Core.List.{List, [], ◌++◌, append-nil, append_assoc}
use mathlib.Core.Bool.{Bool, true, false, cond}
use Prim.Native.Nat.{ℕ, ◌+◌, ◌*◌, ◌≤◌, ◌<◌}
use native.Mathlib.Omega.{arith}
use lib.ListN.{length, length-append}
use lib.Dec.{eqb}
use Rattle.text.specs.Ink.{all_blank, leading_blanks, trim_end}
use Rattle.text.proofs.Choices.{by_test, true_false}
use Rattle.columns.specs.Layout.{Line, fresh, add, added, ends, indent_with, indent_of}
use Rattle.join.specs.Walk.{Standing, step_bytes, step_length, Stepped, Measured, LineWalked, pieces_at, piece_at, first_line, line_at, taken, Longer, Ran, Showing, Inked, Fits}
use Rattle.columns.specs.declared.Margins.{Margins}
use Rattle.join.specs.Sinks.{Puts, Writes}
use Rattle.join.specs.declared.piece.Spot.{Spot}
use Rattle.join.specs.declared.piece.Step.{Step}
use Rattle.join.specs.declared.line.Measure.{Measure}
use Rattle.join.proofs.Measures.{inked_behind}
use Rattle.join.proofs.Windows.{step_count}

-- a line that was walked from its spot up to another: its rest goes on from there, or it has ended there
pub record Walking (margins : Margins) (list : List ℕ) (spot : Spot) (line : Line) (here : Spot) (ended : Bool) : Type 0 where
  pub left : line_at margins list spot ≡ cond ended (record { line = line; rest = pieces_at list here; ended = true }) (first_line margins line (pieces_at list here))
  pub standing : Standing list here
  pub more : ended ≡ false → here.at < length list
  pub onward : ended ≡ true → spot.at < here.at
  pub small : length line.bytes + 512 * spot.at ≤ 512 * here.at
  pub low : indent_of line.indent ≤ 4096

-- before the first step the line is fresh
pub walking_start : (margins : Margins) (list : List ℕ) (spot : Spot) → Standing list spot → spot.at < length list → Walking margins list spot fresh spot false
unfolding line_at
walking_start margins list spot standing some = record {
  left = refl;
  standing = standing;
  more = λ _. some;
  onward = λ e. true_false (sym e);
  small = omega arith;
  low = omega arith;
}

-- an indent that a line takes is that of the line or of the spot
taken_low : (indent : Option ℕ) (spot : Spot) → indent_of indent ≤ 4096 → spot.indent ≤ 4096 → indent_of (taken indent spot) ≤ 4096
taken_low (Some n) spot low small = low
taken_low None spot low small = by_test (eqb spot.at spot.start) (λ q. rw q small) (λ q. rw q (omega arith))

-- a line with the piece at a spot more
abbrev pub longer : Margins → List ℕ → Line → Spot → Line
longer margins list line here = add margins line (piece_at list here)

-- the piece at a spot leaves the indent that the spot does
piece_indent : (list : List ℕ) (here : Spot) (indent : Option ℕ) → indent_with indent (piece_at list here) ≡ taken indent here
unfolding piece_at
piece_indent list here (Some n) = refl
piece_indent list here None = refl

-- so does the longer line
longer_indent : (margins : Margins) (list : List ℕ) (line : Line) (here : Spot) → (longer margins list line here).indent ≡ taken line.indent here
unfolding add
longer_indent margins list line here = piece_indent list here line.indent

module _ {margins : Margins} {list : List ℕ} {spot here : Spot} {line : Line} {n : ℕ} {step : Step} (walking : Walking margins list spot line here false)
    (long : n ≡ length line.bytes) (stepped : Stepped margins list here n step) where
  -- the longer line's bytes are the line's and the step's, and blanks that the step leaves out
  longer_bytes : (longer margins list line here).bytes ≡ (line.bytes ++ step_bytes step) ++ stepped.rest
  unfolding add
  longer_bytes = rw (← long, stepped.bytes) (sym (append_assoc line.bytes (step_bytes step) stepped.rest))

  -- none where the line goes on
  longer_all : step.ends ≡ false → (longer margins list line here).bytes ≡ line.bytes ++ step_bytes step
  longer_all goes = longer_bytes ∙ ap (λ (rest : List ℕ). (line.bytes ++ step_bytes step) ++ rest) (stepped.all goes) ∙ append-nil (line.bytes ++ step_bytes step)

  -- how many they are
  longer_length : length (longer margins list line here).bytes ≡ n + step_length step + length stepped.rest
  longer_length =
      rw (longer_bytes, length-append (line.bytes ++ step_bytes step) stepped.rest, length-append line.bytes (step_bytes step), step_count step, long)

  -- few enough that sums do not wrap
  pub step_room : length list ≤ 1048576 → n + step_length step < 4294967296
  step_room short = omega (arith, walking.small, stepped.small, stepped.standing.within, stepped.standing.inside)

  -- a step keeps the walk
  walking_on : Walking margins list spot (longer margins list line here) step.spot step.ends
  unfolding first_line
  walking_on = record {
    left = walking.left ∙ rw (stepped.pieces, ← long, stepped.ends);
    standing = stepped.standing;
    more = stepped.more;
    onward = λ _. omega (arith, walking.small, stepped.onward);
    small = omega (arith, walking.small, stepped.small, stepped.onward, longer_length);
    low = rw (longer_indent margins list line here) (taken_low line.indent here walking.low walking.standing.small);
  }

-- where the walk has ended its line is the line at the spot
walking_end : {margins : Margins} {list : List ℕ} {spot here : Spot} {line : Line} {ended : Bool} → Walking margins list spot line here ended → ended ≡ true
    → line_at margins list spot ≡ record { line = line; rest = pieces_at list here; ended = true }
walking_end walking e = walking.left ∙ rw e

-- ---- what is given on of a line

-- of an open line all is
showing_open : {put : Puts} {before text bytes : List ℕ} → Showing put before text bytes false → text ≡ put before 0 bytes
showing_open showing = showing.written ∙ rw (showing.parts, showing.all refl, append-nil showing.shown)

-- a step gives its bytes on, and leaves blanks out only where the line ends
showing_on : {put : Puts} {before text text' : List ℕ} (bytes more : List ℕ) {rest : List ℕ} {n : ℕ} {ended : Bool}
    → Writes put → text ≡ put before 0 bytes → n ≡ length bytes
    → text' ≡ put text n more → all_blank rest ≡ true → (ended ≡ false → rest ≡ []) → Showing put before text' ((bytes ++ more) ++ rest) ended
showing_on {before = before} bytes more {rest = rest} {n = n} writes written long writ blank all =
    let end : 0 + length bytes ≡ n = omega (arith, long) in
    record {
      shown = bytes ++ more;
      rest = rest;
      parts = refl;
      blank = blank;
      all = all;
      written = writ ∙ sym (writes.more before 0 bytes more ∙ rw (end, written));
    }

-- where a line has ended
showing_end : {put : Puts} {before text bytes : List ℕ} {ended : Bool} → Showing put before text bytes ended → ended ≡ true
    → Showing put before text bytes true
showing_end showing e = rw e at showing

-- ---- chunks without a newline

-- no chunk leaves the line as it is
pub ran_start : (margins : Margins) (list : List ℕ) (spot : Spot) (put : Puts) (text : List ℕ) (measure : Measure) (indent : Option ℕ)
    → Writes put → Standing list spot → spot.at < length list → measure.leading ≤ measure.length → Ran margins list spot put text text measure indent measure spot
ran_start margins list spot put text measure indent writes standing some fits = record {
  more = [];
  longer = λ line _ e. record { indent = line.indent; takes = e; left = rw (append-nil line.bytes) };
  measured = λ bytes known. rw (append-nil bytes) known;
  long = omega arith;
  fits = fits;
  standing = standing;
  some = some;
  onward = omega arith;
  small = omega arith;
  written = sym (writes.none text measure.length);
}

module _ {margins : Margins} {list : List ℕ} {spot here : Spot} {put : Puts} {before text : List ℕ} {measure reached : Measure} {step : Step} (n : ℕ)
    (ran : Ran margins list spot put before text measure (Some n) reached here) (stepped : Stepped margins list here reached.length step) where
  -- a step's bytes fit
  pub run_fits : measure.length ≤ 512 * spot.at → length list ≤ 1048576 → Fits reached (step_length step)
  run_fits near short = record {
    leading = ran.fits;
    small = omega (arith, ran.small, stepped.small, stepped.onward, stepped.standing.within, stepped.standing.inside);
  }

  -- with a step more the line is the longer one
  longer_on : step.ends ≡ false → (line : Line) → length line.bytes ≡ measure.length → taken line.indent spot ≡ Some n
      → Longer margins list line spot (ran.more ++ step_bytes step) step.spot (Some n)
  unfolding first_line add
  longer_on goes line long e =
      let on = ran.longer line long e in
      let all : length (line.bytes ++ ran.more) ≡ reached.length = omega (arith, length-append line.bytes ran.more, ran.long) in
      let adds : added margins reached.length (piece_at list here) ≡ step_bytes step =
      stepped.bytes ∙ ap (λ (rest : List ℕ). step_bytes step ++ rest) (stepped.all goes) ∙ append-nil (step_bytes step) in
      let ongoing : ends margins reached.length (piece_at list here) ≡ false = sym stepped.ends ∙ goes in
      record {
        indent = Some n;
        takes = refl;
        left = on.left ∙ rw (stepped.pieces, all, ongoing, adds, piece_indent list here on.indent, on.takes, append_assoc line.bytes ran.more (step_bytes step));
      }

  -- so it ran on
  pub ran_on : {reached' : Measure} {text' : List ℕ} → Writes put → step.ends ≡ false → text' ≡ put text reached.length (step_bytes step)
      → ((bytes : List ℕ) → Measured reached bytes → Measured reached' (bytes ++ step_bytes step))
      → reached'.length ≡ reached.length + step_length step → reached'.leading ≤ reached'.length
      → Ran margins list spot put before text' measure (Some n) reached' step.spot
  ran_on writes goes writ counted long fits =
      record {
        more = ran.more ++ step_bytes step;
        longer = longer_on goes;
        measured = λ bytes known. rw (append_assoc bytes ran.more (step_bytes step)) at (counted (bytes ++ ran.more) (ran.measured bytes known));
        long = omega (arith, length-append ran.more (step_bytes step), ran.long, step_count step);
        fits = fits;
        standing = stepped.standing;
        some = stepped.more goes;
        onward = omega (arith, ran.onward, stepped.onward);
        small = omega (arith, ran.small, stepped.small, stepped.onward);
        written = writ ∙ sym (writes.more before measure.length ran.more (step_bytes step) ∙ rw (← ran.long, ran.written));
      }

-- an indent is not less with a piece more
taken_more : (indent : Option ℕ) (spot : Spot) → indent_of indent ≤ indent_of (taken indent spot)
taken_more (Some n) spot = omega arith
taken_more None spot = omega arith

-- ---- the turns of the walk

-- before a turn the measures and the indent are those of the line so far, which was given on
pub record Placing (margins : Margins) (list : List ℕ) (spot : Spot) (put : Puts) (before text : List ℕ) (measure : Measure) (indent : Option ℕ) (here : Spot) (ended : Bool) : Type 0 where
  pub line : Line
  pub walking : Walking margins list spot line here ended
  pub measured : ended ≡ false → Measured measure line.bytes
  pub inked : Inked measure line.bytes
  pub takes : indent ≡ line.indent
  pub fits : measure.leading ≤ measure.length
  pub showing : Showing put before text line.bytes ended

-- a fresh line measures nothing, and nothing of it is given on
pub placing_start : (margins : Margins) (list : List ℕ) (spot : Spot) (put : Puts) (text : List ℕ) → Writes put → Standing list spot → spot.at < length list
    → Placing margins list spot put text text (record { length = 0; leading = 0; ink_end = 0 }) None spot false
unfolding leading_blanks trim_end all_blank
placing_start margins list spot put text writes standing some = record {
  line = fresh;
  walking = walking_start margins list spot standing some;
  measured = λ _. record { length = refl; leading = refl; end = refl };
  inked = record { end = refl; leading = λ _. refl };
  takes = refl;
  fits = omega arith;
  showing = record { shown = []; rest = []; parts = refl; blank = refl; all = λ _. refl; written = sym (writes.none text 0) };
}

-- in the middle of a turn the indent is that of the line with the piece to come
pub record Pausing (margins : Margins) (list : List ℕ) (spot : Spot) (put : Puts) (before text : List ℕ) (measure : Measure) (indent : Option ℕ) (here : Spot) : Type 0 where
  pub line : Line
  pub walking : Walking margins list spot line here false
  pub measured : Measured measure line.bytes
  pub takes : indent ≡ taken line.indent here
  pub fits : measure.leading ≤ measure.length
  pub written : text ≡ put before 0 line.bytes

-- the turn starts with that
pub pausing_start : {margins : Margins} {list : List ℕ} {spot here : Spot} {put : Puts} {before text : List ℕ} {measure : Measure} {indent indent' : Option ℕ}
    → Placing margins list spot put before text measure indent here false → indent' ≡ taken indent here → Pausing margins list spot put before text measure indent' here
pausing_start {here = here} placing takes = record {
  line = placing.line;
  walking = placing.walking;
  measured = placing.measured refl;
  takes = takes ∙ ap (λ (indent : Option ℕ). taken indent here) placing.takes;
  fits = placing.fits;
  written = showing_open placing.showing;
}

-- the line is no longer than the list has bytes for
pub pausing_short : {margins : Margins} {list : List ℕ} {spot here : Spot} {put : Puts} {before text : List ℕ} {measure : Measure} {indent : Option ℕ}
    → Pausing margins list spot put before text measure indent here → measure.length ≤ 512 * here.at
pausing_short pausing = omega (arith, pausing.measured.length, pausing.walking.small)

-- a run goes on within a turn
pub pausing_run : {margins : Margins} {list : List ℕ} {spot here there : Spot} {put : Puts} {before text text' : List ℕ} {measure reached : Measure} {indent : Option ℕ}
    → Writes put → Pausing margins list spot put before text measure indent here → Ran margins list here put text text' measure indent reached there
    → Pausing margins list spot put before text' reached indent there
pausing_run {here = here} {there = there} {before = before} {measure = measure} writes pausing ran =
    let line = pausing.line in
    let walking = pausing.walking in
    let on = ran.longer line (sym pausing.measured.length) (sym pausing.takes) in
    let all : 0 + length line.bytes ≡ measure.length = omega (arith, pausing.measured.length) in
    record {
      line = record { bytes = line.bytes ++ ran.more; indent = on.indent };
      walking = record {
        left = walking.left ∙ on.left;
        standing = ran.standing;
        more = λ _. ran.some;
        onward = λ e. true_false (sym e);
        small = omega (arith, length-append line.bytes ran.more, walking.small, ran.small, ran.long, pausing.measured.length);
        low = omega (arith, taken_more on.indent there, ap indent_of (on.takes ∙ pausing.takes), taken_low line.indent here walking.low walking.standing.small);
      };
      measured = ran.measured line.bytes pausing.measured;
      takes = sym on.takes;
      fits = ran.fits;
      written = ran.written ∙ sym (writes.more before 0 line.bytes ran.more ∙ rw (all, pausing.written));
    }

module _ {margins : Margins} {list : List ℕ} {spot here : Spot} {put : Puts} {before text : List ℕ} {measure : Measure} {indent : Option ℕ} {step : Step}
    (pausing : Pausing margins list spot put before text measure indent here) (stepped : Stepped margins list here measure.length step) where
  -- a step's bytes fit
  pub pausing_fits : length list ≤ 1048576 → Fits measure (step_length step)
  pausing_fits short = record { leading = pausing.fits; small = step_room pausing.walking pausing.measured.length stepped short }

  -- a step ends the turn
  pub pausing_on : {text' : List ℕ} {measure' : Measure} → Writes put → text' ≡ put text measure.length (step_bytes step)
      → ((bytes : List ℕ) → Measured measure bytes → Measured measure' (bytes ++ step_bytes step)) → measure'.leading ≤ measure'.length
      → Placing margins list spot put before text' measure' indent step.spot step.ends
  pausing_on writes writ counted fits =
      let line = pausing.line in
      let long = pausing.measured.length in
      record {
        line = longer margins list line here;
        walking = walking_on pausing.walking long stepped;
        measured = λ goes. rw (longer_all pausing.walking long stepped goes) (counted line.bytes pausing.measured);
        inked = rw (longer_bytes pausing.walking long stepped) (inked_behind stepped.rest (counted line.bytes pausing.measured) stepped.blank);
        takes = pausing.takes ∙ sym (longer_indent margins list line here);
        fits = fits;
        showing = rw (longer_bytes pausing.walking long stepped) (showing_on line.bytes (step_bytes step) writes pausing.written long writ stepped.blank stepped.all);
      }

  -- also where it adds nothing
  pub pausing_empty : Writes put → step_bytes step ≡ [] → Placing margins list spot put before text measure indent step.spot step.ends
  pausing_empty writes none =
      pausing_on writes (rw none (sym (writes.none text measure.length))) (λ bytes known. rw (none, append-nil bytes) known) pausing.fits

module _ {margins : Margins} {list : List ℕ} {spot here : Spot} {put : Puts} {before text : List ℕ} {measure : Measure} {indent : Option ℕ} {ended : Bool}
    (placing : Placing margins list spot put before text measure indent here ended) (e : ended ≡ true) where
  -- at its end the line is measured
  pub placing_walked : {n : ℕ} → n ≡ indent_of indent → LineWalked margins list spot (record { measure = measure; indent = n; spot = here })
  placing_walked amount =
      let walking = placing.walking in
      let line = walking_end walking e in
      let same : indent_of placing.line.indent ≡ _ = ap indent_of (sym placing.takes) ∙ sym amount in
      record {
        inked = rw line placing.inked;
        indent = rw line (sym same);
        rest = rw line;
        ended = rw line;
        standing = walking.standing;
        onward = walking.onward e;
        small = rw line walking.small;
        low = omega (arith, same, walking.low);
      }

  -- and all of it but blanks was given on
  pub placing_shown : Showing put before text (line_at margins list spot).line.bytes true
  placing_shown = rw (walking_end placing.walking e) (showing_end placing.showing e)
