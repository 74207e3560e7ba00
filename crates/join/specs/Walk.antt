-- Not part of any promise of this crate: what its inner functions hand on, in terms of places in the stored list and of measures of a line.
use Rattle.std.specs.Prelude.{ℕ, ◌+◌, ◌-◌, ◌*◌, ◌≤◌, ◌<◌, min, ◌≡◌, List, [], ◌∷◌, ◌++◌, Bool, true, false, Option, Some, None, cond, not, ◌&&◌, ◌||◌, length, get_or, take, eqb, ltb, leb}
use Rattle.std.proofs.Math.Seq.{slice}
use Rattle.text.specs.Characters as characters
use Rattle.text.specs.Ink.{all_blank, leading_blanks, ink_end, spaces}
use Rattle.text.specs.Lines.{newline_at}
use Rattle.options.specs.declared.Alignment.{Alignment}
use Rattle.options.specs.declared.Alignment.TheVariants.{Left, Right}
use Rattle.chunks.specs.Reading.{stored_chunks, chunks_at}
use Rattle.chunks.specs.Judging.{end_from}
use Rattle.chunks.specs.declared.stored.ChunkType.{ChunkType}
use Rattle.chunks.specs.declared.stored.ChunkType.TheVariants.{Code, Label, Comment}
use Rattle.columns.specs.Pieces.{Piece, cut, pieces_of, pieces, following}
use Rattle.columns.specs.Layout.{Line, fresh, indent_of, add, added, ends}
use Rattle.columns.specs.declared.Margins.{Margins}
use Rattle.columns.specs.declared.Follows.{Follows}
use Rattle.columns.specs.declared.Follows.TheVariants.{Nothing, Newline, Other}
use Rattle.join.specs.declared.piece.Spot.{Spot}
use Rattle.join.specs.declared.piece.Lay.{Lay}
use Rattle.join.specs.declared.piece.Step.{Step}
use Rattle.join.specs.declared.line.Measure.{Measure}
use Rattle.join.specs.declared.sink.Window.{Window}
use Rattle.join.specs.Sinks.{Puts}
use Rattle.join.specs.declared.line.Walked.{Walked}
use Rattle.join.specs.declared.lines.Past.{Past}
use Rattle.join.specs.declared.lines.Cut.{Cut}
use Rattle.join.specs.declared.lines.Guess.{Guess}

-- margins are bytes
pub record Narrow (margins : Margins) : Type 0 where
  pub label : margins.label ≤ 255
  pub code : margins.code ≤ 255

-- ---- places in a list that was judged

-- from a place on, the list is chunks end to end
abbrev pub Laid : List ℕ → ℕ → Type 0
Laid list place = end_from place (stored_chunks list place) ≡ length list

-- a spot in a judged list: in a chunk's text, or at the list's end
pub record Standing (list : List ℕ) (spot : Spot) : Type 0 where
  pub from : spot.start ≤ spot.at
  pub some : spot.at < length list → spot.at < spot.end
  pub inside : spot.end ≤ length list
  pub within : spot.at ≤ spot.end
  pub small : spot.indent ≤ 4096
  pub laid : Laid list spot.end

-- a spot in the text of a chunk
pub record Inside (list : List ℕ) (spot : Spot) : Type 0 where
  pub standing : Standing list spot
  pub some : spot.at < length list

-- the pieces from a spot on
unfoldable pub pieces_at : List ℕ → Spot → List Piece
pieces_at list spot =
    pieces_of spot.ty spot.indent (eqb spot.at spot.start) (following (chunks_at list spot.end)) (cut (slice spot.at spot.end list))
    ++ pieces (chunks_at list spot.end)

-- the spot of the chunk at a place
pub record Reached (list : List ℕ) (place : ℕ) (spot : Spot) : Type 0 where
  pub pieces : pieces_at list spot ≡ pieces (chunks_at list place)
  pub standing : Standing list spot
  pub onward : place ≤ spot.at
  pub over : length list ≤ place → spot.at ≡ place
  pub more : place < length list → spot.at < length list

-- the length of a text's first piece
abbrev pub piece_length : List ℕ → ℕ
piece_length bytes = min (newline_at bytes + 1) (length bytes)

-- the first piece at a spot
unfoldable pub piece_at : List ℕ → Spot → Piece
piece_at list spot = record {
  ty = spot.ty;
  indent = spot.indent;
  starts = eqb spot.at spot.start;
  text = slice spot.at (spot.at + piece_length (slice spot.at spot.end list)) list;
  follows = following (chunks_at list spot.end);
}

-- the spot behind a piece of a chunk
pub record Passed (list : List ℕ) (spot : Spot) (end : ℕ) (behind : Spot) : Type 0 where
  pub pieces : pieces_at list behind ≡ pieces_of spot.ty spot.indent false (following (chunks_at list spot.end)) (cut (slice end spot.end list)) ++ pieces (chunks_at list spot.end)
  pub standing : Standing list behind
  pub onward : end ≤ behind.at
  pub over : length list ≤ end → behind.at ≡ end
  pub more : end < length list → behind.at < length list

-- ---- how a piece of `count` bytes is laid on a line of n bytes

abbrev pub lay_aligned : Alignment → ℕ → Lay
lay_aligned Left pad = record { before = 0; behind = 1 + pad; ignored = false }
lay_aligned Right pad = record { before = pad; behind = 1; ignored = false }

abbrev pub lay_label : Margins → ℕ → ℕ → Lay
lay_label margins n count =
    cond (ltb margins.label n) (record { before = 0; behind = 1; ignored = false }) (lay_aligned margins.alignment (margins.label - (count + 1)))

abbrev pub lay_code : Margins → ℕ → Bool → Lay
lay_code margins n lone_newline =
    cond (lone_newline && (ltb 0 n && leb n margins.label)) (record { before = 0; behind = 0; ignored = true })
    (record { before = margins.label - n; behind = 0; ignored = false })

abbrev pub lay_comment : Margins → ℕ → Follows → Lay
lay_comment margins n Nothing = record { before = margins.label + margins.code - n; behind = 0; ignored = false }
lay_comment margins n Newline = record { before = margins.label + margins.code - n; behind = 0; ignored = false }
lay_comment margins n Other = record { before = margins.label - n; behind = 1; ignored = false }

abbrev pub lay_of : Margins → ChunkType → ℕ → ℕ → Bool → Follows → Lay
lay_of margins Label n count newline follows = lay_label margins n count
lay_of margins Code n count newline follows = lay_code margins n (eqb count 1 && newline)
lay_of margins Comment n count newline follows = lay_comment margins n follows

-- a lone newline of code, with another chunk behind it
pub record LoneNewline (list : List ℕ) (spot : Spot) : Type 0 where
  pub code : spot.ty ≡ Code
  pub one : spot.end - spot.at ≡ 1
  pub newline : get_or list spot.at 0 ≡ characters.newline
  pub more : spot.end < length list

-- the bytes of a step
abbrev pub step_bytes : Step → List ℕ
step_bytes step = spaces step.before ++ (step.text.now ++ spaces step.behind)

-- how many these are
abbrev pub step_length : Step → ℕ
step_length step = step.before + length step.text.now + step.behind

-- a step over the piece at a spot, on a line of n bytes. Where it ends the line it may leave blanks out, which are cut in any case.
pub record Stepped (margins : Margins) (list : List ℕ) (spot : Spot) (n : ℕ) (step : Step) : Type 0 where
  pub rest : List ℕ
  pub bytes : added margins n (piece_at list spot) ≡ step_bytes step ++ rest
  pub blank : all_blank rest ≡ true
  pub all : step.ends ≡ false → rest ≡ []
  pub ends : step.ends ≡ ends margins n (piece_at list spot)
  pub pieces : pieces_at list spot ≡ piece_at list spot ∷ pieces_at list step.spot
  pub standing : Standing list step.spot
  pub onward : spot.at < step.spot.at
  pub more : step.ends ≡ false → step.spot.at < length list
  pub small : step_length step + length rest ≤ 512 * (step.spot.at - spot.at)

-- the rest of the chunk at a spot has no newline, and another chunk follows
pub record Whole (list : List ℕ) (spot : Spot) : Type 0 where
  pub more : spot.end < length list
  pub plain : ltb (newline_at (slice spot.at spot.end list)) (spot.end - spot.at) ≡ false

-- ---- a line by its measures

pub record Measured (measure : Measure) (bytes : List ℕ) : Type 0 where
  pub length : measure.length ≡ length bytes
  pub leading : measure.leading ≡ leading_blanks bytes
  pub end : measure.ink_end ≡ ink_end bytes

-- what the cut of a line looks at: where its ink ends, and where the ink starts if there is any
pub record Inked (measure : Measure) (bytes : List ℕ) : Type 0 where
  pub end : measure.ink_end ≡ ink_end bytes
  pub leading : all_blank bytes ≡ false → measure.leading ≡ leading_blanks bytes

-- room for `count` bytes more
pub record Fits (measure : Measure) (count : ℕ) : Type 0 where
  pub leading : measure.leading ≤ measure.length
  pub small : measure.length + count < 4294967296

-- the indent with the piece at a spot: a chunk that starts while it is unset sets it
abbrev pub taken : Option ℕ → Spot → Option ℕ
taken (Some indent) spot = Some indent
taken None spot = cond (eqb spot.at spot.start) (Some spot.indent) None

-- the line that pieces start with, whether it ends in them, and the pieces behind it
pub record First : Type 0 where
  pub line : Line
  pub rest : List Piece
  pub ended : Bool

unfoldable pub first_line : Margins → Line → List Piece → First
first_line margins line [] = record { line = line; rest = []; ended = false }
first_line margins line (piece ∷ pieces) =
    cond (ends margins (length line.bytes) piece)
    (record { line = add margins line piece; rest = pieces; ended = true })
    (first_line margins (add margins line piece) pieces)

-- the line at a spot
unfoldable pub line_at : Margins → List ℕ → Spot → First
line_at margins list spot = first_line margins fresh (pieces_at list spot)

-- its bytes
abbrev pub bytes_at : Margins → List ℕ → Spot → List ℕ
bytes_at margins list spot = (line_at margins list spot).line.bytes

-- what the walk of a line finds
pub record LineWalked (margins : Margins) (list : List ℕ) (spot : Spot) (walked : Walked) : Type 0 where
  pub inked : Inked walked.measure (line_at margins list spot).line.bytes
  pub indent : walked.indent ≡ indent_of (line_at margins list spot).line.indent
  pub rest : pieces_at list walked.spot ≡ (line_at margins list spot).rest
  pub ended : (line_at margins list spot).ended ≡ true
  pub standing : Standing list walked.spot
  pub onward : spot.at < walked.spot.at
  pub small : length (line_at margins list spot).line.bytes + 512 * spot.at ≤ 512 * walked.spot.at
  pub low : walked.indent ≤ 4096

-- a line that went on from a spot by more bytes and is still open, with the indent that it has when the next piece is added
pub record Longer (margins : Margins) (list : List ℕ) (line : Line) (spot : Spot) (more : List ℕ) (here : Spot) (taken-there : Option ℕ) : Type 0 where
  pub indent : Option ℕ
  pub takes : taken indent here ≡ taken-there
  pub left : first_line margins line (pieces_at list spot) ≡ first_line margins (record { bytes = line.bytes ++ more; indent = indent }) (pieces_at list here)

-- ---- a line that is given on while it is walked

-- a line that is open at a spot, whichever it is, went on to another by chunks without a newline, and these were given on
pub record Ran (margins : Margins) (list : List ℕ) (spot : Spot) (put : Puts) (before text : List ℕ) (measure : Measure) (indent : Option ℕ) (reached : Measure) (here : Spot) : Type 0 where
  pub more : List ℕ
  pub longer : (line : Line) → length line.bytes ≡ measure.length → taken line.indent spot ≡ indent → Longer margins list line spot more here indent
  pub measured : (bytes : List ℕ) → Measured measure bytes → Measured reached (bytes ++ more)
  pub long : reached.length ≡ measure.length + length more
  pub fits : reached.leading ≤ reached.length
  pub standing : Standing list here
  pub some : here.at < length list
  pub onward : spot.at ≤ here.at
  pub small : reached.length + 512 * spot.at ≤ measure.length + 512 * here.at
  pub written : text ≡ put before measure.length more

-- a line was given on, but for blanks at its end where it has ended
pub record Showing (put : Puts) (before text bytes : List ℕ) (ended : Bool) : Type 0 where
  pub shown : List ℕ
  pub rest : List ℕ
  pub parts : bytes ≡ shown ++ rest
  pub blank : all_blank rest ≡ true
  pub all : ended ≡ false → rest ≡ []
  pub written : text ≡ put before 0 shown

-- ---- the text so far, and a line that is set behind it

-- how an ended line is set, if it is kept
abbrev pub cut_of : Margins → Past → Measure → ℕ → Option Cut
cut_of margins past measure indent =
    cond (eqb measure.ink_end 0)
    (cond (past.blank || past.standalone) None (Some (record { standalone = false; lead = 0; low = 0; high = 0 })))
    (cond (leb (margins.label + margins.code) measure.leading)
    (Some (record { standalone = true; lead = indent + margins.label; low = margins.label + margins.code; high = measure.ink_end }))
    (Some (record { standalone = false; lead = indent; low = 0; high = measure.ink_end })))

abbrev pub line_start : Past → ℕ
line_start past = cond past.any (past.length + 1) past.length

abbrev pub grown_by : Past → Cut → Past
grown_by past cut =
    record { length = line_start past + cut.lead + (cut.high - cut.low); any = true; blank = eqb cut.high 0; standalone = cut.standalone }

-- a newline goes before each line but the first
abbrev pub front : Bool → List ℕ
front true = characters.newline ∷ []
front false = []

-- the bytes that a kept line adds to the text
abbrev pub cut_bytes : Past → Cut → List ℕ → List ℕ
cut_bytes past cut bytes = front past.any ++ (spaces cut.lead ++ slice cut.low cut.high bytes)

-- numbers that a cut keeps within a line of n bytes
pub record CutFits (cut : Cut) (n : ℕ) : Type 0 where
  pub part : cut.low ≤ cut.high
  pub within : cut.high ≤ n
  pub small : cut.lead ≤ 4351

-- ---- a line that is written while it is walked, where it is guessed to stand

-- the window from a place of a text to its end; where there is none it shows nothing
abbrev pub window_to : ℕ → ℕ → ℕ → Window
window_to room base low =
    cond (leb base room) (record { base = base; low = low; high = low + (room - base) }) (record { base = 0; low = 0; high = 0 })

-- the text so far is left, and behind it stands the line as guessed, up to any place in it that has room and is not behind its ink
pub record Tried (past : Past) (guess : Guess) (bytes before text : List ℕ) : Type 0 where
  pub kept : take past.length text ≡ take past.length before
  pub shown : (high : ℕ) → guess.low ≤ high → high ≤ ink_end bytes → line_start past + guess.lead + (high - guess.low) ≤ length before
      → take (line_start past + guess.lead + (high - guess.low)) text
      ≡ take past.length before ++ (front past.any ++ (spaces guess.lead ++ slice guess.low high bytes))

-- a kept line stands elsewhere than was guessed
abbrev pub astray : Cut → Guess → Bool
astray cut guess = not (eqb cut.lead guess.lead && eqb cut.low guess.low)
