-- How pieces become lines: document 01, `join_chunks`, sentence by sentence. L is `margins.label`, C is `margins.code`.
use Rattle.std.specs.Prelude.{ℕ, ◌+◌, ◌-◌, List, [], ◌∷◌, ◌++◌, Bool, true, false, cond, not, ◌&&◌, ◌||◌, length, take, drop, ltb, leb, Option, Some, None}
use Rattle.text.specs.Ink.{all_blank, trim_end, spaces}
use Rattle.text.specs.Lines.{has_newline, is_newline}
use Rattle.options.specs.declared.Alignment.{Alignment}
use Rattle.options.specs.declared.Alignment.TheVariants.{Left, Right}
use Rattle.chunks.specs.declared.stored.ChunkType.{ChunkType}
use Rattle.chunks.specs.declared.stored.ChunkType.TheVariants.{Code, Label, Comment}
use Rattle.columns.specs.Pieces.{Piece}
use Rattle.columns.specs.declared.Margins.{Margins}
use Rattle.columns.specs.declared.Follows.{Follows}
use Rattle.columns.specs.declared.Follows.TheVariants.{Nothing, Newline, Other}

-- ---- what a piece adds to a line of n bytes

-- the spaces that bring n bytes to a width
abbrev pub padding : ℕ → ℕ → List ℕ
padding width n = spaces (width - n)

-- "padded to L by the alignment"
abbrev pub aligned : Alignment → ℕ → List ℕ → List ℕ
aligned Left width bytes = bytes ++ padding width (length bytes)
aligned Right width bytes = padding width (length bytes) ++ bytes

-- "Label: if the line is longer than L, add text and a space; else add both, padded to L by the alignment."
abbrev pub labelled : Margins → ℕ → List ℕ → List ℕ
labelled margins n text = cond (ltb margins.label n) (text ++ spaces 1) (aligned margins.alignment margins.label (text ++ spaces 1))

-- "else pad the line to L and add"
abbrev pub coded : Margins → ℕ → List ℕ → List ℕ
coded margins n text = padding margins.label n ++ text

-- "Comment: if the next chunk is exactly a newline, or there is none, pad to L + C and add; else pad to L, add, add a space."
abbrev pub commented : Margins → ℕ → Follows → List ℕ → List ℕ
commented margins n Nothing text = padding (margins.label + margins.code) n ++ text
commented margins n Newline text = padding (margins.label + margins.code) n ++ text
commented margins n Other text = padding margins.label n ++ (text ++ spaces 1)

-- "Code: a lone newline on a nonempty line of length at most L is ignored"
abbrev pub ignored_in : ChunkType → Margins → ℕ → List ℕ → Bool
ignored_in Code margins n text = is_newline text && (ltb 0 n && leb n margins.label)
ignored_in Label margins n text = false
ignored_in Comment margins n text = false

unfoldable pub ignored : Margins → ℕ → Piece → Bool
ignored margins n piece = ignored_in piece.ty margins n piece.text

abbrev pub laid : ChunkType → Margins → ℕ → Piece → List ℕ
laid Label margins n piece = labelled margins n piece.text
laid Code margins n piece = coded margins n piece.text
laid Comment margins n piece = commented margins n piece.follows piece.text

unfoldable pub added : Margins → ℕ → Piece → List ℕ
added margins n piece = cond (ignored margins n piece) [] (laid piece.ty margins n piece)

-- ---- a line: its bytes as laid out, and its indent

pub record Line : Type 0 where
  pub bytes : List ℕ
  pub indent : Option ℕ

abbrev pub fresh : Line
fresh = record { bytes = []; indent = None }

-- "A line takes the indent of the first chunk to start while it is unset."
abbrev pub indent_with : Option ℕ → Piece → Option ℕ
indent_with (Some indent) piece = Some indent
indent_with None piece = cond piece.starts (Some piece.indent) None

-- "the indent is unset until the next chunk; 0 if none comes"
abbrev pub indent_of : Option ℕ → ℕ
indent_of (Some indent) = indent
indent_of None = 0

unfoldable pub add : Margins → Line → Piece → Line
add margins line piece = record {
  bytes = line.bytes ++ added margins (length line.bytes) piece;
  indent = indent_with line.indent piece;
}

abbrev pub is_last : Follows → Bool
is_last Nothing = true
is_last Newline = false
is_last Other = false

-- "A piece with a newline not ignored, or any piece of the last chunk, ends the line."
unfoldable pub ends : Margins → ℕ → Piece → Bool
ends margins n piece = is_last piece.follows || (has_newline piece.text && not (ignored margins n piece))

-- ---- a line that has ended

-- "A line with ink longer than L + C whose first L + C bytes are blank is standalone"
unfoldable pub standalone : Margins → List ℕ → Bool
standalone margins bytes =
    not (all_blank bytes) && (ltb (margins.label + margins.code) (length bytes) && all_blank (take (margins.label + margins.code) bytes))

-- "it becomes L spaces and the remainder"
abbrev pub placed : Margins → List ℕ → List ℕ
placed margins bytes = cond (standalone margins bytes) (spaces margins.label ++ drop (margins.label + margins.code) bytes) bytes

-- "Indent is put in front, trailing blanks cut"
unfoldable pub set_line : Margins → Line → List ℕ
set_line margins line = trim_end (spaces (indent_of line.indent) ++ placed margins line.bytes)

-- what came before a line: whether the last line kept is blank, and whether a standalone comment came last
pub record Before : Type 0 where
  pub blank : Bool
  pub standalone : Bool

abbrev pub at_start : Before
at_start = record { blank = false; standalone = false }

-- "A blank line is kept unless the last line kept is blank or a standalone comment came last."
unfoldable pub keeps : Before → List ℕ → Bool
keeps before bytes = not (all_blank bytes) || not (before.blank || before.standalone)

-- "every other inked line clears that mark"
unfoldable pub after : Margins → Before → List ℕ → Before
after margins before bytes = cond (keeps before bytes) (record { blank = all_blank bytes; standalone = standalone margins bytes }) before

-- ---- the lines kept, of a line so far and the pieces still to come

abbrev pub with_line : Bool → Line → List Line → List Line
with_line kept line lines = cond kept (line ∷ lines) lines

unfoldable pub kept_lines : Margins → Before → Line → List Piece → List Line
kept_lines margins before line [] = []
kept_lines margins before line (piece ∷ pieces) =
    cond (ends margins (length line.bytes) piece)
    (with_line (keeps before (add margins line piece).bytes) (add margins line piece)
    (kept_lines margins (after margins before (add margins line piece).bytes) fresh pieces))
    (kept_lines margins before (add margins line piece) pieces)
