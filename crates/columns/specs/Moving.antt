-- When a label moves down. In one sentence, for tutors:
-- a label that stands alone on its line moves down onto the line of what comes next, over any number of blank lines, just when it is shorter than the label margin.
-- "Alone" means that nothing else came on the line but, behind the label, lone newlines of code. "Shorter" leaves room for the space behind the label.
use Rattle.std.specs.Prelude.{◌+◌, List, [], ◌∷◌, Bool, true, false, not, ◌&&◌, length, leb}
use Rattle.chunks.specs.declared.stored.ChunkType.{ChunkType}
use Rattle.chunks.specs.declared.stored.ChunkType.TheVariants.{Code, Label, Comment}
use Rattle.text.specs.Lines.{is_newline}
use Rattle.columns.specs.Pieces.{Piece}
use Rattle.columns.specs.Layout.{Line, fresh, add, ends}
use Rattle.columns.specs.declared.Margins.{Margins}

-- ---- the line that pieces make

unfoldable pub line_on : Margins → Line → List Piece → Line
line_on margins line [] = line
line_on margins line (piece ∷ pieces) = line_on margins (add margins line piece) pieces

-- pieces added in order to a fresh line
abbrev pub line_of : Margins → List Piece → Line
line_of margins pieces = line_on margins fresh pieces

unfoldable pub open_on : Margins → Line → List Piece → Bool
open_on margins line [] = true
open_on margins line (piece ∷ pieces) = not (ends margins (length line.bytes) piece) && open_on margins (add margins line piece) pieces

-- none of them ended it
abbrev pub still_open : Margins → List Piece → Bool
still_open margins pieces = open_on margins fresh pieces

-- ---- a label alone

abbrev pub is_label : ChunkType → Bool
is_label Code = false
is_label Label = true
is_label Comment = false

abbrev pub is_code : ChunkType → Bool
is_code Code = true
is_code Label = false
is_code Comment = false

-- code that is exactly a newline
abbrev pub lone_newline : Piece → Bool
lone_newline piece = is_code piece.ty && is_newline piece.text

unfoldable pub all_newlines : List Piece → Bool
all_newlines [] = true
all_newlines (piece ∷ pieces) = lone_newline piece && all_newlines pieces

-- a label that fits in the label margin with a space behind it, and nothing but lone newlines behind that
unfoldable pub one_label_alone : Margins → List Piece → Bool
one_label_alone margins [] = false
one_label_alone margins (piece ∷ pieces) = is_label piece.ty && (leb (length piece.text + 1) margins.label && all_newlines pieces)
