-- The chunks of sample trees, as one table: the definition's events hold the chunks that the Rust's formatter gives for the same tree and options.
--   rows_held : map found rows ≡ map wanted rows
-- And where the Rust's formatter puts a newline between two tokens, for every pair of kinds.
--   breaks_held : map (λ previous. map (break_digit previous) kinds) kinds ≡ map ascii break_rows
use Rattle.std.specs.Prelude.{Err}
use Rattle.answers.specs.Numbers.{no_refusal, Checked}
use Prim.Native.Nat.{ℕ}
use Prim.Native.String.{String}
use mathlib.Core.Path.{◌≡◌, refl}
use mathlib.Core.List.{List, [], ◌∷◌, map, reverse}
use mathlib.Core.Bool.{true, false, cond}
use Rattle.options.specs.Types.{options_of}
use Rattle.options.specs.Casings.{cased}
use Rattle.options.specs.declared.FormattingOptions.{FormattingOptions}
use Rattle.text.specs.Lines.{is_newline}
use Rattle.chunks.specs.Stored.{Chunk, stored_indent, stored_head, stored_chunk}
use Rattle.chunks.specs.declared.stored.ChunkType.TheVariants as variant
use Rattle.tree.specs.Tree.{built, chain}
use Rattle.tree.specs.Own.{fields_fit, map_fits, sized_end, trivium_end, trivia_end, trivia_read, text_end, rest_of, own_at, read_own}
use Rattle.tree.specs.Reading.{trivia_from, fields_due, parts_due, read_parts, read}
use Rattle.tree.specs.Checking.{read_file}
use Rattle.printing.specs.Holding.{Held, held, refused, held_length, without_newlines, hold}
use Rattle.events.specs.Printed.{ascii, mnemonics, registers, operators, data_sizes, encodings, variable_types, number_types, modifiers, printed}
use Rattle.events.specs.Views.{view}
use Rattle.events.specs.Refusals.{first_refusal, own_refusal, head_refusal}
use Rattle.events.specs.Trees.{trivia_events, lead_events, one_of, breaks, events_in, events_of}

-- a stored tree, and the chunks that the Rust's formatter gives for it, oldest first
record Row : Type 0 where
  options : FormattingOptions
  tree : List ℕ
  chunks : List Chunk

abbrev row : FormattingOptions → List ℕ → List Chunk → Row
row options tree chunks = record { options = options; tree = tree; chunks = chunks }

-- a chunk of a type, with its indent and its text
abbrev code : ℕ → String → Chunk
code indent text = record { ty = variant.Code; indent = indent; text = ascii text }

abbrev label : ℕ → String → Chunk
label indent text = record { ty = variant.Label; indent = indent; text = ascii text }

abbrev comment : ℕ → String → Chunk
comment indent text = record { ty = variant.Comment; indent = indent; text = ascii text }

-- the casing of mnemonics and of registers (0 upper, 1 lower), the brace position (0 same line, 1 new line) and the indent; chunks have no more of the options
abbrev styled : ℕ → ℕ → ℕ → ℕ → FormattingOptions
styled casing register_casing position indent = options_of casing register_casing position indent 20 1 30 8

abbrev usual : FormattingOptions
usual = styled 1 1 0 4

abbrev upper : FormattingOptions
upper = styled 0 0 0 2

abbrev lined : FormattingOptions
lined = styled 1 1 1 4

abbrev flat : FormattingOptions
flat = styled 0 1 1 0

abbrev rows : List Row
rows =
    -- no tokens
    row usual (24 ∷ 0 ∷ 0 ∷ 0 ∷ [])
    []
    -- document 01's sample tree
    ∷ row usual (24 ∷ 0 ∷ 1 ∷ 0 ∷ 13 ∷ 2 ∷ 25 ∷ 2 ∷ 1 ∷ 0 ∷ 33 ∷ [])
    (code 0 "nop" ∷ [])
    -- Align
    ∷ row usual (24 ∷ 0 ∷ 1 ∷ 0 ∷ 0 ∷ 6 ∷ 25 ∷ 2 ∷ 6 ∷ 0 ∷ 46 ∷ 97 ∷ 108 ∷ 105 ∷ 103 ∷ 110 ∷ 29 ∷ 2 ∷ 34 ∷ 6 ∷ 25 ∷ 2 ∷ 1 ∷ 0 ∷ 1 ∷ 25 ∷ 2 ∷ 1 ∷ 0 ∷ 49 ∷ [])
    (code 0 ".align" ∷ code 0 " " ∷ code 0 "1" ∷ [])
    -- Assert, with its optional fields
    ∷ row upper (24 ∷ 0 ∷ 1 ∷ 0 ∷ 1 ∷ 14 ∷ 25 ∷ 2 ∷ 7 ∷ 0 ∷ 46 ∷ 97 ∷ 115 ∷ 115 ∷ 101 ∷ 114 ∷ 116 ∷ 29 ∷ 2 ∷ 34 ∷ 6 ∷ 25 ∷ 2 ∷ 1 ∷ 0 ∷ 1 ∷ 25 ∷ 2 ∷ 1
    ∷ 0 ∷ 49 ∷ 36 ∷ 6 ∷ 25 ∷ 2 ∷ 1 ∷ 0 ∷ 34 ∷ 24 ∷ 0 ∷ 1 ∷ 0 ∷ 25 ∷ 2 ∷ 1 ∷ 0 ∷ 109 ∷ [])
    (code 0 ".assert" ∷ code 0 " " ∷ code 0 "1" ∷ code 0 " \"" ∷ code 0 "m" ∷ code 0 "\"" ∷ [])
    -- Braces
    ∷ row lined (24 ∷ 0 ∷ 1 ∷ 0 ∷ 2 ∷ 2 ∷ 27 ∷ 14 ∷ 25 ∷ 2 ∷ 1 ∷ 0 ∷ 123 ∷ 24 ∷ 0 ∷ 1 ∷ 0 ∷ 13 ∷ 2 ∷ 25 ∷ 2 ∷ 1 ∷ 0 ∷ 33 ∷ 25 ∷ 2 ∷ 1 ∷ 0 ∷ 125 ∷ [])
    (code 0 "\n" ∷ code 0 "{" ∷ code 0 "\n" ∷ code 4 "nop" ∷ code 0 "\n" ∷ code 0 "}" ∷ [])
    -- Config
    ∷ row flat (24 ∷ 0 ∷ 1 ∷ 0 ∷ 3 ∷ 2 ∷ 27 ∷ 14 ∷ 25 ∷ 2 ∷ 1 ∷ 0 ∷ 123 ∷ 24 ∷ 0 ∷ 1 ∷ 0 ∷ 13 ∷ 2 ∷ 25 ∷ 2 ∷ 1 ∷ 0 ∷ 33 ∷ 25 ∷ 2 ∷ 1 ∷ 0 ∷ 125 ∷ [])
    (code 0 "\n" ∷ code 0 "{" ∷ code 0 "\n" ∷ code 0 "NOP" ∷ code 0 "\n" ∷ code 0 "}" ∷ [])
    -- ConfigPair
    ∷ row usual (24 ∷ 0 ∷ 1 ∷ 0 ∷ 4 ∷ 14 ∷ 25 ∷ 2 ∷ 1 ∷ 0 ∷ 107 ∷ 25 ∷ 2 ∷ 1 ∷ 0 ∷ 61 ∷ 13 ∷ 2 ∷ 25 ∷ 2 ∷ 1 ∷ 0 ∷ 33 ∷ [])
    (code 0 "k" ∷ code 0 " " ∷ code 0 "=" ∷ code 0 " " ∷ code 0 "nop" ∷ [])
    -- Data, with its optional fields
    ∷ row upper (24 ∷ 0 ∷ 1 ∷ 0 ∷ 5 ∷ 6 ∷ 24 ∷ 0 ∷ 1 ∷ 0 ∷ 42 ∷ 6 ∷ 29 ∷ 2 ∷ 34 ∷ 6 ∷ 25 ∷ 2 ∷ 1 ∷ 0 ∷ 1 ∷ 25 ∷ 2 ∷ 1 ∷ 0 ∷ 49 ∷ 25 ∷ 2 ∷ 1 ∷ 0 ∷ 44 ∷ 25 ∷ 2 ∷ 1 ∷ 0 ∷ 0 ∷ [])
    (code 0 ".byte" ∷ code 0 " " ∷ code 0 "1" ∷ code 0 "," ∷ [])
    -- Definition, with its optional fields
    ∷ row lined (24 ∷ 0 ∷ 1 ∷ 0 ∷ 6 ∷ 14 ∷ 25 ∷ 2 ∷ 7 ∷ 0 ∷ 46 ∷ 100 ∷ 101 ∷ 102 ∷ 105 ∷ 110 ∷ 101 ∷ 25 ∷ 2 ∷ 1 ∷ 0 ∷ 100 ∷ 13 ∷ 2 ∷ 25 ∷ 2 ∷ 1 ∷ 0 ∷ 33 ∷ [])
    (code 0 ".define" ∷ code 0 " " ∷ code 0 "d" ∷ code 0 " " ∷ code 0 "nop" ∷ [])
    -- Eof
    ∷ row flat (24 ∷ 0 ∷ 1 ∷ 0 ∷ 7 ∷ 2 ∷ 25 ∷ 0 ∷ [])
    []
    -- Error
    ∷ row usual (24 ∷ 0 ∷ 1 ∷ 0 ∷ 8 ∷ 2 ∷ 25 ∷ 2 ∷ 1 ∷ 0 ∷ 63 ∷ [])
    (code 0 "?" ∷ [])
    -- Expression
    ∷ row upper (24 ∷ 0 ∷ 1 ∷ 0 ∷ 9 ∷ 2 ∷ 29 ∷ 2 ∷ 30 ∷ 2 ∷ 25 ∷ 2 ∷ 1 ∷ 0 ∷ 42 ∷ [])
    (code 0 "*" ∷ [])
    -- If, with its optional fields
    ∷ row lined (24 ∷ 0 ∷ 1 ∷ 0 ∷ 10 ∷ 62 ∷ 25 ∷ 2 ∷ 3 ∷ 0 ∷ 46 ∷ 105 ∷ 102 ∷ 29 ∷ 2 ∷ 34 ∷ 6 ∷ 25 ∷ 2 ∷ 1 ∷ 0 ∷ 1 ∷ 25 ∷ 2 ∷ 1 ∷ 0 ∷ 49 ∷ 27 ∷ 14
    ∷ 25 ∷ 2 ∷ 1 ∷ 0 ∷ 123 ∷ 24 ∷ 0 ∷ 1 ∷ 0 ∷ 13 ∷ 2 ∷ 25 ∷ 2 ∷ 1 ∷ 0 ∷ 33 ∷ 25 ∷ 2 ∷ 1 ∷ 0 ∷ 125 ∷ 25 ∷ 2 ∷ 4 ∷ 0 ∷ 101 ∷ 108 ∷ 115 ∷ 101 ∷ 27 ∷ 14
    ∷ 25 ∷ 2 ∷ 1 ∷ 0 ∷ 123 ∷ 24 ∷ 0 ∷ 1 ∷ 0 ∷ 13 ∷ 2 ∷ 25 ∷ 2 ∷ 1 ∷ 0 ∷ 33 ∷ 25 ∷ 2 ∷ 1 ∷ 0 ∷ 125 ∷ [])
    (code 0 ".if" ∷ code 0 " " ∷ code 0 "1" ∷ code 0 " " ∷ code 0 "\n" ∷ code 0 "{" ∷ code 0 "\n" ∷ code 4 "nop" ∷ code 0 "\n" ∷ code 0 "}"
    ∷ code 0 "\n" ∷ code 0 "else" ∷ code 0 "\n" ∷ code 0 "{" ∷ code 0 "\n" ∷ code 4 "nop" ∷ code 0 "\n" ∷ code 0 "}" ∷ [])
    -- Import, with its optional fields
    ∷ row flat (24 ∷ 0 ∷ 1 ∷ 0 ∷ 11 ∷ 62 ∷ 25 ∷ 2 ∷ 7 ∷ 0 ∷ 46 ∷ 105 ∷ 109 ∷ 112 ∷ 111 ∷ 114 ∷ 116 ∷ 40 ∷ 6 ∷ 25 ∷ 2 ∷ 1 ∷ 0 ∷ 42 ∷ 39 ∷ 6 ∷ 25 ∷ 2
    ∷ 2 ∷ 0 ∷ 97 ∷ 115 ∷ 25 ∷ 2 ∷ 1 ∷ 0 ∷ 112 ∷ 25 ∷ 2 ∷ 4 ∷ 0 ∷ 102 ∷ 114 ∷ 111 ∷ 109 ∷ 36 ∷ 6 ∷ 25 ∷ 2 ∷ 1 ∷ 0 ∷ 34 ∷ 24 ∷ 0 ∷ 1 ∷ 0 ∷ 25 ∷ 2 ∷ 1
    ∷ 0 ∷ 102 ∷ 27 ∷ 14 ∷ 25 ∷ 2 ∷ 1 ∷ 0 ∷ 123 ∷ 24 ∷ 0 ∷ 1 ∷ 0 ∷ 13 ∷ 2 ∷ 25 ∷ 2 ∷ 1 ∷ 0 ∷ 33 ∷ 25 ∷ 2 ∷ 1 ∷ 0 ∷ 125 ∷ [])
    (code 0 ".import" ∷ code 0 " " ∷ code 0 "*" ∷ code 0 " as" ∷ code 0 " " ∷ code 0 "p" ∷ code 0 " " ∷ code 0 "from" ∷ code 0 " " ∷ code 0 "\""
    ∷ code 0 "f" ∷ code 0 "\"" ∷ code 0 " \n" ∷ code 0 "{" ∷ code 0 "\n" ∷ code 0 "NOP" ∷ code 0 "\n" ∷ code 0 "}" ∷ [])
    -- File
    ∷ row usual (24 ∷ 0 ∷ 1 ∷ 0 ∷ 12 ∷ 6 ∷ 25 ∷ 2 ∷ 5 ∷ 0 ∷ 46 ∷ 102 ∷ 105 ∷ 108 ∷ 101 ∷ 36 ∷ 6 ∷ 25 ∷ 2 ∷ 1 ∷ 0 ∷ 34 ∷ 24 ∷ 0 ∷ 2 ∷ 0 ∷ 25 ∷ 2 ∷ 1 ∷ 0 ∷ 102 ∷ 26 ∷ 2 ∷ 1 ∷ 0 ∷ 112 ∷ [])
    (code 0 ".file" ∷ code 0 " " ∷ code 0 "\"" ∷ code 0 "f" ∷ code 0 "{" ∷ code 0 "p" ∷ code 0 "}" ∷ code 0 "\"" ∷ [])
    -- Instruction, with its optional fields
    ∷ row upper (24 ∷ 0 ∷ 1 ∷ 0 ∷ 13 ∷ 6 ∷ 25 ∷ 2 ∷ 1 ∷ 0 ∷ 29 ∷ 37 ∷ 62 ∷ 29 ∷ 2 ∷ 34 ∷ 6 ∷ 25 ∷ 2 ∷ 1 ∷ 0 ∷ 1 ∷ 25 ∷ 2 ∷ 1 ∷ 0 ∷ 49 ∷ 25 ∷ 2 ∷ 1 ∷ 0
    ∷ 40 ∷ 25 ∷ 2 ∷ 1 ∷ 0 ∷ 41 ∷ 25 ∷ 2 ∷ 1 ∷ 0 ∷ 4 ∷ 38 ∷ 6 ∷ 25 ∷ 2 ∷ 1 ∷ 0 ∷ 44 ∷ 25 ∷ 2 ∷ 1 ∷ 0 ∷ 1 ∷ [])
    (code 0 "LDA" ∷ code 0 " (" ∷ code 0 "1" ∷ code 0 ")" ∷ code 0 "," ∷ code 0 " Y" ∷ [])
    -- Label, with its optional fields
    ∷ row flat (24 ∷ 0 ∷ 1 ∷ 0 ∷ 14 ∷ 14 ∷ 25 ∷ 2 ∷ 1 ∷ 0 ∷ 97 ∷ 25 ∷ 2 ∷ 1 ∷ 0 ∷ 58 ∷ 27 ∷ 14 ∷ 25 ∷ 2 ∷ 1 ∷ 0 ∷ 123 ∷ 24 ∷ 0 ∷ 1 ∷ 0 ∷ 13 ∷ 2 ∷ 25 ∷ 2 ∷ 1 ∷ 0 ∷ 33 ∷ 25 ∷ 2 ∷ 1 ∷ 0 ∷ 125 ∷ [])
    (label 0 "a:" ∷ code 0 "\n" ∷ code 0 "{" ∷ code 0 "\n" ∷ code 0 "NOP" ∷ code 0 "\n" ∷ code 0 "}" ∷ [])
    -- Loop
    ∷ row flat (24 ∷ 0 ∷ 1 ∷ 0 ∷ 15 ∷ 14 ∷ 25 ∷ 2 ∷ 5 ∷ 0 ∷ 46 ∷ 108 ∷ 111 ∷ 111 ∷ 112 ∷ 29 ∷ 2 ∷ 34 ∷ 6 ∷ 25 ∷ 2 ∷ 1 ∷ 0 ∷ 1 ∷ 25 ∷ 2 ∷ 1 ∷ 0 ∷ 49
    ∷ 27 ∷ 14 ∷ 25 ∷ 2 ∷ 1 ∷ 0 ∷ 123 ∷ 24 ∷ 0 ∷ 1 ∷ 0 ∷ 13 ∷ 2 ∷ 25 ∷ 2 ∷ 1 ∷ 0 ∷ 33 ∷ 25 ∷ 2 ∷ 1 ∷ 0 ∷ 125 ∷ [])
    (code 0 ".loop" ∷ code 0 " " ∷ code 0 "1" ∷ code 0 " " ∷ code 0 "\n" ∷ code 0 "{" ∷ code 0 "\n" ∷ code 0 "NOP" ∷ code 0 "\n" ∷ code 0 "}" ∷ [])
    -- MacroDefinition, with its optional fields
    ∷ row usual (24 ∷ 0 ∷ 1 ∷ 0 ∷ 16 ∷ 126 ∷ 25 ∷ 2 ∷ 6 ∷ 0 ∷ 46 ∷ 109 ∷ 97 ∷ 99 ∷ 114 ∷ 111 ∷ 25 ∷ 2 ∷ 1 ∷ 0 ∷ 109 ∷ 25 ∷ 2 ∷ 1 ∷ 0 ∷ 40 ∷ 24 ∷ 0 ∷ 2
    ∷ 0 ∷ 42 ∷ 6 ∷ 25 ∷ 2 ∷ 1 ∷ 0 ∷ 97 ∷ 25 ∷ 2 ∷ 1 ∷ 0 ∷ 44 ∷ 42 ∷ 2 ∷ 25 ∷ 2 ∷ 1 ∷ 0 ∷ 98 ∷ 25 ∷ 2 ∷ 1 ∷ 0 ∷ 41 ∷ 27 ∷ 14 ∷ 25 ∷ 2 ∷ 1 ∷ 0 ∷ 123
    ∷ 24 ∷ 0 ∷ 1 ∷ 0 ∷ 13 ∷ 2 ∷ 25 ∷ 2 ∷ 1 ∷ 0 ∷ 33 ∷ 25 ∷ 2 ∷ 1 ∷ 0 ∷ 125 ∷ [])
    (code 0 ".macro" ∷ code 0 " " ∷ code 0 "m" ∷ code 0 "(" ∷ code 0 "a" ∷ code 0 "," ∷ code 0 " b" ∷ code 0 ")" ∷ code 0 " {" ∷ code 0 "\n" ∷ code 4 "nop" ∷ code 0 "\n" ∷ code 0 "}" ∷ [])
    -- MacroInvocation, with its optional fields
    ∷ row upper (24 ∷ 0 ∷ 1 ∷ 0 ∷ 17 ∷ 30 ∷ 25 ∷ 2 ∷ 1 ∷ 0 ∷ 109 ∷ 25 ∷ 2 ∷ 1 ∷ 0 ∷ 40 ∷ 24 ∷ 0 ∷ 2 ∷ 0 ∷ 42 ∷ 6 ∷ 29 ∷ 2 ∷ 34 ∷ 6 ∷ 25 ∷ 2 ∷ 1 ∷ 0
    ∷ 1 ∷ 25 ∷ 2 ∷ 1 ∷ 0 ∷ 49 ∷ 25 ∷ 2 ∷ 1 ∷ 0 ∷ 44 ∷ 42 ∷ 2 ∷ 29 ∷ 2 ∷ 34 ∷ 6 ∷ 25 ∷ 2 ∷ 1 ∷ 0 ∷ 1 ∷ 25 ∷ 2 ∷ 1 ∷ 0 ∷ 49 ∷ 25 ∷ 2 ∷ 1 ∷ 0 ∷ 41 ∷ [])
    (code 0 "m" ∷ code 0 "(" ∷ code 0 "1" ∷ code 0 "," ∷ code 0 " 1" ∷ code 0 ")" ∷ [])
    -- ProgramCounterDefinition
    ∷ row lined (24 ∷ 0 ∷ 1 ∷ 0 ∷ 18 ∷ 14 ∷ 25 ∷ 2 ∷ 1 ∷ 0 ∷ 42 ∷ 25 ∷ 2 ∷ 1 ∷ 0 ∷ 61 ∷ 29 ∷ 2 ∷ 34 ∷ 6 ∷ 25 ∷ 2 ∷ 1 ∷ 0 ∷ 1 ∷ 25 ∷ 2 ∷ 1 ∷ 0 ∷ 49 ∷ [])
    (code 0 "*" ∷ code 0 " " ∷ code 0 "=" ∷ code 0 " " ∷ code 0 "1" ∷ [])
    -- Segment, with its optional fields
    ∷ row upper (24 ∷ 0 ∷ 1 ∷ 0 ∷ 19 ∷ 14 ∷ 25 ∷ 2 ∷ 8 ∷ 0 ∷ 46 ∷ 115 ∷ 101 ∷ 103 ∷ 109 ∷ 101 ∷ 110 ∷ 116 ∷ 29 ∷ 2 ∷ 33 ∷ 2 ∷ 25 ∷ 2 ∷ 1 ∷ 0 ∷ 115
    ∷ 27 ∷ 14 ∷ 25 ∷ 2 ∷ 1 ∷ 0 ∷ 123 ∷ 24 ∷ 0 ∷ 1 ∷ 0 ∷ 13 ∷ 2 ∷ 25 ∷ 2 ∷ 1 ∷ 0 ∷ 33 ∷ 25 ∷ 2 ∷ 1 ∷ 0 ∷ 125 ∷ [])
    (code 0 ".segment" ∷ code 0 " " ∷ code 0 "s" ∷ code 0 " " ∷ code 0 "{" ∷ code 0 "\n" ∷ code 2 "NOP" ∷ code 0 "\n" ∷ code 0 "}" ∷ [])
    -- Test
    ∷ row usual (24 ∷ 0 ∷ 1 ∷ 0 ∷ 20 ∷ 14 ∷ 25 ∷ 2 ∷ 5 ∷ 0 ∷ 46 ∷ 116 ∷ 101 ∷ 115 ∷ 116 ∷ 29 ∷ 2 ∷ 33 ∷ 2 ∷ 25 ∷ 2 ∷ 1 ∷ 0 ∷ 116 ∷ 27 ∷ 14 ∷ 25 ∷ 2
    ∷ 1 ∷ 0 ∷ 123 ∷ 24 ∷ 0 ∷ 1 ∷ 0 ∷ 13 ∷ 2 ∷ 25 ∷ 2 ∷ 1 ∷ 0 ∷ 33 ∷ 25 ∷ 2 ∷ 1 ∷ 0 ∷ 125 ∷ [])
    (code 0 ".test" ∷ code 0 " t" ∷ code 0 " {" ∷ code 0 "\n" ∷ code 4 "nop" ∷ code 0 "\n" ∷ code 0 "}" ∷ [])
    -- Text, with its optional fields
    ∷ row upper (24 ∷ 0 ∷ 1 ∷ 0 ∷ 21 ∷ 14 ∷ 25 ∷ 2 ∷ 5 ∷ 0 ∷ 46 ∷ 116 ∷ 101 ∷ 120 ∷ 116 ∷ 25 ∷ 2 ∷ 1 ∷ 0 ∷ 0 ∷ 29 ∷ 2 ∷ 33 ∷ 2 ∷ 25 ∷ 2 ∷ 1 ∷ 0 ∷ 120 ∷ [])
    (code 0 ".text" ∷ code 0 " ascii" ∷ code 0 " x" ∷ [])
    -- Trace, with its optional fields
    ∷ row lined (24 ∷ 0 ∷ 1 ∷ 0 ∷ 22 ∷ 30 ∷ 25 ∷ 2 ∷ 6 ∷ 0 ∷ 46 ∷ 116 ∷ 114 ∷ 97 ∷ 99 ∷ 101 ∷ 25 ∷ 2 ∷ 1 ∷ 0 ∷ 40 ∷ 24 ∷ 0 ∷ 1 ∷ 0 ∷ 42 ∷ 2 ∷ 29 ∷ 2
    ∷ 34 ∷ 6 ∷ 25 ∷ 2 ∷ 1 ∷ 0 ∷ 1 ∷ 25 ∷ 2 ∷ 1 ∷ 0 ∷ 49 ∷ 25 ∷ 2 ∷ 1 ∷ 0 ∷ 41 ∷ [])
    (code 0 ".trace" ∷ code 0 " (" ∷ code 0 "1" ∷ code 0 ")" ∷ [])
    -- VariableDefinition
    ∷ row flat (24 ∷ 0 ∷ 1 ∷ 0 ∷ 23 ∷ 30 ∷ 25 ∷ 2 ∷ 1 ∷ 0 ∷ 0 ∷ 25 ∷ 2 ∷ 1 ∷ 0 ∷ 118 ∷ 25 ∷ 2 ∷ 1 ∷ 0 ∷ 61 ∷ 29 ∷ 2 ∷ 34 ∷ 6 ∷ 25 ∷ 2 ∷ 1 ∷ 0 ∷ 1 ∷ 25 ∷ 2 ∷ 1 ∷ 0 ∷ 49 ∷ [])
    (code 0 ".const" ∷ code 0 " " ∷ code 0 "v" ∷ code 0 " " ∷ code 0 "=" ∷ code 0 " " ∷ code 0 "1" ∷ [])
    -- Import of one name
    ∷ row usual (24 ∷ 0 ∷ 1 ∷ 0 ∷ 11 ∷ 30 ∷ 25 ∷ 2 ∷ 7 ∷ 0 ∷ 46 ∷ 105 ∷ 109 ∷ 112 ∷ 111 ∷ 114 ∷ 116 ∷ 24 ∷ 0 ∷ 1 ∷ 0 ∷ 42 ∷ 6 ∷ 41 ∷ 6 ∷ 25 ∷ 2 ∷ 1
    ∷ 0 ∷ 112 ∷ 39 ∷ 6 ∷ 25 ∷ 2 ∷ 2 ∷ 0 ∷ 97 ∷ 115 ∷ 25 ∷ 2 ∷ 1 ∷ 0 ∷ 113 ∷ 25 ∷ 2 ∷ 1 ∷ 0 ∷ 44 ∷ 25 ∷ 2 ∷ 4 ∷ 0 ∷ 102 ∷ 114 ∷ 111 ∷ 109 ∷ 36 ∷ 6 ∷ 25
    ∷ 2 ∷ 1 ∷ 0 ∷ 34 ∷ 24 ∷ 0 ∷ 1 ∷ 0 ∷ 25 ∷ 2 ∷ 1 ∷ 0 ∷ 102 ∷ [])
    (code 0 ".import" ∷ code 0 " " ∷ code 0 "p" ∷ code 0 " as" ∷ code 0 " " ∷ code 0 "q" ∷ code 0 "," ∷ code 0 " " ∷ code 0 "from" ∷ code 0 " " ∷ code 0 "\"" ∷ code 0 "f" ∷ code 0 "\"" ∷ [])
    -- BinaryExpression, ExprParens, Factor, FunctionCall, IdentifierValue
    ∷ row usual (24 ∷ 0 ∷ 1 ∷ 0 ∷ 9 ∷ 2 ∷ 28 ∷ 14 ∷ 25 ∷ 2 ∷ 1 ∷ 0 ∷ 0 ∷ 29 ∷ 2 ∷ 31 ∷ 14 ∷ 25 ∷ 2 ∷ 1 ∷ 0 ∷ 40 ∷ 29 ∷ 2 ∷ 34 ∷ 6 ∷ 25 ∷ 2 ∷ 1 ∷ 0 ∷ 1
    ∷ 25 ∷ 2 ∷ 1 ∷ 0 ∷ 49 ∷ 25 ∷ 2 ∷ 1 ∷ 0 ∷ 41 ∷ 29 ∷ 14 ∷ 32 ∷ 30 ∷ 25 ∷ 2 ∷ 1 ∷ 0 ∷ 102 ∷ 25 ∷ 2 ∷ 1 ∷ 0 ∷ 40 ∷ 24 ∷ 0 ∷ 1 ∷ 0 ∷ 42 ∷ 6 ∷ 29 ∷ 2
    ∷ 33 ∷ 2 ∷ 25 ∷ 2 ∷ 1 ∷ 0 ∷ 120 ∷ 25 ∷ 2 ∷ 1 ∷ 0 ∷ 44 ∷ 25 ∷ 2 ∷ 1 ∷ 0 ∷ 41 ∷ 25 ∷ 2 ∷ 1 ∷ 0 ∷ 33 ∷ 25 ∷ 2 ∷ 1 ∷ 0 ∷ 45 ∷ [])
    (code 0 "(" ∷ code 0 "1" ∷ code 0 ")" ∷ code 0 " " ∷ code 0 "+" ∷ code 0 " " ∷ code 0 "!" ∷ code 0 "-" ∷ code 0 "f" ∷ code 0 "(" ∷ code 0 "x" ∷ code 0 "," ∷ code 0 ")" ∷ [])
    -- StringFactor and PathItem
    ∷ row usual (24 ∷ 0 ∷ 1 ∷ 0 ∷ 0 ∷ 6 ∷ 25 ∷ 2 ∷ 1 ∷ 0 ∷ 116 ∷ 29 ∷ 2 ∷ 35 ∷ 2 ∷ 36 ∷ 6 ∷ 25 ∷ 2 ∷ 1 ∷ 0 ∷ 34 ∷ 24 ∷ 0 ∷ 2 ∷ 0 ∷ 25 ∷ 2 ∷ 1 ∷ 0 ∷ 97 ∷ 26 ∷ 2 ∷ 1 ∷ 0 ∷ 112 ∷ [])
    (code 0 "t" ∷ code 0 " " ∷ code 0 "\"" ∷ code 0 "a" ∷ code 0 "{" ∷ code 0 "p" ∷ code 0 "}" ∷ code 0 "\"" ∷ [])
    -- IdentifierValue with a modifier
    ∷ row usual (24 ∷ 0 ∷ 1 ∷ 0 ∷ 0 ∷ 6 ∷ 25 ∷ 2 ∷ 1 ∷ 0 ∷ 116 ∷ 29 ∷ 2 ∷ 33 ∷ 6 ∷ 25 ∷ 2 ∷ 1 ∷ 0 ∷ 112 ∷ 25 ∷ 2 ∷ 1 ∷ 0 ∷ 1 ∷ [])
    (code 0 "t" ∷ code 0 " " ∷ code 0 "<" ∷ code 0 "p" ∷ [])
    -- an encoding that prints nothing
    ∷ row usual (24 ∷ 0 ∷ 1 ∷ 0 ∷ 21 ∷ 14 ∷ 25 ∷ 2 ∷ 5 ∷ 0 ∷ 46 ∷ 116 ∷ 101 ∷ 120 ∷ 116 ∷ 25 ∷ 2 ∷ 1 ∷ 0 ∷ 3 ∷ 29 ∷ 2 ∷ 34 ∷ 6 ∷ 25 ∷ 2 ∷ 1 ∷ 0 ∷ 1 ∷ 25 ∷ 2 ∷ 1 ∷ 0 ∷ 49 ∷ [])
    (code 0 ".text" ∷ code 0 " 1" ∷ [])
    -- an operand with its suffix inside
    ∷ row upper (24 ∷ 0 ∷ 1 ∷ 0 ∷ 13 ∷ 6 ∷ 25 ∷ 2 ∷ 1 ∷ 0 ∷ 29 ∷ 37 ∷ 62 ∷ 29 ∷ 2 ∷ 34 ∷ 6 ∷ 25 ∷ 2 ∷ 1 ∷ 0 ∷ 1 ∷ 25 ∷ 2 ∷ 1 ∷ 0 ∷ 49 ∷ 25 ∷ 2 ∷ 1 ∷ 0
    ∷ 40 ∷ 25 ∷ 2 ∷ 1 ∷ 0 ∷ 41 ∷ 25 ∷ 2 ∷ 1 ∷ 0 ∷ 3 ∷ 38 ∷ 6 ∷ 25 ∷ 2 ∷ 1 ∷ 0 ∷ 44 ∷ 25 ∷ 2 ∷ 1 ∷ 0 ∷ 1 ∷ [])
    (code 0 "LDA" ∷ code 0 " (" ∷ code 0 "1" ∷ code 0 "," ∷ code 0 " Y" ∷ code 0 ")" ∷ [])
    -- a pending space at the end of a block
    ∷ row lined (24 ∷ 0 ∷ 1 ∷ 0 ∷ 2 ∷ 2 ∷ 27 ∷ 14 ∷ 25 ∷ 2 ∷ 1 ∷ 0 ∷ 123 ∷ 24 ∷ 0 ∷ 1 ∷ 0 ∷ 1 ∷ 6 ∷ 25 ∷ 2 ∷ 7 ∷ 0 ∷ 46 ∷ 97 ∷ 115 ∷ 115 ∷ 101 ∷ 114
    ∷ 116 ∷ 29 ∷ 2 ∷ 34 ∷ 6 ∷ 25 ∷ 2 ∷ 1 ∷ 0 ∷ 1 ∷ 25 ∷ 2 ∷ 1 ∷ 0 ∷ 49 ∷ 25 ∷ 2 ∷ 1 ∷ 0 ∷ 125 ∷ [])
    (code 0 "\n" ∷ code 0 "{" ∷ code 0 "\n" ∷ code 4 ".assert" ∷ code 4 " " ∷ code 4 "1" ∷ code 4 " \n" ∷ code 0 "\n" ∷ code 0 "}" ∷ [])
    -- a pending space before a label
    ∷ row usual (24 ∷ 0 ∷ 3 ∷ 0 ∷ 1 ∷ 6 ∷ 25 ∷ 2 ∷ 7 ∷ 0 ∷ 46 ∷ 97 ∷ 115 ∷ 115 ∷ 101 ∷ 114 ∷ 116 ∷ 29 ∷ 2 ∷ 34 ∷ 6 ∷ 25 ∷ 2 ∷ 1 ∷ 0 ∷ 1 ∷ 25 ∷ 2 ∷ 1
    ∷ 0 ∷ 49 ∷ 14 ∷ 6 ∷ 25 ∷ 2 ∷ 1 ∷ 0 ∷ 97 ∷ 25 ∷ 2 ∷ 1 ∷ 0 ∷ 58 ∷ 13 ∷ 2 ∷ 25 ∷ 2 ∷ 1 ∷ 0 ∷ 33 ∷ [])
    (code 0 ".assert" ∷ code 0 " " ∷ code 0 "1" ∷ label 0 " a:" ∷ code 0 "\n" ∷ code 0 "nop" ∷ [])
    -- a pending space before a comment
    ∷ row usual (24 ∷ 0 ∷ 2 ∷ 0 ∷ 1 ∷ 6 ∷ 25 ∷ 2 ∷ 7 ∷ 0 ∷ 46 ∷ 97 ∷ 115 ∷ 115 ∷ 101 ∷ 114 ∷ 116 ∷ 29 ∷ 2 ∷ 34 ∷ 6 ∷ 25 ∷ 2 ∷ 1 ∷ 0 ∷ 1 ∷ 25 ∷ 2 ∷ 1
    ∷ 0 ∷ 49 ∷ 7 ∷ 2 ∷ 25 ∷ 1 ∷ 1 ∷ 0 ∷ 2 ∷ 7 ∷ 0 ∷ 47 ∷ 42 ∷ 32 ∷ 99 ∷ 32 ∷ 42 ∷ 47 ∷ [])
    (code 0 ".assert" ∷ code 0 " " ∷ code 0 "1" ∷ comment 0 " /* c */" ∷ code 0 "\n" ∷ [])
    -- a text that prints nothing
    ∷ row upper (24 ∷ 0 ∷ 2 ∷ 0 ∷ 21 ∷ 10 ∷ 25 ∷ 2 ∷ 5 ∷ 0 ∷ 46 ∷ 116 ∷ 101 ∷ 120 ∷ 116 ∷ 29 ∷ 2 ∷ 33 ∷ 2 ∷ 25 ∷ 0 ∷ 13 ∷ 2 ∷ 25 ∷ 2 ∷ 1 ∷ 0 ∷ 33 ∷ [])
    (code 0 ".text" ∷ code 0 " \n" ∷ code 0 "NOP" ∷ [])
    -- an import without a block ends a block
    ∷ row usual (24 ∷ 0 ∷ 1 ∷ 0 ∷ 2 ∷ 2 ∷ 27 ∷ 14 ∷ 25 ∷ 2 ∷ 1 ∷ 0 ∷ 123 ∷ 24 ∷ 0 ∷ 1 ∷ 0 ∷ 11 ∷ 30 ∷ 25 ∷ 2 ∷ 7 ∷ 0 ∷ 46 ∷ 105 ∷ 109 ∷ 112 ∷ 111
    ∷ 114 ∷ 116 ∷ 40 ∷ 2 ∷ 25 ∷ 2 ∷ 1 ∷ 0 ∷ 42 ∷ 25 ∷ 2 ∷ 4 ∷ 0 ∷ 102 ∷ 114 ∷ 111 ∷ 109 ∷ 36 ∷ 6 ∷ 25 ∷ 2 ∷ 1 ∷ 0 ∷ 34 ∷ 24 ∷ 0 ∷ 1 ∷ 0 ∷ 25 ∷ 2 ∷ 1
    ∷ 0 ∷ 102 ∷ 25 ∷ 2 ∷ 1 ∷ 0 ∷ 125 ∷ [])
    (code 0 "{" ∷ code 0 "\n" ∷ code 4 ".import" ∷ code 4 " " ∷ code 4 "*" ∷ code 4 " " ∷ code 4 "from" ∷ code 4 " " ∷ code 4 "\"" ∷ code 4 "f"
    ∷ code 4 "\"" ∷ code 4 " \n" ∷ code 0 "\n" ∷ code 0 "}" ∷ [])
    -- an empty block
    ∷ row lined (24 ∷ 0 ∷ 1 ∷ 0 ∷ 2 ∷ 2 ∷ 27 ∷ 14 ∷ 25 ∷ 2 ∷ 1 ∷ 0 ∷ 123 ∷ 24 ∷ 0 ∷ 0 ∷ 0 ∷ 25 ∷ 2 ∷ 1 ∷ 0 ∷ 125 ∷ [])
    (code 0 "\n" ∷ code 0 "{" ∷ code 0 "\n" ∷ code 0 "}" ∷ [])
    -- newlines first and last in a block
    ∷ row usual (24 ∷ 0 ∷ 1 ∷ 0 ∷ 2 ∷ 2 ∷ 27 ∷ 14 ∷ 25 ∷ 2 ∷ 1 ∷ 0 ∷ 123 ∷ 24 ∷ 0 ∷ 1 ∷ 0 ∷ 13 ∷ 2 ∷ 25 ∷ 3 ∷ 4 ∷ 0 ∷ 1 ∷ 1 ∷ 2 ∷ 7 ∷ 0 ∷ 47 ∷ 42 ∷ 32
    ∷ 99 ∷ 32 ∷ 42 ∷ 47 ∷ 1 ∷ 1 ∷ 0 ∷ 33 ∷ 25 ∷ 3 ∷ 2 ∷ 0 ∷ 1 ∷ 1 ∷ 1 ∷ 0 ∷ 125 ∷ [])
    (code 0 "{" ∷ code 0 "\n" ∷ comment 4 "/* c */" ∷ code 4 "\n" ∷ code 4 "nop" ∷ code 0 "\n" ∷ code 0 "}" ∷ [])
    -- comments that are newlines first in a block
    ∷ row usual (24 ∷ 0 ∷ 1 ∷ 0 ∷ 2 ∷ 2 ∷ 27 ∷ 14 ∷ 25 ∷ 2 ∷ 1 ∷ 0 ∷ 123 ∷ 24 ∷ 0 ∷ 1 ∷ 0 ∷ 13 ∷ 2 ∷ 25 ∷ 3 ∷ 4 ∷ 0 ∷ 2 ∷ 1 ∷ 0 ∷ 10 ∷ 1 ∷ 3 ∷ 1 ∷ 0
    ∷ 10 ∷ 2 ∷ 7 ∷ 0 ∷ 47 ∷ 42 ∷ 32 ∷ 99 ∷ 32 ∷ 42 ∷ 47 ∷ 1 ∷ 0 ∷ 33 ∷ 25 ∷ 2 ∷ 1 ∷ 0 ∷ 125 ∷ [])
    (code 0 "{" ∷ code 0 "\n" ∷ comment 4 "/* c */" ∷ code 4 "nop" ∷ code 0 "\n" ∷ code 0 "}" ∷ [])
    -- comments that are newlines last in a block
    ∷ row flat (24 ∷ 0 ∷ 1 ∷ 0 ∷ 2 ∷ 2 ∷ 27 ∷ 14 ∷ 25 ∷ 2 ∷ 1 ∷ 0 ∷ 123 ∷ 24 ∷ 0 ∷ 1 ∷ 0 ∷ 13 ∷ 2 ∷ 25 ∷ 2 ∷ 1 ∷ 0 ∷ 33 ∷ 25 ∷ 3 ∷ 3 ∷ 0 ∷ 2 ∷ 1 ∷ 0 ∷ 10 ∷ 1 ∷ 3 ∷ 1 ∷ 0 ∷ 10 ∷ 1 ∷ 0 ∷ 125 ∷ [])
    (code 0 "\n" ∷ code 0 "{" ∷ code 0 "\n" ∷ code 0 "NOP" ∷ code 0 "\n" ∷ code 0 "}" ∷ [])
    -- an error that is a newline last in a block
    ∷ row usual (24 ∷ 0 ∷ 1 ∷ 0 ∷ 2 ∷ 2 ∷ 27 ∷ 14 ∷ 25 ∷ 2 ∷ 1 ∷ 0 ∷ 123 ∷ 24 ∷ 0 ∷ 1 ∷ 0 ∷ 8 ∷ 2 ∷ 25 ∷ 2 ∷ 1 ∷ 0 ∷ 10 ∷ 25 ∷ 2 ∷ 1 ∷ 0 ∷ 125 ∷ [])
    (code 0 "{" ∷ code 0 "\n" ∷ code 0 "}" ∷ [])
    -- newlines first in the file
    ∷ row usual (24 ∷ 0 ∷ 1 ∷ 0 ∷ 13 ∷ 2 ∷ 25 ∷ 3 ∷ 3 ∷ 0 ∷ 1 ∷ 1 ∷ 1 ∷ 1 ∷ 0 ∷ 33 ∷ [])
    (code 0 "\n" ∷ code 0 "\n" ∷ code 0 "\n" ∷ code 0 "nop" ∷ [])
    -- empty comments
    ∷ row lined (24 ∷ 0 ∷ 3 ∷ 0 ∷ 2 ∷ 2 ∷ 27 ∷ 14 ∷ 25 ∷ 2 ∷ 1 ∷ 0 ∷ 123 ∷ 24 ∷ 0 ∷ 1 ∷ 0 ∷ 13 ∷ 2 ∷ 25 ∷ 3 ∷ 3 ∷ 0 ∷ 2 ∷ 0 ∷ 0 ∷ 1 ∷ 3 ∷ 0 ∷ 0 ∷ 1
    ∷ 0 ∷ 33 ∷ 25 ∷ 2 ∷ 1 ∷ 0 ∷ 125 ∷ 1 ∷ 6 ∷ 25 ∷ 2 ∷ 7 ∷ 0 ∷ 46 ∷ 97 ∷ 115 ∷ 115 ∷ 101 ∷ 114 ∷ 116 ∷ 29 ∷ 2 ∷ 34 ∷ 6 ∷ 25 ∷ 2 ∷ 1 ∷ 0 ∷ 1 ∷ 25 ∷ 2
    ∷ 1 ∷ 0 ∷ 49 ∷ 7 ∷ 2 ∷ 25 ∷ 1 ∷ 2 ∷ 0 ∷ 3 ∷ 0 ∷ 0 ∷ 1 ∷ [])
    (code 0 "\n" ∷ code 0 "{" ∷ code 0 "\n" ∷ code 4 "nop" ∷ code 0 "\n" ∷ code 0 "}" ∷ code 0 "\n" ∷ code 0 ".assert" ∷ code 0 " " ∷ code 0 "1" ∷ code 0 " \n" ∷ code 0 "\n" ∷ [])
    -- an `Eof` with a comment ends a block
    ∷ row usual (24 ∷ 0 ∷ 1 ∷ 0 ∷ 2 ∷ 2 ∷ 27 ∷ 14 ∷ 25 ∷ 2 ∷ 1 ∷ 0 ∷ 123 ∷ 24 ∷ 0 ∷ 2 ∷ 0 ∷ 13 ∷ 2 ∷ 25 ∷ 2 ∷ 1 ∷ 0 ∷ 33 ∷ 7 ∷ 2 ∷ 25 ∷ 1 ∷ 1 ∷ 0 ∷ 2
    ∷ 7 ∷ 0 ∷ 47 ∷ 42 ∷ 32 ∷ 99 ∷ 32 ∷ 42 ∷ 47 ∷ 25 ∷ 2 ∷ 1 ∷ 0 ∷ 125 ∷ [])
    (code 0 "{" ∷ code 0 "\n" ∷ code 4 "nop" ∷ comment 4 "/* c */" ∷ code 0 "\n" ∷ code 0 "}" ∷ [])
    -- trivia of a label's brace
    ∷ row usual (24 ∷ 0 ∷ 1 ∷ 0 ∷ 14 ∷ 14 ∷ 25 ∷ 2 ∷ 1 ∷ 0 ∷ 97 ∷ 25 ∷ 2 ∷ 1 ∷ 0 ∷ 58 ∷ 27 ∷ 14 ∷ 25 ∷ 3 ∷ 1 ∷ 0 ∷ 2 ∷ 7 ∷ 0 ∷ 47 ∷ 42 ∷ 32 ∷ 99 ∷ 32
    ∷ 42 ∷ 47 ∷ 1 ∷ 0 ∷ 123 ∷ 24 ∷ 0 ∷ 1 ∷ 0 ∷ 13 ∷ 2 ∷ 25 ∷ 2 ∷ 1 ∷ 0 ∷ 33 ∷ 25 ∷ 2 ∷ 1 ∷ 0 ∷ 125 ∷ [])
    (label 0 "a:" ∷ code 0 "{" ∷ code 0 "\n" ∷ code 4 "nop" ∷ code 0 "\n" ∷ code 0 "}" ∷ [])
    -- trivia of a label's colon
    ∷ row usual (24 ∷ 0 ∷ 2 ∷ 0 ∷ 14 ∷ 6 ∷ 25 ∷ 2 ∷ 1 ∷ 0 ∷ 97 ∷ 25 ∷ 3 ∷ 1 ∷ 0 ∷ 2 ∷ 7 ∷ 0 ∷ 47 ∷ 42 ∷ 32 ∷ 99 ∷ 32 ∷ 42 ∷ 47 ∷ 1 ∷ 0 ∷ 58 ∷ 13 ∷ 2 ∷ 25 ∷ 2 ∷ 1 ∷ 0 ∷ 33 ∷ [])
    (label 0 "a:" ∷ code 0 "\n" ∷ code 0 "nop" ∷ [])
    -- trivia of a value's head
    ∷ row usual (24 ∷ 0 ∷ 1 ∷ 0 ∷ 4 ∷ 14 ∷ 25 ∷ 2 ∷ 1 ∷ 0 ∷ 107 ∷ 25 ∷ 2 ∷ 1 ∷ 0 ∷ 61 ∷ 13 ∷ 2 ∷ 25 ∷ 3 ∷ 1 ∷ 0 ∷ 2 ∷ 7 ∷ 0 ∷ 47 ∷ 42 ∷ 32 ∷ 99 ∷ 32 ∷ 42 ∷ 47 ∷ 1 ∷ 0 ∷ 33 ∷ [])
    (code 0 "k" ∷ code 0 " " ∷ code 0 "=" ∷ code 0 " " ∷ code 0 "nop" ∷ [])
    -- trivia in an import's list
    ∷ row usual (24 ∷ 0 ∷ 1 ∷ 0 ∷ 11 ∷ 30 ∷ 25 ∷ 2 ∷ 7 ∷ 0 ∷ 46 ∷ 105 ∷ 109 ∷ 112 ∷ 111 ∷ 114 ∷ 116 ∷ 24 ∷ 0 ∷ 2 ∷ 0 ∷ 42 ∷ 6 ∷ 41 ∷ 7 ∷ 1 ∷ 0 ∷ 2 ∷ 7
    ∷ 0 ∷ 47 ∷ 42 ∷ 32 ∷ 99 ∷ 32 ∷ 42 ∷ 47 ∷ 25 ∷ 3 ∷ 2 ∷ 0 ∷ 3 ∷ 4 ∷ 0 ∷ 47 ∷ 47 ∷ 32 ∷ 99 ∷ 1 ∷ 1 ∷ 0 ∷ 112 ∷ 39 ∷ 6 ∷ 25 ∷ 2 ∷ 2 ∷ 0 ∷ 97 ∷ 115
    ∷ 25 ∷ 2 ∷ 1 ∷ 0 ∷ 113 ∷ 25 ∷ 2 ∷ 1 ∷ 0 ∷ 44 ∷ 42 ∷ 2 ∷ 41 ∷ 3 ∷ 1 ∷ 0 ∷ 1 ∷ 25 ∷ 2 ∷ 1 ∷ 0 ∷ 114 ∷ 25 ∷ 2 ∷ 4 ∷ 0 ∷ 102 ∷ 114 ∷ 111 ∷ 109 ∷ 36
    ∷ 6 ∷ 25 ∷ 2 ∷ 1 ∷ 0 ∷ 34 ∷ 24 ∷ 0 ∷ 1 ∷ 0 ∷ 25 ∷ 2 ∷ 1 ∷ 0 ∷ 102 ∷ [])
    (code 0 ".import" ∷ code 0 " " ∷ comment 0 "// c" ∷ code 0 "\n" ∷ code 0 "p" ∷ code 0 " as" ∷ code 0 " " ∷ code 0 "q" ∷ code 0 "," ∷ code 0 " r"
    ∷ code 0 " " ∷ code 0 "from" ∷ code 0 " " ∷ code 0 "\"" ∷ code 0 "f" ∷ code 0 "\"" ∷ [])
    -- trivia of a path item, and one without text
    ∷ row usual (24 ∷ 0 ∷ 1 ∷ 0 ∷ 12 ∷ 6 ∷ 25 ∷ 2 ∷ 5 ∷ 0 ∷ 46 ∷ 102 ∷ 105 ∷ 108 ∷ 101 ∷ 36 ∷ 6 ∷ 25 ∷ 2 ∷ 1 ∷ 0 ∷ 34 ∷ 24 ∷ 0 ∷ 3 ∷ 0 ∷ 25 ∷ 2 ∷ 1
    ∷ 0 ∷ 97 ∷ 26 ∷ 3 ∷ 1 ∷ 0 ∷ 2 ∷ 7 ∷ 0 ∷ 47 ∷ 42 ∷ 32 ∷ 99 ∷ 32 ∷ 42 ∷ 47 ∷ 1 ∷ 0 ∷ 112 ∷ 26 ∷ 0 ∷ [])
    (code 0 ".file" ∷ code 0 " " ∷ code 0 "\"" ∷ code 0 "a" ∷ code 0 "{" ∷ code 0 "p" ∷ code 0 "}" ∷ code 0 "{" ∷ code 0 "}" ∷ code 0 "\"" ∷ [])
    -- an operand's trivia, mode 0
    ∷ row upper (24 ∷ 0 ∷ 1 ∷ 0 ∷ 13 ∷ 6 ∷ 25 ∷ 2 ∷ 1 ∷ 0 ∷ 29 ∷ 37 ∷ 62 ∷ 29 ∷ 2 ∷ 34 ∷ 6 ∷ 25 ∷ 2 ∷ 1 ∷ 0 ∷ 1 ∷ 25 ∷ 2 ∷ 2 ∷ 0 ∷ 49 ∷ 50 ∷ 25 ∷ 3
    ∷ 1 ∷ 0 ∷ 2 ∷ 7 ∷ 0 ∷ 47 ∷ 42 ∷ 32 ∷ 99 ∷ 32 ∷ 42 ∷ 47 ∷ 1 ∷ 0 ∷ 40 ∷ 25 ∷ 3 ∷ 1 ∷ 0 ∷ 2 ∷ 7 ∷ 0 ∷ 47 ∷ 42 ∷ 32 ∷ 99 ∷ 32 ∷ 42 ∷ 47 ∷ 1 ∷ 0 ∷ 41
    ∷ 25 ∷ 2 ∷ 1 ∷ 0 ∷ 0 ∷ 38 ∷ 6 ∷ 25 ∷ 3 ∷ 1 ∷ 0 ∷ 2 ∷ 7 ∷ 0 ∷ 47 ∷ 42 ∷ 32 ∷ 99 ∷ 32 ∷ 42 ∷ 47 ∷ 1 ∷ 0 ∷ 44 ∷ 25 ∷ 3 ∷ 2 ∷ 0 ∷ 2 ∷ 7 ∷ 0 ∷ 47 ∷ 42
    ∷ 32 ∷ 99 ∷ 32 ∷ 42 ∷ 47 ∷ 1 ∷ 1 ∷ 0 ∷ 1 ∷ [])
    (code 0 "LDA" ∷ comment 0 " /* c */" ∷ code 0 "(" ∷ code 0 "12" ∷ comment 0 "/* c */" ∷ code 0 "," ∷ comment 0 " /* c */" ∷ code 0 "\n" ∷ code 0 "Y" ∷ [])
    -- mode 3
    ∷ row usual (24 ∷ 0 ∷ 1 ∷ 0 ∷ 13 ∷ 6 ∷ 25 ∷ 2 ∷ 1 ∷ 0 ∷ 29 ∷ 37 ∷ 62 ∷ 29 ∷ 2 ∷ 34 ∷ 6 ∷ 25 ∷ 2 ∷ 1 ∷ 0 ∷ 1 ∷ 25 ∷ 2 ∷ 2 ∷ 0 ∷ 49 ∷ 50 ∷ 25 ∷ 3
    ∷ 1 ∷ 0 ∷ 2 ∷ 7 ∷ 0 ∷ 47 ∷ 42 ∷ 32 ∷ 99 ∷ 32 ∷ 42 ∷ 47 ∷ 1 ∷ 0 ∷ 40 ∷ 25 ∷ 3 ∷ 1 ∷ 0 ∷ 2 ∷ 7 ∷ 0 ∷ 47 ∷ 42 ∷ 32 ∷ 99 ∷ 32 ∷ 42 ∷ 47 ∷ 1 ∷ 0 ∷ 41
    ∷ 25 ∷ 2 ∷ 1 ∷ 0 ∷ 3 ∷ 38 ∷ 6 ∷ 25 ∷ 3 ∷ 1 ∷ 0 ∷ 2 ∷ 7 ∷ 0 ∷ 47 ∷ 42 ∷ 32 ∷ 99 ∷ 32 ∷ 42 ∷ 47 ∷ 1 ∷ 0 ∷ 44 ∷ 25 ∷ 3 ∷ 2 ∷ 0 ∷ 2 ∷ 7 ∷ 0 ∷ 47 ∷ 42
    ∷ 32 ∷ 99 ∷ 32 ∷ 42 ∷ 47 ∷ 1 ∷ 1 ∷ 0 ∷ 1 ∷ [])
    (code 0 "lda" ∷ comment 0 " /* c */" ∷ code 0 "(" ∷ code 0 "12" ∷ comment 0 "/* c */" ∷ code 0 "," ∷ comment 0 " /* c */" ∷ code 0 "\n" ∷ code 0 "y" ∷ comment 0 "/* c */" ∷ code 0 ")" ∷ [])
    -- mode 4
    ∷ row flat (24 ∷ 0 ∷ 1 ∷ 0 ∷ 13 ∷ 6 ∷ 25 ∷ 2 ∷ 1 ∷ 0 ∷ 29 ∷ 37 ∷ 62 ∷ 29 ∷ 2 ∷ 34 ∷ 6 ∷ 25 ∷ 2 ∷ 1 ∷ 0 ∷ 1 ∷ 25 ∷ 2 ∷ 2 ∷ 0 ∷ 49 ∷ 50 ∷ 25 ∷ 3 ∷ 1
    ∷ 0 ∷ 2 ∷ 7 ∷ 0 ∷ 47 ∷ 42 ∷ 32 ∷ 99 ∷ 32 ∷ 42 ∷ 47 ∷ 1 ∷ 0 ∷ 40 ∷ 25 ∷ 3 ∷ 1 ∷ 0 ∷ 2 ∷ 7 ∷ 0 ∷ 47 ∷ 42 ∷ 32 ∷ 99 ∷ 32 ∷ 42 ∷ 47 ∷ 1 ∷ 0 ∷ 41 ∷ 25
    ∷ 2 ∷ 1 ∷ 0 ∷ 4 ∷ 38 ∷ 6 ∷ 25 ∷ 3 ∷ 1 ∷ 0 ∷ 2 ∷ 7 ∷ 0 ∷ 47 ∷ 42 ∷ 32 ∷ 99 ∷ 32 ∷ 42 ∷ 47 ∷ 1 ∷ 0 ∷ 44 ∷ 25 ∷ 3 ∷ 2 ∷ 0 ∷ 2 ∷ 7 ∷ 0 ∷ 47 ∷ 42 ∷ 32
    ∷ 99 ∷ 32 ∷ 42 ∷ 47 ∷ 1 ∷ 1 ∷ 0 ∷ 1 ∷ [])
    (code 0 "LDA" ∷ comment 0 " /* c */" ∷ code 0 "(" ∷ code 0 "12" ∷ comment 0 "/* c */" ∷ code 0 ")" ∷ comment 0 "/* c */" ∷ code 0 "," ∷ comment 0 " /* c */" ∷ code 0 "\n" ∷ code 0 "y" ∷ [])
    -- trivia of a factor and of its `!`
    ∷ row usual (24 ∷ 0 ∷ 1 ∷ 0 ∷ 9 ∷ 2 ∷ 29 ∷ 6 ∷ 30 ∷ 3 ∷ 2 ∷ 0 ∷ 2 ∷ 7 ∷ 0 ∷ 47 ∷ 42 ∷ 32 ∷ 99 ∷ 32 ∷ 42 ∷ 47 ∷ 1 ∷ 25 ∷ 2 ∷ 1 ∷ 0 ∷ 42 ∷ 25 ∷ 3
    ∷ 2 ∷ 0 ∷ 3 ∷ 4 ∷ 0 ∷ 47 ∷ 47 ∷ 32 ∷ 99 ∷ 1 ∷ 1 ∷ 0 ∷ 33 ∷ [])
    (comment 0 "/* c */" ∷ code 0 "\n" ∷ comment 0 "// c" ∷ code 0 "\n" ∷ code 0 "!" ∷ comment 0 "/* c */" ∷ code 0 "\n" ∷ code 0 "*" ∷ [])
    -- blocks one behind the other
    ∷ row lined (24 ∷ 0 ∷ 2 ∷ 0 ∷ 2 ∷ 2 ∷ 27 ∷ 14 ∷ 25 ∷ 2 ∷ 1 ∷ 0 ∷ 123 ∷ 24 ∷ 0 ∷ 1 ∷ 0 ∷ 13 ∷ 2 ∷ 25 ∷ 2 ∷ 1 ∷ 0 ∷ 33 ∷ 25 ∷ 2 ∷ 1 ∷ 0 ∷ 125 ∷ 2
    ∷ 2 ∷ 27 ∷ 14 ∷ 25 ∷ 2 ∷ 1 ∷ 0 ∷ 123 ∷ 24 ∷ 0 ∷ 1 ∷ 0 ∷ 13 ∷ 2 ∷ 25 ∷ 2 ∷ 1 ∷ 0 ∷ 33 ∷ 25 ∷ 2 ∷ 1 ∷ 0 ∷ 125 ∷ [])
    (code 0 "\n" ∷ code 0 "{" ∷ code 0 "\n" ∷ code 4 "nop" ∷ code 0 "\n" ∷ code 0 "}" ∷ code 0 "\n" ∷ code 0 "\n" ∷ code 0 "{" ∷ code 0 "\n" ∷ code 4 "nop" ∷ code 0 "\n" ∷ code 0 "}" ∷ [])
    -- labels one behind the other
    ∷ row usual (24 ∷ 0 ∷ 2 ∷ 0 ∷ 14 ∷ 6 ∷ 25 ∷ 2 ∷ 1 ∷ 0 ∷ 97 ∷ 25 ∷ 2 ∷ 1 ∷ 0 ∷ 58 ∷ 14 ∷ 6 ∷ 25 ∷ 2 ∷ 1 ∷ 0 ∷ 97 ∷ 25 ∷ 2 ∷ 1 ∷ 0 ∷ 58 ∷ [])
    (label 0 "a:" ∷ label 0 "a:" ∷ [])
    -- a label behind an `If`
    ∷ row usual (24 ∷ 0 ∷ 2 ∷ 0 ∷ 10 ∷ 14 ∷ 25 ∷ 2 ∷ 3 ∷ 0 ∷ 46 ∷ 105 ∷ 102 ∷ 29 ∷ 2 ∷ 34 ∷ 6 ∷ 25 ∷ 2 ∷ 1 ∷ 0 ∷ 1 ∷ 25 ∷ 2 ∷ 1 ∷ 0 ∷ 49 ∷ 27 ∷ 14
    ∷ 25 ∷ 2 ∷ 1 ∷ 0 ∷ 123 ∷ 24 ∷ 0 ∷ 1 ∷ 0 ∷ 13 ∷ 2 ∷ 25 ∷ 2 ∷ 1 ∷ 0 ∷ 33 ∷ 25 ∷ 2 ∷ 1 ∷ 0 ∷ 125 ∷ 14 ∷ 6 ∷ 25 ∷ 2 ∷ 1 ∷ 0 ∷ 97 ∷ 25 ∷ 2 ∷ 1 ∷ 0 ∷ 58
    ∷ [])
    (code 0 ".if" ∷ code 0 " " ∷ code 0 "1" ∷ code 0 " " ∷ code 0 "{" ∷ code 0 "\n" ∷ code 4 "nop" ∷ code 0 "\n" ∷ code 0 "}" ∷ code 0 "\n" ∷ label 0 "a:" ∷ [])
    -- a label with a block behind an instruction
    ∷ row upper (24 ∷ 0 ∷ 2 ∷ 0 ∷ 13 ∷ 2 ∷ 25 ∷ 2 ∷ 1 ∷ 0 ∷ 33 ∷ 14 ∷ 14 ∷ 25 ∷ 2 ∷ 1 ∷ 0 ∷ 97 ∷ 25 ∷ 2 ∷ 1 ∷ 0 ∷ 58 ∷ 27 ∷ 14 ∷ 25 ∷ 2 ∷ 1 ∷ 0 ∷ 123
    ∷ 24 ∷ 0 ∷ 1 ∷ 0 ∷ 13 ∷ 2 ∷ 25 ∷ 2 ∷ 1 ∷ 0 ∷ 33 ∷ 25 ∷ 2 ∷ 1 ∷ 0 ∷ 125 ∷ [])
    (code 0 "NOP" ∷ code 0 "\n" ∷ label 0 "a:" ∷ code 0 "{" ∷ code 0 "\n" ∷ code 2 "NOP" ∷ code 0 "\n" ∷ code 0 "}" ∷ [])
    -- an instruction and a macro's invocation
    ∷ row usual (24 ∷ 0 ∷ 2 ∷ 0 ∷ 13 ∷ 2 ∷ 25 ∷ 2 ∷ 1 ∷ 0 ∷ 33 ∷ 17 ∷ 30 ∷ 25 ∷ 2 ∷ 1 ∷ 0 ∷ 109 ∷ 25 ∷ 2 ∷ 1 ∷ 0 ∷ 40 ∷ 24 ∷ 0 ∷ 0 ∷ 0 ∷ 25 ∷ 2 ∷ 1 ∷ 0 ∷ 41 ∷ [])
    (code 0 "nop" ∷ code 0 "m" ∷ code 0 "(" ∷ code 0 ")" ∷ [])
    -- data and text
    ∷ row usual (24 ∷ 0 ∷ 2 ∷ 0 ∷ 5 ∷ 6 ∷ 24 ∷ 0 ∷ 1 ∷ 0 ∷ 42 ∷ 2 ∷ 29 ∷ 2 ∷ 34 ∷ 6 ∷ 25 ∷ 2 ∷ 1 ∷ 0 ∷ 1 ∷ 25 ∷ 2 ∷ 1 ∷ 0 ∷ 49 ∷ 25 ∷ 2 ∷ 1 ∷ 0 ∷ 0
    ∷ 21 ∷ 10 ∷ 25 ∷ 2 ∷ 5 ∷ 0 ∷ 46 ∷ 116 ∷ 101 ∷ 120 ∷ 116 ∷ 29 ∷ 2 ∷ 33 ∷ 2 ∷ 25 ∷ 2 ∷ 1 ∷ 0 ∷ 120 ∷ [])
    (code 0 ".byte" ∷ code 0 " " ∷ code 0 "1" ∷ code 0 ".text" ∷ code 0 " x" ∷ [])
    -- an error behind data
    ∷ row usual (24 ∷ 0 ∷ 2 ∷ 0 ∷ 5 ∷ 6 ∷ 24 ∷ 0 ∷ 1 ∷ 0 ∷ 42 ∷ 2 ∷ 29 ∷ 2 ∷ 34 ∷ 6 ∷ 25 ∷ 2 ∷ 1 ∷ 0 ∷ 1 ∷ 25 ∷ 2 ∷ 1 ∷ 0 ∷ 49 ∷ 25 ∷ 2 ∷ 1 ∷ 0 ∷ 0 ∷ 8 ∷ 2 ∷ 25 ∷ 2 ∷ 1 ∷ 0 ∷ 63 ∷ [])
    (code 0 ".byte" ∷ code 0 " " ∷ code 0 "1" ∷ code 0 "?" ∷ [])
    -- braces in braces
    ∷ row upper (24 ∷ 0 ∷ 1 ∷ 0 ∷ 2 ∷ 2 ∷ 27 ∷ 14 ∷ 25 ∷ 2 ∷ 1 ∷ 0 ∷ 123 ∷ 24 ∷ 0 ∷ 2 ∷ 0 ∷ 13 ∷ 2 ∷ 25 ∷ 2 ∷ 1 ∷ 0 ∷ 33 ∷ 2 ∷ 2 ∷ 27 ∷ 14 ∷ 25 ∷ 2
    ∷ 1 ∷ 0 ∷ 123 ∷ 24 ∷ 0 ∷ 2 ∷ 0 ∷ 14 ∷ 6 ∷ 25 ∷ 3 ∷ 2 ∷ 0 ∷ 2 ∷ 7 ∷ 0 ∷ 47 ∷ 42 ∷ 32 ∷ 99 ∷ 32 ∷ 42 ∷ 47 ∷ 1 ∷ 1 ∷ 0 ∷ 97 ∷ 25 ∷ 2 ∷ 1 ∷ 0 ∷ 58
    ∷ 13 ∷ 2 ∷ 25 ∷ 2 ∷ 1 ∷ 0 ∷ 29 ∷ 25 ∷ 2 ∷ 1 ∷ 0 ∷ 125 ∷ 25 ∷ 2 ∷ 1 ∷ 0 ∷ 125 ∷ [])
    (code 0 "{" ∷ code 0 "\n" ∷ code 2 "NOP" ∷ code 2 "\n" ∷ code 2 "{" ∷ code 2 "\n" ∷ comment 4 "/* c */" ∷ code 4 "\n" ∷ label 4 "a:" ∷ code 4 "\n"
    ∷ code 4 "LDA" ∷ code 2 "\n" ∷ code 2 "}" ∷ code 0 "\n" ∷ code 0 "}" ∷ [])
    -- trivia of a token, of whitespace and of a comment
    ∷ row usual (24 ∷ 0 ∷ 2 ∷ 0 ∷ 13 ∷ 2 ∷ 25 ∷ 3 ∷ 3 ∷ 0 ∷ 0 ∷ 1 ∷ 0 ∷ 32 ∷ 3 ∷ 4 ∷ 0 ∷ 47 ∷ 47 ∷ 32 ∷ 99 ∷ 1 ∷ 1 ∷ 0 ∷ 33 ∷ 13 ∷ 2 ∷ 25 ∷ 3 ∷ 3 ∷ 0
    ∷ 1 ∷ 1 ∷ 2 ∷ 7 ∷ 0 ∷ 47 ∷ 42 ∷ 32 ∷ 99 ∷ 32 ∷ 42 ∷ 47 ∷ 1 ∷ 0 ∷ 52 ∷ [])
    (comment 0 "// c" ∷ code 0 "\n" ∷ code 0 "nop" ∷ code 0 "\n" ∷ code 0 "\n" ∷ comment 0 "/* c */" ∷ code 0 "tsx" ∷ [])
    ∷ []

abbrev outcome : Held → Checked × List Chunk
outcome (held chunks pending) = (no_refusal, reverse chunks)
outcome (refused why) = (Err why, [])

abbrev found : Row → Checked × List Chunk
found sample =
    outcome (hold 1048576 (events_of (record { options = sample.options; indent = 0 }) (read_file 64 sample.tree).tree) (held [] false))

abbrev wanted : Row → Checked × List Chunk
wanted sample = (no_refusal, sample.chunks)

-- every row holds
pub rows_held : map found rows ≡ map wanted rows
unfolding cased is_newline stored_indent stored_head stored_chunk built chain fields_fit map_fits sized_end trivium_end trivia_end trivia_read text_end rest_of
    own_at read_own trivia_from fields_due parts_due read_parts read held_length without_newlines hold ascii mnemonics registers operators data_sizes encodings
    variable_types number_types modifiers printed first_refusal own_refusal head_refusal trivia_events
    lead_events one_of events_in view
rows_held = refl

-- ---- newlines between tokens

abbrev kinds : List ℕ
kinds = 0 ∷ 1 ∷ 2 ∷ 3 ∷ 4 ∷ 5 ∷ 6 ∷ 7 ∷ 8 ∷ 9 ∷ 10 ∷ 11 ∷ 12 ∷ 13 ∷ 14 ∷ 15 ∷ 16 ∷ 17 ∷ 18 ∷ 19 ∷ 20 ∷ 21 ∷ 22 ∷ 23 ∷ []

-- '0' no newline, '1' one where the second token has a block, '2' one always
abbrev break_digit : ℕ → ℕ → ℕ
break_digit previous number = cond (breaks previous number false) 50 (cond (breaks previous number true) 49 48)

-- a row for each kind of the first token, a digit for each kind of the second
abbrev break_rows : List String
break_rows =
    "022222220222221222222222"
    ∷ "202222220222221222222202"
    ∷ "222222220222222222222222"
    ∷ "222022220222221222222222"
    ∷ "222202220222221222222222"
    ∷ "222220220222221222222022"
    ∷ "222222220222221222222222"
    ∷ "222222200222221222222222"
    ∷ "222222220222221222222222"
    ∷ "222222220022221222222222"
    ∷ "222222220222222222222222"
    ∷ "222222220221221222222222"
    ∷ "222222220222021222222222"
    ∷ "222222220222201220222222"
    ∷ "222222220222221222222222"
    ∷ "222222220222221222222222"
    ∷ "222222220222221202222222"
    ∷ "222222220222201220222222"
    ∷ "222222220222221222022222"
    ∷ "222222220222221222222222"
    ∷ "222222220222221222220222"
    ∷ "222220220222221222222022"
    ∷ "202222220222221222222202"
    ∷ "222222220222221222222220"
    ∷ []

-- every pair holds
pub breaks_held : map (λ previous. map (break_digit previous) kinds) kinds ≡ map ascii break_rows
unfolding one_of ascii
breaks_held = refl
