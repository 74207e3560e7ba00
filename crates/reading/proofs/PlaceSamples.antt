-- The eight places and reading order, as one table: comments on a record of a sample tree, which places they use, and
-- what is read before them. Every field of every kind that can have trivia is among them. The rows come from a second
-- reading of document 01 that was held against the Rust: tools/place_samples.py makes them.
--   places_held : map found rows ≡ map wanted rows
use Rattle.answers.specs.Numbers.{no_refusal, Checked}
use Prim.Native.Nat.{ℕ, ◌+◌}
use Prim.Native.String.{String}
use mathlib.Core.Path.{◌≡◌, refl}
use mathlib.Core.List.{List, [], ◌∷◌, ◌++◌, map}
use mathlib.Core.Bool.{false, cond}
use lib.ListN.{get_or, take, drop}
use lib.Dec.{eqb}
use Rattle.text.specs.Ink.{flat}
use Rattle.text.specs.Accepted.{accepted_byte, accepted_text, fault_at}
use Rattle.text.specs.Literals.{ascii}
use Rattle.options.specs.Types.{casing_of}
use Rattle.options.specs.Casings.{cased}
use Rattle.options.specs.declared.MnemonicOptions.{MnemonicOptions}
use Rattle.tree.specs.Tree.{built, chain}
use Rattle.tree.specs.Own.{fields_fit, map_fits, sized_end, trivium_end, trivia_end, trivia_read, text_end, rest_of, own_at}
use Rattle.tree.specs.Own.{read_own}
use Rattle.tree.specs.Reading.{trivia_from, trivia_texts, fields_due, parts_due, read_parts, read}
use Rattle.tree.specs.Checking.{read_file, texts_checked, tree_checked, batch_checked}
use Rattle.events.specs.Printed.{mnemonics, registers, operators, data_sizes, encodings, variable_types, number_types}
use Rattle.events.specs.Printed.{modifiers, printed}
use Rattle.events.specs.Views.{view}
use Rattle.reading.specs.Order.{comments, shown_as, order_in, order}
use Rattle.reading.specs.Places.{Spot, opening_brace, label_colon, value_head, import_path, path_item, register_letter}
use Rattle.reading.specs.Places.{expression_head, closing_character, has_comment, Use, places_in, spot_number}

-- trivia given to a record: where it stands, the trivia as stored, how many bytes are read before their comments, these
-- comments, and the places that the tree uses then
record Note : Type 0 where
  place : ℕ
  trivia : List ℕ
  before : ℕ
  text : List ℕ
  uses : List Use

-- a newline and a comment of each code
abbrev note : ℕ → ℕ → List Use → Note
note place before uses = record {
  place = place;
  trivia = 3 ∷ 0 ∷ 1 ∷ 2 ∷ 4 ∷ 0 ∷ (ascii "/**/" ++ (3 ∷ 2 ∷ 0 ∷ ascii "//"));
  before = before;
  text = ascii "/**///";
  uses = uses;
}

-- a space and a newline, which are no comment
abbrev space : ℕ → List Use → Note
space place uses = record {
  place = place;
  trivia = 2 ∷ 0 ∷ 0 ∷ 1 ∷ 0 ∷ 32 ∷ 1 ∷ [];
  before = 0;
  text = [];
  uses = uses;
}

abbrev used : ℕ → Spot → Use
used place spot = record { place = place; spot = spot }

-- a stored tree without trivia, its reading order under casings, and trivia of its records
record Row : Type 0 where
  casings : MnemonicOptions
  tree : List ℕ
  text : List ℕ
  notes : List Note

abbrev row : MnemonicOptions → List ℕ → String → List Note → Row
row casings tree text notes = record { casings = casings; tree = tree; text = ascii text; notes = notes }

-- 0 is upper, 1 lower
abbrev casings : ℕ → ℕ → MnemonicOptions
casings mnemonic register = record { casing = casing_of mnemonic; register_casing = casing_of register }

abbrev lower : MnemonicOptions
lower = casings 1 1

abbrev rows : List Row
rows =
    -- Align in a list
    row lower (24 ∷ 0 ∷ 1 ∷ 0 ∷ 0 ∷ 6 ∷ 25 ∷ 2 ∷ 1 ∷ 0 ∷ 97 ∷ 29 ∷ 2 ∷ 30 ∷ 2 ∷ 25 ∷ 2 ∷ 1 ∷ 0 ∷ 65 ∷ [])
    "aA"
    (note 6 0 [] ∷ note 11 1 [] ∷ note 13 1 [] ∷ note 15 1 [] ∷ [])
    -- Assert in a list
    ∷ row lower (24 ∷ 0 ∷ 1 ∷ 0 ∷ 1 ∷ 14 ∷ 25 ∷ 2 ∷ 1 ∷ 0 ∷ 97 ∷ 29 ∷ 2 ∷ 30 ∷ 2 ∷ 25 ∷ 2 ∷ 1 ∷ 0 ∷ 65 ∷ 36 ∷ 6 ∷ 25 ∷ 2
    ∷ 1 ∷ 0 ∷ 66 ∷ 24 ∷ 0 ∷ 0 ∷ 0 ∷ [])
    "aAB\""
    (note 6 0 [] ∷ note 11 1 [] ∷ note 22 2 [] ∷ [])
    -- Braces in a list
    ∷ row lower (24 ∷ 0 ∷ 1 ∷ 0 ∷ 2 ∷ 2 ∷ 27 ∷ 14 ∷ 25 ∷ 2 ∷ 1 ∷ 0 ∷ 123 ∷ 24 ∷ 0 ∷ 0 ∷ 0 ∷ 25 ∷ 2 ∷ 1 ∷ 0 ∷ 125 ∷ [])
    "{}"
    (note 8 0 [] ∷ note 17 1 [] ∷ [])
    -- Config in a list
    ∷ row lower (24 ∷ 0 ∷ 1 ∷ 0 ∷ 3 ∷ 2 ∷ 27 ∷ 14 ∷ 25 ∷ 2 ∷ 1 ∷ 0 ∷ 123 ∷ 24 ∷ 0 ∷ 0 ∷ 0 ∷ 25 ∷ 2 ∷ 1 ∷ 0 ∷ 125 ∷ [])
    "{}"
    (note 8 0 [] ∷ [])
    -- ConfigPair in a list
    ∷ row lower (24 ∷ 0 ∷ 1 ∷ 0 ∷ 4 ∷ 14 ∷ 25 ∷ 2 ∷ 1 ∷ 0 ∷ 97 ∷ 25 ∷ 2 ∷ 1 ∷ 0 ∷ 65 ∷ 8 ∷ 2 ∷ 25 ∷ 2 ∷ 1 ∷ 0 ∷ 98 ∷ [])
    "aAb"
    (note 6 0 [] ∷ note 11 1 [] ∷ note 16 2 [] ∷ note 18 2 (used 18 value_head ∷ []) ∷ space 18 [] ∷ [])
    -- Data in a list
    ∷ row lower (24 ∷ 0 ∷ 1 ∷ 0 ∷ 5 ∷ 6 ∷ 24 ∷ 0 ∷ 1 ∷ 0 ∷ 42 ∷ 6 ∷ 29 ∷ 2 ∷ 30 ∷ 2 ∷ 25 ∷ 2 ∷ 1 ∷ 0 ∷ 65 ∷ 25 ∷ 2 ∷ 1 ∷
    0 ∷ 66 ∷ 25 ∷ 2 ∷ 1 ∷ 0 ∷ 0 ∷ [])
    ".byteAB"
    (note 12 5 [] ∷ note 21 6 [] ∷ note 26 0 [] ∷ [])
    -- Definition in a list
    ∷ row lower (24 ∷ 0 ∷ 1 ∷ 0 ∷ 6 ∷ 14 ∷ 25 ∷ 2 ∷ 1 ∷ 0 ∷ 97 ∷ 25 ∷ 2 ∷ 1 ∷ 0 ∷ 98 ∷ 8 ∷ 2 ∷ 25 ∷ 2 ∷ 1 ∷ 0 ∷ 99 ∷ [])
    "abc"
    (note 6 0 [] ∷ note 11 1 [] ∷ note 18 2 (used 18 value_head ∷ []) ∷ space 18 [] ∷ [])
    -- Eof in a list
    ∷ row lower (24 ∷ 0 ∷ 1 ∷ 0 ∷ 7 ∷ 2 ∷ 25 ∷ 0 ∷ [])
    ""
    (note 6 0 [] ∷ [])
    -- Error in a list
    ∷ row lower (24 ∷ 0 ∷ 1 ∷ 0 ∷ 8 ∷ 2 ∷ 25 ∷ 2 ∷ 1 ∷ 0 ∷ 97 ∷ [])
    "a"
    (note 6 0 [] ∷ [])
    -- Expression in a list
    ∷ row lower (24 ∷ 0 ∷ 1 ∷ 0 ∷ 9 ∷ 2 ∷ 29 ∷ 2 ∷ 30 ∷ 2 ∷ 25 ∷ 2 ∷ 1 ∷ 0 ∷ 65 ∷ [])
    "A"
    (note 8 0 (used 8 expression_head ∷ []) ∷ space 8 [] ∷ [])
    -- If in a list
    ∷ row lower (24 ∷ 0 ∷ 1 ∷ 0 ∷ 10 ∷ 62 ∷ 25 ∷ 2 ∷ 1 ∷ 0 ∷ 97 ∷ 29 ∷ 2 ∷ 30 ∷ 2 ∷ 25 ∷ 2 ∷ 1 ∷ 0 ∷ 65 ∷ 27 ∷ 14 ∷ 25 ∷
    2 ∷ 1 ∷ 0 ∷ 123 ∷ 24 ∷ 0 ∷ 0 ∷ 0 ∷ 25 ∷ 2 ∷ 1 ∷ 0 ∷ 125 ∷ 25 ∷ 2 ∷ 1 ∷ 0 ∷ 98 ∷ 27 ∷ 14 ∷ 25 ∷ 2 ∷ 1 ∷ 0 ∷ 123 ∷ 24
    ∷ 0 ∷ 0 ∷ 0 ∷ 25 ∷ 2 ∷ 1 ∷ 0 ∷ 125 ∷ [])
    "aA{}b{}"
    (note 6 0 [] ∷ note 11 1 [] ∷ note 22 2 (used 22 opening_brace ∷ []) ∷ space 22 [] ∷ note 36 4 [] ∷ [])
    -- Import in a list
    ∷ row lower (24 ∷ 0 ∷ 1 ∷ 0 ∷ 11 ∷ 62 ∷ 25 ∷ 2 ∷ 1 ∷ 0 ∷ 97 ∷ 40 ∷ 2 ∷ 25 ∷ 2 ∷ 1 ∷ 0 ∷ 65 ∷ 25 ∷ 2 ∷ 1 ∷ 0 ∷ 98 ∷
    36 ∷ 6 ∷ 25 ∷ 2 ∷ 1 ∷ 0 ∷ 66 ∷ 24 ∷ 0 ∷ 0 ∷ 0 ∷ 27 ∷ 14 ∷ 25 ∷ 2 ∷ 1 ∷ 0 ∷ 123 ∷ 24 ∷ 0 ∷ 0 ∷ 0 ∷ 25 ∷ 2 ∷ 1 ∷ 0 ∷
    125 ∷ [])
    "aAbB\"{}"
    (note 6 0 [] ∷ note 13 1 [] ∷ note 18 2 [] ∷ note 36 5 (used 36 opening_brace ∷ []) ∷ space 36 [] ∷ [])
    -- File in a list
    ∷ row lower (24 ∷ 0 ∷ 1 ∷ 0 ∷ 12 ∷ 6 ∷ 25 ∷ 2 ∷ 1 ∷ 0 ∷ 97 ∷ 36 ∷ 6 ∷ 25 ∷ 2 ∷ 1 ∷ 0 ∷ 65 ∷ 24 ∷ 0 ∷ 0 ∷ 0 ∷ [])
    "aA\""
    (note 6 0 [] ∷ [])
    -- Instruction in a list
    ∷ row lower (24 ∷ 0 ∷ 1 ∷ 0 ∷ 13 ∷ 6 ∷ 25 ∷ 2 ∷ 1 ∷ 0 ∷ 0 ∷ 37 ∷ 18 ∷ 29 ∷ 2 ∷ 30 ∷ 2 ∷ 25 ∷ 2 ∷ 1 ∷ 0 ∷ 65 ∷ 25 ∷ 2
    ∷ 1 ∷ 0 ∷ 0 ∷ [])
    "adcA"
    (note 6 0 [] ∷ note 13 3 [] ∷ [])
    -- Label in a list
    ∷ row lower (24 ∷ 0 ∷ 1 ∷ 0 ∷ 14 ∷ 14 ∷ 25 ∷ 2 ∷ 1 ∷ 0 ∷ 97 ∷ 25 ∷ 2 ∷ 1 ∷ 0 ∷ 58 ∷ 27 ∷ 14 ∷ 25 ∷ 2 ∷ 1 ∷ 0 ∷ 123 ∷
    24 ∷ 0 ∷ 0 ∷ 0 ∷ 25 ∷ 2 ∷ 1 ∷ 0 ∷ 125 ∷ [])
    "a:{}"
    (note 6 0 [] ∷ note 11 1 (used 11 label_colon ∷ []) ∷ space 11 [] ∷ note 18 2 (used 18 opening_brace ∷ []) ∷ space 18
    [] ∷ [])
    -- Loop in a list
    ∷ row lower (24 ∷ 0 ∷ 1 ∷ 0 ∷ 15 ∷ 14 ∷ 25 ∷ 2 ∷ 1 ∷ 0 ∷ 97 ∷ 29 ∷ 2 ∷ 30 ∷ 2 ∷ 25 ∷ 2 ∷ 1 ∷ 0 ∷ 65 ∷ 27 ∷ 14 ∷ 25 ∷
    2 ∷ 1 ∷ 0 ∷ 123 ∷ 24 ∷ 0 ∷ 0 ∷ 0 ∷ 25 ∷ 2 ∷ 1 ∷ 0 ∷ 125 ∷ [])
    "aA{}"
    (note 6 0 [] ∷ note 11 1 [] ∷ note 22 2 (used 22 opening_brace ∷ []) ∷ space 22 [] ∷ [])
    -- MacroDefinition in a list
    ∷ row lower (24 ∷ 0 ∷ 1 ∷ 0 ∷ 16 ∷ 126 ∷ 25 ∷ 2 ∷ 1 ∷ 0 ∷ 97 ∷ 25 ∷ 2 ∷ 1 ∷ 0 ∷ 98 ∷ 25 ∷ 2 ∷ 1 ∷ 0 ∷ 65 ∷ 24 ∷ 0 ∷
    1 ∷ 0 ∷ 42 ∷ 6 ∷ 25 ∷ 2 ∷ 1 ∷ 0 ∷ 99 ∷ 25 ∷ 2 ∷ 1 ∷ 0 ∷ 66 ∷ 25 ∷ 2 ∷ 1 ∷ 0 ∷ 67 ∷ 27 ∷ 14 ∷ 25 ∷ 2 ∷ 1 ∷ 0 ∷ 123 ∷
    24 ∷ 0 ∷ 0 ∷ 0 ∷ 25 ∷ 2 ∷ 1 ∷ 0 ∷ 125 ∷ [])
    "abAcBC{}"
    (note 6 0 [] ∷ note 11 1 [] ∷ note 16 2 [] ∷ note 27 3 [] ∷ note 37 5 [] ∷ note 44 6 (used 44 opening_brace ∷ []) ∷
    space 44 [] ∷ [])
    -- MacroInvocation in a list
    ∷ row lower (24 ∷ 0 ∷ 1 ∷ 0 ∷ 17 ∷ 30 ∷ 25 ∷ 2 ∷ 1 ∷ 0 ∷ 97 ∷ 25 ∷ 2 ∷ 1 ∷ 0 ∷ 65 ∷ 24 ∷ 0 ∷ 1 ∷ 0 ∷ 42 ∷ 6 ∷ 29 ∷ 2
    ∷ 30 ∷ 2 ∷ 25 ∷ 2 ∷ 1 ∷ 0 ∷ 66 ∷ 25 ∷ 2 ∷ 1 ∷ 0 ∷ 67 ∷ 25 ∷ 2 ∷ 1 ∷ 0 ∷ 68 ∷ [])
    "aABCD"
    (note 6 0 [] ∷ note 11 1 [] ∷ note 36 4 [] ∷ [])
    -- ProgramCounterDefinition in a list
    ∷ row lower (24 ∷ 0 ∷ 1 ∷ 0 ∷ 18 ∷ 14 ∷ 25 ∷ 2 ∷ 1 ∷ 0 ∷ 65 ∷ 25 ∷ 2 ∷ 1 ∷ 0 ∷ 66 ∷ 29 ∷ 2 ∷ 30 ∷ 2 ∷ 25 ∷ 2 ∷ 1 ∷ 0
    ∷ 67 ∷ [])
    "ABC"
    (note 6 0 [] ∷ note 11 1 [] ∷ note 16 2 [] ∷ [])
    -- Segment in a list
    ∷ row lower (24 ∷ 0 ∷ 1 ∷ 0 ∷ 19 ∷ 14 ∷ 25 ∷ 2 ∷ 1 ∷ 0 ∷ 97 ∷ 29 ∷ 2 ∷ 30 ∷ 2 ∷ 25 ∷ 2 ∷ 1 ∷ 0 ∷ 65 ∷ 27 ∷ 14 ∷ 25 ∷
    2 ∷ 1 ∷ 0 ∷ 123 ∷ 24 ∷ 0 ∷ 0 ∷ 0 ∷ 25 ∷ 2 ∷ 1 ∷ 0 ∷ 125 ∷ [])
    "aA{}"
    (note 6 0 [] ∷ note 11 1 [] ∷ note 22 2 (used 22 opening_brace ∷ []) ∷ space 22 [] ∷ [])
    -- Test in a list
    ∷ row lower (24 ∷ 0 ∷ 1 ∷ 0 ∷ 20 ∷ 14 ∷ 25 ∷ 2 ∷ 1 ∷ 0 ∷ 97 ∷ 29 ∷ 2 ∷ 30 ∷ 2 ∷ 25 ∷ 2 ∷ 1 ∷ 0 ∷ 65 ∷ 27 ∷ 14 ∷ 25 ∷
    2 ∷ 1 ∷ 0 ∷ 123 ∷ 24 ∷ 0 ∷ 0 ∷ 0 ∷ 25 ∷ 2 ∷ 1 ∷ 0 ∷ 125 ∷ [])
    "aA{}"
    (note 6 0 [] ∷ note 11 1 [] ∷ note 22 2 (used 22 opening_brace ∷ []) ∷ space 22 [] ∷ [])
    -- Text in a list
    ∷ row lower (24 ∷ 0 ∷ 1 ∷ 0 ∷ 21 ∷ 14 ∷ 25 ∷ 2 ∷ 1 ∷ 0 ∷ 97 ∷ 25 ∷ 2 ∷ 1 ∷ 0 ∷ 0 ∷ 29 ∷ 2 ∷ 30 ∷ 2 ∷ 25 ∷ 2 ∷ 1 ∷ 0
    ∷ 65 ∷ [])
    "aasciiA"
    (note 6 0 [] ∷ note 11 1 [] ∷ note 16 6 [] ∷ [])
    -- Trace in a list
    ∷ row lower (24 ∷ 0 ∷ 1 ∷ 0 ∷ 22 ∷ 30 ∷ 25 ∷ 2 ∷ 1 ∷ 0 ∷ 97 ∷ 25 ∷ 2 ∷ 1 ∷ 0 ∷ 65 ∷ 24 ∷ 0 ∷ 1 ∷ 0 ∷ 42 ∷ 6 ∷ 29 ∷ 2
    ∷ 30 ∷ 2 ∷ 25 ∷ 2 ∷ 1 ∷ 0 ∷ 66 ∷ 25 ∷ 2 ∷ 1 ∷ 0 ∷ 67 ∷ 25 ∷ 2 ∷ 1 ∷ 0 ∷ 68 ∷ [])
    "aABCD"
    (note 6 0 [] ∷ note 11 1 [] ∷ note 36 4 [] ∷ [])
    -- VariableDefinition in a list
    ∷ row lower (24 ∷ 0 ∷ 1 ∷ 0 ∷ 23 ∷ 30 ∷ 25 ∷ 2 ∷ 1 ∷ 0 ∷ 0 ∷ 25 ∷ 2 ∷ 1 ∷ 0 ∷ 97 ∷ 25 ∷ 2 ∷ 1 ∷ 0 ∷ 65 ∷ 29 ∷ 2 ∷ 30
    ∷ 2 ∷ 25 ∷ 2 ∷ 1 ∷ 0 ∷ 66 ∷ [])
    ".constaAB"
    (note 6 0 [] ∷ note 11 6 [] ∷ note 16 7 [] ∷ note 21 8 [] ∷ [])
    -- Align as a definition's value
    ∷ row lower (24 ∷ 0 ∷ 1 ∷ 0 ∷ 6 ∷ 14 ∷ 25 ∷ 2 ∷ 1 ∷ 0 ∷ 97 ∷ 25 ∷ 2 ∷ 1 ∷ 0 ∷ 98 ∷ 0 ∷ 6 ∷ 25 ∷ 2 ∷ 1 ∷ 0 ∷ 99 ∷ 29
    ∷ 2 ∷ 30 ∷ 2 ∷ 25 ∷ 2 ∷ 1 ∷ 0 ∷ 65 ∷ [])
    "abcA"
    (note 18 2 (used 18 value_head ∷ []) ∷ space 18 [] ∷ [])
    -- Assert as a definition's value
    ∷ row lower (24 ∷ 0 ∷ 1 ∷ 0 ∷ 6 ∷ 14 ∷ 25 ∷ 2 ∷ 1 ∷ 0 ∷ 97 ∷ 25 ∷ 2 ∷ 1 ∷ 0 ∷ 98 ∷ 1 ∷ 6 ∷ 25 ∷ 2 ∷ 1 ∷ 0 ∷ 99 ∷ 29
    ∷ 2 ∷ 30 ∷ 2 ∷ 25 ∷ 2 ∷ 1 ∷ 0 ∷ 65 ∷ [])
    "abcA"
    (note 18 2 (used 18 value_head ∷ []) ∷ space 18 [] ∷ [])
    -- Braces as a definition's value
    ∷ row lower (24 ∷ 0 ∷ 1 ∷ 0 ∷ 6 ∷ 14 ∷ 25 ∷ 2 ∷ 1 ∷ 0 ∷ 97 ∷ 25 ∷ 2 ∷ 1 ∷ 0 ∷ 98 ∷ 2 ∷ 2 ∷ 27 ∷ 14 ∷ 25 ∷ 2 ∷ 1 ∷ 0
    ∷ 123 ∷ 24 ∷ 0 ∷ 0 ∷ 0 ∷ 25 ∷ 2 ∷ 1 ∷ 0 ∷ 125 ∷ [])
    "ab{}"
    (note 20 2 (used 20 opening_brace ∷ used 20 value_head ∷ []) ∷ space 20 [] ∷ [])
    -- Config as a definition's value
    ∷ row lower (24 ∷ 0 ∷ 1 ∷ 0 ∷ 6 ∷ 14 ∷ 25 ∷ 2 ∷ 1 ∷ 0 ∷ 97 ∷ 25 ∷ 2 ∷ 1 ∷ 0 ∷ 98 ∷ 3 ∷ 2 ∷ 27 ∷ 14 ∷ 25 ∷ 2 ∷ 1 ∷ 0
    ∷ 123 ∷ 24 ∷ 0 ∷ 0 ∷ 0 ∷ 25 ∷ 2 ∷ 1 ∷ 0 ∷ 125 ∷ [])
    "ab{}"
    (note 20 2 (used 20 opening_brace ∷ used 20 value_head ∷ []) ∷ space 20 [] ∷ [])
    -- ConfigPair as a definition's value
    ∷ row lower (24 ∷ 0 ∷ 1 ∷ 0 ∷ 6 ∷ 14 ∷ 25 ∷ 2 ∷ 1 ∷ 0 ∷ 97 ∷ 25 ∷ 2 ∷ 1 ∷ 0 ∷ 98 ∷ 4 ∷ 14 ∷ 25 ∷ 2 ∷ 1 ∷ 0 ∷ 99 ∷ 25
    ∷ 2 ∷ 1 ∷ 0 ∷ 65 ∷ 8 ∷ 2 ∷ 25 ∷ 2 ∷ 1 ∷ 0 ∷ 100 ∷ [])
    "abcAd"
    (note 18 2 (used 18 value_head ∷ []) ∷ space 18 [] ∷ note 30 4 (used 30 value_head ∷ []) ∷ space 30 [] ∷ [])
    -- Data as a definition's value
    ∷ row lower (24 ∷ 0 ∷ 1 ∷ 0 ∷ 6 ∷ 14 ∷ 25 ∷ 2 ∷ 1 ∷ 0 ∷ 97 ∷ 25 ∷ 2 ∷ 1 ∷ 0 ∷ 98 ∷ 5 ∷ 6 ∷ 24 ∷ 0 ∷ 0 ∷ 0 ∷ 25 ∷ 2 ∷
    1 ∷ 0 ∷ 0 ∷ [])
    "ab.byte"
    (note 22 2 (used 22 value_head ∷ []) ∷ space 22 [] ∷ [])
    -- Definition as a definition's value
    ∷ row lower (24 ∷ 0 ∷ 1 ∷ 0 ∷ 6 ∷ 14 ∷ 25 ∷ 2 ∷ 1 ∷ 0 ∷ 97 ∷ 25 ∷ 2 ∷ 1 ∷ 0 ∷ 98 ∷ 6 ∷ 6 ∷ 25 ∷ 2 ∷ 1 ∷ 0 ∷ 99 ∷ 25
    ∷ 2 ∷ 1 ∷ 0 ∷ 100 ∷ [])
    "abcd"
    (note 18 2 (used 18 value_head ∷ []) ∷ space 18 [] ∷ [])
    -- Eof as a definition's value
    ∷ row lower (24 ∷ 0 ∷ 1 ∷ 0 ∷ 6 ∷ 14 ∷ 25 ∷ 2 ∷ 1 ∷ 0 ∷ 97 ∷ 25 ∷ 2 ∷ 1 ∷ 0 ∷ 98 ∷ 7 ∷ 2 ∷ 25 ∷ 0 ∷ [])
    "ab"
    (note 18 2 (used 18 value_head ∷ []) ∷ space 18 [] ∷ [])
    -- Expression as a definition's value
    ∷ row lower (24 ∷ 0 ∷ 1 ∷ 0 ∷ 6 ∷ 14 ∷ 25 ∷ 2 ∷ 1 ∷ 0 ∷ 97 ∷ 25 ∷ 2 ∷ 1 ∷ 0 ∷ 98 ∷ 9 ∷ 2 ∷ 29 ∷ 2 ∷ 30 ∷ 2 ∷ 25 ∷ 2
    ∷ 1 ∷ 0 ∷ 65 ∷ [])
    "abA"
    (note 20 2 [] ∷ [])
    -- If as a definition's value
    ∷ row lower (24 ∷ 0 ∷ 1 ∷ 0 ∷ 6 ∷ 14 ∷ 25 ∷ 2 ∷ 1 ∷ 0 ∷ 97 ∷ 25 ∷ 2 ∷ 1 ∷ 0 ∷ 98 ∷ 10 ∷ 14 ∷ 25 ∷ 2 ∷ 1 ∷ 0 ∷ 99 ∷
    29 ∷ 2 ∷ 30 ∷ 2 ∷ 25 ∷ 2 ∷ 1 ∷ 0 ∷ 65 ∷ 27 ∷ 14 ∷ 25 ∷ 2 ∷ 1 ∷ 0 ∷ 123 ∷ 24 ∷ 0 ∷ 0 ∷ 0 ∷ 25 ∷ 2 ∷ 1 ∷ 0 ∷ 125 ∷ [])
    "abcA{}"
    (note 18 2 (used 18 value_head ∷ []) ∷ space 18 [] ∷ note 34 4 (used 34 opening_brace ∷ []) ∷ space 34 [] ∷ [])
    -- Import as a definition's value
    ∷ row lower (24 ∷ 0 ∷ 1 ∷ 0 ∷ 6 ∷ 14 ∷ 25 ∷ 2 ∷ 1 ∷ 0 ∷ 97 ∷ 25 ∷ 2 ∷ 1 ∷ 0 ∷ 98 ∷ 11 ∷ 30 ∷ 25 ∷ 2 ∷ 1 ∷ 0 ∷ 99 ∷
    40 ∷ 2 ∷ 25 ∷ 2 ∷ 1 ∷ 0 ∷ 65 ∷ 25 ∷ 2 ∷ 1 ∷ 0 ∷ 100 ∷ 36 ∷ 6 ∷ 25 ∷ 2 ∷ 1 ∷ 0 ∷ 66 ∷ 24 ∷ 0 ∷ 0 ∷ 0 ∷ [])
    "abcAdB\""
    (note 18 2 (used 18 value_head ∷ []) ∷ space 18 [] ∷ [])
    -- File as a definition's value
    ∷ row lower (24 ∷ 0 ∷ 1 ∷ 0 ∷ 6 ∷ 14 ∷ 25 ∷ 2 ∷ 1 ∷ 0 ∷ 97 ∷ 25 ∷ 2 ∷ 1 ∷ 0 ∷ 98 ∷ 12 ∷ 6 ∷ 25 ∷ 2 ∷ 1 ∷ 0 ∷ 99 ∷ 36
    ∷ 6 ∷ 25 ∷ 2 ∷ 1 ∷ 0 ∷ 65 ∷ 24 ∷ 0 ∷ 0 ∷ 0 ∷ [])
    "abcA\""
    (note 18 2 (used 18 value_head ∷ []) ∷ space 18 [] ∷ [])
    -- Instruction as a definition's value
    ∷ row lower (24 ∷ 0 ∷ 1 ∷ 0 ∷ 6 ∷ 14 ∷ 25 ∷ 2 ∷ 1 ∷ 0 ∷ 97 ∷ 25 ∷ 2 ∷ 1 ∷ 0 ∷ 98 ∷ 13 ∷ 2 ∷ 25 ∷ 2 ∷ 1 ∷ 0 ∷ 0 ∷ [])
    "abadc"
    (note 18 2 (used 18 value_head ∷ []) ∷ space 18 [] ∷ [])
    -- Label as a definition's value
    ∷ row lower (24 ∷ 0 ∷ 1 ∷ 0 ∷ 6 ∷ 14 ∷ 25 ∷ 2 ∷ 1 ∷ 0 ∷ 97 ∷ 25 ∷ 2 ∷ 1 ∷ 0 ∷ 98 ∷ 14 ∷ 6 ∷ 25 ∷ 2 ∷ 1 ∷ 0 ∷ 99 ∷ 25
    ∷ 2 ∷ 1 ∷ 0 ∷ 58 ∷ [])
    "abc:"
    (note 18 2 (used 18 value_head ∷ []) ∷ space 18 [] ∷ [])
    -- Loop as a definition's value
    ∷ row lower (24 ∷ 0 ∷ 1 ∷ 0 ∷ 6 ∷ 14 ∷ 25 ∷ 2 ∷ 1 ∷ 0 ∷ 97 ∷ 25 ∷ 2 ∷ 1 ∷ 0 ∷ 98 ∷ 15 ∷ 14 ∷ 25 ∷ 2 ∷ 1 ∷ 0 ∷ 99 ∷
    29 ∷ 2 ∷ 30 ∷ 2 ∷ 25 ∷ 2 ∷ 1 ∷ 0 ∷ 65 ∷ 27 ∷ 14 ∷ 25 ∷ 2 ∷ 1 ∷ 0 ∷ 123 ∷ 24 ∷ 0 ∷ 0 ∷ 0 ∷ 25 ∷ 2 ∷ 1 ∷ 0 ∷ 125 ∷ [])
    "abcA{}"
    (note 18 2 (used 18 value_head ∷ []) ∷ space 18 [] ∷ note 34 4 (used 34 opening_brace ∷ []) ∷ space 34 [] ∷ [])
    -- MacroDefinition as a definition's value
    ∷ row lower (24 ∷ 0 ∷ 1 ∷ 0 ∷ 6 ∷ 14 ∷ 25 ∷ 2 ∷ 1 ∷ 0 ∷ 97 ∷ 25 ∷ 2 ∷ 1 ∷ 0 ∷ 98 ∷ 16 ∷ 126 ∷ 25 ∷ 2 ∷ 1 ∷ 0 ∷ 99 ∷
    25 ∷ 2 ∷ 1 ∷ 0 ∷ 100 ∷ 25 ∷ 2 ∷ 1 ∷ 0 ∷ 65 ∷ 24 ∷ 0 ∷ 0 ∷ 0 ∷ 25 ∷ 2 ∷ 1 ∷ 0 ∷ 66 ∷ 27 ∷ 14 ∷ 25 ∷ 2 ∷ 1 ∷ 0 ∷ 123 ∷
    24 ∷ 0 ∷ 0 ∷ 0 ∷ 25 ∷ 2 ∷ 1 ∷ 0 ∷ 125 ∷ [])
    "abcdAB{}"
    (note 18 2 (used 18 value_head ∷ []) ∷ space 18 [] ∷ note 44 6 (used 44 opening_brace ∷ []) ∷ space 44 [] ∷ [])
    -- MacroInvocation as a definition's value
    ∷ row lower (24 ∷ 0 ∷ 1 ∷ 0 ∷ 6 ∷ 14 ∷ 25 ∷ 2 ∷ 1 ∷ 0 ∷ 97 ∷ 25 ∷ 2 ∷ 1 ∷ 0 ∷ 98 ∷ 17 ∷ 30 ∷ 25 ∷ 2 ∷ 1 ∷ 0 ∷ 99 ∷
    25 ∷ 2 ∷ 1 ∷ 0 ∷ 65 ∷ 24 ∷ 0 ∷ 0 ∷ 0 ∷ 25 ∷ 2 ∷ 1 ∷ 0 ∷ 66 ∷ [])
    "abcAB"
    (note 18 2 (used 18 value_head ∷ []) ∷ space 18 [] ∷ [])
    -- ProgramCounterDefinition as a definition's value
    ∷ row lower (24 ∷ 0 ∷ 1 ∷ 0 ∷ 6 ∷ 14 ∷ 25 ∷ 2 ∷ 1 ∷ 0 ∷ 97 ∷ 25 ∷ 2 ∷ 1 ∷ 0 ∷ 98 ∷ 18 ∷ 14 ∷ 25 ∷ 2 ∷ 1 ∷ 0 ∷ 65 ∷
    25 ∷ 2 ∷ 1 ∷ 0 ∷ 66 ∷ 29 ∷ 2 ∷ 30 ∷ 2 ∷ 25 ∷ 2 ∷ 1 ∷ 0 ∷ 67 ∷ [])
    "abABC"
    (note 18 2 (used 18 value_head ∷ []) ∷ space 18 [] ∷ [])
    -- Segment as a definition's value
    ∷ row lower (24 ∷ 0 ∷ 1 ∷ 0 ∷ 6 ∷ 14 ∷ 25 ∷ 2 ∷ 1 ∷ 0 ∷ 97 ∷ 25 ∷ 2 ∷ 1 ∷ 0 ∷ 98 ∷ 19 ∷ 6 ∷ 25 ∷ 2 ∷ 1 ∷ 0 ∷ 99 ∷ 29
    ∷ 2 ∷ 30 ∷ 2 ∷ 25 ∷ 2 ∷ 1 ∷ 0 ∷ 65 ∷ [])
    "abcA"
    (note 18 2 (used 18 value_head ∷ []) ∷ space 18 [] ∷ [])
    -- Test as a definition's value
    ∷ row lower (24 ∷ 0 ∷ 1 ∷ 0 ∷ 6 ∷ 14 ∷ 25 ∷ 2 ∷ 1 ∷ 0 ∷ 97 ∷ 25 ∷ 2 ∷ 1 ∷ 0 ∷ 98 ∷ 20 ∷ 14 ∷ 25 ∷ 2 ∷ 1 ∷ 0 ∷ 99 ∷
    29 ∷ 2 ∷ 30 ∷ 2 ∷ 25 ∷ 2 ∷ 1 ∷ 0 ∷ 65 ∷ 27 ∷ 14 ∷ 25 ∷ 2 ∷ 1 ∷ 0 ∷ 123 ∷ 24 ∷ 0 ∷ 0 ∷ 0 ∷ 25 ∷ 2 ∷ 1 ∷ 0 ∷ 125 ∷ [])
    "abcA{}"
    (note 18 2 (used 18 value_head ∷ []) ∷ space 18 [] ∷ note 34 4 (used 34 opening_brace ∷ []) ∷ space 34 [] ∷ [])
    -- Text as a definition's value
    ∷ row lower (24 ∷ 0 ∷ 1 ∷ 0 ∷ 6 ∷ 14 ∷ 25 ∷ 2 ∷ 1 ∷ 0 ∷ 97 ∷ 25 ∷ 2 ∷ 1 ∷ 0 ∷ 98 ∷ 21 ∷ 10 ∷ 25 ∷ 2 ∷ 1 ∷ 0 ∷ 99 ∷
    29 ∷ 2 ∷ 30 ∷ 2 ∷ 25 ∷ 2 ∷ 1 ∷ 0 ∷ 65 ∷ [])
    "abcA"
    (note 18 2 (used 18 value_head ∷ []) ∷ space 18 [] ∷ [])
    -- Trace as a definition's value
    ∷ row lower (24 ∷ 0 ∷ 1 ∷ 0 ∷ 6 ∷ 14 ∷ 25 ∷ 2 ∷ 1 ∷ 0 ∷ 97 ∷ 25 ∷ 2 ∷ 1 ∷ 0 ∷ 98 ∷ 22 ∷ 10 ∷ 25 ∷ 2 ∷ 1 ∷ 0 ∷ 99 ∷
    24 ∷ 0 ∷ 0 ∷ 0 ∷ [])
    "abc"
    (note 18 2 (used 18 value_head ∷ []) ∷ space 18 [] ∷ [])
    -- VariableDefinition as a definition's value
    ∷ row lower (24 ∷ 0 ∷ 1 ∷ 0 ∷ 6 ∷ 14 ∷ 25 ∷ 2 ∷ 1 ∷ 0 ∷ 97 ∷ 25 ∷ 2 ∷ 1 ∷ 0 ∷ 98 ∷ 23 ∷ 30 ∷ 25 ∷ 2 ∷ 1 ∷ 0 ∷ 0 ∷ 25
    ∷ 2 ∷ 1 ∷ 0 ∷ 99 ∷ 25 ∷ 2 ∷ 1 ∷ 0 ∷ 65 ∷ 29 ∷ 2 ∷ 30 ∷ 2 ∷ 25 ∷ 2 ∷ 1 ∷ 0 ∷ 66 ∷ [])
    "ab.constcAB"
    (note 18 2 (used 18 value_head ∷ []) ∷ space 18 [] ∷ [])
    -- Braces as a pair's value
    ∷ row lower (24 ∷ 0 ∷ 1 ∷ 0 ∷ 4 ∷ 14 ∷ 25 ∷ 2 ∷ 1 ∷ 0 ∷ 97 ∷ 25 ∷ 2 ∷ 1 ∷ 0 ∷ 65 ∷ 2 ∷ 2 ∷ 27 ∷ 14 ∷ 25 ∷ 2 ∷ 1 ∷ 0
    ∷ 123 ∷ 24 ∷ 0 ∷ 0 ∷ 0 ∷ 25 ∷ 2 ∷ 1 ∷ 0 ∷ 125 ∷ [])
    "aA{}"
    (note 16 2 [] ∷ note 20 2 (used 20 opening_brace ∷ used 20 value_head ∷ []) ∷ space 20 [] ∷ [])
    -- Config as a pair's value
    ∷ row lower (24 ∷ 0 ∷ 1 ∷ 0 ∷ 4 ∷ 14 ∷ 25 ∷ 2 ∷ 1 ∷ 0 ∷ 97 ∷ 25 ∷ 2 ∷ 1 ∷ 0 ∷ 65 ∷ 3 ∷ 2 ∷ 27 ∷ 14 ∷ 25 ∷ 2 ∷ 1 ∷ 0
    ∷ 123 ∷ 24 ∷ 0 ∷ 0 ∷ 0 ∷ 25 ∷ 2 ∷ 1 ∷ 0 ∷ 125 ∷ [])
    "aA{}"
    (note 16 2 [] ∷ note 20 2 (used 20 opening_brace ∷ used 20 value_head ∷ []) ∷ space 20 [] ∷ [])
    -- Expression as a pair's value
    ∷ row lower (24 ∷ 0 ∷ 1 ∷ 0 ∷ 4 ∷ 14 ∷ 25 ∷ 2 ∷ 1 ∷ 0 ∷ 97 ∷ 25 ∷ 2 ∷ 1 ∷ 0 ∷ 65 ∷ 9 ∷ 2 ∷ 29 ∷ 2 ∷ 30 ∷ 2 ∷ 25 ∷ 2
    ∷ 1 ∷ 0 ∷ 66 ∷ [])
    "aAB"
    (note 16 2 [] ∷ note 20 2 [] ∷ [])
    -- Instruction as a pair's value
    ∷ row lower (24 ∷ 0 ∷ 1 ∷ 0 ∷ 4 ∷ 14 ∷ 25 ∷ 2 ∷ 1 ∷ 0 ∷ 97 ∷ 25 ∷ 2 ∷ 1 ∷ 0 ∷ 65 ∷ 13 ∷ 2 ∷ 25 ∷ 2 ∷ 1 ∷ 0 ∷ 0 ∷ [])
    "aAadc"
    (note 16 2 [] ∷ note 18 2 (used 18 value_head ∷ []) ∷ space 18 [] ∷ [])
    -- a block
    ∷ row lower (24 ∷ 0 ∷ 1 ∷ 0 ∷ 2 ∷ 2 ∷ 27 ∷ 14 ∷ 25 ∷ 2 ∷ 1 ∷ 0 ∷ 123 ∷ 24 ∷ 0 ∷ 1 ∷ 0 ∷ 8 ∷ 2 ∷ 25 ∷ 2 ∷ 1 ∷ 0 ∷ 97
    ∷ 25 ∷ 2 ∷ 1 ∷ 0 ∷ 125 ∷ [])
    "{a}"
    (note 19 1 [] ∷ [])
    -- a string
    ∷ row lower (24 ∷ 0 ∷ 1 ∷ 0 ∷ 12 ∷ 6 ∷ 25 ∷ 2 ∷ 1 ∷ 0 ∷ 97 ∷ 36 ∷ 6 ∷ 25 ∷ 2 ∷ 1 ∷ 0 ∷ 65 ∷ 24 ∷ 0 ∷ 2 ∷ 0 ∷ 25 ∷ 2
    ∷ 1 ∷ 0 ∷ 98 ∷ 26 ∷ 2 ∷ 1 ∷ 0 ∷ 99 ∷ [])
    "aAb{c}\""
    (note 27 3 (used 27 path_item ∷ []) ∷ space 27 [] ∷ [])
    -- an operand
    ∷ row lower (24 ∷ 0 ∷ 1 ∷ 0 ∷ 13 ∷ 6 ∷ 25 ∷ 2 ∷ 1 ∷ 0 ∷ 0 ∷ 37 ∷ 54 ∷ 29 ∷ 2 ∷ 30 ∷ 2 ∷ 25 ∷ 2 ∷ 1 ∷ 0 ∷ 65 ∷ 25 ∷ 2
    ∷ 1 ∷ 0 ∷ 66 ∷ 25 ∷ 2 ∷ 1 ∷ 0 ∷ 0 ∷ 38 ∷ 6 ∷ 25 ∷ 2 ∷ 1 ∷ 0 ∷ 67 ∷ 25 ∷ 2 ∷ 1 ∷ 0 ∷ 0 ∷ [])
    "adcBACx"
    (note 22 3 [] ∷ note 34 5 [] ∷ note 39 6 (used 39 register_letter ∷ []) ∷ space 39 [] ∷ [])
    -- an operand of mode 0 with a closing character
    ∷ row (casings 0 0) (24 ∷ 0 ∷ 1 ∷ 0 ∷ 13 ∷ 6 ∷ 25 ∷ 2 ∷ 1 ∷ 0 ∷ 0 ∷ 37 ∷ 62 ∷ 29 ∷ 2 ∷ 30 ∷ 2 ∷ 25 ∷ 2 ∷ 1 ∷ 0 ∷ 65
    ∷ 25 ∷ 2 ∷ 1 ∷ 0 ∷ 66 ∷ 25 ∷ 2 ∷ 1 ∷ 0 ∷ 67 ∷ 25 ∷ 2 ∷ 1 ∷ 0 ∷ 0 ∷ 38 ∷ 6 ∷ 25 ∷ 2 ∷ 1 ∷ 0 ∷ 68 ∷ 25 ∷ 2 ∷ 1 ∷ 0 ∷ 0
    ∷ [])
    "ADCBADXC"
    (note 27 7 (used 27 closing_character ∷ []) ∷ space 27 (used 27 closing_character ∷ []) ∷ [])
    -- an operand of mode 1 with a closing character
    ∷ row (casings 0 1) (24 ∷ 0 ∷ 1 ∷ 0 ∷ 13 ∷ 6 ∷ 25 ∷ 2 ∷ 1 ∷ 0 ∷ 0 ∷ 37 ∷ 62 ∷ 29 ∷ 2 ∷ 30 ∷ 2 ∷ 25 ∷ 2 ∷ 1 ∷ 0 ∷ 65
    ∷ 25 ∷ 2 ∷ 1 ∷ 0 ∷ 66 ∷ 25 ∷ 2 ∷ 1 ∷ 0 ∷ 67 ∷ 25 ∷ 2 ∷ 1 ∷ 0 ∷ 1 ∷ 38 ∷ 6 ∷ 25 ∷ 2 ∷ 1 ∷ 0 ∷ 68 ∷ 25 ∷ 2 ∷ 1 ∷ 0 ∷ 0
    ∷ [])
    "ADCBADxC"
    (note 27 7 (used 27 closing_character ∷ []) ∷ space 27 (used 27 closing_character ∷ []) ∷ [])
    -- an operand of mode 2 with a closing character
    ∷ row (casings 1 0) (24 ∷ 0 ∷ 1 ∷ 0 ∷ 13 ∷ 6 ∷ 25 ∷ 2 ∷ 1 ∷ 0 ∷ 0 ∷ 37 ∷ 62 ∷ 29 ∷ 2 ∷ 30 ∷ 2 ∷ 25 ∷ 2 ∷ 1 ∷ 0 ∷ 65
    ∷ 25 ∷ 2 ∷ 1 ∷ 0 ∷ 66 ∷ 25 ∷ 2 ∷ 1 ∷ 0 ∷ 67 ∷ 25 ∷ 2 ∷ 1 ∷ 0 ∷ 2 ∷ 38 ∷ 6 ∷ 25 ∷ 2 ∷ 1 ∷ 0 ∷ 68 ∷ 25 ∷ 2 ∷ 1 ∷ 0 ∷ 0
    ∷ [])
    "adcBADXC"
    (note 27 7 (used 27 closing_character ∷ []) ∷ space 27 (used 27 closing_character ∷ []) ∷ [])
    -- an operand of mode 3 with a closing character
    ∷ row lower (24 ∷ 0 ∷ 1 ∷ 0 ∷ 13 ∷ 6 ∷ 25 ∷ 2 ∷ 1 ∷ 0 ∷ 0 ∷ 37 ∷ 62 ∷ 29 ∷ 2 ∷ 30 ∷ 2 ∷ 25 ∷ 2 ∷ 1 ∷ 0 ∷ 65 ∷ 25 ∷ 2
    ∷ 1 ∷ 0 ∷ 66 ∷ 25 ∷ 2 ∷ 1 ∷ 0 ∷ 67 ∷ 25 ∷ 2 ∷ 1 ∷ 0 ∷ 3 ∷ 38 ∷ 6 ∷ 25 ∷ 2 ∷ 1 ∷ 0 ∷ 68 ∷ 25 ∷ 2 ∷ 1 ∷ 0 ∷ 0 ∷ [])
    "adcBADxC"
    (note 27 7 [] ∷ [])
    -- an operand of mode 4 with a closing character
    ∷ row lower (24 ∷ 0 ∷ 1 ∷ 0 ∷ 13 ∷ 6 ∷ 25 ∷ 2 ∷ 1 ∷ 0 ∷ 0 ∷ 37 ∷ 62 ∷ 29 ∷ 2 ∷ 30 ∷ 2 ∷ 25 ∷ 2 ∷ 1 ∷ 0 ∷ 65 ∷ 25 ∷ 2
    ∷ 1 ∷ 0 ∷ 66 ∷ 25 ∷ 2 ∷ 1 ∷ 0 ∷ 67 ∷ 25 ∷ 2 ∷ 1 ∷ 0 ∷ 4 ∷ 38 ∷ 6 ∷ 25 ∷ 2 ∷ 1 ∷ 0 ∷ 68 ∷ 25 ∷ 2 ∷ 1 ∷ 0 ∷ 0 ∷ [])
    "adcBACDx"
    (note 27 5 [] ∷ [])
    -- signs before a factor
    ∷ row lower (24 ∷ 0 ∷ 1 ∷ 0 ∷ 0 ∷ 6 ∷ 25 ∷ 2 ∷ 1 ∷ 0 ∷ 97 ∷ 29 ∷ 14 ∷ 30 ∷ 2 ∷ 25 ∷ 2 ∷ 1 ∷ 0 ∷ 65 ∷ 25 ∷ 2 ∷ 1 ∷ 0
    ∷ 66 ∷ 25 ∷ 2 ∷ 1 ∷ 0 ∷ 67 ∷ [])
    "aBCA"
    (note 20 1 [] ∷ note 25 2 [] ∷ [])
    -- ExprParens in an expression
    ∷ row lower (24 ∷ 0 ∷ 1 ∷ 0 ∷ 0 ∷ 6 ∷ 25 ∷ 2 ∷ 1 ∷ 0 ∷ 97 ∷ 29 ∷ 2 ∷ 31 ∷ 14 ∷ 25 ∷ 2 ∷ 1 ∷ 0 ∷ 65 ∷ 29 ∷ 2 ∷ 30 ∷ 2
    ∷ 25 ∷ 2 ∷ 1 ∷ 0 ∷ 66 ∷ 25 ∷ 2 ∷ 1 ∷ 0 ∷ 67 ∷ [])
    "aABC"
    (note 13 1 [] ∷ note 15 1 [] ∷ note 20 2 [] ∷ note 29 3 [] ∷ [])
    -- FunctionCall in an expression
    ∷ row lower (24 ∷ 0 ∷ 1 ∷ 0 ∷ 0 ∷ 6 ∷ 25 ∷ 2 ∷ 1 ∷ 0 ∷ 97 ∷ 29 ∷ 2 ∷ 32 ∷ 30 ∷ 25 ∷ 2 ∷ 1 ∷ 0 ∷ 98 ∷ 25 ∷ 2 ∷ 1 ∷ 0
    ∷ 65 ∷ 24 ∷ 0 ∷ 1 ∷ 0 ∷ 42 ∷ 6 ∷ 29 ∷ 2 ∷ 30 ∷ 2 ∷ 25 ∷ 2 ∷ 1 ∷ 0 ∷ 66 ∷ 25 ∷ 2 ∷ 1 ∷ 0 ∷ 67 ∷ 25 ∷ 2 ∷ 1 ∷ 0 ∷ 68 ∷
    [])
    "abABCD"
    (note 13 1 [] ∷ note 15 1 [] ∷ note 20 2 [] ∷ note 45 5 [] ∷ [])
    -- IdentifierValue in an expression
    ∷ row lower (24 ∷ 0 ∷ 1 ∷ 0 ∷ 0 ∷ 6 ∷ 25 ∷ 2 ∷ 1 ∷ 0 ∷ 97 ∷ 29 ∷ 2 ∷ 33 ∷ 6 ∷ 25 ∷ 2 ∷ 1 ∷ 0 ∷ 98 ∷ 25 ∷ 2 ∷ 1 ∷ 0 ∷
    0 ∷ [])
    "a>b"
    (note 13 1 [] ∷ note 15 2 [] ∷ note 20 1 [] ∷ [])
    -- Number in an expression
    ∷ row lower (24 ∷ 0 ∷ 1 ∷ 0 ∷ 0 ∷ 6 ∷ 25 ∷ 2 ∷ 1 ∷ 0 ∷ 97 ∷ 29 ∷ 2 ∷ 34 ∷ 6 ∷ 25 ∷ 2 ∷ 1 ∷ 0 ∷ 0 ∷ 25 ∷ 2 ∷ 1 ∷ 0 ∷
    98 ∷ [])
    "a$b"
    (note 13 1 [] ∷ note 15 1 [] ∷ note 20 2 [] ∷ [])
    -- InterpolatedString factor in an expression
    ∷ row lower (24 ∷ 0 ∷ 1 ∷ 0 ∷ 0 ∷ 6 ∷ 25 ∷ 2 ∷ 1 ∷ 0 ∷ 97 ∷ 29 ∷ 2 ∷ 35 ∷ 2 ∷ 36 ∷ 6 ∷ 25 ∷ 2 ∷ 1 ∷ 0 ∷ 65 ∷ 24 ∷ 0
    ∷ 0 ∷ 0 ∷ [])
    "aA\""
    (note 13 1 [] ∷ [])
    -- a binary expression
    ∷ row lower (24 ∷ 0 ∷ 1 ∷ 0 ∷ 0 ∷ 6 ∷ 25 ∷ 2 ∷ 1 ∷ 0 ∷ 97 ∷ 28 ∷ 14 ∷ 25 ∷ 2 ∷ 1 ∷ 0 ∷ 0 ∷ 29 ∷ 2 ∷ 30 ∷ 2 ∷ 25 ∷ 2
    ∷ 1 ∷ 0 ∷ 65 ∷ 29 ∷ 2 ∷ 30 ∷ 2 ∷ 25 ∷ 2 ∷ 1 ∷ 0 ∷ 66 ∷ [])
    "aA+B"
    (note 11 1 [] ∷ note 13 2 [] ∷ note 18 1 [] ∷ note 27 3 [] ∷ [])
    -- a binary expression in a list
    ∷ row lower (24 ∷ 0 ∷ 1 ∷ 0 ∷ 9 ∷ 2 ∷ 28 ∷ 14 ∷ 25 ∷ 2 ∷ 1 ∷ 0 ∷ 0 ∷ 29 ∷ 2 ∷ 30 ∷ 2 ∷ 25 ∷ 2 ∷ 1 ∷ 0 ∷ 65 ∷ 29 ∷ 2
    ∷ 30 ∷ 2 ∷ 25 ∷ 2 ∷ 1 ∷ 0 ∷ 66 ∷ [])
    "A+B"
    (note 13 0 (used 13 expression_head ∷ []) ∷ space 13 [] ∷ [])
    -- a binary expression as a value
    ∷ row lower (24 ∷ 0 ∷ 1 ∷ 0 ∷ 6 ∷ 14 ∷ 25 ∷ 2 ∷ 1 ∷ 0 ∷ 97 ∷ 25 ∷ 2 ∷ 1 ∷ 0 ∷ 98 ∷ 9 ∷ 2 ∷ 28 ∷ 14 ∷ 25 ∷ 2 ∷ 1 ∷ 0
    ∷ 0 ∷ 29 ∷ 2 ∷ 30 ∷ 2 ∷ 25 ∷ 2 ∷ 1 ∷ 0 ∷ 65 ∷ 29 ∷ 2 ∷ 30 ∷ 2 ∷ 25 ∷ 2 ∷ 1 ∷ 0 ∷ 66 ∷ [])
    "abA+B"
    (note 25 2 [] ∷ [])
    -- an import of all
    ∷ row lower (24 ∷ 0 ∷ 1 ∷ 0 ∷ 11 ∷ 30 ∷ 25 ∷ 2 ∷ 1 ∷ 0 ∷ 97 ∷ 40 ∷ 6 ∷ 25 ∷ 2 ∷ 1 ∷ 0 ∷ 65 ∷ 39 ∷ 6 ∷ 25 ∷ 2 ∷ 1 ∷ 0
    ∷ 98 ∷ 25 ∷ 2 ∷ 1 ∷ 0 ∷ 99 ∷ 25 ∷ 2 ∷ 1 ∷ 0 ∷ 100 ∷ 36 ∷ 6 ∷ 25 ∷ 2 ∷ 1 ∷ 0 ∷ 66 ∷ 24 ∷ 0 ∷ 0 ∷ 0 ∷ [])
    "aAbcdB\""
    (note 20 2 [] ∷ note 25 3 [] ∷ [])
    -- an import of paths
    ∷ row lower (24 ∷ 0 ∷ 1 ∷ 0 ∷ 11 ∷ 30 ∷ 25 ∷ 2 ∷ 1 ∷ 0 ∷ 97 ∷ 24 ∷ 0 ∷ 2 ∷ 0 ∷ 42 ∷ 6 ∷ 41 ∷ 6 ∷ 25 ∷ 2 ∷ 1 ∷ 0 ∷ 98
    ∷ 39 ∷ 6 ∷ 25 ∷ 2 ∷ 1 ∷ 0 ∷ 99 ∷ 25 ∷ 2 ∷ 1 ∷ 0 ∷ 100 ∷ 25 ∷ 2 ∷ 1 ∷ 0 ∷ 65 ∷ 42 ∷ 6 ∷ 41 ∷ 6 ∷ 25 ∷ 2 ∷ 1 ∷ 0 ∷ 101
    ∷ 39 ∷ 6 ∷ 25 ∷ 2 ∷ 1 ∷ 0 ∷ 102 ∷ 25 ∷ 2 ∷ 1 ∷ 0 ∷ 103 ∷ 25 ∷ 2 ∷ 1 ∷ 0 ∷ 66 ∷ 25 ∷ 2 ∷ 1 ∷ 0 ∷ 104 ∷ 36 ∷ 6 ∷ 25 ∷
    2 ∷ 1 ∷ 0 ∷ 67 ∷ 24 ∷ 0 ∷ 0 ∷ 0 ∷ [])
    "abcdAefgBhC\""
    (note 17 1 (used 17 import_path ∷ []) ∷ space 17 [] ∷ note 19 1 [] ∷ [])
    -- tokens in a block in a list
    ∷ row lower (24 ∷ 0 ∷ 1 ∷ 0 ∷ 2 ∷ 2 ∷ 27 ∷ 14 ∷ 25 ∷ 2 ∷ 1 ∷ 0 ∷ 123 ∷ 24 ∷ 0 ∷ 3 ∷ 0 ∷ 2 ∷ 2 ∷ 27 ∷ 14 ∷ 25 ∷ 2 ∷ 1
    ∷ 0 ∷ 123 ∷ 24 ∷ 0 ∷ 0 ∷ 0 ∷ 25 ∷ 2 ∷ 1 ∷ 0 ∷ 125 ∷ 3 ∷ 2 ∷ 27 ∷ 14 ∷ 25 ∷ 2 ∷ 1 ∷ 0 ∷ 123 ∷ 24 ∷ 0 ∷ 0 ∷ 0 ∷ 25 ∷ 2
    ∷ 1 ∷ 0 ∷ 125 ∷ 9 ∷ 2 ∷ 29 ∷ 2 ∷ 30 ∷ 2 ∷ 25 ∷ 2 ∷ 1 ∷ 0 ∷ 65 ∷ 25 ∷ 2 ∷ 1 ∷ 0 ∷ 125 ∷ [])
    "{{}{}A}"
    (note 21 1 [] ∷ note 39 3 [] ∷ note 57 5 (used 57 expression_head ∷ []) ∷ space 57 [] ∷ [])
    -- tokens in a block that is no token
    ∷ row lower (24 ∷ 0 ∷ 1 ∷ 0 ∷ 15 ∷ 14 ∷ 25 ∷ 2 ∷ 1 ∷ 0 ∷ 97 ∷ 29 ∷ 2 ∷ 30 ∷ 2 ∷ 25 ∷ 2 ∷ 1 ∷ 0 ∷ 65 ∷ 27 ∷ 14 ∷ 25 ∷
    2 ∷ 1 ∷ 0 ∷ 123 ∷ 24 ∷ 0 ∷ 3 ∷ 0 ∷ 2 ∷ 2 ∷ 27 ∷ 14 ∷ 25 ∷ 2 ∷ 1 ∷ 0 ∷ 123 ∷ 24 ∷ 0 ∷ 0 ∷ 0 ∷ 25 ∷ 2 ∷ 1 ∷ 0 ∷ 125 ∷
    3 ∷ 2 ∷ 27 ∷ 14 ∷ 25 ∷ 2 ∷ 1 ∷ 0 ∷ 123 ∷ 24 ∷ 0 ∷ 0 ∷ 0 ∷ 25 ∷ 2 ∷ 1 ∷ 0 ∷ 125 ∷ 9 ∷ 2 ∷ 29 ∷ 2 ∷ 30 ∷ 2 ∷ 25 ∷ 2 ∷
    1 ∷ 0 ∷ 66 ∷ 25 ∷ 2 ∷ 1 ∷ 0 ∷ 125 ∷ [])
    "aA{{}{}B}"
    (note 35 3 [] ∷ note 53 5 [] ∷ note 71 7 (used 71 expression_head ∷ []) ∷ space 71 [] ∷ [])
    -- tokens in a block that is a value
    ∷ row lower (24 ∷ 0 ∷ 1 ∷ 0 ∷ 6 ∷ 14 ∷ 25 ∷ 2 ∷ 1 ∷ 0 ∷ 97 ∷ 25 ∷ 2 ∷ 1 ∷ 0 ∷ 98 ∷ 2 ∷ 2 ∷ 27 ∷ 14 ∷ 25 ∷ 2 ∷ 1 ∷ 0
    ∷ 123 ∷ 24 ∷ 0 ∷ 3 ∷ 0 ∷ 2 ∷ 2 ∷ 27 ∷ 14 ∷ 25 ∷ 2 ∷ 1 ∷ 0 ∷ 123 ∷ 24 ∷ 0 ∷ 0 ∷ 0 ∷ 25 ∷ 2 ∷ 1 ∷ 0 ∷ 125 ∷ 3 ∷ 2 ∷ 27
    ∷ 14 ∷ 25 ∷ 2 ∷ 1 ∷ 0 ∷ 123 ∷ 24 ∷ 0 ∷ 0 ∷ 0 ∷ 25 ∷ 2 ∷ 1 ∷ 0 ∷ 125 ∷ 9 ∷ 2 ∷ 29 ∷ 2 ∷ 30 ∷ 2 ∷ 25 ∷ 2 ∷ 1 ∷ 0 ∷ 65
    ∷ 25 ∷ 2 ∷ 1 ∷ 0 ∷ 125 ∷ [])
    "ab{{}{}A}"
    (note 33 3 [] ∷ note 51 5 [] ∷ note 69 7 (used 69 expression_head ∷ []) ∷ space 69 [] ∷ [])
    ∷ []

-- a stored tree whose record at a place is given trivia: bit 0 of its map stands then, and they follow the map
abbrev with_trivia : List ℕ → List ℕ → ℕ → List ℕ
with_trivia trivia tree place =
    take (place + 1) tree ++ ((get_or tree (place + 1) 0 + 1) ∷ (trivia ++ drop (place + 2) tree))

-- whether a tree is accepted, the places that it uses, by letter, and its reading order
record Found : Type 0 where
  checked : Checked
  uses : List Use
  text : List ℕ

abbrev of_spot : Spot → List Use → List Use
of_spot spot [] = []
of_spot spot (other ∷ others) =
    cond (eqb (spot_number spot) (spot_number other.spot)) (other ∷ of_spot spot others) (of_spot spot others)

abbrev sorted : List Spot → List Use → List Use
sorted [] uses = []
sorted (spot ∷ spots) uses = of_spot spot uses ++ sorted spots uses

abbrev spots : List Spot
spots =
    opening_brace ∷ label_colon ∷ value_head ∷ import_path ∷ path_item ∷ register_letter ∷ expression_head ∷ closing_character
    ∷ []

abbrev found_at : Row → Note → Found
found_at sample here =
    let bytes = with_trivia here.trivia sample.tree here.place in
    let tree = (read_file 64 bytes).tree in
    let texts = order sample.casings tree in
    record { checked = batch_checked bytes; uses = sorted spots (places_in false tree); text = flat texts }

abbrev wanted_at : Row → Note → Found
wanted_at sample here = record {
  checked = no_refusal;
  uses = here.uses;
  text = take here.before sample.text ++ (here.text ++ drop here.before sample.text);
}

abbrev found : Row → List Found
found sample = map (found_at sample) sample.notes

abbrev wanted : Row → List Found
wanted sample = map (wanted_at sample) sample.notes

-- every row holds
pub places_held : map found rows ≡ map wanted rows
unfolding flat accepted_byte accepted_text fault_at ascii cased built chain fields_fit map_fits sized_end trivium_end trivia_end trivia_read text_end rest_of
    own_at read_own trivia_from trivia_texts fields_due parts_due read_parts read texts_checked tree_checked mnemonics registers operators data_sizes encodings
    variable_types number_types modifiers printed comments shown_as order_in has_comment places_in view
places_held = refl
