-- What a leaf shows: its text, or for a case of an enum what is printed of it, with its index behind.
use Rattle.std.specs.Prelude.{ℕ, List, [], ◌∷◌, ◌++◌, map, get_or, Option, Some, None}
use Prim.Native.String.{String}
use Rattle.options.specs.Casings.{cased}
use Rattle.options.specs.declared.Casing.TheVariants.{Lowercase}
use Rattle.tree.specs.declared.grammar.Class.{Class}
use Rattle.tree.specs.declared.grammar.Class.TheVariants as class
use Rattle.events.specs.Printed.{mnemonics, registers, modifiers, variable_types}
use Rattle.events.specs.Printed.{number_types, data_sizes, operators, encodings}
use Rattle.wording.specs.Lines.{ascii, say, decimal}
use Rattle.wording.specs.declared.entries.Table.{Table}
use Rattle.wording.specs.declared.entries.Table.TheVariants.{Mnemonics, Registers, Modifiers, VariableTypes}
use Rattle.wording.specs.declared.entries.Table.TheVariants.{NumberTypes, DataSizes, Operators, Encodings, Modes}

-- `AddressingMode`, of which nothing is printed, by the names of its cases
abbrev pub modes : List String
modes = "AbsoluteOrZp" ∷ "Immediate" ∷ "Implied" ∷ "Indirect" ∷ "OuterIndirect" ∷ []

-- a text of no bytes is told as `nothing`
abbrev pub or_nothing : List ℕ → List ℕ
or_nothing [] = ascii "nothing"
or_nothing (byte ∷ bytes) = byte ∷ bytes

-- what is printed under the default options: mnemonics and registers in lower case; no other text has a capital
abbrev pub by_default : String → List ℕ
by_default name = or_nothing (cased Lowercase (ascii name))

-- what is told of the cases of an enum, by index in declared order
abbrev pub entries : Table → List (List ℕ)
entries Mnemonics = map by_default mnemonics
entries Registers = map by_default registers
entries Modifiers = map by_default modifiers
entries VariableTypes = map by_default variable_types
entries NumberTypes = map by_default number_types
entries DataSizes = map by_default data_sizes
entries Operators = map by_default operators
entries Encodings = map by_default encodings
entries Modes = map ascii modes

abbrev pub entry : Table → ℕ → List (List ℕ)
entry table index = get_or (entries table) index [] ∷ []

-- a case, and its index in parentheses
abbrev pub indexed : Table → ℕ → List (List ℕ)
indexed table index = entry table index ++ (say " (" ++ (decimal index ++ say ")"))

-- the enum that a leaf shows a case of, by the class of its field: the Rust type decides; all others show their text
abbrev pub table_of : Class → Option Table
table_of class.Mnemonic = Some Mnemonics
table_of class.IndexRegister = Some Registers
table_of class.AddressModifier = Some Modifiers
table_of class.VariableType = Some VariableTypes
table_of class.NumberType = Some NumberTypes
table_of class.DataSize = Some DataSizes
table_of class.BinaryOp = Some Operators
table_of class.TextEncoding = Some Encodings
table_of class.AddressingMode = Some Modes
table_of _ = None
