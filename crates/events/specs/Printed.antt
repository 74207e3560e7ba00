-- What leaves print: document 01, "Printed leaves": the `Display` texts of ast.rs and the mnemonics of mnemonic.rs, by index in declared order.
use Rattle.std.specs.Prelude.{ℕ, List, [], ◌∷◌, get_or}
use Prim.Native.String.{String}
use Rattle.options.specs.Casings.{cased}
unfoldable pub use Rattle.text.specs.Literals.{ascii}
use Rattle.printing.specs.declared.Context.{Context}

-- "56 mnemonics of mnemonic.rs, `Adc` 0 to `Tya` 55"
unfoldable pub mnemonics : List String
mnemonics =
    "ADC" ∷ "AND" ∷ "ASL" ∷ "BCC" ∷ "BCS" ∷ "BEQ" ∷ "BIT" ∷ "BMI" ∷ "BNE" ∷ "BPL" ∷ "BRK" ∷ "BVC" ∷ "BVS" ∷ "CLC" ∷
    "CLD" ∷ "CLI" ∷ "CLV" ∷ "CMP" ∷ "CPX" ∷ "CPY" ∷ "DEC" ∷ "DEX" ∷ "DEY" ∷ "EOR" ∷ "INC" ∷ "INX" ∷ "INY" ∷ "JMP" ∷
    "JSR" ∷ "LDA" ∷ "LDX" ∷ "LDY" ∷ "LSR" ∷ "NOP" ∷ "ORA" ∷ "PHA" ∷ "PHP" ∷ "PLA" ∷ "PLP" ∷ "ROL" ∷ "ROR" ∷ "RTI" ∷
    "RTS" ∷ "SBC" ∷ "SEC" ∷ "SED" ∷ "SEI" ∷ "STA" ∷ "STX" ∷ "STY" ∷ "TAX" ∷ "TAY" ∷ "TSX" ∷ "TXA" ∷ "TXS" ∷ "TYA" ∷ []

-- `IndexRegister`
unfoldable pub registers : List String
registers = "X" ∷ "Y" ∷ []

-- `BinaryOp`
unfoldable pub operators : List String
operators = "+" ∷ "-" ∷ "*" ∷ "/" ∷ "%" ∷ "<<" ∷ ">>" ∷ "^" ∷ "==" ∷ "!=" ∷ ">" ∷ ">=" ∷ "<" ∷ "<=" ∷ "&&" ∷ "||" ∷ []

-- `DataSize`
unfoldable pub data_sizes : List String
data_sizes = ".byte" ∷ ".word" ∷ ".dword" ∷ []

-- `TextEncoding`: `Unspecified` prints nothing
unfoldable pub encodings : List String
encodings = "ascii" ∷ "petscii" ∷ "petscreen" ∷ "" ∷ []

-- `VariableType`
unfoldable pub variable_types : List String
variable_types = ".const" ∷ ".var" ∷ []

-- `NumberType`: decimal prints nothing
unfoldable pub number_types : List String
number_types = "$" ∷ "" ∷ "%" ∷ []

-- `AddressModifier`: `HighByte` is first
unfoldable pub modifiers : List String
modifiers = ">" ∷ "<" ∷ []

-- how a leaf prints
pub data Style : Type 0 where
  plain : Style  -- as it stands
  mnemonic : Style
  register : Style
  operator : Style
  data_size : Style
  encoding : Style
  variable_type : Style
  number_type : Style
  modifier : Style

-- the text of an index, none where there is no such index
abbrev entry : List String → List ℕ → List ℕ
entry table [] = []
entry table (index ∷ rest) = ascii (get_or table index "")

-- "mnemonic and register in the chosen casing"
unfoldable pub printed : Context → Style → List ℕ → List ℕ
printed context plain text = text
printed context mnemonic text = cased context.options.mnemonics.casing (entry mnemonics text)
printed context register text = cased context.options.mnemonics.register_casing (entry registers text)
printed context operator text = entry operators text
printed context data_size text = entry data_sizes text
printed context encoding text = entry encodings text
printed context variable_type text = entry variable_types text
printed context number_type text = entry number_types text
printed context modifier text = entry modifiers text
