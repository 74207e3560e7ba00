-- What the Rust prints for each index of each enum, as one table: the definition prints the same under the same
-- casings, an enum has as many names as there are texts, and the index behind the last prints nothing.
-- tools/printed_texts.py makes the rows from the Rust's answers.
--   texts_held : map found rows ≡ map wanted rows
use Prim.Native.Nat.{ℕ, ◌+◌}
use Prim.Native.String.{String}
use mathlib.Core.Path.{◌≡◌, refl}
use mathlib.Core.List.{List, [], ◌∷◌, ◌++◌, map}
use Rattle.options.specs.Types.{options_of}
use Rattle.options.specs.Casings.{cased}
use Rattle.tree.specs.Grammar.{rule}
use Rattle.tree.specs.declared.grammar.Class.{Class}
use Rattle.tree.specs.declared.grammar.Class.TheVariants.{Mnemonic, IndexRegister, BinaryOp, DataSize, TextEncoding}
use Rattle.tree.specs.declared.grammar.Class.TheVariants.{VariableType, NumberType, AddressModifier}
use Rattle.tree.specs.declared.grammar.TextRule.{TextRule}
use Rattle.tree.specs.declared.grammar.TextRule.TheVariants.{Byte}
use Rattle.printing.specs.declared.Context.{Context}
use Rattle.events.specs.Printed.{Style, mnemonic, register, operator, data_size, encoding, variable_type}
use Rattle.events.specs.Printed.{number_type, modifier, ascii, mnemonics, registers, operators, data_sizes}
use Rattle.events.specs.Printed.{encodings, variable_types, number_types, modifiers, printed}

-- a style, the class of the leaves that print in it, and the texts by index, with the choices of casings that give
-- them: of mnemonics and of registers, 0 upper and 1 lower
record Row : Type 0 where
  style : Style
  class : Class
  casings : List (ℕ × ℕ)
  texts : List String

abbrev row : Style → Class → List (ℕ × ℕ) → List String → Row
row style class casings texts = record { style = style; class = class; casings = casings; texts = texts }

abbrev rows : List Row
rows =
    -- 56 texts
    row mnemonic Mnemonic ((0, 0) ∷ (0, 1) ∷ [])
    ("ADC" ∷ "AND" ∷ "ASL" ∷ "BCC" ∷ "BCS" ∷ "BEQ" ∷ "BIT" ∷ "BMI" ∷ "BNE" ∷ "BPL" ∷ "BRK" ∷ "BVC" ∷ "BVS" ∷ "CLC" ∷
    "CLD" ∷ "CLI" ∷ "CLV" ∷ "CMP" ∷ "CPX" ∷ "CPY" ∷ "DEC" ∷ "DEX" ∷ "DEY" ∷ "EOR" ∷ "INC" ∷ "INX" ∷ "INY" ∷ "JMP" ∷
    "JSR" ∷ "LDA" ∷ "LDX" ∷ "LDY" ∷ "LSR" ∷ "NOP" ∷ "ORA" ∷ "PHA" ∷ "PHP" ∷ "PLA" ∷ "PLP" ∷ "ROL" ∷ "ROR" ∷ "RTI" ∷
    "RTS" ∷ "SBC" ∷ "SEC" ∷ "SED" ∷ "SEI" ∷ "STA" ∷ "STX" ∷ "STY" ∷ "TAX" ∷ "TAY" ∷ "TSX" ∷ "TXA" ∷ "TXS" ∷ "TYA" ∷ [])
    -- 56 texts
    ∷ row mnemonic Mnemonic ((1, 0) ∷ (1, 1) ∷ [])
    ("adc" ∷ "and" ∷ "asl" ∷ "bcc" ∷ "bcs" ∷ "beq" ∷ "bit" ∷ "bmi" ∷ "bne" ∷ "bpl" ∷ "brk" ∷ "bvc" ∷ "bvs" ∷ "clc" ∷
    "cld" ∷ "cli" ∷ "clv" ∷ "cmp" ∷ "cpx" ∷ "cpy" ∷ "dec" ∷ "dex" ∷ "dey" ∷ "eor" ∷ "inc" ∷ "inx" ∷ "iny" ∷ "jmp" ∷
    "jsr" ∷ "lda" ∷ "ldx" ∷ "ldy" ∷ "lsr" ∷ "nop" ∷ "ora" ∷ "pha" ∷ "php" ∷ "pla" ∷ "plp" ∷ "rol" ∷ "ror" ∷ "rti" ∷
    "rts" ∷ "sbc" ∷ "sec" ∷ "sed" ∷ "sei" ∷ "sta" ∷ "stx" ∷ "sty" ∷ "tax" ∷ "tay" ∷ "tsx" ∷ "txa" ∷ "txs" ∷ "tya" ∷ [])
    -- 2 texts
    ∷ row register IndexRegister ((0, 0) ∷ (1, 0) ∷ [])
    ("X" ∷ "Y" ∷ [])
    -- 2 texts
    ∷ row register IndexRegister ((0, 1) ∷ (1, 1) ∷ [])
    ("x" ∷ "y" ∷ [])
    -- 16 texts
    ∷ row operator BinaryOp ((0, 0) ∷ (0, 1) ∷ (1, 0) ∷ (1, 1) ∷ [])
    ("+" ∷ "-" ∷ "*" ∷ "/" ∷ "%" ∷ "<<" ∷ ">>" ∷ "^" ∷ "==" ∷ "!=" ∷ ">" ∷ ">=" ∷ "<" ∷ "<=" ∷ "&&" ∷ "||" ∷ [])
    -- 3 texts
    ∷ row data_size DataSize ((0, 0) ∷ (0, 1) ∷ (1, 0) ∷ (1, 1) ∷ [])
    (".byte" ∷ ".word" ∷ ".dword" ∷ [])
    -- 4 texts
    ∷ row encoding TextEncoding ((0, 0) ∷ (0, 1) ∷ (1, 0) ∷ (1, 1) ∷ [])
    ("ascii" ∷ "petscii" ∷ "petscreen" ∷ "" ∷ [])
    -- 2 texts
    ∷ row variable_type VariableType ((0, 0) ∷ (0, 1) ∷ (1, 0) ∷ (1, 1) ∷ [])
    (".const" ∷ ".var" ∷ [])
    -- 3 texts
    ∷ row number_type NumberType ((0, 0) ∷ (0, 1) ∷ (1, 0) ∷ (1, 1) ∷ [])
    ("$" ∷ "" ∷ "%" ∷ [])
    -- 2 texts
    ∷ row modifier AddressModifier ((0, 0) ∷ (0, 1) ∷ (1, 0) ∷ (1, 1) ∷ [])
    (">" ∷ "<" ∷ [])
    ∷ []

-- a context of two casings; of the rest of it no leaf's text depends
abbrev chosen : ℕ × ℕ → Context
chosen casings = record { options = options_of casings.0 casings.1 0 4 20 1 30 8; indent = 0 }

-- what is printed for each index from one on, so many and one more
abbrev shown : Style → List String → ℕ → ℕ × ℕ → List (List ℕ)
shown style [] index casings = printed (chosen casings) style (index ∷ []) ∷ []
shown style (text ∷ texts) index casings =
    printed (chosen casings) style (index ∷ []) ∷ shown style texts (index + 1) casings

-- which index is the last
abbrev last : List String → ℕ → TextRule
last [] index = Byte 0 index
last (text ∷ []) index = Byte 0 index
last (text ∷ next ∷ texts) index = last (next ∷ texts) (index + 1)

-- the indices that may be stored, and what is printed for them under each choice
abbrev found : Row → TextRule × List (List (List ℕ))
found sample = ((rule sample.class).text, map (shown sample.style sample.texts 0) sample.casings)

abbrev wanted : Row → TextRule × List (List (List ℕ))
wanted sample =
    (last sample.texts 0, map (λ (casings : ℕ × ℕ). map ascii sample.texts ++ ([] ∷ [])) sample.casings)

-- every row holds
pub texts_held : map found rows ≡ map wanted rows
unfolding cased ascii mnemonics registers operators data_sizes encodings variable_types number_types modifiers printed
texts_held = refl
