-- The grammar in numbers: each class has one, and the fields of a kind are one, a row. A plan of a record's parts is made of these.
use Rattle.std.specs.Prelude.{ℕ, ◌+◌, ◌*◌, List, [], ◌∷◌, get_or}
use Rattle.tree.specs.Grammar.{Slot, must, may}
use Rattle.tree.specs.declared.grammar.Class.{Class}
use Rattle.tree.specs.declared.grammar.Class.TheVariants.{Word, Char, OpenBrace, CloseBrace, Colon, Unit, Mnemonic, IndexRegister}
use Rattle.tree.specs.declared.grammar.Class.TheVariants.{AddressModifier, VariableType, NumberType, DataSize, BinaryOp, TextEncoding}
use Rattle.tree.specs.declared.grammar.Class.TheVariants.{AddressingMode, StringItem, LocatedExpression, BareExpression, LocatedFactor}
use Rattle.tree.specs.declared.grammar.Class.TheVariants.{BareToken, LocatedToken, BlockRecord, StringRecord, OperandRecord, SuffixRecord}
use Rattle.tree.specs.declared.grammar.Class.TheVariants.{AsRecord, ImportArguments, ImportPath, ExpressionArgument, IdentifierArgument}
use Rattle.tree.specs.declared.grammar.Class.TheVariants.{ImportArgument, Tokens, ExpressionArguments, IdentifierArguments, StringItems}

abbrev pub class_number : Class → ℕ
class_number Word = 1
class_number Char = 2
class_number OpenBrace = 3
class_number CloseBrace = 4
class_number Colon = 5
class_number Unit = 6
class_number Mnemonic = 7
class_number IndexRegister = 8
class_number AddressModifier = 9
class_number VariableType = 10
class_number NumberType = 11
class_number DataSize = 12
class_number BinaryOp = 13
class_number TextEncoding = 14
class_number AddressingMode = 15
class_number StringItem = 16
class_number LocatedExpression = 17
class_number BareExpression = 18
class_number LocatedFactor = 19
class_number BareToken = 20
class_number LocatedToken = 21
class_number BlockRecord = 22
class_number StringRecord = 23
class_number OperandRecord = 24
class_number SuffixRecord = 25
class_number AsRecord = 26
class_number ImportArguments = 27
class_number ImportPath = 28
class_number ExpressionArgument = 29
class_number IdentifierArgument = 30
class_number ImportArgument = 31
class_number Tokens = 32
class_number ExpressionArguments = 33
class_number IdentifierArguments = 34
class_number StringItems = 35

-- the classes by their numbers less 1
abbrev pub classes : List Class
classes =
    Word ∷ Char ∷ OpenBrace ∷ CloseBrace ∷ Colon ∷ Unit ∷
    Mnemonic ∷ IndexRegister ∷ AddressModifier ∷ VariableType ∷ NumberType ∷ DataSize ∷
    BinaryOp ∷ TextEncoding ∷ AddressingMode ∷ StringItem ∷ LocatedExpression ∷ BareExpression ∷
    LocatedFactor ∷ BareToken ∷ LocatedToken ∷ BlockRecord ∷ StringRecord ∷ OperandRecord ∷
    SuffixRecord ∷ AsRecord ∷ ImportArguments ∷ ImportPath ∷ ExpressionArgument ∷ IdentifierArgument ∷
    ImportArgument ∷ Tokens ∷ ExpressionArguments ∷ IdentifierArguments ∷ StringItems ∷ []

-- the class of a number; numbers of no class count as the last
abbrev pub class_of : ℕ → Class
class_of number = get_or (Word ∷ classes) number StringItems

-- seven bits for a field, 64 more where it need not stand
abbrev pub slot_code : Slot → ℕ
slot_code (must class) = class_number class
slot_code (may class) = 64 + class_number class

abbrev pub row_of : List Slot → ℕ
row_of [] = 0
row_of (slot ∷ slots) = slot_code slot + 128 * row_of slots
