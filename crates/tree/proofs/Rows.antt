-- A row is read back field by field: its lowest seven bits are the first field's, and above them stands the row of the others.
use mathlib.Core.Path.{◌≡◌, refl, sym, ap, ◌∙◌}
use mathlib.Core.List.{List, [], ◌∷◌}
use Prim.Native.Nat.{ℕ, zero, suc, ◌/◌, ◌%◌, ◌≤◌, ◌<◌}
use native.Mathlib.Omega.{arith}
use borrow.Author.Tests.{ltb-true, ltb-false}
use lib.Dec.{ltb}
use lib.ListN.{get_or-eq_default}
use Rattle.text.proofs.Choices.{by_test}
use Rattle.tree.specs.Grammar.{Slot, must, may}
use Rattle.tree.specs.declared.grammar.Class.{Class}
use Rattle.tree.specs.declared.grammar.Class.TheVariants.{Word, Char, OpenBrace, CloseBrace, Colon, Unit, Mnemonic, IndexRegister}
use Rattle.tree.specs.declared.grammar.Class.TheVariants.{AddressModifier, VariableType, NumberType, DataSize, BinaryOp, TextEncoding}
use Rattle.tree.specs.declared.grammar.Class.TheVariants.{AddressingMode, StringItem, LocatedExpression, BareExpression, LocatedFactor}
use Rattle.tree.specs.declared.grammar.Class.TheVariants.{BareToken, LocatedToken, BlockRecord, StringRecord, OperandRecord, SuffixRecord}
use Rattle.tree.specs.declared.grammar.Class.TheVariants.{AsRecord, ImportArguments, ImportPath, ExpressionArgument, IdentifierArgument}
use Rattle.tree.specs.declared.grammar.Class.TheVariants.{ImportArgument, Tokens, ExpressionArguments, IdentifierArguments, StringItems}
use Rattle.tree.specs.Rows.{class_number, classes, class_of, slot_code, row_of}

-- the class of a class's number is the class
pub class_back : (class : Class) → class_of (class_number class) ≡ class
class_back Word = refl
class_back Char = refl
class_back OpenBrace = refl
class_back CloseBrace = refl
class_back Colon = refl
class_back Unit = refl
class_back Mnemonic = refl
class_back IndexRegister = refl
class_back AddressModifier = refl
class_back VariableType = refl
class_back NumberType = refl
class_back DataSize = refl
class_back BinaryOp = refl
class_back TextEncoding = refl
class_back AddressingMode = refl
class_back StringItem = refl
class_back LocatedExpression = refl
class_back BareExpression = refl
class_back LocatedFactor = refl
class_back BareToken = refl
class_back LocatedToken = refl
class_back BlockRecord = refl
class_back StringRecord = refl
class_back OperandRecord = refl
class_back SuffixRecord = refl
class_back AsRecord = refl
class_back ImportArguments = refl
class_back ImportPath = refl
class_back ExpressionArgument = refl
class_back IdentifierArgument = refl
class_back ImportArgument = refl
class_back Tokens = refl
class_back ExpressionArguments = refl
class_back IdentifierArguments = refl
class_back StringItems = refl

-- a class's number is neither 0 nor above 35, since the classes of those numbers have others
pub class_bounds : (class : Class) → (0 < class_number class) × (class_number class < 36)
class_bounds class = (by_number (class_number class) refl, by_test (ltb (class_number class) 36) (ltb-true _ _) (λ t. last (ltb-false _ _ t)))
  where
    by_number : (n : ℕ) → class_number class ≡ n → 0 < class_number class
    by_number zero e = omega (arith, ap class_number (sym (class_back class) ∙ ap class_of e))
    by_number (suc n) e = omega arith

    last : 36 ≤ class_number class → class_number class < 36
    last h = omega (arith, ap class_number (sym (class_back class) ∙ get_or-eq_default (Word ∷ classes) StringItems h))

-- a field's code is a number of seven bits, and not 0
slot_bounds : (slot : Slot) → (0 < slot_code slot) × (slot_code slot < 128)
slot_bounds (must class) = let bounds = class_bounds class in omega arith
slot_bounds (may class) = let bounds = class_bounds class in omega arith

-- what a row that is not 0 says of the fields whose row it is
pub record FirstSlot (row : ℕ) (slots : List Slot) : Type 0 where
  pub slot : Slot
  pub rest : List Slot
  pub same : slots ≡ slot ∷ rest
  pub code : row % 128 ≡ slot_code slot
  pub others : row / 128 ≡ row_of rest

-- a row that is not 0 has a first field
pub row_first : (row : ℕ) (slots : List Slot) → row ≡ row_of slots → 0 < row → FirstSlot row slots
row_first row [] e h = absurd (omega (arith, e))
row_first row (slot ∷ rest) e h =
    let bounds = slot_bounds slot in
    record { slot = slot; rest = rest; same = refl; code = omega arith; others = omega arith }

-- the row 0 has none
pub row_none : (row : ℕ) (slots : List Slot) → row ≡ row_of slots → row ≤ 0 → slots ≡ []
row_none row [] e h = refl
row_none row (slot ∷ rest) e h = let bounds = slot_bounds slot in absurd (omega arith)
