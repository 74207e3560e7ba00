-- Trees that keep the grammar, as far as the ink law goes by it: which kinds may stand where, and where trivia may.
use Rattle.std.specs.Prelude.{Option, Some, None}
use Prim.Native.Nat.{ℕ}
use mathlib.Core.Path.{◌≡◌}
use mathlib.Core.Logic.{◌⊎◌}
use mathlib.Core.List.{List, [], ◌∷◌}
use mathlib.Core.Bool.{Bool, true, false, ◌||◌}
use lib.Dec.{eqb}
use Rattle.tree.specs.Grammar.{rule}
use Rattle.tree.specs.Own.{is_list, may_stand}
use Rattle.tree.specs.Tree.{Tree, Trivium, absent, refused, node, nil, cons, Align, Assert, Braces, Config, ConfigPair, Data, Definition, Eof, Error}
use Rattle.tree.specs.Tree.{Expression, If, Import, File, Instruction, Label, Loop, MacroDefinition, MacroInvocation, ProgramCounterDefinition}
use Rattle.tree.specs.Tree.{Segment, Test, Text, Trace, VariableDefinition, Vec, Leaf, PathItem, Block, BinaryExpression, Factor}
use Rattle.tree.specs.Tree.{CurrentProgramCounter, ExprParens, FunctionCall, IdentifierValue, Number, StringFactor, InterpolatedString, Operand}
use Rattle.tree.specs.Tree.{RegisterSuffix, ImportAs, ImportAll, SpecificImportArg, ArgItem}
use Rattle.tree.specs.declared.grammar.Class.{Class}
use Rattle.tree.specs.declared.grammar.Class.TheVariants.{Word, Char, OpenBrace, CloseBrace, Colon, Unit, Mnemonic, IndexRegister, AddressModifier}
use Rattle.tree.specs.declared.grammar.Class.TheVariants.{VariableType, NumberType, DataSize, BinaryOp, TextEncoding, AddressingMode}
use Rattle.tree.specs.declared.grammar.Class.TheVariants.{LocatedExpression, BareExpression, LocatedFactor, BareToken, LocatedToken, BlockRecord}
use Rattle.tree.specs.declared.grammar.Class.TheVariants.{StringRecord, OperandRecord, SuffixRecord, AsRecord, ImportArguments, Tokens}
use Rattle.tree.specs.declared.grammar.Class.TheVariants.{ExpressionArguments, IdentifierArguments, StringItems}
use Rattle.events.specs.Views.{token_number, stands}

-- "Which kind may stand in a field follows its Rust type."
abbrev pub Allowed : Class → ℕ → Type 0
Allowed class number = may_stand (rule class) number ≡ true

abbrev pub Listed : Class → Type 0
Listed class = is_list (rule class).items ≡ true

abbrev pub no_trivia : List Trivium → Bool
no_trivia [] = true
no_trivia (item ∷ items) = false

-- "Bit 0 may stand only where the Rust has a `Located`"; a path item, kind 26, always is one
abbrev pub TriviaAllowed : Class → List Trivium → Tree → Type 0
TriviaAllowed class trivia tree = (no_trivia trivia || ((rule class).located || eqb (token_number tree) 26)) ≡ true

-- the class of a list's items
abbrev pub item_in : Option Class → Class → Class
item_in None class = class
item_in (Some item) class = item

-- "A field is an `Option` in ast.rs or it must stand"
abbrev pub Given : Tree → Type 0 → Type 0
Given tree shaped = (tree ≡ absent) ⊎ shaped

-- a tree that may stand where a class is due
unfoldable pub Shaped : Class → Tree → Type 0
Shaped class absent = ⊥
Shaped class (refused refusal) = ⊥
Shaped class (node place trivia tree) = TriviaAllowed class trivia tree × Shaped class tree
Shaped class nil = Listed class
Shaped class (cons item items) = Listed class × Shaped (item_in (rule class).items class) item × Shaped class items
Shaped class (Align tag value) = Allowed class 0 × Shaped Word tag × Shaped LocatedExpression value
Shaped class (Assert tag value message) = Allowed class 1 × Shaped Word tag × Shaped LocatedExpression value × Given message (Shaped StringRecord message)
Shaped class (Braces block) = Allowed class 2 × Shaped BlockRecord block
Shaped class (Config block) = Allowed class 3 × Shaped BlockRecord block
Shaped class (ConfigPair key eq value) = Allowed class 4 × Shaped Word key × Shaped Char eq × Shaped LocatedToken value
Shaped class (Data values size) = Allowed class 5 × Shaped ExpressionArguments values × Shaped DataSize size
Shaped class (Definition tag id value) = Allowed class 6 × Shaped Word tag × Shaped Word id × Given value (Shaped BareToken value)
Shaped class (Eof unit) = Allowed class 7 × Shaped Unit unit
Shaped class (Error text) = Allowed class 8 × Shaped Word text
Shaped class (Expression expression) = Allowed class 9 × Shaped BareExpression expression
Shaped class (If tag_if value then tag_else otherwise) =
    Allowed class 10 × Shaped Word tag_if × Shaped LocatedExpression value × Shaped BlockRecord then × Given tag_else
    (Shaped Word tag_else) × Given otherwise (Shaped BlockRecord otherwise) × (stands tag_else ≡ stands otherwise)
Shaped class (Import tag args source filename block) =
    Allowed class 11 × Shaped Word tag × Shaped ImportArguments args × Shaped Word source × Shaped StringRecord filename × Given block
    (Shaped BlockRecord block)
Shaped class (File tag filename) = Allowed class 12 × Shaped Word tag × Shaped StringRecord filename
Shaped class (Instruction mnemonic operand) = Allowed class 13 × Shaped Mnemonic mnemonic × Given operand (Shaped OperandRecord operand)
Shaped class (Label id colon block) = Allowed class 14 × Shaped Word id × Shaped Colon colon × Given block (Shaped BlockRecord block)
Shaped class (Loop tag expr block) = Allowed class 15 × Shaped Word tag × Shaped LocatedExpression expr × Shaped BlockRecord block
Shaped class (MacroDefinition tag id lparen args rparen block) =
    Allowed class 16 × Shaped Word tag × Shaped Word id × Shaped Char lparen × Shaped IdentifierArguments args × Shaped Char rparen × Shaped BlockRecord block
Shaped class (MacroInvocation id lparen args rparen) = Allowed class 17 × Shaped Word id × Shaped Char lparen × Shaped ExpressionArguments args × Shaped Char rparen
Shaped class (ProgramCounterDefinition star eq value) = Allowed class 18 × Shaped Char star × Shaped Char eq × Shaped LocatedExpression value
Shaped class (Segment tag id block) = Allowed class 19 × Shaped Word tag × Shaped LocatedExpression id × Given block (Shaped BlockRecord block)
Shaped class (Test tag id block) = Allowed class 20 × Shaped Word tag × Shaped LocatedExpression id × Shaped BlockRecord block
Shaped class (Text tag encoding text) = Allowed class 21 × Shaped Word tag × Given encoding (Shaped TextEncoding encoding) × Shaped LocatedExpression text
Shaped class (Trace tag lparen args rparen) = Allowed class 22 × Shaped Word tag × Given lparen (Shaped Char lparen) × Shaped ExpressionArguments args × Given rparen (Shaped Char rparen)
Shaped class (VariableDefinition ty id eq value) = Allowed class 23 × Shaped VariableType ty × Shaped Word id × Shaped Char eq × Shaped LocatedExpression value
Shaped class (Vec items) = Allowed class 24 × Shaped class items
Shaped class (Leaf text) = Allowed class 25
Shaped class (PathItem text) = Allowed class 26
Shaped class (Block lparen inner rparen) = Allowed class 27 × Shaped OpenBrace lparen × Shaped Tokens inner × Shaped CloseBrace rparen
Shaped class (BinaryExpression op lhs rhs) = Allowed class 28 × Shaped BinaryOp op × Shaped LocatedExpression lhs × Shaped LocatedExpression rhs
Shaped class (Factor factor tag_not tag_neg) = Allowed class 29 × Shaped LocatedFactor factor × Given tag_not (Shaped Char tag_not) × Given tag_neg (Shaped Char tag_neg)
Shaped class (CurrentProgramCounter star) = Allowed class 30 × Shaped Char star
Shaped class (ExprParens lparen inner rparen) = Allowed class 31 × Shaped Char lparen × Shaped LocatedExpression inner × Shaped Char rparen
Shaped class (FunctionCall name lparen args rparen) = Allowed class 32 × Shaped Word name × Shaped Char lparen × Shaped ExpressionArguments args × Shaped Char rparen
Shaped class (IdentifierValue path modifier) = Allowed class 33 × Shaped Word path × Given modifier (Shaped AddressModifier modifier)
Shaped class (Number ty value) = Allowed class 34 × Shaped NumberType ty × Shaped Word value
Shaped class (StringFactor string) = Allowed class 35 × Shaped StringRecord string
Shaped class (InterpolatedString lquote items) = Allowed class 36 × Shaped Char lquote × Shaped StringItems items
Shaped class (Operand expr lchar rchar mode suffix) =
    Allowed class 37 × Shaped LocatedExpression expr × Given lchar (Shaped Char lchar) × Given rchar
    (Shaped Char rchar) × Shaped AddressingMode mode × Given suffix (Shaped SuffixRecord suffix)
Shaped class (RegisterSuffix comma register) = Allowed class 38 × Shaped Char comma × Shaped IndexRegister register
Shaped class (ImportAs tag path) = Allowed class 39 × Shaped Word tag × Shaped Word path
Shaped class (ImportAll star alias) = Allowed class 40 × Shaped Char star × Given alias (Shaped AsRecord alias)
Shaped class (SpecificImportArg path alias) = Allowed class 41 × Shaped Word path × Given alias (Shaped AsRecord alias)
Shaped class (ArgItem value comma) = Allowed class 42 × Shaped (rule class).value value × Given comma (Shaped Char comma)
