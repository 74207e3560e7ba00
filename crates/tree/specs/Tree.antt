-- The tree that stored bytes hold: a constructor for each kind, named as in ast.rs, with its fields in declared order.
use Rattle.std.specs.Prelude.{ℕ, List, [], ◌∷◌, get_or}
use Rattle.answers.specs.declared.Refusal.{Refusal}
use Rattle.tree.specs.declared.grammar.Kind.{Kind}
use Rattle.tree.specs.declared.grammar.Kind.TheVariants as kind

-- a trivia item: "a code (0 whitespace, 1 newline, 2 C style, 3 C++ style)" and its bytes, none for a newline
pub record Trivium : Type 0 where
  pub code : ℕ
  pub text : List ℕ

pub data Tree : Type 0 where
  -- a field that does not stand
  absent : Tree
  -- no record can be read there: the refusal that reading meets
  refused : Refusal → Tree
  -- a record: its place in the bytes, its trivia, and what it is
  node : ℕ → List Trivium → Tree → Tree
  -- the items of a list, first to last
  nil : Tree
  cons : Tree → Tree → Tree
  Align : Tree → Tree → Tree  -- tag, value
  Assert : Tree → Tree → Tree → Tree  -- tag, value, failure_message
  Braces : Tree → Tree  -- block
  Config : Tree → Tree  -- block
  ConfigPair : Tree → Tree → Tree → Tree  -- key, eq, value
  Data : Tree → Tree → Tree  -- values, size
  Definition : Tree → Tree → Tree → Tree  -- tag, id, value
  Eof : Tree → Tree  -- unit
  Error : Tree → Tree  -- text
  Expression : Tree → Tree  -- expression
  If : Tree → Tree → Tree → Tree → Tree → Tree  -- tag_if, value, if_, tag_else, else_
  Import : Tree → Tree → Tree → Tree → Tree → Tree  -- tag, args, from, filename, block
  File : Tree → Tree → Tree  -- tag, filename
  Instruction : Tree → Tree → Tree  -- mnemonic, operand
  Label : Tree → Tree → Tree → Tree  -- id, colon, block
  Loop : Tree → Tree → Tree → Tree  -- tag, expr, block
  MacroDefinition : Tree → Tree → Tree → Tree → Tree → Tree → Tree  -- tag, id, lparen, args, rparen, block
  MacroInvocation : Tree → Tree → Tree → Tree → Tree  -- id, lparen, args, rparen
  ProgramCounterDefinition : Tree → Tree → Tree → Tree  -- star, eq, value
  Segment : Tree → Tree → Tree → Tree  -- tag, id, block
  Test : Tree → Tree → Tree → Tree  -- tag, id, block
  Text : Tree → Tree → Tree → Tree  -- tag, encoding, text
  Trace : Tree → Tree → Tree → Tree → Tree  -- tag, lparen, args, rparen
  VariableDefinition : Tree → Tree → Tree → Tree → Tree  -- ty, id, eq, value
  Vec : Tree → Tree  -- items
  Leaf : List ℕ → Tree  -- text, which is empty where it does not stand
  PathItem : List ℕ → Tree  -- text, which is empty where it does not stand
  Block : Tree → Tree → Tree → Tree  -- lparen, inner, rparen
  BinaryExpression : Tree → Tree → Tree → Tree  -- op, lhs, rhs
  Factor : Tree → Tree → Tree → Tree  -- factor, tag_not, tag_neg
  CurrentProgramCounter : Tree → Tree  -- star
  ExprParens : Tree → Tree → Tree → Tree  -- lparen, inner, rparen
  FunctionCall : Tree → Tree → Tree → Tree → Tree  -- name, lparen, args, rparen
  IdentifierValue : Tree → Tree → Tree  -- path, modifier
  Number : Tree → Tree → Tree  -- ty, value
  StringFactor : Tree → Tree  -- string
  InterpolatedString : Tree → Tree → Tree  -- lquote, items
  Operand : Tree → Tree → Tree → Tree → Tree → Tree  -- expr, lchar, rchar, addressing_mode, suffix
  RegisterSuffix : Tree → Tree → Tree  -- comma, register
  ImportAs : Tree → Tree → Tree  -- tag, path
  ImportAll : Tree → Tree → Tree  -- star, as
  SpecificImportArg : Tree → Tree → Tree  -- path, as_
  ArgItem : Tree → Tree → Tree  -- value, comma

-- the items of a list
unfoldable pub chain : List Tree → Tree
chain [] = nil
chain (tree ∷ trees) = cons tree (chain trees)

abbrev part : List Tree → ℕ → Tree
part parts k = get_or parts k absent

-- the tree of a kind, of its text and its parts
unfoldable pub built : Kind → List ℕ → List Tree → Tree
built kind.Align text parts = Align (part parts 0) (part parts 1)
built kind.Assert text parts = Assert (part parts 0) (part parts 1) (part parts 2)
built kind.Braces text parts = Braces (part parts 0)
built kind.Config text parts = Config (part parts 0)
built kind.ConfigPair text parts = ConfigPair (part parts 0) (part parts 1) (part parts 2)
built kind.Data text parts = Data (part parts 0) (part parts 1)
built kind.Definition text parts = Definition (part parts 0) (part parts 1) (part parts 2)
built kind.Eof text parts = Eof (part parts 0)
built kind.Error text parts = Error (part parts 0)
built kind.Expression text parts = Expression (part parts 0)
built kind.If text parts = If (part parts 0) (part parts 1) (part parts 2) (part parts 3) (part parts 4)
built kind.Import text parts = Import (part parts 0) (part parts 1) (part parts 2) (part parts 3) (part parts 4)
built kind.File text parts = File (part parts 0) (part parts 1)
built kind.Instruction text parts = Instruction (part parts 0) (part parts 1)
built kind.Label text parts = Label (part parts 0) (part parts 1) (part parts 2)
built kind.Loop text parts = Loop (part parts 0) (part parts 1) (part parts 2)
built kind.MacroDefinition text parts = MacroDefinition (part parts 0) (part parts 1) (part parts 2) (part parts 3) (part parts 4) (part parts 5)
built kind.MacroInvocation text parts = MacroInvocation (part parts 0) (part parts 1) (part parts 2) (part parts 3)
built kind.ProgramCounterDefinition text parts = ProgramCounterDefinition (part parts 0) (part parts 1) (part parts 2)
built kind.Segment text parts = Segment (part parts 0) (part parts 1) (part parts 2)
built kind.Test text parts = Test (part parts 0) (part parts 1) (part parts 2)
built kind.Text text parts = Text (part parts 0) (part parts 1) (part parts 2)
built kind.Trace text parts = Trace (part parts 0) (part parts 1) (part parts 2) (part parts 3)
built kind.VariableDefinition text parts = VariableDefinition (part parts 0) (part parts 1) (part parts 2) (part parts 3)
built kind.Vec text parts = Vec (chain parts)
built kind.Leaf text parts = Leaf text
built kind.PathItem text parts = PathItem text
built kind.Block text parts = Block (part parts 0) (part parts 1) (part parts 2)
built kind.BinaryExpression text parts = BinaryExpression (part parts 0) (part parts 1) (part parts 2)
built kind.Factor text parts = Factor (part parts 0) (part parts 1) (part parts 2)
built kind.CurrentProgramCounter text parts = CurrentProgramCounter (part parts 0)
built kind.ExprParens text parts = ExprParens (part parts 0) (part parts 1) (part parts 2)
built kind.FunctionCall text parts = FunctionCall (part parts 0) (part parts 1) (part parts 2) (part parts 3)
built kind.IdentifierValue text parts = IdentifierValue (part parts 0) (part parts 1)
built kind.Number text parts = Number (part parts 0) (part parts 1)
built kind.StringFactor text parts = StringFactor (part parts 0)
built kind.InterpolatedString text parts = InterpolatedString (part parts 0) (part parts 1)
built kind.Operand text parts = Operand (part parts 0) (part parts 1) (part parts 2) (part parts 3) (part parts 4)
built kind.RegisterSuffix text parts = RegisterSuffix (part parts 0) (part parts 1)
built kind.ImportAs text parts = ImportAs (part parts 0) (part parts 1)
built kind.ImportAll text parts = ImportAll (part parts 0) (part parts 1)
built kind.SpecificImportArg text parts = SpecificImportArg (part parts 0) (part parts 1)
built kind.ArgItem text parts = ArgItem (part parts 0) (part parts 1)
