-- What a record's surroundings read of it: one table, a line for each kind.
use Rattle.std.specs.Prelude.{ℕ, zero, suc, ◌/◌, ◌%◌, List, [], Bool, true, false, cond, eqb}
use Rattle.tree.specs.Kinds as kinds
use Rattle.tree.specs.Tree.{Tree, Trivium, absent, refused, node, nil, cons, Align, Assert, Braces, Config, ConfigPair, Data, Definition, Eof, Error}
use Rattle.tree.specs.Tree.{Expression, If, Import, File, Instruction, Label, Loop, MacroDefinition, MacroInvocation, ProgramCounterDefinition}
use Rattle.tree.specs.Tree.{Segment, Test, Text, Trace, VariableDefinition, Vec, Leaf, PathItem, Block, BinaryExpression, Factor}
use Rattle.tree.specs.Tree.{CurrentProgramCounter, ExprParens, FunctionCall, IdentifierValue, Number, StringFactor, InterpolatedString, Operand}
use Rattle.tree.specs.Tree.{RegisterSuffix, ImportAs, ImportAll, SpecificImportArg, ArgItem}

pub record View : Type 0 where
  pub trivia : List Trivium  -- its own
  pub head : Tree  -- the record whose trivia are a token's, as `Token::trivia` of ast.rs has it
  pub place : ℕ  -- where it stands in the bytes
  pub number : ℕ  -- that of its kind
  pub stands : Bool  -- whether there is one
  pub block : Bool  -- whether an `Import` or a `Label` has one
  pub index : List ℕ  -- that an enum's leaf holds

-- a field that does not stand
abbrev pub no_record : View
no_record = record { trivia = []; head = absent; place = 0; number = kinds.none; stands = false; block = false; index = [] }

-- a token with its head, and whether it has a block
abbrev pub block_token : ℕ → Tree → Bool → View
block_token number head block = record { trivia = []; head = head; place = 0; number = number; stands = true; block = block; index = [] }

abbrev pub token : ℕ → Tree → View
token number head = block_token number head false

-- a record that has no head
abbrev pub part : ℕ → View
part number = token number absent

abbrev pub leaf_with : List ℕ → View
leaf_with text = record { trivia = []; head = absent; place = 0; number = kinds.leaf; stands = true; block = false; index = text }

-- a record with its place and its trivia
abbrev pub placed : ℕ → List Trivium → View → View
placed place trivia inner = record {
  trivia = trivia;
  head = inner.head;
  place = place;
  number = inner.number;
  stands = true;
  block = inner.block;
  index = inner.index;
}

unfoldable pub view : Tree → View
view absent = no_record
view (refused refusal) = part kinds.none
view (node place trivia tree) = placed place trivia (view tree)
view nil = part kinds.none
view (cons item items) = part kinds.none
view (Align tag value) = token kinds.align tag
view (Assert tag value message) = token kinds.assert tag
view (Braces block) = token kinds.braces (view block).head
view (Config block) = token kinds.config (view block).head
view (ConfigPair key eq value) = token kinds.config_pair key
view (Data values size) = token kinds.«data» size
view (Definition tag id value) = token kinds.definition tag
view (Eof unit) = token kinds.eof unit
view (Error text) = token kinds.error text
view (Expression expression) = token kinds.expression (view expression).head
view (If tag_if value then tag_else otherwise) = token kinds.if tag_if
view (Import tag args source filename block) = block_token kinds.import tag (view block).stands
view (File tag filename) = token kinds.file tag
view (Instruction mnemonic operand) = token kinds.instruction mnemonic
view (Label id colon block) = block_token kinds.label id (view block).stands
view (Loop tag expr block) = token kinds.loop tag
view (MacroDefinition tag id lparen args rparen block) = token kinds.macro_definition tag
view (MacroInvocation id lparen args rparen) = token kinds.macro_invocation id
view (ProgramCounterDefinition star eq value) = token kinds.program_counter_definition star
view (Segment tag id block) = token kinds.segment tag
view (Test tag id block) = token kinds.test tag
view (Text tag encoding text) = token kinds.text tag
view (Trace tag lparen args rparen) = token kinds.trace tag
view (VariableDefinition ty id eq value) = token kinds.variable_definition ty
view (Vec items) = part kinds.vec
view (Leaf text) = leaf_with text
view (PathItem text) = part kinds.path_item
view (Block lparen inner rparen) = token kinds.block lparen
view (BinaryExpression op lhs rhs) = token kinds.binary_expression lhs
view (Factor factor tag_not tag_neg) = token kinds.factor factor
view (CurrentProgramCounter star) = part kinds.current_program_counter
view (ExprParens lparen inner rparen) = part kinds.expr_parens
view (FunctionCall name lparen args rparen) = part kinds.function_call
view (IdentifierValue path modifier) = part kinds.identifier_value
view (Number ty value) = part kinds.number
view (StringFactor string) = part kinds.string_factor
view (InterpolatedString lquote items) = part kinds.interpolated_string
view (Operand expr lchar rchar mode suffix) = part kinds.operand
view (RegisterSuffix comma register) = part kinds.register_suffix
view (ImportAs tag path) = part kinds.import_as
view (ImportAll star alias) = part kinds.import_all
view (SpecificImportArg path alias) = part kinds.specific_import_arg
view (ArgItem value comma) = part kinds.arg_item

-- ---- its fields by name

-- the trivia of a record
abbrev pub own_trivia : Tree → List Trivium
own_trivia tree = (view tree).trivia

-- a token's head
abbrev pub head_of : Tree → Tree
head_of tree = (view tree).head

-- the trivia of a token's head
abbrev pub head_trivia : Tree → List Trivium
head_trivia tree = own_trivia (head_of tree)

-- where a record stands in the bytes
abbrev pub stands_at : Tree → ℕ
stands_at tree = (view tree).place

-- the number of a record's kind
abbrev pub token_number : Tree → ℕ
token_number tree = (view tree).number

-- whether a field stands
abbrev pub stands : Tree → Bool
stands tree = (view tree).stands

-- whether an `Import` or a `Label` has a block
abbrev pub has_block : Tree → Bool
has_block tree = (view tree).block

-- the index that an enum's leaf holds
abbrev pub index_of : Tree → List ℕ
index_of tree = (view tree).index

-- ---- the same by a map's bits

-- a bit of a map's fields, the first field's first
unfoldable pub bit_at : ℕ → ℕ → Bool
bit_at zero bits = eqb (bits % 2) 1
bit_at (suc place) bits = bit_at place (bits / 2)

-- the bit of that block, by the kind's number: the fifth field of an `Import`, the third of a `Label`
abbrev pub block_bit : ℕ → ℕ → Bool
block_bit number bits = cond (eqb number kinds.import) (bit_at 4 bits) (cond (eqb number kinds.label) (bit_at 2 bits) false)
