-- The eight places of document 01, "Reading order and the eight places": which of them a tree uses, and where.
use Rattle.std.specs.Prelude.{ℕ, List, [], ◌∷◌, ◌++◌, Bool, true, false, cond, not, ◌&&◌, ◌||◌, get_or, eqb}
use Rattle.tree.specs.Tree.{Tree, Trivium, absent, refused, node, nil, cons, Align, Assert, Braces, Config, ConfigPair, Data, Definition, Eof, Error}
use Rattle.tree.specs.Tree.{Expression, If, Import, File, Instruction, Label, Loop, MacroDefinition, MacroInvocation, ProgramCounterDefinition}
use Rattle.tree.specs.Tree.{Segment, Test, Text, Trace, VariableDefinition, Vec, Leaf, PathItem, Block, BinaryExpression, Factor}
use Rattle.tree.specs.Tree.{CurrentProgramCounter, ExprParens, FunctionCall, IdentifierValue, Number, StringFactor, InterpolatedString, Operand}
use Rattle.tree.specs.Tree.{RegisterSuffix, ImportAs, ImportAll, SpecificImportArg, ArgItem}
use Rattle.tree.specs.Kinds as kinds
use Rattle.tree.specs.Codes as codes
use Rattle.events.specs.Views.{own_trivia, head_of, head_trivia, stands_at, token_number, stands, index_of}
use Rattle.reading.specs.Order.{is_comment}

-- the places (a) to (h)
pub data Spot : Type 0 where
  opening_brace label_colon value_head import_path path_item register_letter expression_head closing_character : Spot

-- "a comment on"
unfoldable pub has_comment : List Trivium → Bool
has_comment [] = false
has_comment (item ∷ items) = is_comment item || has_comment items

-- ---- a test for each place, where a record has it

-- (a) "the opening brace of a block, other than of a `Braces` or `Config` in a token list"
abbrev pub at_opening_brace : Bool → Tree → Bool
at_opening_brace listed lparen = not listed && has_comment (own_trivia lparen)

-- (b) "a label's colon"
abbrev pub at_label_colon : Tree → Bool
at_label_colon colon = has_comment (own_trivia colon)

-- (c) "the head of a `Definition`'s or `ConfigPair`'s value that is not an `Expression`, head as in `Token::trivia`"
abbrev pub at_value_head : Tree → Bool
at_value_head value = not (eqb (token_number value) kinds.expression) && has_comment (head_trivia value)

-- (d) "kind 41", a `SpecificImportArg`
abbrev pub at_import_path : List Trivium → Tree → Bool
at_import_path trivia tree = eqb (token_number tree) kinds.specific_import_arg && has_comment trivia

-- (e) "a path item"
abbrev pub at_path_item : List Trivium → Tree → Bool
at_path_item trivia tree = eqb (token_number tree) kinds.path_item && has_comment trivia

-- (f) "a register letter"
abbrev pub at_register_letter : Tree → Bool
at_register_letter register = has_comment (own_trivia register)

-- (g) "the head of an `Expression` in a token list, printed twice"
abbrev pub at_expression_head : Bool → Tree → Bool
at_expression_head listed expression = listed && has_comment (head_trivia expression)

-- (h) "a closing character, commented or not, of an operand neither `Indirect` nor `OuterIndirect`"
abbrev pub at_closing_character : List ℕ → Tree → Bool
at_closing_character mode rchar = not (eqb (get_or mode 0 0) codes.indirect || eqb (get_or mode 0 0) codes.outer_indirect) && stands rchar

-- ---- the places that a tree uses

-- a place that is used: where the record stands that carries the comment, for (h) the closing character, and which place it is
pub record Use : Type 0 where
  pub place : ℕ
  pub spot : Spot

-- a place that is used, or none
abbrev pub mark : ℕ → Spot → Bool → List Use
mark place spot used = cond used (record { place = place; spot = spot } ∷ []) []

-- The places of a record, field by field. One that is a field or its head stands before those in that field, a closing character before all of its operand.
-- `listed` says whether the tree stands in a list, or is the block of a `Braces` or `Config` that does. A block hands it on to its fields, where it does not
-- matter: only tokens and blocks look at it, and the fields are two braces and a list, whose items stand in a list anyway.
unfoldable pub places_in : Bool → Tree → List Use
places_in listed absent = []
places_in listed (refused refusal) = []
places_in listed (node place trivia tree) = mark place import_path (at_import_path trivia tree) ++ (mark place path_item (at_path_item trivia tree) ++ places_in listed tree)
places_in listed nil = []
places_in listed (cons item items) = places_in true item ++ places_in listed items
places_in listed (Align tag value) = places_in false tag ++ places_in false value
places_in listed (Assert tag value message) = places_in false tag ++ (places_in false value ++ places_in false message)
places_in listed (Braces block) = places_in listed block
places_in listed (Config block) = places_in listed block
places_in listed (ConfigPair key eq value) = places_in false key ++ (places_in false eq ++ (mark (stands_at (head_of value)) value_head (at_value_head value) ++ places_in false value))
places_in listed (Data values size) = places_in false values ++ places_in false size
places_in listed (Definition tag id value) = places_in false tag ++ (places_in false id ++ (mark (stands_at (head_of value)) value_head (at_value_head value) ++ places_in false value))
places_in listed (Eof unit) = places_in false unit
places_in listed (Error text) = places_in false text
places_in listed (Expression expression) = mark (stands_at (head_of expression)) expression_head (at_expression_head listed expression) ++ places_in false expression
places_in listed (If tag_if value then tag_else otherwise) = places_in false tag_if ++ (places_in false value ++ (places_in false then ++ (places_in false tag_else ++ places_in false otherwise)))
places_in listed (Import tag args source filename block) = places_in false tag ++ (places_in false args ++ (places_in false source ++ (places_in false filename ++ places_in false block)))
places_in listed (File tag filename) = places_in false tag ++ places_in false filename
places_in listed (Instruction mnemonic operand) = places_in false mnemonic ++ places_in false operand
places_in listed (Label id colon block) = places_in false id ++ (mark (stands_at colon) label_colon (at_label_colon colon) ++ (places_in false colon ++ places_in false block))
places_in listed (Loop tag expr block) = places_in false tag ++ (places_in false expr ++ places_in false block)
places_in listed (MacroDefinition tag id lparen args rparen block) =
    places_in false tag ++ (places_in false id ++ (places_in false lparen ++ (places_in false args ++ (places_in false rparen ++ places_in false block))))
places_in listed (MacroInvocation id lparen args rparen) = places_in false id ++ (places_in false lparen ++ (places_in false args ++ places_in false rparen))
places_in listed (ProgramCounterDefinition star eq value) = places_in false star ++ (places_in false eq ++ places_in false value)
places_in listed (Segment tag id block) = places_in false tag ++ (places_in false id ++ places_in false block)
places_in listed (Test tag id block) = places_in false tag ++ (places_in false id ++ places_in false block)
places_in listed (Text tag encoding text) = places_in false tag ++ (places_in false encoding ++ places_in false text)
places_in listed (Trace tag lparen args rparen) = places_in false tag ++ (places_in false lparen ++ (places_in false args ++ places_in false rparen))
places_in listed (VariableDefinition ty id eq value) = places_in false ty ++ (places_in false id ++ (places_in false eq ++ places_in false value))
places_in listed (Vec items) = places_in listed items
places_in listed (Leaf text) = []
places_in listed (PathItem text) = []
places_in listed (Block lparen inner rparen) =
    mark (stands_at lparen) opening_brace (at_opening_brace listed lparen) ++ (places_in listed lparen ++ (places_in listed inner ++ places_in listed rparen))
places_in listed (BinaryExpression op lhs rhs) = places_in false op ++ (places_in false lhs ++ places_in false rhs)
places_in listed (Factor factor tag_not tag_neg) = places_in false factor ++ (places_in false tag_not ++ places_in false tag_neg)
places_in listed (CurrentProgramCounter star) = places_in false star
places_in listed (ExprParens lparen inner rparen) = places_in false lparen ++ (places_in false inner ++ places_in false rparen)
places_in listed (FunctionCall name lparen args rparen) = places_in false name ++ (places_in false lparen ++ (places_in false args ++ places_in false rparen))
places_in listed (IdentifierValue path modifier) = places_in false path ++ places_in false modifier
places_in listed (Number ty value) = places_in false ty ++ places_in false value
places_in listed (StringFactor string) = places_in false string
places_in listed (InterpolatedString lquote items) = places_in false lquote ++ places_in false items
places_in listed (Operand expr lchar rchar mode suffix) =
    mark (stands_at rchar) closing_character (at_closing_character (index_of mode) rchar) ++ (places_in false expr ++ (places_in false lchar ++ (places_in false rchar
    ++ (places_in false mode ++ places_in false suffix))))
places_in listed (RegisterSuffix comma register) = places_in false comma ++ (mark (stands_at register) register_letter (at_register_letter register) ++ places_in false register)
places_in listed (ImportAs tag path) = places_in false tag ++ places_in false path
places_in listed (ImportAll star alias) = places_in false star ++ places_in false alias
places_in listed (SpecificImportArg path alias) = places_in false path ++ places_in false alias
places_in listed (ArgItem value comma) = places_in false value ++ places_in false comma

-- ---- whether a tree uses a place

abbrev pub spot_number : Spot → ℕ
spot_number opening_brace = 0
spot_number label_colon = 1
spot_number value_head = 2
spot_number import_path = 3
spot_number path_item = 4
spot_number register_letter = 5
spot_number expression_head = 6
spot_number closing_character = 7

unfoldable pub among : Spot → List Use → Bool
among spot [] = false
among spot (other ∷ others) = eqb (spot_number spot) (spot_number other.spot) || among spot others

-- whether a file uses a place
abbrev pub uses : Spot → Tree → Bool
uses spot tree = among spot (places_in false tree)

-- a place at which ink is lost or printed twice: all but (f), a register letter, whose comments are printed
abbrev pub loses_ink : Tree → Bool
loses_ink tree =
    uses opening_brace tree || (uses label_colon tree || (uses value_head tree || (uses import_path tree
    || (uses path_item tree || (uses expression_head tree || uses closing_character tree)))))

-- "none of these": one of the eight
abbrev pub uses_place : Tree → Bool
uses_place tree = loses_ink tree || uses register_letter tree
