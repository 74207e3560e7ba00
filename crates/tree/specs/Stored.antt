-- The stored form of a tree: document 01, "Tree", the shortest statement of the layout.
use Rattle.std.specs.Prelude.{ℕ, ◌+◌, ◌*◌, List, [], ◌∷◌, ◌++◌, cond, length, eqb}
use Rattle.text.specs.Numbers.{two_bytes}
use Rattle.text.specs.Ink.{flat}
use Rattle.tree.specs.Kinds as kinds
use Rattle.tree.specs.Codes as codes
use Rattle.tree.specs.Tree.{Tree, Trivium, absent, refused, node, nil, cons, Align, Assert, Braces, Config, ConfigPair, Data, Definition, Eof}
use Rattle.tree.specs.Tree.{Error, Expression, If, Import, File, Instruction, Label, Loop, MacroDefinition, MacroInvocation}
use Rattle.tree.specs.Tree.{ProgramCounterDefinition, Segment, Test, Text, Trace, VariableDefinition, Vec, Leaf, PathItem, Block}
use Rattle.tree.specs.Tree.{BinaryExpression, Factor, CurrentProgramCounter, ExprParens, FunctionCall, IdentifierValue, Number, StringFactor}
use Rattle.tree.specs.Tree.{InterpolatedString, Operand, RegisterSuffix, ImportAs, ImportAll, SpecificImportArg, ArgItem}

-- "each a code (0 whitespace, 1 newline, 2 C style, 3 C++ style) and, but for newline, a two-byte length and bytes"
abbrev pub stored_trivium : Trivium → List ℕ
stored_trivium item = cond (eqb item.code codes.newline) (codes.newline ∷ []) (item.code ∷ (two_bytes (length item.text) ++ item.text))

unfoldable pub stored_items : List Trivium → List ℕ
stored_items [] = []
stored_items (item ∷ items) = stored_trivium item ++ stored_items items

-- "Trivia: two-byte count (at least 1)", and nothing where there is none
abbrev pub stored_trivia : List Trivium → List ℕ
stored_trivia [] = []
stored_trivia (item ∷ items) = two_bytes (length (item ∷ items)) ++ stored_items (item ∷ items)

-- "trivia if bit 0 stands"
abbrev pub trivia_bit : List Trivium → ℕ
trivia_bit [] = 0
trivia_bit (item ∷ items) = 1

-- the bits of the parts that stand, the first one lowest
unfoldable pub part_bits : List (List ℕ) → ℕ
part_bits [] = 0
part_bits ([] ∷ parts) = 2 * part_bits parts
part_bits ((b ∷ bs) ∷ parts) = 1 + 2 * part_bits parts

-- "kind byte, map byte, trivia if bit 0 stands, then fields on bits 1 to 6 in declaration order"
abbrev pub stored_node : ℕ → List Trivium → List (List ℕ) → List ℕ
stored_node number trivia parts = number ∷ (trivia_bit trivia + 2 * part_bits parts) ∷ (stored_trivia trivia ++ flat parts)

-- "Kinds 25 and 26 use bit 1 for text: two-byte length, at least 1, bytes."
abbrev pub stored_text : List ℕ → List ℕ
stored_text [] = []
stored_text (b ∷ bs) = two_bytes (length (b ∷ bs)) ++ (b ∷ bs)

abbrev pub stored_leaf : ℕ → List Trivium → List ℕ → List ℕ
stored_leaf number trivia text = stored_node number trivia (stored_text text ∷ [])

-- "24 list (map 0, two-byte count, the records)"
abbrev pub stored_vec : List Trivium → ℕ → List ℕ → List ℕ
stored_vec trivia count items = kinds.vec ∷ trivia_bit trivia ∷ (stored_trivia trivia ++ (two_bytes count ++ items))

-- how many items a list has
unfoldable pub item_count : Tree → ℕ
item_count nil = 0
item_count (cons item items) = 1 + item_count items
item_count absent = 0
item_count (refused refusal) = 0
item_count (node place trivia tree) = 0
item_count (Align tag value) = 0
item_count (Assert tag value failuremessage) = 0
item_count (Braces block) = 0
item_count (Config block) = 0
item_count (ConfigPair key eq value) = 0
item_count (Data values size) = 0
item_count (Definition tag id value) = 0
item_count (Eof unit) = 0
item_count (Error text) = 0
item_count (Expression expression) = 0
item_count (If tag_if value then tag_else otherwise) = 0
item_count (Import tag args source filename block) = 0
item_count (File tag filename) = 0
item_count (Instruction mnemonic operand) = 0
item_count (Label id colon block) = 0
item_count (Loop tag expr block) = 0
item_count (MacroDefinition tag id lparen args rparen block) = 0
item_count (MacroInvocation id lparen args rparen) = 0
item_count (ProgramCounterDefinition star eq value) = 0
item_count (Segment tag id block) = 0
item_count (Test tag id block) = 0
item_count (Text tag encoding text) = 0
item_count (Trace tag lparen args rparen) = 0
item_count (VariableDefinition ty id eq value) = 0
item_count (Vec items) = 0
item_count (Leaf text) = 0
item_count (PathItem text) = 0
item_count (Block lparen inner rparen) = 0
item_count (BinaryExpression op lhs rhs) = 0
item_count (Factor factor tagnot tagneg) = 0
item_count (CurrentProgramCounter star) = 0
item_count (ExprParens lparen inner rparen) = 0
item_count (FunctionCall name lparen args rparen) = 0
item_count (IdentifierValue path modifier) = 0
item_count (Number ty value) = 0
item_count (StringFactor string) = 0
item_count (InterpolatedString lquote items) = 0
item_count (Operand expr lchar rchar addressingmode suffix) = 0
item_count (RegisterSuffix comma register) = 0
item_count (ImportAs tag path) = 0
item_count (ImportAll star alias) = 0
item_count (SpecificImportArg path alias) = 0
item_count (ArgItem value comma) = 0

-- the stored form of a record's tree with its trivia; a field that does not stand has no bytes
unfoldable pub stored_with : List Trivium → Tree → List ℕ
stored_with trivia absent = []
stored_with trivia (refused refusal) = []
stored_with trivia (node place own tree) = stored_with own tree
stored_with trivia nil = []
stored_with trivia (cons item items) = stored_with [] item ++ stored_with [] items
stored_with trivia (Align tag value) = stored_node kinds.align trivia (stored_with [] tag ∷ stored_with [] value ∷ [])
stored_with trivia (Assert tag value failuremessage) = stored_node kinds.assert trivia (stored_with [] tag ∷ stored_with [] value ∷ stored_with [] failuremessage ∷ [])
stored_with trivia (Braces block) = stored_node kinds.braces trivia (stored_with [] block ∷ [])
stored_with trivia (Config block) = stored_node kinds.config trivia (stored_with [] block ∷ [])
stored_with trivia (ConfigPair key eq value) = stored_node kinds.config_pair trivia (stored_with [] key ∷ stored_with [] eq ∷ stored_with [] value ∷ [])
stored_with trivia (Data values size) = stored_node kinds.«data» trivia (stored_with [] values ∷ stored_with [] size ∷ [])
stored_with trivia (Definition tag id value) = stored_node kinds.definition trivia (stored_with [] tag ∷ stored_with [] id ∷ stored_with [] value ∷ [])
stored_with trivia (Eof unit) = stored_node kinds.eof trivia (stored_with [] unit ∷ [])
stored_with trivia (Error text) = stored_node kinds.error trivia (stored_with [] text ∷ [])
stored_with trivia (Expression expression) = stored_node kinds.expression trivia (stored_with [] expression ∷ [])
stored_with trivia (If tag_if value then tag_else otherwise) =
    stored_node kinds.if trivia (stored_with [] tag_if ∷ stored_with [] value ∷ stored_with [] then ∷ stored_with [] tag_else ∷ stored_with [] otherwise ∷ [])
stored_with trivia (Import tag args source filename block) =
    stored_node kinds.import trivia (stored_with [] tag ∷ stored_with [] args ∷ stored_with [] source ∷ stored_with [] filename ∷ stored_with [] block ∷ [])
stored_with trivia (File tag filename) = stored_node kinds.file trivia (stored_with [] tag ∷ stored_with [] filename ∷ [])
stored_with trivia (Instruction mnemonic operand) = stored_node kinds.instruction trivia (stored_with [] mnemonic ∷ stored_with [] operand ∷ [])
stored_with trivia (Label id colon block) = stored_node kinds.label trivia (stored_with [] id ∷ stored_with [] colon ∷ stored_with [] block ∷ [])
stored_with trivia (Loop tag expr block) = stored_node kinds.loop trivia (stored_with [] tag ∷ stored_with [] expr ∷ stored_with [] block ∷ [])
stored_with trivia (MacroDefinition tag id lparen args rparen block) =
    stored_node kinds.macro_definition trivia (stored_with [] tag ∷ stored_with [] id ∷ stored_with [] lparen ∷ stored_with [] args ∷ stored_with [] rparen
    ∷ stored_with [] block ∷ [])
stored_with trivia (MacroInvocation id lparen args rparen) = stored_node kinds.macro_invocation trivia (stored_with [] id ∷ stored_with [] lparen ∷ stored_with [] args ∷ stored_with [] rparen ∷ [])
stored_with trivia (ProgramCounterDefinition star eq value) = stored_node kinds.program_counter_definition trivia (stored_with [] star ∷ stored_with [] eq ∷ stored_with [] value ∷ [])
stored_with trivia (Segment tag id block) = stored_node kinds.segment trivia (stored_with [] tag ∷ stored_with [] id ∷ stored_with [] block ∷ [])
stored_with trivia (Test tag id block) = stored_node kinds.test trivia (stored_with [] tag ∷ stored_with [] id ∷ stored_with [] block ∷ [])
stored_with trivia (Text tag encoding text) = stored_node kinds.text trivia (stored_with [] tag ∷ stored_with [] encoding ∷ stored_with [] text ∷ [])
stored_with trivia (Trace tag lparen args rparen) = stored_node kinds.trace trivia (stored_with [] tag ∷ stored_with [] lparen ∷ stored_with [] args ∷ stored_with [] rparen ∷ [])
stored_with trivia (VariableDefinition ty id eq value) = stored_node kinds.variable_definition trivia (stored_with [] ty ∷ stored_with [] id ∷ stored_with [] eq ∷ stored_with [] value ∷ [])
stored_with trivia (Vec items) = stored_vec trivia (item_count items) (stored_with [] items)
stored_with trivia (Leaf text) = stored_leaf kinds.leaf trivia text
stored_with trivia (PathItem text) = stored_leaf kinds.path_item trivia text
stored_with trivia (Block lparen inner rparen) = stored_node kinds.block trivia (stored_with [] lparen ∷ stored_with [] inner ∷ stored_with [] rparen ∷ [])
stored_with trivia (BinaryExpression op lhs rhs) = stored_node kinds.binary_expression trivia (stored_with [] op ∷ stored_with [] lhs ∷ stored_with [] rhs ∷ [])
stored_with trivia (Factor factor tagnot tagneg) = stored_node kinds.factor trivia (stored_with [] factor ∷ stored_with [] tagnot ∷ stored_with [] tagneg ∷ [])
stored_with trivia (CurrentProgramCounter star) = stored_node kinds.current_program_counter trivia (stored_with [] star ∷ [])
stored_with trivia (ExprParens lparen inner rparen) = stored_node kinds.expr_parens trivia (stored_with [] lparen ∷ stored_with [] inner ∷ stored_with [] rparen ∷ [])
stored_with trivia (FunctionCall name lparen args rparen) = stored_node kinds.function_call trivia (stored_with [] name ∷ stored_with [] lparen ∷ stored_with [] args ∷ stored_with [] rparen ∷ [])
stored_with trivia (IdentifierValue path modifier) = stored_node kinds.identifier_value trivia (stored_with [] path ∷ stored_with [] modifier ∷ [])
stored_with trivia (Number ty value) = stored_node kinds.number trivia (stored_with [] ty ∷ stored_with [] value ∷ [])
stored_with trivia (StringFactor string) = stored_node kinds.string_factor trivia (stored_with [] string ∷ [])
stored_with trivia (InterpolatedString lquote items) = stored_node kinds.interpolated_string trivia (stored_with [] lquote ∷ stored_with [] items ∷ [])
stored_with trivia (Operand expr lchar rchar addressingmode suffix) =
    stored_node kinds.operand trivia (stored_with [] expr ∷ stored_with [] lchar ∷ stored_with [] rchar ∷ stored_with [] addressingmode ∷ stored_with [] suffix ∷ [])
stored_with trivia (RegisterSuffix comma register) = stored_node kinds.register_suffix trivia (stored_with [] comma ∷ stored_with [] register ∷ [])
stored_with trivia (ImportAs tag path) = stored_node kinds.import_as trivia (stored_with [] tag ∷ stored_with [] path ∷ [])
stored_with trivia (ImportAll star alias) = stored_node kinds.import_all trivia (stored_with [] star ∷ stored_with [] alias ∷ [])
stored_with trivia (SpecificImportArg path alias) = stored_node kinds.specific_import_arg trivia (stored_with [] path ∷ stored_with [] alias ∷ [])
stored_with trivia (ArgItem value comma) = stored_node kinds.arg_item trivia (stored_with [] value ∷ stored_with [] comma ∷ [])

abbrev pub stored : Tree → List ℕ
stored tree = stored_with [] tree
