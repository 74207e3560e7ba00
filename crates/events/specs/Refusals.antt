-- Refusals that reading a tree meets: the first in it, the one of a record's own bytes, and the first on the way to a token's head. A tree that passed has none.
use Rattle.std.specs.Prelude.{Err}
use Rattle.answers.specs.Numbers.{no_refusal, and_then, Checked}
use Rattle.tree.specs.Tree.{Tree, absent, refused, node, nil, cons, Align, Assert, Braces, Config, ConfigPair, Data, Definition, Eof, Error}
use Rattle.tree.specs.Tree.{Expression, If, Import, File, Instruction, Label, Loop, MacroDefinition, MacroInvocation, ProgramCounterDefinition}
use Rattle.tree.specs.Tree.{Segment, Test, Text, Trace, VariableDefinition, Vec, Leaf, PathItem, Block, BinaryExpression, Factor}
use Rattle.tree.specs.Tree.{CurrentProgramCounter, ExprParens, FunctionCall, IdentifierValue, Number, StringFactor, InterpolatedString, Operand}
use Rattle.tree.specs.Tree.{RegisterSuffix, ImportAs, ImportAll, SpecificImportArg, ArgItem}

-- the first refusal in a tree, in stored order
unfoldable pub first_refusal : Tree → Checked
first_refusal absent = no_refusal
first_refusal (refused refusal) = Err refusal
first_refusal (node place trivia tree) = first_refusal tree
first_refusal nil = no_refusal
first_refusal (cons item items) = and_then (first_refusal item) (first_refusal items)
first_refusal (Align tag value) = and_then (first_refusal tag) (first_refusal value)
first_refusal (Assert tag value message) = and_then (first_refusal tag) (and_then (first_refusal value) (first_refusal message))
first_refusal (Braces block) = first_refusal block
first_refusal (Config block) = first_refusal block
first_refusal (ConfigPair key eq value) = and_then (first_refusal key) (and_then (first_refusal eq) (first_refusal value))
first_refusal (Data values size) = and_then (first_refusal values) (first_refusal size)
first_refusal (Definition tag id value) = and_then (first_refusal tag) (and_then (first_refusal id) (first_refusal value))
first_refusal (Eof unit) = first_refusal unit
first_refusal (Error text) = first_refusal text
first_refusal (Expression expression) = first_refusal expression
first_refusal (If tag_if value then tag_else otherwise) =
    and_then (first_refusal tag_if) (and_then (first_refusal value) (and_then (first_refusal then) (and_then (first_refusal tag_else) (first_refusal otherwise))))
first_refusal (Import tag args source filename block) =
    and_then (first_refusal tag) (and_then (first_refusal args) (and_then (first_refusal source) (and_then (first_refusal filename) (first_refusal block))))
first_refusal (File tag filename) = and_then (first_refusal tag) (first_refusal filename)
first_refusal (Instruction mnemonic operand) = and_then (first_refusal mnemonic) (first_refusal operand)
first_refusal (Label id colon block) = and_then (first_refusal id) (and_then (first_refusal colon) (first_refusal block))
first_refusal (Loop tag expr block) = and_then (first_refusal tag) (and_then (first_refusal expr) (first_refusal block))
first_refusal (MacroDefinition tag id lparen args rparen block) =
    and_then (first_refusal tag) (and_then (first_refusal id) (and_then (first_refusal lparen) (and_then (first_refusal args) (and_then (first_refusal rparen) (first_refusal block)))))
first_refusal (MacroInvocation id lparen args rparen) = and_then (first_refusal id) (and_then (first_refusal lparen) (and_then (first_refusal args) (first_refusal rparen)))
first_refusal (ProgramCounterDefinition star eq value) = and_then (first_refusal star) (and_then (first_refusal eq) (first_refusal value))
first_refusal (Segment tag id block) = and_then (first_refusal tag) (and_then (first_refusal id) (first_refusal block))
first_refusal (Test tag id block) = and_then (first_refusal tag) (and_then (first_refusal id) (first_refusal block))
first_refusal (Text tag encoding text) = and_then (first_refusal tag) (and_then (first_refusal encoding) (first_refusal text))
first_refusal (Trace tag lparen args rparen) = and_then (first_refusal tag) (and_then (first_refusal lparen) (and_then (first_refusal args) (first_refusal rparen)))
first_refusal (VariableDefinition ty id eq value) = and_then (first_refusal ty) (and_then (first_refusal id) (and_then (first_refusal eq) (first_refusal value)))
first_refusal (Vec items) = first_refusal items
first_refusal (Leaf text) = no_refusal
first_refusal (PathItem text) = no_refusal
first_refusal (Block lparen inner rparen) = and_then (first_refusal lparen) (and_then (first_refusal inner) (first_refusal rparen))
first_refusal (BinaryExpression op lhs rhs) = and_then (first_refusal op) (and_then (first_refusal lhs) (first_refusal rhs))
first_refusal (Factor factor tag_not tag_neg) = and_then (first_refusal factor) (and_then (first_refusal tag_not) (first_refusal tag_neg))
first_refusal (CurrentProgramCounter star) = first_refusal star
first_refusal (ExprParens lparen inner rparen) = and_then (first_refusal lparen) (and_then (first_refusal inner) (first_refusal rparen))
first_refusal (FunctionCall name lparen args rparen) = and_then (first_refusal name) (and_then (first_refusal lparen) (and_then (first_refusal args) (first_refusal rparen)))
first_refusal (IdentifierValue path modifier) = and_then (first_refusal path) (first_refusal modifier)
first_refusal (Number ty value) = and_then (first_refusal ty) (first_refusal value)
first_refusal (StringFactor string) = first_refusal string
first_refusal (InterpolatedString lquote items) = and_then (first_refusal lquote) (first_refusal items)
first_refusal (Operand expr lchar rchar mode suffix) =
    and_then (first_refusal expr) (and_then (first_refusal lchar) (and_then (first_refusal rchar) (and_then (first_refusal mode) (first_refusal suffix))))
first_refusal (RegisterSuffix comma register) = and_then (first_refusal comma) (first_refusal register)
first_refusal (ImportAs tag path) = and_then (first_refusal tag) (first_refusal path)
first_refusal (ImportAll star alias) = and_then (first_refusal star) (first_refusal alias)
first_refusal (SpecificImportArg path alias) = and_then (first_refusal path) (first_refusal alias)
first_refusal (ArgItem value comma) = and_then (first_refusal value) (first_refusal comma)

-- that of a record's own bytes
unfoldable pub own_refusal : Tree → Checked
own_refusal absent = no_refusal
own_refusal (refused refusal) = Err refusal
own_refusal (node place trivia tree) = no_refusal
own_refusal nil = no_refusal
own_refusal (cons item items) = no_refusal
own_refusal (Align tag value) = no_refusal
own_refusal (Assert tag value message) = no_refusal
own_refusal (Braces block) = no_refusal
own_refusal (Config block) = no_refusal
own_refusal (ConfigPair key eq value) = no_refusal
own_refusal (Data values size) = no_refusal
own_refusal (Definition tag id value) = no_refusal
own_refusal (Eof unit) = no_refusal
own_refusal (Error text) = no_refusal
own_refusal (Expression expression) = no_refusal
own_refusal (If tag_if value then tag_else otherwise) = no_refusal
own_refusal (Import tag args source filename block) = no_refusal
own_refusal (File tag filename) = no_refusal
own_refusal (Instruction mnemonic operand) = no_refusal
own_refusal (Label id colon block) = no_refusal
own_refusal (Loop tag expr block) = no_refusal
own_refusal (MacroDefinition tag id lparen args rparen block) = no_refusal
own_refusal (MacroInvocation id lparen args rparen) = no_refusal
own_refusal (ProgramCounterDefinition star eq value) = no_refusal
own_refusal (Segment tag id block) = no_refusal
own_refusal (Test tag id block) = no_refusal
own_refusal (Text tag encoding text) = no_refusal
own_refusal (Trace tag lparen args rparen) = no_refusal
own_refusal (VariableDefinition ty id eq value) = no_refusal
own_refusal (Vec items) = no_refusal
own_refusal (Leaf text) = no_refusal
own_refusal (PathItem text) = no_refusal
own_refusal (Block lparen inner rparen) = no_refusal
own_refusal (BinaryExpression op lhs rhs) = no_refusal
own_refusal (Factor factor tag_not tag_neg) = no_refusal
own_refusal (CurrentProgramCounter star) = no_refusal
own_refusal (ExprParens lparen inner rparen) = no_refusal
own_refusal (FunctionCall name lparen args rparen) = no_refusal
own_refusal (IdentifierValue path modifier) = no_refusal
own_refusal (Number ty value) = no_refusal
own_refusal (StringFactor string) = no_refusal
own_refusal (InterpolatedString lquote items) = no_refusal
own_refusal (Operand expr lchar rchar mode suffix) = no_refusal
own_refusal (RegisterSuffix comma register) = no_refusal
own_refusal (ImportAs tag path) = no_refusal
own_refusal (ImportAll star alias) = no_refusal
own_refusal (SpecificImportArg path alias) = no_refusal
own_refusal (ArgItem value comma) = no_refusal

-- the first on the way to a token's head, the head's own bytes included: a `Data` is read behind its values, a binary expression behind its operator
unfoldable pub head_refusal : Tree → Checked
head_refusal absent = no_refusal
head_refusal (refused refusal) = Err refusal
head_refusal (node place trivia tree) = head_refusal tree
head_refusal nil = no_refusal
head_refusal (cons item items) = no_refusal
head_refusal (Align tag value) = own_refusal tag
head_refusal (Assert tag value message) = own_refusal tag
head_refusal (Braces block) = head_refusal block
head_refusal (Config block) = head_refusal block
head_refusal (ConfigPair key eq value) = own_refusal key
head_refusal (Data values size) = and_then (first_refusal values) (own_refusal size)
head_refusal (Definition tag id value) = own_refusal tag
head_refusal (Eof unit) = own_refusal unit
head_refusal (Error text) = own_refusal text
head_refusal (Expression expression) = head_refusal expression
head_refusal (If tag_if value then tag_else otherwise) = own_refusal tag_if
head_refusal (Import tag args source filename block) = own_refusal tag
head_refusal (File tag filename) = own_refusal tag
head_refusal (Instruction mnemonic operand) = own_refusal mnemonic
head_refusal (Label id colon block) = own_refusal id
head_refusal (Loop tag expr block) = own_refusal tag
head_refusal (MacroDefinition tag id lparen args rparen block) = own_refusal tag
head_refusal (MacroInvocation id lparen args rparen) = own_refusal id
head_refusal (ProgramCounterDefinition star eq value) = own_refusal star
head_refusal (Segment tag id block) = own_refusal tag
head_refusal (Test tag id block) = own_refusal tag
head_refusal (Text tag encoding text) = own_refusal tag
head_refusal (Trace tag lparen args rparen) = own_refusal tag
head_refusal (VariableDefinition ty id eq value) = own_refusal ty
head_refusal (Vec items) = no_refusal
head_refusal (Leaf text) = no_refusal
head_refusal (PathItem text) = no_refusal
head_refusal (Block lparen inner rparen) = own_refusal lparen
head_refusal (BinaryExpression op lhs rhs) = and_then (first_refusal op) (own_refusal lhs)
head_refusal (Factor factor tag_not tag_neg) = own_refusal factor
head_refusal (CurrentProgramCounter star) = no_refusal
head_refusal (ExprParens lparen inner rparen) = no_refusal
head_refusal (FunctionCall name lparen args rparen) = no_refusal
head_refusal (IdentifierValue path modifier) = no_refusal
head_refusal (Number ty value) = no_refusal
head_refusal (StringFactor string) = no_refusal
head_refusal (InterpolatedString lquote items) = no_refusal
head_refusal (Operand expr lchar rchar mode suffix) = no_refusal
head_refusal (RegisterSuffix comma register) = no_refusal
head_refusal (ImportAs tag path) = no_refusal
head_refusal (ImportAll star alias) = no_refusal
head_refusal (SpecificImportArg path alias) = no_refusal
head_refusal (ArgItem value comma) = no_refusal
