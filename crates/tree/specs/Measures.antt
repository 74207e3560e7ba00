-- Two measures of a tree: whether it holds a refusal, and how deep its blocks nest.
use Rattle.std.specs.Prelude.{ℕ, ◌+◌, max, Bool, true, false, ◌&&◌}
use Rattle.tree.specs.Tree.{Tree, absent, refused, node, nil, cons, Align, Assert, Braces, Config, ConfigPair, Data, Definition, Eof, Error}
use Rattle.tree.specs.Tree.{Expression, If, Import, File, Instruction, Label, Loop, MacroDefinition, MacroInvocation, ProgramCounterDefinition}
use Rattle.tree.specs.Tree.{Segment, Test, Text, Trace, VariableDefinition, Vec, Leaf, PathItem, Block, BinaryExpression, Factor}
use Rattle.tree.specs.Tree.{CurrentProgramCounter, ExprParens, FunctionCall, IdentifierValue, Number, StringFactor, InterpolatedString, Operand}
use Rattle.tree.specs.Tree.{RegisterSuffix, ImportAs, ImportAll, SpecificImportArg, ArgItem}

-- a tree that holds no refusal
unfoldable pub whole : Tree → Bool
whole absent = true
whole (refused refusal) = false
whole (node place trivia tree) = whole tree
whole nil = true
whole (cons item items) = whole item && whole items
whole (Align tag value) = whole tag && whole value
whole (Assert tag value failuremessage) = whole tag && (whole value && whole failuremessage)
whole (Braces block) = whole block
whole (Config block) = whole block
whole (ConfigPair key eq value) = whole key && (whole eq && whole value)
whole (Data values size) = whole values && whole size
whole (Definition tag id value) = whole tag && (whole id && whole value)
whole (Eof unit) = whole unit
whole (Error text) = whole text
whole (Expression expression) = whole expression
whole (If tag_if value then tag_else otherwise) = whole tag_if && (whole value && (whole then && (whole tag_else && whole otherwise)))
whole (Import tag args source filename block) = whole tag && (whole args && (whole source && (whole filename && whole block)))
whole (File tag filename) = whole tag && whole filename
whole (Instruction mnemonic operand) = whole mnemonic && whole operand
whole (Label id colon block) = whole id && (whole colon && whole block)
whole (Loop tag expr block) = whole tag && (whole expr && whole block)
whole (MacroDefinition tag id lparen args rparen block) = whole tag && (whole id && (whole lparen && (whole args && (whole rparen && whole block))))
whole (MacroInvocation id lparen args rparen) = whole id && (whole lparen && (whole args && whole rparen))
whole (ProgramCounterDefinition star eq value) = whole star && (whole eq && whole value)
whole (Segment tag id block) = whole tag && (whole id && whole block)
whole (Test tag id block) = whole tag && (whole id && whole block)
whole (Text tag encoding text) = whole tag && (whole encoding && whole text)
whole (Trace tag lparen args rparen) = whole tag && (whole lparen && (whole args && whole rparen))
whole (VariableDefinition ty id eq value) = whole ty && (whole id && (whole eq && whole value))
whole (Vec items) = whole items
whole (Leaf text) = true
whole (PathItem text) = true
whole (Block lparen inner rparen) = whole lparen && (whole inner && whole rparen)
whole (BinaryExpression op lhs rhs) = whole op && (whole lhs && whole rhs)
whole (Factor factor tagnot tagneg) = whole factor && (whole tagnot && whole tagneg)
whole (CurrentProgramCounter star) = whole star
whole (ExprParens lparen inner rparen) = whole lparen && (whole inner && whole rparen)
whole (FunctionCall name lparen args rparen) = whole name && (whole lparen && (whole args && whole rparen))
whole (IdentifierValue path modifier) = whole path && whole modifier
whole (Number ty value) = whole ty && whole value
whole (StringFactor string) = whole string
whole (InterpolatedString lquote items) = whole lquote && whole items
whole (Operand expr lchar rchar addressingmode suffix) = whole expr && (whole lchar && (whole rchar && (whole addressingmode && whole suffix)))
whole (RegisterSuffix comma register) = whole comma && whole register
whole (ImportAs tag path) = whole tag && whole path
whole (ImportAll star alias) = whole star && whole alias
whole (SpecificImportArg path alias) = whole path && whole alias
whole (ArgItem value comma) = whole value && whole comma

-- how many blocks stand in each other at the most
unfoldable pub nesting : Tree → ℕ
nesting absent = 0
nesting (refused refusal) = 0
nesting (node place trivia tree) = nesting tree
nesting nil = 0
nesting (cons item items) = max (nesting item) (nesting items)
nesting (Align tag value) = max (nesting tag) (nesting value)
nesting (Assert tag value failuremessage) = max (nesting tag) (max (nesting value) (nesting failuremessage))
nesting (Braces block) = nesting block
nesting (Config block) = nesting block
nesting (ConfigPair key eq value) = max (nesting key) (max (nesting eq) (nesting value))
nesting (Data values size) = max (nesting values) (nesting size)
nesting (Definition tag id value) = max (nesting tag) (max (nesting id) (nesting value))
nesting (Eof unit) = nesting unit
nesting (Error text) = nesting text
nesting (Expression expression) = nesting expression
nesting (If tag_if value then tag_else otherwise) = max (nesting tag_if) (max (nesting value) (max (nesting then) (max (nesting tag_else) (nesting otherwise))))
nesting (Import tag args source filename block) = max (nesting tag) (max (nesting args) (max (nesting source) (max (nesting filename) (nesting block))))
nesting (File tag filename) = max (nesting tag) (nesting filename)
nesting (Instruction mnemonic operand) = max (nesting mnemonic) (nesting operand)
nesting (Label id colon block) = max (nesting id) (max (nesting colon) (nesting block))
nesting (Loop tag expr block) = max (nesting tag) (max (nesting expr) (nesting block))
nesting (MacroDefinition tag id lparen args rparen block) = max (nesting tag) (max (nesting id) (max (nesting lparen) (max (nesting args) (max (nesting rparen) (nesting block)))))
nesting (MacroInvocation id lparen args rparen) = max (nesting id) (max (nesting lparen) (max (nesting args) (nesting rparen)))
nesting (ProgramCounterDefinition star eq value) = max (nesting star) (max (nesting eq) (nesting value))
nesting (Segment tag id block) = max (nesting tag) (max (nesting id) (nesting block))
nesting (Test tag id block) = max (nesting tag) (max (nesting id) (nesting block))
nesting (Text tag encoding text) = max (nesting tag) (max (nesting encoding) (nesting text))
nesting (Trace tag lparen args rparen) = max (nesting tag) (max (nesting lparen) (max (nesting args) (nesting rparen)))
nesting (VariableDefinition ty id eq value) = max (nesting ty) (max (nesting id) (max (nesting eq) (nesting value)))
nesting (Vec items) = nesting items
nesting (Leaf text) = 0
nesting (PathItem text) = 0
nesting (Block lparen inner rparen) = 1 + max (nesting lparen) (max (nesting inner) (nesting rparen))
nesting (BinaryExpression op lhs rhs) = max (nesting op) (max (nesting lhs) (nesting rhs))
nesting (Factor factor tagnot tagneg) = max (nesting factor) (max (nesting tagnot) (nesting tagneg))
nesting (CurrentProgramCounter star) = nesting star
nesting (ExprParens lparen inner rparen) = max (nesting lparen) (max (nesting inner) (nesting rparen))
nesting (FunctionCall name lparen args rparen) = max (nesting name) (max (nesting lparen) (max (nesting args) (nesting rparen)))
nesting (IdentifierValue path modifier) = max (nesting path) (nesting modifier)
nesting (Number ty value) = max (nesting ty) (nesting value)
nesting (StringFactor string) = nesting string
nesting (InterpolatedString lquote items) = max (nesting lquote) (nesting items)
nesting (Operand expr lchar rchar addressingmode suffix) = max (nesting expr) (max (nesting lchar) (max (nesting rchar) (max (nesting addressingmode) (nesting suffix))))
nesting (RegisterSuffix comma register) = max (nesting comma) (nesting register)
nesting (ImportAs tag path) = max (nesting tag) (nesting path)
nesting (ImportAll star alias) = max (nesting star) (nesting alias)
nesting (SpecificImportArg path alias) = max (nesting path) (nesting alias)
nesting (ArgItem value comma) = max (nesting value) (nesting comma)
