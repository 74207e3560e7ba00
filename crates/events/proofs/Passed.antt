-- A tree without refusal has none on the way to its head.
use mathlib.Core.Path.{◌≡◌, refl}
use Rattle.answers.specs.Numbers.{no_refusal, and_then}
use Rattle.answers.proofs.Cases.{failed_passed}
use Rattle.tree.specs.Tree.{Tree, absent, refused, node, nil, cons, Align, Assert, Braces, Config, ConfigPair, Data, Definition, Eof, Error}
use Rattle.tree.specs.Tree.{Expression, If, Import, File, Instruction, Label, Loop, MacroDefinition, MacroInvocation, ProgramCounterDefinition}
use Rattle.tree.specs.Tree.{Segment, Test, Text, Trace, VariableDefinition, Vec, Leaf, PathItem, Block, BinaryExpression, Factor}
use Rattle.tree.specs.Tree.{CurrentProgramCounter, ExprParens, FunctionCall, IdentifierValue, Number, StringFactor, InterpolatedString, Operand}
use Rattle.tree.specs.Tree.{RegisterSuffix, ImportAs, ImportAll, SpecificImportArg, ArgItem}
use Rattle.tree.proofs.Cases.{both_passed}
use Rattle.events.specs.Refusals.{first_refusal, own_refusal, head_refusal}

-- its own bytes were read
pub own_passed : (tree : Tree) → first_refusal tree ≡ no_refusal → own_refusal tree ≡ no_refusal
unfolding first_refusal own_refusal
own_passed absent passed = refl
own_passed (refused refusal) passed = failed_passed passed
own_passed (node place trivia tree) passed = refl
own_passed nil passed = refl
own_passed (cons item items) passed = refl
own_passed (Align tag value) passed = refl
own_passed (Assert tag value message) passed = refl
own_passed (Braces block) passed = refl
own_passed (Config block) passed = refl
own_passed (ConfigPair key eq value) passed = refl
own_passed (Data values size) passed = refl
own_passed (Definition tag id value) passed = refl
own_passed (Eof unit) passed = refl
own_passed (Error text) passed = refl
own_passed (Expression expression) passed = refl
own_passed (If tag_if value then tag_else otherwise) passed = refl
own_passed (Import tag args source filename block) passed = refl
own_passed (File tag filename) passed = refl
own_passed (Instruction mnemonic operand) passed = refl
own_passed (Label id colon block) passed = refl
own_passed (Loop tag expr block) passed = refl
own_passed (MacroDefinition tag id lparen args rparen block) passed = refl
own_passed (MacroInvocation id lparen args rparen) passed = refl
own_passed (ProgramCounterDefinition star eq value) passed = refl
own_passed (Segment tag id block) passed = refl
own_passed (Test tag id block) passed = refl
own_passed (Text tag encoding text) passed = refl
own_passed (Trace tag lparen args rparen) passed = refl
own_passed (VariableDefinition ty id eq value) passed = refl
own_passed (Vec items) passed = refl
own_passed (Leaf text) passed = refl
own_passed (PathItem text) passed = refl
own_passed (Block lparen inner rparen) passed = refl
own_passed (BinaryExpression op lhs rhs) passed = refl
own_passed (Factor factor tag_not tag_neg) passed = refl
own_passed (CurrentProgramCounter star) passed = refl
own_passed (ExprParens lparen inner rparen) passed = refl
own_passed (FunctionCall name lparen args rparen) passed = refl
own_passed (IdentifierValue path modifier) passed = refl
own_passed (Number ty value) passed = refl
own_passed (StringFactor string) passed = refl
own_passed (InterpolatedString lquote items) passed = refl
own_passed (Operand expr lchar rchar mode suffix) passed = refl
own_passed (RegisterSuffix comma register) passed = refl
own_passed (ImportAs tag path) passed = refl
own_passed (ImportAll star alias) passed = refl
own_passed (SpecificImportArg path alias) passed = refl
own_passed (ArgItem value comma) passed = refl

-- and so were its head's
pub head_passed : (tree : Tree) → first_refusal tree ≡ no_refusal → head_refusal tree ≡ no_refusal
unfolding first_refusal head_refusal
head_passed absent passed = refl
head_passed (refused refusal) passed = failed_passed passed
head_passed (node place trivia tree) passed = head_passed tree passed
head_passed nil passed = refl
head_passed (cons item items) passed = refl
head_passed (Align tag value) passed = own_passed tag (both_passed (first_refusal tag) _ passed).0
head_passed (Assert tag value message) passed = own_passed tag (both_passed (first_refusal tag) _ passed).0
head_passed (Braces block) passed = head_passed block passed
head_passed (Config block) passed = head_passed block passed
head_passed (ConfigPair key eq value) passed = own_passed key (both_passed (first_refusal key) _ passed).0
head_passed (Data values size) passed = let both = both_passed (first_refusal values) (first_refusal size) passed in rw both.0 (own_passed size both.1)
head_passed (Definition tag id value) passed = own_passed tag (both_passed (first_refusal tag) _ passed).0
head_passed (Eof unit) passed = own_passed unit passed
head_passed (Error text) passed = own_passed text passed
head_passed (Expression expression) passed = head_passed expression passed
head_passed (If tag_if value then tag_else otherwise) passed = own_passed tag_if (both_passed (first_refusal tag_if) _ passed).0
head_passed (Import tag args source filename block) passed = own_passed tag (both_passed (first_refusal tag) _ passed).0
head_passed (File tag filename) passed = own_passed tag (both_passed (first_refusal tag) _ passed).0
head_passed (Instruction mnemonic operand) passed = own_passed mnemonic (both_passed (first_refusal mnemonic) _ passed).0
head_passed (Label id colon block) passed = own_passed id (both_passed (first_refusal id) _ passed).0
head_passed (Loop tag expr block) passed = own_passed tag (both_passed (first_refusal tag) _ passed).0
head_passed (MacroDefinition tag id lparen args rparen block) passed = own_passed tag (both_passed (first_refusal tag) _ passed).0
head_passed (MacroInvocation id lparen args rparen) passed = own_passed id (both_passed (first_refusal id) _ passed).0
head_passed (ProgramCounterDefinition star eq value) passed = own_passed star (both_passed (first_refusal star) _ passed).0
head_passed (Segment tag id block) passed = own_passed tag (both_passed (first_refusal tag) _ passed).0
head_passed (Test tag id block) passed = own_passed tag (both_passed (first_refusal tag) _ passed).0
head_passed (Text tag encoding text) passed = own_passed tag (both_passed (first_refusal tag) _ passed).0
head_passed (Trace tag lparen args rparen) passed = own_passed tag (both_passed (first_refusal tag) _ passed).0
head_passed (VariableDefinition ty id eq value) passed = own_passed ty (both_passed (first_refusal ty) _ passed).0
head_passed (Vec items) passed = refl
head_passed (Leaf text) passed = refl
head_passed (PathItem text) passed = refl
head_passed (Block lparen inner rparen) passed = own_passed lparen (both_passed (first_refusal lparen) _ passed).0
head_passed (BinaryExpression op lhs rhs) passed =
    let both = both_passed (first_refusal op) (and_then (first_refusal lhs) (first_refusal rhs)) passed in
    rw both.0 (own_passed lhs (both_passed (first_refusal lhs) _ both.1).0)
head_passed (Factor factor tag_not tag_neg) passed = own_passed factor (both_passed (first_refusal factor) _ passed).0
head_passed (CurrentProgramCounter star) passed = refl
head_passed (ExprParens lparen inner rparen) passed = refl
head_passed (FunctionCall name lparen args rparen) passed = refl
head_passed (IdentifierValue path modifier) passed = refl
head_passed (Number ty value) passed = refl
head_passed (StringFactor string) passed = refl
head_passed (InterpolatedString lquote items) passed = refl
head_passed (Operand expr lchar rchar mode suffix) passed = refl
head_passed (RegisterSuffix comma register) passed = refl
head_passed (ImportAs tag path) passed = refl
head_passed (ImportAll star alias) passed = refl
head_passed (SpecificImportArg path alias) passed = refl
head_passed (ArgItem value comma) passed = refl
