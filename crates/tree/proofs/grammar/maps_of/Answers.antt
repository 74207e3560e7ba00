-- Each arm's number passes the test of every map.
use mathlib.Core.Path.{refl}
use Rattle.tree.specs.Own.{fields_fit}
use Rattle.tree.proofs.Maps.{agree, tested, set_of}
use Rattle.tree.proofs.grammar.maps_of.Goals as goal

pub returns-in-Align : goal.returns-in-Align
unfolding tested agree fields_fit
returns-in-Align c = rw c.in-Align.is (λ value. set_of 8 _ refl)

pub returns-in-Assert : goal.returns-in-Assert
unfolding tested agree fields_fit
returns-in-Assert c = rw c.in-Assert.is (λ value. set_of 136 _ refl)

pub returns-in-Braces : goal.returns-in-Braces
unfolding tested agree fields_fit
returns-in-Braces c = rw c.in-Braces.is (λ value. set_of 2 _ refl)

pub returns-in-Config : goal.returns-in-Config
unfolding tested agree fields_fit
returns-in-Config c = rw c.in-Config.is (λ value. set_of 2 _ refl)

pub returns-in-ConfigPair : goal.returns-in-ConfigPair
unfolding tested agree fields_fit
returns-in-ConfigPair c = rw c.in-ConfigPair.is (λ value. set_of 128 _ refl)

pub returns-in-Data : goal.returns-in-Data
unfolding tested agree fields_fit
returns-in-Data c = rw c.in-Data.is (λ value. set_of 8 _ refl)

pub returns-in-Definition : goal.returns-in-Definition
unfolding tested agree fields_fit
returns-in-Definition c = rw c.in-Definition.is (λ value. set_of 136 _ refl)

pub returns-in-Eof : goal.returns-in-Eof
unfolding tested agree fields_fit
returns-in-Eof c = rw c.in-Eof.is (λ value. set_of 2 _ refl)

pub returns-in-Error : goal.returns-in-Error
unfolding tested agree fields_fit
returns-in-Error c = rw c.in-Error.is (λ value. set_of 2 _ refl)

pub returns-in-Expression : goal.returns-in-Expression
unfolding tested agree fields_fit
returns-in-Expression c = rw c.in-Expression.is (λ value. set_of 2 _ refl)

pub returns-in-If : goal.returns-in-If
unfolding tested agree fields_fit
returns-in-If c = rw c.in-If.is (λ value. set_of 2155905152 _ refl)

pub returns-in-Import : goal.returns-in-Import
unfolding tested agree fields_fit
returns-in-Import c = rw c.in-Import.is (λ value. set_of 2147516416 _ refl)

pub returns-in-File : goal.returns-in-File
unfolding tested agree fields_fit
returns-in-File c = rw c.in-File.is (λ value. set_of 8 _ refl)

pub returns-in-Instruction : goal.returns-in-Instruction
unfolding tested agree fields_fit
returns-in-Instruction c = rw c.in-Instruction.is (λ value. set_of 10 _ refl)

pub returns-in-Label : goal.returns-in-Label
unfolding tested agree fields_fit
returns-in-Label c = rw c.in-Label.is (λ value. set_of 136 _ refl)

pub returns-in-Loop : goal.returns-in-Loop
unfolding tested agree fields_fit
returns-in-Loop c = rw c.in-Loop.is (λ value. set_of 128 _ refl)

pub returns-in-MacroDefinition : goal.returns-in-MacroDefinition
unfolding tested agree fields_fit
returns-in-MacroDefinition c = rw c.in-MacroDefinition.is (λ value. set_of 9223372036854775808 _ refl)

pub returns-in-MacroInvocation : goal.returns-in-MacroInvocation
unfolding tested agree fields_fit
returns-in-MacroInvocation c = rw c.in-MacroInvocation.is (λ value. set_of 32768 _ refl)

pub returns-in-ProgramCounterDefinition : goal.returns-in-ProgramCounterDefinition
unfolding tested agree fields_fit
returns-in-ProgramCounterDefinition c = rw c.in-ProgramCounterDefinition.is (λ value. set_of 128 _ refl)

pub returns-in-Segment : goal.returns-in-Segment
unfolding tested agree fields_fit
returns-in-Segment c = rw c.in-Segment.is (λ value. set_of 136 _ refl)

pub returns-in-Test : goal.returns-in-Test
unfolding tested agree fields_fit
returns-in-Test c = rw c.in-Test.is (λ value. set_of 128 _ refl)

pub returns-in-Text : goal.returns-in-Text
unfolding tested agree fields_fit
returns-in-Text c = rw c.in-Text.is (λ value. set_of 160 _ refl)

pub returns-in-Trace : goal.returns-in-Trace
unfolding tested agree fields_fit
returns-in-Trace c = rw c.in-Trace.is (λ value. set_of 41120 _ refl)

pub returns-in-VariableDefinition : goal.returns-in-VariableDefinition
unfolding tested agree fields_fit
returns-in-VariableDefinition c = rw c.in-VariableDefinition.is (λ value. set_of 32768 _ refl)

pub returns-in-Vec : goal.returns-in-Vec
unfolding tested agree fields_fit
returns-in-Vec c = rw c.in-Vec.is (λ value. set_of 1 _ refl)

pub returns-in-Leaf : goal.returns-in-Leaf
unfolding tested agree fields_fit
returns-in-Leaf c = rw c.in-Leaf.is (λ value. set_of 1 _ refl)

pub returns-in-PathItem : goal.returns-in-PathItem
unfolding tested agree fields_fit
returns-in-PathItem c = rw c.in-PathItem.is (λ value. set_of 1 _ refl)

pub returns-in-Block : goal.returns-in-Block
unfolding tested agree fields_fit
returns-in-Block c = rw c.in-Block.is (λ value. set_of 128 _ refl)

pub returns-in-BinaryExpression : goal.returns-in-BinaryExpression
unfolding tested agree fields_fit
returns-in-BinaryExpression c = rw c.in-BinaryExpression.is (λ value. set_of 128 _ refl)

pub returns-in-Factor : goal.returns-in-Factor
unfolding tested agree fields_fit
returns-in-Factor c = rw c.in-Factor.is (λ value. set_of 170 _ refl)

pub returns-in-CurrentProgramCounter : goal.returns-in-CurrentProgramCounter
unfolding tested agree fields_fit
returns-in-CurrentProgramCounter c = rw c.in-CurrentProgramCounter.is (λ value. set_of 2 _ refl)

pub returns-in-ExprParens : goal.returns-in-ExprParens
unfolding tested agree fields_fit
returns-in-ExprParens c = rw c.in-ExprParens.is (λ value. set_of 128 _ refl)

pub returns-in-FunctionCall : goal.returns-in-FunctionCall
unfolding tested agree fields_fit
returns-in-FunctionCall c = rw c.in-FunctionCall.is (λ value. set_of 32768 _ refl)

pub returns-in-IdentifierValue : goal.returns-in-IdentifierValue
unfolding tested agree fields_fit
returns-in-IdentifierValue c = rw c.in-IdentifierValue.is (λ value. set_of 10 _ refl)

pub returns-in-Number : goal.returns-in-Number
unfolding tested agree fields_fit
returns-in-Number c = rw c.in-Number.is (λ value. set_of 8 _ refl)

pub returns-in-StringFactor : goal.returns-in-StringFactor
unfolding tested agree fields_fit
returns-in-StringFactor c = rw c.in-StringFactor.is (λ value. set_of 2 _ refl)

pub returns-in-InterpolatedString : goal.returns-in-InterpolatedString
unfolding tested agree fields_fit
returns-in-InterpolatedString c = rw c.in-InterpolatedString.is (λ value. set_of 8 _ refl)

pub returns-in-Operand : goal.returns-in-Operand
unfolding tested agree fields_fit
returns-in-Operand c = rw c.in-Operand.is (λ value. set_of 2852170240 _ refl)

pub returns-in-RegisterSuffix : goal.returns-in-RegisterSuffix
unfolding tested agree fields_fit
returns-in-RegisterSuffix c = rw c.in-RegisterSuffix.is (λ value. set_of 8 _ refl)

pub returns-in-ImportAs : goal.returns-in-ImportAs
unfolding tested agree fields_fit
returns-in-ImportAs c = rw c.in-ImportAs.is (λ value. set_of 8 _ refl)

pub returns-in-ImportAll : goal.returns-in-ImportAll
unfolding tested agree fields_fit
returns-in-ImportAll c = rw c.in-ImportAll.is (λ value. set_of 10 _ refl)

pub returns-in-SpecificImportArg : goal.returns-in-SpecificImportArg
unfolding tested agree fields_fit
returns-in-SpecificImportArg c = rw c.in-SpecificImportArg.is (λ value. set_of 10 _ refl)

pub returns-in-ArgItem : goal.returns-in-ArgItem
unfolding tested agree fields_fit
returns-in-ArgItem c = rw c.in-ArgItem.is (λ value. set_of 10 _ refl)
