-- Each arm's number is the row of its kind's fields; an argument's is put together from the number of its value's class.
use native.Mathlib.Omega.{arith}
use Rattle.tree.proofs.grammar.row_of.Goals as goal

pub returns-in-Align : goal.returns-in-Align
returns-in-Align c = rw c.in-Align.is

pub returns-in-Assert : goal.returns-in-Assert
returns-in-Assert c = rw c.in-Assert.is

pub returns-in-Braces : goal.returns-in-Braces
returns-in-Braces c = rw c.in-Braces.is

pub returns-in-Config : goal.returns-in-Config
returns-in-Config c = rw c.in-Config.is

pub returns-in-ConfigPair : goal.returns-in-ConfigPair
returns-in-ConfigPair c = rw c.in-ConfigPair.is

pub returns-in-Data : goal.returns-in-Data
returns-in-Data c = rw c.in-Data.is

pub returns-in-Definition : goal.returns-in-Definition
returns-in-Definition c = rw c.in-Definition.is

pub returns-in-Eof : goal.returns-in-Eof
returns-in-Eof c = rw c.in-Eof.is

pub returns-in-Error : goal.returns-in-Error
returns-in-Error c = rw c.in-Error.is

pub returns-in-Expression : goal.returns-in-Expression
returns-in-Expression c = rw c.in-Expression.is

pub returns-in-If : goal.returns-in-If
returns-in-If c = rw c.in-If.is

pub returns-in-Import : goal.returns-in-Import
returns-in-Import c = rw c.in-Import.is

pub returns-in-File : goal.returns-in-File
returns-in-File c = rw c.in-File.is

pub returns-in-Instruction : goal.returns-in-Instruction
returns-in-Instruction c = rw c.in-Instruction.is

pub returns-in-Label : goal.returns-in-Label
returns-in-Label c = rw c.in-Label.is

pub returns-in-Loop : goal.returns-in-Loop
returns-in-Loop c = rw c.in-Loop.is

pub returns-in-MacroDefinition : goal.returns-in-MacroDefinition
returns-in-MacroDefinition c = rw c.in-MacroDefinition.is

pub returns-in-MacroInvocation : goal.returns-in-MacroInvocation
returns-in-MacroInvocation c = rw c.in-MacroInvocation.is

pub returns-in-ProgramCounterDefinition : goal.returns-in-ProgramCounterDefinition
returns-in-ProgramCounterDefinition c = rw c.in-ProgramCounterDefinition.is

pub returns-in-Segment : goal.returns-in-Segment
returns-in-Segment c = rw c.in-Segment.is

pub returns-in-Test : goal.returns-in-Test
returns-in-Test c = rw c.in-Test.is

pub returns-in-Text : goal.returns-in-Text
returns-in-Text c = rw c.in-Text.is

pub returns-in-Trace : goal.returns-in-Trace
returns-in-Trace c = rw c.in-Trace.is

pub returns-in-VariableDefinition : goal.returns-in-VariableDefinition
returns-in-VariableDefinition c = rw c.in-VariableDefinition.is

pub returns-in-Vec : goal.returns-in-Vec
returns-in-Vec c = rw c.in-Vec.is

pub returns-in-Leaf : goal.returns-in-Leaf
returns-in-Leaf c = rw c.in-Leaf.is

pub returns-in-PathItem : goal.returns-in-PathItem
returns-in-PathItem c = rw c.in-PathItem.is

pub returns-in-Block : goal.returns-in-Block
returns-in-Block c = rw c.in-Block.is

pub returns-in-BinaryExpression : goal.returns-in-BinaryExpression
returns-in-BinaryExpression c = rw c.in-BinaryExpression.is

pub returns-in-Factor : goal.returns-in-Factor
returns-in-Factor c = rw c.in-Factor.is

pub returns-in-CurrentProgramCounter : goal.returns-in-CurrentProgramCounter
returns-in-CurrentProgramCounter c = rw c.in-CurrentProgramCounter.is

pub returns-in-ExprParens : goal.returns-in-ExprParens
returns-in-ExprParens c = rw c.in-ExprParens.is

pub returns-in-FunctionCall : goal.returns-in-FunctionCall
returns-in-FunctionCall c = rw c.in-FunctionCall.is

pub returns-in-IdentifierValue : goal.returns-in-IdentifierValue
returns-in-IdentifierValue c = rw c.in-IdentifierValue.is

pub returns-in-Number : goal.returns-in-Number
returns-in-Number c = rw c.in-Number.is

pub returns-in-StringFactor : goal.returns-in-StringFactor
returns-in-StringFactor c = rw c.in-StringFactor.is

pub returns-in-InterpolatedString : goal.returns-in-InterpolatedString
returns-in-InterpolatedString c = rw c.in-InterpolatedString.is

pub returns-in-Operand : goal.returns-in-Operand
returns-in-Operand c = rw c.in-Operand.is

pub returns-in-RegisterSuffix : goal.returns-in-RegisterSuffix
returns-in-RegisterSuffix c = rw c.in-RegisterSuffix.is

pub returns-in-ImportAs : goal.returns-in-ImportAs
returns-in-ImportAs c = rw c.in-ImportAs.is

pub returns-in-ImportAll : goal.returns-in-ImportAll
returns-in-ImportAll c = rw c.in-ImportAll.is

pub returns-in-SpecificImportArg : goal.returns-in-SpecificImportArg
returns-in-SpecificImportArg c = rw c.in-SpecificImportArg.is

pub returns-in-ArgItem : goal.returns-in-ArgItem
returns-in-ArgItem c = rw (c.in-ArgItem.is, c.number.ensures.0) (omega arith)
