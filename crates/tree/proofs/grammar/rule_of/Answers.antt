-- Each arm is the rule that the grammar has for its class.
use mathlib.Core.Path.{◌∙◌}
use Rattle.tree.proofs.grammar.rule_of.Goals as goal

pub returns-in-Word : goal.returns-in-Word
returns-in-Word c = c.leaf.ensures ∙ rw c.in-Word.is

pub returns-in-Char : goal.returns-in-Char
returns-in-Char c = c.leaf-in-Char.ensures ∙ rw c.in-Char.is

pub returns-in-OpenBrace : goal.returns-in-OpenBrace
returns-in-OpenBrace c = c.leaf-in-OpenBrace.ensures ∙ rw c.in-OpenBrace.is

pub returns-in-CloseBrace : goal.returns-in-CloseBrace
returns-in-CloseBrace c = c.leaf-in-CloseBrace.ensures ∙ rw c.in-CloseBrace.is

pub returns-in-Colon : goal.returns-in-Colon
returns-in-Colon c = c.leaf-in-Colon.ensures ∙ rw c.in-Colon.is

pub returns-in-Unit : goal.returns-in-Unit
returns-in-Unit c = c.leaf-in-Unit.ensures ∙ rw c.in-Unit.is

pub returns-in-Mnemonic : goal.returns-in-Mnemonic
returns-in-Mnemonic c = c.leaf-in-Mnemonic.ensures ∙ rw c.in-Mnemonic.is

pub returns-in-IndexRegister : goal.returns-in-IndexRegister
returns-in-IndexRegister c = c.leaf-in-IndexRegister.ensures ∙ rw c.in-IndexRegister.is

pub returns-in-AddressModifier : goal.returns-in-AddressModifier
returns-in-AddressModifier c = c.leaf-in-AddressModifier.ensures ∙ rw c.in-AddressModifier.is

pub returns-in-VariableType : goal.returns-in-VariableType
returns-in-VariableType c = c.leaf-in-VariableType.ensures ∙ rw c.in-VariableType.is

pub returns-in-NumberType : goal.returns-in-NumberType
returns-in-NumberType c = c.leaf-in-NumberType.ensures ∙ rw c.in-NumberType.is

pub returns-in-DataSize : goal.returns-in-DataSize
returns-in-DataSize c = c.leaf-in-DataSize.ensures ∙ rw c.in-DataSize.is

pub returns-in-BinaryOp : goal.returns-in-BinaryOp
returns-in-BinaryOp c = c.leaf-in-BinaryOp.ensures ∙ rw c.in-BinaryOp.is

pub returns-in-TextEncoding : goal.returns-in-TextEncoding
returns-in-TextEncoding c = c.leaf-in-TextEncoding.ensures ∙ rw c.in-TextEncoding.is

pub returns-in-AddressingMode : goal.returns-in-AddressingMode
returns-in-AddressingMode c = c.leaf-in-AddressingMode.ensures ∙ rw c.in-AddressingMode.is

pub returns-in-StringItem : goal.returns-in-StringItem
returns-in-StringItem c = rw (c.in-StringItem.is, c.leaf-in-StringItem.ensures)

pub returns-in-LocatedExpression : goal.returns-in-LocatedExpression
returns-in-LocatedExpression c = c.nodes.ensures ∙ rw c.in-LocatedExpression.is

pub returns-in-BareExpression : goal.returns-in-BareExpression
returns-in-BareExpression c = c.nodes-in-BareExpression.ensures ∙ rw c.in-BareExpression.is

pub returns-in-LocatedFactor : goal.returns-in-LocatedFactor
returns-in-LocatedFactor c = c.nodes-in-LocatedFactor.ensures ∙ rw c.in-LocatedFactor.is

pub returns-in-BareToken : goal.returns-in-BareToken
returns-in-BareToken c = c.nodes-in-BareToken.ensures ∙ rw c.in-BareToken.is

pub returns-in-LocatedToken : goal.returns-in-LocatedToken
returns-in-LocatedToken c = c.nodes-in-LocatedToken.ensures ∙ rw c.in-LocatedToken.is

pub returns-in-BlockRecord : goal.returns-in-BlockRecord
returns-in-BlockRecord c = c.nodes-in-BlockRecord.ensures ∙ rw c.in-BlockRecord.is

pub returns-in-StringRecord : goal.returns-in-StringRecord
returns-in-StringRecord c = c.nodes-in-StringRecord.ensures ∙ rw c.in-StringRecord.is

pub returns-in-OperandRecord : goal.returns-in-OperandRecord
returns-in-OperandRecord c = c.nodes-in-OperandRecord.ensures ∙ rw c.in-OperandRecord.is

pub returns-in-SuffixRecord : goal.returns-in-SuffixRecord
returns-in-SuffixRecord c = c.nodes-in-SuffixRecord.ensures ∙ rw c.in-SuffixRecord.is

pub returns-in-AsRecord : goal.returns-in-AsRecord
returns-in-AsRecord c = c.nodes-in-AsRecord.ensures ∙ rw c.in-AsRecord.is

pub returns-in-ImportArguments : goal.returns-in-ImportArguments
returns-in-ImportArguments c = rw (c.in-ImportArguments.is, c.nodes-in-ImportArguments.ensures)

pub returns-in-ImportPath : goal.returns-in-ImportPath
returns-in-ImportPath c = c.nodes-in-ImportPath.ensures ∙ rw c.in-ImportPath.is

pub returns-in-ExpressionArgument : goal.returns-in-ExpressionArgument
returns-in-ExpressionArgument c = c.argument.ensures ∙ rw c.in-ExpressionArgument.is

pub returns-in-IdentifierArgument : goal.returns-in-IdentifierArgument
returns-in-IdentifierArgument c = c.argument-in-IdentifierArgument.ensures ∙ rw c.in-IdentifierArgument.is

pub returns-in-ImportArgument : goal.returns-in-ImportArgument
returns-in-ImportArgument c = c.argument-in-ImportArgument.ensures ∙ rw c.in-ImportArgument.is

pub returns-in-Tokens : goal.returns-in-Tokens
returns-in-Tokens c = c.list_of.ensures ∙ rw c.in-Tokens.is

pub returns-in-ExpressionArguments : goal.returns-in-ExpressionArguments
returns-in-ExpressionArguments c = c.list_of-in-ExpressionArguments.ensures ∙ rw c.in-ExpressionArguments.is

pub returns-in-IdentifierArguments : goal.returns-in-IdentifierArguments
returns-in-IdentifierArguments c = c.list_of-in-IdentifierArguments.ensures ∙ rw c.in-IdentifierArguments.is

pub returns-in-StringItems : goal.returns-in-StringItems
returns-in-StringItems c = c.list_of-in-StringItems.ensures ∙ rw c.in-StringItems.is
