-- Each kind has its printer; of the kinds that are plain the end alone is left, of which only the unit is skipped.
use Rattle.tree.specs.Tree.{built}
use Rattle.events.specs.Trees.{events_in}
use Rattle.leaves.specs.Records.{field_trees, fields_end}
use Rattle.leaves.proofs.Classes.{word_leaf}
use Rattle.tokens.proofs.PlainTokens.{end_left}
use Rattle.tokens.proofs.plain.format_plain_token.Goals as goal

pub returns-in-Align : goal.returns-in-Align
unfolding field_trees fields_end
returns-in-Align c among = rw c.in-Align.is c.format_tagged.ensures

pub returns-in-Data : goal.returns-in-Data
unfolding field_trees fields_end
returns-in-Data c among = rw c.in-Data.is c.format_data.ensures

pub returns-in-Error : goal.returns-in-Error
unfolding built field_trees fields_end events_in
returns-in-Error c among = rw c.in-Error.is (c.format_leaf.ensures.leaf word_leaf)

pub returns-in-Expression : goal.returns-in-Expression
unfolding built field_trees fields_end events_in
returns-in-Expression c among = rw c.in-Expression.is c.format_expression.ensures

pub returns-in-File : goal.returns-in-File
unfolding field_trees fields_end
returns-in-File c among = rw c.in-File.is c.format_file.ensures

pub returns-in-MacroInvocation : goal.returns-in-MacroInvocation
unfolding field_trees fields_end
returns-in-MacroInvocation c among = rw c.in-MacroInvocation.is c.format_macro_invocation.ensures

pub returns-in-ProgramCounterDefinition : goal.returns-in-ProgramCounterDefinition
unfolding field_trees fields_end
returns-in-ProgramCounterDefinition c among = rw c.in-ProgramCounterDefinition.is c.format_program_counter_definition.ensures

pub returns-in-VariableDefinition : goal.returns-in-VariableDefinition
unfolding field_trees fields_end
returns-in-VariableDefinition c among = rw c.in-VariableDefinition.is c.format_variable_definition.ensures

pub returns-in_default : goal.returns-in_default
unfolding built field_trees fields_end events_in
returns-in_default c among =
    let other = c.in_default in
    rw
    (end_left _ among other.not-Align other.not-Assert other.not-Data other.not-Error other.not-Expression other.not-File other.not-Instruction
    other.not-MacroInvocation other.not-ProgramCounterDefinition other.not-Text other.not-Trace other.not-VariableDefinition)
    c.skip.ensures
