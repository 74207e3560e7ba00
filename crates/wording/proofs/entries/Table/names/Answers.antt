-- Each table is what is told of its enum.
use mathlib.Core.Path.{refl}
use Rattle.text.specs.Literals.{ascii}
use Rattle.options.specs.Casings.{cased}
use Rattle.events.specs.Printed.{mnemonics, registers, modifiers, variable_types}
use Rattle.events.specs.Printed.{number_types, data_sizes, operators, encodings}
use Rattle.wording.proofs.entries.Table.names.Goals as goal

pub returns-in-Mnemonics : goal.returns-in-Mnemonics
unfolding ascii cased mnemonics
returns-in-Mnemonics c = rw c.in-Mnemonics.is refl

pub returns-in-Registers : goal.returns-in-Registers
unfolding ascii cased registers
returns-in-Registers c = rw c.in-Registers.is refl

pub returns-in-Modifiers : goal.returns-in-Modifiers
unfolding ascii cased modifiers
returns-in-Modifiers c = rw c.in-Modifiers.is refl

pub returns-in-VariableTypes : goal.returns-in-VariableTypes
unfolding ascii cased variable_types
returns-in-VariableTypes c = rw c.in-VariableTypes.is refl

pub returns-in-NumberTypes : goal.returns-in-NumberTypes
unfolding ascii cased number_types
returns-in-NumberTypes c = rw c.in-NumberTypes.is refl

pub returns-in-DataSizes : goal.returns-in-DataSizes
unfolding ascii cased data_sizes
returns-in-DataSizes c = rw c.in-DataSizes.is refl

pub returns-in-Operators : goal.returns-in-Operators
unfolding ascii cased operators
returns-in-Operators c = rw c.in-Operators.is refl

pub returns-in-Encodings : goal.returns-in-Encodings
unfolding ascii cased encodings
returns-in-Encodings c = rw c.in-Encodings.is refl

pub returns-in-Modes : goal.returns-in-Modes
unfolding ascii
returns-in-Modes c = rw c.in-Modes.is refl
