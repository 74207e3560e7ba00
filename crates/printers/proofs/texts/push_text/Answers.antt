-- Each style's table is that of the definition; a text of no bytes is no push.
use mathlib.Core.Path.{refl}
use Rattle.text.specs.Literals.{ascii}
use Rattle.events.specs.Printed as style
use Rattle.events.specs.Printed.{printed, mnemonics, registers, operators, data_sizes, encodings, variable_types, number_types, modifiers}
use Rattle.printers.proofs.Pushing.{pushes_nothing}
use Rattle.printers.proofs.Tables.{prints_none, cased_goes, entry_goes, mnemonic_names, register_names, operator_texts, data_size_texts}
use Rattle.printers.proofs.Tables.{encoding_texts, variable_type_texts, number_type_texts, modifier_texts}
use Rattle.printers.proofs.texts.push_text.Goals as goal

pub returns-in_default : goal.returns-in_default
returns-in_default c = pushes_nothing (prints_none _ _ c.args.text.now c.in_default.ensures.value)

pub returns-in-Plain : goal.returns-in-Plain
unfolding printed
returns-in-Plain c = rw c.in-Plain.is c.push.ensures

pub returns-in-Mnemonic : goal.returns-in-Mnemonic
unfolding ascii printed mnemonics
returns-in-Mnemonic c =
    rw c.in-Mnemonic.is (cased_goes c.args.text.now style.mnemonic mnemonics c.in-Some.ensures.value mnemonic_names _ (λ rest. refl) c.push_cased.ensures)

pub returns-in-Register : goal.returns-in-Register
unfolding ascii printed registers
returns-in-Register c =
    rw c.in-Register.is (cased_goes c.args.text.now style.register registers c.in-Some.ensures.value register_names _ (λ rest. refl) c.push_cased-in-Register.ensures)

pub returns-in-Operator : goal.returns-in-Operator
unfolding ascii printed operators
returns-in-Operator c =
    rw c.in-Operator.is (entry_goes c.args.text.now style.operator operators c.in-Some.ensures.value operator_texts (λ context rest. refl) c.push_entry.ensures)

pub returns-in-DataSize : goal.returns-in-DataSize
unfolding ascii printed data_sizes
returns-in-DataSize c =
    rw c.in-DataSize.is (entry_goes c.args.text.now style.data_size data_sizes c.in-Some.ensures.value data_size_texts (λ context rest. refl) c.push_entry-in-DataSize.ensures)

pub returns-in-Encoding : goal.returns-in-Encoding
unfolding ascii printed encodings
returns-in-Encoding c =
    rw c.in-Encoding.is (entry_goes c.args.text.now style.encoding encodings c.in-Some.ensures.value encoding_texts (λ context rest. refl) c.push_entry-in-Encoding.ensures)

pub returns-in-VariableType : goal.returns-in-VariableType
unfolding ascii printed variable_types
returns-in-VariableType c =
    rw c.in-VariableType.is (entry_goes c.args.text.now style.variable_type variable_types c.in-Some.ensures.value variable_type_texts (λ context rest. refl) c.push_entry-in-VariableType.ensures)

pub returns-in-NumberType : goal.returns-in-NumberType
unfolding ascii printed number_types
returns-in-NumberType c =
    rw c.in-NumberType.is (entry_goes c.args.text.now style.number_type number_types c.in-Some.ensures.value number_type_texts (λ context rest. refl) c.push_entry-in-NumberType.ensures)

pub returns-in-Modifier : goal.returns-in-Modifier
unfolding ascii printed modifiers
returns-in-Modifier c =
    rw c.in-Modifier.is (entry_goes c.args.text.now style.modifier modifiers c.in-Some.ensures.value modifier_texts (λ context rest. refl) c.push_entry-in-Modifier.ensures)
