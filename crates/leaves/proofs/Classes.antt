-- The classes of which every record is a leaf.
use mathlib.Core.Path.{refl}
use mathlib.Core.Bool.{true, false}
use Rattle.tree.specs.declared.grammar.TextRule.TheVariants.{NoText, Free, Byte}
use Rattle.tree.specs.declared.grammar.Class.TheVariants as class
use Rattle.leaves.specs.Leaves.{LeafClass}

pub word_leaf : LeafClass class.Word
word_leaf = (true, Free, refl)

pub char_leaf : LeafClass class.Char
char_leaf = (true, Byte 0 255, refl)

pub open_brace_leaf : LeafClass class.OpenBrace
open_brace_leaf = (true, Byte 123 123, refl)

pub close_brace_leaf : LeafClass class.CloseBrace
close_brace_leaf = (true, Byte 125 125, refl)

pub colon_leaf : LeafClass class.Colon
colon_leaf = (true, Byte 58 58, refl)

pub unit_leaf : LeafClass class.Unit
unit_leaf = (true, NoText, refl)

pub mnemonic_leaf : LeafClass class.Mnemonic
mnemonic_leaf = (true, Byte 0 55, refl)

pub index_register_leaf : LeafClass class.IndexRegister
index_register_leaf = (true, Byte 0 1, refl)

pub address_modifier_leaf : LeafClass class.AddressModifier
address_modifier_leaf = (true, Byte 0 1, refl)

pub variable_type_leaf : LeafClass class.VariableType
variable_type_leaf = (true, Byte 0 1, refl)

pub number_type_leaf : LeafClass class.NumberType
number_type_leaf = (true, Byte 0 2, refl)

pub data_size_leaf : LeafClass class.DataSize
data_size_leaf = (true, Byte 0 2, refl)

pub binary_op_leaf : LeafClass class.BinaryOp
binary_op_leaf = (true, Byte 0 15, refl)

pub text_encoding_leaf : LeafClass class.TextEncoding
text_encoding_leaf = (true, Byte 0 3, refl)

pub addressing_mode_leaf : LeafClass class.AddressingMode
addressing_mode_leaf = (false, Byte 0 4, refl)
