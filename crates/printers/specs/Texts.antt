-- The styles by the names of the definitions.
use Rattle.events.specs.Printed as printed
use Rattle.printers.specs.declared.texts.Style.{Style}
use Rattle.printers.specs.declared.texts.Style.TheVariants.{Plain, Mnemonic, Register, Operator, DataSize, Encoding, VariableType, NumberType, Modifier}

abbrev pub style_of : Style → printed.Style
style_of Plain = printed.plain
style_of Mnemonic = printed.mnemonic
style_of Register = printed.register
style_of Operator = printed.operator
style_of DataSize = printed.data_size
style_of Encoding = printed.encoding
style_of VariableType = printed.variable_type
style_of NumberType = printed.number_type
style_of Modifier = printed.modifier
