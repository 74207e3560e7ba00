-- The grammar of a stored tree: document 01, "Tree", held against ast.rs. A line for each class says what may stand in a field of that Rust type; a line for
-- each kind says which fields a record of it has, in declared order.
use Rattle.std.specs.Prelude.{ℕ, List, [], ◌∷◌, map, Bool, true, false, get_or, Option, Some, None}
use Rattle.text.specs.Characters as characters
use Rattle.tree.specs.Kinds as kinds
use Rattle.tree.specs.declared.grammar.Kind.{Kind}
use Rattle.tree.specs.declared.grammar.Kind.TheVariants as kind
use Rattle.tree.specs.declared.grammar.Class.{Class}
use Rattle.tree.specs.declared.grammar.Class.TheVariants.{Word, Char, OpenBrace, CloseBrace, Colon, Unit, Mnemonic, IndexRegister}
use Rattle.tree.specs.declared.grammar.Class.TheVariants.{AddressModifier, VariableType, NumberType, DataSize, BinaryOp, TextEncoding}
use Rattle.tree.specs.declared.grammar.Class.TheVariants.{AddressingMode, StringItem, LocatedExpression, BareExpression, LocatedFactor}
use Rattle.tree.specs.declared.grammar.Class.TheVariants.{BareToken, LocatedToken, BlockRecord, StringRecord, OperandRecord, SuffixRecord}
use Rattle.tree.specs.declared.grammar.Class.TheVariants.{AsRecord, ImportArguments, ImportPath, ExpressionArgument, IdentifierArgument}
use Rattle.tree.specs.declared.grammar.Class.TheVariants.{ImportArgument, Tokens, ExpressionArguments, IdentifierArguments, StringItems}
use Rattle.tree.specs.declared.grammar.TextRule.{TextRule}
use Rattle.tree.specs.declared.grammar.TextRule.TheVariants.{NoText, Free, Byte}
use Rattle.tree.specs.declared.grammar.Rule.{Rule}

-- ---- the kinds by their numbers

-- "Kinds 0 to 23 are the `Token` cases in declared order ...; 24 list ...; 25 leaf; 26 path item of a string; 27 `Block`; ... 42 an `ArgItem`"
abbrev pub all_kinds : List Kind
all_kinds =
    kind.Align ∷ kind.Assert ∷ kind.Braces ∷ kind.Config ∷ kind.ConfigPair ∷ kind.Data ∷
    kind.Definition ∷ kind.Eof ∷ kind.Error ∷ kind.Expression ∷ kind.If ∷ kind.Import ∷
    kind.File ∷ kind.Instruction ∷ kind.Label ∷ kind.Loop ∷ kind.MacroDefinition ∷ kind.MacroInvocation ∷
    kind.ProgramCounterDefinition ∷ kind.Segment ∷ kind.Test ∷ kind.Text ∷ kind.Trace ∷ kind.VariableDefinition ∷
    kind.Vec ∷ kind.Leaf ∷ kind.PathItem ∷ kind.Block ∷ kind.BinaryExpression ∷ kind.Factor ∷
    kind.CurrentProgramCounter ∷ kind.ExprParens ∷ kind.FunctionCall ∷ kind.IdentifierValue ∷ kind.Number ∷ kind.StringFactor ∷
    kind.InterpolatedString ∷ kind.Operand ∷ kind.RegisterSuffix ∷ kind.ImportAs ∷ kind.ImportAll ∷ kind.SpecificImportArg ∷
    kind.ArgItem ∷ []

abbrev pub kind_of : ℕ → Option Kind
kind_of byte = get_or (map Some all_kinds) byte None

-- and the byte of a kind
abbrev pub kind_number : Kind → ℕ
kind_number kind.Align = kinds.align
kind_number kind.Assert = kinds.assert
kind_number kind.Braces = kinds.braces
kind_number kind.Config = kinds.config
kind_number kind.ConfigPair = kinds.config_pair
kind_number kind.Data = kinds.«data»
kind_number kind.Definition = kinds.definition
kind_number kind.Eof = kinds.eof
kind_number kind.Error = kinds.error
kind_number kind.Expression = kinds.expression
kind_number kind.If = kinds.if
kind_number kind.Import = kinds.import
kind_number kind.File = kinds.file
kind_number kind.Instruction = kinds.instruction
kind_number kind.Label = kinds.label
kind_number kind.Loop = kinds.loop
kind_number kind.MacroDefinition = kinds.macro_definition
kind_number kind.MacroInvocation = kinds.macro_invocation
kind_number kind.ProgramCounterDefinition = kinds.program_counter_definition
kind_number kind.Segment = kinds.segment
kind_number kind.Test = kinds.test
kind_number kind.Text = kinds.text
kind_number kind.Trace = kinds.trace
kind_number kind.VariableDefinition = kinds.variable_definition
kind_number kind.Vec = kinds.vec
kind_number kind.Leaf = kinds.leaf
kind_number kind.PathItem = kinds.path_item
kind_number kind.Block = kinds.block
kind_number kind.BinaryExpression = kinds.binary_expression
kind_number kind.Factor = kinds.factor
kind_number kind.CurrentProgramCounter = kinds.current_program_counter
kind_number kind.ExprParens = kinds.expr_parens
kind_number kind.FunctionCall = kinds.function_call
kind_number kind.IdentifierValue = kinds.identifier_value
kind_number kind.Number = kinds.number
kind_number kind.StringFactor = kinds.string_factor
kind_number kind.InterpolatedString = kinds.interpolated_string
kind_number kind.Operand = kinds.operand
kind_number kind.RegisterSuffix = kinds.register_suffix
kind_number kind.ImportAs = kinds.import_as
kind_number kind.ImportAll = kinds.import_all
kind_number kind.SpecificImportArg = kinds.specific_import_arg
kind_number kind.ArgItem = kinds.arg_item

-- ---- the classes

-- "Bit 0 may stand only where the Rust has a `Located`"
abbrev pub located : Bool
located = true

abbrev pub bare : Bool
bare = false

abbrev pub leaf : Bool → TextRule → Rule
leaf trivia text = record { first = kind.Leaf; last = kind.Leaf; located = trivia; text = text; items = None; value = LocatedExpression }

abbrev pub nodes : Kind → Kind → Bool → Rule
nodes first last trivia = record { first = first; last = last; located = trivia; text = NoText; items = None; value = LocatedExpression }

abbrev pub list_of : Class → Rule
list_of class = record { first = kind.Vec; last = kind.Vec; located = bare; text = NoText; items = Some class; value = LocatedExpression }

abbrev pub argument : Class → Rule
argument value = record { first = kind.ArgItem; last = kind.ArgItem; located = bare; text = NoText; items = None; value = value }

-- what may stand in a class: kinds, trivia, text ("Where the Rust type is an enum, the text is one byte, its index in declared order, within range. A `char` is
-- one byte; both must stand. `Eof`'s leaf has no text. Braces of a block are `{` and `}`, a label's colon `:`.")
abbrev pub rule : Class → Rule
rule Word = leaf located Free  -- Located String, Identifier, IdentifierPath, Number
rule Char = leaf located (Byte 0 255)  -- Located char
rule OpenBrace = leaf located (Byte characters.opening_brace characters.opening_brace)  -- Block.lparen
rule CloseBrace = leaf located (Byte characters.closing_brace characters.closing_brace)  -- Block.rparen
rule Colon = leaf located (Byte characters.colon characters.colon)  -- Label.colon
rule Unit = leaf located NoText  -- Located ()
rule Mnemonic = leaf located (Byte 0 55)  -- Located Mnemonic
rule IndexRegister = leaf located (Byte 0 1)  -- Located IndexRegister
rule AddressModifier = leaf located (Byte 0 1)  -- Located AddressModifier
rule VariableType = leaf located (Byte 0 1)  -- Located VariableType
rule NumberType = leaf located (Byte 0 2)  -- Located NumberType
rule DataSize = leaf located (Byte 0 2)  -- Located DataSize
rule BinaryOp = leaf located (Byte 0 15)  -- Located BinaryOp
rule TextEncoding = leaf located (Byte 0 3)  -- Located TextEncoding
rule AddressingMode = leaf bare (Byte 0 4)  -- AddressingMode
rule StringItem =
    record { first = kind.Leaf; last = kind.PathItem; located = bare; text = Free; items = None; value = LocatedExpression }  -- InterpolatedStringItem
rule LocatedExpression = nodes kind.BinaryExpression kind.Factor located  -- Located Expression
rule BareExpression = nodes kind.BinaryExpression kind.Factor bare  -- Expression
rule LocatedFactor = nodes kind.CurrentProgramCounter kind.StringFactor located  -- Located ExpressionFactor
rule BareToken = nodes kind.Align kind.VariableDefinition bare  -- Token
rule LocatedToken = nodes kind.Align kind.VariableDefinition located  -- Located Token
rule BlockRecord = nodes kind.Block kind.Block bare  -- Block
rule StringRecord = nodes kind.InterpolatedString kind.InterpolatedString bare  -- InterpolatedString
rule OperandRecord = nodes kind.Operand kind.Operand bare  -- Operand
rule SuffixRecord = nodes kind.RegisterSuffix kind.RegisterSuffix bare  -- RegisterSuffix
rule AsRecord = nodes kind.ImportAs kind.ImportAs bare  -- ImportAs
rule ImportArguments =
    record { first = kind.ImportAll; last = kind.ImportAll; located = bare; text = NoText; items = Some ImportArgument; value = LocatedExpression }  -- ImportArgs
rule ImportPath = nodes kind.SpecificImportArg kind.SpecificImportArg located  -- Located SpecificImportArg
rule ExpressionArgument = argument LocatedExpression  -- ArgItem of a Located Expression
rule IdentifierArgument = argument Word  -- ArgItem of a Located Identifier
rule ImportArgument = argument ImportPath  -- ArgItem of a Located SpecificImportArg
rule Tokens = list_of BareToken  -- Vec of Token
rule ExpressionArguments = list_of ExpressionArgument  -- Vec of ArgItem of Expression
rule IdentifierArguments = list_of IdentifierArgument  -- Vec of ArgItem of Identifier
rule StringItems = list_of StringItem  -- Vec of InterpolatedStringItem

-- ---- the fields of each kind

-- "A field is an `Option` in ast.rs or it must stand"
pub data Slot : Type 0 where
  must : Class → Slot
  may : Class → Slot

-- the fields of a kind in declared order, "leaving out spans, scopes, flags and `resolved_path`"; `value` is the class of an argument's value
abbrev pub fields : Kind → Class → List Slot
fields kind.Align value = must Word ∷ must LocatedExpression ∷ []  -- tag, value
fields kind.Assert value = must Word ∷ must LocatedExpression ∷ may StringRecord ∷ []  -- tag, value, failure_message
fields kind.Braces value = must BlockRecord ∷ []  -- block
fields kind.Config value = must BlockRecord ∷ []  -- block
fields kind.ConfigPair value = must Word ∷ must Char ∷ must LocatedToken ∷ []  -- key, eq, value
fields kind.Data value = must ExpressionArguments ∷ must DataSize ∷ []  -- values, size
fields kind.Definition value = must Word ∷ must Word ∷ may BareToken ∷ []  -- tag, id, value
fields kind.Eof value = must Unit ∷ []  -- unit
fields kind.Error value = must Word ∷ []  -- text
fields kind.Expression value = must BareExpression ∷ []  -- expression
fields kind.If value = must Word ∷ must LocatedExpression ∷ must BlockRecord ∷ may Word ∷ may BlockRecord ∷ []  -- tag_if, value, if_, tag_else, else_
fields kind.Import value = must Word ∷ must ImportArguments ∷ must Word ∷ must StringRecord ∷ may BlockRecord ∷ []  -- tag, args, from, filename, block
fields kind.File value = must Word ∷ must StringRecord ∷ []  -- tag, filename
fields kind.Instruction value = must Mnemonic ∷ may OperandRecord ∷ []  -- mnemonic, operand
fields kind.Label value = must Word ∷ must Colon ∷ may BlockRecord ∷ []  -- id, colon, block
fields kind.Loop value = must Word ∷ must LocatedExpression ∷ must BlockRecord ∷ []  -- tag, expr, block
fields kind.MacroDefinition value = must Word ∷ must Word ∷ must Char ∷ must IdentifierArguments ∷ must Char ∷ must BlockRecord ∷ []  -- tag, id, lparen, args, rparen, block
fields kind.MacroInvocation value = must Word ∷ must Char ∷ must ExpressionArguments ∷ must Char ∷ []  -- id, lparen, args, rparen
fields kind.ProgramCounterDefinition value = must Char ∷ must Char ∷ must LocatedExpression ∷ []  -- star, eq, value
fields kind.Segment value = must Word ∷ must LocatedExpression ∷ may BlockRecord ∷ []  -- tag, id, block
fields kind.Test value = must Word ∷ must LocatedExpression ∷ must BlockRecord ∷ []  -- tag, id, block
fields kind.Text value = must Word ∷ may TextEncoding ∷ must LocatedExpression ∷ []  -- tag, encoding, text
fields kind.Trace value = must Word ∷ may Char ∷ must ExpressionArguments ∷ may Char ∷ []  -- tag, lparen, args, rparen
fields kind.VariableDefinition value = must VariableType ∷ must Word ∷ must Char ∷ must LocatedExpression ∷ []  -- ty, id, eq, value
fields kind.Vec value = []
fields kind.Leaf value = []
fields kind.PathItem value = []
fields kind.Block value = must OpenBrace ∷ must Tokens ∷ must CloseBrace ∷ []  -- lparen, inner, rparen
fields kind.BinaryExpression value = must BinaryOp ∷ must LocatedExpression ∷ must LocatedExpression ∷ []  -- op, lhs, rhs
fields kind.Factor value = must LocatedFactor ∷ may Char ∷ may Char ∷ []  -- factor, tag_not, tag_neg
fields kind.CurrentProgramCounter value = must Char ∷ []  -- star
fields kind.ExprParens value = must Char ∷ must LocatedExpression ∷ must Char ∷ []  -- lparen, inner, rparen
fields kind.FunctionCall value = must Word ∷ must Char ∷ must ExpressionArguments ∷ must Char ∷ []  -- name, lparen, args, rparen
fields kind.IdentifierValue value = must Word ∷ may AddressModifier ∷ []  -- path, modifier
fields kind.Number value = must NumberType ∷ must Word ∷ []  -- ty, value
fields kind.StringFactor value = must StringRecord ∷ []  -- string
fields kind.InterpolatedString value = must Char ∷ must StringItems ∷ []  -- lquote, items
fields kind.Operand value = must LocatedExpression ∷ may Char ∷ may Char ∷ must AddressingMode ∷ may SuffixRecord ∷ []  -- expr, lchar, rchar, addressing_mode, suffix
fields kind.RegisterSuffix value = must Char ∷ must IndexRegister ∷ []  -- comma, register
fields kind.ImportAs value = must Word ∷ must Word ∷ []  -- tag, path
fields kind.ImportAll value = must Char ∷ may AsRecord ∷ []  -- star, as
fields kind.SpecificImportArg value = must Word ∷ may AsRecord ∷ []  -- path, as_
fields kind.ArgItem value = must value ∷ may Char ∷ []  -- value, comma
