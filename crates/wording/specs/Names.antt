-- The names of refusals, kinds, trivia and chunk types.
use Rattle.std.specs.Prelude.{ℕ, ◌-◌, List, [], ◌∷◌, cond, get_or, ltb}
use Prim.Native.String.{String}
use Rattle.tree.specs.Kinds as kinds
use Rattle.chunks.specs.declared.stored.ChunkType.{ChunkType}
use Rattle.chunks.specs.declared.stored.ChunkType.TheVariants.{Code, Label, Comment}

-- the refusals by their numbers, of which 0 is none
abbrev pub reasons : List String
reasons =
    "" ∷ "options length" ∷ "options value" ∷ "tree length" ∷ "tree depth" ∷ "tree layout" ∷ "chunk layout" ∷ "not ASCII" ∷ "work room" ∷ "text room" ∷ []

-- the kinds 0 to 23, which are the tokens
abbrev pub token_kinds : List String
token_kinds =
    "Align" ∷ "Assert" ∷ "Braces" ∷ "Config" ∷ "ConfigPair" ∷ "Data" ∷ "Definition" ∷ "Eof" ∷ "Error" ∷ "Expression" ∷ "If" ∷ "Import" ∷ "File" ∷
    "Instruction" ∷ "Label" ∷ "Loop" ∷ "MacroDefinition" ∷ "MacroInvocation" ∷ "ProgramCounterDefinition" ∷ "Segment" ∷ "Test" ∷ "Text" ∷
    "Trace" ∷ "VariableDefinition" ∷ []

-- the kinds from 24 on
abbrev pub part_kinds : List String
part_kinds =
    "list" ∷ "leaf" ∷ "path item" ∷ "Block" ∷ "BinaryExpression" ∷ "Factor" ∷ "CurrentProgramCounter" ∷ "ExprParens" ∷ "FunctionCall" ∷
    "IdentifierValue" ∷ "Number" ∷ "InterpolatedString factor" ∷ "InterpolatedString" ∷ "Operand" ∷ "RegisterSuffix" ∷ "ImportAs" ∷
    "ImportArgs::All" ∷ "SpecificImportArg" ∷ "ArgItem" ∷ []

abbrev pub kind_name : ℕ → String
kind_name number = cond (ltb number kinds.vec) (get_or token_kinds number "") (get_or part_kinds (number - kinds.vec) "")

-- trivia by their codes
abbrev pub trivia_names : List String
trivia_names = "whitespace" ∷ "newline" ∷ "comment" ∷ "line comment" ∷ []

abbrev pub type_name : ChunkType → String
type_name Code = "code"
type_name Label = "label"
type_name Comment = "comment"
