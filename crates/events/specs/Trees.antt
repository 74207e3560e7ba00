-- The events of a tree: formatting/mod.rs arm by arm, from `format_tokens` to the `Formattable` types. A clause for each kind, in the order of printing.
use Rattle.answers.specs.Numbers.{Checked}
use Rattle.std.specs.Prelude.{ℕ, ◌+◌, List, [], ◌∷◌, ◌++◌, Bool, true, false, cond, not, ◌&&◌, ◌||◌, get_or, eqb, Ok, Err}
use Rattle.options.specs.declared.BracePosition.{BracePosition}
use Rattle.options.specs.declared.BracePosition.TheVariants.{SameLine, NewLine}
use Rattle.chunks.specs.declared.stored.ChunkType.TheVariants as chunk
use Rattle.text.specs.Characters as characters
use Rattle.text.specs.Lines.{is_empty, is_newline}
use Rattle.tree.specs.Kinds as kinds
use Rattle.tree.specs.Codes as codes
use Rattle.tree.specs.Tree.{Tree, Trivium, absent, refused, node, nil, cons, Align, Assert, Braces, Config, ConfigPair, Data, Definition, Eof, Error}
use Rattle.tree.specs.Tree.{Expression, If, Import, File, Instruction, Label, Loop, MacroDefinition, MacroInvocation, ProgramCounterDefinition}
use Rattle.tree.specs.Tree.{Segment, Test, Text, Trace, VariableDefinition, Vec, Leaf, PathItem, Block, BinaryExpression, Factor}
use Rattle.tree.specs.Tree.{CurrentProgramCounter, ExprParens, FunctionCall, IdentifierValue, Number, StringFactor, InterpolatedString, Operand}
use Rattle.tree.specs.Tree.{RegisterSuffix, ImportAs, ImportAll, SpecificImportArg, ArgItem}
use Rattle.printing.specs.Events.{Events, nothing, push, space, clear, trim, stop, ◌▹◌}
use Rattle.printing.specs.declared.Context.{Context}
use Rattle.events.specs.Printed.{Style, plain, mnemonic, register, operator, data_size, encoding, variable_type, number_type, modifier, printed}
use Rattle.events.specs.Views.{own_trivia, head_trivia, token_number, stands, has_block, index_of}
use Rattle.events.specs.Refusals.{first_refusal, own_refusal, head_refusal}

-- ---- plain pushes

-- a text of code
abbrev pub word : Context → List ℕ → Events
word context text = push chunk.Code context text

abbrev pub blank : Context → Events
blank context = word context (characters.space ∷ [])

abbrev pub newline : Context → Events
newline context = word context (characters.newline ∷ [])

-- ---- "A reading that finds a refusal ends the walk there."; what was accepted has none

abbrev pub stop_at : Checked → Events
stop_at (Ok tt) = nothing
stop_at (Err why) = stop why

-- a field that is not printed, or not yet, is skipped on the way to the next
abbrev pub skipping : Tree → Events
skipping tree = stop_at (first_refusal tree)

-- ---- trivia: `Formattable for &Vec<Trivia>`

-- whitespace prints nothing; what is neither whitespace nor a newline is a comment
abbrev pub trivium_events : Context → Trivium → Events
trivium_events context item =
    cond (eqb item.code codes.whitespace) nothing (cond (eqb item.code codes.newline) (newline context) (push chunk.Comment context item.text))

unfoldable pub trivia_events : Context → List Trivium → Events
trivia_events context [] = nothing
trivia_events context (item ∷ items) = trivium_events context item ▹ trivia_events context items

-- an item whose chunk, if it makes one, is exactly a newline
abbrev pub only_newline : Trivium → Bool
only_newline item = eqb item.code codes.whitespace || (eqb item.code codes.newline || (is_empty item.text || is_newline item.text))

-- "A newline chunk dropped first in a list is never held": trivia first in a block's list, without the newlines before any other chunk
unfoldable pub lead_events : Context → List Trivium → Events
lead_events context [] = nothing
lead_events context (item ∷ items) = cond (only_newline item) (lead_events context items) (trivium_events context item ▹ trivia_events context items)

abbrev pub list_trivia : Context → Bool → List Trivium → Events
list_trivia context true trivia = lead_events context trivia
list_trivia context false trivia = trivia_events context trivia

-- ---- the newline rule of `format_tokens`, by the kinds' numbers

unfoldable pub one_of : ℕ → List ℕ → Bool
one_of number [] = false
one_of number (n ∷ ns) = eqb number n || one_of number ns

-- after a token of the same kind: `Braces`, `Definition`, `If`, `Loop`, `Segment`; `Import` and `Label` with a block
abbrev pub after_same : ℕ → Bool → Bool
after_same number block =
    one_of number (kinds.braces ∷ kinds.definition ∷ kinds.if ∷ kinds.loop ∷ kinds.segment ∷ [])
    || (one_of number (kinds.import ∷ kinds.label ∷ []) && block)

-- two kinds of one group: `Assert` and `Trace`, `Data` and `Text`, `Instruction` and `MacroInvocation`
abbrev pub grouped : ℕ → ℕ → Bool
grouped previous number =
    let checks = kinds.assert ∷ kinds.trace ∷ [] in
    let values = kinds.«data» ∷ kinds.text ∷ [] in
    let code = kinds.instruction ∷ kinds.macro_invocation ∷ [] in
    (one_of previous checks && one_of number checks)
    || ((one_of previous values && one_of number values) || (one_of previous code && one_of number code))

-- after a token of another kind: all but groups; a `Label` only with a block, or after `Braces` or `If`
abbrev pub after_other : ℕ → ℕ → Bool → Bool
after_other previous number block = cond (eqb number kinds.label) (block || one_of previous (kinds.braces ∷ kinds.if ∷ [])) (not (grouped previous number))

-- none before an `Error`
abbrev pub breaks : ℕ → ℕ → Bool → Bool
breaks previous number block =
    not (eqb number kinds.error) && cond (eqb previous number) (after_same number block) (after_other previous number block)

-- what stood before a token in its list
pub data Before : Type 0 where
  first : Before
  behind : ℕ → Before

-- none before the first token
abbrev pub break_before : Context → Before → ℕ → Bool → Events
break_before context first number block = nothing
break_before context (behind previous) number block = cond (breaks previous number block) (newline context) nothing

-- ---- where a tree stands

-- the end of a token list: the file's, or a block's, whose `}` stands for an added `Eof` with its trivia
pub data Closing : Type 0 where
  file_end : Closing
  block_end : Tree → Closing

-- how a tree prints by where it stands
pub data Place : Type 0 where
  leaf : Style → Place  -- by itself, a leaf of a style
  labelled : Place  -- the id of a label
  arguments : Place  -- in an argument list
  imports : Place  -- in the argument list of an import
  in_string : Place  -- in a string
  tokens : Bool → Before → Closing → Place  -- in a token list: whether newlines first in it are dropped, what came before, its end

abbrev pub closing_events : Context → Bool → Before → Closing → Events
closing_events context drops before file_end = nothing
closing_events context drops before (block_end rparen) =
    stop_at (own_refusal rparen) ▹ list_trivia context drops (own_trivia rparen) ▹ break_before context before kinds.eof false

-- the end of a list
abbrev pub end_events : Context → Place → Events
end_events context (leaf style) = nothing
end_events context labelled = nothing
end_events context arguments = clear
end_events context imports = clear
end_events context in_string = nothing
end_events context (tokens drops before closing) = closing_events context drops before closing

-- an item of a list: itself without its own trivia and with them, and the items behind it where they stand
abbrev pub item_events : Context → Place → Tree → Events → Events → (Place → Events) → Events
item_events context (leaf style) item bare whole rest = whole ▹ rest (leaf style)
item_events context labelled item bare whole rest = whole ▹ rest labelled
item_events context arguments item bare whole rest = whole ▹ rest arguments
item_events context imports item bare whole rest = whole ▹ rest imports
item_events context in_string item bare whole rest = bare ▹ rest in_string
item_events context (tokens drops before closing) item bare whole rest =
    stop_at (head_refusal item) ▹ list_trivia context drops (head_trivia item) ▹ break_before context before (token_number item) (has_block item)
    ▹ bare ▹ rest (tokens false (behind (token_number item)) closing)

-- a leaf's text where it stands; a label is one chunk with its colon
abbrev pub leaf_events : Context → Place → List ℕ → Events
leaf_events context (leaf style) text = word context (printed context style text)
leaf_events context labelled text = push chunk.Label context (text ++ (characters.colon ∷ []))
leaf_events context arguments text = word context text
leaf_events context imports text = word context text
leaf_events context in_string text = word context text
leaf_events context (tokens drops before closing) text = word context text

-- the trivia of an argument's value are printed but in an import's list
abbrev pub value_shown : Place → Bool
value_shown (leaf style) = true
value_shown labelled = true
value_shown arguments = true
value_shown imports = false
value_shown in_string = true
value_shown (tokens drops before closing) = true

-- inside a block
abbrev pub deeper : Context → Context
deeper context = record { options = context.options; indent = context.indent + context.options.whitespace.indent }

-- `{` by the brace position, and a newline
abbrev pub opening : Context → BracePosition → Events → Events
opening context SameLine brace = brace ▹ newline context
opening context NewLine brace = newline context ▹ brace ▹ newline context

-- `else` and its block by the brace position
abbrev pub else_events : Context → BracePosition → Events → Events → Events
else_events context SameLine tag block = blank context ▹ tag ▹ blank context ▹ block
else_events context NewLine tag block = newline context ▹ tag ▹ block

-- the closing character and the suffix by the addressing mode; but for `Indirect` and `OuterIndirect` no mode prints the character
abbrev pub operand_events : List ℕ → Events → Events → Events
operand_events mode rchar suffix =
    cond (eqb (get_or mode 0 0) codes.indirect) (suffix ▹ rchar) (cond (eqb (get_or mode 0 0) codes.outer_indirect) (rchar ▹ suffix) suffix)

-- ---- the events of a tree: its context, where it stands, whether its own trivia are printed

unfoldable pub events_in : Context → Place → Bool → Tree → Events
events_in context place shown absent = nothing
events_in context place shown (refused refusal) = stop refusal
events_in context place shown (node offset trivia tree) = cond shown (trivia_events context trivia) nothing ▹ events_in context place true tree
events_in context place shown nil = end_events context place
events_in context place shown (cons item items) =
    item_events context place item (events_in context (leaf plain) false item) (events_in context place true item) (λ next. events_in context next true items)
events_in context place shown (Align tag value) = events_in context (leaf plain) false tag ▹ blank context ▹ events_in context (leaf plain) true value
events_in context place shown (Assert tag value message) =
    events_in context (leaf plain) false tag ▹ blank context ▹ events_in context (leaf plain) true value ▹ space
    ▹ events_in context (leaf plain) true message
events_in context place shown (Braces block) = events_in context (leaf plain) true block
events_in context place shown (Config block) = events_in context (leaf plain) true block
events_in context place shown (ConfigPair key eq value) =
    events_in context (leaf plain) false key ▹ blank context ▹ events_in context (leaf plain) true eq ▹ blank context
    ▹ events_in context (leaf plain) true value
events_in context place shown (Data values size) = skipping values ▹ events_in context (leaf data_size) false size ▹ blank context ▹ events_in context arguments true values
events_in context place shown (Definition tag id value) =
    events_in context (leaf plain) false tag ▹ blank context ▹ events_in context (leaf plain) true id ▹ blank context
    ▹ events_in context (leaf plain) true value
events_in context place shown (Eof unit) = skipping unit
events_in context place shown (Error text) = events_in context (leaf plain) false text
events_in context place shown (Expression expression) = events_in context (leaf plain) true expression
events_in context place shown (If tag_if value then tag_else otherwise) =
    events_in context (leaf plain) false tag_if ▹ blank context ▹ events_in context (leaf plain) true value ▹ blank context
    ▹ events_in context (leaf plain) true then
    ▹ cond (stands tag_else)
    (else_events context context.options.braces.position (events_in context (leaf plain) true tag_else) (events_in context (leaf plain) true otherwise))
    nothing
events_in context place shown (Import tag args source filename block) =
    events_in context (leaf plain) false tag ▹ blank context ▹ events_in context imports true args ▹ blank context
    ▹ events_in context (leaf plain) true source ▹ blank context ▹ events_in context (leaf plain) true filename ▹ space
    ▹ events_in context (leaf plain) true block
events_in context place shown (File tag filename) = events_in context (leaf plain) false tag ▹ blank context ▹ events_in context (leaf plain) true filename
events_in context place shown (Instruction mnemonic' operand) =
    events_in context (leaf mnemonic) false mnemonic' ▹ space ▹ events_in context (leaf plain) true operand ▹ clear
events_in context place shown (Label id colon block) = events_in context labelled false id ▹ skipping colon ▹ events_in context (leaf plain) true block
events_in context place shown (Loop tag expr block) =
    events_in context (leaf plain) false tag ▹ blank context ▹ events_in context (leaf plain) true expr ▹ blank context
    ▹ events_in context (leaf plain) true block
events_in context place shown (MacroDefinition tag id lparen args rparen block) =
    events_in context (leaf plain) false tag ▹ blank context ▹ events_in context (leaf plain) true id ▹ events_in context (leaf plain) true lparen
    ▹ events_in context arguments true args ▹ events_in context (leaf plain) true rparen ▹ space ▹ events_in context (leaf plain) true block
events_in context place shown (MacroInvocation id lparen args rparen) =
    events_in context (leaf plain) false id ▹ events_in context (leaf plain) true lparen ▹ events_in context arguments true args
    ▹ events_in context (leaf plain) true rparen
events_in context place shown (ProgramCounterDefinition star eq value) =
    events_in context (leaf plain) false star ▹ blank context ▹ events_in context (leaf plain) true eq ▹ blank context
    ▹ events_in context (leaf plain) true value
events_in context place shown (Segment tag id block) =
    events_in context (leaf plain) false tag ▹ blank context ▹ events_in context (leaf plain) true id ▹ blank context
    ▹ events_in context (leaf plain) true block
events_in context place shown (Test tag id block) =
    events_in context (leaf plain) false tag ▹ space ▹ events_in context (leaf plain) true id ▹ space ▹ events_in context (leaf plain) true block
events_in context place shown (Text tag encoding' text) =
    events_in context (leaf plain) false tag ▹ space ▹ events_in context (leaf encoding) true encoding' ▹ space
    ▹ events_in context (leaf plain) true text
events_in context place shown (Trace tag lparen args rparen) =
    events_in context (leaf plain) false tag ▹ space ▹ events_in context (leaf plain) true lparen ▹ events_in context arguments true args
    ▹ events_in context (leaf plain) true rparen
events_in context place shown (VariableDefinition ty id eq value) =
    events_in context (leaf variable_type) false ty ▹ blank context ▹ events_in context (leaf plain) true id ▹ blank context
    ▹ events_in context (leaf plain) true eq ▹ blank context ▹ events_in context (leaf plain) true value
events_in context place shown (Vec items) = events_in context place true items
events_in context place shown (Leaf text) = leaf_events context place text
events_in context place shown (PathItem text) = word context (characters.opening_brace ∷ []) ▹ word context text ▹ word context (characters.closing_brace ∷ [])
events_in context place shown (Block lparen inner rparen) =
    opening context context.options.braces.position (events_in context (leaf plain) false lparen)
    ▹ events_in (deeper context) (tokens true first (block_end rparen)) true inner ▹ trim ▹ newline context ▹ events_in context (leaf plain) false rparen
events_in context place shown (BinaryExpression op lhs rhs) =
    skipping op ▹ events_in context (leaf plain) true lhs ▹ blank context ▹ events_in context (leaf operator) true op ▹ blank context
    ▹ events_in context (leaf plain) true rhs
events_in context place shown (Factor factor tag_not tag_neg) =
    cond (stands tag_not || stands tag_neg) (skipping factor) nothing ▹ events_in context (leaf plain) true tag_not
    ▹ events_in context (leaf plain) true tag_neg ▹ events_in context (leaf plain) true factor
events_in context place shown (CurrentProgramCounter star) = events_in context (leaf plain) true star
events_in context place shown (ExprParens lparen inner rparen) =
    events_in context (leaf plain) true lparen ▹ events_in context (leaf plain) true inner ▹ events_in context (leaf plain) true rparen
events_in context place shown (FunctionCall name lparen args rparen) =
    events_in context (leaf plain) true name ▹ events_in context (leaf plain) true lparen ▹ events_in context arguments true args
    ▹ events_in context (leaf plain) true rparen
events_in context place shown (IdentifierValue path modifier') =
    cond (stands modifier') (skipping path) nothing ▹ events_in context (leaf modifier) true modifier' ▹ events_in context (leaf plain) true path
events_in context place shown (Number ty value) = events_in context (leaf number_type) true ty ▹ events_in context (leaf plain) true value
events_in context place shown (StringFactor string) = events_in context (leaf plain) true string
events_in context place shown (InterpolatedString lquote items) = events_in context (leaf plain) true lquote ▹ events_in context in_string true items ▹ word context (characters.quote ∷ [])
events_in context place shown (Operand expr lchar rchar mode suffix) =
    cond (stands lchar) (skipping expr) nothing ▹ events_in context (leaf plain) true lchar ▹ events_in context (leaf plain) true expr ▹ skipping rchar
    ▹ skipping mode ▹ operand_events (index_of mode) (events_in context (leaf plain) true rchar) (events_in context (leaf plain) true suffix)
events_in context place shown (RegisterSuffix comma register') = events_in context (leaf plain) true comma ▹ space ▹ events_in context (leaf register) true register' ▹ clear
events_in context place shown (ImportAs tag path) = events_in context (leaf plain) true tag ▹ blank context ▹ events_in context (leaf plain) true path
events_in context place shown (ImportAll star alias) = events_in context (leaf plain) true star ▹ space ▹ events_in context (leaf plain) true alias ▹ clear
events_in context place shown (SpecificImportArg path alias) = events_in context (leaf plain) true path ▹ space ▹ events_in context (leaf plain) true alias
events_in context place shown (ArgItem value comma) = events_in context (leaf plain) (value_shown place) value ▹ events_in context (leaf plain) true comma ▹ space

-- the events of a file: a token list of which no newline is dropped, with no end of its own
abbrev pub events_of : Context → Tree → Events
events_of context tree = events_in context (tokens false first file_end) true tree
