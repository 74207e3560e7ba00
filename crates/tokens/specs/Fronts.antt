-- Not part of any promise of this crate: what tokens print before the block or the token inside them, by their kind, and where that begins.
use Rattle.std.specs.Prelude.{ℕ, Bool, true, false}
use Rattle.tree.specs.Reading.{Reader, read}
use Rattle.tree.specs.declared.grammar.Class.TheVariants.{Word, Char, Colon, LocatedExpression, StringRecord, ImportArguments, IdentifierArguments}
use Rattle.tree.specs.declared.grammar.Kind.{Kind}
use Rattle.tree.specs.declared.grammar.Kind.TheVariants as variant
use Rattle.printing.specs.Events.{Events, nothing, space, ◌▹◌}
use Rattle.printing.specs.declared.Context.{Context}
use Rattle.events.specs.Printed.{plain}
use Rattle.events.specs.Trees.{blank, skipping, leaf, labelled, arguments, imports, events_in}
use Rattle.printers.specs.Going.{Goes}
use Rattle.printers.specs.declared.Printer.{Printer}

-- the kinds of tokens without a block or a token inside
abbrev pub is_plain : Kind → Bool
is_plain variant.Align = true
is_plain variant.Assert = true
is_plain variant.Data = true
is_plain variant.Eof = true
is_plain variant.Error = true
is_plain variant.Expression = true
is_plain variant.File = true
is_plain variant.Instruction = true
is_plain variant.MacroInvocation = true
is_plain variant.ProgramCounterDefinition = true
is_plain variant.Text = true
is_plain variant.Trace = true
is_plain variant.VariableDefinition = true
is_plain other = false

-- ---- places behind the first fields

abbrev pub behind_tag : Reader → ℕ → ℕ
behind_tag reader at = (reader Word at).end

abbrev pub behind_name : Reader → ℕ → ℕ
behind_name reader at = (reader Word (behind_tag reader at)).end

abbrev pub behind_imports : Reader → ℕ → ℕ
behind_imports reader at = (reader ImportArguments (behind_tag reader at)).end

abbrev pub behind_opening : Reader → ℕ → ℕ
behind_opening reader at = (reader Char (behind_name reader at)).end

abbrev pub behind_arguments : Reader → ℕ → ℕ
behind_arguments reader at = (reader IdentifierArguments (behind_opening reader at)).end

-- ---- what is printed

-- a tag and an expression
abbrev pub tagged_events : Context → Reader → ℕ → Events
tagged_events context reader at =
    events_in context (leaf plain) false (reader Word at).tree ▹ blank context
    ▹ events_in context (leaf plain) true (reader LocatedExpression (behind_tag reader at)).tree

-- a tag and a name
abbrev pub named_events : Context → Reader → ℕ → Events
named_events context reader at =
    events_in context (leaf plain) false (reader Word at).tree ▹ blank context
    ▹ events_in context (leaf plain) true (reader Word (behind_tag reader at)).tree

abbrev pub pair_events : Context → Reader → ℕ → Events
pair_events context reader at =
    events_in context (leaf plain) false (reader Word at).tree ▹ blank context
    ▹ events_in context (leaf plain) true (reader Char (behind_tag reader at)).tree ▹ blank context

abbrev pub definition_events : Context → Reader → ℕ → Events
definition_events context reader at = named_events context reader at ▹ blank context

abbrev pub import_events : Context → Reader → ℕ → Events
import_events context reader at =
    events_in context (leaf plain) false (reader Word at).tree ▹ blank context
    ▹ events_in context imports true (reader ImportArguments (behind_tag reader at)).tree ▹ blank context
    ▹ events_in context (leaf plain) true (reader Word (behind_imports reader at)).tree ▹ blank context
    ▹ events_in context (leaf plain) true (reader StringRecord (reader Word (behind_imports reader at)).end).tree ▹ space

abbrev pub label_events : Context → Reader → ℕ → Events
label_events context reader at = events_in context labelled false (reader Word at).tree ▹ skipping (reader Colon (behind_tag reader at)).tree

abbrev pub label_end : Reader → ℕ → ℕ
label_end reader at = (reader Colon (behind_tag reader at)).end

abbrev pub macro_events : Context → Reader → ℕ → Events
macro_events context reader at =
    named_events context reader at ▹ events_in context (leaf plain) true (reader Char (behind_name reader at)).tree
    ▹ events_in context arguments true (reader IdentifierArguments (behind_opening reader at)).tree
    ▹ events_in context (leaf plain) true (reader Char (behind_arguments reader at)).tree ▹ space

abbrev pub test_events : Context → Reader → ℕ → Events
test_events context reader at =
    events_in context (leaf plain) false (reader Word at).tree ▹ space
    ▹ events_in context (leaf plain) true (reader LocatedExpression (behind_tag reader at)).tree ▹ space

-- ---- by the kind

abbrev pub front_events : Context → Reader → ℕ → Kind → Events
front_events context reader at variant.ConfigPair = pair_events context reader at
front_events context reader at variant.Definition = definition_events context reader at
front_events context reader at variant.If = tagged_events context reader at ▹ blank context
front_events context reader at variant.Import = import_events context reader at
front_events context reader at variant.Label = label_events context reader at
front_events context reader at variant.Loop = tagged_events context reader at ▹ blank context
front_events context reader at variant.MacroDefinition = macro_events context reader at
front_events context reader at variant.Segment = tagged_events context reader at ▹ blank context
front_events context reader at variant.Test = test_events context reader at
front_events context reader at other = nothing

abbrev pub front_end : Reader → ℕ → Kind → ℕ
front_end reader at variant.ConfigPair = (reader Char (behind_tag reader at)).end
front_end reader at variant.Definition = behind_name reader at
front_end reader at variant.If = (reader LocatedExpression (behind_tag reader at)).end
front_end reader at variant.Import = (reader StringRecord (reader Word (behind_imports reader at)).end).end
front_end reader at variant.Label = label_end reader at
front_end reader at variant.Loop = (reader LocatedExpression (behind_tag reader at)).end
front_end reader at variant.MacroDefinition = (reader Char (behind_arguments reader at)).end
front_end reader at variant.Segment = (reader LocatedExpression (behind_tag reader at)).end
front_end reader at variant.Test = (reader LocatedExpression (behind_tag reader at)).end
front_end reader at other = at

abbrev pub GoesFront : Printer → Printer → Kind → ℕ → Type 0
GoesFront before after kind levels =
    Goes before after (λ page at. front_events page.context (read levels page.tree) at kind) (λ page at. front_end (read levels page.tree) at kind)
