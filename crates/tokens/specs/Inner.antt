-- Not part of any promise of this crate: what stands inside tokens, by their kind.
use Rattle.std.specs.Prelude.{ℕ, ◌+◌, ◌*◌, ◌≤◌, ◌≡◌, Bool, true, false, cond, Option, Some, None}
use Rattle.std.proofs.Common.{is_some}
use Rattle.options.specs.declared.BracePosition.{BracePosition}
use Rattle.options.specs.declared.BracePosition.TheVariants.{SameLine, NewLine}
use Rattle.tree.specs.Tree.{Tree, absent}
use Rattle.tree.specs.Reading.{Reader, read}
use Rattle.tree.specs.declared.grammar.Class.{Class}
use Rattle.tree.specs.declared.grammar.Class.TheVariants.{Word, Mnemonic, DataSize, BareToken, LocatedToken, LocatedExpression}
use Rattle.tree.specs.declared.grammar.Class.TheVariants.{ExpressionArguments, BlockRecord, OperandRecord}
use Rattle.tree.specs.declared.grammar.Kind.{Kind}
use Rattle.tree.specs.declared.grammar.Kind.TheVariants as variant
use Rattle.tree.specs.Grammar.{kind_number, rule}
use Rattle.printing.specs.Events.{Events, nothing, space, clear, ◌▹◌}
use Rattle.printing.specs.declared.Context.{Context}
use Rattle.events.specs.Printed.{plain, mnemonic, data_size}
use Rattle.events.specs.Views.{bit_at, token_number}
use Rattle.events.specs.Trees.{blank, newline, leaf, arguments, Before, events_in}
use Rattle.leads.specs.Leads.{lead_in}
use Rattle.printers.specs.Going.{Goes}
use Rattle.printers.specs.declared.Printer.{Printer}
use Rattle.tokens.specs.declared.walk.Inner.{Inner}
use Rattle.tokens.specs.declared.walk.Inner.TheVariants.{Block, Token, Branches}

abbrev pub inner_of : Kind → ℕ → Option Inner
inner_of variant.ConfigPair bits = Some (Token true LocatedToken)
inner_of variant.Definition bits = Some (Token (bit_at 2 bits) BareToken)
inner_of variant.If bits = Some (Branches (bit_at 3 bits))
inner_of variant.Import bits = Some (Block (bit_at 4 bits))
inner_of variant.Label bits = Some (Block (bit_at 2 bits))
inner_of variant.Segment bits = Some (Block (bit_at 2 bits))
inner_of variant.Braces bits = Some (Block true)
inner_of variant.Config bits = Some (Block true)
inner_of variant.Loop bits = Some (Block true)
inner_of variant.MacroDefinition bits = Some (Block true)
inner_of variant.Test bits = Some (Block true)
inner_of other bits = None

-- the classes of a token inside a token: the rule of both is that of tokens
abbrev pub TokenClass : Class → Type 0
TokenClass class = ((rule class).items ≡ None) × (kind_number (rule class).last ≡ 23) × ((rule class).value ≡ LocatedExpression)

-- "`tag_else` and `else_` stand together or not at all"
abbrev pub Ends : Kind → ℕ → Type 0
Ends kind bits = kind ≡ variant.If → bit_at 3 bits ≡ bit_at 4 bits

-- a block is at most 64 further in, and at every level there is room for one more
abbrev pub Narrow : Context → ℕ → Type 0
Narrow context levels = (context.options.whitespace.indent ≤ 64) × (context.indent + 64 * levels ≤ 4096)

-- what stands between the branches of an `If`
abbrev pub else_front : Context → BracePosition → Events → Events
else_front context SameLine tag = blank context ▹ tag ▹ blank context
else_front context NewLine tag = newline context ▹ tag

-- the branches
abbrev pub behind_then : Reader → ℕ → ℕ
behind_then reader at = (reader BlockRecord at).end

abbrev pub branch_events : Context → Bool → Reader → ℕ → Events
branch_events context other reader at =
    events_in context (leaf plain) true (reader BlockRecord at).tree
    ▹ cond other
    (else_front context context.options.braces.position (events_in context (leaf plain) true (reader Word (behind_then reader at)).tree)
    ▹ events_in context (leaf plain) true (reader BlockRecord (reader Word (behind_then reader at)).end).tree)
    nothing

abbrev pub branches_end : Bool → Reader → ℕ → ℕ
branches_end other reader at = cond other (reader BlockRecord (reader Word (behind_then reader at)).end).end (behind_then reader at)

-- ---- a `Data`, from its size on, which is stored behind its values

abbrev pub value_events : Context → Reader → ℕ → Events
value_events context reader values = blank context ▹ events_in context arguments true (reader ExpressionArguments values).tree

abbrev pub sized_events : Context → Reader → ℕ → ℕ → Events
sized_events context reader values at = events_in context (leaf data_size) false (reader DataSize at).tree ▹ value_events context reader values

-- ---- an `Instruction` behind its mnemonic

abbrev pub operand_events : Context → ℕ → Reader → ℕ → Events
operand_events context bits reader at = space ▹ events_in context (leaf plain) true (cond (bit_at 1 bits) (reader OperandRecord at).tree absent) ▹ clear

abbrev pub operand_end : ℕ → Reader → ℕ → ℕ
operand_end bits reader at = cond (bit_at 1 bits) (reader OperandRecord at).end at

-- and from it on
abbrev pub instruction_events : Context → ℕ → Reader → ℕ → Events
instruction_events context bits reader at =
    events_in context (leaf mnemonic) false (reader Mnemonic at).tree ▹ operand_events context bits reader (reader Mnemonic at).end

abbrev pub instruction_end : ℕ → Reader → ℕ → ℕ
instruction_end bits reader at = operand_end bits reader (reader Mnemonic at).end

-- ---- a token of a list

-- whether newlines first in it are dropped: in a block, before its first token
abbrev pub dropping : Bool → Option Kind → Bool
dropping block None = block
dropping block (Some kind) = false

-- what stands before it, and the token without its own trivia
abbrev pub listed_events : Context → Bool → Before → Tree → Events
listed_events context drops before item = lead_in context drops before item ▹ events_in context (leaf plain) false item

abbrev pub GoesListed : Printer → Printer → Bool → Before → ℕ → Type 0
GoesListed before after drops stood levels =
    Goes before after (λ page at. listed_events page.context drops stood (read levels page.tree BareToken at).tree)
    (λ page at. (read levels page.tree BareToken at).end)

-- the kind of the token where the walk was, by its number, or none where it has ended
abbrev pub KindIs : Printer → Printer → ℕ → Option Kind → Type 0
KindIs before after levels (Some kind) = token_number (read levels before.tree.now BareToken before.at).tree ≡ kind_number kind
KindIs before after levels None = is_some after.ended ≡ true
