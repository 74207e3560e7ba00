-- What the printer of a token list promises: the events of the list, the file's or that of a block, whose `}` stands behind it.
use Rattle.std.specs.Prelude.{ℕ, ◌-◌, List, Bool, true, cond}
use Rattle.tree.specs.Tree.{chain}
use Rattle.tree.specs.Reading.{read}
use Rattle.tree.specs.declared.grammar.Class.TheVariants.{CloseBrace, BareToken, Tokens}
use Rattle.printing.specs.Events.{Events}
use Rattle.printing.specs.declared.Context.{Context}
use Rattle.events.specs.Trees.{first, Closing, file_end, block_end, tokens, events_in}
use Rattle.leaves.specs.Lists.{item_trees, items_end}
use Rattle.printers.specs.Going.{Goes}
use Rattle.printers.specs.declared.Printer.{Printer}

-- the end of a list that ends at a place
abbrev pub closing_at : Bool → ℕ → List ℕ → ℕ → Closing
closing_at block levels bytes at = cond block (block_end (read levels bytes CloseBrace at).tree) file_end

abbrev pub GoesTokens : Printer → Printer → Bool → ℕ → Type 0
GoesTokens before after block levels =
    Goes before after
    (λ page at.
    let closing = closing_at block levels page.tree (read levels page.tree Tokens at).end in
    events_in page.context (tokens block first closing) true (read levels page.tree Tokens at).tree)
    (λ page at. (read levels page.tree Tokens at).end)

-- so many tokens one level below
abbrev pub each_events : Context → Bool → ℕ → List ℕ → ℕ → ℕ → Events
each_events context block levels bytes count at =
    let end = items_end (read (levels - 1) bytes) BareToken count at in
    events_in context (tokens block first (closing_at block levels bytes end)) true (chain (item_trees (read (levels - 1) bytes) BareToken count at))
