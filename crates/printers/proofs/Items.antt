-- Trivia, item by item.
use mathlib.Core.Path.{◌≡◌, refl, sym, ap}
use mathlib.Core.List.{List, [], ◌∷◌, map}
use mathlib.Core.Bool.{Bool, true, false, cond}
use Prim.Native.Nat.{ℕ, ◌≤◌}
use Rattle.tree.specs.Parts.{spans_at}
use Rattle.tree.specs.declared.parts.TriviumSpan.{TriviumSpan}
use Rattle.events.specs.Trees.{trivium_events, trivia_events, only_newline, lead_events}
use Rattle.leaves.specs.Items.{item_of, items_at}
use Rattle.leaves.proofs.Items.{items_none}
use Rattle.leaves.proofs.Spans.{items_read}
use Rattle.printers.specs.declared.Printer.{Printer}
use Rattle.printers.specs.Going.{GoesExact}
use Rattle.printers.proofs.Exact.{◌exactly◌, exact_stays, exact_there}

-- some items are printed, without the newlines first in them where these are dropped
abbrev pub GoesSpans : Bool → Printer → Printer → List TriviumSpan → Type 0
GoesSpans drops before after spans =
    GoesExact before after
    (λ page here.
    let items = map (item_of page.tree) spans in
    cond drops (lead_events page.context items) (trivia_events page.context items))
    (λ page here. here)

-- none is left
pub no_span : (drops : Bool) {printer : Printer} → GoesSpans drops printer printer []
unfolding trivia_events lead_events
no_span true = exact_stays
no_span false = exact_stays

-- one is printed, and those behind it go on
pub one_span : {before between after : Printer} (item : TriviumSpan) (items : List TriviumSpan)
    → GoesExact before between (λ page here. trivium_events page.context (item_of page.tree item)) (λ page here. here)
    → GoesSpans false between after items → GoesSpans false before after (item ∷ items)
unfolding trivia_events
one_span item items one rest = one exactly rest

-- the first that is no newline is printed, and those behind it too
pub first_span : {before between after : Printer} (item : TriviumSpan) (items : List TriviumSpan) → only_newline (item_of before.tree.now item) ≡ false
    → GoesExact before between (λ page here. trivium_events page.context (item_of page.tree item)) (λ page here. here)
    → GoesSpans false between after items → GoesSpans true before after (item ∷ items)
unfolding trivia_events lead_events
first_span item items other one rest = exact_there (one exactly rest) (rw other) refl

-- a newline is dropped
pub dropped_span : {before after : Printer} (item : TriviumSpan) (items : List TriviumSpan) → only_newline (item_of before.tree.now item) ≡ true
    → GoesSpans true before after items → GoesSpans true before after (item ∷ items)
unfolding lead_events
dropped_span item items newline rest = exact_there rest (rw newline) refl

-- those that an iterator has are those at a place
pub all_spans : {before after : Printer} (place count : ℕ) → GoesSpans false before after (spans_at before.tree.now place count)
    → GoesExact before after (λ page here. trivia_events page.context (items_at page.tree place count)) (λ page here. here)
all_spans {before} place count goes = exact_there goes (ap (trivia_events before.context) (sym (items_read before.tree.now place count).texts)) refl

pub all_leads : {before after : Printer} (place count : ℕ) → GoesSpans true before after (spans_at before.tree.now place count)
    → GoesExact before after (λ page here. lead_events page.context (items_at page.tree place count)) (λ page here. here)
all_leads {before} place count goes = exact_there goes (ap (lead_events before.context) (sym (items_read before.tree.now place count).texts)) refl

-- where there are none nothing is printed
pub no_item : (printer : Printer) (place left : ℕ) → left ≤ 0
    → GoesExact printer printer (λ page here. trivia_events page.context (items_at page.tree place left)) (λ page here. here)
unfolding trivia_events
no_item printer place left none = exact_there exact_stays (sym (ap (trivia_events printer.context) (items_none printer.tree.now place left none))) refl
