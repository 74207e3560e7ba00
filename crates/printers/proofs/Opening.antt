-- Records that were opened: what is printed of the fields, or of the items, behind own bytes is printed of the record.
use mathlib.Core.Path.{◌≡◌, refl, sym, ap, ◌∙◌}
use mathlib.Core.Bool.{Bool, true, false, cond}
use Prim.Native.Nat.{ℕ, ◌-◌, ◌/◌, ◌<◌, ◌≤◌}
use native.Mathlib.Omega.{arith}
use lib.ListN.{length, get_or}
use Rattle.std.specs.Prelude.{Option, Result, Some, None, Ok, Err}
use Rattle.std.proofs.Common.{is_some}
use Rattle.answers.specs.declared.Refusal.{Refusal}
use Rattle.text.proofs.Choices.{by_test}
use Rattle.tree.specs.Tree.{Tree, node, built, chain}
use Rattle.tree.specs.Grammar.{kind_of, rule}
use Rattle.tree.specs.Own.{read_own, Fits}
use Rattle.tree.specs.Reading.{trivia_of, read}
use Rattle.tree.specs.declared.grammar.Class.{Class}
use Rattle.tree.specs.declared.grammar.Kind.{Kind}
use Rattle.tree.specs.declared.grammar.Kind.TheVariants as variant
use Rattle.tree.specs.declared.own.Own.{Own}
use Rattle.tree.specs.Grammar.{kind_number}
use Rattle.tree.proofs.KindLayout.{kind_number_lem}
use Rattle.tree.proofs.KindNumbers.{numbered}
use Rattle.printing.specs.Events.{Events, nothing, stop, ◌▹◌}
use Rattle.printing.specs.Running.{run}
use Rattle.events.specs.Printed.{plain}
use Rattle.events.specs.Trees.{Place, leaf, trivia_events, events_in}
use Rattle.events.proofs.OwnParts.{record_headed}
use Rattle.leaves.specs.Items.{items_at}
use Rattle.leaves.specs.Lists.{item_trees, items_end}
use Rattle.leaves.proofs.Leaves.{own_items}
use Rattle.leaves.proofs.Records.{read_refused, read_record}
use Rattle.leaves.proofs.Fielded.{bare, kind_read, list_read, standing_range}
use Rattle.printers.specs.declared.Printer.{Printer}
use Rattle.printers.specs.Going.{Page, page_of, Goes, GoesExact}
use Rattle.printers.specs.Records.{GoesField, GoesKind, OpensAs, own_read, opened_by, Opens}
use Rattle.printers.proofs.Going.{◌onward◌, there, over_before, stopped_by}
use Rattle.printers.proofs.Exact.{exact_alike}

-- the trivia of own bytes that were read are those of reading
pub trivia_read : {before after : Printer} (own : Own) (shown : Bool) {found : Result Own Refusal} → Fits before.tree.now before.at found → found ≡ Ok own
    → GoesExact before after (λ page at. cond shown (trivia_events page.context (items_at page.tree own.trivia own.trivia_count)) nothing ▹ nothing) (λ page at. own.end)
    → GoesExact before after (λ page at. cond shown (trivia_events page.context (trivia_of page.tree own)) nothing) (λ page at. own.end)
unfolding run
trivia_read {before} own shown fits is goes =
    exact_alike goes (λ x. ap (λ items. run (cond shown (trivia_events before.context items) nothing) x) (own_items before.tree.now before.at own fits is))

-- own bytes that are none were refused
none_read : (found : Result Own Refusal) → None ≡ own_read found → (why : Refusal) × (found ≡ Err why)
none_read (Ok own) none = let z : ◌≡◌ {A = ℕ} 0 1 = cc in absurd (omega arith)
none_read (Err why) none = (why, refl)

module _ {before between : Printer} {shown : Bool} {levels : ℕ} {class : Class} {stands : Bool} {found : Option Own}
    (opens : Opens before between shown levels class stands found)
  where
    -- where nothing is left to print of it
    pub closed : (place : Place) → found ≡ None → GoesField before between place shown levels class stands
    closed place is = let shut : OpensAs before between shown levels class stands None = rw is at opens.opened in shut place

    -- and the record must stand, the walk has ended, whatever comes behind its refusal
    pub closed_first : {first next : Page → ℕ → Events} {end : Page → ℕ → ℕ} → found ≡ None → stands ≡ true
        → ((why : Refusal) → read_own before.tree.now before.at class levels ≡ Err why → first (page_of before) before.at ≡ stop why)
        → Goes before between (λ page at. first page at ▹ next page at) end
    unfolding events_in opened_by
    closed_first is stood says =
        let shut = closed (leaf plain) is in
        let reading = read_own before.tree.now before.at class levels in
        by_test (is_some before.ended)
        (λ over. over_before over shut)
        (λ on.
        let why = none_read reading (sym is ∙ rw (stood, on) at opens.answer) in
        let refused = (read_refused before.tree.now class before.at levels why.0 why.1).0 in
        stopped_by why.0 shut on (rw (stood, refused) refl) (says why.0 why.1))

    module _ {own : Own} (is : found ≡ Some own) where
      -- its own bytes were read, and its trivia are printed
      pub opened_own : OpensAs before between shown levels class stands (Some own)
      opened_own = rw is at opens.opened

      -- a level was left
      pub opened_levels : 0 < levels
      opened_levels = (read_record before.tree.now class before.at levels own opened_own.1).0

      -- where they stand
      pub opened_fits : (own.text ≤ own.end) × (own.end ≤ length before.tree.now)
      opened_fits = (opened_own.2.part, opened_own.2.inside)

      -- its number is one that may stand
      pub opened_range : (rule class).items ≡ None
          → (kind_number (rule class).first ≤ kind_number own.kind) × (kind_number own.kind ≤ kind_number (rule class).last)
      opened_range none =
          let headed = (record_headed before.tree.now before.at class levels own opened_own.1).1 in
          let number = kind_number_lem (get_or before.tree.now before.at 0) own.kind headed.kind_is in
          rw number (standing_range (rule class) (get_or before.tree.now before.at 0) none headed.standing)

      -- and says which kind it is
      pub opened_by_number : (number : ℕ) (kind : Kind) → kind_number own.kind ≡ number → kind_of number ≡ Some kind → own.kind ≡ kind
      opened_by_number number kind same known =
          let found = (record_headed before.tree.now before.at class levels own opened_own.1).1.kind_is in
          let here : get_or before.tree.now before.at 0 ≡ number = sym (kind_number_lem (get_or before.tree.now before.at 0) own.kind found) ∙ same in
          let both : kind_of number ≡ Some own.kind = rw here at found in
          cc

      -- where only one may stand it is that
      pub opened_one : (kind : Kind) → (rule class).items ≡ None → (rule class).first ≡ kind → (rule class).last ≡ kind → own.kind ≡ kind
      opened_one kind none low high =
          let range = opened_range none in
          opened_by_number (kind_number kind) kind (omega (arith, range, ap kind_number low, ap kind_number high)) (numbered kind)

      module _ (place : Place) {after : Printer} where
        -- what is printed behind own bytes is printed of the record
        pub opened_as : {tree : Tree} {end : ℕ} {events : Page → ℕ → Events} {behind : Page → ℕ → ℕ}
            → ((at : ℕ) → read_own before.tree.now at class levels ≡ Ok own
            → ((read levels before.tree.now class at).tree ≡ node at (trivia_of before.tree.now own) tree) × ((read levels before.tree.now class at).end ≡ end))
            → Goes between after events behind
            → events (page_of before) own.end ≡ events_in before.context place true tree → behind (page_of before) own.end ≡ end
            → GoesField before after place shown levels class stands
        unfolding events_in
        opened_as read goes same ends =
            let read_as = read before.at opened_own.1 in
            rw opened_own.0
            (there (opened_own.3 onward goes)
            (ap (λ rest. cond shown (trivia_events before.context (trivia_of before.tree.now own)) nothing ▹ rest) same
            ∙ ap (events_in before.context place shown) (sym read_as.0))
            (ends ∙ sym read_as.1))

        -- of a kind with fields
        pub opened_kind : (kind : Kind) → own.kind ≡ kind → bare kind ≡ false
            → GoesKind between after place kind (rule class).value (own.map / 2) (levels - 1)
            → GoesField before after place shown levels class stands
        opened_kind kind same other goes =
            opened_as (λ at read. kind_read before.tree.now class at levels own kind read same other) goes refl refl

        -- of a list
        pub opened_list : (item : Class) → own.kind ≡ variant.Vec → (rule class).items ≡ Some item
            → Goes between after (λ page at. events_in page.context place true (chain (item_trees (read (levels - 1) page.tree) item own.count at)))
            (λ page at. items_end (read (levels - 1) page.tree) item own.count at)
            → GoesField before after place shown levels class stands
        unfolding events_in built
        opened_list item same items goes =
            opened_as (λ at read. list_read before.tree.now class item at levels own read same items) goes refl refl
