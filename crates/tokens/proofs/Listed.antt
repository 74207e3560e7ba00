-- Laws of a token of a list: what its lead-in has read says what it is, so what goes on behind its own bytes, or from its head on, goes on with the token.
use Rattle.std.specs.Prelude.{Option, Result, Some, None, Ok, Err}
use Rattle.answers.specs.declared.Refusal.{Refusal}
use mathlib.Core.Path.{◌≡◌, refl, sym, ap, ◌∙◌}
use mathlib.Core.List.{List, []}
use mathlib.Core.Bool.{Bool, true, false, ◌||◌}
use Prim.Native.Nat.{ℕ, ◌-◌, ◌/◌, ◌<◌, ◌≤◌}
use native.Mathlib.Omega.{arith}
use lib.Dec.{eqb}
use lib.ListN.{length, get_or}
use lib.Seq.{slice}
use Rattle.std.proofs.Common.{is_some}
use Rattle.tree.specs.Tree.{built}
use Rattle.tree.specs.Grammar.{fields}
use Rattle.tree.specs.Own.{read_own}
use Rattle.tree.specs.Parts.{skipped, first_class, second_field, field_head, head_at}
use Rattle.tree.specs.Reading.{read}
use Rattle.tree.specs.declared.grammar.Class.{Class}
use Rattle.tree.specs.declared.grammar.Class.TheVariants.{Word, BareToken, LocatedExpression, Mnemonic, DataSize, ExpressionArguments}
use Rattle.tree.specs.declared.grammar.Kind.{Kind}
use Rattle.tree.specs.declared.grammar.Kind.TheVariants as variant
use Rattle.tree.specs.declared.own.Own.{Own}
use Rattle.tree.specs.declared.parts.Head.{Head}
use Rattle.tree.specs.Grammar.{kind_number}
use Rattle.tree.proofs.KindLayout.{kind_number_lem}
use Rattle.tree.proofs.OwnBytes.{own_fits}
use Rattle.printing.specs.Events.{Events, nothing}
use Rattle.printing.specs.Running.{Run, run, place_of}
use Rattle.printing.specs.Running.{State}
use Rattle.events.specs.Printed.{Style, plain, printed}
use Rattle.events.specs.Trees.{Before, word, leaf, events_in}
use Rattle.events.specs.Views.{token_number}
use Rattle.events.proofs.Heads.{number_read}
use Rattle.events.proofs.OwnParts.{record_headed}
use Rattle.events.proofs.Refusals.{skip_passed}
use Rattle.leaves.specs.Records.{field_trees, fields_end}
use Rattle.leaves.specs.Leaves.{LeafClass}
use Rattle.leaves.proofs.Fielded.{bare, kind_read}
use Rattle.leaves.proofs.Leaves.{text_shown}
use Rattle.leaves.proofs.Records.{read_record}
use Rattle.printers.specs.declared.Printer.{Printer}
use Rattle.printers.specs.Going.{Page, page_of, or_refused, state_of, Goes}
use Rattle.printers.proofs.Going.{◌onward◌, there, runs_alike, tree_stays}
use Rattle.leads.proofs.Leads.{token_parts}
use Rattle.leads.specs.Leads.{lead_in, LeadsAs, LeadsIn}
use Rattle.tokens.specs.Inner.{sized_events, listed_events, GoesListed}
use Rattle.leads.specs.declared.Lead.{Lead}
use Rattle.tokens.proofs.Cycle.{TokenRead, token_read_lem}

-- ---- a head that is printed where it was read, wherever the walk is

-- the text of a leaf
pub text_there : {before after : Printer} (class : Class) (levels : ℕ) (style : Style) (own : Own) (place : ℕ) → LeafClass class
    → read_own before.tree.now place class levels ≡ Ok own
    → Goes before after (λ page at. word page.context (printed page.context style (slice own.text own.end page.tree))) (λ page at. own.end)
    → Goes before after (λ page at. events_in page.context (leaf style) false (read levels page.tree class place).tree)
    (λ page at. (read levels page.tree class place).end)
text_there {before} class levels style own place leaves is goes = record {
  page = goes.page;
  room = goes.room;
  shown = text_shown before.tree.now class leaves place before.context style levels own is goes.shown;
}

-- ---- what was read

-- a second field was found behind the first
second_behind : (levels : ℕ) (class : Class) (head : Head) (first : Result ℕ Refusal) → second_field levels class first ≡ Ok head
    → (first ≡ Ok head.place) × (head.class ≡ class) × (head.levels ≡ levels)
second_behind levels class head (Ok place) e =
    let same : record { place = place; class = class; levels = levels } ≡ head = cc in rw (← same) (refl, refl, refl)
second_behind levels class head (Err why) e = cc

-- a token of none of the numbers whose head lies elsewhere
abbrev HeadFirst : ℕ → Type 0
HeadFirst number = ((eqb number 2 || eqb number 3) ≡ false) × (eqb number 9 ≡ false) × (eqb number 5 ≡ false) × (eqb number 28 ≡ false)

module _ (levels : ℕ) (bytes : List ℕ) (at : ℕ) (own : Own) (is : read_own bytes at BareToken levels ≡ Ok own) (head : Head)
    (found : head_at levels bytes BareToken at ≡ Ok head)
  where
    -- so where the head of a `Data` was found its values were skipped, and it is the size
    data_headed : get_or bytes at 0 ≡ 5
        → (skipped (levels - 1) bytes ExpressionArguments own.end ≡ Ok head.place) × (head.class ≡ DataSize) × (head.levels ≡ levels - 1)
    unfolding head_at field_head
    data_headed five = second_behind (levels - 1) DataSize head _ (rw (is, five) at found)

    -- that of another token is its first field
    first_headed : (number : ℕ) (kind : Kind) → HeadFirst number → get_or bytes at 0 ≡ number → own.kind ≡ kind
        → record { place = own.end; class = first_class BareToken (fields kind LocatedExpression); levels = levels - 1 } ≡ head
    unfolding head_at field_head
    first_headed number kind others is_number is-kind =
        let same : Ok (record { place = own.end; class = first_class BareToken (fields kind LocatedExpression); levels = levels - 1 }) ≡ Ok head =
        rw (is, is_number, is-kind, others.0, others.1, others.2, others.3) at found in
        cc

-- a walk that has no place of its own has ended
ended_of : (over : Option Refusal) (state : State) (at : ℕ) → place_of (or_refused over (Ok (state, at))) 0 ≡ 0
    → place_of (or_refused over (Ok (state, at))) 1 ≡ 1 → is_some over ≡ true
ended_of None state at zero_place one_place = absurd (omega (arith, zero_place, one_place))
ended_of (Some why) state at zero_place one_place = refl

-- ---- a token behind its lead-in

module _ {before between : Printer} {drops : Bool} {stood : Before} {levels : ℕ} {found : Option Lead}
    (leads : LeadsIn before between drops stood levels found)
  where
    -- where the walk ended before it
    over : found ≡ None → LeadsAs before between drops stood levels None
    over is = rw is at leads.leads

    pub listed_over : found ≡ None → GoesListed before between drops stood levels
    listed_over is = over is (λ page at. events_in page.context (leaf plain) false (read levels page.tree BareToken at).tree) _

    -- whatever comes behind, and wherever: so it has ended
    pub listed_ended : found ≡ None → is_some between.ended ≡ true
    listed_ended is =
        ended_of between.ended (state_of between) between.at (over is (λ page at. nothing) (λ page at. 0)).shown.next
        (over is (λ page at. nothing) (λ page at. 1)).shown.next

    module _ {lead : Lead} (is : found ≡ Some lead) where
      led : LeadsAs before between drops stood levels (Some lead)
      led = rw is at leads.leads

      pub lead_goes : Goes before between (λ page at. lead_in page.context drops stood (read levels page.tree BareToken at).tree) (λ page at. lead.token.end)
      lead_goes = led.1

      -- the token's own bytes, the head that was found, and its own
      parts : (read_own before.tree.now before.at BareToken levels ≡ Ok lead.token)
          × (head : Head) × (head_at levels before.tree.now BareToken before.at ≡ Ok head) × (read_own before.tree.now head.place head.class head.levels ≡ Ok lead.head)
      parts = token_parts levels before.tree.now before.at lead led.0

      -- its number is its kind's
      byte : kind_number lead.token.kind ≡ get_or before.tree.now before.at 0
      byte = kind_number_lem _ lead.token.kind (record_headed before.tree.now before.at BareToken levels lead.token parts.0).1.kind_is

      pub listed_number : token_number (read levels before.tree.now BareToken before.at).tree ≡ kind_number lead.token.kind
      listed_number = number_read levels before.tree.now BareToken before.at lead.token parts.0 ∙ sym byte

      -- what its own bytes say of it
      pub listed_read : TokenRead lead.token
      listed_read = token_read_lem BareToken before.tree.now before.at levels lead.token (refl, refl, refl) parts.0

      -- a level was left
      pub listed_levels : 0 < levels
      listed_levels = (read_record before.tree.now BareToken before.at levels lead.token parts.0).0

      -- the text of its head lies within the bytes
      pub head_text : (lead.head.text ≤ lead.head.end) × (lead.head.end ≤ length between.tree.now)
      head_text = let held = own_fits before.tree.now _ _ _ lead.head parts.3 in rw (tree_stays led.1) (held.part, held.inside)

      module _ (kind : Kind) (same : lead.token.kind ≡ kind) where
        -- where its head is its first field it was read there
        first_read : HeadFirst (kind_number kind)
            → read_own between.tree.now lead.token.end (first_class BareToken (fields kind LocatedExpression)) (levels - 1) ≡ Ok lead.head
        first_read first =
            let number = sym byte ∙ ap kind_number same in
            let here = first_headed levels before.tree.now before.at lead.token parts.0 parts.1 parts.2 (kind_number kind) kind first number same in
            rw (tree_stays led.1) (rw (← here) at parts.3)

        -- what goes on behind its own bytes goes on with the token, where its events are those of its fields
        pub listed_goes : {after : Printer} {events : Page → ℕ → Events} {end : Page → ℕ → ℕ} → bare kind ≡ false → Goes between after events end
            → ((x : Run) → run (events (page_of before) lead.token.end) x
            ≡ run (events_in before.context (leaf plain) true
            (built kind [] (field_trees (read (levels - 1) before.tree.now) (fields kind LocatedExpression) (lead.token.map / 2) lead.token.end))) x)
            → end (page_of before) lead.token.end
            ≡ fields_end (read (levels - 1) before.tree.now) (fields kind LocatedExpression) (lead.token.map / 2) lead.token.end
            → GoesListed before after drops stood levels
        unfolding events_in run
        listed_goes fielded goes alike ends =
            let token = kind_read before.tree.now BareToken before.at levels lead.token kind parts.0 same fielded in
            let first = lead_in before.context drops stood (read levels before.tree.now BareToken before.at).tree in
            there {events = λ page at. listed_events page.context drops stood (read levels page.tree BareToken at).tree}
            (runs_alike (led.1 onward goes) (λ x.
            alike (run first x) ∙ ap (λ tree. run (events_in before.context (leaf plain) false tree) (run first x)) (sym token.0))) refl (ends ∙ sym token.1)

      -- the head of an `Instruction` is its mnemonic
      pub mnemonic_read : lead.token.kind ≡ variant.Instruction → read_own between.tree.now lead.token.end Mnemonic (levels - 1) ≡ Ok lead.head
      unfolding built
      mnemonic_read kind = first_read variant.Instruction kind (refl, refl, refl, refl)

      -- that of a `Label` is its id
      pub id_read : lead.token.kind ≡ variant.Label → read_own between.tree.now lead.token.end Word (levels - 1) ≡ Ok lead.head
      unfolding built
      id_read kind = first_read variant.Label kind (refl, refl, refl, refl)

      -- of a `Data` the values were skipped on the way to the size, so they hold no refusal, and what goes on from the size on goes on with both
      pub listed_data : {after : Printer} → lead.token.kind ≡ variant.Data
          → ((place : ℕ) → read_own between.tree.now place DataSize (levels - 1) ≡ Ok lead.head
          → Goes between after (λ page values. sized_events page.context (read (levels - 1) page.tree) values place)
          (λ page values. (read (levels - 1) page.tree DataSize place).end))
          → GoesListed before after drops stood levels
      unfolding built field_trees fields_end events_in run
      listed_data kind goes =
          let size = data_headed levels before.tree.now before.at lead.token parts.0 parts.1 parts.2 (sym byte ∙ ap kind_number kind) in
          let passed = skip_passed (levels - 1) before.tree.now ExpressionArguments lead.token.end parts.1.place size.0 in
          let sized = goes parts.1.place (ap (λ bytes. read_own bytes parts.1.place DataSize (levels - 1)) (tree_stays led.1) ∙ rw (size.1, size.2) at parts.3) in
          listed_goes variant.Data kind refl sized (λ x. rw (passed.0, passed.1) refl) (rw passed.1 refl)
