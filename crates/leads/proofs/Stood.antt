-- What stood before by a number: to the newline rule one of no kind is like an `Error`.
use mathlib.Core.Path.{◌≡◌, refl, sym, ap, ◌∙◌}
use mathlib.Core.List.{map}
use mathlib.Core.Bool.{Bool, true, false, cond, not, ◌&&◌, ◌||◌}
use Prim.Native.Nat.{ℕ, ◌<◌, ◌≤◌}
use native.Mathlib.Omega.{arith}
use lib.Dec.{eqb}
use lib.ListN.{length, get_or, get_or-eq_default}
use Rattle.std.specs.Prelude.{Option, Result, Some, None, Ok, Err}
use Rattle.std.proofs.Common.{is_some}
use Rattle.answers.specs.declared.Refusal.{Refusal}
use Rattle.text.proofs.Choices.{by_test}
use Rattle.tree.specs.Kinds as kinds
use Rattle.tree.specs.Grammar.{all_kinds, kind_of, kind_number}
use Rattle.tree.specs.declared.grammar.Kind.{Kind}
use Rattle.tree.specs.declared.grammar.Kind.TheVariants as variant
use Rattle.tree.specs.Tree.{Tree}
use Rattle.tree.specs.Reading.{read}
use Rattle.tree.specs.declared.grammar.Class.TheVariants.{BareToken, CloseBrace}
use Rattle.tree.proofs.Heads.{kind_read}
use Rattle.tree.proofs.KindLayout.{kind_number_lem}
use Rattle.tree.proofs.KindNumbers.{none_at, numbered}
use Rattle.printing.specs.Events.{Events, nothing, ◌▹◌}
use Rattle.printing.specs.Running.{going, ended, run, settled, room_of}
use Rattle.printing.proofs.Running.{run_ended, shows}
use Rattle.events.specs.Refusals.{head_refusal, own_refusal}
use Rattle.events.specs.Views.{head_trivia, own_trivia, token_number, has_block}
use Rattle.events.proofs.Heads.{number_read}
use Rattle.events.specs.Trees.{Before, one_of, breaks, break_before, newline, behind, stop_at, list_trivia, block_end, closing_events}
use Rattle.printers.specs.declared.Printer.{Printer}
use Rattle.printers.specs.Going.{Page, page_of, state_of, held_of, run_of, Goes}
use Rattle.printers.proofs.Going.{there, over_before, not_over}
use Rattle.leads.specs.Leads.{BreaksAlike, lead_in, token_read, lead_found, lead_by, LeadsIn}
use Rattle.leads.specs.declared.Lead.{Lead}
use Rattle.leads.proofs.Leads.{token_parts, token_refused}

-- no kind has a number past the last
pub past_kinds : (number : ℕ) → 255 < number → kind_of number ≡ None
past_kinds number past = let long : length (map Some all_kinds) ≤ number = omega (arith, past) in get_or-eq_default (map Some all_kinds) None long

-- the rule behind a token that it names nowhere, before one of another kind
abbrev plainly : Kind → Bool → Bool
plainly kind block = not (eqb (kind_number kind) kinds.error) && cond (eqb (kind_number kind) kinds.label) (block || false) true

-- behind an `Error`
error_breaks : (kind : Kind) (block : Bool) → plainly kind block ≡ breaks (kind_number variant.Error) (kind_number kind) block
unfolding one_of
error_breaks variant.Align block = refl
error_breaks other block = refl

-- and behind a number of no kind
none_breaks : (number : ℕ) → kind_of number ≡ None → (kind : Kind) (block : Bool) → breaks number (kind_number kind) block ≡ plainly kind block
unfolding one_of
none_breaks number none kind block =
    let apart = none_at number none in
    rw (
      apart (kind_number kind) kind (numbered kind),
      apart 2 variant.Braces refl,
      apart 10 variant.If refl,
      apart 1 variant.Assert refl,
      apart 22 variant.Trace refl,
      apart 5 variant.Data refl,
      apart 21 variant.Text refl,
      apart 13 variant.Instruction refl,
      apart 17 variant.MacroInvocation refl,
    )

pub none_alike : (number : ℕ) → kind_of number ≡ None → BreaksAlike (behind number) (behind (kind_number variant.Error))
none_alike number none context kind block =
    ap (λ test. cond test (newline context) nothing) (none_breaks number none kind block ∙ error_breaks kind block)

-- ---- so what is promised of the one is promised of the other

none_found : (found : Result Lead Refusal) → None ≡ lead_found found → (why : Refusal) × (found ≡ Err why)
none_found (Ok lead) none = let z : ◌≡◌ {A = ℕ} 0 1 = cc in absurd (omega arith)
none_found (Err why) none = (why, refl)

module _ (before after : Printer) (drops : Bool) (said stood : Before) (alike : BreaksAlike said stood) (levels : ℕ) where
  -- the token's tree
  abbrev item : Tree
  item = (read levels before.tree.now BareToken before.at).tree

  -- of a token that was read
  lead_alike : (lead : Lead) → token_read levels before.tree.now before.at ≡ Ok lead
      → lead_in before.context drops stood item ≡ lead_in before.context drops said item
  lead_alike lead is =
      let bytes = before.tree.now in
      let token = lead.token in
      let reads = (token_parts levels bytes before.at lead is).0 in
      let number : token_number item ≡ kind_number token.kind =
      number_read levels bytes BareToken before.at token reads
      ∙ sym (kind_number_lem (get_or bytes before.at 0) token.kind (kind_read bytes before.at BareToken levels token reads)) in
      let same : break_before before.context stood (token_number item) (has_block item) ≡ break_before before.context said (token_number item) (has_block item) =
      rw number (sym (alike before.context token.kind (has_block item))) in
      ap (λ newline. stop_at (head_refusal item) ▹ list_trivia before.context drops (head_trivia item) ▹ newline) same

  -- one that was refused ends the walk before the newline
  lead_met : is_some before.ended ≡ false → (why : Refusal) → head_refusal item ≡ Err why → (stands : Before) (next : Events)
      → settled (run (lead_in before.context drops stands item ▹ next) (run_of before)) ≡ ended before.room.now why
  unfolding run
  lead_met on why met stands next =
      let rest = list_trivia before.context drops (head_trivia item) ▹ break_before before.context stands (token_number item) (has_block item) in
      rw (not_over before.ended (Ok (state_of before, before.at)) on, met)
      (ap settled (ap (run next) (run_ended rest before.room.now why) ∙ run_ended next before.room.now why))

  over_alike : LeadsIn before after drops stood levels None → (next : Page → ℕ → Events) (end : Page → ℕ → ℕ)
      → Goes before after (λ page at. lead_in page.context drops said (read levels page.tree BareToken at).tree ▹ next page at) end
  unfolding lead_by
  over_alike leads next end =
      let goes = leads.leads next end in
      by_test (is_some before.ended)
      (λ over. over_before over goes)
      (λ on.
      let why = none_found (token_read levels before.tree.now before.at) (rw on at leads.answer) in
      let met = token_refused levels before.tree.now before.at why.0 why.1 in
      let behind = next (page_of before) before.at in
      record {
        page = goes.page;
        room = goes.room;
        shown = shows (goes.shown.state ∙ lead_met on why.0 met stood behind ∙ sym (lead_met on why.0 met said behind)) goes.shown.next;
      })

  pub leads_said : {lead : Option Lead} → LeadsIn before after drops stood levels lead → LeadsIn before after drops said levels lead
  leads_said {lead = None} leads =
      record { leads = over_alike leads; answer = leads.answer; room = leads.room; held = tt; numbers = leads.numbers }
  leads_said {lead = Some lead} leads =
      let same = lead_alike lead leads.leads.0 in
      record {
        leads = (leads.leads.0, there leads.leads.1 same refl);
        answer = leads.answer;
        room = leads.room ∙ ap (λ (events : Events). room_of (settled (run events (run_of before)))) same;
        held = record {
          state = λ by_room. ap (λ (events : Events). run events (going before.room.now (held_of before))) (sym same) ∙ leads.held.state by_room;
          by_room = leads.held.by_room;
          place = leads.held.place;
        };
        numbers = leads.numbers;
      }

  -- and behind the last token of a block
  pub closing_said : Goes before after
      (λ page at. closing_events page.context drops stood (block_end (read levels page.tree CloseBrace at).tree)) (λ page at. at)
      → Goes before after (λ page at. closing_events page.context drops said (block_end (read levels page.tree CloseBrace at).tree)) (λ page at. at)
  closing_said goes =
      let brace = (read levels before.tree.now CloseBrace before.at).tree in
      there goes
      (ap (λ newline. stop_at (own_refusal brace) ▹ list_trivia before.context drops (own_trivia brace) ▹ newline)
      (sym (alike before.context variant.Eof false))) refl
