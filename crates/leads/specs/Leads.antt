-- What stands before a token of a list, and how it is found.
use Rattle.answers.specs.declared.Refusal.{Refusal}
use Rattle.std.specs.Prelude.{ℕ, ◌≡◌, List, Bool, Option, Some, None, cond, Result, Ok, Err}
use Rattle.std.proofs.Common.{is_some}
use Rattle.answers.specs.Numbers.{unless_refused}
use Rattle.tree.specs.Tree.{Tree}
use Rattle.tree.specs.Own.{read_own, numbers_own, own_numbers}
use Rattle.tree.specs.Parts.{head_at}
use Rattle.tree.specs.Reading.{read}
use Rattle.tree.specs.declared.grammar.Class.TheVariants.{BareToken}
use Rattle.tree.specs.declared.grammar.Kind.{Kind}
use Rattle.tree.specs.declared.own.Own.{Own}
use Rattle.tree.specs.declared.parts.Head.{Head}
use Rattle.tree.specs.Grammar.{kind_number}
use Rattle.printing.specs.Events.{Events, ◌▹◌}
use Rattle.printing.specs.Running.{run, settled, room_of, numbers_printed}
use Rattle.printing.specs.declared.Context.{Context}
use Rattle.events.specs.Views.{head_trivia, token_number, has_block}
use Rattle.events.specs.Refusals.{head_refusal}
use Rattle.events.specs.Trees.{stop_at, list_trivia, Before, first, behind, break_before}
use Rattle.printers.specs.Going.{Page, answer_of, run_of, Goes, Keeps}
use Rattle.printers.specs.declared.Printer.{Printer}
use Rattle.leads.specs.declared.Before as code
use Rattle.leads.specs.declared.Lead.{Lead}

-- what stood before, by the kind of the token before in the list
abbrev pub before_of : Option Kind → Before
before_of None = first
before_of (Some kind) = behind (kind_number kind)

-- and by the number of its kind
abbrev pub before_said : code.Before → Before
before_said said = cond said.first first (behind said.previous)

-- two that the newline rule takes for the same, before a token of whatever kind
abbrev pub BreaksAlike : Before → Before → Type 0
BreaksAlike one other =
    (context : Context) → (kind : Kind) → (block : Bool)
    → break_before context one (kind_number kind) block ≡ break_before context other (kind_number kind) block

-- the trivia of a token's head, and a newline by the rule
abbrev pub lead_in : Context → Bool → Before → Tree → Events
lead_in context drops before item =
    stop_at (head_refusal item) ▹ list_trivia context drops (head_trivia item) ▹ break_before context before (token_number item) (has_block item)

-- ---- the token that is read: its own bytes, and those of its head

abbrev pub head_own : List ℕ → Result Head Refusal → Result Own Refusal
head_own bytes (Ok head) = read_own bytes head.place head.class head.levels
head_own bytes (Err why) = Err why

abbrev pub lead_on : Result Own Refusal → Result Own Refusal → Result Lead Refusal
lead_on (Ok token) (Ok head) = Ok (record { token = token; head = head })
lead_on (Ok token) (Err why) = Err why
lead_on (Err why) head = Err why

abbrev pub token_read : ℕ → List ℕ → ℕ → Result Lead Refusal
token_read levels bytes at = lead_on (read_own bytes at BareToken levels) (head_own bytes (head_at levels bytes BareToken at))

-- ---- a token whose lead-in was printed

-- its own bytes were read and those of its head too, and the walk goes on behind its own; or it ended there, whatever comes behind
abbrev pub LeadsAs : Printer → Printer → Bool → Before → ℕ → Option Lead → Type 0
LeadsAs before after drops stood levels (Some lead) =
    (token_read levels before.tree.now before.at ≡ Ok lead)
    × Goes before after (λ page at. lead_in page.context drops stood (read levels page.tree BareToken at).tree) (λ page at. lead.token.end)
LeadsAs before after drops stood levels None =
    (next : Page → ℕ → Events) (end : Page → ℕ → ℕ)
    → Goes before after (λ page at. lead_in page.context drops stood (read levels page.tree BareToken at).tree ▹ next page at) end

-- the one answer of `format_lead_in`: a token is ready where the walk goes on and what is due of it is read
abbrev pub lead_found : Result Lead Refusal → Option Lead
lead_found (Ok lead) = Some lead
lead_found (Err why) = None

unfoldable pub lead_by : Printer → ℕ → Option Lead
lead_by before levels = cond (is_some before.ended) None (lead_found (token_read levels before.tree.now before.at))

-- nothing is written where none is ready; else the room is what a run of its lead-in leaves
abbrev pub lead_room : Printer → Bool → Before → ℕ → Option Lead → List ℕ
lead_room before drops stood levels None = before.room.now
lead_room before drops stood levels (Some lead) =
    room_of (settled (run (lead_in before.context drops stood (read levels before.tree.now BareToken before.at).tree) (run_of before)))

-- and the state behind its lead-in is what that leaves, full or not
abbrev pub KeepsLead : Printer → Printer → Bool → Before → ℕ → Option Lead → Type 0
KeepsLead before after drops stood levels None = Unit
KeepsLead before after drops stood levels (Some lead) =
    Keeps before after (λ page at. lead_in page.context drops stood (read levels page.tree BareToken at).tree) (λ page at. lead.token.end)

-- in document 01's numbers: 0 with the place behind the token's own bytes, or those of the answer
abbrev pub numbers_lead : Option Lead → Printer → ℕ × ℕ
numbers_lead (Some lead) after = (0, lead.token.end)
numbers_lead None after = numbers_printed (answer_of after)

-- those of reading the token's own bytes and then its head's, from the bytes
unfoldable pub lead_numbers : Printer → ℕ → ℕ × ℕ
lead_numbers before levels =
    let bytes = before.tree.now in
    let token = own_numbers bytes before.at BareToken levels in
    let head = numbers_own (head_own bytes (head_at levels bytes BareToken before.at)) in
    cond (is_some before.ended) (numbers_printed (answer_of before)) (unless_refused token (unless_refused head token))

pub record LeadsIn (before after : Printer) (drops : Bool) (stood : Before) (levels : ℕ) (lead : Option Lead) : Type 0 where
  pub leads : LeadsAs before after drops stood levels lead
  pub answer : lead ≡ lead_by before levels
  pub room : after.room.now ≡ lead_room before drops stood levels lead
  pub held : KeepsLead before after drops stood levels lead
  pub numbers : numbers_lead lead after ≡ lead_numbers before levels
