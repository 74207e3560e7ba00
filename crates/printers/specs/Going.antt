-- What a printer promises of the struct that it goes on in.
use Rattle.std.specs.Prelude.{ℕ, ◌≡◌, List, Option, Some, None, Result, Ok, Err}
use Rattle.answers.specs.Numbers.{numbers_of}
use Rattle.answers.specs.declared.Refusal.{Refusal}
use Rattle.answers.specs.declared.Reason.TheVariants.{WorkRoom}
use Rattle.printing.specs.Events.{Events}
use Rattle.printing.specs.Running.{State, Run, going, ended, run, Printed, outcome, Shown}
use Rattle.printing.specs.declared.Context.{Context}
use Rattle.printers.specs.declared.Printer.{Printer}
use Rattle.printers.specs.declared.Walked.{Walked}

-- what is read, and how it is printed: no printer changes it
pub record Page : Type 0 where
  pub tree : List ℕ
  pub context : Context

abbrev pub page_of : Printer → Page
page_of printer = record { tree = printer.tree.now; context = printer.context }

-- where the walk is, or why it ended
abbrev pub or_refused : Option Refusal → Printed → Printed
or_refused None answer = answer
or_refused (Some why) answer = Err why

abbrev pub state_of : Printer → State
state_of printer = record { used = printer.used; solid = printer.solid; spaced = printer.spaced; full = 0 }

abbrev pub answer_of : Printer → Printed
answer_of printer = or_refused printer.ended (Ok (state_of printer, printer.at))

abbrev pub run_of : Printer → Run
run_of printer = outcome (answer_of printer) printer.room.now

-- what a walk says of its run by itself: how much of the room is used, and the place behind what was read; or why it ended
abbrev pub walked_of : Run → ℕ → Result Walked Refusal
walked_of (going room state) end = Ok (record { used = state.used; at = end })
walked_of (ended room why) end = Err why

-- in document 01's numbers: 0 with how much of the room is used, or those of why it ended
abbrev pub numbers_walked : Result Walked Refusal → ℕ × ℕ
numbers_walked (Ok walked) = (0, walked.used)
numbers_walked (Err why) = numbers_of why

abbrev pub walked_numbers : Option Refusal → ℕ → ℕ × ℕ
walked_numbers None used = (0, used)
walked_numbers (Some why) used = numbers_of why

-- the events at the old place are run, and the new place is the one behind them; the page and whose room it is stay
pub record Goes (before after : Printer) (events : Page → ℕ → Events) (end : Page → ℕ → ℕ) : Type 0 where
  pub page : page_of after ≡ page_of before
  pub room : after.room.ghost_name ≡ before.room.ghost_name
  pub shown : Shown (answer_of after) after.room.now (events (page_of before) before.at) (run_of before) (end (page_of before) before.at)

-- ---- the state by itself, which `Goes` says nothing of where the walk has ended

-- the walk goes on, or it ended where a chunk did not fit, and not at a reading's refusal
abbrev pub ByRoom : Option Refusal → Type 0
ByRoom None = Unit
ByRoom (Some why) = (why.reason ≡ WorkRoom) × (why.place ≡ 0 → ⊥)

-- the length that did not fit, 0 where the walk goes on
abbrev pub lacking : Option Refusal → ℕ
lacking None = 0
lacking (Some why) = why.place

-- the state, full or not
abbrev pub held_of : Printer → State
held_of printer = record { used = printer.used; solid = printer.solid; spaced = printer.spaced; full = lacking printer.ended }

-- the events leave this state too, full or not: a full one is only told of spaces and of newlines that are dropped
pub record Keeps (before after : Printer) (events : Page → ℕ → Events) (end : Page → ℕ → ℕ) : Type 0 where
  pub state : ByRoom before.ended → run (events (page_of before) before.at) (going before.room.now (held_of before)) ≡ going after.room.now (held_of after)
  pub by_room : ByRoom before.ended → ByRoom after.ended
  pub place : after.at ≡ end (page_of before) before.at

-- both
pub record GoesExact (before after : Printer) (events : Page → ℕ → Events) (end : Page → ℕ → ℕ) : Type 0 where
  pub goes : Goes before after events end
  pub keeps : Keeps before after events end
