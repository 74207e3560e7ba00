-- What printers of records promise: the events of the record at the place where the walk is, whatever bytes stand there.
use Rattle.std.specs.Prelude.{ℕ, ◌≡◌, List, [], Option, Some, None, Bool, true, cond, not, ◌&&◌, Result, Ok, Err}
use Rattle.std.proofs.Common.{is_some}
use Rattle.answers.specs.declared.Refusal.{Refusal}
use Rattle.tree.specs.Tree.{absent, built}
use Rattle.tree.specs.Grammar.{fields}
use Rattle.tree.specs.Own.{read_own, OwnFits, own_end, own_numbers}
use Rattle.tree.specs.Reading.{trivia_of, read}
use Rattle.tree.specs.declared.grammar.Class.{Class}
use Rattle.tree.specs.declared.grammar.Class.TheVariants.{LocatedExpression}
use Rattle.tree.specs.declared.grammar.Kind.{Kind}
use Rattle.tree.specs.declared.own.Own.{Own}
use Rattle.printing.specs.Events.{nothing}
use Rattle.printing.specs.Running.{run, settled, room_of, numbers_printed}
use Rattle.events.specs.Printed.{Style, plain}
use Rattle.events.specs.Trees.{Place, leaf, trivia_events, skipping, events_in}
use Rattle.leaves.specs.Leaves.{own_events}
use Rattle.leaves.specs.Records.{field_trees, fields_end}
use Rattle.printers.specs.Going.{answer_of, run_of, Goes, Keeps}
use Rattle.printers.specs.declared.Printer.{Printer}

-- the record of a class
abbrev pub GoesRecord : Printer → Printer → Place → Bool → ℕ → Class → Type 0
GoesRecord before after place shown levels class =
    Goes before after (λ page at. events_in page.context place shown (read levels page.tree class at).tree)
    (λ page at. (read levels page.tree class at).end)

-- the same of a field that may stand or not
abbrev pub GoesField : Printer → Printer → Place → Bool → ℕ → Class → Bool → Type 0
GoesField before after place shown levels class stands =
    Goes before after (λ page at. events_in page.context place shown (cond stands (read levels page.tree class at).tree absent))
    (λ page at. cond stands (read levels page.tree class at).end at)

-- a record of a kind whose own bytes were read; `value` is the class of an argument's value
abbrev pub GoesKind : Printer → Printer → Place → Kind → Class → ℕ → ℕ → Type 0
GoesKind before after place kind value bits levels =
    Goes before after
    (λ page at. events_in page.context place true (built kind [] (field_trees (read levels page.tree) (fields kind value) bits at)))
    (λ page at. fields_end (read levels page.tree) (fields kind value) bits at)

-- the same of a kind that prints alike wherever it stands, and that is no argument
abbrev pub GoesNode : Printer → Printer → Kind → ℕ → ℕ → Type 0
GoesNode before after kind bits levels = GoesKind before after (leaf plain) kind LocatedExpression bits levels

-- a record by its own bytes, which may stand or not: its trivia where they are shown, and its text in a style
abbrev pub GoesOwn : Printer → Printer → Style → Bool → ℕ → Class → Bool → Type 0
GoesOwn before after style shown levels class stands =
    Goes before after
    (λ page at. cond stands (own_events page.context style shown page.tree (read_own page.tree at class levels)) nothing)
    (λ page at. cond stands (own_end at (read_own page.tree at class levels)) at)

-- ---- a record that is opened

-- its own bytes were read and its trivia are printed; or nothing is left to print of it
abbrev pub OpensAs : Printer → Printer → Bool → ℕ → Class → Bool → Option Own → Type 0
OpensAs before after shown levels class stands None = (place : Place) → GoesField before after place shown levels class stands
OpensAs before after shown levels class stands (Some own) =
    (stands ≡ true) × (read_own before.tree.now before.at class levels ≡ Ok own) × OwnFits before.tree.now before.at own
    × Goes before after (λ page at. cond shown (trivia_events page.context (trivia_of page.tree own)) nothing) (λ page at. own.end)

-- the one answer of `open`: a record is opened where the walk goes on, the record stands and its own bytes are read
abbrev pub own_read : Result Own Refusal → Option Own
own_read (Ok own) = Some own
own_read (Err why) = None

unfoldable pub opened_by : Printer → ℕ → Class → Bool → Option Own
opened_by before levels class stands = cond (stands && not (is_some before.ended)) (own_read (read_own before.tree.now before.at class levels)) None

-- nothing is written where none is opened; else the room is what a run of its trivia leaves
abbrev pub opened_room : Printer → Bool → Option Own → List ℕ
opened_room before shown None = before.room.now
opened_room before shown (Some own) =
    room_of (settled (run (cond shown (trivia_events before.context (trivia_of before.tree.now own)) nothing) (run_of before)))

-- and the state behind its trivia is what they leave, full or not
abbrev pub KeepsOpened : Printer → Printer → Bool → Option Own → Type 0
KeepsOpened before after shown None = Unit
KeepsOpened before after shown (Some own) =
    Keeps before after (λ page at. cond shown (trivia_events page.context (trivia_of page.tree own)) nothing) (λ page at. own.end)

-- in document 01's numbers: 0 with the place behind the own bytes, or those of the answer
abbrev pub numbers_opened : Option Own → Printer → ℕ × ℕ
numbers_opened (Some own) after = (0, own.end)
numbers_opened None after = numbers_printed (answer_of after)

unfoldable pub opened_numbers : Printer → ℕ → Class → Bool → ℕ × ℕ
opened_numbers before levels class stands =
    cond (stands && not (is_some before.ended)) (own_numbers before.tree.now before.at class levels) (numbers_printed (answer_of before))

pub record Opens (before after : Printer) (shown : Bool) (levels : ℕ) (class : Class) (stands : Bool) (found : Option Own) : Type 0 where
  pub opened : OpensAs before after shown levels class stands found
  pub answer : found ≡ opened_by before levels class stands
  pub room : after.room.now ≡ opened_room before shown found
  pub held : KeepsOpened before after shown found
  pub numbers : numbers_opened found after ≡ opened_numbers before levels class stands

-- ---- a record that is skipped

abbrev pub Skips : Printer → Printer → ℕ → Class → Bool → Type 0
Skips before after levels class stands =
    Goes before after (λ page at. skipping (cond stands (read levels page.tree class at).tree absent))
    (λ page at. cond stands (read levels page.tree class at).end at)
