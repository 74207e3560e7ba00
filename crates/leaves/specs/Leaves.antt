-- What is printed of a record by itself: its trivia where they are shown, and its text; and the classes whose records are leaves.
use Rattle.answers.specs.declared.Refusal.{Refusal}
use Rattle.tree.specs.declared.own.Own.{Own}
use Rattle.std.specs.Prelude.{ℕ, ◌≡◌, List, Bool, cond, Result, Ok, Err}
use Rattle.tree.specs.Grammar.{rule, leaf}
use Rattle.tree.specs.Reading.{trivia_of, text_of}
use Rattle.tree.specs.declared.grammar.Class.{Class}
use Rattle.tree.specs.declared.grammar.TextRule.{TextRule}
use Rattle.printing.specs.Events.{Events, nothing, stop, ◌▹◌}
use Rattle.printing.specs.declared.Context.{Context}
use Rattle.events.specs.Printed.{Style, printed}
use Rattle.events.specs.Trees.{word, trivia_events}

-- a class of which every record is a leaf
abbrev pub LeafClass : Class → Type 0
LeafClass class = (trivia : Bool) × (text : TextRule) × (rule class ≡ leaf trivia text)

abbrev pub own_events : Context → Style → Bool → List ℕ → Result Own Refusal → Events
own_events context style shown bytes (Ok own) =
    cond shown (trivia_events context (trivia_of bytes own)) nothing ▹ word context (printed context style (text_of bytes own))
own_events context style shown bytes (Err why) = stop why
