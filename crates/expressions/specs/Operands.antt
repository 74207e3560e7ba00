-- Not part of any promise of this crate: the parts of an operand that its inner functions print.
use Rattle.std.specs.Prelude.{ℕ, Bool, true, cond}
use Rattle.tree.specs.declared.codes.AddressingMode.{AddressingMode}
use Rattle.tree.specs.declared.codes.AddressingMode.TheVariants as modes
use Rattle.tree.specs.Tree.{absent}
use Rattle.tree.specs.Reading.{Reader}
use Rattle.tree.specs.declared.grammar.Class.TheVariants.{Char, LocatedExpression, SuffixRecord}
use Rattle.tree.specs.declared.grammar.Class.TheVariants as class
use Rattle.printing.specs.Events.{Events, nothing, ◌▹◌}
use Rattle.printing.specs.declared.Context.{Context}
use Rattle.events.specs.Printed.{plain}
use Rattle.events.specs.Views.{index_of}
use Rattle.events.specs.Trees.{leaf, skipping, operand_events, events_in}

-- the opening character and the expression
abbrev pub front_events : Context → Bool → Reader → ℕ → Events
front_events context lchar reader at =
    cond lchar (skipping (reader LocatedExpression at).tree) nothing
    ▹ events_in context (leaf plain) true (cond lchar (reader Char (reader LocatedExpression at).end).tree absent)
    ▹ events_in context (leaf plain) true (reader LocatedExpression at).tree

abbrev pub front_end : Bool → Reader → ℕ → ℕ
front_end lchar reader at = cond lchar (reader Char (reader LocatedExpression at).end).end (reader LocatedExpression at).end

-- the closing character and the register in the order of a mode
abbrev pub in_order : AddressingMode → Events → Events → Events
in_order modes.Indirect rchar suffix = suffix ▹ rchar
in_order modes.OuterIndirect rchar suffix = rchar ▹ suffix
in_order other rchar suffix = suffix

-- the one at a place and the other at another
abbrev pub end_events : Context → AddressingMode → Bool → ℕ → Bool → Reader → ℕ → Events
end_events context mode rchar place suffix reader at =
    in_order mode (events_in context (leaf plain) true (cond rchar (reader Char place).tree absent))
    (events_in context (leaf plain) true (cond suffix (reader SuffixRecord at).tree absent))

-- the addressing mode in front of the register, which says the order
abbrev pub mode_events : Context → Bool → ℕ → Bool → Reader → ℕ → Events
mode_events context rchar place suffix reader at =
    let mode = reader class.AddressingMode at in
    skipping mode.tree
    ▹ operand_events (index_of mode.tree) (events_in context (leaf plain) true (cond rchar (reader Char place).tree absent))
    (events_in context (leaf plain) true (cond suffix (reader SuffixRecord mode.end).tree absent))

abbrev pub mode_end : Bool → Reader → ℕ → ℕ
mode_end suffix reader at =
    let mode = reader class.AddressingMode at in
    cond suffix (reader SuffixRecord mode.end).end mode.end

-- the same with the closing character, which stands first
abbrev pub tail_events : Context → Bool → Bool → Reader → ℕ → Events
tail_events context rchar suffix reader at =
    skipping (cond rchar (reader Char at).tree absent) ▹ mode_events context rchar at suffix reader (cond rchar (reader Char at).end at)

abbrev pub tail_end : Bool → Bool → Reader → ℕ → ℕ
tail_end rchar suffix reader at = mode_end suffix reader (cond rchar (reader Char at).end at)
