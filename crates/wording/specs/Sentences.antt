-- A refusal as one plain sentence.
use Rattle.std.specs.Prelude.{ℕ, List, ◌++◌, cond, length, get_or, leb}
use Rattle.answers.specs.Numbers.{number}
use Rattle.answers.specs.declared.Refusal.{Refusal}
use Rattle.answers.specs.declared.Reason.{Reason}
use Rattle.answers.specs.declared.Reason.TheVariants.{OptionsLength, OptionsValue, TreeLength, TreeDepth, TreeLayout, ChunkLayout, NotAscii, WorkRoom, TextRoom}
use Rattle.wording.specs.Lines.{say, decimal}
use Rattle.wording.specs.Names.{reasons}

-- what stands at a place of an input
abbrev pub standing : List ℕ → ℕ → List (List ℕ)
standing input place =
    cond (leb (length input) place) (say ", where the input ends")
    (say ", where byte " ++ (decimal (get_or input place 0) ++ say " stands"))

abbrev pub limited : ℕ → List (List ℕ)
limited limit = say ", and the limit is " ++ decimal limit

abbrev pub in_options : List ℕ → ℕ → List (List ℕ)
in_options options place = say " of the options" ++ standing options place

abbrev pub in_tree : List ℕ → ℕ → List (List ℕ)
in_tree tree place = say " of the tree" ++ standing tree place

-- refusal 8: "place is the length needed at that push"; the chunks behind it would need more
abbrev pub at_push : List (List ℕ)
at_push = say " is how many bytes of work room were needed at the push that did not fit, not in all"

-- what a refusal's place counts in, and what stands there; or what it counts, and the limit
abbrev pub meaning : Reason → ℕ → List ℕ → List ℕ → ℕ → ℕ → List (List ℕ)
meaning OptionsLength place tree options work text = in_options options place
meaning OptionsValue place tree options work text = in_options options place
meaning TreeLength place tree options work text = in_tree tree place
meaning TreeDepth place tree options work text = in_tree tree place
meaning TreeLayout place tree options work text = in_tree tree place
meaning ChunkLayout place tree options work text = say " of the chunk list"
meaning NotAscii place tree options work text = in_tree tree place
meaning WorkRoom place tree options work text = at_push ++ limited work
meaning TextRoom place tree options work text = say " is how many bytes the text needs" ++ limited text

-- a refusal's number and name
abbrev pub named : Reason → List (List ℕ)
named reason = say "Refusal " ++ (decimal (number reason) ++ (say ", " ++ say (get_or reasons (number reason) "")))

-- the sentence of a refusal of a tree under options, in a work room and a text buffer of so many bytes
abbrev pub sentence : Refusal → List ℕ → List ℕ → ℕ → ℕ → List (List ℕ)
sentence refusal tree options work text =
    named refusal.reason ++ (say ": place " ++ (decimal refusal.place ++ (meaning refusal.reason refusal.place tree options work text ++ say ".\n")))
