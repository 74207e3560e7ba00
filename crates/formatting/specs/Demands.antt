-- Demand 3, of every tree whose text `format` gives, whether it fits its buffer or not.
use Rattle.answers.specs.declared.Refusal.{Refusal}
use Rattle.std.specs.Prelude.{ℕ, ◌<◌, ◌^◌, ◌≡◌, List, true, false, length, Result, Ok, Err}
use Rattle.answers.specs.Texts.{Outcome, text, refusal}
use Rattle.options.specs.Stored.{read_options}
use Rattle.options.specs.declared.FormattingOptions.{FormattingOptions}
use Rattle.text.specs.Ink.{ink, inks}
use Rattle.text.specs.Lines.{no_line_ends_in_blank, no_empty_lines_touch}
use Rattle.tree.specs.Checking.{read_file}
use Rattle.reading.specs.Order.{order}
use Rattle.reading.specs.Places.{loses_ink, uses_place}

pub record Kept (tree : List ℕ) (options : FormattingOptions) (bytes : List ℕ) : Type 0 where
  -- "if none of the eight places is used, the ink of the text is the ink of the tree's reading order": none lost, added, doubled or moved
  pub inked : uses_place (read_file 64 tree).tree ≡ false → ink bytes ≡ inks (order options.mnemonics (read_file 64 tree).tree)
  -- the same where only (f) is used, which loses nothing
  pub seven : loses_ink (read_file 64 tree).tree ≡ false → ink bytes ≡ inks (order options.mnemonics (read_file 64 tree).tree)
  -- "and always no line ends in a blank and no two empty lines touch"
  pub blanks : no_line_ends_in_blank bytes ≡ true
  pub empties : no_empty_lines_touch bytes ≡ true
  -- a length that four bytes hold
  pub short : length bytes < 2 ^ 32

abbrev pub LessonUnder : List ℕ → Result FormattingOptions Refusal → Outcome → Type 0
LessonUnder tree (Ok options) (text bytes) = Kept tree options bytes
LessonUnder tree (Ok options) (refusal why) = Unit
LessonUnder tree (Err why) outcome = Unit

abbrev pub Lesson : List ℕ → List ℕ → Outcome → Type 0
Lesson tree options outcome = LessonUnder tree (read_options options) outcome
