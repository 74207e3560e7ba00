-- What `format` comes to, before the text buffer is looked at: the column setter's text of the chunks that the walk holds, or the refusal that is met first.
use Rattle.answers.specs.declared.Refusal.{Refusal}
use Rattle.options.specs.declared.FormattingOptions.{FormattingOptions}
use Rattle.std.specs.Prelude.{ℕ, List, reverse, Result, Ok, Err}
use Rattle.answers.specs.Texts.{Outcome, text, refusal}
use Rattle.options.specs.Stored.{read_options}
use Rattle.printing.specs.Holding.{Held, held, refused}
use Rattle.columns.specs.Setting.{margins_of, text_of}
use Rattle.tokens.specs.Chunks.{chunks_held}

-- the text of what is held
abbrev pub outcome_of : Result FormattingOptions Refusal → Held → Outcome
outcome_of (Ok options) (held chunks pending) = text (text_of (margins_of options) (reverse chunks))
outcome_of (Ok options) (refused why) = refusal why
outcome_of (Err why) chunks = refusal why

-- of a tree, under options, with a work room of so many bytes: "1, 2, 3, 4/5, 7, 8", and 9 with the buffer
unfoldable pub formatted : List ℕ → List ℕ → ℕ → Outcome
formatted tree options size = outcome_of (read_options options) (chunks_held tree options size)
