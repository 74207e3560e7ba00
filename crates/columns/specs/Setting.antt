-- The text of chunks, and what `join_chunks` comes to.
use Rattle.answers.specs.declared.Refusal.{Refusal}
use Rattle.answers.specs.Numbers.{Checked}
use Rattle.std.specs.Prelude.{ℕ, List, map, Result, Ok, Err}
use Rattle.answers.specs.Texts.{Outcome, text, refusal}
use Rattle.text.specs.Lines.{joined}
use Rattle.options.specs.Stored.{read_options}
use Rattle.options.specs.declared.FormattingOptions.{FormattingOptions}
use Rattle.chunks.specs.Stored.{Chunk}
use Rattle.chunks.specs.Reading.{chunks_of}
use Rattle.chunks.specs.Judging.{chunks_checked}
use Rattle.columns.specs.Pieces.{pieces}
use Rattle.columns.specs.Layout.{Line, fresh, at_start, kept_lines, set_line}
use Rattle.columns.specs.declared.Margins.{Margins}

-- the lines kept, as laid out
unfoldable pub lines_kept : Margins → List Chunk → List Line
lines_kept margins chunks = kept_lines margins at_start fresh (pieces chunks)

-- the lines kept, each set, "joined by newlines"
unfoldable pub text_of : Margins → List Chunk → List ℕ
text_of margins chunks = joined (map (set_line margins) (lines_kept margins chunks))

abbrev pub margins_of : FormattingOptions → Margins
margins_of options = record {
  label = options.whitespace.label_margin;
  code = options.whitespace.code_margin;
  alignment = options.whitespace.label_alignment;
}

abbrev pub unless_failed : Checked → List ℕ → Outcome
unless_failed (Ok tt) bytes = text bytes
unless_failed (Err why) bytes = refusal why

abbrev pub outcome_on : Result FormattingOptions Refusal → List ℕ → Outcome
outcome_on (Ok options) list = unless_failed (chunks_checked list) (text_of (margins_of options) (chunks_of list))
outcome_on (Err why) list = refusal why

-- "The column setter alone takes no work room and checks 1, 2, 6, 7, 9": all but 9, which looks at the buffer
unfoldable pub join_outcome : List ℕ → List ℕ → Outcome
join_outcome list options = outcome_on (read_options options) list
