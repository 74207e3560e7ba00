-- The starred samples of document 01, of both calls, from stored bytes, by computing: the outcome, and the answer and the buffer afterwards in a buffer of 64 bytes.
--   samples_answered : map found rows ≡ map wanted rows
use Rattle.std.specs.Prelude.{Ok}
use Rattle.answers.specs.Numbers.{Answer}
use Prim.Native.Nat.{ℕ, ◌-◌}
use mathlib.Core.Path.{◌≡◌, refl}
use mathlib.Core.List.{List, [], ◌∷◌, ◌++◌, map}
use lib.ListN.{replicate}
use Rattle.answers.specs.Texts.{Outcome, text, answer_in, buffer_after}
use Rattle.options.specs.Casings.{cased}
use Rattle.options.specs.Stored.{standing, values_checked, stored_options, read_options}
use Rattle.text.specs.Accepted.{accepted_byte, accepted_text}
use Rattle.text.specs.Ink.{blank, all_blank, trim_end, spaces}
use Rattle.text.specs.Lines.{has_newline, behind, joined, is_newline}
use Rattle.text.specs.Literals.{ascii}
use Rattle.chunks.specs.Stored.{Chunk, stored_indent, stored_head, stored_chunk, stored_list}
use Rattle.chunks.specs.Reading.{text_at, chunk_at, chunks_from, stored_chunks, chunks_at}
use Rattle.chunks.specs.Judging.{end_from, layout_checked, chunks_checked}
use Rattle.chunks.specs.Judging as judging
use Rattle.columns.specs.Pieces.{cut, pieces_of, pieces}
use Rattle.columns.specs.Layout.{ignored, added, add, ends, standalone, set_line, keeps, after, kept_lines}
use Rattle.columns.specs.Setting.{lines_kept, text_of, join_outcome}
use Rattle.columns.specs.Samples.{Sample, samples, usual}
use Rattle.tree.specs.Tree.{built, chain}
use Rattle.tree.specs.Own.{fields_fit, map_fits, sized_end, trivium_end, trivia_end, trivia_read, text_end, rest_of, own_at, read_own}
use Rattle.tree.specs.Reading.{trivia_from, trivia_texts, fields_due, parts_due, read_parts, read}
use Rattle.tree.specs.Checking.{texts_checked, tree_checked}
use Rattle.printing.specs.Holding.{held_length, without_newlines, hold}
use Rattle.events.specs.Printed.{mnemonics, printed}
use Rattle.events.specs.Views.{view}
use Rattle.events.specs.Refusals.{first_refusal, own_refusal, head_refusal}
use Rattle.events.specs.Trees.{trivia_events, lead_events, one_of, events_in}
use Rattle.tokens.specs.Chunks.{chunks_held}
use Rattle.formatting.specs.Formatting.{formatted}

-- the column setter on chunks, or the tree call on a stored tree
pub data Call : Type 0 where
  setter : List Chunk → Call
  tree_call : List ℕ → Call

pub record Row : Type 0 where
  pub call : Call
  pub options : List ℕ
  pub text : List ℕ
  pub length : ℕ

abbrev pub setter_row : Sample → Row
setter_row sample = record { call = setter sample.chunks; options = sample.options; text = sample.text; length = sample.length }

-- "Options byte 0, tree 24 0 1 0 13 2 25 2 1 0 33: s20`nop`."
abbrev pub tree_row : Row
tree_row = record {
  call = tree_call (24 ∷ 0 ∷ 1 ∷ 0 ∷ 13 ∷ 2 ∷ 25 ∷ 2 ∷ 1 ∷ 0 ∷ 33 ∷ []);
  options = usual;
  text = spaces 20 ++ ascii "nop";
  length = 23;
}

abbrev pub rows : List Row
rows = map setter_row samples ++ (tree_row ∷ [])

-- a buffer of so many marks
abbrev marks : ℕ → List ℕ
marks n = replicate n 35

abbrev outcome_by : Call → List ℕ → Outcome
outcome_by (setter chunks) options = join_outcome (stored_list chunks) options
outcome_by (tree_call tree) options = formatted tree options 64

abbrev pub found : Row → Outcome × Answer × List ℕ
found row =
    let outcome = outcome_by row.call row.options in
    (outcome, answer_in outcome 64, buffer_after outcome (marks 64))

abbrev pub wanted : Row → Outcome × Answer × List ℕ
wanted row = (text row.text, Ok row.length, row.text ++ marks (64 - row.length))

pub samples_answered : map found rows ≡ map wanted rows
unfolding ascii stored_indent stored_head stored_chunk stored_list text_at chunk_at chunks_from stored_chunks chunks_at end_from layout_checked
    judging.texts_checked chunks_checked accepted_byte accepted_text standing values_checked stored_options read_options cut is_newline pieces_of pieces
    ignored added add ends standalone set_line keeps after kept_lines lines_kept text_of join_outcome blank all_blank trim_end has_newline behind joined cased
    built chain fields_fit map_fits sized_end trivium_end trivia_end trivia_read text_end rest_of own_at read_own trivia_from trivia_texts fields_due parts_due
    read_parts read texts_checked tree_checked held_length without_newlines hold mnemonics printed
    first_refusal own_refusal head_refusal trivia_events lead_events one_of events_in chunks_held formatted view
samples_answered = refl
