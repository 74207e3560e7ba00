-- The starred samples of document 01, stored and set, by computing: the outcome, and the answer and the buffer afterwards in a buffer of 64 bytes.
--   samples_set : map found samples ≡ map wanted samples
use Rattle.std.specs.Prelude.{Ok}
use Rattle.answers.specs.Numbers.{Answer}
use mathlib.Core.Path.{◌≡◌, refl}
use mathlib.Core.List.{List, ◌++◌, map}
use Prim.Native.Nat.{ℕ, ◌-◌}
use lib.ListN.{replicate}
use Rattle.answers.specs.Texts.{Outcome, text, answer_in, buffer_after}
use Rattle.text.specs.Ink.{blank, all_blank, trim_end}
use Rattle.text.specs.Lines.{has_newline, behind, joined, is_newline}
use Rattle.text.specs.Accepted.{accepted_byte, accepted_text}
use Rattle.options.specs.Stored.{standing, values_checked, stored_options, read_options}
use Rattle.chunks.specs.Stored.{stored_indent, stored_head, stored_chunk, stored_list}
use Rattle.chunks.specs.Reading.{text_at, chunk_at, chunks_from, stored_chunks, chunks_at}
use Rattle.chunks.specs.Judging.{end_from, layout_checked, texts_checked, chunks_checked}
use Rattle.columns.specs.Pieces.{cut, pieces_of, pieces}
use Rattle.columns.specs.Layout.{ignored, added, add, ends, standalone, set_line, keeps, after, kept_lines}
use Rattle.columns.specs.Setting.{lines_kept, text_of, join_outcome}
use Rattle.text.specs.Literals.{ascii}
use Rattle.columns.specs.Samples.{Sample, samples}

-- a buffer of so many marks
abbrev marks : ℕ → List ℕ
marks n = replicate n 35

abbrev pub found : Sample → Outcome × Answer × List ℕ
found sample =
    let outcome = join_outcome (stored_list sample.chunks) sample.options in
    (outcome, answer_in outcome 64, buffer_after outcome (marks 64))

abbrev pub wanted : Sample → Outcome × Answer × List ℕ
wanted sample = (text sample.text, Ok sample.length, sample.text ++ marks (64 - sample.length))

pub samples_set : map found samples ≡ map wanted samples
unfolding ascii stored_indent stored_head stored_chunk stored_list text_at chunk_at chunks_from stored_chunks chunks_at end_from layout_checked texts_checked
    chunks_checked accepted_byte accepted_text standing values_checked stored_options read_options cut is_newline pieces_of pieces ignored added add ends
    standalone set_line keeps after kept_lines lines_kept text_of join_outcome blank all_blank trim_end has_newline behind joined
samples_set = refl
