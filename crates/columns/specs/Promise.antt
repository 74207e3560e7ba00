-- What `join_chunks` promises of the text of every accepted list, whether it fits its buffer or not.
use Rattle.std.specs.Prelude.{ℕ, ◌<◌, ◌^◌, ◌≡◌, List, map, true, length}
use Rattle.answers.specs.Texts.{Outcome, text, refusal}
use Rattle.text.specs.Ink.{ink, inks}
use Rattle.text.specs.Lines.{no_line_ends_in_blank, no_empty_lines_touch}
use Rattle.chunks.specs.Stored.{Chunk}

-- the texts of chunks, in order
abbrev pub texts : List Chunk → List (List ℕ)
texts chunks = map (λ (chunk : Chunk). chunk.text) chunks

pub record Faithful (chunks : List Chunk) (bytes : List ℕ) : Type 0 where
  pub ink : ink bytes ≡ inks (texts chunks)
  pub blanks : no_line_ends_in_blank bytes ≡ true
  pub empties : no_empty_lines_touch bytes ≡ true
  pub short : length bytes < 2 ^ 32

abbrev pub Promised : List Chunk → Outcome → Type 0
Promised chunks (text bytes) = Faithful chunks bytes
Promised chunks (refusal why) = Unit
