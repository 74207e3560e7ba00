-- Chunks that the column setter accepts and reads back.
use Rattle.answers.specs.Numbers.{no_refusal}
use Rattle.std.specs.Prelude.{◌≡◌, List}
use Rattle.chunks.specs.Stored.{Chunk, stored_list, AllWellFormed, AllAccepted}
use Rattle.chunks.specs.Reading.{chunks_of}
use Rattle.chunks.specs.Judging.{chunks_checked}

-- chunks with accepted texts, whose stored form is a list that is accepted and that gives them back
pub record Acceptable (chunks : List Chunk) : Type 0 where
  pub formed : AllWellFormed chunks
  pub texts : AllAccepted chunks
  pub checked : chunks_checked (stored_list chunks) ≡ no_refusal
  pub restored : chunks_of (stored_list chunks) ≡ chunks
