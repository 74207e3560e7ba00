-- The limits of chunks and their lists: document 01, "indent (two bytes, 1 to 4,096; absent is 0)", "a text length (two
-- bytes, at least 1)", "at most 1,048,576 bytes", and of the work room, "room above 1,048,576 bytes counts as that".
--   list_too_long : .. 1048577 ≤ length list → numbers_checked (chunks_checked list) ≡ (6, 0)
--   longest_accepted : a list of just 1,048,576 bytes is accepted
--   text_too_long, text_longest : a text of 65,536 bytes has no stored form, one of 65,535 is appended where it fits
-- And by computing:
--   rows_judged : map found rows ≡ map wanted rows
--   chunks_appended : map found_appended appends ≡ map wanted_appended appends
--   capacities_held : map capacity .. ≡ ..
use Rattle.std.specs.Prelude.{Result, Ok, Err}
use mathlib.Core.Path.{◌≡◌, refl}
use mathlib.Core.List.{List, [], ◌∷◌, map}
use mathlib.Core.Bool.{true}
use Prim.Native.Nat.{ℕ, zero, suc, ◌+◌, ◌*◌, ◌≤◌}
use native.Mathlib.Omega.{arith}
use lib.ListN.{length, replicate, length-append, length-replicate}
use borrow.Author.Tests.{le-ltb}
use Rattle.answers.specs.Numbers.{numbers_checked}
use Rattle.text.specs.Accepted.{accepted_byte, accepted_text, fault_at}
use Rattle.chunks.specs.Stored.{Chunk, stored_indent, stored_head, stored_chunk, stored_list}
use Rattle.chunks.specs.Stored.{AllWellFormed, AllAccepted}
use Rattle.chunks.specs.Reading.{text_at, chunk_at, chunks_from, stored_chunks, chunks_at, chunks_of}
use Rattle.chunks.specs.Judging.{end_from, layout_checked, texts_checked, chunks_checked}
use Rattle.chunks.specs.Appending.{capacity, appended}
use Rattle.chunks.specs.declared.append.Unappended.{Unappended}
use Rattle.chunks.specs.declared.append.Unappended.TheVariants.{NoRoom, NoChunk, UsedPastRoom}
use Rattle.chunks.specs.declared.stored.ChunkType.TheVariants.{Code, Label, Comment}
use Rattle.chunks.proofs.Judging.{too_long}
use Rattle.chunks.proofs.RoundTrip.{stored_accepted}

-- ---- the longest list

-- a list of one byte more is refused at 0, whatever it holds
pub list_too_long : (list : List ℕ) → 1048577 ≤ length list → numbers_checked (chunks_checked list) ≡ (6, 0)
list_too_long list long = rw (too_long list (omega (arith, long)))

-- code of a text, without indent
abbrev pub code : List ℕ → Chunk
code text = record { ty = Code; indent = 0; text = text }

-- a text of one letter, however often
repeated_text : (count : ℕ) → accepted_text (replicate count 97) ≡ true
unfolding accepted_text accepted_byte
repeated_text zero = refl
repeated_text (suc count) = repeated_text count

module _ (text : List ℕ) (long : length text ≡ 65533) (fine : accepted_text text ≡ true) where
  code_length : length (stored_chunk (code text)) ≡ 65536
  unfolding stored_chunk stored_head stored_indent
  code_length = omega (arith, long)

  repeated_length : (count : ℕ) → length (stored_list (replicate count (code text))) ≡ 65536 * count
  unfolding stored_list
  repeated_length zero = omega arith
  repeated_length (suc count) =
      let others = stored_list (replicate count (code text)) in
      rw (length-append (stored_chunk (code text)) others, code_length, repeated_length count) (omega arith)

  repeated_formed : (count : ℕ) → AllWellFormed (replicate count (code text))
  repeated_formed zero = tt
  repeated_formed (suc count) =
      (record { indent = omega arith; some = omega (arith, long); short = omega (arith, long) }, repeated_formed count)

  repeated_accepted : (count : ℕ) → AllAccepted (replicate count (code text))
  repeated_accepted zero = tt
  repeated_accepted (suc count) = (fine, repeated_accepted count)

  -- sixteen chunks of 65,536 bytes each are a list of the longest length, and it is accepted
  pub longest_accepted : (length (stored_list (replicate 16 (code text))) ≡ 1048576)
      × (numbers_checked (chunks_checked (stored_list (replicate 16 (code text)))) ≡ (0, 0))
  longest_accepted =
      let size : length (stored_list (replicate 16 (code text))) ≡ 1048576 =
      omega (arith, repeated_length 16) in
      let chunks = replicate 16 (code text) in
      (size, rw (stored_accepted chunks (repeated_formed 16) (repeated_accepted 16) (omega (arith, size))))

-- there is one
pub longest_stands : numbers_checked (chunks_checked (stored_list (replicate 16 (code (replicate 65533 97))))) ≡ (0, 0)
longest_stands = (longest_accepted (replicate 65533 97) (length-replicate {A = ℕ} 65533 97) (repeated_text 65533)).1

-- ---- small lists

-- a list, the number and place of its judgement, and the chunks that are read from its start on
record Row : Type 0 where
  list : List ℕ
  number : ℕ
  place : ℕ
  chunks : List Chunk

-- a list that is accepted, and one that is not
abbrev accepted : List ℕ → List Chunk → Row
accepted list chunks = record { list = list; number = 0; place = 0; chunks = chunks }

abbrev refused : List ℕ → ℕ → ℕ → List Chunk → Row
refused list number place chunks = record { list = list; number = number; place = place; chunks = chunks }

-- a chunk of one letter
abbrev a : List Chunk
a = code (97 ∷ []) ∷ []

abbrev rows : List Row
rows =
    accepted [] []
    -- each type, and each with an indent
    ∷ accepted (0 ∷ 1 ∷ 0 ∷ 97 ∷ []) a
    ∷ accepted (1 ∷ 1 ∷ 0 ∷ 97 ∷ []) (record { ty = Label; indent = 0; text = 97 ∷ [] } ∷ [])
    ∷ accepted (2 ∷ 1 ∷ 0 ∷ 97 ∷ []) (record { ty = Comment; indent = 0; text = 97 ∷ [] } ∷ [])
    ∷ accepted (5 ∷ 2 ∷ 1 ∷ 1 ∷ 0 ∷ 97 ∷ []) (record { ty = Label; indent = 258; text = 97 ∷ [] } ∷ [])
    ∷ accepted (6 ∷ 1 ∷ 0 ∷ 2 ∷ 0 ∷ 97 ∷ 98 ∷ []) (record { ty = Comment; indent = 1; text = 97 ∷ 98 ∷ [] } ∷ [])
    -- an indent of 0, 1, 4,096 and 4,097
    ∷ refused (4 ∷ 0 ∷ 0 ∷ 1 ∷ 0 ∷ 97 ∷ []) 6 0 []
    ∷ accepted (4 ∷ 1 ∷ 0 ∷ 1 ∷ 0 ∷ 97 ∷ []) (record { ty = Code; indent = 1; text = 97 ∷ [] } ∷ [])
    ∷ accepted (4 ∷ 0 ∷ 16 ∷ 1 ∷ 0 ∷ 97 ∷ []) (record { ty = Code; indent = 4096; text = 97 ∷ [] } ∷ [])
    ∷ refused (4 ∷ 1 ∷ 16 ∷ 1 ∷ 0 ∷ 97 ∷ []) 6 0 []
    -- both of bits 0 and 1, and each bit above bit 2
    ∷ refused (3 ∷ 1 ∷ 0 ∷ 97 ∷ []) 6 0 []
    ∷ refused (7 ∷ 1 ∷ 0 ∷ 1 ∷ 0 ∷ 97 ∷ []) 6 0 []
    ∷ refused (8 ∷ 1 ∷ 0 ∷ 97 ∷ []) 6 0 []
    ∷ refused (16 ∷ 1 ∷ 0 ∷ 97 ∷ []) 6 0 []
    ∷ refused (32 ∷ 1 ∷ 0 ∷ 97 ∷ []) 6 0 []
    ∷ refused (64 ∷ 1 ∷ 0 ∷ 97 ∷ []) 6 0 []
    ∷ refused (128 ∷ 1 ∷ 0 ∷ 97 ∷ []) 6 0 []
    -- no text, and bytes that are cut
    ∷ refused (0 ∷ 0 ∷ 0 ∷ []) 6 0 []
    ∷ refused (0 ∷ []) 6 0 []
    ∷ refused (0 ∷ 1 ∷ []) 6 0 []
    ∷ refused (0 ∷ 2 ∷ 0 ∷ 97 ∷ []) 6 0 []
    ∷ refused (4 ∷ 1 ∷ []) 6 0 []
    -- the first bad chunk, and the first byte above 127, which counts where the whole list keeps the layout
    ∷ refused (0 ∷ 1 ∷ 0 ∷ 97 ∷ 3 ∷ []) 6 4 a
    ∷ accepted (0 ∷ 1 ∷ 0 ∷ 127 ∷ []) (code (127 ∷ []) ∷ [])
    ∷ refused (0 ∷ 1 ∷ 0 ∷ 128 ∷ []) 7 3 (code (128 ∷ []) ∷ [])
    ∷ refused (0 ∷ 1 ∷ 0 ∷ 97 ∷ 2 ∷ 2 ∷ 0 ∷ 97 ∷ 200 ∷ []) 7 8
    (code (97 ∷ []) ∷ record { ty = Comment; indent = 0; text = 97 ∷ 200 ∷ [] } ∷ [])
    ∷ refused (0 ∷ 1 ∷ 0 ∷ 200 ∷ 8 ∷ []) 6 4 (code (200 ∷ []) ∷ [])
    ∷ []

abbrev found : Row → ℕ × ℕ × List Chunk
found sample =
    let numbers = numbers_checked (chunks_checked sample.list) in
    (numbers.0, numbers.1, chunks_of sample.list)

abbrev wanted : Row → ℕ × ℕ × List Chunk
wanted sample = (sample.number, sample.place, sample.chunks)

pub rows_judged : map found rows ≡ map wanted rows
unfolding accepted_byte accepted_text fault_at text_at chunk_at chunks_from stored_chunks chunks_at end_from layout_checked
    texts_checked chunks_checked
rows_judged = refl

-- ---- appending

-- a room, what is used of it, a chunk, and what appending it comes to
abbrev appends : List (ℕ × ℕ × Chunk × Result ℕ Unappended)
appends =
    (4, 0, code (97 ∷ []), Ok 4)
    ∷ (3, 0, code (97 ∷ []), Err (NoRoom 4))
    ∷ (8, 4, code (97 ∷ []), Ok 8)
    ∷ (7, 4, code (97 ∷ []), Err (NoRoom 8))
    ∷ (3, 4, code (97 ∷ []), Err UsedPastRoom)
    ∷ (1048576, 1048572, code (97 ∷ []), Ok 1048576)
    ∷ (1048577, 1048573, code (97 ∷ []), Err (NoRoom 1048577))
    ∷ (1048577, 1048577, code (97 ∷ []), Err UsedPastRoom)
    ∷ (6, 0, record { ty = Label; indent = 4096; text = 97 ∷ [] }, Ok 6)
    ∷ (6, 0, record { ty = Label; indent = 4097; text = 97 ∷ [] }, Err NoChunk)
    ∷ (6, 0, code [], Err NoChunk)
    ∷ []

abbrev found_appended : ℕ × ℕ × Chunk × Result ℕ Unappended → Result ℕ Unappended
found_appended sample = appended sample.0 sample.1 sample.2

abbrev wanted_appended : ℕ × ℕ × Chunk × Result ℕ Unappended → Result ℕ Unappended
wanted_appended sample = sample.3

pub chunks_appended : map found_appended appends ≡ map wanted_appended appends
unfolding appended stored_chunk stored_head stored_indent
chunks_appended = refl

pub capacities_held : map capacity (0 ∷ 1 ∷ 1048575 ∷ 1048576 ∷ 1048577 ∷ 4294967296 ∷ [])
    ≡ 0 ∷ 1 ∷ 1048575 ∷ 1048576 ∷ 1048576 ∷ 1048576 ∷ []
capacities_held = refl

module _ (room used : ℕ) (text : List ℕ) where
  -- a text of 65,536 bytes has no stored form
  pub text_too_long : length text ≡ 65536 → appended room used (code text) ≡ Err NoChunk
  unfolding appended
  text_too_long long = rw long

  -- one of 65,535 has one, of 65,538 bytes
  pub text_longest : length text ≡ 65535 → used + 65538 ≤ capacity room
      → appended room used (code text) ≡ Ok (used + 65538)
  unfolding appended stored_chunk stored_head stored_indent
  text_longest long fits =
      let within = le-ltb (capacity room) used (omega (arith, fits)) in
      rw (long, within, le-ltb (capacity room) (used + 65538) fits)
