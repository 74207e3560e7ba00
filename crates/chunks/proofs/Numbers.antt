-- The judgement of a list has the number and place of document 01.
--   list_numbers_lem : numbers_checked (chunks_checked list) ≡ chunks_numbers list
use mathlib.Core.Path.{◌≡◌, refl, ◌∙◌}
use mathlib.Core.List.{List, [], ◌∷◌}
use Prim.Native.Nat.{ℕ}
use lib.ListN.{length}
use lib.Seq.{slice}
use lib.Dec.{eqb, ltb}
use Rattle.text.specs.Accepted.{accepted_text}
use Rattle.answers.specs.Numbers.{numbers_checked}
use Rattle.answers.proofs.Numbers.{chosen_numbers, then_numbers}
use Rattle.chunks.specs.Reading.{stored_chunks}
use Rattle.chunks.specs.Judging.{end_from, layout_checked, texts_checked, chunks_checked, layout_numbers, texts_numbers, chunks_numbers}
use Rattle.chunks.specs.declared.stored.StoredChunk.{StoredChunk}

layout_numbers_lem : (list : List ℕ) → numbers_checked (layout_checked list) ≡ layout_numbers list
unfolding layout_checked layout_numbers
layout_numbers_lem list = chosen_numbers (ltb 1048576 (length list)) _ _ ∙ rw (chosen_numbers (eqb (end_from 0 (stored_chunks list 0)) (length list)) _ _) refl

texts_numbers_lem : (list : List ℕ) (chunks : List StoredChunk) → numbers_checked (texts_checked list chunks) ≡ texts_numbers list chunks
unfolding texts_checked texts_numbers
texts_numbers_lem list [] = refl
texts_numbers_lem list (chunk ∷ chunks) = chosen_numbers (accepted_text (slice chunk.start chunk.end list)) (texts_checked list chunks) _ ∙ rw (texts_numbers_lem list chunks) refl

pub list_numbers_lem : (list : List ℕ) → numbers_checked (chunks_checked list) ≡ chunks_numbers list
unfolding chunks_checked chunks_numbers
list_numbers_lem list =
    then_numbers (layout_checked list) (texts_checked list (stored_chunks list 0))
    ∙ rw (layout_numbers_lem list, texts_numbers_lem list (stored_chunks list 0)) refl
