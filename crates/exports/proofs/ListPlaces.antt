-- The place of a refusal of a chunk list is at most 1,048,576, of options at most 8.
--   list_within : (list : List ℕ) → Within 1048576 (chunks_checked list)
--   options_within : (stored : List ℕ) → ReadWithin (read_options stored)
use Rattle.std.specs.Prelude.{Option, Result, Some, None, Ok, Err}
use Rattle.answers.specs.declared.Refusal.{Refusal}
use Rattle.options.specs.declared.FormattingOptions.{FormattingOptions}
use mathlib.Core.Path.{◌≡◌, refl}
use mathlib.Core.List.{List}
use Prim.Native.Nat.{ℕ, zero, suc, ◌+◌, ◌≤◌}
use native.Mathlib.Omega.{arith}
use lib.ListN.{length}
use lib.Seq.{slice, length-slice}
use lib.Dec.{eqb, ltb}
use borrow.Author.Tests.{ltb-false}
use Rattle.answers.specs.Numbers.{and_then, Checked}
use Rattle.text.specs.Accepted.{accepted_text}
use Rattle.text.proofs.Accepted.{fault_some}
use Rattle.text.proofs.Choices.{cond_both}
use Rattle.chunks.specs.Reading.{chunk_at, rest_on, chunks_from, stored_chunks}
use Rattle.chunks.specs.Judging.{end_from, layout_checked, texts_checked, chunks_checked}
use Rattle.chunks.specs.declared.stored.StoredChunk.{StoredChunk}
use Rattle.chunks.proofs.Reading.{LaidAs, chunk_laid}
use Rattle.options.specs.Stored.{standing, map_of, too_large, values_checked, length_wrong, stored_options, accepted, read_options}
use Rattle.options.proofs.Values.{indent_small}
use Rattle.options.proofs.Values.{standing_small}
use Rattle.exports.proofs.Within.{Within, wider}

-- ---- a chunk list

module _ (list : List ℕ) where
  -- chunks end within the list
  end_rest : (at : ℕ) (rest : ℕ → List StoredChunk) → ((end : ℕ) → end ≤ length list → end_from end (rest end) ≤ length list)
      → at ≤ length list → (found : Option StoredChunk) → LaidAs list at found → end_from at (rest_on rest found) ≤ length list
  unfolding end_from
  end_rest at rest further inside (Some chunk) laid = further chunk.end laid.inside
  end_rest at rest further inside None laid = inside

  end_within : (n at : ℕ) → at ≤ length list → end_from at (chunks_from n list at) ≤ length list
  unfolding chunks_from end_from
  end_within zero at inside = inside
  end_within (suc n) at inside = end_rest at (chunks_from n list) (end_within n) inside (chunk_at list at) (chunk_laid list at)

  -- and so do their texts
  texts_rest : (at : ℕ) (rest : ℕ → List StoredChunk) → ((end : ℕ) → Within (length list) (texts_checked list (rest end)))
      → (found : Option StoredChunk) → LaidAs list at found → Within (length list) (texts_checked list (rest_on rest found))
  unfolding texts_checked
  texts_rest at rest further (Some chunk) laid =
      cond_both (Within (length list)) (accepted_text (slice chunk.start chunk.end list)) _ _ (λ fine. further chunk.end)
      (λ bad. omega (arith, fault_some _ bad, length-slice chunk.start chunk.end list laid.inside, laid.some, laid.inside))
  texts_rest at rest further None laid = tt

  texts_within : (n at : ℕ) → Within (length list) (texts_checked list (chunks_from n list at))
  unfolding chunks_from texts_checked
  texts_within zero at = tt
  texts_within (suc n) at = texts_rest at (chunks_from n list) (texts_within n) (chunk_at list at) (chunk_laid list at)

pub list_within : (list : List ℕ) → Within 1048576 (chunks_checked list)
unfolding chunks_checked layout_checked stored_chunks
list_within list =
    let judged : Checked → Type 0 = λ first. Within 1048576 (and_then first (texts_checked list (chunks_from (length list) list 0))) in
    cond_both judged (ltb 1048576 (length list)) _ _ (λ long. omega arith)
    (λ fits.
    let short : length list ≤ 1048576 = ltb-false 1048576 (length list) fits in
    let end = end_within list (length list) 0 (omega arith) in
    cond_both judged (eqb (end_from 0 (chunks_from (length list) list 0)) (length list)) _ _
    (λ whole. wider (length list) 1048576 short (texts_checked list (chunks_from (length list) list 0)) (texts_within list (length list) 0)) (λ bad. omega (arith, end)))

-- ---- options

values_within : (stored : List ℕ) (k n : ℕ) → k + n ≤ 8 → Within 8 (values_checked stored k n)
unfolding values_checked
values_within stored k zero few = tt
values_within stored k (suc n) few =
    cond_both (Within 8) (too_large stored k) _ _ (λ large. omega (arith, standing_small (map_of stored) k)) (λ fine. values_within stored (k + 1) n (omega arith))

-- options that were read, whose indent is at most 64, or a refusal
abbrev pub ReadWithin : Result FormattingOptions Refusal → Type 0
ReadWithin (Ok options) = options.whitespace.indent ≤ 64
ReadWithin (Err why) = why.place ≤ 8

accepted_within : (stored : List ℕ) (checked : Checked) → values_checked stored 0 8 ≡ checked → Within 8 checked → ReadWithin (accepted checked (stored_options stored))
unfolding stored_options
accepted_within stored (Ok tt) is within = indent_small stored is
accepted_within stored (Err why) is within = within

pub options_within : (stored : List ℕ) → ReadWithin (read_options stored)
unfolding read_options
options_within stored =
    cond_both ReadWithin (length_wrong stored) _ _ (λ wrong. omega arith)
    (λ right. accepted_within stored (values_checked stored 0 8) refl (values_within stored 0 8 (omega arith)))
