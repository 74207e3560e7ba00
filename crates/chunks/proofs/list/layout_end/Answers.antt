-- Each chunk in turn gives its end.
use Rattle.std.proofs.Common.{ℕ, rules, tests, refl, ◌∙◌}
use Rattle.std.proofs.lemmas.Iterator.Consumers.{YieldsList-from_first, fold_from_yields_List}
use Rattle.chunks.specs.Steps.{chunks_left}
use Rattle.chunks.specs.declared.stored.StoredChunk.{StoredChunk}
use Rattle.chunks.proofs.Judging.{end_folded}
use Rattle.chunks.proofs.list.layout_end.Goals as goal

pub returns : goal.returns
returns c =
    fold_from_yields_List _ (λ (place : ℕ) (chunk : StoredChunk). chunk.end) 0 _ c.fold.ensures.ran
    (YieldsList-from_first (λ (chunk : StoredChunk). chunk) chunks_left _ refl) (λ a x b q k. search (rules, tests))
    ∙ end_folded 0 _
