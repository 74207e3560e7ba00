-- The texts that are left are judged as all are.
use Rattle.chunks.specs.Reading.{stored_chunks}
use Rattle.chunks.proofs.Judging.{Going}
use Rattle.chunks.proofs.list.check_texts.Given as goal

abbrev pub invariant-loop-chunk : goal.invariant-loop-chunk
invariant-loop-chunk l =
    (goal.iterator-loop-chunk).can_next l.chunk-iterator
    × (goal.iterator-loop-chunk).is_finite l.chunk-iterator
    × Going l.judged.list.now l.judged.at (stored_chunks l.chunk-iterator.list.now l.chunk-iterator.at)
