-- The chunk at the place is the first of those that are left, and the others stand behind it.
use Rattle.std.proofs.Common.{rules, ap, length, sym, ◌∙◌}
use Rattle.chunks.proofs.Reading.{chunks_found, chunks_none}
use Rattle.chunks.proofs.Judging.{end_found}
use Rattle.chunks.proofs.judged.JudgedPlaceIterator.next.Goals as goal

pub returns-in_err-chunk-clause-steps : goal.returns-in_err-chunk-clause-steps
returns-in_err-chunk-clause-steps c =
    let none = chunks_none _ _ (sym c.chunk.ensures.answer ∙ c.in_err-chunk.was) in
    rw c.from_residual.ensures (none, none)

pub returns-clause-steps : goal.returns-clause-steps
returns-clause-steps c = chunks_found _ _ _ (sym c.chunk.ensures.answer ∙ c.in_ok-chunk.was)

pub returns-clause-goes : goal.returns-clause-goes
returns-clause-goes c =
    let first = ap length (chunks_found _ _ _ (sym c.chunk.ensures.answer ∙ c.in_ok-chunk.was)) in
    search rules

pub invariant_of-self : goal.invariant_of-self
invariant_of-self c = record { laid = sym (end_found _ _ _ (sym c.chunk.ensures.answer ∙ c.in_ok-chunk.was)) ∙ c.args.self.now.laid }
