-- The part that `fill` fills is as long as the run.
use Rattle.std.proofs.Common.{rules}
use Rattle.text.proofs.Buffers.{part_filled}
use Rattle.text.proofs.stores.fill.Goals as goal

pub returns-clause-buffer : goal.returns-clause-buffer
returns-clause-buffer c =
    let e = c.in_ok-end.ensures in
    rw (c.fill.ensures.after (λ y k. k)) (part_filled c.args.buffer.now c.args.byte c.args.at c.in_ok-end.end c.args.count (search rules) (search rules))
