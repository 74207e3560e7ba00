-- A record that is read has a level left.
use Rattle.std.proofs.Common.{arith}
use Rattle.tree.proofs.Records.{level_left}
use Rattle.lesson.proofs.+show_record.Goals as goal

pub overflow_sub-levels-in-loop-field : goal.overflow_sub-levels-in-loop-field
overflow_sub-levels-in-loop-field g t c =
    omega (arith, level_left _ _ _ _ _ c.read_own.ensures.answer _ c.in-Ok.is)

pub show_record-requires : goal.show_record-requires
show_record-requires g t c κs within =
    let left = level_left _ _ _ _ _ c.read_own.ensures.answer _ c.in-Ok.is in
    (omega (arith, left, c.decreases), (within, omega (arith, left, c.requires)))
