-- The bit of the index, and none past the bits of a number.
use Rattle.printers.proofs.Bits.{bit_shifted, bit_past}
use Rattle.printers.proofs.record.stands.Goals as goal

pub returns-then-index-lt64 : goal.returns-then-index-lt64
returns-then-index-lt64 c = bit_shifted c.args.index c.args.bits

pub returns-else-index-lt64 : goal.returns-else-index-lt64
returns-else-index-lt64 c = bit_past c.args.index c.args.bits c.ranges.bits.fits c.if-index-lt64.false
