-- The indent takes two bytes where there is one.
use Rattle.chunks.specs.Stored.{stored_indent}
use Rattle.chunks.proofs.Forms.{indent_stored}
use Rattle.chunks.proofs.append.head_length.Goals as goal

pub returns-then-indent-eq0 : goal.returns-then-indent-eq0
unfolding stored_indent
returns-then-indent-eq0 c = rw c.if-indent-eq0.true

pub returns-else-indent-eq0 : goal.returns-else-indent-eq0
returns-else-indent-eq0 c = rw (indent_stored c.args.indent c.if-indent-eq0.false)
