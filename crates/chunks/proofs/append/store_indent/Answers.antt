-- No indent is stored as nothing, and any other as its two bytes, for which there is room.
use Rattle.std.proofs.Common.{◌+◌, ◌≤◌, length, refl, ap, ◌∙◌, arith}
use Rattle.chunks.specs.Stored.{stored_indent}
use Rattle.chunks.proofs.Forms.{indent_stored}
use Rattle.chunks.proofs.Storing.{number_fits, number_ok, number_place}
use Rattle.chunks.proofs.append.store_indent.Goals as goal

pub returns-then-indent-eq0 : goal.returns-then-indent-eq0
unfolding stored_indent
returns-then-indent-eq0 c = rw c.if-indent-eq0.true (record { answer = omega arith; room = refl })

pub unwrap-requires : goal.unwrap-requires
unwrap-requires c =
    let width = ap length (indent_stored c.args.indent c.if-indent-eq0.false) in
    number_ok c.args.room.now c.args.at c.args.indent (omega arith) (omega arith) c.store_number.ensures.answer

pub returns : goal.returns
returns c =
    let stored = indent_stored c.args.indent c.if-indent-eq0.false in
    let room : c.args.at + 2 ≤ length c.args.room.now = omega (arith, ap length stored) in
    rw stored (record {
      answer = number_place c.args.room.now c.args.at c.args.indent (omega arith) room c.store_number.ensures.answer c.unwrap.ensures;
      room = c.store_number.ensures.buffer ∙ number_fits c.args.room.now c.args.at c.args.indent (omega arith) room;
    })
