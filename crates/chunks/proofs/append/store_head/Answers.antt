-- The map byte, the indent and the text length, stored one behind the other, are the head stored.
use Rattle.std.proofs.Common.{◌≡◌, length, ◌∙◌, arith, length-set}
use Rattle.chunks.proofs.Forms.{head_length}
use Rattle.chunks.proofs.Storing.{number_ok, number_place, head_stores}
use Rattle.chunks.proofs.append.store_head.Goals as goal

pub bounds-room-at : goal.bounds-room-at
bounds-room-at c = omega (arith, head_length c.args.ty c.args.indent c.args.count)

pub store_indent-behind-requires : goal.store_indent-behind-requires
store_indent-behind-requires c = simp length-set (omega (arith, head_length c.args.ty c.args.indent c.args.count))

-- the text length fits behind the indent
pub unwrap-requires : goal.unwrap-requires
unwrap-requires c =
    let same : length c.store_indent-behind.new.room ≡ length c.args.room.now = c.store_indent-behind.auto.room ∙ simp length-set in
    number_ok c.store_indent-behind.new.room c.store_indent-behind.result c.args.count (omega arith)
    (omega (arith, head_length c.args.ty c.args.indent c.args.count)) c.store_number.ensures.answer

pub returns : goal.returns
returns c =
    let indented = c.store_indent-behind in
    let head = head_length c.args.ty c.args.indent c.args.count in
    let same : length indented.new.room ≡ length c.args.room.now = indented.auto.room ∙ simp length-set in
    let end = number_place indented.new.room indented.result c.args.count (omega arith) (omega arith) c.store_number.ensures.answer c.unwrap.ensures in
    record {
      answer = omega arith;
      room = head_stores c.args.room.now c.args.at c.args.ty c.args.indent c.args.count
          c.requires.1 c.requires.2
          c.map_byte.ensures indented.ensures.room
          indented.ensures.answer c.store_number.ensures.buffer;
    }
