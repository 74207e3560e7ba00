-- The space, the text and the colon, stored one behind the other, are the whole text stored.
use Rattle.std.proofs.Common.{arith}
use Rattle.chunks.proofs.Storing.{text_length, text_stores, bytes_some, bytes_end}
use Rattle.chunks.proofs.append.Text.store.Goals as goal

pub store_if-start-requires : goal.store_if-start-requires
store_if-start-requires c = omega (arith, text_length c.args.self.spaced c.args.self.text.now c.args.self.colon)

pub unwrap-end-requires : goal.unwrap-end-requires
unwrap-end-requires c =
    let whole = text_length c.args.self.spaced c.args.self.text.now c.args.self.colon in
    bytes_some c.store_if-start.new.room c.store_if-start.result c.args.self.text.now (omega (arith, c.store_if-start.auto.room)) c.copy.ensures.answer

pub store_if-requires : goal.store_if-requires
store_if-requires c =
    let whole = text_length c.args.self.spaced c.args.self.text.now c.args.self.colon in
    let end = bytes_end c.store_if-start.new.room c.store_if-start.result c.args.self.text.now (omega (arith, c.store_if-start.auto.room)) c.copy.ensures.answer c.unwrap-end.ensures in
    omega (arith, c.store_if-start.auto.room, c.copy.auto.buffer)

pub returns : goal.returns
returns c =
    let whole = text_length c.args.self.spaced c.args.self.text.now c.args.self.colon in
    let end = bytes_end c.store_if-start.new.room c.store_if-start.result c.args.self.text.now (omega (arith, c.store_if-start.auto.room)) c.copy.ensures.answer c.unwrap-end.ensures in
    record {
      answer = omega arith;
      room = text_stores c.args.self.spaced c.args.self.text.now c.args.self.colon _ _ c.requires
          c.store_if-start.ensures.answer c.store_if-start.ensures.room c.copy.ensures.buffer end c.store_if.ensures.room;
    }
