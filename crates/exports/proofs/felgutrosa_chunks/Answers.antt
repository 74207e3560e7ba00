-- The answer of the call, packed; the buffers are the call's.
use mathlib.Core.Path.{refl, ap, ◌∙◌}
use Rattle.exports.specs.Packed.{packed_of}
use Rattle.exports.proofs.Small.{chunks_answer_lem}
use Rattle.exports.proofs.felgutrosa_chunks.Goals as goal

pub packed-requires : goal.packed-requires
packed-requires c =
    let said = c.chunks.ensures in
    chunks_answer_lem _ _ _ _ _ said.answer said.stored

pub returns : goal.returns
returns c =
    let said = c.chunks.ensures in
    record {
      answer = c.packed.ensures ∙ ap packed_of said.answer;
      small = chunks_answer_lem _ _ _ _ _ refl said.stored;
      stored = said.stored;
      room = said.room;
    }
