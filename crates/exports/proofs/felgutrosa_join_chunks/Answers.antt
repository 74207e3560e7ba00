-- The answer of the call, packed; the buffers are the call's.
use mathlib.Core.Path.{refl, ap, ◌∙◌}
use Rattle.exports.specs.Packed.{packed_of}
use Rattle.exports.proofs.Small.{join_answer}
use Rattle.exports.proofs.felgutrosa_join_chunks.Goals as goal

pub packed-requires : goal.packed-requires
packed-requires c =
    let said = c.join_chunks.ensures in
    join_answer _ _ _ _ said.answer said.demands

pub returns : goal.returns
returns c =
    let said = c.join_chunks.ensures in
    record {
      answer = c.packed.ensures ∙ ap packed_of said.answer;
      small = join_answer _ _ _ _ refl said.demands;
      buffer = said.buffer;
      demands = said.demands;
    }
