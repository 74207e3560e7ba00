-- The answer of the call, packed; the buffers are the call's.
use mathlib.Core.Path.{refl, ap, ◌∙◌}
use Rattle.exports.specs.Packed.{packed_of}
use Rattle.exports.proofs.Small.{format_answer}
use Rattle.exports.proofs.felgutrosa_format.Goals as goal

pub packed-requires : goal.packed-requires
packed-requires c =
    let said = c.format.ensures in
    format_answer _ _ _ _ _ said.answer said.demands

pub returns : goal.returns
returns c =
    let said = c.format.ensures in
    record {
      answer = c.packed.ensures ∙ ap packed_of said.answer;
      small = format_answer _ _ _ _ _ refl said.demands;
      buffer = said.buffer;
      work = said.work;
      demands = said.demands;
    }
