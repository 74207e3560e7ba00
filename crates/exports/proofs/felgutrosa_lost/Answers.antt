-- The loss as an answer, packed.
use mathlib.Core.Path.{refl, ap, ◌∙◌}
use Rattle.losses.specs.Lost.{loss_answer}
use Rattle.exports.specs.Packed.{packed_of}
use Rattle.exports.proofs.Small.{lost_answer}
use Rattle.exports.proofs.felgutrosa_lost.Goals as goal

pub loss_answer-requires : goal.loss_answer-requires
loss_answer-requires c = c.lost.ensures.narrow

pub packed-requires : goal.packed-requires
packed-requires c = let lost = c.lost.ensures in rw c.loss_answer.ensures (lost_answer _ _ _ lost.answer lost.narrow)

pub returns : goal.returns
returns c =
    let lost = c.lost.ensures in
    let answered = c.loss_answer.ensures ∙ ap loss_answer lost.answer in
    let narrow = rw lost.answer at lost.narrow in
    record {
      answer = c.packed.ensures ∙ ap packed_of answered;
      small = lost_answer _ _ _ refl narrow;
      narrow = narrow;
    }
