-- The judgement, packed.
use mathlib.Core.Path.{refl, ap, ◌∙◌}
use Rattle.answers.specs.Numbers.{answer_of}
use Rattle.exports.specs.Packed.{packed_of}
use Rattle.exports.proofs.Small.{check_answer}
use Rattle.exports.proofs.felgutrosa_check_tree.Goals as goal

pub packed-requires : goal.packed-requires
packed-requires c = check_answer _ _ (c.answer_of.ensures.answer ∙ ap answer_of c.check_tree-checked.ensures.answer)

pub returns : goal.returns
returns c =
    let answered = c.answer_of.ensures.answer ∙ ap answer_of c.check_tree-checked.ensures.answer in
    record { answer = c.packed.ensures ∙ ap packed_of answered; small = check_answer _ _ refl }
