-- The inner call, and then the work room is cleared.
use mathlib.Core.Path.{ap, ◌∙◌}
use Rattle.answers.proofs.Numbers.{numbers_in_lem}
use Rattle.text.specs.Stores.{zeros}
use Rattle.formatting.proofs.format.Goals as goal

pub returns : goal.returns
returns c =
    let said = c.format_in-answer.ensures in
    record {
      answer = said.answer;
      buffer = said.buffer;
      work = c.clear.ensures ∙ ap zeros c.format_in-answer.auto.work;
      demands = said.demands;
      numbers = numbers_in_lem _ _ said.answer;
    }
