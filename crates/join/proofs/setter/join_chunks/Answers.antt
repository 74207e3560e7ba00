-- By the options that are read: their refusal, or what the setter answers at their margins, which are bytes.
use mathlib.Core.Path.{refl, sym, ◌∙◌}
use Rattle.std.proofs.lemmas.Result.{err_from_is_err_and}
use Rattle.answers.proofs.Numbers.{numbers_in_lem}
use Rattle.columns.specs.Setting.{join_outcome}
use Rattle.join.proofs.setter.join_chunks.Goals as goal

pub join_with-requires : goal.join_with-requires
join_with-requires c =
    let narrow = rw c.in_ok-options.was at c.read_options.ensures.narrow in
    rw c.from.ensures (record { label = narrow.label; code = narrow.code })

pub returns : goal.returns
unfolding join_outcome
returns c =
    let read = sym c.read_options.ensures.answer ∙ c.in_ok-options.was in
    let said = c.join_with.ensures in
    rw (read, ← c.from.ensures) (record { answer = said.answer; buffer = said.buffer; demands = said.demands; numbers = numbers_in_lem _ _ said.answer })

pub returns-in_err-options : goal.returns-in_err-options
unfolding join_outcome
returns-in_err-options c =
    let read = sym c.read_options.ensures.answer ∙ c.in_err-options.was in
    let p = err_from_is_err_and c.from_residual.result c.from_residual.ensures.1 in
    rw (p.1, p.2, read) (record { answer = refl; buffer = refl; demands = tt; numbers = numbers_in_lem _ _ refl })
