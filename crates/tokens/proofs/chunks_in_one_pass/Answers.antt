-- The two cases of the definition.
use mathlib.Core.Path.{◌≡◌, refl, sym, ◌∙◌}
use Rattle.std.specs.Prelude.{Err}
use Rattle.std.proofs.Common.{rules}
use Rattle.tokens.specs.Chunks.{chunks_held, one_pass_room}
use Rattle.tokens.proofs.Numbers.{held_numbers}
use Rattle.tokens.proofs.chunks_in_one_pass.Goals as goal

pub returns-in_err-options : goal.returns-in_err-options
unfolding chunks_held one_pass_room
returns-in_err-options c =
    let same = sym c.read_options.ensures.answer ∙ c.in_err-options.was in
    let said : c.from_residual.result ≡ Err c.in_err-options.field-0.0 = search rules in
    rw same (record { answer = said; stored = tt; room = refl; numbers = held_numbers _ said })

pub returns : goal.returns
unfolding chunks_held one_pass_room
returns c =
    let same = sym c.read_options.ensures.answer ∙ c.in_ok-options.was in
    let said = c.one_pass_with.ensures in
    rw same (record { answer = said.answer; stored = said.stored; room = said.room; numbers = held_numbers _ said.answer })
