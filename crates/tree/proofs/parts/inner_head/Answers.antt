-- Own bytes that were not read are the refusal; the fields of those that were are walked.
use mathlib.Core.Path.{sym, ◌∙◌}
use Rattle.std.proofs.lemmas.Result.{err_from_is_err_and}
use Rattle.tree.specs.Parts.{inner_head}
use Rattle.tree.proofs.Records.{level_left}
use Rattle.tree.proofs.Heads.{kind_read}
use Rattle.tree.proofs.KindLayout.{kind_number_lem}
use Rattle.tree.proofs.parts.inner_head.Goals as goal

pub returns-in_err-own : goal.returns-in_err-own
unfolding inner_head
returns-in_err-own c =
    let p = err_from_is_err_and c.from_residual.result c.from_residual.ensures.1 in
    rw (p.1, p.2, sym c.read_own.ensures.answer ∙ c.in_err-own.was)

pub field_head-requires : goal.field_head-requires
field_head-requires c = level_left _ _ _ _ _ c.read_own.ensures.answer _ c.in_ok-own.was

pub returns : goal.returns
unfolding inner_head
returns c =
    let read = sym c.read_own.ensures.answer ∙ c.in_ok-own.was in
    let is = kind_number_lem _ _ (kind_read _ _ _ _ _ read) in
    rw read (rw is at c.field_head.ensures)
