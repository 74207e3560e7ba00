-- The lowest seven bits of a row tell its first field.
use mathlib.Core.Path.{ap, ◌∙◌}
use Rattle.tree.specs.Grammar.{rule, fields}
use Rattle.tree.specs.Rows.{row_of}
use Rattle.tree.specs.declared.grammar.Rule.{Rule}
use Rattle.tree.proofs.Heads.{first_none, first_some}
use Rattle.tree.proofs.Planning.{slot_known}
use Rattle.tree.proofs.parts.first_class.Goals as goal

pub returns-then-row-eq0 : goal.returns-then-row-eq0
returns-then-row-eq0 c =
    first_none c.args.class (fields c.args.kind (rule c.args.class).value) _
    (c.row_of-row.ensures ∙ ap (λ (rule : Rule). row_of (fields c.args.kind rule.value)) c.rule_of.ensures)
    c.if-row-eq0.true

pub returns : goal.returns
returns c =
    first_some c.args.class (fields c.args.kind (rule c.args.class).value) _
    (c.row_of-row.ensures ∙ ap (λ (rule : Rule). row_of (fields c.args.kind rule.value)) c.rule_of.ensures)
    c.if-row-eq0.false _ (λ slot is. c.slot_class.ensures ∙ slot_known _ slot is)
