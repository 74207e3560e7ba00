-- The items that are left are the one that is read and those behind it, or none.
use mathlib.Core.Path.{refl, sym, ap, ◌∙◌}
use native.Mathlib.Omega.{arith}
use lib.ListN.{length}
use Rattle.std.proofs.Common.{rules}
use Rattle.tree.proofs.Heads.{spans_none, spans_next}
use Rattle.tree.proofs.parts.TriviaIterator.next.Goals as goal

pub returns-then-self-eq0-clause-steps : goal.returns-then-self-eq0-clause-steps
returns-then-self-eq0-clause-steps c = (spans_none _ _ _ c.if-self-eq0.true, spans_none _ _ _ c.if-self-eq0.true)

pub returns-in_default-clause-steps : goal.returns-in_default-clause-steps
returns-in_default-clause-steps c = (spans_next _ _ _ c.if-self-eq0.false _ (sym c.trivium_at.ensures ∙ c.in_default.is), spans_none _ _ _ refl)

pub returns-clause-steps : goal.returns-clause-steps
returns-clause-steps c = spans_next _ _ _ c.if-self-eq0.false _ (sym c.trivium_at.ensures ∙ c.in-Some.is)

pub returns-clause-goes : goal.returns-clause-goes
returns-clause-goes c =
    let step = spans_next c.args.self.now.tree.now _ _ c.if-self-eq0.false _ (sym c.trivium_at.ensures ∙ c.in-Some.is) in
    record {
      on = λ finite. (tt, tt, omega (arith, ap length step));
      keeps = search rules;
      rests = search rules;
    }
