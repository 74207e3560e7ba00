-- A kind is asked for by one group only.
use mathlib.Core.Path.{refl}
use mathlib.Core.Logic.{inl, inr}
use Rattle.std.proofs.Math.Bool.{and-false, or-true}
use Rattle.tree.specs.Tree.{built}
use Rattle.events.specs.Trees.{one_of}
use Rattle.tree.proofs.KindNumbers.{other_number}
use Rattle.leads.proofs.Numbered.{one_of_two}
use Rattle.leads.proofs.grouped.Goals as goal

pub returns-in-Assert-matches : goal.returns-in-Assert-matches
returns-in-Assert-matches c = rw (one_of_two 1 22 refl refl c.in-Assert.is, one_of_two 1 22 refl refl c.in-Assert-matches.is)

pub returns-in_default-matches : goal.returns-in_default-matches
unfolding one_of built
returns-in_default-matches c =
    let assert = other_number 1 refl c.in_default-matches.not-Assert in
    let trace = other_number 22 refl c.in_default-matches.not-Trace in
    elim c.in-Assert.is [ inl is ↦ rw (is, assert, trace) (simp and-false) | inr is ↦ rw (is, assert, trace) (simp and-false) ]

pub returns-in-Data-matches : goal.returns-in-Data-matches
returns-in-Data-matches c = rw (one_of_two 5 21 refl refl c.in-Data.is, one_of_two 5 21 refl refl c.in-Data-matches.is) (simp or-true)

pub returns-in_default-matches-2 : goal.returns-in_default-matches-2
unfolding one_of built
returns-in_default-matches-2 c =
    let values = other_number 5 refl c.in_default-matches-2.not-Data in
    let text = other_number 21 refl c.in_default-matches-2.not-Text in
    elim c.in-Data.is [ inl is ↦ rw (is, values, text) (simp and-false) | inr is ↦ rw (is, values, text) (simp and-false) ]

pub returns-in-Instruction-matches : goal.returns-in-Instruction-matches
returns-in-Instruction-matches c =
    rw (one_of_two 13 17 refl refl c.in-Instruction.is, one_of_two 13 17 refl refl c.in-Instruction-matches.is) (simp or-true)

pub returns-in_default-matches-3 : goal.returns-in_default-matches-3
unfolding one_of built
returns-in_default-matches-3 c =
    let instruction = other_number 13 refl c.in_default-matches-3.not-Instruction in
    let invocation = other_number 17 refl c.in_default-matches-3.not-MacroInvocation in
    elim c.in-Instruction.is [ inl is ↦ rw (is, instruction, invocation) (simp and-false) | inr is ↦ rw (is, instruction, invocation) (simp and-false) ]

pub returns-in_default : goal.returns-in_default
unfolding one_of
returns-in_default c =
    let other = c.in_default in
    rw (
      other_number 1 refl other.not-Assert,
      other_number 22 refl other.not-Trace,
      other_number 5 refl other.not-Data,
      other_number 21 refl other.not-Text,
      other_number 13 refl other.not-Instruction,
      other_number 17 refl other.not-MacroInvocation,
    ) (simp and-false)
