-- Kinds by their numbers, which the newline rule compares.
use Rattle.std.specs.Prelude.{Some}
use denote.Enum.Declared.{tag_of}
use denote.Enum.Bare.{sameb}
use Rattle.tree.specs.contracts.grammar.Kind as kinds
use mathlib.Core.Path.{◌≡◌, refl, sym}
use mathlib.Core.List.{[], ◌∷◌}
use mathlib.Core.Bool.{Bool, true}
use mathlib.Core.Logic.{◌⊎◌, inl, inr}
use Rattle.std.proofs.Math.Bool.{or-true}
use Prim.Native.Nat.{ℕ}
use lib.Dec.{eqb}
use Rattle.tree.specs.Grammar.{kind_of}
use Rattle.tree.specs.Tree.{built}
use Rattle.tree.specs.declared.grammar.Kind.{Kind}
use Rattle.tree.specs.declared.grammar.Kind.TheVariants as variant
use Rattle.tree.specs.Grammar.{kind_number}
use Rattle.tree.proofs.KindNumbers.{this_number}
use Rattle.events.specs.Trees.{one_of}

-- a kind that is one of two has one of their numbers
pub one_of_two : {kind one other : Kind} (first second : ℕ) → kind_of first ≡ Some one → kind_of second ≡ Some other → (kind ≡ one) ⊎ (kind ≡ other)
    → one_of (kind_number kind) (first ∷ second ∷ []) ≡ true
unfolding one_of
one_of_two first second known also (inl is) = rw (this_number first known is)
one_of_two first second known also (inr is) = rw (this_number second also is) (simp or-true)

-- the number of a variant is that of the kind
variant_number : (kind : Kind) → tag_of kinds.the_type kind ≡ kind_number kind
unfolding built
variant_number variant.Align = refl
variant_number other = refl

-- so kinds are compared as their numbers are
pub same_number : {test : Bool} (kind other : Kind) → test ≡ sameb kinds.the_type kind other → eqb (kind_number kind) (kind_number other) ≡ test
same_number kind other told = rw (← variant_number kind, ← variant_number other) (sym told)
