-- The law of kinds that print nothing before what stands inside them.
use mathlib.Core.Path.{◌≡◌, refl}
use Prim.Native.Nat.{ℕ}
use Rattle.tree.specs.declared.grammar.Kind.{Kind}
use Rattle.tree.specs.declared.grammar.Kind.TheVariants as variant
use Rattle.printers.specs.declared.Printer.{Printer}
use Rattle.printers.proofs.Going.{stays}
use Rattle.tokens.specs.Fronts.{GoesFront}

-- kinds but these have no front
pub no_front : {printer : Printer} (levels : ℕ) (kind : Kind) → (kind ≡ variant.ConfigPair → ⊥) → (kind ≡ variant.Definition → ⊥) → (kind ≡ variant.If → ⊥)
    → (kind ≡ variant.Import → ⊥) → (kind ≡ variant.Label → ⊥) → (kind ≡ variant.Loop → ⊥) → (kind ≡ variant.MacroDefinition → ⊥)
    → (kind ≡ variant.Segment → ⊥) → (kind ≡ variant.Test → ⊥) → GoesFront printer printer kind levels
no_front levels variant.ConfigPair pair definition branches imports label loop macro segment test = absurd (pair refl)
no_front levels other pair definition branches imports label loop macro segment test = first_of (search, search stays)
