-- Trivia items as an iterator over their places has them.
use Rattle.std.specs.Prelude.{Option, Some, None}
use mathlib.Core.Path.{◌≡◌, refl, ap}
use mathlib.Core.List.{List, [], ◌∷◌, map}
use Prim.Native.Nat.{ℕ, zero, suc, ◌≤◌}
use lib.ListN.{length}
use Rattle.tree.specs.Tree.{Trivium}
use Rattle.tree.specs.Parts.{trivium_at, spans_on, spans_at}
use Rattle.tree.specs.declared.parts.TriviumSpan.{TriviumSpan}
use Rattle.leaves.specs.Items.{item_of, items_on, items_at}
use Rattle.leaves.proofs.Items.{item_lies}

-- the texts of some items lie within bytes
abbrev pub Lie : List ℕ → List TriviumSpan → Type 0
Lie bytes [] = Unit {0}
Lie bytes (item ∷ items) = ((item.start ≤ item.end) × (item.end ≤ length bytes)) × Lie bytes items

-- those at a place, told by their places and by their texts
pub record Read (bytes : List ℕ) (items : List Trivium) (spans : List TriviumSpan) : Type 0 where
  pub lie : Lie bytes spans
  pub texts : items ≡ map (item_of bytes) spans

-- one, and those behind it
read_on : (bytes : List ℕ) (at : ℕ) (items : ℕ → List Trivium) (spans : ℕ → List TriviumSpan) → ((place : ℕ) → Read bytes (items place) (spans place))
    → (found : Option TriviumSpan) → found ≡ trivium_at bytes at → Read bytes (items_on bytes items found) (spans_on spans found)
read_on bytes at items spans rest None is = record { lie = tt; texts = refl }
read_on bytes at items spans rest (Some item) is = record {
  lie = (item_lies bytes at item is refl, (rest item.end).lie);
  texts = ap (λ (others : List Trivium). item_of bytes item ∷ others) (rest item.end).texts;
}

pub items_read : (bytes : List ℕ) (at count : ℕ) → Read bytes (items_at bytes at count) (spans_at bytes at count)
unfolding items_at spans_at
items_read bytes at zero = record { lie = tt; texts = refl }
items_read bytes at (suc count) =
    read_on bytes at (λ place. items_at bytes place count) (λ place. spans_at bytes place count) (λ place. items_read bytes place count) _ refl
