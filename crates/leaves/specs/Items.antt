-- Trivia items as the walk reads them: `count` of them at a place, up to one that breaks the layout.
use Rattle.std.specs.Prelude.{ℕ, zero, suc, List, [], ◌∷◌, Option, Some, None}
use Rattle.std.proofs.Math.Seq.{slice}
use Rattle.tree.specs.Codes.{code_number}
use Rattle.tree.specs.Tree.{Trivium}
use Rattle.tree.specs.Parts.{trivium_at}
use Rattle.tree.specs.declared.parts.TriviumSpan.{TriviumSpan}

-- an item by its places
abbrev pub item_of : List ℕ → TriviumSpan → Trivium
item_of bytes item = record { code = code_number item.code; text = slice item.start item.end bytes }

-- an item that keeps the layout, and those behind it
abbrev pub items_on : List ℕ → (ℕ → List Trivium) → Option TriviumSpan → List Trivium
items_on bytes next (Some item) = item_of bytes item ∷ next item.end
items_on bytes next None = []

unfoldable pub items_at : List ℕ → ℕ → ℕ → List Trivium
items_at bytes at zero = []
items_at bytes at (suc count) = items_on bytes (λ place. items_at bytes place count) (trivium_at bytes at)
