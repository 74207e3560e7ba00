-- The items of a list of records of one class, one behind the other.
use Rattle.std.specs.Prelude.{ℕ, zero, suc, List, [], ◌∷◌}
use Rattle.tree.specs.Tree.{Tree}
use Rattle.tree.specs.Reading.{Reader}
use Rattle.tree.specs.declared.grammar.Class.{Class}

unfoldable pub item_trees : Reader → Class → ℕ → ℕ → List Tree
item_trees reader class zero at = []
item_trees reader class (suc count) at = (reader class at).tree ∷ item_trees reader class count (reader class at).end

unfoldable pub items_end : Reader → Class → ℕ → ℕ → ℕ
items_end reader class zero at = at
items_end reader class (suc count) at = items_end reader class count (reader class at).end
