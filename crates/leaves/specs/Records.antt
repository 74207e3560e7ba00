-- The fields of a record of a kind, behind its own bytes: those that must stand do, of the others the bits say it.
use Rattle.std.specs.Prelude.{ℕ, ◌/◌, List, [], ◌∷◌, cond}
use Rattle.tree.specs.Tree.{Tree, absent}
use Rattle.tree.specs.Grammar.{Slot, must, may}
use Rattle.tree.specs.Reading.{Reader}
use Rattle.events.specs.Views.{bit_at}

unfoldable pub field_trees : Reader → List Slot → ℕ → ℕ → List Tree
field_trees reader [] bits at = []
field_trees reader (must class ∷ slots) bits at = (reader class at).tree ∷ field_trees reader slots (bits / 2) (reader class at).end
field_trees reader (may class ∷ slots) bits at =
    cond (bit_at 0 bits) (reader class at).tree absent ∷ field_trees reader slots (bits / 2) (cond (bit_at 0 bits) (reader class at).end at)

unfoldable pub fields_end : Reader → List Slot → ℕ → ℕ → ℕ
fields_end reader [] bits at = at
fields_end reader (must class ∷ slots) bits at = fields_end reader slots (bits / 2) (reader class at).end
fields_end reader (may class ∷ slots) bits at = fields_end reader slots (bits / 2) (cond (bit_at 0 bits) (reader class at).end at)
