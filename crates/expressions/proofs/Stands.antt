-- A field stands where its bit says so: what was read is a record or a refusal.
use mathlib.Core.Path.{◌≡◌, refl}
use mathlib.Core.List.{List}
use mathlib.Core.Bool.{Bool, true, false, cond}
use Prim.Native.Nat.{ℕ}
use Rattle.tree.specs.Tree.{absent}
use Rattle.tree.specs.Reading.{read}
use Rattle.tree.specs.declared.grammar.Class.{Class}
use Rattle.events.specs.Views.{view, stands}
use Rattle.events.proofs.Heads.{read_stands}

pub field_stands : (bit : Bool) (levels : ℕ) (bytes : List ℕ) (class : Class) (at : ℕ) → stands (cond bit (read levels bytes class at).tree absent) ≡ bit
unfolding view
field_stands true levels bytes class at = read_stands levels bytes class at
field_stands false levels bytes class at = refl
