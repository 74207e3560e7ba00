-- Parts one behind the other: their uses in the tree are those of the parts that stand.
use Rattle.std.specs.Prelude.{Option, Some, None}
use mathlib.Core.Path.{◌≡◌, refl, ap, ◌∙◌}
use mathlib.Core.List.{List, [], ◌∷◌, ◌++◌}
use mathlib.Core.Bool.{Bool, true, false, cond}
use Prim.Native.Nat.{ℕ, zero, suc, ◌/◌, ◌%◌}
use lib.ListN.{get_or}
use lib.Dec.{eqb}
use Rattle.answers.specs.Numbers.{and_then}
use Rattle.text.proofs.Choices.{by_test}
use Rattle.tree.specs.Grammar.{Slot, rule}
use Rattle.tree.specs.Reading.{Due, nothing, due, slot_class, fields_due, items_due, Reader, read_parts}
use Rattle.tree.specs.Tree.{Tree, absent, chain}
use Rattle.tree.specs.Walk.{standing}
use Rattle.tree.specs.declared.grammar.Class.{Class}
use Rattle.events.specs.Views.{view}
use Rattle.reading.specs.Places.{Use, has_comment, places_in}
use Rattle.losses.specs.Visits.{seen_in, uses_along, end_along, checked_along}
use Rattle.losses.proofs.Table.{Unlisted, untold, slots_seen}

-- ---- a field that does not stand uses nothing

either_way : {A : Type 0} (test : Bool) (value : A) → cond test value value ≡ value
either_way true value = refl
either_way false value = refl

absent_unused : (class : Class) (listed : Bool) → seen_in class listed absent ≡ []
unfolding places_in has_comment view
absent_unused class true = simp either_way
absent_unused class false = simp either_way

-- ---- fields

-- fields behind another
slots_shift : (listed : Bool) (slots : List Slot) (place : ℕ) (tree : Tree) (trees : List Tree)
    → slots_seen listed slots (suc place) (tree ∷ trees) ≡ slots_seen listed slots place trees
unfolding slots_seen
slots_shift listed [] place tree trees = refl
slots_shift listed (slot ∷ slots) place tree trees =
    ap (λ (rest : List Use). seen_in (slot_class slot) listed (get_or trees place absent) ++ rest) (slots_shift listed slots (suc place) tree trees)

module _ (reader : Reader) where
  -- the fields whose bits stand
  pub fields_along : (listed : Bool) (slots : List Slot) (bits place : ℕ)
      → slots_seen listed slots 0 (read_parts reader (fields_due slots bits) place).trees ≡ uses_along reader listed (standing (fields_due slots bits)) place
  unfolding slots_seen fields_due read_parts standing uses_along
  fields_along listed [] bits place = refl
  fields_along listed (slot ∷ slots) bits place =
      let class : Class = slot_class slot in
      by_test (eqb (bits % 2) 1)
      (λ q.
      let next : ℕ = (reader class place).end in
      let rest = slots_shift listed slots 0 (reader class place).tree (read_parts reader (fields_due slots (bits / 2)) next).trees in
      rw q (ap (λ (uses : List Use). seen_in class listed (reader class place).tree ++ uses) (rest ∙ fields_along listed slots (bits / 2) next)))
      (λ q.
      let rest = slots_shift listed slots 0 absent (read_parts reader (fields_due slots (bits / 2)) place).trees in
      rw q (ap (λ (uses : List Use). uses ++ slots_seen listed slots 1 (absent ∷ (read_parts reader (fields_due slots (bits / 2)) place).trees)) (absent_unused class listed)
      ∙ rest ∙ fields_along listed slots (bits / 2) place))

  -- the items of a list
  items_of : (listed : Bool) (items : Option Class) → Unlisted items → (count place : ℕ)
      → places_in listed (chain (read_parts reader (items_due items count) place).trees) ≡ uses_along reader true (standing (items_due items count)) place
  unfolding places_in chain read_parts standing uses_along
  items_of listed None none count place = refl
  items_of listed (Some item) none zero place = refl
  items_of listed (Some item) none (suc count) place =
      let tree : Tree = (reader item place).tree in
      rw (none tree) (ap (λ (uses : List Use). places_in true tree ++ uses) (items_of listed (Some item) none count (reader item place).end))

  pub items_along : (listed : Bool) (class : Class) (count place : ℕ)
      → places_in listed (chain (read_parts reader (items_due (rule class).items count) place).trees) ≡ uses_along reader true (standing (items_due (rule class).items count)) place
  items_along listed class = items_of listed (rule class).items (untold class).1

  -- ---- the place behind parts, and the first refusal in them

  pub parts_end : (parts : List Due) (place : ℕ) → (read_parts reader parts place).end ≡ end_along reader (standing parts) place
  unfolding read_parts standing end_along
  parts_end [] place = refl
  parts_end (nothing ∷ parts) place = parts_end parts place
  parts_end (due class ∷ parts) place = parts_end parts (reader class place).end

  pub parts_checked : (parts : List Due) (place : ℕ) → (read_parts reader parts place).checked ≡ checked_along reader (standing parts) place
  unfolding read_parts standing checked_along
  parts_checked [] place = refl
  parts_checked (nothing ∷ parts) place = parts_checked parts place
  parts_checked (due class ∷ parts) place = ap (and_then (reader class place).checked) (parts_checked parts (reader class place).end)
