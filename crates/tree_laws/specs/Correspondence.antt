-- What corresponds: trees within the limits, and bytes that the check accepts.
use Rattle.answers.specs.Numbers.{no_refusal}
use Rattle.std.specs.Prelude.{ℕ, ◌≤◌, ◌<◌, ◌≡◌, List, length, get_or}
use Rattle.tree.specs.Tree.{Tree}
use Rattle.tree.specs.Stored.{stored}
use Rattle.tree.specs.Checking.{tree_checked}
use Rattle.tree.specs.declared.grammar.Class.TheVariants.{Tokens}
use Rattle.tree_laws.specs.WellFormed.{WellFormed}

-- "The file is a list of kinds 0 to 23", with so many levels at the most, and its stored form so long at the most
pub record TreeWithin (limit levels : ℕ) (tree : Tree) : Type 0 where
  pub formed : WellFormed levels Tokens 0 tree
  pub long : length (stored tree) ≤ limit

-- a list of bytes
abbrev pub AllBytes : List ℕ → Type 0
AllBytes bytes = (i : ℕ) → get_or bytes i 0 < 256

-- bytes that the check accepts
pub record AcceptedWithin (limit levels : ℕ) (bytes : List ℕ) : Type 0 where
  pub small : AllBytes bytes
  pub passed : tree_checked limit levels bytes ≡ no_refusal

-- two functions are inverse to each other between what one property holds of and what another holds of
pub record Inverse {A B : Type 0} (P : A → Type 0) (Q : B → Type 0) (there : A → B) (back : B → A) : Type 0 where
  pub thither : (a : A) → P a → Q (there a)
  pub hither : (b : B) → Q b → P (back b)
  pub there_and_back : (a : A) → P a → back (there a) ≡ a
  pub back_and_there : (b : B) → Q b → there (back b) ≡ b
