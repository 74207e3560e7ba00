-- The answer of `lost` has the number and value of document 01.
--   lost_numbers_lem : lost ≡ lost_from from bytes → numbers_lost lost ≡ lost_numbers from bytes
use Rattle.std.specs.Prelude.{Option, Some, None, Ok, Err}
use mathlib.Core.Path.{◌≡◌, refl, ap, ◌∙◌}
use mathlib.Core.List.{List}
use Prim.Native.Nat.{ℕ}
use Rattle.answers.specs.Numbers.{numbers_checked, unless_refused, Checked}
use Rattle.answers.proofs.Numbers.{refused_number}
use Rattle.tree.specs.Checking.{read_file, batch_checked}
use Rattle.tree.specs.Tree.{Tree}
use Rattle.tree.proofs.Numbers.{tree_numbers_lem}
use Rattle.losses.specs.Lost.{Firsts, firsts_in, least_of, Lost, answer_with, lost_on, lost_from, numbers_lost, loss_value, lost_numbers}

-- of the record that is found
value_numbers : (firsts : Firsts) (least : Option ℕ) → numbers_lost (Ok (answer_with firsts least)) ≡ (0, loss_value firsts least)
value_numbers firsts None = refl
value_numbers firsts (Some at) = refl

-- of a tree by its judgement
checked_numbers : (from : ℕ) (tree : Tree) (checked : Checked)
    → numbers_lost (lost_on from tree checked) ≡ unless_refused (numbers_checked checked) (0, loss_value (firsts_in from tree) (least_of (firsts_in from tree)))
checked_numbers from tree (Ok tt) = value_numbers (firsts_in from tree) (least_of (firsts_in from tree))
checked_numbers from tree (Err refusal) = rw (refused_number refusal.reason) refl

-- so an answer that is known has them
pub lost_numbers_lem : {lost : Lost} (from : ℕ) (bytes : List ℕ) → lost ≡ lost_from from bytes → numbers_lost lost ≡ lost_numbers from bytes
unfolding lost_from lost_numbers
lost_numbers_lem from bytes is =
    let tree : Tree = (read_file 64 bytes).tree in
    ap numbers_lost is ∙ checked_numbers from tree (batch_checked bytes) ∙ rw (tree_numbers_lem 65535 64 bytes) refl
