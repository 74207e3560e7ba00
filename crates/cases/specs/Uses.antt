-- What is known of the records of a tree that use a place, as they are gone over.
use Rattle.std.specs.Prelude.{ℕ, ◌≡◌, ◌+◌, ◌≤◌, ◌<◌, List, Option, Some, Ok, MatchOption}
use Rattle.losses.specs.declared.search.Loss.{Loss}
use Rattle.losses.specs.Lost.{lost_from}
use Rattle.cases.specs.declared.uses.Uses.{Uses}

-- those of a tree at or after an offset
pub record AreSince (offset : ℕ) (tree : List ℕ) (uses : Uses) : Type 0 where
  pub same_tree : uses.tree.now ≡ tree
  pub from_offset : uses.from ≡ offset

-- all of them: from its first byte on
abbrev pub AreAllOf : List ℕ → Uses → Type 0
AreAllOf = AreSince 0

-- a record with its letters is what `lost` tells from the offset that was come to, and the search goes on behind it; an
-- offset has two bytes
pub record IsTold (before after : Uses) (found : Loss) : Type 0 where
  pub told : lost_from before.from before.tree.now ≡ Ok (Some found)
  pub two_bytes : found.place ≤ 65535
  pub same_tree : after.tree.now ≡ before.tree.now
  pub behind : after.from ≡ found.place + 1

-- `lost` tells no record at or after an offset
pub record NoneIsTold (uses : Uses) : Type 0 where
  pub none_told : (loss : Loss) → lost_from uses.from uses.tree.now ≡ Ok (Some loss) → loss.place < uses.from

abbrev pub TellsUse : Uses → Option Loss → Uses → Type 0
TellsUse before found after = MatchOption found (NoneIsTold before) (IsTold before after)
