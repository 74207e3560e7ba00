-- A refusal whose place is at most a limit.
use Rattle.std.specs.Prelude.{Ok, Err}
use Prim.Native.Nat.{ℕ, ◌≤◌}
use native.Mathlib.Omega.{arith}
use Rattle.answers.specs.Numbers.{and_then, Checked}

abbrev pub Within : ℕ → Checked → Type 0
Within limit (Ok tt) = Unit
Within limit (Err why) = why.place ≤ limit

-- the first refusal of two
pub both_within : (limit : ℕ) (first next : Checked) → Within limit first → Within limit next → Within limit (and_then first next)
both_within limit (Ok tt) next here there = there
both_within limit (Err why) next here there = here

-- a greater limit
pub wider : (limit more : ℕ) → limit ≤ more → (checked : Checked) → Within limit checked → Within more checked
wider limit more less (Ok tt) within = tt
wider limit more less (Err why) within = omega (arith, within)
