-- The numbers of answers are small.
--   number_small : .. given ≡ numbers answer .0 → given ≤ 9
use Rattle.std.specs.Prelude.{Ok, Err}
use Prim.Native.Nat.{ℕ, ◌≤◌}
use mathlib.Core.Path.{◌≡◌}
use native.Mathlib.Omega.{arith}
use Rattle.answers.specs.Numbers.{number, numbers, Answer}
use Rattle.answers.specs.declared.Reason.{Reason}
use Rattle.answers.specs.declared.Reason.TheVariants.{OptionsLength, OptionsValue, TreeLength, TreeDepth, TreeLayout, ChunkLayout, NotAscii, WorkRoom, TextRoom}

reason_small : (reason : Reason) → number reason ≤ 9
reason_small OptionsLength = omega arith
reason_small OptionsValue = omega arith
reason_small TreeLength = omega arith
reason_small TreeDepth = omega arith
reason_small TreeLayout = omega arith
reason_small ChunkLayout = omega arith
reason_small NotAscii = omega arith
reason_small WorkRoom = omega arith
reason_small TextRoom = omega arith

pub number_small : (answer : Answer) (given : ℕ) → given ≡ (numbers answer).0 → given ≤ 9
number_small (Ok length) given is = omega (arith, is)
number_small (Err refusal) given is = omega (arith, is, reason_small refusal.reason)
