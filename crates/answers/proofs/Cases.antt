-- Cases of a judgement.
use Rattle.answers.specs.Numbers.{no_refusal}
use Rattle.std.specs.Prelude.{Err}
use mathlib.Core.Path.{◌≡◌}
use Prim.Native.Nat.{ℕ}
use native.Mathlib.Omega.{arith}
use Rattle.answers.specs.declared.Refusal.{Refusal}

-- a judgement that failed did not pass
pub failed_passed : {R : Type 0} {refusal : Refusal} → Err refusal ≡ no_refusal → R
failed_passed e = let z : ◌≡◌ {A = ℕ} 0 1 = cc in absurd (omega arith)
