-- Cases of a value that is known.
use Rattle.std.specs.Prelude.{Some, None, Ok, Err}
use mathlib.Core.Path.{◌≡◌, refl}
use mathlib.Core.Bool.{Bool, true, false, cond}
use Prim.Native.Nat.{ℕ}
use native.Mathlib.Omega.{arith}
use Rattle.answers.specs.declared.Refusal.{Refusal}
use Rattle.answers.specs.Numbers.{no_refusal, and_then, Checked}
use Rattle.answers.proofs.Cases.{failed_passed}
use Rattle.tree.specs.declared.own.Own.{Own}
use Rattle.tree.specs.declared.own.TriviaSpan.{TriviaSpan}

-- which way a choice went
pub by_choice : {A R : Type 0} (test : Bool) (first second value : A) → cond test first second ≡ value
    → (test ≡ true → first ≡ value → R) → (test ≡ false → second ≡ value → R) → R
by_choice true first second value e yes_way no_way = yes_way refl e
by_choice false first second value e yes_way no_way = no_way refl e

-- a refusal is no record
pub refused_record_lem : {R : Type 0} {refusal : Refusal} {own : Own} → Err refusal ≡ Ok own → R
refused_record_lem e = let z : ◌≡◌ {A = ℕ} 0 1 = cc in absurd (omega arith)

-- what is broken has no place behind it
pub broken_behind : {R : Type 0} {end : ℕ} → None ≡ Some end → R
broken_behind e = let z : ◌≡◌ {A = ℕ} 0 1 = cc in absurd (omega arith)

-- broken trivia are none
pub broken_trivia : {R : Type 0} {trivia : TriviaSpan} → None ≡ Some trivia → R
broken_trivia e = let z : ◌≡◌ {A = ℕ} 0 1 = cc in absurd (omega arith)

-- of two judgements that passed both did
pub both_passed : (first second : Checked) → and_then first second ≡ no_refusal → (first ≡ no_refusal) × (second ≡ no_refusal)
both_passed (Ok tt) second e = (refl, e)
both_passed (Err refusal) second e = failed_passed e
