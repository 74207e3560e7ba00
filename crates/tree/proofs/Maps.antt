-- The maps of a kind's fields in one number: a test of every map tells that the number is right.
use mathlib.Core.Path.{◌≡◌, refl, sym}
use mathlib.Core.List.{List}
use mathlib.Core.Bool.{Bool, true, false, cond, not, ◌&&◌}
use Prim.Native.Nat.{ℕ, zero, suc, ◌+◌, ◌-◌, ◌<◌}
use native.Mathlib.Omega.{arith}
use borrow.Author.Tests.{eqb-true, eqb-false}
use lib.Dec.{eqb}
use Rattle.text.proofs.Choices.{by_test, true_false, and_true_left, and_true_right}
use Rattle.tree.specs.Grammar.{Slot}
use Rattle.tree.specs.Own.{fields_fit}
use Rattle.tree.specs.Walk.{holds, SetOf}

-- two tests agree on every number below one
unfoldable pub agree : (ℕ → Bool) → (ℕ → Bool) → ℕ → Bool
agree f g zero = true
agree f g (suc n) = cond (f n) (g n) (not (g n)) && agree f g n

same_test : (a b : Bool) → cond a b (not b) ≡ true → a ≡ b
same_test true true e = refl
same_test true false e = true_false (sym e)
same_test false true e = true_false (sym e)
same_test false false e = refl

agree_below : (f g : ℕ → Bool) (n : ℕ) → agree f g n ≡ true → (i : ℕ) → i < n → f i ≡ g i
unfolding agree
agree_below f g zero e i h = absurd (omega arith)
agree_below f g (suc n) e i h =
    let first : Bool = cond (f n) (g n) (not (g n)) in
    by_test (eqb i n)
    (λ t. rw (eqb-true i n t) (same_test (f n) (g n) (and_true_left first (agree f g n) e)))
    (λ t. agree_below f g n (and_true_right first (agree f g n) e) i (omega (arith, eqb-false i n t)))

-- every map that there is
unfoldable pub tested : ℕ → List Slot → Bool
tested set slots = agree (λ bits. holds set bits) (λ bits. fields_fit slots bits) 64 && agree (λ bits. false) (λ bits. fields_fit slots (64 + bits)) 64

-- a number that passes the test is the set of the maps that fit
pub set_of : (set : ℕ) (slots : List Slot) → tested set slots ≡ true → SetOf set slots
unfolding tested
set_of set slots e =
    let low : Bool = agree (λ bits. holds set bits) (λ bits. fields_fit slots bits) 64 in
    let high : Bool = agree (λ bits. false) (λ bits. fields_fit slots (64 + bits)) 64 in
    record {
      within = agree_below (λ bits. holds set bits) (λ bits. fields_fit slots bits) 64 (and_true_left low high e);
      past = λ bits h k.
          let moved : 64 + (bits - 64) ≡ bits = omega arith in
          rw moved at (agree_below (λ bits. false) (λ bits. fields_fit slots (64 + bits)) 64 (and_true_right low high e) (bits - 64) (omega arith));
    }
