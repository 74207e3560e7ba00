-- Whether a field stands, by a shift.
use mathlib.Core.Path.{◌≡◌, refl, ◌∙◌}
use mathlib.Core.Bool.{false}
use Prim.Native.Nat.{ℕ, zero, suc, ◌/◌, ◌%◌, ◌^◌, ◌<◌, ◌≤◌}
use native.Mathlib.Omega.{arith}
use lib.Dec.{eqb, ltb}
use borrow.Author.Tests.{le-ltb}
use Rattle.std.proofs.Math.Nat.{div-eq_of_lt, pow-le-pow_right, pow-succ', div-div-eq-div-mul}
use Rattle.events.specs.Views.{bit_at}

-- the bit of a place is the lowest of what is left behind a shift
pub bit_shifted : (index bits : ℕ) → eqb (bits / 2 ^ index % 2) 1 ≡ bit_at index bits
unfolding bit_at
bit_shifted zero bits = let one : bits / 1 ≡ bits = omega arith in rw one refl
bit_shifted (suc index) bits = rw (pow-succ' 2 index, ← div-div-eq-div-mul) (bit_shifted index (bits / 2))

-- past the bits of a number there is none
pub bit_past : (index bits : ℕ) → bits < 2 ^ 64 → 64 ≤ index → ltb index 64 ≡ bit_at index bits
bit_past index bits fits past =
    let below : 2 ^ 64 ≤ 2 ^ index = pow-le-pow_right (omega arith) past in
    let none : bits / 2 ^ index ≡ 0 = div-eq_of_lt (omega (arith, below, fits)) in
    let shifted : false ≡ bit_at index bits = rw none at (bit_shifted index bits) in
    le-ltb _ _ past ∙ shifted
