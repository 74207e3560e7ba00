-- Codes of trivia items by their bytes.
use mathlib.Core.Path.{◌≡◌, refl}
use mathlib.Core.Bool.{true, false}
use Prim.Native.Nat.{ℕ, zero, suc, ◌<◌, ◌≤◌}
use native.Mathlib.Omega.{arith}
use lib.Dec.{eqb}
use lib.ListN.{get_or}
use borrow.Author.Tests.{ne_eqb}
use Rattle.std.specs.Prelude.{Some, None}
use Rattle.tree.specs.Codes as codes
use Rattle.tree.specs.Codes.{code_of, code_number, all_modes}
use Rattle.tree.specs.declared.codes.AddressingMode.{AddressingMode}
use Rattle.tree.specs.declared.codes.AddressingMode.TheVariants as modes
use Rattle.tree.specs.declared.codes.Code.{Code}
use Rattle.tree.specs.declared.codes.Code.TheVariants.{Whitespace, Newline, CStyle, CppStyle}

-- the code of a byte is its number
pub code_is : (byte : ℕ) (code : Code) → code_of byte ≡ Some code → code_number code ≡ byte
code_is zero code e = let same : Whitespace ≡ code = cc in rw (← same) refl
code_is (suc zero) code e = let same : Newline ≡ code = cc in rw (← same) refl
code_is (suc (suc zero)) code e = let same : CStyle ≡ code = cc in rw (← same) refl
code_is (suc (suc (suc zero))) code e = let same : CppStyle ≡ code = cc in rw (← same) refl
code_is (suc (suc (suc (suc more)))) code e = let z : ◌≡◌ {A = ℕ} 0 1 = cc in absurd (omega arith)

-- only the newline's is its number
pub other_code : (code : Code) → (code ≡ Newline → ⊥) → eqb (code_number code) codes.newline ≡ false
other_code Whitespace other = refl
other_code Newline other = absurd (other refl)
other_code CStyle other = refl
other_code CppStyle other = refl

-- a byte that has no code is above the last
pub no_code : (byte : ℕ) → code_of byte ≡ None → 3 < byte
no_code zero e = let z : ◌≡◌ {A = ℕ} 0 1 = cc in absurd (omega arith)
no_code (suc zero) e = let z : ◌≡◌ {A = ℕ} 0 1 = cc in absurd (omega arith)
no_code (suc (suc zero)) e = let z : ◌≡◌ {A = ℕ} 0 1 = cc in absurd (omega arith)
no_code (suc (suc (suc zero))) e = let z : ◌≡◌ {A = ℕ} 0 1 = cc in absurd (omega arith)
no_code (suc (suc (suc (suc more)))) e = omega arith

-- and one that has is none of these
pub has_code : (byte : ℕ) (code : Code) → code_of byte ≡ Some code → byte ≤ 3
has_code zero code e = omega arith
has_code (suc zero) code e = omega arith
has_code (suc (suc zero)) code e = omega arith
has_code (suc (suc (suc zero))) code e = omega arith
has_code (suc (suc (suc (suc more)))) code e = let z : ◌≡◌ {A = ℕ} 0 1 = cc in absurd (omega arith)

-- the two modes that print a closing character are those of their indices
pub mode_indirect : (index : ℕ) → get_or all_modes index modes.AbsoluteOrZp ≡ modes.Indirect → eqb index codes.indirect ≡ true
mode_indirect zero is = let z : ◌≡◌ {A = ℕ} 0 1 = cc in absurd (omega arith)
mode_indirect (suc zero) is = let z : ◌≡◌ {A = ℕ} 0 1 = cc in absurd (omega arith)
mode_indirect (suc (suc zero)) is = let z : ◌≡◌ {A = ℕ} 0 1 = cc in absurd (omega arith)
mode_indirect (suc (suc (suc zero))) is = refl
mode_indirect (suc (suc (suc (suc zero)))) is = let z : ◌≡◌ {A = ℕ} 0 1 = cc in absurd (omega arith)
mode_indirect (suc (suc (suc (suc (suc more))))) is = let z : ◌≡◌ {A = ℕ} 0 1 = cc in absurd (omega arith)

pub mode_outer : (index : ℕ) → get_or all_modes index modes.AbsoluteOrZp ≡ modes.OuterIndirect → eqb index codes.outer_indirect ≡ true
mode_outer zero is = let z : ◌≡◌ {A = ℕ} 0 1 = cc in absurd (omega arith)
mode_outer (suc zero) is = let z : ◌≡◌ {A = ℕ} 0 1 = cc in absurd (omega arith)
mode_outer (suc (suc zero)) is = let z : ◌≡◌ {A = ℕ} 0 1 = cc in absurd (omega arith)
mode_outer (suc (suc (suc zero))) is = let z : ◌≡◌ {A = ℕ} 0 1 = cc in absurd (omega arith)
mode_outer (suc (suc (suc (suc zero)))) is = refl
mode_outer (suc (suc (suc (suc (suc more))))) is = let z : ◌≡◌ {A = ℕ} 0 1 = cc in absurd (omega arith)

-- any other index has another mode
pub other_mode : (index number : ℕ) (mode : AddressingMode) → get_or all_modes number modes.AbsoluteOrZp ≡ mode
    → (get_or all_modes index modes.AbsoluteOrZp ≡ mode → ⊥) → eqb index number ≡ false
other_mode index number mode known differ = ne_eqb index number (λ same. differ (rw same known))
