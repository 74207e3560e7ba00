-- Tokens in a row, and those of a file's list, by the way that the definitions go.
use Rattle.std.specs.Prelude.{Result, Ok, Err}
use Rattle.answers.specs.declared.Refusal.{Refusal}
use Rattle.tree.specs.declared.own.Own.{Own}
use mathlib.Core.Path.{◌≡◌, refl, sym, ap, ◌∙◌}
use mathlib.Core.List.{List}
use Prim.Native.Nat.{ℕ, zero, suc, ◌-◌, ◌≤◌, ◌<◌}
use native.Mathlib.Omega.{arith}
use native.Mathlib.Numerals.{sub-one}
use Rattle.tree.specs.Own.{read_own}
use mathlib.Core.Bool.{cond}
use lib.Dec.{ltb}
use Rattle.answers.specs.Numbers.{unless_refused}
use Rattle.answers.proofs.Numbers.{refused_number}
use Rattle.tree.specs.Parts.{skipped, numbers_skipped, read_numbers}
use Rattle.tree.proofs.Numbers.{skip_numbers}
use Rattle.tree.specs.declared.grammar.Class.TheVariants.{BareToken, Tokens}
use Rattle.reader.specs.Tokens.{then_at, behind_row, behind_on, tokens_behind, row_numbers, list_numbers, tokens_numbers}

-- no token is left
pub row_none : (bytes : List ℕ) (at left : ℕ) → left ≤ 0 → behind_row bytes at left ≡ Ok at
unfolding behind_row
row_none bytes at zero h = refl
row_none bytes at (suc left) h = let z : ⊥ = omega arith in absurd z

-- a token by what it reads as, and then the others
pub row_next : (bytes : List ℕ) (at left : ℕ) → 0 < left → {token : Result ℕ Refusal} → token ≡ skipped 63 bytes BareToken at → (read : Result ℕ Refusal) → token ≡ read
    → behind_row bytes at left ≡ then_at read (λ place. behind_row bytes place (left - 1))
unfolding behind_row
row_next bytes at zero h e read told = let z : ⊥ = omega arith in absurd z
row_next bytes at (suc left) h e read told =
    simp sub-one (ap (λ (found : Result ℕ Refusal). then_at found (λ place. behind_row bytes place left)) (sym e ∙ told))

-- the file's list by what its own bytes read as
pub list_read : (bytes : List ℕ) (count : ℕ) {list : Result Own Refusal} → list ≡ read_own bytes 0 Tokens 64 → (read : Result Own Refusal) → list ≡ read
    → behind_on bytes count read ≡ tokens_behind bytes count
unfolding tokens_behind
list_read bytes count e read told = ap (behind_on bytes count) (sym told ∙ e)

-- ---- the numbers of document 01

then_numbers : (found : Result ℕ Refusal) (next : ℕ → Result ℕ Refusal)
    → numbers_skipped (then_at found next) ≡ unless_refused (numbers_skipped found) (numbers_skipped (next (numbers_skipped found).1))
then_numbers (Ok place) next = refl
then_numbers (Err refusal) next = rw (refused_number refusal.reason) refl

row_numbers_lem : (bytes : List ℕ) (at count : ℕ) → numbers_skipped (behind_row bytes at count) ≡ row_numbers bytes at count
unfolding behind_row row_numbers
row_numbers_lem bytes at zero = refl
row_numbers_lem bytes at (suc count) =
    then_numbers (skipped 63 bytes BareToken at) (λ place. behind_row bytes place count)
    ∙ rw (skip_numbers 63 bytes BareToken at, row_numbers_lem bytes (read_numbers 63 bytes BareToken at).1 count) refl

on_numbers : (bytes : List ℕ) (count : ℕ) (list : Result Own Refusal) → numbers_skipped (behind_on bytes count list) ≡ list_numbers bytes count list
on_numbers bytes count (Ok list) = row_numbers_lem bytes list.end (cond (ltb list.count count) list.count count)
on_numbers bytes count (Err refusal) = refl

tokens_numbers_lem : (bytes : List ℕ) (count : ℕ) → numbers_skipped (tokens_behind bytes count) ≡ tokens_numbers bytes count
unfolding tokens_behind tokens_numbers
tokens_numbers_lem bytes count = on_numbers bytes count (read_own bytes 0 Tokens 64)

-- an answer that is known, with its numbers
pub tokens_known : {found : Result ℕ Refusal} (bytes : List ℕ) (count : ℕ) → found ≡ tokens_behind bytes count
    → (found ≡ tokens_behind bytes count) × (numbers_skipped found ≡ tokens_numbers bytes count)
tokens_known bytes count is = (is, ap numbers_skipped is ∙ tokens_numbers_lem bytes count)
