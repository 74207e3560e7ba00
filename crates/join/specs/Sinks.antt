-- Not part of any promise of this crate: what is done with the bytes of a line while it is walked.
use Rattle.std.specs.Prelude.{ℕ, ◌+◌, ◌-◌, ◌≤◌, ◌≡◌, List, [], ◌∷◌, ◌++◌, cond, ◌&&◌, length, set, ltb, leb, refl}
use Rattle.std.proofs.Common.{suc, arith}
use Rattle.join.specs.declared.sink.Window.{Window}

-- from a text, a place of the line and the bytes that stand there a text is made
abbrev pub Puts : Type 0
Puts = List ℕ → ℕ → List ℕ → List ℕ

-- the bytes may be given at once or one part behind the other
pub record Writes (put : Puts) : Type 0 where
  pub none : (text : List ℕ) (at : ℕ) → put text at [] ≡ text
  pub more : (text : List ℕ) (at : ℕ) (xs ys : List ℕ) → put text at (xs ++ ys) ≡ put (put text at xs) (at + length xs) ys

-- ---- bytes written through a window: byte `at` of a line, where it is one of low to high

abbrev pub put : List ℕ → Window → ℕ → ℕ → List ℕ
put text window at b = cond (leb window.low at && ltb at window.high) (set text (window.base + (at - window.low)) b) text

unfoldable pub puts : Window → List ℕ → ℕ → List ℕ → List ℕ
puts window text at [] = text
puts window text at (b ∷ bs) = puts window (put text window at b) (at + 1) bs

-- the window lies within a text of n bytes
abbrev pub Room : Window → ℕ → Type 0
Room window n = window.base + (window.high - window.low) ≤ n

-- ---- laws

-- bytes and then more behind them are written at once
puts_append : (window : Window) (text : List ℕ) (at : ℕ) (xs ys : List ℕ)
    → puts window text at (xs ++ ys) ≡ puts window (puts window text at xs) (at + length xs) ys
unfolding puts
puts_append window text at [] ys =
    let same : at + 0 ≡ at = omega arith in
    rw same
puts_append window text at (x ∷ xs) ys =
    let same : at + suc (length xs) ≡ at + 1 + length xs = omega arith in
    rw same (puts_append window (put text window at x) (at + 1) xs ys)

-- so a window is written through at once or one part behind the other
pub puts_writes : (window : Window) → Writes (puts window)
unfolding puts
puts_writes window = record { none = λ text at. refl; more = puts_append window }

-- as a text is that stays as it is
pub nothing_writes : Writes (λ (text : List ℕ) (at : ℕ) (bytes : List ℕ). text)
nothing_writes = record { none = λ text at. refl; more = λ text at xs ys. refl }
