-- The tokens of a file's list in a row, read as far as a count says.
use Rattle.answers.specs.declared.Refusal.{Refusal}
use Rattle.tree.specs.declared.own.Own.{Own}
use Rattle.std.specs.Prelude.{ℕ, zero, suc, List, cond, ltb, Result, Ok, Err}
use Rattle.tree.specs.Own.{read_own}
use Rattle.answers.specs.Numbers.{numbers_of, unless_refused}
use Rattle.tree.specs.Parts.{skipped, read_numbers}
use Rattle.tree.specs.declared.grammar.Class.TheVariants.{BareToken, Tokens}

-- what is read behind a record, where it was no refusal
abbrev pub then_at : Result ℕ Refusal → (ℕ → Result ℕ Refusal) → Result ℕ Refusal
then_at (Ok place) next = next place
then_at (Err refusal) next = Err refusal

-- the place behind so many tokens in a row; a token of a file's list stands at the second of the 64 levels
unfoldable pub behind_row : List ℕ → ℕ → ℕ → Result ℕ Refusal
behind_row bytes at zero = Ok at
behind_row bytes at (suc count) = then_at (skipped 63 bytes BareToken at) (λ place. behind_row bytes place count)

abbrev pub behind_on : List ℕ → ℕ → Result Own Refusal → Result ℕ Refusal
behind_on bytes count (Ok list) = behind_row bytes list.end (cond (ltb list.count count) list.count count)
behind_on bytes count (Err refusal) = Err refusal

-- the place behind so many tokens of a file's list, behind all where it has fewer, or the refusal that is met before it
unfoldable pub tokens_behind : List ℕ → ℕ → Result ℕ Refusal
tokens_behind bytes count = behind_on bytes count (read_own bytes 0 Tokens 64)

-- ---- in document 01's numbers: 0 with the place behind the tokens, or a refusal's number and place

unfoldable pub row_numbers : List ℕ → ℕ → ℕ → ℕ × ℕ
row_numbers bytes at zero = (0, at)
row_numbers bytes at (suc count) =
    let token = read_numbers 63 bytes BareToken at in
    unless_refused token (row_numbers bytes token.1 count)

abbrev pub list_numbers : List ℕ → ℕ → Result Own Refusal → ℕ × ℕ
list_numbers bytes count (Ok list) = row_numbers bytes list.end (cond (ltb list.count count) list.count count)
list_numbers bytes count (Err refusal) = numbers_of refusal

unfoldable pub tokens_numbers : List ℕ → ℕ → ℕ × ℕ
tokens_numbers bytes count = list_numbers bytes count (read_own bytes 0 Tokens 64)
