-- Each answer is the one that the definition has by what the list's own bytes read as; how many tokens are passed is the lesser of the counts.
use Rattle.std.specs.Prelude.{min, Result}
use mathlib.Core.Path.{◌≡◌, ap, ◌∙◌}
use mathlib.Core.Bool.{cond}
use mathlib.Core.List.{List}
use Prim.Native.Nat.{ℕ}
use lib.Dec.{ltb}
use native.Mathlib.Omega.{arith}
use borrow.Author.Tests.{ltb-true, ltb-false}
use Rattle.text.proofs.Choices.{by_test}
use Rattle.std.proofs.lemmas.Result.{err_from_is_err_and}
use Rattle.answers.specs.declared.Refusal.{Refusal}
use Rattle.reader.specs.Tokens.{behind_row}
use Rattle.reader.proofs.Rows.{list_read, tokens_known}
use Rattle.reader.proofs.behind_tokens.Goals as goal

-- the lesser of two numbers by a test
lesser : (number other : ℕ) → min number other ≡ cond (ltb other number) other number
lesser number other = by_test (ltb other number)
    (λ t. rw t (let less = ltb-true other number t in omega arith))
    (λ t. rw t (let more = ltb-false other number t in omega arith))

-- behind so many tokens in a row as the lesser says
lesser_behind : (bytes : List ℕ) (at number other : ℕ) {least : ℕ} {found : Result ℕ Refusal} → found ≡ behind_row bytes at least → least ≡ min number other
    → found ≡ behind_row bytes at (cond (ltb other number) other number)
lesser_behind bytes at number other row is = row ∙ ap (behind_row bytes at) (is ∙ lesser number other)

pub returns-in_err-list : goal.returns-in_err-list
returns-in_err-list c =
    let p = err_from_is_err_and c.from_residual.result c.from_residual.ensures.1 in
    let told = tokens_known _ _ (p.1 ∙ rw p.2 (list_read _ _ c.list_head.ensures.0 _ c.in_err-list.was)) in
    record { answer = told.0; numbers = told.1 }

pub returns : goal.returns
returns c =
    let told = tokens_known _ _
    (lesser_behind _ _ c.args.count c.in_ok-list.list.count c.behind_row.ensures (omega arith) ∙ list_read _ _ c.list_head.ensures.0 _ c.in_ok-list.was) in
    record { answer = told.0; numbers = told.1 }
