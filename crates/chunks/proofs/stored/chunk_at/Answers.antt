-- What no head stands for is no chunk, and a text behind a head is found as the definition finds it.
use Rattle.std.proofs.Common.{◌≡◌, ℕ, ◌-◌, List, length, take, drop, arith, sym, ◌∙◌, length-take, length-drop}
use Rattle.chunks.proofs.Types.{told, untold}
use Rattle.chunks.proofs.Reading.{chunk_end, none_behind, plain_behind, indented_behind}
use Rattle.chunks.proofs.stored.chunk_at.Goals as goal

-- the bytes behind a head
rest_length : (head : ℕ) (part : List ℕ) → length (take (length part - head) (drop head part)) ≡ length part - head
rest_length head part = simp (length-take, length-drop) (omega arith)

pub returns-in_err-get-clause-answer : goal.returns-in_err-get-clause-answer
returns-in_err-get-clause-answer c = c.from_residual.ensures ∙ sym (chunk_end _ _ (omega (arith, c.in_err-get.ensures)))

pub returns-in_err-ty-in-len3-up-clause-answer : goal.returns-in_err-ty-in-len3-up-clause-answer
returns-in_err-ty-in-len3-up-clause-answer c =
    let large = untold c.try_from.result c.try_from.ensures (sym c.ok.ensures.value ∙ c.in_err-ty-in-len3-up.was) in
    c.from_residual-in_err-ty-in-len3-up.ensures ∙ none_behind _ _ _ c.in_ok-get.ensures.lookup.0 (λ enough map. omega arith) (λ enough set map some low. omega arith)

pub returns-in_ok-ty-in-len3-up-clause-answer : goal.returns-in_ok-ty-in-len3-up-clause-answer
returns-in_ok-ty-in-len3-up-clause-answer c =
    c.text_in.ensures ∙ plain_behind _ _ _ c.in_ok-get.ensures.lookup.0 _ _ _ c.in-len3-up.len_at_least
    (told _ c.try_from.ensures (sym c.ok.ensures.value ∙ c.in_ok-ty-in-len3-up.was)) (rest_length 3 _) c.number.ensures

pub returns-in_err-ty-in-len5-up-clause-answer : goal.returns-in_err-ty-in-len5-up-clause-answer
returns-in_err-ty-in-len5-up-clause-answer c =
    let large = untold c.try_from-in-len5-up.result c.try_from-in-len5-up.ensures (sym c.ok-in-len5-up.ensures.value ∙ c.in_err-ty-in-len5-up.was) in
    c.from_residual-in_err-ty-in-len5-up.ensures ∙ none_behind _ _ _ c.in_ok-get.ensures.lookup.0 (λ enough map. omega arith) (λ enough set map some low. omega arith)

pub returns-then-indent-eq0-clause-answer : goal.returns-then-indent-eq0-clause-answer
returns-then-indent-eq0-clause-answer c =
    none_behind _ _ _ c.in_ok-get.ensures.lookup.0 (λ enough map. omega arith) (λ enough set map some low. omega (arith, c.number-indent.ensures, c.then-indent-eq0.either))

pub returns-else-indent-gt-LARGEST_INDENT-clause-answer : goal.returns-else-indent-gt-LARGEST_INDENT-clause-answer
returns-else-indent-gt-LARGEST_INDENT-clause-answer c =
    c.text_in-in-len5-up.ensures ∙ indented_behind _ _ _ c.in_ok-get.ensures.lookup.0 _ _ _ _ c.in-len5-up.len_at_least c.if-map-lt4.false
    (told _ c.try_from-in-len5-up.ensures (sym c.ok-in-len5-up.ensures.value ∙ c.in_ok-ty-in-len5-up.was))
    c.number-indent.ensures c.if-indent-eq0.false c.if-indent-gt-LARGEST_INDENT.false (rest_length 5 _) c.number-in-len5-up.ensures

pub returns-in_default-clause-answer : goal.returns-in_default-clause-answer
returns-in_default-clause-answer c =
    none_behind _ _ _ c.in_ok-get.ensures.lookup.0 (λ enough map. omega arith) (λ enough set map some low. omega arith)

pub returns-in_default-2-clause-answer : goal.returns-in_default-2-clause-answer
returns-in_default-2-clause-answer c =
    none_behind _ _ _ c.in_ok-get.ensures.lookup.0 (λ enough map. omega arith) (λ enough set map some low. omega arith)

pub returns-in_default-3-clause-answer : goal.returns-in_default-3-clause-answer
returns-in_default-3-clause-answer c =
    none_behind _ _ _ c.in_ok-get.ensures.lookup.0 (λ enough map. omega arith) (λ enough set map some low. omega arith)
