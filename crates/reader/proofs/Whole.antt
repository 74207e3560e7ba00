-- Behind all tokens of a file's list is behind the list: where it ends, or the first refusal in it. So the levels that
-- `tokens_behind` allows are those of a tree's depth: no more and no fewer.
--   all_behind : .. list.count ≤ count .. → tokens_behind bytes count ≡ skipped 64 bytes Tokens 0
-- And behind some of them, by computing.
--   some_behind : map found rows ≡ map wanted rows
use Rattle.std.specs.Prelude.{Result, Some, Ok, Err}
use Rattle.answers.specs.declared.Refusal.{Refusal}
use mathlib.Core.Path.{◌≡◌, refl, sym, ap, ◌∙◌}
use mathlib.Core.List.{List, [], ◌∷◌, ◌++◌, map}
use mathlib.Core.Bool.{cond}
use Prim.Native.Nat.{ℕ, zero, suc, ◌≤◌}
use native.Mathlib.Omega.{arith}
use lib.ListN.{get_or, replicate}
use lib.Dec.{eqb, ltb}
use borrow.Author.Tests.{ltb-false, eqb-true}
use Rattle.answers.specs.Numbers.{and_then, Checked}
use Rattle.text.proofs.Choices.{by_test, cond_both, no_other}
use Rattle.tree.specs.Grammar.{kind_of}
use Rattle.tree.specs.Own.{fields_fit, map_fits, sized_end, trivium_end, trivia_end, trivia_read, text_end, rest_of}
use Rattle.tree.specs.Own.{layout, own_at, read_own}
use Rattle.tree.specs.Reading.{trivia_from, due, parts_due, fields_due, read_parts, read_on, read}
use Rattle.tree.specs.Parts.{skipped_on, skipped}
use Rattle.tree.specs.Tree.{built, chain}
use Rattle.tree.specs.declared.grammar.Kind.{Kind}
use Rattle.tree.specs.declared.grammar.Kind.TheVariants as kind_is_here
use Rattle.tree.specs.declared.grammar.Class.TheVariants.{BareToken, Tokens}
use Rattle.tree.specs.declared.own.Own.{Own}
use Rattle.tree.specs.declared.own.TriviaSpan.{TriviaSpan}
use Rattle.tree.proofs.OwnBytes.{Headed, own_cases}
use Rattle.reader.specs.Tokens.{then_at, behind_row, behind_on, tokens_behind}

-- ---- tokens in a row

then_behind : (end last : ℕ) (checked rest : Checked) (next : ℕ → Result ℕ Refusal) → next end ≡ skipped_on last rest
    → then_at (skipped_on end checked) next ≡ skipped_on last (and_then checked rest)
then_behind end last (Ok tt) rest next e = e
then_behind end last (Err refusal) rest next e = refl

-- they are read as the items of a list are
row_parts : (bytes : List ℕ) (at count : ℕ)
    → behind_row bytes at count ≡ skipped_on (read_parts (read 63 bytes) (replicate count (due BareToken)) at).end
    (read_parts (read 63 bytes) (replicate count (due BareToken)) at).checked
unfolding behind_row read_parts skipped
row_parts bytes at zero = refl
row_parts bytes at (suc count) =
    let token = read 63 bytes BareToken at in
    let others = read_parts (read 63 bytes) (replicate count (due BareToken)) token.end in
    then_behind token.end others.end token.checked others.checked (λ place. behind_row bytes place count)
    (row_parts bytes token.end count)

-- ---- the list

-- only a list may stand there
list_headed : {bytes : List ℕ} {at : ℕ} {kind : Kind} {trivia : TriviaSpan} → Headed bytes at Tokens kind trivia
    → kind ≡ kind_is_here.Vec
list_headed {bytes} {at} {kind} headed =
    let is : get_or bytes at 0 ≡ 24 =
    by_test (eqb (get_or bytes at 0) 24) (λ q. eqb-true _ _ q)
    (λ other. no_other 24 _ (rw other at headed.standing)) in
    let same : Some kind ≡ Some kind_is_here.Vec = sym headed.kind_is ∙ ap kind_of is in
    cc

list_kind : (bytes : List ℕ) (own : Own) → read_own bytes 0 Tokens 64 ≡ Ok own → own.kind ≡ kind_is_here.Vec
list_kind bytes own =
    own_cases bytes 0 Tokens (λ (own : Own). own.kind ≡ kind_is_here.Vec)
    (λ kind trivia headed number room. list_headed headed)
    (λ kind trivia end headed leaf stands text. list_headed headed)
    (λ kind trivia headed list no_text. list_headed headed) 64 own

-- the lesser of two counts of which the first is not the greater
lesser_first : (first second : ℕ) → first ≤ second → cond (ltb first second) first second ≡ first
lesser_first first second within =
    cond_both (λ (least : ℕ). least ≡ first) (ltb first second) _ _ (λ less. refl)
    (λ not-less. omega (arith, within, ltb-false first second not-less))

-- by what the list's own bytes read as
list_behind : (bytes : List ℕ) (count : ℕ) (own : Result Own Refusal) → read_own bytes 0 Tokens 64 ≡ own
    → ((list : Own) → own ≡ Ok list → list.count ≤ count)
    → behind_on bytes count own ≡ skipped_on (read_on (read 63 bytes) bytes Tokens 0 own).end
    (read_on (read 63 bytes) bytes Tokens 0 own).checked
unfolding parts_due fields_due
list_behind bytes count (Ok list) is all =
    let least = lesser_first list.count count (all list refl) in
    rw (least, list_kind bytes list is, row_parts bytes list.end list.count)
list_behind bytes count (Err refusal) is all = refl

pub all_behind : (bytes : List ℕ) (count : ℕ)
    → ((list : Own) → read_own bytes 0 Tokens 64 ≡ Ok list → list.count ≤ count)
    → tokens_behind bytes count ≡ skipped 64 bytes Tokens 0
unfolding tokens_behind skipped read
all_behind bytes count all = list_behind bytes count (read_own bytes 0 Tokens 64) refl all

-- ---- some of the tokens

abbrev nop : List ℕ
nop = 13 ∷ 2 ∷ 25 ∷ 2 ∷ 1 ∷ 0 ∷ 33 ∷ []

-- no mnemonic
abbrev broken : List ℕ
broken = 13 ∷ 2 ∷ 25 ∷ 2 ∷ 1 ∷ 0 ∷ 56 ∷ []

abbrev two : List ℕ → List ℕ → List ℕ
two first second = 24 ∷ 0 ∷ 2 ∷ 0 ∷ (first ++ second)

-- a stored tree, how many tokens, and the place behind them, or the place of refusal 5 where it is met before
abbrev rows : List (List ℕ × ℕ × (Result ℕ Refusal))
rows =
    (two nop nop, 0, Ok 4)
    ∷ (two nop nop, 1, Ok 11)
    ∷ (two nop nop, 2, Ok 18)
    ∷ (two nop nop, 3, Ok 18)
    ∷ (two nop broken, 1, Ok 11)
    ∷ (two nop broken, 2, Err (layout 13))
    ∷ (two nop [], 2, Err (layout 11))
    ∷ (two nop (nop ++ nop), 2, Ok 18)
    ∷ ([], 0, Err (layout 0))
    ∷ (nop, 0, Err (layout 0))
    ∷ []

abbrev found : List ℕ × ℕ × (Result ℕ Refusal) → Result ℕ Refusal
found sample = tokens_behind sample.0 sample.1

abbrev wanted : List ℕ × ℕ × (Result ℕ Refusal) → Result ℕ Refusal
wanted sample = sample.2

pub some_behind : map found rows ≡ map wanted rows
unfolding tokens_behind behind_row skipped read read_parts parts_due fields_due trivia_from read_own own_at rest_of text_end
    trivia_read trivia_end trivium_end sized_end map_fits fields_fit built chain
some_behind = refl
