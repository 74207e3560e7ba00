-- A text without ink counts as so many spaces, and one with ink ends the ink of the line, whose blanks it ends where there was none before.
use mathlib.Core.Path.{◌≡◌, refl, sym, ◌∙◌}
use mathlib.Core.List.{List}
use mathlib.Core.Bool.{Bool, true, false, not}
use Prim.Native.Nat.{ℕ}
use native.Mathlib.Omega.{arith}
use lib.ListN.{length, length-replicate}
use borrow.Author.Tests.{not-true, not-false}
use Rattle.text.specs.Ink.{all_blank, spaces}
use Rattle.text.proofs.Ink.{spaces_blank, ink_end_le, leading_lt}
use Rattle.join.proofs.Measures.{ink_behind_blanks, ink_behind_ink, blanks_alike}
use Rattle.join.proofs.line.Measure.with_text.Goals as goal

pub returns-then-not-has_ink : goal.returns-then-not-has_ink
returns-then-not-has_ink c =
    let bytes = c.args.bytes.now in
    let blank = not-false (all_blank bytes) (sym c.has_ink.ensures ∙ c.if-not-has_ink.true) in
    record {
      measured = λ line known. blanks_alike _ line (spaces (length bytes)) bytes (spaces_blank (length bytes)) blank (length-replicate (length bytes) 32) (c.with_blanks.ensures.measured line known);
      length = c.with_blanks.ensures.length;
    }

-- where the scan found ink there is some
found : {answer : Bool} (bytes : List ℕ) → answer ≡ not (all_blank bytes) → answer ≡ true → all_blank bytes ≡ false
found bytes e some = not-true (all_blank bytes) (sym e ∙ some)

pub overflow_add-result : goal.overflow_add-result
overflow_add-result c =
    let bytes = c.args.bytes.now in
    omega (arith, c.leading_blanks.ensures, leading_lt bytes (found bytes c.has_ink.ensures c.if-not-has_ink.false))

pub overflow_add-ink_end : goal.overflow_add-ink_end
overflow_add-ink_end c = omega (arith, c.ink_end.ensures, ink_end_le c.args.bytes.now)

pub returns-then-self-eq0 : goal.returns-then-self-eq0
returns-then-self-eq0 c =
    let bytes = c.args.bytes.now in
    let ink = found bytes c.has_ink.ensures c.if-not-has_ink.false in
    record {
      measured = λ line known. ink_behind_blanks known bytes c.if-self-eq0.true ink c.leading_blanks.ensures c.ink_end.ensures;
      length = (refl, omega (arith, c.leading_blanks.ensures, leading_lt bytes ink));
    }

pub returns : goal.returns
returns c =
    let bytes = c.args.bytes.now in
    let ink = found bytes c.has_ink.ensures c.if-not-has_ink.false in
    record {
      measured = λ line known. ink_behind_ink known bytes c.if-self-eq0.false ink c.ink_end.ensures;
      length = (refl, omega arith);
    }
