-- Where only blanks were passed, what is left has ink just where the line has.
use Prim.Native.Nat.{◌+◌}
use mathlib.Core.Path.{◌≡◌, sym, ap, ◌∙◌, refl}
use mathlib.Core.Bool.{true, false, not}
use native.Mathlib.Omega.{arith}
use lib.ListN.{get_or, drop, drop_of_length-le}
use Rattle.text.specs.Ink.{blank, all_blank}
use Rattle.text.proofs.Parts.{drop_step}
use Rattle.text.proofs.scans.has_ink.Goals as goal

pub loop-i-init : goal.loop-i-init
loop-i-init c = (omega arith, refl)

pub loop-i-preserved : goal.loop-i-preserved
unfolding all_blank
loop-i-preserved c =
    let loop = c.loop-i in
    let line = c.args.line.now in
    let passed : blank (get_or line loop.i 0) ≡ true = sym c.is_blank.ensures ∙ c.if-not-is_blank.false in
    let one : all_blank (drop loop.i line) ≡ all_blank (drop (loop.i + 1) line) = simp (drop_step line loop.i (omega (arith, c.if-line-i.false)), passed) in
    (omega (arith, c.if-line-i.false), sym one ∙ loop.invariant.1)

pub returns-then-line-i : goal.returns-then-line-i
unfolding all_blank
returns-then-line-i c =
    let loop = c.loop-i in
    let line = c.args.line.now in
    let none : all_blank (drop loop.i line) ≡ true = simp (drop_of_length-le line c.if-line-i.true) in
    ap not (sym none ∙ loop.invariant.1)

pub returns-then-not-is_blank : goal.returns-then-not-is_blank
unfolding all_blank
returns-then-not-is_blank c =
    let loop = c.loop-i in
    let line = c.args.line.now in
    let ink : blank (get_or line loop.i 0) ≡ false = sym c.is_blank.ensures ∙ c.if-not-is_blank.true in
    let some : all_blank (drop loop.i line) ≡ false = simp (drop_step line loop.i (omega (arith, c.if-line-i.false)), ink) in
    ap not (sym some ∙ loop.invariant.1)
