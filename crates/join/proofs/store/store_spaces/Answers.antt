-- The part of the text is spaces.
use mathlib.Core.Path.{◌≡◌, ap, ◌∙◌}
use native.Mathlib.Omega.{arith}
use Prim.Native.Nat.{ℕ, ◌+◌, ◌-◌}
use lib.ListN.{drop, length-replicate, length-take, length-drop}
use Rattle.text.specs.Ink.{spaces}
use Rattle.join.proofs.Storing.{part_stored}
use Rattle.join.proofs.store.store_spaces.Goals as goal

pub returns-in_default : goal.returns-in_default
returns-in_default c =
    let place = c.args.place in
    let count = c.args.count in
    let text = c.args.text.now in
    let long = length-replicate {A = ℕ} count 32 in
    let filled : c.fill.new.self ≡ spaces count =
    c.fill.ensures.after (λ y same. same)
    ∙ ap (λ (n : ℕ). spaces n) (omega (arith, length-take (place + count - place) (drop place text), length-drop place text, c.requires)) in
    part_stored text (spaces count) place _ filled (omega (arith, long)) (omega (arith, long))
