-- Where each of the first bytes and of the last ones is another byte, all are.
use native.Mathlib.Omega.{arith}
use mathlib.Core.Path.{◌≡◌, sym, ◌∙◌}
use Prim.Native.Nat.{◌-◌}
use lib.ListN.{length, take, drop, length-drop}
use lib.Seq.{take_all}
use Rattle.join.proofs.Pieces.{ends_other}
use Rattle.join.proofs.piece.ends_clear.Goals as goal

pub returns-then-are_clear : goal.returns-then-are_clear
returns-then-are_clear g c =
    let text = c.args.text.now in
    let start = length text - g.row.N in
    let rest : take (length text - start) (drop start text) ≡ drop start text = take_all _ _ (omega (arith, length-drop start text)) in
    λ e. ends_other text g.row.N start (omega (arith, c.requires.1)) (sym c.are_clear.ensures ∙ c.if-are_clear.true) (rw rest at (sym c.are_clear-then-are_clear.ensures ∙ e))
