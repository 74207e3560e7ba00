-- A number's class is the one at its place in the table of classes, and past the table's end stands the last.
use mathlib.Core.Path.{sym}
use mathlib.Core.List.{◌∷◌}
use Prim.Native.Nat.{◌<◌, ◌≤◌}
use native.Mathlib.Omega.{arith}
use lib.ListN.{get_or-eq_default}
use Rattle.std.proofs.lemmas.List.{get_or_default}
use Rattle.tree.specs.Rows.{classes}
use Rattle.tree.specs.declared.grammar.Class.TheVariants.{Word, StringItems}
use Rattle.tree.proofs.grammar.class_of.Goals as goal

pub returns-then-place-ge36 : goal.returns-then-place-ge36
returns-then-place-ge36 c =
    let past : 36 ≤ c.args.number = omega arith in
    sym (get_or-eq_default (Word ∷ classes) StringItems past)

pub returns : goal.returns
returns c =
    let within : c.args.number < 36 = omega arith in
    get_or_default (Word ∷ classes) c.args.number _ StringItems within
