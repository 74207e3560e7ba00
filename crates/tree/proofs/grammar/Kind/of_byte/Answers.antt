-- A byte's kind is the one at its place in the table of kinds, and past the table's end stands none.
use Rattle.std.specs.Prelude.{Option, Some, None}
use Rattle.std.specs.Option.{option_copied}
use Rattle.std.specs.Slice.{IsItemAt}
use denote.Bor.{Bor}
use mathlib.Core.Path.{◌≡◌, sym, ap, ◌∙◌}
use mathlib.Core.List.{map}
use Prim.Native.Nat.{ℕ}
use lib.ListN.{get_or-eq_default}
use Rattle.std.proofs.lemmas.List.{get_or-map}
use Rattle.tree.specs.Grammar.{all_kinds, kind_of}
use Rattle.tree.specs.declared.grammar.Kind.{Kind}
use Rattle.tree.proofs.grammar.Kind.of_byte.Goals as goal

-- what stands at a place of the table
at_place : (byte : ℕ) (found : Option (Bor Kind)) → IsItemAt all_kinds byte found → option_copied found ≡ kind_of byte
at_place byte None there = sym (get_or-eq_default (map Some all_kinds) None there.3)
at_place byte (Some kind) there =
    ap (λ (kind : Kind). Some kind) there.1 ∙ sym (get_or-map (λ (kind : Kind). Some kind) all_kinds byte kind.now None there.3.0)

pub returns : goal.returns
returns c = c.copied.ensures ∙ at_place c.args.byte c.get.result (rw c.from.ensures at c.get.ensures.lookup)
