-- Laws of tokens without a block or a token inside: the kind that is left, a leaf by its own bytes, and a space that is taken back.
use Rattle.std.specs.Prelude.{Ok}
use mathlib.Core.Path.{◌≡◌, refl}
use mathlib.Core.List.{List}
use mathlib.Core.Bool.{true}
use Prim.Native.Nat.{ℕ}
use lib.Seq.{slice}
use Rattle.tree.specs.Tree.{node, Leaf, built}
use Rattle.tree.specs.Own.{read_own}
use Rattle.tree.specs.Reading.{trivia_of, fields_due, parts_due, read_parts, read}
use Rattle.tree.specs.declared.grammar.Class.{Class}
use Rattle.tree.specs.declared.grammar.Kind.{Kind}
use Rattle.tree.specs.declared.grammar.Kind.TheVariants as variant
use Rattle.tree.specs.declared.own.Own.{Own}
use Rattle.printing.specs.Events.{nothing, space, clear, ◌▹◌}
use Rattle.printing.specs.Running.{Run, going, ended, run}
use Rattle.leaves.specs.Leaves.{LeafClass}
use Rattle.leaves.proofs.Leaves.{own_leaf}
use Rattle.leaves.proofs.Records.{read_record}
use Rattle.tokens.specs.Fronts.{is_plain}

-- ---- by the kind

-- of the kinds without a block or a token inside, an end is the one that is none of the others
pub end_left : (kind : Kind) → is_plain kind ≡ true → (kind ≡ variant.Align → ⊥) → (kind ≡ variant.Assert → ⊥) → (kind ≡ variant.Data → ⊥)
    → (kind ≡ variant.Error → ⊥) → (kind ≡ variant.Expression → ⊥) → (kind ≡ variant.File → ⊥) → (kind ≡ variant.Instruction → ⊥)
    → (kind ≡ variant.MacroInvocation → ⊥) → (kind ≡ variant.ProgramCounterDefinition → ⊥) → (kind ≡ variant.Text → ⊥)
    → (kind ≡ variant.Trace → ⊥) → (kind ≡ variant.VariableDefinition → ⊥) → kind ≡ variant.Eof
end_left variant.Eof among align assert values error expression file instruction invocation counter text trace variable = refl
end_left other among align assert values error expression file instruction invocation counter text trace variable = first_of (cc, search)

-- ---- printers

-- a record of a leaf's class whose own bytes were read is a leaf of their text, and ends behind them
pub text_read : (bytes : List ℕ) (class : Class) (at levels : ℕ) (own : Own) → LeafClass class → read_own bytes at class levels ≡ Ok own
    → ((read levels bytes class at).tree ≡ node at (trivia_of bytes own) (Leaf (slice own.text own.end bytes)))
    × ((read levels bytes class at).end ≡ own.end)
unfolding parts_due fields_due read_parts built
text_read bytes class at levels own leaves is =
    rw ((read_record bytes class at levels own is).1, own_leaf bytes class leaves at levels own is, leaves.2) (refl, refl)

-- a space that is taken back at once
pub taken_back : (x : Run) → run clear x ≡ run (space ▹ nothing ▹ clear) x
unfolding run
taken_back (going room state) = refl
taken_back (ended room why) = refl
