-- A tree that was read without refusal holds none.
--   read_whole : read levels bytes class at .checked ≡ no_refusal → whole (read levels bytes class at .tree) ≡ true
use Rattle.answers.specs.Numbers.{no_refusal}
use mathlib.Core.Path.{◌≡◌, refl}
use mathlib.Core.List.{List, [], ◌∷◌}
use mathlib.Core.Bool.{true}
use Prim.Native.Nat.{ℕ, zero, suc}
use lib.ListN.{get_or}
use Rattle.answers.proofs.Cases.{failed_passed}
use Rattle.tree.specs.Tree.{Tree, absent, chain, built}
use Rattle.tree.specs.Reading.{Due, nothing, due, Reader, parts_due, read_parts, read}
use Rattle.tree.specs.Measures.{whole}
use Rattle.tree.specs.declared.grammar.Kind.{Kind}
use Rattle.tree.specs.declared.grammar.Kind.TheVariants as variant
use Rattle.tree.specs.declared.grammar.Class.{Class}
use Rattle.tree.proofs.Cases.{both_passed}
use Rattle.tree.proofs.Readings.{every_reading}

-- whole items are a whole list
chain_whole : (trees : List Tree) → ((place : ℕ) → whole (get_or trees place absent) ≡ true) → whole (chain trees) ≡ true
unfolding whole chain
chain_whole [] parts = refl
chain_whole (tree ∷ trees) parts = rw (parts 0, chain_whole trees (λ place. parts (suc place)))

-- whole parts are a whole tree of any kind
built_whole : (kind : Kind) (text : List ℕ) (trees : List Tree) → ((place : ℕ) → whole (get_or trees place absent) ≡ true) → whole (built kind text trees) ≡ true
unfolding whole built
built_whole variant.Align text trees parts = rw (parts 0, parts 1)
built_whole variant.Assert text trees parts = rw (parts 0, parts 1, parts 2)
built_whole variant.Braces text trees parts = parts 0
built_whole variant.Config text trees parts = parts 0
built_whole variant.ConfigPair text trees parts = rw (parts 0, parts 1, parts 2)
built_whole variant.Data text trees parts = rw (parts 0, parts 1)
built_whole variant.Definition text trees parts = rw (parts 0, parts 1, parts 2)
built_whole variant.Eof text trees parts = parts 0
built_whole variant.Error text trees parts = parts 0
built_whole variant.Expression text trees parts = parts 0
built_whole variant.If text trees parts = rw (parts 0, parts 1, parts 2, parts 3, parts 4)
built_whole variant.Import text trees parts = rw (parts 0, parts 1, parts 2, parts 3, parts 4)
built_whole variant.File text trees parts = rw (parts 0, parts 1)
built_whole variant.Instruction text trees parts = rw (parts 0, parts 1)
built_whole variant.Label text trees parts = rw (parts 0, parts 1, parts 2)
built_whole variant.Loop text trees parts = rw (parts 0, parts 1, parts 2)
built_whole variant.MacroDefinition text trees parts = rw (parts 0, parts 1, parts 2, parts 3, parts 4, parts 5)
built_whole variant.MacroInvocation text trees parts = rw (parts 0, parts 1, parts 2, parts 3)
built_whole variant.ProgramCounterDefinition text trees parts = rw (parts 0, parts 1, parts 2)
built_whole variant.Segment text trees parts = rw (parts 0, parts 1, parts 2)
built_whole variant.Test text trees parts = rw (parts 0, parts 1, parts 2)
built_whole variant.Text text trees parts = rw (parts 0, parts 1, parts 2)
built_whole variant.Trace text trees parts = rw (parts 0, parts 1, parts 2, parts 3)
built_whole variant.VariableDefinition text trees parts = rw (parts 0, parts 1, parts 2, parts 3)
built_whole variant.Vec text trees parts = chain_whole trees parts
built_whole variant.Leaf text trees parts = refl
built_whole variant.PathItem text trees parts = refl
built_whole variant.Block text trees parts = rw (parts 0, parts 1, parts 2)
built_whole variant.BinaryExpression text trees parts = rw (parts 0, parts 1, parts 2)
built_whole variant.Factor text trees parts = rw (parts 0, parts 1, parts 2)
built_whole variant.CurrentProgramCounter text trees parts = parts 0
built_whole variant.ExprParens text trees parts = rw (parts 0, parts 1, parts 2)
built_whole variant.FunctionCall text trees parts = rw (parts 0, parts 1, parts 2, parts 3)
built_whole variant.IdentifierValue text trees parts = rw (parts 0, parts 1)
built_whole variant.Number text trees parts = rw (parts 0, parts 1)
built_whole variant.StringFactor text trees parts = parts 0
built_whole variant.InterpolatedString text trees parts = rw (parts 0, parts 1)
built_whole variant.Operand text trees parts = rw (parts 0, parts 1, parts 2, parts 3, parts 4)
built_whole variant.RegisterSuffix text trees parts = rw (parts 0, parts 1)
built_whole variant.ImportAs text trees parts = rw (parts 0, parts 1)
built_whole variant.ImportAll text trees parts = rw (parts 0, parts 1)
built_whole variant.SpecificImportArg text trees parts = rw (parts 0, parts 1)
built_whole variant.ArgItem text trees parts = rw (parts 0, parts 1)

-- the trees of parts that were read without refusal are whole
parts_whole : (reader : Reader) → ((class : Class) (at : ℕ) → (reader class at).checked ≡ no_refusal → whole (reader class at).tree ≡ true)
    → (parts : List Due) (at : ℕ) → (read_parts reader parts at).checked ≡ no_refusal → (place : ℕ) → whole (get_or (read_parts reader parts at).trees place absent) ≡ true
unfolding whole read_parts
parts_whole reader below [] at e place = refl
parts_whole reader below (nothing ∷ parts) at e zero = refl
parts_whole reader below (nothing ∷ parts) at e (suc place) = parts_whole reader below parts at e place
parts_whole reader below (due class ∷ parts) at e zero =
    below class at (both_passed (reader class at).checked (read_parts reader parts (reader class at).end).checked e).0
parts_whole reader below (due class ∷ parts) at e (suc place) =
    parts_whole reader below parts (reader class at).end (both_passed (reader class at).checked (read_parts reader parts (reader class at).end).checked e).1 place

-- a tree that was read without refusal is whole
pub read_whole : (levels : ℕ) (bytes : List ℕ) (class : Class) (at : ℕ) → (read levels bytes class at).checked ≡ no_refusal → whole (read levels bytes class at).tree ≡ true
unfolding whole
read_whole levels bytes =
    every_reading bytes (λ levels class at reading. reading.checked ≡ no_refusal → whole reading.tree ≡ true)
    (λ levels class at reader why e. failed_passed e)
    (λ levels class at own is below e.
    built_whole own.kind _ _ (parts_whole (read levels bytes) below (parts_due class own) own.end e))
    levels
