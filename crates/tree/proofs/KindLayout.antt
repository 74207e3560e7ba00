-- The layout of a tree of each kind, from the stored forms of its parts.
use Rattle.std.specs.Prelude.{Some, None}
use mathlib.Core.Path.{◌≡◌, refl}
use mathlib.Core.List.{List, [], ◌∷◌, map}
use mathlib.Core.Bool.{Bool, true, false, ◌&&◌}
use Prim.Native.Nat.{ℕ, zero, suc, ◌+◌}
use native.Mathlib.Omega.{arith}
use lib.ListN.{length, get_or}
use lib.Dec.{eqb}
use borrow.Author.Tests.{eqb-true}
use Rattle.text.specs.Ink.{flat}
use Rattle.text.proofs.Choices.{by_test, true_false, and_true_left, and_true_right}
use Rattle.tree.specs.Grammar.{all_kinds, kind_of, kind_number, fields}
use Rattle.tree.specs.Tree.{Tree, Trivium, absent, chain, built}
use Rattle.tree.specs.Stored.{stored_node, stored_leaf, item_count, stored_with, stored}
use Rattle.tree.specs.declared.grammar.Kind.{Kind}
use Rattle.tree.specs.declared.grammar.Kind.TheVariants as variant
use Rattle.tree.specs.declared.grammar.Class.{Class}
use Rattle.tree.proofs.OwnBytes.{leaf_number}

-- the stored forms of so many trees from a place of a list on
abbrev pub forms_from : ℕ → ℕ → List Tree → List (List ℕ)
forms_from place zero trees = []
forms_from place (suc count) trees = stored (get_or trees place absent) ∷ forms_from (suc place) count trees

-- a kind with fields is stored as a node of its number, with as many parts as it has fields
pub node_stored : (kind : Kind) (value : Class) (trivia : List Trivium) (text : List ℕ) (trees : List Tree)
    → eqb (kind_number kind) 24 ≡ false → leaf_number (kind_number kind) ≡ false
    → stored_with trivia (built kind text trees) ≡ stored_node (kind_number kind) trivia (forms_from 0 (length (fields kind value)) trees)
unfolding stored_with built
node_stored variant.Align value trivia text trees list leaf = refl
node_stored variant.Assert value trivia text trees list leaf = refl
node_stored variant.Braces value trivia text trees list leaf = refl
node_stored variant.Config value trivia text trees list leaf = refl
node_stored variant.ConfigPair value trivia text trees list leaf = refl
node_stored variant.Data value trivia text trees list leaf = refl
node_stored variant.Definition value trivia text trees list leaf = refl
node_stored variant.Eof value trivia text trees list leaf = refl
node_stored variant.Error value trivia text trees list leaf = refl
node_stored variant.Expression value trivia text trees list leaf = refl
node_stored variant.If value trivia text trees list leaf = refl
node_stored variant.Import value trivia text trees list leaf = refl
node_stored variant.File value trivia text trees list leaf = refl
node_stored variant.Instruction value trivia text trees list leaf = refl
node_stored variant.Label value trivia text trees list leaf = refl
node_stored variant.Loop value trivia text trees list leaf = refl
node_stored variant.MacroDefinition value trivia text trees list leaf = refl
node_stored variant.MacroInvocation value trivia text trees list leaf = refl
node_stored variant.ProgramCounterDefinition value trivia text trees list leaf = refl
node_stored variant.Segment value trivia text trees list leaf = refl
node_stored variant.Test value trivia text trees list leaf = refl
node_stored variant.Text value trivia text trees list leaf = refl
node_stored variant.Trace value trivia text trees list leaf = refl
node_stored variant.VariableDefinition value trivia text trees list leaf = refl
node_stored variant.Vec value trivia text trees list leaf = true_false list
node_stored variant.Leaf value trivia text trees list leaf = true_false leaf
node_stored variant.PathItem value trivia text trees list leaf = true_false leaf
node_stored variant.Block value trivia text trees list leaf = refl
node_stored variant.BinaryExpression value trivia text trees list leaf = refl
node_stored variant.Factor value trivia text trees list leaf = refl
node_stored variant.CurrentProgramCounter value trivia text trees list leaf = refl
node_stored variant.ExprParens value trivia text trees list leaf = refl
node_stored variant.FunctionCall value trivia text trees list leaf = refl
node_stored variant.IdentifierValue value trivia text trees list leaf = refl
node_stored variant.Number value trivia text trees list leaf = refl
node_stored variant.StringFactor value trivia text trees list leaf = refl
node_stored variant.InterpolatedString value trivia text trees list leaf = refl
node_stored variant.Operand value trivia text trees list leaf = refl
node_stored variant.RegisterSuffix value trivia text trees list leaf = refl
node_stored variant.ImportAs value trivia text trees list leaf = refl
node_stored variant.ImportAll value trivia text trees list leaf = refl
node_stored variant.SpecificImportArg value trivia text trees list leaf = refl
node_stored variant.ArgItem value trivia text trees list leaf = refl

-- whether kinds stand in the order of their numbers, from a number on
abbrev in_order : ℕ → List Kind → Bool
in_order first [] = true
in_order first (kind ∷ others) = eqb (kind_number kind) first && in_order (suc first) others

-- the number of a kind that stands in order is its place
number_in_order : (first : ℕ) (those : List Kind) (number : ℕ) (kind : Kind) → in_order first those ≡ true
    → get_or (map Some those) number None ≡ Some kind → kind_number kind ≡ first + number
number_in_order first [] number kind order e = let z : ◌≡◌ {A = ℕ} 0 1 = cc in absurd (omega arith)
number_in_order first (here ∷ others) zero kind order e =
    let same : kind_number kind ≡ kind_number here = cc in
    omega (arith, eqb-true (kind_number here) first (and_true_left (eqb (kind_number here) first) (in_order (suc first) others) order))
number_in_order first (here ∷ others) (suc number) kind order e =
    omega (arith, number_in_order (suc first) others number kind (and_true_right (eqb (kind_number here) first) (in_order (suc first) others) order) e)

-- the byte of a kind is its number
pub kind_number_lem : (number : ℕ) (kind : Kind) → kind_of number ≡ Some kind → kind_number kind ≡ number
kind_number_lem number kind e = omega (arith, number_in_order 0 all_kinds number kind refl e)

-- the forms of trees behind the first
forms_behind : (place count : ℕ) (tree : Tree) (trees : List Tree) → forms_from (suc place) count (tree ∷ trees) ≡ forms_from place count trees
forms_behind place zero tree trees = refl
forms_behind place (suc count) tree trees = rw (forms_behind (suc place) count tree trees)

-- the forms of as many trees as there are are those of all
pub forms_all : (trees : List Tree) → forms_from 0 (length trees) trees ≡ map stored trees
forms_all [] = refl
forms_all (tree ∷ trees) = rw (forms_behind 0 (length trees) tree trees, forms_all trees)

-- a list has as many items as trees
pub items_counted : (trees : List Tree) → item_count (chain trees) ≡ length trees
unfolding item_count chain
items_counted [] = refl
items_counted (tree ∷ trees) = omega (arith, items_counted trees)

-- its items are stored one behind the other
pub items_stored : (trees : List Tree) → stored (chain trees) ≡ flat (map stored trees)
unfolding stored_with chain flat
items_stored [] = refl
items_stored (tree ∷ trees) = rw (items_stored trees)

-- a leaf of either kind has no fields, and is stored as a leaf
pub leaf_stored : (number : ℕ) (kind : Kind) (value : Class) (trivia : List Trivium) (text : List ℕ) (trees : List Tree) → leaf_number number ≡ true → kind_of number ≡ Some kind
    → (stored_with trivia (built kind text trees) ≡ stored_leaf number trivia text) × (fields kind value ≡ [])
unfolding stored_with built
leaf_stored number kind value trivia text trees leaf e =
    by_test (eqb number 25)
    (λ q.
    let is : number ≡ 25 = eqb-true number 25 q in
    let known : kind_of 25 ≡ Some kind = rw is at e in
    let same : kind ≡ variant.Leaf = cc in
    rw (is, same) (refl, refl))
    (λ q.
    let is : number ≡ 26 = eqb-true number 26 (rw q at leaf) in
    let known : kind_of 26 ≡ Some kind = rw is at e in
    let same : kind ≡ variant.PathItem = cc in
    rw (is, same) (refl, refl))
