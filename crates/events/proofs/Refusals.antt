-- The first refusal in a tree that was read is the one that reading met first; so what is skipped holds none, or the one that skipping meets.
--   read_refusal : first_refusal (read levels bytes class at .tree) ≡ read levels bytes class at .checked
--   skip_passed : skipped levels bytes class at ≡ Next end → (first_refusal (read levels bytes class at .tree) ≡ Passed) × (end ≡ read levels bytes class at .end)
--   skip_refused : skipped levels bytes class at ≡ NotSkipped why → first_refusal (read levels bytes class at .tree) ≡ Failed why
use Rattle.std.specs.Prelude.{Ok, Err}
use mathlib.Core.Path.{◌≡◌, refl, sym, ap, ◌∙◌}
use mathlib.Core.Logic.{⊎_elim}
use mathlib.Core.List.{List, [], ◌∷◌}
use mathlib.Core.Bool.{false}
use Prim.Native.Nat.{ℕ, zero, suc, ◌/◌}
use native.Mathlib.Omega.{arith}
use lib.ListN.{length, get_or}
use lib.Dec.{eqb}
use Rattle.answers.specs.declared.Refusal.{Refusal}
use Rattle.answers.specs.Numbers.{no_refusal, and_then, Checked}
use Rattle.text.proofs.Choices.{true_false}
use Rattle.tree.specs.Grammar.{rule, fields}
use Rattle.tree.specs.Own.{read_own}
use Rattle.tree.specs.Reading.{Due, nothing, due, text_of, parts_due, Reader, read_parts, read}
use Rattle.tree.specs.Parts.{skipped_on, skipped}
use Rattle.tree.specs.Tree.{Tree, absent, chain, built}
use Rattle.tree.specs.declared.grammar.Kind.{Kind}
use Rattle.tree.specs.declared.grammar.Kind.TheVariants as variant
use Rattle.tree.specs.declared.grammar.Class.{Class}
use Rattle.tree.specs.declared.own.Own.{Own}
use Rattle.tree.proofs.Readings.{every_reading}
use Rattle.tree.proofs.RoundTrip.{trees_counted, fields_counted}
use Rattle.events.specs.Views.{view, token_number}
use Rattle.events.specs.Refusals.{first_refusal}
use Rattle.events.proofs.OwnParts.{Fielded, token_number_lem, record_headed, record_parts}

-- ---- the parts of a tree

-- the first refusal in some trees
abbrev refusal_in : List Tree → Checked
refusal_in [] = no_refusal
refusal_in (tree ∷ trees) = and_then (first_refusal tree) (refusal_in trees)

-- in so many trees from a place of a list on
abbrev refusal_from : ℕ → ℕ → List Tree → Checked
refusal_from place zero trees = no_refusal
refusal_from place (suc zero) trees = first_refusal (get_or trees place absent)
refusal_from place (suc (suc count)) trees = and_then (first_refusal (get_or trees place absent)) (refusal_from (suc place) (suc count) trees)

-- a tree of a kind with fields has that of its fields
fields_refusal : (kind : Kind) (value : Class) (text : List ℕ) (trees : List Tree) → eqb (token_number (built kind text trees)) 24 ≡ false
    → first_refusal (built kind text trees) ≡ refusal_from 0 (length (fields kind value)) trees
unfolding first_refusal built view
fields_refusal variant.Align value text trees other = refl
fields_refusal variant.Assert value text trees other = refl
fields_refusal variant.Braces value text trees other = refl
fields_refusal variant.Config value text trees other = refl
fields_refusal variant.ConfigPair value text trees other = refl
fields_refusal variant.Data value text trees other = refl
fields_refusal variant.Definition value text trees other = refl
fields_refusal variant.Eof value text trees other = refl
fields_refusal variant.Error value text trees other = refl
fields_refusal variant.Expression value text trees other = refl
fields_refusal variant.If value text trees other = refl
fields_refusal variant.Import value text trees other = refl
fields_refusal variant.File value text trees other = refl
fields_refusal variant.Instruction value text trees other = refl
fields_refusal variant.Label value text trees other = refl
fields_refusal variant.Loop value text trees other = refl
fields_refusal variant.MacroDefinition value text trees other = refl
fields_refusal variant.MacroInvocation value text trees other = refl
fields_refusal variant.ProgramCounterDefinition value text trees other = refl
fields_refusal variant.Segment value text trees other = refl
fields_refusal variant.Test value text trees other = refl
fields_refusal variant.Text value text trees other = refl
fields_refusal variant.Trace value text trees other = refl
fields_refusal variant.VariableDefinition value text trees other = refl
fields_refusal variant.Vec value text trees other = true_false other
fields_refusal variant.Leaf value text trees other = refl
fields_refusal variant.PathItem value text trees other = refl
fields_refusal variant.Block value text trees other = refl
fields_refusal variant.BinaryExpression value text trees other = refl
fields_refusal variant.Factor value text trees other = refl
fields_refusal variant.CurrentProgramCounter value text trees other = refl
fields_refusal variant.ExprParens value text trees other = refl
fields_refusal variant.FunctionCall value text trees other = refl
fields_refusal variant.IdentifierValue value text trees other = refl
fields_refusal variant.Number value text trees other = refl
fields_refusal variant.StringFactor value text trees other = refl
fields_refusal variant.InterpolatedString value text trees other = refl
fields_refusal variant.Operand value text trees other = refl
fields_refusal variant.RegisterSuffix value text trees other = refl
fields_refusal variant.ImportAs value text trees other = refl
fields_refusal variant.ImportAll value text trees other = refl
fields_refusal variant.SpecificImportArg value text trees other = refl
fields_refusal variant.ArgItem value text trees other = refl

-- a list has that of its items
items_refusal : (trees : List Tree) → first_refusal (chain trees) ≡ refusal_in trees
unfolding first_refusal chain
items_refusal [] = refl
items_refusal (tree ∷ trees) = rw (items_refusal trees)

-- nothing is behind the last
last_refusal : (found : Checked) → and_then found no_refusal ≡ found
last_refusal (Ok tt) = refl
last_refusal (Err why) = refl

-- in trees behind the first
refusal_behind : (place count : ℕ) (tree : Tree) (trees : List Tree) → refusal_from (suc place) count (tree ∷ trees) ≡ refusal_from place count trees
refusal_behind place zero tree trees = refl
refusal_behind place (suc zero) tree trees = refl
refusal_behind place (suc (suc count)) tree trees = rw (refusal_behind (suc place) (suc count) tree trees)

-- in as many trees as there are
refusal_all : (trees : List Tree) → refusal_from 0 (length trees) trees ≡ refusal_in trees
refusal_all [] = refl
refusal_all (tree ∷ []) = sym (last_refusal (first_refusal tree))
refusal_all (tree ∷ next ∷ trees) = rw (refusal_behind 0 (suc (length trees)) tree (next ∷ trees), refusal_all (next ∷ trees))

-- ---- reading

-- the first refusal in the trees of parts is the one that reading them met
parts_refusal : (reader : Reader) → ((class : Class) (at : ℕ) → first_refusal (reader class at).tree ≡ (reader class at).checked)
    → (parts : List Due) (at : ℕ) → refusal_in (read_parts reader parts at).trees ≡ (read_parts reader parts at).checked
unfolding read_parts first_refusal
parts_refusal reader below [] at = refl
parts_refusal reader below (nothing ∷ parts) at = parts_refusal reader below parts at
parts_refusal reader below (due class ∷ parts) at = rw (below class at, parts_refusal reader below parts (reader class at).end)

-- a record of its own bytes has that of its parts
record_refusal : (bytes : List ℕ) (reader : Reader) (at : ℕ) (class : Class) (levels : ℕ) (own : Own) → read_own bytes at class levels ≡ Ok own
    → first_refusal (built own.kind (text_of bytes own) (read_parts reader (parts_due class own) own.end).trees) ≡ refusal_in (read_parts reader (parts_due class own) own.end).trees
unfolding first_refusal built
record_refusal bytes reader at class levels own is =
    let trees : List Tree = (read_parts reader (parts_due class own) own.end).trees in
    let text : List ℕ = text_of bytes own in
    ⊎_elim
    (λ list. ap (λ (kind : Kind). first_refusal (built kind text trees)) list ∙ items_refusal trees)
    (λ (held : Fielded bytes at class own).
    let number : token_number (built own.kind text trees) ≡ get_or bytes at 0 = token_number_lem (get_or bytes at 0) own.kind text trees (record_headed bytes at class levels own is).1.kind_is in
    let counted : length trees ≡ length (fields own.kind (rule class).value) =
    trees_counted reader (parts_due class own) own.end ∙ ap length held.parts ∙ fields_counted (fields own.kind (rule class).value) (own.map / 2) in
    fields_refusal own.kind (rule class).value text trees (rw number held.other) ∙ rw (← counted) (refusal_all trees))
    (record_parts bytes at class levels own is)

-- the first refusal in a tree is the one that reading met first
pub read_refusal : (levels : ℕ) (bytes : List ℕ) (class : Class) (at : ℕ) → first_refusal (read levels bytes class at).tree ≡ (read levels bytes class at).checked
unfolding first_refusal
read_refusal levels bytes =
    every_reading bytes (λ levels class at reading. first_refusal reading.tree ≡ reading.checked)
    (λ levels class at reader why. refl)
    (λ levels class at own is below.
    record_refusal bytes (read levels bytes) at class (suc levels) own is ∙ parts_refusal (read levels bytes) below (parts_due class own) own.end)
    levels

-- ---- skipping

-- by what reading met
skip_on : (end place : ℕ) (checked : Checked) → skipped_on end checked ≡ Ok place → (checked ≡ no_refusal) × (place ≡ end)
skip_on end place (Ok tt) e = (refl, (cc))
skip_on end place (Err why) e = let z : ◌≡◌ {A = ℕ} 0 1 = cc in absurd (omega arith)

stop_on : (end : ℕ) (why : Refusal) (checked : Checked) → skipped_on end checked ≡ Err why → checked ≡ Err why
stop_on end why (Ok tt) e = let z : ◌≡◌ {A = ℕ} 0 1 = cc in absurd (omega arith)
stop_on end why (Err other) e = let same : other ≡ why = cc in rw same

module _ (levels : ℕ) (bytes : List ℕ) (class : Class) (at : ℕ) where
  -- a record that was skipped holds no refusal
  pub skip_passed : (end : ℕ) → skipped levels bytes class at ≡ Ok end
      → (first_refusal (read levels bytes class at).tree ≡ no_refusal) × (end ≡ (read levels bytes class at).end)
  unfolding skipped
  skip_passed end e =
      let found = skip_on (read levels bytes class at).end end (read levels bytes class at).checked e in
      (read_refusal levels bytes class at ∙ found.0, found.1)

  -- one that was not holds the refusal that was met
  pub skip_refused : (why : Refusal) → skipped levels bytes class at ≡ Err why → first_refusal (read levels bytes class at).tree ≡ Err why
  unfolding skipped
  skip_refused why e = read_refusal levels bytes class at ∙ stop_on (read levels bytes class at).end why (read levels bytes class at).checked e
