-- The kind of a record that was read, and the parts that are due of it: a list's items, or as many fields as the kind has.
--   token_number_lem : kind_of number ≡ Some kind → token_number (built kind text trees) ≡ number
--   record_parts : read_own bytes at class levels ≡ Ok own → (own.kind ≡ variant.Vec) ⊎ Fielded bytes at class own
--   record_fields : read_own bytes at class levels ≡ Ok own → eqb (get_or bytes at 0) 24 ≡ false → Fielded bytes at class own
use Rattle.std.specs.Prelude.{Some, Ok}
use mathlib.Core.Path.{◌≡◌, refl, sym, ap, ◌∙◌}
use mathlib.Core.Logic.{◌⊎◌, inl, inr, ⊎_elim}
use mathlib.Core.List.{List, [], append-nil}
use mathlib.Core.Bool.{true, false}
use Prim.Native.Nat.{ℕ, ◌+◌, ◌/◌, ◌%◌}
use native.Mathlib.Omega.{arith}
use lib.ListN.{get_or}
use lib.Dec.{eqb}
use borrow.Author.Tests.{eqb-true, eq-eqb}
use Rattle.text.proofs.Choices.{true_false}
use Rattle.tree.specs.Grammar.{kind_of, rule, fields}
use Rattle.tree.specs.Own.{fields_fit, else_fits, own_of, read_own}
use Rattle.tree.specs.Reading.{fields_due, parts_due}
use Rattle.tree.specs.Tree.{Tree, built}
use Rattle.tree.specs.declared.grammar.Kind.{Kind}
use Rattle.tree.specs.declared.grammar.Kind.TheVariants as variant
use Rattle.tree.specs.declared.grammar.Class.{Class}
use Rattle.tree.specs.declared.own.Own.{Own}
use Rattle.tree.specs.declared.own.TriviaSpan.{TriviaSpan}
use Rattle.tree.specs.Grammar.{kind_number}
use Rattle.tree.proofs.KindLayout.{kind_number_lem}
use Rattle.tree.proofs.OwnBytes.{Headed, leaf_number, own_cases, leaf_other}
use Rattle.tree.proofs.RoundTrip.{no_items, node_fits}
use Rattle.events.specs.Views.{view, token_number, bit_at}

-- ---- numbers

-- a tree of a kind has its number
number_built : (kind : Kind) (text : List ℕ) (trees : List Tree) → token_number (built kind text trees) ≡ kind_number kind
unfolding built view
number_built variant.Align text trees = refl
number_built variant.Assert text trees = refl
number_built variant.Braces text trees = refl
number_built variant.Config text trees = refl
number_built variant.ConfigPair text trees = refl
number_built variant.Data text trees = refl
number_built variant.Definition text trees = refl
number_built variant.Eof text trees = refl
number_built variant.Error text trees = refl
number_built variant.Expression text trees = refl
number_built variant.If text trees = refl
number_built variant.Import text trees = refl
number_built variant.File text trees = refl
number_built variant.Instruction text trees = refl
number_built variant.Label text trees = refl
number_built variant.Loop text trees = refl
number_built variant.MacroDefinition text trees = refl
number_built variant.MacroInvocation text trees = refl
number_built variant.ProgramCounterDefinition text trees = refl
number_built variant.Segment text trees = refl
number_built variant.Test text trees = refl
number_built variant.Text text trees = refl
number_built variant.Trace text trees = refl
number_built variant.VariableDefinition text trees = refl
number_built variant.Vec text trees = refl
number_built variant.Leaf text trees = refl
number_built variant.PathItem text trees = refl
number_built variant.Block text trees = refl
number_built variant.BinaryExpression text trees = refl
number_built variant.Factor text trees = refl
number_built variant.CurrentProgramCounter text trees = refl
number_built variant.ExprParens text trees = refl
number_built variant.FunctionCall text trees = refl
number_built variant.IdentifierValue text trees = refl
number_built variant.Number text trees = refl
number_built variant.StringFactor text trees = refl
number_built variant.InterpolatedString text trees = refl
number_built variant.Operand text trees = refl
number_built variant.RegisterSuffix text trees = refl
number_built variant.ImportAs text trees = refl
number_built variant.ImportAll text trees = refl
number_built variant.SpecificImportArg text trees = refl
number_built variant.ArgItem text trees = refl

-- so it has the byte of its kind
pub token_number_lem : (number : ℕ) (kind : Kind) (text : List ℕ) (trees : List Tree) → kind_of number ≡ Some kind → token_number (built kind text trees) ≡ number
token_number_lem number kind text trees known = number_built kind text trees ∙ kind_number_lem number kind known

-- both fields behind the first branch of an `If` stand or none
pub both_stand : (bits : ℕ) → else_fits 10 bits ≡ true → bit_at 3 bits ≡ bit_at 4 bits
unfolding bit_at
both_stand bits fits =
    let same : bits / 8 % 2 ≡ bits / 16 % 2 = eqb-true _ _ fits in
    let third : bits / 2 / 2 / 2 % 2 ≡ bits / 8 % 2 = omega arith in
    let fourth : bits / 2 / 2 / 2 / 2 % 2 ≡ bits / 16 % 2 = omega arith in
    rw (third ∙ same, fourth)

-- ---- parts

-- a record that is no list: its fields are due, and where it is no leaf its map fits them
pub record Fielded (bytes : List ℕ) (at : ℕ) (class : Class) (own : Own) : Type 0 where
  pub other : eqb (get_or bytes at 0) 24 ≡ false
  pub parts : parts_due class own ≡ fields_due (fields own.kind (rule class).value) (own.map / 2)
  pub fits : leaf_number (get_or bytes at 0) ≡ false → fields_fit (fields own.kind (rule class).value) (own.map / 2) ≡ true
  pub ends : leaf_number (get_or bytes at 0) ≡ false → else_fits (get_or bytes at 0) (own.map / 2) ≡ true

-- the kind of a record that was read is that of its byte, and may stand there
pub record_headed : (bytes : List ℕ) (at : ℕ) (class : Class) (levels : ℕ) (own : Own) → read_own bytes at class levels ≡ Ok own
    → (trivia : TriviaSpan) × Headed bytes at class own.kind trivia
record_headed bytes at class =
    own_cases bytes at class (λ (own : Own). (trivia : TriviaSpan) × Headed bytes at class own.kind trivia)
    (λ kind trivia headed number room. (trivia, headed))
    (λ kind trivia end headed leaf stands text. (trivia, headed))
    (λ kind trivia headed list no_text. (trivia, headed))

module _ (bytes : List ℕ) (at : ℕ) (class : Class) where
  -- what is said of its parts
  abbrev Parted : Own → Type 0
  Parted own = (own.kind ≡ variant.Vec) ⊎ Fielded bytes at class own

  -- one without a count has only its fields
  fielded : (kind : Kind) (trivia : TriviaSpan) (text end : ℕ) → Headed bytes at class kind trivia → eqb (get_or bytes at 0) 24 ≡ false
      → Fielded bytes at class (own_of kind (get_or bytes (at + 1) 0) trivia text end 0)
  unfolding parts_due
  fielded kind trivia text end headed list = record {
    other = list;
    parts = rw (no_items (rule class).items) (append-nil (fields_due (fields kind (rule class).value) (get_or bytes (at + 1) 0 / 2)));
    fits = λ leaf. (node_fits (rule class) (get_or bytes at 0) kind (get_or bytes (at + 1) 0) headed.fits list leaf).1;
    ends = λ leaf. (node_fits (rule class) (get_or bytes at 0) kind (get_or bytes (at + 1) 0) headed.fits list leaf).0;
  }

  -- a record that was read is a list or has its fields
  pub record_parts : (levels : ℕ) (own : Own) → read_own bytes at class levels ≡ Ok own → Parted own
  record_parts =
      own_cases bytes at class Parted
      (λ kind trivia headed number room.
      let known : kind_of 24 ≡ Some kind = rw number at headed.kind_is in
      let same : kind ≡ variant.Vec = cc in
      inl same)
      (λ kind trivia end headed leaf stands text. inr (fielded kind trivia (trivia.end + 2) end headed (leaf_other (get_or bytes at 0) leaf)))
      (λ kind trivia headed list no_text. inr (fielded kind trivia trivia.end trivia.end headed list))

  -- so one that is no list has its fields
  pub record_fields : (levels : ℕ) (own : Own) → read_own bytes at class levels ≡ Ok own → eqb (get_or bytes at 0) 24 ≡ false → Fielded bytes at class own
  unfolding built view
  record_fields levels own is other =
      ⊎_elim
      (λ list.
      let number : 24 ≡ get_or bytes at 0 = token_number_lem (get_or bytes at 0) variant.Vec [] [] ((record_headed bytes at class levels own is).1.kind_is ∙ ap Some list) in
      true_false (sym (eq-eqb (get_or bytes at 0) 24 (sym number)) ∙ other))
      (λ held. held)
      (record_parts levels own is)
