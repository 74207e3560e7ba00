-- What holds of every text that was read holds of every text of the tree, trivia included.
--   read_texts : .. ((text : Placed) → List.Memᴰ text (read levels bytes class at .texts) → P text.bytes) → EveryText P (read levels bytes class at .tree)
use mathlib.Core.Path.{refl}
use mathlib.Core.List.Memᴰ
use mathlib.Core.List.{List, [], ◌∷◌, Memᴰ}
use Prim.Native.Nat.{ℕ, zero, suc}
use lib.ListN.{get_or}
use Rattle.tree.specs.Tree.{Tree, Trivium, absent, refused, node, nil, cons, Align, Assert, Braces, Config, ConfigPair, Data, Definition, Eof, Error}
use Rattle.tree.specs.Tree.{Expression, If, Import, File, Instruction, Label, Loop, MacroDefinition, MacroInvocation, ProgramCounterDefinition}
use Rattle.tree.specs.Tree.{Segment, Test, Text, Trace, VariableDefinition, Vec, Leaf, PathItem, Block, BinaryExpression, Factor}
use Rattle.tree.specs.Tree.{CurrentProgramCounter, ExprParens, FunctionCall, IdentifierValue, Number, StringFactor, InterpolatedString, Operand}
use Rattle.tree.specs.Tree.{RegisterSuffix, ImportAs, ImportAll, SpecificImportArg, ArgItem, chain, built}
use Rattle.tree.specs.Reading.{Placed, trivium_behind, trivia_from, trivia_texts, texts_of, Due, nothing, due, Reader, parts_due, read_parts, read}
use Rattle.tree.specs.declared.grammar.Kind.{Kind}
use Rattle.tree.specs.declared.grammar.Kind.TheVariants as variant
use Rattle.tree.specs.declared.grammar.Class.{Class}
use Rattle.tree.proofs.Readings.{every_reading}
use Rattle.events.specs.Views.{view, own_trivia, head_trivia}

-- every text of trivia
unfoldable pub EveryTrivia : (List ℕ → Type 0) → List Trivium → Type 0
EveryTrivia P [] = Unit
EveryTrivia P (item ∷ items) = P item.text × EveryTrivia P items

-- every text of a tree
unfoldable pub EveryText : (List ℕ → Type 0) → Tree → Type 0
EveryText P absent = Unit
EveryText P (refused refusal) = Unit
EveryText P (node place trivia tree) = EveryTrivia P trivia × EveryText P tree
EveryText P nil = Unit
EveryText P (cons item items) = EveryText P item × EveryText P items
EveryText P (Align tag value) = EveryText P tag × EveryText P value
EveryText P (Assert tag value message) = EveryText P tag × EveryText P value × EveryText P message
EveryText P (Braces block) = EveryText P block
EveryText P (Config block) = EveryText P block
EveryText P (ConfigPair key eq value) = EveryText P key × EveryText P eq × EveryText P value
EveryText P (Data values size) = EveryText P values × EveryText P size
EveryText P (Definition tag id value) = EveryText P tag × EveryText P id × EveryText P value
EveryText P (Eof unit) = EveryText P unit
EveryText P (Error text) = EveryText P text
EveryText P (Expression expression) = EveryText P expression
EveryText P (If tag_if value then tag_else otherwise) = EveryText P tag_if × EveryText P value × EveryText P then × EveryText P tag_else × EveryText P otherwise
EveryText P (Import tag args source filename block) = EveryText P tag × EveryText P args × EveryText P source × EveryText P filename × EveryText P block
EveryText P (File tag filename) = EveryText P tag × EveryText P filename
EveryText P (Instruction mnemonic operand) = EveryText P mnemonic × EveryText P operand
EveryText P (Label id colon block) = EveryText P id × EveryText P colon × EveryText P block
EveryText P (Loop tag expr block) = EveryText P tag × EveryText P expr × EveryText P block
EveryText P (MacroDefinition tag id lparen args rparen block) = EveryText P tag × EveryText P id × EveryText P lparen × EveryText P args × EveryText P rparen × EveryText P block
EveryText P (MacroInvocation id lparen args rparen) = EveryText P id × EveryText P lparen × EveryText P args × EveryText P rparen
EveryText P (ProgramCounterDefinition star eq value) = EveryText P star × EveryText P eq × EveryText P value
EveryText P (Segment tag id block) = EveryText P tag × EveryText P id × EveryText P block
EveryText P (Test tag id block) = EveryText P tag × EveryText P id × EveryText P block
EveryText P (Text tag encoding text) = EveryText P tag × EveryText P encoding × EveryText P text
EveryText P (Trace tag lparen args rparen) = EveryText P tag × EveryText P lparen × EveryText P args × EveryText P rparen
EveryText P (VariableDefinition ty id eq value) = EveryText P ty × EveryText P id × EveryText P eq × EveryText P value
EveryText P (Vec items) = EveryText P items
EveryText P (Leaf text) = P text
EveryText P (PathItem text) = P text
EveryText P (Block lparen inner rparen) = EveryText P lparen × EveryText P inner × EveryText P rparen
EveryText P (BinaryExpression op lhs rhs) = EveryText P op × EveryText P lhs × EveryText P rhs
EveryText P (Factor factor tag_not tag_neg) = EveryText P factor × EveryText P tag_not × EveryText P tag_neg
EveryText P (CurrentProgramCounter star) = EveryText P star
EveryText P (ExprParens lparen inner rparen) = EveryText P lparen × EveryText P inner × EveryText P rparen
EveryText P (FunctionCall name lparen args rparen) = EveryText P name × EveryText P lparen × EveryText P args × EveryText P rparen
EveryText P (IdentifierValue path modifier) = EveryText P path × EveryText P modifier
EveryText P (Number ty value) = EveryText P ty × EveryText P value
EveryText P (StringFactor string) = EveryText P string
EveryText P (InterpolatedString lquote items) = EveryText P lquote × EveryText P items
EveryText P (Operand expr lchar rchar mode suffix) = EveryText P expr × EveryText P lchar × EveryText P rchar × EveryText P mode × EveryText P suffix
EveryText P (RegisterSuffix comma register) = EveryText P comma × EveryText P register
EveryText P (ImportAs tag path) = EveryText P tag × EveryText P path
EveryText P (ImportAll star alias) = EveryText P star × EveryText P alias
EveryText P (SpecificImportArg path alias) = EveryText P path × EveryText P alias
EveryText P (ArgItem value comma) = EveryText P value × EveryText P comma

module _ (P : List ℕ → Type 0) where
  -- ---- of a tree's trivia

  -- its own
  pub own_trivia_lem : (tree : Tree) → EveryText P tree → EveryTrivia P (own_trivia tree)
  unfolding EveryTrivia EveryText view
  own_trivia_lem absent texts = tt
  own_trivia_lem (refused refusal) texts = tt
  own_trivia_lem (node place trivia tree) texts = texts.0
  own_trivia_lem nil texts = tt
  own_trivia_lem (cons item items) texts = tt
  own_trivia_lem (Align tag value) texts = tt
  own_trivia_lem (Assert tag value message) texts = tt
  own_trivia_lem (Braces block) texts = tt
  own_trivia_lem (Config block) texts = tt
  own_trivia_lem (ConfigPair key eq value) texts = tt
  own_trivia_lem (Data values size) texts = tt
  own_trivia_lem (Definition tag id value) texts = tt
  own_trivia_lem (Eof unit) texts = tt
  own_trivia_lem (Error text) texts = tt
  own_trivia_lem (Expression expression) texts = tt
  own_trivia_lem (If tag_if value then tag_else otherwise) texts = tt
  own_trivia_lem (Import tag args source filename block) texts = tt
  own_trivia_lem (File tag filename) texts = tt
  own_trivia_lem (Instruction mnemonic operand) texts = tt
  own_trivia_lem (Label id colon block) texts = tt
  own_trivia_lem (Loop tag expr block) texts = tt
  own_trivia_lem (MacroDefinition tag id lparen args rparen block) texts = tt
  own_trivia_lem (MacroInvocation id lparen args rparen) texts = tt
  own_trivia_lem (ProgramCounterDefinition star eq value) texts = tt
  own_trivia_lem (Segment tag id block) texts = tt
  own_trivia_lem (Test tag id block) texts = tt
  own_trivia_lem (Text tag encoding text) texts = tt
  own_trivia_lem (Trace tag lparen args rparen) texts = tt
  own_trivia_lem (VariableDefinition ty id eq value) texts = tt
  own_trivia_lem (Vec items) texts = tt
  own_trivia_lem (Leaf text) texts = tt
  own_trivia_lem (PathItem text) texts = tt
  own_trivia_lem (Block lparen inner rparen) texts = tt
  own_trivia_lem (BinaryExpression op lhs rhs) texts = tt
  own_trivia_lem (Factor factor tag_not tag_neg) texts = tt
  own_trivia_lem (CurrentProgramCounter star) texts = tt
  own_trivia_lem (ExprParens lparen inner rparen) texts = tt
  own_trivia_lem (FunctionCall name lparen args rparen) texts = tt
  own_trivia_lem (IdentifierValue path modifier) texts = tt
  own_trivia_lem (Number ty value) texts = tt
  own_trivia_lem (StringFactor string) texts = tt
  own_trivia_lem (InterpolatedString lquote items) texts = tt
  own_trivia_lem (Operand expr lchar rchar mode suffix) texts = tt
  own_trivia_lem (RegisterSuffix comma register) texts = tt
  own_trivia_lem (ImportAs tag path) texts = tt
  own_trivia_lem (ImportAll star alias) texts = tt
  own_trivia_lem (SpecificImportArg path alias) texts = tt
  own_trivia_lem (ArgItem value comma) texts = tt

  -- its head's
  pub head_trivia_lem : (tree : Tree) → EveryText P tree → EveryTrivia P (head_trivia tree)
  unfolding EveryTrivia EveryText view
  head_trivia_lem absent texts = tt
  head_trivia_lem (refused refusal) texts = tt
  head_trivia_lem (node place trivia tree) texts = head_trivia_lem tree texts.1
  head_trivia_lem nil texts = tt
  head_trivia_lem (cons item items) texts = tt
  head_trivia_lem (Align tag value) texts = own_trivia_lem tag texts.0
  head_trivia_lem (Assert tag value message) texts = own_trivia_lem tag texts.0
  head_trivia_lem (Braces block) texts = head_trivia_lem block texts
  head_trivia_lem (Config block) texts = head_trivia_lem block texts
  head_trivia_lem (ConfigPair key eq value) texts = own_trivia_lem key texts.0
  head_trivia_lem (Data values size) texts = own_trivia_lem size texts.1
  head_trivia_lem (Definition tag id value) texts = own_trivia_lem tag texts.0
  head_trivia_lem (Eof unit) texts = own_trivia_lem unit texts
  head_trivia_lem (Error text) texts = own_trivia_lem text texts
  head_trivia_lem (Expression expression) texts = head_trivia_lem expression texts
  head_trivia_lem (If tag_if value then tag_else otherwise) texts = own_trivia_lem tag_if texts.0
  head_trivia_lem (Import tag args source filename block) texts = own_trivia_lem tag texts.0
  head_trivia_lem (File tag filename) texts = own_trivia_lem tag texts.0
  head_trivia_lem (Instruction mnemonic operand) texts = own_trivia_lem mnemonic texts.0
  head_trivia_lem (Label id colon block) texts = own_trivia_lem id texts.0
  head_trivia_lem (Loop tag expr block) texts = own_trivia_lem tag texts.0
  head_trivia_lem (MacroDefinition tag id lparen args rparen block) texts = own_trivia_lem tag texts.0
  head_trivia_lem (MacroInvocation id lparen args rparen) texts = own_trivia_lem id texts.0
  head_trivia_lem (ProgramCounterDefinition star eq value) texts = own_trivia_lem star texts.0
  head_trivia_lem (Segment tag id block) texts = own_trivia_lem tag texts.0
  head_trivia_lem (Test tag id block) texts = own_trivia_lem tag texts.0
  head_trivia_lem (Text tag encoding text) texts = own_trivia_lem tag texts.0
  head_trivia_lem (Trace tag lparen args rparen) texts = own_trivia_lem tag texts.0
  head_trivia_lem (VariableDefinition ty id eq value) texts = own_trivia_lem ty texts.0
  head_trivia_lem (Vec items) texts = tt
  head_trivia_lem (Leaf text) texts = tt
  head_trivia_lem (PathItem text) texts = tt
  head_trivia_lem (Block lparen inner rparen) texts = own_trivia_lem lparen texts.0
  head_trivia_lem (BinaryExpression op lhs rhs) texts = own_trivia_lem lhs texts.1
  head_trivia_lem (Factor factor tag_not tag_neg) texts = own_trivia_lem factor texts.0
  head_trivia_lem (CurrentProgramCounter star) texts = tt
  head_trivia_lem (ExprParens lparen inner rparen) texts = tt
  head_trivia_lem (FunctionCall name lparen args rparen) texts = tt
  head_trivia_lem (IdentifierValue path modifier) texts = tt
  head_trivia_lem (Number ty value) texts = tt
  head_trivia_lem (StringFactor string) texts = tt
  head_trivia_lem (InterpolatedString lquote items) texts = tt
  head_trivia_lem (Operand expr lchar rchar mode suffix) texts = tt
  head_trivia_lem (RegisterSuffix comma register) texts = tt
  head_trivia_lem (ImportAs tag path) texts = tt
  head_trivia_lem (ImportAll star alias) texts = tt
  head_trivia_lem (SpecificImportArg path alias) texts = tt
  head_trivia_lem (ArgItem value comma) texts = tt

  -- ---- of a tree that was read

  -- the items of a list
  chain_texts : (trees : List Tree) → ((place : ℕ) → EveryText P (get_or trees place absent)) → EveryText P (chain trees)
  unfolding EveryText chain
  chain_texts [] parts = tt
  chain_texts (tree ∷ trees) parts = (parts 0, chain_texts trees (λ place. parts (suc place)))

  -- a record of its text and its parts
  built_texts : (kind : Kind) (text : List ℕ) (trees : List Tree) → P text → ((place : ℕ) → EveryText P (get_or trees place absent))
      → EveryText P (built kind text trees)
  unfolding EveryText built
  built_texts variant.Align text trees own parts = (parts 0, parts 1)
  built_texts variant.Assert text trees own parts = (parts 0, parts 1, parts 2)
  built_texts variant.Braces text trees own parts = parts 0
  built_texts variant.Config text trees own parts = parts 0
  built_texts variant.ConfigPair text trees own parts = (parts 0, parts 1, parts 2)
  built_texts variant.Data text trees own parts = (parts 0, parts 1)
  built_texts variant.Definition text trees own parts = (parts 0, parts 1, parts 2)
  built_texts variant.Eof text trees own parts = parts 0
  built_texts variant.Error text trees own parts = parts 0
  built_texts variant.Expression text trees own parts = parts 0
  built_texts variant.If text trees own parts = (parts 0, parts 1, parts 2, parts 3, parts 4)
  built_texts variant.Import text trees own parts = (parts 0, parts 1, parts 2, parts 3, parts 4)
  built_texts variant.File text trees own parts = (parts 0, parts 1)
  built_texts variant.Instruction text trees own parts = (parts 0, parts 1)
  built_texts variant.Label text trees own parts = (parts 0, parts 1, parts 2)
  built_texts variant.Loop text trees own parts = (parts 0, parts 1, parts 2)
  built_texts variant.MacroDefinition text trees own parts = (parts 0, parts 1, parts 2, parts 3, parts 4, parts 5)
  built_texts variant.MacroInvocation text trees own parts = (parts 0, parts 1, parts 2, parts 3)
  built_texts variant.ProgramCounterDefinition text trees own parts = (parts 0, parts 1, parts 2)
  built_texts variant.Segment text trees own parts = (parts 0, parts 1, parts 2)
  built_texts variant.Test text trees own parts = (parts 0, parts 1, parts 2)
  built_texts variant.Text text trees own parts = (parts 0, parts 1, parts 2)
  built_texts variant.Trace text trees own parts = (parts 0, parts 1, parts 2, parts 3)
  built_texts variant.VariableDefinition text trees own parts = (parts 0, parts 1, parts 2, parts 3)
  built_texts variant.Vec text trees own parts = chain_texts trees parts
  built_texts variant.Leaf text trees own parts = own
  built_texts variant.PathItem text trees own parts = own
  built_texts variant.Block text trees own parts = (parts 0, parts 1, parts 2)
  built_texts variant.BinaryExpression text trees own parts = (parts 0, parts 1, parts 2)
  built_texts variant.Factor text trees own parts = (parts 0, parts 1, parts 2)
  built_texts variant.CurrentProgramCounter text trees own parts = parts 0
  built_texts variant.ExprParens text trees own parts = (parts 0, parts 1, parts 2)
  built_texts variant.FunctionCall text trees own parts = (parts 0, parts 1, parts 2, parts 3)
  built_texts variant.IdentifierValue text trees own parts = (parts 0, parts 1)
  built_texts variant.Number text trees own parts = (parts 0, parts 1)
  built_texts variant.StringFactor text trees own parts = parts 0
  built_texts variant.InterpolatedString text trees own parts = (parts 0, parts 1)
  built_texts variant.Operand text trees own parts = (parts 0, parts 1, parts 2, parts 3, parts 4)
  built_texts variant.RegisterSuffix text trees own parts = (parts 0, parts 1)
  built_texts variant.ImportAs text trees own parts = (parts 0, parts 1)
  built_texts variant.ImportAll text trees own parts = (parts 0, parts 1)
  built_texts variant.SpecificImportArg text trees own parts = (parts 0, parts 1)
  built_texts variant.ArgItem text trees own parts = (parts 0, parts 1)

  -- what holds of each of these texts
  abbrev pub Holds : List Placed → Type 0
  Holds texts = (text : Placed) → Memᴰ text texts → P text.bytes

  -- trivia
  trivia_texts_lem : (bytes : List ℕ) (at count : ℕ) → Holds (trivia_texts bytes at count) → EveryTrivia P (trivia_from bytes at count)
  unfolding EveryTrivia trivia_texts trivia_from
  trivia_texts_lem bytes at zero each = tt
  trivia_texts_lem bytes at (suc count) each =
      (each _ (Memᴰ.head refl), trivia_texts_lem bytes (trivium_behind bytes at) count (λ text member. each text (Memᴰ.tail member)))

  -- parts
  parts_texts : (reader : Reader) → ((class : Class) (at : ℕ) → Holds (reader class at).texts → EveryText P (reader class at).tree)
      → (parts : List Due) (at : ℕ) → Holds (read_parts reader parts at).texts → (place : ℕ) → EveryText P (get_or (read_parts reader parts at).trees place absent)
  unfolding EveryText read_parts
  parts_texts reader below [] at each place = tt
  parts_texts reader below (nothing ∷ parts) at each zero = tt
  parts_texts reader below (nothing ∷ parts) at each (suc place) = parts_texts reader below parts at each place
  parts_texts reader below (due class ∷ parts) at each zero =
      below class at (λ text member. each text (Memᴰ.append_left (read_parts reader parts (reader class at).end).texts member))
  parts_texts reader below (due class ∷ parts) at each (suc place) =
      parts_texts reader below parts (reader class at).end (λ text member. each text (Memᴰ.append_right (reader class at).texts member)) place

  -- what holds of every text that was read holds of every text of the tree
  pub read_texts : (levels : ℕ) (bytes : List ℕ) (class : Class) (at : ℕ) → Holds (read levels bytes class at).texts → EveryText P (read levels bytes class at).tree
  unfolding EveryText
  read_texts levels bytes =
      every_reading bytes (λ levels class at reading. Holds reading.texts → EveryText P reading.tree)
      (λ levels class at reader why each. tt)
      (λ levels class at own is below each.
      let inner = read_parts (read levels bytes) (parts_due class own) own.end in
      let mine : Holds (texts_of bytes own) = λ text member. each text (Memᴰ.append_left inner.texts member) in
      let items = trivia_texts bytes own.trivia own.trivia_count in (
        trivia_texts_lem bytes own.trivia own.trivia_count (λ text member. mine text (Memᴰ.append_left _ member)),
        built_texts own.kind _ inner.trees (mine _ (Memᴰ.append_right items (Memᴰ.head refl)))
            (parts_texts (read levels bytes) below (parts_due class own) own.end (λ text member. each text (Memᴰ.append_right (texts_of bytes own) member))),
      ))
      levels
