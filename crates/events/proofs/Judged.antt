-- A tree that was read has no refusal where its events do not stop: whatever a walk passes it judges.
--   read_judged : Free (events_in context place shown (read levels bytes class at .tree)) → read levels bytes class at .checked ≡ Passed
use Rattle.std.specs.Prelude.{Ok, Err}
use Rattle.answers.specs.Numbers.{no_refusal, Checked}
use mathlib.Core.Path.{◌≡◌, refl, sym, ◌∙◌}
use mathlib.Core.List.{List, [], ◌∷◌}
use mathlib.Core.Bool.{Bool, true, false, cond}
use Prim.Native.Nat.{ℕ, zero, suc}
use lib.ListN.{get_or}
use lib.Dec.{eqb}
use Rattle.options.specs.declared.BracePosition.{BracePosition}
use Rattle.options.specs.declared.BracePosition.TheVariants.{SameLine, NewLine}
use Rattle.text.proofs.Choices.{by_test, true_false}
use Rattle.tree.specs.Own.{read_own}
use Rattle.tree.specs.Reading.{Due, nothing, due, text_of, parts_due, Reader, read_parts, record_of, read}
use Rattle.tree.specs.Tree.{Tree, absent, chain, built}
use Rattle.tree.specs.declared.grammar.Kind.{Kind}
use Rattle.tree.specs.declared.grammar.Kind.TheVariants as variant
use Rattle.tree.specs.declared.grammar.Class.{Class}
use Rattle.tree.specs.declared.own.Own.{Own}
use Rattle.tree.proofs.Readings.{every_reading}
use Rattle.printing.specs.Events.{Events, ◌▹◌}
use Rattle.printing.specs.Events as event
use Rattle.printing.specs.declared.Context.{Context}
use Rattle.printing.proofs.Stops.{Free, Unstopped, unstopped}
use Rattle.events.specs.Printed.{plain, mnemonic, register, data_size, encoding, variable_type, number_type, modifier}
use Rattle.events.specs.Views.{token_number, stands, index_of}
use Rattle.events.specs.Refusals.{first_refusal}
use Rattle.events.specs.Trees.{stop_at, first, behind, block_end, Place, leaf, labelled, arguments, imports, in_string, tokens, item_events, value_shown}
use Rattle.events.specs.Trees.{deeper, opening, else_events, operand_events, events_in}
use Rattle.events.proofs.Heads.{read_stands, else_stands}
use Rattle.events.proofs.Refusals.{read_refusal}

-- where the events of a tree do not stop it has no refusal, wherever it stands
abbrev Judges : Tree → Type 0
Judges tree = (context : Context) (place : Place) (shown : Bool) → Unstopped (events_in context place shown tree) → first_refusal tree ≡ no_refusal

-- ---- what surrounds trees

-- what was skipped
stop_passed : (found : Checked) → Unstopped (stop_at found) → found ≡ no_refusal
stop_passed (Ok tt) free = refl
stop_passed (Err why) free = absurd free

brace_free : (context : Context) (position : BracePosition) (brace : Events) → Unstopped (opening context position brace) → Unstopped brace
brace_free context SameLine brace free = free.0
brace_free context NewLine brace free = free.1.0

suffix_free : (mode : List ℕ) (rchar suffix : Events) → Unstopped (operand_events mode rchar suffix) → Unstopped suffix
suffix_free mode rchar suffix free =
    by_test (eqb (get_or mode 0 0) 3)
    (λ three. let both : Unstopped (suffix ▹ rchar) = rw three at free in both.0)
    (λ three.
    by_test (eqb (get_or mode 0 0) 4)
    (λ four. let both : Unstopped (rchar ▹ suffix) = rw (three, four) at free in both.1)
    (λ four. rw (three, four) at free))

-- the parts behind the first branch of an `If`, of which nothing is printed where the tag does not stand
abbrev Together : Tree → Tree → Type 0
Together tag block = stands tag ≡ false → (first_refusal tag ≡ no_refusal) × (first_refusal block ≡ no_refusal)

branch_judged : (context : Context) (position : BracePosition) (tag block : Tree) → Judges tag → Judges block
    → Unstopped (else_events context position (events_in context (leaf plain) true tag) (events_in context (leaf plain) true block))
    → (first_refusal tag ≡ no_refusal) × (first_refusal block ≡ no_refusal)
branch_judged context SameLine tag block one other free = (one context (leaf plain) true free.1.0, other context (leaf plain) true free.1.1.1)
branch_judged context NewLine tag block one other free = (one context (leaf plain) true free.1.0, other context (leaf plain) true free.1.1)

else_judged : (context : Context) (position : BracePosition) (tag block : Tree) → Judges tag → Judges block → Together tag block
    → Unstopped (cond (stands tag) (else_events context position (events_in context (leaf plain) true tag) (events_in context (leaf plain) true block)) event.nothing)
    → (first_refusal tag ≡ no_refusal) × (first_refusal block ≡ no_refusal)
else_judged context position tag block one other together free =
    by_test (stands tag) (λ q. branch_judged context position tag block one other (rw q at free)) together

-- ---- lists

-- an item, and those behind it
item_judged : (context : Context) (place : Place) (item items : Tree) → Judges item → Judges items
    → Unstopped (item_events context place item (events_in context (leaf plain) false item) (events_in context place true item) (λ next. events_in context next true items))
    → (first_refusal item ≡ no_refusal) × (first_refusal items ≡ no_refusal)
item_judged context (leaf style) item items one rest free = (one context (leaf style) true free.0, rest context (leaf style) true free.1)
item_judged context labelled item items one rest free = (one context labelled true free.0, rest context labelled true free.1)
item_judged context arguments item items one rest free = (one context arguments true free.0, rest context arguments true free.1)
item_judged context imports item items one rest free = (one context imports true free.0, rest context imports true free.1)
item_judged context in_string item items one rest free = (one context (leaf plain) false free.0, rest context in_string true free.1)
item_judged context (tokens drops before closing) item items one rest free =
    (one context (leaf plain) false free.1.1.1.0, rest context (tokens false (behind (token_number item)) closing) true free.1.1.1.1)

chain_judges : (trees : List Tree) → ((index : ℕ) → Judges (get_or trees index absent)) → Judges (chain trees)
unfolding events_in first_refusal chain
chain_judges [] below context place shown free = refl
chain_judges (tree ∷ trees) below context place shown free =
    let both = item_judged context place tree (chain trees) (below 0) (chain_judges trees (λ next. below (suc next))) free in
    rw (both.0, both.1)

-- ---- a tree of a kind

-- each field has its events among those of the tree, or is skipped, which judges it as well
built_judges : (kind : Kind) (text : List ℕ) (trees : List Tree) → ((index : ℕ) → Judges (get_or trees index absent))
    → (kind ≡ variant.If → Together (get_or trees 3 absent) (get_or trees 4 absent)) → Judges (built kind text trees)
unfolding events_in first_refusal built
built_judges variant.Align text trees below alone context place shown free = rw (below 0 context (leaf plain) false free.0, below 1 context (leaf plain) true free.1.1)
built_judges variant.Assert text trees below alone context place shown free =
    rw (below 0 context (leaf plain) false free.0, below 1 context (leaf plain) true free.1.1.0, below 2 context (leaf plain) true free.1.1.1.1)
built_judges variant.Braces text trees below alone context place shown free = below 0 context (leaf plain) true free
built_judges variant.Config text trees below alone context place shown free = below 0 context (leaf plain) true free
built_judges variant.ConfigPair text trees below alone context place shown free =
    rw (below 0 context (leaf plain) false free.0, below 1 context (leaf plain) true free.1.1.0, below 2 context (leaf plain) true free.1.1.1.1)
built_judges variant.Data text trees below alone context place shown free = rw (stop_passed (first_refusal (get_or trees 0 absent)) free.0, below 1 context (leaf data_size) false free.1.0)
built_judges variant.Definition text trees below alone context place shown free =
    rw (below 0 context (leaf plain) false free.0, below 1 context (leaf plain) true free.1.1.0, below 2 context (leaf plain) true free.1.1.1.1)
built_judges variant.Eof text trees below alone context place shown free = stop_passed (first_refusal (get_or trees 0 absent)) free
built_judges variant.Error text trees below alone context place shown free = below 0 context (leaf plain) false free
built_judges variant.Expression text trees below alone context place shown free = below 0 context (leaf plain) true free
built_judges variant.If text trees below alone context place shown free =
    let both = else_judged context context.options.braces.position (get_or trees 3 absent) (get_or trees 4 absent) (below 3) (below 4) (alone refl) free.1.1.1.1.1 in
    rw (
      below 0 context (leaf plain) false free.0,
      below 1 context (leaf plain) true free.1.1.0,
      below 2 context (leaf plain) true free.1.1.1.1.0,
      both.0,
      both.1,
    )
built_judges variant.Import text trees below alone context place shown free =
    rw (
      below 0 context (leaf plain) false free.0,
      below 1 context imports true free.1.1.0,
      below 2 context (leaf plain) true free.1.1.1.1.0,
      below 3 context (leaf plain) true free.1.1.1.1.1.1.0,
      below 4 context (leaf plain) true free.1.1.1.1.1.1.1.1,
    )
built_judges variant.File text trees below alone context place shown free = rw (below 0 context (leaf plain) false free.0, below 1 context (leaf plain) true free.1.1)
built_judges variant.Instruction text trees below alone context place shown free = rw (below 0 context (leaf mnemonic) false free.0, below 1 context (leaf plain) true free.1.1.0)
built_judges variant.Label text trees below alone context place shown free =
    rw (below 0 context labelled false free.0, stop_passed (first_refusal (get_or trees 1 absent)) free.1.0, below 2 context (leaf plain) true free.1.1)
built_judges variant.Loop text trees below alone context place shown free =
    rw (below 0 context (leaf plain) false free.0, below 1 context (leaf plain) true free.1.1.0, below 2 context (leaf plain) true free.1.1.1.1)
built_judges variant.MacroDefinition text trees below alone context place shown free =
    rw (
      below 0 context (leaf plain) false free.0,
      below 1 context (leaf plain) true free.1.1.0,
      below 2 context (leaf plain) true free.1.1.1.0,
      below 3 context arguments true free.1.1.1.1.0,
      below 4 context (leaf plain) true free.1.1.1.1.1.0,
      below 5 context (leaf plain) true free.1.1.1.1.1.1.1,
    )
built_judges variant.MacroInvocation text trees below alone context place shown free =
    rw (
      below 0 context (leaf plain) false free.0,
      below 1 context (leaf plain) true free.1.0,
      below 2 context arguments true free.1.1.0,
      below 3 context (leaf plain) true free.1.1.1,
    )
built_judges variant.ProgramCounterDefinition text trees below alone context place shown free =
    rw (below 0 context (leaf plain) false free.0, below 1 context (leaf plain) true free.1.1.0, below 2 context (leaf plain) true free.1.1.1.1)
built_judges variant.Segment text trees below alone context place shown free =
    rw (below 0 context (leaf plain) false free.0, below 1 context (leaf plain) true free.1.1.0, below 2 context (leaf plain) true free.1.1.1.1)
built_judges variant.Test text trees below alone context place shown free =
    rw (below 0 context (leaf plain) false free.0, below 1 context (leaf plain) true free.1.1.0, below 2 context (leaf plain) true free.1.1.1.1)
built_judges variant.Text text trees below alone context place shown free =
    rw (below 0 context (leaf plain) false free.0, below 1 context (leaf encoding) true free.1.1.0, below 2 context (leaf plain) true free.1.1.1.1)
built_judges variant.Trace text trees below alone context place shown free =
    rw (
      below 0 context (leaf plain) false free.0,
      below 1 context (leaf plain) true free.1.1.0,
      below 2 context arguments true free.1.1.1.0,
      below 3 context (leaf plain) true free.1.1.1.1,
    )
built_judges variant.VariableDefinition text trees below alone context place shown free =
    rw (
      below 0 context (leaf variable_type) false free.0,
      below 1 context (leaf plain) true free.1.1.0,
      below 2 context (leaf plain) true free.1.1.1.1.0,
      below 3 context (leaf plain) true free.1.1.1.1.1.1,
    )
built_judges variant.Vec text trees below alone context place shown free = chain_judges trees below context place true free
built_judges variant.Leaf text trees below alone context place shown free = refl
built_judges variant.PathItem text trees below alone context place shown free = refl
built_judges variant.Block text trees below alone context place shown free =
    rw (
      below 0 context (leaf plain) false (brace_free context context.options.braces.position _ free.0),
      below 1 (deeper context) (tokens true first (block_end (get_or trees 2 absent))) true free.1.0,
      below 2 context (leaf plain) false free.1.1.1.1,
    )
built_judges variant.BinaryExpression text trees below alone context place shown free =
    rw (stop_passed (first_refusal (get_or trees 0 absent)) free.0, below 1 context (leaf plain) true free.1.0, below 2 context (leaf plain) true free.1.1.1.1.1)
built_judges variant.Factor text trees below alone context place shown free =
    rw (below 0 context (leaf plain) true free.1.1.1, below 1 context (leaf plain) true free.1.0, below 2 context (leaf plain) true free.1.1.0)
built_judges variant.CurrentProgramCounter text trees below alone context place shown free = below 0 context (leaf plain) true free
built_judges variant.ExprParens text trees below alone context place shown free =
    rw (below 0 context (leaf plain) true free.0, below 1 context (leaf plain) true free.1.0, below 2 context (leaf plain) true free.1.1)
built_judges variant.FunctionCall text trees below alone context place shown free =
    rw (below 0 context (leaf plain) true free.0, below 1 context (leaf plain) true free.1.0, below 2 context arguments true free.1.1.0, below 3 context (leaf plain) true free.1.1.1)
built_judges variant.IdentifierValue text trees below alone context place shown free = rw (below 0 context (leaf plain) true free.1.1, below 1 context (leaf modifier) true free.1.0)
built_judges variant.Number text trees below alone context place shown free = rw (below 0 context (leaf number_type) true free.0, below 1 context (leaf plain) true free.1)
built_judges variant.StringFactor text trees below alone context place shown free = below 0 context (leaf plain) true free
built_judges variant.InterpolatedString text trees below alone context place shown free = rw (below 0 context (leaf plain) true free.0, below 1 context in_string true free.1.0)
built_judges variant.Operand text trees below alone context place shown free =
    rw (
      below 0 context (leaf plain) true free.1.1.0,
      below 1 context (leaf plain) true free.1.0,
      stop_passed (first_refusal (get_or trees 2 absent)) free.1.1.1.0,
      stop_passed (first_refusal (get_or trees 3 absent)) free.1.1.1.1.0,
      below 4 context (leaf plain) true (suffix_free (index_of (get_or trees 3 absent)) _ _ free.1.1.1.1.1),
    )
built_judges variant.RegisterSuffix text trees below alone context place shown free = rw (below 0 context (leaf plain) true free.0, below 1 context (leaf register) true free.1.1.0)
built_judges variant.ImportAs text trees below alone context place shown free = rw (below 0 context (leaf plain) true free.0, below 1 context (leaf plain) true free.1.1)
built_judges variant.ImportAll text trees below alone context place shown free = rw (below 0 context (leaf plain) true free.0, below 1 context (leaf plain) true free.1.1.0)
built_judges variant.SpecificImportArg text trees below alone context place shown free = rw (below 0 context (leaf plain) true free.0, below 1 context (leaf plain) true free.1.1)
built_judges variant.ArgItem text trees below alone context place shown free = rw (below 0 context (leaf plain) (value_shown place) free.0, below 1 context (leaf plain) true free.1.0)

-- ---- readings

module _ (reader : Reader) where
  -- parts are absent or were read
  parts_judge : ((class : Class) (at : ℕ) → Judges (reader class at).tree) → (parts : List Due) (at index : ℕ) → Judges (get_or (read_parts reader parts at).trees index absent)
  unfolding read_parts first_refusal
  parts_judge below [] at index context place shown free = refl
  parts_judge below (nothing ∷ parts) at zero context place shown free = refl
  parts_judge below (nothing ∷ parts) at (suc index) context place shown free = parts_judge below parts at index context place shown free
  parts_judge below (due class ∷ parts) at zero context place shown free = below class at context place shown free
  parts_judge below (due class ∷ parts) at (suc index) context place shown free = parts_judge below parts (reader class at).end index context place shown free

  -- one that does not stand is absent
  parts_absent : ((class : Class) (at : ℕ) → stands (reader class at).tree ≡ true) → (parts : List Due) (at index : ℕ)
      → stands (get_or (read_parts reader parts at).trees index absent) ≡ false → first_refusal (get_or (read_parts reader parts at).trees index absent) ≡ no_refusal
  unfolding read_parts first_refusal
  parts_absent stand [] at index none = refl
  parts_absent stand (nothing ∷ parts) at zero none = refl
  parts_absent stand (nothing ∷ parts) at (suc index) none = parts_absent stand parts at index none
  parts_absent stand (due class ∷ parts) at zero none = true_false (sym (stand class at) ∙ none)
  parts_absent stand (due class ∷ parts) at (suc index) none = parts_absent stand parts (reader class at).end index none

-- a record of its own bytes, where its parts judge
record_judges : (levels : ℕ) (bytes : List ℕ) (class : Class) (at : ℕ) (own : Own) → read_own bytes at class (suc levels) ≡ Ok own
    → ((field : Class) (place : ℕ) → Judges (read levels bytes field place).tree)
    → Judges (record_of bytes at own (read_parts (read levels bytes) (parts_due class own) own.end)).tree
unfolding events_in first_refusal
record_judges levels bytes class at own is below context place shown free =
    let parts : List Due = parts_due class own in
    let trees : List Tree = (read_parts (read levels bytes) parts own.end).trees in
    let gone = parts_absent (read levels bytes) (read_stands levels bytes) parts own.end in
    built_judges own.kind (text_of bytes own) trees (parts_judge (read levels bytes) below parts own.end)
    (λ same none. (gone 3 none, gone 4 (sym (else_stands levels bytes class at own is same) ∙ none)))
    context place true free.1

-- every tree that is read judges itself
read_judges : (levels : ℕ) (bytes : List ℕ) (class : Class) (at : ℕ) → Judges (read levels bytes class at).tree
unfolding events_in
read_judges levels bytes =
    every_reading bytes (λ levels class at reading. Judges reading.tree)
    (λ levels class at reader why context place shown free. absurd free)
    (λ levels class at own is below. record_judges levels bytes class at own is below)
    levels

-- so reading met no refusal
pub read_judged : (levels : ℕ) (bytes : List ℕ) (class : Class) (at : ℕ) (context : Context) (place : Place) (shown : Bool)
    → Free (events_in context place shown (read levels bytes class at).tree) → (read levels bytes class at).checked ≡ no_refusal
read_judged levels bytes class at context place shown free =
    sym (read_refusal levels bytes class at) ∙ read_judges levels bytes class at context place shown (unstopped free)
