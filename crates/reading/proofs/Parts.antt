-- The parts of a record: what they print has the ink of their reading order, by where they stand.
use mathlib.Core.Path.{◌≡◌, refl, sym, ap, ◌∙◌}
use mathlib.Core.Logic.{◌⊎◌, inl, inr}
use mathlib.Core.List.{List, [], ◌∷◌, ◌++◌, append_assoc, append-nil}
use mathlib.Core.Bool.{Bool, true, false, cond, not, ◌&&◌}
use Prim.Native.Nat.{ℕ, ◌≤◌}
use native.Mathlib.Omega.{arith}
use lib.ListN.{get_or}
use lib.Dec.{eqb, leb}
use borrow.Author.Tests.{eqb-true, eqb-false, leb-true}
use Rattle.text.specs.Ink.{blank, ink, inks}
use Rattle.text.proofs.Ink.{ink_append, inks_append}
use Rattle.text.proofs.Choices.{by_test, true_false, and_true_left, and_true_right}
use Rattle.options.specs.declared.BracePosition.{BracePosition}
use Rattle.options.specs.declared.BracePosition.TheVariants.{SameLine, NewLine}
use Rattle.tree.specs.Grammar.{kind_number, rule}
use Rattle.tree.specs.Own.{is_list}
use Rattle.tree.specs.Tree.{Tree, Trivium, absent, refused, node, nil, cons, Align, Assert, Braces, Config, ConfigPair, Data, Definition, Eof, Error}
use Rattle.tree.specs.Tree.{Expression, If, Import, File, Instruction, Label, Loop, MacroDefinition, MacroInvocation, ProgramCounterDefinition}
use Rattle.tree.specs.Tree.{Segment, Test, Text, Trace, VariableDefinition, Vec, Leaf, PathItem, Block, BinaryExpression, Factor}
use Rattle.tree.specs.Tree.{CurrentProgramCounter, ExprParens, FunctionCall, IdentifierValue, Number, StringFactor, InterpolatedString, Operand}
use Rattle.tree.specs.Tree.{RegisterSuffix, ImportAs, ImportAll, SpecificImportArg, ArgItem}
use Rattle.tree.specs.declared.grammar.Class.{Class}
use Rattle.tree.specs.declared.grammar.Class.TheVariants.{Word, StringItem, LocatedExpression, BareToken, BlockRecord, ImportArguments, ImportPath}
use Rattle.tree.specs.declared.grammar.Class.TheVariants.{ExpressionArgument, IdentifierArgument, ImportArgument, Tokens, ExpressionArguments}
use Rattle.tree.specs.declared.grammar.Class.TheVariants.{IdentifierArguments, StringItems}
use Rattle.printing.specs.Events.{Events, nothing}
use Rattle.printing.specs.Holding.{ink_of}
use Rattle.printing.specs.declared.Context.{Context}
use Rattle.events.specs.Printed.{Style, plain, mnemonic, register, operator, data_size, encoding, variable_type, number_type, modifier, printed}
use Rattle.events.specs.Views.{view, own_trivia, head_trivia, token_number, stands}
use Rattle.events.specs.Trees.{trivia_events, Before, first, behind, Closing, file_end, block_end, Place, leaf, labelled, arguments, imports, in_string}
use Rattle.events.specs.Trees.{tokens, end_events, item_events, leaf_events, deeper, opening, else_events, operand_events, events_in}
use Rattle.reading.specs.Order.{comments, shown_as, closing_order, order_in}
use Rattle.reading.specs.Places.{at_value_head, at_closing_character, places_in}
use Rattle.reading.proofs.Shape.{Allowed, TriviaAllowed, Given, Shaped}
use Rattle.reading.proofs.Trivia.{ink_trivia, ink_listed, ink_break, ink_stop}
use Rattle.reading.proofs.Heads.{harmless, own_before, stem, stem_none, headless, headless_clear, block_clear, token_stem, value_clear, own_clear, import_clear}

-- ---- where a tree stands

-- a class that stands neither in a list nor as one
abbrev pub stands_alone : Class → Bool
stands_alone class = not (is_list (rule class).items) && leb (kind_number (rule class).last) 41

-- the places of the walk and the classes that are printed there
pub data Suits : Place → Class → Type 0 where
  alone : (style : Style) (class : Class) → stands_alone class ≡ true → Suits (leaf style) class
  expression_list : Suits arguments ExpressionArguments
  one_expression : Suits arguments ExpressionArgument
  identifier_list : Suits arguments IdentifierArguments
  one_identifier : Suits arguments IdentifierArgument
  path_list : Suits imports ImportArguments
  one_path : Suits imports ImportArgument
  string_list : Suits in_string StringItems
  token_list : (drops : Bool) (before : Before) (closing : Closing) → Suits (tokens drops before closing) Tokens

-- the style of a leaf there
abbrev pub style_of : Place → Style
style_of (leaf style) = style
style_of labelled = plain
style_of arguments = plain
style_of imports = plain
style_of in_string = plain
style_of (tokens drops before closing) = plain

-- the trivia at the end of a list there
abbrev pub end_of : Closing → List Trivium
end_of file_end = []
end_of (block_end rparen) = own_trivia rparen

abbrev pub end_trivia : Place → List Trivium
end_trivia (leaf style) = []
end_trivia labelled = []
end_trivia arguments = []
end_trivia imports = []
end_trivia in_string = []
end_trivia (tokens drops before closing) = end_of closing

-- the texts of a tree there
abbrev pub order_at : Context → Place → Tree → List (List ℕ)
order_at context place tree = order_in context.options.mnemonics (style_of place) tree

-- the claim of a tree: behind the head that it leaves to its surroundings, what it prints has the ink of its reading order and of the end of its list
abbrev pub Inked : Context → Place → Tree → Type 0
Inked context place tree =
    inks (comments (stem tree)) ++ ink_of (events_in context place true tree) ≡ inks (order_at context place tree) ++ inks (comments (end_trivia place))

-- where the own trivia of a tree may be comments it leaves no head
abbrev pub Led : Class → Tree → Type 0
Led class tree = ((rule class).located ≡ false) ⊎ (comments (stem tree) ≡ [])

-- what a part prints has the ink of its reading order
abbrev pub Kept : Context → Place → Tree → Type 0
Kept context place tree = ink_of (events_in context place true tree) ≡ inks (order_at context place tree)

-- ---- parts

module _ (context : Context) (place : Place) (none : comments (end_trivia place) ≡ []) where
  -- a part that leaves no head
  pub bare : (tree : Tree) → comments (stem tree) ≡ [] → Inked context place tree → Kept context place tree
  unfolding inks
  bare tree without inked = simp (without, none, append-nil) at inked

  -- a part of a class that never leaves one
  pub field : (class : Class) (tree : Tree) → headless class ≡ true → Shaped class tree → (Led class tree → Inked context place tree) → Kept context place tree
  field class tree headed shaped inked = let without = headless_clear class tree headed shaped in bare tree without (inked (inr without))

  -- a part that need not stand
  pub given : (class : Class) (tree : Tree) → Given tree (Shaped class tree) → (Shaped class tree → Kept context place tree) → Kept context place tree
  unfolding events_in ink_of order_in inks
  given class tree (inl gone) kept = rw gone
  given class tree (inr shaped) kept = kept shaped

  -- a part whose own trivia are printed before it by its surroundings
  pub headed : (tree : Tree) → Kept context place tree
      → (rest : List ℕ) → inks (comments (own_trivia tree)) ++ (ink_of (events_in context place false tree) ++ rest) ≡ inks (order_at context place tree) ++ rest
  headed tree kept rest =
      sym (append_assoc (inks (comments (own_trivia tree))) (ink_of (events_in context place false tree)) rest)
      ∙ ap (λ (l : List ℕ). l ++ rest) (own_before context place tree ∙ kept)

-- a block whose brace is no place
pub block_field : (context : Context) (tree : Tree) → Shaped BlockRecord tree → harmless (places_in false tree) ≡ true
    → (Led BlockRecord tree → Inked context (leaf plain) tree) → Kept context (leaf plain) tree
unfolding comments
block_field context tree shaped free inked = let without = block_clear tree shaped free in bare context (leaf plain) refl tree without (inked (inr without))

-- a value whose head is no place
pub value_field : (context : Context) (class : Class) (tree : Tree) → at_value_head tree ≡ false → (Led class tree → Inked context (leaf plain) tree) → Kept context (leaf plain) tree
unfolding comments
value_field context class tree free inked = let without = value_clear tree free in bare context (leaf plain) refl tree without (inked (inr without))

-- ---- the end of a list

-- only a list has one
pub no_end : (place : Place) (class : Class) (number : ℕ) → Suits place class → Allowed class number → eqb number 24 ≡ false → comments (end_trivia place) ≡ []
unfolding comments
no_end place class number (alone style kind separate) allowed other = refl
no_end place class number expression_list allowed other = refl
no_end place class number one_expression allowed other = refl
no_end place class number identifier_list allowed other = refl
no_end place class number one_identifier allowed other = refl
no_end place class number path_list allowed other = refl
no_end place class number one_path allowed other = refl
no_end place class number string_list allowed other = refl
no_end place class number (token_list drops before file_end) allowed other = refl
no_end place class number (token_list drops before (block_end rparen)) allowed other =
    let within : (leb 24 number && leb number 24) ≡ true = rw other at allowed in
    let above : 24 ≤ number = leb-true 24 number (and_true_left (leb 24 number) (leb number 24) within) in
    let below : number ≤ 24 = leb-true number 24 (and_true_right (leb 24 number) (leb number 24) within) in
    absurd (eqb-false number 24 other (omega arith))

-- what the end prints
pub ink_end_lem : (context : Context) (place : Place) (class : Class) → Suits place class → ink_of (end_events context place) ≡ inks (comments (end_trivia place))
unfolding ink_of inks comments
ink_end_lem context place class (alone style kind separate) = refl
ink_end_lem context place class expression_list = refl
ink_end_lem context place class one_expression = refl
ink_end_lem context place class identifier_list = refl
ink_end_lem context place class one_identifier = refl
ink_end_lem context place class path_list = refl
ink_end_lem context place class one_path = refl
ink_end_lem context place class string_list = refl
ink_end_lem context place class (token_list drops before file_end) = refl
ink_end_lem context place class (token_list drops before (block_end rparen)) = simp (ink_stop, ink_listed, ink_break, append-nil)

-- ---- a record and its trivia

-- one of them leaves no comment before the other
pub node_either : (class : Class) (trivia : List Trivium) (tree : Tree) → TriviaAllowed class trivia tree → Led class tree
    → (comments trivia ≡ []) ⊎ (comments (stem tree) ≡ [])
unfolding comments
node_either class [] tree allowed led = inl refl
node_either class (item ∷ items) tree allowed (inl unlocated) =
    let number : token_number tree ≡ 26 = eqb-true (token_number tree) 26 (rw unlocated at allowed) in
    inr (ap comments (stem_none tree (omega arith) (λ is. omega (arith, is, number))))
node_either class (item ∷ items) tree allowed (inr without) = inr without

-- so its own trivia come first
pub ink_node : (context : Context) (place : Place) (trivia : List Trivium) (tree : Tree) → (comments trivia ≡ []) ⊎ (comments (stem tree) ≡ [])
    → Inked context place tree
    → inks (comments (stem tree)) ++ (ink_of (trivia_events context trivia) ++ ink_of (events_in context place true tree))
    ≡ inks (comments trivia ++ order_at context place tree) ++ inks (comments (end_trivia place))
unfolding inks
ink_node context place trivia tree (inl none) inked = rw (ink_trivia context trivia, none) inked
ink_node context place trivia tree (inr none) inked =
    let plainly : ink_of (events_in context place true tree) ≡ inks (order_at context place tree) ++ inks (comments (end_trivia place)) = rw none at inked in
    rw none (simp (ink_trivia, inks_append, append_assoc, plainly))

-- ---- leaves

-- a leaf's text goes by the two casings alone
shown_as_lem : (context : Context) (style : Style) (text : List ℕ) → printed context style text ≡ shown_as context.options.mnemonics style text
unfolding printed shown_as
shown_as_lem context plain text = refl
shown_as_lem context mnemonic text = refl
shown_as_lem context register text = refl
shown_as_lem context operator text = refl
shown_as_lem context data_size text = refl
shown_as_lem context encoding text = refl
shown_as_lem context variable_type text = refl
shown_as_lem context number_type text = refl
shown_as_lem context modifier text = refl

pub ink_leaf : (context : Context) (place : Place) (class : Class) (text : List ℕ) → Suits place class → Allowed class 25
    → ink_of (leaf_events context place text) ≡ inks (shown_as context.options.mnemonics (style_of place) text ∷ []) ++ inks (comments (end_trivia place))
unfolding ink_of inks comments shown_as printed
ink_leaf context place class text (alone style kind separate) allowed = simp (shown_as_lem context style text, append-nil)
ink_leaf context place class text expression_list allowed = simp append-nil
ink_leaf context place class text one_expression allowed = simp append-nil
ink_leaf context place class text identifier_list allowed = simp append-nil
ink_leaf context place class text one_identifier allowed = simp append-nil
ink_leaf context place class text path_list allowed = simp append-nil
ink_leaf context place class text one_path allowed = simp append-nil
ink_leaf context place class text string_list allowed = simp append-nil
ink_leaf context place class text (token_list drops before closing) allowed = true_false (sym allowed)

-- ---- the items of a list

-- a record without comments of its own prints the same without them
without_own : (context : Context) (place : Place) (tree : Tree) → comments (own_trivia tree) ≡ []
    → ink_of (events_in context place false tree) ≡ ink_of (events_in context place true tree)
unfolding inks
without_own context place tree none = rw none at (own_before context place tree)

-- an item and those behind it
pub ink_items : (context : Context) (place : Place) (class : Class) (item items : Tree) → Suits place class → Shaped class (cons item items)
    → harmless (places_in true item) ≡ true
    → ((next : Place) (kind : Class) → Suits next kind → Shaped kind item → Led kind item → Inked context next item)
    → ((next : Place) → Suits next class → Led class items → Inked context next items)
    → ink_of (item_events context place item (events_in context (leaf plain) false item) (events_in context place true item) (λ next. events_in context next true items))
    ≡ inks (order_at context place item ++ order_at context place items) ++ inks (comments (end_trivia place))
unfolding ink_of inks comments Shaped
ink_items context place class item items (alone style kind separate) shaped free one rest =
    true_false (rw shaped.0 at (sym separate))
ink_items context place class item items expression_list shaped free one rest =
    simp (
      inks_append,
      append-nil,
      field context arguments refl ExpressionArgument item refl shaped.1 (one arguments ExpressionArgument one_expression shaped.1),
      field context arguments refl ExpressionArguments items refl shaped.2 (rest arguments expression_list),
    )
ink_items context place class item items one_expression shaped free one rest = true_false (sym shaped.0)
ink_items context place class item items identifier_list shaped free one rest =
    simp (
      inks_append,
      append-nil,
      field context arguments refl IdentifierArgument item refl shaped.1 (one arguments IdentifierArgument one_identifier shaped.1),
      field context arguments refl IdentifierArguments items refl shaped.2 (rest arguments identifier_list),
    )
ink_items context place class item items one_identifier shaped free one rest = true_false (sym shaped.0)
ink_items context place class item items path_list shaped free one rest =
    simp (
      inks_append,
      append-nil,
      field context imports refl ImportArgument item refl shaped.1 (one imports ImportArgument one_path shaped.1),
      field context imports refl ImportArguments items refl shaped.2 (rest imports path_list),
    )
ink_items context place class item items one_path shaped free one rest = true_false (sym shaped.0)
ink_items context place class item items string_list shaped free one rest =
    simp (
      inks_append,
      append-nil,
      without_own context (leaf plain) item (own_clear StringItem true item refl shaped.1 free),
      field context (leaf plain) refl StringItem item refl shaped.1 (one (leaf plain) StringItem (alone plain StringItem refl) shaped.1),
      field context in_string refl StringItems items refl shaped.2 (rest in_string string_list),
    )
ink_items context place class item items (token_list drops before closing) shaped free one rest =
    let next : Place = tokens false (behind (token_number item)) closing in
    let token : inks (comments (head_trivia item)) ++ ink_of (events_in context (leaf plain) false item) ≡ inks (order_at context (leaf plain) item) =
    rw (token_stem item shaped.1 free, without_own context (leaf plain) item (own_clear BareToken true item refl shaped.1 free))
    (one (leaf plain) BareToken (alone plain BareToken refl) shaped.1 (inl refl) ∙ append-nil (inks (order_at context (leaf plain) item))) in
    let others : ink_of (events_in context next true items) ≡ inks (order_at context next items) ++ inks (comments (end_of closing)) =
    rw (headless_clear Tokens items refl shaped.2) at (rest next (token_list false (behind (token_number item)) closing) (inl refl)) in
    simp (ink_stop, ink_listed, ink_break, others, inks_append, ← token, append_assoc)

-- ---- arguments

-- an argument: its value and its comma
pub ink_argument : (context : Context) (place : Place) (class : Class) (value comma : Tree) → Suits place class → Shaped class (ArgItem value comma)
    → harmless (places_in false value) ≡ true
    → ((kind : Class) → Suits (leaf plain) kind → Shaped kind value → Led kind value → Inked context (leaf plain) value)
    → Kept context (leaf plain) comma
    → ink_of (events_in context place true (ArgItem value comma)) ≡ inks (order_at context place (ArgItem value comma)) ++ inks (comments (end_trivia place))
unfolding events_in order_in ink_of inks comments Shaped
ink_argument context place class value comma (alone style kind separate) shaped free one kept =
    let below : kind_number (rule kind).last ≤ 41 =
    leb-true (kind_number (rule kind).last) 41 (and_true_right (not (is_list (rule kind).items)) (leb (kind_number (rule kind).last) 41) separate) in
    let above : 42 ≤ kind_number (rule kind).last =
    leb-true 42 (kind_number (rule kind).last) (and_true_right (leb (kind_number (rule kind).first) 42) (leb 42 (kind_number (rule kind).last)) shaped.0) in
    absurd (omega arith)
ink_argument context place class value comma expression_list shaped free one kept = true_false (sym shaped.0)
ink_argument context place class value comma one_expression shaped free one kept =
    simp (inks_append, append-nil, kept, field context (leaf plain) refl LocatedExpression value refl shaped.1 (one LocatedExpression (alone plain LocatedExpression refl) shaped.1))
ink_argument context place class value comma identifier_list shaped free one kept = true_false (sym shaped.0)
ink_argument context place class value comma one_identifier shaped free one kept =
    simp (inks_append, append-nil, kept, field context (leaf plain) refl Word value refl shaped.1 (one Word (alone plain Word refl) shaped.1))
ink_argument context place class value comma path_list shaped free one kept = true_false (sym shaped.0)
ink_argument context place class value comma one_path shaped free one kept =
    simp (
      inks_append,
      append-nil,
      kept,
      without_own context (leaf plain) value (import_clear false value shaped.1 free),
      field context (leaf plain) refl ImportPath value refl shaped.1 (one ImportPath (alone plain ImportPath refl) shaped.1),
    )
ink_argument context place class value comma string_list shaped free one kept = true_false (sym shaped.0)
ink_argument context place class value comma (token_list drops before closing) shaped free one kept = true_false (sym shaped.0)

-- ---- labels

-- a label's id prints with its colon
ink_label : (context : Context) (tree : Tree) → Shaped Word tree → ink_of (events_in context labelled true tree) ≡ inks (order_in context.options.mnemonics plain tree) ++ (58 ∷ [])
unfolding events_in order_in ink_of inks ink blank Shaped shown_as printed
ink_label context absent shaped = absurd shaped
ink_label context (refused refusal) shaped = absurd shaped
ink_label context (node place trivia tree) shaped = simp (ink_trivia, inks_append, append_assoc, ink_label context tree shaped.1)
ink_label context nil shaped = true_false (sym shaped)
ink_label context (cons item items) shaped = true_false (sym shaped.0)
ink_label context (Align tag value) shaped = true_false (sym shaped.0)
ink_label context (Assert tag value message) shaped = true_false (sym shaped.0)
ink_label context (Braces block) shaped = true_false (sym shaped.0)
ink_label context (Config block) shaped = true_false (sym shaped.0)
ink_label context (ConfigPair key eq value) shaped = true_false (sym shaped.0)
ink_label context (Data values size) shaped = true_false (sym shaped.0)
ink_label context (Definition tag id value) shaped = true_false (sym shaped.0)
ink_label context (Eof unit) shaped = true_false (sym shaped.0)
ink_label context (Error text) shaped = true_false (sym shaped.0)
ink_label context (Expression expression) shaped = true_false (sym shaped.0)
ink_label context (If tag_if value then tag_else otherwise) shaped = true_false (sym shaped.0)
ink_label context (Import tag args source filename block) shaped = true_false (sym shaped.0)
ink_label context (File tag filename) shaped = true_false (sym shaped.0)
ink_label context (Instruction mnemonic' operand) shaped = true_false (sym shaped.0)
ink_label context (Label id colon block) shaped = true_false (sym shaped.0)
ink_label context (Loop tag expr block) shaped = true_false (sym shaped.0)
ink_label context (MacroDefinition tag id lparen args rparen block) shaped = true_false (sym shaped.0)
ink_label context (MacroInvocation id lparen args rparen) shaped = true_false (sym shaped.0)
ink_label context (ProgramCounterDefinition star eq value) shaped = true_false (sym shaped.0)
ink_label context (Segment tag id block) shaped = true_false (sym shaped.0)
ink_label context (Test tag id block) shaped = true_false (sym shaped.0)
ink_label context (Text tag encoding' text) shaped = true_false (sym shaped.0)
ink_label context (Trace tag lparen args rparen) shaped = true_false (sym shaped.0)
ink_label context (VariableDefinition ty id eq value) shaped = true_false (sym shaped.0)
ink_label context (Vec items) shaped = true_false (sym shaped.0)
ink_label context (Leaf text) shaped = simp (ink_append, append-nil)
ink_label context (PathItem text) shaped = true_false (sym shaped)
ink_label context (Block lparen inner rparen) shaped = true_false (sym shaped.0)
ink_label context (BinaryExpression op lhs rhs) shaped = true_false (sym shaped.0)
ink_label context (Factor factor tag_not tag_neg) shaped = true_false (sym shaped.0)
ink_label context (CurrentProgramCounter star) shaped = true_false (sym shaped.0)
ink_label context (ExprParens lparen inner rparen) shaped = true_false (sym shaped.0)
ink_label context (FunctionCall name lparen args rparen) shaped = true_false (sym shaped.0)
ink_label context (IdentifierValue path modifier') shaped = true_false (sym shaped.0)
ink_label context (Number ty value) shaped = true_false (sym shaped.0)
ink_label context (StringFactor string) shaped = true_false (sym shaped.0)
ink_label context (InterpolatedString lquote items) shaped = true_false (sym shaped.0)
ink_label context (Operand expr lchar rchar mode suffix) shaped = true_false (sym shaped.0)
ink_label context (RegisterSuffix comma register') shaped = true_false (sym shaped.0)
ink_label context (ImportAs tag path) shaped = true_false (sym shaped.0)
ink_label context (ImportAll star alias) shaped = true_false (sym shaped.0)
ink_label context (SpecificImportArg path alias) shaped = true_false (sym shaped.0)
ink_label context (ArgItem value comma) shaped = true_false (sym shaped.0)

-- ---- what need not stand

-- a tree that does not stand is none
gone : (tree : Tree) → stands tree ≡ false → tree ≡ absent
unfolding view
gone absent none = refl
gone (refused refusal) none = true_false none
gone (node place trivia tree) none = true_false none
gone nil none = true_false none
gone (cons item items) none = true_false none
gone (Align tag value) none = true_false none
gone (Assert tag value message) none = true_false none
gone (Braces block) none = true_false none
gone (Config block) none = true_false none
gone (ConfigPair key eq value) none = true_false none
gone (Data values size) none = true_false none
gone (Definition tag id value) none = true_false none
gone (Eof unit) none = true_false none
gone (Error text) none = true_false none
gone (Expression expression) none = true_false none
gone (If tag_if value then tag_else otherwise) none = true_false none
gone (Import tag args source filename block) none = true_false none
gone (File tag filename) none = true_false none
gone (Instruction mnemonic' operand) none = true_false none
gone (Label id colon block) none = true_false none
gone (Loop tag expr block) none = true_false none
gone (MacroDefinition tag id lparen args rparen block) none = true_false none
gone (MacroInvocation id lparen args rparen) none = true_false none
gone (ProgramCounterDefinition star eq value) none = true_false none
gone (Segment tag id block) none = true_false none
gone (Test tag id block) none = true_false none
gone (Text tag encoding' text) none = true_false none
gone (Trace tag lparen args rparen) none = true_false none
gone (VariableDefinition ty id eq value) none = true_false none
gone (Vec items) none = true_false none
gone (Leaf text) none = true_false none
gone (PathItem text) none = true_false none
gone (Block lparen inner rparen) none = true_false none
gone (BinaryExpression op lhs rhs) none = true_false none
gone (Factor factor tag_not tag_neg) none = true_false none
gone (CurrentProgramCounter star) none = true_false none
gone (ExprParens lparen inner rparen) none = true_false none
gone (FunctionCall name lparen args rparen) none = true_false none
gone (IdentifierValue path modifier') none = true_false none
gone (Number ty value) none = true_false none
gone (StringFactor string) none = true_false none
gone (InterpolatedString lquote items) none = true_false none
gone (Operand expr lchar rchar mode suffix) none = true_false none
gone (RegisterSuffix comma register') none = true_false none
gone (ImportAs tag path) none = true_false none
gone (ImportAll star alias) none = true_false none
gone (SpecificImportArg path alias) none = true_false none
gone (ArgItem value comma) none = true_false none

-- the braces' position has no ink
pub ink_opening : (context : Context) (position : BracePosition) (brace : Events) → ink_of (opening context position brace) ≡ ink_of brace
unfolding ink_of ink blank
ink_opening context SameLine brace = append-nil (ink_of brace)
ink_opening context NewLine brace = append-nil (ink_of brace)

-- nor for `else`
ink_else : (context : Context) (position : BracePosition) (tag block : Events) → ink_of (else_events context position tag block) ≡ ink_of tag ++ ink_of block
unfolding ink_of ink blank
ink_else context SameLine tag block = refl
ink_else context NewLine tag block = refl

-- `else` and its block stand together
pub ink_otherwise : (context : Context) (tag block : Tree) → stands tag ≡ stands block → Kept context (leaf plain) tag → Kept context (leaf plain) block
    → ink_of (cond (stands tag) (else_events context context.options.braces.position (events_in context (leaf plain) true tag) (events_in context (leaf plain) true block)) nothing)
    ≡ inks (order_at context (leaf plain) tag) ++ inks (order_at context (leaf plain) block)
unfolding ink_of inks order_in
ink_otherwise context tag block together tags blocks =
    by_test (stands tag)
    (λ stand. rw stand (simp (ink_else, tags, blocks)))
    (λ none. rw (none, gone tag none, gone block (sym together ∙ none)))

-- the closing character and the suffix, where place (h) is not used
pub ink_closing : (context : Context) (mode : List ℕ) (rchar suffix : Tree) → at_closing_character mode rchar ≡ false → Kept context (leaf plain) rchar → Kept context (leaf plain) suffix
    → ink_of (operand_events mode (events_in context (leaf plain) true rchar) (events_in context (leaf plain) true suffix))
    ≡ inks (closing_order mode (order_at context (leaf plain) rchar) (order_at context (leaf plain) suffix))
unfolding ink_of inks order_in
ink_closing context mode rchar suffix free closes suffixes =
    by_test (eqb (get_or mode 0 0) 3)
    (λ inner. rw (eqb-true (get_or mode 0 0) 3 inner) (simp (inks_append, closes, suffixes)))
    (λ direct. by_test (eqb (get_or mode 0 0) 4)
    (λ outer. rw (direct, outer) (simp (inks_append, closes, suffixes)))
    (λ other. rw (direct, other, gone rchar (rw (direct, other) at free)) (simp (append-nil, suffixes))))

-- a label's id behind its own trivia
pub ink_id : (context : Context) (tree : Tree) → Shaped Word tree
    → (rest : List ℕ) → inks (comments (own_trivia tree)) ++ (ink_of (events_in context labelled false tree) ++ rest) ≡ inks (order_at context labelled tree) ++ (58 ∷ rest)
ink_id context tree shaped rest =
    sym (append_assoc (inks (comments (own_trivia tree))) (ink_of (events_in context labelled false tree)) rest)
    ∙ ap (λ (l : List ℕ). l ++ rest) (own_before context labelled tree ∙ ink_label context tree shaped)
    ∙ append_assoc (inks (order_at context labelled tree)) (58 ∷ []) rest

-- ---- lists

-- a class of lists leaves no head
pub list_headless : {place : Place} {class : Class} → Suits place class → Allowed class 24 → headless class ≡ true
list_headless (alone style class separate) allowed = true_false (rw allowed at (sym separate))
list_headless expression_list allowed = refl
list_headless one_expression allowed = refl
list_headless identifier_list allowed = refl
list_headless one_identifier allowed = refl
list_headless path_list allowed = refl
list_headless one_path allowed = refl
list_headless string_list allowed = refl
list_headless (token_list drops before closing) allowed = refl

-- so its items print its ink
pub ink_list : (context : Context) (place : Place) (class : Class) (tree : Tree) → headless class ≡ true → Shaped class tree → (Led class tree → Inked context place tree)
    → ink_of (events_in context place true tree) ≡ inks (order_at context place tree) ++ inks (comments (end_trivia place))
unfolding inks
ink_list context place class tree headed shaped inked = let none = headless_clear class tree headed shaped in rw none at (inked (inr none))

-- the tokens of a block and the comments of its closing brace
pub ink_inner : (context : Context) (tree rparen : Tree) → Shaped Tokens tree
    → (Led Tokens tree → Inked (deeper context) (tokens true first (block_end rparen)) tree)
    → ink_of (events_in (deeper context) (tokens true first (block_end rparen)) true tree) ≡ inks (order_at context (leaf plain) tree) ++ inks (comments (own_trivia rparen))
ink_inner context tree rparen shaped inked = ink_list (deeper context) (tokens true first (block_end rparen)) Tokens tree refl shaped inked
