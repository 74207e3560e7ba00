-- Heads: the trivia that a token or block leaves to its surroundings to print, and where there are none.
use mathlib.Core.Path.{◌≡◌, refl, sym, ap, ◌∙◌}
use mathlib.Core.Logic.{◌⊎◌, inl, inr, ⊎_elim}
use mathlib.Core.List.{List, [], ◌∷◌, ◌++◌}
use mathlib.Core.Bool.{Bool, true, false, cond, not, ◌&&◌}
use Prim.Native.Nat.{ℕ, ◌≤◌}
use native.Mathlib.Omega.{arith}
use native.Mathlib.Nat.{le_antisymm}
use lib.Dec.{eqb, leb}
use borrow.Author.Tests.{eqb-true, leb-true, le-leb, eq-eqb, ne_eqb}
use Rattle.text.specs.Ink.{inks}
use Rattle.text.proofs.Choices.{cond_both, by_test, true_false, and_true_left, and_true_right}
use Rattle.tree.proofs.Cases.{by_choice}
use Rattle.tree.specs.Grammar.{kind_number, rule}
use Rattle.tree.specs.Own.{is_list}
use Rattle.tree.specs.Tree.{Tree, Trivium, absent, refused, node, nil, cons, Align, Assert, Braces, Config, ConfigPair, Data, Definition, Eof, Error}
use Rattle.tree.specs.Tree.{Expression, If, Import, File, Instruction, Label, Loop, MacroDefinition, MacroInvocation, ProgramCounterDefinition}
use Rattle.tree.specs.Tree.{Segment, Test, Text, Trace, VariableDefinition, Vec, Leaf, PathItem, Block, BinaryExpression, Factor}
use Rattle.tree.specs.Tree.{CurrentProgramCounter, ExprParens, FunctionCall, IdentifierValue, Number, StringFactor, InterpolatedString, Operand}
use Rattle.tree.specs.Tree.{RegisterSuffix, ImportAs, ImportAll, SpecificImportArg, ArgItem}
use Rattle.tree.specs.declared.grammar.Class.{Class}
use Rattle.tree.specs.declared.grammar.Class.TheVariants.{BlockRecord, BareToken, ImportPath}
use Rattle.printing.specs.Holding.{ink_of}
use Rattle.printing.specs.declared.Context.{Context}
use Rattle.events.specs.Views.{view, own_trivia, head_of, head_trivia, stands_at, token_number}
use Rattle.events.specs.Trees.{one_of, Place, events_in}
use Rattle.reading.specs.Order.{comments}
use Rattle.reading.specs.Places.{Spot, Use, opening_brace, import_path, path_item, expression_head, mark, places_in, spot_number}
use Rattle.reading.specs.Places.{at_opening_brace, at_value_head, at_import_path, at_path_item, at_expression_head}
use Rattle.reading.proofs.Shape.{Allowed, Listed, TriviaAllowed, Shaped}
use Rattle.reading.proofs.Trivia.{ink_trivia, no_comments}

-- ---- places

-- no place but (f)
unfoldable pub harmless : List Use → Bool
harmless [] = true
harmless (other ∷ others) = eqb (spot_number other.spot) 5 && harmless others

-- where places of two parts are harmless those of each are
pub harmless_parts : (first second : List Use) → harmless (first ++ second) ≡ true → (harmless first ≡ true) × (harmless second ≡ true)
unfolding harmless
harmless_parts [] second e = (refl, e)
harmless_parts (other ∷ first) second e =
    let rest = harmless_parts first second (and_true_right (eqb (spot_number other.spot) 5) (harmless (first ++ second)) e) in
    (rw (and_true_left (eqb (spot_number other.spot) 5) (harmless (first ++ second)) e, rest.0), rest.1)

-- and of more parts
pub harmless_three : (first second third : List Use) → harmless (first ++ (second ++ third)) ≡ true
    → (harmless first ≡ true) × (harmless second ≡ true) × (harmless third ≡ true)
harmless_three first second third e =
    let front = harmless_parts first (second ++ third) e in
    let rest = harmless_parts second third front.1 in
    (front.0, rest.0, rest.1)

pub harmless_four : (first second third fourth : List Use) → harmless (first ++ (second ++ (third ++ fourth))) ≡ true
    → (harmless first ≡ true) × (harmless second ≡ true) × (harmless third ≡ true) × (harmless fourth ≡ true)
harmless_four first second third fourth e =
    let front = harmless_parts first (second ++ (third ++ fourth)) e in
    let rest = harmless_three second third fourth front.1 in
    (front.0, rest.0, rest.1, rest.2)

pub harmless_five : (first second third fourth fifth : List Use) → harmless (first ++ (second ++ (third ++ (fourth ++ fifth)))) ≡ true
    → (harmless first ≡ true) × (harmless second ≡ true) × (harmless third ≡ true) × (harmless fourth ≡ true) × (harmless fifth ≡ true)
harmless_five first second third fourth fifth e =
    let front = harmless_parts first (second ++ (third ++ (fourth ++ fifth))) e in
    let rest = harmless_four second third fourth fifth front.1 in
    (front.0, rest.0, rest.1, rest.2, rest.3)

pub harmless_six : (first second third fourth fifth sixth : List Use) → harmless (first ++ (second ++ (third ++ (fourth ++ (fifth ++ sixth))))) ≡ true
    → (harmless first ≡ true) × (harmless second ≡ true) × (harmless third ≡ true) × (harmless fourth ≡ true) × (harmless fifth ≡ true) × (harmless sixth ≡ true)
harmless_six first second third fourth fifth sixth e =
    let front = harmless_parts first (second ++ (third ++ (fourth ++ (fifth ++ sixth)))) e in
    let rest = harmless_five second third fourth fifth sixth front.1 in
    (front.0, rest.0, rest.1, rest.2, rest.3, rest.4)

-- a mark of any other place that is harmless is none
pub unmarked : (place : ℕ) (spot : Spot) (used : Bool) → eqb (spot_number spot) 5 ≡ false → harmless (mark place spot used) ≡ true → used ≡ false
unfolding harmless
unmarked place spot true other e = true_false (sym (rw other at e))
unmarked place spot false other e = refl

-- ---- a record with and without its own trivia

-- a record that prints without its trivia, behind them, is the record with them
pub own_before : (context : Context) (place : Place) (tree : Tree)
    → inks (comments (own_trivia tree)) ++ ink_of (events_in context place false tree) ≡ ink_of (events_in context place true tree)
unfolding events_in ink_of comments inks view
own_before context place absent = refl
own_before context place (refused refusal) = refl
own_before context place (node offset trivia tree) = rw (ink_trivia context trivia)
own_before context place nil = refl
own_before context place (cons item items) = refl
own_before context place (Align tag value) = refl
own_before context place (Assert tag value message) = refl
own_before context place (Braces block) = refl
own_before context place (Config block) = refl
own_before context place (ConfigPair key eq value) = refl
own_before context place (Data values size) = refl
own_before context place (Definition tag id value) = refl
own_before context place (Eof unit) = refl
own_before context place (Error text) = refl
own_before context place (Expression expression) = refl
own_before context place (If tag_if value then tag_else otherwise) = refl
own_before context place (Import tag args source filename block) = refl
own_before context place (File tag filename) = refl
own_before context place (Instruction mnemonic operand) = refl
own_before context place (Label id colon block) = refl
own_before context place (Loop tag expr block) = refl
own_before context place (MacroDefinition tag id lparen args rparen block) = refl
own_before context place (MacroInvocation id lparen args rparen) = refl
own_before context place (ProgramCounterDefinition star eq value) = refl
own_before context place (Segment tag id block) = refl
own_before context place (Test tag id block) = refl
own_before context place (Text tag encoding text) = refl
own_before context place (Trace tag lparen args rparen) = refl
own_before context place (VariableDefinition ty id eq value) = refl
own_before context place (Vec items) = refl
own_before context place (Leaf text) = refl
own_before context place (PathItem text) = refl
own_before context place (Block lparen inner rparen) = refl
own_before context place (BinaryExpression op lhs rhs) = refl
own_before context place (Factor factor tag_not tag_neg) = refl
own_before context place (CurrentProgramCounter star) = refl
own_before context place (ExprParens lparen inner rparen) = refl
own_before context place (FunctionCall name lparen args rparen) = refl
own_before context place (IdentifierValue path modifier) = refl
own_before context place (Number ty value) = refl
own_before context place (StringFactor string) = refl
own_before context place (InterpolatedString lquote items) = refl
own_before context place (Operand expr lchar rchar mode suffix) = refl
own_before context place (RegisterSuffix comma register) = refl
own_before context place (ImportAs tag path) = refl
own_before context place (ImportAll star alias) = refl
own_before context place (SpecificImportArg path alias) = refl
own_before context place (ArgItem value comma) = refl

-- ---- the number of a kind

-- a tree of a class has a kind that may stand there, or is the items of a list
numbered : (class : Class) (tree : Tree) → Shaped class tree → Allowed class (token_number tree) ⊎ (Listed class × (token_number tree ≡ 43))
unfolding Shaped view
numbered class absent shaped = absurd shaped
numbered class (refused refusal) shaped = absurd shaped
numbered class (node place trivia tree) shaped = numbered class tree shaped.1
numbered class nil shaped = inr (shaped, refl)
numbered class (cons item items) shaped = inr (shaped.0, refl)
numbered class (Align tag value) shaped = inl shaped.0
numbered class (Assert tag value message) shaped = inl shaped.0
numbered class (Braces block) shaped = inl shaped.0
numbered class (Config block) shaped = inl shaped.0
numbered class (ConfigPair key eq value) shaped = inl shaped.0
numbered class (Data values size) shaped = inl shaped.0
numbered class (Definition tag id value) shaped = inl shaped.0
numbered class (Eof unit) shaped = inl shaped.0
numbered class (Error text) shaped = inl shaped.0
numbered class (Expression expression) shaped = inl shaped.0
numbered class (If tag_if value then tag_else otherwise) shaped = inl shaped.0
numbered class (Import tag args source filename block) shaped = inl shaped.0
numbered class (File tag filename) shaped = inl shaped.0
numbered class (Instruction mnemonic operand) shaped = inl shaped.0
numbered class (Label id colon block) shaped = inl shaped.0
numbered class (Loop tag expr block) shaped = inl shaped.0
numbered class (MacroDefinition tag id lparen args rparen block) shaped = inl shaped.0
numbered class (MacroInvocation id lparen args rparen) shaped = inl shaped.0
numbered class (ProgramCounterDefinition star eq value) shaped = inl shaped.0
numbered class (Segment tag id block) shaped = inl shaped.0
numbered class (Test tag id block) shaped = inl shaped.0
numbered class (Text tag encoding text) shaped = inl shaped.0
numbered class (Trace tag lparen args rparen) shaped = inl shaped.0
numbered class (VariableDefinition ty id eq value) shaped = inl shaped.0
numbered class (Vec items) shaped = inl shaped.0
numbered class (Leaf text) shaped = inl shaped
numbered class (PathItem text) shaped = inl shaped
numbered class (Block lparen inner rparen) shaped = inl shaped.0
numbered class (BinaryExpression op lhs rhs) shaped = inl shaped.0
numbered class (Factor factor tag_not tag_neg) shaped = inl shaped.0
numbered class (CurrentProgramCounter star) shaped = inl shaped.0
numbered class (ExprParens lparen inner rparen) shaped = inl shaped.0
numbered class (FunctionCall name lparen args rparen) shaped = inl shaped.0
numbered class (IdentifierValue path modifier) shaped = inl shaped.0
numbered class (Number ty value) shaped = inl shaped.0
numbered class (StringFactor string) shaped = inl shaped.0
numbered class (InterpolatedString lquote items) shaped = inl shaped.0
numbered class (Operand expr lchar rchar mode suffix) shaped = inl shaped.0
numbered class (RegisterSuffix comma register) shaped = inl shaped.0
numbered class (ImportAs tag path) shaped = inl shaped.0
numbered class (ImportAll star alias) shaped = inl shaped.0
numbered class (SpecificImportArg path alias) shaped = inl shaped.0
numbered class (ArgItem value comma) shaped = inl shaped.0

-- the least number of a kind that may stand in a class, and the greatest
abbrev lowest : Class → ℕ
lowest class = kind_number (rule class).first

abbrev highest : Class → ℕ
highest class = kind_number (rule class).last

-- where a class has no list, the number is within its range
range : (class : Class) (tree : Tree) → Shaped class tree → is_list (rule class).items ≡ false
    → (lowest class ≤ token_number tree) × (token_number tree ≤ highest class)
range class tree shaped plain =
    ⊎_elim
    (λ allowed. by_choice (eqb (token_number tree) 24) (is_list (rule class).items) _ true allowed
    (λ q listed. true_false (sym listed ∙ plain))
    (λ q within.
    let above : leb (lowest class) (token_number tree) ≡ true =
    and_true_left (leb (lowest class) (token_number tree)) (leb (token_number tree) (highest class)) within in
    let below : leb (token_number tree) (highest class) ≡ true =
    and_true_right (leb (lowest class) (token_number tree)) (leb (token_number tree) (highest class)) within in
    (leb-true _ _ above, leb-true _ _ below)))
    (λ items. true_false (sym items.0 ∙ plain))
    (numbered class tree shaped)

-- ---- heads

-- the trivia that a tree leaves to its surroundings to print: those of its head, but for an `Expression` and expressions, which print them themselves
unfoldable pub stem : Tree → List Trivium
stem tree = cond (one_of (token_number tree) (9 ∷ 28 ∷ 29 ∷ [])) [] (head_trivia tree)

-- only tokens and blocks leave any
pub stem_none : (tree : Tree) → 24 ≤ token_number tree → (token_number tree ≡ 27 → ⊥) → stem tree ≡ []
unfolding stem one_of view
stem_none absent above other = refl
stem_none (refused refusal) above other = refl
stem_none (node place trivia tree) above other = stem_none tree above other
stem_none nil above other = refl
stem_none (cons item items) above other = refl
stem_none (Align tag value) above other = absurd (omega (arith, above))
stem_none (Assert tag value message) above other = absurd (omega (arith, above))
stem_none (Braces block) above other = absurd (omega (arith, above))
stem_none (Config block) above other = absurd (omega (arith, above))
stem_none (ConfigPair key eq value) above other = absurd (omega (arith, above))
stem_none (Data values size) above other = absurd (omega (arith, above))
stem_none (Definition tag id value) above other = absurd (omega (arith, above))
stem_none (Eof unit) above other = absurd (omega (arith, above))
stem_none (Error text) above other = absurd (omega (arith, above))
stem_none (Expression expression) above other = absurd (omega (arith, above))
stem_none (If tag_if value then tag_else otherwise) above other = absurd (omega (arith, above))
stem_none (Import tag args source filename block) above other = absurd (omega (arith, above))
stem_none (File tag filename) above other = absurd (omega (arith, above))
stem_none (Instruction mnemonic operand) above other = absurd (omega (arith, above))
stem_none (Label id colon block) above other = absurd (omega (arith, above))
stem_none (Loop tag expr block) above other = absurd (omega (arith, above))
stem_none (MacroDefinition tag id lparen args rparen block) above other = absurd (omega (arith, above))
stem_none (MacroInvocation id lparen args rparen) above other = absurd (omega (arith, above))
stem_none (ProgramCounterDefinition star eq value) above other = absurd (omega (arith, above))
stem_none (Segment tag id block) above other = absurd (omega (arith, above))
stem_none (Test tag id block) above other = absurd (omega (arith, above))
stem_none (Text tag encoding text) above other = absurd (omega (arith, above))
stem_none (Trace tag lparen args rparen) above other = absurd (omega (arith, above))
stem_none (VariableDefinition ty id eq value) above other = absurd (omega (arith, above))
stem_none (Vec items) above other = refl
stem_none (Leaf text) above other = refl
stem_none (PathItem text) above other = refl
stem_none (Block lparen inner rparen) above other = absurd (other refl)
stem_none (BinaryExpression op lhs rhs) above other = refl
stem_none (Factor factor tag_not tag_neg) above other = refl
stem_none (CurrentProgramCounter star) above other = refl
stem_none (ExprParens lparen inner rparen) above other = refl
stem_none (FunctionCall name lparen args rparen) above other = refl
stem_none (IdentifierValue path modifier) above other = refl
stem_none (Number ty value) above other = refl
stem_none (StringFactor string) above other = refl
stem_none (InterpolatedString lquote items) above other = refl
stem_none (Operand expr lchar rchar mode suffix) above other = refl
stem_none (RegisterSuffix comma register) above other = refl
stem_none (ImportAs tag path) above other = refl
stem_none (ImportAll star alias) above other = refl
stem_none (SpecificImportArg path alias) above other = refl
stem_none (ArgItem value comma) above other = refl

-- a class of which neither tokens nor blocks are
abbrev pub headless : Class → Bool
headless class = leb 24 (lowest class) && not (leb (lowest class) 27 && leb 27 (highest class))

-- a tree of such a class leaves no comments to its surroundings
pub headless_clear : (class : Class) (tree : Tree) → headless class ≡ true → Shaped class tree → comments (stem tree) ≡ []
unfolding comments
headless_clear class tree none shaped =
    let above : leb 24 (lowest class) ≡ true = and_true_left (leb 24 (lowest class)) _ none in
    let past : 24 ≤ lowest class = leb-true 24 (lowest class) above in
    let apart : (lowest class ≤ 27 → 27 ≤ highest class → ⊥) =
    λ low high. true_false (rw (le-leb (lowest class) 27 low, le-leb 27 (highest class) high) at (sym (and_true_right (leb 24 (lowest class)) _ none))) in
    ap comments (by_test (is_list (rule class).items)
    (λ listed. ⊎_elim
    (λ allowed. by_choice (eqb (token_number tree) 24) (is_list (rule class).items) _ true allowed
    (λ q f. let number : token_number tree ≡ 24 = eqb-true _ _ q in stem_none tree (omega arith) (λ is. omega (arith, is, number)))
    (λ q within.
    let from : lowest class ≤ token_number tree =
    leb-true _ _ (and_true_left (leb (lowest class) (token_number tree)) (leb (token_number tree) (highest class)) within) in
    let to : token_number tree ≤ highest class =
    leb-true _ _ (and_true_right (leb (lowest class) (token_number tree)) (leb (token_number tree) (highest class)) within) in
    stem_none tree (omega arith) (λ is. apart (omega arith) (omega arith))))
    (λ items. let number : token_number tree ≡ 43 = items.1 in stem_none tree (omega arith) (λ is. omega (arith, is, number)))
    (numbered class tree shaped))
    (λ plain.
    let within = range class tree shaped plain in
    let from : lowest class ≤ token_number tree = within.0 in
    let to : token_number tree ≤ highest class = within.1 in
    stem_none tree (omega arith) (λ is. apart (omega arith) (omega arith))))

-- ---- blocks

-- a block whose brace is not place (a) has no comment there
brace_clear : (tree : Tree) → token_number tree ≡ 27 → harmless (places_in false tree) ≡ true → comments (head_trivia tree) ≡ []
unfolding places_in view
brace_clear absent is free = absurd (omega (arith, is))
brace_clear (refused refusal) is free = absurd (omega (arith, is))
brace_clear (node place trivia tree) is free =
    brace_clear tree is (harmless_parts (mark place path_item (at_path_item trivia tree)) _ (harmless_parts (mark place import_path
    (at_import_path trivia tree)) _ free).1).1
brace_clear nil is free = absurd (omega (arith, is))
brace_clear (cons item items) is free = absurd (omega (arith, is))
brace_clear (Align tag value) is free = absurd (omega (arith, is))
brace_clear (Assert tag value message) is free = absurd (omega (arith, is))
brace_clear (Braces block) is free = absurd (omega (arith, is))
brace_clear (Config block) is free = absurd (omega (arith, is))
brace_clear (ConfigPair key eq value) is free = absurd (omega (arith, is))
brace_clear (Data values size) is free = absurd (omega (arith, is))
brace_clear (Definition tag id value) is free = absurd (omega (arith, is))
brace_clear (Eof unit) is free = absurd (omega (arith, is))
brace_clear (Error text) is free = absurd (omega (arith, is))
brace_clear (Expression expression) is free = absurd (omega (arith, is))
brace_clear (If tag_if value then tag_else otherwise) is free = absurd (omega (arith, is))
brace_clear (Import tag args source filename block) is free = absurd (omega (arith, is))
brace_clear (File tag filename) is free = absurd (omega (arith, is))
brace_clear (Instruction mnemonic operand) is free = absurd (omega (arith, is))
brace_clear (Label id colon block) is free = absurd (omega (arith, is))
brace_clear (Loop tag expr block) is free = absurd (omega (arith, is))
brace_clear (MacroDefinition tag id lparen args rparen block) is free = absurd (omega (arith, is))
brace_clear (MacroInvocation id lparen args rparen) is free = absurd (omega (arith, is))
brace_clear (ProgramCounterDefinition star eq value) is free = absurd (omega (arith, is))
brace_clear (Segment tag id block) is free = absurd (omega (arith, is))
brace_clear (Test tag id block) is free = absurd (omega (arith, is))
brace_clear (Text tag encoding text) is free = absurd (omega (arith, is))
brace_clear (Trace tag lparen args rparen) is free = absurd (omega (arith, is))
brace_clear (VariableDefinition ty id eq value) is free = absurd (omega (arith, is))
brace_clear (Vec items) is free = absurd (omega (arith, is))
brace_clear (Leaf text) is free = absurd (omega (arith, is))
brace_clear (PathItem text) is free = absurd (omega (arith, is))
brace_clear (Block lparen inner rparen) is free =
    no_comments (own_trivia lparen) (unmarked _ opening_brace (at_opening_brace false lparen) refl (harmless_parts (mark (stands_at lparen) opening_brace (at_opening_brace false lparen)) _ free).0)
brace_clear (BinaryExpression op lhs rhs) is free = absurd (omega (arith, is))
brace_clear (Factor factor tag_not tag_neg) is free = absurd (omega (arith, is))
brace_clear (CurrentProgramCounter star) is free = absurd (omega (arith, is))
brace_clear (ExprParens lparen inner rparen) is free = absurd (omega (arith, is))
brace_clear (FunctionCall name lparen args rparen) is free = absurd (omega (arith, is))
brace_clear (IdentifierValue path modifier) is free = absurd (omega (arith, is))
brace_clear (Number ty value) is free = absurd (omega (arith, is))
brace_clear (StringFactor string) is free = absurd (omega (arith, is))
brace_clear (InterpolatedString lquote items) is free = absurd (omega (arith, is))
brace_clear (Operand expr lchar rchar mode suffix) is free = absurd (omega (arith, is))
brace_clear (RegisterSuffix comma register) is free = absurd (omega (arith, is))
brace_clear (ImportAs tag path) is free = absurd (omega (arith, is))
brace_clear (ImportAll star alias) is free = absurd (omega (arith, is))
brace_clear (SpecificImportArg path alias) is free = absurd (omega (arith, is))
brace_clear (ArgItem value comma) is free = absurd (omega (arith, is))

-- the number of a block
block_number : (tree : Tree) → Shaped BlockRecord tree → token_number tree ≡ 27
block_number tree shaped = let within = range BlockRecord tree shaped refl in le_antisymm within.1 within.0

-- a block leaves the trivia of its brace
pub block_stem : (tree : Tree) → Shaped BlockRecord tree → stem tree ≡ head_trivia tree
unfolding stem one_of
block_stem tree shaped = rw (block_number tree shaped)

-- none that are comments, if it is no place
pub block_clear : (tree : Tree) → Shaped BlockRecord tree → harmless (places_in false tree) ≡ true → comments (stem tree) ≡ []
block_clear tree shaped free = rw (block_stem tree shaped) (brace_clear tree (block_number tree shaped) free)

-- ---- tokens

-- an `Expression` in a list whose head is not place (g) has no comment there
expression_clear : (tree : Tree) → token_number tree ≡ 9 → harmless (places_in true tree) ≡ true → comments (head_trivia tree) ≡ []
unfolding places_in view
expression_clear absent is free = absurd (omega (arith, is))
expression_clear (refused refusal) is free = absurd (omega (arith, is))
expression_clear (node place trivia tree) is free =
    expression_clear tree is (harmless_parts (mark place path_item (at_path_item trivia tree)) _ (harmless_parts (mark place import_path
    (at_import_path trivia tree)) _ free).1).1
expression_clear nil is free = absurd (omega (arith, is))
expression_clear (cons item items) is free = absurd (omega (arith, is))
expression_clear (Align tag value) is free = absurd (omega (arith, is))
expression_clear (Assert tag value message) is free = absurd (omega (arith, is))
expression_clear (Braces block) is free = absurd (omega (arith, is))
expression_clear (Config block) is free = absurd (omega (arith, is))
expression_clear (ConfigPair key eq value) is free = absurd (omega (arith, is))
expression_clear (Data values size) is free = absurd (omega (arith, is))
expression_clear (Definition tag id value) is free = absurd (omega (arith, is))
expression_clear (Eof unit) is free = absurd (omega (arith, is))
expression_clear (Error text) is free = absurd (omega (arith, is))
expression_clear (Expression expression) is free =
    no_comments (head_trivia expression) (unmarked _ expression_head (at_expression_head true expression) refl
    (harmless_parts (mark (stands_at (head_of expression)) expression_head (at_expression_head true expression)) _ free).0)
expression_clear (If tag_if value then tag_else otherwise) is free = absurd (omega (arith, is))
expression_clear (Import tag args source filename block) is free = absurd (omega (arith, is))
expression_clear (File tag filename) is free = absurd (omega (arith, is))
expression_clear (Instruction mnemonic operand) is free = absurd (omega (arith, is))
expression_clear (Label id colon block) is free = absurd (omega (arith, is))
expression_clear (Loop tag expr block) is free = absurd (omega (arith, is))
expression_clear (MacroDefinition tag id lparen args rparen block) is free = absurd (omega (arith, is))
expression_clear (MacroInvocation id lparen args rparen) is free = absurd (omega (arith, is))
expression_clear (ProgramCounterDefinition star eq value) is free = absurd (omega (arith, is))
expression_clear (Segment tag id block) is free = absurd (omega (arith, is))
expression_clear (Test tag id block) is free = absurd (omega (arith, is))
expression_clear (Text tag encoding text) is free = absurd (omega (arith, is))
expression_clear (Trace tag lparen args rparen) is free = absurd (omega (arith, is))
expression_clear (VariableDefinition ty id eq value) is free = absurd (omega (arith, is))
expression_clear (Vec items) is free = absurd (omega (arith, is))
expression_clear (Leaf text) is free = absurd (omega (arith, is))
expression_clear (PathItem text) is free = absurd (omega (arith, is))
expression_clear (Block lparen inner rparen) is free = absurd (omega (arith, is))
expression_clear (BinaryExpression op lhs rhs) is free = absurd (omega (arith, is))
expression_clear (Factor factor tag_not tag_neg) is free = absurd (omega (arith, is))
expression_clear (CurrentProgramCounter star) is free = absurd (omega (arith, is))
expression_clear (ExprParens lparen inner rparen) is free = absurd (omega (arith, is))
expression_clear (FunctionCall name lparen args rparen) is free = absurd (omega (arith, is))
expression_clear (IdentifierValue path modifier) is free = absurd (omega (arith, is))
expression_clear (Number ty value) is free = absurd (omega (arith, is))
expression_clear (StringFactor string) is free = absurd (omega (arith, is))
expression_clear (InterpolatedString lquote items) is free = absurd (omega (arith, is))
expression_clear (Operand expr lchar rchar mode suffix) is free = absurd (omega (arith, is))
expression_clear (RegisterSuffix comma register) is free = absurd (omega (arith, is))
expression_clear (ImportAs tag path) is free = absurd (omega (arith, is))
expression_clear (ImportAll star alias) is free = absurd (omega (arith, is))
expression_clear (SpecificImportArg path alias) is free = absurd (omega (arith, is))
expression_clear (ArgItem value comma) is free = absurd (omega (arith, is))

-- what the list prints of a token's head is what the token leaves
pub token_stem : (tree : Tree) → Shaped BareToken tree → harmless (places_in true tree) ≡ true → comments (head_trivia tree) ≡ comments (stem tree)
unfolding stem one_of comments
token_stem tree shaped free =
    let below : token_number tree ≤ 23 = (range BareToken tree shaped refl).1 in
    by_test (eqb (token_number tree) 9)
    (λ q. rw q (expression_clear tree (eqb-true (token_number tree) 9 q) free))
    (λ q. rw (q, ne_eqb (token_number tree) 28 (λ is. omega (arith, is, below)), ne_eqb (token_number tree) 29 (λ is. omega (arith, is, below))))

-- a value whose head is not place (c) leaves no comments
pub value_clear : (tree : Tree) → at_value_head tree ≡ false → comments (stem tree) ≡ []
unfolding stem one_of comments
value_clear tree free =
    by_test (eqb (token_number tree) 9)
    (λ q. rw q)
    (λ q. cond_both (λ (trivia : List Trivium). comments trivia ≡ []) (one_of (token_number tree) (9 ∷ 28 ∷ 29 ∷ [])) _ _ (λ r. refl)
    (λ r. no_comments (head_trivia tree) (rw q at free)))

-- ---- own trivia

-- trivia of a record that has no `Located`
own_of : (class : Class) (place : ℕ) (trivia : List Trivium) (tree : Tree) → (rule class).located ≡ false → TriviaAllowed class trivia tree
    → harmless (mark place path_item (at_path_item trivia tree)) ≡ true → comments trivia ≡ []
unfolding comments
own_of class place [] tree bare allowed free = refl
own_of class place (item ∷ items) tree bare allowed free =
    no_comments (item ∷ items) (rw (rw bare at allowed) at (unmarked place path_item (at_path_item (item ∷ items) tree) refl free))

-- trivia of a path of an import
import_of : (place : ℕ) (trivia : List Trivium) (tree : Tree) → Shaped ImportPath tree → harmless (mark place import_path (at_import_path trivia tree)) ≡ true → comments trivia ≡ []
import_of place trivia tree shaped free =
    let within = range ImportPath tree shaped refl in
    no_comments trivia (rw (eq-eqb (token_number tree) 41 (le_antisymm within.1 within.0)) at (unmarked place import_path (at_import_path trivia tree) refl free))

-- a tree that has no `Located` has no comments of its own, unless it is place (e)
pub own_clear : (class : Class) (listed : Bool) (tree : Tree) → (rule class).located ≡ false → Shaped class tree → harmless (places_in listed tree) ≡ true
    → comments (own_trivia tree) ≡ []
unfolding places_in Shaped comments view
own_clear class listed absent bare shaped free = refl
own_clear class listed (refused refusal) bare shaped free = refl
own_clear class listed (node place trivia tree) bare shaped free =
    own_of class place trivia tree bare shaped.0 (harmless_parts (mark place path_item (at_path_item trivia tree)) _ (harmless_parts (mark place import_path
    (at_import_path trivia tree)) _ free).1).0
own_clear class listed nil bare shaped free = refl
own_clear class listed (cons item items) bare shaped free = refl
own_clear class listed (Align tag value) bare shaped free = refl
own_clear class listed (Assert tag value message) bare shaped free = refl
own_clear class listed (Braces block) bare shaped free = refl
own_clear class listed (Config block) bare shaped free = refl
own_clear class listed (ConfigPair key eq value) bare shaped free = refl
own_clear class listed (Data values size) bare shaped free = refl
own_clear class listed (Definition tag id value) bare shaped free = refl
own_clear class listed (Eof unit) bare shaped free = refl
own_clear class listed (Error text) bare shaped free = refl
own_clear class listed (Expression expression) bare shaped free = refl
own_clear class listed (If tag_if value then tag_else otherwise) bare shaped free = refl
own_clear class listed (Import tag args source filename block) bare shaped free = refl
own_clear class listed (File tag filename) bare shaped free = refl
own_clear class listed (Instruction mnemonic operand) bare shaped free = refl
own_clear class listed (Label id colon block) bare shaped free = refl
own_clear class listed (Loop tag expr block) bare shaped free = refl
own_clear class listed (MacroDefinition tag id lparen args rparen block) bare shaped free = refl
own_clear class listed (MacroInvocation id lparen args rparen) bare shaped free = refl
own_clear class listed (ProgramCounterDefinition star eq value) bare shaped free = refl
own_clear class listed (Segment tag id block) bare shaped free = refl
own_clear class listed (Test tag id block) bare shaped free = refl
own_clear class listed (Text tag encoding text) bare shaped free = refl
own_clear class listed (Trace tag lparen args rparen) bare shaped free = refl
own_clear class listed (VariableDefinition ty id eq value) bare shaped free = refl
own_clear class listed (Vec items) bare shaped free = refl
own_clear class listed (Leaf text) bare shaped free = refl
own_clear class listed (PathItem text) bare shaped free = refl
own_clear class listed (Block lparen inner rparen) bare shaped free = refl
own_clear class listed (BinaryExpression op lhs rhs) bare shaped free = refl
own_clear class listed (Factor factor tag_not tag_neg) bare shaped free = refl
own_clear class listed (CurrentProgramCounter star) bare shaped free = refl
own_clear class listed (ExprParens lparen inner rparen) bare shaped free = refl
own_clear class listed (FunctionCall name lparen args rparen) bare shaped free = refl
own_clear class listed (IdentifierValue path modifier) bare shaped free = refl
own_clear class listed (Number ty value) bare shaped free = refl
own_clear class listed (StringFactor string) bare shaped free = refl
own_clear class listed (InterpolatedString lquote items) bare shaped free = refl
own_clear class listed (Operand expr lchar rchar mode suffix) bare shaped free = refl
own_clear class listed (RegisterSuffix comma register) bare shaped free = refl
own_clear class listed (ImportAs tag path) bare shaped free = refl
own_clear class listed (ImportAll star alias) bare shaped free = refl
own_clear class listed (SpecificImportArg path alias) bare shaped free = refl
own_clear class listed (ArgItem value comma) bare shaped free = refl

-- a path of an import has none, unless it is place (d)
pub import_clear : (listed : Bool) (tree : Tree) → Shaped ImportPath tree → harmless (places_in listed tree) ≡ true → comments (own_trivia tree) ≡ []
unfolding places_in Shaped comments view
import_clear listed absent shaped free = refl
import_clear listed (refused refusal) shaped free = refl
import_clear listed (node place trivia tree) shaped free = import_of place trivia tree shaped.1 (harmless_parts (mark place import_path (at_import_path trivia tree)) _ free).0
import_clear listed nil shaped free = refl
import_clear listed (cons item items) shaped free = refl
import_clear listed (Align tag value) shaped free = refl
import_clear listed (Assert tag value message) shaped free = refl
import_clear listed (Braces block) shaped free = refl
import_clear listed (Config block) shaped free = refl
import_clear listed (ConfigPair key eq value) shaped free = refl
import_clear listed (Data values size) shaped free = refl
import_clear listed (Definition tag id value) shaped free = refl
import_clear listed (Eof unit) shaped free = refl
import_clear listed (Error text) shaped free = refl
import_clear listed (Expression expression) shaped free = refl
import_clear listed (If tag_if value then tag_else otherwise) shaped free = refl
import_clear listed (Import tag args source filename block) shaped free = refl
import_clear listed (File tag filename) shaped free = refl
import_clear listed (Instruction mnemonic operand) shaped free = refl
import_clear listed (Label id colon block) shaped free = refl
import_clear listed (Loop tag expr block) shaped free = refl
import_clear listed (MacroDefinition tag id lparen args rparen block) shaped free = refl
import_clear listed (MacroInvocation id lparen args rparen) shaped free = refl
import_clear listed (ProgramCounterDefinition star eq value) shaped free = refl
import_clear listed (Segment tag id block) shaped free = refl
import_clear listed (Test tag id block) shaped free = refl
import_clear listed (Text tag encoding text) shaped free = refl
import_clear listed (Trace tag lparen args rparen) shaped free = refl
import_clear listed (VariableDefinition ty id eq value) shaped free = refl
import_clear listed (Vec items) shaped free = refl
import_clear listed (Leaf text) shaped free = refl
import_clear listed (PathItem text) shaped free = refl
import_clear listed (Block lparen inner rparen) shaped free = refl
import_clear listed (BinaryExpression op lhs rhs) shaped free = refl
import_clear listed (Factor factor tag_not tag_neg) shaped free = refl
import_clear listed (CurrentProgramCounter star) shaped free = refl
import_clear listed (ExprParens lparen inner rparen) shaped free = refl
import_clear listed (FunctionCall name lparen args rparen) shaped free = refl
import_clear listed (IdentifierValue path modifier) shaped free = refl
import_clear listed (Number ty value) shaped free = refl
import_clear listed (StringFactor string) shaped free = refl
import_clear listed (InterpolatedString lquote items) shaped free = refl
import_clear listed (Operand expr lchar rchar mode suffix) shaped free = refl
import_clear listed (RegisterSuffix comma register) shaped free = refl
import_clear listed (ImportAs tag path) shaped free = refl
import_clear listed (ImportAll star alias) shaped free = refl
import_clear listed (SpecificImportArg path alias) shaped free = refl
import_clear listed (ArgItem value comma) shaped free = refl
