-- The events of a tree without refusal do not stop.
--   file_free : (bytes : List ℕ) (options : FormattingOptions) → batch_checked bytes ≡ Passed → Free (file_events options bytes)
use Rattle.std.specs.Prelude.{Ok, Err}
use mathlib.Core.Path.{◌≡◌, ◌∙◌}
use mathlib.Core.List.{List, [], ◌∷◌}
use mathlib.Core.Bool.{Bool, true, false, cond, ◌||◌}
use Prim.Native.Nat.{ℕ}
use lib.ListN.{get_or}
use lib.Dec.{eqb}
use Rattle.answers.specs.Numbers.{no_refusal, and_then, Checked}
use Rattle.answers.proofs.Cases.{failed_passed}
use Rattle.options.specs.declared.BracePosition.{BracePosition}
use Rattle.options.specs.declared.BracePosition.TheVariants.{SameLine, NewLine}
use Rattle.options.specs.declared.FormattingOptions.{FormattingOptions}
use Rattle.text.proofs.Choices.{cond_both}
use Rattle.tree.specs.Tree.{Tree, Trivium, absent, refused, node, nil, cons, Align, Assert, Braces, Config, ConfigPair, Data, Definition, Eof, Error}
use Rattle.tree.specs.Tree.{Expression, If, Import, File, Instruction, Label, Loop, MacroDefinition, MacroInvocation, ProgramCounterDefinition}
use Rattle.tree.specs.Tree.{Segment, Test, Text, Trace, VariableDefinition, Vec, Leaf, PathItem, Block, BinaryExpression, Factor}
use Rattle.tree.specs.Tree.{CurrentProgramCounter, ExprParens, FunctionCall, IdentifierValue, Number, StringFactor, InterpolatedString, Operand}
use Rattle.tree.specs.Tree.{RegisterSuffix, ImportAs, ImportAll, SpecificImportArg, ArgItem}
use Rattle.tree.specs.Checking.{read_file, batch_checked}
use Rattle.tree.specs.declared.grammar.Class.TheVariants.{Tokens}
use Rattle.tree.proofs.Cases.{both_passed}
use Rattle.tree.proofs.Readings.{file_passed}
use Rattle.printing.specs.Events.{Events}
use Rattle.printing.specs.declared.Context.{Context}
use Rattle.printing.proofs.Stops.{Free, none, pushes, spaces, clears, trims, ◌and◌}
use Rattle.events.specs.Printed.{plain, mnemonic, register, operator, data_size, encoding, variable_type, number_type, modifier}
use Rattle.events.specs.Views.{own_trivia, head_trivia, token_number, stands, has_block, index_of}
use Rattle.events.specs.Refusals.{first_refusal, own_refusal, head_refusal}
use Rattle.events.specs.Trees.{stop_at, skipping, trivium_events, trivia_events, only_newline, lead_events, list_trivia, breaks, Before, first, behind, break_before}
use Rattle.events.specs.Trees.{Closing, file_end, block_end, Place, leaf, labelled, arguments, imports, in_string, tokens, closing_events, end_events, item_events}
use Rattle.events.specs.Trees.{leaf_events, value_shown, deeper, opening, else_events, operand_events, events_in}
use Rattle.events.proofs.Refusals.{read_refusal}
use Rattle.events.proofs.Passed.{own_passed, head_passed}
use Rattle.tokens.specs.Chunks.{file_events}

-- ---- of judgements in order that passed each did

three : (a b c : Checked) → and_then a (and_then b c) ≡ no_refusal → (a ≡ no_refusal) × ((b ≡ no_refusal) × (c ≡ no_refusal))
three a b c e = let p = both_passed a (and_then b c) e in (p.0, both_passed b c p.1)

four : (a b c d : Checked) → and_then a (and_then b (and_then c d)) ≡ no_refusal → (a ≡ no_refusal) × ((b ≡ no_refusal) × ((c ≡ no_refusal) × (d ≡ no_refusal)))
four a b c d e = let p = both_passed a (and_then b (and_then c d)) e in (p.0, three b c d p.1)

five : (a b c d f : Checked) → and_then a (and_then b (and_then c (and_then d f))) ≡ no_refusal
    → (a ≡ no_refusal) × ((b ≡ no_refusal) × ((c ≡ no_refusal) × ((d ≡ no_refusal) × (f ≡ no_refusal))))
five a b c d f e = let p = both_passed a (and_then b (and_then c (and_then d f))) e in (p.0, four b c d f p.1)

six : (a b c d f g : Checked) → and_then a (and_then b (and_then c (and_then d (and_then f g)))) ≡ no_refusal
    → (a ≡ no_refusal) × ((b ≡ no_refusal) × ((c ≡ no_refusal) × ((d ≡ no_refusal) × ((f ≡ no_refusal) × (g ≡ no_refusal)))))
six a b c d f g e = let p = both_passed a (and_then b (and_then c (and_then d (and_then f g)))) e in (p.0, five b c d f g p.1)

-- ---- what surrounds trees

stop_free : (found : Checked) → found ≡ no_refusal → Free (stop_at found)
stop_free (Ok tt) e = none
stop_free (Err why) e = failed_passed e

skip_free : (tree : Tree) → first_refusal tree ≡ no_refusal → Free (skipping tree)
skip_free tree e = stop_free (first_refusal tree) e

chosen : (test : Bool) (some others : Events) → Free some → Free others → Free (cond test some others)
chosen test some others s o = cond_both Free test some others (λ t. s) (λ t. o)

trivium_free : (c : Context) (item : Trivium) → Free (trivium_events c item)
trivium_free c item = chosen (eqb item.code 0) _ _ none (chosen (eqb item.code 1) _ _ pushes pushes)

trivia_free : (c : Context) (trivia : List Trivium) → Free (trivia_events c trivia)
unfolding trivia_events
trivia_free c [] = none
trivia_free c (item ∷ items) = trivium_free c item and trivia_free c items

lead_free : (c : Context) (trivia : List Trivium) → Free (lead_events c trivia)
unfolding lead_events
lead_free c [] = none
lead_free c (item ∷ items) = chosen (only_newline item) _ _ (lead_free c items) (trivium_free c item and trivia_free c items)

list_free : (c : Context) (drops : Bool) (trivia : List Trivium) → Free (list_trivia c drops trivia)
list_free c true trivia = lead_free c trivia
list_free c false trivia = trivia_free c trivia

break_free : (c : Context) (before : Before) (number : ℕ) (block : Bool) → Free (break_before c before number block)
break_free c first number block = none
break_free c (behind previous) number block = chosen (breaks previous number block) _ _ pushes none

-- a closing brace that has no refusal
abbrev ClosingPassed : Closing → Type 0
ClosingPassed file_end = Unit
ClosingPassed (block_end rparen) = own_refusal rparen ≡ no_refusal

abbrev PlacePassed : Place → Type 0
PlacePassed (leaf style) = Unit
PlacePassed labelled = Unit
PlacePassed arguments = Unit
PlacePassed imports = Unit
PlacePassed in_string = Unit
PlacePassed (tokens drops before closing) = ClosingPassed closing

closing_free : (c : Context) (drops : Bool) (before : Before) (closing : Closing) → ClosingPassed closing → Free (closing_events c drops before closing)
closing_free c drops before file_end closed = none
closing_free c drops before (block_end rparen) closed =
    stop_free (own_refusal rparen) closed and list_free c drops (own_trivia rparen) and break_free c before 7 false

end_free : (c : Context) (place : Place) → PlacePassed place → Free (end_events c place)
end_free c (leaf style) closed = none
end_free c labelled closed = none
end_free c arguments closed = clears
end_free c imports closed = clears
end_free c in_string closed = none
end_free c (tokens drops before closing) closed = closing_free c drops before closing closed

item_free : (c : Context) (place : Place) → PlacePassed place → (item : Tree) → first_refusal item ≡ no_refusal
    → (bare whole : Events) → Free bare → Free whole → (rest : Place → Events) → ((next : Place) → PlacePassed next → Free (rest next))
    → Free (item_events c place item bare whole rest)
item_free c (leaf style) closed item e bare whole b w rest r = w and r (leaf style) tt
item_free c labelled closed item e bare whole b w rest r = w and r labelled tt
item_free c arguments closed item e bare whole b w rest r = w and r arguments tt
item_free c imports closed item e bare whole b w rest r = w and r imports tt
item_free c in_string closed item e bare whole b w rest r = b and r in_string tt
item_free c (tokens drops before closing) closed item e bare whole b w rest r =
    stop_free (head_refusal item) (head_passed item e) and list_free c drops (head_trivia item) and break_free c before (token_number item) (has_block item)
    and b and r (tokens false (behind (token_number item)) closing) closed

leaf_free : (c : Context) (place : Place) (text : List ℕ) → Free (leaf_events c place text)
leaf_free c (leaf style) text = pushes
leaf_free c labelled text = pushes
leaf_free c arguments text = pushes
leaf_free c imports text = pushes
leaf_free c in_string text = pushes
leaf_free c (tokens drops before closing) text = pushes

opening_free : (c : Context) (position : BracePosition) (brace : Events) → Free brace → Free (opening c position brace)
opening_free c SameLine brace b = b and pushes
opening_free c NewLine brace b = pushes and b and pushes

else_free : (c : Context) (position : BracePosition) (tag block : Events) → Free tag → Free block → Free (else_events c position tag block)
else_free c SameLine tag block t b = pushes and t and pushes and b
else_free c NewLine tag block t b = pushes and t and b

operand_free : (mode : List ℕ) (rchar suffix : Events) → Free rchar → Free suffix → Free (operand_events mode rchar suffix)
operand_free mode rchar suffix r s = chosen (eqb (get_or mode 0 0) 3) _ _ (s and r) (chosen (eqb (get_or mode 0 0) 4) _ _ (r and s) s)

-- ---- a tree

free : (c : Context) (place : Place) (shown : Bool) (tree : Tree) → PlacePassed place → first_refusal tree ≡ no_refusal → Free (events_in c place shown tree)
unfolding events_in first_refusal
free c place shown absent closed e = none
free c place shown (refused refusal) closed e = failed_passed e
free c place shown (node offset trivia tree) closed e = chosen shown _ _ (trivia_free c trivia) none and free c place true tree closed e
free c place shown nil closed e = end_free c place closed
free c place shown (cons item items) closed e =
    let p = both_passed (first_refusal item) (first_refusal items) e in
    item_free c place closed item p.0 _ _ (free c (leaf plain) false item tt p.0) (free c place true item closed p.0)
    _ (λ next shut. free c next true items shut p.1)
free c place shown (Align tag value) closed e =
    let p = both_passed (first_refusal tag) (first_refusal value) e in
    free c (leaf plain) false tag tt p.0 and pushes and free c (leaf plain) true value tt p.1
free c place shown (Assert tag value message) closed e =
    let p = three (first_refusal tag) (first_refusal value) (first_refusal message) e in
    free c (leaf plain) false tag tt p.0 and pushes and free c (leaf plain) true value tt p.1.0 and spaces and free c (leaf plain) true message tt p.1.1
free c place shown (Braces block) closed e = free c (leaf plain) true block tt e
free c place shown (Config block) closed e = free c (leaf plain) true block tt e
free c place shown (ConfigPair key eq value) closed e =
    let p = three (first_refusal key) (first_refusal eq) (first_refusal value) e in
    free c (leaf plain) false key tt p.0 and pushes and free c (leaf plain) true eq tt p.1.0 and pushes and free c (leaf plain) true value tt p.1.1
free c place shown (Data values size) closed e =
    let p = both_passed (first_refusal values) (first_refusal size) e in
    skip_free values p.0 and free c (leaf data_size) false size tt p.1 and pushes and free c arguments true values tt p.0
free c place shown (Definition tag id value) closed e =
    let p = three (first_refusal tag) (first_refusal id) (first_refusal value) e in
    free c (leaf plain) false tag tt p.0 and pushes and free c (leaf plain) true id tt p.1.0 and pushes and free c (leaf plain) true value tt p.1.1
free c place shown (Eof unit) closed e = skip_free unit e
free c place shown (Error text) closed e = free c (leaf plain) false text tt e
free c place shown (Expression expression) closed e = free c (leaf plain) true expression tt e
free c place shown (If tag_if value then tag_else otherwise) closed e =
    let p = five (first_refusal tag_if) (first_refusal value) (first_refusal then) (first_refusal tag_else) (first_refusal otherwise) e in
    free c (leaf plain) false tag_if tt p.0 and pushes and free c (leaf plain) true value tt p.1.0 and pushes and free c (leaf plain) true then tt p.1.1.0
    and chosen (stands tag_else) _ _ (else_free c c.options.braces.position _ _ (free c (leaf plain) true tag_else tt p.1.1.1.0) (free c (leaf plain) true otherwise tt p.1.1.1.1)) none
free c place shown (Import tag args source filename block) closed e =
    let p = five (first_refusal tag) (first_refusal args) (first_refusal source) (first_refusal filename) (first_refusal block) e in
    free c (leaf plain) false tag tt p.0 and pushes and free c imports true args tt p.1.0 and pushes and free c (leaf plain) true source tt p.1.1.0
    and pushes and free c (leaf plain) true filename tt p.1.1.1.0 and spaces and free c (leaf plain) true block tt p.1.1.1.1
free c place shown (File tag filename) closed e =
    let p = both_passed (first_refusal tag) (first_refusal filename) e in
    free c (leaf plain) false tag tt p.0 and pushes and free c (leaf plain) true filename tt p.1
free c place shown (Instruction mnemonic' operand) closed e =
    let p = both_passed (first_refusal mnemonic') (first_refusal operand) e in
    free c (leaf mnemonic) false mnemonic' tt p.0 and spaces and free c (leaf plain) true operand tt p.1 and clears
free c place shown (Label id colon block) closed e =
    let p = three (first_refusal id) (first_refusal colon) (first_refusal block) e in
    free c labelled false id tt p.0 and skip_free colon p.1.0 and free c (leaf plain) true block tt p.1.1
free c place shown (Loop tag expr block) closed e =
    let p = three (first_refusal tag) (first_refusal expr) (first_refusal block) e in
    free c (leaf plain) false tag tt p.0 and pushes and free c (leaf plain) true expr tt p.1.0 and pushes and free c (leaf plain) true block tt p.1.1
free c place shown (MacroDefinition tag id lparen args rparen block) closed e =
    let p = six (first_refusal tag) (first_refusal id) (first_refusal lparen) (first_refusal args) (first_refusal rparen) (first_refusal block) e in
    free c (leaf plain) false tag tt p.0 and pushes and free c (leaf plain) true id tt p.1.0 and free c (leaf plain) true lparen tt p.1.1.0
    and free c arguments true args tt p.1.1.1.0 and free c (leaf plain) true rparen tt p.1.1.1.1.0 and spaces
    and free c (leaf plain) true block tt p.1.1.1.1.1
free c place shown (MacroInvocation id lparen args rparen) closed e =
    let p = four (first_refusal id) (first_refusal lparen) (first_refusal args) (first_refusal rparen) e in
    free c (leaf plain) false id tt p.0 and free c (leaf plain) true lparen tt p.1.0 and free c arguments true args tt p.1.1.0
    and free c (leaf plain) true rparen tt p.1.1.1
free c place shown (ProgramCounterDefinition star eq value) closed e =
    let p = three (first_refusal star) (first_refusal eq) (first_refusal value) e in
    free c (leaf plain) false star tt p.0 and pushes and free c (leaf plain) true eq tt p.1.0 and pushes and free c (leaf plain) true value tt p.1.1
free c place shown (Segment tag id block) closed e =
    let p = three (first_refusal tag) (first_refusal id) (first_refusal block) e in
    free c (leaf plain) false tag tt p.0 and pushes and free c (leaf plain) true id tt p.1.0 and pushes and free c (leaf plain) true block tt p.1.1
free c place shown (Test tag id block) closed e =
    let p = three (first_refusal tag) (first_refusal id) (first_refusal block) e in
    free c (leaf plain) false tag tt p.0 and spaces and free c (leaf plain) true id tt p.1.0 and spaces and free c (leaf plain) true block tt p.1.1
free c place shown (Text tag encoding' text) closed e =
    let p = three (first_refusal tag) (first_refusal encoding') (first_refusal text) e in
    free c (leaf plain) false tag tt p.0 and spaces and free c (leaf encoding) true encoding' tt p.1.0 and spaces and free c (leaf plain) true text tt p.1.1
free c place shown (Trace tag lparen args rparen) closed e =
    let p = four (first_refusal tag) (first_refusal lparen) (first_refusal args) (first_refusal rparen) e in
    free c (leaf plain) false tag tt p.0 and spaces and free c (leaf plain) true lparen tt p.1.0 and free c arguments true args tt p.1.1.0
    and free c (leaf plain) true rparen tt p.1.1.1
free c place shown (VariableDefinition ty id eq value) closed e =
    let p = four (first_refusal ty) (first_refusal id) (first_refusal eq) (first_refusal value) e in
    free c (leaf variable_type) false ty tt p.0 and pushes and free c (leaf plain) true id tt p.1.0 and pushes and free c (leaf plain) true eq tt p.1.1.0
    and pushes and free c (leaf plain) true value tt p.1.1.1
free c place shown (Vec items) closed e = free c place true items closed e
free c place shown (Leaf text) closed e = leaf_free c place text
free c place shown (PathItem text) closed e = pushes and pushes and pushes
free c place shown (Block lparen inner rparen) closed e =
    let p = three (first_refusal lparen) (first_refusal inner) (first_refusal rparen) e in
    opening_free c c.options.braces.position _ (free c (leaf plain) false lparen tt p.0)
    and free (deeper c) (tokens true first (block_end rparen)) true inner (own_passed rparen p.1.1) p.1.0 and trims and pushes
    and free c (leaf plain) false rparen tt p.1.1
free c place shown (BinaryExpression op lhs rhs) closed e =
    let p = three (first_refusal op) (first_refusal lhs) (first_refusal rhs) e in
    skip_free op p.0 and free c (leaf plain) true lhs tt p.1.0 and pushes and free c (leaf operator) true op tt p.0 and pushes
    and free c (leaf plain) true rhs tt p.1.1
free c place shown (Factor factor tag_not tag_neg) closed e =
    let p = three (first_refusal factor) (first_refusal tag_not) (first_refusal tag_neg) e in
    chosen (stands tag_not || stands tag_neg) _ _ (skip_free factor p.0) none and free c (leaf plain) true tag_not tt p.1.0
    and free c (leaf plain) true tag_neg tt p.1.1 and free c (leaf plain) true factor tt p.0
free c place shown (CurrentProgramCounter star) closed e = free c (leaf plain) true star tt e
free c place shown (ExprParens lparen inner rparen) closed e =
    let p = three (first_refusal lparen) (first_refusal inner) (first_refusal rparen) e in
    free c (leaf plain) true lparen tt p.0 and free c (leaf plain) true inner tt p.1.0 and free c (leaf plain) true rparen tt p.1.1
free c place shown (FunctionCall name lparen args rparen) closed e =
    let p = four (first_refusal name) (first_refusal lparen) (first_refusal args) (first_refusal rparen) e in
    free c (leaf plain) true name tt p.0 and free c (leaf plain) true lparen tt p.1.0 and free c arguments true args tt p.1.1.0
    and free c (leaf plain) true rparen tt p.1.1.1
free c place shown (IdentifierValue path modifier') closed e =
    let p = both_passed (first_refusal path) (first_refusal modifier') e in
    chosen (stands modifier') _ _ (skip_free path p.0) none and free c (leaf modifier) true modifier' tt p.1 and free c (leaf plain) true path tt p.0
free c place shown (Number ty value) closed e =
    let p = both_passed (first_refusal ty) (first_refusal value) e in
    free c (leaf number_type) true ty tt p.0 and free c (leaf plain) true value tt p.1
free c place shown (StringFactor string) closed e = free c (leaf plain) true string tt e
free c place shown (InterpolatedString lquote items) closed e =
    let p = both_passed (first_refusal lquote) (first_refusal items) e in
    free c (leaf plain) true lquote tt p.0 and free c in_string true items tt p.1 and pushes
free c place shown (Operand expr lchar rchar mode suffix) closed e =
    let p = five (first_refusal expr) (first_refusal lchar) (first_refusal rchar) (first_refusal mode) (first_refusal suffix) e in
    chosen (stands lchar) _ _ (skip_free expr p.0) none and free c (leaf plain) true lchar tt p.1.0 and free c (leaf plain) true expr tt p.0
    and skip_free rchar p.1.1.0 and skip_free mode p.1.1.1.0
    and operand_free (index_of mode) _ _ (free c (leaf plain) true rchar tt p.1.1.0) (free c (leaf plain) true suffix tt p.1.1.1.1)
free c place shown (RegisterSuffix comma register') closed e =
    let p = both_passed (first_refusal comma) (first_refusal register') e in
    free c (leaf plain) true comma tt p.0 and spaces and free c (leaf register) true register' tt p.1 and clears
free c place shown (ImportAs tag path) closed e =
    let p = both_passed (first_refusal tag) (first_refusal path) e in
    free c (leaf plain) true tag tt p.0 and pushes and free c (leaf plain) true path tt p.1
free c place shown (ImportAll star alias) closed e =
    let p = both_passed (first_refusal star) (first_refusal alias) e in
    free c (leaf plain) true star tt p.0 and spaces and free c (leaf plain) true alias tt p.1 and clears
free c place shown (SpecificImportArg path alias) closed e =
    let p = both_passed (first_refusal path) (first_refusal alias) e in
    free c (leaf plain) true path tt p.0 and spaces and free c (leaf plain) true alias tt p.1
free c place shown (ArgItem value comma) closed e =
    let p = both_passed (first_refusal value) (first_refusal comma) e in
    free c (leaf plain) (value_shown place) value tt p.0 and free c (leaf plain) true comma tt p.1 and spaces

-- a file that passed
pub file_free : (bytes : List ℕ) (options : FormattingOptions) → batch_checked bytes ≡ no_refusal → Free (file_events options bytes)
file_free bytes options passed =
    let file = file_passed 65535 64 bytes passed in
    free (record { options = options; indent = 0 }) (tokens false first file_end) true (read_file 64 bytes).tree tt (read_refusal 64 bytes Tokens 0 ∙ file.layout)
