-- What every text of a tree has, every text that its events push has, with an indent that a chunk may have.
--   file_push : .. EveryPush P (events_of (record { options = options; indent = 0 }) (read_file levels bytes).tree)
use Rattle.std.specs.Prelude.{Ok, Err}
use Rattle.answers.specs.Numbers.{Checked}
use mathlib.Core.Path.{◌≡◌, refl}
use mathlib.Core.List.{List, [], ◌∷◌, ◌++◌, map}
use mathlib.Core.Bool.{Bool, true, false, cond, not, ◌&&◌, ◌||◌}
use Prim.Native.Nat.{ℕ, zero, suc, ◌+◌, ◌-◌, ◌*◌, ◌≤◌}
use Prim.Native.String.{String}
use native.Mathlib.Omega.{arith}
use lib.ListN.{length, get_or, length-map}
use lib.Dec.{eqb, leb}
use borrow.Author.Tests.{leb-true, le-leb}
use Rattle.answers.specs.declared.Refusal.{Refusal}
use Rattle.options.specs.Casings.{cased_byte, cased}
use Rattle.options.specs.declared.Casing.{Casing}
use Rattle.options.specs.declared.Casing.TheVariants.{Uppercase, Lowercase}
use Rattle.options.specs.declared.BracePosition.{BracePosition}
use Rattle.options.specs.declared.BracePosition.TheVariants.{SameLine, NewLine}
use Rattle.options.specs.declared.FormattingOptions.{FormattingOptions}
use Rattle.text.specs.Accepted.{accepted_byte, accepted_text}
use Rattle.text.proofs.Choices.{cond_both, and_true_left, and_true_right}
use Rattle.chunks.specs.declared.stored.ChunkType.{ChunkType}
use Rattle.tree.specs.Tree.{Tree, Trivium, absent, refused, node, nil, cons, Align, Assert, Braces, Config, ConfigPair, Data, Definition, Eof, Error}
use Rattle.tree.specs.Tree.{Expression, If, Import, File, Instruction, Label, Loop, MacroDefinition, MacroInvocation, ProgramCounterDefinition}
use Rattle.tree.specs.Tree.{Segment, Test, Text, Trace, VariableDefinition, Vec, Leaf, PathItem, Block, BinaryExpression, Factor}
use Rattle.tree.specs.Tree.{CurrentProgramCounter, ExprParens, FunctionCall, IdentifierValue, Number, StringFactor, InterpolatedString, Operand}
use Rattle.tree.specs.Tree.{RegisterSuffix, ImportAs, ImportAll, SpecificImportArg, ArgItem}
use Rattle.tree.specs.Measures.{nesting}
use Rattle.tree.specs.Checking.{read_file}
use Rattle.tree.specs.declared.grammar.Class.TheVariants.{Tokens}
use Rattle.tree.proofs.Bounds.{read_nesting}
use Rattle.printing.specs.Events.{Events, nothing, push, space, clear, trim, stop, ◌▹◌}
use Rattle.printing.specs.declared.Context.{Context}
use Rattle.events.specs.Printed.{Style, plain, mnemonic, register, operator, data_size, encoding, variable_type, number_type, modifier, ascii}
use Rattle.events.specs.Printed.{mnemonics, registers, operators, data_sizes, encodings, variable_types, number_types, modifiers, printed}
use Rattle.events.specs.Views.{own_trivia, head_trivia, token_number, stands, has_block, index_of}
use Rattle.events.specs.Refusals.{first_refusal, own_refusal, head_refusal}
use Rattle.events.specs.Trees.{stop_at, skipping, word, trivium_events, trivia_events, only_newline, lead_events, list_trivia, after_same, after_other, Before, first}
use Rattle.events.specs.Trees.{behind, break_before, Closing, file_end, block_end, Place, leaf, labelled, arguments, imports, in_string, tokens}
use Rattle.events.specs.Trees.{closing_events, end_events, item_events, leaf_events, value_shown, opening, else_events, operand_events, events_in}
use Rattle.events.specs.Trees.{events_of}
use Rattle.events.proofs.Texts.{EveryTrivia, EveryText, own_trivia_lem, head_trivia_lem, Holds, read_texts}

-- each push has an indent that a chunk may have, and a text of which P holds
infixr 50 ◌and◌
pub data EveryPush (P : List ℕ → Type 0) : Events → Type 0 where
  none : EveryPush P nothing
  pushes : {ty : ChunkType} {context : Context} {text : List ℕ} → context.indent ≤ 4096 → P text → EveryPush P (push ty context text)
  spaces : EveryPush P space
  clears : EveryPush P clear
  trims : EveryPush P trim
  stops : {why : Refusal} → EveryPush P (stop why)
  ◌and◌ : {first next : Events} → EveryPush P first → EveryPush P next → EveryPush P (first ▹ next)

-- ---- what the tables print

-- a text of at most nine bytes, all accepted: the longest of the tables is that of the encoding `petscreen`
abbrev pub Small : List ℕ → Type 0
Small text = (length text ≤ 9) × (accepted_text text ≡ true)

-- the empty text is one
empty_small : Small []
unfolding accepted_text
empty_small = (omega arith, refl)

-- the test of it
abbrev is_small : List ℕ → Bool
is_small text = leb (length text) 9 && accepted_text text

abbrev all_small : List String → Bool
all_small [] = true
all_small (text ∷ texts) = is_small (ascii text) && all_small texts

-- each entry of a table of such texts is one
entry_small : (table : List String) → all_small table ≡ true → (index : ℕ) → Small (ascii (get_or table index ""))
unfolding ascii
entry_small [] all index = empty_small
entry_small (text ∷ texts) all zero =
    let e = and_true_left (is_small (ascii text)) (all_small texts) all in
    (leb-true (length (ascii text)) 9 (and_true_left _ _ e), and_true_right (leb (length (ascii text)) 9) _ e)
entry_small (text ∷ texts) all (suc index) = entry_small texts (and_true_right (is_small (ascii text)) (all_small texts) all) index

-- a casing keeps a byte accepted
cased_byte_lem : (casing : Casing) (b : ℕ) → accepted_byte b ≡ true → accepted_byte (cased_byte casing b) ≡ true
unfolding accepted_byte
cased_byte_lem Uppercase b e =
    cond_both (λ (c : ℕ). leb c 127 ≡ true) (leb 97 b && leb b 122) _ _ (λ q. le-leb (b - 32) 127 (omega (arith, leb-true b 127 e))) (λ q. e)
cased_byte_lem Lowercase b e =
    cond_both (λ (c : ℕ). leb c 127 ≡ true) (leb 65 b && leb b 90) _ _
    (λ q. le-leb (b + 32) 127 (omega (arith, leb-true b 90 (and_true_right (leb 65 b) (leb b 90) q)))) (λ q. e)

-- and a text
cased_accepted : (casing : Casing) (text : List ℕ) → accepted_text text ≡ true → accepted_text (map (cased_byte casing) text) ≡ true
unfolding accepted_text
cased_accepted casing [] e = refl
cased_accepted casing (b ∷ text) e =
    rw (cased_byte_lem casing b (and_true_left _ _ e)) (cased_accepted casing text (and_true_right (accepted_byte b) _ e))

-- and a text small
cased_small : (casing : Casing) (text : List ℕ) → Small text → Small (cased casing text)
unfolding cased
cased_small casing text e = (omega (arith, length-map text (cased_byte casing), e.0), cased_accepted casing text e.1)

-- the tables have only such texts
tables_small : (all_small mnemonics ≡ true) × (all_small registers ≡ true) × (all_small operators ≡ true) × (all_small data_sizes ≡ true)
    × (all_small encodings ≡ true) × (all_small variable_types ≡ true) × (all_small number_types ≡ true) × (all_small modifiers ≡ true)
unfolding ascii accepted_text accepted_byte mnemonics registers operators data_sizes encodings variable_types number_types modifiers
tables_small = (refl, refl, refl, refl, refl, refl, refl, refl)

-- what holds of small texts and of a leaf's text holds of what the leaf prints
printed_text : (P : List ℕ → Type 0) → ((text : List ℕ) → Small text → P text)
    → (context : Context) (style : Style) (text : List ℕ) → P text → P (printed context style text)
unfolding printed cased
printed_text P each context plain text own = own
printed_text P each context mnemonic [] own = own
printed_text P each context mnemonic (index ∷ rest) own =
    each _ (cased_small context.options.mnemonics.casing (ascii (get_or mnemonics index "")) (entry_small mnemonics tables_small.0 index))
printed_text P each context register [] own = own
printed_text P each context register (index ∷ rest) own =
    each _ (cased_small context.options.mnemonics.register_casing (ascii (get_or registers index "")) (entry_small registers tables_small.1 index))
printed_text P each context operator [] own = each [] empty_small
printed_text P each context operator (index ∷ rest) own = each _ (entry_small operators tables_small.2 index)
printed_text P each context data_size [] own = each [] empty_small
printed_text P each context data_size (index ∷ rest) own = each _ (entry_small data_sizes tables_small.3 index)
printed_text P each context encoding [] own = each [] empty_small
printed_text P each context encoding (index ∷ rest) own = each _ (entry_small encodings tables_small.4 index)
printed_text P each context variable_type [] own = each [] empty_small
printed_text P each context variable_type (index ∷ rest) own = each _ (entry_small variable_types tables_small.5 index)
printed_text P each context number_type [] own = each [] empty_small
printed_text P each context number_type (index ∷ rest) own = each _ (entry_small number_types tables_small.6 index)
printed_text P each context modifier [] own = each [] empty_small
printed_text P each context modifier (index ∷ rest) own = each _ (entry_small modifiers tables_small.7 index)

-- ---- where a tree stands

-- the context of a tree that is so far in
abbrev inside : FormattingOptions → ℕ → Context
inside options n = record { options = options; indent = n }

-- of the trivia that close a token list the same holds
abbrev ClosingTexts : (List ℕ → Type 0) → Closing → Type 0
ClosingTexts Q file_end = Unit
ClosingTexts Q (block_end rparen) = EveryTrivia Q (own_trivia rparen)

abbrev PlaceTexts : (List ℕ → Type 0) → Place → Type 0
PlaceTexts Q (leaf style) = Unit
PlaceTexts Q labelled = Unit
PlaceTexts Q arguments = Unit
PlaceTexts Q imports = Unit
PlaceTexts Q in_string = Unit
PlaceTexts Q (tokens drops before closing) = ClosingTexts Q closing

-- Q holds of the texts of a tree; P holds of small texts, of those of which Q holds, and of these with a colon
module _ (Q P : List ℕ → Type 0)
    (each : (text : List ℕ) → Small text → P text)
    (given : (text : List ℕ) → Q text → P text)
    (colon : (text : List ℕ) → Q text → P (text ++ (58 ∷ [])))
    (options : FormattingOptions) (narrow : options.whitespace.indent ≤ 64)
  where
    -- a byte that the walk adds
    one : (n b : ℕ) → n ≤ 4096 → accepted_byte b ≡ true → EveryPush P (word (inside options n) (b ∷ []))
    unfolding accepted_text
    one n b low fine = pushes low (each (b ∷ []) (omega arith, rw fine))

    -- what is chosen either way
    chosen : (test : Bool) (some others : Events) → EveryPush P some → EveryPush P others → EveryPush P (cond test some others)
    chosen test some others s o = cond_both (EveryPush P) test some others (λ t. s) (λ t. o)

    -- a refusal that a reading may have found
    stop_push : (found : Checked) → EveryPush P (stop_at found)
    stop_push (Ok tt) = none
    stop_push (Err why) = stops

    -- a field that is skipped
    skip_push : (tree : Tree) → EveryPush P (skipping tree)
    skip_push tree = stop_push (first_refusal tree)

    -- ---- trivia

    -- an item
    trivium_push : (n : ℕ) → n ≤ 4096 → (item : Trivium) → Q item.text → EveryPush P (trivium_events (inside options n) item)
    unfolding accepted_byte
    trivium_push n low item text =
        chosen (eqb item.code 0) _ _ none (chosen (eqb item.code 1) _ _ (one n 10 low refl) (pushes low (given item.text text)))

    -- items in stored order
    trivia_push : (n : ℕ) → n ≤ 4096 → (trivia : List Trivium) → EveryTrivia Q trivia → EveryPush P (trivia_events (inside options n) trivia)
    unfolding EveryTrivia trivia_events
    trivia_push n low [] texts = none
    trivia_push n low (item ∷ items) texts = trivium_push n low item texts.0 and trivia_push n low items texts.1

    -- those first in a block
    lead_push : (n : ℕ) → n ≤ 4096 → (trivia : List Trivium) → EveryTrivia Q trivia → EveryPush P (lead_events (inside options n) trivia)
    unfolding EveryTrivia lead_events
    lead_push n low [] texts = none
    lead_push n low (item ∷ items) texts =
        chosen (only_newline item) _ _ (lead_push n low items texts.1) (trivium_push n low item texts.0 and trivia_push n low items texts.1)

    -- those before a token of a list
    list_push : (n : ℕ) → n ≤ 4096 → (drops : Bool) (trivia : List Trivium) → EveryTrivia Q trivia → EveryPush P (list_trivia (inside options n) drops trivia)
    list_push n low true trivia texts = lead_push n low trivia texts
    list_push n low false trivia texts = trivia_push n low trivia texts

    -- ---- lists

    -- the newline before a token
    break_push : (n : ℕ) → n ≤ 4096 → (before : Before) (number : ℕ) (block : Bool) → EveryPush P (break_before (inside options n) before number block)
    unfolding accepted_byte
    break_push n low first number block = none
    break_push n low (behind previous) number block =
        chosen (not (eqb number 8) && cond (eqb previous number) (after_same number block) (after_other previous number block)) _ _ (one n 10 low refl) none

    -- the end of a token list
    closing_push : (n : ℕ) → n ≤ 4096 → (drops : Bool) (before : Before) (closing : Closing) → ClosingTexts Q closing
        → EveryPush P (closing_events (inside options n) drops before closing)
    closing_push n low drops before file_end closed = none
    closing_push n low drops before (block_end rparen) closed =
        stop_push (own_refusal rparen) and list_push n low drops (own_trivia rparen) closed and break_push n low before 7 false

    -- the end of a list
    end_push : (n : ℕ) → n ≤ 4096 → (place : Place) → PlaceTexts Q place → EveryPush P (end_events (inside options n) place)
    end_push n low (leaf style) closed = none
    end_push n low labelled closed = none
    end_push n low arguments closed = clears
    end_push n low imports closed = clears
    end_push n low in_string closed = none
    end_push n low (tokens drops before closing) closed = closing_push n low drops before closing closed

    -- an item, and those behind it
    item_push : (n : ℕ) → n ≤ 4096 → (place : Place) → PlaceTexts Q place → (item : Tree) → EveryText Q item
        → (bare whole : Events) → EveryPush P bare → EveryPush P whole
        → (rest : Place → Events) → ((next : Place) → PlaceTexts Q next → EveryPush P (rest next))
        → EveryPush P (item_events (inside options n) place item bare whole rest)
    item_push n low (leaf style) closed item texts bare whole b w rest r = w and r (leaf style) tt
    item_push n low labelled closed item texts bare whole b w rest r = w and r labelled tt
    item_push n low arguments closed item texts bare whole b w rest r = w and r arguments tt
    item_push n low imports closed item texts bare whole b w rest r = w and r imports tt
    item_push n low in_string closed item texts bare whole b w rest r = b and r in_string tt
    item_push n low (tokens drops before closing) closed item texts bare whole b w rest r =
        stop_push (head_refusal item) and list_push n low drops (head_trivia item) (head_trivia_lem Q item texts) and break_push n low before (token_number item) (has_block item)
        and b and r (tokens false (behind (token_number item)) closing) closed

    -- ---- leaves, and what surrounds blocks and operands

    -- a leaf
    leaf_push : (n : ℕ) → n ≤ 4096 → (place : Place) (text : List ℕ) → Q text → EveryPush P (leaf_events (inside options n) place text)
    leaf_push n low (leaf style) text own = pushes low (printed_text P each (inside options n) style text (given text own))
    leaf_push n low labelled text own = pushes low (colon text own)
    leaf_push n low arguments text own = pushes low (given text own)
    leaf_push n low imports text own = pushes low (given text own)
    leaf_push n low in_string text own = pushes low (given text own)
    leaf_push n low (tokens drops before closing) text own = pushes low (given text own)

    -- the opening brace
    opening_push : (n : ℕ) → n ≤ 4096 → (position : BracePosition) (brace : Events) → EveryPush P brace → EveryPush P (opening (inside options n) position brace)
    unfolding accepted_byte
    opening_push n low SameLine brace b = b and one n 10 low refl
    opening_push n low NewLine brace b = one n 10 low refl and b and one n 10 low refl

    -- `else` and its block
    else_push : (n : ℕ) → n ≤ 4096 → (position : BracePosition) (tag block : Events) → EveryPush P tag → EveryPush P block
        → EveryPush P (else_events (inside options n) position tag block)
    unfolding accepted_byte
    else_push n low SameLine tag block t b = one n 32 low refl and t and one n 32 low refl and b
    else_push n low NewLine tag block t b = one n 10 low refl and t and b

    -- what stands behind an operand
    operand_push : (mode : List ℕ) (rchar suffix : Events) → EveryPush P rchar → EveryPush P suffix → EveryPush P (operand_events mode rchar suffix)
    operand_push mode rchar suffix r s = chosen (eqb (get_or mode 0 0) 3) _ _ (s and r) (chosen (eqb (get_or mode 0 0) 4) _ _ (r and s) s)

    -- ---- a tree: each block in it is at most 64 further in
    events_push : (n : ℕ) (place : Place) (shown : Bool) (tree : Tree) → PlaceTexts Q place → EveryText Q tree → n + 64 * nesting tree ≤ 4096
        → EveryPush P (events_in (inside options n) place shown tree)
    unfolding events_in EveryText nesting accepted_byte
    events_push n place shown absent closed texts room = none
    events_push n place shown (refused refusal) closed texts room = stops
    events_push n place shown (node offset trivia tree) closed texts room =
        chosen shown _ _ (trivia_push n (omega arith) trivia texts.0) none and events_push n place true tree closed texts.1 room
    events_push n place shown nil closed texts room = end_push n (omega arith) place closed
    events_push n place shown (cons item items) closed texts room =
        item_push n (omega arith) place closed item texts.0 _ _
        (events_push n (leaf plain) false item tt texts.0 (omega arith)) (events_push n place true item closed texts.0 (omega arith))
        _ (λ next shut. events_push n next true items shut texts.1 (omega arith))
    events_push n place shown (Align tag value) closed texts room =
        let low : n ≤ 4096 = omega arith in
        events_push n (leaf plain) false tag tt texts.0 (omega arith) and one n 32 low refl
        and events_push n (leaf plain) true value tt texts.1 (omega arith)
    events_push n place shown (Assert tag value message) closed texts room =
        let low : n ≤ 4096 = omega arith in
        events_push n (leaf plain) false tag tt texts.0 (omega arith) and one n 32 low refl
        and events_push n (leaf plain) true value tt texts.1 (omega arith) and spaces
        and events_push n (leaf plain) true message tt texts.2 (omega arith)
    events_push n place shown (Braces block) closed texts room = events_push n (leaf plain) true block tt texts room
    events_push n place shown (Config block) closed texts room = events_push n (leaf plain) true block tt texts room
    events_push n place shown (ConfigPair key eq value) closed texts room =
        let low : n ≤ 4096 = omega arith in
        events_push n (leaf plain) false key tt texts.0 (omega arith) and one n 32 low refl
        and events_push n (leaf plain) true eq tt texts.1 (omega arith) and one n 32 low refl
        and events_push n (leaf plain) true value tt texts.2 (omega arith)
    events_push n place shown (Data values size) closed texts room =
        let low : n ≤ 4096 = omega arith in
        skip_push values and events_push n (leaf data_size) false size tt texts.1 (omega arith) and one n 32 low refl
        and events_push n arguments true values tt texts.0 (omega arith)
    events_push n place shown (Definition tag id value) closed texts room =
        let low : n ≤ 4096 = omega arith in
        events_push n (leaf plain) false tag tt texts.0 (omega arith) and one n 32 low refl
        and events_push n (leaf plain) true id tt texts.1 (omega arith) and one n 32 low refl
        and events_push n (leaf plain) true value tt texts.2 (omega arith)
    events_push n place shown (Eof unit) closed texts room = skip_push unit
    events_push n place shown (Error text) closed texts room = events_push n (leaf plain) false text tt texts room
    events_push n place shown (Expression expression) closed texts room = events_push n (leaf plain) true expression tt texts room
    events_push n place shown (If tag_if value then tag_else otherwise) closed texts room =
        let low : n ≤ 4096 = omega arith in
        events_push n (leaf plain) false tag_if tt texts.0 (omega arith) and one n 32 low refl
        and events_push n (leaf plain) true value tt texts.1 (omega arith) and one n 32 low refl
        and events_push n (leaf plain) true then tt texts.2 (omega arith)
        and chosen (stands tag_else) _ _
        (else_push n low options.braces.position _ _ (events_push n (leaf plain) true tag_else tt texts.3 (omega arith))
        (events_push n (leaf plain) true otherwise tt texts.4 (omega arith))) none
    events_push n place shown (Import tag args source filename block) closed texts room =
        let low : n ≤ 4096 = omega arith in
        events_push n (leaf plain) false tag tt texts.0 (omega arith) and one n 32 low refl and events_push n imports true args tt texts.1 (omega arith)
        and one n 32 low refl and events_push n (leaf plain) true source tt texts.2 (omega arith) and one n 32 low refl
        and events_push n (leaf plain) true filename tt texts.3 (omega arith) and spaces
        and events_push n (leaf plain) true block tt texts.4 (omega arith)
    events_push n place shown (File tag filename) closed texts room =
        let low : n ≤ 4096 = omega arith in
        events_push n (leaf plain) false tag tt texts.0 (omega arith) and one n 32 low refl
        and events_push n (leaf plain) true filename tt texts.1 (omega arith)
    events_push n place shown (Instruction mnemonic' operand) closed texts room =
        events_push n (leaf mnemonic) false mnemonic' tt texts.0 (omega arith) and spaces
        and events_push n (leaf plain) true operand tt texts.1 (omega arith) and clears
    events_push n place shown (Label id colon block) closed texts room =
        events_push n labelled false id tt texts.0 (omega arith) and skip_push colon and events_push n (leaf plain) true block tt texts.2 (omega arith)
    events_push n place shown (Loop tag expr block) closed texts room =
        let low : n ≤ 4096 = omega arith in
        events_push n (leaf plain) false tag tt texts.0 (omega arith) and one n 32 low refl
        and events_push n (leaf plain) true expr tt texts.1 (omega arith) and one n 32 low refl
        and events_push n (leaf plain) true block tt texts.2 (omega arith)
    events_push n place shown (MacroDefinition tag id lparen args rparen block) closed texts room =
        let low : n ≤ 4096 = omega arith in
        events_push n (leaf plain) false tag tt texts.0 (omega arith) and one n 32 low refl
        and events_push n (leaf plain) true id tt texts.1 (omega arith) and events_push n (leaf plain) true lparen tt texts.2 (omega arith)
        and events_push n arguments true args tt texts.3 (omega arith) and events_push n (leaf plain) true rparen tt texts.4 (omega arith) and spaces
        and events_push n (leaf plain) true block tt texts.5 (omega arith)
    events_push n place shown (MacroInvocation id lparen args rparen) closed texts room =
        events_push n (leaf plain) false id tt texts.0 (omega arith) and events_push n (leaf plain) true lparen tt texts.1 (omega arith)
        and events_push n arguments true args tt texts.2 (omega arith) and events_push n (leaf plain) true rparen tt texts.3 (omega arith)
    events_push n place shown (ProgramCounterDefinition star eq value) closed texts room =
        let low : n ≤ 4096 = omega arith in
        events_push n (leaf plain) false star tt texts.0 (omega arith) and one n 32 low refl
        and events_push n (leaf plain) true eq tt texts.1 (omega arith) and one n 32 low refl
        and events_push n (leaf plain) true value tt texts.2 (omega arith)
    events_push n place shown (Segment tag id block) closed texts room =
        let low : n ≤ 4096 = omega arith in
        events_push n (leaf plain) false tag tt texts.0 (omega arith) and one n 32 low refl
        and events_push n (leaf plain) true id tt texts.1 (omega arith) and one n 32 low refl
        and events_push n (leaf plain) true block tt texts.2 (omega arith)
    events_push n place shown (Test tag id block) closed texts room =
        events_push n (leaf plain) false tag tt texts.0 (omega arith) and spaces and events_push n (leaf plain) true id tt texts.1 (omega arith)
        and spaces and events_push n (leaf plain) true block tt texts.2 (omega arith)
    events_push n place shown (Text tag encoding' text) closed texts room =
        events_push n (leaf plain) false tag tt texts.0 (omega arith) and spaces
        and events_push n (leaf encoding) true encoding' tt texts.1 (omega arith) and spaces
        and events_push n (leaf plain) true text tt texts.2 (omega arith)
    events_push n place shown (Trace tag lparen args rparen) closed texts room =
        events_push n (leaf plain) false tag tt texts.0 (omega arith) and spaces and events_push n (leaf plain) true lparen tt texts.1 (omega arith)
        and events_push n arguments true args tt texts.2 (omega arith) and events_push n (leaf plain) true rparen tt texts.3 (omega arith)
    events_push n place shown (VariableDefinition ty id eq value) closed texts room =
        let low : n ≤ 4096 = omega arith in
        events_push n (leaf variable_type) false ty tt texts.0 (omega arith) and one n 32 low refl
        and events_push n (leaf plain) true id tt texts.1 (omega arith) and one n 32 low refl
        and events_push n (leaf plain) true eq tt texts.2 (omega arith) and one n 32 low refl
        and events_push n (leaf plain) true value tt texts.3 (omega arith)
    events_push n place shown (Vec items) closed texts room = events_push n place true items closed texts room
    events_push n place shown (Leaf text) closed texts room =
        let low : n ≤ 4096 = omega arith in
        leaf_push n low place text texts
    events_push n place shown (PathItem text) closed texts room =
        let low : n ≤ 4096 = omega arith in
        one n 123 low refl and pushes low (given text texts) and one n 125 low refl
    events_push n place shown (Block lparen inner rparen) closed texts room =
        let low : n ≤ 4096 = omega arith in
        opening_push n low options.braces.position _ (events_push n (leaf plain) false lparen tt texts.0 (omega arith))
        and events_push (n + options.whitespace.indent) (tokens true first (block_end rparen)) true inner (own_trivia_lem Q rparen texts.2) texts.1 (omega arith)
        and trims and one n 10 low refl and events_push n (leaf plain) false rparen tt texts.2 (omega arith)
    events_push n place shown (BinaryExpression op lhs rhs) closed texts room =
        let low : n ≤ 4096 = omega arith in
        skip_push op and events_push n (leaf plain) true lhs tt texts.1 (omega arith) and one n 32 low refl
        and events_push n (leaf operator) true op tt texts.0 (omega arith) and one n 32 low refl
        and events_push n (leaf plain) true rhs tt texts.2 (omega arith)
    events_push n place shown (Factor factor tag_not tag_neg) closed texts room =
        chosen (stands tag_not || stands tag_neg) _ _ (skip_push factor) none
        and events_push n (leaf plain) true tag_not tt texts.1 (omega arith) and events_push n (leaf plain) true tag_neg tt texts.2 (omega arith)
        and events_push n (leaf plain) true factor tt texts.0 (omega arith)
    events_push n place shown (CurrentProgramCounter star) closed texts room = events_push n (leaf plain) true star tt texts room
    events_push n place shown (ExprParens lparen inner rparen) closed texts room =
        events_push n (leaf plain) true lparen tt texts.0 (omega arith) and events_push n (leaf plain) true inner tt texts.1 (omega arith)
        and events_push n (leaf plain) true rparen tt texts.2 (omega arith)
    events_push n place shown (FunctionCall name lparen args rparen) closed texts room =
        events_push n (leaf plain) true name tt texts.0 (omega arith) and events_push n (leaf plain) true lparen tt texts.1 (omega arith)
        and events_push n arguments true args tt texts.2 (omega arith) and events_push n (leaf plain) true rparen tt texts.3 (omega arith)
    events_push n place shown (IdentifierValue path modifier') closed texts room =
        chosen (stands modifier') _ _ (skip_push path) none
        and events_push n (leaf modifier) true modifier' tt texts.1 (omega arith) and events_push n (leaf plain) true path tt texts.0 (omega arith)
    events_push n place shown (Number ty value) closed texts room =
        events_push n (leaf number_type) true ty tt texts.0 (omega arith) and events_push n (leaf plain) true value tt texts.1 (omega arith)
    events_push n place shown (StringFactor string) closed texts room = events_push n (leaf plain) true string tt texts room
    events_push n place shown (InterpolatedString lquote items) closed texts room =
        let low : n ≤ 4096 = omega arith in
        events_push n (leaf plain) true lquote tt texts.0 (omega arith) and events_push n in_string true items tt texts.1 (omega arith)
        and one n 34 low refl
    events_push n place shown (Operand expr lchar rchar mode suffix) closed texts room =
        chosen (stands lchar) _ _ (skip_push expr) none
        and events_push n (leaf plain) true lchar tt texts.1 (omega arith) and events_push n (leaf plain) true expr tt texts.0 (omega arith)
        and skip_push rchar and skip_push mode
        and operand_push (index_of mode) _ _ (events_push n (leaf plain) true rchar tt texts.2 (omega arith)) (events_push n (leaf plain) true suffix tt texts.4 (omega arith))
    events_push n place shown (RegisterSuffix comma register') closed texts room =
        events_push n (leaf plain) true comma tt texts.0 (omega arith) and spaces
        and events_push n (leaf register) true register' tt texts.1 (omega arith) and clears
    events_push n place shown (ImportAs tag path) closed texts room =
        let low : n ≤ 4096 = omega arith in
        events_push n (leaf plain) true tag tt texts.0 (omega arith) and one n 32 low refl
        and events_push n (leaf plain) true path tt texts.1 (omega arith)
    events_push n place shown (ImportAll star alias) closed texts room =
        events_push n (leaf plain) true star tt texts.0 (omega arith) and spaces and events_push n (leaf plain) true alias tt texts.1 (omega arith)
        and clears
    events_push n place shown (SpecificImportArg path alias) closed texts room =
        events_push n (leaf plain) true path tt texts.0 (omega arith) and spaces and events_push n (leaf plain) true alias tt texts.1 (omega arith)
    events_push n place shown (ArgItem value comma) closed texts room =
        events_push n (leaf plain) (value_shown place) value tt texts.0 (omega arith) and events_push n (leaf plain) true comma tt texts.1 (omega arith)
        and spaces

    -- ---- a file, read to at most 64 levels
    pub file_push : (levels : ℕ) (bytes : List ℕ) → levels ≤ 64 → Holds Q (read_file levels bytes).texts
        → EveryPush P (events_of (inside options 0) (read_file levels bytes).tree)
    file_push levels bytes deep texts =
        events_push 0 (tokens false first file_end) true (read_file levels bytes).tree tt
        (read_texts Q levels bytes Tokens 0 texts) (omega (arith, read_nesting levels bytes Tokens 0))
