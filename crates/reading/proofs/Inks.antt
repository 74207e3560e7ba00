-- The ink law of the walk: what the events of a tree push has the ink of its reading order, where no place is used that loses ink.
use mathlib.Core.Path.{◌≡◌, refl, ◌∙◌}
use mathlib.Core.Logic.{inl}
use mathlib.Core.List.{List, [], ◌∷◌, append-nil}
use mathlib.Core.Bool.{Bool, true, false, ◌||◌}
use Prim.Native.Nat.{ℕ}
use Rattle.text.specs.Ink.{inks}
use Rattle.text.proofs.Choices.{by_test, true_false, neither}
use Rattle.tree.specs.Tree.{Tree, absent, refused, node, nil, cons, Align, Assert, Braces, Config, ConfigPair, Data, Definition, Eof, Error}
use Rattle.tree.specs.Tree.{Expression, If, Import, File, Instruction, Label, Loop, MacroDefinition, MacroInvocation, ProgramCounterDefinition}
use Rattle.tree.specs.Tree.{Segment, Test, Text, Trace, VariableDefinition, Vec, Leaf, PathItem, Block, BinaryExpression, Factor}
use Rattle.tree.specs.Tree.{CurrentProgramCounter, ExprParens, FunctionCall, IdentifierValue, Number, StringFactor, InterpolatedString, Operand}
use Rattle.tree.specs.Tree.{RegisterSuffix, ImportAs, ImportAll, SpecificImportArg, ArgItem}
use Rattle.tree.specs.declared.grammar.Class.{Class}
use Rattle.tree.specs.declared.grammar.Class.TheVariants.{Word, Char, OpenBrace, CloseBrace, Mnemonic, IndexRegister, AddressModifier, VariableType}
use Rattle.tree.specs.declared.grammar.Class.TheVariants.{NumberType, DataSize, BinaryOp, TextEncoding, LocatedExpression, BareExpression}
use Rattle.tree.specs.declared.grammar.Class.TheVariants.{LocatedFactor, BareToken, LocatedToken, BlockRecord, StringRecord, OperandRecord}
use Rattle.tree.specs.declared.grammar.Class.TheVariants.{SuffixRecord, AsRecord, ImportArguments, Tokens, ExpressionArguments, IdentifierArguments}
use Rattle.tree.specs.declared.grammar.Class.TheVariants.{StringItems}
use Rattle.printing.specs.Holding.{ink_of}
use Rattle.printing.specs.declared.Context.{Context}
use Rattle.events.specs.Printed.{plain, mnemonic, register, operator, data_size, encoding, variable_type, number_type, modifier}
use Rattle.events.specs.Views.{view, own_trivia, head_of, stands_at, index_of}
use Rattle.events.specs.Trees.{one_of, first, file_end, block_end, Place, leaf, arguments, imports, in_string, tokens, deeper, events_in, events_of}
use Rattle.reading.specs.Order.{comments, order_in, order}
use Rattle.reading.specs.Places.{Spot, Use, at_opening_brace, at_label_colon, at_value_head, at_import_path, at_path_item, at_register_letter, at_expression_head}
use Rattle.reading.specs.Places.{at_closing_character, opening_brace, label_colon, value_head, import_path, path_item, register_letter, expression_head}
use Rattle.reading.specs.Places.{closing_character, mark, places_in, among, uses, loses_ink, uses_place}
use Rattle.reading.proofs.Shape.{Shaped}
use Rattle.reading.proofs.Trivia.{no_comments}
use Rattle.reading.proofs.Heads.{harmless, harmless_parts, harmless_three, harmless_four, harmless_five, harmless_six, unmarked, stem}
use Rattle.reading.proofs.Parts.{Suits, Inked, Led, field, given, block_field, value_field, no_end, ink_end_lem, node_either, ink_node, ink_leaf}
use Rattle.reading.proofs.Parts.{ink_items, ink_argument, list_headless, ink_list, ink_inner, alone, expression_list, identifier_list, path_list}
use Rattle.reading.proofs.Parts.{string_list, token_list}
use Rattle.reading.proofs.Records.{ink_Align, ink_Assert, ink_Braces, ink_Config, ink_Config_pair, ink_Data, ink_Definition, ink_Eof, ink_Error}
use Rattle.reading.proofs.Records.{ink_Expression, ink_If, ink_Import, ink_File, ink_Instruction, ink_Label, ink_Loop, ink_Macro_definition}
use Rattle.reading.proofs.Records.{ink_Macro_invocation, ink_Program_counter_definition, ink_Segment, ink_Test, ink_Text, ink_Trace}
use Rattle.reading.proofs.Records.{ink_Variable_definition, ink_Path_item, ink_Block, ink_Binary_expression, ink_Factor}
use Rattle.reading.proofs.Records.{ink_Current_program_counter, ink_Expr_parens, ink_Function_call, ink_Identifier_value, ink_Number}
use Rattle.reading.proofs.Records.{ink_String_factor, ink_Interpolated_string, ink_Operand, ink_Register_suffix, ink_Import_as, ink_Import_all}
use Rattle.reading.proofs.Records.{ink_Specific_import_arg}

-- ---- all trees

-- the claim holds of every tree
ink_in : (c : Context) (place : Place) (class : Class) (listed : Bool) (tree : Tree) → Suits place class → Shaped class tree
    → harmless (places_in listed tree) ≡ true → Led class tree → Inked c place tree
unfolding events_in order_in ink_of inks comments places_in Shaped stem one_of view
ink_in c place class listed absent suits shaped free led = absurd shaped
ink_in c place class listed (refused refusal) suits shaped free led = absurd shaped
ink_in c place class listed (node offset trivia tree) suits shaped free led =
    let parts = harmless_three (mark offset import_path (at_import_path trivia tree)) (mark offset path_item (at_path_item trivia tree)) (places_in listed tree) free in
    ink_node c place trivia tree (node_either class trivia tree shaped.0 led) (ink_in c place class listed tree suits shaped.1 parts.2 led)
ink_in c place class listed nil suits shaped free led = ink_end_lem c place class suits
ink_in c place class listed (cons item items) suits shaped free led =
    let parts = harmless_parts (places_in true item) (places_in listed items) free in
    ink_items c place class item items suits shaped parts.0
    (λ next kind stand item-shaped. ink_in c next kind true item stand item-shaped parts.0)
    (λ next stand. ink_in c next class listed items stand shaped.2 parts.1)
ink_in c place class listed (Align tag value) suits shaped free led =
    let parts = harmless_parts (places_in false tag) (places_in false value) free in
    ink_Align c place (no_end place class 0 suits shaped.0 refl) tag value
    (field c (leaf plain) refl Word tag refl shaped.1 (ink_in c (leaf plain) Word false tag (alone plain Word refl) shaped.1 parts.0))
    (field c (leaf plain) refl LocatedExpression value refl shaped.2 (ink_in c (leaf plain) LocatedExpression false value (alone plain LocatedExpression refl) shaped.2 parts.1))
ink_in c place class listed (Assert tag value message) suits shaped free led =
    let parts = harmless_three (places_in false tag) (places_in false value) (places_in false message) free in
    ink_Assert c place (no_end place class 1 suits shaped.0 refl) tag value message
    (field c (leaf plain) refl Word tag refl shaped.1 (ink_in c (leaf plain) Word false tag (alone plain Word refl) shaped.1 parts.0))
    (field c (leaf plain) refl LocatedExpression value refl shaped.2 (ink_in c (leaf plain) LocatedExpression false value (alone plain LocatedExpression refl) shaped.2 parts.1))
    (given c (leaf plain) refl StringRecord message shaped.3 (λ stand.
    field c (leaf plain) refl StringRecord message refl stand (ink_in c (leaf plain) StringRecord false message (alone plain StringRecord refl) stand parts.2)))
ink_in c place class listed (Braces block) suits shaped free led =
    ink_Braces c place (no_end place class 2 suits shaped.0 refl) block shaped.1 (ink_in c (leaf plain) BlockRecord listed block (alone plain BlockRecord refl) shaped.1 free (inl refl))
ink_in c place class listed (Config block) suits shaped free led =
    ink_Config c place (no_end place class 3 suits shaped.0 refl) block shaped.1 (ink_in c (leaf plain) BlockRecord listed block (alone plain BlockRecord refl) shaped.1 free (inl refl))
ink_in c place class listed (ConfigPair key eq value) suits shaped free led =
    let parts = harmless_four (places_in false key) (places_in false eq) (mark (stands_at (head_of value)) value_head (at_value_head value)) (places_in false value) free in
    ink_Config_pair c place (no_end place class 4 suits shaped.0 refl) key eq value
    (field c (leaf plain) refl Word key refl shaped.1 (ink_in c (leaf plain) Word false key (alone plain Word refl) shaped.1 parts.0))
    (field c (leaf plain) refl Char eq refl shaped.2 (ink_in c (leaf plain) Char false eq (alone plain Char refl) shaped.2 parts.1))
    (value_field c LocatedToken value (unmarked _ value_head (at_value_head value) refl parts.2)
    (ink_in c (leaf plain) LocatedToken false value (alone plain LocatedToken refl) shaped.3 parts.3))
ink_in c place class listed (Data values size) suits shaped free led =
    let parts = harmless_parts (places_in false values) (places_in false size) free in
    ink_Data c place (no_end place class 5 suits shaped.0 refl) values size
    (field c (leaf data_size) refl DataSize size refl shaped.2 (ink_in c (leaf data_size) DataSize false size (alone data_size DataSize refl) shaped.2 parts.1))
    (field c arguments refl ExpressionArguments values refl shaped.1 (ink_in c arguments ExpressionArguments false values expression_list shaped.1 parts.0))
ink_in c place class listed (Definition tag id value) suits shaped free led =
    let parts = harmless_four (places_in false tag) (places_in false id) (mark (stands_at (head_of value)) value_head (at_value_head value)) (places_in false value) free in
    ink_Definition c place (no_end place class 6 suits shaped.0 refl) tag id value
    (field c (leaf plain) refl Word tag refl shaped.1 (ink_in c (leaf plain) Word false tag (alone plain Word refl) shaped.1 parts.0))
    (field c (leaf plain) refl Word id refl shaped.2 (ink_in c (leaf plain) Word false id (alone plain Word refl) shaped.2 parts.1))
    (given c (leaf plain) refl BareToken value shaped.3 (λ stand.
    value_field c BareToken value (unmarked _ value_head (at_value_head value) refl parts.2) (ink_in c (leaf plain) BareToken false value (alone plain BareToken refl) stand parts.3)))
ink_in c place class listed (Eof unit) suits shaped free led = ink_Eof c place (no_end place class 7 suits shaped.0 refl) unit
ink_in c place class listed (Error text) suits shaped free led =
    ink_Error c place (no_end place class 8 suits shaped.0 refl) text
    (field c (leaf plain) refl Word text refl shaped.1 (ink_in c (leaf plain) Word false text (alone plain Word refl) shaped.1 free))
ink_in c place class listed (Expression expression) suits shaped free led =
    let parts = harmless_parts (mark (stands_at (head_of expression)) expression_head (at_expression_head listed expression)) (places_in false expression) free in
    ink_Expression c place (no_end place class 9 suits shaped.0 refl) expression
    (field c (leaf plain) refl BareExpression expression refl shaped.1 (ink_in c (leaf plain) BareExpression false expression (alone plain BareExpression refl) shaped.1 parts.1))
ink_in c place class listed (If tag_if value then tag_else otherwise) suits shaped free led =
    let parts = harmless_five (places_in false tag_if) (places_in false value) (places_in false then) (places_in false tag_else) (places_in false otherwise) free in
    ink_If c place (no_end place class 10 suits shaped.0 refl) tag_if value then tag_else otherwise shaped.6
    (field c (leaf plain) refl Word tag_if refl shaped.1 (ink_in c (leaf plain) Word false tag_if (alone plain Word refl) shaped.1 parts.0))
    (field c (leaf plain) refl LocatedExpression value refl shaped.2 (ink_in c (leaf plain) LocatedExpression false value (alone plain LocatedExpression refl) shaped.2 parts.1))
    (block_field c then shaped.3 parts.2 (ink_in c (leaf plain) BlockRecord false then (alone plain BlockRecord refl) shaped.3 parts.2))
    (given c (leaf plain) refl Word tag_else shaped.4 (λ stand.
    field c (leaf plain) refl Word tag_else refl stand (ink_in c (leaf plain) Word false tag_else (alone plain Word refl) stand parts.3)))
    (given c (leaf plain) refl BlockRecord otherwise shaped.5 (λ stand.
    block_field c otherwise stand parts.4 (ink_in c (leaf plain) BlockRecord false otherwise (alone plain BlockRecord refl) stand parts.4)))
ink_in c place class listed (Import tag args source filename block) suits shaped free led =
    let parts = harmless_five (places_in false tag) (places_in false args) (places_in false source) (places_in false filename) (places_in false block) free in
    ink_Import c place (no_end place class 11 suits shaped.0 refl) tag args source filename block
    (field c (leaf plain) refl Word tag refl shaped.1 (ink_in c (leaf plain) Word false tag (alone plain Word refl) shaped.1 parts.0))
    (field c imports refl ImportArguments args refl shaped.2 (ink_in c imports ImportArguments false args path_list shaped.2 parts.1))
    (field c (leaf plain) refl Word source refl shaped.3 (ink_in c (leaf plain) Word false source (alone plain Word refl) shaped.3 parts.2))
    (field c (leaf plain) refl StringRecord filename refl shaped.4 (ink_in c (leaf plain) StringRecord false filename (alone plain StringRecord refl) shaped.4 parts.3))
    (given c (leaf plain) refl BlockRecord block shaped.5 (λ stand.
    block_field c block stand parts.4 (ink_in c (leaf plain) BlockRecord false block (alone plain BlockRecord refl) stand parts.4)))
ink_in c place class listed (File tag filename) suits shaped free led =
    let parts = harmless_parts (places_in false tag) (places_in false filename) free in
    ink_File c place (no_end place class 12 suits shaped.0 refl) tag filename
    (field c (leaf plain) refl Word tag refl shaped.1 (ink_in c (leaf plain) Word false tag (alone plain Word refl) shaped.1 parts.0))
    (field c (leaf plain) refl StringRecord filename refl shaped.2 (ink_in c (leaf plain) StringRecord false filename (alone plain StringRecord refl) shaped.2 parts.1))
ink_in c place class listed (Instruction mnemonic' operand) suits shaped free led =
    let parts = harmless_parts (places_in false mnemonic') (places_in false operand) free in
    ink_Instruction c place (no_end place class 13 suits shaped.0 refl) mnemonic' operand
    (field c (leaf mnemonic) refl Mnemonic mnemonic' refl shaped.1 (ink_in c (leaf mnemonic) Mnemonic false mnemonic' (alone mnemonic Mnemonic refl) shaped.1 parts.0))
    (given c (leaf plain) refl OperandRecord operand shaped.2 (λ stand.
    field c (leaf plain) refl OperandRecord operand refl stand (ink_in c (leaf plain) OperandRecord false operand (alone plain OperandRecord refl) stand parts.1)))
ink_in c place class listed (Label id colon block) suits shaped free led =
    let parts = harmless_four (places_in false id) (mark (stands_at colon) label_colon (at_label_colon colon)) (places_in false colon) (places_in false block) free in
    ink_Label c place (no_end place class 14 suits shaped.0 refl) id colon block shaped.1 (no_comments (own_trivia colon) (unmarked _ label_colon (at_label_colon colon) refl parts.1))
    (given c (leaf plain) refl BlockRecord block shaped.3 (λ stand.
    block_field c block stand parts.3 (ink_in c (leaf plain) BlockRecord false block (alone plain BlockRecord refl) stand parts.3)))
ink_in c place class listed (Loop tag expr block) suits shaped free led =
    let parts = harmless_three (places_in false tag) (places_in false expr) (places_in false block) free in
    ink_Loop c place (no_end place class 15 suits shaped.0 refl) tag expr block
    (field c (leaf plain) refl Word tag refl shaped.1 (ink_in c (leaf plain) Word false tag (alone plain Word refl) shaped.1 parts.0))
    (field c (leaf plain) refl LocatedExpression expr refl shaped.2 (ink_in c (leaf plain) LocatedExpression false expr (alone plain LocatedExpression refl) shaped.2 parts.1))
    (block_field c block shaped.3 parts.2 (ink_in c (leaf plain) BlockRecord false block (alone plain BlockRecord refl) shaped.3 parts.2))
ink_in c place class listed (MacroDefinition tag id lparen args rparen block) suits shaped free led =
    let parts = harmless_six (places_in false tag) (places_in false id) (places_in false lparen) (places_in false args) (places_in false rparen) (places_in false block) free in
    ink_Macro_definition c place (no_end place class 16 suits shaped.0 refl) tag id lparen args rparen block
    (field c (leaf plain) refl Word tag refl shaped.1 (ink_in c (leaf plain) Word false tag (alone plain Word refl) shaped.1 parts.0))
    (field c (leaf plain) refl Word id refl shaped.2 (ink_in c (leaf plain) Word false id (alone plain Word refl) shaped.2 parts.1))
    (field c (leaf plain) refl Char lparen refl shaped.3 (ink_in c (leaf plain) Char false lparen (alone plain Char refl) shaped.3 parts.2))
    (field c arguments refl IdentifierArguments args refl shaped.4 (ink_in c arguments IdentifierArguments false args identifier_list shaped.4 parts.3))
    (field c (leaf plain) refl Char rparen refl shaped.5 (ink_in c (leaf plain) Char false rparen (alone plain Char refl) shaped.5 parts.4))
    (block_field c block shaped.6 parts.5 (ink_in c (leaf plain) BlockRecord false block (alone plain BlockRecord refl) shaped.6 parts.5))
ink_in c place class listed (MacroInvocation id lparen args rparen) suits shaped free led =
    let parts = harmless_four (places_in false id) (places_in false lparen) (places_in false args) (places_in false rparen) free in
    ink_Macro_invocation c place (no_end place class 17 suits shaped.0 refl) id lparen args rparen
    (field c (leaf plain) refl Word id refl shaped.1 (ink_in c (leaf plain) Word false id (alone plain Word refl) shaped.1 parts.0))
    (field c (leaf plain) refl Char lparen refl shaped.2 (ink_in c (leaf plain) Char false lparen (alone plain Char refl) shaped.2 parts.1))
    (field c arguments refl ExpressionArguments args refl shaped.3 (ink_in c arguments ExpressionArguments false args expression_list shaped.3 parts.2))
    (field c (leaf plain) refl Char rparen refl shaped.4 (ink_in c (leaf plain) Char false rparen (alone plain Char refl) shaped.4 parts.3))
ink_in c place class listed (ProgramCounterDefinition star eq value) suits shaped free led =
    let parts = harmless_three (places_in false star) (places_in false eq) (places_in false value) free in
    ink_Program_counter_definition c place (no_end place class 18 suits shaped.0 refl) star eq value
    (field c (leaf plain) refl Char star refl shaped.1 (ink_in c (leaf plain) Char false star (alone plain Char refl) shaped.1 parts.0))
    (field c (leaf plain) refl Char eq refl shaped.2 (ink_in c (leaf plain) Char false eq (alone plain Char refl) shaped.2 parts.1))
    (field c (leaf plain) refl LocatedExpression value refl shaped.3 (ink_in c (leaf plain) LocatedExpression false value (alone plain LocatedExpression refl) shaped.3 parts.2))
ink_in c place class listed (Segment tag id block) suits shaped free led =
    let parts = harmless_three (places_in false tag) (places_in false id) (places_in false block) free in
    ink_Segment c place (no_end place class 19 suits shaped.0 refl) tag id block
    (field c (leaf plain) refl Word tag refl shaped.1 (ink_in c (leaf plain) Word false tag (alone plain Word refl) shaped.1 parts.0))
    (field c (leaf plain) refl LocatedExpression id refl shaped.2 (ink_in c (leaf plain) LocatedExpression false id (alone plain LocatedExpression refl) shaped.2 parts.1))
    (given c (leaf plain) refl BlockRecord block shaped.3 (λ stand.
    block_field c block stand parts.2 (ink_in c (leaf plain) BlockRecord false block (alone plain BlockRecord refl) stand parts.2)))
ink_in c place class listed (Test tag id block) suits shaped free led =
    let parts = harmless_three (places_in false tag) (places_in false id) (places_in false block) free in
    ink_Test c place (no_end place class 20 suits shaped.0 refl) tag id block
    (field c (leaf plain) refl Word tag refl shaped.1 (ink_in c (leaf plain) Word false tag (alone plain Word refl) shaped.1 parts.0))
    (field c (leaf plain) refl LocatedExpression id refl shaped.2 (ink_in c (leaf plain) LocatedExpression false id (alone plain LocatedExpression refl) shaped.2 parts.1))
    (block_field c block shaped.3 parts.2 (ink_in c (leaf plain) BlockRecord false block (alone plain BlockRecord refl) shaped.3 parts.2))
ink_in c place class listed (Text tag encoding' text) suits shaped free led =
    let parts = harmless_three (places_in false tag) (places_in false encoding') (places_in false text) free in
    ink_Text c place (no_end place class 21 suits shaped.0 refl) tag encoding' text
    (field c (leaf plain) refl Word tag refl shaped.1 (ink_in c (leaf plain) Word false tag (alone plain Word refl) shaped.1 parts.0))
    (given c (leaf encoding) refl TextEncoding encoding' shaped.2 (λ stand.
    field c (leaf encoding) refl TextEncoding encoding' refl stand (ink_in c (leaf encoding) TextEncoding false encoding' (alone encoding TextEncoding refl) stand parts.1)))
    (field c (leaf plain) refl LocatedExpression text refl shaped.3 (ink_in c (leaf plain) LocatedExpression false text (alone plain LocatedExpression refl) shaped.3 parts.2))
ink_in c place class listed (Trace tag lparen args rparen) suits shaped free led =
    let parts = harmless_four (places_in false tag) (places_in false lparen) (places_in false args) (places_in false rparen) free in
    ink_Trace c place (no_end place class 22 suits shaped.0 refl) tag lparen args rparen
    (field c (leaf plain) refl Word tag refl shaped.1 (ink_in c (leaf plain) Word false tag (alone plain Word refl) shaped.1 parts.0))
    (given c (leaf plain) refl Char lparen shaped.2 (λ stand.
    field c (leaf plain) refl Char lparen refl stand (ink_in c (leaf plain) Char false lparen (alone plain Char refl) stand parts.1)))
    (field c arguments refl ExpressionArguments args refl shaped.3 (ink_in c arguments ExpressionArguments false args expression_list shaped.3 parts.2))
    (given c (leaf plain) refl Char rparen shaped.4 (λ stand.
    field c (leaf plain) refl Char rparen refl stand (ink_in c (leaf plain) Char false rparen (alone plain Char refl) stand parts.3)))
ink_in c place class listed (VariableDefinition ty id eq value) suits shaped free led =
    let parts = harmless_four (places_in false ty) (places_in false id) (places_in false eq) (places_in false value) free in
    ink_Variable_definition c place (no_end place class 23 suits shaped.0 refl) ty id eq value
    (field c (leaf variable_type) refl VariableType ty refl shaped.1 (ink_in c (leaf variable_type) VariableType false ty (alone variable_type VariableType refl) shaped.1 parts.0))
    (field c (leaf plain) refl Word id refl shaped.2 (ink_in c (leaf plain) Word false id (alone plain Word refl) shaped.2 parts.1))
    (field c (leaf plain) refl Char eq refl shaped.3 (ink_in c (leaf plain) Char false eq (alone plain Char refl) shaped.3 parts.2))
    (field c (leaf plain) refl LocatedExpression value refl shaped.4 (ink_in c (leaf plain) LocatedExpression false value (alone plain LocatedExpression refl) shaped.4 parts.3))
ink_in c place class listed (Vec items) suits shaped free led =
    ink_list c place class items (list_headless suits shaped.0) shaped.1 (ink_in c place class listed items suits shaped.1 free)
ink_in c place class listed (Leaf text) suits shaped free led = ink_leaf c place class text suits shaped
ink_in c place class listed (PathItem text) suits shaped free led = ink_Path_item c place (no_end place class 26 suits shaped refl) text
ink_in c place class listed (Block lparen inner rparen) suits shaped free led =
    let parts = harmless_four (mark (stands_at lparen) opening_brace (at_opening_brace listed lparen)) (places_in listed lparen) (places_in listed inner) (places_in listed rparen) free in
    ink_Block c place (no_end place class 27 suits shaped.0 refl) lparen inner rparen (field c (leaf plain) refl OpenBrace lparen refl shaped.1
    (ink_in c (leaf plain) OpenBrace listed lparen (alone plain OpenBrace refl) shaped.1 parts.1))
    (ink_inner c inner rparen shaped.2
    (ink_in (deeper c) (tokens true first (block_end rparen)) Tokens listed inner (token_list true first (block_end rparen)) shaped.2 parts.2))
    (field c (leaf plain) refl CloseBrace rparen refl shaped.3 (ink_in c (leaf plain) CloseBrace listed rparen (alone plain CloseBrace refl) shaped.3 parts.3))
ink_in c place class listed (BinaryExpression op lhs rhs) suits shaped free led =
    let parts = harmless_three (places_in false op) (places_in false lhs) (places_in false rhs) free in
    ink_Binary_expression c place (no_end place class 28 suits shaped.0 refl) op lhs rhs
    (field c (leaf plain) refl LocatedExpression lhs refl shaped.2 (ink_in c (leaf plain) LocatedExpression false lhs (alone plain LocatedExpression refl) shaped.2 parts.1))
    (field c (leaf operator) refl BinaryOp op refl shaped.1 (ink_in c (leaf operator) BinaryOp false op (alone operator BinaryOp refl) shaped.1 parts.0))
    (field c (leaf plain) refl LocatedExpression rhs refl shaped.3 (ink_in c (leaf plain) LocatedExpression false rhs (alone plain LocatedExpression refl) shaped.3 parts.2))
ink_in c place class listed (Factor factor tag_not tag_neg) suits shaped free led =
    let parts = harmless_three (places_in false factor) (places_in false tag_not) (places_in false tag_neg) free in
    ink_Factor c place (no_end place class 29 suits shaped.0 refl) factor tag_not tag_neg
    (given c (leaf plain) refl Char tag_not shaped.2 (λ stand.
    field c (leaf plain) refl Char tag_not refl stand (ink_in c (leaf plain) Char false tag_not (alone plain Char refl) stand parts.1)))
    (given c (leaf plain) refl Char tag_neg shaped.3 (λ stand.
    field c (leaf plain) refl Char tag_neg refl stand (ink_in c (leaf plain) Char false tag_neg (alone plain Char refl) stand parts.2)))
    (field c (leaf plain) refl LocatedFactor factor refl shaped.1 (ink_in c (leaf plain) LocatedFactor false factor (alone plain LocatedFactor refl) shaped.1 parts.0))
ink_in c place class listed (CurrentProgramCounter star) suits shaped free led =
    ink_Current_program_counter c place (no_end place class 30 suits shaped.0 refl) star
    (field c (leaf plain) refl Char star refl shaped.1 (ink_in c (leaf plain) Char false star (alone plain Char refl) shaped.1 free))
ink_in c place class listed (ExprParens lparen inner rparen) suits shaped free led =
    let parts = harmless_three (places_in false lparen) (places_in false inner) (places_in false rparen) free in
    ink_Expr_parens c place (no_end place class 31 suits shaped.0 refl) lparen inner rparen
    (field c (leaf plain) refl Char lparen refl shaped.1 (ink_in c (leaf plain) Char false lparen (alone plain Char refl) shaped.1 parts.0))
    (field c (leaf plain) refl LocatedExpression inner refl shaped.2 (ink_in c (leaf plain) LocatedExpression false inner (alone plain LocatedExpression refl) shaped.2 parts.1))
    (field c (leaf plain) refl Char rparen refl shaped.3 (ink_in c (leaf plain) Char false rparen (alone plain Char refl) shaped.3 parts.2))
ink_in c place class listed (FunctionCall name lparen args rparen) suits shaped free led =
    let parts = harmless_four (places_in false name) (places_in false lparen) (places_in false args) (places_in false rparen) free in
    ink_Function_call c place (no_end place class 32 suits shaped.0 refl) name lparen args rparen
    (field c (leaf plain) refl Word name refl shaped.1 (ink_in c (leaf plain) Word false name (alone plain Word refl) shaped.1 parts.0))
    (field c (leaf plain) refl Char lparen refl shaped.2 (ink_in c (leaf plain) Char false lparen (alone plain Char refl) shaped.2 parts.1))
    (field c arguments refl ExpressionArguments args refl shaped.3 (ink_in c arguments ExpressionArguments false args expression_list shaped.3 parts.2))
    (field c (leaf plain) refl Char rparen refl shaped.4 (ink_in c (leaf plain) Char false rparen (alone plain Char refl) shaped.4 parts.3))
ink_in c place class listed (IdentifierValue path modifier') suits shaped free led =
    let parts = harmless_parts (places_in false path) (places_in false modifier') free in
    ink_Identifier_value c place (no_end place class 33 suits shaped.0 refl) path modifier'
    (given c (leaf modifier) refl AddressModifier modifier' shaped.2 (λ stand.
    field c (leaf modifier) refl AddressModifier modifier' refl stand (ink_in c (leaf modifier) AddressModifier false modifier' (alone modifier AddressModifier refl) stand parts.1)))
    (field c (leaf plain) refl Word path refl shaped.1 (ink_in c (leaf plain) Word false path (alone plain Word refl) shaped.1 parts.0))
ink_in c place class listed (Number ty value) suits shaped free led =
    let parts = harmless_parts (places_in false ty) (places_in false value) free in
    ink_Number c place (no_end place class 34 suits shaped.0 refl) ty value
    (field c (leaf number_type) refl NumberType ty refl shaped.1 (ink_in c (leaf number_type) NumberType false ty (alone number_type NumberType refl) shaped.1 parts.0))
    (field c (leaf plain) refl Word value refl shaped.2 (ink_in c (leaf plain) Word false value (alone plain Word refl) shaped.2 parts.1))
ink_in c place class listed (StringFactor string) suits shaped free led =
    ink_String_factor c place (no_end place class 35 suits shaped.0 refl) string
    (field c (leaf plain) refl StringRecord string refl shaped.1 (ink_in c (leaf plain) StringRecord false string (alone plain StringRecord refl) shaped.1 free))
ink_in c place class listed (InterpolatedString lquote items) suits shaped free led =
    let parts = harmless_parts (places_in false lquote) (places_in false items) free in
    ink_Interpolated_string c place (no_end place class 36 suits shaped.0 refl) lquote items
    (field c (leaf plain) refl Char lquote refl shaped.1 (ink_in c (leaf plain) Char false lquote (alone plain Char refl) shaped.1 parts.0))
    (field c in_string refl StringItems items refl shaped.2 (ink_in c in_string StringItems false items string_list shaped.2 parts.1))
ink_in c place class listed (Operand expr lchar rchar mode suffix) suits shaped free led =
    let parts = harmless_six (mark (stands_at rchar) closing_character (at_closing_character (index_of mode) rchar)) (places_in false expr) (places_in false lchar)
    (places_in false rchar) (places_in false mode) (places_in false suffix) free in
    ink_Operand c place (no_end place class 37 suits shaped.0 refl) expr lchar rchar mode suffix (unmarked _ closing_character (at_closing_character (index_of mode) rchar) refl parts.0)
    (field c (leaf plain) refl LocatedExpression expr refl shaped.1 (ink_in c (leaf plain) LocatedExpression false expr (alone plain LocatedExpression refl) shaped.1 parts.1))
    (given c (leaf plain) refl Char lchar shaped.2 (λ stand.
    field c (leaf plain) refl Char lchar refl stand (ink_in c (leaf plain) Char false lchar (alone plain Char refl) stand parts.2)))
    (given c (leaf plain) refl Char rchar shaped.3 (λ stand.
    field c (leaf plain) refl Char rchar refl stand (ink_in c (leaf plain) Char false rchar (alone plain Char refl) stand parts.3)))
    (given c (leaf plain) refl SuffixRecord suffix shaped.5 (λ stand.
    field c (leaf plain) refl SuffixRecord suffix refl stand (ink_in c (leaf plain) SuffixRecord false suffix (alone plain SuffixRecord refl) stand parts.5)))
ink_in c place class listed (RegisterSuffix comma register') suits shaped free led =
    let parts = harmless_three (places_in false comma) (mark (stands_at register') register_letter (at_register_letter register')) (places_in false register') free in
    ink_Register_suffix c place (no_end place class 38 suits shaped.0 refl) comma register'
    (field c (leaf plain) refl Char comma refl shaped.1 (ink_in c (leaf plain) Char false comma (alone plain Char refl) shaped.1 parts.0))
    (field c (leaf register) refl IndexRegister register' refl shaped.2 (ink_in c (leaf register) IndexRegister false register' (alone register IndexRegister refl) shaped.2 parts.2))
ink_in c place class listed (ImportAs tag path) suits shaped free led =
    let parts = harmless_parts (places_in false tag) (places_in false path) free in
    ink_Import_as c place (no_end place class 39 suits shaped.0 refl) tag path
    (field c (leaf plain) refl Word tag refl shaped.1 (ink_in c (leaf plain) Word false tag (alone plain Word refl) shaped.1 parts.0))
    (field c (leaf plain) refl Word path refl shaped.2 (ink_in c (leaf plain) Word false path (alone plain Word refl) shaped.2 parts.1))
ink_in c place class listed (ImportAll star alias) suits shaped free led =
    let parts = harmless_parts (places_in false star) (places_in false alias) free in
    ink_Import_all c place (no_end place class 40 suits shaped.0 refl) star alias
    (field c (leaf plain) refl Char star refl shaped.1 (ink_in c (leaf plain) Char false star (alone plain Char refl) shaped.1 parts.0))
    (given c (leaf plain) refl AsRecord alias shaped.2 (λ stand.
    field c (leaf plain) refl AsRecord alias refl stand (ink_in c (leaf plain) AsRecord false alias (alone plain AsRecord refl) stand parts.1)))
ink_in c place class listed (SpecificImportArg path alias) suits shaped free led =
    let parts = harmless_parts (places_in false path) (places_in false alias) free in
    ink_Specific_import_arg c place (no_end place class 41 suits shaped.0 refl) path alias
    (field c (leaf plain) refl Word path refl shaped.1 (ink_in c (leaf plain) Word false path (alone plain Word refl) shaped.1 parts.0))
    (given c (leaf plain) refl AsRecord alias shaped.2 (λ stand.
    field c (leaf plain) refl AsRecord alias refl stand (ink_in c (leaf plain) AsRecord false alias (alone plain AsRecord refl) stand parts.1)))
ink_in c place class listed (ArgItem value comma) suits shaped free led =
    let parts = harmless_parts (places_in false value) (places_in false comma) free in
    ink_argument c place class value comma suits shaped parts.0 (λ kind stand value-shaped. ink_in c (leaf plain) kind false value stand value-shaped parts.0)
    (given c (leaf plain) refl Char comma shaped.2 (λ stand.
    field c (leaf plain) refl Char comma refl stand (ink_in c (leaf plain) Char false comma (alone plain Char refl) stand parts.1)))

-- ---- files

-- none of the seven places is among them
abbrev NoneOfSeven : List Use → Type 0
NoneOfSeven used =
    (among opening_brace used ≡ false) × (among label_colon used ≡ false) × (among value_head used ≡ false) × (among import_path used ≡ false)
    × (among path_item used ≡ false) × (among expression_head used ≡ false) × (among closing_character used ≡ false)

-- then the first is (f)
first_harmless : (place : ℕ) (spot : Spot) (others : List Use) → NoneOfSeven (record { place = place; spot = spot } ∷ others)
    → (NoneOfSeven others → harmless others ≡ true) → harmless (record { place = place; spot = spot } ∷ others) ≡ true
unfolding among harmless
first_harmless place opening_brace others none rest = true_false none.0
first_harmless place label_colon others none rest = true_false none.1
first_harmless place value_head others none rest = true_false none.2
first_harmless place import_path others none rest = true_false none.3
first_harmless place path_item others none rest = true_false none.4
first_harmless place register_letter others none rest = rest none
first_harmless place expression_head others none rest = true_false none.5
first_harmless place closing_character others none rest = true_false none.6

-- and all are harmless
none_harmless : (used : List Use) → NoneOfSeven used → harmless used ≡ true
unfolding harmless
none_harmless [] none = refl
none_harmless (other ∷ others) none = first_harmless other.place other.spot others none (λ rest. none_harmless others rest)

-- a tree that loses no ink uses none of the seven
keeps_harmless : (tree : Tree) → loses_ink tree ≡ false → harmless (places_in false tree) ≡ true
keeps_harmless tree none =
    let brace = neither (uses opening_brace tree) (uses label_colon tree || (uses value_head tree || (uses import_path tree || (uses path_item tree ||
    (uses expression_head tree || (uses closing_character tree)))))) none in
    let colon = neither (uses label_colon tree) (uses value_head tree || (uses import_path tree || (uses path_item tree || (uses expression_head tree || (uses closing_character tree))))) brace.1 in
    let value = neither (uses value_head tree) (uses import_path tree || (uses path_item tree || (uses expression_head tree || (uses closing_character tree)))) colon.1 in
    let import = neither (uses import_path tree) (uses path_item tree || (uses expression_head tree || (uses closing_character tree))) value.1 in
    let item = neither (uses path_item tree) (uses expression_head tree || (uses closing_character tree)) import.1 in
    let head = neither (uses expression_head tree) (uses closing_character tree) item.1 in
    none_harmless (places_in false tree) (brace.0, colon.0, value.0, import.0, item.0, head.0, head.1)

-- demand 3's ink law for the walk: where a file's tree loses no ink, what its events push has the ink of its reading order
pub ink_kept : (context : Context) (tree : Tree) → Shaped Tokens tree → loses_ink tree ≡ false
    → ink_of (events_of context tree) ≡ inks (order context.options.mnemonics tree)
unfolding inks comments
ink_kept context tree shaped none =
    ink_list context (tokens false first file_end) Tokens tree refl shaped
    (ink_in context (tokens false first file_end) Tokens false tree (token_list false first file_end) shaped (keeps_harmless tree none))
    ∙ append-nil (inks (order context.options.mnemonics tree))

-- so it does where a file uses none of the eight places
pub ink_kept_eight : (context : Context) (tree : Tree) → Shaped Tokens tree → uses_place tree ≡ false
    → ink_of (events_of context tree) ≡ inks (order context.options.mnemonics tree)
ink_kept_eight context tree shaped none = ink_kept context tree shaped (by_test (loses_ink tree) (λ loses. true_false (rw loses at none)) (λ keeps. keeps))
