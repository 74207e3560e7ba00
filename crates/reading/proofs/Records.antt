-- Each kind: what it prints has the ink of its reading order where what its parts print has.
use mathlib.Core.Path.{◌≡◌, refl}
use mathlib.Core.List.{List, [], ◌++◌, append_assoc, append-nil}
use mathlib.Core.Bool.{true, false}
use Prim.Native.Nat.{ℕ}
use Rattle.text.specs.Ink.{blank, ink, inks}
use Rattle.text.proofs.Ink.{inks_append}
use Rattle.tree.specs.Tree.{Tree, Align, Assert, Braces, Config, ConfigPair, Data, Definition, Eof, Error, Expression, If, Import, File, Instruction}
use Rattle.tree.specs.Tree.{Label, Loop, MacroDefinition, MacroInvocation, ProgramCounterDefinition, Segment, Test, Text, Trace, VariableDefinition}
use Rattle.tree.specs.Tree.{PathItem, Block, BinaryExpression, Factor, CurrentProgramCounter, ExprParens, FunctionCall, IdentifierValue, Number}
use Rattle.tree.specs.Tree.{StringFactor, InterpolatedString, Operand, RegisterSuffix, ImportAs, ImportAll, SpecificImportArg}
use Rattle.tree.specs.declared.grammar.Class.TheVariants.{Word, BlockRecord}
use Rattle.printing.specs.Holding.{ink_of}
use Rattle.printing.specs.declared.Context.{Context}
use Rattle.events.specs.Printed.{plain, mnemonic, register, operator, data_size, encoding, variable_type, number_type, modifier}
use Rattle.events.specs.Views.{view, own_trivia, stands, index_of}
use Rattle.events.specs.Trees.{one_of, first, block_end, Place, leaf, arguments, imports, in_string, tokens, deeper, events_in}
use Rattle.reading.specs.Order.{comments, order_in}
use Rattle.reading.specs.Places.{at_closing_character}
use Rattle.reading.proofs.Shape.{Shaped}
use Rattle.reading.proofs.Trivia.{ink_stop, ink_skip}
use Rattle.reading.proofs.Heads.{own_before, stem, block_stem}
use Rattle.reading.proofs.Parts.{end_trivia, order_at, Inked, Kept, headed, ink_opening, ink_otherwise, ink_closing, ink_id}

-- ---- each kind, from its parts

ruleset ink_laws = (inks_append, append_assoc, append-nil)

-- in a place where no list ends
module _ (c : Context) (place : Place) (none : comments (end_trivia place) ≡ []) where
  pub ink_Align : (tag value : Tree) → Kept c (leaf plain) tag → Kept c (leaf plain) value → Inked c place (Align tag value)
  unfolding events_in order_in ink_of inks ink blank comments stem one_of view
  ink_Align tag value tag-kept value-kept =
      simp (none, ink_laws, headed c (leaf plain) refl tag tag-kept, value-kept)

  pub ink_Assert : (tag value message : Tree)
      → Kept c (leaf plain) tag → Kept c (leaf plain) value → Kept c (leaf plain) message
      → Inked c place (Assert tag value message)
  unfolding events_in order_in ink_of inks ink blank comments stem one_of view
  ink_Assert tag value message tag-kept value-kept message-kept =
      simp (none, ink_laws, headed c (leaf plain) refl tag tag-kept, value-kept, message-kept)

  pub ink_Braces : (block : Tree) → Shaped BlockRecord block → Inked c (leaf plain) block → Inked c place (Braces block)
  unfolding events_in order_in ink_of inks ink blank comments stem one_of view
  ink_Braces block shaped inked = rw (← (block_stem block shaped), none) inked

  pub ink_Config : (block : Tree) → Shaped BlockRecord block → Inked c (leaf plain) block → Inked c place (Config block)
  unfolding events_in order_in ink_of inks ink blank comments stem one_of view
  ink_Config block shaped inked = rw (← (block_stem block shaped), none) inked

  pub ink_Config_pair : (key eq value : Tree)
      → Kept c (leaf plain) key → Kept c (leaf plain) eq → Kept c (leaf plain) value
      → Inked c place (ConfigPair key eq value)
  unfolding events_in order_in ink_of inks ink blank comments stem one_of view
  ink_Config_pair key eq value key-kept eq-kept value-kept =
      simp (none, ink_laws, headed c (leaf plain) refl key key-kept, eq-kept, value-kept)

  pub ink_Data : (values size : Tree) → Kept c (leaf data_size) size → Kept c arguments values → Inked c place (Data values size)
  unfolding events_in order_in ink_of inks ink blank comments stem one_of view
  ink_Data values size size-kept values-kept =
      simp (none, ink_laws, ink_stop, headed c (leaf data_size) refl size size-kept, values-kept)

  pub ink_Definition : (tag id value : Tree)
      → Kept c (leaf plain) tag → Kept c (leaf plain) id → Kept c (leaf plain) value
      → Inked c place (Definition tag id value)
  unfolding events_in order_in ink_of inks ink blank comments stem one_of view
  ink_Definition tag id value tag-kept id-kept value-kept =
      simp (none, ink_laws, headed c (leaf plain) refl tag tag-kept, id-kept, value-kept)

  pub ink_Eof : (unit : Tree) → Inked c place (Eof unit)
  unfolding events_in order_in ink_of inks ink blank comments stem one_of view
  ink_Eof unit = simp (none, ink_laws, ink_stop)

  pub ink_Error : (text : Tree) → Kept c (leaf plain) text → Inked c place (Error text)
  unfolding events_in order_in ink_of inks ink blank comments stem one_of view
  ink_Error text text-kept = simp (none, ink_laws, own_before c (leaf plain) text, text-kept)

  pub ink_Expression : (expression : Tree) → Kept c (leaf plain) expression → Inked c place (Expression expression)
  unfolding events_in order_in ink_of inks ink blank comments stem one_of view
  ink_Expression expression expression-kept =
      simp (none, ink_laws, expression-kept)

  pub ink_If : (tag_if value then tag_else otherwise : Tree) → stands tag_else ≡ stands otherwise
      → Kept c (leaf plain) tag_if → Kept c (leaf plain) value → Kept c (leaf plain) then → Kept c (leaf plain) tag_else → Kept c (leaf plain) otherwise
      → Inked c place (If tag_if value then tag_else otherwise)
  unfolding events_in order_in ink_of inks ink blank comments stem one_of view
  ink_If tag_if value then tag_else otherwise together tagIf-kept value-kept then-kept tagElse-kept otherwise-kept =
      simp (none, ink_laws, headed c (leaf plain) refl tag_if tagIf-kept, value-kept, then-kept, ink_otherwise c tag_else otherwise together tagElse-kept otherwise-kept)

  pub ink_Import : (tag args source filename block : Tree)
      → Kept c (leaf plain) tag → Kept c imports args → Kept c (leaf plain) source → Kept c (leaf plain) filename → Kept c (leaf plain) block
      → Inked c place (Import tag args source filename block)
  unfolding events_in order_in ink_of inks ink blank comments stem one_of view
  ink_Import tag args source filename block tag-kept args-kept source-kept filename-kept block-kept =
      simp (none, ink_laws, headed c (leaf plain) refl tag tag-kept, args-kept, source-kept, filename-kept, block-kept)

  pub ink_File : (tag filename : Tree) → Kept c (leaf plain) tag → Kept c (leaf plain) filename → Inked c place (File tag filename)
  unfolding events_in order_in ink_of inks ink blank comments stem one_of view
  ink_File tag filename tag-kept filename-kept =
      simp (none, ink_laws, headed c (leaf plain) refl tag tag-kept, filename-kept)

  pub ink_Instruction : (mnemonic' operand : Tree)
      → Kept c (leaf mnemonic) mnemonic' → Kept c (leaf plain) operand
      → Inked c place (Instruction mnemonic' operand)
  unfolding events_in order_in ink_of inks ink blank comments stem one_of view
  ink_Instruction mnemonic' operand mnemonic-kept operand-kept =
      simp (none, ink_laws, headed c (leaf mnemonic) refl mnemonic' mnemonic-kept, operand-kept)

  pub ink_Label : (id colon block : Tree) → Shaped Word id → comments (own_trivia colon) ≡ [] → Kept c (leaf plain) block → Inked c place (Label id colon block)
  unfolding events_in order_in ink_of inks ink blank comments stem one_of view
  ink_Label id colon block shaped bare-colon block-kept = simp (none, ink_laws, ink_stop, ink_id c id shaped, bare-colon, block-kept)

  pub ink_Loop : (tag expr block : Tree)
      → Kept c (leaf plain) tag → Kept c (leaf plain) expr → Kept c (leaf plain) block
      → Inked c place (Loop tag expr block)
  unfolding events_in order_in ink_of inks ink blank comments stem one_of view
  ink_Loop tag expr block tag-kept expr-kept block-kept =
      simp (none, ink_laws, headed c (leaf plain) refl tag tag-kept, expr-kept, block-kept)

  pub ink_Macro_definition : (tag id lparen args rparen block : Tree)
      → Kept c (leaf plain) tag → Kept c (leaf plain) id → Kept c (leaf plain) lparen → Kept c arguments args → Kept c (leaf plain) rparen → Kept c (leaf plain) block
      → Inked c place (MacroDefinition tag id lparen args rparen block)
  unfolding events_in order_in ink_of inks ink blank comments stem one_of view
  ink_Macro_definition tag id lparen args rparen block tag-kept id-kept lparen-kept args-kept rparen-kept block-kept =
      simp (none, ink_laws, headed c (leaf plain) refl tag tag-kept, id-kept, lparen-kept, args-kept, rparen-kept, block-kept)

  pub ink_Macro_invocation : (id lparen args rparen : Tree)
      → Kept c (leaf plain) id → Kept c (leaf plain) lparen → Kept c arguments args → Kept c (leaf plain) rparen
      → Inked c place (MacroInvocation id lparen args rparen)
  unfolding events_in order_in ink_of inks ink blank comments stem one_of view
  ink_Macro_invocation id lparen args rparen id-kept lparen-kept args-kept rparen-kept =
      simp (none, ink_laws, headed c (leaf plain) refl id id-kept, lparen-kept, args-kept, rparen-kept)

  pub ink_Program_counter_definition : (star eq value : Tree)
      → Kept c (leaf plain) star → Kept c (leaf plain) eq → Kept c (leaf plain) value
      → Inked c place (ProgramCounterDefinition star eq value)
  unfolding events_in order_in ink_of inks ink blank comments stem one_of view
  ink_Program_counter_definition star eq value star-kept eq-kept value-kept =
      simp (none, ink_laws, headed c (leaf plain) refl star star-kept, eq-kept, value-kept)

  pub ink_Segment : (tag id block : Tree)
      → Kept c (leaf plain) tag → Kept c (leaf plain) id → Kept c (leaf plain) block
      → Inked c place (Segment tag id block)
  unfolding events_in order_in ink_of inks ink blank comments stem one_of view
  ink_Segment tag id block tag-kept id-kept block-kept =
      simp (none, ink_laws, headed c (leaf plain) refl tag tag-kept, id-kept, block-kept)

  pub ink_Test : (tag id block : Tree) → Kept c (leaf plain) tag → Kept c (leaf plain) id → Kept c (leaf plain) block → Inked c place (Test tag id block)
  unfolding events_in order_in ink_of inks ink blank comments stem one_of view
  ink_Test tag id block tag-kept id-kept block-kept =
      simp (none, ink_laws, headed c (leaf plain) refl tag tag-kept, id-kept, block-kept)

  pub ink_Text : (tag encoding' text : Tree)
      → Kept c (leaf plain) tag → Kept c (leaf encoding) encoding' → Kept c (leaf plain) text
      → Inked c place (Text tag encoding' text)
  unfolding events_in order_in ink_of inks ink blank comments stem one_of view
  ink_Text tag encoding' text tag-kept encoding-kept text-kept =
      simp (none, ink_laws, headed c (leaf plain) refl tag tag-kept, encoding-kept, text-kept)

  pub ink_Trace : (tag lparen args rparen : Tree)
      → Kept c (leaf plain) tag → Kept c (leaf plain) lparen → Kept c arguments args → Kept c (leaf plain) rparen
      → Inked c place (Trace tag lparen args rparen)
  unfolding events_in order_in ink_of inks ink blank comments stem one_of view
  ink_Trace tag lparen args rparen tag-kept lparen-kept args-kept rparen-kept =
      simp (none, ink_laws, headed c (leaf plain) refl tag tag-kept, lparen-kept, args-kept, rparen-kept)

  pub ink_Variable_definition : (ty id eq value : Tree)
      → Kept c (leaf variable_type) ty → Kept c (leaf plain) id → Kept c (leaf plain) eq → Kept c (leaf plain) value
      → Inked c place (VariableDefinition ty id eq value)
  unfolding events_in order_in ink_of inks ink blank comments stem one_of view
  ink_Variable_definition ty id eq value ty_kept id-kept eq-kept value-kept =
      simp (none, ink_laws, headed c (leaf variable_type) refl ty ty_kept, id-kept, eq-kept, value-kept)

  pub ink_Path_item : (text : List ℕ) → Inked c place (PathItem text)
  unfolding events_in order_in ink_of inks ink blank comments stem one_of view
  ink_Path_item text = simp (none, ink_laws)

  pub ink_Block : (lparen inner rparen : Tree) → Kept c (leaf plain) lparen
      → ink_of (events_in (deeper c) (tokens true first (block_end rparen)) true inner) ≡ inks (order_at c (leaf plain) inner) ++ inks (comments (own_trivia rparen))
      → Kept c (leaf plain) rparen → Inked c place (Block lparen inner rparen)
  unfolding events_in order_in ink_of inks ink blank comments stem one_of view
  ink_Block lparen inner rparen lparen-kept inner-kept rparen-kept =
      simp (none, ink_laws, headed c (leaf plain) refl lparen lparen-kept, ink_opening c c.options.braces.position, inner-kept, own_before c (leaf plain) rparen, rparen-kept)

  pub ink_Binary_expression : (op lhs rhs : Tree)
      → Kept c (leaf plain) lhs → Kept c (leaf operator) op → Kept c (leaf plain) rhs
      → Inked c place (BinaryExpression op lhs rhs)
  unfolding events_in order_in ink_of inks ink blank comments stem one_of view
  ink_Binary_expression op lhs rhs lhs-kept op-kept rhs-kept =
      simp (none, ink_laws, ink_stop, lhs-kept, op-kept, rhs-kept)

  pub ink_Factor : (factor tag_not tag_neg : Tree)
      → Kept c (leaf plain) tag_not → Kept c (leaf plain) tag_neg → Kept c (leaf plain) factor
      → Inked c place (Factor factor tag_not tag_neg)
  unfolding events_in order_in ink_of inks ink blank comments stem one_of view
  ink_Factor factor tag_not tag_neg tagNot-kept tagNeg-kept factor-kept =
      simp (none, ink_laws, ink_skip, tagNot-kept, tagNeg-kept, factor-kept)

  pub ink_Current_program_counter : (star : Tree) → Kept c (leaf plain) star → Inked c place (CurrentProgramCounter star)
  unfolding events_in order_in ink_of inks ink blank comments stem one_of view
  ink_Current_program_counter star star-kept =
      simp (none, ink_laws, star-kept)

  pub ink_Expr_parens : (lparen inner rparen : Tree)
      → Kept c (leaf plain) lparen → Kept c (leaf plain) inner → Kept c (leaf plain) rparen
      → Inked c place (ExprParens lparen inner rparen)
  unfolding events_in order_in ink_of inks ink blank comments stem one_of view
  ink_Expr_parens lparen inner rparen lparen-kept inner-kept rparen-kept =
      simp (none, ink_laws, lparen-kept, inner-kept, rparen-kept)

  pub ink_Function_call : (name lparen args rparen : Tree)
      → Kept c (leaf plain) name → Kept c (leaf plain) lparen → Kept c arguments args → Kept c (leaf plain) rparen
      → Inked c place (FunctionCall name lparen args rparen)
  unfolding events_in order_in ink_of inks ink blank comments stem one_of view
  ink_Function_call name lparen args rparen name-kept lparen-kept args-kept rparen-kept =
      simp (none, ink_laws, name-kept, lparen-kept, args-kept, rparen-kept)

  pub ink_Identifier_value : (path modifier' : Tree)
      → Kept c (leaf modifier) modifier' → Kept c (leaf plain) path
      → Inked c place (IdentifierValue path modifier')
  unfolding events_in order_in ink_of inks ink blank comments stem one_of view
  ink_Identifier_value path modifier' modifier-kept path-kept =
      simp (none, ink_laws, ink_skip, modifier-kept, path-kept)

  pub ink_Number : (ty value : Tree) → Kept c (leaf number_type) ty → Kept c (leaf plain) value → Inked c place (Number ty value)
  unfolding events_in order_in ink_of inks ink blank comments stem one_of view
  ink_Number ty value ty_kept value-kept =
      simp (none, ink_laws, ty_kept, value-kept)

  pub ink_String_factor : (string : Tree) → Kept c (leaf plain) string → Inked c place (StringFactor string)
  unfolding events_in order_in ink_of inks ink blank comments stem one_of view
  ink_String_factor string string-kept =
      simp (none, ink_laws, string-kept)

  pub ink_Interpolated_string : (lquote items : Tree)
      → Kept c (leaf plain) lquote → Kept c in_string items
      → Inked c place (InterpolatedString lquote items)
  unfolding events_in order_in ink_of inks ink blank comments stem one_of view
  ink_Interpolated_string lquote items lquote-kept items_kept =
      simp (none, ink_laws, lquote-kept, items_kept)

  pub ink_Operand : (expr lchar rchar mode suffix : Tree) → at_closing_character (index_of mode) rchar ≡ false
      → Kept c (leaf plain) expr → Kept c (leaf plain) lchar → Kept c (leaf plain) rchar → Kept c (leaf plain) suffix
      → Inked c place (Operand expr lchar rchar mode suffix)
  unfolding events_in order_in ink_of inks ink blank comments stem one_of view
  ink_Operand expr lchar rchar mode suffix unused expr-kept lchar-kept rchar-kept suffix-kept =
      simp (none, ink_laws, ink_stop, ink_skip, expr-kept, lchar-kept, ink_closing c (index_of mode) rchar suffix unused rchar-kept suffix-kept)

  pub ink_Register_suffix : (comma register' : Tree)
      → Kept c (leaf plain) comma → Kept c (leaf register) register'
      → Inked c place (RegisterSuffix comma register')
  unfolding events_in order_in ink_of inks ink blank comments stem one_of view
  ink_Register_suffix comma register' comma-kept register-kept =
      simp (none, ink_laws, comma-kept, register-kept)

  pub ink_Import_as : (tag path : Tree) → Kept c (leaf plain) tag → Kept c (leaf plain) path → Inked c place (ImportAs tag path)
  unfolding events_in order_in ink_of inks ink blank comments stem one_of view
  ink_Import_as tag path tag-kept path-kept =
      simp (none, ink_laws, tag-kept, path-kept)

  pub ink_Import_all : (star alias : Tree) → Kept c (leaf plain) star → Kept c (leaf plain) alias → Inked c place (ImportAll star alias)
  unfolding events_in order_in ink_of inks ink blank comments stem one_of view
  ink_Import_all star alias star-kept alias-kept =
      simp (none, ink_laws, star-kept, alias-kept)

  pub ink_Specific_import_arg : (path alias : Tree) → Kept c (leaf plain) path → Kept c (leaf plain) alias → Inked c place (SpecificImportArg path alias)
  unfolding events_in order_in ink_of inks ink blank comments stem one_of view
  ink_Specific_import_arg path alias path-kept alias-kept =
      simp (none, ink_laws, path-kept, alias-kept)
