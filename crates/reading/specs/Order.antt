-- Reading order: document 01, "Reading order and the eight places". By recursion over the tree, without events, chunks or columns.
use Rattle.std.specs.Prelude.{ℕ, List, [], ◌∷◌, ◌++◌, Bool, cond, get_or, eqb, leb}
use Rattle.options.specs.Types.{options_of}
use Rattle.options.specs.declared.MnemonicOptions.{MnemonicOptions}
use Rattle.text.specs.Characters as characters
use Rattle.tree.specs.Codes as codes
use Rattle.tree.specs.Tree.{Tree, Trivium, absent, refused, node, nil, cons, Align, Assert, Braces, Config, ConfigPair, Data, Definition, Eof, Error}
use Rattle.tree.specs.Tree.{Expression, If, Import, File, Instruction, Label, Loop, MacroDefinition, MacroInvocation, ProgramCounterDefinition}
use Rattle.tree.specs.Tree.{Segment, Test, Text, Trace, VariableDefinition, Vec, Leaf, PathItem, Block, BinaryExpression, Factor}
use Rattle.tree.specs.Tree.{CurrentProgramCounter, ExprParens, FunctionCall, IdentifierValue, Number, StringFactor, InterpolatedString, Operand}
use Rattle.tree.specs.Tree.{RegisterSuffix, ImportAs, ImportAll, SpecificImportArg, ArgItem}
use Rattle.printing.specs.declared.Context.{Context}
use Rattle.events.specs.Printed.{Style, plain, mnemonic, register, operator, data_size, encoding, variable_type, number_type, modifier, printed}
use Rattle.events.specs.Views.{own_trivia, index_of}

-- "A comment is trivia of code 2 or 3", the two last codes
abbrev pub is_comment : Trivium → Bool
is_comment item = leb codes.c_style item.code

-- "its trivia's comments, in stored order and with their bytes as stored; whitespace and newlines in trivia give nothing"
unfoldable pub comments : List Trivium → List (List ℕ)
comments [] = []
comments (item ∷ items) = cond (is_comment item) (item.text ∷ comments items) (comments items)

-- a context of two casings; of the rest of it no leaf's text depends
abbrev pub cased_context : MnemonicOptions → Context
cased_context casings =
    let options = options_of 1 1 0 4 20 1 30 8 in
    record { options = record { mnemonics = casings; braces = options.braces; whitespace = options.whitespace; listing = options.listing }; indent = 0 }

-- "A leaf gives its printed text, if any, mnemonic and register in the chosen casing."
unfoldable pub shown_as : MnemonicOptions → Style → List ℕ → List ℕ
shown_as casings style text = printed (cased_context casings) style text

-- the closing character and the suffix of an operand by its addressing mode, 4 is `OuterIndirect`; where the character is not printed it comes last
abbrev pub closing_order : List ℕ → List (List ℕ) → List (List ℕ) → List (List ℕ)
closing_order mode rchar suffix = cond (eqb (get_or mode 0 0) codes.outer_indirect) (rchar ++ suffix) (suffix ++ rchar)

-- the texts of a tree in reading order, where a leaf prints in a style: "A list gives its records, first to last. Any other record gives its trivia's comments ...
-- Then it gives its parts as printed, each once, in the order of printing (a binary expression's left side first). ... A string adds its closing quote, a path
-- item the braces round it." The leaf of `Eof` has no text, a label's colon is `:`, and the addressing mode gives nothing.
unfoldable pub order_in : MnemonicOptions → Style → Tree → List (List ℕ)
order_in casings style absent = []
order_in casings style (refused refusal) = []
order_in casings style (node place trivia tree) = comments trivia ++ order_in casings style tree
order_in casings style nil = []
order_in casings style (cons item items) = order_in casings style item ++ order_in casings style items
order_in casings style (Align tag value) = order_in casings plain tag ++ order_in casings plain value
order_in casings style (Assert tag value message) = order_in casings plain tag ++ (order_in casings plain value ++ order_in casings plain message)
order_in casings style (Braces block) = order_in casings plain block
order_in casings style (Config block) = order_in casings plain block
order_in casings style (ConfigPair key eq value) = order_in casings plain key ++ (order_in casings plain eq ++ order_in casings plain value)
order_in casings style (Data values size) = order_in casings data_size size ++ order_in casings plain values
order_in casings style (Definition tag id value) = order_in casings plain tag ++ (order_in casings plain id ++ order_in casings plain value)
order_in casings style (Eof unit) = comments (own_trivia unit)
order_in casings style (Error text) = order_in casings plain text
order_in casings style (Expression expression) = order_in casings plain expression
order_in casings style (If tag_if value then tag_else otherwise) =
    order_in casings plain tag_if ++ (order_in casings plain value ++ (order_in casings plain then ++ (order_in casings plain tag_else
    ++ order_in casings plain otherwise)))
order_in casings style (Import tag args source filename block) =
    order_in casings plain tag ++ (order_in casings plain args ++ (order_in casings plain source ++ (order_in casings plain filename
    ++ order_in casings plain block)))
order_in casings style (File tag filename) = order_in casings plain tag ++ order_in casings plain filename
order_in casings style (Instruction mnemonic' operand) = order_in casings mnemonic mnemonic' ++ order_in casings plain operand
order_in casings style (Label id colon block) = order_in casings plain id ++ (comments (own_trivia colon) ++ ((characters.colon ∷ []) ∷ order_in casings plain block))
order_in casings style (Loop tag expr block) = order_in casings plain tag ++ (order_in casings plain expr ++ order_in casings plain block)
order_in casings style (MacroDefinition tag id lparen args rparen block) =
    order_in casings plain tag ++ (order_in casings plain id ++ (order_in casings plain lparen ++ (order_in casings plain args
    ++ (order_in casings plain rparen ++ order_in casings plain block))))
order_in casings style (MacroInvocation id lparen args rparen) = order_in casings plain id ++ (order_in casings plain lparen ++ (order_in casings plain args ++ order_in casings plain rparen))
order_in casings style (ProgramCounterDefinition star eq value) = order_in casings plain star ++ (order_in casings plain eq ++ order_in casings plain value)
order_in casings style (Segment tag id block) = order_in casings plain tag ++ (order_in casings plain id ++ order_in casings plain block)
order_in casings style (Test tag id block) = order_in casings plain tag ++ (order_in casings plain id ++ order_in casings plain block)
order_in casings style (Text tag encoding' text) = order_in casings plain tag ++ (order_in casings encoding encoding' ++ order_in casings plain text)
order_in casings style (Trace tag lparen args rparen) = order_in casings plain tag ++ (order_in casings plain lparen ++ (order_in casings plain args ++ order_in casings plain rparen))
order_in casings style (VariableDefinition ty id eq value) = order_in casings variable_type ty ++ (order_in casings plain id ++ (order_in casings plain eq ++ order_in casings plain value))
order_in casings style (Vec items) = order_in casings style items
order_in casings style (Leaf text) = shown_as casings style text ∷ []
order_in casings style (PathItem text) = (characters.opening_brace ∷ []) ∷ text ∷ (characters.closing_brace ∷ []) ∷ []
order_in casings style (Block lparen inner rparen) = order_in casings plain lparen ++ (order_in casings plain inner ++ order_in casings plain rparen)
order_in casings style (BinaryExpression op lhs rhs) = order_in casings plain lhs ++ (order_in casings operator op ++ order_in casings plain rhs)
order_in casings style (Factor factor tag_not tag_neg) = order_in casings plain tag_not ++ (order_in casings plain tag_neg ++ order_in casings plain factor)
order_in casings style (CurrentProgramCounter star) = order_in casings plain star
order_in casings style (ExprParens lparen inner rparen) = order_in casings plain lparen ++ (order_in casings plain inner ++ order_in casings plain rparen)
order_in casings style (FunctionCall name lparen args rparen) = order_in casings plain name ++ (order_in casings plain lparen ++ (order_in casings plain args ++ order_in casings plain rparen))
order_in casings style (IdentifierValue path modifier') = order_in casings modifier modifier' ++ order_in casings plain path
order_in casings style (Number ty value) = order_in casings number_type ty ++ order_in casings plain value
order_in casings style (StringFactor string) = order_in casings plain string
order_in casings style (InterpolatedString lquote items) = order_in casings plain lquote ++ (order_in casings plain items ++ ((characters.quote ∷ []) ∷ []))
order_in casings style (Operand expr lchar rchar mode suffix) =
    order_in casings plain lchar ++ (order_in casings plain expr
    ++ closing_order (index_of mode) (order_in casings plain rchar) (order_in casings plain suffix))
order_in casings style (RegisterSuffix comma register') = order_in casings plain comma ++ order_in casings register register'
order_in casings style (ImportAs tag path) = order_in casings plain tag ++ order_in casings plain path
order_in casings style (ImportAll star alias) = order_in casings plain star ++ order_in casings plain alias
order_in casings style (SpecificImportArg path alias) = order_in casings plain path ++ order_in casings plain alias
order_in casings style (ArgItem value comma) = order_in casings plain value ++ order_in casings plain comma

-- the reading order of a file
abbrev pub order : MnemonicOptions → Tree → List (List ℕ)
order casings tree = order_in casings plain tree
