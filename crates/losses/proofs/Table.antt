-- The uses of a record's parts, kind by kind: what the kind itself tells, then the parts in stored order.
use Rattle.std.specs.Prelude.{Option, Some, None}
use mathlib.Core.Path.{◌≡◌, refl, sym, ap, ◌∙◌}
use mathlib.Core.List.{List, [], ◌∷◌, ◌++◌, append-nil, append_assoc}
use mathlib.Core.Bool.{Bool, true, false}
use Prim.Native.Nat.{ℕ, suc}
use lib.ListN.{get_or}
use lib.Dec.{eqb}
use Rattle.text.proofs.Choices.{true_false}
use Rattle.tree.specs.Grammar.{Slot, rule, fields}
use Rattle.tree.specs.Reading.{slot_class}
use Rattle.tree.specs.Tree.{Tree, absent, built}
use Rattle.tree.specs.declared.grammar.Kind.{Kind}
use Rattle.tree.specs.declared.grammar.Kind.TheVariants as variant
use Rattle.tree.specs.declared.grammar.Class.{Class}
use Rattle.tree.specs.declared.grammar.Class.TheVariants as class
use Rattle.events.specs.Views.{view, token_number}
use Rattle.events.specs.Views.{stands_at}
use Rattle.reading.specs.Places.{Use, opening_brace, mark, at_opening_brace, places_in}
use Rattle.losses.specs.Visits.{class_uses, seen_in, listed_below, kind_uses}

-- fields from a place on, by their slots
unfoldable pub slots_seen : Bool → List Slot → ℕ → List Tree → List Use
slots_seen listed [] place trees = []
slots_seen listed (slot ∷ slots) place trees = seen_in (slot_class slot) listed (get_or trees place absent) ++ slots_seen listed slots (suc place) trees

-- what a record's class tells of its parts by theirs is no use: neither the value of an argument nor an item of a list
abbrev pub Unlisted : Option Class → Type 0
Unlisted None = Unit
Unlisted (Some item) = (tree : Tree) → class_uses item true tree ≡ []

abbrev pub Untold : Class → Type 0
Untold class = ((listed : Bool) (tree : Tree) → class_uses (rule class).value listed tree ≡ []) × Unlisted (rule class).items

pub untold : (class : Class) → Untold class
untold class.Word = (λ listed tree. refl, tt)
untold class.Char = (λ listed tree. refl, tt)
untold class.OpenBrace = (λ listed tree. refl, tt)
untold class.CloseBrace = (λ listed tree. refl, tt)
untold class.Colon = (λ listed tree. refl, tt)
untold class.Unit = (λ listed tree. refl, tt)
untold class.Mnemonic = (λ listed tree. refl, tt)
untold class.IndexRegister = (λ listed tree. refl, tt)
untold class.AddressModifier = (λ listed tree. refl, tt)
untold class.VariableType = (λ listed tree. refl, tt)
untold class.NumberType = (λ listed tree. refl, tt)
untold class.DataSize = (λ listed tree. refl, tt)
untold class.BinaryOp = (λ listed tree. refl, tt)
untold class.TextEncoding = (λ listed tree. refl, tt)
untold class.AddressingMode = (λ listed tree. refl, tt)
untold class.StringItem = (λ listed tree. refl, tt)
untold class.LocatedExpression = (λ listed tree. refl, tt)
untold class.BareExpression = (λ listed tree. refl, tt)
untold class.LocatedFactor = (λ listed tree. refl, tt)
untold class.BareToken = (λ listed tree. refl, tt)
untold class.LocatedToken = (λ listed tree. refl, tt)
untold class.BlockRecord = (λ listed tree. refl, tt)
untold class.StringRecord = (λ listed tree. refl, tt)
untold class.OperandRecord = (λ listed tree. refl, tt)
untold class.SuffixRecord = (λ listed tree. refl, tt)
untold class.AsRecord = (λ listed tree. refl, tt)
untold class.ImportArguments = (λ listed tree. refl, λ tree. refl)
untold class.ImportPath = (λ listed tree. refl, tt)
untold class.ExpressionArgument = (λ listed tree. refl, tt)
untold class.IdentifierArgument = (λ listed tree. refl, tt)
untold class.ImportArgument = (λ listed tree. refl, tt)
untold class.Tokens = (λ listed tree. refl, λ tree. refl)
untold class.ExpressionArguments = (λ listed tree. refl, λ tree. refl)
untold class.IdentifierArguments = (λ listed tree. refl, λ tree. refl)
untold class.StringItems = (λ listed tree. refl, λ tree. refl)

-- a record that is no list
pub kind_uses_lem : (kind : Kind) (class : Class) (listed : Bool) (text : List ℕ) (trees : List Tree) → eqb (token_number (built kind text trees)) 24 ≡ false
    → places_in listed (built kind text trees)
    ≡ kind_uses listed (token_number (built kind text trees)) trees
    ++ slots_seen (listed_below (token_number (built kind text trees)) listed) (fields kind (rule class).value) 0 trees
unfolding places_in built slots_seen view
kind_uses_lem variant.Align class listed text trees other = simp (append_assoc, append-nil)
kind_uses_lem variant.Assert class listed text trees other = simp (append_assoc, append-nil)
kind_uses_lem variant.Braces class listed text trees other = simp (append_assoc, append-nil)
kind_uses_lem variant.Config class listed text trees other = simp (append_assoc, append-nil)
kind_uses_lem variant.ConfigPair class listed text trees other = simp (append_assoc, append-nil)
kind_uses_lem variant.Data class listed text trees other = simp (append_assoc, append-nil)
kind_uses_lem variant.Definition class listed text trees other = simp (append_assoc, append-nil)
kind_uses_lem variant.Eof class listed text trees other = simp (append_assoc, append-nil)
kind_uses_lem variant.Error class listed text trees other = simp (append_assoc, append-nil)
kind_uses_lem variant.Expression class listed text trees other = simp (append_assoc, append-nil)
kind_uses_lem variant.If class listed text trees other = simp (append_assoc, append-nil)
kind_uses_lem variant.Import class listed text trees other = simp (append_assoc, append-nil)
kind_uses_lem variant.File class listed text trees other = simp (append_assoc, append-nil)
kind_uses_lem variant.Instruction class listed text trees other = simp (append_assoc, append-nil)
kind_uses_lem variant.Label class listed text trees other = simp (append_assoc, append-nil)
kind_uses_lem variant.Loop class listed text trees other = simp (append_assoc, append-nil)
kind_uses_lem variant.MacroDefinition class listed text trees other = simp (append_assoc, append-nil)
kind_uses_lem variant.MacroInvocation class listed text trees other = simp (append_assoc, append-nil)
kind_uses_lem variant.ProgramCounterDefinition class listed text trees other = simp (append_assoc, append-nil)
kind_uses_lem variant.Segment class listed text trees other = simp (append_assoc, append-nil)
kind_uses_lem variant.Test class listed text trees other = simp (append_assoc, append-nil)
kind_uses_lem variant.Text class listed text trees other = simp (append_assoc, append-nil)
kind_uses_lem variant.Trace class listed text trees other = simp (append_assoc, append-nil)
kind_uses_lem variant.VariableDefinition class listed text trees other = simp (append_assoc, append-nil)
kind_uses_lem variant.Vec class listed text trees other = true_false other
kind_uses_lem variant.Leaf class listed text trees other = refl
kind_uses_lem variant.PathItem class listed text trees other = refl
kind_uses_lem variant.Block class listed text trees other =
    let brace : List Use = mark (stands_at (get_or trees 0 absent)) opening_brace (at_opening_brace listed (get_or trees 0 absent)) in
    let first : List Use = places_in listed (get_or trees 0 absent) in
    ap (λ (rest : List Use). brace ++ (first ++ (places_in listed (get_or trees 1 absent) ++ rest))) (sym (append-nil (places_in listed (get_or trees 2 absent))))
    ∙ sym (append_assoc brace first _)
kind_uses_lem variant.BinaryExpression class listed text trees other = simp (append_assoc, append-nil)
kind_uses_lem variant.Factor class listed text trees other = simp (append_assoc, append-nil)
kind_uses_lem variant.CurrentProgramCounter class listed text trees other = simp (append_assoc, append-nil)
kind_uses_lem variant.ExprParens class listed text trees other = simp (append_assoc, append-nil)
kind_uses_lem variant.FunctionCall class listed text trees other = simp (append_assoc, append-nil)
kind_uses_lem variant.IdentifierValue class listed text trees other = simp (append_assoc, append-nil)
kind_uses_lem variant.Number class listed text trees other = simp (append_assoc, append-nil)
kind_uses_lem variant.StringFactor class listed text trees other = simp (append_assoc, append-nil)
kind_uses_lem variant.InterpolatedString class listed text trees other = simp (append_assoc, append-nil)
kind_uses_lem variant.Operand class listed text trees other = simp (append_assoc, append-nil)
kind_uses_lem variant.RegisterSuffix class listed text trees other = simp (append_assoc, append-nil)
kind_uses_lem variant.ImportAs class listed text trees other = simp (append_assoc, append-nil)
kind_uses_lem variant.ImportAll class listed text trees other = simp (append_assoc, append-nil)
kind_uses_lem variant.SpecificImportArg class listed text trees other = simp (append_assoc, append-nil)
kind_uses_lem variant.ArgItem class listed text trees other = simp ((untold class).0 false (get_or trees 0 absent), append-nil)
