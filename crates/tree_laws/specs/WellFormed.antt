-- Which trees are well formed: document 01, "Tree", by the grammar alone, without bytes and without reading. Stored forms serve only for places: a record's place
-- is the length of what is stored before it.
use Rattle.std.specs.Prelude.{ℕ, zero, suc, ◌+◌, ◌≤◌, ◌<◌, ◌≡◌, List, [], ◌∷◌, Bool, true, ◌⊎◌, length, get_or, Some}
use Rattle.text.specs.Accepted.{accepted_text}
use Rattle.tree.specs.Codes as codes
use Rattle.tree.specs.Grammar.{Slot, may, kind_of, kind_number, rule, fields}
use Rattle.tree.specs.Tree.{Tree, Trivium, absent, node, Vec, Leaf, PathItem, chain, built}
use Rattle.tree.specs.Reading.{slot_class}
use Rattle.tree.specs.Stored.{stored_trivia, stored}
use Rattle.tree.specs.declared.grammar.Kind.{Kind}
use Rattle.tree.specs.declared.grammar.Kind.TheVariants as variant
use Rattle.tree.specs.declared.grammar.Class.{Class}
use Rattle.tree.specs.declared.grammar.TextRule.{TextRule}
use Rattle.tree.specs.declared.grammar.TextRule.TheVariants.{NoText, Free, Byte}

-- ---- trivia and texts

-- "each a code (0 whitespace, 1 newline, 2 C style, 3 C++ style) and, but for newline, a two-byte length and bytes"; "Only texts of bytes 0 to 127 are accepted."
pub record TriviumFits (item : Trivium) : Type 0 where
  pub code : item.code ≤ codes.cpp_style
  pub newline : item.code ≡ codes.newline → item.text ≡ []
  pub long : length item.text ≤ 65535
  pub accepted : accepted_text item.text ≡ true

-- items, each of which fits
pub data EachFits : List Trivium → Type 0 where
  none : EachFits []
  next : {item : Trivium} {items : List Trivium} → TriviumFits item → EachFits items → EachFits (item ∷ items)

-- "Bit 0 may stand only where the Rust has a `Located`": elsewhere there are no trivia. "Trivia: two-byte count"
pub data TriviaFit : Bool → List Trivium → Type 0 where
  without : {located : Bool} → TriviaFit located []
  with : {items : List Trivium} → length items ≤ 65535 → EachFits items → TriviaFit true items

-- "Kinds 25 and 26 use bit 1 for text: two-byte length, at least 1, bytes. An absent text prints nothing": absent is empty. "Where the Rust type is an enum, the
-- text is one byte, its index in declared order, within range. A `char` is one byte; both must stand. `Eof`'s leaf has no text. Braces of a block are `{` and `}`, a
-- label's colon `:`."
pub data TextFits : TextRule → List ℕ → Type 0 where
  none : TextFits NoText []
  free : {text : List ℕ} → length text ≤ 65535 → accepted_text text ≡ true → TextFits Free text
  one : {low high byte : ℕ} → low ≤ byte → byte ≤ high → accepted_text (byte ∷ []) ≡ true → TextFits (Byte low high) (byte ∷ [])

-- ---- parts, each at the place behind the one before it

module _ (Below : Class → ℕ → Tree → Type 0) where
  -- "A field is an `Option` in ast.rs or it must stand": each field stands, at its class, or is left out where it may be
  pub data FieldsFit : List Slot → ℕ → List Tree → Type 0 where
    none : {at : ℕ} → FieldsFit [] at []
    standing : {slot : Slot} {slots : List Slot} {at : ℕ} {part : Tree} {parts : List Tree}
        → Below (slot_class slot) at part → FieldsFit slots (at + length (stored part)) parts → FieldsFit (slot ∷ slots) at (part ∷ parts)
    left_out : {class : Class} {slots : List Slot} {at : ℕ} {parts : List Tree}
        → FieldsFit slots at parts → FieldsFit (may class ∷ slots) at (absent ∷ parts)

  -- the items of a list
  pub data ItemsFit (class : Class) : ℕ → List Tree → Type 0 where
    none : {at : ℕ} → ItemsFit class at []
    next : {at : ℕ} {item : Tree} {items : List Tree} → Below class at item → ItemsFit class (at + length (stored item)) items → ItemsFit class at (item ∷ items)

-- ---- a record

-- "Which kind may stand in a field follows its Rust type."
abbrev pub Within : Class → ℕ → Type 0
Within class number = (kind_number (rule class).first ≤ number) × (number ≤ kind_number (rule class).last)

-- "`tag_else` and `else_` stand together or not at all"
abbrev pub ElseFits : Kind → List Tree → Type 0
ElseFits kind parts =
    kind ≡ variant.If
    → (get_or parts 3 absent ≡ absent → get_or parts 4 absent ≡ absent) × (get_or parts 4 absent ≡ absent → get_or parts 3 absent ≡ absent)

-- a record of a class at a place, whose parts are formed below it
pub data Formed (Below : Class → ℕ → Tree → Type 0) (class : Class) (at : ℕ) : Tree → Type 0 where
  -- "24 list (map 0, two-byte count, the records)": no trivia, and the items behind four bytes
  list : {item : Class} {items : List Tree} → (rule class).items ≡ Some item → length items ≤ 65535 → ItemsFit Below item (at + 4) items
      → Formed Below class at (node at [] (Vec (chain items)))
  -- "25 leaf"
  leaf : {trivia : List Trivium} {text : List ℕ} → Within class 25 → TriviaFit (rule class).located trivia → TextFits (rule class).text text
      → Formed Below class at (node at trivia (Leaf text))
  -- "26 path item of a string", which always is `Located`
  path : {trivia : List Trivium} {text : List ℕ} → Within class 26 → TriviaFit true trivia → TextFits (rule class).text text
      → Formed Below class at (node at trivia (PathItem text))
  -- every other kind, with its fields behind "kind byte, map byte, trivia if bit 0 stands"
  fielded : {number : ℕ} {kind : Kind} {trivia : List Trivium} {parts : List Tree}
      → kind_of number ≡ Some kind → (number < 24) ⊎ (26 < number) → Within class number → TriviaFit (rule class).located trivia
      → FieldsFit Below (fields kind (rule class).value) (at + 2 + length (stored_trivia trivia)) parts → ElseFits kind parts
      → Formed Below class at (node at trivia (built kind [] parts))

-- a tree of a class at a place that has so many levels at the most: "The file list has depth 1, a field or list item one more than its record."
unfoldable pub WellFormed : ℕ → Class → ℕ → Tree → Type 0
WellFormed zero class at tree = ⊥
WellFormed (suc levels) class at tree = Formed (WellFormed levels) class at tree
