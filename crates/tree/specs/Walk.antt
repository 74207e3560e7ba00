-- Not part of the promises about a tree: the sets of maps as numbers, what the reading of a record's own bytes hands
-- on, the parts that a plan is one of, what the check's inner functions hand on, and the first field behind own bytes.
use Rattle.answers.specs.Numbers.{Checked}
use Rattle.std.specs.Prelude.{ℕ, ◌+◌, ◌-◌, ◌/◌, ◌%◌, ◌^◌, ◌≤◌, ◌<◌, ◌≡◌, List, [], ◌∷◌, ◌++◌, Bool, false, ◌&&◌, cond, length, replicate, get_or, eqb, ltb, leb, Option, Result, Some, None, Ok, Err}
use Rattle.answers.specs.declared.Refusal.{Refusal}
use Rattle.text.specs.Accepted.{accepted_text, fault_at}
use Rattle.tree.specs.Grammar.{Slot, kind_of, rule, fields}
use Rattle.tree.specs.Parts.{first_class}
use Rattle.tree.specs.declared.parts.Head.{Head}
use Rattle.tree.specs.Own.{may_stand, fields_fit, trivia_read, layout, own_of, trivia_of_record, map_of_record}
use Rattle.tree.specs.Reading.{Placed, Reading, Reader, Due, nothing, due, fields_due}
use Rattle.tree.specs.Rows.{row_of}
use Rattle.tree.specs.declared.grammar.Class.{Class}
use Rattle.tree.specs.declared.grammar.Kind.{Kind}
use Rattle.tree.specs.declared.grammar.Kind.TheVariants.{Leaf}
use Rattle.tree.specs.declared.grammar.Rule.{Rule}
use Rattle.tree.specs.declared.grammar.TextRule.{TextRule}
use Rattle.tree.specs.declared.grammar.TextRule.TheVariants.{NoText, Free, Byte}
use Rattle.tree.specs.declared.own.Own.{Own}
use Rattle.tree.specs.declared.own.TriviaSpan.{TriviaSpan}
use Rattle.tree.specs.declared.own.Rest.{Rest}
use Rattle.tree.specs.declared.check.Plan.{Plan}

-- ---- sets: the maps of a kind's fields in one number

-- whether a set has a number
abbrev pub holds : ℕ → ℕ → Bool
holds set number = eqb (set / 2 ^ number % 2) 1

-- the bits that fit are those in the set; of a map's bits none from 64 on do
pub record SetOf (set : ℕ) (slots : List Slot) : Type 0 where
  pub within : (bits : ℕ) → bits < 64 → holds set bits ≡ fields_fit slots bits
  pub past : (bits : ℕ) → 64 ≤ bits → bits < 128 → false ≡ fields_fit slots bits

-- ---- a record's own bytes

-- whether a text that stands is one of a rule's
abbrev pub allows : TextRule → List ℕ → Bool
allows NoText text = false
allows Free text = ltb 0 (length text)
allows (Byte low high) text = eqb (length text) 1 && (leb low (get_or text 0 0) && leb (get_or text 0 0) high)

-- the answer of a record whose first two bytes are judged
abbrev pub judged_on : List ℕ → ℕ → Rule → ℕ → Option (Kind × ℕ) → Result Own Refusal
judged_on bytes at rule number (Some (kind, map)) = trivia_of_record bytes at rule number kind map (trivia_read bytes (at + 2) (map % 2))
judged_on bytes at rule number None = Err (layout at)

-- the same by the definition
unfoldable pub first_bytes : List ℕ → ℕ → Rule → ℕ → Result Own Refusal
first_bytes bytes at rule number = cond (may_stand rule number) (map_of_record bytes at rule number (kind_of number)) (Err (layout at))

-- the answer of a record by what stands behind its trivia
abbrev pub rest_on : ℕ → Kind → ℕ → TriviaSpan → Option Rest → Result Own Refusal
rest_on at kind map trivia (Some rest) = Ok (own_of kind map trivia rest.text rest.end rest.count)
rest_on at kind map trivia None = Err (layout at)

-- the answer of a record by what was found of it
abbrev pub found_on : ℕ → Option Own → Result Own Refusal
found_on at (Some own) = Ok own
found_on at None = Err (layout at)

-- the own bytes of a leaf with a text and no trivia
abbrev pub bare_leaf : ℕ → ℕ → Own
bare_leaf at end = record { kind = Leaf; map = 2; trivia = at + 2; trivia_count = 0; text = at + 4; end = end; count = 0 }

-- ---- plans: the parts of a record that are still to be read

-- the parts of a plan whose row is made of slots
pub record Plans (plan : Plan) (parts : List Due) : Type 0 where
  pub slots : List Slot
  pub row : plan.row ≡ row_of slots
  pub same : parts ≡ fields_due slots plan.bits ++ replicate plan.count (due plan.item)

-- parts without those that do not stand
unfoldable pub standing : List Due → List Class
standing [] = []
standing (nothing ∷ parts) = standing parts
standing (due class ∷ parts) = class ∷ standing parts

-- the next part of some parts, and a plan of the rest
abbrev pub NextOf : Option (Class × Plan) → List Due → Type 0
NextOf (Some (class, rest)) parts = (others : List Due) × (standing parts ≡ class ∷ standing others) × Plans rest others
NextOf None parts = standing parts ≡ []

-- ---- refusal 7 while the tree is read

-- the place of the first byte that no text may hold; a place past the bytes while there is none
abbrev pub fault_with : List ℕ → ℕ → Placed → ℕ
fault_with bytes fault text = cond (ltb fault (length bytes)) fault (cond (accepted_text text.bytes) fault (text.place + fault_at text.bytes))

unfoldable pub fault_from : List ℕ → ℕ → List Placed → ℕ
fault_from bytes fault [] = fault
fault_from bytes fault (text ∷ texts) = fault_from bytes (fault_with bytes fault text) texts

-- ---- a record that was read

abbrev pub record_on : List ℕ → ℕ → ℕ → List Placed → Checked → Result (ℕ × ℕ) Refusal
record_on bytes fault end texts (Ok tt) = Ok (end, (fault_from bytes fault texts))
record_on bytes fault end texts (Err refusal) = Err refusal

unfoldable pub record_read : List ℕ → ℕ → Reading → Result (ℕ × ℕ) Refusal
record_read bytes fault reading = record_on bytes fault reading.end reading.texts reading.checked

-- ---- records one behind the other

-- what is read behind a record that was read whole
abbrev pub onward : Result (ℕ × ℕ) Refusal → (ℕ → ℕ → Result (ℕ × ℕ) Refusal) → Result (ℕ × ℕ) Refusal
onward (Ok (end, fault)) next = next end fault
onward (Err refusal) next = Err refusal

-- a reader of a class at a place, with the first byte that no text may hold
abbrev pub Walker : Type 0
Walker = Class → ℕ → ℕ → Result (ℕ × ℕ) Refusal

-- records of these classes
unfoldable pub walked : Walker → List Class → ℕ → ℕ → Result (ℕ × ℕ) Refusal
walked walker [] place fault = Ok (place, fault)
walked walker (class ∷ classes) place fault = onward (walker class place fault) (walked walker classes)

-- the walker of a reader
abbrev pub walker_of : Reader → List ℕ → Walker
walker_of reader bytes class place fault = record_read bytes fault (reader class place)

-- ---- a token's head

-- the first field behind own bytes
abbrev pub first_field : ℕ → Class → Own → Head
first_field levels class own = record { place = own.end; class = first_class class (fields own.kind (rule class).value); levels = levels - 1 }
