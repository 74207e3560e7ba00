-- Reading: the tree of a class that stands at a place of the bytes, with the place behind it. It is defined on all bytes: where a record's own bytes break the
-- layout, or the levels end, the tree has a node with the refusal there.
use Rattle.answers.specs.declared.Refusal.{Refusal}
use Rattle.std.specs.Prelude.{ℕ, zero, suc, ◌+◌, ◌/◌, ◌%◌, List, [], ◌∷◌, ◌++◌, cond, get_or, replicate, eqb, Option, Result, Some, None, Ok, Err}
use Rattle.std.proofs.Math.Seq.{slice}
use Rattle.text.specs.Numbers.{number_at}
use Rattle.answers.specs.Numbers.{no_refusal, and_then, Checked}
use Rattle.tree.specs.Codes as codes
use Rattle.tree.specs.Grammar.{Slot, must, may, rule, fields}
use Rattle.tree.specs.Tree.{Tree, Trivium, absent, refused, node, built}
use Rattle.tree.specs.Own.{read_own}
use Rattle.tree.specs.declared.grammar.Class.{Class}
use Rattle.tree.specs.declared.own.Own.{Own}

-- ---- what a record's own bytes hold

-- the place behind a trivia item that keeps the layout
abbrev pub trivium_behind : List ℕ → ℕ → ℕ
trivium_behind bytes at = cond (eqb (get_or bytes at 0) codes.newline) (at + 1) (at + 3 + number_at bytes (at + 1))

abbrev pub trivium_text : List ℕ → ℕ → List ℕ
trivium_text bytes at = cond (eqb (get_or bytes at 0) codes.newline) [] (slice (at + 3) (at + 3 + number_at bytes (at + 1)) bytes)

-- trivia items, in stored order
unfoldable pub trivia_from : List ℕ → ℕ → ℕ → List Trivium
trivia_from bytes at zero = []
trivia_from bytes at (suc count) =
    record { code = get_or bytes at 0; text = trivium_text bytes at } ∷ trivia_from bytes (trivium_behind bytes at) count

abbrev pub trivia_of : List ℕ → Own → List Trivium
trivia_of bytes own = trivia_from bytes own.trivia own.trivia_count

abbrev pub text_of : List ℕ → Own → List ℕ
text_of bytes own = slice own.text own.end bytes

-- a text or trivia text with its place, for refusal 7
pub record Placed : Type 0 where
  pub place : ℕ
  pub bytes : List ℕ

unfoldable pub trivia_texts : List ℕ → ℕ → ℕ → List Placed
trivia_texts bytes at zero = []
trivia_texts bytes at (suc count) =
    record { place = at + 3; bytes = trivium_text bytes at } ∷ trivia_texts bytes (trivium_behind bytes at) count

abbrev pub texts_of : List ℕ → Own → List Placed
texts_of bytes own = trivia_texts bytes own.trivia own.trivia_count ++ (record { place = own.text; bytes = text_of bytes own } ∷ [])

-- ---- its parts

-- a part that is due: a field that does not stand, or a record of a class
pub data Due : Type 0 where
  nothing : Due
  due : Class → Due

abbrev pub slot_class : Slot → Class
slot_class (must class) = class
slot_class (may class) = class

-- the fields whose bits stand
unfoldable pub fields_due : List Slot → ℕ → List Due
fields_due [] bits = []
fields_due (slot ∷ slots) bits = cond (eqb (bits % 2) 1) (due (slot_class slot)) nothing ∷ fields_due slots (bits / 2)

-- the items of a list
abbrev pub items_due : Option Class → ℕ → List Due
items_due None count = []
items_due (Some class) count = replicate count (due class)

-- "fields left to right", or the items of a list
unfoldable pub parts_due : Class → Own → List Due
parts_due class own = fields_due (fields own.kind (rule class).value) (own.map / 2) ++ items_due (rule class).items own.count

-- ---- a record with its parts

-- what reading gives: the tree, the place behind it, the first refusal in stored order, and the texts in stored order
pub record Reading : Type 0 where
  pub tree : Tree
  pub end : ℕ
  pub checked : Checked
  pub texts : List Placed

pub record Readings : Type 0 where
  pub trees : List Tree
  pub end : ℕ
  pub checked : Checked
  pub texts : List Placed

-- a reader of a class at a place
abbrev pub Reader : Type 0
Reader = Class → ℕ → Reading

-- one reading and those behind it
abbrev pub joined_to : Reading → Readings → Readings
joined_to first rest = record {
  trees = first.tree ∷ rest.trees;
  end = rest.end;
  checked = and_then first.checked rest.checked;
  texts = first.texts ++ rest.texts;
}

abbrev pub with_absent : Readings → Readings
with_absent rest = record { trees = absent ∷ rest.trees; end = rest.end; checked = rest.checked; texts = rest.texts }

-- parts, one behind the other
unfoldable pub read_parts : Reader → List Due → ℕ → Readings
read_parts read [] at = record { trees = []; end = at; checked = no_refusal; texts = [] }
read_parts read (nothing ∷ parts) at = with_absent (read_parts read parts at)
read_parts read (due class ∷ parts) at = joined_to (read class at) (read_parts read parts (read class at).end)

abbrev pub record_of : List ℕ → ℕ → Own → Readings → Reading
record_of bytes at own parts = record {
  tree = node at (trivia_of bytes own) (built own.kind (text_of bytes own) parts.trees);
  end = parts.end;
  checked = parts.checked;
  texts = texts_of bytes own ++ parts.texts;
}

abbrev pub read_on : Reader → List ℕ → Class → ℕ → Result Own Refusal → Reading
read_on read bytes class at (Ok own) = record_of bytes at own (read_parts read (parts_due class own) own.end)
read_on read bytes class at (Err refusal) = record { tree = refused refusal; end = at; checked = Err refusal; texts = [] }

-- no level is left below: nothing is read there
abbrev pub unread : Reader
unread class at = record { tree = absent; end = at; checked = no_refusal; texts = [] }

-- the record of a class at a place, where so many levels are left: "The file list has depth 1, a field or list item one more than its record."
unfoldable pub read : ℕ → List ℕ → Class → ℕ → Reading
read zero bytes class at = read_on unread bytes class at (read_own bytes at class zero)
read (suc levels) bytes class at = read_on (read levels bytes) bytes class at (read_own bytes at class (suc levels))
