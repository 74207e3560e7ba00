-- A record's own bytes: document 01, "Tree", and refusals 4 and 5. "A record's own bytes are judged before its fields": kind, map, trivia, and a
-- list's count or a leaf's text, in the order in which they are read.
use Rattle.std.specs.Prelude.{ℕ, zero, suc, ◌+◌, ◌/◌, ◌%◌, ◌≤◌, ◌≡◌, List, [], ◌∷◌, Bool, true, false, cond, not, ◌&&◌, ◌||◌, length, get_or, eqb, ltb, leb, Option, Result, Some, None, Ok, Err}
use Rattle.answers.specs.Numbers.{numbers_of}
use Rattle.answers.specs.declared.Refusal.{Refusal}
use Rattle.answers.specs.declared.Reason.TheVariants.{TreeDepth, TreeLayout}
use Rattle.text.specs.Numbers.{read_number}
use Rattle.tree.specs.Kinds as kinds
use Rattle.tree.specs.Codes as codes
use Rattle.tree.specs.Grammar.{Slot, must, may, kind_of, kind_number, rule, fields}
use Rattle.tree.specs.declared.grammar.Kind.{Kind}
use Rattle.tree.specs.declared.grammar.Class.{Class}
use Rattle.tree.specs.declared.grammar.TextRule.{TextRule}
use Rattle.tree.specs.declared.grammar.TextRule.TheVariants.{NoText, Free, Byte}
use Rattle.tree.specs.declared.grammar.Rule.{Rule}
use Rattle.tree.specs.declared.own.Own.{Own}
use Rattle.tree.specs.declared.own.TriviaSpan.{TriviaSpan}

-- ---- the kind

abbrev pub is_list : Option Class → Bool
is_list None = false
is_list (Some class) = true

-- "Which kind may stand in a field follows its Rust type."
abbrev pub may_stand : Rule → ℕ → Bool
may_stand rule number = cond (eqb number kinds.vec) (is_list rule.items) (leb (kind_number rule.first) number && leb number (kind_number rule.last))

-- ---- the map

-- the fields' bits: "A field is an `Option` in ast.rs or it must stand", and no bit stands for no field
unfoldable pub fields_fit : List Slot → ℕ → Bool
fields_fit [] bits = eqb bits 0
fields_fit (must class ∷ slots) bits = eqb (bits % 2) 1 && fields_fit slots (bits / 2)
fields_fit (may class ∷ slots) bits = fields_fit slots (bits / 2)

-- "Kinds 25 and 26 use bit 1 for text"
abbrev pub text_fits : TextRule → ℕ → Bool
text_fits NoText bits = eqb bits 0
text_fits Free bits = ltb bits 2
text_fits (Byte low high) bits = eqb bits 1

-- "`tag_else` and `else_` stand together or not at all": bits 4 and 5 of an `If`
abbrev pub else_fits : ℕ → ℕ → Bool
else_fits number bits = not (eqb number kinds.if) || eqb (bits / 8 % 2) (bits / 16 % 2)

-- "Bit 0 may stand only where the Rust has a `Located`"; a path item always is one
abbrev pub trivia_fits : Rule → ℕ → ℕ → Bool
trivia_fits rule number map = eqb (map % 2) 0 || (rule.located || eqb number kinds.path_item)

-- the whole map against the kind; a list has map 0
unfoldable pub map_fits : Rule → ℕ → Kind → ℕ → Bool
map_fits rule number kind map =
    cond (eqb number kinds.vec) (eqb map 0)
    (trivia_fits rule number map
    && cond (eqb number kinds.leaf || eqb number kinds.path_item) (text_fits rule.text (map / 2))
    (else_fits number (map / 2) && fields_fit (fields kind rule.value) (map / 2)))

-- ---- trivia

-- a two-byte length and as many bytes
abbrev pub sized_on : List ℕ → ℕ → Option ℕ → Option ℕ
sized_on bytes at None = None
sized_on bytes at (Some count) = cond (ltb (length bytes) (at + 2 + count)) None (Some (at + 2 + count))

unfoldable pub sized_end : List ℕ → ℕ → Option ℕ
sized_end bytes at = sized_on bytes at (read_number bytes at)

-- "each a code (0 whitespace, 1 newline, 2 C style, 3 C++ style) and, but for newline, a two-byte length and bytes"
unfoldable pub trivium_end : List ℕ → ℕ → Option ℕ
trivium_end bytes at =
    cond (leb (length bytes) at) None
    (cond (eqb (get_or bytes at 0) codes.newline) (Some (at + 1))
    (cond (ltb codes.cpp_style (get_or bytes at 0)) None (sized_end bytes (at + 1))))

-- what stands behind a part
abbrev pub behind : Option ℕ → (ℕ → Option ℕ) → Option ℕ
behind (Some place) next = next place
behind None next = None

unfoldable pub trivia_end : List ℕ → ℕ → ℕ → Option ℕ
trivia_end bytes at zero = Some at
trivia_end bytes at (suc count) = behind (trivium_end bytes at) (λ place. trivia_end bytes place count)

abbrev pub trivia_span : ℕ → ℕ → Option ℕ → Option TriviaSpan
trivia_span first count (Some end) = Some (record { first = first; count = count; end = end })
trivia_span first count None = None

-- "Trivia: two-byte count (at least 1)"
abbrev pub trivia_on : List ℕ → ℕ → Option ℕ → Option TriviaSpan
trivia_on bytes at None = None
trivia_on bytes at (Some count) = cond (eqb count 0) None (trivia_span (at + 2) count (trivia_end bytes (at + 2) count))

-- "trivia if bit 0 stands"
unfoldable pub trivia_read : List ℕ → ℕ → ℕ → Option TriviaSpan
trivia_read bytes at bit = cond (eqb bit 0) (Some (record { first = at; count = 0; end = at })) (trivia_on bytes at (read_number bytes at))

-- ---- a leaf's text, and a list's count

-- "two-byte length, at least 1, bytes"; of a `char` or an enum one byte within its range
abbrev pub text_on : List ℕ → ℕ → TextRule → ℕ → Option ℕ
text_on bytes at NoText count = None
text_on bytes at Free count = cond (ltb (length bytes) (at + 2 + count)) None (Some (at + 2 + count))
text_on bytes at (Byte low high) count =
    cond (eqb count 1 && (ltb (at + 2) (length bytes) && (leb low (get_or bytes (at + 2) 0) && leb (get_or bytes (at + 2) 0) high)))
    (Some (at + 3)) None

abbrev pub text_of_count : List ℕ → ℕ → TextRule → Option ℕ → Option ℕ
text_of_count bytes at rule None = None
text_of_count bytes at rule (Some count) = cond (eqb count 0) None (text_on bytes at rule count)

unfoldable pub text_end : List ℕ → ℕ → TextRule → Option ℕ
text_end bytes at rule = text_of_count bytes at rule (read_number bytes at)

-- ---- the record

abbrev pub layout : ℕ → Refusal
layout place = record { reason = TreeLayout; place = place }

abbrev pub own_of : Kind → ℕ → TriviaSpan → ℕ → ℕ → ℕ → Own
own_of kind map trivia text end count = record {
  kind = kind;
  map = map;
  trivia = trivia.first;
  trivia_count = trivia.count;
  text = text;
  end = end;
  count = count;
}

abbrev pub leaf_on : ℕ → Kind → ℕ → TriviaSpan → Option ℕ → Result Own Refusal
leaf_on at kind map trivia (Some end) = Ok (own_of kind map trivia (trivia.end + 2) end 0)
leaf_on at kind map trivia None = Err (layout at)

abbrev pub list_on : ℕ → Kind → ℕ → TriviaSpan → Option ℕ → Result Own Refusal
list_on at kind map trivia (Some count) = Ok (own_of kind map trivia (trivia.end + 2) (trivia.end + 2) count)
list_on at kind map trivia None = Err (layout at)

-- behind the trivia: a list's count, a leaf's text where its bit stands, or nothing more
unfoldable pub rest_of : List ℕ → ℕ → TextRule → ℕ → Kind → ℕ → TriviaSpan → Result Own Refusal
rest_of bytes at text number kind map trivia =
    cond (eqb number kinds.vec) (list_on at kind map trivia (read_number bytes trivia.end))
    (cond ((eqb number kinds.leaf || eqb number kinds.path_item) && leb 2 map) (leaf_on at kind map trivia (text_end bytes trivia.end text))
    (Ok (own_of kind map trivia trivia.end trivia.end 0)))

abbrev pub trivia_of_record : List ℕ → ℕ → Rule → ℕ → Kind → ℕ → Option TriviaSpan → Result Own Refusal
trivia_of_record bytes at rule number kind map (Some trivia) = rest_of bytes at rule.text number kind map trivia
trivia_of_record bytes at rule number kind map None = Err (layout at)

abbrev pub map_of_record : List ℕ → ℕ → Rule → ℕ → Option Kind → Result Own Refusal
map_of_record bytes at rule number None = Err (layout at)
map_of_record bytes at rule number (Some kind) =
    cond (ltb (length bytes) (at + 2)) (Err (layout at))
    (cond (map_fits rule number kind (get_or bytes (at + 1) 0))
    (trivia_of_record bytes at rule number kind (get_or bytes (at + 1) 0) (trivia_read bytes (at + 2) (get_or bytes (at + 1) 0 % 2)))
    (Err (layout at)))

-- the own bytes of a record of a class whose first byte stands at a place: "A record breaks the layout (its place)"
unfoldable pub own_at : List ℕ → ℕ → Class → Result Own Refusal
own_at bytes at class =
    cond (may_stand (rule class) (get_or bytes at 0))
    (map_of_record bytes at (rule class) (get_or bytes at 0) (kind_of (get_or bytes at 0)))
    (Err (layout at))

-- "a record is due at the end (the tree's length)"; "A record's first byte stands at depth above 64 (tested before its kind); its place."
unfoldable pub read_own : List ℕ → ℕ → Class → ℕ → Result Own Refusal
read_own bytes at class levels =
    cond (leb (length bytes) at) (Err (layout (length bytes)))
    (cond (eqb levels 0) (Err (record { reason = TreeDepth; place = at })) (own_at bytes at class))

-- what holds of own bytes that were read: they stand behind the record's place and within the bytes, and their trivia items keep the layout
pub record OwnFits (bytes : List ℕ) (at : ℕ) (own : Own) : Type 0 where
  pub behind : at + 2 ≤ own.text
  pub part : own.text ≤ own.end
  pub inside : own.end ≤ length bytes
  pub trivia : at + 2 ≤ own.trivia
  pub items : (end : ℕ) × (trivia_end bytes own.trivia own.trivia_count ≡ Some end) × (end ≤ own.text)

abbrev pub Fits : List ℕ → ℕ → Result Own Refusal → Type 0
Fits bytes at (Ok own) = OwnFits bytes at own
Fits bytes at (Err refusal) = Unit

-- ---- in document 01's numbers: 0 with the place behind the own bytes, or a refusal's number and place

abbrev pub numbers_own : Result Own Refusal → ℕ × ℕ
numbers_own (Ok own) = (0, own.end)
numbers_own (Err refusal) = numbers_of refusal

-- whether own bytes were read, and where they end
abbrev pub was_read : Result Own Refusal → Bool
was_read (Ok own) = true
was_read (Err refusal) = false

abbrev pub own_end : ℕ → Result Own Refusal → ℕ
own_end at (Ok own) = own.end
own_end at (Err refusal) = at

-- 5 at the tree's length where the record is due there; 4 or 5 at its own place
unfoldable pub own_numbers : List ℕ → ℕ → Class → ℕ → ℕ × ℕ
own_numbers bytes at class levels =
    let own = own_at bytes at class in
    cond (leb (length bytes) at) (5, length bytes) (cond (eqb levels 0) (4, at) (cond (was_read own) (0, own_end at own) (5, at)))
