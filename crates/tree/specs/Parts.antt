-- What the walk over a tree reads beside the records' own bytes: the place behind a record, a trivia item, and a token's head.
use Rattle.tree.specs.declared.parts.Head.{Head}
use Rattle.std.specs.Prelude.{ℕ, zero, suc, ◌+◌, ◌-◌, List, [], ◌∷◌, cond, ◌||◌, length, get_or, eqb, leb, Option, Result, Some, None, Ok, Err}
use Rattle.answers.specs.Numbers.{numbers_of, numbers_checked, unless_refused, Checked}
use Rattle.answers.specs.declared.Refusal.{Refusal}
use Rattle.tree.specs.Kinds as kinds
use Rattle.tree.specs.Codes as codes
use Rattle.tree.specs.Grammar.{Slot, rule, fields}
use Rattle.tree.specs.Own.{layout, trivium_end, read_own}
use Rattle.tree.specs.Reading.{slot_class, read}
use Rattle.tree.specs.declared.codes.Code.{Code}
use Rattle.tree.specs.declared.grammar.Class.{Class}
use Rattle.tree.specs.declared.grammar.Class.TheVariants.{DataSize, BinaryOp, LocatedExpression, BareExpression, BlockRecord, ExpressionArguments}
use Rattle.tree.specs.declared.own.Own.{Own}
use Rattle.tree.specs.declared.parts.Trivia.{Trivia}
use Rattle.tree.specs.declared.parts.TriviumSpan.{TriviumSpan}

-- ---- the place behind a record

abbrev pub skipped_on : ℕ → Checked → Result ℕ Refusal
skipped_on end (Ok tt) = Ok end
skipped_on end (Err refusal) = Err refusal

-- the place behind the record of a class, or the first refusal in it
unfoldable pub skipped : ℕ → List ℕ → Class → ℕ → Result ℕ Refusal
skipped levels bytes class at = skipped_on (read levels bytes class at).end (read levels bytes class at).checked

-- ---- a trivia item

-- the item between a place and the place behind it: its code, and the places of its text, of which a newline has none
abbrev pub item_to : ℕ → ℕ → Option Code → Option TriviumSpan
item_to at end (Some code) = Some (record { code = code; start = cond (eqb (codes.code_number code) codes.newline) end (at + 3); end = end })
item_to at end None = None

abbrev pub trivium_on : List ℕ → ℕ → Option ℕ → Option TriviumSpan
trivium_on bytes at (Some end) = item_to at end (codes.code_of (get_or bytes at 0))
trivium_on bytes at None = None

-- "each a code (.. 1 newline ..) and, but for newline, a two-byte length and bytes"
unfoldable pub trivium_at : List ℕ → ℕ → Option TriviumSpan
trivium_at bytes at = trivium_on bytes at (trivium_end bytes at)

-- items as the walk reads them: so many from a place on, up to one that breaks the layout
abbrev pub spans_on : (ℕ → List TriviumSpan) → Option TriviumSpan → List TriviumSpan
spans_on next (Some item) = item ∷ next item.end
spans_on next None = []

unfoldable pub spans_at : List ℕ → ℕ → ℕ → List TriviumSpan
spans_at bytes at zero = []
spans_at bytes at (suc count) = spans_on (λ place. spans_at bytes place count) (trivium_at bytes at)

-- those that an iterator over them has left
abbrev pub trivia_left : Trivia → List TriviumSpan
trivia_left items = spans_at items.tree.now items.at items.left

-- ---- a token's head, as in `Token::trivia` of ast.rs

-- the class of the first of some fields; a record without fields, which no token is, counts as its own
abbrev pub first_class : Class → List Slot → Class
first_class class [] = class
first_class class (slot ∷ slots) = slot_class slot

-- the field of a class behind a first one
abbrev pub second_field : ℕ → Class → Result ℕ Refusal → Result Head Refusal
second_field levels class (Ok place) = Ok (record { place = place; class = class; levels = levels })
second_field levels class (Err refusal) = Err refusal

-- of a `Data` `size`, behind `values`; of a binary expression `lhs`, behind `op`; of any other record its first field
unfoldable pub field_head : ℕ → List ℕ → Class → ℕ → Own → Result Head Refusal
field_head levels bytes class number own =
    cond (eqb number kinds.«data») (second_field (levels - 1) DataSize (skipped (levels - 1) bytes ExpressionArguments own.end))
    (cond (eqb number kinds.binary_expression) (second_field (levels - 1) LocatedExpression (skipped (levels - 1) bytes BinaryOp own.end))
    (Ok (record { place = own.end; class = first_class class (fields own.kind (rule class).value); levels = levels - 1 })))

abbrev pub inner_on : ℕ → List ℕ → Class → ℕ → Result Own Refusal → Result Head Refusal
inner_on levels bytes class at (Ok own) = field_head levels bytes class (get_or bytes at 0) own
inner_on levels bytes class at (Err refusal) = Err refusal

unfoldable pub inner_head : ℕ → List ℕ → Class → ℕ → Result Head Refusal
inner_head levels bytes class at = inner_on levels bytes class at (read_own bytes at class levels)

-- of `Braces` and `Config` that of the block, its `{`; of an `Expression` that of its expression
abbrev pub head_on : ℕ → List ℕ → Class → ℕ → Result Own Refusal → Result Head Refusal
head_on levels bytes class at (Err refusal) = Err refusal
head_on levels bytes class at (Ok own) =
    cond (eqb (get_or bytes at 0) kinds.braces || eqb (get_or bytes at 0) kinds.config) (inner_head (levels - 1) bytes BlockRecord own.end)
    (cond (eqb (get_or bytes at 0) kinds.expression) (inner_head (levels - 1) bytes BareExpression own.end)
    (field_head levels bytes class (get_or bytes at 0) own))

-- behind own bytes, whatever they are; there is none where no record can have been read: no level is left, or no byte stands there
unfoldable pub head_behind : ℕ → List ℕ → Class → ℕ → Own → Result Head Refusal
head_behind levels bytes class at own =
    cond (eqb levels 0) (Err (layout at)) (cond (leb (length bytes) at) (Err (layout at)) (head_on levels bytes class at (Ok own)))

-- the head of a token's record: its place, its class and the levels left there, or the refusal that is met before it
unfoldable pub head_at : ℕ → List ℕ → Class → ℕ → Result Head Refusal
head_at levels bytes class at = head_on levels bytes class at (read_own bytes at class levels)

-- ---- in document 01's numbers: 0 with the place that was found, or a refusal's number and place

abbrev pub numbers_skipped : Result ℕ Refusal → ℕ × ℕ
numbers_skipped (Ok place) = (0, place)
numbers_skipped (Err refusal) = numbers_of refusal

-- of a record with all its parts
unfoldable pub read_numbers : ℕ → List ℕ → Class → ℕ → ℕ × ℕ
read_numbers levels bytes class at = unless_refused (numbers_checked (read levels bytes class at).checked) (0, (read levels bytes class at).end)

abbrev pub numbers_head : Result Head Refusal → ℕ × ℕ
numbers_head (Ok head) = (0, head.place)
numbers_head (Err refusal) = numbers_of refusal

-- of the head among a record's fields: behind the first of a `Data` and a binary expression, else the first
abbrev pub field_numbers : ℕ → List ℕ → ℕ → Own → ℕ × ℕ
field_numbers levels bytes number own =
    cond (eqb number kinds.«data») (read_numbers (levels - 1) bytes ExpressionArguments own.end)
    (cond (eqb number kinds.binary_expression) (read_numbers (levels - 1) bytes BinaryOp own.end) (0, own.end))

-- of one whose own bytes may be refused
abbrev pub inner_numbers : ℕ → List ℕ → ℕ → Result Own Refusal → ℕ × ℕ
inner_numbers levels bytes number (Ok own) = field_numbers levels bytes number own
inner_numbers levels bytes number (Err refusal) = numbers_of refusal

-- of the head of a token's record behind its own bytes: that of a block, of an expression, or a field's
abbrev pub token_numbers : ℕ → List ℕ → ℕ → Own → ℕ × ℕ
token_numbers levels bytes number own =
    let below = levels - 1 in
    let inner = own.end in
    cond (eqb number kinds.braces || eqb number kinds.config) (inner_numbers below bytes (get_or bytes inner 0) (read_own bytes inner BlockRecord below))
    (cond (eqb number kinds.expression) (inner_numbers below bytes (get_or bytes inner 0) (read_own bytes inner BareExpression below)) (field_numbers levels bytes number own))

-- 5 at the place where no record can have been read
unfoldable pub behind_numbers : ℕ → List ℕ → ℕ → Own → ℕ × ℕ
behind_numbers levels bytes at own = cond (eqb levels 0) (5, at) (cond (leb (length bytes) at) (5, at) (token_numbers levels bytes (get_or bytes at 0) own))

abbrev pub head_numbers_on : ℕ → List ℕ → ℕ → Result Own Refusal → ℕ × ℕ
head_numbers_on levels bytes number (Ok own) = token_numbers levels bytes number own
head_numbers_on levels bytes number (Err refusal) = numbers_of refusal

unfoldable pub head_numbers : ℕ → List ℕ → Class → ℕ → ℕ × ℕ
head_numbers levels bytes class at = head_numbers_on levels bytes (get_or bytes at 0) (read_own bytes at class levels)
