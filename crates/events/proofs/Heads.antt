-- A token's head as the walk finds it in the bytes is the head of the token's tree; so are the token's number and whether it has a block.
--   head_is : rule class ≡ nodes variant.Align variant.VariableDefinition located → head_at levels bytes class at ≡ Found head
--     → head_of (read levels bytes class at .tree) ≡ read head.levels bytes head.class head.place .tree
--   head_missing : head_at levels bytes class at ≡ NoHead why → head_refusal (read levels bytes class at .tree) ≡ Failed why
--   head_refused : head_at levels bytes class at ≡ Found head → read_own bytes head.place head.class head.levels ≡ Refused why
--     → head_refusal (read levels bytes class at .tree) ≡ Failed why
--   head_read : head_at levels bytes class at ≡ Found head → read_own bytes head.place head.class head.levels ≡ Record own
--     → (head_refusal (read levels bytes class at .tree) ≡ Passed) × (head_trivia (read levels bytes class at .tree) ≡ trivia_of bytes own)
--   own_refused, own_read : the same of a record's own bytes and its own trivia
--   number_read : read_own bytes at class levels ≡ Record own → token_number (read levels bytes class at .tree) ≡ get_or bytes at 0
--   block_read : read_own bytes at class levels ≡ Record own → has_block (read levels bytes class at .tree) ≡ block_bit (get_or bytes at 0) (own.map / 2)
use Rattle.std.specs.Prelude.{Result, Some, Ok, Err}
use mathlib.Core.Path.{◌≡◌, refl, sym, ap, ◌∙◌}
use mathlib.Core.List.{List, [], ◌∷◌}
use mathlib.Core.Bool.{Bool, true, false, cond, not, ◌&&◌, ◌||◌}
use Prim.Native.Nat.{ℕ, zero, suc, ◌/◌, ◌%◌, ◌<◌, ◌≤◌}
use native.Mathlib.Omega.{arith}
use native.Mathlib.Numerals.{sub-one}
use lib.ListN.{length, get_or}
use lib.Dec.{eqb, leb}
use borrow.Author.Tests.{eqb-true, eqb-false, leb-true, le-leb}
use Rattle.answers.specs.declared.Refusal.{Refusal}
use Rattle.answers.specs.Numbers.{no_refusal, and_then, Checked}
use Rattle.text.proofs.Choices.{by_test, true_false, and_true_left, and_true_right}
use Rattle.tree.specs.Grammar.{Slot, must, kind_of, nodes, rule, fields}
use Rattle.tree.specs.Own.{may_stand, fields_fit, read_own}
use Rattle.tree.specs.Reading.{trivia_of, text_of, Due, slot_class, fields_due, parts_due, Reader, read_parts, record_of, read_on, unread, read}
use Rattle.tree.specs.Parts.{skipped, first_class, second_field, field_head, inner_on, inner_head, head_on, head_at}
use Rattle.tree.specs.Tree.{Tree, Trivium, absent, built}
use Rattle.tree.specs.declared.grammar.Kind.{Kind}
use Rattle.tree.specs.declared.grammar.Kind.TheVariants as variant
use Rattle.tree.specs.declared.grammar.Class.{Class}
use Rattle.tree.specs.declared.grammar.Class.TheVariants.{DataSize, BinaryOp, LocatedExpression, BareExpression, BlockRecord, ExpressionArguments}
use Rattle.tree.specs.declared.own.Own.{Own}
use Rattle.tree.specs.declared.parts.Head.{Head}
use Rattle.tree.proofs.OwnBytes.{leaf_number}
use Rattle.tree.proofs.Readings.{no_record}
use Rattle.events.specs.Views.{view, own_trivia, head_of, head_trivia, token_number, stands, has_block, bit_at, block_bit}
use Rattle.events.specs.Refusals.{first_refusal, own_refusal, head_refusal}
use Rattle.events.proofs.OwnParts.{Fielded, token_number_lem, both_stand, record_headed, record_fields}
use Rattle.events.proofs.Refusals.{skip_passed, skip_refused}

-- ---- what is claimed

-- what own bytes say of a refusal and trivia
abbrev OwnSays : List ℕ → Checked → List Trivium → Result Own Refusal → Type 0
OwnSays bytes refusal trivia (Ok own) = (refusal ≡ no_refusal) × (trivia ≡ trivia_of bytes own)
OwnSays bytes refusal trivia (Err why) = refusal ≡ Err why

-- what a head that was found says of a refusal and the record that is the head
abbrev HeadSays : List ℕ → Checked → Tree → Result Head Refusal → Type 0
HeadSays bytes refusal head (Ok found) = (head ≡ (read found.levels bytes found.class found.place).tree) × (refusal ≡ own_refusal head)
HeadSays bytes refusal head (Err why) = refusal ≡ Err why

-- ---- a record's own bytes

-- the tree of a record that was read, or not
on_says : (reader : Reader) (bytes : List ℕ) (class : Class) (at : ℕ) (own : Result Own Refusal)
    → OwnSays bytes (own_refusal (read_on reader bytes class at own).tree) (own_trivia (read_on reader bytes class at own).tree) own
unfolding own_refusal view
on_says reader bytes class at (Ok own) = (refl, refl)
on_says reader bytes class at (Err why) = refl

-- at any level
own_says : (levels : ℕ) (bytes : List ℕ) (class : Class) (at : ℕ)
    → OwnSays bytes (own_refusal (read levels bytes class at).tree) (own_trivia (read levels bytes class at).tree) (read_own bytes at class levels)
unfolding read
own_says zero bytes class at = on_says unread bytes class at (read_own bytes at class zero)
own_says (suc levels) bytes class at = on_says (read levels bytes) bytes class at (read_own bytes at class (suc levels))

module _ (levels : ℕ) (bytes : List ℕ) (class : Class) (at : ℕ) where
  -- own bytes that are refused are the tree's refusal
  pub own_refused : (why : Refusal) → read_own bytes at class levels ≡ Err why → own_refusal (read levels bytes class at).tree ≡ Err why
  own_refused why is = rw is at (own_says levels bytes class at)

  -- those that were read hold the tree's own trivia
  pub own_read : (own : Own) → read_own bytes at class levels ≡ Ok own
      → (own_refusal (read levels bytes class at).tree ≡ no_refusal) × (own_trivia (read levels bytes class at).tree ≡ trivia_of bytes own)
  own_read own is = rw is at (own_says levels bytes class at)

-- a record whose own bytes were read, of its parts
read_record : (levels : ℕ) (bytes : List ℕ) (class : Class) (at : ℕ) (own : Own) → read_own bytes at class (suc levels) ≡ Ok own
    → read (suc levels) bytes class at ≡ record_of bytes at own (read_parts (read levels bytes) (parts_due class own) own.end)
unfolding read
read_record levels bytes class at own is = ap (read_on (read levels bytes) bytes class at) is

-- ---- fields that must stand

module _ (reader : Reader) where
  -- the first field
  first_part : (class : Class) (slots : List Slot) (bits at : ℕ) → fields_fit (must class ∷ slots) bits ≡ true
      → get_or (read_parts reader (fields_due (must class ∷ slots) bits) at).trees 0 absent ≡ (reader class at).tree
  unfolding fields_fit fields_due read_parts
  first_part class slots bits at fits = rw (and_true_left (eqb (bits % 2) 1) (fields_fit slots (bits / 2)) fits)

  -- the second, behind it
  second_part : (class next : Class) (slots : List Slot) (bits at : ℕ) → fields_fit (must class ∷ must next ∷ slots) bits ≡ true
      → get_or (read_parts reader (fields_due (must class ∷ must next ∷ slots) bits) at).trees 1 absent ≡ (reader next (reader class at).end).tree
  unfolding fields_fit fields_due read_parts
  second_part class next slots bits at fits =
      let rest : (eqb (bits / 2 % 2) 1 && fields_fit slots (bits / 2 / 2)) ≡ true = and_true_right (eqb (bits % 2) 1) _ fits in
      rw (and_true_left (eqb (bits % 2) 1) _ fits, and_true_left (eqb (bits / 2 % 2) 1) (fields_fit slots (bits / 2 / 2)) rest)

-- ---- a head that is a field

-- kinds whose head is a field of theirs: tokens but `Braces`, `Config` and `Expression`; blocks and expressions
abbrev heads : ℕ → Bool
heads number = (leb number 23 && not (eqb number 2 || (eqb number 3 || eqb number 9))) || (leb 27 number && leb number 29)

-- they are neither lists nor leaves
heads_fields : (number : ℕ) → heads number ≡ true → (eqb number 24 ≡ false) × (leaf_number number ≡ false)
heads_fields number head = (
  by_test (eqb number 24) (λ q. true_false (sym (rw (eqb-true number 24 q) at head))) (λ q. q),
  by_test (leaf_number number) (λ q. by_test (eqb number 25)
      (λ leaf. true_false (sym (rw (eqb-true number 25 leaf) at head)))
      (λ other. let is : number ≡ 26 = eqb-true number 26 (rw other at q) in true_false (sym (rw is at head)))) (λ q. q),
)

-- fields behind the first
abbrev behind_first : List Slot → List Slot
behind_first [] = []
behind_first (slot ∷ slots) = slots

-- the head of most is their first field, which must stand
first_head : (kind : Kind) (class value : Class) (text : List ℕ) (trees : List Tree) → heads (token_number (built kind text trees)) ≡ true
    → eqb (token_number (built kind text trees)) 5 ≡ false → eqb (token_number (built kind text trees)) 28 ≡ false
    → (head_refusal (built kind text trees) ≡ own_refusal (get_or trees 0 absent))
    × (head_of (built kind text trees) ≡ get_or trees 0 absent)
    × (fields kind value ≡ must (first_class class (fields kind value)) ∷ behind_first (fields kind value))
unfolding head_refusal built view
first_head variant.Align class value text trees head five binary = (refl, refl, refl)
first_head variant.Assert class value text trees head five binary = (refl, refl, refl)
first_head variant.Braces class value text trees head five binary = true_false (sym head)
first_head variant.Config class value text trees head five binary = true_false (sym head)
first_head variant.ConfigPair class value text trees head five binary = (refl, refl, refl)
first_head variant.Data class value text trees head five binary = true_false five
first_head variant.Definition class value text trees head five binary = (refl, refl, refl)
first_head variant.Eof class value text trees head five binary = (refl, refl, refl)
first_head variant.Error class value text trees head five binary = (refl, refl, refl)
first_head variant.Expression class value text trees head five binary = true_false (sym head)
first_head variant.If class value text trees head five binary = (refl, refl, refl)
first_head variant.Import class value text trees head five binary = (refl, refl, refl)
first_head variant.File class value text trees head five binary = (refl, refl, refl)
first_head variant.Instruction class value text trees head five binary = (refl, refl, refl)
first_head variant.Label class value text trees head five binary = (refl, refl, refl)
first_head variant.Loop class value text trees head five binary = (refl, refl, refl)
first_head variant.MacroDefinition class value text trees head five binary = (refl, refl, refl)
first_head variant.MacroInvocation class value text trees head five binary = (refl, refl, refl)
first_head variant.ProgramCounterDefinition class value text trees head five binary = (refl, refl, refl)
first_head variant.Segment class value text trees head five binary = (refl, refl, refl)
first_head variant.Test class value text trees head five binary = (refl, refl, refl)
first_head variant.Text class value text trees head five binary = (refl, refl, refl)
first_head variant.Trace class value text trees head five binary = (refl, refl, refl)
first_head variant.VariableDefinition class value text trees head five binary = (refl, refl, refl)
first_head variant.Vec class value text trees head five binary = true_false (sym head)
first_head variant.Leaf class value text trees head five binary = true_false (sym head)
first_head variant.PathItem class value text trees head five binary = true_false (sym head)
first_head variant.Block class value text trees head five binary = (refl, refl, refl)
first_head variant.BinaryExpression class value text trees head five binary = true_false binary
first_head variant.Factor class value text trees head five binary = (refl, refl, refl)
first_head variant.CurrentProgramCounter class value text trees head five binary = true_false (sym head)
first_head variant.ExprParens class value text trees head five binary = true_false (sym head)
first_head variant.FunctionCall class value text trees head five binary = true_false (sym head)
first_head variant.IdentifierValue class value text trees head five binary = true_false (sym head)
first_head variant.Number class value text trees head five binary = true_false (sym head)
first_head variant.StringFactor class value text trees head five binary = true_false (sym head)
first_head variant.InterpolatedString class value text trees head five binary = true_false (sym head)
first_head variant.Operand class value text trees head five binary = true_false (sym head)
first_head variant.RegisterSuffix class value text trees head five binary = true_false (sym head)
first_head variant.ImportAs class value text trees head five binary = true_false (sym head)
first_head variant.ImportAll class value text trees head five binary = true_false (sym head)
first_head variant.SpecificImportArg class value text trees head five binary = true_false (sym head)
first_head variant.ArgItem class value text trees head five binary = true_false (sym head)

-- a second field, behind a first that is skipped
second_says : (levels : ℕ) (bytes : List ℕ) (class next : Class) (at : ℕ)
    → HeadSays bytes (and_then (first_refusal (read levels bytes class at).tree) (own_refusal (read levels bytes next (read levels bytes class at).end).tree))
    (read levels bytes next (read levels bytes class at).end).tree (second_field levels next (skipped levels bytes class at))
second_says levels bytes class next at = go (skipped levels bytes class at) refl
  where
    go : (found : Result ℕ Refusal) → skipped levels bytes class at ≡ found
        → HeadSays bytes (and_then (first_refusal (read levels bytes class at).tree) (own_refusal (read levels bytes next (read levels bytes class at).end).tree))
        (read levels bytes next (read levels bytes class at).end).tree (second_field levels next found)
    go (Ok end) is = let passed = skip_passed levels bytes class at end is in rw (passed.0, passed.1) (refl, refl)
    go (Err why) is = rw (skip_refused levels bytes class at why is)

module _ (levels : ℕ) (bytes : List ℕ) (class : Class) (at : ℕ) (own : Own) (is : read_own bytes at class (suc levels) ≡ Ok own) where
  -- the trees of a record's parts
  abbrev part_trees : List Tree
  part_trees = (read_parts (read levels bytes) (parts_due class own) own.end).trees

  -- what it is of them
  abbrev record_tree : Tree
  record_tree = built own.kind (text_of bytes own) part_trees

  -- its kind
  known_kind : kind_of (get_or bytes at 0) ≡ Some own.kind
  known_kind = (record_headed bytes at class (suc levels) own is).1.kind_is

  -- its number
  own_number : token_number record_tree ≡ get_or bytes at 0
  own_number = token_number_lem (get_or bytes at 0) own.kind (text_of bytes own) part_trees known_kind

  -- where it is neither a list nor a leaf
  module _ (list : eqb (get_or bytes at 0) 24 ≡ false) (leaf : leaf_number (get_or bytes at 0) ≡ false) where
    -- its fields are due, and its map fits them
    held : Fielded bytes at class own
    held = record_fields bytes at class (suc levels) own is list

    -- where they are some slots those are due
    due_as : (slots : List Slot) → fields own.kind (rule class).value ≡ slots → parts_due class own ≡ fields_due slots (own.map / 2)
    due_as slots same = held.parts ∙ ap (λ (slots : List Slot). fields_due slots (own.map / 2)) same

    -- and fit
    fits_as : (slots : List Slot) → fields own.kind (rule class).value ≡ slots → fields_fit slots (own.map / 2) ≡ true
    fits_as slots same = rw same at (held.fits leaf)

    -- the first that must stand
    first_read : (field : Class) (slots : List Slot) → fields own.kind (rule class).value ≡ must field ∷ slots
        → get_or part_trees 0 absent ≡ (read levels bytes field own.end).tree
    first_read field slots same =
        ap (λ (parts : List Due). get_or (read_parts (read levels bytes) parts own.end).trees 0 absent) (due_as (must field ∷ slots) same)
        ∙ first_part (read levels bytes) field slots (own.map / 2) own.end (fits_as (must field ∷ slots) same)

    -- a second one
    second_read : (field next : Class) (slots : List Slot) → fields own.kind (rule class).value ≡ must field ∷ must next ∷ slots
        → get_or part_trees 1 absent ≡ (read levels bytes next (read levels bytes field own.end).end).tree
    second_read field next slots same =
        ap (λ (parts : List Due). get_or (read_parts (read levels bytes) parts own.end).trees 1 absent) (due_as (must field ∷ must next ∷ slots) same)
        ∙ second_part (read levels bytes) field next slots (own.map / 2) own.end (fits_as (must field ∷ must next ∷ slots) same)

    -- a kind whose head is such a second field
    behind_says : (kind : Kind) (field next : Class) (slots : List Slot) → own.kind ≡ kind → fields kind (rule class).value ≡ must field ∷ must next ∷ slots
        → head_refusal (built kind (text_of bytes own) part_trees) ≡ and_then (first_refusal (get_or part_trees 0 absent)) (own_refusal (get_or part_trees 1 absent))
        → head_of (built kind (text_of bytes own) part_trees) ≡ get_or part_trees 1 absent
        → HeadSays bytes (head_refusal record_tree) (head_of record_tree) (second_field levels next (skipped levels bytes field own.end))
    behind_says kind field next slots same due refusal head =
        let slots_are : fields own.kind (rule class).value ≡ must field ∷ must next ∷ slots = ap (λ (kind : Kind). fields kind (rule class).value) same ∙ due in
        let head_refusal_here = ap (λ (kind : Kind). head_refusal (built kind (text_of bytes own) part_trees)) same ∙ refusal in
        let head_is = ap (λ (kind : Kind). head_of (built kind (text_of bytes own) part_trees)) same ∙ head in
        rw (head_refusal_here, head_is, first_read field (must next ∷ slots) slots_are, second_read field next slots slots_are) (second_says levels bytes field next own.end)

    -- `Data`
    data_says : eqb (get_or bytes at 0) 5 ≡ true
        → HeadSays bytes (head_refusal record_tree) (head_of record_tree) (second_field levels DataSize (skipped levels bytes ExpressionArguments own.end))
    unfolding built head_refusal view
    data_says five =
        let kind : kind_of 5 ≡ Some own.kind = rw (eqb-true (get_or bytes at 0) 5 five) at known_kind in
        let same : own.kind ≡ variant.Data = cc in
        behind_says variant.Data ExpressionArguments DataSize [] same refl refl refl

    -- a binary expression
    binary_says : eqb (get_or bytes at 0) 28 ≡ true
        → HeadSays bytes (head_refusal record_tree) (head_of record_tree) (second_field levels LocatedExpression (skipped levels bytes BinaryOp own.end))
    unfolding built head_refusal view
    binary_says binary =
        let kind : kind_of 28 ≡ Some own.kind = rw (eqb-true (get_or bytes at 0) 28 binary) at known_kind in
        let same : own.kind ≡ variant.BinaryExpression = cc in
        behind_says variant.BinaryExpression BinaryOp LocatedExpression (must LocatedExpression ∷ []) same refl refl refl

    -- any other
    first_says : heads (get_or bytes at 0) ≡ true → eqb (get_or bytes at 0) 5 ≡ false → eqb (get_or bytes at 0) 28 ≡ false
        → HeadSays bytes (head_refusal record_tree) (head_of record_tree)
        (Ok (record { place = own.end; class = first_class class (fields own.kind (rule class).value); levels = levels }))
    first_says nodal five binary =
        let field : Class = first_class class (fields own.kind (rule class).value) in
        let parts = first_head own.kind class (rule class).value (text_of bytes own) part_trees (rw own_number nodal) (rw own_number five) (rw own_number binary) in
        let first = first_read field (behind_first (fields own.kind (rule class).value)) parts.2 in
        rw (parts.0, parts.1, first) (refl, refl)

  -- its head is what the bytes say
  field_says : heads (get_or bytes at 0) ≡ true → HeadSays bytes (head_refusal record_tree) (head_of record_tree) (field_head (suc levels) bytes class (get_or bytes at 0) own)
  unfolding field_head
  field_says nodal =
      let list = (heads_fields (get_or bytes at 0) nodal).0 in
      let leaf = (heads_fields (get_or bytes at 0) nodal).1 in
      by_test (eqb (get_or bytes at 0) 5)
      (λ five. simp (five, sub-one) (data_says list leaf five))
      (λ five. by_test (eqb (get_or bytes at 0) 28)
      (λ binary. simp (five, binary, sub-one) (binary_says list leaf binary))
      (λ binary. simp (five, binary, sub-one) (first_says list leaf nodal five binary)))

-- ---- a head within a token

-- of a class whose kinds have their head in a field
inner_says : (levels : ℕ) (bytes : List ℕ) (class : Class) (at : ℕ) → ((number : ℕ) → may_stand (rule class) number ≡ true → heads number ≡ true)
    → HeadSays bytes (head_refusal (read levels bytes class at).tree) (head_of (read levels bytes class at).tree) (inner_head levels bytes class at)
unfolding inner_head read head_refusal view
inner_says zero bytes class at nodal = go (read_own bytes at class zero) refl
  where
    go : (found : Result Own Refusal) → read_own bytes at class zero ≡ found
        → HeadSays bytes (head_refusal (read_on unread bytes class at found).tree) (head_of (read_on unread bytes class at found).tree) (inner_on zero bytes class at found)
    go (Ok own) is = no_record bytes at class own is
    go (Err why) is = refl
inner_says (suc levels) bytes class at nodal = go (read_own bytes at class (suc levels)) refl
  where
    go : (found : Result Own Refusal) → read_own bytes at class (suc levels) ≡ found
        → HeadSays bytes (head_refusal (read_on (read levels bytes) bytes class at found).tree) (head_of (read_on (read levels bytes) bytes class at found).tree)
        (inner_on (suc levels) bytes class at found)
    go (Ok own) is = field_says levels bytes class at own is (nodal (get_or bytes at 0) (record_headed bytes at class (suc levels) own is).1.standing)
    go (Err why) is = refl

-- numbers in a range
within : (low high number : ℕ) → (leb low number && leb number high) ≡ true → (low ≤ number) × (number ≤ high)
within low high number e =
    (leb-true low number (and_true_left (leb low number) (leb number high) e), leb-true number high (and_true_right (leb low number) (leb number high) e))

-- a block is one
block_nodal : (number : ℕ) → may_stand (rule BlockRecord) number ≡ true → heads number ≡ true
block_nodal number stand =
    by_test (eqb number 24)
    (λ q. true_false (sym (rw q at stand)))
    (λ q. let range = within 27 27 number (rw q at stand) in let is : number ≡ 27 = omega arith in rw is)

-- so is an expression
expression_nodal : (number : ℕ) → may_stand (rule BareExpression) number ≡ true → heads number ≡ true
expression_nodal number stand =
    by_test (eqb number 24)
    (λ q. true_false (sym (rw q at stand)))
    (λ q. let range = within 28 29 number (rw q at stand) in by_test (eqb number 28)
    (λ binary. rw (eqb-true number 28 binary))
    (λ other. let is : number ≡ 29 = omega (arith, eqb-false number 28 other) in rw is))

-- and a token that is neither `Braces`, `Config` nor an `Expression`
token_nodal : (located : Bool) (number : ℕ) → may_stand (nodes variant.Align variant.VariableDefinition located) number ≡ true
    → (eqb number 2 || eqb number 3) ≡ false → eqb number 9 ≡ false → heads number ≡ true
token_nodal located number stand block expression =
    by_test (eqb number 24)
    (λ q. true_false (sym (rw q at stand)))
    (λ q.
    let range = within 0 23 number (rw q at stand) in
    let two : eqb number 2 ≡ false = by_test (eqb number 2) (λ is. true_false (rw is at block)) (λ not-two. not-two) in
    let three : eqb number 3 ≡ false = rw two at block in
    rw (le-leb number 23 range.1, two, three, expression))

-- ---- a token's head

-- of a class of tokens
module _ (bytes : List ℕ) (class : Class) (located : Bool) (tokens : rule class ≡ nodes variant.Align variant.VariableDefinition located) where
  module _ (levels : ℕ) (at : ℕ) (own : Own) (is : read_own bytes at class (suc levels) ≡ Ok own) where
    -- a token of its own bytes
    abbrev token : Tree
    token = record_tree levels bytes class at own is

    -- its parts
    abbrev parts : List Tree
    parts = part_trees levels bytes class at own is

    -- a kind whose head is that of its only field
    wrapped_says : (kind : Kind) (field : Class) → ((number : ℕ) → may_stand (rule field) number ≡ true → heads number ≡ true)
        → eqb (get_or bytes at 0) 24 ≡ false → leaf_number (get_or bytes at 0) ≡ false → own.kind ≡ kind → fields kind (rule class).value ≡ must field ∷ []
        → head_refusal (built kind (text_of bytes own) parts) ≡ head_refusal (get_or parts 0 absent)
        → head_of (built kind (text_of bytes own) parts) ≡ head_of (get_or parts 0 absent)
        → HeadSays bytes (head_refusal token) (head_of token) (inner_head levels bytes field own.end)
    wrapped_says kind field nodal list leaf same due refusal head =
        let slots_are : fields own.kind (rule class).value ≡ must field ∷ [] = ap (λ (kind : Kind). fields kind (rule class).value) same ∙ due in
        let head_refusal_here = ap (λ (kind : Kind). head_refusal (built kind (text_of bytes own) parts)) same ∙ refusal in
        let head_is = ap (λ (kind : Kind). head_of (built kind (text_of bytes own) parts)) same ∙ head in
        rw (head_refusal_here, head_is, first_read levels bytes class at own is list leaf field [] slots_are) (inner_says levels bytes field own.end nodal)

    -- that of `Braces` and of `Config` is the block's
    block_says : (eqb (get_or bytes at 0) 2 || eqb (get_or bytes at 0) 3) ≡ true → HeadSays bytes (head_refusal token) (head_of token) (inner_head levels bytes BlockRecord own.end)
    unfolding built head_refusal view
    block_says block =
        by_test (eqb (get_or bytes at 0) 2)
        (λ two.
        let byte : get_or bytes at 0 ≡ 2 = eqb-true (get_or bytes at 0) 2 two in
        let kind : kind_of 2 ≡ Some own.kind = rw byte at (known_kind levels bytes class at own is) in
        let same : own.kind ≡ variant.Braces = cc in
        wrapped_says variant.Braces BlockRecord block_nodal (rw byte) (rw byte) same refl refl refl)
        (λ two.
        let byte : get_or bytes at 0 ≡ 3 = eqb-true (get_or bytes at 0) 3 (rw two at block) in
        let kind : kind_of 3 ≡ Some own.kind = rw byte at (known_kind levels bytes class at own is) in
        let same : own.kind ≡ variant.Config = cc in
        wrapped_says variant.Config BlockRecord block_nodal (rw byte) (rw byte) same refl refl refl)

    -- that of an `Expression` the expression's
    expression_says : eqb (get_or bytes at 0) 9 ≡ true → HeadSays bytes (head_refusal token) (head_of token) (inner_head levels bytes BareExpression own.end)
    unfolding built head_refusal view
    expression_says nine =
        let byte : get_or bytes at 0 ≡ 9 = eqb-true (get_or bytes at 0) 9 nine in
        let kind : kind_of 9 ≡ Some own.kind = rw byte at (known_kind levels bytes class at own is) in
        let same : own.kind ≡ variant.Expression = cc in
        wrapped_says variant.Expression BareExpression expression_nodal (rw byte) (rw byte) same refl refl refl

    -- that of any token is what the bytes say
    record_says : HeadSays bytes (head_refusal token) (head_of token) (head_on (suc levels) bytes class at (Ok own))
    record_says =
        let stand : may_stand (nodes variant.Align variant.VariableDefinition located) (get_or bytes at 0) ≡ true =
        rw tokens at (record_headed bytes at class (suc levels) own is).1.standing in
        by_test (eqb (get_or bytes at 0) 2 || eqb (get_or bytes at 0) 3)
        (λ block. simp (block, sub-one) (block_says block))
        (λ block. by_test (eqb (get_or bytes at 0) 9)
        (λ nine. simp (block, nine, sub-one) (expression_says nine))
        (λ nine. simp (block, nine) (field_says levels bytes class at own is (token_nodal located (get_or bytes at 0) stand block nine))))

  -- and where it is refused
  token_says : (levels : ℕ) (at : ℕ)
      → HeadSays bytes (head_refusal (read levels bytes class at).tree) (head_of (read levels bytes class at).tree) (head_at levels bytes class at)
  unfolding head_at read head_refusal view
  token_says zero at = go (read_own bytes at class zero) refl
    where
      go : (found : Result Own Refusal) → read_own bytes at class zero ≡ found
          → HeadSays bytes (head_refusal (read_on unread bytes class at found).tree) (head_of (read_on unread bytes class at found).tree) (head_on zero bytes class at found)
      go (Ok own) is = no_record bytes at class own is
      go (Err why) is = refl
  token_says (suc levels) at = go (read_own bytes at class (suc levels)) refl
    where
      go : (found : Result Own Refusal) → read_own bytes at class (suc levels) ≡ found
          → HeadSays bytes (head_refusal (read_on (read levels bytes) bytes class at found).tree) (head_of (read_on (read levels bytes) bytes class at found).tree)
          (head_on (suc levels) bytes class at found)
      go (Ok own) is = record_says levels at own is
      go (Err why) is = refl

  -- a head that was found is the token's
  pub head_is : (levels : ℕ) (at : ℕ) (head : Head) → head_at levels bytes class at ≡ Ok head
      → head_of (read levels bytes class at).tree ≡ (read head.levels bytes head.class head.place).tree
  head_is levels at head found = (rw found at (token_says levels at)).0

  module _ (levels : ℕ) (at : ℕ) where
    -- a refusal on the way to the head
    pub head_missing : (why : Refusal) → head_at levels bytes class at ≡ Err why → head_refusal (read levels bytes class at).tree ≡ Err why
    head_missing why found = rw found at (token_says levels at)

    -- the refusal of a head that was found is its own
    head_own_lem : (head : Head) → head_at levels bytes class at ≡ Ok head
        → head_refusal (read levels bytes class at).tree ≡ own_refusal (read head.levels bytes head.class head.place).tree
    head_own_lem head found = let says = rw found at (token_says levels at) in says.1 ∙ ap own_refusal says.0

    -- a refusal of the head's own bytes
    pub head_refused : (head : Head) (why : Refusal) → head_at levels bytes class at ≡ Ok head → read_own bytes head.place head.class head.levels ≡ Err why
        → head_refusal (read levels bytes class at).tree ≡ Err why
    head_refused head why found is = head_own_lem head found ∙ own_refused head.levels bytes head.class head.place why is

    -- a head that was read
    pub head_read : (head : Head) (own : Own) → head_at levels bytes class at ≡ Ok head → read_own bytes head.place head.class head.levels ≡ Ok own
        → (head_refusal (read levels bytes class at).tree ≡ no_refusal) × (head_trivia (read levels bytes class at).tree ≡ trivia_of bytes own)
    head_read head own found is =
        let reads = own_read head.levels bytes head.class head.place own is in
        (head_own_lem head found ∙ reads.0, ap own_trivia (head_is levels at head found) ∙ reads.1)

-- ---- a token's number and its block

-- a tree that was read stands
stands_on : (reader : Reader) (bytes : List ℕ) (class : Class) (at : ℕ) (own : Result Own Refusal) → stands (read_on reader bytes class at own).tree ≡ true
unfolding view
stands_on reader bytes class at (Ok own) = refl
stands_on reader bytes class at (Err why) = refl

-- at any level
pub read_stands : (levels : ℕ) (bytes : List ℕ) (class : Class) (at : ℕ) → stands (read levels bytes class at).tree ≡ true
unfolding read
read_stands zero bytes class at = stands_on unread bytes class at (read_own bytes at class zero)
read_stands (suc levels) bytes class at = stands_on (read levels bytes) bytes class at (read_own bytes at class (suc levels))

-- so a field stands where its bit does
field_stands : (reader : Reader) → ((class : Class) (at : ℕ) → stands (reader class at).tree ≡ true) → (slots : List Slot) (bits at place : ℕ) → place < length slots
    → stands (get_or (read_parts reader (fields_due slots bits) at).trees place absent) ≡ bit_at place bits
unfolding fields_due read_parts bit_at view
field_stands reader stand [] bits at place inside = absurd (omega (arith, inside))
field_stands reader stand (slot ∷ slots) bits at zero inside = by_test (eqb (bits % 2) 1) (λ q. rw q (stand (slot_class slot) at)) (λ q. rw q)
field_stands reader stand (slot ∷ slots) bits at (suc place) inside =
    by_test (eqb (bits % 2) 1)
    (λ q. rw q (field_stands reader stand slots (bits / 2) (reader (slot_class slot) at).end place (omega (arith, inside))))
    (λ q. rw q (field_stands reader stand slots (bits / 2) at place (omega (arith, inside))))

-- the block of a tree of a kind, by its number
block_built : (kind : Kind) (text : List ℕ) (trees : List Tree)
    → has_block (built kind text trees) ≡ cond (eqb (token_number (built kind text trees)) 11) (stands (get_or trees 4 absent))
    (cond (eqb (token_number (built kind text trees)) 14) (stands (get_or trees 2 absent)) false)
unfolding built view
block_built variant.Align text trees = refl
block_built variant.Assert text trees = refl
block_built variant.Braces text trees = refl
block_built variant.Config text trees = refl
block_built variant.ConfigPair text trees = refl
block_built variant.Data text trees = refl
block_built variant.Definition text trees = refl
block_built variant.Eof text trees = refl
block_built variant.Error text trees = refl
block_built variant.Expression text trees = refl
block_built variant.If text trees = refl
block_built variant.Import text trees = refl
block_built variant.File text trees = refl
block_built variant.Instruction text trees = refl
block_built variant.Label text trees = refl
block_built variant.Loop text trees = refl
block_built variant.MacroDefinition text trees = refl
block_built variant.MacroInvocation text trees = refl
block_built variant.ProgramCounterDefinition text trees = refl
block_built variant.Segment text trees = refl
block_built variant.Test text trees = refl
block_built variant.Text text trees = refl
block_built variant.Trace text trees = refl
block_built variant.VariableDefinition text trees = refl
block_built variant.Vec text trees = refl
block_built variant.Leaf text trees = refl
block_built variant.PathItem text trees = refl
block_built variant.Block text trees = refl
block_built variant.BinaryExpression text trees = refl
block_built variant.Factor text trees = refl
block_built variant.CurrentProgramCounter text trees = refl
block_built variant.ExprParens text trees = refl
block_built variant.FunctionCall text trees = refl
block_built variant.IdentifierValue text trees = refl
block_built variant.Number text trees = refl
block_built variant.StringFactor text trees = refl
block_built variant.InterpolatedString text trees = refl
block_built variant.Operand text trees = refl
block_built variant.RegisterSuffix text trees = refl
block_built variant.ImportAs text trees = refl
block_built variant.ImportAll text trees = refl
block_built variant.SpecificImportArg text trees = refl
block_built variant.ArgItem text trees = refl

module _ (levels : ℕ) (bytes : List ℕ) (class : Class) (at : ℕ) (own : Own) (is : read_own bytes at class (suc levels) ≡ Ok own) where
  -- a field of a record that is no list stands where its bit does
  part_stands : (kind : Kind) (place : ℕ) → eqb (get_or bytes at 0) 24 ≡ false → own.kind ≡ kind → place < length (fields kind (rule class).value)
      → stands (get_or (part_trees levels bytes class at own is) place absent) ≡ bit_at place (own.map / 2)
  part_stands kind place list same inside =
      let slots : List Slot = fields own.kind (rule class).value in
      ap (λ (parts : List Due). stands (get_or (read_parts (read levels bytes) parts own.end).trees place absent)) (record_fields bytes at class (suc levels) own is list).parts
      ∙ field_stands (read levels bytes) (read_stands levels bytes) slots (own.map / 2) own.end place (rw same inside)

  -- "`tag_else` and `else_` stand together or not at all"
  pub else_stands : own.kind ≡ variant.If
      → stands (get_or (read_parts (read levels bytes) (parts_due class own) own.end).trees 3 absent)
      ≡ stands (get_or (read_parts (read levels bytes) (parts_due class own) own.end).trees 4 absent)
  unfolding built view
  else_stands same =
      let ten : 10 ≡ get_or bytes at 0 = token_number_lem (get_or bytes at 0) variant.If [] [] (known_kind levels bytes class at own is ∙ ap Some same) in
      let list : eqb (get_or bytes at 0) 24 ≡ false = rw (← ten) refl in
      let ends = (record_fields bytes at class (suc levels) own is list).ends (rw (← ten) refl) in
      part_stands variant.If 3 list same (omega arith) ∙ both_stand (own.map / 2) (rw (← ten) at ends)
      ∙ sym (part_stands variant.If 4 list same (omega arith))

  -- the block of a record whose own bytes were read
  block_record : has_block (record_tree levels bytes class at own is) ≡ block_bit (get_or bytes at 0) (own.map / 2)
  block_record =
      block_built own.kind (text_of bytes own) (part_trees levels bytes class at own is)
      ∙ rw (own_number levels bytes class at own is) (by_test (eqb (get_or bytes at 0) 11)
      (λ eleven.
      let byte : get_or bytes at 0 ≡ 11 = eqb-true (get_or bytes at 0) 11 eleven in
      let kind : kind_of 11 ≡ Some own.kind = rw byte at (known_kind levels bytes class at own is) in
      let same : own.kind ≡ variant.Import = cc in
      rw eleven (part_stands variant.Import 4 (rw byte) same (omega arith)))
      (λ eleven. by_test (eqb (get_or bytes at 0) 14)
      (λ fourteen.
      let byte : get_or bytes at 0 ≡ 14 = eqb-true (get_or bytes at 0) 14 fourteen in
      let kind : kind_of 14 ≡ Some own.kind = rw byte at (known_kind levels bytes class at own is) in
      let same : own.kind ≡ variant.Label = cc in
      rw (eleven, fourteen) (part_stands variant.Label 2 (rw byte) same (omega arith)))
      (λ fourteen. rw (eleven, fourteen))))

-- a token's number is its first byte
pub number_read : (levels : ℕ) (bytes : List ℕ) (class : Class) (at : ℕ) (own : Own) → read_own bytes at class levels ≡ Ok own
    → token_number (read levels bytes class at).tree ≡ get_or bytes at 0
unfolding view
number_read zero bytes class at own is = no_record bytes at class own is
number_read (suc levels) bytes class at own is = rw (read_record levels bytes class at own is) (own_number levels bytes class at own is)

-- it has a block where that bit of its map stands
pub block_read : (levels : ℕ) (bytes : List ℕ) (class : Class) (at : ℕ) (own : Own) → read_own bytes at class levels ≡ Ok own
    → has_block (read levels bytes class at).tree ≡ block_bit (get_or bytes at 0) (own.map / 2)
unfolding view
block_read zero bytes class at own is = no_record bytes at class own is
block_read (suc levels) bytes class at own is = rw (read_record levels bytes class at own is) (block_record levels bytes class at own is)
