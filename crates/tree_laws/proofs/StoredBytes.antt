-- The stored form of a well-formed tree is a list of bytes.
--   stored_bytes : .. WellFormed levels class at tree → AllBytes (stored tree)
use Rattle.std.specs.Prelude.{Some, None}
use mathlib.Core.Path.{◌≡◌, refl, sym, subst}
use mathlib.Core.List.{List, [], ◌∷◌, ◌++◌, map}
use mathlib.Core.Bool.{Bool, true, ◌&&◌}
use Prim.Native.Nat.{ℕ, zero, suc, ◌+◌, ◌*◌, ◌%◌, ◌/◌, ◌≤◌, ◌<◌}
use native.Mathlib.Omega.{arith}
use lib.ListN.{length, get_or, length-map}
use lib.Dec.{eqb, leb}
use borrow.Author.Tests.{leb-true}
use Rattle.answers.proofs.Bytes.{one_more}
use Rattle.text.specs.Numbers.{two_bytes}
use Rattle.text.specs.Accepted.{accepted_byte, accepted_text}
use Rattle.text.specs.Ink.{flat}
use Rattle.text.proofs.Choices.{cond_both, and_true_left, and_true_right}
use Rattle.tree.specs.Grammar.{Slot, all_kinds, kind_of, rule, fields}
use Rattle.tree.specs.Tree.{Tree, Trivium, built}
use Rattle.tree.specs.Reading.{slot_class}
use Rattle.tree.specs.Stored.{stored_trivium, stored_items, stored_trivia, trivia_bit, part_bits, stored_text, stored_node, stored_leaf, stored_with, stored}
use Rattle.tree.specs.declared.grammar.Kind.{Kind}
use Rattle.tree.specs.declared.grammar.Kind.TheVariants as variant
use Rattle.tree.specs.declared.grammar.Class.{Class}
use Rattle.tree.specs.declared.grammar.TextRule.{TextRule}
use Rattle.tree_laws.specs.WellFormed.{TriviumFits, EachFits, TriviaFit, TextFits, FieldsFit, ItemsFit, Formed, WellFormed}
use Rattle.tree_laws.specs.WellFormed as well
use Rattle.tree_laws.specs.Correspondence.{AllBytes}
use Rattle.tree_laws.proofs.ReadBack.{parts_counted, list_form, leaf_form, fielded_form, bit_below, text_accepted}

-- ---- lists of bytes

-- no bytes
no_byte : AllBytes []
no_byte i = omega arith

-- one list behind the other
joined : (first second : List ℕ) → AllBytes first → AllBytes second → AllBytes (first ++ second)
joined [] second one two = two
joined (byte ∷ first) second one two = one_more byte (first ++ second) (one 0) (joined first second (λ i. one (suc i)) two)

-- a number of two bytes
number_bytes : (number : ℕ) → number ≤ 65535 → AllBytes (two_bytes number)
number_bytes number small = one_more (number % 256) (number / 256 ∷ []) (omega arith) (one_more (number / 256) [] (omega arith) no_byte)

-- an accepted text
text_bytes : (text : List ℕ) → accepted_text text ≡ true → AllBytes text
unfolding accepted_text accepted_byte
text_bytes [] accepted = no_byte
text_bytes (byte ∷ text) accepted =
    one_more byte text (omega (arith, leb-true byte 127 (and_true_left (leb byte 127) (accepted_text text) accepted)))
    (text_bytes text (and_true_right (leb byte 127) (accepted_text text) accepted))

-- ---- trivia and texts

-- a trivia item
trivium_bytes : (item : Trivium) → TriviumFits item → AllBytes (stored_trivium item)
trivium_bytes item fits =
    let text : List ℕ = two_bytes (length item.text) ++ item.text in
    cond_both AllBytes (eqb item.code 1) (1 ∷ []) (item.code ∷ text)
    (λ q. one_more 1 [] (omega arith) no_byte)
    (λ q. one_more item.code text (omega (arith, fits.code))
    (joined (two_bytes (length item.text)) item.text (number_bytes (length item.text) fits.long) (text_bytes item.text fits.accepted)))

-- items, one behind the other
items_bytes : {items : List Trivium} → EachFits items → AllBytes (stored_items items)
unfolding stored_items
items_bytes well.none = no_byte
items_bytes (well.next {item} {items} fits rest) = joined (stored_trivium item) (stored_items items) (trivium_bytes item fits) (items_bytes rest)

-- trivia with their count
trivia_bytes : {located : Bool} (items : List Trivium) → TriviaFit located items → AllBytes (stored_trivia items)
trivia_bytes [] fits = no_byte
trivia_bytes (item ∷ items) (well.with count each) = joined (two_bytes (length (item ∷ items))) (stored_items (item ∷ items)) (number_bytes _ count) (items_bytes each)

-- a text has a length of two bytes
text_long : {text-rule : TextRule} {text : List ℕ} → TextFits text-rule text → length text ≤ 65535
text_long well.none = omega arith
text_long (well.free long accepted) = long
text_long (well.one low high accepted) = omega arith

-- and is stored in bytes
leaf_text_bytes : {text-rule : TextRule} (text : List ℕ) → TextFits text-rule text → AllBytes (stored_text text)
leaf_text_bytes [] fits = no_byte
leaf_text_bytes (byte ∷ text) fits =
    joined (two_bytes (length (byte ∷ text))) (byte ∷ text) (number_bytes _ (text_long fits)) (text_bytes (byte ∷ text) (text_accepted fits))

-- ---- numbers and maps

-- whether a test holds of every kind
abbrev every : (Kind → Bool) → List Kind → Bool
every test [] = true
every test (kind ∷ others) = test kind && every test others

-- a kind that has a number is one of them
known_kind : (test : Kind → Bool) (those : List Kind) (number : ℕ) (kind : Kind) → every test those ≡ true → get_or (map Some those) number None ≡ Some kind
    → (test kind ≡ true) × (number < length those)
known_kind test [] number kind all known = let z : ◌≡◌ {A = ℕ} 0 1 = cc in absurd (omega arith)
known_kind test (here ∷ others) zero kind all known =
    let same : kind ≡ here = cc in
    (rw same (and_true_left (test here) (every test others) all), omega arith)
known_kind test (here ∷ others) (suc number) kind all known =
    let rest = known_kind test others number kind (and_true_right (test here) (every test others) all) known in
    (rest.0, omega (arith, rest.1))

-- a kind has a small number and six fields at the most
kind_small : (number : ℕ) (kind : Kind) (value : Class) → kind_of number ≡ Some kind → (length (fields kind value) ≤ 6) × (number < 256)
kind_small number kind value known =
    let found = known_kind (λ kind. leb (length (fields kind value)) 6) all_kinds number kind refl known in
    (leb-true _ _ found.0, omega (arith, found.1))

-- so many bits
abbrev power : ℕ → ℕ
power zero = 1
power (suc count) = 2 * power count

-- the bits of so many parts are small
bits_small : (count : ℕ) (forms : List (List ℕ)) → length forms ≤ count → part_bits forms < power count
unfolding part_bits
bits_small zero [] few = omega arith
bits_small (suc count) [] few = omega (arith, bits_small count [] (omega arith))
bits_small zero (form ∷ forms) few = absurd (omega arith)
bits_small (suc count) ([] ∷ forms) few = omega (arith, bits_small count forms (omega arith))
bits_small (suc count) ((byte ∷ form) ∷ forms) few = omega (arith, bits_small count forms (omega arith))

-- ---- records

-- parts that are bytes
parts_bytes : {Below : Class → ℕ → Tree → Type 0} → ((class : Class) (at : ℕ) (tree : Tree) → Below class at tree → AllBytes (stored tree))
    → {slots : List Slot} {at : ℕ} {parts : List Tree} → FieldsFit Below slots at parts → AllBytes (flat (map stored parts))
unfolding flat stored_with
parts_bytes below well.none = no_byte
parts_bytes below (well.standing {slot} {slots} {at} {part} {parts} first rest) =
    joined (stored part) (flat (map stored parts)) (below (slot_class slot) at part first) (parts_bytes below rest)
parts_bytes below (well.left_out rest) = parts_bytes below rest

-- items that are
list_bytes : {Below : Class → ℕ → Tree → Type 0} → ((class : Class) (at : ℕ) (tree : Tree) → Below class at tree → AllBytes (stored tree))
    → {class : Class} {at : ℕ} {items : List Tree} → ItemsFit Below class at items → AllBytes (flat (map stored items))
unfolding flat
list_bytes below well.none = no_byte
list_bytes below {class} (well.next {at} {item} {items} first rest) =
    joined (stored item) (flat (map stored items)) (below class at item first) (list_bytes below rest)

-- a node whose parts are
node_bytes : {located : Bool} (number : ℕ) (trivia : List Trivium) (forms : List (List ℕ)) → number < 256 → length forms ≤ 6 → TriviaFit located trivia
    → AllBytes (flat forms) → AllBytes (stored_node number trivia forms)
node_bytes number trivia forms small few fits parts =
    let rest : List ℕ = stored_trivia trivia ++ flat forms in
    let flags : ℕ = trivia_bit trivia + 2 * part_bits forms in
    one_more number (flags ∷ rest) small
    (one_more flags rest (omega (arith, (bit_below trivia 0).0, bits_small 6 forms few)) (joined (stored_trivia trivia) (flat forms) (trivia_bytes trivia fits) parts))

-- a leaf
leaf_bytes : {located : Bool} {text-rule : TextRule} (number : ℕ) (trivia : List Trivium) (text : List ℕ) → number < 256 → TriviaFit located trivia → TextFits text-rule text
    → AllBytes (stored_leaf number trivia text)
unfolding flat
leaf_bytes number trivia text small trivia-fit text-fit =
    node_bytes number trivia (stored_text text ∷ []) small (omega arith) trivia-fit (joined (stored_text text) [] (leaf_text_bytes text text-fit) no_byte)

-- a record of any kind
formed_bytes : {Below : Class → ℕ → Tree → Type 0} → ((class : Class) (at : ℕ) (tree : Tree) → Below class at tree → AllBytes (stored tree))
    → {class : Class} {at : ℕ} {tree : Tree} → Formed Below class at tree → AllBytes (stored tree)
unfolding built
formed_bytes below {at} (well.list {item} {items} of count fits) =
    let rest : List ℕ = two_bytes (length items) ++ flat (map stored items) in
    subst AllBytes (sym (list_form at items))
    (one_more 24 (0 ∷ rest) (omega arith)
    (one_more 0 rest (omega arith) (joined (two_bytes (length items)) (flat (map stored items)) (number_bytes (length items) count) (list_bytes below fits))))
formed_bytes below {at} (well.leaf {trivia} {text} within trivia-fit text-fit) =
    subst AllBytes (sym (leaf_form at 25 variant.Leaf trivia text refl refl)) (leaf_bytes 25 trivia text (omega arith) trivia-fit text-fit)
formed_bytes below {at} (well.path {trivia} {text} within trivia-fit text-fit) =
    subst AllBytes (sym (leaf_form at 26 variant.PathItem trivia text refl refl)) (leaf_bytes 26 trivia text (omega arith) trivia-fit text-fit)
formed_bytes below {class} {at} (well.fielded {number} {kind} {trivia} {parts} known other within trivia-fit fits together) =
    let counted = parts_counted fits in
    let small = kind_small number kind (rule class).value known in
    subst AllBytes (sym (fielded_form at number kind (rule class).value trivia parts known other counted))
    (node_bytes number trivia (map stored parts) small.1 (omega (arith, small.0, length-map parts stored)) trivia-fit (parts_bytes below fits))

-- a well-formed tree is stored in bytes
pub stored_bytes : (levels : ℕ) (class : Class) (at : ℕ) (tree : Tree) → WellFormed levels class at tree → AllBytes (stored tree)
unfolding WellFormed
stored_bytes zero class at tree formed = absurd formed
stored_bytes (suc levels) class at tree formed = formed_bytes (stored_bytes levels) formed
