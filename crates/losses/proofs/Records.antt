-- The uses of a record: what it shows by itself, then those of its parts.
use Rattle.std.specs.Prelude.{Some, None, Ok}
use mathlib.Core.Path.{◌≡◌, refl, sym, ap, ◌∙◌}
use mathlib.Core.Logic.{⊎_elim}
use mathlib.Core.List.{List, [], ◌++◌, append-nil, append_assoc}
use mathlib.Core.Bool.{Bool, true, false, cond, not, ◌&&◌, ◌||◌}
use Prim.Native.Nat.{ℕ, ◌-◌, ◌/◌, ◌≤◌}
use native.Mathlib.Omega.{arith}
use native.Mathlib.Nat.{le_antisymm}
use lib.ListN.{get_or}
use lib.Dec.{eqb}
use borrow.Author.Tests.{eqb-true, ne_eqb}
use Rattle.text.proofs.Choices.{by_test, true_false}
use Rattle.tree.specs.Grammar.{kind_of, kind_number, rule, fields}
use Rattle.tree.specs.Own.{may_stand, read_own}
use Rattle.tree.specs.Reading.{trivia_of, text_of, fields_due, parts_due, read}
use Rattle.tree.specs.Tree.{Tree, absent, node, built}
use Rattle.tree.specs.Rows.{class_number, class_of}
use Rattle.tree.specs.Walk.{standing}
use Rattle.tree.specs.declared.grammar.Kind.{Kind}
use Rattle.tree.specs.declared.grammar.Kind.TheVariants as variant
use Rattle.tree.specs.declared.grammar.Class.{Class}
use Rattle.tree.specs.declared.grammar.Class.TheVariants as class
use Rattle.tree.specs.declared.own.Own.{Own}
use Rattle.tree.proofs.Rows.{class_back}
use Rattle.events.specs.Views.{view, own_trivia, head_of, stands_at, token_number}
use Rattle.events.proofs.OwnParts.{Fielded, record_parts, record_headed, token_number_lem}
use Rattle.leaves.proofs.Records.{read_record}
use Rattle.leaves.proofs.Fielded.{standing_range}
use Rattle.reading.specs.Places.{Use, has_comment, mark, places_in, opening_brace, label_colon, value_head, import_path, path_item, register_letter}
use Rattle.losses.specs.Visits.{seen_in, kind_uses, own_marks, head_marks, closing_marks, own_uses, listed_below, uses_along, part_trees, TokenClass}
use Rattle.losses.proofs.Table.{kind_uses_lem}
use Rattle.losses.proofs.Along.{fields_along, items_along}

-- ---- what may stand in a class

-- a class by its number
class_is : (class : Class) (number : ℕ) → eqb (class_number class) number ≡ true → class ≡ class_of number
class_is class number is = sym (class_back class) ∙ ap class_of (eqb-true (class_number class) number is)

-- only a token is an `Expression` of kind 9
nine_token : (class : Class) → may_stand (rule class) 9 ≡ true → (eqb (class_number class) 20 || eqb (class_number class) 21) ≡ true
nine_token class.Word stands = true_false (sym stands)
nine_token class.Char stands = true_false (sym stands)
nine_token class.OpenBrace stands = true_false (sym stands)
nine_token class.CloseBrace stands = true_false (sym stands)
nine_token class.Colon stands = true_false (sym stands)
nine_token class.Unit stands = true_false (sym stands)
nine_token class.Mnemonic stands = true_false (sym stands)
nine_token class.IndexRegister stands = true_false (sym stands)
nine_token class.AddressModifier stands = true_false (sym stands)
nine_token class.VariableType stands = true_false (sym stands)
nine_token class.NumberType stands = true_false (sym stands)
nine_token class.DataSize stands = true_false (sym stands)
nine_token class.BinaryOp stands = true_false (sym stands)
nine_token class.TextEncoding stands = true_false (sym stands)
nine_token class.AddressingMode stands = true_false (sym stands)
nine_token class.StringItem stands = true_false (sym stands)
nine_token class.LocatedExpression stands = true_false (sym stands)
nine_token class.BareExpression stands = true_false (sym stands)
nine_token class.LocatedFactor stands = true_false (sym stands)
nine_token class.BareToken stands = refl
nine_token class.LocatedToken stands = refl
nine_token class.BlockRecord stands = true_false (sym stands)
nine_token class.StringRecord stands = true_false (sym stands)
nine_token class.OperandRecord stands = true_false (sym stands)
nine_token class.SuffixRecord stands = true_false (sym stands)
nine_token class.AsRecord stands = true_false (sym stands)
nine_token class.ImportArguments stands = true_false (sym stands)
nine_token class.ImportPath stands = true_false (sym stands)
nine_token class.ExpressionArgument stands = true_false (sym stands)
nine_token class.IdentifierArgument stands = true_false (sym stands)
nine_token class.ImportArgument stands = true_false (sym stands)
nine_token class.Tokens stands = true_false (sym stands)
nine_token class.ExpressionArguments stands = true_false (sym stands)
nine_token class.IdentifierArguments stands = true_false (sym stands)
nine_token class.StringItems stands = true_false (sym stands)

-- the classes of tokens
pub token_class_lem : (class : Class) → (eqb (class_number class) 20 || eqb (class_number class) 21) ≡ true → TokenClass class
token_class_lem class is =
    by_test (eqb (class_number class) 20)
    (λ q. rw (class_is class 20 q) (false, refl))
    (λ q. rw (class_is class 21 (rw q at is)) (true, refl))

-- ---- the parts of a record that was read

module _ (levels : ℕ) (bytes : List ℕ) (class : Class) (at : ℕ) (own : Own) (is : read_own bytes at class levels ≡ Ok own) where
  abbrev parts : List Tree
  parts = part_trees levels bytes class own

  abbrev inner : Tree
  inner = built own.kind (text_of bytes own) parts

  -- it is a node of its parts
  pub node_read : (read levels bytes class at).tree ≡ node at (trivia_of bytes own) inner
  node_read = rw (read_record bytes class at levels own is).1

  -- its number
  pub inner_number : token_number inner ≡ get_or bytes at 0
  inner_number = token_number_lem (get_or bytes at 0) own.kind (text_of bytes own) parts (record_headed bytes at class levels own is).1.kind_is

  -- those of its parts that stand
  abbrev below : Bool → List Use
  below listed = uses_along (read (levels - 1) bytes) (listed_below (get_or bytes at 0) listed) (standing (parts_due class own)) own.end

  -- the uses below it are what its kind tells, and those of its parts: a list
  list_uses : own.kind ≡ variant.Vec → (listed : Bool) → places_in listed inner ≡ kind_uses listed (get_or bytes at 0) parts ++ below listed
  unfolding places_in built parts_due fields_due view
  list_uses vec listed =
      let number : 24 ≡ get_or bytes at 0 = sym (ap (λ (kind : Kind). token_number (built kind (text_of bytes own) parts)) vec) ∙ inner_number in
      rw (sym number) (rw vec (items_along (read (levels - 1) bytes) listed class own.count own.end))

  -- any other record
  field_uses : Fielded bytes at class own → (listed : Bool) → places_in listed inner ≡ kind_uses listed (get_or bytes at 0) parts ++ below listed
  field_uses held listed =
      let table = kind_uses_lem own.kind class listed (text_of bytes own) parts (rw inner_number held.other) in
      let along = fields_along (read (levels - 1) bytes) (listed_below (get_or bytes at 0) listed) (fields own.kind (rule class).value) (own.map / 2) own.end in
      rw inner_number at table ∙ ap (λ (uses : List Use). kind_uses listed (get_or bytes at 0) parts ++ uses) (rw (sym held.parts) at along)

  inner_uses : (listed : Bool) → places_in listed inner ≡ kind_uses listed (get_or bytes at 0) parts ++ below listed
  inner_uses listed = ⊎_elim (λ vec. list_uses vec listed) (λ held. field_uses held listed) (record_parts bytes at class levels own is)

-- ---- a record's uses, by its class

module _ (class : Class) (number at : ℕ) (stands : may_stand (rule class) number ≡ true) (listed used : Bool) (head : Tree) (parts : List Tree) (others : List Use)
    (nine : number ≡ 9 → head ≡ head_of (get_or parts 0 absent)) where
  -- the uses as the places have them
  abbrev placed : List Use
  placed =
      cond (eqb (class_number class) 3) (mark at opening_brace (not listed && used))
      (cond (eqb (class_number class) 5) (mark at label_colon used)
      (cond (eqb (class_number class) 8) (mark at register_letter used)
      (cond ((eqb (class_number class) 20 || eqb (class_number class) 21) && not listed)
      (mark (stands_at head) value_head (not (eqb number 9) && has_comment (own_trivia head))) [])))
      ++ (mark at import_path (eqb number 41 && used) ++ (mark at path_item (eqb number 26 && used) ++ (kind_uses listed number parts ++ others)))

  -- and as the search meets them
  abbrev met : List Use
  met =
      (own_marks class number listed at used
      ++ (head_marks class number listed (stands_at head) (has_comment (own_trivia head)) ++ closing_marks number parts)) ++ others

  -- a leaf: a brace, a colon or a register
  leaf_met : (leaf : ℕ) → eqb (class_number class) leaf ≡ true → (rule (class_of leaf)).items ≡ None
      → kind_number (rule (class_of leaf)).first ≡ 25 → kind_number (rule (class_of leaf)).last ≡ 25 → number ≡ 25
  leaf_met leaf is items first last =
      let within = standing_range (rule (class_of leaf)) number items (rw (class_is class leaf is) at stands) in
      le_antisymm (rw last at within.1) (rw first at within.0)

  -- a token
  token_met : (eqb (class_number class) 20 || eqb (class_number class) 21) ≡ true → number ≤ 23
  token_met is =
      let tokens = token_class_lem class is in
      let none : (rule class).items ≡ None = rw tokens.1 in
      let last : kind_number (rule class).last ≡ 23 = rw tokens.1 in
      rw last at (standing_range (rule class) number none stands).1

  -- its uses: of its own none, of its head (g) or (c)
  token_uses : eqb (class_number class) 3 ≡ false → eqb (class_number class) 5 ≡ false → eqb (class_number class) 8 ≡ false
      → (eqb (class_number class) 20 || eqb (class_number class) 21) ≡ true → placed ≡ met
  token_uses brace colon register token =
      let last = token_met token in
      let import = ne_eqb number 41 (λ e. omega (arith, last, e)) in
      let item = ne_eqb number 26 (λ e. omega (arith, last, e)) in
      let operand = ne_eqb number 37 (λ e. omega (arith, last, e)) in
      by_test (eqb number 9)
      (λ q. by_test listed
      (λ in_List. rw (brace, colon, register, token, import, item, operand, q, in_List, nine (eqb-true number 9 q)) (simp append-nil))
      (λ in_List. rw (brace, colon, register, token, import, item, operand, q, in_List)))
      (λ q. by_test listed
      (λ in_List. rw (brace, colon, register, token, import, item, operand, q, in_List))
      (λ in_List. rw (brace, colon, register, token, import, item, operand, q, in_List) (simp append-nil)))

  -- a record of any other class is no `Expression`
  other_uses : eqb (class_number class) 3 ≡ false → eqb (class_number class) 5 ≡ false → eqb (class_number class) 8 ≡ false
      → (eqb (class_number class) 20 || eqb (class_number class) 21) ≡ false → placed ≡ met
  other_uses brace colon register token =
      let expression : eqb number 9 ≡ false = ne_eqb number 9 (λ e. true_false (sym (nine_token class (rw e at stands)) ∙ token)) in
      rw (brace, colon, register, token, expression) (simp append_assoc)

  same_uses : placed ≡ met
  same_uses =
      by_test (eqb (class_number class) 3)
      (λ brace. rw (class_is class 3 brace, leaf_met 3 brace refl refl refl) (simp append-nil))
      (λ brace. by_test (eqb (class_number class) 5)
      (λ colon. rw (class_is class 5 colon, leaf_met 5 colon refl refl refl) (simp append-nil))
      (λ colon. by_test (eqb (class_number class) 8)
      (λ register. rw (class_is class 8 register, leaf_met 8 register refl refl refl) (simp append-nil))
      (λ register. by_test (eqb (class_number class) 20 || eqb (class_number class) 21)
      (token_uses brace colon register)
      (other_uses brace colon register))))

module _ (levels : ℕ) (bytes : List ℕ) (class : Class) (at : ℕ) (own : Own) (is : read_own bytes at class levels ≡ Ok own) where
  -- the head of an `Expression` is its expression's
  nine_head : get_or bytes at 0 ≡ 9 → head_of (read levels bytes class at).tree ≡ head_of (get_or (part_trees levels bytes class own) 0 absent)
  unfolding built view
  nine_head number =
      let known : kind_of 9 ≡ Some own.kind = rw number at (record_headed bytes at class levels own is).1.kind_is in
      let same : own.kind ≡ variant.Expression = cc in
      rw (node_read levels bytes class at own is) (rw same refl)

  -- all uses of a record are those that it shows by itself, and those of its parts
  pub record_uses : (listed : Bool) → seen_in class listed (read levels bytes class at).tree
      ≡ own_uses class listed (read levels bytes class at).tree at (part_trees levels bytes class own) ++ below levels bytes class at own is listed
  unfolding places_in view
  record_uses listed =
      let same = same_uses class (get_or bytes at 0) at (record_headed bytes at class levels own is).1.standing listed
      (has_comment (trivia_of bytes own)) (head_of (read levels bytes class at).tree) (part_trees levels bytes class own) (below levels bytes class at own is listed) nine_head in
      let stands = node_read levels bytes class at own is in
      rw (stands, inner_uses levels bytes class at own is listed, inner_number levels bytes class at own is) (rw stands at same)
