-- Not part of the promise: the places as the search meets them, record by record, each by the class of the field that it stands in.
use Rattle.std.specs.Prelude.{ℕ, ◌-◌, ◌≡◌, List, [], ◌∷◌, ◌++◌, Bool, true, false, cond, not, ◌&&◌, ◌||◌, eqb, get_or, replicate, Option, Result, Some, None, Ok}
use Rattle.answers.specs.declared.Refusal.{Refusal}
use Rattle.answers.specs.Numbers.{no_refusal, and_then, Checked}
use Rattle.tree.specs.Kinds as kinds
use Rattle.tree.specs.Grammar.{rule, nodes}
use Rattle.tree.specs.Own.{read_own}
use Rattle.tree.specs.Parts.{skipped}
use Rattle.tree.specs.Reading.{Reader, parts_due, read_parts, read}
use Rattle.tree.specs.Tree.{Tree, absent}
use Rattle.tree.specs.Rows.{class_number}
use Rattle.tree.specs.declared.grammar.Class.{Class}
use Rattle.tree.specs.declared.grammar.Class.TheVariants.{OpenBrace, Colon, IndexRegister, BareToken, LocatedToken}
use Rattle.tree.specs.declared.grammar.Kind.TheVariants as kind
use Rattle.tree.specs.declared.own.Own.{Own}
use Rattle.events.specs.Views.{own_trivia, token_number, index_of}
use Rattle.events.specs.Views.{stands_at, head_of}
use Rattle.reading.specs.Places.{Spot, Use, has_comment, mark, places_in}
use Rattle.reading.specs.Places.{opening_brace, label_colon, value_head, import_path, path_item, register_letter, expression_head, closing_character, spot_number}
use Rattle.reading.specs.Places.{at_opening_brace, at_label_colon, at_register_letter, at_value_head, at_expression_head, at_closing_character}
use Rattle.losses.specs.declared.firsts.Search.{Search}
use Rattle.losses.specs.declared.places.Place.{Place}
use Rattle.losses.specs.declared.places.Place.TheVariants.{OpeningBrace, LabelColon, ValueHead, ImportPath, PathItem, RegisterLetter, ExpressionHead, ClosingCharacter}
use Rattle.losses.specs.Lost.{Firsts, first_with, first_from}

-- ---- which use a record shows, by its class and its kind

-- the use that a field's class tells of what stands in it: a block's `{`, a label's colon, a register; a token that stands in no list is a value
abbrev pub class_uses : Class → Bool → Tree → List Use
class_uses class listed tree =
    cond (eqb (class_number class) (class_number OpenBrace)) (mark (stands_at tree) opening_brace (at_opening_brace listed tree))
    (cond (eqb (class_number class) (class_number Colon)) (mark (stands_at tree) label_colon (at_label_colon tree))
    (cond (eqb (class_number class) (class_number IndexRegister)) (mark (stands_at tree) register_letter (at_register_letter tree))
    (cond ((eqb (class_number class) (class_number BareToken) || eqb (class_number class) (class_number LocatedToken)) && not listed)
    (mark (stands_at (head_of tree)) value_head (at_value_head tree)) [])))

-- all uses of a record of a class
abbrev pub seen_in : Class → Bool → Tree → List Use
seen_in class listed tree = class_uses class listed tree ++ places_in listed tree

-- the uses that a record's kind tells: the head of an `Expression` in a list, the closing character of an operand
abbrev pub kind_uses : Bool → ℕ → List Tree → List Use
kind_uses listed number parts =
    cond (eqb number kinds.expression) (mark (stands_at (head_of (get_or parts 0 absent))) expression_head (at_expression_head listed (get_or parts 0 absent)))
    (cond (eqb number kinds.operand) (mark (stands_at (get_or parts 2 absent)) closing_character (at_closing_character (index_of (get_or parts 3 absent)) (get_or parts 2 absent))) [])

-- what a comment on the record itself uses
abbrev pub own_marks : Class → ℕ → Bool → ℕ → Bool → List Use
own_marks class number listed at used =
    cond (eqb (class_number class) (class_number OpenBrace)) (mark at opening_brace (not listed && used))
    (cond (eqb (class_number class) (class_number Colon)) (mark at label_colon used)
    (cond (eqb (class_number class) (class_number IndexRegister)) (mark at register_letter used)
    (mark at import_path (eqb number kinds.specific_import_arg && used) ++ mark at path_item (eqb number kinds.path_item && used))))

-- and one on its head
abbrev pub head_marks : Class → ℕ → Bool → ℕ → Bool → List Use
head_marks class number listed at used =
    cond (eqb (class_number class) (class_number BareToken) || eqb (class_number class) (class_number LocatedToken))
    (cond (eqb number kinds.expression) (mark at expression_head (listed && used)) (mark at value_head (not listed && used))) []

abbrev pub closing_marks : ℕ → List Tree → List Use
closing_marks number parts =
    cond (eqb number kinds.operand) (mark (stands_at (get_or parts 2 absent)) closing_character (at_closing_character (index_of (get_or parts 3 absent)) (get_or parts 2 absent))) []

-- all but those of its parts
abbrev pub own_uses : Class → Bool → Tree → ℕ → List Tree → List Use
own_uses class listed tree at parts =
    own_marks class (token_number tree) listed at (has_comment (own_trivia tree))
    ++ (head_marks class (token_number tree) listed (stands_at (head_of tree)) (has_comment (own_trivia (head_of tree))) ++ closing_marks (token_number tree) parts)

-- whether the parts of a record of a kind stand in a list
abbrev pub listed_below : ℕ → Bool → Bool
listed_below number listed = cond (eqb number kinds.vec) true (cond (eqb number kinds.braces || (eqb number kinds.config || eqb number kinds.block)) listed false)

-- ---- the same by numbers

-- a place of the code, and its number where one is used
abbrev pub spot_of : Place → Spot
spot_of OpeningBrace = opening_brace
spot_of LabelColon = label_colon
spot_of ValueHead = value_head
spot_of ImportPath = import_path
spot_of PathItem = path_item
spot_of RegisterLetter = register_letter
spot_of ExpressionHead = expression_head
spot_of ClosingCharacter = closing_character

-- where no place is used
abbrev pub no_spot : ℕ
no_spot = 8

abbrev pub number_of : Option Place → ℕ
number_of None = no_spot
number_of (Some place) = spot_number (spot_of place)

abbrev pub kind_spot : ℕ → ℕ
kind_spot number =
    cond (eqb number kinds.specific_import_arg) (spot_number import_path) (cond (eqb number kinds.path_item) (spot_number path_item) no_spot)

abbrev pub own_spot : Class → ℕ → Bool → ℕ
own_spot class number listed =
    cond (eqb (class_number class) (class_number OpenBrace)) (cond listed no_spot (spot_number opening_brace))
    (cond (eqb (class_number class) (class_number Colon)) (spot_number label_colon)
    (cond (eqb (class_number class) (class_number IndexRegister)) (spot_number register_letter) (kind_spot number)))

abbrev pub token_spot : ℕ → Bool → ℕ
token_spot number listed =
    cond (eqb number kinds.expression) (cond listed (spot_number expression_head) no_spot) (cond listed no_spot (spot_number value_head))

abbrev pub head_spot : Class → ℕ → Bool → ℕ
head_spot class number listed = cond (eqb (class_number class) (class_number BareToken) || eqb (class_number class) (class_number LocatedToken)) (token_spot number listed) no_spot

-- ---- what the first records become

abbrev pub first_of : Firsts → Spot → Option ℕ
first_of firsts spot = get_or firsts (spot_number spot) None

abbrev pub no_firsts : Firsts
no_firsts = replicate 8 None

-- with a record at an offset that uses a place
pub record Takes (after before : Search) (at number : ℕ) : Type 0 where
  pub from : after.from ≡ before.from
  pub each : (spot : Spot) → first_of after.firsts spot
      ≡ cond (eqb (spot_number spot) number) (first_with before.from (first_of before.firsts spot) at) (first_of before.firsts spot)

-- where it does
pub record TakesIf (after before : Search) (at number : ℕ) (used : Bool) : Type 0 where
  pub from : after.from ≡ before.from
  pub each : (spot : Spot) → first_of after.firsts spot
      ≡ cond (used && eqb (spot_number spot) number) (first_with before.from (first_of before.firsts spot) at) (first_of before.firsts spot)

-- with some uses
pub record TakesAll (after before : Search) (uses : List Use) : Type 0 where
  pub from : after.from ≡ before.from
  pub each : (spot : Spot) → first_of after.firsts spot ≡ first_from before.from spot (first_of before.firsts spot) uses

-- ---- what is promised of a record that was read without refusal

abbrev pub TokenClass : Class → Type 0
TokenClass class = (located : Bool) × (rule class ≡ nodes kind.Align kind.VariableDefinition located)

-- no refusal was met, and this holds
abbrev pub Shows : Checked → Type 0 → Type 0
Shows seen held = (seen ≡ no_refusal) × held

abbrev pub TakesHead : Checked → Search → Search → ℕ → List ℕ → Class → ℕ → ℕ → Type 0
TakesHead seen after before levels bytes class at number =
    (read levels bytes class at).checked ≡ no_refusal → TokenClass class
    → Shows seen (TakesIf after before (stands_at (head_of (read levels bytes class at).tree)) number
    (has_comment (own_trivia (head_of (read levels bytes class at).tree))))

abbrev pub part_trees : ℕ → List ℕ → Class → Own → List Tree
part_trees levels bytes class own = (read_parts (read (levels - 1) bytes) (parts_due class own) own.end).trees

abbrev pub TakesClosing : Checked → Search → Search → ℕ → List ℕ → Own → Type 0
TakesClosing seen after before levels bytes own =
    (class : Class) (at : ℕ) → read_own bytes at class levels ≡ Ok own → own.kind ≡ kind.Operand → (read levels bytes class at).checked ≡ no_refusal
    → Shows seen (TakesIf after before (stands_at (get_or (part_trees levels bytes class own) 2 absent)) 7
    (at_closing_character (index_of (get_or (part_trees levels bytes class own) 3 absent)) (get_or (part_trees levels bytes class own) 2 absent)))

abbrev pub TakesRecord : Checked → Search → Search → ℕ → List ℕ → Class → ℕ → Own → Bool → Type 0
TakesRecord seen after before levels bytes class at own listed =
    read_own bytes at class levels ≡ Ok own → (read levels bytes class at).checked ≡ no_refusal
    → Shows seen (TakesAll after before
    (own_uses class listed (read levels bytes class at).tree at (part_trees levels bytes class own)))

-- the same of a search, which comes to the place behind the record
abbrev pub Searches : Result ℕ Refusal → Search → Search → ℕ → List ℕ → Class → ℕ → Bool → Type 0
Searches searched after before levels bytes class at listed =
    (read levels bytes class at).checked ≡ no_refusal
    → (searched ≡ Ok (read levels bytes class at).end) × TakesAll after before (seen_in class listed (read levels bytes class at).tree)

-- ---- the parts of a record

-- the uses of records of these classes, one behind the other
unfoldable pub uses_along : Reader → Bool → List Class → ℕ → List Use
uses_along reader listed [] place = []
uses_along reader listed (class ∷ classes) place =
    seen_in class listed (reader class place).tree ++ uses_along reader listed classes (reader class place).end

-- the place behind them
unfoldable pub end_along : Reader → List Class → ℕ → ℕ
end_along reader [] place = place
end_along reader (class ∷ classes) place = end_along reader classes (reader class place).end

-- the first refusal in them
unfoldable pub checked_along : Reader → List Class → ℕ → Checked
checked_along reader [] place = no_refusal
checked_along reader (class ∷ classes) place = and_then (reader class place).checked (checked_along reader classes (reader class place).end)

-- ---- a field

abbrev pub behind_field : ℕ → List ℕ → Class → ℕ → Bool → Result ℕ Refusal
behind_field levels bytes class at stands = cond stands (skipped levels bytes class at) (Ok at)
