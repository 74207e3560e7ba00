-- `lost`: the first record at or after an offset that uses one of the eight places, with the letters of the places that it uses.
use Rattle.std.specs.Prelude.{ℕ, ◌+◌, ◌*◌, ◌≤◌, List, [], ◌∷◌, map, false, cond, eqb, ltb, Option, Result, Some, None, Ok, Err}
use Rattle.answers.specs.declared.Refusal.{Refusal}
use Rattle.answers.specs.Numbers.{numbers, unless_refused, Answer, Checked}
use Rattle.tree.specs.Tree.{Tree}
use Rattle.tree.specs.Checking.{read_file, batch_checked, tree_numbers}
use Rattle.reading.specs.Places.{Spot, Use, opening_brace, label_colon, value_head, import_path, path_item, register_letter, expression_head, closing_character}
use Rattle.reading.specs.Places.{spot_number, places_in}
use Rattle.losses.specs.declared.search.Loss.{Loss}

-- ---- the first record that uses a place

-- a record at an offset, held against the first one so far
abbrev pub earlier_of : Option ℕ → ℕ → Option ℕ
earlier_of None at = Some at
earlier_of (Some other) at = cond (ltb at other) (Some at) (Some other)

-- "at or after `from`"
abbrev pub first_with : ℕ → Option ℕ → ℕ → Option ℕ
first_with from first at = cond (ltb at from) first (earlier_of first at)

-- of some uses those of one place, held against the first one so far
unfoldable pub first_from : ℕ → Spot → Option ℕ → List Use → Option ℕ
first_from from spot first [] = first
first_from from spot first (used ∷ uses) =
    first_from from spot (cond (eqb (spot_number spot) (spot_number used.spot)) (first_with from first used.place) first) uses

-- the first record of a tree that uses a place
abbrev pub first_in : ℕ → Spot → Tree → Option ℕ
first_in from spot tree = first_from from spot None (places_in false tree)

-- for each place, by its number, a first record
abbrev pub Firsts : Type 0
Firsts = List (Option ℕ)

-- the places (a) to (h), by their numbers
abbrev pub spots : List Spot
spots =
    opening_brace ∷ label_colon ∷ value_head ∷ import_path ∷ path_item ∷ register_letter ∷ expression_head ∷ closing_character ∷ []

-- for each of them
abbrev pub firsts_in : ℕ → Tree → Firsts
firsts_in from tree = map (λ (spot : Spot). first_in from spot tree) spots

-- ---- the least of the eight, with its letters

abbrev pub lesser_of : Option ℕ → Option ℕ → Option ℕ
lesser_of None other = other
lesser_of (Some place) None = Some place
lesser_of (Some place) (Some other) = cond (ltb other place) (Some other) (Some place)

abbrev pub least_of : Firsts → Option ℕ
least_of [] = None
least_of (first ∷ firsts) = lesser_of first (least_of firsts)

-- a place's bit, where its first record stands at an offset
abbrev pub bit_at : ℕ → Option ℕ → ℕ → ℕ
bit_at at None bit = 0
bit_at at (Some place) bit = cond (eqb place at) bit 0

-- the bits of places one behind the other, each twice the one before it
abbrev pub bits_from : ℕ → ℕ → Firsts → ℕ
bits_from at bit [] = 0
bits_from at bit (first ∷ firsts) = bit_at at first bit + bits_from at (2 * bit) firsts

-- "with the place's letter": 1 for (a), 2 for (b), and so on to 128 for (h), added up for a record that uses more than one
abbrev pub letters_at : Firsts → ℕ → ℕ
letters_at firsts at = bits_from at 1 firsts

-- what `lost` answers: a record that uses a place, or none, or the tree's refusal
abbrev pub Lost : Type 0
Lost = Result (Option Loss) Refusal

abbrev pub answer_with : Firsts → Option ℕ → Option Loss
answer_with firsts None = None
answer_with firsts (Some at) = Some (record { place = at; letters = letters_at firsts at })

abbrev pub lost_on : ℕ → Tree → Checked → Lost
lost_on from tree (Err refusal) = Err refusal
lost_on from tree (Ok tt) = Ok (answer_with (firsts_in from tree) (least_of (firsts_in from tree)))

-- the refusal that `check_tree` gives, or the least offset at or after `from` of a record that uses a place, with its letters, or none
unfoldable pub lost_from : ℕ → List ℕ → Lost
lost_from from bytes = lost_on from (read_file 64 bytes).tree (batch_checked bytes)

-- ---- its number and value

-- a record that uses a place: 65,536 times its letters plus its offset, which is below 65,536; 0 where there is none
abbrev pub loss_answer : Lost → Answer
loss_answer (Ok (Some loss)) = Ok (65536 * loss.letters + loss.place)
loss_answer (Ok None) = Ok 0
loss_answer (Err refusal) = Err refusal

abbrev pub numbers_lost : Lost → ℕ × ℕ
numbers_lost lost = numbers (loss_answer lost)

-- ---- in document 01's numbers: 0 with the value, or the number and place of the tree's refusal

-- 65,536 times the letters plus the offset, which is below 65,536; 0 where no record uses a place
abbrev pub loss_value : Firsts → Option ℕ → ℕ
loss_value firsts None = 0
loss_value firsts (Some at) = 65536 * letters_at firsts at + at

unfoldable pub lost_numbers : ℕ → List ℕ → ℕ × ℕ
lost_numbers from bytes =
    let firsts = firsts_in from (read_file 64 bytes).tree in
    unless_refused (tree_numbers 65535 64 bytes) (0, loss_value firsts (least_of firsts))

-- ---- how large an answer is: an offset that two bytes hold, and letters that one byte holds, one of them at least

abbrev pub Narrow : Lost → Type 0
Narrow (Ok (Some loss)) = (loss.place ≤ 65535) × (1 ≤ loss.letters) × (loss.letters ≤ 255)
Narrow (Ok None) = Unit
Narrow (Err refusal) = Unit
