-- The stored options: document 01, "Options" ("a bit map and then only the fields whose bit stands ... One byte each") and refusals 1 and 2.
use Rattle.answers.specs.declared.Refusal.{Refusal}
use Rattle.std.specs.Prelude.{ℕ, zero, suc, ◌+◌, ◌/◌, ◌%◌, ◌^◌, List, [], ◌∷◌, Bool, true, cond, not, ◌&&◌, length, get_or, eqb, ltb, Result, Ok, Err}
use Rattle.answers.specs.declared.Reason.TheVariants.{OptionsLength, OptionsValue}
use Rattle.answers.specs.Numbers.{no_refusal, numbers_of, Checked}
use Rattle.options.specs.Types.{options_of, Narrow}
use Rattle.options.specs.declared.FormattingOptions.{FormattingOptions}

-- bit k of a map: 1 where it stands
abbrev pub bit : ℕ → ℕ → ℕ
bit map k = map / 2 ^ k % 2

-- how many of the bits below k stand
unfoldable pub standing : ℕ → ℕ → ℕ
standing map zero = 0
standing map (suc k) = standing map k + bit map k

-- field k stands behind the map and the fields before it
abbrev pub place_of : ℕ → ℕ → ℕ
place_of map k = 1 + standing map k

-- "The eight defaults belong to the options type itself: 1, 1, 0, 4, 20, 1, 30, 8."
abbrev pub defaults : List ℕ
defaults = 1 ∷ 1 ∷ 0 ∷ 4 ∷ 20 ∷ 1 ∷ 30 ∷ 8 ∷ []

-- the largest value of each field: refusal 2 is "A casing, brace or alignment value is above 1 or the indent above 64"
abbrev pub largest : List ℕ
largest = 1 ∷ 1 ∷ 1 ∷ 64 ∷ 255 ∷ 1 ∷ 255 ∷ 255 ∷ []

abbrev pub map_of : List ℕ → ℕ
map_of stored = get_or stored 0 0

-- the value of field k: its byte where its bit stands, else its default
abbrev pub value_of : List ℕ → ℕ → ℕ
value_of stored k = cond (eqb (bit (map_of stored) k) 1) (get_or stored (place_of (map_of stored) k) 0) (get_or defaults k 0)

-- field k is stored, and too large
abbrev pub too_large : List ℕ → ℕ → Bool
too_large stored k = eqb (bit (map_of stored) k) 1 && ltb (get_or largest k 0) (get_or stored (place_of (map_of stored) k) 0)

-- refusal 2 for the n fields from field k on: "place of the first such byte"
unfoldable pub values_checked : List ℕ → ℕ → ℕ → Checked
values_checked stored k zero = no_refusal
values_checked stored k (suc n) =
    cond (too_large stored k)
    (Err (record { reason = OptionsValue; place = place_of (map_of stored) k }))
    (values_checked stored (k + 1) n)

-- the options that stored bytes stand for
unfoldable pub stored_options : List ℕ → FormattingOptions
stored_options stored =
    options_of (value_of stored 0) (value_of stored 1) (value_of stored 2) (value_of stored 3) (value_of stored 4) (value_of stored 5) (value_of stored 6) (value_of stored 7)

-- refusal 1: "Options have no bytes, or their length is not one plus the count of standing bits; place 0."
abbrev pub length_wrong : List ℕ → Bool
length_wrong stored = cond (eqb (length stored) 0) true (not (eqb (length stored) (1 + standing (map_of stored) 8)))

abbrev pub accepted : Checked → FormattingOptions → Result FormattingOptions Refusal
accepted (Ok tt) options = Ok options
accepted (Err refusal) options = Err refusal

-- reading stored options
unfoldable pub read_options : List ℕ → Result FormattingOptions Refusal
read_options stored =
    cond (length_wrong stored)
    (Err (record { reason = OptionsLength; place = 0 }))
    (accepted (values_checked stored 0 8) (stored_options stored))

-- ---- in document 01's numbers: (0, 0), or a refusal's number and place

-- of an answer; options that were read have no length or place
abbrev pub numbers_read : Result FormattingOptions Refusal → ℕ × ℕ
numbers_read (Ok options) = (0, 0)
numbers_read (Err refusal) = numbers_of refusal

-- "A casing, brace or alignment value is above 1 or the indent above 64; place of the first such byte.", of the n fields from field k on
unfoldable pub values_numbers : List ℕ → ℕ → ℕ → ℕ × ℕ
values_numbers stored k zero = (0, 0)
values_numbers stored k (suc n) = cond (too_large stored k) (2, place_of (map_of stored) k) (values_numbers stored (k + 1) n)

-- of stored bytes: 1 at 0, 2 at the byte, or 0
unfoldable pub options_numbers : List ℕ → ℕ × ℕ
options_numbers stored = cond (length_wrong stored) (1, 0) (values_numbers stored 0 8)

-- what holds of options that were read
abbrev pub NarrowRead : Result FormattingOptions Refusal → Type 0
NarrowRead (Ok options) = Narrow options
NarrowRead (Err refusal) = Unit
