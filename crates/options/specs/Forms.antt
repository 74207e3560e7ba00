-- The stored form of options: document 01, "Options", as eight fields of which each stands or does not.
use Rattle.std.specs.Prelude.{ℕ, zero, suc, ◌+◌, ◌*◌, ◌≤◌, ◌<◌, List, [], ◌∷◌, cond, get_or, eqb}
use Rattle.std.proofs.Math.Option.{Option, none, some}
use Rattle.options.specs.Types.{options_of}
use Rattle.options.specs.Stored.{bit, place_of, defaults, largest, map_of}
use Rattle.options.specs.declared.FormattingOptions.{FormattingOptions}

-- "a bit map": the first field's bit is the lowest
unfoldable pub bits_of : List (Option ℕ) → ℕ
bits_of [] = 0
bits_of (none ∷ fields) = 2 * bits_of fields
bits_of (some value ∷ fields) = 1 + 2 * bits_of fields

-- "and then only the fields whose bit stands"; "One byte each."
unfoldable pub values_of : List (Option ℕ) → List ℕ
values_of [] = []
values_of (none ∷ fields) = values_of fields
values_of (some value ∷ fields) = value ∷ values_of fields

-- the map and the fields that stand
abbrev pub stored_form : List (Option ℕ) → List ℕ
stored_form fields = bits_of fields ∷ values_of fields

-- fields, of which no value is above its largest
pub data FieldsFit : List ℕ → List (Option ℕ) → Type 0 where
  end : FieldsFit [] []
  absent : {most : ℕ} {others : List ℕ} {fields : List (Option ℕ)} → FieldsFit others fields → FieldsFit (most ∷ others) (none ∷ fields)
  stands : {most value : ℕ} {others : List ℕ} {fields : List (Option ℕ)} → value ≤ most → FieldsFit others fields → FieldsFit (most ∷ others) (some value ∷ fields)

-- eight of them: "A casing, brace or alignment value is above 1 or the indent above 64" is refused
abbrev pub EightFields : List (Option ℕ) → Type 0
EightFields fields = FieldsFit largest fields

-- field k of stored bytes
abbrev pub field_at : List ℕ → ℕ → Option ℕ
field_at stored k = cond (eqb (bit (map_of stored) k) 1) (some (get_or stored (place_of (map_of stored) k) 0)) none

-- n fields from field k on
unfoldable pub fields_from : List ℕ → ℕ → ℕ → List (Option ℕ)
fields_from stored k zero = []
fields_from stored k (suc n) = field_at stored k ∷ fields_from stored (k + 1) n

-- the eight fields that stored bytes hold
abbrev pub fields_of : List ℕ → List (Option ℕ)
fields_of stored = fields_from stored 0 8

-- a field's value, or its default where it does not stand
abbrev pub chosen : Option ℕ → ℕ → ℕ
chosen none default = default
chosen (some value) default = value

-- the value of field k
abbrev pub chosen_at : List (Option ℕ) → ℕ → ℕ
chosen_at fields k = chosen (get_or fields k none) (get_or defaults k 0)

-- the options of eight fields
unfoldable pub field_options : List (Option ℕ) → FormattingOptions
field_options fields =
    options_of (chosen_at fields 0) (chosen_at fields 1) (chosen_at fields 2) (chosen_at fields 3) (chosen_at fields 4) (chosen_at fields 5) (chosen_at fields 6) (chosen_at fields 7)

-- a list of bytes
abbrev pub AllBytes : List ℕ → Type 0
AllBytes bytes = (i : ℕ) → get_or bytes i 0 < 256
