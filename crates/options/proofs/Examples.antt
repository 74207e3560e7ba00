-- Stored options and what reading them gives, by computing.
--   rows_read : the number and the place of the answer, at both sides of each field's limit
--   fields_read : which field each bit is, and that the others are the defaults
--   values_named, letters_cased : what 0 and 1 stand for, and which bytes a casing changes
use Prim.Native.Nat.{ℕ}
use mathlib.Core.Path.{◌≡◌, refl}
use mathlib.Core.List.{List, [], ◌∷◌, map}
use Rattle.options.specs.Types.{casing_of, position_of, alignment_of, options_of}
use Rattle.options.specs.Casings.{cased}
use Rattle.options.specs.Stored.{standing, values_checked, stored_options, read_options, numbers_read}
use Rattle.options.specs.declared.Casing.TheVariants.{Uppercase, Lowercase}
use Rattle.options.specs.declared.BracePosition.TheVariants.{SameLine, NewLine}
use Rattle.options.specs.declared.Alignment.TheVariants.{Left, Right}

-- stored options, and the number and the place of their answer
abbrev pub rows : List (List ℕ × ℕ × ℕ)
rows =
    ([], 1, 0)
    ∷ (0 ∷ [], 0, 0)
    ∷ (0 ∷ 1 ∷ [], 1, 0)
    ∷ (1 ∷ [], 1, 0)
    ∷ (255 ∷ 1 ∷ 1 ∷ 1 ∷ 64 ∷ 255 ∷ 1 ∷ 255 ∷ [], 1, 0)
    -- the largest value of each field, and the next, which a margin and the bytes per line have not
    ∷ (1 ∷ 1 ∷ [], 0, 0)
    ∷ (1 ∷ 2 ∷ [], 2, 1)
    ∷ (2 ∷ 1 ∷ [], 0, 0)
    ∷ (2 ∷ 2 ∷ [], 2, 1)
    ∷ (4 ∷ 1 ∷ [], 0, 0)
    ∷ (4 ∷ 2 ∷ [], 2, 1)
    ∷ (8 ∷ 64 ∷ [], 0, 0)
    ∷ (8 ∷ 65 ∷ [], 2, 1)
    ∷ (16 ∷ 255 ∷ [], 0, 0)
    ∷ (32 ∷ 1 ∷ [], 0, 0)
    ∷ (32 ∷ 2 ∷ [], 2, 1)
    ∷ (64 ∷ 255 ∷ [], 0, 0)
    ∷ (128 ∷ 255 ∷ [], 0, 0)
    -- the first of several
    ∷ (3 ∷ 2 ∷ 2 ∷ [], 2, 1)
    ∷ (11 ∷ 1 ∷ 1 ∷ 65 ∷ [], 2, 3)
    ∷ (255 ∷ 1 ∷ 1 ∷ 1 ∷ 64 ∷ 255 ∷ 1 ∷ 255 ∷ 255 ∷ [], 0, 0)
    ∷ (255 ∷ 2 ∷ 1 ∷ 1 ∷ 64 ∷ 255 ∷ 1 ∷ 255 ∷ 255 ∷ [], 2, 1)
    ∷ []

-- each row is read as it says
pub rows_read : map (λ (row : List ℕ × ℕ × ℕ). numbers_read (read_options row.0)) rows ≡ map (λ (row : List ℕ × ℕ × ℕ). (row.1, row.2)) rows
unfolding standing values_checked read_options
rows_read = refl

-- where no field is stored the options are the defaults
pub none_stored : stored_options (0 ∷ []) ≡ options_of 1 1 0 4 20 1 30 8
unfolding stored_options
none_stored = refl

-- each bit is the field of document 01's order, and a field that is not stored has its default
pub fields_read : map stored_options
    ((1 ∷ 0 ∷ []) ∷ (2 ∷ 0 ∷ []) ∷ (4 ∷ 1 ∷ []) ∷ (8 ∷ 0 ∷ [])
    ∷ (16 ∷ 0 ∷ []) ∷ (32 ∷ 0 ∷ []) ∷ (64 ∷ 0 ∷ []) ∷ (128 ∷ 0 ∷ [])
    ∷ (88 ∷ 7 ∷ 8 ∷ 9 ∷ []) ∷ (255 ∷ 0 ∷ 0 ∷ 1 ∷ 64 ∷ 254 ∷ 0 ∷ 255 ∷ 9 ∷ []) ∷ [])
    ≡ options_of 0 1 0 4 20 1 30 8 ∷ options_of 1 0 0 4 20 1 30 8 ∷ options_of 1 1 1 4 20 1 30 8
    ∷ options_of 1 1 0 0 20 1 30 8 ∷ options_of 1 1 0 4 0 1 30 8 ∷ options_of 1 1 0 4 20 0 30 8
    ∷ options_of 1 1 0 4 20 1 0 8 ∷ options_of 1 1 0 4 20 1 30 0
    ∷ options_of 1 1 0 7 8 1 9 8 ∷ options_of 0 0 1 64 254 0 255 9 ∷ []
unfolding stored_options standing
fields_read = refl

-- "(0 upper, 1 lower)", "(0 same line, 1 new line)", "(0 left, 1 right)"
pub values_named : (map casing_of (0 ∷ 1 ∷ []) ≡ Uppercase ∷ Lowercase ∷ [])
    × (map position_of (0 ∷ 1 ∷ []) ≡ SameLine ∷ NewLine ∷ []) × (map alignment_of (0 ∷ 1 ∷ []) ≡ Left ∷ Right ∷ [])
values_named = (refl, refl, refl)

-- "ASCII upper and lower only": the letters at both ends, the bytes beside them, and bytes above 127
pub letters_cased :
    let letters : List ℕ = 97 ∷ 122 ∷ 65 ∷ 90 ∷ 64 ∷ 91 ∷ 96 ∷ 123 ∷ 48 ∷ 228 ∷ 196 ∷ [] in
    (cased Uppercase letters ≡ 65 ∷ 90 ∷ 65 ∷ 90 ∷ 64 ∷ 91 ∷ 96 ∷ 123 ∷ 48 ∷ 228 ∷ 196 ∷ [])
    × (cased Lowercase letters ≡ 97 ∷ 122 ∷ 97 ∷ 122 ∷ 64 ∷ 91 ∷ 96 ∷ 123 ∷ 48 ∷ 228 ∷ 196 ∷ [])
unfolding cased
letters_cased = (refl, refl)
