-- Which bytes are blank, accepted and newlines, and two-byte numbers at their ends, by computing.
--   blanks_held, accepted_held, newlines_held : all bytes that are
--   numbers_stored, numbers_read_lem, ends_held : the stored form, reading it, and where it fits
use Rattle.std.specs.Prelude.{Err, Ok, Some, None}
use Prim.Native.Nat.{ℕ, zero, suc, ◌+◌}
use mathlib.Core.Path.{◌≡◌, refl}
use mathlib.Core.List.{List, [], ◌∷◌, map}
use mathlib.Core.Bool.{Bool, cond}
use lib.ListN.{length}
use Rattle.text.specs.Ink.{blank}
use Rattle.text.specs.Lines.{is_newline}
use Rattle.text.specs.Accepted.{accepted_byte}
use Rattle.text.specs.Numbers.{two_bytes, read_number}
use Rattle.text.specs.Stores.{number_end}
use Rattle.text.specs.declared.numbers.Unstored.TheVariants.{NoRoom, TooLarge}

-- those of so many numbers from one on that pass a test
abbrev those : (ℕ → Bool) → ℕ → ℕ → List ℕ
those test at zero = []
those test at (suc count) = let others = those test (at + 1) count in cond (test at) (at ∷ others) others

-- "Blank means bytes 9 to 13 and 32."
pub blanks_held : those blank 0 256 ≡ 9 ∷ 10 ∷ 11 ∷ 12 ∷ 13 ∷ 32 ∷ []
unfolding blank
blanks_held = refl

-- "Only texts of bytes 0 to 127 are accepted."
pub accepted_held : (length (those accepted_byte 0 128) ≡ 128) × (those accepted_byte 126 130 ≡ 126 ∷ 127 ∷ [])
unfolding accepted_byte
accepted_held = (refl, refl)

pub newlines_held : those (λ byte. is_newline (byte ∷ [])) 0 256 ≡ 10 ∷ []
unfolding is_newline
newlines_held = refl

-- "All two-byte numbers are low byte first."
pub numbers_stored : map two_bytes (0 ∷ 1 ∷ 255 ∷ 256 ∷ 4097 ∷ 65535 ∷ [])
    ≡ (0 ∷ 0 ∷ []) ∷ (1 ∷ 0 ∷ []) ∷ (255 ∷ 0 ∷ []) ∷ (0 ∷ 1 ∷ []) ∷ (1 ∷ 16 ∷ []) ∷ (255 ∷ 255 ∷ []) ∷ []
numbers_stored = refl

pub numbers_read_lem : map (read_number (1 ∷ 16 ∷ 255 ∷ 255 ∷ [])) (0 ∷ 1 ∷ 2 ∷ 3 ∷ 4 ∷ [])
    ≡ Some 4097 ∷ Some 65296 ∷ Some 65535 ∷ None ∷ None ∷ []
numbers_read_lem = refl

-- of 65,535 and of 65,536, with room and without
pub ends_held :
    let ended = number_end (0 ∷ 0 ∷ 0 ∷ []) in
    ended 1 65535 ∷ ended 2 65535 ∷ ended 1 65536 ∷ [] ≡ Ok 3 ∷ Err NoRoom ∷ Err TooLarge ∷ []
ends_held = refl
