-- Which bytes a text may hold, by document 01: "Only texts of bytes 0 to 127 are accepted."
use Rattle.std.specs.Prelude.{ℕ, ◌+◌, List, [], ◌∷◌, Bool, true, cond, ◌&&◌, leb}

unfoldable pub accepted_byte : ℕ → Bool
accepted_byte b = leb b 127

unfoldable pub accepted_text : List ℕ → Bool
accepted_text [] = true
accepted_text (b ∷ bs) = accepted_byte b && accepted_text bs

-- the place of the first byte that is not accepted, or the length where there is none
unfoldable pub fault_at : List ℕ → ℕ
fault_at [] = 0
fault_at (b ∷ bs) = cond (accepted_byte b) (1 + fault_at bs) 0
