-- Blank and ink, by document 01: "Blank means bytes 9 to 13 and 32. All else is ink."
use Rattle.std.specs.Prelude.{ℕ, ◌+◌, List, [], ◌∷◌, ◌++◌, Bool, true, cond, ◌&&◌, ◌||◌, length, replicate, eqb, leb}
use Rattle.text.specs.Characters as characters

unfoldable pub blank : ℕ → Bool
blank b = eqb b characters.space || (leb 9 b && leb b 13)

-- the ink of a list, in order
unfoldable pub ink : List ℕ → List ℕ
ink [] = []
ink (b ∷ bs) = cond (blank b) (ink bs) (b ∷ ink bs)

-- the ink of several lists, one after the other
unfoldable pub inks : List (List ℕ) → List ℕ
inks [] = []
inks (t ∷ ts) = ink t ++ inks ts

-- lists end to end
unfoldable pub flat : List (List ℕ) → List ℕ
flat [] = []
flat (t ∷ ts) = t ++ flat ts

-- a list without ink
unfoldable pub all_blank : List ℕ → Bool
all_blank [] = true
all_blank (b ∷ bs) = blank b && all_blank bs

-- "trailing blanks cut"
unfoldable pub trim_end : List ℕ → List ℕ
trim_end [] = []
trim_end (b ∷ bs) = cond (all_blank (b ∷ bs)) [] (b ∷ trim_end bs)

-- how many blanks stand before the first ink
unfoldable pub leading_blanks : List ℕ → ℕ
leading_blanks [] = 0
leading_blanks (b ∷ bs) = cond (blank b) (1 + leading_blanks bs) 0

-- the length up to the last ink, 0 where there is none
abbrev pub ink_end : List ℕ → ℕ
ink_end bytes = length (trim_end bytes)

abbrev pub spaces : ℕ → List ℕ
spaces n = replicate n characters.space
