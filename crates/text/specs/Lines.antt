-- The lines of a text, by document 01: "A text's lines are what its newlines part; an empty text has none, and an empty line has no bytes."
use Rattle.std.specs.Prelude.{ℕ, ◌+◌, List, [], ◌∷◌, ◌++◌, Bool, true, false, cond, not, ◌&&◌, ◌||◌, eqb}
use Rattle.text.specs.Characters as characters
use Rattle.text.specs.Ink.{blank}

-- a byte in front of the first line
abbrev pub onto : ℕ → List (List ℕ) → List (List ℕ)
onto b [] = (b ∷ []) ∷ []
onto b (line ∷ lines) = (b ∷ line) ∷ lines

-- what the newlines of a text part, at least one line
unfoldable pub parted : List ℕ → List (List ℕ)
parted [] = [] ∷ []
parted (b ∷ bs) = cond (eqb b characters.newline) ([] ∷ parted bs) (onto b (parted bs))

abbrev pub lines_of : List ℕ → List (List ℕ)
lines_of [] = []
lines_of (b ∷ bs) = parted (b ∷ bs)

unfoldable pub has_newline : List ℕ → Bool
has_newline [] = false
has_newline (b ∷ bs) = eqb b characters.newline || has_newline bs

-- the place of the first newline, or the length where there is none
unfoldable pub newline_at : List ℕ → ℕ
newline_at [] = 0
newline_at (b ∷ bs) = cond (eqb b characters.newline) 0 (1 + newline_at bs)

-- no line has a newline
unfoldable pub plain : List (List ℕ) → Bool
plain [] = true
plain (line ∷ lines) = not (has_newline line) && plain lines

-- "exactly a newline"
unfoldable pub is_newline : List ℕ → Bool
is_newline [] = false
is_newline (b ∷ []) = eqb b characters.newline
is_newline (b ∷ c ∷ bs) = false

abbrev pub is_empty : List ℕ → Bool
is_empty [] = true
is_empty (b ∷ bs) = false

unfoldable pub ends_in_blank : List ℕ → Bool
ends_in_blank [] = false
ends_in_blank (b ∷ []) = blank b
ends_in_blank (b ∷ c ∷ bs) = ends_in_blank (c ∷ bs)

unfoldable pub none_ends_in_blank : List (List ℕ) → Bool
none_ends_in_blank [] = true
none_ends_in_blank (line ∷ lines) = not (ends_in_blank line) && none_ends_in_blank lines

unfoldable pub none_empty_touch : List (List ℕ) → Bool
none_empty_touch [] = true
none_empty_touch (line ∷ []) = true
none_empty_touch (line ∷ next ∷ lines) = not (is_empty line && is_empty next) && none_empty_touch (next ∷ lines)

-- "no line ends in a blank"
abbrev pub no_line_ends_in_blank : List ℕ → Bool
no_line_ends_in_blank text = none_ends_in_blank (lines_of text)

-- "no two empty lines touch"
abbrev pub no_empty_lines_touch : List ℕ → Bool
no_empty_lines_touch text = none_empty_touch (lines_of text)

-- "lines joined by newlines"
unfoldable pub behind : List (List ℕ) → List ℕ
behind [] = []
behind (line ∷ lines) = characters.newline ∷ (line ++ behind lines)

unfoldable pub joined : List (List ℕ) → List ℕ
joined [] = []
joined (line ∷ lines) = line ++ behind lines
