-- A line that is put together in a lent buffer: pieces one behind the other from a place on. A piece that does not fit is left out.
use Rattle.std.specs.Prelude.{ℕ, ◌≡◌, zero, suc, ◌+◌, ◌/◌, ◌%◌, List, [], ◌∷◌, ◌++◌, map, cond, ◌||◌, length, get_or, replicate, eqb, ltb}
use Prim.Native.String.{String}
use Rattle.std.specs.Borrow.{GName}
use Rattle.std.proofs.lemmas.List.Edits.{sets}
use Rattle.text.specs.Characters as characters
use Rattle.text.specs.Stores.{fits}
unfoldable pub use Rattle.text.specs.Literals.{ascii}
use Rattle.wording.specs.declared.lines.Line as lines

-- a buffer, and the place behind the line's last byte
pub record Line : Type 0 where
  pub buffer : List ℕ
  pub used : ℕ

abbrev pub line_in : List ℕ → ℕ → Line
line_in buffer used = record { buffer = buffer; used = used }

unfoldable pub put : List ℕ → Line → Line
put piece line =
    cond (fits line.buffer line.used piece) (line_in (sets line.buffer line.used piece) (line.used + length piece)) line

unfoldable pub puts : List (List ℕ) → Line → Line
puts [] line = line
puts (piece ∷ pieces) line = puts pieces (put piece line)

-- ---- the struct that the functions put pieces into

abbrev pub line_of : lines.Line → Line
line_of line = line_in line.buffer.now line.used

-- the lent buffer that a line stands in, by its name: what the line holds when it is let go is what the buffer of that name then holds
abbrev pub lender_of : lines.Line → GName
lender_of line = line.buffer.ghost_name

-- a line gets pieces behind what it holds, and stays in its buffer
pub record Gets (before after : lines.Line) (pieces : List (List ℕ)) : Type 0 where
  pub line : line_of after ≡ puts pieces (line_of before)
  pub lender : lender_of after ≡ lender_of before

-- ---- pieces

abbrev pub say : String → List (List ℕ)
say text = ascii text ∷ []

abbrev pub spaces : ℕ → List (List ℕ)
spaces count = replicate count characters.space ∷ []

-- the last digits of a number in decimal, at most so many, a piece each
unfoldable pub digits : ℕ → ℕ → List (List ℕ)
digits zero n = []
digits (suc most) n = cond (ltb n 10) (((48 + n) ∷ []) ∷ []) (digits most (n / 10) ++ (((48 + n % 10) ∷ []) ∷ []))

-- a number; none of a program has more than twenty digits
abbrev pub decimal : ℕ → List (List ℕ)
decimal n = digits 20 n

-- a byte by its two digits of base sixteen, behind `\x`
abbrev pub coded : ℕ → List ℕ
coded byte = 92 ∷ 120 ∷ get_or (ascii "0123456789abcdef") (byte / 16) 0 ∷ get_or (ascii "0123456789abcdef") (byte % 16) 0 ∷ []

-- a byte as a person reads it: a newline as `\n`, a quote and a backslash behind a backslash, and what is no visible character by its number
unfoldable pub shown : ℕ → List ℕ
shown byte =
    cond (eqb byte characters.newline) (92 ∷ 110 ∷ [])
    (cond (eqb byte characters.quote) (92 ∷ characters.quote ∷ [])
    (cond (eqb byte 92) (92 ∷ 92 ∷ [])
    (cond (ltb byte 32 || ltb 126 byte) (coded byte) (byte ∷ []))))

abbrev pub quote : List (List ℕ)
quote = (characters.quote ∷ []) ∷ []

-- a text in quotes
abbrev pub quoted : List ℕ → List (List ℕ)
quoted bytes = quote ++ (map shown bytes ++ quote)
