-- A line for a record that uses one of the eight places of document 01.
use Rattle.std.specs.Prelude.{ℕ, zero, suc, ◌+◌, ◌/◌, ◌%◌, List, [], ◌∷◌, ◌++◌, cond, None, length, eqb, ltb, leb}
use Prim.Native.String.{String}
use Rattle.tree.specs.Codes as codes
use Rattle.tree.specs.Tree.{Trivium}
use Rattle.tree.specs.declared.own.Own.{Own}
use Rattle.leaves.specs.Items.{items_at}
use Rattle.wording.specs.Lines.{say, quoted}
use Rattle.wording.specs.Records.{offset, leaf_content}

-- a letter in parentheses, where its bit stands
abbrev pub letter : ℕ → ℕ → List (List ℕ)
letter place bit = cond (eqb bit 1) ((40 ∷ place ∷ 41 ∷ []) ∷ []) []

-- so many letters, from one on, of bits
unfoldable pub letters : ℕ → ℕ → ℕ → List (List ℕ)
letters zero place bits = []
letters (suc left) place bits = letter place (bits % 2) ++ letters left (place + 1) (bits / 2)

-- the bits of (f) and (g) among a record's letters
abbrev pub register_letter : ℕ
register_letter = 32

abbrev pub expression_head : ℕ
expression_head = 64

-- what becomes of it: (f) alone is kept, (g) alone printed twice, all else dropped
abbrev pub fate : ℕ → String
fate bits = cond (eqb bits register_letter) " kept" (cond (eqb bits expression_head) " printed twice" " dropped")

-- the text of a comment; whitespace and newlines have none
abbrev pub comment : Trivium → List (List ℕ)
comment item = cond (ltb item.code codes.c_style) [] (say " " ++ quoted item.text)

unfoldable pub comments : List Trivium → List (List ℕ)
comments [] = []
comments (item ∷ items) = comment item ++ comments items

-- the closing character itself, for (h)
abbrev pub closing : List ℕ → ℕ → Own → List (List ℕ)
closing tree bit own = cond (eqb bit 1) (leaf_content tree None own) []

-- a loss's line: its record's offset, the letters (a) to (h) of its places, the texts that stand there, and what becomes of them
abbrev pub loss_pieces : List ℕ → ℕ → ℕ → Own → List (List ℕ)
loss_pieces tree place bits own =
    offset place ++ (letters 8 97 bits ++ (comments (items_at tree own.trivia own.trivia_count)
    ++ (closing tree (bits / 128 % 2) own ++ (say (fate bits) ++ say "\n"))))

-- own bytes that do not stand in the tree have no line
abbrev pub loss_line : List ℕ → ℕ → ℕ → Own → List (List ℕ)
loss_line tree place bits own = cond (leb own.end (length tree)) (loss_pieces tree place bits own) []
