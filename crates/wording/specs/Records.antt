-- A line for a record of a tree, and one for a chunk.
use Rattle.std.specs.Prelude.{ℕ, List, [], ◌∷◌, ◌++◌, cond, ◌&&◌, Option, Some, None, length, get_or, eqb, ltb, leb}
use Rattle.std.proofs.Math.Seq.{slice}
use Rattle.tree.specs.Kinds as kinds
use Rattle.tree.specs.Codes as codes
use Rattle.tree.specs.Tree.{Trivium}
use Rattle.tree.specs.declared.own.Own.{Own}
use Rattle.tree.specs.declared.grammar.Class.{Class}
use Rattle.chunks.specs.declared.stored.StoredChunk.{StoredChunk}
use Rattle.leaves.specs.Items.{items_at}
use Rattle.wording.specs.Lines.{say, spaces, decimal, quoted}
use Rattle.wording.specs.Names.{kind_name, trivia_names, type_name}
use Rattle.wording.specs.Entries.{indexed, table_of}
use Rattle.wording.specs.declared.entries.Table.{Table}

-- so many spaces that an offset's last digit is the fifth of its line
abbrev pub spaces_before : ℕ → ℕ
spaces_before n = cond (ltb n 10) 4 (cond (ltb n 100) 3 (cond (ltb n 1000) 2 (cond (ltb n 10000) 1 0)))

abbrev pub offset : ℕ → List (List ℕ)
offset n = spaces (spaces_before n) ++ (decimal n ++ say " ")

-- a depth, and as much indentation
abbrev pub deep : ℕ → List (List ℕ)
deep depth = decimal depth ++ (spaces depth ++ spaces depth)

-- a trivia item in brackets: what it is, and its text, of which a newline has none
abbrev pub trivium : Trivium → List (List ℕ)
trivium item =
    say " [" ++ (say (get_or trivia_names item.code "")
    ++ cond (eqb item.code codes.newline) (say "]") (say " " ++ (quoted item.text ++ say "]")))

unfoldable pub trivia : List Trivium → List (List ℕ)
trivia [] = []
trivia (item ∷ items) = trivium item ++ trivia items

-- a leaf's text in quotes, or the case of an enum whose index is its first byte
abbrev pub leaf_shown : List ℕ → Option Table → Own → List (List ℕ)
leaf_shown tree None own = quoted (slice own.text own.end tree)
leaf_shown tree (Some table) own = indexed table (get_or tree own.text 0)

-- what a leaf shows behind a space; nothing where it has no text
abbrev pub leaf_content : List ℕ → Option Table → Own → List (List ℕ)
leaf_content tree table own = cond (leb own.end own.text) [] (say " " ++ leaf_shown tree table own)

-- what stands in a record beside its parts: how many a list has, or what a leaf shows
abbrev pub content : List ℕ → ℕ → Option Table → Own → List (List ℕ)
content tree number table own = cond (eqb number kinds.vec) (say " of " ++ decimal own.count) (leaf_content tree table own)

-- a record's line: its offset, its depth, its kind by name, a list's count or what a leaf shows, and its trivia
abbrev pub record_pieces : List ℕ → ℕ → ℕ → Class → Own → List (List ℕ)
record_pieces tree place depth class own =
    offset place ++ (deep depth ++ (say (kind_name (get_or tree place 0))
    ++ (content tree (get_or tree place 0) (table_of class) own
    ++ (trivia (items_at tree own.trivia own.trivia_count) ++ say "\n"))))

-- own bytes that do not stand in the tree have no line
abbrev pub record_line : List ℕ → ℕ → ℕ → Class → Own → List (List ℕ)
record_line tree place depth class own =
    cond (ltb place (length tree) && leb own.end (length tree)) (record_pieces tree place depth class own) []

-- a chunk's line: its place among the stored ones, its type, its indent and its text
abbrev pub chunk_pieces : List ℕ → ℕ → StoredChunk → List (List ℕ)
chunk_pieces list place chunk =
    offset place ++ (say (type_name chunk.ty) ++ (say " " ++ (decimal chunk.indent ++ (say " "
    ++ (quoted (slice chunk.start chunk.end list) ++ say "\n")))))

-- a chunk that does not stand in the list has no line
abbrev pub chunk_line : List ℕ → ℕ → StoredChunk → List (List ℕ)
chunk_line list place chunk = cond (leb chunk.start chunk.end && leb chunk.end (length list)) (chunk_pieces list place chunk) []
