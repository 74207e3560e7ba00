-- The check of a tree: refusals 3, 4, 5 and 7 of document 01, with the limits on length and depth as arguments.
use Rattle.std.specs.Prelude.{ℕ, ◌+◌, List, [], ◌∷◌, Bool, cond, length, eqb, ltb, Err}
use Rattle.std.proofs.Math.Seq.{slice}
use Rattle.answers.specs.declared.Reason.TheVariants.{TreeLength, TreeLayout, NotAscii}
use Rattle.text.specs.Accepted.{accepted_text, fault_at}
use Rattle.answers.specs.Numbers.{no_refusal, and_then, numbers_checked, unless_refused, Checked}
use Rattle.tree.specs.Reading.{Placed, Reading, read}
use Rattle.tree.specs.declared.grammar.Class.TheVariants.{Tokens}

-- "The file is a list of kinds 0 to 23."
abbrev pub read_file : ℕ → List ℕ → Reading
read_file levels bytes = read levels bytes Tokens 0

-- "The tree has 0 bytes or more than 65,535; place 0."
abbrev pub length_checked : ℕ → List ℕ → Checked
length_checked limit bytes =
    cond (eqb (length bytes) 0) (Err (record { reason = TreeLength; place = 0 }))
    (cond (ltb limit (length bytes)) (Err (record { reason = TreeLength; place = 0 })) no_refusal)

-- "or bytes follow the list (the first of them)"
abbrev pub end_checked : List ℕ → ℕ → Checked
end_checked bytes end = cond (ltb end (length bytes)) (Err (record { reason = TreeLayout; place = end })) no_refusal

-- "A text or trivia byte is above 127; the place of the first."
unfoldable pub texts_checked : List Placed → Checked
texts_checked [] = no_refusal
texts_checked (text ∷ texts) =
    cond (accepted_text text.bytes) (texts_checked texts)
    (Err (record { reason = NotAscii; place = text.place + fault_at text.bytes }))

-- no byte behind the count of the file's list is above 127, so none of a text is
abbrev pub plain_tree : List ℕ → Bool
plain_tree bytes = accepted_text (slice 4 (length bytes) bytes)

-- in checking order; "of 4 and 5 the one met first in reading is given"
unfoldable pub tree_checked : ℕ → ℕ → List ℕ → Checked
tree_checked limit levels bytes =
    and_then (length_checked limit bytes)
    (and_then (read_file levels bytes).checked
    (and_then (end_checked bytes (read_file levels bytes).end)
    (texts_checked (read_file levels bytes).texts)))

-- the batch limits: 65,535 bytes, depth 64
abbrev pub batch_checked : List ℕ → Checked
batch_checked bytes = tree_checked 65535 64 bytes

-- ---- in document 01's numbers: (0, 0), or a refusal's number and place

unfoldable pub length_numbers : ℕ → List ℕ → ℕ × ℕ
length_numbers limit bytes = cond (eqb (length bytes) 0) (3, 0) (cond (ltb limit (length bytes)) (3, 0) (0, 0))

-- bytes behind the list
abbrev pub end_numbers : List ℕ → ℕ → ℕ × ℕ
end_numbers bytes end = cond (ltb end (length bytes)) (5, end) (0, 0)

unfoldable pub texts_numbers : List Placed → ℕ × ℕ
texts_numbers [] = (0, 0)
texts_numbers (text ∷ texts) = cond (accepted_text text.bytes) (texts_numbers texts) (7, text.place + fault_at text.bytes)

-- 3; then 4 or 5, where reading ends without the place behind the file's list; then 5 for what stands there; then 7
unfoldable pub tree_numbers : ℕ → ℕ → List ℕ → ℕ × ℕ
tree_numbers limit levels bytes =
    let file = read_file levels bytes in
    unless_refused (length_numbers limit bytes)
    (unless_refused (numbers_checked file.checked)
    (unless_refused (end_numbers bytes file.end) (texts_numbers file.texts)))
