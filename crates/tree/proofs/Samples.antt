-- Document 01's sample tree and others, read and judged by computing.
--   samples_judged : map found samples ≡ map wanted samples
--   depths_judged : .. depth 64 is accepted, depth 65 is refusal 4
--   tree_too_long, tree_longest : a tree of 65,536 bytes is refusal 3 whatever it holds, one of 65,535 is not
--   sample_tree : read_file 64 nop .tree ≡ node 0 [] (Vec (cons (node 4 [] (Instruction (node 6 [] (Leaf (33 ∷ []))) absent)) nil))
use mathlib.Core.Path.{◌≡◌, refl}
use mathlib.Core.List.{List, [], ◌∷◌, ◌++◌, map}
use Prim.Native.Nat.{ℕ, zero, suc, ◌≤◌}
use native.Mathlib.Omega.{arith}
use lib.ListN.{length}
use borrow.Author.Tests.{lt-ltb, ne_eqb}
use Rattle.answers.specs.Numbers.{numbers_checked, and_then}
use Rattle.text.specs.Accepted.{accepted_byte, accepted_text, fault_at}
use Rattle.tree.specs.Tree.{absent, node, nil, cons, Instruction, Vec, Leaf, chain, built}
use Rattle.tree.specs.Own.{fields_fit, map_fits, sized_end, trivium_end, trivia_end, trivia_read, text_end, rest_of, own_at, read_own}
use Rattle.tree.specs.Reading.{trivia_from, trivia_texts, fields_due, parts_due, read_parts, read}
use Rattle.tree.specs.Checking.{read_file, end_checked, texts_checked, tree_checked, batch_checked}

-- bytes, the limits on length and depth, and the answer's number and place
record Sample : Type 0 where
  bytes : List ℕ
  limit : ℕ
  levels : ℕ
  number : ℕ
  place : ℕ

-- document 01's sample tree
abbrev pub nop : List ℕ
nop = 24 ∷ 0 ∷ 1 ∷ 0 ∷ 13 ∷ 2 ∷ 25 ∷ 2 ∷ 1 ∷ 0 ∷ 33 ∷ []

-- at the batch limits
abbrev batch : List ℕ → ℕ → ℕ → Sample
batch bytes number place = record { bytes = bytes; limit = 65535; levels = 64; number = number; place = place }

-- the sample tree at other limits
abbrev within : ℕ → ℕ → ℕ → ℕ → Sample
within limit levels number place = record { bytes = nop; limit = limit; levels = levels; number = number; place = place }

abbrev samples : List Sample
samples =
    batch nop 0 0
    ∷ batch (24 ∷ 0 ∷ 0 ∷ 0 ∷ []) 0 0  -- no tokens
    ∷ batch (24 ∷ 0 ∷ 1 ∷ 0 ∷ 14 ∷ 14 ∷ 25 ∷ 2 ∷ 1 ∷ 0 ∷ 97 ∷ 25 ∷ 2 ∷ 1 ∷ 0 ∷ 58 ∷ 27 ∷ 14 ∷ 25 ∷ 2 ∷ 1 ∷ 0 ∷ 123 ∷ 24 ∷ 0 ∷ 0 ∷ 0 ∷ 25 ∷ 2 ∷ 1 ∷ 0 ∷ 125 ∷ []) 0 0  -- a label with an empty block
    ∷ batch (24 ∷ 0 ∷ 1 ∷ 0 ∷ 7 ∷ 2 ∷ 25 ∷ 1 ∷ 2 ∷ 0 ∷ 0 ∷ 1 ∷ 0 ∷ 32 ∷ 1 ∷ []) 0 0  -- the end of the file, with a space and a newline before it
    ∷ batch [] 3 0
    ∷ within 10 64 3 0
    ∷ within 11 3 0 0
    ∷ within 11 2 4 6  -- the mnemonic stands at depth 3
    ∷ batch (24 ∷ 0 ∷ 1 ∷ 0 ∷ 13 ∷ 2 ∷ 25 ∷ 2 ∷ 1 ∷ 0 ∷ 56 ∷ []) 5 6  -- there are 56 mnemonics
    ∷ batch (24 ∷ 0 ∷ 1 ∷ 0 ∷ 24 ∷ 0 ∷ 0 ∷ 0 ∷ []) 5 4  -- a list is no token
    ∷ batch (24 ∷ 0 ∷ 1 ∷ 0 ∷ 10 ∷ 30 ∷ []) 5 4  -- `tag_else` without `else_`
    ∷ batch (24 ∷ 0 ∷ 1 ∷ []) 5 0  -- own bytes that are cut
    ∷ batch (24 ∷ 0 ∷ 1 ∷ 0 ∷ 13 ∷ 2 ∷ []) 5 6  -- a record is due at the end
    ∷ batch (nop ++ (7 ∷ [])) 5 11  -- a byte behind the list
    ∷ batch (24 ∷ 0 ∷ 1 ∷ 0 ∷ 8 ∷ 2 ∷ 25 ∷ 2 ∷ 2 ∷ 0 ∷ 65 ∷ 200 ∷ []) 7 11  -- in a text
    ∷ batch (24 ∷ 0 ∷ 1 ∷ 0 ∷ 7 ∷ 2 ∷ 25 ∷ 1 ∷ 2 ∷ 0 ∷ 1 ∷ 2 ∷ 1 ∷ 0 ∷ 200 ∷ []) 7 14  -- in a comment
    ∷ batch (24 ∷ 0 ∷ 2 ∷ 0 ∷ 8 ∷ 2 ∷ 25 ∷ 2 ∷ 1 ∷ 0 ∷ 200 ∷ []) 5 11  -- 5 stands before 7
    ∷ []

abbrev found : Sample → ℕ × ℕ
found sample = numbers_checked (tree_checked sample.limit sample.levels sample.bytes)

abbrev wanted : Sample → ℕ × ℕ
wanted sample = (sample.number, sample.place)

pub samples_judged : map found samples ≡ map wanted samples
unfolding tree_checked texts_checked read read_parts parts_due fields_due trivia_from trivia_texts read_own own_at rest_of text_end trivia_read trivia_end
    trivium_end sized_end map_fits fields_fit built chain accepted_text accepted_byte fault_at
samples_judged = refl

-- what the sample tree's bytes hold
pub sample_tree : (read_file 64 nop).tree ≡ node 0 [] (Vec (cons (node 4 [] (Instruction (node 6 [] (Leaf (33 ∷ []))) absent)) nil))
unfolding read read_parts parts_due fields_due trivia_from read_own own_at rest_of text_end trivia_read trivia_end trivium_end sized_end map_fits fields_fit built chain
sample_tree = refl

-- ---- the batch limits

-- braces round a list, so many times: each is three levels
abbrev nested : ℕ → List ℕ → List ℕ
nested zero inner = inner
nested (suc times) inner =
    24 ∷ 0 ∷ 1 ∷ 0 ∷ 2 ∷ 2 ∷ 27 ∷ 14 ∷ 25 ∷ 2 ∷ 1 ∷ 0 ∷ 123 ∷ (nested times inner ++ (25 ∷ 2 ∷ 1 ∷ 0 ∷ 125 ∷ []))

-- a list without tokens at depth 64, and one with a token, which stands at depth 65
pub depths_judged : map (λ (inner : List ℕ). numbers_checked (batch_checked (nested 21 inner)))
    ((24 ∷ 0 ∷ 0 ∷ 0 ∷ []) ∷ nop ∷ []) ≡ (0, 0) ∷ (4, 277) ∷ []
unfolding tree_checked texts_checked read read_parts parts_due fields_due trivia_from trivia_texts read_own own_at rest_of
    text_end trivia_read trivia_end trivium_end sized_end map_fits fields_fit built chain accepted_text accepted_byte fault_at
depths_judged = refl

-- a tree of one byte more than 65,535, whatever it holds
pub tree_too_long : (bytes : List ℕ) → 65536 ≤ length bytes → numbers_checked (batch_checked bytes) ≡ (3, 0)
unfolding tree_checked
tree_too_long bytes long =
    rw (ne_eqb (length bytes) 0 (λ is. omega (arith, long, is)), lt-ltb 65535 (length bytes) (omega (arith, long)))

-- one of so many is judged by what it holds
pub tree_longest : (bytes : List ℕ) → length bytes ≡ 65535
    → batch_checked bytes ≡ and_then (read_file 64 bytes).checked
    (and_then (end_checked bytes (read_file 64 bytes).end) (texts_checked (read_file 64 bytes).texts))
unfolding tree_checked
tree_longest bytes long = rw long
