-- A tree that passed passes where more levels and a greater length are allowed, and the same tree is read.
--   same_read : .. levels ≤ more → .. read levels bytes class at .checked ≡ no_refusal → read more bytes class at ≡ read levels bytes class at
--   same_file : .. tree_checked limit levels bytes ≡ no_refusal → (tree_checked limit' levels' bytes ≡ no_refusal) × (read_file levels' bytes ≡ read_file levels bytes)
use Rattle.std.specs.Prelude.{Result, Ok, Err}
use Rattle.answers.specs.declared.Refusal.{Refusal}
use Rattle.tree.specs.declared.own.Own.{Own}
use Rattle.answers.specs.Numbers.{no_refusal}
use mathlib.Core.Path.{◌≡◌, refl, ap}
use mathlib.Core.List.{List, [], ◌∷◌}
use Prim.Native.Nat.{ℕ, zero, suc, ◌≤◌}
use native.Mathlib.Omega.{arith}
use lib.ListN.{length}
use lib.Dec.{eqb, ltb, eqb-suc-zero}
use borrow.Author.Tests.{le-ltb, ltb-false}
use Rattle.answers.proofs.Cases.{failed_passed}
use Rattle.tree.specs.Own.{read_own}
use Rattle.tree.specs.Reading.{Due, nothing, due, Reader, parts_due, read_parts, record_of, read_on, unread, read}
use Rattle.tree.specs.Checking.{read_file, length_checked, tree_checked}
use Rattle.tree.specs.declared.grammar.Class.{Class}
use Rattle.tree.specs.declared.grammar.Class.TheVariants.{Tokens}
use Rattle.tree.proofs.Cases.{by_choice, both_passed}
use Rattle.tree.proofs.Readings.{no_record, file_passed}

-- a record's own bytes are read alike at all levels but the last
same_own : (bytes : List ℕ) (at : ℕ) (class : Class) (levels more : ℕ) → read_own bytes at class (suc more) ≡ read_own bytes at class (suc levels)
unfolding read_own
same_own bytes at class levels more = rw (eqb-suc-zero more, eqb-suc-zero levels)

-- parts that one reader reads without refusal another reads alike that does so with each record
same_parts : (reader other : Reader) → ((class : Class) (at : ℕ) → (reader class at).checked ≡ no_refusal → other class at ≡ reader class at)
    → (parts : List Due) (at : ℕ) → (read_parts reader parts at).checked ≡ no_refusal → read_parts other parts at ≡ read_parts reader parts at
unfolding read_parts
same_parts reader other alike [] at e = refl
same_parts reader other alike (nothing ∷ parts) at e = rw (same_parts reader other alike parts at e)
same_parts reader other alike (due class ∷ parts) at e =
    let passed = both_passed (reader class at).checked (read_parts reader parts (reader class at).end).checked e in
    rw (alike class at passed.0, same_parts reader other alike parts (reader class at).end passed.1)

-- so with a record whose own bytes are known
same_record : (bytes : List ℕ) (reader other : Reader) → ((class : Class) (at : ℕ) → (reader class at).checked ≡ no_refusal → other class at ≡ reader class at)
    → (class : Class) (at : ℕ) (own : Result Own Refusal) → (read_on reader bytes class at own).checked ≡ no_refusal → read_on other bytes class at own ≡ read_on reader bytes class at own
same_record bytes reader other alike class at (Ok own) e = ap (record_of bytes at own) (same_parts reader other alike (parts_due class own) own.end e)
same_record bytes reader other alike class at (Err refusal) e = refl

-- without levels nothing is read
unread_failed : {R : Type 0} (bytes : List ℕ) (class : Class) (at : ℕ) (own : Result Own Refusal) → read_own bytes at class zero ≡ own
    → (read_on unread bytes class at own).checked ≡ no_refusal → R
unread_failed bytes class at (Ok own) is e = no_record bytes at class own is
unread_failed bytes class at (Err refusal) is e = failed_passed e

-- what is read without refusal is read alike with more levels
pub same_read : (levels more : ℕ) (bytes : List ℕ) → levels ≤ more → (class : Class) (at : ℕ) → (read levels bytes class at).checked ≡ no_refusal
    → read more bytes class at ≡ read levels bytes class at
unfolding read
same_read zero more bytes within class at e = unread_failed bytes class at _ refl e
same_read (suc levels) zero bytes within class at e = absurd (omega arith)
same_read (suc levels) (suc more) bytes within class at e =
    rw (same_own bytes at class levels more)
    (same_record bytes (read levels bytes) (read more bytes) (same_read levels more bytes (omega arith)) class at (read_own bytes at class (suc levels)) e)

-- a length that passed is within the limit
pub length_passed : (limit : ℕ) (bytes : List ℕ) → length_checked limit bytes ≡ no_refusal → length bytes ≤ limit
length_passed limit bytes e =
    by_choice (eqb (length bytes) 0) _ _ no_refusal e
    (λ q f. failed_passed f)
    (λ q f. by_choice (ltb limit (length bytes)) _ _ no_refusal f (λ long g. failed_passed g) (λ long g. ltb-false limit (length bytes) long))

-- a greater length is allowed
more_length : (limit more : ℕ) (bytes : List ℕ) → limit ≤ more → length_checked limit bytes ≡ no_refusal → length_checked more bytes ≡ no_refusal
more_length limit more bytes within e =
    by_choice (eqb (length bytes) 0) _ _ no_refusal e
    (λ q f. failed_passed f)
    (λ q f. by_choice (ltb limit (length bytes)) _ _ no_refusal f
    (λ long g. failed_passed g)
    (λ long g. rw (q, le-ltb more (length bytes) (omega (arith, ltb-false limit (length bytes) long)))))

-- a tree that passed passes where more is allowed, and the same tree is read
pub same_file : (limit limit' levels levels' : ℕ) (bytes : List ℕ) → limit ≤ limit' → levels ≤ levels' → tree_checked limit levels bytes ≡ no_refusal
    → (tree_checked limit' levels' bytes ≡ no_refusal) × (read_file levels' bytes ≡ read_file levels bytes)
unfolding tree_checked
same_file limit limit' levels levels' bytes longer deeper e =
    let passed = file_passed limit levels bytes e in
    let same = same_read levels levels' bytes deeper Tokens 0 passed.layout in
    (rw (same, more_length limit limit' bytes longer passed.size, passed.layout, passed.end) passed.texts, same)
