-- Cases of a reading, and of a tree that passed.
use Rattle.std.specs.Prelude.{Result, Ok, Err}
use mathlib.Core.Path.{◌≡◌, refl}
use mathlib.Core.List.{List}
use Prim.Native.Nat.{ℕ, zero, suc}
use lib.ListN.{length}
use lib.Dec.{leb}
use Rattle.answers.specs.declared.Refusal.{Refusal}
use Rattle.answers.specs.Numbers.{no_refusal, and_then}
use Rattle.tree.specs.Own.{read_own}
use Rattle.tree.specs.Reading.{Reading, Reader, parts_due, read_parts, record_of, read_on, unread, read}
use Rattle.tree.specs.Checking.{read_file, length_checked, end_checked, texts_checked, tree_checked}
use Rattle.tree.specs.declared.grammar.Class.{Class}
use Rattle.tree.specs.declared.own.Own.{Own}
use Rattle.tree.proofs.Cases.{by_choice, refused_record_lem, both_passed}

-- where no level is left no record is read
pub no_record : {R : Type 0} (bytes : List ℕ) (at : ℕ) (class : Class) (own : Own) → read_own bytes at class 0 ≡ Ok own → R
unfolding read_own
no_record bytes at class own e = by_choice (leb (length bytes) at) _ _ (Ok own) e (λ q f. refused_record_lem f) (λ q f. refused_record_lem f)

-- what holds of refused records, and of a record where it holds of the readings one level below, holds of every reading
module _ (bytes : List ℕ) (P : ℕ → Class → ℕ → Reading → Type 0)
    (refusal : (levels : ℕ) (class : Class) (at : ℕ) (reader : Reader) (why : Refusal) → P levels class at (read_on reader bytes class at (Err why)))
    (step : (levels : ℕ) (class : Class) (at : ℕ) (own : Own) → read_own bytes at class (suc levels) ≡ Ok own
    → ((field : Class) (place : ℕ) → P levels field place (read levels bytes field place))
    → P (suc levels) class at (record_of bytes at own (read_parts (read levels bytes) (parts_due class own) own.end)))
  where
    -- where no level is left
    without_levels : (class : Class) (at : ℕ) (own : Result Own Refusal) → read_own bytes at class zero ≡ own → P zero class at (read_on unread bytes class at own)
    without_levels class at (Ok own) is = no_record bytes at class own is
    without_levels class at (Err why) is = refusal zero class at unread why

    -- where one is
    with_levels : (levels : ℕ) → ((field : Class) (place : ℕ) → P levels field place (read levels bytes field place))
        → (class : Class) (at : ℕ) (own : Result Own Refusal) → read_own bytes at class (suc levels) ≡ own
        → P (suc levels) class at (read_on (read levels bytes) bytes class at own)
    with_levels levels below class at (Ok own) is = step levels class at own is below
    with_levels levels below class at (Err why) is = refusal (suc levels) class at (read levels bytes) why

    -- at all levels
    pub every_reading : (levels : ℕ) (class : Class) (at : ℕ) → P levels class at (read levels bytes class at)
    unfolding read
    every_reading zero class at = without_levels class at _ refl
    every_reading (suc levels) class at = with_levels levels (every_reading levels) class at _ refl

-- of a tree that passed every check did
pub record FilePassed (limit levels : ℕ) (bytes : List ℕ) : Type 0 where
  pub size : length_checked limit bytes ≡ no_refusal
  pub layout : (read_file levels bytes).checked ≡ no_refusal
  pub end : end_checked bytes (read_file levels bytes).end ≡ no_refusal
  pub texts : texts_checked (read_file levels bytes).texts ≡ no_refusal

-- in checking order
pub file_passed : (limit levels : ℕ) (bytes : List ℕ) → tree_checked limit levels bytes ≡ no_refusal → FilePassed limit levels bytes
unfolding tree_checked
file_passed limit levels bytes e =
    let reading : Reading = read_file levels bytes in
    let first = both_passed (length_checked limit bytes) _ e in
    let second = both_passed reading.checked (and_then (end_checked bytes reading.end) (texts_checked reading.texts)) first.1 in
    let third = both_passed (end_checked bytes reading.end) (texts_checked reading.texts) second.1 in
    record { size = first.0; layout = second.0; end = third.0; texts = third.1 }

-- and where every check passed the tree did
pub passed_file : (limit levels : ℕ) (bytes : List ℕ) → FilePassed limit levels bytes → tree_checked limit levels bytes ≡ no_refusal
unfolding tree_checked
passed_file limit levels bytes file = rw (file.size, file.layout, file.end, file.texts)

-- a tree of a wrong length is refused for that alone
pub length_failed : (limit levels : ℕ) (bytes : List ℕ) (why : Refusal) → length_checked limit bytes ≡ Err why → tree_checked limit levels bytes ≡ Err why
unfolding tree_checked
length_failed limit levels bytes why failed = rw failed
