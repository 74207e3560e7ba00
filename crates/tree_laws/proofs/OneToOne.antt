-- Accepted bytes and well-formed trees are in one_to_one correspondence within the limits: storing and reading are inverse to each other.
--   read_between : .. WellFormed levels class (length before) tree → Found (read levels (before ++ (stored tree ++ behind)) class (length before)) tree (length before + length (stored tree))
--   one_to_one : (limit levels : ℕ) → Inverse (TreeWithin limit levels) (AcceptedWithin limit levels) stored (λ bytes. (read_file levels bytes).tree)
--   stored_injective : .. WellFormed levels class at first → WellFormed levels class at second → stored first ≡ stored second → first ≡ second
use Rattle.answers.specs.Numbers.{no_refusal}
use mathlib.Core.Path.{◌≡◌, sym, ◌∙◌}
use mathlib.Core.List.{List, [], ◌++◌}
use Prim.Native.Nat.{ℕ, ◌+◌}
use native.Mathlib.Omega.{arith}
use lib.ListN.{length, replicate, length-replicate}
use lib.Seq.{take-length}
use borrow.Author.Tests.{le-ltb, ne_eqb}
use Rattle.tree.specs.Tree.{Tree}
use Rattle.tree.specs.Reading.{read}
use Rattle.tree.specs.Stored.{stored}
use Rattle.tree.specs.Checking.{read_file, tree_checked}
use Rattle.tree.specs.declared.grammar.Class.{Class}
use Rattle.tree.specs.declared.grammar.Class.TheVariants.{Tokens}
use Rattle.tree.proofs.Limits.{length_passed}
use Rattle.tree.proofs.Readings.{file_passed}
use Rattle.tree.proofs.RoundTrip.{file_round_trip}
use Rattle.tree_laws.specs.WellFormed.{WellFormed}
use Rattle.tree_laws.specs.Correspondence.{TreeWithin, AcceptedWithin, Inverse}
use Rattle.tree_laws.proofs.Standing.{between}
use Rattle.tree_laws.proofs.ReadBack.{Found, some_bytes, read_back}
use Rattle.tree_laws.proofs.StoredBytes.{stored_bytes}
use Rattle.tree_laws.proofs.ReadFormed.{read_formed}

-- between any bytes before and behind it a well-formed tree is read back, up to its end
pub read_between : (levels : ℕ) (class : Class) (tree : Tree) (before behind : List ℕ) → WellFormed levels class (length before) tree
    → Found (read levels (before ++ (stored tree ++ behind)) class (length before)) tree (length before + length (stored tree))
read_between levels class tree before behind formed =
    read_back levels (before ++ (stored tree ++ behind)) class (length before) (length before + length (stored tree)) tree formed (between before (stored tree) behind)

-- a file's tree is read back from its stored form
file_read : (levels : ℕ) (tree : Tree) → WellFormed levels Tokens 0 tree → Found (read_file levels (stored tree)) tree (length (stored tree))
file_read levels tree formed =
    read_back levels (stored tree) Tokens 0 (length (stored tree)) tree formed
    (record { same = sym (take-length (stored tree)); onward = omega arith; inside = omega arith })

-- and the check accepts it within the limits: it refuses nothing that is well formed
pub accepted : (limit levels : ℕ) (tree : Tree) → TreeWithin limit levels tree → tree_checked limit levels (stored tree) ≡ no_refusal
unfolding tree_checked
accepted limit levels tree within =
    let size : ℕ = length (stored tree) in
    let found = file_read levels tree within.formed in
    let some = some_bytes levels Tokens 0 tree within.formed in
    rw (ne_eqb size 0 (omega arith), le-ltb limit size within.long, found.passed, found.end_is, le-ltb size size (omega arith), found.accepted)

-- storing and reading are inverse to each other between well-formed trees and accepted bytes within the limits
pub one_to_one : (limit levels : ℕ) → Inverse (TreeWithin limit levels) (AcceptedWithin limit levels) stored (λ bytes. (read_file levels bytes).tree)
one_to_one limit levels = record {
  thither = λ tree within. record { small = stored_bytes levels Tokens 0 tree within.formed; passed = accepted limit levels tree within };
  hither = λ bytes within.
      let passed = file_passed limit levels bytes within.passed in
      record {
        formed = read_formed levels bytes within.small Tokens 0 passed.layout passed.texts;
        long = rw (file_round_trip limit levels bytes within.small within.passed) (length_passed limit bytes passed.size);
      };
  there_and_back = λ tree within. (file_read levels tree within.formed).tree_is;
  back_and_there = λ bytes within. file_round_trip limit levels bytes within.small within.passed;
}

-- so two well-formed trees of a class at a place have different stored forms
pub stored_injective : (levels : ℕ) (class : Class) (at : ℕ) (first second : Tree) → WellFormed levels class at first → WellFormed levels class at second
    → stored first ≡ stored second → first ≡ second
stored_injective levels class at first second one other same =
    let before : List ℕ = replicate at 0 in
    let long : length before ≡ at = length-replicate at 0 in
    sym (read_between levels class first before [] (rw long one)).tree_is
    ∙ rw same (read_between levels class second before [] (rw long other)).tree_is
