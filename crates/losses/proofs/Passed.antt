-- A record that was read without refusal: its own bytes were read, it stands at its place, and it is skipped.
--   own_unread, next_unskipped : a refusal of it, from which anything follows
use Rattle.std.specs.Prelude.{Result, Ok, Err}
use Rattle.answers.specs.Numbers.{no_refusal}
use mathlib.Core.Path.{◌≡◌, refl, sym, ap, ◌∙◌}
use mathlib.Core.List.{List}
use Prim.Native.Nat.{ℕ}
use native.Mathlib.Omega.{arith}
use Rattle.answers.specs.declared.Refusal.{Refusal}
use Rattle.answers.proofs.Cases.{failed_passed}
use Rattle.tree.specs.Own.{read_own}
use Rattle.tree.specs.Parts.{skipped}
use Rattle.tree.specs.Reading.{read}
use Rattle.tree.specs.declared.grammar.Class.{Class}
use Rattle.tree.specs.declared.own.Own.{Own}
use Rattle.events.specs.Views.{view, stands_at}
use Rattle.events.proofs.Heads.{own_refused}
use Rattle.events.proofs.Passed.{own_passed}
use Rattle.events.proofs.Refusals.{read_refusal}
use Rattle.losses.proofs.Records.{node_read}

-- ---- the bytes

-- a place behind a record is no refusal
pub next_unskipped : {R : Type 0} {place : ℕ} {why : Refusal} → ◌≡◌ {A = Result ℕ Refusal} (Ok place) (Err why) → R
next_unskipped e = let z : ◌≡◌ {A = ℕ} 0 1 = cc in absurd (omega arith)

-- and is the only one
pub same_next : {place other : ℕ} → ◌≡◌ {A = Result ℕ Refusal} (Ok place) (Ok other) → place ≡ other
same_next e = cc

module _ (levels : ℕ) (bytes : List ℕ) (class : Class) (at : ℕ) (passed : (read levels bytes class at).checked ≡ no_refusal) where
  -- its own bytes were not refused
  pub own_unread : {R : Type 0} {why : Refusal} → read_own bytes at class levels ≡ Err why → R
  own_unread {R} {why} is =
      failed_passed (sym (own_refused levels bytes class at why is) ∙ own_passed (read levels bytes class at).tree (read_refusal levels bytes class at ∙ passed))

  -- so they were read
  pub own_there : (own : Own) × (read_own bytes at class levels ≡ Ok own)
  own_there = go (read_own bytes at class levels) refl
    where
      go : (found : Result Own Refusal) → read_own bytes at class levels ≡ found → (own : Own) × (read_own bytes at class levels ≡ Ok own)
      go (Ok own) is = (own, is)
      go (Err why) is = own_unread is

  -- it stands at its place
  pub passed_at : stands_at (read levels bytes class at).tree ≡ at
  unfolding view
  passed_at = ap stands_at (node_read levels bytes class at own_there.0 own_there.1)

  -- it is skipped
  pub passed_skip : skipped levels bytes class at ≡ Ok (read levels bytes class at).end
  unfolding skipped
  passed_skip = rw passed
