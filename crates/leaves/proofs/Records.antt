-- What reading gives of a record by its own bytes.
use Rattle.std.specs.Prelude.{Ok, Err}
use mathlib.Core.Path.{◌≡◌, refl}
use mathlib.Core.List.{List}
use Prim.Native.Nat.{ℕ, zero, suc, ◌-◌, ◌<◌}
use native.Mathlib.Omega.{arith}
use native.Mathlib.Numerals.{sub-one}
use Rattle.answers.specs.declared.Refusal.{Refusal}
use Rattle.tree.specs.Tree.{refused}
use Rattle.tree.specs.Own.{read_own}
use Rattle.tree.specs.Reading.{parts_due, read_parts, record_of, read}
use Rattle.tree.specs.declared.grammar.Class.{Class}
use Rattle.tree.specs.declared.own.Own.{Own}
use Rattle.tree.proofs.Readings.{no_record}

module _ (bytes : List ℕ) (class : Class) (at : ℕ) where
  -- own bytes that were refused are a refusal
  pub read_refused : (levels : ℕ) (why : Refusal) → read_own bytes at class levels ≡ Err why
      → ((read levels bytes class at).tree ≡ refused why) × ((read levels bytes class at).end ≡ at)
  unfolding read
  read_refused zero why is = rw is (refl, refl)
  read_refused (suc levels) why is = rw is (refl, refl)

  -- own bytes that were read are a record with its parts, one level below
  pub read_record : (levels : ℕ) (own : Own) → read_own bytes at class levels ≡ Ok own
      → (0 < levels) × (read levels bytes class at ≡ record_of bytes at own (read_parts (read (levels - 1) bytes) (parts_due class own) own.end))
  unfolding read
  read_record zero own is = no_record bytes at class own is
  read_record (suc levels) own is = (omega arith, rw sub-one (rw is refl))
