-- Laws of reading a record as the code does it: its own bytes, and then its parts one behind the other while the first byte that no text may hold goes along.
use Rattle.std.specs.Prelude.{Result, Ok, Err}
use mathlib.Core.Path.{◌≡◌, refl, sym, ap, ◌∙◌}
use mathlib.Core.List.{List, [], ◌∷◌, ◌++◌}
use mathlib.Core.Bool.{Bool, false}
use Prim.Native.Nat.{ℕ, zero, suc, ◌-◌, ◌<◌}
use native.Mathlib.Numerals.{sub-one}
use native.Mathlib.Omega.{arith}
use Rattle.answers.specs.declared.Refusal.{Refusal}
use Rattle.answers.specs.Numbers.{and_then, Checked}
use Rattle.tree.specs.Own.{read_own}
use Rattle.tree.specs.Reading.{Placed, Readings, Reader, Due, nothing, due, parts_due, texts_of, read_parts, read}
use Rattle.tree.specs.Plans.{plan_left}
use Rattle.tree.specs.Walk.{standing, fault_from, record_on, record_read, onward, Walker, walked, walker_of}
use Rattle.tree.specs.declared.grammar.Class.{Class}
use Rattle.tree.specs.declared.own.Own.{Own}
use Rattle.tree.specs.declared.check.Plan.{Plan}
use Rattle.tree.proofs.Readings.{no_record}
use Rattle.tree.proofs.Faults.{faults_append}

-- ---- parts, one behind the other

-- texts that are read before the others
on_append : (bytes : List ℕ) (fault end : ℕ) (first rest : List Placed) (checked : Checked)
    → record_on bytes fault end (first ++ rest) checked ≡ record_on bytes (fault_from bytes fault first) end rest checked
on_append bytes fault end first rest (Ok tt) = ap (λ found. Ok (end, found)) (faults_append bytes fault first rest)
on_append bytes fault end first rest (Err refusal) = refl

-- a reading, and a walk over what is read behind it
on_onward : (bytes : List ℕ) (fault end : ℕ) (rest : Readings) (texts : List Placed) (next : ℕ → ℕ → Result (ℕ × ℕ) Refusal)
    → record_on bytes (fault_from bytes fault texts) rest.end rest.texts rest.checked ≡ next end (fault_from bytes fault texts)
    → (checked : Checked)
    → record_on bytes fault rest.end (texts ++ rest.texts) (and_then checked rest.checked) ≡ onward (record_on bytes fault end texts checked) next
on_onward bytes fault end rest texts next e (Ok tt) = on_append bytes fault rest.end texts rest.texts rest.checked ∙ e
on_onward bytes fault end rest texts next e (Err refusal) = refl

-- reading parts is a walk over those that stand
parts_walked : (reader : Reader) (bytes : List ℕ) (parts : List Due) (place fault : ℕ)
    → record_on bytes fault (read_parts reader parts place).end (read_parts reader parts place).texts (read_parts reader parts place).checked
    ≡ walked (walker_of reader bytes) (standing parts) place fault
unfolding read_parts standing walked fault_from record_read
parts_walked reader bytes [] place fault = refl
parts_walked reader bytes (nothing ∷ parts) place fault = parts_walked reader bytes parts place fault
parts_walked reader bytes (due class ∷ parts) place fault =
    let first = reader class place in
    on_onward bytes fault first.end (read_parts reader parts first.end) first.texts (walked (walker_of reader bytes) (standing parts))
    (parts_walked reader bytes parts first.end (fault_from bytes fault first.texts))
    first.checked

-- ---- a record

-- a record whose own bytes are refused
refused_on : (levels : ℕ) (bytes : List ℕ) (class : Class) (at fault : ℕ) (refusal : Refusal)
    → read_own bytes at class levels ≡ Err refusal → Err refusal ≡ record_read bytes fault (read levels bytes class at)
unfolding read record_read
refused_on zero bytes class at fault refusal e = rw e
refused_on (suc levels) bytes class at fault refusal e = rw e

-- a record that is read has a level left
some_level : (levels : ℕ) (bytes : List ℕ) (class : Class) (at : ℕ) (own : Own) → read_own bytes at class levels ≡ Ok own → 0 < levels
some_level zero bytes class at own e = no_record bytes at class own e
some_level (suc levels) bytes class at own e = omega arith

-- it is its texts and a walk over its parts that stand
walked_on : (levels : ℕ) (bytes : List ℕ) (class : Class) (at fault : ℕ) (own : Own) (seen : ℕ)
    → read_own bytes at class levels ≡ Ok own → seen ≡ fault_from bytes fault (texts_of bytes own)
    → record_read bytes fault (read levels bytes class at) ≡ walked (walker_of (read (levels - 1) bytes) bytes) (standing (parts_due class own)) own.end seen
unfolding read record_read
walked_on zero bytes class at fault own seen e f = no_record bytes at class own e
walked_on (suc levels) bytes class at fault own seen e f =
    let parts = read_parts (read levels bytes) (parts_due class own) own.end in
    rw (e, sub-one, f)
    (on_append bytes fault parts.end (texts_of bytes own) parts.texts parts.checked
    ∙ parts_walked (read levels bytes) bytes (parts_due class own) own.end (fault_from bytes fault (texts_of bytes own)))

module _ (levels : ℕ) (bytes : List ℕ) (class : Class) (at : ℕ) (read-own : Result Own Refusal) (same : read-own ≡ read_own bytes at class levels) where
  -- where its own bytes are refused
  pub read_refused : (fault : ℕ) (refusal : Refusal) → read-own ≡ Err refusal → Err refusal ≡ record_read bytes fault (read levels bytes class at)
  read_refused fault refusal is = refused_on levels bytes class at fault refusal (sym same ∙ is)

  -- where they are read there is a level left
  pub level_left : (own : Own) → read-own ≡ Ok own → 0 < levels
  level_left own is = some_level levels bytes class at own (sym same ∙ is)

  -- and the record is a walk over its parts that stand
  pub read_walked : (fault : ℕ) (own : Own) (seen : ℕ) → read-own ≡ Ok own → seen ≡ fault_from bytes fault (texts_of bytes own)
      → record_read bytes fault (read levels bytes class at) ≡ walked (walker_of (read (levels - 1) bytes) bytes) (standing (parts_due class own)) own.end seen
  read_walked fault own seen is found = walked_on levels bytes class at fault own seen (sym same ∙ is) found

-- a record of which no part stands is read
pub walk_none : (walker : Walker) (class : Class) (own : Own) (place fault : ℕ) {has : Bool} → (has ≡ false → ((class : Class) → standing (parts_due class own) ≡ []))
    → has ≡ false → Ok (place, fault) ≡ walked walker (standing (parts_due class own)) place fault
unfolding walked
walk_none walker class own place fault none t = sym (ap (λ (classes : List Class). walked walker classes place fault) (none t class))

-- ---- the loop over a record's parts

-- the plan that is left goes on with the walk over a record's parts
abbrev pub PartsLeft : Walker → List Class → ℕ → ℕ → Plan → ℕ → ℕ → Type 0
PartsLeft walker parts place fault later behind found = walked walker parts place fault ≡ walked walker (plan_left later) behind found

module _ (walker : Walker) {left : List Class} (class : Class) (others : List Class) (behind found : ℕ) {whole : Result (ℕ × ℕ) Refusal}
    (walk : whole ≡ walked walker left behind found) (first : left ≡ class ∷ others)
    {read : Result (ℕ × ℕ) Refusal} (same : read ≡ walker class behind found) where
  -- the walk goes on with the part that is read
  walk_next : whole ≡ onward read (walked walker others)
  unfolding walked
  walk_next = walk ∙ rw (first, same)

  -- it is refused
  pub walk_refused : (refusal : Refusal) → read ≡ Err refusal → read ≡ whole
  walk_refused refusal is = is ∙ sym (rw is at walk_next)

  -- it is read whole
  pub walk_on : (end seen : ℕ) → read ≡ Ok (end, seen) → whole ≡ walked walker others end seen
  walk_on end seen is = rw is at walk_next

-- no part is left
pub walk_done : (walker : Walker) {left : List Class} (behind found : ℕ) {whole : Result (ℕ × ℕ) Refusal}
    → whole ≡ walked walker left behind found → left ≡ [] → Ok (behind, found) ≡ whole
unfolding walked
walk_done walker behind found walk none = sym (rw none at walk)
