-- The stored values, field by field.
use Rattle.std.specs.Prelude.{Result, Ok, Err, MatchResult}
use Prim.Native.Nat.{ℕ, zero, suc, ◌+◌, ◌-◌, ◌≤◌, ◌<◌}
use mathlib.Core.Path.{◌≡◌, refl, sym, ap, ◌∙◌}
use mathlib.Core.List.{List, [], ◌∷◌, map}
use mathlib.Core.Bool.{Bool, true, false, cond, ◌&&◌}
use native.Mathlib.Numerals.{add-one, one-add}
use native.Mathlib.Nat.{mod-lt}
use Rattle.std.proofs.Math.Pow.{pow_pos}
use native.Mathlib.Omega.{arith}
use Rattle.std.proofs.Common.{◌/◌, ◌%◌, ◌*◌, ◌^◌, bit_and}
use Rattle.std.specs.Int.RustNames.{count_ones}
use Rattle.std.proofs.lemmas.Nat.{and_mask, mod-pow-add, ones_cat}
use lib.Count.{ones}
use lib.ListN.{length, get_or, set, length-set, get_or-map}
use lib.Seq.{get_or-set_same, get_or-set_other}
use borrow.Author.Count.{below_more}
use mathlib.Core.Logic.{◌≢◌}
use Rattle.options.specs.declared.Field.{Field}
use lib.Dec.{eqb, ltb}
use borrow.Author.Tests.{ltb-false, le-ltb, lt-ltb, eq-eqb, ne_eqb}
use Rattle.answers.specs.Numbers.{no_refusal, numbers_checked, Checked}
use Rattle.answers.proofs.Numbers.{chosen_numbers}
use Rattle.answers.specs.declared.Refusal.{Refusal}
use Rattle.answers.specs.declared.Reason.TheVariants.{OptionsLength, OptionsValue}
use Rattle.options.specs.Stored.{bit, standing, place_of, defaults, largest, map_of, value_of, too_large, values_checked, stored_options, length_wrong, accepted, read_options}
use Rattle.options.specs.Stored.{numbers_read, values_numbers, options_numbers, NarrowRead}
use Rattle.options.specs.Types.{options_from}
use Rattle.options.specs.Forms.{AllBytes}
use Rattle.options.specs.declared.FormattingOptions.{FormattingOptions}

-- what holds of both parts of a choice holds of it
either : {A : Type 0} (P : A → Type 0) (test : Bool) {taken left : A} → P taken → P left → P (cond test taken left)
either P true first second = first
either P false first second = second

-- the bits below k + 1 are those below k, and bit k
pub standing_step : (map k : ℕ) → standing map (k + 1) ≡ standing map k + bit map k
unfolding standing
standing_step map k = rw add-one

-- fields behind others stand behind them
pub standing_onward : (map k n : ℕ) → standing map k ≤ standing map (k + n)
standing_onward map k zero = let same : k + 0 ≡ k = omega arith in rw same (omega arith)
standing_onward map k (suc n) =
    let same : k + suc n ≡ k + n + 1 = omega arith in
    rw (same, standing_step map (k + n)) (omega (arith, standing_onward map k n))

-- so a field stands within the bytes that the map says
pub standing_below : (map k : ℕ) → k < 8 → standing map k + bit map k ≤ standing map 8
standing_below map k within =
    let same : k + 1 + (7 - k) ≡ 8 = omega arith in
    omega (arith, standing_step map k, rw same at (standing_onward map (k + 1) (7 - k)))

-- a bit as the code reads it
pub bit_odd : (map k : ℕ) → bit_and (map / 2 ^ k) 1 ≡ bit map k
bit_odd map k = and_mask (map / 2 ^ k) 1

-- a bit has itself as its ones
ones_bit : (b : ℕ) → b < 2 → ones b ≡ b
unfolding ones
ones_bit zero small = refl
ones_bit (suc zero) small = refl
ones_bit (suc (suc b)) small = absurd (omega arith)

-- the bits below k that stand are the ones of what they make
standing_ones : (map k : ℕ) → ones (map % 2 ^ k) ≡ standing map k
unfolding standing
standing_ones bits zero = let none : bits % 1 ≡ 0 = omega arith in rw none (ones_bit 0 (omega arith))
standing_ones bits (suc k) =
    let low : ℕ = bits % 2 ^ k in
    let small : low < 2 ^ k = mod-lt bits (pow_pos k) in
    let parted : bits % 2 ^ suc k ≡ bit bits k * 2 ^ k + low = rw one-add at (mod-pow-add bits 1 k) in
    rw (parted, ones_cat k (bit bits k) low small, ones_bit (bit bits k) (omega arith), standing_ones bits k) (omega arith)

-- the bits of a byte that stand are its ones
pub byte_standing : (map : ℕ) → map < 256 → count_ones map ≡ standing map 8
byte_standing bits small = let same : bits % 2 ^ 8 ≡ bits = omega arith in rw same at (standing_ones bits 8)

-- no more stand than there are
pub standing_small : (map k : ℕ) → standing map k ≤ k
unfolding standing
standing_small bits zero = omega arith
standing_small bits (suc k) = omega (arith, standing_small bits k)

-- the fields from k on are field k and those behind it
pub checked_step : (stored : List ℕ) (k : ℕ) → k < 8
    → values_checked stored k (8 - k) ≡ cond (too_large stored k)
    (Err (record { reason = OptionsValue; place = place_of (map_of stored) k }))
    (values_checked stored (k + 1) (8 - (k + 1)))
unfolding values_checked
checked_step stored k h = let e : 8 - k ≡ suc (8 - (k + 1)) = omega arith in rw e

-- from field 8 on there is none
pub checked_none : (stored : List ℕ) (k : ℕ) → 8 ≤ k → values_checked stored k (8 - k) ≡ no_refusal
unfolding values_checked
checked_none stored k h = let e : 8 - k ≡ 0 = omega arith in rw e

-- what reading the values comes to
abbrev pub ValuesRead : List ℕ → Result (List ℕ) Refusal → Type 0
ValuesRead stored read =
    MatchResult read
    (λ values. (values_checked stored 0 8 ≡ no_refusal) × ((k : ℕ) → k < 8 → get_or values k 0 ≡ value_of stored k))
    (λ refusal. values_checked stored 0 8 ≡ Err refusal)

-- the fields before field k are passed, their values are read, and the place is that of field k
pub record ReadTo (stored values : List ℕ) (k place : ℕ) : Type 0 where
  pub long : length values ≡ 8
  pub at : place ≡ place_of (map_of stored) k
  pub passed : values_checked stored 0 8 ≡ values_checked stored k (8 - k)
  pub read : (j : ℕ) → j < k → get_or values j 0 ≡ value_of stored j

-- no field is before the first
pub read_none : (stored values : List ℕ) → length values ≡ 8 → ReadTo stored values 0 1
unfolding standing
read_none stored values long = record { long = long; at = refl; passed = refl; read = λ j below. absurd (omega arith) }

module _ {stored values : List ℕ} {k place : ℕ} (within : k < 8) (so_far : ReadTo stored values k place) where
  -- field k is passed and read
  read_next : (value next : ℕ) → too_large stored k ≡ false → value ≡ value_of stored k → next ≡ place + bit (map_of stored) k
      → ReadTo stored (set values k value) (k + 1) next
  read_next value next small is behind =
      record {
        long = length-set values k value ∙ so_far.long;
        at = omega (arith, so_far.at, standing_step (map_of stored) k);
        passed = so_far.passed ∙ checked_step stored k within ∙ rw small;
        read = below_more _ _
            (λ j below. let other : j ≢ k = omega arith in rw get_or-set_other (so_far.read j below))
            (let inside : k < length values = omega (arith, so_far.long) in rw get_or-set_same is);
      }

  -- where it is not stored, it has its default
  pub default_read : {default : ℕ} → (bit_and (map_of stored / 2 ^ k) 1 ≡ 1 → ⊥) → default ≡ get_or defaults k 0 → ReadTo stored (set values k default) (k + 1) place
  default_read {default} clear is =
      let map : ℕ = map_of stored in
      let none : bit map k ≡ 0 = omega (arith, clear, bit_odd map k) in
      read_next default place (rw none refl) (rw none is) (omega arith)

  -- where it is stored, its byte is its value
  pub byte_read : {most : ℕ} → bit_and (map_of stored / 2 ^ k) 1 ≡ 1 → get_or stored place 0 ≤ most → most ≡ get_or largest k 0
      → ReadTo stored (set values k (get_or stored place 0)) (k + 1) (place + 1)
  byte_read stands small is =
      let map : ℕ = map_of stored in
      let one : bit map k ≡ 1 = sym (bit_odd map k) ∙ stands in
      read_next (get_or stored place 0) (place + 1)
      (rw (one, ← so_far.at, ← is) (le-ltb _ _ small)) (rw (one, ← so_far.at) refl) (omega (arith, one))

  -- a byte above its largest value is refused
  pub byte_refused : {most : ℕ} → bit_and (map_of stored / 2 ^ k) 1 ≡ 1 → most < get_or stored place 0 → most ≡ get_or largest k 0
      → values_checked stored 0 8 ≡ Err (record { reason = OptionsValue; place = place })
  byte_refused stands large is =
      let map : ℕ = map_of stored in
      let one : bit map k ≡ 1 = sym (bit_odd map k) ∙ stands in
      so_far.passed ∙ checked_step stored k within ∙ rw (one, ← so_far.at, ← is, lt-ltb _ _ large) refl

  -- a stored field stands within the bytes that the map says
  pub byte_within : bit_and (map_of stored / 2 ^ k) 1 ≡ 1 → place + 1 ≤ 1 + standing (map_of stored) 8
  byte_within stands = omega (arith, so_far.at, stands, bit_odd (map_of stored) k, standing_below (map_of stored) k within)

-- behind the last field all are passed and read
pub read_all : {stored values : List ℕ} {k place : ℕ} → 8 ≤ k → k ≤ 8 → ReadTo stored values k place → ValuesRead stored (Ok values)
read_all {stored} {values} {k} end within so_far =
    (so_far.passed ∙ checked_none stored k end, λ j below. so_far.read j (omega arith))

-- fields with these largest values and defaults
abbrev tabled : List ℕ → List ℕ → List Field
tabled [] values = []
tabled (most ∷ mosts) [] = []
tabled (most ∷ mosts) (default ∷ others) = record { 0 = most; 1 = default } ∷ tabled mosts others

-- the code's table has the definition's
pub largest_known : (k : ℕ) → (get_or (tabled largest defaults) k (record { 0 = 0; 1 = 0 })).0 ≡ get_or largest k 0
largest_known k = sym (get_or-map (λ (field : Field). field.0) (tabled largest defaults) k (record { 0 = 0; 1 = 0 }))

pub default_known : (k : ℕ) → (get_or (tabled largest defaults) k (record { 0 = 0; 1 = 0 })).1 ≡ get_or defaults k 0
default_known k = sym (get_or-map (λ (field : Field). field.1) (tabled largest defaults) k (record { 0 = 0; 1 = 0 }))

-- a choice that is passed did not fall on the refusal
passed_both : (t : Bool) (refusal : Refusal) (rest : Checked) → cond t (Err refusal) rest ≡ no_refusal → (t ≡ false) × (rest ≡ no_refusal)
passed_both true refusal rest e = let z : ◌≡◌ {A = ℕ} 0 1 = cc in absurd (omega arith)
passed_both false refusal rest e = (refl, e)

-- where the fields from k on are passed, field k is not too large, and those behind it are passed
pub passed_step : (stored : List ℕ) (k n : ℕ) → values_checked stored k (suc n) ≡ no_refusal → (too_large stored k ≡ false) × (values_checked stored (k + 1) n ≡ no_refusal)
unfolding values_checked
passed_step stored k n e = passed_both (too_large stored k) _ (values_checked stored (k + 1) n) e

-- a field that is not too large has a value of at most the largest, where its default is so
value_small : (stands : Bool) (value default most : ℕ) → (stands && ltb most value) ≡ false → default ≤ most → cond stands value default ≤ most
value_small true value default most e h = ltb-false most value e
value_small false value default most e h = h

-- where all values are passed the indent is at most 64
pub indent_small : (stored : List ℕ) → values_checked stored 0 8 ≡ no_refusal → value_of stored 3 ≤ 64
indent_small stored e =
    let behind = (passed_step stored 2 5 (passed_step stored 1 6 (passed_step stored 0 7 e).1).1).1 in
    value_small (eqb (bit (map_of stored) 3) 1) (get_or stored (place_of (map_of stored) 3) 0) 4 64 (passed_step stored 3 4 behind).0 (omega arith)

-- ---- the numbers of document 01

values_numbers_lem : (stored : List ℕ) (k n : ℕ) → numbers_checked (values_checked stored k n) ≡ values_numbers stored k n
unfolding values_checked values_numbers
values_numbers_lem stored k zero = refl
values_numbers_lem stored k (suc n) = chosen_numbers (too_large stored k) _ (values_checked stored (k + 1) n) ∙ rw (values_numbers_lem stored (k + 1) n) refl

-- options that are passed or not
accepted_numbers : (judged : Checked) (options : FormattingOptions) → numbers_read (accepted judged options) ≡ numbers_checked judged
accepted_numbers (Ok tt) options = refl
accepted_numbers (Err refusal) options = refl

-- a choice of a refusal by the length
length_numbers_lem : (wrong : Bool) (judged : Checked) (options : FormattingOptions) → numbers_read (cond wrong (Err (record { reason = OptionsLength; place = 0 })) (accepted judged options))
    ≡ cond wrong (1, 0) (numbers_checked judged)
length_numbers_lem true judged options = refl
length_numbers_lem false judged options = accepted_numbers judged options

options_numbers_lem : (stored : List ℕ) → numbers_read (read_options stored) ≡ options_numbers stored
unfolding read_options options_numbers
options_numbers_lem stored =
    length_numbers_lem (length_wrong stored) (values_checked stored 0 8) (stored_options stored) ∙ ap (cond (length_wrong stored) (1, 0)) (values_numbers_lem stored 0 8)

-- options that are known, with their number and place
pub read_numbers_lem : {said : Result FormattingOptions Refusal} (stored : List ℕ) → said ≡ read_options stored → NarrowRead said
    → (said ≡ read_options stored) × (NarrowRead said × (numbers_read said ≡ options_numbers stored))
read_numbers_lem stored is narrow = (is, (narrow, ap numbers_read is ∙ options_numbers_lem stored))

-- ---- reading

-- stored bytes of a wrong length are refused
pub length_refused : {said : Result FormattingOptions Refusal} (stored : List ℕ) → length_wrong stored ≡ true → said ≡ Err (record { reason = OptionsLength; place = 0 })
    → (said ≡ read_options stored) × (numbers_read said ≡ options_numbers stored)
unfolding read_options
length_refused stored wrong is =
    let told = read_numbers_lem stored (is ∙ rw wrong refl) (rw is tt) in
    (told.0, told.1.1)

-- none are
pub empty_wrong : (stored : List ℕ) → length stored ≡ 0 → length_wrong stored ≡ true
empty_wrong stored none = rw none refl

-- of others the map says how long they are
module _ (stored : List ℕ) {first : ℕ} (some : 0 < length stored) (is : first ≡ map_of stored) (small : first < 256) where
  standing_is : count_ones first ≡ standing (map_of stored) 8
  standing_is = ap count_ones is ∙ byte_standing (map_of stored) (rw (← is) small)

  pub length_wrong_lem : (length stored ≡ 1 + count_ones first → ⊥) → length_wrong stored ≡ true
  length_wrong_lem other = rw (ne_eqb (length stored) 0 (λ none. omega arith), ne_eqb (length stored) (1 + standing (map_of stored) 8) (rw standing_is at other)) refl

  pub length_right : length stored ≡ 1 + count_ones first → (length stored ≡ 1 + standing (map_of stored) 8) × (length_wrong stored ≡ false)
  length_right same =
      let long : length stored ≡ 1 + standing (map_of stored) 8 = rw standing_is at same in
      (long, rw (ne_eqb (length stored) 0 (λ none. omega arith), eq-eqb (length stored) (1 + standing (map_of stored) 8) long) refl)

-- of others the options are those of the values that were read
pub values_answer : {said : Result FormattingOptions Refusal} (read : Result (List ℕ) Refusal) (stored : List ℕ) → length_wrong stored ≡ false
    → ValuesRead stored read → MatchResult read (λ values. said ≡ Ok (options_from values)) (λ refusal. said ≡ Err refusal) → said ≡ read_options stored
unfolding read_options stored_options
values_answer (Ok values) stored right (passed, each) is =
    is
    ∙ rw (
      right,
      passed,
      each 0 (omega arith),
      each 1 (omega arith),
      each 2 (omega arith),
      each 3 (omega arith),
      each 4 (omega arith),
      each 5 (omega arith),
      each 6 (omega arith),
      each 7 (omega arith),
    )
    refl
values_answer (Err refusal) stored right judged is = is ∙ rw (right, judged) refl

-- a value is a byte
value_byte : (stored : List ℕ) → AllBytes stored → (k : ℕ) → get_or defaults k 0 ≤ 255 → value_of stored k ≤ 255
value_byte stored bytes k small =
    let P : ℕ → Type 0 = λ value. value ≤ 255 in
    either P (eqb (bit (map_of stored) k) 1) (omega (arith, bytes (place_of (map_of stored) k))) small

-- so the numbers of options that were read are narrow
judged_narrow : (stored : List ℕ) → AllBytes stored → (judged : Checked) → values_checked stored 0 8 ≡ judged → NarrowRead (accepted judged (stored_options stored))
unfolding stored_options
judged_narrow stored bytes (Ok tt) is =
    record {
      indent = indent_small stored is;
      label = value_byte stored bytes 4 (omega arith);
      code = value_byte stored bytes 6 (omega arith);
      listing = value_byte stored bytes 7 (omega arith);
    }
judged_narrow stored bytes (Err refusal) is = tt

pub read_narrow : (stored : List ℕ) → AllBytes stored → NarrowRead (read_options stored)
unfolding read_options
read_narrow stored bytes =
    either NarrowRead (length_wrong stored) tt (judged_narrow stored bytes (values_checked stored 0 8) refl)
