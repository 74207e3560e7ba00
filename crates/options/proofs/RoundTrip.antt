-- The closing theorems of stored options: eight fields that fit are stored as bytes that are read as their options, and options that were read are stored again as
-- their bytes.
--   stored_read : EightFields fields → AllBytes (stored_form fields) × (fields_of (stored_form fields) ≡ fields) × (read_options (stored_form fields) ≡ Options (field_options fields))
--   read_stored : AllBytes stored → read_options stored ≡ Options options → EightFields (fields_of stored) × (stored_form (fields_of stored) ≡ stored) × (options ≡ field_options (fields_of stored))
use Rattle.std.specs.Prelude.{Ok, Err}
use Rattle.answers.specs.Numbers.{no_refusal, Checked}
use Prim.Native.Nat.{ℕ, zero, suc, ◌+◌, ◌*◌, ◌/◌, ◌^◌, ◌≤◌, ◌<◌}
use mathlib.Core.Path.{◌≡◌, refl, sym, ap, ◌∙◌}
use mathlib.Core.List.{List, [], ◌∷◌}
use mathlib.Core.Option.{Option, none, some}
use mathlib.Core.Bool.{Bool, true, false, cond, ◌&&◌, true≢false}
use native.Mathlib.Nat.{pow-succ', div-div-eq-div-mul, mul_comm}
use native.Mathlib.Numerals.{add-one}
use native.Mathlib.Omega.{arith}
use lib.ListN.{length, get_or, drop}
use lib.Dec.{eqb, ltb}
use lib.Seq.{drop-length, drop-cons, drop-drop, get_or-drop}
use borrow.Author.Tests.{ltb-true, ltb-false, eqb-true, eqb-false, le-ltb, eq-eqb, ne_eqb}
use borrow.Table.Steps.{cases}
use Rattle.answers.specs.declared.Refusal.{Refusal}
use Rattle.answers.proofs.Bytes.{one_more}
use Rattle.options.specs.Stored.{bit, standing, place_of, defaults, largest, map_of, value_of, values_checked, stored_options, accepted, read_options}
use Rattle.options.specs.Forms.{bits_of, values_of, stored_form, FieldsFit, EightFields, field_at, fields_from, fields_of, chosen, field_options, AllBytes}
use Rattle.options.specs.Forms as form
use Rattle.options.specs.declared.FormattingOptions.{FormattingOptions}
use Rattle.options.proofs.Values.{standing_step, standing_onward, passed_step}

-- ---- bits

-- the bits behind bit k
bits_behind : (map k : ℕ) → map / 2 ^ (k + 1) ≡ map / 2 ^ k / 2
bits_behind map k = rw (add-one, pow-succ' 2 k, mul_comm 2 (2 ^ k)) (sym (div-div-eq-div-mul map (2 ^ k) 2))

-- ---- fields that are stored

-- the fields from k on are still to be read
record Left (stored : List ℕ) (k : ℕ) (fields : List (Option ℕ)) : Type 0 where
  bits : map_of stored / 2 ^ k ≡ bits_of fields
  rest : drop (place_of (map_of stored) k) stored ≡ values_of fields
  long : place_of (map_of stored) k + length (values_of fields) ≡ length stored

-- at first all are
left_first : (fields : List (Option ℕ)) → Left (stored_form fields) 0 fields
unfolding standing
left_first fields = record { bits = omega arith; rest = refl; long = omega arith }

-- field k is read, and those behind it are left
left_next : (stored : List ℕ) (k : ℕ) (field : Option ℕ) (fields : List (Option ℕ)) → Left stored k (field ∷ fields) → (field_at stored k ≡ field) × Left stored (k + 1) fields
unfolding bits_of values_of
left_next stored k none fields left =
    let clear : bit (map_of stored) k ≡ 0 = omega (arith, left.bits) in
    let place : place_of (map_of stored) (k + 1) ≡ place_of (map_of stored) k = omega (arith, standing_step (map_of stored) k) in (
      rw clear,
      record { bits = rw (bits_behind (map_of stored) k) (omega (arith, left.bits)); rest = rw place left.rest; long = rw place left.long },
    )
left_next stored k (some value) fields left =
    let set : bit (map_of stored) k ≡ 1 = omega (arith, left.bits) in
    let here : ℕ = place_of (map_of stored) k in
    let place : place_of (map_of stored) (k + 1) ≡ here + 1 = omega (arith, standing_step (map_of stored) k) in
    let same : here + 0 ≡ here = omega arith in
    let read : get_or stored here 0 ≡ value = ap (λ (place : ℕ). get_or stored place 0) (sym same) ∙ sym (get_or-drop here stored 0 0) ∙ rw left.rest in (
      rw (set, read),
      record {
        bits = rw (bits_behind (map_of stored) k) (omega (arith, left.bits));
        rest = rw place (sym (drop-drop 1 here stored) ∙ rw left.rest);
        long = rw place (omega (arith, left.long));
      },
    )

-- so all are read
fields_read : (stored : List ℕ) (k : ℕ) (fields : List (Option ℕ)) → Left stored k fields → fields_from stored k (length fields) ≡ fields
unfolding fields_from
fields_read stored k [] left = refl
fields_read stored k (field ∷ fields) left =
    let next = left_next stored k field fields left in
    rw (next.0, fields_read stored (k + 1) fields next.1)

-- behind them the bytes end
left_last : (stored : List ℕ) (k : ℕ) (fields : List (Option ℕ)) → Left stored k fields → length stored ≡ place_of (map_of stored) (k + length fields)
unfolding values_of
left_last stored k [] left = let same : k + 0 ≡ k = omega arith in rw same (omega (arith, left.long))
left_last stored k (field ∷ fields) left =
    let next = left_next stored k field fields left in
    let same : k + suc (length fields) ≡ k + 1 + length fields = omega arith in
    rw same (left_last stored (k + 1) fields next.1)

-- a field that was read as absent has a clear bit
field_clear : (test : Bool) (value : ℕ) → cond test (some value) none ≡ none → test ≡ false
field_clear true value e = let z : ◌≡◌ {A = ℕ} 0 1 = cc in absurd (omega arith)
field_clear false value e = refl

-- one that was read with a value has its bit set, and the value is its byte
field_set : (test : Bool) (value other : ℕ) → cond test (some value) none ≡ some other → (test ≡ true) × (value ≡ other)
field_set true value other e = (refl, (cc))
field_set false value other e = let z : ◌≡◌ {A = ℕ} 0 1 = cc in absurd (omega arith)

-- the largest value of field k is the first of those from k on
largest_first : (k most : ℕ) (others : List ℕ) → drop k largest ≡ most ∷ others → (get_or largest k 0 ≡ most) × (drop (k + 1) largest ≡ others)
largest_first k most others e =
    let same : k + 0 ≡ k = omega arith in
    (ap (λ (k : ℕ). get_or largest k 0) (sym same) ∙ sym (get_or-drop k largest 0 0) ∙ rw e, sym (drop-drop 1 k largest) ∙ rw e)

-- fields that fit pass
values_passed : (stored : List ℕ) (k : ℕ) {mosts : List ℕ} (fields : List (Option ℕ)) → FieldsFit mosts fields → drop k largest ≡ mosts → Left stored k fields
    → values_checked stored k (length fields) ≡ no_refusal
unfolding values_checked
values_passed stored k [] form.end from left = refl
values_passed stored k (none ∷ fields) (form.absent {most} {others} rest) from left =
    let next = left_next stored k none fields left in
    rw (field_clear (eqb (bit (map_of stored) k) 1) _ next.0) (values_passed stored (k + 1) fields rest (largest_first k most others from).1 next.1)
values_passed stored k (some value ∷ fields) (form.stands {most} {others} small rest) from left =
    let next = left_next stored k (some value) fields left in
    let read = field_set (eqb (bit (map_of stored) k) 1) _ value next.0 in
    let first = largest_first k most others from in
    rw (read.0, read.1, first.0, le-ltb most value small) (values_passed stored (k + 1) fields rest first.1 next.1)

-- there are as many fields as largest values
fit_counted : {mosts : List ℕ} {fields : List (Option ℕ)} → FieldsFit mosts fields → length fields ≡ length mosts
fit_counted form.end = refl
fit_counted (form.absent rest) = ap suc (fit_counted rest)
fit_counted (form.stands small rest) = ap suc (fit_counted rest)

-- a field's value is its byte or its default
value_chosen : (test : Bool) (value default : ℕ) → cond test value default ≡ chosen (cond test (some value) none) default
value_chosen true value default = refl
value_chosen false value default = refl

-- so with field k of stored bytes
value_at : (stored : List ℕ) (k : ℕ) → value_of stored k ≡ chosen (field_at stored k) (get_or defaults k 0)
value_at stored k = value_chosen (eqb (bit (map_of stored) k) 1) (get_or stored (place_of (map_of stored) k) 0) (get_or defaults k 0)

-- the options that stored bytes stand for are those of the fields that they hold
held_options : (stored : List ℕ) → stored_options stored ≡ field_options (fields_of stored)
unfolding stored_options field_options fields_from
held_options stored =
    rw (value_at stored 0, value_at stored 1, value_at stored 2, value_at stored 3, value_at stored 4, value_at stored 5, value_at stored 6, value_at stored 7)

-- ---- their bytes

-- the bits of so many fields are small
bits_small : (fields : List (Option ℕ)) → bits_of fields < 2 ^ length fields
unfolding bits_of
bits_small [] = omega arith
bits_small (none ∷ fields) = rw (pow-succ' 2 (length fields)) (omega (arith, bits_small fields))
bits_small (some value ∷ fields) = rw (pow-succ' 2 (length fields)) (omega (arith, bits_small fields))

-- values that fit are bytes where the largest are
values_bytes : {mosts : List ℕ} {fields : List (Option ℕ)} → FieldsFit mosts fields → AllBytes mosts → AllBytes (values_of fields)
unfolding values_of
values_bytes form.end small = λ i. omega arith
values_bytes (form.absent rest) small = values_bytes rest (λ i. small (suc i))
values_bytes (form.stands {most} {value} {others} {fields} fits rest) small =
    one_more value (values_of fields) (omega (arith, small 0)) (values_bytes rest (λ i. small (suc i)))

-- of two tests that are true together both are
both_true : (first second : Bool) → (first && second) ≡ true → (first ≡ true) × (second ≡ true)
both_true true second e = (refl, e)
both_true false second e = absurd (true≢false (sym e))

-- whether all numbers of a list are bytes
abbrev all_small : List ℕ → Bool
all_small [] = true
all_small (byte ∷ bytes) = ltb byte 256 && all_small bytes

-- they are where the test says so
small_bytes : (bytes : List ℕ) → all_small bytes ≡ true → AllBytes bytes
small_bytes [] all = λ i. omega arith
small_bytes (byte ∷ bytes) all =
    let both = both_true (ltb byte 256) (all_small bytes) all in
    one_more byte bytes (ltb-true byte 256 both.0) (small_bytes bytes both.1)

-- eight fields that fit are stored as bytes that hold them and are read as their options
pub stored_read : (fields : List (Option ℕ)) → EightFields fields
    → AllBytes (stored_form fields) × (fields_of (stored_form fields) ≡ fields) × (read_options (stored_form fields) ≡ Ok (field_options fields))
unfolding read_options
stored_read fields fits =
    let stored : List ℕ = stored_form fields in
    let eight : length fields ≡ 8 = fit_counted fits in
    let left = left_first fields in
    let held : fields_of stored ≡ fields = rw eight at (fields_read stored 0 fields left) in
    let passed : values_checked stored 0 8 ≡ no_refusal = rw eight at (values_passed stored 0 fields fits refl left) in
    let long : length stored ≡ place_of (map_of stored) 8 = rw eight at (left_last stored 0 fields left) in
    let map_small : bits_of fields < 256 = rw eight at (bits_small fields) in (
      one_more (bits_of fields) (values_of fields) map_small (values_bytes fits (small_bytes largest refl)),
      held,
      rw (ne_eqb (length stored) 0 (omega arith), eq-eqb (length stored) (1 + standing (map_of stored) 8) long, passed) (ap Ok (held_options stored ∙ rw held)),
    )

-- ---- bytes that were read

-- a refusal is no options
refused_options : {P : Type 0} {refusal : Refusal} {options : FormattingOptions} → Err refusal ≡ Ok options → P
refused_options e = let z : ◌≡◌ {A = ℕ} 0 1 = cc in absurd (omega arith)

-- options are accepted where their values passed
accepted_told : (checked : Checked) (held options : FormattingOptions) → accepted checked held ≡ Ok options → (checked ≡ no_refusal) × (options ≡ held)
accepted_told (Ok tt) held options e = (refl, (cc))
accepted_told (Err refusal) held options e = refused_options e

-- options that were read have the right length, and their values passed
record ReadFrom (stored : List ℕ) (options : FormattingOptions) : Type 0 where
  long : length stored ≡ place_of (map_of stored) 8
  passed : values_checked stored 0 8 ≡ no_refusal
  same : options ≡ stored_options stored

-- in checking order
read_from : (stored : List ℕ) (options : FormattingOptions) → read_options stored ≡ Ok options → ReadFrom stored options
unfolding read_options
read_from stored options e =
    cases (eqb (length stored) 0)
    (λ q. refused_options (rw q at e))
    (λ q. cases (eqb (length stored) (1 + standing (map_of stored) 8))
    (λ long.
    let told = accepted_told (values_checked stored 0 8) (stored_options stored) options (rw (q, long) at e) in
    record { long = eqb-true (length stored) (1 + standing (map_of stored) 8) long; passed = told.0; same = told.1 })
    (λ long. refused_options (rw (q, long) at e)))

-- whether field k stands or not
by_bit : {P : Type 0} (stored : List ℕ) (k : ℕ) → (bit (map_of stored) k ≡ 0 → P) → (bit (map_of stored) k ≡ 1 → P) → P
by_bit stored k clear set =
    cases (eqb (bit (map_of stored) k) 1)
    (λ q. set (eqb-true (bit (map_of stored) k) 1 q))
    (λ q. clear (omega (arith, eqb-false (bit (map_of stored) k) 1 q)))

-- the bits of the fields are those of the map
bits_back : (stored : List ℕ) (n k : ℕ) → map_of stored / 2 ^ k < 2 ^ n → bits_of (fields_from stored k n) ≡ map_of stored / 2 ^ k
unfolding bits_of fields_from
bits_back stored zero k small = omega arith
bits_back stored (suc n) k small =
    let twice : 2 ^ suc n ≡ 2 * 2 ^ n = pow-succ' 2 n in
    let behind : map_of stored / 2 ^ (k + 1) ≡ map_of stored / 2 ^ k / 2 = bits_behind (map_of stored) k in
    let rest = bits_back stored n (k + 1) (omega arith) in
    by_bit stored k (λ clear. rw clear (omega (arith, rest))) (λ set. rw set (omega (arith, rest)))

-- the values of the fields are the bytes behind them
values_back : (stored : List ℕ) (n k : ℕ) → length stored ≡ place_of (map_of stored) (k + n) → values_of (fields_from stored k n) ≡ drop (place_of (map_of stored) k) stored
unfolding values_of fields_from
values_back stored zero k long =
    let same : k + 0 ≡ k = omega arith in
    let here : length stored ≡ place_of (map_of stored) k = rw same at long in
    rw (← here) (sym (drop-length stored))
values_back stored (suc n) k long =
    let map : ℕ = map_of stored in
    let here : ℕ = place_of map k in
    let same : k + suc n ≡ k + 1 + n = omega arith in
    let rest = values_back stored n (k + 1) (rw same at long) in
    let step = standing_step map k in
    by_bit stored k
    (λ clear.
    let place : place_of map (k + 1) ≡ here = omega arith in
    rw clear (rw place at rest))
    (λ set.
    let place : place_of map (k + 1) ≡ suc here = omega arith in
    let inside : here < length stored = omega (arith, standing_onward map (k + 1) n, ap (standing map) same) in
    rw (set, drop-cons stored here 0 inside) (ap (λ (rest : List ℕ). get_or stored here 0 ∷ rest) (rw place at rest)))

-- the fields fit
fields_back : (stored : List ℕ) (mosts : List ℕ) (k : ℕ) → drop k largest ≡ mosts → values_checked stored k (length mosts) ≡ no_refusal
    → FieldsFit mosts (fields_from stored k (length mosts))
unfolding fields_from
fields_back stored [] k from passed = form.end
fields_back stored (most ∷ mosts) k from passed =
    let first = largest_first k most mosts from in
    let step = passed_step stored k (length mosts) passed in
    let rest = fields_back stored mosts (k + 1) first.1 step.1 in
    by_bit stored k
    (λ clear. rw clear (form.absent rest))
    (λ set.
    let small : get_or stored (place_of (map_of stored) k) 0 ≤ most = ltb-false most _ (rw (set, first.0) at step.0) in
    rw set (form.stands small rest))

-- the first field stands behind the map
first_place : (map : ℕ) → place_of map 0 ≡ 1
unfolding standing
first_place map = refl

-- options that were read are those of eight fields that fit, which are stored as the bytes
pub read_stored : (stored : List ℕ) (options : FormattingOptions) → AllBytes stored → read_options stored ≡ Ok options
    → EightFields (fields_of stored) × (stored_form (fields_of stored) ≡ stored) × (options ≡ field_options (fields_of stored))
read_stored stored options small e =
    let told = read_from stored options e in
    let map : ℕ = map_of stored in
    let bits : bits_of (fields_of stored) ≡ map = bits_back stored 8 0 (omega (arith, small 0)) ∙ omega arith in
    let values : values_of (fields_of stored) ≡ drop 1 stored = rw (first_place map) at (values_back stored 8 0 told.long) in
    let whole : map ∷ drop 1 stored ≡ stored = sym (drop-cons stored 0 0 (omega (arith, told.long))) in
    (fields_back stored largest 0 refl told.passed, rw (bits, values) whole, told.same ∙ held_options stored)
