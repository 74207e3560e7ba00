-- Laws of plans: a row's number tells its fields, and a plan has those left whose bits stand, and then its items; the
-- first of them is its next part.
use Rattle.std.specs.Prelude.{Option, Some, None, IfNone, ⊤}
use Rattle.std.specs.Option.{option_map}
use Rattle.std.specs.Iterator.{YieldsFirst, MakesProgress, item_count}
use mathlib.Core.Path.{◌≡◌, refl, sym, ap, ◌∙◌}
use mathlib.Core.List.{List, [], ◌∷◌, ◌++◌}
use mathlib.Core.Bool.{Bool, true, false, cond}
use Prim.Native.Nat.{ℕ, zero, suc, ◌-◌, ◌/◌, ◌%◌, ◌≤◌, ◌<◌}
use native.Mathlib.Numerals.{sub-one}
use native.Mathlib.Omega.{arith}
use lib.Dec.{eqb, ltb}
use lib.ListN.{length, replicate}
use borrow.Author.Tests.{eq-eqb, ne_eqb, eqb-true, eqb-false, ltb-true, ltb-false, lt-ltb, le-ltb}
use Rattle.text.proofs.Choices.{cond_both, by_test}
use Rattle.tree.specs.Grammar.{Slot, must, may, rule, fields}
use Rattle.tree.specs.Reading.{Due, nothing, due, slot_class, fields_due, items_due, parts_due}
use Rattle.tree.specs.Plans.{plan_with, plan_of, behind_field, next_item, next_in, next_part, fields_left, plan_left}
use Rattle.tree.specs.Rows.{class_number, class_of, slot_code, row_of}
use Rattle.tree.specs.Walk.{Plans, standing, NextOf}
use Rattle.tree.specs.declared.grammar.Class.{Class}
use Rattle.tree.specs.declared.grammar.Kind.TheVariants.{Leaf}
use Rattle.tree.specs.declared.own.Own.{Own}
use Rattle.tree.specs.declared.check.Plan.{Plan}
use Rattle.tree.proofs.Rows.{class_back, class_bounds, row_first, row_none}

-- the code of a field is its class's number, 64 more where it need not stand
pub slot_known : (code : ℕ) (slot : Slot) → code ≡ slot_code slot → class_of (code % 64) ≡ slot_class slot
slot_known code (must class) e = let bounds = class_bounds class in let same : code % 64 ≡ class_number class = omega arith in rw same (class_back class)
slot_known code (may class) e = let bounds = class_bounds class in let same : code % 64 ≡ class_number class = omega arith in rw same (class_back class)

-- the first field of a plan, which the row's lowest seven bits tell, and the parts behind it
record FieldFirst (plan : Plan) (parts : List Due) : Type 0 where
  pub slot : Slot
  pub others : List Due
  pub code : plan.row % 128 ≡ slot_code slot
  pub plans : Plans (behind_field plan) others
  pub same : parts ≡ cond (eqb (plan.bits % 2) 1) (due (slot_class slot)) nothing ∷ others

-- a plan whose row is not 0 has one
field_first : (plan : Plan) (parts : List Due) → Plans plan parts → 0 < plan.row → FieldFirst plan parts
unfolding fields_due
field_first plan parts plans h =
    let first = row_first plan.row plans.slots plans.row h in
    record {
      slot = first.slot;
      others = fields_due first.rest (plan.bits / 2) ++ replicate plan.count (due plan.item);
      code = first.code;
      plans = record { slots = first.rest; row = first.others; same = refl };
      same = plans.same ∙ ap (λ (slots : List Slot). fields_due slots plan.bits ++ replicate plan.count (due plan.item)) first.same;
    }

-- ---- the next part of a plan

module _ (plan : Plan) where
  -- where no field is left it is an item
  in_items : (fields : ℕ) → plan.row ≤ 0 → next_in fields plan ≡ next_item plan
  unfolding next_in
  in_items zero none = refl
  in_items (suc fields) none = simp (le-ltb 0 plan.row none)

  -- else the first field stands, or is passed over
  in_field : (fields : ℕ) → 0 < plan.row
      → next_in (suc fields) plan ≡ cond (eqb (plan.bits % 2) 1) (Some (class_of (plan.row % 128 % 64), behind_field plan)) (next_in fields (behind_field plan))
  unfolding next_in
  in_field fields some = simp (lt-ltb 0 plan.row some)

-- a row's number is as good as any above it
in_same : (some others : ℕ) (plan : Plan) → plan.row ≤ some → plan.row ≤ others → next_in some plan ≡ next_in others plan
in_same zero others plan h g = in_items plan zero h ∙ sym (in_items plan others h)
in_same (suc some) zero plan h g = in_items plan (suc some) g ∙ sym (in_items plan zero g)
in_same (suc some) (suc others) plan h g =
    by_test (ltb 0 plan.row)
    (λ t.
    let left = ltb-true 0 plan.row t in
    in_field plan some left
    ∙ ap (cond (eqb (plan.bits % 2) 1) (Some (class_of (plan.row % 128 % 64), behind_field plan))) (in_same some others (behind_field plan) (omega arith) (omega arith))
    ∙ sym (in_field plan others left))
    (λ t. let none = ltb-false 0 plan.row t in in_items plan (suc some) none ∙ sym (in_items plan (suc others) none))

module _ (plan : Plan) where
  -- the first field of a row
  next_first : 0 < plan.row
      → next_part plan ≡ cond (eqb (plan.bits % 2) 1) (Some (class_of (plan.row % 128 % 64), behind_field plan)) (next_part (behind_field plan))
  next_first left =
      in_same plan.row (suc plan.row) plan (omega arith) (omega arith) ∙ in_field plan plan.row left
      ∙ ap (cond (eqb (plan.bits % 2) 1) (Some (class_of (plan.row % 128 % 64), behind_field plan)))
      (in_same plan.row (plan.row / 128) (behind_field plan) (omega arith) (omega arith))

  -- one whose bit does not stand is passed over
  pub next_absent : 0 < plan.row → (plan.bits % 2 ≡ 1 → ⊥) → next_part plan ≡ next_part (behind_field plan)
  next_absent left bit = next_first left ∙ simp (ne_eqb _ _ bit)

  -- one whose bit stands is the next part
  pub next_field : 0 < plan.row → plan.bits % 2 ≡ 1 → next_part plan ≡ Some (class_of (plan.row % 128 % 64), behind_field plan)
  next_field left bit = next_first left ∙ simp (eq-eqb _ _ bit)

  -- no field is left, and no item
  pub next_none : plan.row ≤ 0 → plan.count ≡ 0 → next_part plan ≡ None
  next_none none e = in_items plan plan.row none ∙ simp (eq-eqb _ _ e)

  -- no field is left, but an item
  pub next_item_lem : plan.row ≤ 0 → (plan.count ≡ 0 → ⊥)
      → next_part plan ≡ Some (plan.item, record { row = 0; bits = 0; item = plan.item; count = plan.count - 1 })
  next_item_lem none e = in_items plan plan.row none ∙ simp (ne_eqb _ _ e)

-- ---- what a plan has left

-- a row's number is as good as any above it
fields_same : (some others row bits : ℕ) → row ≤ some → row ≤ others → fields_left some row bits ≡ fields_left others row bits
unfolding fields_left
fields_same zero zero row bits h g = refl
fields_same zero (suc others) row bits h g = simp (le-ltb 0 row h)
fields_same (suc some) zero row bits h g = simp (le-ltb 0 row g)
fields_same (suc some) (suc others) row bits h g =
    ap (λ (classes : List Class). cond (ltb 0 row) (cond (eqb (bits % 2) 1) (class_of (row % 128 % 64) ∷ []) [] ++ classes) [])
    (fields_same some others (row / 128) (bits / 2) (omega arith) (omega arith))

module _ (row bits : ℕ) where
  -- no field is left
  fields_none : row ≤ 0 → fields_left row row bits ≡ []
  unfolding fields_left
  fields_none none = fields_same row 0 row bits (omega arith) none

  -- the first field, if its bit stands, and the others
  fields_first : 0 < row
      → fields_left row row bits ≡ cond (eqb (bits % 2) 1) (class_of (row % 128 % 64) ∷ []) [] ++ fields_left (row / 128) (row / 128) (bits / 2)
  unfolding fields_left
  fields_first left =
      fields_same row (suc row) row bits (omega arith) (omega arith)
      ∙ rw (lt-ltb 0 row left, fields_same row (row / 128) (row / 128) (bits / 2) (omega arith) (omega arith))

-- of items that are left the first is next
items_first : (count : ℕ) (item : Class) → (count ≡ 0 → ⊥) → replicate count item ≡ item ∷ replicate (count - 1) item
items_first zero item h = absurd (h refl)
items_first (suc count) item h = rw sub-one

module _ (row bits count : ℕ) (item : Class) where
  -- a field whose bit does not stand is passed over
  pub left_absent : 0 < row → (bits % 2 ≡ 1 → ⊥)
      → plan_left (record { row = row; bits = bits; item = item; count = count })
      ≡ plan_left (record { row = row / 128; bits = bits / 2; item = item; count = count })
  unfolding plan_left
  left_absent left bit = rw (fields_first row bits left, ne_eqb _ _ bit)

  -- one whose bit stands is the next part
  pub left_field : 0 < row → bits % 2 ≡ 1
      → plan_left (record { row = row; bits = bits; item = item; count = count })
      ≡ class_of (row % 128 % 64) ∷ plan_left (record { row = row / 128; bits = bits / 2; item = item; count = count })
  unfolding plan_left
  left_field left bit = rw (fields_first row bits left, bit)

  -- no field is left, and no item
  pub left_none : row ≤ 0 → count ≡ 0 → plan_left (record { row = row; bits = bits; item = item; count = count }) ≡ []
  unfolding plan_left
  left_none none e = rw (fields_none row bits none, e)

  -- no field is left, but an item
  pub left_item : row ≤ 0 → (count ≡ 0 → ⊥)
      → plan_left (record { row = row; bits = bits; item = item; count = count })
      ≡ item ∷ plan_left (record { row = row; bits = bits; item = item; count = count - 1 })
  unfolding plan_left
  left_item none some = rw (fields_none row bits none) (items_first count item some)

-- the parts of a plan by its next part
abbrev left_with : Option (Class × Plan) → List Class
left_with (Some (class, rest)) = class ∷ plan_left rest
left_with None = []

-- where no field is left they are the items
items_with : (plan : Plan) → plan.row ≤ 0 → plan_left plan ≡ left_with (next_item plan)
unfolding plan_left fields_left
items_with plan none = cond_both (λ (part : Option (Class × Plan)). plan_left plan ≡ left_with part) (eqb plan.count 0) _ _
    (λ t. left_none plan.row plan.bits plan.count plan.item none (eqb-true _ _ t))
    (λ t.
    left_item plan.row plan.bits plan.count plan.item none (eqb-false _ _ t)
    ∙ ap (λ (classes : List Class). plan.item ∷ classes) (rw (fields_none plan.row plan.bits none)))

-- the next part of a plan is the first that is left
in_with : (fields : ℕ) (plan : Plan) → plan.row ≤ fields → plan_left plan ≡ left_with (next_in fields plan)
unfolding next_in
in_with zero plan none = items_with plan none
in_with (suc fields) plan h = cond_both (λ (part : Option (Class × Plan)). plan_left plan ≡ left_with part) (ltb 0 plan.row) _ _
    (λ t.
    let left = ltb-true 0 plan.row t in
    cond_both (λ (part : Option (Class × Plan)). plan_left plan ≡ left_with part) (eqb (plan.bits % 2) 1) _ _
    (λ b. left_field plan.row plan.bits plan.count plan.item left (eqb-true _ _ b))
    (λ b. left_absent plan.row plan.bits plan.count plan.item left (eqb-false _ _ b) ∙ in_with fields (behind_field plan) (omega arith)))
    (λ t. items_with plan (ltb-false 0 plan.row t))

-- so a step that gives it yields the first and leaves the others
pub step_yields : (plan rest : Plan) (part : Option Class) → option_map (λ (class : Class). (class, rest)) part ≡ next_part plan
    → IfNone part (next_part rest ≡ None) → YieldsFirst plan_left plan part rest
step_yields plan rest (Some class) same end = in_with plan.row plan (omega arith) ∙ ap left_with (sym same)
step_yields plan rest None same end = (
  in_with plan.row plan (omega arith) ∙ ap left_with (sym same),
  in_with rest.row rest (omega arith) ∙ ap left_with end,
)

-- and makes them fewer
pub step_goes : (plan rest : Plan) (part : Option Class) → YieldsFirst plan_left plan part rest
    → MakesProgress (λ (plan : Plan). ⊤) (item_count plan_left) plan part rest
step_goes plan rest (Some class) yields =
    record { on = λ finite. (tt, tt, omega (arith, ap length yields)); keeps = tt; rests = λ finite. tt }
step_goes plan rest None yields = record { on = λ finite. tt; keeps = tt; rests = λ finite. tt }

-- ---- the parts that a plan stands for

-- parts of which the same stand have the same next
same_next : (part : Option (Class × Plan)) (parts others : List Due) → standing parts ≡ standing others → NextOf part others → NextOf part parts
same_next (Some (class, rest)) parts others same next = (next.0, same ∙ next.1, next.2)
same_next None parts others same next = same ∙ next

-- of items that are left the first is next
due_first : (count : ℕ) (item : Class) → (count ≡ 0 → ⊥)
    → standing (replicate count (due item)) ≡ item ∷ standing (replicate (count - 1) (due item))
unfolding standing
due_first zero item h = absurd (h refl)
due_first (suc count) item h = rw sub-one

-- where no field is left the items are
items_left : (plan : Plan) → plan.row ≤ 0 → (parts : List Due) → Plans plan parts → parts ≡ replicate plan.count (due plan.item)
unfolding fields_due
items_left plan none parts plans =
    plans.same ∙ ap (λ (slots : List Slot). fields_due slots plan.bits ++ replicate plan.count (due plan.item)) (row_none plan.row plans.slots plans.row none)

item_next : (plan : Plan) → plan.row ≤ 0 → (parts : List Due) → Plans plan parts → NextOf (next_item plan) parts
unfolding standing fields_due
item_next plan none parts plans = cond_both (λ (part : Option (Class × Plan)). NextOf part parts) (eqb plan.count 0) _ _
    (λ t. ap standing (items_left plan none parts plans) ∙ rw (eqb-true plan.count 0 t))
    (λ t. (
      replicate (plan.count - 1) (due plan.item),
      ap standing (items_left plan none parts plans) ∙ due_first plan.count plan.item (eqb-false _ _ t),
      record { slots = []; row = refl; same = refl },
    ))

-- the next part of a plan is the first that stands
in_next : (fields : ℕ) (plan : Plan) → plan.row ≤ fields → (parts : List Due) → Plans plan parts → NextOf (next_in fields plan) parts
unfolding next_in standing
in_next zero plan h parts plans = item_next plan h parts plans
in_next (suc fields) plan h parts plans = cond_both (λ (part : Option (Class × Plan)). NextOf part parts) (ltb 0 plan.row) _ _
    (λ t.
    let left = ltb-true 0 plan.row t in
    let first = field_first plan parts plans left in
    cond_both (λ (part : Option (Class × Plan)). NextOf part parts) (eqb (plan.bits % 2) 1) _ _
    (λ b. (first.others, rw (slot_known (plan.row % 128) first.slot first.code) (ap standing first.same ∙ rw b), first.plans))
    (λ b. same_next (next_in fields (behind_field plan)) parts first.others (ap standing first.same ∙ rw b) (in_next fields (behind_field plan) (omega arith) first.others first.plans)))
    (λ t. item_next plan (ltb-false 0 plan.row t) parts plans)

pub next_of : (plan : Plan) {part : Option (Class × Plan)} → part ≡ next_part plan → (parts : List Due) → Plans plan parts → NextOf part parts
next_of plan is parts plans = rw is (in_next plan.row plan (omega arith) parts plans)

-- a field stands if its bit does
bit_standing : (bit : Bool) (class : Class) (others : List Due)
    → cond bit (class ∷ []) [] ++ standing others ≡ standing (cond bit (due class) nothing ∷ others)
unfolding standing
bit_standing true class others = refl
bit_standing false class others = refl

-- the fields of a row
fields_standing : (fields row bits : ℕ) (slots : List Slot) → row ≡ row_of slots → row ≤ fields
    → fields_left fields row bits ≡ standing (fields_due slots bits)
unfolding fields_left fields_due standing
fields_standing zero row bits slots e h = rw (row_none row slots e h)
fields_standing (suc fields) row bits slots e h =
    by_test (ltb 0 row)
    (λ t.
    let first = row_first row slots e (ltb-true 0 row t) in
    let others = fields_standing fields (row / 128) (bits / 2) first.rest first.others (omega arith) in
    rw (t, first.same, slot_known (row % 128) first.slot first.code, others)
    (bit_standing (eqb (bits % 2) 1) (slot_class first.slot) (fields_due first.rest (bits / 2))))
    (λ t. rw (t, row_none row slots e (ltb-false 0 row t)))

-- parts one behind the other
standing_append : (parts others : List Due) → standing (parts ++ others) ≡ standing parts ++ standing others
unfolding standing
standing_append [] others = refl
standing_append (nothing ∷ parts) others = standing_append parts others
standing_append (due class ∷ parts) others = ap (λ (classes : List Class). class ∷ classes) (standing_append parts others)

-- the items of a list
items_standing : (count : ℕ) (item : Class) → replicate count item ≡ standing (replicate count (due item))
unfolding standing
items_standing zero item = refl
items_standing (suc count) item = ap (λ (classes : List Class). item ∷ classes) (items_standing count item)

-- what a plan has left are those of its parts that stand
plans_left : (plan : Plan) (parts : List Due) → Plans plan parts → plan_left plan ≡ standing parts
unfolding plan_left
plans_left plan parts plans =
    let items = replicate plan.count (due plan.item) in
    rw (fields_standing plan.row plan.row plan.bits plans.slots plans.row (omega arith), items_standing plan.count plan.item)
    (sym (rw plans.same (standing_append (fields_due plans.slots plan.bits) items)))

-- the parts of a record are those of its plan
with_due : (items : Option Class) (class : Class) (own : Own) (slots : List Slot)
    → Plans (plan_with items class (row_of slots) own) (fields_due slots (own.map / 2) ++ items_due items own.count)
with_due (Some item) class own slots = record { slots = slots; row = refl; same = refl }
with_due None class own slots = record { slots = slots; row = refl; same = refl }

pub due_plans : (class : Class) (own : Own) {plan : Plan} → plan ≡ plan_of class own → Plans plan (parts_due class own)
unfolding parts_due
due_plans class own is = rw is (with_due (rule class).items class own (fields own.kind (rule class).value))

-- so those that stand are what the plan has left
pub plan_due : (class : Class) (own : Own) {plan : Plan} → plan ≡ plan_of class own → plan_left plan ≡ standing (parts_due class own)
plan_due class own {plan} is = plans_left plan (parts_due class own) (due_plans class own is)

-- ---- a record without parts

-- no items
no_items : (items : Option Class) → standing (items_due items 0) ≡ []
unfolding standing
no_items None = refl
no_items (Some class) = refl

-- a leaf
pub leaf_parts : (own : Own) → own.kind ≡ Leaf → own.count ≡ 0 → (class : Class) → standing (parts_due class own) ≡ []
unfolding parts_due fields_due
leaf_parts own leaf none class = rw (leaf, none) (no_items (rule class).items)
