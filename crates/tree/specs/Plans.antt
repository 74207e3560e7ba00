-- The parts of a record that are still to be read: what a plan of any numbers gives next, and what it gives in all.
use Rattle.std.specs.Prelude.{ℕ, zero, suc, ◌-◌, ◌/◌, ◌%◌, List, [], ◌∷◌, ◌++◌, cond, eqb, ltb, replicate, Option, Some, None}
use Rattle.tree.specs.Grammar.{rule, fields}
use Rattle.tree.specs.Rows.{class_of, row_of}
use Rattle.tree.specs.declared.grammar.Class.{Class}
use Rattle.tree.specs.declared.own.Own.{Own}
use Rattle.tree.specs.declared.check.Plan.{Plan}

-- the fields of a row, and then the items of a list
abbrev pub plan_with : Option Class → Class → ℕ → Own → Plan
plan_with (Some item) class row own = record { row = row; bits = own.map / 2; item = item; count = own.count }
plan_with None class row own = record { row = row; bits = own.map / 2; item = class; count = 0 }

abbrev pub plan_of : Class → Own → Plan
plan_of class own = plan_with (rule class).items class (row_of (fields own.kind (rule class).value)) own

-- ---- the next part

-- a plan without the first field of its row
abbrev pub behind_field : Plan → Plan
behind_field plan = record { row = plan.row / 128; bits = plan.bits / 2; item = plan.item; count = plan.count }

-- where no field is left: the first item, if one is
abbrev pub next_item : Plan → Option (Class × Plan)
next_item plan = cond (eqb plan.count 0) None (Some (plan.item, record { row = 0; bits = 0; item = plan.item; count = plan.count - 1 }))

-- the first field whose bit stands, of a row of at most so many fields; else an item
unfoldable pub next_in : ℕ → Plan → Option (Class × Plan)
next_in zero plan = next_item plan
next_in (suc fields) plan =
    cond (ltb 0 plan.row)
    (cond (eqb (plan.bits % 2) 1) (Some (class_of (plan.row % 128 % 64), behind_field plan)) (next_in fields (behind_field plan)))
    (next_item plan)

-- a row has no more fields than its number says
abbrev pub next_part : Plan → Option (Class × Plan)
next_part plan = next_in plan.row plan

-- ---- all parts

-- of a row of at most so many fields those whose bits stand
unfoldable pub fields_left : ℕ → ℕ → ℕ → List Class
fields_left zero row bits = []
fields_left (suc fields) row bits =
    cond (ltb 0 row) (cond (eqb (bits % 2) 1) (class_of (row % 128 % 64) ∷ []) [] ++ fields_left fields (row / 128) (bits / 2)) []

-- the parts of a plan: a row has no more fields than its number says, and behind them stand the items
unfoldable pub plan_left : Plan → List Class
plan_left plan = fields_left plan.row plan.row plan.bits ++ replicate plan.count plan.item
