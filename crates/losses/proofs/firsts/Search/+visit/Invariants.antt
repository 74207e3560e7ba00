-- At the head of the loop the parts that are left go on with the search of the record's parts; each part stands one level
-- further down. Where the record passed no refusal is met: of its own bytes, of what it shows by itself, or of a part.
use Rattle.tree.specs.Reading.{read}
use Rattle.tree.specs.Plans.{plan_left}
use Rattle.losses.proofs.Searching.{PartsLeft}
use Prim.Native.Nat.{◌-◌}
use Rattle.losses.proofs.firsts.Search.+visit.Given as goal

abbrev pub decreases-visit : goal.decreases-visit
decreases-visit l = l.levels

abbrev pub invariant-loop-field : goal.invariant-loop-field
invariant-loop-field l =
    PartsLeft (read (l.levels - 1) l.tree) l.below (plan_left l.initial.field-iterator) l.initial.place l.initial.self
    (plan_left l.field-iterator) l.place l.self
