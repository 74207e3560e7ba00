-- At the head of the loop the items that are left give the place that all of them give.
use mathlib.Core.Path.{◌≡◌, refl}
use Prim.Native.Nat.{◌+◌, ◌-◌, ◌*◌, ◌<◌}
use native.Mathlib.Omega.{arith}
use lib.ListN.{get_or}
use Rattle.tree.proofs.Faults.{items_done, item_inside, newline_on, text_inside, text_on_lem}
use Rattle.tree.proofs.check.fault_in_trivia.Goals as goal
use Rattle.tree.proofs.check.fault_in_trivia.Goals.{then-tree-place-eq-NEWLINE, else-tree-place-eq-NEWLINE}

pub loop-init : goal.loop-init
loop-init c =
    let all : c.args.count - 0 ≡ c.args.count = omega arith in
    rw all (record { end = c.requires.0; items = c.requires.1; same = refl })

pub bounds-tree-place : goal.bounds-tree-place
bounds-tree-place c = omega (arith, item_inside _ _ _ _ _ _ _ c.loop.invariant (omega arith))

pub overflow_add-place : goal.overflow_add-place
overflow_add-place c = omega (arith, item_inside _ _ _ _ _ _ _ c.loop.invariant (omega arith))

pub overflow_add-place-else-tree-place-eq-NEWLINE : goal.overflow_add-place-else-tree-place-eq-NEWLINE
overflow_add-place-else-tree-place-eq-NEWLINE c = omega (arith, item_inside _ _ _ _ _ _ _ c.loop.invariant (omega arith))

pub bounds-tree-place-else-tree-place-eq-NEWLINE : goal.bounds-tree-place-else-tree-place-eq-NEWLINE
bounds-tree-place-else-tree-place-eq-NEWLINE c = omega (arith, text_inside _ _ _ _ _ _ _ c.loop.invariant (omega arith) c.if-tree-place-eq-NEWLINE.false _ refl)

pub overflow_add-place-else-tree-place-eq-NEWLINE-2 : goal.overflow_add-place-else-tree-place-eq-NEWLINE-2
overflow_add-place-else-tree-place-eq-NEWLINE-2 c = omega (arith, text_inside _ _ _ _ _ _ _ c.loop.invariant (omega arith) c.if-tree-place-eq-NEWLINE.false _ refl)

pub bounds-tree-place-else-tree-place-eq-NEWLINE-2 : goal.bounds-tree-place-else-tree-place-eq-NEWLINE-2
bounds-tree-place-else-tree-place-eq-NEWLINE-2 c = omega (arith, text_inside _ _ _ _ _ _ _ c.loop.invariant (omega arith) c.if-tree-place-eq-NEWLINE.false _ refl)

pub overflow_add-start : goal.overflow_add-start
overflow_add-start c = omega (arith, text_inside _ _ _ _ _ _ _ c.loop.invariant (omega arith) c.if-tree-place-eq-NEWLINE.false _ refl)

pub overflow_add-start-else-tree-place-eq-NEWLINE : goal.overflow_add-start-else-tree-place-eq-NEWLINE
overflow_add-start-else-tree-place-eq-NEWLINE c = omega (arith, text_inside _ _ _ _ _ _ _ c.loop.invariant (omega arith) c.if-tree-place-eq-NEWLINE.false _ refl)

pub fault_in-found-requires : goal.fault_in-found-requires
fault_in-found-requires c = omega (arith, text_inside _ _ _ _ _ _ _ c.loop.invariant (omega arith) c.if-tree-place-eq-NEWLINE.false _ refl)

pub overflow_add-place-else-tree-place-eq-NEWLINE-3 : goal.overflow_add-place-else-tree-place-eq-NEWLINE-3
overflow_add-place-else-tree-place-eq-NEWLINE-3 c = omega (arith, text_inside _ _ _ _ _ _ _ c.loop.invariant (omega arith) c.if-tree-place-eq-NEWLINE.false _ refl)

pub loop-preserved : goal.loop-preserved
loop-preserved c =
    let head = c.loop in
    let taken : 0 < c.args.count - head.counter = omega arith in
    let bytes = c.args.tree.now in
    let left : c.args.count - head.counter - 1 ≡ c.args.count - (head.counter + 1) = omega arith in
    rw (← left)
    (elim c.if-tree-place-eq-NEWLINE.branch [
      | then-tree-place-eq-NEWLINE w ↦
          rw (w.place-is, w.found-is) (newline_on _ _ _ _ _ _ _ head.invariant taken w.if-tree-place-eq-NEWLINE.true)
      | else-tree-place-eq-NEWLINE w ↦
          let sized : w.from.result + 256 * w.from-else-tree-place-eq-NEWLINE.result ≡ get_or bytes (head.place + 1) 0 + 256 * get_or bytes (head.place + 2) 0 =
          omega (arith, w.from.ensures, w.from-else-tree-place-eq-NEWLINE.ensures) in
          rw (w.place-is, w.found-is) (text_on_lem _ _ _ _ _ _ _ head.invariant taken w.if-tree-place-eq-NEWLINE.false _ sized _ w.fault_in-found.ensures)
    ])

pub returns : goal.returns
returns c = items_done _ _ _ _ _ _ _ c.loop.invariant (omega arith)
