-- Each field is passed and read, or its byte is refused.
use Rattle.std.proofs.Common.{refl, arith}
use Rattle.options.specs.Stored.{map_of}
use Rattle.options.proofs.Values.{read_none, default_read, byte_read, byte_refused, byte_within, read_all, largest_known, default_known, standing_small}
use Rattle.options.proofs.read_values.Goals as goal
use Rattle.options.proofs.read_values.Goals.{then-map-k-eq1+else-value-largest, else-map-k-eq1}

pub loop-k-init : goal.loop-k-init
loop-k-init c = read_none c.args.stored.now _ refl

pub bounds-stored-place : goal.bounds-stored-place
bounds-stored-place c = omega (arith, byte_within c.loop-k-test.true c.loop-k.invariant c.if-map-k-eq1.true)

pub returns-then-value-largest : goal.returns-then-value-largest
returns-then-value-largest c =
    byte_refused c.loop-k-test.true c.loop-k.invariant c.if-map-k-eq1.true c.if-value-largest.true (largest_known c.loop-k.k)

pub overflow_add-place : goal.overflow_add-place
overflow_add-place c =
    omega (arith, byte_within c.loop-k-test.true c.loop-k.invariant c.if-map-k-eq1.true, standing_small (map_of c.args.stored.now) 8)

pub loop-k-preserved : goal.loop-k-preserved
loop-k-preserved c =
    let within = c.loop-k-test.true in
    elim c.if-map-k-eq1.branch [
      | then-map-k-eq1+else-value-largest w ↦
          rw (w.values-is, w.place-is) (byte_read within c.loop-k.invariant w.if-map-k-eq1.true w.if-value-largest.false (largest_known c.loop-k.k))
      | else-map-k-eq1 w ↦ rw (w.values-is, w.place-is) (default_read within c.loop-k.invariant w.if-map-k-eq1.false (default_known c.loop-k.k))
    ]

pub returns : goal.returns
returns c = read_all c.loop-k-test.false c.loop-k.auto.k-end c.loop-k.invariant
