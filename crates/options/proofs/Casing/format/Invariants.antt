-- The loop's invariant: with the bytes from the index on cased as well, the text is the cased one.
use mathlib.Core.Path.{◌≡◌}
use Rattle.options.specs.Casings.{cased}
use Rattle.options.proofs.Cased.{cased_from}
use Rattle.options.proofs.Casing.format.Given as goal

abbrev pub invariant-loop-byte : goal.invariant-loop-byte
invariant-loop-byte l = cased_from l.self l.byte-index l.text ≡ cased l.self l.initial.text
