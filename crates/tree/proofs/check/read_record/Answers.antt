-- The own bytes are refused, or the record is a walk over its parts, of which a leaf has none.
use mathlib.Core.Path.{sym, ◌∙◌}
use Rattle.tree.proofs.Records.{read_refused, read_walked, walk_none, level_left}
use Rattle.tree.proofs.check.read_record.Goals as goal

pub returns-in-Err : goal.returns-in-Err
returns-in-Err c = read_refused _ _ _ _ _ c.read_own.ensures.answer _ _ c.in-Err.is

pub own_fault-seen-requires : goal.own_fault-seen-requires
own_fault-seen-requires c = (_, c.in-Ok.ensures.fits)

pub returns-then-not-has_parts : goal.returns-then-not-has_parts
returns-then-not-has_parts c =
    walk_none _ _ _ _ _ c.has_parts.ensures c.if-not-has_parts.true
    ∙ sym (read_walked _ _ _ _ _ c.read_own.ensures.answer _ _ _ c.in-Ok.is c.own_fault-seen.ensures)

pub read_parts-requires : goal.read_parts-requires
read_parts-requires c = level_left _ _ _ _ _ c.read_own.ensures.answer _ c.in-Ok.is

pub returns : goal.returns
returns c = c.read_parts.ensures ∙ sym (read_walked _ _ _ _ _ c.read_own.ensures.answer _ _ _ c.in-Ok.is c.own_fault-seen.ensures)
