-- The buffer changes only where the line went astray, and then by the cut that is written.
use mathlib.Core.Path.{sym, ◌∙◌}
use Rattle.join.proofs.lines.mend.Goals as goal

pub write_cut-requires : goal.write_cut-requires
write_cut-requires c =
    let given = c.requires in
    record { inside = given.inside; cut_fits = given.cut_fits; line_in_bounds = given.fact (sym c.is_astray.ensures ∙ c.if-is_astray.true) }

pub returns-then-is_astray : goal.returns-then-is_astray
returns-then-is_astray c = rw (sym c.is_astray.ensures ∙ c.if-is_astray.true) c.write_cut.ensures

pub returns-else-is_astray : goal.returns-else-is_astray
returns-else-is_astray c = rw (sym c.is_astray.ensures ∙ c.if-is_astray.false)
