-- The scan tells it where there are bytes behind the count; where there are none, none is above 127.
use mathlib.Core.Path.{sym, ap, ◌∙◌}
use lib.ListN.{length}
use Rattle.text.specs.Accepted.{accepted_text}
use Rattle.text.proofs.Parts.{part_slice}
use Rattle.tree.proofs.Plain.{short_plain}
use Rattle.tree.proofs.check.is_plain.Goals as goal

pub returns-then-end-lt4 : goal.returns-then-end-lt4
returns-then-end-lt4 c = sym (short_plain c.args.tree.now c.if-end-lt4.true)

pub returns : goal.returns
returns c =
    let bytes = c.args.tree.now in
    c.is_accepted.ensures ∙ ap accepted_text (part_slice 4 (length bytes) bytes)
