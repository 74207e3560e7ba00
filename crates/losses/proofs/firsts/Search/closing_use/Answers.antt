-- No closing character; a reading on the way that was refused, which cannot be where the operand passed; one that the mode
-- prints, and one that it does not.
use lib.Seq.{slice}
use Rattle.text.proofs.Parts.{part_slice}
use Rattle.losses.proofs.Operands.{takes_no_closing, no_expression, no_opening, no_closing, no_mode, mode_prints, mode_omits, takes_printed, takes_closing}
use Rattle.losses.proofs.firsts.Search.closing_use.Goals as goal

pub returns-then-not-stands : goal.returns-then-not-stands
returns-then-not-stands c = takes_no_closing _ _ _ c.stands.ensures c.if-not-stands.true

pub returns-in_err-lchar : goal.returns-in_err-lchar
returns-in_err-lchar c = no_expression _ _ _ c.stands.ensures c.if-not-stands.false c.skip.ensures.answer c.in_err-lchar.was

pub returns-in_err-rchar : goal.returns-in_err-rchar
returns-in_err-rchar c =
    no_opening _ _ _ c.stands.ensures c.if-not-stands.false c.skip.ensures.answer c.in_ok-lchar.was c.stands-2.ensures
    c.behind.ensures c.in_err-rchar.was

pub returns-in_err-mode : goal.returns-in_err-mode
returns-in_err-mode c =
    no_closing _ _ _ c.stands.ensures c.if-not-stands.false c.skip.ensures.answer c.in_ok-lchar.was c.stands-2.ensures
    c.behind.ensures c.in_ok-rchar.was c.skip-2.ensures.answer c.in_err-mode.was

pub returns-in_err-leaf : goal.returns-in_err-leaf
returns-in_err-leaf c =
    no_mode _ _ _ c.stands.ensures c.if-not-stands.false c.skip.ensures.answer c.in_ok-lchar.was c.stands-2.ensures
    c.behind.ensures c.in_ok-rchar.was c.skip-2.ensures.answer c.in_ok-mode.was c.read_own.ensures.answer c.in_err-leaf.was

pub returns-in-Indirect : goal.returns-in-Indirect
returns-in-Indirect c =
    let leaf = c.in_ok-leaf.leaf in
    let mode = rw part_slice at c.of_text.ensures in
    takes_printed _ _ _ c.stands.ensures c.if-not-stands.false c.skip.ensures.answer c.in_ok-lchar.was c.stands-2.ensures
    c.behind.ensures c.in_ok-rchar.was c.skip-2.ensures.answer c.in_ok-mode.was c.read_own.ensures.answer _ c.in_ok-leaf.was (mode_prints (slice leaf.text leaf.end c.args.tree.now) mode c.in-Indirect.is)

pub returns-in_default : goal.returns-in_default
returns-in_default c =
    let leaf = c.in_ok-leaf.leaf in
    let mode = rw part_slice at c.of_text.ensures in
    takes_closing _ _ _ c.stands.ensures c.if-not-stands.false c.skip.ensures.answer c.in_ok-lchar.was c.stands-2.ensures
    c.behind.ensures c.in_ok-rchar.was c.skip-2.ensures.answer c.in_ok-mode.was c.read_own.ensures.answer _ c.in_ok-leaf.was
    (mode_omits (slice leaf.text leaf.end c.args.tree.now) mode c.in_default.not-Indirect c.in_default.not-OuterIndirect) c.take.ensures
