-- The mnemonic is printed from what was read of it. Behind the operand no space is to come; where none stands it need not be asked for, since it would be
-- taken back at once.
use mathlib.Core.Path.{refl}
use Rattle.text.proofs.Parts.{part_slice}
use Rattle.tree.specs.declared.grammar.Class.TheVariants.{Mnemonic}
use Rattle.printing.specs.Running.{run}
use Rattle.events.specs.Printed.{mnemonic}
use Rattle.events.specs.Trees.{events_in}
use Rattle.leaves.proofs.Classes.{mnemonic_leaf}
use Rattle.printers.proofs.Going.{◌onward◌, runs_alike}
use Rattle.tokens.proofs.Listed.{text_there}
use Rattle.tokens.proofs.PlainTokens.{taken_back}
use Rattle.tokens.proofs.plain.format_listed_instruction.Goals as goal
use Rattle.tokens.proofs.plain.format_listed_instruction.Goals.{then-stands, else-stands}

pub returns : goal.returns
unfolding events_in run
returns c place is =
    let text = runs_alike (rw part_slice at c.push_text.ensures.goes onward c.move_to.ensures.goes) (λ x. refl) in
    let head = text_there Mnemonic _ mnemonic _ place mnemonic_leaf is text in
    elim c.if-stands.branch [
      | then-stands w ↦
          rw (← c.stands.ensures, w.if-stands.true)
          (head onward w.spc_if_next.ensures.goes onward w.format_operand.ensures onward (rw w.printer-is at c.clear_spc_if_next.ensures.goes))
      | else-stands w ↦
          rw (← c.stands.ensures, w.if-stands.false) (runs_alike (head onward (rw w.printer-is at c.clear_spc_if_next.ensures.goes)) (λ x. taken_back _))
    ]
