-- By the code: whitespace is no chunk, a newline a chunk of code, and anything else a comment.
use mathlib.Core.Logic.{⊎_elim}
use mathlib.Core.Path.{refl}
use Rattle.text.proofs.Parts.{part_slice}
use Rattle.printers.proofs.Exact.{exact_stays, exact_there}
use Rattle.printers.proofs.trivia.format_trivium.Goals as goal

pub returns-in-Whitespace : goal.returns-in-Whitespace
returns-in-Whitespace c = exact_there exact_stays (rw c.in-Whitespace.is refl) refl

pub returns-in-CStyle : goal.returns-in-CStyle
returns-in-CStyle c =
    let pushed = rw part_slice at c.push_type.ensures in
    ⊎_elim (λ is. exact_there pushed (rw is refl) refl) (λ is. exact_there pushed (rw is refl) refl) c.in-CStyle.is
