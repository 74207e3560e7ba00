-- Leaves: what is printed of own bytes is what the events of the leaf's tree are.
use mathlib.Core.Path.{◌≡◌, refl}
use mathlib.Core.Bool.{Bool, true, false, cond}
use Prim.Native.Nat.{ℕ}
use lib.Seq.{slice}
use Rattle.tree.specs.Own.{read_own, Fits}
use Rattle.tree.specs.declared.grammar.Class.{Class}
use Rattle.tree.specs.declared.grammar.Class.TheVariants.{Mnemonic}
use Rattle.tree.specs.declared.own.Own.{Own}
use Rattle.std.specs.Prelude.{Result, Ok}
use Rattle.answers.specs.declared.Refusal.{Refusal}
use Rattle.events.specs.Printed.{Style, mnemonic, printed}
use Rattle.events.specs.Trees.{word, leaf, trivia_events}
use Rattle.printing.specs.Events.{nothing, ◌▹◌}
use Rattle.leaves.specs.Items.{items_at}
use Rattle.leaves.specs.Leaves.{LeafClass}
use Rattle.leaves.proofs.Leaves.{own_shown, leaf_shown_lem}
use Rattle.printers.specs.declared.Printer.{Printer}
use Rattle.printers.specs.declared.leaf.TheConstants.{MNEMONIC}
use Rattle.printers.specs.Going.{Goes}
use Rattle.printers.specs.Records.{GoesOwn, GoesRecord}
use Rattle.printers.specs.Texts.{style_of}

-- own bytes that were read
pub own_goes : {before after : Printer} (class : Class) (levels : ℕ) (style : Style) (shown : Bool) {found : Result Own Refusal} (own : Own)
    → found ≡ read_own before.tree.now before.at class levels → Fits before.tree.now before.at found → found ≡ Ok own
    → Goes before after
    (λ page at.
    cond shown (trivia_events page.context (items_at page.tree own.trivia own.trivia_count)) nothing
    ▹ word page.context (printed page.context style (slice own.text own.end page.tree)))
    (λ page at. own.end)
    → GoesOwn before after style shown levels class true
own_goes {before} {after} class levels style shown own same fits is goes = record {
  page = goes.page;
  room = goes.room;
  shown = own_shown before.tree.now class before.at levels before.context style shown same own fits is goes.shown;
}

-- a leaf's
pub leaf_goes : {before after : Printer} (class : Class) (levels : ℕ) (style : Style) (shown : Bool) → LeafClass class
    → GoesOwn before after style shown levels class true → GoesRecord before after (leaf style) shown levels class
leaf_goes {before} class levels style shown leaves goes = record {
  page = goes.page;
  room = goes.room;
  shown = leaf_shown_lem before.tree.now class leaves before.at before.context style shown levels goes.shown;
}

-- `MNEMONIC`, which no printer of this crate names: a mnemonic without its trivia
pub mnemonic_bare : (MNEMONIC.class ≡ Mnemonic) × (style_of MNEMONIC.style ≡ mnemonic) × (MNEMONIC.shown ≡ false)
mnemonic_bare = (refl, refl, refl)
