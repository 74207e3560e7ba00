-- Laws of operands: the addressing mode, which is a leaf, is read and says the order of the rest; where none can be read the walk ends.
use mathlib.Core.Path.{◌≡◌, refl, ap}
use mathlib.Core.List.{List, [], ◌∷◌}
use mathlib.Core.Bool.{Bool, true, false, cond}
use Prim.Native.Nat.{ℕ, zero, suc}
use native.Mathlib.Omega.{arith}
use borrow.Author.Tests.{ne_eqb}
use Rattle.printing.specs.Events.{Events}
use lib.ListN.{get_or}
use lib.Seq.{slice}
use Rattle.std.specs.Prelude.{Option, Some, None, Ok}
use Rattle.tree.specs.Tree.{node, Leaf, built}
use Rattle.tree.specs.Own.{read_own}
use Rattle.tree.specs.Reading.{trivia_of, text_of, fields_due, parts_due, read_parts, read}
use Rattle.tree.specs.declared.grammar.Class.TheVariants.{SuffixRecord}
use Rattle.tree.specs.declared.grammar.Class.TheVariants as class
use Rattle.tree.specs.Codes.{mode_of}
use Rattle.tree.specs.declared.codes.AddressingMode.{AddressingMode}
use Rattle.tree.specs.declared.codes.AddressingMode.TheVariants as modes
use Rattle.tree.specs.declared.own.Own.{Own}
use Rattle.printing.specs.Running.{run}
use Rattle.events.specs.Views.{view}
use Rattle.events.specs.Refusals.{first_refusal}
use Rattle.events.specs.Trees.{skipping, operand_events}
use Rattle.leaves.proofs.Classes.{addressing_mode_leaf}
use Rattle.leaves.proofs.Leaves.{own_leaf}
use Rattle.leaves.proofs.Records.{read_refused, read_record}
use Rattle.printers.specs.declared.Printer.{Printer}
use Rattle.printers.specs.Going.{Goes}
use Rattle.printers.specs.Records.{Opens}
use Rattle.printers.proofs.Going.{◌onward◌, ends_alike}
use Rattle.printers.proofs.Opening.{closed_first, opened_own}
use Rattle.expressions.specs.Operands.{in_order, end_events, mode_events, mode_end}

-- its index says the order as the mode does
order_is : (index : ℕ) (rchar suffix : Events) → operand_events (index ∷ []) rchar suffix ≡ in_order (mode_of (index ∷ [])) rchar suffix
order_is zero rchar suffix = refl
order_is (suc zero) rchar suffix = refl
order_is (suc (suc zero)) rchar suffix = refl
order_is (suc (suc (suc zero))) rchar suffix = refl
order_is (suc (suc (suc (suc zero)))) rchar suffix = refl
order_is (suc (suc (suc (suc (suc more))))) rchar suffix =
    let index = suc (suc (suc (suc (suc more)))) in
    rw (ne_eqb index 3 (λ same. omega (arith, same)), ne_eqb index 4 (λ same. omega (arith, same))) refl

-- any other mode prints no character
pub order_other : (mode : AddressingMode) (rchar suffix : Events) → (mode ≡ modes.Indirect → ⊥) → (mode ≡ modes.OuterIndirect → ⊥) → in_order mode rchar suffix ≡ suffix
order_other modes.Indirect rchar suffix inner outer = absurd (inner refl)
order_other modes.OuterIndirect rchar suffix inner outer = absurd (outer refl)
order_other other rchar suffix inner outer = refl

-- its record ends with its own bytes
mode_read : (bytes : List ℕ) (at levels : ℕ) (own : Own) → read_own bytes at class.AddressingMode levels ≡ Ok own
    → ((read levels bytes class.AddressingMode at).tree ≡ node at (trivia_of bytes own) (Leaf (text_of bytes own)))
    × ((read levels bytes class.AddressingMode at).end ≡ own.end)
unfolding built read_parts parts_due fields_due
mode_read bytes at levels own is =
    rw ((read_record bytes class.AddressingMode at levels own is).1, own_leaf bytes class.AddressingMode addressing_mode_leaf at levels own is) (refl, refl)

-- what stands from the mode on is printed
abbrev pub GoesMode : Printer → Printer → ℕ → Bool → ℕ → Bool → Type 0
GoesMode before after levels rchar place suffix =
    Goes before after (λ page at. mode_events page.context rchar place suffix (read levels page.tree) at)
    (λ page at. mode_end suffix (read levels page.tree) at)

module _ {before between : Printer} {levels : ℕ} {found : Option Own} (opens : Opens before between false levels class.AddressingMode true found)
    (rchar : Bool) (place : ℕ) (suffix : Bool)
  where
    -- it cannot be read
    pub mode_closed : found ≡ None → GoesMode before between levels rchar place suffix
    unfolding first_refusal
    mode_closed is = closed_first opens is refl (λ why refused. ap skipping (read_refused before.tree.now class.AddressingMode before.at levels why refused).0)

    -- it was read, and the mode of its text says the order
    pub mode_opened : {after : Printer} {own : Own} {mode : AddressingMode} → found ≡ Some own → mode ≡ mode_of (slice own.text own.end before.tree.now)
        → Goes between after (λ page at. end_events page.context mode rchar place suffix (read levels page.tree) at)
        (λ page at. cond suffix (read levels page.tree SuffixRecord at).end at)
        → GoesMode before after levels rchar place suffix
    unfolding first_refusal run view
    mode_opened {own = own} is told goes =
        let opened = opened_own opens is in
        let mode = mode_read before.tree.now before.at levels own opened.1 in
        let index = get_or (slice own.text own.end before.tree.now) 0 0 in
        ends_alike (opened.3 onward goes) (λ x. rw (mode.0, mode.1, told, ← order_is index _ _) refl) (rw mode.1 refl)
