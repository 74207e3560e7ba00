-- Laws of strings: a list's kind, an item by its kind, and the items one behind the other.
use mathlib.Core.Path.{◌≡◌, refl, ◌∙◌}
use mathlib.Core.List.{List}
use mathlib.Core.Bool.{Bool, true, false}
use Prim.Native.Nat.{ℕ, zero, suc, ◌-◌, ◌≤◌, ◌<◌}
use native.Mathlib.Omega.{arith}
use native.Mathlib.Numerals.{sub-one}
use lib.Dec.{eqb}
use lib.ListN.{get_or}
use lib.Seq.{slice}
use borrow.Author.Tests.{eqb-true, eqb-false}
use Rattle.std.specs.Prelude.{Option, Some, Ok}
use Rattle.text.proofs.Choices.{by_test, no_other}
use Rattle.tree.specs.Tree.{node, built, chain, Leaf, PathItem}
use Rattle.tree.specs.Own.{read_own}
use Rattle.tree.specs.Reading.{trivia_of, fields_due, parts_due, read_parts, read}
use Rattle.tree.specs.declared.grammar.Class.TheVariants as class
use Rattle.tree.specs.declared.grammar.Kind.TheVariants as variant
use Rattle.tree.specs.declared.own.Own.{Own}
use Rattle.tree.specs.Grammar.{kind_number}
use Rattle.tree.proofs.KindLayout.{kind_number_lem}
use Rattle.events.specs.Printed.{plain}
use Rattle.events.specs.Trees.{leaf, in_string, events_in}
use Rattle.events.proofs.OwnParts.{record_headed}
use Rattle.leaves.specs.Lists.{item_trees, items_end}
use Rattle.leaves.proofs.Records.{read_record}
use Rattle.printers.specs.declared.Printer.{Printer}
use Rattle.printers.specs.Going.{Goes}
use Rattle.printers.specs.Records.{GoesRecord, Opens}
use Rattle.printers.proofs.Going.{◌onward◌, stays}
use Rattle.printers.proofs.Opening.{opened_own, opened_range, opened_by_number}

-- ---- a list

-- a string's items are a list
pub opened_items : {before between : Printer} {shown : Bool} {levels : ℕ} {stands : Bool} {found : Option Own} {own : Own}
    → Opens before between shown levels class.StringItems stands found → found ≡ Some own → own.kind ≡ variant.Vec
opened_items {before} {levels = levels} {own = own} opens is =
    let first = get_or before.tree.now before.at 0 in
    let headed = (record_headed before.tree.now before.at class.StringItems levels own (opened_own opens is).1).1 in
    let number = kind_number_lem first own.kind headed.kind_is in
    by_test (eqb first 24)
    (λ list. opened_by_number opens is 24 variant.Vec (number ∙ eqb-true _ _ list) refl)
    (λ other. absurd (eqb-false _ _ other (no_other 24 first (rw other at headed.standing))))

-- ---- an item

-- an item that is no path is a text
pub text_item : {before between : Printer} {shown : Bool} {levels : ℕ} {stands : Bool} {found : Option Own} {own : Own}
    → Opens before between shown levels class.StringItem stands found → found ≡ Some own → (own.kind ≡ variant.PathItem → ⊥) → own.kind ≡ variant.Leaf
text_item {own = own} opens is no_path =
    let range = opened_range opens is refl in
    by_test (eqb (kind_number own.kind) 26)
    (λ path. absurd (no_path (opened_by_number opens is 26 variant.PathItem (eqb-true _ _ path) refl)))
    (λ other.
    let differs : kind_number own.kind ≡ 26 → ⊥ = eqb-false (kind_number own.kind) 26 other in
    let number : kind_number own.kind ≡ 25 = omega (arith, range.0, range.1, differs) in
    opened_by_number opens is 25 variant.Leaf number refl)

module _ (bytes : List ℕ) (levels : ℕ) (own : Own) where
  -- a text is read as one
  pub text_read : own.kind ≡ variant.Leaf → (at : ℕ) → read_own bytes at class.StringItem levels ≡ Ok own
      → ((read levels bytes class.StringItem at).tree ≡ node at (trivia_of bytes own) (Leaf (slice own.text own.end bytes)))
      × ((read levels bytes class.StringItem at).end ≡ own.end)
  unfolding parts_due fields_due read_parts built
  text_read kind at is = rw ((read_record bytes class.StringItem at levels own is).1, kind) (refl, refl)

  -- and a path
  pub path_read : own.kind ≡ variant.PathItem → (at : ℕ) → read_own bytes at class.StringItem levels ≡ Ok own
      → ((read levels bytes class.StringItem at).tree ≡ node at (trivia_of bytes own) (PathItem (slice own.text own.end bytes)))
      × ((read levels bytes class.StringItem at).end ≡ own.end)
  unfolding parts_due fields_due read_parts built
  path_read kind at is = rw ((read_record bytes class.StringItem at levels own is).1, kind) (refl, refl)

-- ---- items

-- so many items are printed
abbrev pub GoesStringItems : Printer → Printer → ℕ → ℕ → Type 0
GoesStringItems before after levels left =
    Goes before after (λ page at. events_in page.context in_string true (chain (item_trees (read levels page.tree) class.StringItem left at)))
    (λ page at. items_end (read levels page.tree) class.StringItem left at)

-- none is left
pub no_item : {printer : Printer} (levels left : ℕ) → left ≤ 0 → GoesStringItems printer printer levels left
unfolding events_in item_trees items_end chain
no_item levels zero none = stays
no_item levels (suc left) none = absurd (omega arith)

-- one is printed, and those behind it go on
pub one_item : {before between after : Printer} (levels left : ℕ) → 0 < left → GoesRecord before between (leaf plain) false levels class.StringItem
    → GoesStringItems between after levels (left - 1) → GoesStringItems before after levels left
unfolding events_in item_trees items_end chain
one_item levels zero some one rest = absurd (omega arith)
one_item levels (suc left) some one rest = one onward rw sub-one at rest
