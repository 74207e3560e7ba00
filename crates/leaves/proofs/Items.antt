-- Laws of trivia items and of their events.
use Rattle.std.specs.Prelude.{Option, Some, None}
use mathlib.Core.Path.{◌≡◌, refl, sym, ap, ◌∙◌}
use mathlib.Core.List.{List, [], ◌∷◌}
use Prim.Native.Nat.{ℕ, zero, suc, ◌≤◌}
use native.Mathlib.Omega.{arith}
use lib.ListN.{length}
use Rattle.tree.specs.Tree.{Trivium}
use Rattle.tree.specs.Own.{trivium_end, behind, trivia_end}
use Rattle.tree.specs.Reading.{trivia_from}
use Rattle.tree.specs.Parts.{trivium_at}
use Rattle.tree.specs.declared.parts.TriviumSpan.{TriviumSpan}
use Rattle.tree.proofs.Cases.{broken_behind}
use Rattle.tree.proofs.Heads.{item_read, item_stands, items_first}
use Rattle.leaves.specs.Items.{item_of, items_on, items_at}

-- ---- the items at a place

-- none are left
pub items_none : (bytes : List ℕ) (at left : ℕ) → left ≤ 0 → items_at bytes at left ≡ []
unfolding items_at
items_none bytes at zero h = refl
items_none bytes at (suc left) h = absurd (omega arith)

-- the first of items that keep the layout, by what `trivium_end` gives, where those behind it are as reading has them
first_kept : (bytes : List ℕ) (at count end : ℕ) (span : Option ℕ) → trivium_end bytes at ≡ span → behind span (λ place. trivia_end bytes place count) ≡ Some end
    → ((place : ℕ) → trivia_end bytes place count ≡ Some end → items_at bytes place count ≡ trivia_from bytes place count)
    → items_at bytes at (suc count) ≡ trivia_from bytes at (suc count)
unfolding items_at
first_kept bytes at count end (Some place) is rest others =
    let found = item_stands bytes at place is in
    let behind : items_at bytes found.0.end count ≡ trivia_from bytes found.0.end count = rw found.2 (others place rest) in
    ap (items_on bytes (λ (next : ℕ). items_at bytes next count)) found.1
    ∙ ap (λ (items : List Trivium). item_of bytes found.0 ∷ items) behind
    ∙ sym (items_first bytes at count found.0 found.1)
first_kept bytes at count end None is rest others = broken_behind rest

-- items that keep the layout are those of reading
pub items_kept : (bytes : List ℕ) (at count end : ℕ) → trivia_end bytes at count ≡ Some end → items_at bytes at count ≡ trivia_from bytes at count
unfolding items_at trivia_end trivia_from
items_kept bytes at zero end kept = refl
items_kept bytes at (suc count) end kept = first_kept bytes at count end (trivium_end bytes at) refl kept (λ place rest. items_kept bytes place count end rest)

-- an item that was read lies within the bytes
pub item_lies : (bytes : List ℕ) (at : ℕ) (item : TriviumSpan) {found : Option TriviumSpan} → found ≡ trivium_at bytes at → found ≡ Some item
    → (item.start ≤ item.end) × (item.end ≤ length bytes)
item_lies bytes at item same told = let this = item_read bytes at item (sym same ∙ told) in (this.order, this.inside)
