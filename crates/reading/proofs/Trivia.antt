-- The ink of trivia where they are printed, and of what a list prints beside its records.
use Rattle.std.specs.Prelude.{Ok, Err}
use Rattle.answers.specs.Numbers.{Checked}
use mathlib.Core.Path.{◌≡◌, refl, sym, ◌∙◌}
use mathlib.Core.List.{List, [], ◌∷◌, ◌++◌}
use mathlib.Core.Bool.{Bool, true, false, cond, not, ◌&&◌, ◌||◌}
use Prim.Native.Nat.{ℕ}
use native.Mathlib.Omega.{arith}
use lib.Dec.{eqb}
use borrow.Author.Tests.{eqb-true, eqb-false, le-leb, lt-leb}
use Rattle.text.specs.Ink.{blank, ink, inks}
use Rattle.text.specs.Lines.{is_empty, is_newline}
use Rattle.text.proofs.Choices.{by_test, true_false}
use Rattle.tree.specs.Tree.{Tree, Trivium}
use Rattle.printing.specs.Events.{nothing}
use Rattle.printing.specs.Holding.{ink_of}
use Rattle.printing.specs.declared.Context.{Context}
use Rattle.events.specs.Refusals.{first_refusal}
use Rattle.events.specs.Trees.{stop_at, skipping, trivium_events, trivia_events, only_newline, lead_events, list_trivia, Before, first, behind, after_same, after_other, break_before}
use Rattle.reading.specs.Order.{is_comment, comments}
use Rattle.reading.specs.Places.{has_comment}

-- what an item prints, before what others print, has the ink of its comment
ink_trivium : (context : Context) (item : Trivium) (items : List Trivium)
    → ink_of (trivium_events context item) ++ inks (comments items) ≡ inks (comments (item ∷ items))
unfolding ink_of ink blank inks comments
ink_trivium context item items =
    by_test (eqb item.code 0)
    (λ white. rw (white, lt-leb 2 item.code (omega (arith, eqb-true item.code 0 white))))
    (λ other. by_test (eqb item.code 1)
    (λ line. rw (other, line, lt-leb 2 item.code (omega (arith, eqb-true item.code 1 line))))
    (λ comment. rw (other, comment, le-leb 2 item.code (omega (arith, eqb-false item.code 0 other, eqb-false item.code 1 comment)))))

-- trivia that are printed have the ink of their comments
pub ink_trivia : (context : Context) (items : List Trivium) → ink_of (trivia_events context items) ≡ inks (comments items)
unfolding ink_of trivia_events comments inks
ink_trivia context [] = refl
ink_trivia context (item ∷ items) = rw (ink_trivia context items) (ink_trivium context item items)

-- an empty text and a newline have no ink
ink_lone : (text : List ℕ) → (is_empty text || is_newline text) ≡ true → ink text ≡ []
unfolding ink blank is_newline
ink_lone [] lone = refl
ink_lone (byte ∷ []) lone = rw (eqb-true byte 10 lone)
ink_lone (byte ∷ next ∷ text) lone = true_false (sym lone)

-- an item that is left out first in a list adds no ink
ink_left_out : (item : Trivium) (items : List Trivium) → only_newline item ≡ true → inks (comments (item ∷ items)) ≡ inks (comments items)
unfolding inks comments
ink_left_out item items out =
    by_test (eqb item.code 0)
    (λ white. rw (lt-leb 2 item.code (omega (arith, eqb-true item.code 0 white))))
    (λ other. by_test (eqb item.code 1)
    (λ line. rw (lt-leb 2 item.code (omega (arith, eqb-true item.code 1 line))))
    (λ comment.
    rw (le-leb 2 item.code (omega (arith, eqb-false item.code 0 other, eqb-false item.code 1 comment)), ink_lone item.text (rw (other, comment) at out))))

-- so do trivia first in a list
ink_lead : (context : Context) (items : List Trivium) → ink_of (lead_events context items) ≡ inks (comments items)
unfolding ink_of lead_events comments inks
ink_lead context [] = refl
ink_lead context (item ∷ items) =
    by_test (only_newline item)
    (λ out. rw out (ink_lead context items ∙ sym (ink_left_out item items out)))
    (λ kept. rw (kept, ink_trivia context items) (ink_trivium context item items))

-- and trivia in a list, first or not
pub ink_listed : (context : Context) (drops : Bool) (items : List Trivium) → ink_of (list_trivia context drops items) ≡ inks (comments items)
ink_listed context true items = ink_lead context items
ink_listed context false items = ink_trivia context items

-- a newline between tokens has no ink
pub ink_break : (context : Context) (before : Before) (number : ℕ) (block : Bool) → ink_of (break_before context before number block) ≡ []
unfolding ink_of ink blank
ink_break context first number block = refl
ink_break context (behind previous) number block =
    by_test (not (eqb number 8) && cond (eqb previous number) (after_same number block) (after_other previous number block)) (λ q. rw q) (λ q. rw q)

-- nor has a refusal that a reading may have found
pub ink_stop : (found : Checked) → ink_of (stop_at found) ≡ []
unfolding ink_of
ink_stop (Ok tt) = refl
ink_stop (Err why) = refl

-- nor a field that may be skipped
pub ink_skip : (test : Bool) (tree : Tree) → ink_of (cond test (skipping tree) nothing) ≡ []
unfolding ink_of
ink_skip true tree = ink_stop (first_refusal tree)
ink_skip false tree = refl

-- trivia without a comment give nothing
pub no_comments : (items : List Trivium) → has_comment items ≡ false → comments items ≡ []
unfolding comments has_comment
no_comments [] none = refl
no_comments (item ∷ items) none =
    by_test (is_comment item) (λ q. true_false (rw q at none)) (λ q. rw q (no_comments items (rw q at none)))
