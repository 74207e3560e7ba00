-- Laws of leaves: what is printed of one by itself is what the events of its tree are.
use Rattle.std.specs.Prelude.{Result, Some, Ok, Err}
use mathlib.Core.Path.{◌≡◌, refl, sym, ap, ◌∙◌}
use mathlib.Core.List.{List, []}
use mathlib.Core.Bool.{Bool, true, false, cond, ◌&&◌}
use Prim.Native.Nat.{ℕ, zero, suc, ◌≤◌}
use lib.Dec.{eqb, leb}
use lib.ListN.{length, get_or}
use lib.Seq.{slice}
use Rattle.answers.specs.declared.Refusal.{Refusal}
use Rattle.text.proofs.Choices.{by_test, true_false, no_other}
use Rattle.tree.specs.Tree.{built}
use Rattle.tree.specs.Grammar.{kind_of, rule}
use Rattle.tree.specs.Own.{may_stand, read_own, Fits, OwnFits, own_end}
use Rattle.tree.specs.Reading.{Reader, trivia_of, fields_due, parts_due, read_parts, read_on, unread, read}
use Rattle.tree.specs.declared.grammar.Class.{Class}
use Rattle.tree.specs.declared.grammar.Kind.{Kind}
use Rattle.tree.specs.declared.grammar.Kind.TheVariants.{Leaf}
use Rattle.tree.specs.declared.own.Own.{Own}
use Rattle.tree.specs.declared.own.TriviaSpan.{TriviaSpan}
use Rattle.tree.proofs.OwnBytes.{Headed, own_cases}
use Rattle.printing.specs.Events.{nothing, ◌▹◌}
use Rattle.printing.specs.Running.{Run, run, Printed, Shown}
use Rattle.printing.specs.declared.Context.{Context}
use Rattle.printing.proofs.Running.{told, alike}
use Rattle.events.specs.Printed.{Style, printed}
use Rattle.events.specs.Trees.{word, trivia_events, leaf, events_in}
use Rattle.leaves.specs.Items.{items_at}
use Rattle.leaves.specs.Leaves.{LeafClass, own_events}
use Rattle.leaves.proofs.Items.{items_kept}

-- ---- own bytes that were read

-- their text lies within the bytes
pub own_text : (bytes : List ℕ) (at : ℕ) (own : Own) {found : Result Own Refusal} → Fits bytes at found → found ≡ Ok own → (own.text ≤ own.end) × (own.end ≤ length bytes)
own_text bytes at own fits is = let held : OwnFits bytes at own = rw is at fits in (held.part, held.inside)

-- their trivia items are those of reading
pub own_items : (bytes : List ℕ) (at : ℕ) (own : Own) {found : Result Own Refusal} → Fits bytes at found → found ≡ Ok own → items_at bytes own.trivia own.trivia_count ≡ trivia_of bytes own
own_items bytes at own fits is =
    let held : OwnFits bytes at own = rw is at fits in
    items_kept bytes own.trivia own.trivia_count held.items.0 held.items.1

-- ---- a leaf

-- a number that may stand in a leaf's class is the leaf's
leaf_number_lem : (class : Class) → LeafClass class → (number : ℕ) → may_stand (rule class) number ≡ true → number ≡ 25
leaf_number_lem class leaves number stands =
    let ruled : cond (eqb number 24) false (leb 25 number && leb number 25) ≡ true = rw leaves.2 at stands in
    by_test (eqb number 24)
    (λ list. true_false (sym (rw list at ruled)))
    (λ other.
    let within : (leb 25 number && leb number 25) ≡ true = rw other at ruled in
    no_other 25 number within)

module _ (bytes : List ℕ) (class : Class) (leaves : LeafClass class) (at : ℕ) where
  -- so the kind is
  headed_leaf : (kind : Kind) (trivia : TriviaSpan) → Headed bytes at class kind trivia → kind ≡ Leaf
  headed_leaf kind trivia headed =
      let number : get_or bytes at 0 ≡ 25 = leaf_number_lem class leaves (get_or bytes at 0) headed.standing in
      let known : kind_of 25 ≡ Some kind = rw number at headed.kind_is in
      cc

  -- of every record of the class that was read
  pub own_leaf : (levels : ℕ) (own : Own) → read_own bytes at class levels ≡ Ok own → own.kind ≡ Leaf
  own_leaf =
      own_cases bytes at class (λ own. own.kind ≡ Leaf)
      (λ kind trivia headed list room. headed_leaf kind trivia headed)
      (λ kind trivia end headed number stands text. headed_leaf kind trivia headed)
      (λ kind trivia headed list number. headed_leaf kind trivia headed)

  -- and it has no parts
  no_parts : (own : Own) → own.kind ≡ Leaf → parts_due class own ≡ []
  unfolding parts_due fields_due
  no_parts own is = rw (is, leaves.2)

  module _ (context : Context) (style : Style) (shown : Bool) (levels : ℕ) where
    -- what is printed of its own bytes is what the events of its tree are, and the place behind them is the one behind it
    on_leaf : (reader : Reader) (found : Result Own Refusal) → read_own bytes at class levels ≡ found
        → (own_events context style shown bytes found ≡ events_in context (leaf style) shown (read_on reader bytes class at found).tree)
        × (own_end at found ≡ (read_on reader bytes class at found).end)
    unfolding events_in built read_parts
    on_leaf reader (Ok own) is =
        let kind = own_leaf levels own is in
        rw (no_parts own kind, kind) (refl, refl)
    on_leaf reader (Err why) is = (refl, refl)

  -- at all levels
  leaf_read : (context : Context) (style : Style) (shown : Bool) (levels : ℕ)
      → (own_events context style shown bytes (read_own bytes at class levels) ≡ events_in context (leaf style) shown (read levels bytes class at).tree)
      × (own_end at (read_own bytes at class levels) ≡ (read levels bytes class at).end)
  unfolding read
  leaf_read context style shown zero = on_leaf context style shown zero unread _ refl
  leaf_read context style shown (suc levels) = on_leaf context style shown (suc levels) (read levels bytes) _ refl

  -- so what is shown of its own bytes is shown of its tree
  pub leaf_shown_lem : (context : Context) (style : Style) (shown : Bool) (levels : ℕ) {answer : Printed} {room : List ℕ} {before : Run}
      → Shown answer room (own_events context style shown bytes (read_own bytes at class levels)) before (own_end at (read_own bytes at class levels))
      → Shown answer room (events_in context (leaf style) shown (read levels bytes class at).tree) before (read levels bytes class at).end
  leaf_shown_lem context style shown levels done = let same = leaf_read context style shown levels in told same.0 same.1 done

  -- and what is shown of its text alone, where they were read, is shown of it without its trivia
  pub text_shown : (context : Context) (style : Style) (levels : ℕ) (own : Own) {answer : Printed} {room : List ℕ} {before : Run} → read_own bytes at class levels ≡ Ok own
      → Shown answer room (word context (printed context style (slice own.text own.end bytes))) before own.end
      → Shown answer room (events_in context (leaf style) false (read levels bytes class at).tree) before (read levels bytes class at).end
  unfolding run
  text_shown context style levels own is done = leaf_shown_lem context style false levels (rw is (alike (λ x. refl) done))

-- what is shown of own bytes that were read is shown of what reading them gave
pub own_shown : (bytes : List ℕ) (class : Class) (at levels : ℕ) (context : Context) (style : Style) (shown : Bool) {found : Result Own Refusal}
    → found ≡ read_own bytes at class levels → (own : Own) {answer : Printed} {room : List ℕ} {before : Run} → Fits bytes at found → found ≡ Ok own
    → Shown answer room (cond shown (trivia_events context (items_at bytes own.trivia own.trivia_count)) nothing
    ▹ word context (printed context style (slice own.text own.end bytes))) before own.end
    → Shown answer room (own_events context style shown bytes (read_own bytes at class levels)) before (own_end at (read_own bytes at class levels))
own_shown bytes class at levels context style shown same own fits is done =
    told
    (ap (own_events context style shown bytes) (sym is ∙ same))
    (ap (own_end at) (sym is ∙ same))
    (rw (own_items bytes at own fits is) at done)
