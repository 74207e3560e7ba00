-- Laws of the first byte that no text may hold, while the tree is read: how the place found so far goes on from text to text.
use Rattle.std.specs.Prelude.{Some}
use mathlib.Core.Path.{◌≡◌, refl, sym, ◌∙◌}
use mathlib.Core.List.{List, [], ◌∷◌, ◌++◌, Memᴰ}
use mathlib.Core.Bool.{true}
use Prim.Native.Nat.{ℕ, zero, suc, ◌+◌, ◌-◌, ◌*◌, ◌≤◌, ◌<◌}
use native.Mathlib.Numerals.{sub-one}
use native.Mathlib.Omega.{arith}
use lib.Dec.{ltb, leb}
use lib.ListN.{length, get_or}
use lib.Seq.{slice, length-slice}
use borrow.Author.Tests.{lt-ltb, le-leb, lt-leb, eq-eqb, ne_eqb}
use Rattle.text.specs.Accepted.{accepted_text, fault_at}
use Rattle.text.specs.Numbers.{number_at}
use Rattle.text.proofs.Accepted.{fault_none, fault_some}
use Rattle.text.proofs.Choices.{by_test}
use Rattle.tree.specs.Own.{trivia_end}
use Rattle.tree.specs.Reading.{Placed, trivium_behind, trivium_text, trivia_texts, text_of, texts_of}
use Rattle.tree.specs.Walk.{fault_with, fault_from}
use Rattle.tree.specs.declared.own.Own.{Own}
use Rattle.tree.proofs.OwnBytes.{ItemHeld, items_held}

-- ---- one text

-- a part of the bytes is accepted where no such byte is found before its end
pub part_accepted : (start end : ℕ) (bytes : List ℕ) → start ≤ end → end ≤ length bytes
    → accepted_text (slice start end bytes) ≡ leb end (start + fault_at (slice start end bytes))
part_accepted start end bytes order inside =
    let part = slice start end bytes in
    by_test (accepted_text part)
    (λ t. t ∙ sym (le-leb end (start + fault_at part) (omega (arith, fault_none part t, length-slice start end bytes inside))))
    (λ t. t ∙ sym (lt-leb end (start + fault_at part) (omega (arith, fault_some part t, length-slice start end bytes inside))))

-- ---- one text after the other

-- texts and more texts behind them
pub faults_append : (bytes : List ℕ) (fault : ℕ) (first rest : List Placed)
    → fault_from bytes fault (first ++ rest) ≡ fault_from bytes (fault_from bytes fault first) rest
unfolding fault_from
faults_append bytes fault [] rest = refl
faults_append bytes fault (text ∷ first) rest = faults_append bytes (fault_with bytes fault text) first rest

-- a byte that was found stays the first
pub fault_stays : (bytes : List ℕ) (fault : ℕ) (texts : List Placed) → fault < length bytes → fault_from bytes fault texts ≡ fault
unfolding fault_from
fault_stays bytes fault [] h = refl
fault_stays bytes fault (text ∷ texts) h = simp (lt-ltb _ _ h) (fault_stays bytes fault texts h)

-- texts that are accepted change nothing
pub faults_accepted : (bytes : List ℕ) (fault : ℕ) (texts : List Placed) → ((text : Placed) → Memᴰ text texts → accepted_text text.bytes ≡ true)
    → fault_from bytes fault texts ≡ fault
unfolding fault_from
faults_accepted bytes fault [] accepted = refl
faults_accepted bytes fault (text ∷ texts) accepted =
    let same : fault_with bytes fault text ≡ fault =
    by_test (ltb fault (length bytes)) (λ t. rw t) (λ t. rw (t, accepted text (Memᴰ.head refl))) in
    rw same (faults_accepted bytes fault texts (λ other member. accepted other (Memᴰ.tail member)))

-- a text without bytes changes nothing
fault_empty : (bytes : List ℕ) (fault place : ℕ) → fault_with bytes fault (record { place = place; bytes = [] }) ≡ fault
unfolding accepted_text
fault_empty bytes fault place = by_test (ltb fault (length bytes)) (λ t. rw t) (λ t. rw t)

-- a record's trivia texts and then its own text
pub own_texts : (bytes : List ℕ) (own : Own) (fault first last : ℕ)
    → first ≡ fault_from bytes fault (trivia_texts bytes own.trivia own.trivia_count)
    → last ≡ fault_with bytes first (record { place = own.text; bytes = text_of bytes own })
    → last ≡ fault_from bytes fault (texts_of bytes own)
unfolding fault_from
own_texts bytes own fault first last e f =
    f ∙ rw e (sym (faults_append bytes fault (trivia_texts bytes own.trivia own.trivia_count) (record { place = own.text; bytes = text_of bytes own } ∷ [])))

-- ---- the trivia items of a record

-- items that keep the layout are left, and give the place that all of them give
pub record ItemsLeft (bytes : List ℕ) (at count fault place left found : ℕ) : Type 0 where
  pub end : ℕ
  pub items : trivia_end bytes place left ≡ Some end
  pub same : fault_from bytes fault (trivia_texts bytes at count) ≡ fault_from bytes found (trivia_texts bytes place left)

-- an item is left: it lies within the bytes, and those behind it are left after its text
trivium_first : (bytes : List ℕ) (place left end found : ℕ) → 0 < left → trivia_end bytes place left ≡ Some end
    → ItemHeld bytes place
    × (trivia_end bytes (trivium_behind bytes place) (left - 1) ≡ Some end)
    × (fault_from bytes found (trivia_texts bytes place left)
    ≡ fault_from bytes (fault_with bytes found (record { place = place + 3; bytes = trivium_text bytes place })) (trivia_texts bytes (trivium_behind bytes place) (left - 1)))
unfolding fault_from trivia_texts
trivium_first bytes place zero end found h e = absurd (omega arith)
trivium_first bytes place (suc left) end found h e = let held = items_held bytes place left end e in (held.0, rw sub-one held.1, rw sub-one refl)

-- none is left
items_end_lem : (bytes : List ℕ) (place left found : ℕ) → left ≤ 0 → fault_from bytes found (trivia_texts bytes place left) ≡ found
unfolding fault_from trivia_texts
items_end_lem bytes place zero found h = refl
items_end_lem bytes place (suc left) found h = absurd (omega arith)

module _ (bytes : List ℕ) (at count fault place left found : ℕ) (items : ItemsLeft bytes at count fault place left found) where
  -- the loop over the items ends
  pub items_done : left ≤ 0 → found ≡ fault_from bytes fault (trivia_texts bytes at count)
  items_done h = sym (items.same ∙ items_end_lem bytes place left found h)

  -- an item that is left lies within the bytes
  pub item_inside : 0 < left → ItemHeld bytes place
  item_inside h = (trivium_first bytes place left items.end found h items.items).0

  -- the items behind one that was looked at
  item_on : 0 < left → (next seen : ℕ) → trivium_behind bytes place ≡ next
      → fault_with bytes found (record { place = place + 3; bytes = trivium_text bytes place }) ≡ seen
      → ItemsLeft bytes at count fault next (left - 1) seen
  item_on h next seen behind with-text =
      let first = trivium_first bytes place left items.end found h items.items in
      record {
        end = items.end;
        items = rw (← behind) first.1;
        same = items.same ∙ rw (← behind, ← with-text) first.2;
      }

  -- a newline
  pub newline_on : 0 < left → get_or bytes place 0 ≡ 1 → ItemsLeft bytes at count fault (place + 1) (left - 1) found
  newline_on h newline = item_on h (place + 1) found (simp (eq-eqb _ _ newline)) (simp (eq-eqb _ _ newline) (fault_empty bytes found (place + 3)))

  -- an item with a text
  module _ (h : 0 < left) (other : get_or bytes place 0 ≡ 1 → ⊥) (size : ℕ) (sized : size ≡ get_or bytes (place + 1) 0 + 256 * get_or bytes (place + 2) 0) where
    -- its length is the number that stands there
    size_number : number_at bytes (place + 1) ≡ size
    size_number = let second : place + 1 + 1 ≡ place + 2 = omega arith in rw second (sym sized)

    -- its text lies within the bytes
    pub text_inside : place + 3 + size ≤ length bytes
    text_inside =
        let behind : trivium_behind bytes place ≡ place + 3 + size = simp (ne_eqb _ _ other) (rw size_number) in
        let held = item_inside h in omega arith

    -- the items behind it are left
    pub text_on_lem : (seen : ℕ) → seen ≡ fault_with bytes found (record { place = place + 3; bytes = slice (place + 3) (place + 3 + size) bytes })
        → ItemsLeft bytes at count fault (place + 3 + size) (left - 1) seen
    text_on_lem seen e = item_on h (place + 3 + size) seen (simp (ne_eqb _ _ other) (rw size_number)) (simp (ne_eqb _ _ other) (rw size_number (sym e)))
