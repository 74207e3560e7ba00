-- The own bytes of a record that stand at a place are read as what they hold: its trivia, and the head before its text, count or fields.
use Rattle.std.specs.Prelude.{Some}
use Rattle.answers.specs.Numbers.{no_refusal}
use mathlib.Core.Path.{◌≡◌, refl, sym, ◌∙◌}
use mathlib.Core.List.{List, [], ◌∷◌, ◌++◌}
use mathlib.Core.Bool.{Bool, true}
use Prim.Native.Nat.{ℕ, suc, ◌+◌, ◌%◌, ◌≤◌}
use native.Mathlib.Omega.{arith}
use lib.ListN.{length, get_or}
use lib.Dec.{eqb}
use borrow.Author.Tests.{eqb-true, le-ltb, le-leb, lt-leb, ne_eqb}
use Rattle.text.specs.Numbers.{two_bytes}
use Rattle.text.proofs.Choices.{by_test}
use Rattle.tree.specs.Grammar.{kind_of, rule}
use Rattle.tree.specs.Tree.{Trivium}
use Rattle.tree.specs.Own.{may_stand, map_fits, sized_end, trivium_end, trivia_end, trivia_read, rest_of, own_at, read_own}
use Rattle.tree.specs.Reading.{trivium_behind, trivium_text, trivia_from, trivia_texts}
use Rattle.tree.specs.Stored.{stored_trivium, stored_items, stored_trivia, trivia_bit}
use Rattle.tree.specs.Checking.{texts_checked}
use Rattle.tree.specs.declared.grammar.Kind.{Kind}
use Rattle.tree.specs.declared.grammar.Class.{Class}
use Rattle.tree.specs.declared.own.TriviaSpan.{TriviaSpan}
use Rattle.tree.proofs.Places.{Stands}
use Rattle.tree.proofs.OwnBytes.{Headed}
use Rattle.tree_laws.specs.WellFormed.{TriviumFits, EachFits, none, next, TriviaFit, without, with}
use Rattle.tree_laws.proofs.Standing.{ends, apart, byte_at, number_at_lem, Sized, sized}

-- ---- trivia

-- what reading gives of a trivia item that stands
record ItemRead (bytes : List ℕ) (at : ℕ) (item : Trivium) (end : ℕ) : Type 0 where
  span : trivium_end bytes at ≡ Some end
  behind : trivium_behind bytes at ≡ end
  code : get_or bytes at 0 ≡ item.code
  text : trivium_text bytes at ≡ item.text

-- it is read as itself
item_read : {bytes : List ℕ} {at end : ℕ} (item : Trivium) → TriviumFits item → Stands bytes at (stored_trivium item) end → ItemRead bytes at item end
unfolding trivium_end sized_end
item_read {bytes} {at} {end} item fits stands =
    by_test (eqb item.code 1)
    (λ q.
    let one : item.code ≡ 1 = eqb-true item.code 1 q in
    let here : Stands bytes at (1 ∷ []) end = rw q at stands in
    let byte = byte_at 1 [] here in
    let last : end ≡ at + 1 = ends here in
    record {
      span = rw (lt-leb (length bytes) at byte.1, byte.0, last);
      behind = rw (byte.0, last);
      code = byte.0 ∙ sym one;
      text = rw byte.0 (sym (fits.newline one));
    })
    (λ q.
    let rest : List ℕ = two_bytes (length item.text) ++ item.text in
    let here : Stands bytes at (item.code ∷ rest) end = rw q at stands in
    let byte = byte_at item.code rest here in
    let text : Sized bytes (at + 1) item.text end = sized item.text (apart (item.code ∷ []) rest here).1 in
    let last : at + 3 + length item.text ≡ end = omega arith in
    let last' : at + 1 + 2 + length item.text ≡ end = omega arith in
    let first : at + 1 + 2 ≡ at + 3 = omega arith in
    record {
      span = rw (
        lt-leb (length bytes) at byte.1,
        byte.0,
        q,
        le-ltb 3 item.code fits.code,
        le-leb (at + 1 + 2) (length bytes)
            text.room,
        text.count,
        last',
        le-ltb (length bytes) end text.letters.inside,
      );
      behind = rw (byte.0, q, text.count, last);
      code = byte.0;
      text = rw (byte.0, q, text.count, last, ← first) (sym text.letters.same);
    })

-- what reading gives of trivia items that stand, whose texts are accepted
record ItemsRead (bytes : List ℕ) (at count : ℕ) (items : List Trivium) (end : ℕ) : Type 0 where
  span : trivia_end bytes at count ≡ Some end
  same : trivia_from bytes at count ≡ items
  texts : texts_checked (trivia_texts bytes at count) ≡ no_refusal

-- they are read as themselves
items_read : {bytes : List ℕ} {at end : ℕ} {items : List Trivium} → EachFits items → Stands bytes at (stored_items items) end → ItemsRead bytes at (length items) items end
unfolding trivia_end trivia_from trivia_texts texts_checked stored_items
items_read {bytes} {at} {end} none stands =
    let last : end ≡ at + 0 = ends stands in
    let same : at ≡ end = omega arith in
    record { span = rw same; same = refl; texts = refl }
items_read {bytes} {at} {end} (next {item} {items} fits rest) stands =
    let parts = apart (stored_trivium item) (stored_items items) stands in
    let one = item_read item fits parts.0 in
    let others = items_read {at = at + length (stored_trivium item)} rest parts.1 in
    record {
      span = rw one.span others.span;
      same = rw (one.text, one.behind, one.code, others.same);
      texts = rw (one.text, fits.accepted, one.behind) others.texts;
    }

-- trivia that fit are items that do
each : {located : Bool} {items : List Trivium} → TriviaFit located items → EachFits items
each without = none
each (with count fits) = fits

-- what reading gives of trivia that stand, by their bit
pub record TriviaStand (bytes : List ℕ) (at : ℕ) (items : List Trivium) (end : ℕ) : Type 0 where
  pub span : TriviaSpan
  pub is : trivia_read bytes at (trivia_bit items) ≡ Some span
  pub last : span.end ≡ end
  pub same : trivia_from bytes span.first span.count ≡ items
  pub texts : texts_checked (trivia_texts bytes span.first span.count) ≡ no_refusal

-- they are read as themselves
pub trivia_read_lem : {bytes : List ℕ} {at end : ℕ} {located : Bool} (items : List Trivium) → TriviaFit located items → Stands bytes at (stored_trivia items) end
    → TriviaStand bytes at items end
unfolding trivia_read trivia_from trivia_texts texts_checked
trivia_read_lem {bytes} {at} {end} [] fits stands =
    let last : end ≡ at + 0 = ends stands in
    record { span = record { first = at; count = 0; end = at }; is = refl; last = omega arith; same = refl; texts = refl }
trivia_read_lem {bytes} {at} {end} (item ∷ items) fits stands =
    let all : List Trivium = item ∷ items in
    let parts = apart (two_bytes (length all)) (stored_items all) stands in
    let number = number_at_lem (length all) parts.0 in
    let read = items_read (each fits) parts.1 in
    record {
      span = record { first = at + 2; count = length all; end = end };
      is = rw (le-leb (at + 2) (length bytes) number.1, number.0, ne_eqb (length all) 0 (omega arith), read.span);
      last = refl;
      same = read.same;
      texts = read.texts;
    }

-- ---- the head of a record

-- what reading gives of the head that stands at a record's place: number, map, trivia, and what comes behind them
pub record HeadStands (bytes : List ℕ) (at number flags : ℕ) (items : List Trivium) (rest : List ℕ) (end : ℕ) : Type 0 where
  pub number_is : get_or bytes at 0 ≡ number
  pub flags_are : get_or bytes (at + 1) 0 ≡ flags
  pub room : at + 2 ≤ length bytes
  pub trivia : TriviaStand bytes (at + 2) items (at + 2 + length (stored_trivia items))
  pub behind : Stands bytes (at + 2 + length (stored_trivia items)) rest end

-- it is read as itself
pub head_read : {bytes : List ℕ} {at end : ℕ} {located : Bool} (number flags : ℕ) (items : List Trivium) (rest : List ℕ) → TriviaFit located items
    → Stands bytes at (number ∷ flags ∷ (stored_trivia items ++ rest)) end → HeadStands bytes at number flags items rest end
head_read number flags items rest fits stands =
    let all : List ℕ = stored_trivia items ++ rest in
    let first = byte_at number (flags ∷ all) stands in
    let second = byte_at flags all (apart (number ∷ []) (flags ∷ all) stands).1 in
    let parts = apart (stored_trivia items) rest (apart (number ∷ flags ∷ []) all stands).1 in
    record { number_is = first.0; flags_are = second.0; room = omega (arith, second.1); trivia = trivia_read_lem items fits parts.0; behind = parts.1 }

-- own bytes whose head keeps the grammar are read by what stands behind it
pub own_read : {bytes : List ℕ} {at : ℕ} {class : Class} {kind : Kind} {trivia : TriviaSpan} (levels : ℕ) → Headed bytes at class kind trivia
    → read_own bytes at class (suc levels) ≡ rest_of bytes at (rule class).text (get_or bytes at 0) kind (get_or bytes (at + 1) 0) trivia
unfolding read_own own_at
own_read {bytes} {at} levels headed =
    let room : at + 2 ≤ length bytes = headed.room in
    rw (lt-leb (length bytes) at (omega arith), ne_eqb (suc levels) 0 (omega arith), headed.standing, headed.kind_is, le-ltb (length bytes) (at + 2) room, headed.fits, headed.trivia_is)

-- a head whose kind may stand and whose map fits keeps the grammar
pub headed : {bytes : List ℕ} {at number flags end : ℕ} {items : List Trivium} {rest : List ℕ} (class : Class) (kind : Kind)
    → (head : HeadStands bytes at number flags items rest end) → flags % 2 ≡ trivia_bit items
    → kind_of number ≡ Some kind → may_stand (rule class) number ≡ true → map_fits (rule class) number kind flags ≡ true
    → Headed bytes at class kind head.trivia.span
headed class kind head bit known standing fits = record {
  room = head.room;
  kind_is = rw head.number_is known;
  standing = rw head.number_is standing;
  fits = rw (head.number_is, head.flags_are) fits;
  trivia_is = rw (head.flags_are, bit) head.trivia.is;
}
