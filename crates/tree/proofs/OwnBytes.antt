-- What the own bytes of a record hold that were read: a list's, a leaf's with its text, or others.
use Rattle.std.specs.Prelude.{Option, Some, None, Ok, Result}
use Rattle.answers.specs.declared.Refusal.{Refusal}
use mathlib.Core.Path.{◌≡◌, refl}
use mathlib.Core.List.{List}
use mathlib.Core.Bool.{Bool, true, false, ◌&&◌, ◌||◌}
use Prim.Native.Nat.{ℕ, zero, suc, ◌+◌, ◌%◌, ◌≤◌, ◌<◌}
use native.Mathlib.Omega.{arith}
use lib.ListN.{length, get_or}
use lib.Dec.{eqb, ltb, leb}
use borrow.Author.Tests.{ltb-true, ltb-false, leb-true, leb-false, eqb-true, eqb-false}
use Rattle.text.specs.Numbers.{number_at}
use Rattle.text.proofs.Choices.{by_test, and_true_left, and_true_right}
use Rattle.tree.specs.Grammar.{kind_of, rule}
use Rattle.tree.specs.Own.{may_stand, map_fits, sized_end, trivium_end, trivia_end, behind, trivia_span, trivia_read, text_on, text_end, own_of, leaf_on}
use Rattle.tree.specs.Own.{rest_of, trivia_of_record, map_of_record, own_at, read_own, OwnFits}
use Rattle.tree.specs.Reading.{trivium_behind}
use Rattle.tree.specs.declared.grammar.Kind.{Kind}
use Rattle.tree.specs.declared.grammar.Class.{Class}
use Rattle.tree.specs.declared.grammar.TextRule.{TextRule}
use Rattle.tree.specs.declared.grammar.TextRule.TheVariants.{NoText, Free, Byte}
use Rattle.tree.specs.declared.own.Own.{Own}
use Rattle.tree.specs.declared.own.TriviaSpan.{TriviaSpan}
use Rattle.tree.proofs.Cases.{by_choice, refused_record_lem, broken_behind, broken_trivia}

-- ---- a leaf's text

-- a text that was read has a length, which is not 0, and as many bytes
pub record TextHeld (bytes : List ℕ) (at end : ℕ) : Type 0 where
  pub some : 0 < number_at bytes at
  pub last : end ≡ at + 2 + number_at bytes at
  pub inside : end ≤ length bytes

-- its bytes, by what may stand
text_on_lem : (bytes : List ℕ) (at end : ℕ) (rule : TextRule) → at + 2 ≤ length bytes → (number_at bytes at ≡ 0 → ⊥)
    → text_on bytes at rule (number_at bytes at) ≡ Some end → TextHeld bytes at end
text_on_lem bytes at end NoText room some e = broken_behind e
text_on_lem bytes at end Free room some e =
    let count : ℕ = number_at bytes at in
    by_choice (ltb (length bytes) (at + 2 + count)) None (Some (at + 2 + count)) (Some end) e
    (λ q f. broken_behind f)
    (λ q f.
    let last : end ≡ at + 2 + count = cc in
    record { some = omega arith; last = last; inside = omega (arith, ltb-false (length bytes) (at + 2 + count) q) })
text_on_lem bytes at end (Byte low high) room some e =
    let count : ℕ = number_at bytes at in
    let range : Bool = leb low (get_or bytes (at + 2) 0) && leb (get_or bytes (at + 2) 0) high in
    by_choice (eqb count 1 && (ltb (at + 2) (length bytes) && range)) (Some (at + 3)) None (Some end) e
    (λ q f.
    let last : end ≡ at + 3 = cc in
    let one : count ≡ 1 = eqb-true count 1 (and_true_left (eqb count 1) (ltb (at + 2) (length bytes) && range) q) in
    let inside : at + 2 < length bytes =
    ltb-true _ _ (and_true_left (ltb (at + 2) (length bytes)) range (and_true_right (eqb count 1) (ltb (at + 2) (length bytes) && range) q)) in
    record { some = omega arith; last = omega arith; inside = omega arith })
    (λ q f. broken_behind f)

-- and its length
pub text_held : (bytes : List ℕ) (at end : ℕ) (rule : TextRule) → text_end bytes at rule ≡ Some end → TextHeld bytes at end
unfolding text_end
text_held bytes at end rule e =
    by_test (leb (at + 2) (length bytes))
    (λ q. by_choice (eqb (number_at bytes at) 0) None (text_on bytes at rule (number_at bytes at)) (Some end) (rw q at e)
    (λ z f. broken_behind f)
    (λ z f. text_on_lem bytes at end rule (leb-true _ _ q) (eqb-false _ _ z) f))
    (λ q. broken_behind (rw q at e))

-- ---- trivia

-- a trivia item that was read lies within the bytes
pub record ItemHeld (bytes : List ℕ) (at : ℕ) : Type 0 where
  pub onward : at < trivium_behind bytes at
  pub inside : trivium_behind bytes at ≤ length bytes

-- and ends where reading says
pub item_held : (bytes : List ℕ) (at end : ℕ) → trivium_end bytes at ≡ Some end → ItemHeld bytes at × (trivium_behind bytes at ≡ end)
unfolding trivium_end sized_end
item_held bytes at end e =
    by_choice (leb (length bytes) at) _ _ (Some end) e
    (λ q f. broken_behind f)
    (λ q f. let here : at < length bytes = leb-false _ _ q in
    by_choice (eqb (get_or bytes at 0) 1) _ _ (Some end) f
    (λ newline g.
    let next : trivium_behind bytes at ≡ at + 1 = rw newline in
    let last : at + 1 ≡ end = cc in
    (record { onward = omega arith; inside = omega arith }, omega arith))
    (λ newline g. by_choice (ltb 3 (get_or bytes at 0)) _ _ (Some end) g
    (λ code h. broken_behind h)
    (λ code h. by_test (leb (at + 1 + 2) (length bytes))
    (λ room.
    let count : ℕ = number_at bytes (at + 1) in
    by_choice (ltb (length bytes) (at + 1 + 2 + count)) _ _ (Some end) (rw room at h)
    (λ long i. broken_behind i)
    (λ long i.
    let last : at + 1 + 2 + count ≡ end = cc in
    let inside : at + 1 + 2 + count ≤ length bytes = ltb-false _ _ long in
    let next : trivium_behind bytes at ≡ at + 3 + count = rw newline in
    (record { onward = omega arith; inside = omega arith }, omega arith)))
    (λ room. broken_behind (rw room at h)))))

-- items that were read are one that was and those behind it
pub items_held : (bytes : List ℕ) (at count end : ℕ) → trivia_end bytes at (suc count) ≡ Some end
    → ItemHeld bytes at × (trivia_end bytes (trivium_behind bytes at) count ≡ Some end)
unfolding trivia_end
items_held bytes at count end e = go (trivium_end bytes at) refl e
  where
    go : (span : Option ℕ) → trivium_end bytes at ≡ span → behind span (λ place. trivia_end bytes place count) ≡ Some end
        → ItemHeld bytes at × (trivia_end bytes (trivium_behind bytes at) count ≡ Some end)
    go (Some place) is f = let held = item_held bytes at place is in (held.0, rw held.1 f)
    go None is f = broken_behind f

-- items that were read lie within the bytes
items_inside : (bytes : List ℕ) (at count end : ℕ) → at ≤ length bytes → trivia_end bytes at count ≡ Some end → (at ≤ end) × (end ≤ length bytes)
unfolding trivia_end
items_inside bytes at zero end here e = let same : at ≡ end = cc in (omega arith, omega arith)
items_inside bytes at (suc count) end here e =
    let held = items_held bytes at count end e in
    let rest = items_inside bytes (trivium_behind bytes at) count end held.0.inside held.1 in
    (omega arith, omega arith)

-- what holds of no trivia, and of trivia that have a count and items, holds of trivia that were read
module _ (bytes : List ℕ) (at bit : ℕ) (P : TriviaSpan → Type 0)
    (without : bit ≡ 0 → P (record { first = at; count = 0; end = at }))
    (some : (end : ℕ) → (bit ≡ 0 → ⊥) → at + 2 ≤ length bytes → (number_at bytes at ≡ 0 → ⊥) → trivia_end bytes (at + 2) (number_at bytes at) ≡ Some end
    → P (record { first = at + 2; count = number_at bytes at; end = end }))
  where
    -- the same trivia
    span_is : (span span' : TriviaSpan) → P span → Some span ≡ Some span' → P span'
    span_is span span' p e = let same : span ≡ span' = cc in rw (← same) p

    -- where the items end
    span_cases : (trivia : TriviaSpan) → (bit ≡ 0 → ⊥) → at + 2 ≤ length bytes → (number_at bytes at ≡ 0 → ⊥)
        → (span : Option ℕ) → trivia_end bytes (at + 2) (number_at bytes at) ≡ span → trivia_span (at + 2) (number_at bytes at) span ≡ Some trivia → P trivia
    span_cases trivia stands room count (Some end) is e = span_is _ trivia (some end stands room count is) e
    span_cases trivia stands room count None is e = broken_trivia e

    -- whether the bit stands
    pub trivia_cases : (trivia : TriviaSpan) → trivia_read bytes at bit ≡ Some trivia → P trivia
    unfolding trivia_read
    trivia_cases trivia e =
        by_choice (eqb bit 0) _ _ (Some trivia) e
        (λ q f. span_is _ trivia (without (eqb-true _ _ q)) f)
        (λ q f. by_test (leb (at + 2) (length bytes))
        (λ room. by_choice (eqb (number_at bytes at) 0) _ _ (Some trivia) (rw room at f)
        (λ count g. broken_trivia g)
        (λ count g. span_cases trivia (eqb-false _ _ q) (leb-true _ _ room) (eqb-false _ _ count) _ refl g))
        (λ room. broken_trivia (rw room at f)))

-- trivia that were read are items that were, and lie within the bytes
pub record TriviaHeld (bytes : List ℕ) (at : ℕ) (trivia : TriviaSpan) : Type 0 where
  pub first : at ≤ trivia.first
  pub items : trivia_end bytes trivia.first trivia.count ≡ Some trivia.end
  pub onward : at ≤ trivia.end
  pub inside : trivia.end ≤ length bytes

-- by their bit
pub trivia_held : (bytes : List ℕ) (at bit : ℕ) → at ≤ length bytes → (trivia : TriviaSpan) → trivia_read bytes at bit ≡ Some trivia → TriviaHeld bytes at trivia
unfolding trivia_end
trivia_held bytes at bit here =
    trivia_cases bytes at bit (TriviaHeld bytes at)
    (λ without. record { first = omega arith; items = refl; onward = omega arith; inside = here })
    (λ end some room count is.
    let inside = items_inside bytes (at + 2) (number_at bytes at) end room is in
    record { first = omega arith; items = is; onward = omega arith; inside = inside.1 })

-- ---- the record

-- what every record that was read holds before its text or count
pub record Headed (bytes : List ℕ) (at : ℕ) (class : Class) (kind : Kind) (trivia : TriviaSpan) : Type 0 where
  pub room : at + 2 ≤ length bytes
  pub kind_is : kind_of (get_or bytes at 0) ≡ Some kind
  pub standing : may_stand (rule class) (get_or bytes at 0) ≡ true
  pub fits : map_fits (rule class) (get_or bytes at 0) kind (get_or bytes (at + 1) 0) ≡ true
  pub trivia_is : trivia_read bytes (at + 2) (get_or bytes (at + 1) 0 % 2) ≡ Some trivia

-- its trivia
pub trivia_of_lem : {bytes : List ℕ} {at : ℕ} {class : Class} {kind : Kind} {trivia : TriviaSpan} → Headed bytes at class kind trivia → TriviaHeld bytes (at + 2) trivia
trivia_of_lem {bytes} {at} {class} {kind} {trivia} headed = trivia_held bytes (at + 2) (get_or bytes (at + 1) 0 % 2) headed.room trivia headed.trivia_is

-- a number of a leaf
abbrev pub leaf_number : ℕ → Bool
leaf_number number = eqb number 25 || eqb number 26

-- a leaf is no list
pub leaf_other : (number : ℕ) → leaf_number number ≡ true → eqb number 24 ≡ false
leaf_other number leaf =
    by_test (eqb number 25)
    (λ q. rw (eqb-true number 25 q))
    (λ q. let is : number ≡ 26 = eqb-true number 26 (rw q at leaf) in rw is)

-- what holds of the own bytes of lists, of leaves with a text, and of all others, holds of own bytes that were read
module _ (bytes : List ℕ) (at : ℕ) (class : Class) (P : Own → Type 0)
    (list : (kind : Kind) (trivia : TriviaSpan) → Headed bytes at class kind trivia → get_or bytes at 0 ≡ 24 → trivia.end + 2 ≤ length bytes
    → P (own_of kind (get_or bytes (at + 1) 0) trivia (trivia.end + 2) (trivia.end + 2) (number_at bytes trivia.end)))
    (text : (kind : Kind) (trivia : TriviaSpan) (end : ℕ) → Headed bytes at class kind trivia → leaf_number (get_or bytes at 0) ≡ true
    → 2 ≤ get_or bytes (at + 1) 0 → TextHeld bytes trivia.end end
    → P (own_of kind (get_or bytes (at + 1) 0) trivia (trivia.end + 2) end 0))
    (other : (kind : Kind) (trivia : TriviaSpan) → Headed bytes at class kind trivia → eqb (get_or bytes at 0) 24 ≡ false
    → (leaf_number (get_or bytes at 0) && leb 2 (get_or bytes (at + 1) 0)) ≡ false
    → P (own_of kind (get_or bytes (at + 1) 0) trivia trivia.end trivia.end 0))
  where
    -- the same own bytes
    record_is : (own own' : Own) → P own → ◌≡◌ {A = Result Own Refusal} (Ok own) (Ok own') → P own'
    record_is own own' p e = let same : own ≡ own' = cc in rw (← same) p

    -- where the text ends
    text_cases : (kind : Kind) (trivia : TriviaSpan) → Headed bytes at class kind trivia → leaf_number (get_or bytes at 0) ≡ true → 2 ≤ get_or bytes (at + 1) 0
        → (own : Own) (span : Option ℕ) → text_end bytes trivia.end (rule class).text ≡ span
        → leaf_on at kind (get_or bytes (at + 1) 0) trivia span ≡ Ok own → P own
    text_cases kind trivia headed leaf stands own (Some end) is e =
        record_is _ own (text kind trivia end headed leaf stands (text_held bytes trivia.end end (rule class).text is)) e
    text_cases kind trivia headed leaf stands own None is e = refused_record_lem e

    -- what stands behind the trivia
    rest_cases : (kind : Kind) (trivia : TriviaSpan) → Headed bytes at class kind trivia → (own : Own)
        → rest_of bytes at (rule class).text (get_or bytes at 0) kind (get_or bytes (at + 1) 0) trivia ≡ Ok own → P own
    unfolding rest_of
    rest_cases kind trivia headed own e =
        let number : ℕ = get_or bytes at 0 in
        let map : ℕ = get_or bytes (at + 1) 0 in
        by_choice (eqb number 24) _ _ (Ok own) e
        (λ q f. by_test (leb (trivia.end + 2) (length bytes))
        (λ room. record_is _ own (list kind trivia headed (eqb-true _ _ q) (leb-true _ _ room)) (rw room at f))
        (λ room. refused_record_lem (rw room at f)))
        (λ q f. by_choice (leaf_number number && leb 2 map) _ _ (Ok own) f
        (λ leaf g. text_cases kind trivia headed (and_true_left (leaf_number number) (leb 2 map) leaf)
        (leb-true _ _ (and_true_right (leaf_number number) (leb 2 map) leaf)) own _ refl g)
        (λ leaf g. record_is _ own (other kind trivia headed q leaf) g))

    -- the trivia
    trivia_of_record_lem : (kind : Kind) → ((trivia : TriviaSpan) → trivia_read bytes (at + 2) (get_or bytes (at + 1) 0 % 2) ≡ Some trivia → Headed bytes at class kind trivia)
        → (own : Own) (trivia : Option TriviaSpan) → trivia_read bytes (at + 2) (get_or bytes (at + 1) 0 % 2) ≡ trivia
        → trivia_of_record bytes at (rule class) (get_or bytes at 0) kind (get_or bytes (at + 1) 0) trivia ≡ Ok own → P own
    trivia_of_record_lem kind headed own (Some trivia) is e = rest_cases kind trivia (headed trivia is) own e
    trivia_of_record_lem kind headed own None is e = refused_record_lem e

    -- the kind and the map
    kind_cases : may_stand (rule class) (get_or bytes at 0) ≡ true → (own : Own) (kind : Option Kind) → kind_of (get_or bytes at 0) ≡ kind
        → map_of_record bytes at (rule class) (get_or bytes at 0) kind ≡ Ok own → P own
    kind_cases standing own None is e = refused_record_lem e
    kind_cases standing own (Some kind) is e =
        by_choice (ltb (length bytes) (at + 2)) _ _ (Ok own) e
        (λ q f. refused_record_lem f)
        (λ q f. by_choice (map_fits (rule class) (get_or bytes at 0) kind (get_or bytes (at + 1) 0)) _ _ (Ok own) f
        (λ fits g. trivia_of_record_lem kind
        (λ trivia read. record { room = ltb-false _ _ q; kind_is = is; standing = standing; fits = fits; trivia_is = read }) own _ refl g)
        (λ fits g. refused_record_lem g))

    -- the record
    pub own_cases : (levels : ℕ) (own : Own) → read_own bytes at class levels ≡ Ok own → P own
    unfolding read_own own_at
    own_cases levels own e =
        by_choice (leb (length bytes) at) _ _ (Ok own) e
        (λ q f. refused_record_lem f)
        (λ q f. by_choice (eqb levels 0) _ _ (Ok own) f
        (λ deep g. refused_record_lem g)
        (λ deep g. by_choice (may_stand (rule class) (get_or bytes at 0)) _ _ (Ok own) g
        (λ standing h. kind_cases standing own _ refl h)
        (λ standing h. refused_record_lem h)))

-- own bytes that were read stand behind the record's place and within the bytes
pub own_fits : (bytes : List ℕ) (at : ℕ) (class : Class) (levels : ℕ) (own : Own) → read_own bytes at class levels ≡ Ok own → OwnFits bytes at own
own_fits bytes at class =
    own_cases bytes at class (OwnFits bytes at)
    (λ kind trivia headed number room.
    let held = trivia_of_lem headed in
    record { behind = omega arith; part = omega arith; inside = room; trivia = held.first; items = (trivia.end, held.items, omega arith) })
    (λ kind trivia end headed leaf stands text.
    let held = trivia_of_lem headed in
    record { behind = omega arith; part = omega arith; inside = text.inside; trivia = held.first; items = (trivia.end, held.items, omega arith) })
    (λ kind trivia headed list leaf.
    let held = trivia_of_lem headed in
    record { behind = omega arith; part = omega arith; inside = held.inside; trivia = held.first; items = (trivia.end, held.items, omega arith) })
