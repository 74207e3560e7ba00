-- A record's own bytes, by the way that the definition goes.
use Rattle.std.specs.Prelude.{Option, Result, Some, None, Ok, Err}
use Rattle.std.specs.Bool.{then_some}
use Rattle.answers.specs.declared.Refusal.{Refusal}
use Rattle.tree.specs.declared.own.Own.{Own}
use mathlib.Core.Path.{◌≡◌, refl, sym, ap, ◌∙◌}
use mathlib.Core.List.{List}
use mathlib.Core.Bool.{true, false}
use Prim.Native.Nat.{ℕ, ◌+◌, ◌%◌, ◌≤◌, ◌<◌}
use native.Mathlib.Omega.{arith}
use borrow.Author.Tests.{lt-ltb, le-ltb, le-leb, lt-leb, ne_eqb}
use lib.Dec.{eqb}
use lib.ListN.{length, get_or}
use Rattle.text.specs.Numbers.{read_number}
use Rattle.tree.specs.Grammar.{kind_of, kind_number, rule}
use Rattle.tree.specs.Own.{may_stand, text_fits, map_fits, trivia_read, text_of_count, text_end, layout, own_of, leaf_on, list_on, rest_of, trivia_of_record}
use Rattle.tree.specs.Own.{own_at, read_own, Fits}
use Rattle.tree.specs.declared.grammar.Kind.{Kind}
use Rattle.tree.specs.declared.grammar.Kind.TheVariants.{Vec, Leaf, PathItem}
use Rattle.text.proofs.Choices.{by_test}
use Rattle.tree.proofs.KindNumbers.{this_number, other_number, texted, untexted}
use mathlib.Core.Logic.{◌⊎◌}
use Rattle.tree.specs.declared.grammar.Class.{Class}
use Rattle.tree.specs.declared.grammar.TextRule.{TextRule}
use Rattle.tree.specs.declared.grammar.TextRule.TheVariants.{NoText, Free, Byte}
use Rattle.tree.specs.declared.grammar.Rule.{Rule}
use Rattle.tree.specs.declared.own.TriviaSpan.{TriviaSpan}
use Rattle.tree.specs.declared.own.Rest.{Rest}
use Rattle.tree.specs.Walk.{judged_on, first_bytes, rest_on, found_on, bare_leaf}
use Rattle.tree.proofs.Cases.{by_choice, broken_behind}
use Rattle.tree.proofs.OwnBytes.{own_fits}

-- ---- behind the trivia

module _ (bytes : List ℕ) (at : ℕ) (text : TextRule) (kind : Kind) (map : ℕ) (trivia : TriviaSpan) where
  -- a list, by what its count reads as
  pub rest_list : kind ≡ Vec → (read : Option ℕ) → read_number bytes trivia.end ≡ read
      → list_on at kind map trivia read ≡ rest_of bytes at text (kind_number kind) kind map trivia
  unfolding rest_of
  rest_list is read told = sym (rw (this_number 24 refl is) (ap (list_on at kind map trivia) told))

  -- a leaf of either kind: with a text, or without
  module _ (leaf : (kind ≡ Leaf) ⊎ (kind ≡ PathItem)) where
    pub rest_leaf : 2 ≤ map → (span : Option ℕ) → text_end bytes trivia.end text ≡ span
        → leaf_on at kind map trivia span ≡ rest_of bytes at text (kind_number kind) kind map trivia
    unfolding rest_of
    rest_leaf h span told =
        let those = texted leaf in sym (rw (those.0, those.1, le-leb 2 map h) (ap (leaf_on at kind map trivia) told))

    pub rest_bare : map < 2 → Ok (own_of kind map trivia trivia.end trivia.end 0) ≡ rest_of bytes at text (kind_number kind) kind map trivia
    unfolding rest_of
    rest_bare h = let those = texted leaf in sym (rw (those.0, those.1, lt-leb 2 map h))

  -- any other kind
  pub rest_none : (kind ≡ Vec → ⊥) → (kind ≡ Leaf → ⊥) → (kind ≡ PathItem → ⊥)
      → Ok (own_of kind map trivia trivia.end trivia.end 0) ≡ rest_of bytes at text (kind_number kind) kind map trivia
  unfolding rest_of
  rest_none list leaf path = sym (rw (other_number 24 refl list, untexted leaf path))

-- ---- a record's first two bytes

module _ (bytes : List ℕ) (at : ℕ) (ruled : Rule) (number : ℕ) where
  -- they are of no kind
  pub first_unknown : kind_of number ≡ None → Err (layout at) ≡ first_bytes bytes at ruled number
  unfolding first_bytes
  first_unknown none = by_test (may_stand ruled number) (λ t. rw (t, none)) (λ t. rw t)

  -- of one that may not stand
  pub first_alien : may_stand ruled number ≡ false → Err (layout at) ≡ first_bytes bytes at ruled number
  unfolding first_bytes
  first_alien t = rw t

  -- of one that may
  module _ (kind : Kind) (known : kind_of number ≡ Some kind) (stands : may_stand ruled number ≡ true) where
    -- the map is missing
    pub first_short : length bytes < at + 2 → Err (layout at) ≡ first_bytes bytes at ruled number
    unfolding first_bytes
    first_short h = rw (stands, known, lt-ltb (length bytes) (at + 2) h)

    -- it fits or not
    pub first_fits : at + 2 ≤ length bytes → judged_on bytes at ruled number (then_some (map_fits ruled number kind (get_or bytes (at + 1) 0)) (kind, get_or bytes (at + 1) 0))
        ≡ first_bytes bytes at ruled number
    unfolding first_bytes
    first_fits h = rw (stands, known, le-ltb (length bytes) (at + 2) h)
        (by_test (map_fits ruled number kind (get_or bytes (at + 1) 0)) (λ t. rw t) (λ t. rw t))

-- ---- a record that has a first byte

module _ (bytes : List ℕ) (at : ℕ) (class : Class) {ruled : Rule} (rules : ruled ≡ rule class)
    {result : Option (Kind × ℕ)} (judged : judged_on bytes at ruled (get_or bytes at 0) result ≡ first_bytes bytes at ruled (get_or bytes at 0)) where
  -- by what its first two bytes say
  pub own_judged : (told : Option (Kind × ℕ)) → result ≡ told → judged_on bytes at ruled (get_or bytes at 0) told ≡ own_at bytes at class
  unfolding own_at first_bytes
  own_judged told e = ap (judged_on bytes at ruled (get_or bytes at 0)) (sym e) ∙ judged ∙ rw rules

  module _ (kind : Kind) (map : ℕ) (told : result ≡ Some (kind, map)) {found : Option TriviaSpan} (e : found ≡ trivia_read bytes (at + 2) (map % 2)) where
    -- by its trivia
    pub own_trivia_lem : (trivia : Option TriviaSpan) → found ≡ trivia
        → trivia_of_record bytes at ruled (get_or bytes at 0) kind map trivia ≡ own_at bytes at class
    own_trivia_lem trivia read =
        ap (trivia_of_record bytes at ruled (get_or bytes at 0) kind map) (sym read ∙ e) ∙ own_judged (Some (kind, map)) told

    -- by what stands behind them
    pub own_rest : (trivia : TriviaSpan) → found ≡ Some trivia → {rest : Option Rest}
        → rest_on at kind map trivia rest ≡ rest_of bytes at ruled.text (get_or bytes at 0) kind map trivia
        → (is : Option Rest) → rest ≡ is → rest_on at kind map trivia is ≡ own_at bytes at class
    own_rest trivia read same is behind = ap (rest_on at kind map trivia) (sym behind) ∙ same ∙ own_trivia_lem (Some trivia) read

-- ---- a leaf with a text and no trivia

-- a text that ends may stand
text_stands : (bytes : List ℕ) (at end : ℕ) (rule : TextRule) (read : Option ℕ) → text_of_count bytes at rule read ≡ Some end → text_fits rule 1 ≡ true
text_stands bytes at end NoText None e = broken_behind e
text_stands bytes at end NoText (Some count) e = by_choice (eqb count 0) None None (Some end) e (λ q. broken_behind) (λ q. broken_behind)
text_stands bytes at end Free read e = refl
text_stands bytes at end (Byte low high) read e = refl

-- so its map fits
bare_fits : (bytes : List ℕ) (at end : ℕ) (ruled : Rule) → text_end bytes (at + 2) ruled.text ≡ Some end → true ≡ map_fits ruled 25 Leaf 2
unfolding text_end map_fits
bare_fits bytes at end ruled e = sym (text_stands bytes (at + 2) end ruled.text (read_number bytes (at + 2)) e)

-- and its text ends its own bytes
pub own_bare : (bytes : List ℕ) (at : ℕ) (class : Class) {ruled : Rule} → ruled ≡ rule class → may_stand ruled 25 ≡ true
    → at + 2 ≤ length bytes → get_or bytes at 0 ≡ 25 → get_or bytes (at + 1) 0 ≡ 2
    → (end : ℕ) → text_end bytes (at + 2) ruled.text ≡ Some end → own_at bytes at class ≡ Ok (bare_leaf at end)
unfolding rest_of trivia_read own_at
own_bare bytes at class {ruled} rules stands room kind map end ends =
    let start : at + 4 ≡ at + 2 + 2 = omega arith in
    rw (
      start,
      ← rules,
      kind,
      stands,
      le-ltb (length bytes) (at + 2) room,
      map,
      sym (bare_fits bytes at end ruled ends),
    )
    (ap (leaf_on at Leaf 2 (record { first = at + 2; count = 0; end = at + 2 })) ends)

-- ---- a record

-- what was found of it is what is read
pub read_found : (bytes : List ℕ) (at : ℕ) (class : Class) (levels : ℕ) → at < length bytes → (levels ≡ 0 → ⊥) → (found : Option Own) → found_on at found ≡ own_at bytes at class
    → (told : Option Own) → found ≡ told → found_on at told ≡ read_own bytes at class levels
unfolding read_own
read_found bytes at class levels h e found same told is = ap (found_on at) (sym is) ∙ same ∙ sym (rw (lt-leb _ _ h, ne_eqb _ _ e))

-- what was read fits
pub read_fits : (bytes : List ℕ) (at : ℕ) (class : Class) (levels : ℕ) (result : Result Own Refusal) → result ≡ read_own bytes at class levels → Fits bytes at result
read_fits bytes at class levels (Ok own) e = own_fits bytes at class levels own (sym e)
read_fits bytes at class levels (Err refusal) e = tt
