-- The place of a tree's refusal is at most 65,535.
--   tree_within : (bytes : List ℕ) → Within 65535 (batch_checked bytes)
use Rattle.std.specs.Prelude.{Option, Result, Some, None, Ok, Err}
use Rattle.answers.specs.declared.Refusal.{Refusal}
use Rattle.tree.specs.declared.own.Own.{Own}
use mathlib.Core.List.{List, [], ◌∷◌, Memᴰ}
use Prim.Native.Nat.{ℕ, zero, suc, ◌+◌, ◌%◌, ◌≤◌}
use native.Mathlib.Omega.{arith}
use mathlib.Core.Path.{refl}
use mathlib.Core.Bool.{◌&&◌, ◌||◌}
use lib.ListN.{length, get_or}
use lib.Dec.{eqb, ltb, leb}
use borrow.Author.Tests.{ltb-true, ltb-false, leb-false}
use Rattle.answers.specs.Numbers.{and_then, Checked}
use Rattle.text.specs.Accepted.{accepted_text}
use Rattle.text.specs.Numbers.{read_number}
use Rattle.text.proofs.Accepted.{fault_some}
use Rattle.text.proofs.Choices.{cond_both}
use Rattle.tree.specs.Grammar.{rule, kind_of}
use Rattle.tree.specs.declared.grammar.Rule.{Rule}
use Rattle.tree.specs.Own.{may_stand, map_fits, trivia_read, text_end, list_on, leaf_on, rest_of, trivia_of_record, map_of_record, own_at, read_own}
use Rattle.tree.specs.Reading.{Placed, Due, nothing, due, Reader, Reading, parts_due, read_parts, read_on, unread, read}
use Rattle.tree.specs.Checking.{read_file, length_checked, end_checked, texts_checked, tree_checked, batch_checked}
use Rattle.tree.specs.declared.grammar.Kind.{Kind}
use Rattle.tree.specs.declared.grammar.TextRule.{TextRule}
use Rattle.tree.specs.declared.grammar.Class.{Class}
use Rattle.tree.specs.declared.grammar.Class.TheVariants.{Tokens}
use Rattle.tree.specs.declared.own.TriviaSpan.{TriviaSpan}
use Rattle.tree.proofs.Bounds.{Inside, texts_inside}
use Rattle.exports.proofs.Within.{Within, both_within, wider}

-- a record whose own bytes were refused
abbrev OwnWithin : ℕ → Result Own Refusal → Type 0
OwnWithin limit (Ok own) = Unit
OwnWithin limit (Err why) = why.place ≤ limit

module _ (bytes : List ℕ) where
  -- ---- a record's own bytes are refused at its place, or at the end

  module _ (at : ℕ) (inside : at ≤ length bytes) where
    list_within : (kind : Kind) (map : ℕ) (trivia : TriviaSpan) (count : Option ℕ) → OwnWithin (length bytes) (list_on at kind map trivia count)
    list_within kind map trivia (Some count) = tt
    list_within kind map trivia None = inside

    leaf_within : (kind : Kind) (map : ℕ) (trivia : TriviaSpan) (span : Option ℕ) → OwnWithin (length bytes) (leaf_on at kind map trivia span)
    leaf_within kind map trivia (Some end) = tt
    leaf_within kind map trivia None = inside

    rest_within : (text : TextRule) (number : ℕ) (kind : Kind) (map : ℕ) (trivia : TriviaSpan) → OwnWithin (length bytes) (rest_of bytes at text number kind map trivia)
    unfolding rest_of
    rest_within text number kind map trivia =
        cond_both (OwnWithin (length bytes)) (eqb number 24) _ _ (λ list. list_within kind map trivia (read_number bytes trivia.end))
        (λ other.
        cond_both (OwnWithin (length bytes)) ((eqb number 25 || eqb number 26) && leb 2 map) _ _
        (λ some. leaf_within kind map trivia (text_end bytes trivia.end text)) (λ none. tt))

    trivia_within : (given : Rule) (number : ℕ) (kind : Kind) (map : ℕ) (trivia : Option TriviaSpan)
        → OwnWithin (length bytes) (trivia_of_record bytes at given number kind map trivia)
    trivia_within given number kind map (Some trivia) = rest_within given.text number kind map trivia
    trivia_within given number kind map None = inside

    map_within : (given : Rule) (number : ℕ) (kind : Option Kind) → OwnWithin (length bytes) (map_of_record bytes at given number kind)
    map_within given number None = inside
    map_within given number (Some kind) =
        cond_both (OwnWithin (length bytes)) (ltb (length bytes) (at + 2)) _ _ (λ short. inside)
        (λ long.
        let map = get_or bytes (at + 1) 0 in
        cond_both (OwnWithin (length bytes)) (map_fits given number kind map) _ _
        (λ fits. trivia_within given number kind map (trivia_read bytes (at + 2) (map % 2))) (λ other. inside))

  own_within : (at : ℕ) (class : Class) (levels : ℕ) → OwnWithin (length bytes) (read_own bytes at class levels)
  unfolding read_own own_at
  own_within at class levels =
      cond_both (OwnWithin (length bytes)) (leb (length bytes) at) _ _ (λ past. omega arith)
      (λ here.
      let inside : at ≤ length bytes = omega (arith, leb-false (length bytes) at here) in
      cond_both (OwnWithin (length bytes)) (eqb levels 0) _ _ (λ deep. inside)
      (λ left.
      let number = get_or bytes at 0 in
      cond_both (OwnWithin (length bytes)) (may_stand (rule class) number) _ _ (λ may. map_within at inside (rule class) number (kind_of number)) (λ other. inside)))

  -- ---- so with a whole record

  parts_within : (reader : Reader) → ((class : Class) (at : ℕ) → Within (length bytes) (reader class at).checked)
      → (parts : List Due) (at : ℕ) → Within (length bytes) (read_parts reader parts at).checked
  unfolding read_parts
  parts_within reader below [] at = tt
  parts_within reader below (nothing ∷ parts) at = parts_within reader below parts at
  parts_within reader below (due class ∷ parts) at =
      both_within (length bytes) (reader class at).checked (read_parts reader parts (reader class at).end).checked
      (below class at) (parts_within reader below parts (reader class at).end)

  record_within : (reader : Reader) → ((class : Class) (at : ℕ) → Within (length bytes) (reader class at).checked)
      → (class : Class) (at : ℕ) (own : Result Own Refusal) → OwnWithin (length bytes) own → Within (length bytes) (read_on reader bytes class at own).checked
  record_within reader below class at (Ok own) within = parts_within reader below (parts_due class own) own.end
  record_within reader below class at (Err why) within = within

  read_within : (levels : ℕ) (class : Class) (at : ℕ) → Within (length bytes) (read levels bytes class at).checked
  unfolding read
  read_within zero class at = record_within unread (λ class at. tt) class at (read_own bytes at class zero) (own_within at class zero)
  read_within (suc levels) class at = record_within (read levels bytes) (read_within levels) class at (read_own bytes at class (suc levels)) (own_within at class (suc levels))

  -- ---- the end, and the texts

  end_within : (end : ℕ) → Within (length bytes) (end_checked bytes end)
  end_within end = cond_both (Within (length bytes)) (ltb end (length bytes)) _ _ (λ more. omega (arith, ltb-true end (length bytes) more)) (λ all. tt)

  texts_within : (texts : List Placed) → ((text : Placed) → Memᴰ text texts → Inside bytes text) → Within (length bytes) (texts_checked texts)
  unfolding texts_checked
  texts_within [] inside = tt
  texts_within (text ∷ texts) inside =
      cond_both (Within (length bytes)) (accepted_text text.bytes) _ _
      (λ fine. texts_within texts (λ other member. inside other (Memᴰ.tail member)))
      (λ bad.
      let fault = fault_some text.bytes bad in
      omega (arith, fault, inside text (Memᴰ.head refl) (omega (arith, fault))))

  -- ---- a file, whose length is judged first

  length_within : (rest : Checked) → (length bytes ≤ 65535 → Within 65535 rest) → Within 65535 (and_then (length_checked 65535 bytes) rest)
  length_within rest further =
      cond_both (λ (first : Checked). Within 65535 (and_then first rest)) (eqb (length bytes) 0) _ _ (λ empty. omega arith)
      (λ some. cond_both (λ (first : Checked). Within 65535 (and_then first rest)) (ltb 65535 (length bytes)) _ _ (λ long. omega arith)
      (λ short. further (ltb-false 65535 (length bytes) short)))

pub tree_within : (bytes : List ℕ) → Within 65535 (batch_checked bytes)
unfolding tree_checked
tree_within bytes =
    let file : Reading = read_file 64 bytes in
    let texts = texts_checked file.texts in
    let behind = and_then (end_checked bytes file.end) texts in
    length_within bytes (and_then file.checked behind)
    (λ short.
    wider (length bytes) 65535 short (and_then file.checked behind)
    (both_within (length bytes) file.checked behind (read_within bytes 64 Tokens 0)
    (both_within (length bytes) (end_checked bytes file.end) texts (end_within bytes file.end) (texts_within bytes file.texts (texts_inside bytes 64 Tokens 0)))))
