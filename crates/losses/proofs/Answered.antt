-- The answer of `lost`, of what the search of the whole tree found.
use Rattle.std.specs.Prelude.{Option, Result, None, Ok, Err, map}
use Rattle.std.proofs.lemmas.List.{ext_get_or, get_or-map, get_or-replicate}
use Rattle.std.proofs.lemmas.List.FromFn.{get_or-range_with_len}
use Rattle.answers.specs.Numbers.{no_refusal, Checked}
use mathlib.Core.Path.{◌≡◌, refl, sym, ap, ◌∙◌}
use mathlib.Core.List.{List}
use mathlib.Core.Bool.{false}
use Prim.Native.Nat.{ℕ, ◌+◌, ◌<◌}
use native.Mathlib.Omega.{arith}
use lib.ListN.{length, get_or}
use Rattle.answers.specs.declared.Refusal.{Refusal}
use Rattle.tree.specs.Checking.{read_file, batch_checked}
use Rattle.tree.specs.Tree.{Tree}
use Rattle.tree.specs.declared.grammar.Class.TheVariants.{Tokens}
use Rattle.tree.proofs.Readings.{file_passed}
use Rattle.reading.specs.Places.{Spot, spot_number, opening_brace}
use Rattle.losses.specs.Lost.{Firsts, spots, first_in, firsts_in, least_of, answer_with, lost_on, lost_from}
use Rattle.losses.specs.Visits.{first_of, no_firsts, seen_in, TakesAll, Searches}
use Rattle.losses.specs.declared.firsts.Search.{Search}
use Rattle.losses.proofs.Passed.{next_unskipped}
use Rattle.losses.proofs.Steps.{spot_below}

-- ---- the first records, place by place

-- the place of a number
number_back : (number : ℕ) → number < 8 → spot_number (get_or spots number opening_brace) ≡ number
number_back number below =
    let plain : 0 + number ≡ number = omega arith in
    sym (get_or-map spot_number spots number opening_brace 0 below) ∙ get_or-range_with_len 0 8 number 0 below ∙ plain

-- eight first records are those of the places
firsts_same : (of : Spot → Option ℕ) (firsts : Firsts) → length firsts ≡ 8 → ((spot : Spot) → first_of firsts spot ≡ of spot)
    → firsts ≡ map of spots
firsts_same of firsts eight each =
    ext_get_or None firsts (map of spots) eight
    (λ number below.
    let inside : number < 8 = omega (arith, eight, below) in
    rw (number_back number inside) at (each (get_or spots number opening_brace)) ∙ sym (get_or-map of spots number opening_brace None inside))

none_first : (spot : Spot) → first_of no_firsts spot ≡ None
none_first spot = get_or-replicate 8 (spot_number spot) None None (spot_below spot)

-- ---- the answer

module _ (from : ℕ) (bytes : List ℕ) {checked : Checked} (same : checked ≡ batch_checked bytes) where
  -- a tree that was refused
  pub lost_refused : {why : Refusal} → checked ≡ Err why → Err why ≡ lost_from from bytes
  unfolding lost_from
  lost_refused is = sym (ap (lost_on from (read_file 64 bytes).tree) (sym same ∙ is))

  module _ (is : checked ≡ no_refusal) {after none : Search} {searched : Result ℕ Refusal} (start : none.from ≡ from) (nothing : none.firsts ≡ no_firsts)
      (searches : Searches searched after none 64 bytes Tokens 0 false) where
    abbrev tree : Tree
    tree = (read_file 64 bytes).tree

    -- the search met no refusal
    found : (searched ≡ Ok (read_file 64 bytes).end) × TakesAll after none (seen_in Tokens false tree)
    found = searches (file_passed 65535 64 bytes (sym same ∙ is)).layout

    pub search_unrefused : {R : Type 0} {why : Refusal} → searched ≡ Err why → R
    search_unrefused met = next_unskipped (sym found.0 ∙ met)

    -- its first records
    each : (spot : Spot) → first_of after.firsts spot ≡ first_in from spot tree
    each spot =
        let first : first_of none.firsts spot ≡ None = ap (λ (firsts : Firsts). first_of firsts spot) nothing ∙ none_first spot in
        found.1.each spot ∙ rw (start, first) refl

    -- the answer to it
    pub passed_answer : length after.firsts ≡ 8 → Ok (answer_with after.firsts (least_of after.firsts)) ≡ lost_from from bytes
    unfolding lost_from
    passed_answer eight =
        let firsts : after.firsts ≡ firsts_in from tree = firsts_same (λ spot. first_in from spot tree) after.firsts eight each in
        ap (λ (firsts : Firsts). Ok (answer_with firsts (least_of firsts))) firsts ∙ sym (ap (lost_on from tree) (sym same ∙ is))
