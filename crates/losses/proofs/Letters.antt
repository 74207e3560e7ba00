-- The least of the first records, and the letters of an offset, place by place.
use Rattle.std.specs.Prelude.{Option, Some, None, min}
use Rattle.std.specs.List.{filter_map, reduce}
use Rattle.std.specs.Option.{option_eq}
use Rattle.std.proofs.Common.{◌≡◌, ℕ, zero, suc, ◌+◌, ◌*◌, ◌^◌, ◌<◌, ◌≤◌, List, [], ◌∷◌, Bool, cond, length, drop, get_or, nat_eq, refl, ap, sym, ◌∙◌, arith}
use Rattle.std.proofs.Math.Nat.{pow-suc, pow-succ', pow-le-pow_right}
use Rattle.std.proofs.Math.Seq.{drop-cons}
use Rattle.std.proofs.lemmas.List.{drop_all}
use lib.Dec.{eqb, ltb}
use borrow.Author.Tests.{eq-eqb, ltb-true, ltb-false}
use Rattle.text.proofs.Choices.{by_test}
use Rattle.losses.specs.Lost.{Firsts, lesser_of, least_of, bit_at, bits_from}

-- ---- the least

-- the lesser of two offsets
lesser_min : (one other : ℕ) → lesser_of (Some one) (Some other) ≡ Some (min one other)
lesser_min one other = by_test (ltb other one)
    (λ q. rw q (ap (λ (least : ℕ). Some least) (omega (arith, ltb-true other one q))))
    (λ q. rw q (ap (λ (least : ℕ). Some least) (omega (arith, ltb-false other one q))))

-- three in either order
lesser_three : (one other : ℕ) (third : Option ℕ) → lesser_of (Some (min one other)) third ≡ lesser_of (Some one) (lesser_of (Some other) third)
lesser_three one other None = sym (lesser_min one other)
lesser_three one other (Some third) =
    lesser_min (min one other) third ∙ ap (λ (least : ℕ). Some least) (omega arith) ∙ sym (lesser_min one (min other third))
    ∙ sym (ap (lesser_of (Some one)) (lesser_min other third))

reduced : (first : ℕ) (offsets : List ℕ) → reduce min (first ∷ offsets) ≡ lesser_of (Some first) (reduce min offsets)
reduced first [] = refl
reduced first (next ∷ offsets) =
    reduced (min first next) offsets ∙ lesser_three first next (reduce min offsets) ∙ sym (ap (lesser_of (Some first)) (reduced next offsets))

pub least_lem : (firsts : Firsts) → reduce min (filter_map (λ (first : Option ℕ). first) firsts) ≡ least_of firsts
least_lem [] = refl
least_lem (None ∷ firsts) = least_lem firsts
least_lem (Some first ∷ firsts) = reduced first (filter_map (λ (first : Option ℕ). first) firsts) ∙ ap (lesser_of (Some first)) (least_lem firsts)

-- ---- the letters

-- a bit is there or not
bit_most : (at : ℕ) (first : Option ℕ) (bit : ℕ) → bit_at at first bit ≤ bit
bit_most at None bit = omega arith
bit_most at (Some place) bit = by_test (eqb place at) (λ q. rw q (omega arith)) (λ q. rw q (omega arith))

-- those of the places up to an index, whose bit is a power of two
pub record LettersSoFar (firsts : Firsts) (at index bit letters : ℕ) : Type 0 where
  pub power : bit ≡ 2 ^ index
  pub below : letters < bit
  pub rest : letters + bits_from at bit (drop index firsts) ≡ bits_from at 1 firsts

pub letters_start : (firsts : Firsts) (at : ℕ) → LettersSoFar firsts at 0 1 0
letters_start firsts at = record { power = refl; below = omega arith; rest = omega arith }

-- a bit where the test says so
tested_bit : (first : Option ℕ) (at bit : ℕ) → cond (option_eq nat_eq first (Some at)) bit 0 ≡ bit_at at first bit
tested_bit None at bit = refl
tested_bit (Some place) at bit = refl

module _ {firsts : Firsts} {at index bit letters : ℕ} (so_far : LettersSoFar firsts at index bit letters) where
  -- a bit is small
  pub bit_small : index < 8 → bit ≤ 128
  bit_small below =
      let few : index ≤ 7 = omega arith in
      rw so_far.power (pow-le-pow_right (omega arith) few)

  -- one place more
  pub letters_on : {next : ℕ} (test : Bool) → index < length firsts → test ≡ option_eq nat_eq (get_or firsts index None) (Some at)
      → next ≡ letters + cond test bit 0 → LettersSoFar firsts at (index + 1) (bit * 2) next
  letters_on {next} test inside tested is =
      let first : Option ℕ = get_or firsts index None in
      let shown : cond test bit 0 ≡ bit_at at first bit = rw tested (tested_bit first at bit) in
      let twice : bit * 2 ≡ 2 * bit = omega arith in
      let step : index + 1 ≡ suc index = omega arith in
      let others : bits_from at bit (drop index firsts) ≡ bit_at at first bit + bits_from at (2 * bit) (drop (index + 1) firsts) =
      rw (step, drop-cons firsts index None inside) refl in
      record {
        power = rw (so_far.power, step) (sym (pow-suc 2 index));
        below = omega (arith, so_far.below, shown, bit_most at first bit);
        rest = rw twice (omega (arith, so_far.rest, others, shown));
      }

  -- no place is left
  pub letters_end : length firsts ≤ index → letters ≡ bits_from at 1 firsts
  letters_end none =
      let nothing : drop index firsts ≡ [] = drop_all index firsts none in
      omega (arith, rw nothing at so_far.rest)

-- ---- how large they are

-- they stand below the bit behind the last
pub bits_most : (at index : ℕ) (firsts : Firsts) → bits_from at (2 ^ index) firsts + 2 ^ index ≤ 2 ^ (index + length firsts)
bits_most at index [] = let same : index + 0 ≡ index = omega arith in rw same (omega arith)
bits_most at index (first ∷ firsts) =
    let rest = rw (pow-succ' 2 index) at (bits_most at (suc index) firsts) in
    let same : index + suc (length firsts) ≡ suc index + length firsts = omega arith in
    rw same (omega (arith, rest, bit_most at first (2 ^ index)))

-- and one is among them where a record stands there
pub bits_some : (at : ℕ) (firsts : Firsts) (number bit : ℕ) → get_or firsts number None ≡ Some at → bit ≤ bits_from at bit firsts
bits_some at [] number bit never = let zero_one : ◌≡◌ {A = ℕ} 0 1 = cc in absurd (omega arith)
bits_some at (first ∷ firsts) zero bit here =
    let same : bit_at at first bit ≡ bit = rw (here, eq-eqb at at refl) refl in
    omega (arith, same)
bits_some at (first ∷ firsts) (suc number) bit later = omega (arith, bits_some at firsts number (2 * bit) later)
