-- Laws of blank and ink.
use mathlib.Core.Path.{◌≡◌, refl, sym, ap, ◌∙◌}
use mathlib.Core.List.{List, [], ◌∷◌, ◌++◌, append_assoc, append-nil}
use mathlib.Core.Bool.{true, false, ◌&&◌, and-true, and-false}
use Prim.Native.Nat.{ℕ, zero, suc, ◌+◌, ◌-◌, ◌≤◌, ◌<◌}
use native.Mathlib.Omega.{arith}
use native.Mathlib.Numerals.{one-add}
use lib.ListN.{length, get_or, take}
use lib.Dec.{leb, leb-zero, leb-suc-zero, leb-suc-suc}
use Rattle.text.specs.Ink.{blank, ink, inks, flat, all_blank, trim_end, leading_blanks, ink_end, spaces}
use Rattle.text.specs.Lines.{is_empty, ends_in_blank}
use Rattle.text.proofs.Choices.{by_test, true_false, and_true_left, and_true_right}
use Rattle.text.proofs.Parts.{take_last}

-- ---- the ink

-- the ink of two lists end to end is the ink of each
pub ink_append : (xs ys : List ℕ) → ink (xs ++ ys) ≡ ink xs ++ ink ys
unfolding ink
ink_append [] ys = refl
ink_append (x ∷ xs) ys = by_test (blank x) (λ q. rw q (ink_append xs ys)) (λ q. rw (q, ink_append xs ys))

-- the same of lists of lists
pub inks_append : (xs ys : List (List ℕ)) → inks (xs ++ ys) ≡ inks xs ++ inks ys
unfolding inks
inks_append [] ys = refl
inks_append (x ∷ xs) ys = rw (inks_append xs ys) (sym (append_assoc (ink x) (inks xs) (inks ys)))

-- the ink of any number of lists end to end is the ink of each, in order
pub ink_flat : (ts : List (List ℕ)) → ink (flat ts) ≡ inks ts
unfolding ink inks flat
ink_flat [] = refl
ink_flat (t ∷ ts) = ink_append t (flat ts) ∙ rw (ink_flat ts)

-- spaces have no ink
pub ink_spaces : (n : ℕ) → ink (spaces n) ≡ []
unfolding ink blank
ink_spaces zero = refl
ink_spaces (suc n) = ink_spaces n

-- spaces before a text add no ink
pub ink_before : (n : ℕ) (t : List ℕ) → ink (spaces n ++ t) ≡ ink t
ink_before n t = ink_append (spaces n) t ∙ rw (ink_spaces n)

-- spaces behind a text add no ink
pub ink_behind : (t : List ℕ) (n : ℕ) → ink (t ++ spaces n) ≡ ink t
ink_behind t n = ink_append t (spaces n) ∙ rw (ink_spaces n) (append-nil (ink t))

-- ---- lists without ink

-- a list that is all blank has no ink
pub ink_blank : (xs : List ℕ) → all_blank xs ≡ true → ink xs ≡ []
unfolding ink all_blank
ink_blank [] e = refl
ink_blank (x ∷ xs) e = rw (and_true_left (blank x) (all_blank xs) e) (ink_blank xs (and_true_right (blank x) (all_blank xs) e))

-- a list with no ink is all blank
pub blank_no_ink : (xs : List ℕ) → ink xs ≡ [] → all_blank xs ≡ true
unfolding ink all_blank
blank_no_ink [] e = refl
blank_no_ink (x ∷ xs) e = by_test (blank x) (λ q. rw q (blank_no_ink xs (rw q at e))) (λ q. absurd (omega (arith, ap length (rw q at e))))

-- two lists end to end are all blank where each is
pub blank_append : (xs ys : List ℕ) → all_blank (xs ++ ys) ≡ (all_blank xs && all_blank ys)
unfolding all_blank
blank_append [] ys = refl
blank_append (x ∷ xs) ys = by_test (blank x) (λ q. rw q (blank_append xs ys)) (λ q. rw q)

-- spaces are blank
pub spaces_blank : (n : ℕ) → all_blank (spaces n) ≡ true
unfolding all_blank blank
spaces_blank zero = refl
spaces_blank (suc n) = spaces_blank n

-- a newline is blank
pub newline_blank : all_blank (10 ∷ []) ≡ true
unfolding all_blank blank
newline_blank = refl

-- ---- trailing blanks

-- of a list that is all blank nothing is left
pub trim_blank : (xs : List ℕ) → all_blank xs ≡ true → trim_end xs ≡ []
unfolding trim_end
trim_blank [] e = refl
trim_blank (x ∷ xs) e = rw e

-- a first byte is kept where the list has ink
trim_kept : (x : ℕ) (xs : List ℕ) → all_blank (x ∷ xs) ≡ false → trim_end (x ∷ xs) ≡ x ∷ trim_end xs
unfolding trim_end
trim_kept x xs e = rw e

-- a list with ink leaves something
pub trim_some : (xs : List ℕ) → all_blank xs ≡ false → is_empty (trim_end xs) ≡ false
unfolding all_blank
trim_some [] e = true_false e
trim_some (x ∷ xs) e = rw (trim_kept x xs e)

-- no ink is cut
pub trim_ink : (xs : List ℕ) → ink (trim_end xs) ≡ ink xs
unfolding ink trim_end
trim_ink [] = refl
trim_ink (x ∷ xs) = by_test (all_blank (x ∷ xs)) (λ q. rw q (sym (ink_blank (x ∷ xs) q))) (λ q. rw (q, trim_ink xs))

-- before a list with ink nothing is cut
pub trim_append_ink : (xs ys : List ℕ) → all_blank ys ≡ false → trim_end (xs ++ ys) ≡ xs ++ trim_end ys
trim_append_ink [] ys e = refl
trim_append_ink (x ∷ xs) ys e =
    trim_kept x (xs ++ ys) (blank_append (x ∷ xs) ys ∙ rw e (and-false (all_blank (x ∷ xs))))
    ∙ rw (trim_append_ink xs ys e)

-- a blank list behind another is cut
pub trim_append_blank : (xs ys : List ℕ) → all_blank ys ≡ true → trim_end (xs ++ ys) ≡ trim_end xs
unfolding trim_end
trim_append_blank [] ys e = trim_blank ys e
trim_append_blank (x ∷ xs) ys e =
    let same : all_blank ((x ∷ xs) ++ ys) ≡ all_blank (x ∷ xs) = blank_append (x ∷ xs) ys ∙ rw e (and-true (all_blank (x ∷ xs))) in
    rw (same, trim_append_blank xs ys e)

-- the last byte of a list is the last with another byte before the list
ends_cons : (x : ℕ) (xs : List ℕ) → is_empty xs ≡ false → ends_in_blank (x ∷ xs) ≡ ends_in_blank xs
unfolding ends_in_blank
ends_cons x [] e = true_false e
ends_cons x (y ∷ ys) e = refl

-- what is left does not end in a blank
pub trim_ends : (xs : List ℕ) → ends_in_blank (trim_end xs) ≡ false
unfolding ends_in_blank all_blank trim_end
trim_ends [] = refl
trim_ends (x ∷ xs) =
    by_test (all_blank xs)
    (λ q. by_test (blank x) (λ r. rw (r, q)) (λ r. rw (r, trim_blank xs q) r))
    (λ q. rw (q, and-false (blank x)) (ends_cons x (trim_end xs) (trim_some xs q) ∙ trim_ends xs))

-- ---- where the ink ends

-- what is left is what stands before the end of the ink
pub trim_take : (xs : List ℕ) → trim_end xs ≡ take (ink_end xs) xs
unfolding trim_end
trim_take [] = refl
trim_take (x ∷ xs) = by_test (all_blank (x ∷ xs)) (λ q. rw q) (λ q. rw q (ap (λ (l : List ℕ). x ∷ l) (trim_take xs)))

-- without ink the end is 0
pub ink_end_zero : (xs : List ℕ) → all_blank xs ≡ true → ink_end xs ≡ 0
ink_end_zero xs e = rw (trim_blank xs e)

-- with ink it is not
pub ink_end_some : (xs : List ℕ) → all_blank xs ≡ false → 0 < ink_end xs
unfolding all_blank
ink_end_some [] e = true_false e
ink_end_some (x ∷ xs) e = rw (trim_kept x xs e) (omega arith)

-- the ink ends within the list
pub ink_end_le : (xs : List ℕ) → ink_end xs ≤ length xs
unfolding trim_end
ink_end_le [] = omega arith
ink_end_le (x ∷ xs) = by_test (all_blank (x ∷ xs)) (λ q. rw q (omega arith)) (λ q. rw q (omega (arith, ink_end_le xs)))

-- of a part that ends in ink nothing is cut
pub trim_last_ink : (bytes : List ℕ) (end : ℕ) → 0 < end → end ≤ length bytes → blank (get_or bytes (end - 1) 0) ≡ false → trim_end (take end bytes) ≡ take end bytes
unfolding trim_end all_blank
trim_last_ink bytes end some within e =
    let last : List ℕ = get_or bytes (end - 1) 0 ∷ [] in
    ap trim_end (take_last bytes end some within) ∙ trim_append_ink (take (end - 1) bytes) last (rw e) ∙ rw e (sym (take_last bytes end some within))

-- ---- leading blanks

-- the leading blanks of a list with ink are those of the list with any other behind it
pub leading_append_ink : (xs ys : List ℕ) → all_blank xs ≡ false → leading_blanks (xs ++ ys) ≡ leading_blanks xs
unfolding all_blank leading_blanks
leading_append_ink [] ys e = true_false e
leading_append_ink (x ∷ xs) ys e = by_test (blank x) (λ q. rw (q, leading_append_ink xs ys (rw q at e))) (λ q. rw q)

-- behind a blank list the leading blanks go on
pub leading_append_blank : (xs ys : List ℕ) → all_blank xs ≡ true → leading_blanks (xs ++ ys) ≡ length xs + leading_blanks ys
unfolding all_blank leading_blanks
leading_append_blank [] ys e = omega arith
leading_append_blank (x ∷ xs) ys e =
    rw (and_true_left (blank x) (all_blank xs) e) (omega (arith, leading_append_blank xs ys (and_true_right (blank x) (all_blank xs) e)))

-- the leading blanks of a blank list are all of it
pub leading_blank : (xs : List ℕ) → all_blank xs ≡ true → leading_blanks xs ≡ length xs
unfolding leading_blanks
leading_blank xs e = rw append-nil at (leading_append_blank xs [] e) ∙ omega arith

-- ink stands behind the leading blanks of a list with ink
pub leading_lt : (xs : List ℕ) → all_blank xs ≡ false → leading_blanks xs < length xs
unfolding all_blank leading_blanks
leading_lt [] e = true_false e
leading_lt (x ∷ xs) e = by_test (blank x) (λ q. rw q (omega (arith, leading_lt xs (rw q at e)))) (λ q. rw q (omega arith))

-- the front of a list with ink is all blank just where it is within the leading blanks
pub blank_front : (n : ℕ) (xs : List ℕ) → all_blank xs ≡ false → all_blank (take n xs) ≡ leb n (leading_blanks xs)
unfolding all_blank leading_blanks
blank_front zero xs e = sym (leb-zero (leading_blanks xs))
blank_front (suc n) [] e = true_false e
blank_front (suc n) (x ∷ xs) e =
    by_test (blank x)
    (λ q. rw (q, one-add (leading_blanks xs), leb-suc-suc n (leading_blanks xs)) (blank_front n xs (rw q at e)))
    (λ q. rw (q, leb-suc-zero n))
