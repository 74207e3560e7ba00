-- Laws of newlines, and of lines joined by them.
use mathlib.Core.Path.{◌≡◌, refl, sym, ap, ◌∙◌}
use mathlib.Core.List.{List, [], ◌∷◌, ◌++◌, append_assoc, append-nil}
use mathlib.Core.Bool.{true, false, not, ◌||◌}
use Prim.Native.Nat.{ℕ, zero, suc, ◌<◌}
use native.Mathlib.Omega.{arith}
use lib.ListN.{length}
use lib.Dec.{eqb}
use borrow.Author.Tests.{not-true, eqb-true}
use Rattle.text.specs.Ink.{blank, ink, inks, spaces}
use Rattle.text.specs.Lines.{onto, parted, lines_of, is_newline, has_newline, newline_at, plain, behind, joined}
use Rattle.text.proofs.Choices.{by_test, true_false, and_true_left, and_true_right}
use Rattle.text.proofs.Ink.{ink_append}

-- ---- newlines

-- two lists end to end have a newline where one of them has
pub newline_append : (xs ys : List ℕ) → has_newline (xs ++ ys) ≡ (has_newline xs || has_newline ys)
unfolding has_newline
newline_append [] ys = refl
newline_append (x ∷ xs) ys = by_test (eqb x 10) (λ q. rw q) (λ q. rw q (newline_append xs ys))

-- spaces have no newline
pub newline_spaces : (n : ℕ) → has_newline (spaces n) ≡ false
unfolding has_newline
newline_spaces zero = refl
newline_spaces (suc n) = newline_spaces n

-- the place of the first newline is within a list that has one
pub newline_at_lt : (xs : List ℕ) → has_newline xs ≡ true → newline_at xs < length xs
unfolding has_newline newline_at
newline_at_lt [] e = true_false (sym e)
newline_at_lt (x ∷ xs) e = by_test (eqb x 10) (λ q. rw q (omega arith)) (λ q. rw q (omega (arith, newline_at_lt xs (rw q at e))))

-- it is the length of a list that has none
pub newline_at_none : (xs : List ℕ) → has_newline xs ≡ false → newline_at xs ≡ length xs
unfolding has_newline newline_at
newline_at_none [] e = refl
newline_at_none (x ∷ xs) e = by_test (eqb x 10) (λ q. true_false (rw q at e)) (λ q. rw q (omega (arith, newline_at_none xs (rw q at e))))

-- a newline has no ink
pub ink_newline : (text : List ℕ) → is_newline text ≡ true → ink text ≡ []
unfolding is_newline ink blank
ink_newline [] e = refl
ink_newline (b ∷ []) e = rw (eqb-true b 10 e)
ink_newline (b ∷ c ∷ bs) e = true_false (sym e)

-- ---- joined lines

-- newlines before lines add no ink
ink_newlines : (ls : List (List ℕ)) → ink (behind ls) ≡ inks ls
unfolding ink inks blank behind
ink_newlines [] = refl
ink_newlines (l ∷ ls) = ink_append l (behind ls) ∙ rw (ink_newlines ls)

-- the ink of joined lines is the ink of each, in order
pub ink_joined : (ls : List (List ℕ)) → ink (joined ls) ≡ inks ls
unfolding ink inks joined
ink_joined [] = refl
ink_joined (l ∷ ls) = ink_append l (behind ls) ∙ rw (ink_newlines ls)

-- one line joined is the line
pub joined_one : (l : List ℕ) → joined (l ∷ []) ≡ l
unfolding joined behind
joined_one l = append-nil l

-- the newlines and lines of two lists of lines, one behind the other
behind_append : (ls ms : List (List ℕ)) → behind (ls ++ ms) ≡ behind ls ++ behind ms
unfolding behind
behind_append [] ms = refl
behind_append (l ∷ ls) ms = rw (behind_append ls ms) (ap (λ (x : List ℕ). 10 ∷ x) (sym (append_assoc l (behind ls) (behind ms))))

-- a line more behind at least one line is a newline and the line behind those
pub joined_snoc : (first : List ℕ) (ls : List (List ℕ)) (l : List ℕ) → joined ((first ∷ ls) ++ (l ∷ [])) ≡ joined (first ∷ ls) ++ (10 ∷ l)
unfolding joined behind
joined_snoc first ls l = rw (behind_append ls (l ∷ []), append-nil l) (sym (append_assoc first (behind ls) (10 ∷ l)))

-- ---- what the newlines of joined lines part

-- the first byte of a list without newlines is none
newline_head : (x : ℕ) (xs : List ℕ) → has_newline (x ∷ xs) ≡ false → eqb x 10 ≡ false
unfolding has_newline
newline_head x xs e = by_test (eqb x 10) (λ q. true_false (rw q at e)) (λ q. q)

-- what stands behind it has none
newline_tail : (x : ℕ) (xs : List ℕ) → has_newline (x ∷ xs) ≡ false → has_newline xs ≡ false
unfolding has_newline
newline_tail x xs e = by_test (eqb x 10) (λ q. true_false (rw q at e)) (λ q. rw q at e)

-- a line without newlines before a text stands before the text's first line
parted_front : (l text : List ℕ) (ls : List (List ℕ)) → has_newline l ≡ false → parted text ≡ [] ∷ ls → parted (l ++ text) ≡ l ∷ ls
unfolding parted
parted_front [] text ls plain-l e = e
parted_front (b ∷ l) text ls plain-l e = rw (newline_head b l plain-l) (ap (onto b) (parted_front l text ls (newline_tail b l plain-l) e))

-- the first of plain lines has no newline
plain_first : (l : List ℕ) (ls : List (List ℕ)) → plain (l ∷ ls) ≡ true → has_newline l ≡ false
unfolding plain
plain_first l ls e = not-true (has_newline l) (and_true_left (not (has_newline l)) (plain ls) e)

-- the lines behind it are plain
plain_rest : (l : List ℕ) (ls : List (List ℕ)) → plain (l ∷ ls) ≡ true → plain ls ≡ true
unfolding plain
plain_rest l ls e = and_true_right (not (has_newline l)) (plain ls) e

-- newlines with a plain line behind each part an empty line and these lines
parted_behind : (ls : List (List ℕ)) → plain ls ≡ true → parted (behind ls) ≡ [] ∷ ls
unfolding parted behind
parted_behind [] e = refl
parted_behind (l ∷ ls) e = rw (parted_front l (behind ls) ls (plain_first l ls e) (parted_behind ls (plain_rest l ls e)))

-- the newlines of joined lines part them into these lines
pub parted_joined : (l : List ℕ) (ls : List (List ℕ)) → plain (l ∷ ls) ≡ true → parted (joined (l ∷ ls)) ≡ l ∷ ls
unfolding joined
parted_joined l ls e = parted_front l (behind ls) ls (plain_first l ls e) (parted_behind ls (plain_rest l ls e))

-- the lines of a text are none or what its newlines part
lines_parted : (P : List (List ℕ) → Type 0) (text : List ℕ) → P [] → P (parted text) → P (lines_of text)
lines_parted P [] none some = none
lines_parted P (b ∷ bs) none some = some

-- what holds of no line, and of the lines joined, holds of the lines of the joined text
pub lines_joined : (P : List (List ℕ) → Type 0) (ls : List (List ℕ)) → plain ls ≡ true → P [] → P ls → P (lines_of (joined ls))
unfolding joined
lines_joined P [] e none some = none
lines_joined P (l ∷ ls) e none some = lines_parted P (joined (l ∷ ls)) none (rw (parted_joined l ls e) some)
