-- Laws of the first piece of a text, and of the pieces from a spot on as the piece there and those behind it.
use mathlib.Core.Path.{◌≡◌, refl, sym, ap, ◌∙◌}
use mathlib.Core.List.{List, [], ◌∷◌}
use mathlib.Core.Bool.{Bool, true, false, not, ◌&&◌, ◌||◌, or-false}
use Rattle.std.specs.List.{list_any, fold}
use Rattle.std.proofs.lemmas.List.Folds.{list_any-append}
use Prim.Native.Nat.{ℕ, suc, ◌+◌, ◌-◌, ◌≤◌, ◌<◌}
use native.Mathlib.Omega.{arith}
use lib.ListN.{length, get_or, take, drop, take-append-drop}
use lib.Seq.{slice, slice-cons, slice_empty, length-slice, drop-drop, take-take}
use lib.Dec.{eqb, ltb}
use borrow.Author.Tests.{lt-ltb, le-ltb, ne_eqb}
use Rattle.text.specs.Lines.{onto, has_newline, newline_at, is_newline}
use Rattle.text.proofs.Choices.{by_test, true_false}
use Rattle.text.proofs.Lines.{newline_at_lt, newline_at_none}
use Rattle.text.proofs.Parts.{part_slice}
use Rattle.columns.specs.Pieces.{Piece, cut, pieces_of}
use Rattle.join.specs.Walk.{Standing, pieces_at, piece_length, piece_at, Passed}
use Rattle.join.specs.declared.piece.Spot.{Spot}

-- ---- newlines

-- a text is exactly a newline where it is one byte and has a newline
pub newline_lone : (xs : List ℕ) → is_newline xs ≡ (eqb (length xs) 1 && has_newline xs)
unfolding is_newline has_newline
newline_lone [] = refl
newline_lone (b ∷ []) = sym (or-false (eqb b 10))
newline_lone (b ∷ c ∷ bs) = rw (ne_eqb (length (b ∷ c ∷ bs)) 1 (λ one. omega arith))

-- a text has a newline where the first newline's place is within it
newline_within : (xs : List ℕ) → ltb (newline_at xs) (length xs) ≡ has_newline xs
newline_within xs =
    by_test (has_newline xs)
    (λ some. rw (some, lt-ltb _ _ (newline_at_lt xs some)))
    (λ none. rw (none, le-ltb (newline_at xs) (length xs) (omega (arith, newline_at_none xs none))))

-- ---- the first piece of a text

-- a newline is a piece
piece_newline : (b : ℕ) (bs : List ℕ) → eqb b 10 ≡ true → piece_length (b ∷ bs) ≡ 1
unfolding newline_at
piece_newline b bs e = rw e (omega arith)

-- another byte stands before the piece behind it
piece_other : (b : ℕ) (bs : List ℕ) → eqb b 10 ≡ false → piece_length (b ∷ bs) ≡ suc (piece_length bs)
unfolding newline_at
piece_other b bs e = rw e (omega arith)

-- a text is cut into its first piece and the pieces of the rest
cut_first : (xs : List ℕ) → 0 < length xs → cut xs ≡ take (piece_length xs) xs ∷ cut (drop (piece_length xs) xs)
unfolding cut newline_at
cut_first [] some = absurd (omega arith)
cut_first (b ∷ []) some = by_test (eqb b 10) (λ e. rw (piece_newline b [] e, e)) (λ e. rw (piece_other b [] e, e))
cut_first (b ∷ c ∷ bs) some =
    by_test (eqb b 10)
    (λ e. rw (piece_newline b (c ∷ bs) e, e))
    (λ e. rw (piece_other b (c ∷ bs) e, e) (ap (onto b) (cut_first (c ∷ bs) (omega arith))))

-- the first piece has a newline where the text has one
newline_first : (xs : List ℕ) → has_newline (take (piece_length xs) xs) ≡ has_newline xs
unfolding has_newline newline_at
newline_first [] = refl
newline_first (b ∷ bs) =
    by_test (eqb b 10)
    (λ e. rw (piece_newline b bs e, e))
    (λ e. rw (piece_other b bs e, e) (newline_first bs))

-- ---- parts of a list

-- a part of one byte
pub slice_one : (from to : ℕ) (list : List ℕ) → to - from ≡ 1 → to ≤ length list → slice from to list ≡ get_or list from 0 ∷ []
slice_one from to list one within =
    let end : to ≡ suc from = omega arith in
    slice-cons from to list 0 (omega arith) within ∙ ap (λ (l : List ℕ). get_or list from 0 ∷ l) (rw end (slice_empty (suc from) list))

-- the front of a part
slice_front : (from n to : ℕ) (list : List ℕ) → from + n ≤ to → take n (slice from to list) ≡ slice from (from + n) list
slice_front from n to list within =
    let count : from + n - from ≡ n = omega arith in
    rw (← (part_slice from to list), ← (part_slice from (from + n) list), count) (take-take n (to - from) (drop from list) (omega arith))

-- the first piece of a part, by the first newline in the part as the code lends it
module _ (from to : ℕ) (list : List ℕ) {count : ℕ} (order : from ≤ to) (inside : to ≤ length list) (newline : count ≡ newline_at (take (to - from) (drop from list))) where
  -- the newline's place in the part
  count_is : count ≡ newline_at (slice from to list)
  count_is = newline ∙ ap newline_at (part_slice from to list)

  -- ends behind that newline
  pub ends_newline : count < to - from → (from + count + 1 ≡ from + piece_length (slice from to list)) × (true ≡ ltb (newline_at (slice from to list)) (to - from))
  ends_newline within = (omega (arith, length-slice from to list inside, count_is), sym (rw (← count_is) (lt-ltb _ _ within)))

  -- or with the part
  pub ends_part : to - from ≤ count → (to ≡ from + piece_length (slice from to list)) × (false ≡ ltb (newline_at (slice from to list)) (to - from))
  ends_part past = (omega (arith, length-slice from to list inside, count_is), sym (rw (← count_is) (le-ltb _ _ past)))

-- that so far each byte is another
abbrev another : Bool → ℕ → Bool
another clear b = clear && not (eqb b 10)

-- once one is a newline that is no more so
one_newline : (xs : List ℕ) → fold another false xs ≡ false
one_newline [] = refl
one_newline (b ∷ bs) = one_newline bs

-- each byte is another where none is a newline
all_other : (xs : List ℕ) → fold another true xs ≡ true → list_any (λ b. eqb b 10) xs ≡ false
all_other [] e = refl
all_other (b ∷ bs) e =
    by_test (eqb b 10)
    (λ q. true_false (sym (rw q at e) ∙ one_newline bs))
    (λ q. rw q (all_other bs (rw q at e)))

-- no byte is one where none of the first is and none of the last, which meet or overlap
pub ends_other : (xs : List ℕ) (n k : ℕ) → k ≤ n → fold another true (take n xs) ≡ true → fold another true (drop k xs) ≡ true
    → list_any (λ b. eqb b 10) xs ≡ false
ends_other xs n k meet first last =
    let test : ℕ → Bool = λ b. eqb b 10 in
    let front = list_any-append test (take k (take n xs)) (drop k (take n xs)) in
    let none : list_any test (take k xs) ≡ false =
    or_none _ _ (sym (rw (take-append-drop k (take n xs), take-take k n xs meet) at front) ∙ all_other (take n xs) first) in
    rw (← (take-append-drop k xs), list_any-append test (take k xs) (drop k xs), none) (all_other (drop k xs) last)
  where
    or_none : (a b : Bool) → (a || b) ≡ false → a ≡ false
    or_none true b e = e
    or_none false b e = refl

-- a list of which no byte is a newline
newline_far : (xs : List ℕ) → list_any (λ b. eqb b 10) xs ≡ false → newline_at xs ≡ length xs
unfolding newline_at
newline_far [] none = refl
newline_far (b ∷ bs) none =
    by_test (eqb b 10)
    (λ e. true_false (rw e at none))
    (λ e. rw e (omega (arith, newline_far bs (rw e at none))))

-- a part of which none is
pub far_newline : (from to : ℕ) (list : List ℕ) → to ≤ length list → list_any (λ b. eqb b 10) (take (to - from) (drop from list)) ≡ false
    → ltb (newline_at (slice from to list)) (to - from) ≡ false
far_newline from to list inside none =
    let far = newline_far (slice from to list) (rw part_slice at none) in
    le-ltb _ _ (omega (arith, far, length-slice from to list inside))

-- ---- the piece at a spot

-- the text from a spot to the end of its chunk
abbrev pub rest_at : List ℕ → Spot → List ℕ
rest_at list spot = slice spot.at spot.end list

-- where the piece at a spot ends
abbrev pub piece_end : List ℕ → Spot → ℕ
piece_end list spot = spot.at + piece_length (rest_at list spot)

module _ (list : List ℕ) (spot : Spot) (standing : Standing list spot) (inside : spot.at < length list) where
  -- the length of that text
  rest_length : length (rest_at list spot) ≡ spot.end - spot.at
  rest_length = length-slice spot.at spot.end list standing.inside

  -- the piece has a byte
  pub piece_some : spot.at < piece_end list spot
  piece_some = omega (arith, rest_length, standing.some inside)

  -- it ends in its chunk
  pub piece_within : piece_end list spot ≤ spot.end
  piece_within = omega (arith, rest_length, standing.some inside)

  -- its length
  pub piece_length_lem : length (piece_at list spot).text ≡ piece_end list spot - spot.at
  unfolding piece_at
  piece_length_lem = length-slice spot.at (piece_end list spot) list (omega (arith, piece_within, standing.inside))

  -- the piece is the front of that text
  text_front : take (piece_length (rest_at list spot)) (rest_at list spot) ≡ (piece_at list spot).text
  unfolding piece_at
  text_front = slice_front spot.at (piece_length (rest_at list spot)) spot.end list piece_within

  -- whether it has a newline
  pub piece_newline_is : ltb (newline_at (rest_at list spot)) (spot.end - spot.at) ≡ has_newline (piece_at list spot).text
  piece_newline_is = rw (← rest_length, ← text_front) (newline_within (rest_at list spot) ∙ sym (newline_first (rest_at list spot)))

  -- the pieces from the spot on are the piece there and those behind it
  pub pieces_cons : (behind : Spot) → Passed list spot (piece_end list spot) behind → pieces_at list spot ≡ piece_at list spot ∷ pieces_at list behind
  unfolding pieces_at pieces_of piece_at
  pieces_cons behind passed =
      rw (cut_first (rest_at list spot) (omega (arith, rest_length, standing.some inside)), text_front, drop-drop (piece_length (rest_at list spot)) spot.at (take spot.end list))
      (ap (λ (ps : List Piece). piece_at list spot ∷ ps) (sym passed.pieces))
