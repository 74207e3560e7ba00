-- How long a sentence is: no refusal's has more than 200 bytes, so a line of 256 has room for every one.
use mathlib.Core.Path.{◌≡◌}
use mathlib.Core.List.{List, [], ◌∷◌, ◌++◌}
use Prim.Native.Nat.{ℕ, zero, suc, ◌+◌, ◌/◌, ◌%◌, ◌≤◌}
use native.Mathlib.Omega.{arith}
use lib.Dec.{ltb, leb}
use lib.ListN.{length, get_or, length-append}
use Rattle.answers.specs.Numbers.{number}
use Rattle.answers.specs.declared.Refusal.{Refusal}
use Rattle.answers.specs.declared.Reason.{Reason}
use Rattle.answers.specs.declared.Reason.TheVariants.{OptionsLength, OptionsValue, TreeLength, TreeDepth, TreeLayout, ChunkLayout, NotAscii, WorkRoom, TextRoom}
use Rattle.text.specs.Ink.{flat}
use Rattle.text.specs.Literals.{ascii}
use Rattle.text.proofs.Choices.{by_test}
use Rattle.wording.specs.Lines.{say, digits, decimal}
use Rattle.wording.specs.Names.{reasons}
use Rattle.wording.specs.Sentences.{standing, limited, in_options, in_tree, at_push, meaning, named, sentence}

-- how many bytes pieces have
abbrev size : List (List ℕ) → ℕ
size pieces = length (flat pieces)

-- pieces behind pieces have as many as both
size_append : (pieces more : List (List ℕ)) → size (pieces ++ more) ≡ size pieces + size more
unfolding flat
size_append [] more = omega arith
size_append (piece ∷ pieces) more =
    omega (arith, length-append piece (flat (pieces ++ more)), length-append piece (flat pieces), size_append pieces more)

-- a number has at most as many digits as may stand
size_digits : (most n : ℕ) → size (digits most n) ≤ most
unfolding flat digits
size_digits zero n = omega arith
size_digits (suc most) n =
    by_test (ltb n 10) (λ t. rw t (omega arith))
    (λ t. rw t (omega (arith, size_append (digits most (n / 10)) (((48 + n % 10) ∷ []) ∷ []), size_digits most (n / 10))))

-- what stands at a place
size_standing : (input : List ℕ) (place : ℕ) → size (standing input place) ≤ 40
unfolding flat ascii
size_standing input place =
    let number = decimal (get_or input place 0) in
    by_test (leb (length input) place) (λ t. rw t (omega arith))
    (λ t. rw t (omega (arith, size_append (say ", where byte ") (number ++ say " stands"), size_append number (say " stands"), size_digits 20 (get_or input place 0))))

-- a limit
size_limited : (limit : ℕ) → size (limited limit) ≤ 39
unfolding flat ascii
size_limited limit = omega (arith, size_append (say ", and the limit is ") (decimal limit), size_digits 20 limit)

-- a name
size_name : (reason : Reason) → size (say (get_or reasons (number reason) "")) ≤ 14
unfolding flat ascii
size_name OptionsLength = omega arith
size_name OptionsValue = omega arith
size_name TreeLength = omega arith
size_name TreeDepth = omega arith
size_name TreeLayout = omega arith
size_name ChunkLayout = omega arith
size_name NotAscii = omega arith
size_name WorkRoom = omega arith
size_name TextRoom = omega arith

-- a number and a name
size_named : (reason : Reason) → size (named reason) ≤ 44
unfolding flat ascii
size_named reason =
    let name = say (get_or reasons (number reason) "") in
    let digits = decimal (number reason) in
    omega (
      arith,
      size_append (say "Refusal ") (digits ++ (say ", " ++ name)),
      size_append digits (say ", " ++ name),
      size_append (say ", ") name,
      size_digits 20 (number reason),
      size_name reason,
    )

module _ (place : ℕ) (tree options : List ℕ) (work text : ℕ) where
  in_options_lem : size (in_options options place) ≤ 123
  unfolding flat ascii
  in_options_lem = omega (arith, size_append (say " of the options") (standing options place), size_standing options place)

  in_tree_lem : size (in_tree tree place) ≤ 123
  unfolding flat ascii
  in_tree_lem = omega (arith, size_append (say " of the tree") (standing tree place), size_standing tree place)

  -- what a place means
  size_meaning : (reason : Reason) → size (meaning reason place tree options work text) ≤ 123
  unfolding flat ascii
  size_meaning OptionsLength = in_options_lem
  size_meaning OptionsValue = in_options_lem
  size_meaning TreeLength = in_tree_lem
  size_meaning TreeDepth = in_tree_lem
  size_meaning TreeLayout = in_tree_lem
  size_meaning ChunkLayout = omega arith
  size_meaning NotAscii = in_tree_lem
  size_meaning WorkRoom = omega (arith, size_append at_push (limited work), size_limited work)
  size_meaning TextRoom = omega (arith, size_append (say " is how many bytes the text needs") (limited text), size_limited text)

-- the whole sentence
pub size_sentence : (refusal : Refusal) (tree options : List ℕ) (work text : ℕ) → length (flat (sentence refusal tree options work text)) ≤ 200
unfolding flat ascii
size_sentence refusal tree options work text =
    let front = named refusal.reason in
    let place = decimal refusal.place in
    let means = meaning refusal.reason refusal.place tree options work text in
    omega (
      arith,
      size_append front (say ": place " ++ (place ++ (means ++ say ".\n"))),
      size_append (say ": place ") (place ++ (means ++ say ".\n")),
      size_append place (means ++ say ".\n"),
      size_append means (say ".\n"),
      size_named refusal.reason,
      size_digits 20 refusal.place,
      size_meaning refusal.place tree options work text refusal.reason,
    )
