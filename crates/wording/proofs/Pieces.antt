-- Laws of lines and their pieces.
use mathlib.Core.Path.{◌≡◌, refl, sym, ap, ◌∙◌}
use mathlib.Core.List.{List, [], ◌∷◌, ◌++◌, map}
use Prim.Native.Nat.{ℕ, zero, suc, ◌+◌, ◌-◌, ◌/◌, ◌%◌, ◌≤◌, ◌<◌}
use Prim.Native.String.{String}
use native.Mathlib.Omega.{arith}
use native.Mathlib.Numerals.{sub-one}
use lib.ListN.{length, get_or, get_or-map, get_or-append}
use lib.Dec.{ltb}
use lib.Seq.{get_or-append_right}
use borrow.Author.Tests.{lt-ltb, le-ltb, lt-leb, ltb-true, ltb-false}
use Rattle.std.specs.Prelude.{Option, Some, None}
use Rattle.std.proofs.lemmas.Grind.{common_steps}
use Rattle.std.proofs.lemmas.List.{map_more}
use Rattle.text.specs.Stores.{fits, stored_end, stored_buffer}
use Rattle.text.specs.Literals.{ascii}
use Rattle.text.proofs.Choices.{by_test}
use Rattle.text.proofs.Parts.{part_slice}
use Rattle.wording.specs.Lines.{Line, line_in, line_of, put, puts, Gets, digits}
use Rattle.wording.specs.declared.lines.Line as lines
use Rattle.wording.specs.Losses.{letter, letters}
use Rattle.wording.specs.Names.{token_kinds, part_kinds, kind_name}

-- pieces behind pieces
pub puts_append : (pieces more : List (List ℕ)) (line : Line) → puts (pieces ++ more) line ≡ puts more (puts pieces line)
unfolding puts
puts_append [] more line = refl
puts_append (piece ∷ pieces) more line = puts_append pieces more (put piece line)

-- a line that gets pieces, and then more
infixr 50 ◌onward◌
pub ◌onward◌ : {before between after : lines.Line} {pieces more : List (List ℕ)}
    → Gets before between pieces → Gets between after more → Gets before after (pieces ++ more)
◌onward◌ {before} {pieces = pieces} {more} one other = record {
  line = other.line ∙ ap (puts more) one.line ∙ sym (puts_append pieces more (line_of before));
  lender = other.lender ∙ one.lender;
}

-- and one that gets none
pub stays : {line : lines.Line} → Gets line line []
unfolding puts
stays = record { line = refl; lender = refl }

-- a store that succeeded
pub put_stored : (buffer : List ℕ) (at : ℕ) (piece : List ℕ) {next : List ℕ} {end : ℕ} → stored_end buffer at piece ≡ Some end
    → next ≡ stored_buffer buffer at piece
    → line_in next end ≡ puts (piece ∷ []) (line_in buffer at)
unfolding put puts
put_stored buffer at piece {next} {end} stored held =
    by_test (fits buffer at piece)
    (λ t. let s : Some (at + length piece) ≡ Some end = rw t at stored in let e : at + length piece ≡ end = cc in rw (held, t, ← e))
    (λ t. let s : None ≡ Some end = rw t at stored in cc)

-- and one for which there was no room
pub put_left : (buffer : List ℕ) (at : ℕ) (piece : List ℕ) {answer : Option ℕ} {next : List ℕ} → answer ≡ stored_end buffer at piece
    → next ≡ stored_buffer buffer at piece
    → ((end : ℕ) → answer ≡ Some end → ⊥) → line_in next at ≡ puts (piece ∷ []) (line_in buffer at)
unfolding put puts
put_left buffer at piece answer held none =
    by_test (fits buffer at piece)
    (λ t. absurd (none (at + length piece) (rw t at answer)))
    (λ t. rw (held, t))

-- an empty piece changes nothing
pub put_empty : (line : Line) → put [] line ≡ line
unfolding put
put_empty line =
    let same : line.used + 0 ≡ line.used = omega arith in
    by_test (fits line.buffer line.used []) (λ t. rw (t, same) refl) (λ t. rw t refl)

-- no piece is put past a buffer's end
pub past_end : (pieces : List (List ℕ)) (buffer : List ℕ) (at : ℕ) → length buffer < at → line_in buffer at ≡ puts pieces (line_in buffer at)
unfolding puts put
past_end [] buffer at past = refl
past_end (piece ∷ pieces) buffer at past =
    rw (lt-leb (at + length piece) (length buffer) (omega arith)) (past_end pieces buffer at past)

-- what joins the pieces of calls
pub ruleset joined = (common_steps, map_more, part_slice, puts_append, put_empty)

-- ---- the digits of a number

-- one is enough
pub digits_few : (most n : ℕ) → (most ≡ 0 → ⊥) → n < 10 → digits most n ≡ ((48 + n % 10) ∷ []) ∷ []
unfolding digits
digits_few zero n some few = absurd (some refl)
digits_few (suc most) n some few = let same : n % 10 ≡ n = omega arith in rw (lt-ltb _ _ few, same)

-- there are more
pub digits_many : (most n : ℕ) → (most ≡ 0 → ⊥) → 10 ≤ n → digits most n ≡ digits (most - 1) (n / 10) ++ ((48 + n % 10) ∷ []) ∷ []
unfolding digits
digits_many zero n some many = absurd (some refl)
digits_many (suc most) n some many = rw (le-ltb _ _ many, sub-one)

-- ---- tables of names

-- the name of an index, or none past the last
pub name_of : (table : List String) (names : List (List ℕ)) (index : ℕ) → names ≡ map ascii table → get_or names index [] ≡ ascii (get_or table index "")
unfolding ascii
name_of table names index tied = rw tied (get_or-map ascii table index "")

-- the tokens, and behind them their parts
pub kind_of : (number : ℕ) → get_or (token_kinds ++ part_kinds) number "" ≡ kind_name number
kind_of number =
    by_test (ltb number 24)
    (λ t. rw t (get_or-append token_kinds part_kinds "" number (ltb-true _ _ t)))
    (λ t. rw t (get_or-append_right token_kinds part_kinds number "" (ltb-false _ _ t)))

-- ---- letters

-- none is left
pub letters_none : (left place bits : ℕ) → left ≤ 0 → letters left place bits ≡ []
unfolding letters
letters_none zero place bits none = refl
letters_none (suc left) place bits none = absurd (omega arith)

-- one is put where its bit stands, and those behind it go on from there
pub letters_next : (left place bits next : ℕ) → left ≡ next + 1 → letters left place bits ≡ letter place (bits % 2) ++ letters next (place + 1) (bits / 2)
unfolding letters
letters_next zero place bits next more = absurd (omega arith)
letters_next (suc left) place bits next more = let same : left ≡ next = omega arith in rw same
