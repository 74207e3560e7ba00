-- Document 01, "Answer numbers, in checking order": the number of each refusal, and for each answer its number with its length or place.
use Rattle.std.specs.Prelude.{ℕ, Result, Ok, Err, cond, eqb}
use Rattle.answers.specs.declared.Reason.{Reason}
use Rattle.answers.specs.declared.Reason.TheVariants.{OptionsLength, OptionsValue, TreeLength, TreeDepth, TreeLayout, ChunkLayout, NotAscii, WorkRoom, TextRoom}
use Rattle.answers.specs.declared.Refusal.{Refusal}

-- the answer of a call that writes a text, and of one that only judges its input
abbrev pub Answer : Type 0
Answer = Result ℕ Refusal

abbrev pub Checked : Type 0
Checked = Result (Unit {0}) Refusal

abbrev pub no_refusal : Checked
no_refusal = Ok tt

abbrev pub number : Reason → ℕ
number OptionsLength = 1
number OptionsValue = 2
number TreeLength = 3
number TreeDepth = 4
number TreeLayout = 5
number ChunkLayout = 6
number NotAscii = 7
number WorkRoom = 8
number TextRoom = 9

-- "A refusal is a number and a place."
abbrev pub numbers_of : Refusal → ℕ × ℕ
numbers_of refusal = (number refusal.reason, refusal.place)

-- "Acceptance is 0 with the text's length"
abbrev pub numbers : Answer → ℕ × ℕ
numbers (Ok length) = (0, length)
numbers (Err refusal) = numbers_of refusal

-- a judgement has no text: where it is passed its number and value are 0
abbrev pub numbers_checked : Checked → ℕ × ℕ
numbers_checked (Ok tt) = (0, 0)
numbers_checked (Err refusal) = numbers_of refusal

-- the same judgement as an answer
abbrev pub answer_of : Checked → Answer
answer_of (Ok tt) = Ok 0
answer_of (Err refusal) = Err refusal

-- two judgements in checking order, as numbers and places: the second counts where the first is passed
abbrev pub unless_refused : ℕ × ℕ → ℕ × ℕ → ℕ × ℕ
unless_refused first next = cond (eqb first.0 0) next first

-- the first refusal in checking order
abbrev pub and_then : Checked → Checked → Checked
and_then (Ok tt) next = next
and_then (Err refusal) next = Err refusal
