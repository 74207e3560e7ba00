-- A call that writes a text: what it comes to before the text buffer is looked at, and then whether the text fits.
use Rattle.std.specs.Prelude.{ℕ, List, ◌++◌, cond, length, drop, leb, Ok, Err}
use Rattle.answers.specs.declared.Reason.TheVariants.{TextRoom}
use Rattle.answers.specs.declared.Refusal.{Refusal}
use Rattle.answers.specs.Numbers.{Answer, numbers_of}

-- a text, or the refusal that comes before it
pub data Outcome : Type 0 where
  text : List ℕ → Outcome
  refusal : Refusal → Outcome

-- the answer in a buffer of so many bytes: "The text is longer than its buffer; place is the text's length."
abbrev pub answer_in : Outcome → ℕ → Answer
answer_in (text bytes) room = cond (leb (length bytes) room) (Ok (length bytes)) (Err (record { reason = TextRoom; place = length bytes }))
answer_in (refusal why) room = Err why

-- the buffer afterwards: "the text fills the buffer's start and the rest keeps its bytes"; a refusal leaves all of it
abbrev pub buffer_after : Outcome → List ℕ → List ℕ
buffer_after (text bytes) buffer = cond (leb (length bytes) (length buffer)) (bytes ++ drop (length bytes) buffer) buffer
buffer_after (refusal why) buffer = buffer

-- the answer's number and value by document 01's table: 0 with the text's length; 9 with that length where it is more than the buffer has; or the refusal's
unfoldable pub numbers_in : Outcome → ℕ → ℕ × ℕ
numbers_in (text bytes) room = (cond (leb (length bytes) room) 0 9, length bytes)
numbers_in (refusal why) room = numbers_of why
