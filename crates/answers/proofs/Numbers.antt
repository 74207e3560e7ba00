-- What an answer is by its definition has the number and the value of document 01's table.
--   numbers_in_lem : of a call that writes a text; judged_numbers : of one that judges
--   then_numbers, chosen_numbers : of two judgements in checking order, and of a choice
use Rattle.std.specs.Prelude.{Ok, Err}
use mathlib.Core.Path.{◌≡◌, refl, ap, ◌∙◌}
use mathlib.Core.Bool.{Bool, true, false, cond}
use Prim.Native.Nat.{ℕ}
use lib.ListN.{length}
use lib.Dec.{eqb, leb}
use Rattle.answers.specs.Numbers.{Answer, Checked, number, numbers, numbers_checked, unless_refused, and_then}
use Rattle.answers.specs.Texts.{Outcome, text, refusal, answer_in, numbers_in}
use Rattle.answers.specs.declared.Reason.{Reason}
use Rattle.answers.specs.declared.Reason.TheVariants.{OptionsLength, OptionsValue, TreeLength, TreeDepth, TreeLayout, ChunkLayout, NotAscii, WorkRoom, TextRoom}

-- ---- an answer with a text

-- a text that fits or does not
fits_numbers : (fits : Bool) (size : ℕ) → numbers (cond fits (Ok size) (Err (record { reason = TextRoom; place = size }))) ≡ (cond fits 0 9, size)
fits_numbers true size = refl
fits_numbers false size = refl

-- of the outcome of a call
outcome_numbers : (outcome : Outcome) (room : ℕ) → numbers (answer_in outcome room) ≡ numbers_in outcome room
unfolding numbers_in
outcome_numbers (text bytes) room = fits_numbers (leb (length bytes) room) (length bytes)
outcome_numbers (refusal why) room = refl

-- so an answer that is known has them
pub numbers_in_lem : {said : Answer} (outcome : Outcome) (room : ℕ) → said ≡ answer_in outcome room → numbers said ≡ numbers_in outcome room
numbers_in_lem outcome room is = ap numbers is ∙ outcome_numbers outcome room

-- ---- a judgement

-- no refusal has the number of acceptance
pub refused_number : (reason : Reason) → eqb (number reason) 0 ≡ false
refused_number OptionsLength = refl
refused_number OptionsValue = refl
refused_number TreeLength = refl
refused_number TreeDepth = refl
refused_number TreeLayout = refl
refused_number ChunkLayout = refl
refused_number NotAscii = refl
refused_number WorkRoom = refl
refused_number TextRoom = refl

-- the first refusal in checking order has the first numbers that are not 0
pub then_numbers : (first next : Checked) → numbers_checked (and_then first next) ≡ unless_refused (numbers_checked first) (numbers_checked next)
then_numbers (Ok tt) next = refl
then_numbers (Err why) next = rw (refused_number why.reason) refl

-- a choice of two judgements has the numbers of the one chosen
pub chosen_numbers : (test : Bool) (taken left : Checked)
    → numbers_checked (cond test taken left) ≡ cond test (numbers_checked taken) (numbers_checked left)
chosen_numbers true taken left = refl
chosen_numbers false taken left = refl

-- a judgement that is known, with the numbers of its definition
pub judged_numbers : {said found : Checked} {table : ℕ × ℕ} → numbers_checked found ≡ table → said ≡ found → (said ≡ found) × (numbers_checked said ≡ table)
judged_numbers known is = (is, ap numbers_checked is ∙ known)
