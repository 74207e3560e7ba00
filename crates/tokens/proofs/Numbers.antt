-- The answer of the walk has the number and the value of document 01's table.
use mathlib.Core.Path.{◌≡◌, refl, ap, ◌∙◌}
use Rattle.answers.specs.Numbers.{numbers, Answer}
use Rattle.printing.specs.Holding.{Held, held, refused}
use Rattle.tokens.specs.Chunks.{chunks_answer, numbers_held}

chunks_numbers_lem : (found : Held) → numbers (chunks_answer found) ≡ numbers_held found
unfolding numbers_held
chunks_numbers_lem (held chunks pending) = refl
chunks_numbers_lem (refused why) = refl

pub held_numbers : {said : Answer} (found : Held) → said ≡ chunks_answer found → numbers said ≡ numbers_held found
held_numbers found is = ap numbers is ∙ chunks_numbers_lem found
