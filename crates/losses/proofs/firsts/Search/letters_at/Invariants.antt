-- The letters so far and those of the places that are left are all letters; each bit is twice the one before it.
use Rattle.losses.proofs.Letters.{LettersSoFar}
use Rattle.losses.proofs.firsts.Search.letters_at.Given as goal

abbrev pub invariant-loop-first : goal.invariant-loop-first
invariant-loop-first l = LettersSoFar l.self.firsts l.at l.first-index l.bit l.letters
