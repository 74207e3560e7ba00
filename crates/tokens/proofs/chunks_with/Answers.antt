-- A tree that is not accepted is refused before anything is pushed; else the walk showed what is held.
use mathlib.Core.Path.{◌≡◌, sym, ◌∙◌}
use Rattle.std.proofs.Common.{rules}
use Rattle.tokens.proofs.Whole.{used_of, whole_walked}
use Rattle.tokens.proofs.chunks_with.Goals as goal

pub returns : goal.returns
returns c =
    let used : c.map.result ≡ used_of c.walk_file.result = search rules in
    let whole = whole_walked _ _ _ c.requires (sym c.check_tree.ensures.answer ∙ c.in_ok-check_tree.was) c.walk_file.ensures.answer c.walk_file.ensures.room in
    record { answer = used ∙ whole.answered; stored = whole.holds; room = whole.whole }
