-- Some item that the iterator has is a comment.
use mathlib.Core.Path.{refl, sym, ap, ◌∙◌}
use Rattle.std.proofs.Common.{rules, tests}
use Rattle.std.specs.List.{list_any}
use Rattle.std.proofs.lemmas.Iterator.Consumers.{YieldsList-from_first}
use Rattle.std.proofs.lemmas.Iterator.Search.{any_from_yields_List}
use Rattle.tree.specs.Parts.{trivia_left}
use Rattle.tree.specs.declared.parts.TriviumSpan.{TriviumSpan}
use Rattle.reading.specs.Places.{has_comment}
use Rattle.leaves.proofs.Spans.{items_read}
use Rattle.losses.proofs.Comments.{is_comment, any_comment}
use Rattle.losses.proofs.uses.has_comment.Goals as goal

pub returns : goal.returns
returns c =
    let tree = c.args.tree.now in
    any_from_yields_List is_comment c.any.new.self _ c.any.result c.any.ensures.ran
    (YieldsList-from_first (λ (item : TriviumSpan). item) trivia_left {s = c.new.result} _ refl) (λ x b q k. search (rules, tests))
    ∙ ap (list_any is_comment) c.new.ensures ∙ any_comment tree _ ∙ ap has_comment (sym (items_read tree c.args.at c.args.count).texts)
