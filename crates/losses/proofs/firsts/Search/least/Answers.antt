-- Of the offsets that stand the least is taken.
use Rattle.std.proofs.Common.{rules, tests, sym, ◌∙◌}
use Rattle.std.proofs.lemmas.Iterator.{YieldsList-from_slice}
use Rattle.std.proofs.lemmas.Iterator.Adapters.{option_map_id}
use Rattle.std.proofs.lemmas.Iterator.Consumers.{min_from_yields_List, YieldsList-from_filter_map}
use Rattle.losses.proofs.Letters.{least_lem}
use Rattle.losses.proofs.firsts.Search.least.Goals as goal

pub returns : goal.returns
returns c =
    let firsts = c.args.self.now.firsts in
    sym (option_map_id c.min.result)
    ∙ min_from_yields_List _ c.min.result c.min.ensures.ran
    (YieldsList-from_filter_map _ (λ x. x) (YieldsList-from_slice firsts cc) c.filter_map.ensures.closure (λ x r q k. search (rules, tests)))
    ∙ least_lem firsts
