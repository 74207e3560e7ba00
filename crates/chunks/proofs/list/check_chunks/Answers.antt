-- The length is judged first, then where the chunks end, and then the texts.
use Rattle.std.proofs.Common.{arith, sym, ◌∙◌}
use Rattle.answers.proofs.Numbers.{judged_numbers}
use Rattle.chunks.proofs.Judging.{too_long, layout_failed, judged_texts, texts_all}
use Rattle.chunks.proofs.Numbers.{list_numbers_lem}
use Rattle.chunks.proofs.list.check_chunks.Goals as goal

pub returns-then-length-gt-LONGEST : goal.returns-then-length-gt-LONGEST
returns-then-length-gt-LONGEST c =
    let told = judged_numbers (list_numbers_lem _) (sym (too_long c.args.list.now (omega arith))) in
    record { answer = told.0; numbers = told.1 }

pub returns-then-end-length : goal.returns-then-end-length
returns-then-end-length c =
    let told = judged_numbers (list_numbers_lem _) (sym (layout_failed c.args.list.now (omega arith) c.layout_end-end.ensures c.if-end-length.true)) in
    record { answer = told.0; numbers = told.1 }

pub returns-then-is_accepted : goal.returns-then-is_accepted
returns-then-is_accepted c =
    let texts = judged_texts c.args.list.now (omega arith) (sym c.layout_end-end.ensures ∙ c.if-end-length.false) in
    let told = judged_numbers (list_numbers_lem _) (sym (texts ∙ texts_all _ _ (sym c.is_accepted.ensures ∙ c.if-is_accepted.true))) in
    record { answer = told.0; numbers = told.1 }

pub returns : goal.returns
returns c =
    let texts = judged_texts c.args.list.now (omega arith) (sym c.layout_end-end.ensures ∙ c.if-end-length.false) in
    let told = judged_numbers (list_numbers_lem _) (c.check_texts.ensures ∙ sym texts) in
    record { answer = told.0; numbers = told.1 }
