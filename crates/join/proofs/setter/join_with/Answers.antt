-- A list that is not accepted is answered by its refusal; of one that is, the text is measured, and written where it fits.
use mathlib.Core.Path.{refl, sym, ◌∙◌}
use native.Mathlib.Omega.{arith}
use lib.ListN.{length-take}
use lib.Seq.{length-take-le}
use Rattle.std.proofs.lemmas.Result.{err_from_is_err_and}
use Rattle.chunks.specs.Reading.{chunks_of}
use Rattle.chunks.proofs.Judging.{passed_end, passed_short}
use Rattle.columns.specs.Setting.{text_of}
use Rattle.columns.proofs.Promises.{text_faithful, text_long, text_fits_lem}
use Rattle.join.proofs.setter.join_with.Goals as goal

pub returns-in_err-check_chunks : goal.returns-in_err-check_chunks
returns-in_err-check_chunks c =
    let failed = sym c.check_chunks.ensures.answer ∙ c.in_err-check_chunks.was in
    let p = err_from_is_err_and c.from_residual.result c.from_residual.ensures.1 in
    rw (p.1, p.2, failed) (record { answer = refl; buffer = refl; demands = tt })

pub invariant_of-judged : goal.invariant_of-judged
invariant_of-judged c =
    let passed = sym c.check_chunks.ensures.answer ∙ c.in_ok-check_chunks.was in
    record { narrow = c.requires; short = passed_short _ passed; laid = passed_end _ passed }

pub returns-then-text-length : goal.returns-then-text-length
returns-then-text-length c =
    let list = c.args.chunks.now in
    let passed = sym c.check_chunks.ensures.answer ∙ c.in_ok-check_chunks.was in
    let byte = c.type_inv.chunks in
    let faithful = text_faithful c.args.margins list c.requires.label c.requires.code (λ i. omega (arith, byte i)) passed in
    let long = text_long (text_of c.args.margins (chunks_of list)) c.args.text.now _ c.measure_lines-length.ensures.length c.if-text-length.true in
    rw passed (record { answer = long.0; buffer = long.1; demands = faithful })

pub slice_bounds-write_lines-end-2 : goal.slice_bounds-write_lines-end-2
slice_bounds-write_lines-end-2 c = simp length-take (omega arith)

pub write_lines-requires : goal.write_lines-requires
write_lines-requires c =
    let measured = c.measure_lines-length.ensures in
    let size = length-take-le _ _ c.if-text-length.false in
    (size ∙ measured.length, omega (arith, size, measured.small))

pub returns : goal.returns
returns c =
    let list = c.args.chunks.now in
    let passed = sym c.check_chunks.ensures.answer ∙ c.in_ok-check_chunks.was in
    let byte = c.type_inv.chunks in
    let faithful = text_faithful c.args.margins list c.requires.label c.requires.code (λ i. omega (arith, byte i)) passed in
    let text = text_of c.args.margins (chunks_of list) in
    let fits = text_fits_lem text c.args.text.now _ c.measure_lines-length.ensures.length c.if-text-length.false in
    rw (passed, c.write_lines.ensures) (record { answer = fits.0; buffer = fits.1; demands = faithful })
