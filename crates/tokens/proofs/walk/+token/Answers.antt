-- What a printer goes on with is what its calls go on with one behind the other; each call is of fewer levels, or of the same levels from a printer of fields
-- to one of records, or from a list to its items.
use mathlib.Core.Path.{◌≡◌, refl, sym, ap, ◌∙◌}
use Prim.Native.Nat.{◌+◌, ◌-◌}
use native.Mathlib.Omega.{arith}
use Rattle.tree.specs.Tree.{built}
use Rattle.tree.specs.declared.grammar.Kind.TheVariants as variant
use Rattle.printing.specs.Running.{run}
use Rattle.events.specs.Printed.{plain}
use Rattle.events.specs.Views.{bit_at}
use Rattle.events.specs.Trees.{leaf, deeper, events_in}
use Rattle.leaves.specs.Records.{field_trees, fields_end}
use Rattle.leaves.proofs.Classes.{close_brace_leaf}
use Rattle.printers.proofs.Going.{◌onward◌, there, runs_alike, on_page, context_stays}
use Rattle.printers.proofs.Opening.{closed, opened_own, opened_levels, opened_one, opened_kind}
use Rattle.tokens.proofs.Cycle.{inside_goes, plain_kind, token_inside, token_read_lem, tokens_go}
use Rattle.tokens.proofs.Cycle.{block_left, file_left, over_left, one_left, narrow_still, narrow_below, narrow_deeper}
use Rattle.tokens.proofs.Listed.{lead_goes, listed_over, listed_ended, listed_number, listed_read, listed_levels, head_text, listed_goes}
use Rattle.tokens.proofs.Listed.{mnemonic_read, id_read, listed_data}
use Rattle.tokens.proofs.walk.+token.Goals as goal

-- ---- format_block: the opening, the list further in, one newline and the brace are the events of the record that was opened

pub format_block-returns-in_default : goal.format_block-returns-in_default
format_block-returns-in_default t c = closed c.open.ensures (leaf plain) c.in_default.is

pub format_block-overflow_sub-levels : goal.format_block-overflow_sub-levels
format_block-overflow_sub-levels t c = opened_levels c.open.ensures c.in-Some.is

pub format_block-overflow_sub-levels-2 : goal.format_block-overflow_sub-levels-2
format_block-overflow_sub-levels-2 t c = opened_levels c.open.ensures c.in-Some.is

pub format_block-format_tokens-requires : goal.format_block-format_tokens-requires
format_block-format_tokens-requires t c =
    let some = opened_levels c.open.ensures c.in-Some.is in
    let opened = (opened_own c.open.ensures c.in-Some.is).3 onward c.open_block.ensures in
    (omega (arith, some), rw c.deeper-printer.ensures (narrow_deeper opened c.args.levels c.requires some))

pub format_block-overflow_sub-levels-3 : goal.format_block-overflow_sub-levels-3
format_block-overflow_sub-levels-3 t c = opened_levels c.open.ensures c.in-Some.is

pub format_block-returns : goal.format_block-returns
unfolding built field_trees fields_end events_in bit_at
format_block-returns t c =
    let is = c.in-Some.is in
    let further_in = c.deeper-printer.ensures ∙ ap deeper (context_stays c.open_block.ensures) in
    let listed = on_page _ (rw further_in at c.format_tokens.ensures) in
    let closing = c.trim_newlines.ensures.goes onward c.push.ensures.goes onward c.format_leaf.ensures.leaf close_brace_leaf in
    opened_kind c.open.ensures is (leaf plain) variant.Block (opened_one c.open.ensures is variant.Block refl refl refl) refl
    (there (c.open_block.ensures onward listed onward closing) refl refl)

-- ---- format_branches: the first branch, and where there is another what stands between them and that

pub format_branches-format_block-requires : goal.format_branches-format_block-requires
format_branches-format_block-requires t c = (omega arith, c.requires)

pub format_branches-format_block-requires-then-other : goal.format_branches-format_block-requires-then-other
format_branches-format_block-requires-then-other t c =
    (omega arith, narrow_still (c.format_block.ensures onward c.format_else.ensures) c.args.levels c.requires)

pub format_branches-returns-then-other : goal.format_branches-returns-then-other
format_branches-returns-then-other t c =
    rw c.if-other.true (c.format_block.ensures onward c.format_else.ensures onward c.format_block-then-other.ensures)

pub format_branches-returns-else-other : goal.format_branches-returns-else-other
unfolding run
format_branches-returns-else-other t c = rw c.if-other.false (runs_alike c.format_block.ensures (λ x. refl))

-- ---- format_each_token: what goes on with the tokens that are left goes on with all of them

pub format_each_token-loop-init : goal.format_each_token-loop-init
format_each_token-loop-init t c =
    let all : c.args.count - 0 ≡ c.args.count = omega arith in
    (refl, λ after rest. rw all at rest)

pub format_each_token-format_listed_token-before-requires : goal.format_each_token-format_listed_token-before-requires
format_each_token-format_listed_token-before-requires t c =
    let some = c.requires.levels_nonzero in
    let narrow = c.requires.narrow in
    (omega (arith, some), rw c.loop.invariant.0 (narrow.0, omega (arith, narrow.1)))

pub format_each_token-returns-then-is_none : goal.format_each_token-returns-then-is_none
format_each_token-returns-then-is_none t c =
    let listed = c.format_listed_token-before.ensures in
    c.loop.invariant.1 _
    (over_left _ _ c.loop.before _ _ (omega (arith, c.loop-test.true)) (rw c.drops_newlines.ensures at listed.goes) listed.kind
    (rw c.if-is_none.true at c.is_none.ensures))

pub format_each_token-loop-preserved : goal.format_each_token-loop-preserved
format_each_token-loop-preserved t c =
    let listed = c.format_listed_token-before.ensures in
    let fewer : c.args.count - (c.loop.counter + 1) ≡ c.args.count - c.loop.counter - 1 = omega arith in (
      context_stays listed.goes ∙ c.loop.invariant.0,
      λ after rest. c.loop.invariant.1 after
          (one_left _ _ c.loop.before _ _ (omega (arith, c.loop-test.true)) (rw c.drops_newlines.ensures at listed.goes) listed.kind
          (rw c.if-is_none.false at c.is_none.ensures) (rw fewer at rest)),
    )

pub format_each_token-returns-then-block : goal.format_each_token-returns-then-block
format_each_token-returns-then-block t c =
    c.loop.invariant.1 _
    (block_left _ _ c.loop.before _ (omega (arith, c.loop-test.false)) c.if-block.true (rw c.drops_newlines-then-block.ensures at c.format_lead_out.ensures))

pub format_each_token-returns-else-block : goal.format_each_token-returns-else-block
format_each_token-returns-else-block t c = c.loop.invariant.1 _ (file_left _ _ c.loop.before _ (omega (arith, c.loop-test.false)) c.if-block.false)

-- ---- format_inner: what stands before the part inside a token and that part are all its fields

pub format_inner-returns-in_default : goal.format_inner-returns-in_default
format_inner-returns-in_default t c = λ small. c.format_plain_token.ensures (plain_kind _ _ small (sym c.inner_of.ensures ∙ c.in_default.is))

pub format_inner-format_block-requires : goal.format_inner-format_block-requires
format_inner-format_block-requires t c = (omega arith, narrow_still c.format_token_front.ensures c.args.levels c.requires.narrow)

pub format_inner-format_token-requires : goal.format_inner-format_token-requires
format_inner-format_token-requires t c =
    let is = rw c.in-Token.is at (sym c.inner_of.ensures ∙ c.in-Some.is) in
    (omega arith, (narrow_still c.format_token_front.ensures c.args.levels c.requires.narrow, token_inside _ _ _ _ is))

pub format_inner-format_branches-requires : goal.format_inner-format_branches-requires
format_inner-format_branches-requires t c = (omega arith, narrow_still c.format_token_front.ensures c.args.levels c.requires.narrow)

pub format_inner-returns-in-Block : goal.format_inner-returns-in-Block
format_inner-returns-in-Block t c =
    let is = rw c.in-Block.is at (sym c.inner_of.ensures ∙ c.in-Some.is) in
    λ small. inside_goes _ _ _ c.requires.ends c.format_token_front.ensures is c.format_block.ensures

pub format_inner-returns-in-Token : goal.format_inner-returns-in-Token
format_inner-returns-in-Token t c =
    let is = rw c.in-Token.is at (sym c.inner_of.ensures ∙ c.in-Some.is) in
    λ small. inside_goes _ _ _ c.requires.ends c.format_token_front.ensures is c.format_token.ensures

pub format_inner-returns-in-Branches : goal.format_inner-returns-in-Branches
format_inner-returns-in-Branches t c =
    let is = rw c.in-Branches.is at (sym c.inner_of.ensures ∙ c.in-Some.is) in
    λ small. inside_goes _ _ _ c.requires.ends c.format_token_front.ensures is c.format_branches.ensures

-- ---- format_listed_token: the lead-in has read the token, and the walk goes on behind its own bytes, or from its head on where that was read for it

pub format_listed_token-returns-in_err-lead-clause-goes : goal.format_listed_token-returns-in_err-lead-clause-goes
format_listed_token-returns-in_err-lead-clause-goes t c = listed_over c.format_lead_in.ensures c.in_err-lead.was

pub format_listed_token-returns-in_err-lead-clause-kind : goal.format_listed_token-returns-in_err-lead-clause-kind
format_listed_token-returns-in_err-lead-clause-kind t c = rw c.from_residual.ensures (listed_ended c.format_lead_in.ensures c.in_err-lead.was)

pub format_listed_token-overflow_sub-below : goal.format_listed_token-overflow_sub-below
format_listed_token-overflow_sub-below t c = listed_levels c.format_lead_in.ensures c.in_ok-lead.was

pub format_listed_token-format_listed_instruction-requires : goal.format_listed_token-format_listed_instruction-requires
format_listed_token-format_listed_instruction-requires t c = head_text c.format_lead_in.ensures c.in_ok-lead.was

pub format_listed_token-format_listed_data-requires : goal.format_listed_token-format_listed_data-requires
format_listed_token-format_listed_data-requires t c = head_text c.format_lead_in.ensures c.in_ok-lead.was

pub format_listed_token-format_listed_label-requires : goal.format_listed_token-format_listed_label-requires
format_listed_token-format_listed_label-requires t c = head_text c.format_lead_in.ensures c.in_ok-lead.was

pub format_listed_token-format_block-requires : goal.format_listed_token-format_block-requires
format_listed_token-format_block-requires t c =
    let leads = c.format_lead_in.ensures in
    let is = c.in_ok-lead.was in
    let some = listed_levels leads is in
    let front = c.format_listed_label.ensures _ (id_read leads is c.in-Label.is) in
    (omega (arith, some), narrow_below (lead_goes leads is onward front) c.args.levels c.requires)

pub format_listed_token-format_inner-requires : goal.format_listed_token-format_inner-requires
format_listed_token-format_inner-requires t c =
    let leads = c.format_lead_in.ensures in
    let is = c.in_ok-lead.was in
    let some = listed_levels leads is in
    (omega (arith, some), (narrow_below (lead_goes leads is) c.args.levels c.requires, (listed_read leads is).ends))

pub format_listed_token-returns-in-Instruction-clause-goes : goal.format_listed_token-returns-in-Instruction-clause-goes
unfolding built field_trees fields_end events_in bit_at run
format_listed_token-returns-in-Instruction-clause-goes t c =
    let leads = c.format_lead_in.ensures in
    let is = c.in_ok-lead.was in
    let kind = c.in-Instruction.is in
    listed_goes leads is variant.Instruction kind refl (c.format_listed_instruction.ensures _ (mnemonic_read leads is kind)) (λ x. refl) refl

pub format_listed_token-returns-in-Instruction-clause-kind : goal.format_listed_token-returns-in-Instruction-clause-kind
format_listed_token-returns-in-Instruction-clause-kind t c = listed_number c.format_lead_in.ensures c.in_ok-lead.was

pub format_listed_token-returns-in-Data-clause-goes : goal.format_listed_token-returns-in-Data-clause-goes
format_listed_token-returns-in-Data-clause-goes t c = listed_data c.format_lead_in.ensures c.in_ok-lead.was c.in-Data.is c.format_listed_data.ensures

pub format_listed_token-returns-in-Data-clause-kind : goal.format_listed_token-returns-in-Data-clause-kind
format_listed_token-returns-in-Data-clause-kind t c = listed_number c.format_lead_in.ensures c.in_ok-lead.was

pub format_listed_token-returns-in-Label-clause-goes : goal.format_listed_token-returns-in-Label-clause-goes
unfolding built field_trees fields_end events_in bit_at run
format_listed_token-returns-in-Label-clause-goes t c =
    let leads = c.format_lead_in.ensures in
    let is = c.in_ok-lead.was in
    let kind = c.in-Label.is in
    let block = rw c.stands.ensures at c.format_block.ensures in
    listed_goes leads is variant.Label kind refl (c.format_listed_label.ensures _ (id_read leads is kind) onward block) (λ x. refl) refl

pub format_listed_token-returns-in-Label-clause-kind : goal.format_listed_token-returns-in-Label-clause-kind
format_listed_token-returns-in-Label-clause-kind t c = listed_number c.format_lead_in.ensures c.in_ok-lead.was

pub format_listed_token-returns-in_default : goal.format_listed_token-returns-in_default
format_listed_token-returns-in_default t c =
    let leads = c.format_lead_in.ensures in
    let is = c.in_ok-lead.was in
    let token = listed_read leads is in
    record { goes = listed_goes leads is _ refl token.fielded (c.format_inner.ensures token.small) (λ x. refl) refl; kind = listed_number leads is }

-- ---- format_token: the walk goes on behind the own bytes of the token that was opened

pub format_token-returns-in_default : goal.format_token-returns-in_default
format_token-returns-in_default t c = closed c.open.ensures (leaf plain) c.in_default.is

pub format_token-overflow_sub-levels : goal.format_token-overflow_sub-levels
format_token-overflow_sub-levels t c = opened_levels c.open.ensures c.in-Some.is

pub format_token-format_inner-requires : goal.format_token-format_inner-requires
format_token-format_inner-requires t c =
    let some = opened_levels c.open.ensures c.in-Some.is in
    let opened = opened_own c.open.ensures c.in-Some.is in
    let narrow = narrow_below opened.3 c.args.levels c.requires.narrow in
    (omega (arith, some), (narrow, (token_read_lem _ _ _ _ _ c.requires.token opened.1).ends))

pub format_token-returns : goal.format_token-returns
format_token-returns t c =
    let is = c.in-Some.is in
    let token = token_read_lem _ _ _ _ _ c.requires.token (opened_own c.open.ensures is).1 in
    opened_kind c.open.ensures is (leaf plain) _ refl token.fielded (rw c.requires.token.2 (c.format_inner.ensures token.small))

-- ---- format_tokens: the tokens of the list that was opened are its events

pub format_tokens-returns-in_default : goal.format_tokens-returns-in_default
format_tokens-returns-in_default t c = there (closed c.open.ensures _ c.in_default.is) refl refl

pub format_tokens-format_each_token-requires : goal.format_tokens-format_each_token-requires
format_tokens-format_each_token-requires t c =
    let some = opened_levels c.open.ensures c.in-Some.is in
    (omega (arith, some), (narrow_still (opened_own c.open.ensures c.in-Some.is).3 c.args.levels c.requires, some))

pub format_tokens-returns : goal.format_tokens-returns
format_tokens-returns t c = tokens_go c.open.ensures c.in-Some.is c.args.block c.format_each_token.ensures
