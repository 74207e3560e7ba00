-- Laws of the tokens' printers: what goes on with what stands before the part inside a token and with that part goes on with the token; a token list goes on
-- item by item; and what the own bytes of a token say of it.
use Rattle.std.specs.Prelude.{Option, Some, None, Ok}
use mathlib.Core.Path.{◌≡◌, refl, sym, ap, ◌∙◌}
use mathlib.Core.List.{List, []}
use mathlib.Core.Bool.{Bool, true, false}
use Prim.Native.Nat.{ℕ, zero, suc, ◌-◌, ◌/◌, ◌%◌, ◌<◌, ◌≤◌}
use lib.ListN.{get_or}
use lib.Dec.{eqb}
use native.Mathlib.Omega.{arith}
use borrow.Author.Tests.{eqb-true, ne_eqb}
use Rattle.std.proofs.Common.{is_some}
use Rattle.text.proofs.Choices.{by_test, no_other}
use Rattle.options.specs.declared.BracePosition.{BracePosition}
use Rattle.options.specs.declared.BracePosition.TheVariants.{SameLine, NewLine}
use Rattle.tree.specs.Tree.{built, chain}
use Rattle.tree.specs.Grammar.{rule, fields}
use Rattle.tree.specs.Own.{read_own}
use Rattle.tree.specs.Reading.{read}
use Rattle.tree.specs.declared.grammar.Class.{Class}
use Rattle.tree.specs.declared.grammar.Class.TheVariants.{Word, BareToken, LocatedToken, BlockRecord, LocatedExpression, Tokens, CloseBrace}
use Rattle.tree.specs.declared.grammar.Kind.{Kind}
use Rattle.tree.specs.declared.grammar.Kind.TheVariants as variant
use Rattle.tree.specs.declared.own.Own.{Own}
use Rattle.tree.specs.Grammar.{kind_number}
use Rattle.tree.proofs.KindLayout.{kind_number_lem}
use Rattle.tree.proofs.OwnBytes.{leaf_number}
use Rattle.printing.specs.Events.{Events, ◌▹◌}
use Rattle.printing.specs.Running.{Run, run, Shown}
use Rattle.printing.specs.declared.Context.{Context}
use Rattle.printing.specs.Running.{Printed}
use Rattle.printing.proofs.Running.{alike}
use Rattle.events.specs.Printed.{plain}
use Rattle.events.specs.Trees.{first, behind, tokens, leaf, deeper, else_events, block_end, closing_events, events_in}
use Rattle.events.specs.Views.{token_number, bit_at}
use Rattle.events.proofs.OwnParts.{both_stand, record_headed, record_fields}
use Rattle.leaves.specs.Lists.{item_trees, items_end}
use Rattle.leaves.specs.Records.{field_trees, fields_end}
use Rattle.leaves.proofs.Fielded.{bare, standing_range, list_read}
use Rattle.printers.specs.declared.Printer.{Printer}
use Rattle.printers.specs.Going.{Page, page_of, Goes}
use Rattle.printers.specs.Records.{GoesField, GoesNode, Opens}
use Rattle.printers.proofs.Going.{◌onward◌, there, runs_alike, stays, over_then, context_stays}
use Rattle.printers.proofs.Opening.{opened_own, opened_by_number, opened_as}
use Rattle.leads.specs.Leads.{before_of}
use Rattle.expressions.proofs.Stands.{field_stands}
use Rattle.tokens.specs.Fronts.{is_plain, front_events, front_end, GoesFront}
use Rattle.tokens.specs.Inner.{TokenClass, inner_of, Ends, Narrow, else_front, branch_events, branches_end, dropping, listed_events, GoesListed, KindIs}
use Rattle.tokens.specs.Tokens.{closing_at, GoesTokens, each_events}
use Rattle.tokens.specs.declared.walk.Inner.{Inner}
use Rattle.tokens.specs.declared.walk.Inner.TheVariants.{Block, Token, Branches}

-- ---- by the position of braces

-- one of two
pub same_line : (position : BracePosition) → (position ≡ NewLine → ⊥) → position ≡ SameLine
same_line SameLine other = refl
same_line NewLine other = absurd (other refl)

-- what goes on at a position goes on at that of the context
pub at_position : {before after : Printer} {position : BracePosition} (events : Context → BracePosition → Events → Events) {part : Page → ℕ → Events}
    {end : Page → ℕ → ℕ} → before.context.options.braces.position ≡ position → Goes before after (λ page at. events page.context position (part page at)) end
    → Goes before after (λ page at. events page.context page.context.options.braces.position (part page at)) end
at_position {before} events {part} is goes = there goes (sym (ap (λ position. events before.context position (part (page_of before) before.at)) is)) refl

-- the tag between branches, and the one behind it
pub else_alike : (context : Context) (position : BracePosition) (tag block : Events) (x : Run)
    → run (else_front context position tag ▹ block) x ≡ run (else_events context position tag block) x
unfolding run
else_alike context SameLine tag block x = refl
else_alike context NewLine tag block x = refl

-- ---- what is inside a token

-- what goes on behind the first fields of a kind
abbrev Inside : Printer → Printer → Kind → Option Inner → ℕ → ℕ → Type 0
Inside between after kind None bits levels = GoesNode between after kind bits levels
Inside between after kind (Some (Block on)) bits levels = GoesField between after (leaf plain) true levels BlockRecord on
Inside between after kind (Some (Token on class)) bits levels = GoesField between after (leaf plain) true levels class on
Inside between after kind (Some (Branches other)) bits levels =
    Goes between after (λ page at. branch_events page.context other (read levels page.tree) at) (λ page at. branches_end other (read levels page.tree) at)

-- both branches of an `If`, or only the first, are its last fields
if_shown : (context : Context) (levels : ℕ) (bytes : List ℕ) (bits at : ℕ) {answer : Printed} {left : List ℕ} {before : Run} → bit_at 3 bits ≡ bit_at 4 bits
    → Shown answer left
    (front_events context (read levels bytes) at variant.If
    ▹ branch_events context (bit_at 3 bits) (read levels bytes) (front_end (read levels bytes) at variant.If)) before
    (branches_end (bit_at 3 bits) (read levels bytes) (front_end (read levels bytes) at variant.If))
    → Shown answer left
    (events_in context (leaf plain) true (built variant.If [] (field_trees (read levels bytes) (fields variant.If LocatedExpression) bits at))) before
    (fields_end (read levels bytes) (fields variant.If LocatedExpression) bits at)
unfolding built field_trees fields_end events_in bit_at run
if_shown context levels bytes bits at ends shown =
    let here = eqb (((bits / 2) / 2) / 2 % 2) 1 in
    let then = (read levels bytes BlockRecord (front_end (read levels bytes) at variant.If)).end in
    let tag = events_in context (leaf plain) true (read levels bytes Word then).tree in
    let other = events_in context (leaf plain) true (read levels bytes BlockRecord (read levels bytes Word then).end).tree in
    rw (field_stands here levels bytes Word then, ← ends)
    (by_test here
    (λ on. rw on (alike (λ x. else_alike context context.options.braces.position tag other _) (rw on at shown)))
    (λ off. rw off (alike (λ x. refl) (rw off at shown))))

-- of each kind these are all its fields
all_fields : {before between after : Printer} (kind : Kind) (bits levels : ℕ) → Ends kind bits → GoesFront before between kind levels
    → Inside between after kind (inner_of kind bits) bits levels → GoesNode before after kind bits levels
unfolding built field_trees fields_end events_in bit_at run
all_fields {before} variant.If bits levels ends front inside =
    let goes = front onward inside in
    record { page = goes.page; room = goes.room; shown = if_shown before.context levels before.tree.now bits before.at (ends refl) goes.shown }
all_fields other bits levels ends front inside = runs_alike (front onward inside) (λ x. refl)

pub inside_goes : {before between after : Printer} (kind : Kind) (bits levels : ℕ) {inner : Option Inner} → Ends kind bits
    → GoesFront before between kind levels → inner_of kind bits ≡ inner → Inside between after kind inner bits levels → GoesNode before after kind bits levels
inside_goes kind bits levels ends front is inside = all_fields kind bits levels ends front (rw is inside)

-- a token with nothing inside is one of the others
pub plain_kind : (kind : Kind) (bits : ℕ) → kind_number kind ≤ 23 → inner_of kind bits ≡ None → is_plain kind ≡ true
unfolding built
plain_kind variant.Align bits small none = refl
plain_kind other bits small none = grind arith

-- ---- what the own bytes of a token say of it

-- the class of a token inside another is one of tokens
pub token_inside : (kind : Kind) (bits : ℕ) (stands : Bool) (class : Class) → inner_of kind bits ≡ Some (Token stands class) → TokenClass class
token_inside variant.ConfigPair bits stands class is = let same : LocatedToken ≡ class = cc in rw (← same) (refl, refl, refl)
token_inside variant.Definition bits stands class is = let same : BareToken ≡ class = cc in rw (← same) (refl, refl, refl)
token_inside other bits stands class is = first_of (cc, search)

-- neither lists nor leaves
no_list : (number : ℕ) → number ≤ 23 → (eqb number 24 ≡ false) × (leaf_number number ≡ false)
no_list number small = (
  ne_eqb number 24 (λ is. omega (arith, is, small)),
  rw (ne_eqb number 25 (λ is. omega (arith, is, small)), ne_eqb number 26 (λ is. omega (arith, is, small))) refl,
)

-- what is known of a token whose own bytes were read: its number is one of a token, and its map fits that
pub record TokenRead (own : Own) : Type 0 where
  pub small : kind_number own.kind ≤ 23
  pub fielded : bare own.kind ≡ false
  pub ends : Ends own.kind (own.map / 2)

pub token_read_lem : (class : Class) (bytes : List ℕ) (at levels : ℕ) (own : Own) → TokenClass class → read_own bytes at class levels ≡ Ok own → TokenRead own
unfolding built
token_read_lem class bytes at levels own token is =
    let headed = (record_headed bytes at class levels own is).1 in
    let number = kind_number_lem (get_or bytes at 0) own.kind headed.kind_is in
    let range = (standing_range (rule class) (get_or bytes at 0) token.0 headed.standing).1 in
    let small : get_or bytes at 0 ≤ 23 = omega (arith, range, token.1) in
    let other = no_list (get_or bytes at 0) small in
    let fits = (record_fields bytes at class levels own is other.0).ends other.1 in
    record {
      small = rw number small;
      fielded = rw (number, other.0, other.1) refl;
      ends = λ one. let ten : get_or bytes at 0 ≡ 10 = sym number ∙ ap kind_number one in both_stand (own.map / 2) (rw ten at fits);
    }

-- ---- a token list

module _ {before between : Printer} {levels : ℕ} {found : Option Own} (opens : Opens before between true levels Tokens true found) {own : Own}
    (is : found ≡ Some own)
  where
    -- what was opened as one is one
    list_is : own.kind ≡ variant.Vec
    list_is =
        let headed = (record_headed before.tree.now before.at Tokens levels own (opened_own opens is).1).1 in
        let number = kind_number_lem (get_or before.tree.now before.at 0) own.kind headed.kind_is in
        let same : get_or before.tree.now before.at 0 ≡ 24 =
        by_test (eqb (get_or before.tree.now before.at 0) 24) (λ q. eqb-true _ _ q) (λ other. no_other 24 _ (rw other at headed.standing)) in
        opened_by_number opens is 24 variant.Vec (number ∙ same) refl

    -- what goes on with its tokens goes on with the list
    pub tokens_go : {after : Printer} (block : Bool)
        → Goes between after (λ page at. each_events page.context block levels page.tree own.count at)
        (λ page at. items_end (read (levels - 1) page.tree) BareToken own.count at)
        → GoesTokens before after block levels
    unfolding events_in built
    tokens_go block goes =
        let tree = (read levels before.tree.now Tokens before.at).tree in
        let end = items_end (read (levels - 1) before.tree.now) BareToken own.count own.end in
        let there_is = list_read before.tree.now Tokens BareToken before.at levels own (opened_own opens is).1 list_is refl in
        there
        (opened_as opens is (tokens block first (closing_at block levels before.tree.now end))
        (λ at read. list_read before.tree.now Tokens BareToken at levels own read list_is refl) goes refl refl)
        (ap (λ end. events_in before.context (tokens block first (closing_at block levels before.tree.now end)) true tree) (sym there_is.1)) refl

-- ---- token by token

-- the tokens that are left
abbrev pub GoesRest : Printer → Printer → Bool → ℕ → Option Kind → ℕ → Type 0
GoesRest before after block levels stood left =
    Goes before after
    (λ page at.
    let end = items_end (read (levels - 1) page.tree) BareToken left at in
    let place = tokens (dropping block stood) (before_of stood) (closing_at block levels page.tree end) in
    events_in page.context place true (chain (item_trees (read (levels - 1) page.tree) BareToken left at)))
    (λ page at. items_end (read (levels - 1) page.tree) BareToken left at)

module _ {before between : Printer} (block : Bool) (levels : ℕ) (stood : Option Kind) where
  -- none is left: the end of a block
  pub block_left : (left : ℕ) → left ≤ 0 → block ≡ true
      → Goes before between
      (λ page at. closing_events page.context (dropping block stood) (before_of stood) (block_end (read levels page.tree CloseBrace at).tree)) (λ page at. at)
      → GoesRest before between block levels stood left
  unfolding events_in chain item_trees items_end
  block_left zero none on goes = rw on (rw on at goes)
  block_left (suc left) none on goes = absurd (omega arith)

  -- one is gone on with: the walk ends there
  pub over_left : (left : ℕ) (now : Option Kind) → 0 < left → GoesListed before between (dropping block stood) (before_of stood) (levels - 1)
      → KindIs before between (levels - 1) now → is_some now ≡ false → GoesRest before between block levels stood left
  unfolding events_in chain item_trees items_end run
  over_left zero now some one named none = absurd (omega arith)
  over_left (suc left) (Some kind) some one named none = cc
  over_left (suc left) None some one over none =
      let others : Page → ℕ → Events = (λ page at.
      let reader = read (levels - 1) page.tree in
      let closing = closing_at block levels page.tree (items_end reader BareToken (suc left) at) in
      let place = tokens false (behind (token_number (reader BareToken at).tree)) closing in
      events_in page.context place true (chain (item_trees reader BareToken left (reader BareToken at).end))) in
      runs_alike (over_then {next = others} one over) (λ x. refl)

  -- or those behind it go on
  pub one_left : {after : Printer} (left : ℕ) (now : Option Kind) → 0 < left → GoesListed before between (dropping block stood) (before_of stood) (levels - 1)
      → KindIs before between (levels - 1) now → is_some now ≡ true → GoesRest between after block levels now (left - 1)
      → GoesRest before after block levels stood left
  unfolding events_in chain item_trees items_end run
  one_left zero now some one named none rest = absurd (omega arith)
  one_left (suc left) None some one named none rest = cc
  one_left (suc left) (Some kind) some one named none rest =
      let fewer : suc left - 1 ≡ left = omega arith in
      let reader = read (levels - 1) before.tree.now in
      let next = (reader BareToken before.at).end in
      let closing = closing_at block levels before.tree.now (items_end reader BareToken left next) in
      let listed = listed_events before.context (dropping block stood) (before_of stood) (reader BareToken before.at).tree in
      let others : ℕ → Events = (λ number.
      events_in before.context (tokens false (behind number) closing) true (chain (item_trees reader BareToken left next))) in
      runs_alike (one onward (rw fewer at rest)) (λ x. ap (λ (number : ℕ). run (others number) (run listed x)) (sym named))

-- and of a file nothing
pub file_left : {printer : Printer} (block : Bool) (levels : ℕ) (stood : Option Kind) (left : ℕ) → left ≤ 0 → block ≡ false
    → GoesRest printer printer block levels stood left
unfolding events_in chain item_trees items_end
file_left block levels stood zero none off = rw off stays
file_left block levels stood (suc left) none off = absurd (omega arith)

-- ---- how far in

module _ {before after : Printer} {events : Page → ℕ → Events} {end : Page → ℕ → ℕ} (goes : Goes before after events end) (levels : ℕ)
    (narrow : Narrow before.context levels)
  where
    -- there is room for a block as before
    pub narrow_still : Narrow after.context levels
    narrow_still = rw (context_stays goes) narrow

    -- so there is a level below
    pub narrow_below : Narrow after.context (levels - 1)
    narrow_below = rw (context_stays goes) (narrow.0, omega (arith, narrow.1))

    -- and further in
    pub narrow_deeper : 0 < levels → Narrow (deeper after.context) (levels - 1)
    narrow_deeper some = rw (context_stays goes) (narrow.0, omega (arith, some, narrow.0, narrow.1))
