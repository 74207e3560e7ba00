-- Laws of what stands before a token: what is met on the way to its head is the refusal of reading it, and the trivia of a head that was read are its own.
use Rattle.std.specs.Prelude.{Result, Ok, Err}
use mathlib.Core.Path.{◌≡◌, refl, sym, ap, ◌∙◌}
use mathlib.Core.List.{List}
use mathlib.Core.Bool.{Bool, false}
use Prim.Native.Nat.{ℕ, ◌/◌}
use lib.ListN.{get_or}
use Rattle.answers.specs.Numbers.{no_refusal, numbers_of, unless_refused}
use Rattle.answers.proofs.Numbers.{refused_number}
use Rattle.answers.specs.declared.Refusal.{Refusal}
use Rattle.tree.specs.Own.{read_own, numbers_own, own_numbers}
use Rattle.tree.proofs.Numbers.{own_numbers_lem}
use Rattle.tree.specs.Parts.{head_on, head_at}
use Rattle.tree.specs.Reading.{read}
use Rattle.tree.specs.declared.grammar.Class.TheVariants.{BareToken}
use Rattle.tree.specs.declared.own.Own.{Own}
use Rattle.tree.specs.declared.parts.Head.{Head}
use Rattle.tree.proofs.Heads.{kind_read}
use Rattle.tree.specs.Grammar.{kind_number}
use Rattle.tree.proofs.KindLayout.{kind_number_lem}
use Rattle.tree.proofs.OwnBytes.{own_fits}
use Rattle.printing.specs.Events.{nothing, ◌▹◌}
use Rattle.printing.specs.Running.{run}
use Rattle.events.specs.Views.{block_bit, head_trivia}
use Rattle.events.specs.Refusals.{head_refusal}
use Rattle.events.specs.Trees.{Before, list_trivia, break_before}
use Rattle.events.proofs.Heads.{head_missing, head_refused, head_read, number_read, block_read}
use Rattle.leaves.specs.Items.{items_at}
use Rattle.leaves.proofs.Leaves.{own_items}
use Rattle.printers.specs.Going.{GoesExact}
use Rattle.printers.specs.declared.Printer.{Printer}
use Rattle.printers.proofs.Exact.{exact_alike}
use Rattle.leads.specs.Leads.{lead_in, head_own, lead_on, token_read}
use Rattle.leads.specs.declared.Lead.{Lead}

lead_parts : (token head : Result Own Refusal) (lead : Lead) → lead_on token head ≡ Ok lead → (token ≡ Ok lead.token) × (head ≡ Ok lead.head)
lead_parts (Ok token) (Ok head) lead is = (cc, cc)
lead_parts (Ok token) (Err why) lead is = cc
lead_parts (Err why) head lead is = cc

head_alone : (token : Own) (head : Result Own Refusal) (why : Refusal) → lead_on (Ok token) head ≡ Err why → head ≡ Err why
head_alone token (Ok head) why is = cc
head_alone token (Err other) why is = cc

-- the numbers of what was read, and that they are those of one reading behind the other
abbrev pub numbers_read : Result Lead Refusal → ℕ × ℕ
numbers_read (Ok lead) = (0, lead.token.end)
numbers_read (Err why) = numbers_of why

read_numbers : (token head : Result Own Refusal) → numbers_read (lead_on token head) ≡ unless_refused (numbers_own token) (unless_refused (numbers_own head) (numbers_own token))
read_numbers (Ok token) (Ok head) = refl
read_numbers (Ok token) (Err why) = rw (refused_number why.reason) refl
read_numbers (Err why) head = rw (refused_number why.reason) refl

module _ (levels : ℕ) (bytes : List ℕ) (at : ℕ) where
  pub token_numbers : {found : Result Lead Refusal} → token_read levels bytes at ≡ found
      → numbers_read found ≡ unless_refused (own_numbers bytes at BareToken levels)
      (unless_refused (numbers_own (head_own bytes (head_at levels bytes BareToken at))) (own_numbers bytes at BareToken levels))
  token_numbers is =
      ap numbers_read (sym is) ∙ read_numbers (read_own bytes at BareToken levels) (head_own bytes (head_at levels bytes BareToken at))
      ∙ rw (own_numbers_lem bytes at BareToken levels) refl

  head_parts : (found : Result Head Refusal) (own : Own) → head_own bytes found ≡ Ok own
      → (head : Head) × (found ≡ Ok head) × (read_own bytes head.place head.class head.levels ≡ Ok own)
  head_parts (Ok head) own is = (head, refl, is)
  head_parts (Err why) own is = cc

  -- a token that was read, in its parts
  pub token_parts : (lead : Lead) → token_read levels bytes at ≡ Ok lead
      → (read_own bytes at BareToken levels ≡ Ok lead.token)
      × (head : Head) × (head_at levels bytes BareToken at ≡ Ok head) × (read_own bytes head.place head.class head.levels ≡ Ok lead.head)
  token_parts lead is =
      let parts = lead_parts (read_own bytes at BareToken levels) (head_own bytes (head_at levels bytes BareToken at)) lead is in
      let found = head_parts (head_at levels bytes BareToken at) lead.head parts.1 in
      (parts.0, found.0, found.1, found.2)

  -- nothing is met on the way to its head, whose trivia are its own
  token_known : (lead : Lead) → token_read levels bytes at ≡ Ok lead
      → (head_refusal (read levels bytes BareToken at).tree ≡ no_refusal)
      × (head_trivia (read levels bytes BareToken at).tree ≡ items_at bytes lead.head.trivia lead.head.trivia_count)
  token_known lead is =
      let parts = token_parts lead is in
      let head = parts.1 in
      let met = head_read bytes BareToken false refl levels at head lead.head parts.2 parts.3 in
      let items = own_items bytes head.place lead.head {found = Ok lead.head} (own_fits bytes head.place head.class head.levels lead.head parts.3) refl in
      (met.0, met.1 ∙ sym items)

  refused_in : (token : Result Own Refusal) (found : Result Head Refusal) (why : Refusal) → read_own bytes at BareToken levels ≡ token
      → head_at levels bytes BareToken at ≡ found → lead_on token (head_own bytes found) ≡ Err why
      → head_refusal (read levels bytes BareToken at).tree ≡ Err why
  unfolding head_at
  refused_in (Err other) found why reads finds is =
      head_missing bytes BareToken false refl levels at why (ap (head_on levels bytes BareToken at) reads ∙ cc)
  refused_in (Ok token) (Err other) why reads finds is = head_missing bytes BareToken false refl levels at why (finds ∙ cc)
  refused_in (Ok token) (Ok head) why reads finds is = head_refused bytes BareToken false refl levels at head why finds (head_alone token _ why is)

  -- the refusal of a token that was not read is what is met
  pub token_refused : (why : Refusal) → token_read levels bytes at ≡ Err why → head_refusal (read levels bytes BareToken at).tree ≡ Err why
  token_refused why is = refused_in (read_own bytes at BareToken levels) (head_at levels bytes BareToken at) why refl refl is

-- the trivia and the newline by what was read are those of the token's tree
pub lead_goes : {before after : Printer} (drops : Bool) (stood : Before) (levels : ℕ) (lead : Lead) {block : Bool}
    → token_read levels before.tree.now before.at ≡ Ok lead → block ≡ block_bit (kind_number lead.token.kind) (lead.token.map / 2)
    → GoesExact before after
    (λ page at.
    list_trivia page.context drops (items_at page.tree lead.head.trivia lead.head.trivia_count)
    ▹ break_before page.context stood (kind_number lead.token.kind) block ▹ nothing)
    (λ page at. lead.token.end)
    → GoesExact before after (λ page at. lead_in page.context drops stood (read levels page.tree BareToken at).tree) (λ page at. lead.token.end)
unfolding run
lead_goes {before} drops stood levels lead is blocked done =
    let bytes = before.tree.now in
    let token = lead.token in
    let known = token_known levels bytes before.at lead is in
    let reads = (token_parts levels bytes before.at lead is).0 in
    let number = kind_number_lem (get_or bytes before.at 0) token.kind (kind_read bytes before.at BareToken levels token reads) in
    exact_alike done
    (λ x. rw (
      known.0,
      known.1,
      number_read levels bytes BareToken before.at token reads,
      block_read levels bytes BareToken before.at token reads,
      ← number,
      ← blocked,
    ))
