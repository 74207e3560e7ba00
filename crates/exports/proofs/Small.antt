-- The length or place of each call's answer is below 2^32.
use Rattle.std.specs.Prelude.{Option, Result, Some, None, Ok, Err}
use Rattle.answers.specs.declared.Refusal.{Refusal}
use Rattle.options.specs.declared.FormattingOptions.{FormattingOptions}
use mathlib.Core.Path.{◌≡◌, sym}
use mathlib.Core.List.{List, reverse}
use Prim.Native.Nat.{ℕ, ◌<◌, ◌≤◌}
use native.Mathlib.Omega.{arith}
use lib.ListN.{length}
use lib.Dec.{leb}
use Rattle.answers.specs.Numbers.{answer_of, Answer, Checked}
use Rattle.answers.specs.Texts.{text, answer_in}
use Rattle.options.specs.Stored.{read_options}
use Rattle.text.proofs.Choices.{cond_both}
use Rattle.chunks.specs.Stored.{Chunk, stored_list}
use Rattle.chunks.specs.Reading.{chunks_of}
use Rattle.chunks.specs.Judging.{chunks_checked}
use Rattle.chunks.proofs.Judging.{passed_short}
use Rattle.columns.specs.Setting.{margins_of, text_of, unless_failed, outcome_on, join_outcome}
use Rattle.columns.specs.Promise.{Promised}
use Rattle.tree.specs.Checking.{read_file, batch_checked}
use Rattle.tree.specs.Tree.{Tree}
use Rattle.printing.specs.Holding.{Held, held, refused}
use Rattle.tokens.specs.Chunks.{chunks_held, chunks_answer, RoomHolds}
use Rattle.formatting.specs.Formatting.{outcome_of, formatted}
use Rattle.formatting.specs.Demands.{LessonUnder, Lesson}
use Rattle.losses.specs.Lost.{Firsts, firsts_in, least_of, Lost, answer_with, lost_on, lost_from, loss_answer, Narrow}
use Rattle.losses.specs.declared.search.Loss.{Loss}
use Rattle.exports.specs.Packed.{Small}
use Rattle.exports.proofs.Within.{Within}
use Rattle.exports.proofs.ListPlaces.{ReadWithin, list_within, options_within}
use Rattle.exports.proofs.TreePlaces.{tree_within}
use Rattle.exports.proofs.RoomPlaces.{HeldWithin, held_within}

-- ---- what each call comes to

text_small : (bytes : List ℕ) (room : ℕ) → length bytes < 4294967296 → Small (answer_in (text bytes) room)
text_small bytes room short = cond_both Small (leb (length bytes) room) _ _ (λ fits. short) (λ longer. short)

checked_small : (checked : Checked) → Within 65535 checked → Small (answer_of checked)
checked_small (Ok tt) within = omega arith
checked_small (Err why) within = omega (arith, within)

held_small : (found : Held) (room : List ℕ) → HeldWithin found → RoomHolds found room → Small (chunks_answer found)
held_small (held chunks pending) room within holds = omega (arith, passed_short (stored_list (reverse chunks)) holds.1.checked)
held_small (refused why) room within holds = omega (arith, within)

format_small : (tree : List ℕ) (found : Result FormattingOptions Refusal) (chunks : Held) (room : ℕ) → ReadWithin found → HeldWithin chunks
    → LessonUnder tree found (outcome_of found chunks) → Small (answer_in (outcome_of found chunks) room)
format_small tree (Ok options) (held chunks pending) room within fits kept = text_small (text_of (margins_of options) (reverse chunks)) room kept.short
format_small tree (Ok options) (refused why) room within fits kept = omega (arith, fits)
format_small tree (Err why) chunks room within fits kept = omega (arith, within)

judged_small : (chunks : List Chunk) (bytes : List ℕ) (checked : Checked) (room : ℕ) → Within 1048576 checked
    → Promised chunks (unless_failed checked bytes) → Small (answer_in (unless_failed checked bytes) room)
judged_small chunks bytes (Ok tt) room within kept = text_small bytes room kept.short
judged_small chunks bytes (Err why) room within kept = omega (arith, within)

join_small : (list : List ℕ) (found : Result FormattingOptions Refusal) (room : ℕ) → ReadWithin found → Promised (chunks_of list) (outcome_on found list)
    → Small (answer_in (outcome_on found list) room)
join_small list (Ok options) room within kept =
    judged_small (chunks_of list) (text_of (margins_of options) (chunks_of list)) (chunks_checked list) room (list_within list) kept
join_small list (Err why) room within kept = omega (arith, within)

-- ---- the answers

pub check_answer : (answer : Answer) (tree : List ℕ) → answer ≡ answer_of (batch_checked tree) → Small answer
check_answer answer tree is = rw is (checked_small (batch_checked tree) (tree_within tree))

pub chunks_answer_lem : (answer : Answer) (tree options room : List ℕ) (size : ℕ) → answer ≡ chunks_answer (chunks_held tree options size)
    → RoomHolds (chunks_held tree options size) room → Small answer
chunks_answer_lem answer tree options room size is holds = rw is (held_small (chunks_held tree options size) room (held_within tree options size) holds)

pub format_answer : (answer : Answer) (tree options : List ℕ) (size room : ℕ) → answer ≡ answer_in (formatted tree options size) room
    → Lesson tree options (formatted tree options size) → Small answer
unfolding formatted
format_answer answer tree options size room is lesson =
    rw is (format_small tree (read_options options) (chunks_held tree options size) room (options_within options) (held_within tree options size) lesson)

pub join_answer : (answer : Answer) (list options : List ℕ) (room : ℕ) → answer ≡ answer_in (join_outcome list options) room
    → Promised (chunks_of list) (join_outcome list options) → Small answer
unfolding join_outcome
join_answer answer list options room is promised = rw is (join_small list (read_options options) room (options_within options) promised)

-- ---- a loss

-- the offset and the letters of one
pub loss_narrow : {lost : Lost} {loss : Loss} → Narrow lost → lost ≡ Ok (Some loss) → (loss.place ≤ 65535) × (1 ≤ loss.letters) × (loss.letters ≤ 255)
loss_narrow narrow is = rw is at narrow

loss_small : (firsts : Firsts) (least : Option ℕ) → Narrow (Ok (answer_with firsts least)) → Small (loss_answer (Ok (answer_with firsts least)))
loss_small firsts None narrow = omega arith
loss_small firsts (Some at) narrow = omega (arith, narrow.0, narrow.2)

lost_on_small : (from : ℕ) (tree : Tree) (checked : Checked) → Within 65535 checked → Narrow (lost_on from tree checked) → Small (loss_answer (lost_on from tree checked))
lost_on_small from tree (Ok tt) within narrow = loss_small (firsts_in from tree) (least_of (firsts_in from tree)) narrow
lost_on_small from tree (Err why) within narrow = omega (arith, within)

pub lost_answer : (from : ℕ) (bytes : List ℕ) (lost : Lost) → lost ≡ lost_from from bytes → Narrow lost → Small (loss_answer lost)
unfolding lost_from
lost_answer from bytes lost is narrow =
    let same : Narrow (lost_from from bytes) = rw (sym is) narrow in
    rw is (lost_on_small from (read_file 64 bytes).tree (batch_checked bytes) (tree_within bytes) same)
