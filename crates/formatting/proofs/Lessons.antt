-- The tree call comes to what its definition says, and keeps demand 3: by the walk's promise and the column setter's alone.
--   refused_lesson : a tree that the walk refuses; joined_lesson : one whose chunks the setter joins
use Rattle.std.specs.Prelude.{Result, Ok, Err}
use Rattle.answers.specs.Numbers.{no_refusal, Answer, Checked}
use mathlib.Core.Path.{◌≡◌, refl, sym, ap, ◌∙◌}
use mathlib.Core.List.{List, [], reverse}
use mathlib.Core.Bool.{Bool, false}
use Prim.Native.Nat.{ℕ, ◌≤◌}
use native.Mathlib.Omega.{arith}
use lib.ListN.{length, take, length-take}
use Rattle.answers.specs.Texts.{refusal, answer_in, buffer_after}
use Rattle.answers.specs.declared.Refusal.{Refusal}
use Rattle.options.specs.Stored.{read_options}
use Rattle.options.specs.declared.FormattingOptions.{FormattingOptions}
use Rattle.text.specs.Ink.{inks}
use Rattle.chunks.specs.Stored.{Chunk, stored_list}
use Rattle.chunks.specs.Reading.{chunks_of}
use Rattle.tree.specs.Checking.{batch_checked}
use Rattle.tree.proofs.Readings.{file_passed}
use Rattle.printing.specs.Holding.{Held, held, refused, hold}
use Rattle.printing.proofs.Held.{hold_ink}
use Rattle.events.specs.Accepted.{Acceptable}
use Rattle.reading.proofs.Files.{file_ink, file_ink_eight}
use Rattle.columns.specs.Setting.{join_outcome}
use Rattle.columns.specs.Promise.{Promised, Faithful}
use Rattle.tokens.specs.Chunks.{file_events, held_unless, chunks_held, chunks_answer, RoomHolds}
use Rattle.formatting.specs.Formatting.{formatted}
use Rattle.formatting.specs.Demands.{Kept, LessonUnder, Lesson}

-- two answers, or two that are held, of different cases are not equal
accepted_refused : {R : Type 0} {used : ℕ} {why : Refusal} → Ok used ≡ Err why → R
accepted_refused e = let z : ◌≡◌ {A = ℕ} 0 1 = cc in absurd (omega arith)

refused_held : {R : Type 0} {why : Refusal} {chunks : List Chunk} {pending : Bool} → refused why ≡ held chunks pending → R
refused_held e = let z : ◌≡◌ {A = ℕ} 0 1 = cc in absurd (omega arith)

module _ (tree options : List ℕ) (size : ℕ) where
  -- ---- a walk that was refused

  -- the tree call is refused for the same
  refused_as : (why : Refusal) (found : Result FormattingOptions Refusal) → read_options options ≡ found → chunks_held tree options size ≡ refused why → formatted tree options size ≡ refusal why
  unfolding formatted chunks_held
  refused_as why (Ok chosen) is e = rw (e, is) refl
  refused_as why (Err reason) is e = let same : refused reason ≡ refused why = rw is at e in let one : reason ≡ why = cc in rw (is, one) refl

  -- what is held of it
  refused_by : (why : Refusal) (found : Held) → Err why ≡ chunks_answer found → found ≡ refused why
  refused_by why (held chunks pending) e = accepted_refused (sym e)
  refused_by why (refused reason) e = let one : why ≡ reason = cc in ap refused (sym one)

  -- there is nothing to promise of a refusal
  no_lesson : (why : Refusal) (found : Result FormattingOptions Refusal) → LessonUnder tree found (refusal why)
  no_lesson why (Ok chosen) = tt
  no_lesson why (Err reason) = tt

  -- what is promised of the call, under the name of its answer and of the buffer afterwards
  pub record Formats (said : Answer) (before after : List ℕ) : Type 0 where
    pub answered : said ≡ answer_in (formatted tree options size) (length before)
    pub buffer : after ≡ buffer_after (formatted tree options size) before
    pub lesson : Lesson tree options (formatted tree options size)

  -- a refusal is handed on, and the buffer is as before
  pub refused_lesson : {said : Answer} {why : Refusal} {before : List ℕ} → said ≡ chunks_answer (chunks_held tree options size) → said ≡ Err why
      → Formats said before before
  refused_lesson {said} {why} says is =
      let known = refused_as why _ refl (refused_by why _ (sym is ∙ says)) in
      record { answered = rw (known, is) refl; buffer = rw known refl; lesson = rw known (no_lesson why (read_options options)) }

  -- ---- a walk that was accepted

  -- what is known of it
  record Walked (used : ℕ) (left : List ℕ) : Type 0 where
    chosen : FormattingOptions
    chunks : List Chunk
    pending : Bool
    read : read_options options ≡ Ok chosen
    passed : batch_checked tree ≡ no_refusal
    holds : hold size (file_events chosen tree) (held [] false) ≡ held chunks pending
    whole : chunks_held tree options size ≡ held chunks pending
    count : used ≡ length (stored_list (reverse chunks))
    part : take used left ≡ stored_list (reverse chunks)
    acceptable : Acceptable (reverse chunks)

  -- the check passed
  held_passed : (found : Checked) (those : Held) {chunks : List Chunk} {pending : Bool} → held_unless found those ≡ held chunks pending
      → (found ≡ no_refusal) × (those ≡ held chunks pending)
  held_passed (Ok tt) those e = (refl, e)
  held_passed (Err why) those e = refused_held e

  module _ {used : ℕ} {left : List ℕ} where
    -- the options were read
    walked_read : (found : Result FormattingOptions Refusal) → read_options options ≡ found → (chunks : List Chunk) (pending : Bool) → chunks_held tree options size ≡ held chunks pending
        → ◌≡◌ {A = Answer} (Ok used) (Ok (length (stored_list (reverse chunks))))
        → (take (length (stored_list (reverse chunks))) left ≡ stored_list (reverse chunks)) × Acceptable (reverse chunks) → Walked used left
    unfolding chunks_held
    walked_read (Err reason) is chunks pending e counted room = refused_held (rw is at e)
    walked_read (Ok chosen) is chunks pending e counted room =
        let known = held_passed (batch_checked tree) (hold size (file_events chosen tree) (held [] false)) (rw is at e) in
        let count : used ≡ length (stored_list (reverse chunks)) = cc in
        record {
          chosen = chosen;
          chunks = chunks;
          pending = pending;
          read = is;
          passed = known.0;
          holds = known.1;
          whole = e;
          count = count;
          part = rw count room.0;
          acceptable = room.1;
        }

    -- chunks are held
    walked_held : (found : Held) → chunks_held tree options size ≡ found → Ok used ≡ chunks_answer found → RoomHolds found left → Walked used left
    walked_held (held chunks pending) is says room = walked_read _ refl chunks pending is says room
    walked_held (refused why) is says room = accepted_refused says

  module _ (left : List ℕ) {said : Answer} {used : ℕ} (says : said ≡ chunks_answer (chunks_held tree options size)) (is : said ≡ Ok used)
      (room : RoomHolds (chunks_held tree options size) left)
    where
      walked : Walked used left
      walked = walked_held _ refl (sym is ∙ says) room

      -- no more is used than the room has
      pub used_fits : used ≤ length left
      used_fits =
          let counted : length (take used left) ≡ length (stored_list (reverse walked.chunks)) = ap length walked.part in
          omega (arith, length-take used left, walked.count)

      -- the setter comes to what the definition says
      joins_to : join_outcome (take used left) options ≡ formatted tree options size
      unfolding join_outcome formatted
      joins_to = rw (walked.part, walked.read, walked.acceptable.checked, walked.acceptable.restored, walked.whole) refl

      -- the chunks that it reads are those that are held
      same_chunks : chunks_of (take used left) ≡ reverse walked.chunks
      same_chunks = rw walked.part walked.acceptable.restored

      -- demand 3
      lesson_kept : (bytes : List ℕ) → Faithful (reverse walked.chunks) bytes → Kept tree walked.chosen bytes
      unfolding inks
      lesson_kept bytes faithful =
          let file = file_passed 65535 64 tree walked.passed in
          let pushed = faithful.ink ∙ hold_ink size (file_events walked.chosen tree) [] false walked.holds in
          record {
            inked = λ none. pushed ∙ file_ink_eight _ 64 tree file.layout none;
            seven = λ none. pushed ∙ file_ink _ 64 tree file.layout none;
            blanks = faithful.blanks;
            empties = faithful.empties;
            short = faithful.short;
          }

      -- so what the setter promises is what the call does
      pub joined_lesson : {last : Answer} {before after : List ℕ} → last ≡ answer_in (join_outcome (take used left) options) (length before)
          → after ≡ buffer_after (join_outcome (take used left) options) before → Promised (chunks_of (take used left)) (join_outcome (take used left) options)
          → Formats last before after
      unfolding formatted
      joined_lesson answered buffer promised =
          let kept : Promised (reverse walked.chunks) (formatted tree options size) = rw (joins_to, same_chunks) at promised in
          record {
            answered = rw (← joins_to) answered;
            buffer = rw (← joins_to) buffer;
            lesson = rw (walked.read, walked.whole) (lesson_kept _ (rw (walked.read, walked.whole) at kept));
          }
