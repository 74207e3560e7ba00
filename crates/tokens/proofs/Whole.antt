-- The walk over a whole tree leaves the chunks that are held, or ends with the refusal that holding them meets.
--   whole_walked : .. batch_checked tree ≡ no_refusal → Whole options tree room (used_of walked) left
use Rattle.std.specs.Prelude.{Result, Ok, Err}
use Rattle.answers.specs.Numbers.{no_refusal, Answer}
use mathlib.Core.Path.{◌≡◌, refl, ap}
use mathlib.Core.List.{List, [], reverse}
use mathlib.Core.Bool.{false}
use Prim.Native.Nat.{ℕ}
use native.Mathlib.Omega.{arith}
use lib.ListN.{length, take, length-take}
use Rattle.answers.specs.declared.Refusal.{Refusal}
use Rattle.options.specs.Types.{Narrow}
use Rattle.options.specs.declared.FormattingOptions.{FormattingOptions}
use Rattle.chunks.specs.Stored.{stored_list}
use Rattle.tree.specs.Checking.{read_file, batch_checked}
use Rattle.tree.proofs.Limits.{length_passed}
use Rattle.tree.proofs.Readings.{file_passed}
use Rattle.printing.specs.Running.{Run, going, ended, room_of}
use Rattle.printing.specs.Holding.{Held, held, refused, hold, Same}
use Rattle.printing.proofs.Holding.{holds_nothing, same}
use Rattle.printers.specs.Going.{walked_of}
use Rattle.printers.specs.declared.Walked.{Walked}
use Rattle.events.proofs.Storable.{file_storable}
use Rattle.events.proofs.Accepted.{file_accepted}
use Rattle.tokens.specs.Chunks.{file_events, held_with, chunks_answer, RoomHolds, room_with}
use Rattle.tokens.specs.Settling.{file_run, file_walked}

-- what is promised under given options
pub record Whole (options : FormattingOptions) (tree room : List ℕ) (said : Answer) (left : List ℕ) : Type 0 where
  pub answered : said ≡ chunks_answer (held_with (Ok options) tree (length room))
  pub holds : RoomHolds (held_with (Ok options) tree (length room)) left
  pub whole : left ≡ room_with (Ok options) tree room

-- what a walk that went on, or ended, answers
abbrev pub used_of : Result Walked Refusal → Answer
used_of (Ok walked) = Ok walked.used
used_of (Err why) = Err why

module _ (options : FormattingOptions) (tree room : List ℕ) (narrow : Narrow options) (passed : batch_checked tree ≡ no_refusal) where
  -- the run agrees with what is held
  agrees : Same (length room) (file_run options tree room) (hold (length room) (file_events options tree) (held [] false))
  agrees =
      let file = file_passed 65535 64 tree passed in
      same (file_events options tree)
      (file_storable 64 tree (length_passed 65535 tree file.size) options (omega arith) narrow.indent) (holds_nothing room)

  -- so what the walk says of its run is what is held, or why holding was refused
  pub whole_walked : {walked : Result Walked Refusal} {left : List ℕ} → walked ≡ file_walked options tree room → left ≡ room_of (file_run options tree room)
      → Whole options tree room (used_of walked) left
  whole_walked walks stored = rw (walks, stored) (go (file_run options tree room) (hold (length room) (file_events options tree) (held [] false)) refl refl agrees)
    where
      go : (after : Run) (chunks : Held) → file_run options tree room ≡ after → hold (length room) (file_events options tree) (held [] false) ≡ chunks
          → Same (length room) after chunks → Whole options tree room (used_of (walked_of after (read_file 64 tree).end)) (room_of after)
      go (going left state) (held chunks pending) ran is both =
          let here = both.1 in
          let used : state.used ≡ length (stored_list (reverse chunks)) =
          rw (← here.stored) (omega (arith, length-take state.used left, here.fits)) in
          let part : take (length (stored_list (reverse chunks))) left ≡ stored_list (reverse chunks) = rw used at here.stored in
          record {
            answered = rw (passed, is) (ap Ok used);
            holds = rw (passed, is) (part, file_accepted tree options (length room) passed narrow.indent is);
            whole = rw (passed, ran) refl;
          }
      go (going left state) (refused why) ran is both = absurd both
      go (ended left why) (held chunks pending) ran is both = absurd both
      go (ended left why) (refused reason) ran is both =
          record { answered = rw (passed, is) (ap Err both.1); holds = rw (passed, is) tt; whole = rw (passed, ran) refl }
