-- The walk before the check: where it settles that the tree is accepted the check would pass, and else the check is asked.
--   pass_settled : settles tree walked ≡ true → OnePass options tree room (used_of walked) left
use Rattle.std.specs.Prelude.{Result, Ok, Err}
use Rattle.answers.specs.Numbers.{no_refusal, Answer}
use mathlib.Core.Path.{◌≡◌, refl, sym}
use mathlib.Core.List.{List}
use mathlib.Core.Bool.{true, false}
use Prim.Native.Nat.{ℕ}
use native.Mathlib.Omega.{arith}
use lib.ListN.{length}
use lib.Dec.{eqb}
use borrow.Author.Tests.{eqb-true, le-ltb}
use Rattle.answers.specs.declared.Refusal.{Refusal}
use Rattle.options.specs.Types.{Narrow}
use Rattle.options.specs.declared.FormattingOptions.{FormattingOptions}
use Rattle.text.proofs.Choices.{true_false, and_true_left, and_true_right}
use Rattle.tree.specs.Checking.{read_file, plain_tree, length_checked, end_checked, batch_checked}
use Rattle.tree.specs.declared.grammar.Class.TheVariants.{Tokens}
use Rattle.tree.proofs.Readings.{passed_file, length_failed}
use Rattle.tree.proofs.Plain.{plain_passed}
use Rattle.printing.specs.Running.{Run, going, ended, at_start, room_of}
use Rattle.printing.proofs.Stops.{going_free}
use Rattle.printers.specs.Going.{walked_of}
use Rattle.printers.specs.declared.Walked.{Walked}
use Rattle.events.specs.Trees.{first, file_end, tokens}
use Rattle.events.proofs.Judged.{read_judged}
use Rattle.tokens.specs.Chunks.{file_events, held_with, chunks_answer, RoomHolds, one_pass_with}
use Rattle.tokens.specs.Settling.{file_run, file_walked, settles}
use Rattle.tokens.proofs.Whole.{used_of, whole_walked}

-- what is promised under given options
pub record OnePass (options : FormattingOptions) (tree room : List ℕ) (said : Answer) (left : List ℕ) : Type 0 where
  pub answered : said ≡ chunks_answer (held_with (Ok options) tree (length room))
  pub holds : RoomHolds (held_with (Ok options) tree (length room)) left
  pub whole : left ≡ one_pass_with (Ok options) tree room

-- a list that ends with the tree has nothing behind it
end_passed : (tree : List ℕ) (end : ℕ) → eqb end (length tree) ≡ true → end_checked tree end ≡ no_refusal
end_passed tree end last =
    let whole : end ≡ length tree = eqb-true end (length tree) last in
    rw (le-ltb end (length tree) (omega (arith, whole)))

module _ (options : FormattingOptions) (tree room : List ℕ) where
  -- a tree of a wrong length leaves the room as it was
  pub pass_unsized : (why : Refusal) → length_checked 65535 tree ≡ Err why → OnePass options tree room (Err why) room
  pass_unsized why unsized =
      let failed = length_failed 65535 64 tree why unsized in
      record { answered = rw failed refl; holds = rw failed tt; whole = rw unsized refl }

  -- the walk settles that the tree is accepted: its run met no stop, so reading meets no refusal
  settled_passed : length_checked 65535 tree ≡ no_refusal → settles tree (file_walked options tree room) ≡ true → batch_checked tree ≡ no_refusal
  unfolding settles
  settled_passed sized = go (file_run options tree room) refl
    where
      end : ℕ
      end = (read_file 64 tree).end

      go : (after : Run) → file_run options tree room ≡ after → settles tree (walked_of after end) ≡ true → batch_checked tree ≡ no_refusal
      go (going left state) ran settling =
          passed_file 65535 64 tree (record {
            size = sized;
            layout = read_judged 64 tree Tokens 0 (record { options = options; indent = 0 }) (tokens false first file_end) true
                (going_free (file_events options tree) room at_start (sym ran));
            end = end_passed tree end (and_true_left (eqb end (length tree)) (plain_tree tree) settling);
            texts = plain_passed tree (and_true_right (eqb end (length tree)) (plain_tree tree) settling) 64;
          })
      go (ended left why) ran settling = true_false (sym settling)

  module _ (narrow : Narrow options) (sized : length_checked 65535 tree ≡ no_refusal) {walked : Result Walked Refusal} {left : List ℕ}
      (walks : walked ≡ file_walked options tree room) (stored : left ≡ room_of (file_run options tree room))
    where
      -- the room is as the run leaves it
      run_left : left ≡ one_pass_with (Ok options) tree room
      run_left = rw sized stored

      -- the check passes it
      pub pass_passed : batch_checked tree ≡ no_refusal → OnePass options tree room (used_of walked) left
      pass_passed passed =
          let held = whole_walked options tree room narrow passed walks stored in
          record { answered = held.answered; holds = held.holds; whole = run_left }

      -- so where the walk settles it its own answer is the call's
      pub pass_settled : settles tree walked ≡ true → OnePass options tree room (used_of walked) left
      pass_settled settling = pass_passed (settled_passed sized (rw walks at settling))
