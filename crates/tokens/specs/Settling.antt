-- Not part of any promise of this crate: what a walk says by itself, before a check.
use Rattle.std.specs.Prelude.{ℕ, List, Bool, false, ◌&&◌, length, eqb, Result, Ok, Err}
use Rattle.answers.specs.declared.Refusal.{Refusal}
use Rattle.options.specs.declared.FormattingOptions.{FormattingOptions}
use Rattle.tree.specs.Checking.{read_file, plain_tree}
use Rattle.printing.specs.Running.{Run, going, at_start, run, settled}
use Rattle.printers.specs.Going.{walked_of}
use Rattle.printers.specs.declared.Walked.{Walked}
use Rattle.tokens.specs.Chunks.{file_events}

-- the run of a file's events, from the start of a room on
abbrev pub file_run : FormattingOptions → List ℕ → List ℕ → Run
file_run options tree room = settled (run (file_events options tree) (going room at_start))

-- what the walk says of it
abbrev pub file_walked : FormattingOptions → List ℕ → List ℕ → Result Walked Refusal
file_walked options tree room = walked_of (file_run options tree room) (read_file 64 tree).end

-- it went on to the tree's last byte, and no text can hold a byte above 127: the tree is accepted
unfoldable pub settles : List ℕ → Result Walked Refusal → Bool
settles tree (Ok walked) = eqb walked.at (length tree) && plain_tree tree
settles tree (Err why) = false
