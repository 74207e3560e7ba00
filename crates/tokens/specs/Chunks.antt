-- The walk over a whole tree: refusals 1, 2, 3, 4, 5, 7 and 8 in this order, and the chunks that are held at its end.
use Rattle.answers.specs.declared.Refusal.{Refusal}
use Rattle.std.specs.Prelude.{ℕ, ◌≡◌, List, [], reverse, false, length, take, Result, Ok, Err}
use Rattle.answers.specs.Numbers.{numbers_of, Answer, Checked}
use Rattle.options.specs.Stored.{read_options}
use Rattle.options.specs.declared.FormattingOptions.{FormattingOptions}
use Rattle.chunks.specs.Stored.{stored_list}
use Rattle.tree.specs.Checking.{read_file, length_checked, batch_checked}
use Rattle.printing.specs.Events.{Events}
use Rattle.printing.specs.Running.{going, at_start, run, settled, room_of}
use Rattle.printing.specs.Holding.{Held, held, refused, hold}
use Rattle.events.specs.Trees.{events_of}
use Rattle.events.specs.Accepted.{Acceptable}

-- the events of a file, from no indent on
abbrev pub file_events : FormattingOptions → List ℕ → Events
file_events options tree = events_of (record { options = options; indent = 0 }) (read_file 64 tree).tree

-- ---- the chunks that are held, or the refusal

abbrev pub held_unless : Checked → Held → Held
held_unless (Ok tt) chunks = chunks
held_unless (Err why) chunks = refused why

abbrev pub held_with : Result FormattingOptions Refusal → List ℕ → ℕ → Held
held_with (Ok options) tree size = held_unless (batch_checked tree) (hold size (file_events options tree) (held [] false))
held_with (Err why) tree size = refused why

-- "Answer numbers, in checking order": options, then the tree, then the room of so many bytes
unfoldable pub chunks_held : List ℕ → List ℕ → ℕ → Held
chunks_held tree options size = held_with (read_options options) tree size

-- the answer: how many bytes the stored chunks have
abbrev pub chunks_answer : Held → Answer
chunks_answer (held chunks pending) = Ok (length (stored_list (reverse chunks)))
chunks_answer (refused why) = Err why

-- its number and value by document 01's table
unfoldable pub numbers_held : Held → ℕ × ℕ
numbers_held (held chunks pending) = (0, length (stored_list (reverse chunks)))
numbers_held (refused why) = numbers_of why

-- what is used of the room is the stored form of the chunks, oldest first, a list that the column setter accepts
abbrev pub RoomHolds : Held → List ℕ → Type 0
RoomHolds (held chunks pending) room = (take (length (stored_list (reverse chunks))) room ≡ stored_list (reverse chunks)) × Acceptable (reverse chunks)
RoomHolds (refused why) room = Unit

-- ---- the whole room: untouched after 1 to 7, else as the run of the events leaves it

abbrev pub room_unless : Checked → List ℕ → List ℕ → List ℕ
room_unless (Ok tt) walked room = walked
room_unless (Err why) walked room = room

abbrev pub room_with : Result FormattingOptions Refusal → List ℕ → List ℕ → List ℕ
room_with (Ok options) tree room = room_unless (batch_checked tree) (room_of (settled (run (file_events options tree) (going room at_start)))) room
room_with (Err why) tree room = room

unfoldable pub chunks_room : List ℕ → List ℕ → List ℕ → List ℕ
chunks_room tree options room = room_with (read_options options) tree room

-- ---- the walk before the check

-- the whole room: untouched after 1 to 3, else as the run of the events leaves it
abbrev pub one_pass_with : Result FormattingOptions Refusal → List ℕ → List ℕ → List ℕ
one_pass_with (Ok options) tree room =
    room_unless (length_checked 65535 tree) (room_of (settled (run (file_events options tree) (going room at_start)))) room
one_pass_with (Err why) tree room = room

unfoldable pub one_pass_room : List ℕ → List ℕ → List ℕ → List ℕ
one_pass_room tree options room = one_pass_with (read_options options) tree room
