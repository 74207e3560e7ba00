-- The work room's limit of document 01: "room above 1,048,576 bytes counts as that".
--   room_limit : .. 1048576 ≤ size → hold size events state ≡ hold 1048576 events state
--   push_past : .. a push that needs more than 1,048,576 bytes is refused in every room, with what it needs
--   push_within : .. one that needs no more is held in every room of as many
-- And what smaller rooms hold, by computing.
--   rooms_held : map found rows ≡ map wanted rows
use mathlib.Core.Path.{◌≡◌, refl}
use mathlib.Core.List.{List, [], ◌∷◌, map}
use mathlib.Core.Bool.{Bool, false}
use Prim.Native.Nat.{ℕ, ◌+◌, ◌≤◌, ◌<◌}
use Prim.Native.String.{String}
use native.Mathlib.Omega.{arith}
use lib.ListN.{length}
use borrow.Author.Tests.{lt-ltb, le-ltb}
use Rattle.answers.specs.Numbers.{number}
use Rattle.answers.specs.declared.Reason.TheVariants.{WorkRoom}
use Rattle.options.specs.Types.{options_of}
use Rattle.text.specs.Lines.{is_empty, is_newline}
use Rattle.text.specs.Literals.{ascii}
use Rattle.chunks.specs.Stored.{Chunk, stored_indent, stored_head, stored_chunk}
use Rattle.chunks.specs.Appending.{with_space, capacity}
use Rattle.chunks.specs.declared.stored.ChunkType.{ChunkType}
use Rattle.chunks.specs.declared.stored.ChunkType.TheVariants.{Code}
use Rattle.printing.specs.Events.{Events, nothing, push, space, clear, trim, stop, ◌▹◌}
use Rattle.printing.specs.Holding.{Held, held, refused, held_length, without_newlines, hold}
use Rattle.printing.specs.declared.Context.{Context}

capacity_limit : (size : ℕ) → 1048576 ≤ size → capacity size ≡ 1048576
capacity_limit size large = omega (arith, large)

-- more room than the limit holds no more
pub room_limit : (size : ℕ) → 1048576 ≤ size → (events : Events) (state : Held)
    → hold size events state ≡ hold 1048576 events state
unfolding hold
room_limit size large nothing state = refl
room_limit size large (push ty context text) state = rw (capacity_limit size large)
room_limit size large space state = refl
room_limit size large clear state = refl
room_limit size large trim state = refl
room_limit size large (stop why) state = refl
room_limit size large (first ▹ next) state =
    rw (room_limit size large first state) (room_limit size large next (hold 1048576 first state))

module _ (size : ℕ) (ty : ChunkType) (context : Context) (text : List ℕ) (some : is_empty text ≡ false)
    (chunks : List Chunk) (pending : Bool) where
  -- the chunk of a push, and what it needs with those that are held
  abbrev pushed : Chunk
  pushed = record { ty = ty; indent = context.indent; text = with_space pending text }

  abbrev needed : ℕ
  needed = held_length chunks + length (stored_chunk pushed)

  pub push_past : 1048576 < needed
      → hold size (push ty context text) (held chunks pending) ≡ refused (record { reason = WorkRoom; place = needed })
  unfolding hold
  push_past over = rw (some, lt-ltb (capacity size) needed (omega (arith, over)))

  pub push_within : needed ≤ 1048576 → 1048576 ≤ size
      → hold size (push ty context text) (held chunks pending) ≡ held (pushed ∷ chunks) false
  unfolding hold
  push_within fits large = rw (some, le-ltb (capacity size) needed (omega (arith, fits, large)))

-- ---- small rooms

-- events, a room, and the number and value of what they come to there: 0 and what is used, or 8 and what was needed
record Row : Type 0 where
  events : Events
  room : ℕ
  number : ℕ
  value : ℕ

abbrev row : Events → ℕ → ℕ → ℕ → Row
row events room number value = record { events = events; room = room; number = number; value = value }

abbrev code : ℕ → String → Events
code indent text = push Code (record { options = options_of 1 1 0 4 20 1 30 8; indent = indent }) (ascii text)

abbrev rows : List Row
rows =
    row nothing 0 0 0
    -- a chunk is a map, a length of two bytes and its text, with its indent two bytes more
    ∷ row (code 0 "nop") 5 8 6
    ∷ row (code 0 "nop") 6 0 6
    ∷ row (code 4 "nop") 7 8 8
    ∷ row (code 4 "nop") 8 0 8
    -- the chunks that are held count, and so does a pending space
    ∷ row (code 0 "nop" ▹ space ▹ code 0 "x") 10 8 11
    ∷ row (code 0 "nop" ▹ space ▹ code 0 "x") 11 0 11
    ∷ row (code 0 "nop" ▹ space ▹ clear ▹ code 0 "x") 10 0 10
    -- an empty text is no push and keeps the space
    ∷ row (space ▹ code 0 "" ▹ code 0 "x") 4 8 5
    ∷ row (code 0 "") 0 0 0
    -- a newline that is dropped later is held till then
    ∷ row (code 0 "x" ▹ code 0 "\n" ▹ trim) 7 8 8
    ∷ row (code 0 "x" ▹ code 0 "\n" ▹ trim) 8 0 4
    ∷ row (code 0 "x" ▹ code 0 "\n" ▹ trim ▹ code 0 "y") 8 0 8
    -- behind a push that did not fit nothing fits
    ∷ row (code 0 "nop" ▹ code 0 "x") 5 8 6
    ∷ []

abbrev outcome : Held → ℕ × ℕ
outcome (held chunks pending) = (0, held_length chunks)
outcome (refused why) = (number why.reason, why.place)

abbrev found : Row → ℕ × ℕ
found sample = outcome (hold sample.room sample.events (held [] false))

abbrev wanted : Row → ℕ × ℕ
wanted sample = (sample.number, sample.value)

pub rooms_held : map found rows ≡ map wanted rows
unfolding is_newline ascii stored_indent stored_head stored_chunk held_length without_newlines hold
rooms_held = refl
