-- The events of a file of at most 65,535 bytes, read to 64 levels, push only what has a stored form, where a block is at most 64 further in: an indent is
-- at most 64 times 64, and four bytes of a record stand before a text.
--   file_storable : .. Storable (events_of (record { options = options; indent = 0 }) (read_file levels bytes).tree)
use mathlib.Core.List.{List, [], ◌∷◌}
use Prim.Native.Nat.{ℕ, ◌+◌, ◌≤◌, ◌<◌}
use native.Mathlib.Omega.{arith}
use lib.ListN.{length, length-append}
use Rattle.options.specs.declared.FormattingOptions.{FormattingOptions}
use Rattle.tree.specs.Checking.{read_file}
use Rattle.tree.specs.declared.grammar.Class.TheVariants.{Tokens}
use Rattle.tree.proofs.Bounds.{texts_inside}
use Rattle.printing.specs.Events.{Events}
use Rattle.printing.specs.Holding.{Storable}
use Rattle.events.specs.Trees.{events_of}
use Rattle.events.proofs.Texts.{Holds}
use Rattle.events.proofs.Pushes.{EveryPush, none, pushes, spaces, clears, trims, stops, ◌and◌, file_push}

-- a text that may have a colon behind it and a space before it
abbrev pub Short : List ℕ → Type 0
Short text = length text ≤ 65531

-- pushes of texts that may have a space before them have a stored form
all_storable : {events : Events} → EveryPush (λ text. length text ≤ 65534) events → Storable events
unfolding Storable
all_storable none = tt
all_storable (pushes low short) = (low, short)
all_storable spaces = tt
all_storable clears = tt
all_storable trims = tt
all_storable stops = tt
all_storable (one and others) = (all_storable one, all_storable others)

-- a text within the bytes, with four bytes before it, is short
inside_short : (bytes text : List ℕ) (place : ℕ) → length bytes ≤ 65535 → (0 < length text → (4 ≤ place) × (place + length text ≤ length bytes)) → Short text
inside_short bytes [] place limit inside = omega arith
inside_short bytes (b ∷ text) place limit inside = omega (arith, inside (omega arith))

module _ (levels : ℕ) (bytes : List ℕ) (limit : length bytes ≤ 65535) where
  -- every text of a file is short
  pub file_short : Holds Short (read_file levels bytes).texts
  file_short text member = inside_short bytes text.bytes text.place limit (texts_inside bytes levels Tokens 0 text member)

  -- what the events of a file push has a stored form
  pub file_storable : (options : FormattingOptions) → levels ≤ 64 → options.whitespace.indent ≤ 64
      → Storable (events_of (record { options = options; indent = 0 }) (read_file levels bytes).tree)
  file_storable options deep narrow =
      all_storable
      (file_push Short (λ text. length text ≤ 65534)
      (λ text small. omega (arith, small.0)) (λ text short. omega arith) (λ text short. omega (arith, length-append text (58 ∷ [])))
      options narrow levels bytes deep file_short)
