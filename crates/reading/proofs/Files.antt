-- Demand 3's ink law for the walk, of a file that was read without refusal: what its events push has the ink of its reading order.
use Rattle.answers.specs.Numbers.{no_refusal}
use mathlib.Core.Path.{◌≡◌}
use mathlib.Core.List.{List}
use mathlib.Core.Bool.{false}
use Prim.Native.Nat.{ℕ}
use Rattle.text.specs.Ink.{inks}
use Rattle.tree.specs.Checking.{read_file}
use Rattle.tree.specs.declared.grammar.Class.TheVariants.{Tokens}
use Rattle.printing.specs.Holding.{ink_of}
use Rattle.printing.specs.declared.Context.{Context}
use Rattle.events.specs.Trees.{events_of}
use Rattle.reading.specs.Order.{order}
use Rattle.reading.specs.Places.{loses_ink, uses_place}
use Rattle.reading.proofs.Inks.{ink_kept, ink_kept_eight}
use Rattle.reading.proofs.ReadShape.{read_shaped}

module _ (context : Context) (levels : ℕ) (bytes : List ℕ) (passed : (read_file levels bytes).checked ≡ no_refusal) where
  -- where it uses none of the seven places at which ink is lost or doubled
  pub file_ink : loses_ink (read_file levels bytes).tree ≡ false
      → ink_of (events_of context (read_file levels bytes).tree) ≡ inks (order context.options.mnemonics (read_file levels bytes).tree)
  file_ink none = ink_kept context (read_file levels bytes).tree (read_shaped levels bytes Tokens 0 passed) none

  -- so where it uses none of the eight
  pub file_ink_eight : uses_place (read_file levels bytes).tree ≡ false
      → ink_of (events_of context (read_file levels bytes).tree) ≡ inks (order context.options.mnemonics (read_file levels bytes).tree)
  file_ink_eight none = ink_kept_eight context (read_file levels bytes).tree (read_shaped levels bytes Tokens 0 passed) none
