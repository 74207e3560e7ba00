-- What a walk does, as data: the events of a tree are built from these, one behind the other.
use Rattle.std.specs.Prelude.{ℕ, List}
use Rattle.answers.specs.declared.Refusal.{Refusal}
use Rattle.chunks.specs.declared.stored.ChunkType.{ChunkType}
use Rattle.printing.specs.declared.Context.{Context}

infixr 50 ◌▹◌
pub data Events : Type 0 where
  nothing : Events
  -- `push_type`: a text of a type, in a context
  push : ChunkType → Context → List ℕ → Events
  -- `spc_if_next` and `clear_spc_if_next`
  space : Events
  clear : Events
  -- the newline chunks at the end are dropped: "A block drops newline chunks ... last before `}`"
  trim : Events
  -- "A reading that finds a refusal ends the walk there."
  stop : Refusal → Events
  -- one behind the other
  ◌▹◌ : Events → Events → Events
