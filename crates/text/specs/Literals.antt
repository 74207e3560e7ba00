-- Text literals as bytes, for tables that a person reads.
use Rattle.std.specs.Prelude.{ℕ, List, [], ◌∷◌}
use Prim.Native.String as string
use Prim.Native.String.{String}
use Prim.Native.Char.{code as code_of}

-- the bytes of a text of ASCII characters
unfoldable pub ascii : String → List ℕ
ascii string.[] = []
ascii (string.◌∷◌ c text) = code_of c ∷ ascii text
