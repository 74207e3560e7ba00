-- `Casing::format`: document 01, "ASCII upper and lower only."
use Rattle.std.specs.Prelude.{ℕ, ◌+◌, ◌-◌, List, map, cond, ◌&&◌, leb}
use Rattle.options.specs.declared.Casing.{Casing}
use Rattle.options.specs.declared.Casing.TheVariants.{Uppercase, Lowercase}

-- the letters a to z are bytes 97 to 122, and A to Z are bytes 65 to 90
abbrev pub cased_byte : Casing → ℕ → ℕ
cased_byte Uppercase b = cond (leb 97 b && leb b 122) (b - 32) b
cased_byte Lowercase b = cond (leb 65 b && leb b 90) (b + 32) b

unfoldable pub cased : Casing → List ℕ → List ℕ
cased casing text = map (cased_byte casing) text
