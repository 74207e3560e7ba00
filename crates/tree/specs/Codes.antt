-- The codes of trivia items, and the addressing modes that print a closing character, by name, which is as good as the number; and the enums of the code.
use Rattle.std.specs.Prelude.{ℕ, List, [], ◌∷◌, Option, Some, None, get_or, map}
use Rattle.tree.specs.declared.codes.Code.{Code}
use Rattle.tree.specs.declared.codes.Code.TheVariants as code
use Rattle.tree.specs.declared.codes.AddressingMode.{AddressingMode}
use Rattle.tree.specs.declared.codes.AddressingMode.TheVariants as mode

-- "each a code (0 whitespace, 1 newline, 2 C style, 3 C++ style)"
abbrev pub whitespace : ℕ
whitespace = 0

abbrev pub newline : ℕ
newline = 1

abbrev pub c_style : ℕ
c_style = 2

abbrev pub cpp_style : ℕ
cpp_style = 3

-- `AddressingMode` by its index in declared order: the fourth and the fifth
abbrev pub indirect : ℕ
indirect = 3

abbrev pub outer_indirect : ℕ
outer_indirect = 4

-- the code of a byte, and the byte of a code
abbrev pub code_of : ℕ → Option Code
code_of byte = get_or (map Some (code.Whitespace ∷ code.Newline ∷ code.CStyle ∷ code.CppStyle ∷ [])) byte None

abbrev pub code_number : Code → ℕ
code_number code.Whitespace = whitespace
code_number code.Newline = newline
code_number code.CStyle = c_style
code_number code.CppStyle = cpp_style

-- the mode of a leaf's text, which is its index; a text of none, which no leaf has, counts as the first
abbrev pub all_modes : List AddressingMode
all_modes = mode.AbsoluteOrZp ∷ mode.Immediate ∷ mode.Implied ∷ mode.Indirect ∷ mode.OuterIndirect ∷ []

abbrev pub mode_of : List ℕ → AddressingMode
mode_of text = get_or all_modes (get_or text 0 0) mode.AbsoluteOrZp
