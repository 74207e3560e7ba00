-- The names by the codes.
use mathlib.Core.Path.{refl}
use Rattle.text.specs.Literals.{ascii}
use Rattle.wording.proofs.names.code_name.Goals as goal

pub returns-in-Whitespace : goal.returns-in-Whitespace
unfolding ascii
returns-in-Whitespace c = rw c.in-Whitespace.is refl

pub returns-in-Newline : goal.returns-in-Newline
unfolding ascii
returns-in-Newline c = rw c.in-Newline.is refl

pub returns-in-CStyle : goal.returns-in-CStyle
unfolding ascii
returns-in-CStyle c = rw c.in-CStyle.is refl

pub returns-in-CppStyle : goal.returns-in-CppStyle
unfolding ascii
returns-in-CppStyle c = rw c.in-CppStyle.is refl
