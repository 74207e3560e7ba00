-- A name for each reason.
use mathlib.Core.Path.{refl}
use Rattle.text.specs.Literals.{ascii}
use Rattle.wording.proofs.names.reason_name.Goals as goal

pub returns-in-OptionsLength : goal.returns-in-OptionsLength
unfolding ascii
returns-in-OptionsLength c = rw c.in-OptionsLength.is refl

pub returns-in-OptionsValue : goal.returns-in-OptionsValue
unfolding ascii
returns-in-OptionsValue c = rw c.in-OptionsValue.is refl

pub returns-in-TreeLength : goal.returns-in-TreeLength
unfolding ascii
returns-in-TreeLength c = rw c.in-TreeLength.is refl

pub returns-in-TreeDepth : goal.returns-in-TreeDepth
unfolding ascii
returns-in-TreeDepth c = rw c.in-TreeDepth.is refl

pub returns-in-TreeLayout : goal.returns-in-TreeLayout
unfolding ascii
returns-in-TreeLayout c = rw c.in-TreeLayout.is refl

pub returns-in-ChunkLayout : goal.returns-in-ChunkLayout
unfolding ascii
returns-in-ChunkLayout c = rw c.in-ChunkLayout.is refl

pub returns-in-NotAscii : goal.returns-in-NotAscii
unfolding ascii
returns-in-NotAscii c = rw c.in-NotAscii.is refl

pub returns-in-WorkRoom : goal.returns-in-WorkRoom
unfolding ascii
returns-in-WorkRoom c = rw c.in-WorkRoom.is refl

pub returns-in-TextRoom : goal.returns-in-TextRoom
unfolding ascii
returns-in-TextRoom c = rw c.in-TextRoom.is refl
