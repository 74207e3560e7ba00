-- Whether one of some trivia items is a comment.
use mathlib.Core.Path.{◌≡◌, refl, ap}
use mathlib.Core.List.{List, [], ◌∷◌, map}
use mathlib.Core.Bool.{Bool, ◌||◌}
use Prim.Native.Nat.{ℕ}
use lib.Dec.{leb}
use Rattle.std.specs.List.{list_any}
use Rattle.tree.specs.Codes.{c_style, code_number}
use Rattle.tree.specs.declared.parts.TriviumSpan.{TriviumSpan}
use Rattle.leaves.specs.Items.{item_of}
use Rattle.reading.specs.Places.{has_comment}

abbrev pub is_comment : TriviumSpan → Bool
is_comment item = leb c_style (code_number item.code)

pub any_comment : (bytes : List ℕ) (spans : List TriviumSpan) → list_any is_comment spans ≡ has_comment (map (item_of bytes) spans)
unfolding has_comment
any_comment bytes [] = refl
any_comment bytes (item ∷ spans) = ap (λ (rest : Bool). is_comment item || rest) (any_comment bytes spans)
