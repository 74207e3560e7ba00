-- The table is that of the tokens and then that of their parts.
use mathlib.Core.Path.{refl}
use mathlib.Core.List.{◌++◌}
use Rattle.text.specs.Literals.{ascii}
use Rattle.wording.specs.Names.{token_kinds, part_kinds}
use Rattle.wording.proofs.Pieces.{name_of, kind_of}
use Rattle.wording.proofs.names.put_kind.Goals as goal

pub returns : goal.returns
unfolding ascii
returns c =
    rw (← kind_of c.args.number, ← name_of (token_kinds ++ part_kinds) _ c.args.number refl) c.put_name.ensures
