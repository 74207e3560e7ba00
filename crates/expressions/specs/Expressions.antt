-- The classes of expressions and of the three lists of arguments, and where their events stand.
use Rattle.std.specs.Prelude.{ℕ, Bool, true, cond}
use Rattle.tree.specs.Tree.{absent}
use Rattle.tree.specs.Reading.{Reader}
use Rattle.tree.specs.declared.grammar.Class.{Class}
use Rattle.tree.specs.declared.grammar.Class.TheVariants.{Word, Char, LocatedExpression, BareExpression, LocatedFactor, ImportArguments, ImportPath}
use Rattle.tree.specs.declared.grammar.Class.TheVariants.{ExpressionArgument, IdentifierArgument, ImportArgument, ExpressionArguments, IdentifierArguments}
use Rattle.printing.specs.Events.{Events, ◌▹◌}
use Rattle.printing.specs.declared.Context.{Context}
use Rattle.events.specs.Printed.{plain}
use Rattle.events.specs.Trees.{Place, leaf, arguments, imports, skipping, events_in}
use Rattle.expressions.specs.declared.expression.Arguments.{Arguments}
use Rattle.expressions.specs.declared.expression.Arguments.TheVariants.{Expressions, Identifiers, Imports}

abbrev pub expression_class : Bool → Class
expression_class located = cond located LocatedExpression BareExpression

abbrev pub list_class : Arguments → Class
list_class Expressions = ExpressionArguments
list_class Identifiers = IdentifierArguments
list_class Imports = ImportArguments

abbrev pub item_class : Arguments → Class
item_class Expressions = ExpressionArgument
item_class Identifiers = IdentifierArgument
item_class Imports = ImportArgument

abbrev pub value_class : Arguments → Class
value_class Expressions = LocatedExpression
value_class Identifiers = Word
value_class Imports = ImportPath

abbrev pub list_place : Arguments → Place
list_place Expressions = arguments
list_place Identifiers = arguments
list_place Imports = imports

-- ---- not part of any promise of this crate: the signs of a factor that is skipped on the way to them

abbrev pub tag_events : Context → Bool → Bool → Reader → ℕ → Events
tag_events context tag_not tag_neg reader at =
    let first = (reader LocatedFactor at).end in
    let second = cond tag_not (reader Char first).end first in
    skipping (reader LocatedFactor at).tree
    ▹ events_in context (leaf plain) true (cond tag_not (reader Char first).tree absent)
    ▹ events_in context (leaf plain) true (cond tag_neg (reader Char second).tree absent)

abbrev pub tags_end : Bool → Bool → Reader → ℕ → ℕ
tags_end tag_not tag_neg reader at =
    let first = (reader LocatedFactor at).end in
    let second = cond tag_not (reader Char first).end first in
    cond tag_neg (reader Char second).end second
