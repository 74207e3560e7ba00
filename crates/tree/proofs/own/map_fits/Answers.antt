-- Each kind's number leads to the same tests as the kind.
use mathlib.Core.Path.{refl, sym, ◌∙◌}
use Rattle.tree.specs.Own.{map_fits}
use Rattle.tree.proofs.KindNumbers.{other_number, texted, untexted}
use Rattle.tree.proofs.own.map_fits.Goals as goal

pub returns-in-Vec : goal.returns-in-Vec
unfolding map_fits
returns-in-Vec c = rw c.in-Vec.is

pub returns-then-not-trivia_fits : goal.returns-then-not-trivia_fits
unfolding map_fits
returns-then-not-trivia_fits c =
    rw (other_number 24 refl c.in_default.not-Vec, sym c.trivia_fits.ensures ∙ c.if-not-trivia_fits.true)

pub returns-in-Leaf : goal.returns-in-Leaf
unfolding map_fits
returns-in-Leaf c =
    let leaf = texted c.in-Leaf.is in
    rw (leaf.0, sym c.trivia_fits.ensures ∙ c.if-not-trivia_fits.false, leaf.1) c.text_fits.ensures

pub returns-then-else_fits : goal.returns-then-else_fits
unfolding map_fits
returns-then-else_fits c =
    rw (
      other_number 24 refl c.in_default.not-Vec,
      sym c.trivia_fits.ensures ∙ c.if-not-trivia_fits.false,
      untexted c.in_default-kind.not-Leaf c.in_default-kind.not-PathItem,
      sym c.else_fits.ensures ∙ c.if-else_fits.true,
    ) (c.fields_fit.ensures _)

pub returns-else-else_fits : goal.returns-else-else_fits
unfolding map_fits
returns-else-else_fits c =
    rw (
      other_number 24 refl c.in_default.not-Vec,
      sym c.trivia_fits.ensures ∙ c.if-not-trivia_fits.false,
      untexted c.in_default-kind.not-Leaf c.in_default-kind.not-PathItem,
      sym c.else_fits.ensures ∙ c.if-else_fits.false,
    ) c.if-else_fits.false
