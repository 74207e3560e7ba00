-- A kind and the number that is its first byte: each tells the other.
use Rattle.std.specs.Prelude.{Some, None}
use mathlib.Core.Path.{◌≡◌, refl, sym, ap, ◌∙◌}
use mathlib.Core.Bool.{true, false, ◌||◌}
use mathlib.Core.Logic.{◌⊎◌, ⊎_elim}
use Prim.Native.Nat.{ℕ}
use lib.Dec.{eqb}
use borrow.Author.Tests.{eq-eqb, ne_eqb}
use Rattle.tree.specs.Grammar.{kind_of, kind_number}
use Rattle.tree.specs.declared.grammar.Kind.{Kind}
use Rattle.tree.specs.declared.grammar.Kind.TheVariants as variant
use Rattle.tree.proofs.KindLayout.{kind_number_lem}

module _ (number : ℕ) (kind : Kind) (known : kind_of number ≡ Some kind) where
  -- a kind has one number
  pub kind_at : (place : ℕ) → kind_of place ≡ Some kind → number ≡ place
  kind_at place is = sym (kind_number_lem number kind known) ∙ kind_number_lem place kind is

  -- the kind's number is another's where the kind is
  pub kind_moved : (place : ℕ) (other : Kind) → kind_of place ≡ Some other → kind ≡ other → number ≡ place
  kind_moved place other is same = kind_at place (is ∙ ap (λ (kind : Kind). Some kind) (sym same))

  -- the test of the number of a kind that is the other
  pub is_kind : (place : ℕ) (other : Kind) → kind_of place ≡ Some other → kind ≡ other → eqb number place ≡ true
  is_kind place other is same = eq-eqb _ _ (kind_moved place other is same)

  -- and of one that is not
  pub no_kind : (place : ℕ) (other : Kind) → kind_of place ≡ Some other → (kind ≡ other → ⊥) → eqb number place ≡ false
  no_kind place other is different =
      ne_eqb _ _ (λ same. different (let here : Some kind ≡ Some other = sym known ∙ ap kind_of same ∙ is in cc))

-- a byte of no kind is no kind's number
pub none_at : (number : ℕ) → kind_of number ≡ None → (place : ℕ) (other : Kind) → kind_of place ≡ Some other → eqb number place ≡ false
none_at number none place other is =
    ne_eqb _ _ (λ same. let z : None ≡ Some other = sym none ∙ ap kind_of same ∙ is in cc)

-- the number of a kind is that of no other
pub numbered : (kind : Kind) → kind_of (kind_number kind) ≡ Some kind
numbered variant.Align = refl
numbered other = refl

-- so it is this one's just where the kind is
module _ {kind other : Kind} (number : ℕ) (known : kind_of number ≡ Some other) where
  pub this_number : kind ≡ other → eqb (kind_number kind) number ≡ true
  this_number same = is_kind (kind_number kind) kind (numbered kind) number other known same

  pub other_number : (kind ≡ other → ⊥) → eqb (kind_number kind) number ≡ false
  other_number different = no_kind (kind_number kind) kind (numbered kind) number other known different

-- a leaf and a path item have the numbers of records with a text
pub texted : {kind : Kind} → (kind ≡ variant.Leaf) ⊎ (kind ≡ variant.PathItem)
    → (eqb (kind_number kind) 24 ≡ false) × ((eqb (kind_number kind) 25 || eqb (kind_number kind) 26) ≡ true)
texted = ⊎_elim (λ leaf. rw leaf (refl, refl)) (λ path. rw path (refl, refl))

-- no other has
pub untexted : {kind : Kind} → (kind ≡ variant.Leaf → ⊥) → (kind ≡ variant.PathItem → ⊥) → (eqb (kind_number kind) 25 || eqb (kind_number kind) 26) ≡ false
untexted leaf path = rw (other_number 25 refl leaf, other_number 26 refl path)
