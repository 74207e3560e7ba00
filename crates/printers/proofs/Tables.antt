-- The texts of the cases of enums.
use mathlib.Core.Path.{◌≡◌, refl, ap}
use mathlib.Core.List.{List, [], ◌∷◌, map}
use Prim.Native.Nat.{ℕ}
use Prim.Native.String.{String}
use lib.ListN.{get_or, get_or-map}
use Rattle.std.specs.Prelude.{Some, None}
use Rattle.std.specs.List.{slice_get}
use Rattle.text.specs.Literals.{ascii}
use Rattle.options.specs.Casings.{cased}
use Rattle.options.specs.declared.Casing.{Casing}
use Rattle.printing.specs.declared.Context.{Context}
use Rattle.events.specs.Printed.{mnemonics, registers, operators, data_sizes, encodings, variable_types, number_types, modifiers}
use Rattle.events.specs.Printed.{Style, plain, mnemonic, register, operator, data_size, encoding, variable_type, number_type, modifier, printed}
use Rattle.events.specs.Trees.{word}
use Rattle.printers.specs.declared.Printer.{Printer}
use Rattle.printers.specs.declared.texts.TheConstants.{MNEMONICS, REGISTERS, OPERATORS, DATA_SIZES, ENCODINGS, VARIABLE_TYPES, NUMBER_TYPES, MODIFIERS}
use Rattle.printers.specs.Going.{GoesExact}
use Rattle.printers.proofs.Exact.{exact_there}

-- no text prints none
printed_none : (context : Context) (style : Style) → printed context style [] ≡ []
unfolding printed cased
printed_none context plain = refl
printed_none context mnemonic = refl
printed_none context register = refl
printed_none context operator = refl
printed_none context data_size = refl
printed_none context encoding = refl
printed_none context variable_type = refl
printed_none context number_type = refl
printed_none context modifier = refl

pub prints_none : (context : Context) (style : Style) (text : List ℕ) → None ≡ slice_get text 0 → printed context style text ≡ []
prints_none context style [] none = printed_none context style
prints_none context style (b ∷ rest) none = cc

-- a text that has a first byte
starts : (text : List ℕ) {first : ℕ} → Some first ≡ slice_get text 0 → (rest : List ℕ) × (text ≡ first ∷ rest)
starts [] is = cc
starts (b ∷ rest) is = (rest, cc)

-- the text of an index in a table whose texts are known
entry_of : (table : List String) {texts : List (List ℕ)} (index : ℕ) → texts ≡ map ascii table → get_or texts index [] ≡ ascii (get_or table index "")
unfolding ascii
entry_of table index tied = rw tied (get_or-map ascii table index "")

module _ {before after : Printer} (text : List ℕ) {index : ℕ} (style : Style) (table : List String) {texts : List (List ℕ)}
    (first : Some index ≡ slice_get text 0) (tied : texts ≡ map ascii table)
  where
    -- a push of it is the push of a text of the style
    pub entry_goes : ((context : Context) (rest : List ℕ) → printed context style (index ∷ rest) ≡ ascii (get_or table index ""))
        → GoesExact before after (λ page at. word page.context (get_or texts index [])) (λ page at. at)
        → GoesExact before after (λ page at. word page.context (printed page.context style text)) (λ page at. at)
    entry_goes prints goes =
        let whole = starts text first in
        exact_there goes (ap (word before.context) (rw (whole.1, prints before.context whole.0) (entry_of table index tied))) refl

    -- and in a casing
    pub cased_goes : (casing : Casing) → ((rest : List ℕ) → printed before.context style (index ∷ rest) ≡ cased casing (ascii (get_or table index "")))
        → GoesExact before after (λ page at. word page.context (cased casing (get_or texts index []))) (λ page at. at)
        → GoesExact before after (λ page at. word page.context (printed page.context style text)) (λ page at. at)
    cased_goes casing prints goes =
        let whole = starts text first in
        exact_there goes (ap (word before.context) (rw (whole.1, prints whole.0) (ap (cased casing) (entry_of table index tied)))) refl

-- ---- the tables of the code are those of the definition

-- the names of the mnemonics are three letters each
pub mnemonic_names : MNEMONICS ≡ map ascii mnemonics
unfolding ascii mnemonics
mnemonic_names = refl

-- those of the registers are one letter each
pub register_names : REGISTERS ≡ map ascii registers
unfolding ascii registers
register_names = refl

-- the operators, of one or two bytes
pub operator_texts : map (λ text. text.now) OPERATORS ≡ map ascii operators
unfolding ascii operators
operator_texts = refl

-- the sizes of data
pub data_size_texts : map (λ text. text.now) DATA_SIZES ≡ map ascii data_sizes
unfolding ascii data_sizes
data_size_texts = refl

-- the encodings, of which the last has no text
pub encoding_texts : map (λ text. text.now) ENCODINGS ≡ map ascii encodings
unfolding ascii encodings
encoding_texts = refl

-- the ways to define a variable
pub variable_type_texts : map (λ text. text.now) VARIABLE_TYPES ≡ map ascii variable_types
unfolding ascii variable_types
variable_type_texts = refl

-- the signs of bases, of which decimal has none
pub number_type_texts : map (λ text. text.now) NUMBER_TYPES ≡ map ascii number_types
unfolding ascii number_types
number_type_texts = refl

-- the modifiers of an address
pub modifier_texts : map (λ text. text.now) MODIFIERS ≡ map ascii modifiers
unfolding ascii modifiers
modifier_texts = refl
