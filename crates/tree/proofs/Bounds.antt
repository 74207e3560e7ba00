-- No more blocks stand in each other than there are levels, and every text lies within the bytes.
--   read_nesting : .. nesting (read levels bytes class at .tree) ≤ levels
--   texts_inside : .. List.Memᴰ text (read levels bytes class at .texts) → Inside bytes text
use Rattle.std.specs.Prelude.{Some, Ok}
use mathlib.Core.Path.{◌≡◌, refl}
use mathlib.Core.Logic.{⊎_elim}
use mathlib.Core.List.Memᴰ
use mathlib.Core.List.{List, [], ◌∷◌, ◌++◌, Memᴰ}
use Prim.Native.Nat.{ℕ, zero, suc, ◌+◌, ◌%◌, ◌≤◌, ◌<◌}
use native.Mathlib.Omega.{arith}
use lib.ListN.{length, get_or}
use lib.Dec.{eqb}
use lib.Seq.{slice, slice_empty, length-slice}
use Rattle.text.specs.Numbers.{number_at}
use Rattle.text.proofs.Choices.{by_test}
use Rattle.tree.specs.Tree.{Tree, absent, chain, built}
use Rattle.tree.specs.Own.{trivia_end, read_own}
use Rattle.tree.specs.Reading.{Placed, trivium_behind, trivium_text, trivia_texts, texts_of, Due, nothing, due, Reader, parts_due, read_parts, read}
use Rattle.tree.specs.Measures.{nesting}
use Rattle.tree.specs.declared.grammar.Kind.{Kind}
use Rattle.tree.specs.declared.grammar.Kind.TheVariants as variant
use Rattle.tree.specs.declared.grammar.Class.{Class}
use Rattle.tree.specs.declared.own.Own.{Own}
use Rattle.tree.specs.declared.own.TriviaSpan.{TriviaSpan}
use Rattle.tree.proofs.OwnBytes.{ItemHeld, Headed, items_held, trivia_of_lem, trivia_cases, own_cases}
use Rattle.tree.proofs.Readings.{every_reading}

-- ---- blocks in each other

-- items that keep a bound keep it in a list
chain_nesting : (limit : ℕ) (trees : List Tree) → ((place : ℕ) → nesting (get_or trees place absent) ≤ limit) → nesting (chain trees) ≤ limit
unfolding nesting chain
chain_nesting limit [] parts = omega arith
chain_nesting limit (tree ∷ trees) parts = omega (arith, parts 0, chain_nesting limit trees (λ place. parts (suc place)))

-- a kind adds one to the bound that its parts keep
built_nesting : (kind : Kind) (limit : ℕ) (text : List ℕ) (trees : List Tree) → ((place : ℕ) → nesting (get_or trees place absent) ≤ limit)
    → nesting (built kind text trees) ≤ suc limit
unfolding nesting built
built_nesting variant.Align limit text trees parts = omega (arith, parts 0, parts 1)
built_nesting variant.Assert limit text trees parts = omega (arith, parts 0, parts 1, parts 2)
built_nesting variant.Braces limit text trees parts = omega (arith, parts 0)
built_nesting variant.Config limit text trees parts = omega (arith, parts 0)
built_nesting variant.ConfigPair limit text trees parts = omega (arith, parts 0, parts 1, parts 2)
built_nesting variant.Data limit text trees parts = omega (arith, parts 0, parts 1)
built_nesting variant.Definition limit text trees parts = omega (arith, parts 0, parts 1, parts 2)
built_nesting variant.Eof limit text trees parts = omega (arith, parts 0)
built_nesting variant.Error limit text trees parts = omega (arith, parts 0)
built_nesting variant.Expression limit text trees parts = omega (arith, parts 0)
built_nesting variant.If limit text trees parts = omega (arith, parts 0, parts 1, parts 2, parts 3, parts 4)
built_nesting variant.Import limit text trees parts = omega (arith, parts 0, parts 1, parts 2, parts 3, parts 4)
built_nesting variant.File limit text trees parts = omega (arith, parts 0, parts 1)
built_nesting variant.Instruction limit text trees parts = omega (arith, parts 0, parts 1)
built_nesting variant.Label limit text trees parts = omega (arith, parts 0, parts 1, parts 2)
built_nesting variant.Loop limit text trees parts = omega (arith, parts 0, parts 1, parts 2)
built_nesting variant.MacroDefinition limit text trees parts = omega (arith, parts 0, parts 1, parts 2, parts 3, parts 4, parts 5)
built_nesting variant.MacroInvocation limit text trees parts = omega (arith, parts 0, parts 1, parts 2, parts 3)
built_nesting variant.ProgramCounterDefinition limit text trees parts = omega (arith, parts 0, parts 1, parts 2)
built_nesting variant.Segment limit text trees parts = omega (arith, parts 0, parts 1, parts 2)
built_nesting variant.Test limit text trees parts = omega (arith, parts 0, parts 1, parts 2)
built_nesting variant.Text limit text trees parts = omega (arith, parts 0, parts 1, parts 2)
built_nesting variant.Trace limit text trees parts = omega (arith, parts 0, parts 1, parts 2, parts 3)
built_nesting variant.VariableDefinition limit text trees parts = omega (arith, parts 0, parts 1, parts 2, parts 3)
built_nesting variant.Vec limit text trees parts = omega (arith, chain_nesting limit trees parts)
built_nesting variant.Leaf limit text trees parts = omega arith
built_nesting variant.PathItem limit text trees parts = omega arith
built_nesting variant.Block limit text trees parts = omega (arith, parts 0, parts 1, parts 2)
built_nesting variant.BinaryExpression limit text trees parts = omega (arith, parts 0, parts 1, parts 2)
built_nesting variant.Factor limit text trees parts = omega (arith, parts 0, parts 1, parts 2)
built_nesting variant.CurrentProgramCounter limit text trees parts = omega (arith, parts 0)
built_nesting variant.ExprParens limit text trees parts = omega (arith, parts 0, parts 1, parts 2)
built_nesting variant.FunctionCall limit text trees parts = omega (arith, parts 0, parts 1, parts 2, parts 3)
built_nesting variant.IdentifierValue limit text trees parts = omega (arith, parts 0, parts 1)
built_nesting variant.Number limit text trees parts = omega (arith, parts 0, parts 1)
built_nesting variant.StringFactor limit text trees parts = omega (arith, parts 0)
built_nesting variant.InterpolatedString limit text trees parts = omega (arith, parts 0, parts 1)
built_nesting variant.Operand limit text trees parts = omega (arith, parts 0, parts 1, parts 2, parts 3, parts 4)
built_nesting variant.RegisterSuffix limit text trees parts = omega (arith, parts 0, parts 1)
built_nesting variant.ImportAs limit text trees parts = omega (arith, parts 0, parts 1)
built_nesting variant.ImportAll limit text trees parts = omega (arith, parts 0, parts 1)
built_nesting variant.SpecificImportArg limit text trees parts = omega (arith, parts 0, parts 1)
built_nesting variant.ArgItem limit text trees parts = omega (arith, parts 0, parts 1)

-- the trees of parts keep a bound that every record keeps
parts_nesting : (limit : ℕ) (reader : Reader) → ((class : Class) (at : ℕ) → nesting (reader class at).tree ≤ limit)
    → (parts : List Due) (at place : ℕ) → nesting (get_or (read_parts reader parts at).trees place absent) ≤ limit
unfolding nesting read_parts
parts_nesting limit reader below [] at place = omega arith
parts_nesting limit reader below (nothing ∷ parts) at zero = omega arith
parts_nesting limit reader below (nothing ∷ parts) at (suc place) = parts_nesting limit reader below parts at place
parts_nesting limit reader below (due class ∷ parts) at zero = below class at
parts_nesting limit reader below (due class ∷ parts) at (suc place) = parts_nesting limit reader below parts (reader class at).end place

-- no more blocks stand in each other than there are levels
pub read_nesting : (levels : ℕ) (bytes : List ℕ) (class : Class) (at : ℕ) → nesting (read levels bytes class at).tree ≤ levels
unfolding nesting
read_nesting levels bytes =
    every_reading bytes (λ levels class at reading. nesting reading.tree ≤ levels)
    (λ levels class at reader why. omega arith)
    (λ levels class at own is below.
    built_nesting own.kind levels _ _ (parts_nesting levels (read levels bytes) below (parts_due class own) own.end))
    levels

-- ---- texts

-- a text that is not empty has at least four bytes before it, and is a part of the bytes
abbrev pub Stands : List ℕ → Placed → Type 0
Stands bytes text =
    0 < length text.bytes
    → (4 ≤ text.place) × (text.place + length text.bytes ≤ length bytes) × ((end : ℕ) × (text.bytes ≡ slice text.place end bytes))

-- it lies within the bytes
abbrev pub Inside : List ℕ → Placed → Type 0
Inside bytes text = 0 < length text.bytes → (4 ≤ text.place) × (text.place + length text.bytes ≤ length bytes)

-- an empty part is no text
empty_text : (bytes : List ℕ) (place at : ℕ) → Stands bytes (record { place = place; bytes = slice at at bytes })
empty_text bytes place at = rw (slice_empty at bytes) (λ some. absurd (omega arith))

module _ (bytes : List ℕ) where
  -- the text of a trivia item
  item_text : (at : ℕ) → 1 ≤ at → ItemHeld bytes at → Stands bytes (record { place = at + 3; bytes = trivium_text bytes at })
  item_text at first held =
      let inside : trivium_behind bytes at ≤ length bytes = held.inside in
      by_test (eqb (get_or bytes at 0) 1)
      (λ q. rw q (λ some. absurd (omega arith)))
      (λ q.
      let last : at + 3 + number_at bytes (at + 1) ≤ length bytes = rw q at inside in
      rw (q, length-slice (at + 3) (at + 3 + number_at bytes (at + 1)) bytes last) (λ some. (omega arith, omega arith, (at + 3 + number_at bytes (at + 1), refl))))

  -- those of trivia items
  items_texts : (at count end : ℕ) → 1 ≤ at → trivia_end bytes at count ≡ Some end
      → (text : Placed) → Memᴰ text (trivia_texts bytes at count) → Stands bytes text
  unfolding trivia_texts
  items_texts at zero end first e text member = absurd (Memᴰ.not-nil member)
  items_texts at (suc count) end first e text member =
      let held = items_held bytes at count end e in
      ⊎_elim
      (λ same. rw same (item_text at first held.0))
      (λ behind. items_texts (trivium_behind bytes at) count end (omega (arith, held.0.onward)) held.1 text behind)
      (Memᴰ.cases_cons member)

  -- those of trivia, and a text behind them
  own_texts : (at : ℕ) (class : Class) (kind : Kind) (trivia : TriviaSpan) → Headed bytes at class kind trivia
      → (letters : Placed) → Stands bytes letters
      → (text : Placed) → Memᴰ text (trivia_texts bytes trivia.first trivia.count ++ (letters ∷ [])) → Stands bytes text
  unfolding trivia_texts
  own_texts at class kind trivia headed letters own text member =
      ⊎_elim
      (λ item.
      trivia_cases bytes (at + 2) (get_or bytes (at + 1) 0 % 2)
      (λ (span : TriviaSpan). Memᴰ text (trivia_texts bytes span.first span.count) → Stands bytes text)
      (λ without none. absurd (Memᴰ.not-nil none))
      (λ end some room count is. items_texts (at + 2 + 2) (number_at bytes (at + 2)) end (omega arith) is text)
      trivia headed.trivia_is item)
      (λ letter. let same : text ≡ letters = Memᴰ.eq_of_singleton letter in rw same own)
      (Memᴰ.append_cases (trivia_texts bytes trivia.first trivia.count) member)

  -- those of a record's own bytes
  record_texts : (at : ℕ) (class : Class) (levels : ℕ) (own : Own) → read_own bytes at class levels ≡ Ok own
      → (text : Placed) → Memᴰ text (texts_of bytes own) → Stands bytes text
  record_texts at class =
      own_cases bytes at class (λ (own : Own). (text : Placed) → Memᴰ text (texts_of bytes own) → Stands bytes text)
      (λ kind trivia headed number room. own_texts at class kind trivia headed _ (empty_text bytes (trivia.end + 2) (trivia.end + 2)))
      (λ kind trivia end headed leaf stands held.
      let held_trivia = trivia_of_lem headed in
      own_texts at class kind trivia headed _
      (rw (length-slice (trivia.end + 2) end bytes held.inside) (λ some. (omega arith, omega (arith, held.inside), (end, refl)))))
      (λ kind trivia headed list leaf. own_texts at class kind trivia headed _ (empty_text bytes trivia.end trivia.end))

  -- those of its parts
  parts_texts : (reader : Reader) → ((class : Class) (at : ℕ) (text : Placed) → Memᴰ text (reader class at).texts → Stands bytes text)
      → (parts : List Due) (at : ℕ) (text : Placed) → Memᴰ text (read_parts reader parts at).texts → Stands bytes text
  unfolding read_parts
  parts_texts reader below [] at text member = absurd (Memᴰ.not-nil member)
  parts_texts reader below (nothing ∷ parts) at text member = parts_texts reader below parts at text member
  parts_texts reader below (due class ∷ parts) at text member =
      ⊎_elim
      (λ first. below class at text first)
      (λ rest. parts_texts reader below parts (reader class at).end text rest)
      (Memᴰ.append_cases (reader class at).texts member)

  -- every text that is read is a part of the bytes, whether the reading passes or not
  pub texts_stand : (levels : ℕ) (class : Class) (at : ℕ) (text : Placed) → Memᴰ text (read levels bytes class at).texts → Stands bytes text
  texts_stand =
      every_reading bytes (λ levels class at reading. (text : Placed) → Memᴰ text reading.texts → Stands bytes text)
      (λ levels class at reader why text member. absurd (Memᴰ.not-nil member))
      (λ levels class at own is below text member.
      ⊎_elim
      (λ own_text. record_texts at class (suc levels) own is text own_text)
      (λ part-text. parts_texts (read levels bytes) below (parts_due class own) own.end text part-text)
      (Memᴰ.append_cases (texts_of bytes own) member))

  -- so it lies within the bytes
  pub texts_inside : (levels : ℕ) (class : Class) (at : ℕ) (text : Placed) → Memᴰ text (read levels bytes class at).texts → Inside bytes text
  texts_inside levels class at text member some = let stands = texts_stand levels class at text member some in (stands.0, stands.1)
