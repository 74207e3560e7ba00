-- Laws of reading a stored list: what a chunk that is found was laid out as, and the chunks from a place as the one there and those behind it.
use Rattle.std.specs.Prelude.{Option, Some, None, All}
use mathlib.Core.Path.{◌≡◌, refl, sym, ap, ◌∙◌}
use mathlib.Core.List.{List, [], ◌∷◌, map}
use Prim.Native.Nat.{ℕ, zero, suc, ◌+◌, ◌-◌, ◌*◌, ◌%◌, ◌≤◌, ◌<◌}
use mathlib.Core.Logic.{◌⊎◌, inl, inr}
use native.Mathlib.Omega.{arith}
use native.Mathlib.Nat.{add-zero}
use lib.ListN.{length, get_or, take, drop}
use Rattle.std.proofs.Common.{rules}
use Rattle.std.proofs.lemmas.List.{get_or-drop, get_or-take}
use Rattle.std.proofs.lemmas.List.Elements.{All-cons}
use Rattle.chunks.specs.Steps.{text_behind, ChunkInside}
use lib.Seq.{length-slice}
use lib.Dec.{eqb, ltb, leb}
use borrow.Author.Tests.{lt-ltb, le-ltb, le-leb, lt-leb, ne_eqb, ltb-true, ltb-false, eqb-false}
use Rattle.text.specs.Numbers.{number_at}
use Rattle.text.proofs.Choices.{cond_both, by_test}
use Rattle.chunks.specs.Stored.{type_bits, indent_bit, stored_indent, Bytes, AllWellFormed}
use Rattle.chunks.specs.Reading.{type_of, text_on, text_at, indent_on, chunk_at, ChunkFits, Fits, rest_on, chunks_from, stored_chunks, chunk_of, chunks_at, AllFit}
use Rattle.chunks.specs.declared.stored.ChunkType.{ChunkType}
use Rattle.chunks.specs.declared.stored.StoredChunk.{StoredChunk}
use Rattle.chunks.proofs.Forms.{type_bits_small, bits_of_type, map_bits, map_type, indent_bit_lem, indent_stored}

-- ---- what a chunk that is found was laid out as

-- a map, an indent or none, a text length and a text, all within the list
pub record Laid (list : List ℕ) (at : ℕ) (chunk : StoredChunk) : Type 0 where
  pub map : get_or list at 0 ≡ type_bits chunk.ty + indent_bit chunk.indent
  pub low : chunk.indent ≤ 4096
  pub indent : (chunk.indent ≡ 0 → ⊥) → number_at list (at + 1) ≡ chunk.indent
  pub start : chunk.start ≡ at + 3 + length (stored_indent chunk.indent)
  pub end : chunk.end ≡ chunk.start + number_at list (at + 1 + length (stored_indent chunk.indent))
  pub some : chunk.start < chunk.end
  pub inside : chunk.end ≤ length list

-- so what is found is laid out, if anything is
abbrev pub LaidAs : List ℕ → ℕ → Option StoredChunk → Type 0
LaidAs list at (Some chunk) = Laid list at chunk
LaidAs list at None = Unit

-- a text that is found behind a map and an indent
text_laid : (list : List ℕ) (at place : ℕ) (ty : ChunkType) (indent : ℕ) → get_or list at 0 ≡ type_bits ty + indent_bit indent → indent ≤ 4096
    → ((indent ≡ 0 → ⊥) → number_at list (at + 1) ≡ indent) → place ≡ at + 1 + length (stored_indent indent) → LaidAs list at (text_at list place ty indent)
unfolding text_at
text_laid list at place ty indent map low stored there =
    let P = LaidAs list at in
    let count = number_at list place in
    cond_both (λ (n : Option ℕ). P (text_on list place ty indent n)) (leb (place + 2) (length list)) (Some count) None (λ e1.
    cond_both P (eqb count 0) None _ (λ _. tt) (λ e2.
    cond_both P (ltb (length list) (place + 2 + count)) None _ (λ _. tt) (λ e3.
    record {
      map = map;
      low = low;
      indent = stored;
      start = omega arith;
      end = rw there;
      some = omega (arith, eqb-false count 0 e2);
      inside = ltb-false (length list) (place + 2 + count) e3;
    }))) (λ _. tt)

-- a chunk that is found
pub chunk_laid : (list : List ℕ) (at : ℕ) → LaidAs list at (chunk_at list at)
unfolding chunk_at stored_indent
chunk_laid list at =
    let P = LaidAs list at in
    let map = get_or list at 0 in
    let bits = map % 4 in
    let indent = number_at list (at + 1) in
    cond_both P (leb (length list) at) None _ (λ _. tt) (λ e1.
    cond_both P (ltb 7 map) None _ (λ _. tt) (λ e2.
    cond_both P (eqb bits 3) None _ (λ _. tt) (λ e3.
    let told : type_bits (type_of bits) ≡ bits = bits_of_type bits (omega (arith, eqb-false bits 3 e3)) in
    cond_both P (ltb map 4) _ _
    (λ e4. text_laid list at (at + 1) (type_of bits) 0 (omega (arith, ltb-true map 4 e4)) (omega arith) (λ some. absurd (some refl)) (omega arith))
    (λ e4.
    cond_both (λ (n : Option ℕ). P (indent_on list (at + 1) (type_of bits) n)) (leb (at + 1 + 2) (length list)) (Some indent) None (λ e5.
    cond_both P (eqb indent 0) None _ (λ _. tt) (λ e6.
    cond_both P (ltb 4096 indent) None _ (λ _. tt) (λ e7.
    let some = eqb-false indent 0 e6 in
    text_laid list at (at + 1 + 2) (type_of bits) indent
    (omega (arith, ltb-false map 4 e4, ltb-false 7 map e2, indent_bit_lem indent some)) (ltb-false 4096 indent e7) (λ _. refl) (omega (arith, ap length (indent_stored indent some)))))) (λ _. tt)))))

-- ---- what is laid out is found

-- behind a map and an indent a text is looked for
indent_found : (list : List ℕ) (at : ℕ) (ty : ChunkType) (indent : ℕ) → at + 3 ≤ length list → get_or list at 0 ≡ type_bits ty + indent_bit indent → indent ≤ 4096
    → ((indent ≡ 0 → ⊥) → number_at list (at + 1) ≡ indent) → chunk_at list at ≡ text_at list (at + 1 + length (stored_indent indent)) ty indent
unfolding chunk_at stored_indent
indent_found list at ty zero enough map low stored =
    let small = type_bits_small ty in
    let bits = map_bits ty 0 in
    rw (
      map,
      lt-leb (length list) at (omega arith),
      le-ltb 7 (type_bits ty + 0) (omega arith),
      ne_eqb ((type_bits ty + 0) % 4) 3 (λ both. omega arith),
      lt-ltb (type_bits ty + 0) 4 (omega arith),
      map_type ty 0,
      add-zero (at + 1),
    )
indent_found list at ty (suc n) enough map low stored =
    let small = type_bits_small ty in
    let bits = map_bits ty (suc n) in
    rw (
      map,
      lt-leb (length list) at (omega arith),
      le-ltb 7 (type_bits ty + 4) (omega arith),
      ne_eqb ((type_bits ty + 4) % 4) 3 (λ both. omega arith),
      le-ltb (type_bits ty + 4) 4 (omega arith),
      map_type ty (suc n),
      le-leb (at + 1 + 2) (length list) (omega arith),
      stored (λ none. omega arith),
      ne_eqb (suc n) 0 (λ none. omega arith),
      le-ltb 4096 (suc n) low,
    )

-- a text length of at least 1 with as many bytes behind it is a text
text_found : (list : List ℕ) (place : ℕ) (ty : ChunkType) (indent : ℕ) → (number_at list place ≡ 0 → ⊥) → place + 2 + number_at list place ≤ length list
    → text_at list place ty indent ≡ Some (record { ty = ty; indent = indent; start = place + 2; end = place + 2 + number_at list place })
unfolding text_at
text_found list place ty indent some enough =
    rw (le-leb (place + 2) (length list) (omega arith), ne_eqb _ _ some, le-ltb _ _ enough)

-- what is laid out as a chunk is found as that chunk
pub laid_found : (list : List ℕ) (at : ℕ) (chunk : StoredChunk) → Laid list at chunk → chunk_at list at ≡ Some chunk
laid_found list at chunk laid =
    let place = at + 1 + length (stored_indent chunk.indent) in
    let start : place + 2 ≡ chunk.start = omega (arith, laid.start) in
    let end : place + 2 + number_at list place ≡ chunk.end = omega (arith, laid.start, laid.end) in
    indent_found list at chunk.ty chunk.indent (omega arith) laid.map laid.low laid.indent
    ∙ text_found list place chunk.ty chunk.indent (λ none. omega arith) (omega arith)
    ∙ rw (end, start)

-- ---- a chunk that is read from the bytes from its place on

-- the head of a chunk without an indent
pub record PlainHead (list : List ℕ) (at : ℕ) (chunk : StoredChunk) : Type 0 where
  pub map : get_or list at 0 ≡ type_bits chunk.ty
  pub indent : chunk.indent ≡ 0
  pub start : chunk.start ≡ at + 3
  pub end : chunk.end ≡ chunk.start + number_at list (at + 1)

-- and of one with an indent
pub record IndentedHead (list : List ℕ) (at : ℕ) (chunk : StoredChunk) : Type 0 where
  pub map : get_or list at 0 ≡ type_bits chunk.ty + 4
  pub indent : chunk.indent ≡ number_at list (at + 1)
  pub some : 0 < chunk.indent
  pub start : chunk.start ≡ at + 5
  pub end : chunk.end ≡ chunk.start + number_at list (at + 3)

-- each chunk has one of the two
pub laid_head : (list : List ℕ) (at : ℕ) (chunk : StoredChunk) → Laid list at chunk → PlainHead list at chunk ⊎ IndentedHead list at chunk
unfolding stored_indent
laid_head list at chunk laid = by_indent chunk.indent refl
  where
    by_indent : (indent : ℕ) → chunk.indent ≡ indent → PlainHead list at chunk ⊎ IndentedHead list at chunk
    by_indent zero e =
        let bit = ap indent_bit e in
        let width = ap length (ap stored_indent e) in
        let place : at + 1 + length (stored_indent chunk.indent) ≡ at + 1 = omega arith in
        inl (record { map = omega arith; indent = e; start = omega arith; end = rw place at laid.end })
    by_indent (suc n) e =
        let bit = ap indent_bit e in
        let width = ap length (ap stored_indent e) in
        let place : at + 1 + length (stored_indent chunk.indent) ≡ at + 3 = omega arith in
        let number = laid.indent (λ none. omega arith) in
        inr (record { map = omega arith; indent = sym number; some = omega arith; start = omega arith; end = rw place at laid.end })

-- where nothing is laid out no chunk is found
none_laid : (list : List ℕ) (at : ℕ) → ((chunk : StoredChunk) → Laid list at chunk → ⊥) → None ≡ chunk_at list at
none_laid list at never = by_found (chunk_at list at) (chunk_laid list at)
  where
    by_found : (found : Option StoredChunk) → LaidAs list at found → None ≡ found
    by_found (Some chunk) laid = absurd (never chunk laid)
    by_found None laid = refl

-- a text is judged alike by the bytes behind its start and by the list that they end
text_same : (list : List ℕ) (place room count : ℕ) (ty : ChunkType) (indent : ℕ) → room + (place + 2) ≡ length list
    → text_behind room (place + 2) count ty indent ≡ text_on list place ty indent (Some count)
text_same list place room count ty indent whole =
    by_test (ltb room count)
    (λ e. let short = ltb-true room count e in rw (e, lt-ltb (length list) (place + 2 + count) (omega arith)))
    (λ e. let enough = ltb-false room count e in rw (e, le-ltb (length list) (place + 2 + count) (omega arith)))

-- what `get` hands on of a list from a place on, in the words of its contract
abbrev pub Behind : List ℕ → ℕ → List ℕ → Type 0
Behind list at part = (at ≤ length list) × (length list ≤ length list) × (part ≡ take (length list - at) (drop at list)) × (length part + at ≡ length list)

module _ (list : List ℕ) (at : ℕ) (part : List ℕ) (behind : Behind list at part) where
  -- its bytes are the list's
  byte_behind : (i : ℕ) {place : ℕ} → i < length part → place ≡ at + i → get_or part i 0 ≡ get_or list place 0
  byte_behind i inside there =
      rw (there, behind.2) (get_or-take (length list - at) (drop at list) i 0 (omega (arith, behind.3)) ∙ get_or-drop at list i 0)

  -- two of them are the list's number there
  number_behind : (i : ℕ) {place : ℕ} → i + 1 < length part → place ≡ at + i → get_or part i 0 + 256 * get_or part (i + 1) 0 ≡ number_at list place
  number_behind i {place} inside there =
      rw (byte_behind i {place = place} (omega arith) there, byte_behind (i + 1) {place = place + 1} inside (omega arith))

  -- no chunk stands there where neither head does
  pub none_behind : (3 ≤ length part → get_or part 0 0 ≤ 2 → ⊥)
      → (5 ≤ length part → 4 ≤ get_or part 0 0 → get_or part 0 0 ≤ 6 → 0 < get_or part 1 0 + 256 * get_or part 2 0 → get_or part 1 0 + 256 * get_or part 2 0 ≤ 4096 → ⊥)
      → None ≡ chunk_at list at
  none_behind plain indented = none_laid list at (λ chunk laid.
      let whole = behind.3 in
      let small = type_bits_small chunk.ty in
      elim (laid_head list at chunk laid) [
        | inl head ↦
            let map = byte_behind 0 {place = at} (omega arith) (omega arith) in
            plain (omega arith) (omega arith)
        | inr head ↦
            let map = byte_behind 0 {place = at} (omega arith) (omega arith) in
            let number = number_behind 1 {place = at + 1} (omega arith) refl in
            indented (omega arith) (omega arith) (omega arith) (omega arith) (omega arith)
      ])

  -- a text behind a map of its type
  pub plain_behind : (room count : ℕ) (ty : ChunkType) → 3 ≤ length part → type_bits ty ≡ get_or part 0 0 → room ≡ length part - 3
      → count ≡ get_or part 1 0 + 256 * get_or part 2 0 → text_behind room (at + 3) count ty 0 ≡ chunk_at list at
  unfolding text_at stored_indent
  plain_behind room count ty enough bits left counted =
      let whole = behind.3 in
      let map : get_or list at 0 ≡ type_bits ty + indent_bit 0 = omega (arith, byte_behind 0 {place = at} (omega arith) (omega arith)) in
      let next : at + 3 ≡ at + 1 + 2 = omega arith in
      let found = rw (add-zero (at + 1), le-leb (at + 1 + 2) (length list) (omega arith)) at
      (indent_found list at ty 0 (omega arith) map (omega arith) (λ some. absurd (some refl))) in
      rw (next, counted, number_behind 1 {place = at + 1} (omega arith) refl)
      (text_same list (at + 1) room (number_at list (at + 1)) ty 0 (omega arith) ∙ sym found)

  -- a text behind a map of its type and of an indent, and the indent
  pub indented_behind : (room count : ℕ) (ty : ChunkType) (indent : ℕ) → 5 ≤ length part → 4 ≤ get_or part 0 0 → type_bits ty ≡ get_or part 0 0 - 4
      → indent ≡ get_or part 1 0 + 256 * get_or part 2 0 → (indent ≡ 0 → ⊥) → indent ≤ 4096 → room ≡ length part - 5
      → count ≡ get_or part 3 0 + 256 * get_or part 4 0 → text_behind room (at + 5) count ty indent ≡ chunk_at list at
  unfolding text_at
  indented_behind room count ty indent enough set bits told some low left counted =
      let whole = behind.3 in
      let width : length (stored_indent indent) ≡ 2 = ap length (indent_stored indent some) in
      let map : get_or list at 0 ≡ type_bits ty + indent_bit indent = omega (arith, byte_behind 0 {place = at} (omega arith) (omega arith), indent_bit_lem indent some) in
      let stored : number_at list (at + 1) ≡ indent = sym (told ∙ number_behind 1 {place = at + 1} (omega arith) refl) in
      let place : at + 1 + length (stored_indent indent) ≡ at + 3 = omega arith in
      let found = rw (place, le-leb (at + 3 + 2) (length list) (omega arith)) at (indent_found list at ty indent (omega arith) map low (λ some. stored)) in
      let next : at + 5 ≡ at + 3 + 2 = omega arith in
      rw (next, counted, number_behind 3 {place = at + 3} (omega arith) refl)
      (text_same list (at + 3) room (number_at list (at + 3)) ty indent (omega arith) ∙ sym found)

-- ---- what is found fits

-- what is laid out fits where its text is not too long
pub laid_fits : (list : List ℕ) (at : ℕ) (chunk : StoredChunk) → chunk.end ≤ chunk.start + 65535 → Laid list at chunk → ChunkFits list at chunk
laid_fits list at chunk short laid = record { behind = omega arith; some = laid.some; inside = laid.inside; short = short; indent = laid.low }

-- which of bytes it never is
fits_laid : (list : List ℕ) (at : ℕ) → Bytes list → (found : Option StoredChunk) → LaidAs list at found → Fits list at found
fits_laid list at bytes (Some chunk) laid =
    let place = at + 1 + length (stored_indent chunk.indent) in
    laid_fits list at chunk (omega (arith, laid.end, bytes place, bytes (place + 1))) laid
fits_laid list at bytes None laid = tt

-- so what is found does
pub chunk_fits : (list : List ℕ) (at : ℕ) → Bytes list → Fits list at (chunk_at list at)
chunk_fits list at bytes = fits_laid list at bytes (chunk_at list at) (chunk_laid list at)

-- ---- the chunks from a place on

-- what goes on in the same way behind every later place is the same
rest_same : (list : List ℕ) (at : ℕ) (rest rest' : ℕ → List StoredChunk) (found : Option StoredChunk) → LaidAs list at found
    → ((end : ℕ) → at < end → rest end ≡ rest' end) → rest_on rest found ≡ rest_on rest' found
rest_same list at rest rest' (Some chunk) laid same = ap (λ (chunks : List StoredChunk). chunk ∷ chunks) (same chunk.end (omega arith))
rest_same list at rest rest' None laid same = refl

-- no chunk stands at the list's end
pub chunk_end : (list : List ℕ) (at : ℕ) → length list ≤ at → chunk_at list at ≡ None
unfolding chunk_at
chunk_end list at past = rw (le-leb _ _ past)

-- places grow, so that as many chunks as bytes are enough
chunks_more : (n : ℕ) (list : List ℕ) (at : ℕ) → length list ≤ n + at → chunks_from (suc n) list at ≡ chunks_from n list at
unfolding chunks_from
chunks_more zero list at enough = rw (chunk_end list at (omega arith))
chunks_more (suc n) list at enough =
    rest_same list at (chunks_from (suc n) list) (chunks_from n list) (chunk_at list at) (chunk_laid list at) (λ end ahead. chunks_more n list end (omega arith))

-- the chunk at a place, if there is one, and those behind it
chunks_at_lem : (list : List ℕ) (at : ℕ) → stored_chunks list at ≡ rest_on (stored_chunks list) (chunk_at list at)
unfolding stored_chunks chunks_from
chunks_at_lem list at = sym (chunks_more (length list) list at (omega arith))

-- where a chunk is found it is the first
pub chunks_found : (list : List ℕ) (at : ℕ) (chunk : StoredChunk) → chunk_at list at ≡ Some chunk → stored_chunks list at ≡ chunk ∷ stored_chunks list chunk.end
chunks_found list at chunk e = chunks_at_lem list at ∙ ap (rest_on (stored_chunks list)) e

-- where none is found there are none
pub chunks_none : (list : List ℕ) (at : ℕ) → chunk_at list at ≡ None → stored_chunks list at ≡ []
chunks_none list at e = chunks_at_lem list at ∙ ap (rest_on (stored_chunks list)) e

-- the same of the chunks with their texts
pub chunks_at_found : (list : List ℕ) (at : ℕ) (chunk : StoredChunk) → chunk_at list at ≡ Some chunk → chunks_at list at ≡ chunk_of list chunk ∷ chunks_at list chunk.end
unfolding chunks_at
chunks_at_found list at chunk e = ap (map (chunk_of list)) (chunks_found list at chunk e)

pub chunks_at_none : (list : List ℕ) (at : ℕ) → chunk_at list at ≡ None → chunks_at list at ≡ []
unfolding chunks_at
chunks_at_none list at e = ap (map (chunk_of list)) (chunks_none list at e)

-- ---- every chunk lies within the list

-- one that is laid out, and those behind it
rest_inside : (list : List ℕ) (at : ℕ) (rest : ℕ → List StoredChunk) (found : Option StoredChunk) → LaidAs list at found → ((end : ℕ) → All (ChunkInside list) (rest end))
    → All (ChunkInside list) (rest_on rest found)
rest_inside list at rest (Some chunk) laid others = All-cons (ChunkInside list) chunk (rest chunk.end) (record { start = laid.some; end = laid.inside }) (others chunk.end)
rest_inside list at rest None laid others = search rules

-- however many are read
from_inside : (n : ℕ) (list : List ℕ) (at : ℕ) → All (ChunkInside list) (chunks_from n list at)
unfolding chunks_from
from_inside zero list at = search rules
from_inside (suc n) list at = rest_inside list at (chunks_from n list) (chunk_at list at) (chunk_laid list at) (λ end. from_inside n list end)

pub chunks_inside : (list : List ℕ) (at : ℕ) → All (ChunkInside list) (stored_chunks list at)
unfolding stored_chunks
chunks_inside list at = from_inside (length list) list at

-- ---- every chunk fits, and is well formed

-- a chunk that fits, and those behind it
rest_fit : (list : List ℕ) (at : ℕ) (rest : ℕ → List StoredChunk) (found : Option StoredChunk) → Fits list at found → ((end : ℕ) → AllFit list end (rest end)) → AllFit list at (rest_on rest found)
rest_fit list at rest (Some chunk) fit others = (fit, others chunk.end)
rest_fit list at rest None fit others = tt

-- however many are read
from_fit : (n : ℕ) (list : List ℕ) (at : ℕ) → Bytes list → AllFit list at (chunks_from n list at)
unfolding chunks_from
from_fit zero list at bytes = tt
from_fit (suc n) list at bytes = rest_fit list at (chunks_from n list) (chunk_at list at) (chunk_fits list at bytes) (λ end. from_fit n list end bytes)

-- of bytes, every chunk that is read fits
pub chunks_fit : (list : List ℕ) (at : ℕ) → Bytes list → AllFit list at (stored_chunks list at)
unfolding stored_chunks
chunks_fit list at bytes = from_fit (length list) list at bytes

-- a chunk that fits is well formed
fit_well_formed : (list : List ℕ) (at : ℕ) (chunks : List StoredChunk) → AllFit list at chunks → AllWellFormed (map (chunk_of list) chunks)
fit_well_formed list at [] fit = tt
fit_well_formed list at (chunk ∷ chunks) fit =
    let here = fit.0 in
    let long = length-slice chunk.start chunk.end list here.inside in
    (record { indent = here.indent; some = omega arith; short = omega arith }, fit_well_formed list chunk.end chunks fit.1)

-- so every chunk of a list of bytes is
pub chunks_well_formed : (list : List ℕ) (at : ℕ) → Bytes list → AllWellFormed (chunks_at list at)
unfolding chunks_at
chunks_well_formed list at bytes = fit_well_formed list at (stored_chunks list at) (chunks_fit list at bytes)
