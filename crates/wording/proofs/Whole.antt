-- Where a buffer has room for all the pieces of a line, none is left out: the line is what it held, and then the pieces.
use mathlib.Core.Path.{◌≡◌, sym, ap, ◌∙◌}
use mathlib.Core.List.{List, [], ◌∷◌, ◌++◌, append_assoc, append-nil}
use mathlib.Core.Bool.{true}
use Prim.Native.Nat.{ℕ, ◌+◌, ◌≤◌}
use native.Mathlib.Omega.{arith}
use lib.ListN.{length, take, length-append, length-take}
use lib.Seq.{sets, sets-eq, length-sets, take_at}
use borrow.Author.Tests.{le-leb}
use Rattle.text.specs.Ink.{flat}
use Rattle.text.specs.Stores.{fits}
use Rattle.wording.specs.Lines.{Line, line_in, put, puts}

pub record Whole (pieces : List (List ℕ)) (line : Line) : Type 0 where
  pub used : (puts pieces line).used ≡ line.used + length (flat pieces)
  pub bytes : take (line.used + length (flat pieces)) (puts pieces line).buffer ≡ take line.used line.buffer ++ flat pieces

-- the start of a buffer up to the end of a piece that was stored
stored_front : (buffer : List ℕ) (at : ℕ) (piece : List ℕ) → at + length piece ≤ length buffer → take (at + length piece) (sets buffer at piece) ≡ take at buffer ++ piece
stored_front buffer at piece room =
    let size : length (take at buffer ++ piece) ≡ at + length piece = simp (length-append, length-take) (omega arith) in
    rw (sets-eq piece buffer at room) (take_at _ _ _ size)

-- a piece that fits is stored, and the others go on behind it
put_fits : (piece : List ℕ) (pieces : List (List ℕ)) (buffer : List ℕ) (at : ℕ) → fits buffer at piece ≡ true
    → puts (piece ∷ pieces) (line_in buffer at) ≡ puts pieces (line_in (sets buffer at piece) (at + length piece))
unfolding puts put
put_fits piece pieces buffer at fit =
    let stored : put piece (line_in buffer at) ≡ line_in (sets buffer at piece) (at + length piece) = rw fit in
    ap (puts pieces) stored

-- no pieces leave a line as it is
whole_none : (buffer : List ℕ) (at : ℕ) → Whole [] (line_in buffer at)
unfolding puts flat
whole_none buffer at =
    let same : at + 0 ≡ at = omega arith in
    record { used = sym same; bytes = rw (same, append-nil) }

pub whole : (pieces : List (List ℕ)) (buffer : List ℕ) (at : ℕ) → at + length (flat pieces) ≤ length buffer → Whole pieces (line_in buffer at)
unfolding flat
whole [] buffer at room = whole_none buffer at
whole (piece ∷ pieces) buffer at room =
    let more : length (piece ++ flat pieces) ≡ length piece + length (flat pieces) = length-append piece (flat pieces) in
    let same : at + length (piece ++ flat pieces) ≡ at + length piece + length (flat pieces) = omega (arith, more) in
    let put_on = put_fits piece pieces buffer at (le-leb (at + length piece) (length buffer) (omega (arith, more))) in
    let size : length (sets buffer at piece) ≡ length buffer = length-sets buffer at piece in
    let rest : Whole pieces (line_in (sets buffer at piece) (at + length piece)) = whole pieces (sets buffer at piece) (at + length piece) (omega (arith, more, size)) in
    let front : take (at + length piece) (sets buffer at piece) ≡ take at buffer ++ piece = stored_front buffer at piece (omega (arith, more)) in
    let on_used : (puts (piece ∷ pieces) (line_in buffer at)).used ≡ at + length piece + length (flat pieces) = rw put_on rest.used in
    let on_bytes : take (at + length piece + length (flat pieces)) (puts (piece ∷ pieces) (line_in buffer at)).buffer ≡ (take at buffer ++ piece) ++ flat pieces =
    rw (put_on, ← front) rest.bytes in
    record { used = rw same on_used; bytes = rw same (on_bytes ∙ append_assoc (take at buffer) piece (flat pieces)) }
