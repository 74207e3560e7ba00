-- Runs of stores into a buffer.
use mathlib.Core.Path.{◌≡◌, sym}
use mathlib.Core.List.{List, [], ◌∷◌, ◌++◌, append_assoc}
use mathlib.Core.Bool.{true}
use Prim.Native.Nat.{ℕ, suc, ◌+◌, ◌-◌, ◌≤◌}
use native.Mathlib.Omega.{arith}
use lib.ListN.{length, take, drop, set, replicate, length-replicate, length-take, length-drop, length-append}
use lib.Seq.{sets, sets-eq, length-sets, drop-drop}
use borrow.Rule.Slice.PartMut.{put_mid}
use borrow.Author.Tests.{le-leb, leb-true}
use Rattle.text.specs.Stores.{fits, stored_buffer}

-- two runs one behind the other are one run
pub sets_append : (buffer : List ℕ) (at : ℕ) (xs ys : List ℕ) → sets buffer at (xs ++ ys) ≡ sets (sets buffer at xs) (at + length xs) ys
sets_append buffer at [] ys =
    let same : at + 0 ≡ at = omega arith in
    rw same
sets_append buffer at (x ∷ xs) ys =
    let same : at + suc (length xs) ≡ suc at + length xs = omega arith in
    rw same (sets_append (set buffer at x) (suc at) xs ys)

-- a run at the front stands there, with the rest of the buffer behind it
pub sets_front : (buffer text : List ℕ) → length text ≤ length buffer → sets buffer 0 text ≡ text ++ drop (length text) buffer
sets_front buffer text room =
    let same : 0 + length text ≡ length text = omega arith in
    rw same at (sets-eq text buffer 0 (omega arith))

-- where both fit, what is stored and then more behind it is stored at once
pub stored_append : (buffer : List ℕ) (at : ℕ) (xs ys : List ℕ) → fits buffer at (xs ++ ys) ≡ true
    → stored_buffer (stored_buffer buffer at xs) (at + length xs) ys ≡ stored_buffer buffer at (xs ++ ys)
stored_append buffer at xs ys e =
    let room : at + length (xs ++ ys) ≤ length buffer = leb-true _ _ e in
    let first : at + length xs ≤ length buffer = omega (arith, length-append xs ys) in
    let second : at + length xs + length ys ≤ length (sets buffer at xs) = omega (arith, length-append xs ys, length-sets buffer at xs) in
    rw (le-leb _ _ first, le-leb _ _ second, e) (sym (sets_append buffer at xs ys))

-- a run written over a part of a buffer is stored there
pub part_stored : (buffer bytes : List ℕ) (at end : ℕ) → end ≡ at + length bytes → end ≤ length buffer → put_mid at (end - at) buffer bytes ≡ stored_buffer buffer at bytes
part_stored buffer bytes at end is within =
    let room : at + length bytes ≤ length buffer = omega arith in
    let size : end - at ≡ length bytes = omega arith in
    rw (le-leb _ _ room, sets-eq bytes buffer at room, size, drop-drop (length bytes) at buffer, append_assoc)

-- a part of a buffer filled with one byte is a run of it, stored there
pub part_filled : (buffer : List ℕ) (byte at end count : ℕ) → end ≡ at + count → end ≤ length buffer
    → put_mid at (end - at) buffer (replicate (length (take (end - at) (drop at buffer))) byte) ≡ stored_buffer buffer at (replicate count byte)
part_filled buffer byte at end count is within =
    let size : length (take (end - at) (drop at buffer)) ≡ count = simp (length-take, length-drop) (omega arith) in
    rw size (part_stored buffer (replicate count byte) at end (rw length-replicate is) within)
