-- What the setter answers to a list that was accepted, and what it promises of its text.
use Rattle.std.specs.Prelude.{Ok, Err}
use Rattle.answers.specs.Numbers.{no_refusal}
use mathlib.Core.Path.{◌≡◌, refl}
use mathlib.Core.List.{List, ◌++◌}
use Prim.Native.Nat.{ℕ, ◌≤◌, ◌<◌}
use lib.ListN.{length, drop}
use borrow.Author.Tests.{le-leb, lt-leb}
use Rattle.answers.specs.Texts.{text, answer_in, buffer_after}
use Rattle.answers.specs.declared.Reason.TheVariants.{TextRoom}
use Rattle.chunks.specs.Stored.{Bytes}
use Rattle.chunks.specs.Reading.{chunks_of}
use Rattle.chunks.specs.Judging.{chunks_checked}
use Rattle.chunks.proofs.Judging.{passed_short}
use Rattle.chunks.proofs.RoundTrip.{accepted_stored}
use Rattle.columns.specs.Setting.{text_of}
use Rattle.columns.specs.Promise.{Faithful}
use Rattle.columns.specs.declared.Margins.{Margins}
use Rattle.columns.proofs.Ink.{text_ink}
use Rattle.columns.proofs.Neatness.{text_blanks, text_empties}
use Rattle.columns.proofs.Length.{text_short}

-- the text of a list that was accepted keeps the ink, is neat, and is short
pub text_faithful : (margins : Margins) (list : List ℕ) → margins.label ≤ 255 → margins.code ≤ 255 → Bytes list → chunks_checked list ≡ no_refusal
    → Faithful (chunks_of list) (text_of margins (chunks_of list))
text_faithful margins list narrow-label narrow-code bytes passed =
    let chunks = chunks_of list in
    let stored = accepted_stored list bytes passed in
    let good = stored.1 in
    record {
      ink = text_ink margins chunks good;
      blanks = text_blanks margins chunks;
      empties = text_empties margins chunks;
      short = text_short margins narrow-label narrow-code chunks good (rw stored.0 (passed_short list passed));
    }

-- a text that is longer than its buffer leaves the buffer
pub text_long : (bytes buffer : List ℕ) (n : ℕ) → n ≡ length bytes → length buffer < n
    → (Err (record { reason = TextRoom; place = n }) ≡ answer_in (text bytes) (length buffer)) × (buffer ≡ buffer_after (text bytes) buffer)
text_long bytes buffer n same long = rw (← same, lt-leb n (length buffer) long) (refl, refl)

-- a text that fits takes the place of as many bytes at the buffer's start
pub text_fits_lem : (bytes buffer : List ℕ) (n : ℕ) → n ≡ length bytes → n ≤ length buffer
    → (Ok n ≡ answer_in (text bytes) (length buffer)) × (bytes ++ drop n buffer ≡ buffer_after (text bytes) buffer)
text_fits_lem bytes buffer n same room =
    let fits : length bytes ≤ length buffer = rw same at room in
    rw (le-leb (length bytes) (length buffer) fits) (rw same, rw same)
