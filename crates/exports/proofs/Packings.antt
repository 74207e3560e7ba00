-- Packed answers as numbers, by computing: 2^32 times the refusal's number plus its place, and for a record that uses a
-- place 2^16 times its letters plus its offset, at both ends of each part.
--   packings_held : map found rows ≡ map wanted rows
-- And both parts can be read off every packed number whose second part is below 2^32.
--   parts_read : .. Small answer → (packed_of answer / 4294967296 ≡ (numbers answer).0)
--       × (packed_of answer % 4294967296 ≡ (numbers answer).1)
use Rattle.std.specs.Prelude.{Some, None, Ok, Err}
use Prim.Native.Nat.{ℕ, ◌/◌, ◌%◌}
use mathlib.Core.Path.{◌≡◌, refl}
use mathlib.Core.List.{List, [], ◌∷◌, map}
use native.Mathlib.Omega.{arith}
use Rattle.answers.specs.Numbers.{numbers, Answer}
use Rattle.answers.specs.declared.Reason.{Reason}
use Rattle.answers.specs.declared.Reason.TheVariants.{OptionsLength, OptionsValue, TreeLength, TreeDepth, TreeLayout}
use Rattle.answers.specs.declared.Reason.TheVariants.{ChunkLayout, NotAscii, WorkRoom, TextRoom}
use Rattle.losses.specs.Lost.{Lost, loss_answer}
use Rattle.exports.specs.Packed.{packed_of, Small}

abbrev refused : Reason → ℕ → Answer
refused reason place = Err (record { reason = reason; place = place })

abbrev told : ℕ → ℕ → Lost
told place letters = Ok (Some (record { place = place; letters = letters }))

-- an answer and its packed number
abbrev pub rows : List (Answer × ℕ)
rows =
    (Ok 0, 0)
    ∷ (Ok 23, 23)
    ∷ (Ok 4294967295, 4294967295)
    ∷ (refused OptionsLength 0, 4294967296)
    ∷ (refused OptionsValue 8, 8589934600)
    ∷ (refused TreeLength 0, 12884901888)
    ∷ (refused TreeDepth 65534, 17179934718)
    ∷ (refused TreeLayout 65535, 21474902015)
    ∷ (refused ChunkLayout 1048575, 25770852351)
    ∷ (refused NotAscii 1048575, 30065819647)
    ∷ (refused WorkRoom 1048577, 34360786945)
    ∷ (refused TextRoom 23, 38654705687)
    ∷ (refused TextRoom 4294967295, 42949672959)
    -- a comment at offset 0 and at 65,535: at place (a), at place (h), and at all eight
    ∷ (loss_answer (told 0 1), 65536)
    ∷ (loss_answer (told 65535 1), 131071)
    ∷ (loss_answer (told 0 128), 8388608)
    ∷ (loss_answer (told 20 5), 327700)
    ∷ (loss_answer (told 65535 255), 16777215)
    ∷ (loss_answer (Ok None), 0)
    ∷ (loss_answer (Err (record { reason = TreeLayout; place = 4 })), 21474836484)
    ∷ []

abbrev found : Answer × ℕ → ℕ
found sample = packed_of sample.0

abbrev wanted : Answer × ℕ → ℕ
wanted sample = sample.1

pub packings_held : map found rows ≡ map wanted rows
packings_held = refl

pub parts_read : (answer : Answer) → Small answer
    → (packed_of answer / 4294967296 ≡ (numbers answer).0) × (packed_of answer % 4294967296 ≡ (numbers answer).1)
parts_read answer small = (omega (arith, small), omega (arith, small))
