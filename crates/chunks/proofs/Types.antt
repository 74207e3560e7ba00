-- Laws of the types that bits tell.
use Rattle.std.proofs.Common.{◌≡◌, ℕ, ◌<◌, ◌≤◌, Some, None, Result, Ok, Err, IsOk, refl, ap, arith}
use Rattle.std.specs.Result.{result_ok}
use Rattle.chunks.specs.Stored.{type_bits}
use Rattle.chunks.specs.Reading.{Tells}
use Rattle.chunks.specs.declared.stored.ChunkType.{ChunkType}
use Rattle.chunks.specs.declared.stored.NoType.{NoType}

-- the type that is told has the bits
pub told : {bits : ℕ} {ty : ChunkType} (r : Result ChunkType NoType) → Tells bits r → result_ok r ≡ Some ty → type_bits ty ≡ bits
told {bits} {ty} (Ok other) tells e = let same : other ≡ ty = cc in rw same at tells
told (Err none) tells e = cc

pub told_ok : {bits : ℕ} {ty : ChunkType} (r : Result ChunkType NoType) → Tells bits r → r ≡ Ok ty → type_bits ty ≡ bits
told_ok r tells e = told r tells (ap result_ok e)

-- bits that tell none are not a type's
pub untold : {bits : ℕ} (r : Result ChunkType NoType) → Tells bits r → result_ok r ≡ None → 2 < bits
untold (Ok ty) tells e = cc
untold (Err none) tells e = tells

-- and any others tell one
pub told_small : {bits : ℕ} (r : Result ChunkType NoType) → Tells bits r → bits ≤ 2 → IsOk r
told_small (Ok ty) tells small = refl
told_small (Err none) tells small = absurd (omega arith)
