-- Each answer is the one that the definition has after the same tests, and the head and the text, stored one behind the other, are the chunk stored.
use Rattle.std.proofs.Common.{ℕ, ◌≤◌, ◌≢◌, length, arith}
use Rattle.chunks.specs.declared.stored.ChunkType.{ChunkType}
use Rattle.chunks.specs.declared.append.Text.{Text}
use Rattle.chunks.specs.Stored.{Chunk, WellFormed}
use Rattle.chunks.specs.Appending.{text_bytes}
use Rattle.chunks.proofs.Forms.{indent_length, head_length, chunk_length}
use Rattle.chunks.proofs.Storing.{chunk_stores, append_none, append_past, append_no_room, append_stored}
use Rattle.chunks.proofs.append.append_chunk.Goals as goal

-- the chunk that is handed over
abbrev handed : ChunkType → ℕ → Text → Chunk
handed ty indent text = record { ty = ty; indent = indent; text = text_bytes text }

-- it is well formed where the tests have let it pass
passed : (chunk : Chunk) → chunk.indent ≤ 4096 → length chunk.text ≢ 0 → length chunk.text ≤ 65535 → WellFormed chunk
passed chunk indent some short = record { indent = indent; some = omega arith; short = short }

pub returns-then-indent-gt-LARGEST_INDENT : goal.returns-then-indent-gt-LARGEST_INDENT
returns-then-indent-gt-LARGEST_INDENT c =
    let chunk = handed c.args.ty c.args.indent c.args.text in
    let told = append_none c.args.room.now c.args.used chunk (rw c.len-count.ensures at c.then-indent-gt-LARGEST_INDENT.either) in
    record { answer = told.0; room = told.1 }

pub returns-then-limit-used : goal.returns-then-limit-used
returns-then-limit-used c =
    let chunk = handed c.args.ty c.args.indent c.args.text in
    let told = append_past _ _ chunk (passed chunk (omega arith) (omega arith) (omega arith)) (omega arith) in
    record { answer = told.0; room = told.1 }

pub overflow_add-end : goal.overflow_add-end
overflow_add-end c = omega (arith, indent_length c.args.indent)

pub overflow_add-end-2 : goal.overflow_add-end-2
overflow_add-end-2 c = omega (arith, indent_length c.args.indent)

pub returns-then-limit-end : goal.returns-then-limit-end
returns-then-limit-end c =
    let chunk = handed c.args.ty c.args.indent c.args.text in
    let told = append_no_room _ _ chunk (passed chunk (omega arith) (omega arith) (omega arith)) (omega arith) (omega (arith, chunk_length chunk)) (omega arith) in
    record { answer = told.0; room = told.1 }

pub store_head-behind-requires : goal.store_head-behind-requires
store_head-behind-requires c = omega (arith, head_length c.args.ty c.args.indent c.len-count.result)

pub store-requires : goal.store-requires
store-requires c = omega (arith, head_length c.args.ty c.args.indent c.len-count.result)

pub returns : goal.returns
returns c =
    let chunk = handed c.args.ty c.args.indent c.args.text in
    let told = append_stored _ _ chunk (passed chunk (omega arith) (omega arith) (omega arith)) (omega arith) (omega (arith, chunk_length chunk)) (omega arith)
    (chunk_stores c.args.room.now c.args.used chunk c.len-count.ensures
    c.store_head-behind.ensures.answer c.store_head-behind.ensures.room c.store.ensures.room) in
    record { answer = told.0; room = told.1 }
