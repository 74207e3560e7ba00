-- The starred samples of document 01 that are chunk lists, as one table: "Samples at L 20, C 30, right, indent 0 unless said".
use Rattle.std.specs.Prelude.{ℕ, List, [], ◌∷◌, ◌++◌}
use Prim.Native.String.{String}
use Rattle.text.specs.Ink.{spaces}
use Rattle.text.specs.Literals.{ascii}
use Rattle.chunks.specs.Stored.{Chunk}
use Rattle.chunks.specs.declared.stored.ChunkType.TheVariants.{Code, Label, Comment}

abbrev pub code : String → Chunk
code text = record { ty = Code; indent = 0; text = ascii text }

abbrev pub label : String → Chunk
label text = record { ty = Label; indent = 0; text = ascii text }

abbrev pub comment : String → Chunk
comment text = record { ty = Comment; indent = 0; text = ascii text }

abbrev pub newline : Chunk
newline = code "\n"

-- "Options byte 0", and the code margin stored as 0
abbrev pub usual : List ℕ
usual = 0 ∷ []

abbrev pub no_code_margin : List ℕ
no_code_margin = 64 ∷ 0 ∷ []

-- chunks, stored options, the text and its length
pub record Sample : Type 0 where
  pub chunks : List Chunk
  pub options : List ℕ
  pub text : List ℕ
  pub length : ℕ

abbrev sample : List Chunk → List ℕ → ℕ → List ℕ → Sample
sample chunks options length text = record { chunks = chunks; options = options; text = text; length = length }

abbrev pub samples : List Sample
samples =
    -- "No chunks: 0 bytes."
    sample [] usual 0 []
    -- "Newline alone: 0 bytes."
    ∷ sample (newline ∷ []) usual 0 []
    -- "Two newlines: 0 bytes."
    ∷ sample (newline ∷ newline ∷ []) usual 0 []
    -- "label `a:` / `nop`: s17`a: nop`, 23 bytes."
    ∷ sample (label "a:" ∷ code "nop" ∷ []) usual 23 (spaces 17 ++ ascii "a: nop")
    -- "label `a:` / newline: s17`a:`, 19."
    ∷ sample (label "a:" ∷ newline ∷ []) usual 19 (spaces 17 ++ ascii "a:")
    -- "label `a:` / newline / `nop`: as the 23 bytes above."
    ∷ sample (label "a:" ∷ newline ∷ code "nop" ∷ []) usual 23 (spaces 17 ++ ascii "a: nop")
    -- "`nop` / three newlines / `rts`: s20`nop`, an empty line, s20`rts`; 48 bytes."
    ∷ sample (code "nop" ∷ newline ∷ newline ∷ newline ∷ code "rts" ∷ []) usual 48 (spaces 20 ++ ascii "nop\n\n" ++ spaces 20 ++ ascii "rts")
    -- "comment `// c`: s20`// c`, 24."
    ∷ sample (comment "// c" ∷ []) usual 24 (spaces 20 ++ ascii "// c")
    -- "comment `// c` / two newlines / `nop`: two lines, 48 bytes."
    ∷ sample (comment "// c" ∷ newline ∷ newline ∷ code "nop" ∷ []) usual 48 (spaces 20 ++ ascii "// c\n" ++ spaces 20 ++ ascii "nop")
    -- "comment `/* c */` / `nop`: s20`/* c */ nop`, 31."
    ∷ sample (comment "/* c */" ∷ code "nop" ∷ []) usual 31 (spaces 20 ++ ascii "/* c */ nop")
    -- "One comment at indent 4, `/* a`, newline, `b */`: s24`/* a`, s20`b */`; 53 bytes."
    ∷ sample (record { ty = Comment; indent = 4; text = ascii "/* a\nb */" } ∷ []) usual 53 (spaces 24 ++ ascii "/* a\n" ++ spaces 20 ++ ascii "b */")
    -- "C 0, `nop` / two newlines / `rts`: two lines, 47 bytes."
    ∷ sample (code "nop" ∷ newline ∷ newline ∷ code "rts" ∷ []) no_code_margin 47 (spaces 20 ++ ascii "nop\n" ++ spaces 20 ++ ascii "rts")
    ∷ []
