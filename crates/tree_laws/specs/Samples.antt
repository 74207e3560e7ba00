-- A sample tree of every kind, with its stored form. The bytes are those that tools/model/gen.py gives for the same tree.
use Rattle.std.specs.Prelude.{ℕ, ◌+◌, List, [], ◌∷◌}
use Rattle.tree.specs.Tree.{Tree, Trivium, absent, node, nil, cons, Align, Assert, Braces, Config, ConfigPair, Data, Definition, Eof, Error}
use Rattle.tree.specs.Tree.{Expression, If, Import, File, Instruction, Label, Loop, MacroDefinition, MacroInvocation, ProgramCounterDefinition}
use Rattle.tree.specs.Tree.{Segment, Test, Text, Trace, VariableDefinition, Vec, Leaf, PathItem, Block, BinaryExpression, Factor}
use Rattle.tree.specs.Tree.{CurrentProgramCounter, ExprParens, FunctionCall, IdentifierValue, Number, StringFactor, InterpolatedString, Operand}
use Rattle.tree.specs.Tree.{RegisterSuffix, ImportAs, ImportAll, SpecificImportArg, ArgItem}

-- the number of a kind, the place at which a record of it stands, the tree of a file, and its bytes
pub record Sample : Type 0 where
  pub number : ℕ
  pub place : ℕ
  pub tree : Tree
  pub bytes : List ℕ

abbrev pub sample : ℕ → ℕ → Tree → List ℕ → Sample
sample number place tree bytes = record { number = number; place = place; tree = tree; bytes = bytes }

abbrev pub trivium : ℕ → List ℕ → Trivium
trivium code text = record { code = code; text = text }

-- a record without trivia
abbrev pub plain : ℕ → Tree → Tree
plain at tree = node at [] tree

abbrev pub leaf : ℕ → List ℕ → Tree
leaf at text = plain at (Leaf text)

-- a file of one token
abbrev pub file : Tree → Tree
file token = plain 0 (Vec (cons (plain 4 token) nil))

-- `*`, the shortest expression
abbrev pub star : ℕ → Tree
star at = plain at (Factor (plain (at + 2) (CurrentProgramCounter (leaf (at + 4) (42 ∷ [])))) absent absent)

-- an empty block
abbrev pub braces : ℕ → Tree
braces at = plain at (Block (leaf (at + 2) (123 ∷ [])) (plain (at + 7) (Vec nil)) (leaf (at + 11) (125 ∷ [])))

-- an empty string
abbrev pub quotes : ℕ → Tree
quotes at = plain at (InterpolatedString (leaf (at + 2) (34 ∷ [])) (plain (at + 7) (Vec nil)))

abbrev pub samples : List Sample
samples =
    sample 0 4 (file (Align (leaf 6 (46 ∷ 97 ∷ [])) (star 12))) (24 ∷ 0 ∷ 1 ∷ 0 ∷ 0 ∷ 6 ∷ 25 ∷ 2 ∷ 2 ∷ 0 ∷ 46 ∷ 97 ∷ 29 ∷ 2 ∷ 30 ∷ 2 ∷ 25 ∷ 2 ∷ 1 ∷ 0 ∷ 42 ∷ [])
    ∷ sample 1 4 (file (Assert (leaf 6 (46 ∷ 97 ∷ [])) (star 12) (quotes 21)))
    (24 ∷ 0 ∷ 1 ∷ 0 ∷ 1 ∷ 14 ∷ 25 ∷ 2 ∷ 2 ∷ 0 ∷ 46 ∷ 97 ∷ 29 ∷ 2 ∷ 30 ∷ 2 ∷ 25 ∷ 2 ∷ 1 ∷ 0 ∷ 42 ∷ 36 ∷ 6 ∷ 25 ∷ 2 ∷ 1 ∷ 0 ∷ 34 ∷ 24 ∷ 0 ∷ 0 ∷ 0 ∷ [])
    ∷ sample 2 4 (file (Braces (plain 6 (Block (leaf 8 (123 ∷ [])) (plain 13 (Vec nil)) (leaf 17 (125 ∷ []))))))
    (24 ∷ 0 ∷ 1 ∷ 0 ∷ 2 ∷ 2 ∷ 27 ∷ 14 ∷ 25 ∷ 2 ∷ 1 ∷ 0 ∷ 123 ∷ 24 ∷ 0 ∷ 0 ∷ 0 ∷ 25 ∷ 2 ∷ 1 ∷ 0 ∷ 125 ∷ [])
    ∷ sample 3 4 (file (Config (plain 6 (Block (leaf 8 (123 ∷ [])) (plain 13 (Vec (cons (plain 17 (ConfigPair (leaf 19 (107 ∷ [])) (leaf 24 (61 ∷ []))
    (plain 29 (Error (leaf 31 (63 ∷ [])))))) nil))) (leaf 36 (125 ∷ []))))))
    (24 ∷ 0 ∷ 1 ∷ 0 ∷ 3 ∷ 2 ∷ 27 ∷ 14 ∷ 25 ∷ 2 ∷ 1 ∷ 0 ∷ 123 ∷ 24 ∷ 0 ∷ 1 ∷ 0 ∷ 4 ∷ 14 ∷ 25 ∷ 2 ∷ 1 ∷ 0 ∷ 107 ∷ 25 ∷ 2 ∷ 1 ∷ 0 ∷ 61 ∷ 8 ∷ 2 ∷ 25 ∷ 2
    ∷ 1 ∷ 0 ∷ 63 ∷ 25 ∷ 2 ∷ 1 ∷ 0 ∷ 125 ∷ [])
    ∷ sample 4 4 (file (ConfigPair (leaf 6 (107 ∷ [])) (leaf 11 (61 ∷ [])) (node 16 (trivium 2 (47 ∷ 42 ∷ 42 ∷ 47 ∷ []) ∷ []) (Expression
    (star 27)))))
    (24 ∷ 0 ∷ 1 ∷ 0 ∷ 4 ∷ 14 ∷ 25 ∷ 2 ∷ 1 ∷ 0 ∷ 107 ∷ 25 ∷ 2 ∷ 1 ∷ 0 ∷ 61 ∷ 9 ∷ 3 ∷ 1 ∷ 0 ∷ 2 ∷ 4 ∷ 0 ∷ 47 ∷ 42 ∷ 42 ∷ 47 ∷ 29 ∷ 2 ∷ 30 ∷ 2 ∷ 25 ∷ 2
    ∷ 1 ∷ 0 ∷ 42 ∷ [])
    ∷ sample 5 4 (file (Data (plain 6 (Vec (cons (plain 10 (ArgItem (star 12) absent)) nil))) (leaf 21 (1 ∷ []))))
    (24 ∷ 0 ∷ 1 ∷ 0 ∷ 5 ∷ 6 ∷ 24 ∷ 0 ∷ 1 ∷ 0 ∷ 42 ∷ 2 ∷ 29 ∷ 2 ∷ 30 ∷ 2 ∷ 25 ∷ 2 ∷ 1 ∷ 0 ∷ 42 ∷ 25 ∷ 2 ∷ 1 ∷ 0 ∷ 1 ∷ [])
    ∷ sample 6 4 (file (Definition (leaf 6 (46 ∷ 100 ∷ [])) (leaf 12 (105 ∷ [])) (plain 17 (Error (leaf 19 (63 ∷ []))))))
    (24 ∷ 0 ∷ 1 ∷ 0 ∷ 6 ∷ 14 ∷ 25 ∷ 2 ∷ 2 ∷ 0 ∷ 46 ∷ 100 ∷ 25 ∷ 2 ∷ 1 ∷ 0 ∷ 105 ∷ 8 ∷ 2 ∷ 25 ∷ 2 ∷ 1 ∷ 0 ∷ 63 ∷ [])
    ∷ sample 7 4 (file (Eof (node 6 (trivium 0 (32 ∷ []) ∷ trivium 1 [] ∷ trivium 3 (47 ∷ 47 ∷ []) ∷ []) (Leaf []))))
    (24 ∷ 0 ∷ 1 ∷ 0 ∷ 7 ∷ 2 ∷ 25 ∷ 1 ∷ 3 ∷ 0 ∷ 0 ∷ 1 ∷ 0 ∷ 32 ∷ 1 ∷ 3 ∷ 2 ∷ 0 ∷ 47 ∷ 47 ∷ [])
    ∷ sample 8 4 (file (Error (leaf 6 (63 ∷ [])))) (24 ∷ 0 ∷ 1 ∷ 0 ∷ 8 ∷ 2 ∷ 25 ∷ 2 ∷ 1 ∷ 0 ∷ 63 ∷ [])
    ∷ sample 9 4 (file (Expression (plain 6 (Factor (plain 8 (CurrentProgramCounter (leaf 10 (42 ∷ [])))) absent absent)))) (24 ∷ 0 ∷ 1 ∷ 0 ∷ 9 ∷ 2 ∷ 29 ∷ 2 ∷ 30 ∷ 2 ∷ 25 ∷ 2 ∷ 1 ∷ 0 ∷ 42 ∷ [])
    ∷ sample 10 4 (file (If (leaf 6 (46 ∷ 105 ∷ 102 ∷ [])) (star 13) (braces 22) (leaf 38 (101 ∷ 108 ∷ 115 ∷ 101 ∷ [])) (braces 46)))
    (24 ∷ 0 ∷ 1 ∷ 0 ∷ 10 ∷ 62 ∷ 25 ∷ 2 ∷ 3 ∷ 0 ∷ 46 ∷ 105 ∷ 102 ∷ 29 ∷ 2 ∷ 30 ∷ 2 ∷ 25 ∷ 2 ∷ 1 ∷ 0 ∷ 42 ∷ 27 ∷ 14 ∷ 25 ∷ 2 ∷ 1 ∷ 0 ∷ 123 ∷ 24 ∷ 0 ∷ 0
    ∷ 0 ∷ 25 ∷ 2 ∷ 1 ∷ 0 ∷ 125 ∷ 25 ∷ 2 ∷ 4 ∷ 0 ∷ 101 ∷ 108 ∷ 115 ∷ 101 ∷ 27 ∷ 14 ∷ 25 ∷ 2 ∷ 1 ∷ 0 ∷ 123 ∷ 24 ∷ 0 ∷ 0 ∷ 0 ∷ 25 ∷ 2 ∷ 1 ∷ 0 ∷ 125 ∷ [])
    ∷ sample 11 4 (file (Import (leaf 6 (46 ∷ 105 ∷ [])) (plain 12 (Vec nil)) (leaf 16 (102 ∷ 114 ∷ 111 ∷ 109 ∷ [])) (quotes 24) (braces 35)))
    (24 ∷ 0 ∷ 1 ∷ 0 ∷ 11 ∷ 62 ∷ 25 ∷ 2 ∷ 2 ∷ 0 ∷ 46 ∷ 105 ∷ 24 ∷ 0 ∷ 0 ∷ 0 ∷ 25 ∷ 2 ∷ 4 ∷ 0 ∷ 102 ∷ 114 ∷ 111 ∷ 109 ∷ 36 ∷ 6 ∷ 25 ∷ 2 ∷ 1 ∷ 0 ∷ 34
    ∷ 24 ∷ 0 ∷ 0 ∷ 0 ∷ 27 ∷ 14 ∷ 25 ∷ 2 ∷ 1 ∷ 0 ∷ 123 ∷ 24 ∷ 0 ∷ 0 ∷ 0 ∷ 25 ∷ 2 ∷ 1 ∷ 0 ∷ 125 ∷ [])
    ∷ sample 12 4 (file (File (leaf 6 (46 ∷ 102 ∷ [])) (plain 12 (InterpolatedString (leaf 14 (34 ∷ [])) (plain 19 (Vec (cons
    (leaf 23 (102 ∷ [])) nil)))))))
    (24 ∷ 0 ∷ 1 ∷ 0 ∷ 12 ∷ 6 ∷ 25 ∷ 2 ∷ 2 ∷ 0 ∷ 46 ∷ 102 ∷ 36 ∷ 6 ∷ 25 ∷ 2 ∷ 1 ∷ 0 ∷ 34 ∷ 24 ∷ 0 ∷ 1 ∷ 0 ∷ 25 ∷ 2 ∷ 1 ∷ 0 ∷ 102 ∷ [])
    ∷ sample 13 4 (file (Instruction (leaf 6 (33 ∷ [])) absent)) (24 ∷ 0 ∷ 1 ∷ 0 ∷ 13 ∷ 2 ∷ 25 ∷ 2 ∷ 1 ∷ 0 ∷ 33 ∷ [])
    ∷ sample 14 4 (file (Label (leaf 6 (97 ∷ [])) (leaf 11 (58 ∷ [])) (braces 16)))
    (24 ∷ 0 ∷ 1 ∷ 0 ∷ 14 ∷ 14 ∷ 25 ∷ 2 ∷ 1 ∷ 0 ∷ 97 ∷ 25 ∷ 2 ∷ 1 ∷ 0 ∷ 58 ∷ 27 ∷ 14 ∷ 25 ∷ 2 ∷ 1 ∷ 0 ∷ 123 ∷ 24 ∷ 0 ∷ 0 ∷ 0 ∷ 25 ∷ 2 ∷ 1 ∷ 0 ∷ 125
    ∷ [])
    ∷ sample 15 4 (file (Loop (leaf 6 (46 ∷ 108 ∷ [])) (star 12) (braces 21)))
    (24 ∷ 0 ∷ 1 ∷ 0 ∷ 15 ∷ 14 ∷ 25 ∷ 2 ∷ 2 ∷ 0 ∷ 46 ∷ 108 ∷ 29 ∷ 2 ∷ 30 ∷ 2 ∷ 25 ∷ 2 ∷ 1 ∷ 0 ∷ 42 ∷ 27 ∷ 14 ∷ 25 ∷ 2 ∷ 1 ∷ 0 ∷ 123 ∷ 24 ∷ 0 ∷ 0 ∷ 0
    ∷ 25 ∷ 2 ∷ 1 ∷ 0 ∷ 125 ∷ [])
    ∷ sample 16 4 (file (MacroDefinition (leaf 6 (46 ∷ 109 ∷ [])) (leaf 12 (105 ∷ [])) (leaf 17 (40 ∷ [])) (plain 22 (Vec (cons (plain 26 (ArgItem
    (leaf 28 (97 ∷ [])) absent)) nil))) (leaf 33 (41 ∷ [])) (braces 38)))
    (24 ∷ 0 ∷ 1 ∷ 0 ∷ 16 ∷ 126 ∷ 25 ∷ 2 ∷ 2 ∷ 0 ∷ 46 ∷ 109 ∷ 25 ∷ 2 ∷ 1 ∷ 0 ∷ 105 ∷ 25 ∷ 2 ∷ 1 ∷ 0 ∷ 40 ∷ 24 ∷ 0 ∷ 1 ∷ 0 ∷ 42 ∷ 2 ∷ 25 ∷ 2 ∷ 1 ∷ 0
    ∷ 97 ∷ 25 ∷ 2 ∷ 1 ∷ 0 ∷ 41 ∷ 27 ∷ 14 ∷ 25 ∷ 2 ∷ 1 ∷ 0 ∷ 123 ∷ 24 ∷ 0 ∷ 0 ∷ 0 ∷ 25 ∷ 2 ∷ 1 ∷ 0 ∷ 125 ∷ [])
    ∷ sample 17 4 (file (MacroInvocation (leaf 6 (105 ∷ [])) (leaf 11 (40 ∷ [])) (plain 16 (Vec nil)) (leaf 20 (41 ∷ []))))
    (24 ∷ 0 ∷ 1 ∷ 0 ∷ 17 ∷ 30 ∷ 25 ∷ 2 ∷ 1 ∷ 0 ∷ 105 ∷ 25 ∷ 2 ∷ 1 ∷ 0 ∷ 40 ∷ 24 ∷ 0 ∷ 0 ∷ 0 ∷ 25 ∷ 2 ∷ 1 ∷ 0 ∷ 41 ∷ [])
    ∷ sample 18 4 (file (ProgramCounterDefinition (leaf 6 (42 ∷ [])) (leaf 11 (61 ∷ [])) (star 16)))
    (24 ∷ 0 ∷ 1 ∷ 0 ∷ 18 ∷ 14 ∷ 25 ∷ 2 ∷ 1 ∷ 0 ∷ 42 ∷ 25 ∷ 2 ∷ 1 ∷ 0 ∷ 61 ∷ 29 ∷ 2 ∷ 30 ∷ 2 ∷ 25 ∷ 2 ∷ 1 ∷ 0 ∷ 42 ∷ [])
    ∷ sample 19 4 (file (Segment (leaf 6 (46 ∷ 115 ∷ [])) (star 12) (braces 21)))
    (24 ∷ 0 ∷ 1 ∷ 0 ∷ 19 ∷ 14 ∷ 25 ∷ 2 ∷ 2 ∷ 0 ∷ 46 ∷ 115 ∷ 29 ∷ 2 ∷ 30 ∷ 2 ∷ 25 ∷ 2 ∷ 1 ∷ 0 ∷ 42 ∷ 27 ∷ 14 ∷ 25 ∷ 2 ∷ 1 ∷ 0 ∷ 123 ∷ 24 ∷ 0 ∷ 0 ∷ 0
    ∷ 25 ∷ 2 ∷ 1 ∷ 0 ∷ 125 ∷ [])
    ∷ sample 20 4 (file (Test (leaf 6 (46 ∷ 116 ∷ [])) (star 12) (braces 21)))
    (24 ∷ 0 ∷ 1 ∷ 0 ∷ 20 ∷ 14 ∷ 25 ∷ 2 ∷ 2 ∷ 0 ∷ 46 ∷ 116 ∷ 29 ∷ 2 ∷ 30 ∷ 2 ∷ 25 ∷ 2 ∷ 1 ∷ 0 ∷ 42 ∷ 27 ∷ 14 ∷ 25 ∷ 2 ∷ 1 ∷ 0 ∷ 123 ∷ 24 ∷ 0 ∷ 0 ∷ 0
    ∷ 25 ∷ 2 ∷ 1 ∷ 0 ∷ 125 ∷ [])
    ∷ sample 21 4 (file (Text (leaf 6 (46 ∷ 116 ∷ [])) (leaf 12 (2 ∷ [])) (star 17)))
    (24 ∷ 0 ∷ 1 ∷ 0 ∷ 21 ∷ 14 ∷ 25 ∷ 2 ∷ 2 ∷ 0 ∷ 46 ∷ 116 ∷ 25 ∷ 2 ∷ 1 ∷ 0 ∷ 2 ∷ 29 ∷ 2 ∷ 30 ∷ 2 ∷ 25 ∷ 2 ∷ 1 ∷ 0 ∷ 42 ∷ [])
    ∷ sample 22 4 (file (Trace (leaf 6 (46 ∷ 116 ∷ [])) (leaf 12 (40 ∷ [])) (plain 17 (Vec nil)) (leaf 21 (41 ∷ []))))
    (24 ∷ 0 ∷ 1 ∷ 0 ∷ 22 ∷ 30 ∷ 25 ∷ 2 ∷ 2 ∷ 0 ∷ 46 ∷ 116 ∷ 25 ∷ 2 ∷ 1 ∷ 0 ∷ 40 ∷ 24 ∷ 0 ∷ 0 ∷ 0 ∷ 25 ∷ 2 ∷ 1 ∷ 0 ∷ 41 ∷ [])
    ∷ sample 23 4 (file (VariableDefinition (leaf 6 (0 ∷ [])) (leaf 11 (105 ∷ [])) (leaf 16 (61 ∷ [])) (star 21)))
    (24 ∷ 0 ∷ 1 ∷ 0 ∷ 23 ∷ 30 ∷ 25 ∷ 2 ∷ 1 ∷ 0 ∷ 0 ∷ 25 ∷ 2 ∷ 1 ∷ 0 ∷ 105 ∷ 25 ∷ 2 ∷ 1 ∷ 0 ∷ 61 ∷ 29 ∷ 2 ∷ 30 ∷ 2 ∷ 25 ∷ 2 ∷ 1 ∷ 0 ∷ 42 ∷ [])
    ∷ sample 24 0 (plain 0 (Vec nil)) (24 ∷ 0 ∷ 0 ∷ 0 ∷ [])
    ∷ sample 25 6 (file (Error (node 6 (trivium 1 [] ∷ trivium 2 (47 ∷ 42 ∷ 42 ∷ 47 ∷ []) ∷ []) (Leaf (63 ∷ [])))))
    (24 ∷ 0 ∷ 1 ∷ 0 ∷ 8 ∷ 2 ∷ 25 ∷ 3 ∷ 2 ∷ 0 ∷ 1 ∷ 2 ∷ 4 ∷ 0 ∷ 47 ∷ 42 ∷ 42 ∷ 47 ∷ 1 ∷ 0 ∷ 63 ∷ [])
    ∷ sample 26 28 (file (File (leaf 6 (46 ∷ 102 ∷ [])) (plain 12 (InterpolatedString (leaf 14 (34 ∷ [])) (plain 19 (Vec (cons
    (leaf 23 (97 ∷ [])) (cons (node 28 (trivium 0 (32 ∷ []) ∷ []) (PathItem (98 ∷ []))) nil))))))))
    (24 ∷ 0 ∷ 1 ∷ 0 ∷ 12 ∷ 6 ∷ 25 ∷ 2 ∷ 2 ∷ 0 ∷ 46 ∷ 102 ∷ 36 ∷ 6 ∷ 25 ∷ 2 ∷ 1 ∷ 0 ∷ 34 ∷ 24 ∷ 0 ∷ 2 ∷ 0 ∷ 25 ∷ 2 ∷ 1 ∷ 0 ∷ 97 ∷ 26 ∷ 3 ∷ 1 ∷ 0 ∷ 0
    ∷ 1 ∷ 0 ∷ 32 ∷ 1 ∷ 0 ∷ 98 ∷ [])
    ∷ sample 27 6 (file (Braces (plain 6 (Block (leaf 8 (123 ∷ [])) (plain 13 (Vec (cons (plain 17 (Instruction (leaf 19 (33 ∷ [])) absent)) nil)))
    (leaf 24 (125 ∷ []))))))
    (24 ∷ 0 ∷ 1 ∷ 0 ∷ 2 ∷ 2 ∷ 27 ∷ 14 ∷ 25 ∷ 2 ∷ 1 ∷ 0 ∷ 123 ∷ 24 ∷ 0 ∷ 1 ∷ 0 ∷ 13 ∷ 2 ∷ 25 ∷ 2 ∷ 1 ∷ 0 ∷ 33 ∷ 25 ∷ 2 ∷ 1 ∷ 0 ∷ 125 ∷ [])
    ∷ sample 28 6 (file (Expression (plain 6 (BinaryExpression (leaf 8 (15 ∷ [])) (star 13) (star 22)))))
    (24 ∷ 0 ∷ 1 ∷ 0 ∷ 9 ∷ 2 ∷ 28 ∷ 14 ∷ 25 ∷ 2 ∷ 1 ∷ 0 ∷ 15 ∷ 29 ∷ 2 ∷ 30 ∷ 2 ∷ 25 ∷ 2 ∷ 1 ∷ 0 ∷ 42 ∷ 29 ∷ 2 ∷ 30 ∷ 2 ∷ 25 ∷ 2 ∷ 1 ∷ 0 ∷ 42 ∷ [])
    ∷ sample 29 6 (file (Expression (plain 6 (Factor (plain 8 (CurrentProgramCounter (leaf 10 (42 ∷ [])))) (leaf 15 (33 ∷ [])) (leaf 20 (45 ∷ []))))))
    (24 ∷ 0 ∷ 1 ∷ 0 ∷ 9 ∷ 2 ∷ 29 ∷ 14 ∷ 30 ∷ 2 ∷ 25 ∷ 2 ∷ 1 ∷ 0 ∷ 42 ∷ 25 ∷ 2 ∷ 1 ∷ 0 ∷ 33 ∷ 25 ∷ 2 ∷ 1 ∷ 0 ∷ 45 ∷ [])
    ∷ sample 30 8 (file (Expression (plain 6 (Factor (plain 8 (CurrentProgramCounter (leaf 10 (42 ∷ [])))) absent absent)))) (24 ∷ 0 ∷ 1 ∷ 0 ∷ 9 ∷ 2 ∷ 29 ∷ 2 ∷ 30 ∷ 2 ∷ 25 ∷ 2 ∷ 1 ∷ 0 ∷ 42 ∷ [])
    ∷ sample 31 8 (file (Expression (plain 6 (Factor (plain 8 (ExprParens (leaf 10 (40 ∷ [])) (star 15) (leaf 24 (41 ∷ [])))) absent absent))))
    (24 ∷ 0 ∷ 1 ∷ 0 ∷ 9 ∷ 2 ∷ 29 ∷ 2 ∷ 31 ∷ 14 ∷ 25 ∷ 2 ∷ 1 ∷ 0 ∷ 40 ∷ 29 ∷ 2 ∷ 30 ∷ 2 ∷ 25 ∷ 2 ∷ 1 ∷ 0 ∷ 42 ∷ 25 ∷ 2 ∷ 1 ∷ 0 ∷ 41 ∷ [])
    ∷ sample 32 8 (file (Expression (plain 6 (Factor (plain 8 (FunctionCall (leaf 10 (110 ∷ [])) (leaf 15 (40 ∷ [])) (plain 20 (Vec nil))
    (leaf 24 (41 ∷ [])))) absent absent))))
    (24 ∷ 0 ∷ 1 ∷ 0 ∷ 9 ∷ 2 ∷ 29 ∷ 2 ∷ 32 ∷ 30 ∷ 25 ∷ 2 ∷ 1 ∷ 0 ∷ 110 ∷ 25 ∷ 2 ∷ 1 ∷ 0 ∷ 40 ∷ 24 ∷ 0 ∷ 0 ∷ 0 ∷ 25 ∷ 2 ∷ 1 ∷ 0 ∷ 41 ∷ [])
    ∷ sample 33 8 (file (Expression (plain 6 (Factor (plain 8 (IdentifierValue (leaf 10 (112 ∷ [])) (leaf 15 (1 ∷ [])))) absent absent))))
    (24 ∷ 0 ∷ 1 ∷ 0 ∷ 9 ∷ 2 ∷ 29 ∷ 2 ∷ 33 ∷ 6 ∷ 25 ∷ 2 ∷ 1 ∷ 0 ∷ 112 ∷ 25 ∷ 2 ∷ 1 ∷ 0 ∷ 1 ∷ [])
    ∷ sample 34 8 (file (Expression (plain 6 (Factor (plain 8 (Number (leaf 10 (1 ∷ [])) (leaf 15 (49 ∷ 50 ∷ [])))) absent absent))))
    (24 ∷ 0 ∷ 1 ∷ 0 ∷ 9 ∷ 2 ∷ 29 ∷ 2 ∷ 34 ∷ 6 ∷ 25 ∷ 2 ∷ 1 ∷ 0 ∷ 1 ∷ 25 ∷ 2 ∷ 2 ∷ 0 ∷ 49 ∷ 50 ∷ [])
    ∷ sample 35 8 (file (Expression (plain 6 (Factor (plain 8 (StringFactor (quotes 10))) absent absent))))
    (24 ∷ 0 ∷ 1 ∷ 0 ∷ 9 ∷ 2 ∷ 29 ∷ 2 ∷ 35 ∷ 2 ∷ 36 ∷ 6 ∷ 25 ∷ 2 ∷ 1 ∷ 0 ∷ 34 ∷ 24 ∷ 0 ∷ 0 ∷ 0 ∷ [])
    ∷ sample 36 12 (file (File (leaf 6 (46 ∷ 102 ∷ [])) (plain 12 (InterpolatedString (leaf 14 (34 ∷ [])) (plain 19 (Vec nil))))))
    (24 ∷ 0 ∷ 1 ∷ 0 ∷ 12 ∷ 6 ∷ 25 ∷ 2 ∷ 2 ∷ 0 ∷ 46 ∷ 102 ∷ 36 ∷ 6 ∷ 25 ∷ 2 ∷ 1 ∷ 0 ∷ 34 ∷ 24 ∷ 0 ∷ 0 ∷ 0 ∷ [])
    ∷ sample 37 11 (file (Instruction (leaf 6 (33 ∷ [])) (plain 11 (Operand (star 13) (leaf 22 (40 ∷ [])) (leaf 27 (41 ∷ []))
    (leaf 32 (4 ∷ [])) absent))))
    (24 ∷ 0 ∷ 1 ∷ 0 ∷ 13 ∷ 6 ∷ 25 ∷ 2 ∷ 1 ∷ 0 ∷ 33 ∷ 37 ∷ 30 ∷ 29 ∷ 2 ∷ 30 ∷ 2 ∷ 25 ∷ 2 ∷ 1 ∷ 0 ∷ 42 ∷ 25 ∷ 2 ∷ 1 ∷ 0 ∷ 40 ∷ 25 ∷ 2 ∷ 1 ∷ 0 ∷ 41 ∷ 25
    ∷ 2 ∷ 1 ∷ 0 ∷ 4 ∷ [])
    ∷ sample 38 27 (file (Instruction (leaf 6 (33 ∷ [])) (plain 11 (Operand (star 13) absent absent (leaf 22 (0 ∷ [])) (plain 27 (RegisterSuffix
    (leaf 29 (44 ∷ [])) (leaf 34 (1 ∷ []))))))))
    (24 ∷ 0 ∷ 1 ∷ 0 ∷ 13 ∷ 6 ∷ 25 ∷ 2 ∷ 1 ∷ 0 ∷ 33 ∷ 37 ∷ 50 ∷ 29 ∷ 2 ∷ 30 ∷ 2 ∷ 25 ∷ 2 ∷ 1 ∷ 0 ∷ 42 ∷ 25 ∷ 2 ∷ 1 ∷ 0 ∷ 0 ∷ 38 ∷ 6 ∷ 25 ∷ 2 ∷ 1 ∷ 0
    ∷ 44 ∷ 25 ∷ 2 ∷ 1 ∷ 0 ∷ 1 ∷ [])
    ∷ sample 39 19 (file (Import (leaf 6 (46 ∷ 105 ∷ [])) (plain 12 (ImportAll (leaf 14 (42 ∷ [])) (plain 19 (ImportAs (leaf 21 (97 ∷ 115 ∷ []))
    (leaf 27 (98 ∷ [])))))) (leaf 32 (102 ∷ 114 ∷ 111 ∷ 109 ∷ [])) (quotes 40) absent))
    (24 ∷ 0 ∷ 1 ∷ 0 ∷ 11 ∷ 30 ∷ 25 ∷ 2 ∷ 2 ∷ 0 ∷ 46 ∷ 105 ∷ 40 ∷ 6 ∷ 25 ∷ 2 ∷ 1 ∷ 0 ∷ 42 ∷ 39 ∷ 6 ∷ 25 ∷ 2 ∷ 2 ∷ 0 ∷ 97 ∷ 115 ∷ 25 ∷ 2 ∷ 1 ∷ 0 ∷ 98
    ∷ 25 ∷ 2 ∷ 4 ∷ 0 ∷ 102 ∷ 114 ∷ 111 ∷ 109 ∷ 36 ∷ 6 ∷ 25 ∷ 2 ∷ 1 ∷ 0 ∷ 34 ∷ 24 ∷ 0 ∷ 0 ∷ 0 ∷ [])
    ∷ sample 40 12 (file (Import (leaf 6 (46 ∷ 105 ∷ [])) (plain 12 (ImportAll (leaf 14 (42 ∷ [])) absent)) (leaf 19 (102 ∷ 114 ∷ 111 ∷ 109 ∷ []))
    (quotes 27) absent))
    (24 ∷ 0 ∷ 1 ∷ 0 ∷ 11 ∷ 30 ∷ 25 ∷ 2 ∷ 2 ∷ 0 ∷ 46 ∷ 105 ∷ 40 ∷ 2 ∷ 25 ∷ 2 ∷ 1 ∷ 0 ∷ 42 ∷ 25 ∷ 2 ∷ 4 ∷ 0 ∷ 102 ∷ 114 ∷ 111 ∷ 109 ∷ 36 ∷ 6 ∷ 25 ∷ 2
    ∷ 1 ∷ 0 ∷ 34 ∷ 24 ∷ 0 ∷ 0 ∷ 0 ∷ [])
    ∷ sample 41 18 (file (Import (leaf 6 (46 ∷ 105 ∷ [])) (plain 12 (Vec (cons (plain 16 (ArgItem
    (node 18 (trivium 2 (47 ∷ 42 ∷ 42 ∷ 47 ∷ []) ∷ []) (SpecificImportArg (leaf 29 (97 ∷ [])) (plain 34 (ImportAs (leaf 36 (97 ∷ 115 ∷ []))
    (leaf 42 (98 ∷ [])))))) absent)) nil))) (leaf 47 (102 ∷ 114 ∷ 111 ∷ 109 ∷ [])) (quotes 55) absent))
    (24 ∷ 0 ∷ 1 ∷ 0 ∷ 11 ∷ 30 ∷ 25 ∷ 2 ∷ 2 ∷ 0 ∷ 46 ∷ 105 ∷ 24 ∷ 0 ∷ 1 ∷ 0 ∷ 42 ∷ 2 ∷ 41 ∷ 7 ∷ 1 ∷ 0 ∷ 2 ∷ 4 ∷ 0 ∷ 47 ∷ 42 ∷ 42 ∷ 47 ∷ 25 ∷ 2 ∷ 1 ∷ 0
    ∷ 97 ∷ 39 ∷ 6 ∷ 25 ∷ 2 ∷ 2 ∷ 0 ∷ 97 ∷ 115 ∷ 25 ∷ 2 ∷ 1 ∷ 0 ∷ 98 ∷ 25 ∷ 2 ∷ 4 ∷ 0 ∷ 102 ∷ 114 ∷ 111 ∷ 109 ∷ 36 ∷ 6 ∷ 25 ∷ 2 ∷ 1 ∷ 0 ∷ 34 ∷ 24 ∷ 0
    ∷ 0 ∷ 0 ∷ [])
    ∷ sample 42 20 (file (MacroInvocation (leaf 6 (105 ∷ [])) (leaf 11 (40 ∷ [])) (plain 16 (Vec (cons (plain 20 (ArgItem (star 22)
    (leaf 31 (44 ∷ [])))) (cons (plain 36 (ArgItem (star 38) absent)) nil)))) (leaf 47 (41 ∷ []))))
    (24 ∷ 0 ∷ 1 ∷ 0 ∷ 17 ∷ 30 ∷ 25 ∷ 2 ∷ 1 ∷ 0 ∷ 105 ∷ 25 ∷ 2 ∷ 1 ∷ 0 ∷ 40 ∷ 24 ∷ 0 ∷ 2 ∷ 0 ∷ 42 ∷ 6 ∷ 29 ∷ 2 ∷ 30 ∷ 2 ∷ 25 ∷ 2 ∷ 1 ∷ 0 ∷ 42 ∷ 25 ∷ 2
    ∷ 1 ∷ 0 ∷ 44 ∷ 42 ∷ 2 ∷ 29 ∷ 2 ∷ 30 ∷ 2 ∷ 25 ∷ 2 ∷ 1 ∷ 0 ∷ 42 ∷ 25 ∷ 2 ∷ 1 ∷ 0 ∷ 41 ∷ [])
    ∷ []
