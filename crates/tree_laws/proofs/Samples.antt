-- A sample tree of every kind is stored as its bytes, its bytes are accepted, and the tree is read back from them, by computing.
--   samples_stored : map found samples ≡ map wanted samples
--   every_kind : map (λ sample. kind_of sample.number) samples ≡ map Some all_kinds
use Rattle.std.specs.Prelude.{Some}
use Rattle.answers.specs.Numbers.{no_refusal, Checked}
use mathlib.Core.Path.{◌≡◌, refl}
use mathlib.Core.List.{List, map}
use Prim.Native.Nat.{ℕ}
use lib.ListN.{get_or}
use Rattle.text.specs.Accepted.{accepted_byte, accepted_text}
use Rattle.text.specs.Ink.{flat}
use Rattle.tree.specs.Grammar.{all_kinds, kind_of}
use Rattle.tree.specs.Tree.{Tree, chain, built}
use Rattle.tree.specs.Own.{fields_fit, map_fits, sized_end, trivium_end, trivia_end, trivia_read, text_end, rest_of, own_at, read_own}
use Rattle.tree.specs.Reading.{trivia_from, trivia_texts, fields_due, parts_due, read_parts, read}
use Rattle.tree.specs.Stored.{stored_items, part_bits, item_count, stored_with, stored}
use Rattle.tree.specs.Checking.{read_file, texts_checked, batch_checked, tree_checked}
use Rattle.tree_laws.specs.Samples.{Sample, samples}

-- the stored form, the number at the place, the check's answer at the batch limits, and the tree that is read
abbrev found : Sample → List ℕ × ℕ × Checked × Tree
found sample = (stored sample.tree, get_or sample.bytes sample.place 0, batch_checked sample.bytes, (read_file 64 sample.bytes).tree)

abbrev wanted : Sample → List ℕ × ℕ × Checked × Tree
wanted sample = (sample.bytes, sample.number, no_refusal, sample.tree)

pub samples_stored : map found samples ≡ map wanted samples
unfolding tree_checked texts_checked read read_parts parts_due fields_due trivia_from trivia_texts read_own own_at rest_of text_end trivia_read trivia_end
    trivium_end sized_end map_fits fields_fit built chain accepted_text accepted_byte stored_with item_count part_bits stored_items flat
samples_stored = refl

-- no kind is missing
pub every_kind : map (λ sample. kind_of sample.number) samples ≡ map Some all_kinds
every_kind = refl
