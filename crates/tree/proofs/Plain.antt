-- A tree without bytes above 127 behind the count of the file's list: every text is accepted, so reading finds no byte that none may hold.
use Rattle.std.specs.Prelude.{Result, Ok, Err}
use Rattle.answers.specs.declared.Refusal.{Refusal}
use Rattle.answers.specs.Numbers.{no_refusal, Checked}
use mathlib.Core.Path.{◌≡◌, refl, sym, ap, ◌∙◌}
use mathlib.Core.List.{List, [], ◌∷◌, Memᴰ}
use mathlib.Core.Bool.{true}
use Prim.Native.Nat.{ℕ, zero, suc, ◌≤◌, ◌<◌}
use native.Mathlib.Omega.{arith}
use lib.ListN.{length}
use lib.Seq.{slice, take-length}
use Rattle.text.specs.Accepted.{accepted_text}
use Rattle.text.proofs.Accepted.{fault_some, accepted_part}
use Rattle.text.proofs.Choices.{by_test}
use Rattle.tree.specs.Reading.{Placed}
use Rattle.tree.specs.Checking.{read_file, texts_checked, plain_tree}
use Rattle.tree.specs.Walk.{fault_from, record_on, record_read}
use Rattle.tree.specs.declared.grammar.Class.TheVariants.{Tokens}
use Rattle.tree.proofs.Bounds.{Stands, texts_stand}
use Rattle.tree.proofs.Faults.{faults_accepted}

-- what stands behind some bytes is accepted where all bytes behind them are
behind_accepted : (n from to : ℕ) (bytes : List ℕ) → accepted_text (slice n (length bytes) bytes) ≡ true → n ≤ from → accepted_text (slice from to bytes) ≡ true
unfolding accepted_text
behind_accepted zero from to bytes e h = accepted_part from to bytes (rw (take-length bytes) at e)
behind_accepted (suc n) zero to bytes e h = absurd (omega arith)
behind_accepted (suc n) (suc from) zero bytes e h = refl
behind_accepted (suc n) (suc from) (suc to) [] e h = refl
behind_accepted (suc n) (suc from) (suc to) (byte ∷ bytes) e h = behind_accepted n from to bytes e (omega arith)

-- where nothing is behind the count, nothing is above 127 there
pub short_plain : (bytes : List ℕ) → length bytes < 4 → plain_tree bytes ≡ true
unfolding accepted_text
short_plain [] h = refl
short_plain (a ∷ []) h = refl
short_plain (a ∷ b ∷ []) h = refl
short_plain (a ∷ b ∷ c ∷ []) h = refl
short_plain (a ∷ b ∷ c ∷ d ∷ bytes) h = absurd (omega arith)

-- texts that are accepted one by one are accepted
texts_accepted : (texts : List Placed) → ((text : Placed) → Memᴰ text texts → accepted_text text.bytes ≡ true) → texts_checked texts ≡ no_refusal
unfolding texts_checked
texts_accepted [] accepted = refl
texts_accepted (text ∷ texts) accepted =
    rw (accepted text (Memᴰ.head refl)) (texts_accepted texts (λ other member. accepted other (Memᴰ.tail member)))

module _ (bytes : List ℕ) (plain : plain_tree bytes ≡ true) where
  -- every text is accepted
  text_plain : (text : Placed) → Stands bytes text → accepted_text text.bytes ≡ true
  text_plain text inside =
      by_test (accepted_text text.bytes)
      (λ t. t)
      (λ t.
      let part = inside (omega (arith, fault_some text.bytes t)) in
      ap accepted_text part.2.1 ∙ behind_accepted 4 text.place part.2.0 bytes plain part.0)

  -- every text that is read is
  file_texts : (levels : ℕ) (text : Placed) → Memᴰ text (read_file levels bytes).texts → accepted_text text.bytes ≡ true
  file_texts levels text member = text_plain text (texts_stand bytes levels Tokens 0 text member)

  -- so there is no refusal 7
  pub plain_passed : (levels : ℕ) → texts_checked (read_file levels bytes).texts ≡ no_refusal
  plain_passed levels = texts_accepted (read_file levels bytes).texts (file_texts levels)

  -- a record, with no byte found
  abbrev pub unfound : Result (ℕ × ℕ) Refusal → Result (ℕ × ℕ) Refusal
  unfound (Ok (end, fault)) = Ok (end, length bytes)
  unfound (Err refusal) = Err refusal

  -- so is a record that was read with one found, where texts change nothing
  on_plain : (fault end : ℕ) (texts : List Placed) → fault_from bytes (length bytes) texts ≡ length bytes → (checked : Checked)
      → unfound (record_on bytes fault end texts checked) ≡ record_on bytes (length bytes) end texts checked
  on_plain fault end texts same (Ok tt) = ap (λ found. Ok (end, found)) (sym same)
  on_plain fault end texts same (Err refusal) = refl

  -- the file's record
  pub file_plain : (levels fault : ℕ) (read : Result (ℕ × ℕ) Refusal) → read ≡ record_read bytes fault (read_file levels bytes) → (told : Result (ℕ × ℕ) Refusal) → read ≡ told
      → unfound told ≡ record_read bytes (length bytes) (read_file levels bytes)
  unfolding record_read
  file_plain levels fault read same told is =
      let file = read_file levels bytes in
      let accepted = faults_accepted bytes (length bytes) file.texts (file_texts levels) in
      ap unfound (sym is ∙ same) ∙ on_plain fault file.end file.texts accepted file.checked
