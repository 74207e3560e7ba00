-- Laws of the whole check: what a tree's reading gives is what the check of the definition says, refusal 7 included, since each text stands within the bytes.
use Rattle.std.specs.Prelude.{Result, Ok, Err}
use mathlib.Core.Path.{◌≡◌, refl, sym, ap, ◌∙◌}
use mathlib.Core.List.{List, [], ◌∷◌, Memᴰ}
use mathlib.Core.Bool.{cond}
use Prim.Native.Nat.{ℕ, ◌+◌, ◌≤◌, ◌<◌}
use native.Mathlib.Omega.{arith}
use lib.Dec.{ltb}
use lib.ListN.{length}
use borrow.Author.Tests.{lt-ltb, le-ltb}
use Rattle.answers.specs.declared.Refusal.{Refusal}
use Rattle.answers.specs.declared.Reason.TheVariants.{TreeLayout, NotAscii}
use Rattle.answers.specs.Numbers.{no_refusal, and_then, Checked}
use Rattle.text.specs.Accepted.{accepted_text, fault_at}
use Rattle.text.proofs.Accepted.{fault_some}
use Rattle.text.proofs.Choices.{by_test}
use Rattle.tree.specs.Reading.{Placed}
use Rattle.tree.specs.Checking.{read_file, length_checked, end_checked, texts_checked, tree_checked}
use Rattle.tree.specs.Walk.{fault_from, record_on, record_read}
use Rattle.tree.specs.declared.grammar.Class.TheVariants.{Tokens}
use Rattle.tree.proofs.Bounds.{Inside, texts_inside}
use Rattle.tree.proofs.Faults.{fault_stays}

-- ---- the first byte found is that of refusal 7

-- refusal 7 at a place
abbrev pub not_ascii : ℕ → Checked
not_ascii place = Err (record { reason = NotAscii; place = place })

-- where none was found before, the texts are judged by the first that they give
texts_judged : (bytes : List ℕ) (fault : ℕ) (texts : List Placed) → length bytes ≤ fault → ((text : Placed) → Memᴰ text texts → Inside bytes text)
    → texts_checked texts ≡ cond (ltb (fault_from bytes fault texts) (length bytes)) (not_ascii (fault_from bytes fault texts)) no_refusal
unfolding fault_from texts_checked
texts_judged bytes fault [] h inside = simp (le-ltb _ _ h)
texts_judged bytes fault (text ∷ texts) h inside = by_test (accepted_text text.bytes)
    (λ t. simp (t, le-ltb _ _ h) (texts_judged bytes fault texts h (λ other member. inside other (Memᴰ.tail member))))
    (λ t.
    let refused = fault_some text.bytes t in
    let place : text.place + fault_at text.bytes < length bytes = omega (arith, (inside text (Memᴰ.head refl) (omega arith)).1) in
    simp (t, le-ltb _ _ h, fault_stays bytes (text.place + fault_at text.bytes) texts place, lt-ltb _ _ place))

-- ---- the check

-- what the code says of the file's record
abbrev judged : List ℕ → Result (ℕ × ℕ) Refusal → Checked
judged bytes (Ok (end, fault)) =
    cond (ltb end (length bytes)) (Err (record { reason = TreeLayout; place = end })) (cond (ltb fault (length bytes)) (not_ascii fault) no_refusal)
judged bytes (Err refusal) = Err refusal

-- it is what the definition says of its reading
judged_on_lem : (bytes : List ℕ) (end : ℕ) (texts : List Placed) → ((text : Placed) → Memᴰ text texts → Inside bytes text) → (checked : Checked)
    → and_then checked (and_then (end_checked bytes end) (texts_checked texts)) ≡ judged bytes (record_on bytes (length bytes) end texts checked)
judged_on_lem bytes end texts inside (Ok tt) = by_test (ltb end (length bytes)) (λ t. rw t) (λ t. rw t (texts_judged bytes (length bytes) texts (omega arith) inside))
judged_on_lem bytes end texts inside (Err refusal) = refl

module _ (limit levels : ℕ) (bytes : List ℕ) (sized : length_checked limit bytes ≡ no_refusal)
    (read-file : Result (ℕ × ℕ) Refusal) (same : read-file ≡ record_read bytes (length bytes) (read_file levels bytes)) where
  -- a file whose length is right is judged by its record
  judged_file : (found : Result (ℕ × ℕ) Refusal) → read-file ≡ found → tree_checked limit levels bytes ≡ judged bytes found
  unfolding tree_checked record_read
  judged_file found is =
      let file = read_file levels bytes in
      rw sized
      (judged_on_lem bytes file.end file.texts (texts_inside bytes levels Tokens 0) file.checked ∙ ap (judged bytes) (sym same ∙ is))

  -- a record is refused
  pub check_refused : (refusal : Refusal) → read-file ≡ Err refusal → Err refusal ≡ tree_checked limit levels bytes
  check_refused refusal is = sym (judged_file (Err refusal) is)

  module _ (end fault : ℕ) (is : read-file ≡ Ok (end, fault)) where
    -- bytes follow the list
    pub check_behind : end < length bytes → Err (record { reason = TreeLayout; place = end }) ≡ tree_checked limit levels bytes
    check_behind h = sym (judged_file (Ok (end, fault)) is ∙ simp (lt-ltb _ _ h))

    -- a byte of a text is not accepted
    pub check_fault : length bytes ≤ end → fault < length bytes → not_ascii fault ≡ tree_checked limit levels bytes
    check_fault h k = sym (judged_file (Ok (end, fault)) is ∙ simp (le-ltb _ _ h, lt-ltb _ _ k))

    -- all is well
    pub check_passed : length bytes ≤ end → length bytes ≤ fault → no_refusal ≡ tree_checked limit levels bytes
    check_passed h k = sym (judged_file (Ok (end, fault)) is ∙ simp (le-ltb _ _ h, le-ltb _ _ k))
