-- The closing character of an operand that was read without refusal: where it stands, and whether it is printed.
use Rattle.std.specs.Prelude.{Result, Some, Ok, Err}
use Rattle.answers.specs.Numbers.{no_refusal, Checked}
use mathlib.Core.Path.{◌≡◌, refl, sym, ap, ◌∙◌}
use mathlib.Core.Logic.{◌⊎◌, ⊎_elim}
use mathlib.Core.List.{List, [], ◌∷◌}
use mathlib.Core.Bool.{Bool, true, false, cond, not, ◌||◌, and-true, and-false, or-true}
use Prim.Native.Nat.{ℕ, ◌-◌, ◌/◌, ◌%◌}
use native.Mathlib.Omega.{arith}
use native.Mathlib.Nat.{le_antisymm}
use lib.ListN.{get_or}
use lib.Seq.{slice}
use lib.Dec.{eqb}
use Rattle.answers.specs.declared.Refusal.{Refusal}
use Rattle.text.proofs.Choices.{by_test, true_false, and_true_left, and_true_right}
use Rattle.tree.specs.Codes.{mode_of}
use Rattle.tree.specs.Codes as codes
use Rattle.tree.specs.declared.codes.AddressingMode.{AddressingMode}
use Rattle.tree.specs.declared.codes.AddressingMode.TheVariants as modes
use Rattle.tree.proofs.Coded.{mode_indirect, mode_outer, other_mode}
use Rattle.tree.specs.Grammar.{Slot, must, may, kind_of, rule, fields}
use Rattle.tree.specs.Own.{fields_fit, read_own}
use Rattle.tree.specs.Parts.{skipped}
use Rattle.tree.specs.Reading.{slot_class, fields_due, parts_due, Reading, Reader, read_parts, read, text_of}
use Rattle.tree.specs.Tree.{Tree, absent, built}
use Rattle.tree.specs.declared.grammar.Class.{Class}
use Rattle.tree.specs.declared.grammar.Class.TheVariants.{LocatedExpression, Char, SuffixRecord}
use Rattle.tree.specs.declared.grammar.Class.TheVariants as classes
use Rattle.tree.specs.declared.grammar.Kind.{Kind}
use Rattle.tree.specs.declared.grammar.Kind.TheVariants as variant
use Rattle.tree.specs.declared.own.Own.{Own}
use Rattle.tree.proofs.Cases.{both_passed}
use Rattle.events.specs.Views.{view, token_number, stands_at, index_of, bit_at}
use Rattle.events.proofs.Heads.{read_stands}
use Rattle.events.proofs.OwnParts.{Fielded, record_parts, record_headed}
use Rattle.leaves.proofs.Records.{read_record}
use Rattle.leaves.proofs.Fielded.{standing_range}
use Rattle.reading.specs.Places.{at_closing_character}
use Rattle.losses.specs.Visits.{behind_field, part_trees, Takes, TakesIf, Shows, TakesClosing}
use Rattle.losses.specs.declared.firsts.Search.{Search}
use Rattle.losses.proofs.Steps.{takes_used, takes_unused}
use Rattle.losses.proofs.Records.{node_read, inner_number}
use Rattle.losses.proofs.Passed.{next_unskipped, same_next, own_unread, passed_at, passed_skip}

-- ---- fields, one behind the other

-- a part of the same parts
part_of : (place : ℕ) {some others : List Tree} → some ≡ others → get_or some place absent ≡ get_or others place absent
part_of place same = ap (λ (trees : List Tree). get_or trees place absent) same

module _ (reader : Reader) (slot : Slot) (slots : List Slot) (bits at : ℕ) where
  -- the place behind the first
  abbrev next : ℕ
  next = cond (bit_at 0 bits) (reader (slot_class slot) at).end at

  -- its tree and those behind it
  first_trees : (read_parts reader (fields_due (slot ∷ slots) bits) at).trees
      ≡ cond (bit_at 0 bits) (reader (slot_class slot) at).tree absent ∷ (read_parts reader (fields_due slots (bits / 2)) next).trees
  unfolding fields_due read_parts bit_at
  first_trees = by_test (eqb (bits % 2) 1) (λ q. rw q refl) (λ q. rw q refl)

  -- where they pass it does, and so do those behind it
  first_passed : (read_parts reader (fields_due (slot ∷ slots) bits) at).checked ≡ no_refusal
      → (bit_at 0 bits ≡ true → (reader (slot_class slot) at).checked ≡ no_refusal) × ((read_parts reader (fields_due slots (bits / 2)) next).checked ≡ no_refusal)
  unfolding fields_due read_parts bit_at
  first_passed passed =
      by_test (eqb (bits % 2) 1)
      (λ q.
      let both = both_passed (reader (slot_class slot) at).checked (read_parts reader (fields_due slots (bits / 2)) (reader (slot_class slot) at).end).checked (rw q at passed) in
      rw q (λ stands. both.0, both.1))
      (λ q. rw q (λ stands. true_false (sym stands), rw q at passed))

-- ---- those of an operand

abbrev operand_slots : List Slot
operand_slots = must LocatedExpression ∷ may Char ∷ may Char ∷ must classes.AddressingMode ∷ may SuffixRecord ∷ []

module _ (reader : Reader) (bits at : ℕ) where
  -- the place behind the expression, behind the opening character, and behind the closing one
  abbrev pub lchar_at : ℕ
  lchar_at = (reader LocatedExpression at).end

  abbrev pub rchar_at : ℕ
  rchar_at = cond (bit_at 1 bits) (reader Char lchar_at).end lchar_at

  abbrev pub mode_at : ℕ
  mode_at = cond (bit_at 2 bits) (reader Char rchar_at).end rchar_at

  -- what is known of them
  record OperandRead (trees : List Tree) : Type 0 where
    pub expression : (reader LocatedExpression at).checked ≡ no_refusal
    pub opening : bit_at 1 bits ≡ true → (reader Char lchar_at).checked ≡ no_refusal
    pub closing : bit_at 2 bits ≡ true → (reader Char rchar_at).checked ≡ no_refusal
    pub mode : (reader classes.AddressingMode mode_at).checked ≡ no_refusal
    pub rchar : get_or trees 2 absent ≡ cond (bit_at 2 bits) (reader Char rchar_at).tree absent
    pub index : get_or trees 3 absent ≡ (reader classes.AddressingMode mode_at).tree

  -- the expression and the mode stand
  must_stand : fields_fit operand_slots bits ≡ true → (bit_at 0 bits ≡ true) × (bit_at 0 (bits / 2 / 2 / 2) ≡ true)
  unfolding fields_fit bit_at
  must_stand fits = (
    and_true_left (eqb (bits % 2) 1) _ fits,
    and_true_left (eqb (bits / 2 / 2 / 2 % 2) 1) _ (and_true_right (eqb (bits % 2) 1) _ fits),
  )

  operand_read : fields_fit operand_slots bits ≡ true → (read_parts reader (fields_due operand_slots bits) at).checked ≡ no_refusal
      → OperandRead (read_parts reader (fields_due operand_slots bits) at).trees
  unfolding bit_at
  operand_read fits passed =
      let stood = must_stand fits in
      let behind_first = may Char ∷ may Char ∷ must classes.AddressingMode ∷ may SuffixRecord ∷ [] in
      let behind_second = may Char ∷ must classes.AddressingMode ∷ may SuffixRecord ∷ [] in
      let behind_third = must classes.AddressingMode ∷ may SuffixRecord ∷ [] in
      let first = first_passed reader (must LocatedExpression) behind_first bits at passed in
      let second = first_passed reader (may Char) behind_second (bits / 2) lchar_at (rw stood.0 at first.1) in
      let third = first_passed reader (may Char) behind_third (bits / 2 / 2) rchar_at second.1 in
      let fourth = first_passed reader (must classes.AddressingMode) (may SuffixRecord ∷ []) (bits / 2 / 2 / 2) mode_at third.1 in
      let trees_first = rw stood.0 at (first_trees reader (must LocatedExpression) behind_first bits at) in
      let trees_second = first_trees reader (may Char) behind_second (bits / 2) lchar_at in
      let trees_third = first_trees reader (may Char) behind_third (bits / 2 / 2) rchar_at in
      let trees_fourth = first_trees reader (must classes.AddressingMode) (may SuffixRecord ∷ []) (bits / 2 / 2 / 2) mode_at in
      record {
        expression = first.0 stood.0;
        opening = second.0;
        closing = third.0;
        mode = fourth.0 stood.1;
        rchar = part_of 2 trees_first ∙ part_of 1 trees_second ∙ part_of 0 trees_third;
        index = part_of 3 trees_first ∙ part_of 2 trees_second ∙ part_of 1 trees_third ∙ part_of 0 (rw stood.1 at trees_fourth);
      }

-- ---- the index of a mode

-- the first byte of a part
index_read : (levels : ℕ) (bytes : List ℕ) (at : ℕ) (own : Own) → read_own bytes at classes.AddressingMode levels ≡ Ok own
    → index_of (read levels bytes classes.AddressingMode at).tree ≡ slice own.text own.end bytes
unfolding built view
index_read levels bytes at own is =
    let headed = (record_headed bytes at classes.AddressingMode levels own is).1 in
    let within = standing_range (rule classes.AddressingMode) (get_or bytes at 0) refl headed.standing in
    let number : get_or bytes at 0 ≡ 25 = le_antisymm within.1 within.0 in
    let known : kind_of 25 ≡ Some own.kind = rw number at headed.kind_is in
    let leaf : own.kind ≡ variant.Leaf = cc in
    rw (node_read levels bytes classes.AddressingMode at own is, leaf) refl

-- ---- the closing character

-- whether the mode of a text prints it
abbrev pub printing : List ℕ → Bool
printing text = eqb (get_or text 0 0) codes.indirect || eqb (get_or text 0 0) codes.outer_indirect

module _ (text : List ℕ) {mode : AddressingMode} (is : mode ≡ mode_of text) where
  pub mode_prints : (mode ≡ modes.Indirect) ⊎ (mode ≡ modes.OuterIndirect) → printing text ≡ true
  mode_prints = ⊎_elim
      (λ one. rw (mode_indirect (get_or text 0 0) (sym is ∙ one)) refl)
      (λ one. rw (mode_outer (get_or text 0 0) (sym is ∙ one)) (or-true _))

  pub mode_omits : (mode ≡ modes.Indirect → ⊥) → (mode ≡ modes.OuterIndirect → ⊥) → printing text ≡ false
  mode_omits inner outer =
      let index = get_or text 0 0 in
      rw (other_mode index 3 modes.Indirect refl (λ one. inner (is ∙ one)), other_mode index 4 modes.OuterIndirect refl (λ one. outer (is ∙ one))) refl

-- what is read of the fields of an operand that passed
module _ (levels : ℕ) (bytes : List ℕ) {bits at : ℕ} {trees : List Tree} (held : OperandRead (read levels bytes) bits at trees) where
  abbrev opens : ℕ
  opens = lchar_at (read levels bytes) bits at

  abbrev closes : ℕ
  closes = rchar_at (read levels bytes) bits at

  abbrev printed : ℕ
  printed = mode_at (read levels bytes) bits at

  -- what is skipped on the way to the character
  expression_skipped : skipped levels bytes LocatedExpression at ≡ Ok opens
  expression_skipped = passed_skip levels bytes LocatedExpression at held.expression

  opening_skipped : behind_field levels bytes Char opens (bit_at 1 bits) ≡ Ok closes
  opening_skipped = by_test (bit_at 1 bits) (λ q. rw q (passed_skip levels bytes Char opens (held.opening q))) (λ q. rw q)

  -- it does not stand
  closing_absent : bit_at 2 bits ≡ false → at_closing_character (index_of (get_or trees 3 absent)) (get_or trees 2 absent) ≡ false
  unfolding view
  closing_absent none =
      let mode : List ℕ = index_of (get_or trees 3 absent) in
      rw (held.rchar, none) (and-false (not (eqb (get_or mode 0 0) 3 || eqb (get_or mode 0 0) 4)))

  module _ (there : bit_at 2 bits ≡ true) where
    -- it stands there
    closing_at : stands_at (get_or trees 2 absent) ≡ closes
    closing_at = rw (held.rchar, there) (passed_at levels bytes Char closes (held.closing there))

    -- the mode stands behind it
    closing_skipped : skipped levels bytes Char closes ≡ Ok printed
    closing_skipped = rw there (passed_skip levels bytes Char closes (held.closing there))

    -- and it counts where the mode prints none
    closing_used : (leaf : Own) → read_own bytes printed classes.AddressingMode levels ≡ Ok leaf
        → at_closing_character (index_of (get_or trees 3 absent)) (get_or trees 2 absent) ≡ not (printing (slice leaf.text leaf.end bytes))
    closing_used leaf is =
        let text = slice leaf.text leaf.end bytes in
        let same : index_of (get_or trees 3 absent) ≡ text = ap index_of held.index ∙ index_read levels bytes printed leaf is in
        rw (same, held.rchar, there, read_stands levels bytes Char closes, and-true _)

-- they are read so
module _ (levels : ℕ) (bytes : List ℕ) (class : Class) (at : ℕ) (own : Own) (is : read_own bytes at class levels ≡ Ok own) (operand : own.kind ≡ variant.Operand)
    (passed : (read levels bytes class at).checked ≡ no_refusal) where
  abbrev reader : Reader
  reader = read (levels - 1) bytes

  abbrev bits : ℕ
  bits = own.map / 2

  abbrev trees : List Tree
  trees = part_trees levels bytes class own

  -- its fields
  fields_held : Fielded bytes at class own
  fields_held =
      ⊎_elim (λ vec. let none : variant.Operand ≡ variant.Vec = sym operand ∙ vec in let zero_one : ◌≡◌ {A = ℕ} 0 1 = cc in absurd (omega arith))
      (λ held. held) (record_parts bytes at class levels own is)

  -- its number
  operand_number : 37 ≡ get_or bytes at 0
  unfolding built view
  operand_number = sym (ap (λ (kind : Kind). token_number (built kind (text_of bytes own) trees)) operand) ∙ inner_number levels bytes class at own is

  parts_held : OperandRead reader bits own.end trees
  parts_held =
      let held = fields_held in
      let due : parts_due class own ≡ fields_due operand_slots bits =
      held.parts ∙ ap (λ (kind : Kind). fields_due (fields kind (rule class).value) bits) operand in
      let fits : fields_fit operand_slots bits ≡ true = rw operand at (held.fits (rw (sym operand_number))) in
      let parts_passed : (read_parts reader (parts_due class own) own.end).checked ≡ no_refusal =
      sym (ap (λ (reading : Reading). reading.checked) (read_record bytes class at levels own is).1) ∙ passed in
      rw (sym due) at (operand_read reader bits own.end fits (rw due at parts_passed))

-- ---- what is taken

module _ (levels : ℕ) (bytes : List ℕ) (own : Own) where
  abbrev below : ℕ
  below = levels - 1

  abbrev Held : List Tree → Type 0
  Held trees = OperandRead (read below bytes) (own.map / 2) own.end trees

  -- by what is read of its fields
  by_parts : {seen : Checked} {after before : Search}
      → ((trees : List Tree) → Held trees → Shows seen (TakesIf after before (stands_at (get_or trees 2 absent)) 7
      (at_closing_character (index_of (get_or trees 3 absent)) (get_or trees 2 absent)))) → TakesClosing seen after before levels bytes own
  by_parts shows class at is operand passed = shows (part_trees levels bytes class own) (parts_held levels bytes class at own is operand passed)

  -- where it does not stand
  pub takes_no_closing : {before : Search} {there : Bool} → there ≡ bit_at 2 (own.map / 2) → there ≡ false
      → TakesClosing no_refusal before before levels bytes own
  takes_no_closing same none = by_parts (λ trees held. (refl, takes_unused (closing_absent below bytes held (sym same ∙ none))))

  -- where it does: nothing that is read on the way to it and to the mode is refused
  module _ {there : Bool} (stands-third : there ≡ bit_at 2 (own.map / 2)) (yes-there : there ≡ true)
      {expression : Result ℕ Refusal} (expression-is : expression ≡ skipped below bytes LocatedExpression own.end) where
    it_stands : bit_at 2 (own.map / 2) ≡ true
    it_stands = sym stands-third ∙ yes-there

    pub no_expression : {seen : Checked} {after before : Search} {why : Refusal} → expression ≡ Err why → TakesClosing seen after before levels bytes own
    no_expression none = by_parts (λ trees held. next_unskipped (sym (expression_skipped below bytes held) ∙ sym expression-is ∙ none))

    module _ {lchar : ℕ} (lchar-is : expression ≡ Ok lchar) {second : Bool} (stands-second : second ≡ bit_at 1 (own.map / 2))
        {opening : Result ℕ Refusal} (opening-is : opening ≡ behind_field below bytes Char lchar second) where
      opening_there : {trees : List Tree} (held : Held trees) → opening ≡ Ok (closes below bytes held)
      opening_there held =
          let same = same_next (sym lchar-is ∙ expression-is ∙ expression_skipped below bytes held) in
          opening-is ∙ rw (same, stands-second) (opening_skipped below bytes held)

      pub no_opening : {seen : Checked} {after before : Search} {why : Refusal} → opening ≡ Err why → TakesClosing seen after before levels bytes own
      no_opening none = by_parts (λ trees held. next_unskipped (sym (opening_there held) ∙ none))

      module _ {rchar : ℕ} (rchar-is : opening ≡ Ok rchar) {closing : Result ℕ Refusal} (closing-is : closing ≡ skipped below bytes Char rchar) where
        rchar_there : {trees : List Tree} (held : Held trees) → rchar ≡ closes below bytes held
        rchar_there held = same_next (sym rchar-is ∙ opening_there held)

        closing_there : {trees : List Tree} (held : Held trees) → closing ≡ Ok (printed below bytes held)
        closing_there held = closing-is ∙ rw (rchar_there held) (closing_skipped below bytes held it_stands)

        pub no_closing : {seen : Checked} {after before : Search} {why : Refusal} → closing ≡ Err why → TakesClosing seen after before levels bytes own
        no_closing none = by_parts (λ trees held. next_unskipped (sym (closing_there held) ∙ none))

        module _ {mode : ℕ} (mode-is : closing ≡ Ok mode) {found : Result Own Refusal} (found-is : found ≡ read_own bytes mode classes.AddressingMode below) where
          mode_there : {trees : List Tree} (held : Held trees) → read_own bytes (printed below bytes held) classes.AddressingMode below ≡ found
          mode_there held =
              sym (found-is ∙ ap (λ (place : ℕ). read_own bytes place classes.AddressingMode below) (same_next (sym mode-is ∙ closing_there held)))

          pub no_mode : {seen : Checked} {after before : Search} {why : Refusal} → found ≡ Err why → TakesClosing seen after before levels bytes own
          no_mode none = by_parts (λ trees held. own_unread below bytes classes.AddressingMode (printed below bytes held) held.mode (mode_there held ∙ none))

          -- the leaf's mode tells whether it counts
          module _ (leaf : Own) (leaf-is : found ≡ Ok leaf) where
            used_there : {trees : List Tree} (held : Held trees)
                → at_closing_character (index_of (get_or trees 3 absent)) (get_or trees 2 absent) ≡ not (printing (slice leaf.text leaf.end bytes))
            used_there held = closing_used below bytes held it_stands leaf (mode_there held ∙ leaf-is)

            -- the mode prints it
            pub takes_printed : {before : Search} → printing (slice leaf.text leaf.end bytes) ≡ true → TakesClosing no_refusal before before levels bytes own
            takes_printed shown = by_parts (λ trees held. (refl, takes_unused (used_there held ∙ ap not shown)))

            -- or not
            pub takes_closing : {after before : Search} → printing (slice leaf.text leaf.end bytes) ≡ false → Takes after before rchar 7
                → TakesClosing no_refusal after before levels bytes own
            takes_closing omits takes =
                by_parts
                (λ trees held. (refl, rw (closing_at below bytes held it_stands ∙ sym (rchar_there held)) (takes_used (used_there held ∙ ap not omits) takes)))
