-- The chunk that is appended is the one of the definition, and whether it is a newline was asked of the same text.
use mathlib.Core.Path.{◌≡◌, refl, sym, ◌∙◌}
use Rattle.std.specs.Prelude.{false, Ok}
use Rattle.chunks.specs.Appending.{with_colon}
use Rattle.printing.specs.Running.{State, behind}
use Rattle.printers.specs.Going.{state_of}
use Rattle.printers.proofs.Exact.{over_exact, lacks_none, left_filled}
use Rattle.printers.proofs.Going.{goes_on, full_there, not_over}
use Rattle.printers.proofs.Pushing.{needs, needs_some, push_ran, empty_pushed}
use Rattle.printers.proofs.Printer.push_type.Goals as goal
use Rattle.printers.proofs.Printer.push_type.Goals.{then-newline, else-newline}

pub returns-then-is_some : goal.returns-then-is_some
returns-then-is_some c = over_exact (sym c.is_some.ensures ∙ c.if-is_some.true)

pub returns-then-no_text : goal.returns-then-no_text
returns-then-no_text c = empty_pushed {text = λ page. with_colon c.args.colon c.args.text.now} (sym c.no_text.ensures ∙ c.if-no_text.true)

pub returns-after-newline : goal.returns-after-newline
returns-after-newline c =
    let self = c.args.self.now in
    let on = sym c.is_some.ensures ∙ c.if-is_some.false in
    let next : State = record { used = c.in-Ok.end; solid = c.if-newline.self; spaced = false; full = 0 } in
    let moved : next ≡ behind (state_of self) c.lone_newline-newline.result (Ok c.in-Ok.end) =
    elim c.if-newline.branch [ then-newline w ↦ rw (w.self-is, w.if-newline.true) refl | else-newline w ↦ rw (w.self-is, w.if-newline.false) refl ] in
    let ran =
    push_ran self c.args.ty _ (sym c.no_text.ensures ∙ c.if-no_text.false) c.lone_newline-newline.ensures
    (sym c.in-Ok.is ∙ c.append_chunk.ensures.answer) c.append_chunk.ensures.room moved in
    record {
      goes = goes_on next on refl refl ran (not_over self.ended _ on) refl;
      keeps = record { state = λ by_room. rw (lacks_none self.ended on) ran.ran; by_room = λ by_room. by_room; place = refl };
    }

pub returns-in-Err : goal.returns-in-Err
returns-in-Err c =
    let self = c.args.self.now in
    let on = sym c.is_some.ensures ∙ c.if-is_some.false in
    let newline = c.lone_newline-newline.result in
    let answered = sym c.in-Err.is ∙ c.append_chunk.ensures.answer in
    let ran =
    push_ran self c.args.ty _ (sym c.no_text.ensures ∙ c.if-no_text.false) c.lone_newline-newline.ensures answered c.append_chunk.ensures.room refl in
    let some = needs_some _ _ _ _ answered in
    record {
      goes = full_there on refl refl ran (needs (state_of self) newline c.in-Err.why) some (rw c.refused.ensures refl);
      keeps = record {
        state = λ by_room. rw (lacks_none self.ended on, c.refused.ensures) (left_filled (state_of self) newline c.in-Err.why ran.ran);
        by_room = λ by_room. rw c.refused.ensures (refl, some);
        place = refl;
      };
    }
