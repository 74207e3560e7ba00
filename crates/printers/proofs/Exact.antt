-- Printers one behind the other with the state by itself, also where a chunk did not fit.
use mathlib.Core.Path.{◌≡◌, refl, sym, ap, subst, ◌∙◌}
use mathlib.Core.List.{List}
use mathlib.Core.Bool.{Bool}
use Prim.Native.Nat.{ℕ}
use native.Mathlib.Omega.{arith}
use Rattle.std.proofs.Common.{true, false, Option, Some, None, Err, is_some}
use Rattle.answers.specs.declared.Refusal.{Refusal}
use Rattle.chunks.specs.declared.append.Unappended.{Unappended}
use Rattle.chunks.specs.declared.append.Unappended.TheVariants.{NoRoom, NoChunk, UsedPastRoom}
use Rattle.chunks.specs.declared.stored.ChunkType.{ChunkType}
use Rattle.printing.specs.Events.{Events, nothing, push, ◌▹◌}
use Rattle.printing.specs.Running.{State, Run, going, run, at_start, filled, behind}
use Rattle.printing.proofs.Pushing.{full_not_pushed}
use Rattle.printing.proofs.Running.{ran_push}
use Rattle.printers.specs.declared.Printer.{Printer}
use Rattle.printers.specs.Going.{Page, page_of, ByRoom, lacking, held_of, GoesExact}
use Rattle.printers.proofs.Going.{◌onward◌, there, runs_alike, has_ended, steps}

-- ---- the length that did not fit

-- none where the walk goes on
pub lacks_none : (over : Option Refusal) → is_some over ≡ false → lacking over ≡ 0
lacks_none None on = refl
lacks_none (Some why) on = let z : ◌≡◌ {A = ℕ} 0 1 = cc in absurd (omega arith)

-- some where it ended by the room
lacks_some : (over : Option Refusal) → is_some over ≡ true → ByRoom over → lacking over ≡ 0 → ⊥
lacks_some None some by_room = let z : ◌≡◌ {A = ℕ} 0 1 = cc in absurd (omega arith)
lacks_some (Some why) some by_room = by_room.1

-- a chunk that was not appended leaves the state with the length that it needs
fills : (state : State) (newline : Bool) (why : Unappended) → behind state newline (Err why) ≡ filled state (behind at_start false (Err why)).full
fills state newline (NoRoom needed) = refl
fills state newline NoChunk = refl
fills state newline UsedPastRoom = refl

pub left_filled : {left : Run} {room : List ℕ} (state : State) (newline : Bool) (why : Unappended)
    → left ≡ going room (behind state newline (Err why)) → left ≡ going room (filled state (behind at_start false (Err why)).full)
left_filled {room = room} state newline why is = is ∙ ap (going room) (fills state newline why)

-- ---- one printer, and what goes on from it

infixr 50 ◌exactly◌
pub ◌exactly◌ : {before between after : Printer} {first next : Page → ℕ → Events} {end behind : Page → ℕ → ℕ}
    → GoesExact before between first end → GoesExact between after next behind
    → GoesExact before after (λ page at. first page at ▹ next page (end page at)) (λ page at. behind page (end page at))
unfolding run
◌exactly◌ {before} {between} {after} {first} {next} {end} {behind} one other =
    let left : Run = going after.room.now (held_of after) in
    let start : Run = going between.room.now (held_of between) in
    let same = one.goes.page in
    record {
      goes = one.goes onward other.goes;
      keeps = record {
        state = λ by_room.
            let on = other.keeps.state (one.keeps.by_room by_room) in
            let here = subst (λ (page : Page). run (next page between.at) start ≡ left) same on in
            let placed = subst (λ (at : ℕ). run (next (page_of before) at) start ≡ left) one.keeps.place here in
            ap (run (next (page_of before) (end (page_of before) before.at))) (one.keeps.state by_room) ∙ placed;
        by_room = λ by_room. other.keeps.by_room (one.keeps.by_room by_room);
        place = other.keeps.place ∙ ap (λ (page : Page). behind page between.at) same ∙ ap (behind (page_of before)) one.keeps.place;
      };
    }

-- with others that are the same there
pub exact_there : {before after : Printer} {events others : Page → ℕ → Events} {end behind : Page → ℕ → ℕ} → GoesExact before after events end
    → events (page_of before) before.at ≡ others (page_of before) before.at → end (page_of before) before.at ≡ behind (page_of before) before.at
    → GoesExact before after others behind
exact_there {before} done same placed = record {
  goes = there done.goes same placed;
  keeps = record {
    state = λ by_room. ap (λ events. run events (going before.room.now (held_of before))) (sym same) ∙ done.keeps.state by_room;
    by_room = done.keeps.by_room;
    place = done.keeps.place ∙ placed;
  };
}

-- or that run alike
pub exact_alike : {before after : Printer} {events others : Page → ℕ → Events} {end : Page → ℕ → ℕ} → GoesExact before after events end
    → ((x : Run) → run (events (page_of before) before.at) x ≡ run (others (page_of before) before.at) x) → GoesExact before after others end
exact_alike {before} done same = record {
  goes = runs_alike done.goes same;
  keeps = record {
    state = λ by_room. sym (same (going before.room.now (held_of before))) ∙ done.keeps.state by_room;
    by_room = done.keeps.by_room;
    place = done.keeps.place;
  };
}

-- ---- steps that need no room: a walk that has ended takes them too

-- the state with whatever length did not fit
abbrev state_with : Printer → ℕ → State
state_with printer full = record { used = printer.used; solid = printer.solid; spaced = printer.spaced; full = full }

pub steps_exactly : {before after : Printer} {events : Page → ℕ → Events} {end : Page → ℕ → ℕ}
    → page_of after ≡ page_of before → after.room ≡ before.room → after.ended ≡ before.ended
    → ((full : ℕ) → run (events (page_of before) before.at) (going before.room.now (state_with before full)) ≡ going before.room.now (state_with after full))
    → after.at ≡ end (page_of before) before.at → GoesExact before after events end
steps_exactly {before} {after} page room over ran placed = record {
  goes = steps page room over (record { ran = ran 0 }) placed;
  keeps = record {
    state = λ by_room. rw (room, over) (ran (lacking before.ended));
    by_room = λ by_room. rw over by_room;
    place = placed;
  };
}

-- no step at all is one
pub exact_stays : {printer : Printer} → GoesExact printer printer (λ page at. nothing) (λ page at. at)
unfolding run
exact_stays = steps_exactly refl refl refl (λ full. refl) refl

-- nothing is pushed where the walk has ended
pub over_exact : {printer : Printer} {ty : ChunkType} {text : List ℕ} → is_some printer.ended ≡ true
    → GoesExact printer printer (λ page at. push ty page.context text) (λ page at. at)
over_exact {printer} {ty} {text} some = record {
  goes = has_ended some;
  keeps = record {
    state = λ by_room. (ran_push (full_not_pushed printer.room.now (held_of printer) ty printer.context text (lacks_some printer.ended some by_room))).ran;
    by_room = λ by_room. by_room;
    place = refl;
  };
}
