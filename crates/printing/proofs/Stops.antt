-- Events that do not stop, and that a run which went on to its end met none that do.
--   going_free : going left last ≡ settled (run events (going room state)) → Free events
use mathlib.Core.Path.{◌≡◌, refl, sym, ap, ◌∙◌}
use mathlib.Core.List.{List}
use Prim.Native.Nat.{ℕ}
use native.Mathlib.Omega.{arith}
use lib.Dec.{eqb}
use borrow.Author.Tests.{eqb-false}
use Rattle.answers.specs.declared.Refusal.{Refusal}
use Rattle.text.proofs.Choices.{by_test}
use Rattle.chunks.specs.declared.stored.ChunkType.{ChunkType}
use Rattle.printing.specs.Events.{Events, nothing, push, space, clear, trim, stop, ◌▹◌}
use Rattle.printing.specs.Running.{State, Run, going, ended, run, settled}
use Rattle.printing.specs.declared.Context.{Context}
use Rattle.printing.proofs.Running.{run_ended, run_full}

infixr 50 ◌and◌
pub data Free : Events → Type 0 where
  none : Free nothing
  pushes : {ty : ChunkType} {context : Context} {text : List ℕ} → Free (push ty context text)
  spaces : Free space
  clears : Free clear
  trims : Free trim
  ◌and◌ : {first next : Events} → Free first → Free next → Free (first ▹ next)

-- ---- the same part by part: of events one behind the other both are free, and a stop is not

abbrev pub Unstopped : Events → Type 0
Unstopped nothing = Unit
Unstopped (push ty context text) = Unit
Unstopped space = Unit
Unstopped clear = Unit
Unstopped trim = Unit
Unstopped (stop why) = ⊥
Unstopped (first ▹ next) = Unstopped first × Unstopped next

pub unstopped : {events : Events} → Free events → Unstopped events
unstopped none = tt
unstopped pushes = tt
unstopped spaces = tt
unstopped clears = tt
unstopped trims = tt
unstopped (one and others) = (unstopped one, unstopped others)

-- ---- runs

-- a run that has ended does not go on
pub ended_going : {R : Type 0} {room left : List ℕ} {why : Refusal} {state : State} → going left state ≡ ended room why → R
ended_going e = let zero_one : ◌≡◌ {A = ℕ} 0 1 = cc in absurd (omega arith)

-- a run of the events that goes on to its end, from wherever it starts, met no stop
abbrev Met : Events → Type 0
Met events =
    (room : List ℕ) (state : State) (left : List ℕ) (last : State) → going left last ≡ settled (run events (going room state)) → Free events

-- one behind the other: the first went on too, to a state that was not full
both_free : (first next : Events) → Met first → Met next → Met (first ▹ next)
unfolding run
both_free first next before behind room state left last went = go (run first (going room state)) refl
  where
    go : (after : Run) → run first (going room state) ≡ after → Free (first ▹ next)
    go (ended place why) is = ended_going (went ∙ ap settled (ap (run next) is ∙ run_ended next place why))
    go (going place middle) is =
        let rest : going left last ≡ settled (run next (going place middle)) = went ∙ ap (λ (x : Run). settled (run next x)) is in
        by_test (eqb middle.full 0)
        (λ q. before room state place middle (sym (ap settled is ∙ rw q refl)) and behind place middle left last rest)
        (λ q. ended_going (rest ∙ run_full next place middle (eqb-false middle.full 0 q)))

-- a stop ends a run, but in a full state, and that ends as refusal 8
met : (events : Events) → Met events
unfolding run
met nothing room state left last went = none
met (push ty context text) room state left last went = pushes
met space room state left last went = spaces
met clear room state left last went = clears
met trim room state left last went = trims
met (stop why) room state left last went =
    by_test (eqb state.full 0)
    (λ q. let end : going left last ≡ ended room why = rw q at went in ended_going end)
    (λ q. ended_going (went ∙ run_full (stop why) room state (eqb-false state.full 0 q)))
met (first ▹ next) room state left last went = both_free first next (met first) (met next) room state left last went

-- a run that went on to its end met no stop
pub going_free : (events : Events) (room : List ℕ) (state : State) {left : List ℕ} {last : State}
    → going left last ≡ settled (run events (going room state)) → Free events
going_free events room state {left} {last} went = met events room state left last went
