-- A run so far with an entry more.
use Rattle.std.proofs.Common.{◌≡◌, ℕ, List, [], ◌∷◌, ◌++◌, refl, ap, sym, ◌∙◌, subst, append_assoc, append-nil, map}
use Rattle.std.specs.Prelude.{Option, Some, None}
use Rattle.tv_base.specs.declared.Why.{Why}
use Rattle.tv_items.specs.declared.action.Heard.{Heard}
use Rattle.tv_items.specs.declared.action.Heard.TheVariants as heard
use Rattle.std.specs.List.{slice_get}
use Rattle.tv_journal.specs.declared.Entry.{Entry}
use Rattle.tv_journal.specs.declared.Entry.TheVariants as entry
use Rattle.tv_spec.specs.declared.Mode.{Mode}
use Rattle.tv_spec.specs.declared.Mode.TheVariants as mode
use Rattle.tv_spec.specs.Devices.{next_of}
use Rattle.tv_spec.specs.Legal.{after}
use Rattle.tv_spec.specs.Setup.{Setup}
use Rattle.tv_spec.specs.Shows.{debug_bytes, bytes_of, cause_of_end, cause_in, end_heard, end_of, or_else}
use Rattle.tv_spec.specs.SoFar.{IsSoFar}
use Rattle.tv_spec.specs.Solo.{Solo, makes}
use Rattle.tv_spec.specs.State.{State}
use Rattle.tv_spec.specs.Step.{Move, made, Can, done, after_event, end_of_event, event_of, hart_done, mode_after, mode_by}
use Rattle.tv_spec.proofs.Moves.{after-append, legal-append}
use Rattle.tv_spec.proofs.Rest.{beside_issued, beside_landed, beside_noted, beside_took, mode_served}

-- the moves of entries and an entry more
pub moves-more : (entries : List Entry) (e : Entry) → map made (entries ++ e ∷ []) ≡ map made entries ++ made e ∷ []
moves-more [] e = refl
moves-more (x ∷ entries) e = ap (λ (ms : List Move). made x ∷ ms) (moves-more entries e)

-- the bytes of moves, and of more of them
pub debug-append : (setup : Setup) (s : State) (first rest : List Move) → debug_bytes setup s (first ++ rest) ≡ debug_bytes setup s first ++ debug_bytes setup (after setup s first) rest
debug-append setup s [] rest = refl
debug-append setup s (move ∷ first) rest =
    ap (λ xs. bytes_of s move ++ xs) (debug-append setup (done setup s move) first rest)
    ∙ sym (append_assoc (bytes_of s move) (debug_bytes setup (done setup s move) first) (debug_bytes setup (after setup (done setup s move) first) rest))

-- the cause of the end of moves, and of more of them
pub cause-append : (setup : Setup) (s : State) (first rest : List Move) → cause_of_end setup s (first ++ rest) ≡ or_else (cause_of_end setup s first) (cause_of_end setup (after setup s first) rest)
cause-append setup s [] rest = refl
cause-append setup s (move ∷ first) rest =
    ap (or_else (end_of setup s move)) (cause-append setup (done setup s move) first rest)
    ∙ or_else-twice (end_of setup s move) (cause_of_end setup (done setup s move) first) (cause_of_end setup (after setup (done setup s move) first) rest)
  where
    or_else-twice : (a b c : Option Why) → or_else a (or_else b c) ≡ or_else (or_else a b) c
    or_else-twice None b c = refl
    or_else-twice (Some cause) b c = refl

pub cause-by : (found : Option Why) → cause_in (mode_by found) ≡ or_else found None
cause-by None = refl
cause-by (Some cause) = refl

mode_of_hart : (setup : Setup) (s : State) (hart : ℕ) → (hart_done setup s hart).mode ≡ mode_by (end_of_event setup s hart)
mode_of_hart setup s hart = (beside_issued hart (event_of s hart).2.shown (after_event setup s hart)).mode_is

-- a mode that was left has the cause that it had
cause_left : (before after : Mode) → after ≡ before → cause_in after ≡ or_else (cause_in before) (or_else None None)
cause_left (mode.Ending cause) after same = rw same refl
cause_left mode.Running after same = rw same refl

cause_heard : (m : Mode) (d : ℕ) (h : Heard) → cause_in (mode_after m d h) ≡ or_else (cause_in m) (or_else (end_heard d h) None)
cause_heard (mode.Ending cause) d h = refl
cause_heard mode.Running d (heard.Taken n) = refl
cause_heard mode.Running d heard.Done = refl
cause_heard mode.Running d heard.Refused = refl
cause_heard mode.Running d heard.Failed = refl
cause_heard mode.Running d (heard.Bytes bytes) = refl

-- a move that may stand ends the run as it says
pub cause-more : (setup : Setup) (s : State) (e : Entry) → Can setup s (made e) → cause_in (done setup s (made e)).mode ≡ or_else (cause_in s.mode) (or_else (end_of setup s (made e)) None)
cause-more setup s (entry.Hart hart) can = rw (can.running, mode_of_hart setup s hart) (cause-by (end_of_event setup s hart))
cause-more setup s (entry.Take d) can = cause_left s.mode _ (beside_took s d (slice_get (s.devs d).made (s.devs d).acted)).mode_is
cause-more setup s (entry.Send d) can = cause_left s.mode _ refl
cause-more setup s (entry.ServeMem d) can = cause_left s.mode _ (mode_served setup s d (next_of (s.devs d)))
cause-more setup s (entry.ServeIrq d) can = cause_left s.mode _ (mode_served setup s d (next_of (s.devs d)))
cause-more setup s (entry.Got d) can = cause_left s.mode _ refl
cause-more setup s (entry.Reply d) can = cause_left s.mode _ (beside_noted s d (s.devs d).due).mode_is
cause-more setup s (entry.Deliver d) can = cause_left s.mode _ (beside_landed s d (s.devs d).replied).mode_is
cause-more setup s (entry.Intend d) can = cause_left s.mode _ refl
cause-more setup s (entry.Did d heard) can = cause_heard s.mode d heard
cause-more setup s (entry.Tick n) can = cause_left s.mode _ refl

pub so_far-more : (setup : Setup) (first : State) (solo : Solo) (e : Entry) → IsSoFar setup first solo → Can setup solo.state (made e) → IsSoFar setup first (makes setup solo e)
so_far-more setup first solo e so_far can =
    let moves = map made solo.entries in
    let here : Can setup (after setup first moves) (made e) = subst (λ (s : State). Can setup s (made e)) so_far.state_is can in
    record {
      legal = rw (moves-more solo.entries e) (legal-append setup first moves (made e ∷ []) so_far.legal (here, tt));
      state_is = rw (moves-more solo.entries e) (ap (λ (s : State). done setup s (made e)) so_far.state_is ∙ sym (after-append setup first moves (made e ∷ [])));
      bytes_are = rw (moves-more solo.entries e)
          (ap (λ bytes. bytes ++ bytes_of solo.state (made e)) so_far.bytes_are
          ∙ ap (λ (s : State). debug_bytes setup first moves ++ bytes_of s (made e)) so_far.state_is
          ∙ ap (λ bytes. debug_bytes setup first moves ++ bytes) (sym (append-nil (bytes_of (after setup first moves) (made e))))
          ∙ sym (debug-append setup first moves (made e ∷ [])));
      cause_is = rw (moves-more solo.entries e)
          (cause-more setup solo.state e can
          ∙ ap (λ cause. or_else cause (or_else (end_of setup solo.state (made e)) None)) so_far.cause_is
          ∙ ap (λ (s : State). or_else (cause_of_end setup first moves) (or_else (end_of setup s (made e)) None)) so_far.state_is
          ∙ sym (cause-append setup first moves (made e ∷ [])));
    }
