-- A core behind a burst: its history, and what it stands for.
use Rattle.std.proofs.Common.{◌≡◌, ℕ, zero, suc, ◌<◌, List, [], ◌∷◌, ◌++◌, length, length-set, map, replicate, get_or, set, Bool, Option, None, refl, ap, ◌∙◌}
use Rattle.std.proofs.lemmas.List.{get_or-set_same, get_or-set_other}
use Rattle.tv_base.specs.declared.Why.{Why}
use Rattle.tv_guest.specs.Burst.{IsBurst, after_events, events_of}
use Rattle.tv_guest.specs.GuestState.{GuestState}
use Rattle.tv_hart.specs.HartState.{HartState}
use Rattle.tv_journal.specs.declared.Entry.{Entry}
use Rattle.tv_journal.specs.declared.Entry.TheVariants as entry
use Rattle.tv_side.specs.Sides.{SideState}
use Rattle.tv_spec.specs.declared.Closed.{Closed}
use Rattle.tv_spec.specs.declared.Mode.{Mode}
use Rattle.tv_spec.specs.declared.Shown.{Shown}
use Rattle.tv_spec.specs.Legal.{IsLegal, after, with_outer}
use Rattle.tv_spec.specs.LocalState.{LocalState}
use Rattle.tv_spec.specs.Setup.{Setup}
use Rattle.tv_spec.specs.Shows.{byte_shown, debug_bytes}
use Rattle.tv_spec.specs.State.{DeviceRun, State}
use Rattle.tv_spec.specs.Step.{IsOpen, Move, made}
use Rattle.tv_spec.specs.Update.{update}
use Rattle.tv_spec.proofs.Moves.{after-append, legal-append}
use Rattle.tv_spec.proofs.SoFar.{debug-append}
use Rattle.tv_spec.proofs.Updates.{update_elim}
use Rattle.tv_core.specs.Stands.{HartStands, Stands, StandsFor}

-- 1. Its history

run_made : (hart n : ℕ) → map made (replicate n (entry.Hart hart)) ≡ events_of hart n
run_made hart zero = refl
run_made hart (suc n) = ap (λ (ms : List Move). made (entry.Hart hart) ∷ ms) (run_made hart n)

map_made : (es : List Entry) (hart n : ℕ) → map made (es ++ replicate n (entry.Hart hart)) ≡ map made es ++ events_of hart n
map_made [] hart n = run_made hart n
map_made (e ∷ es) hart n = ap (λ (ms : List Move). made e ∷ ms) (map_made es hart n)

-- moves with a burst behind them
pub record IsBehind (setup : Setup) (first s : State) (entries : List Entry) (outer : Option (ℕ × Why)) (hart count : ℕ) (later : HartState) (local : LocalState) (now : Mode) (what : Shown) : Type 0 where
  pub legal : IsLegal setup first (with_outer (entries ++ replicate count (entry.Hart hart)) outer)
  pub state : after setup first (with_outer (entries ++ replicate count (entry.Hart hart)) outer) ≡ after_events s hart count later local now what
  pub bytes : debug_bytes setup first (with_outer (entries ++ replicate count (entry.Hart hart)) outer) ≡ debug_bytes setup first (with_outer entries outer) ++ byte_shown what

pub is_behind : (setup : Setup) (first : State) (entries : List Entry) (outer : Option (ℕ × Why)) (hart count : ℕ) (later : HartState) (local : LocalState) (now : Mode) (closed : Closed) (what : Shown)
    → outer ≡ None → IsLegal setup first (with_outer entries outer)
    → IsBurst setup (after setup first (with_outer entries outer)) hart count later local now closed what
    → IsBehind setup first (after setup first (with_outer entries outer)) entries outer hart count later local now what
is_behind setup first entries outer hart count later local now closed what none legal B =
    let moves : List Move = with_outer entries outer in
    let is : with_outer (entries ++ replicate count (entry.Hart hart)) outer ≡ moves ++ events_of hart count = rw none (map_made entries hart count) in
    record {
      legal = rw is (legal-append setup first moves (events_of hart count) legal B.legal);
      state = rw is (after-append setup first moves (events_of hart count) ∙ B.state);
      bytes = rw is (debug-append setup first moves (events_of hart count) ∙ ap (λ (xs : List ℕ). debug_bytes setup first moves ++ xs) B.bytes);
    }

-- the state behind the first events of a burst
pub front_state : (setup : Setup) (first : State) (entries : List Entry) (outer : Option (ℕ × Why)) (hart n : ℕ) → outer ≡ None
    → after setup first (with_outer (entries ++ replicate n (entry.Hart hart)) outer) ≡ after setup (after setup first (with_outer entries outer)) (events_of hart n)
front_state setup first entries outer hart n none =
    let is : with_outer (entries ++ replicate n (entry.Hart hart)) outer ≡ with_outer entries outer ++ events_of hart n = rw none (map_made entries hart n) in
    ap (after setup first) is ∙ after-append setup first (with_outer entries outer) (events_of hart n)

-- 2. What it stands for, where no access was shown

-- a worker is not told of an ending while the run goes on, so a side stands in any mode after it
pub side_mode : (tube : ℕ) (old now : Mode) (v : DeviceRun) (p : SideState) → IsOpen old → StandsFor tube old v p → StandsFor tube now v p
side_mode tube old now v p is_open R = record {
  tube_is = R.tube_is;
  made = R.made;
  harts = R.harts;
  commands = R.commands;
  replies = R.replies;
  transit = R.transit;
  told = λ is. absurd ((R.told is).ending is_open);
}

pub stands_quiet : (tube : ℕ) (guest next : GuestState) (withdrawn : List Bool) (sides : List SideState) (waits : List Bool) (reserved : ℕ) (s : State) (hart : ℕ) (later : HartState) (ticked : Bool)
    → Stands tube guest withdrawn sides waits reserved s → IsOpen s.mode → hart < length guest.harts → s.pending hart ≡ None → later.waits ≡ None → next.harts ≡ set guest.harts hart later
    → Stands tube next withdrawn sides waits reserved (record s { harts = update s.harts hart later; local = next.local; mode = next.mode; events = next.events; ticked = ticked })
stands_quiet tube guest next withdrawn sides waits reserved s hart later ticked T is_open exists free ready harts_are = record {
  local_is = refl;
  withdrawn_is = T.withdrawn_is;
  mode_is = refl;
  events_are = refl;
  each_hart = λ h any lt. rw harts_are (update_elim s.harts hart later h (λ x. HartStands (get_or (set guest.harts hart later) h any) x (s.pending h) s.devs)
      (λ e. rw (e, get_or-set_same guest.harts hart later any exists, free) (refl, ready))
      (λ ne. rw (get_or-set_other guest.harts hart h later any ne) (T.each_hart h any (let r : h < length guest.harts = (let q = rw harts_are at lt in rw length-set at q) in r))));
  each_side = λ d any lt. side_mode tube s.mode next.mode (s.devs d) (get_or sides d any) is_open (T.each_side d any lt);
  each_wait = T.each_wait;
  flags = T.flags;
  each_flag = T.each_flag;
  reserved_is = T.reserved_is;
}

-- the moves behind the first events of a burst
pub front_moves : (entries : List Entry) (outer : Option (ℕ × Why)) (hart n : ℕ) → outer ≡ None → with_outer (entries ++ replicate n (entry.Hart hart)) outer ≡ with_outer entries outer ++ events_of hart n
front_moves entries outer hart n none = rw none (map_made entries hart n)
