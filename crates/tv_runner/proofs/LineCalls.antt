-- What the calls of a line make of its core, from what the core's calls do.
use Rattle.std.proofs.Common.{◌≡◌, ◌≢◌, ℕ, ◌+◌, ◌<◌, inl, inr, Bool, true, false, List, [], ◌∷◌, ◌++◌, length, Option, Some, None, refl, ap, sym, ◌∙◌, subst, arith}
use Rattle.std.specs.Prelude.{IfSome}
use Rattle.std.proofs.lemmas.Option.{slice_get_within}
use Rattle.tv_items.specs.declared.action.Action.{Action}
use Rattle.tv_items.specs.declared.action.Heard.{Heard}
use Rattle.tv_items.specs.declared.action.Way.{Way}
use Rattle.tv_items.specs.declared.action.Way.TheVariants.{Memory, Interrupt, Outside}
use Rattle.tv_items.specs.declared.item.Item.{Item}
use Rattle.tv_items.specs.Fits.{way_of}
use Rattle.tv_journal.specs.declared.Entry.{Entry}
use Rattle.tv_journal.specs.declared.Entry.TheVariants as entry
use Rattle.tv_journal.specs.Entries.{record_count}
use Rattle.tv_plan.specs.Devices.{act}
use Rattle.tv_script.specs.Services.{Asks}
use Rattle.tv_spec.specs.declared.Answer.{Answer}
use Rattle.tv_spec.specs.declared.Due.{Due}
use Rattle.tv_spec.specs.declared.Made.{Made}
use Rattle.tv_spec.specs.declared.Mode.{Mode}
use Rattle.tv_spec.specs.declared.Mode.TheVariants as mode
use Rattle.tv_spec.specs.declared.Phase.{Phase}
use Rattle.tv_spec.specs.Devices.{CanServe, IsOver, IsServed, NoLoadDue, act_on, next_of, rested, with_act, with_phase}
use Rattle.tv_spec.specs.State.{DeviceRun}
use Rattle.tv_spec.specs.Step.{IsOpen}
use Rattle.tv_core.specs.Calls.{BeganSo, DeliveredSo, EndsNow, GotSo, IsFirstDue, IsFull, IsNextItem, NotServed, RestsNow, ServedSo, TakesNone, TookSo, WantsInside}
use Rattle.tv_core.specs.Seen.{Seen, dev_of, history, setup_by, state_of, with_entry}
use Rattle.tv_core.proofs.Makers.{AreOfHarts, IsAccess, item_at, own_after}
use Rattle.tv_core.proofs.Room.{count_alone}
use Rattle.tv_runner.specs.LineLaws.{served_none, served_on}
use Rattle.tv_runner.specs.Lines.{AnsweredSo, BegunSo, DoneSo, GoesTo, HeardSo, IsAnswered, IsEmpty, IsGoing, IsOwed, IsReplied, IsServedOn, IsStill, StopsIn, TakenSo, TakesSo, next_got, with_heard}
use Rattle.tv_runner.proofs.CoreTurns.{IsLater}
use Rattle.tv_runner.proofs.DeviceEntries.{entry_goes, full_stops, goes_by, next_deliver, next_hear, next_reply, next_send, next_serve, next_take, still_next, tells_stops}
use Rattle.tv_runner.proofs.DeviceMoves.{delivered_dev, got_dev, irq_dev, mem_dev, replied_dev, sent_dev, took_dev}

-- 1. An action

pub wants_inside : (p : Seen) (d : ℕ) (a : Action) → IsStill (dev_of p d) → next_got (dev_of p d) ≡ Asks a → way_of a ≢ Outside → WantsInside (dev_of p d) a
wants_inside p d a still is in_it = record { quiet = still.quiet; is = still_next (dev_of p d) still.quiet ∙ is; inside = in_it }

pub begun_call : (p q : Seen) (d : ℕ) (a : Action) (begun : Bool) → IsGoing p → IsStill (dev_of p d) → next_got (dev_of p d) ≡ Asks a → way_of a ≢ Outside → IsLater q
    → BeganSo p q d (entry.Send d) begun → BegunSo d p q begun
begun_call p q d a true going still is in_it L began =
    entry_goes p q d (entry.Send d) (with_phase (dev_of p d) Phase.Sent) refl going L began (next_send p d a still is in_it) (sent_dev (setup_by p) (state_of p) d)
begun_call p q d a false going still is in_it L began = tells_stops p q d (entry.Send d) refl going (next_send p d a still is in_it) began

-- where the run goes on, a request that lies there is served or finds no room
no_room : (m : Mode) (p q : Seen) (d : ℕ) (way : Way) (e : Entry) → m ≡ mode.Running → CanServe (dev_of p d) way → NotServed m p q d way e → IsFull p q e
no_room (mode.Ending cause) p q d way e runs can not = let f : ◌≡◌ {A = Mode} (mode.Ending cause) mode.Running = runs in cc
no_room mode.Running p q d way e runs can (inl none) = absurd (none.0 can)
no_room mode.Running p q d way e runs can (inr full) = full

pub memory_call : (p q : Seen) (d : ℕ) (served : Bool) → IsGoing p → IsAnswered (dev_of p d) → CanServe (dev_of p d) Memory → IsLater q
    → ServedSo p q d Memory (entry.ServeMem d) served → DoneSo d p q served
memory_call p q d true going answered can L so =
    let by = goes_by Memory (next_of (dev_of p d)) can.asks in
    (_, entry_goes p q d (entry.ServeMem d) _ refl going L so.1 (next_serve p d Memory answered can (λ is. cc)) (mem_dev (setup_by p) (state_of p) d by.action by.is))
memory_call p q d false going answered can L so =
    full_stops p q d (entry.ServeMem d) refl going (next_serve p d Memory answered can (λ is. cc)) (no_room (state_of p).mode p q d Memory (entry.ServeMem d) going.runs can so)

pub interrupt_call : (p q : Seen) (d : ℕ) (served : Bool) → IsGoing p → IsAnswered (dev_of p d) → CanServe (dev_of p d) Interrupt → IsLater q
    → ServedSo p q d Interrupt (entry.ServeIrq d) served → DoneSo d p q served
interrupt_call p q d true going answered can L so =
    let by = goes_by Interrupt (next_of (dev_of p d)) can.asks in
    (_, entry_goes p q d (entry.ServeIrq d) _ refl going L so.1 (next_serve p d Interrupt answered can (λ is. cc)) (irq_dev (setup_by p) (state_of p) d by.action by.is))
interrupt_call p q d false going answered can L so =
    full_stops p q d (entry.ServeIrq d) refl going (next_serve p d Interrupt answered can (λ is. cc)) (no_room (state_of p).mode p q d Interrupt (entry.ServeIrq d) going.runs can so)

-- a reply that lies there is got
some_heard : (phase : Phase) → IsServed phase → ((heard : Heard) → phase ≢ Phase.Served heard) → ⊥
some_heard (Phase.Served heard) served none = none heard refl
some_heard Phase.Quiet served none = served
some_heard Phase.Sent served none = served
some_heard Phase.Intended served none = served

pub heard_there : (p q : Seen) (d : ℕ) → IsReplied (dev_of p d) → GotSo p q d None → ⊥
heard_there p q d replied got = some_heard (dev_of p d).phase replied.served got.0

pub heard_call : (p q : Seen) (d : ℕ) (heard : Heard) → IsGoing p → IsReplied (dev_of p d) → IsLater q → GotSo p q d (Some heard) → HeardSo d p q heard
heard_call p q d heard going replied L got =
    let is : (dev_of p d).phase ≡ Phase.Served heard = got.0.served in
    let records : record_count q.entries ≡ record_count p.entries + 1 = ap (λ (x : Seen). record_count x.entries) got.1 ∙ count_alone p.entries (entry.Got d) tt in
    record {
      goes = entry_goes p q d (entry.Got d) (with_heard (dev_of p d) heard) refl going L got.1 (next_hear p d heard replied.answered is) (got_dev (setup_by p) (state_of p) d heard is);
      grows = omega (arith, records);
      room = (let room = L.room in omega (arith, room));
      fits = got.0.fits;
    }

-- 2. An item

pub rests_now : (p : Seen) (d : ℕ) → IsStill (dev_of p d) → IsOver (next_of (dev_of p d)) → RestsNow (dev_of p d)
rests_now p d still over = record { quiet = still.quiet; over = over; answered = subst NoLoadDue (sym still.answered.due) tt }

took_call : (p q : Seen) (d tag : ℕ) (i : Item) → IsGoing p → IsStill (dev_of p d) → IsOver (next_of (dev_of p d)) → IsLater q
    → IsNextItem (dev_of p d) tag i → q ≡ with_entry p (entry.Take d) → TakesSo d p q tag i
took_call p q d tag i going still over L next new_is =
    let m : Made = record { item = i; maker = next.maker } in
    let more : (dev_of p d).acted < length (dev_of p d).made = slice_get_within (dev_of p d).made (dev_of p d).acted m next.item in
    let goes = entry_goes p q d (entry.Take d) (with_act (dev_of p d) m (act_on (dev_of p d) m)) refl going L new_is (next_take p d still over more) (took_dev (setup_by p) (state_of p) d m next.item) in
    record {
      on = goes.on;
      going = goes.going;
      acted = record {
        place = next.place;
        more = more;
        maker = next.maker;
        now = goes.dev ∙ ap (λ (n : ℕ). with_act (dev_of p d) m (act (rested (dev_of p d).device (next_of (dev_of p d))) n i)) (sym next.place);
      };
    }

empty_call : (p q : Seen) (d : ℕ) → IsGoing p → IsStill (dev_of p d) → IsOver (next_of (dev_of p d)) → TakesNone p q d → IsEmpty d p q
empty_call p q d going still over (TakesNone.empty is_open none same) = record {
  on = subst (λ (x : Seen). IsServedOn d p x) (sym same) (served_none d p);
  none = λ runs. (same, none);
}
empty_call p q d going still over (TakesNone.over tells) = by_end tells.1
  where
    by_end : EndsNow p tells.0 (entry.Take d) → IsEmpty d p q
    by_end (EndsNow.before ended same) = absurd (ended (subst IsOpen (sym going.runs) tt))
    by_end (EndsNow.full full) =
        let stops : StopsIn d p q = tells_stops p q d (entry.Take d) refl going (next_take p d still over full.may.2.more) tells in
        record { on = stops.on; none = λ runs. absurd (stops.over runs) }

pub taken_call : (p q : Seen) (d : ℕ) (result : Option (ℕ × Item)) → IsGoing p → IsStill (dev_of p d) → IsOver (next_of (dev_of p d)) → IsLater q → TookSo p q d result → TakenSo d p q result
taken_call p q d (Some tagged) going still over L took = took_call p q d tagged.0 tagged.1 going still over L took.0 took.1
taken_call p q d None going still over L took = empty_call p q d going still over took

-- an item is an access
access_call : (p q : Seen) (d tag : ℕ) (i : Item) → IsGoing p → IsStill (dev_of p d) → IsOver (next_of (dev_of p d)) → IsLater q
    → IsNextItem (dev_of p d) tag i → q ≡ with_entry p (entry.Take d) → IsAccess i
access_call p q d tag i going still over L next new_is =
    let m : Made = record { item = i; maker = next.maker } in
    let taken = took_call p q d tag i going still over L next new_is in
    let same : (dev_of q d).made ≡ (dev_of p d).made = ap (λ (v : DeviceRun). v.made) taken.acted.now in
    let all : AreOfHarts q.machine.harts (dev_of p d).made = subst (AreOfHarts q.machine.harts) same (own_after q.machine q.image (history q) L.legal.legal d).made in
    (item_at q.machine.harts (dev_of p d).made (dev_of p d).acted m all next.item).access

pub taken_access : (p q : Seen) (d : ℕ) (result : Option (ℕ × Item)) → IsGoing p → IsStill (dev_of p d) → IsOver (next_of (dev_of p d)) → IsLater q → TookSo p q d result
    → IfSome result (λ (tagged : ℕ × Item). IsAccess tagged.1)
taken_access p q d (Some tagged) going still over L took = access_call p q d tagged.0 tagged.1 going still over L took.0 took.1
taken_access p q d None going still over L took = tt

-- 3. An answer

pub answered_call : (p q r : Seen) (d tag value : ℕ) (delivered : Bool) → IsGoing p → IsOwed (dev_of p d) tag value → IsLater q → q ≡ with_entry p (entry.Reply d) → IsLater r
    → DeliveredSo q r d delivered → AnsweredSo d p r
answered_call p q r d tag value delivered going owed later new_is L so = by_result delivered so
  where
    v : DeviceRun
    v = dev_of p d

    w : Due
    w = record { tag = tag; maker = owed.maker; answer = Answer.Value value }

    one : GoesTo d p q (record v { due = []; replied = v.replied ++ w ∷ [] })
    one =
        entry_goes p q d (entry.Reply d) (record v { due = []; replied = v.replied ++ w ∷ [] }) refl going later new_is (next_reply p d w [] owed.due owed.replied)
        (replied_dev (setup_by p) (state_of p) d w [] owed.due)

    lies : (dev_of q d).replied ≡ w ∷ []
    lies = ap (λ (x : DeviceRun). x.replied) one.dev ∙ ap (λ (ws : List Due). ws ++ w ∷ []) owed.replied

    by_result : (b : Bool) → DeliveredSo q r d b → AnsweredSo d p r
    by_result false so = let f : ◌≡◌ {A = List Due} (w ∷ []) [] = sym lies ∙ so.0 in cc
    by_result true so =
        let two : GoesTo d q r (record (dev_of q d) { replied = [] }) =
        entry_goes q r d (entry.Deliver d) (record (dev_of q d) { replied = [] }) refl one.going L so.1 (next_deliver q d w [] lies)
        (delivered_dev (setup_by q) (state_of q) d w [] lies) in
        record {
          on = served_on d p q r one.on two.on;
          going = two.going;
          dev = two.dev
              ∙ ap (λ (x : DeviceRun). record x { replied = [] }) one.dev
              ∙ ap (λ (ws : List Due). record v { due = []; replied = ws }) (sym owed.replied);
        }

-- whether a worker may reply
pub first_due : (p : Seen) (d tag value : ℕ) → IsOwed (dev_of p d) tag value → IsFirstDue (dev_of p d) tag (Answer.Value value)
first_due p d tag value owed = record { maker = owed.maker; rest = []; due = owed.due }
