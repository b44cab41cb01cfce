-- Each move keeps what a state of a legal run has of the services under way, where the replies of the services fit.
use Rattle.std.proofs.Common.{◌≡◌, ◌≢◌, ℕ, List, [], ◌∷◌, ◌++◌, refl, append_assoc, append-nil}
use Rattle.tv_items.specs.declared.action.Action.{Action}
use Rattle.tv_items.specs.declared.action.Heard.{Heard}
use Rattle.tv_items.specs.declared.action.Way.{Way}
use Rattle.tv_items.specs.declared.action.Way.TheVariants.{Memory, Interrupt, Outside}
use Rattle.tv_items.specs.Fits.{FitsAction, way_of}
use Rattle.tv_plan.specs.Devices.{DeviceState, Acted, next}
use Rattle.tv_script.specs.Answers.{FitsNext, IsHeard, IsHeardFrom}
use Rattle.tv_script.specs.Services.{Next, Asks, Rests, Loses}
use Rattle.tv_journal.specs.declared.Entry.TheVariants as entry
use Rattle.tv_spec.specs.declared.Shown.{Shown}
use Rattle.tv_spec.specs.declared.Shown.TheVariants as shown
use Rattle.tv_spec.specs.Devices.{GoesBy, GoesInside, GoesOutside, act_on, answers_of, due_for, heard_in, item_of, next_of, with_act, with_got, with_heard, with_item, with_phase, with_reply}
use Rattle.tv_spec.specs.Direct.{direct}
use Rattle.tv_spec.specs.Services.{IsServing, AreServing}
use Rattle.tv_spec.specs.Setup.{Setup}
use Rattle.tv_spec.specs.declared.Made.{Made}
use Rattle.tv_spec.specs.declared.Maker.{Maker}
use Rattle.tv_spec.specs.declared.Answer.{Answer}
use Rattle.tv_spec.specs.declared.Due.{Due}
use Rattle.tv_spec.specs.declared.Phase.{Phase}
use Rattle.tv_spec.specs.State.{State, DeviceRun, device_in}
use Rattle.tv_spec.specs.Step.{Move, made, ended, Can, done, after_event, event_of, issued, landed, noted, put_dev, reached, served, took_as}
use Rattle.tv_spec.specs.Update.{update}
use Rattle.tv_spec.proofs.Updates.{update_elim, some_at}

-- a reply more
heard_more : (device : DeviceState) (before hs : List Heard) (h : Heard) → IsHeardFrom (next device) before hs → FitsNext (next device (before ++ hs)) h
    → IsHeardFrom (next device) before (hs ++ h ∷ [])
heard_more device before [] h l new = (let r = rw append-nil at new in r, tt)
heard_more device before (x ∷ hs) h l new =
    (l.0, heard_more device (before ++ x ∷ []) hs h l.1 (let r = rw (← append_assoc before (x ∷ []) hs) at new in r))

serving_dev : (devs : ℕ → DeviceRun) (d : ℕ) (v : DeviceRun) → AreServing devs → IsServing v → AreServing (update devs d v)
serving_dev devs d v S new j = update_elim devs d v j IsServing (λ _. new) (λ _. S j)

serving_issued : (h : ℕ) (seen : Shown) (s : State) → AreServing s.devs → AreServing (issued h seen s).devs
serving_issued h (shown.Access d access) s S =
    serving_dev s.devs d (with_item (s.devs d) (record { item = item_of access; maker = Maker.Hart h })) S (record { heard = (S d).heard; way = (S d).way })
serving_issued h shown.Nothing s S = S
serving_issued h (shown.Byte byte) s S = S
serving_issued h (shown.Finish finish) s S = S

pub devs_of_reached : (s : State) (ws : List Due) → (reached s ws).devs ≡ s.devs
devs_of_reached s [] = refl
devs_of_reached s (w ∷ ws) = by_maker w.maker w.answer
  where
    by_maker : (maker : Maker) (answer : Answer) → (reached s (record { tag = w.tag; maker = maker; answer = answer } ∷ ws)).devs ≡ s.devs
    by_maker (Maker.Line c) answer = refl
    by_maker (Maker.Hart h) (Answer.Value v) = refl
    by_maker (Maker.Hart h) (Answer.Verdict v) = refl

serving_took : (s : State) (d : ℕ) (m : Made) (a : Acted) → AreServing s.devs → AreServing (took_as s d m a).devs
serving_took s d m a S =
    rw (devs_of_reached s (due_for (s.devs d).acted m.maker (answers_of m.item a)))
    (serving_dev s.devs d (with_act (s.devs d) m a) S (record { heard = tt; way = tt }))

-- what a device with no reply under way has heard is what it got
got_alone : (v : DeviceRun) → heard_in v.got v.phase ≡ v.got → IsServing v → IsHeard (next v.device) v.got
got_alone v same S = let h = S.heard in let r = rw same at h in r

serving_sent : (v : DeviceRun) → v.phase ≡ Phase.Quiet → GoesInside (next_of v) → IsServing v → IsServing (with_phase v Phase.Sent)
serving_sent v quiet way S = record { heard = got_alone v (rw quiet refl) S; way = let r = rw quiet at way in r }

serving_intended : (v : DeviceRun) → v.phase ≡ Phase.Quiet → GoesOutside (next_of v) → IsServing v → IsServing (with_phase v Phase.Intended)
serving_intended v quiet way S = record { heard = got_alone v (rw quiet refl) S; way = let r = rw quiet at way in r }

serving_heard : (v : DeviceRun) (h : Heard) → heard_in v.got v.phase ≡ v.got → FitsNext (next_of v) h → IsServing v → IsHeard (next v.device) (v.got ++ h ∷ [])
serving_heard v h same fits S =
    heard_more v.device [] v.got h (got_alone v same S) (let r = rw same at fits in r)

-- the replies of the services fit the actions that go to them
abbrev pub RepliesFit : Setup → State → Type 0
RepliesFit setup s = (d : ℕ) (action : Action) → way_of action ≢ Outside → FitsAction action (direct (device_in setup.devices d) d s.local s.withdrawn action).heard

serving_served : (setup : Setup) (s : State) (d : ℕ) (way : Way) (n : Next DeviceState) → RepliesFit setup s → way ≢ Outside → GoesBy way n → next_of (s.devs d) ≡ n
    → (s.devs d).phase ≡ Phase.Sent → AreServing s.devs → AreServing (served setup s d n).devs
serving_served setup s d way (Rests state) fit inside goes is sent S = S
serving_served setup s d way (Loses state) fit inside goes is sent S = S
serving_served setup s d way (Asks action) fit inside goes is sent S =
    let h : Heard = (direct (device_in setup.devices d) d s.local s.withdrawn action).heard in
    serving_dev s.devs d (with_phase (s.devs d) (Phase.Served h)) S
    (record { heard = serving_heard (s.devs d) h (rw sent refl) (rw is (fit d action (rw goes inside))) (S d); way = tt })

serving_reply : (s : State) (d : ℕ) (ws : List Due) → AreServing s.devs → AreServing (put_dev (noted s d ws) d (with_reply (s.devs d) ws)).devs
serving_reply s d [] S = serving_dev s.devs d (s.devs d) S (S d)
serving_reply s d (w ∷ ws) S = by_maker w.maker
  where
    by_maker : (maker : Maker) → AreServing (put_dev (noted s d (record { tag = w.tag; maker = maker; answer = w.answer } ∷ ws)) d (with_reply (s.devs d) (record { tag = w.tag; maker = maker; answer = w.answer } ∷ ws))).devs
    by_maker (Maker.Hart h) = serving_dev s.devs d (with_reply (s.devs d) (record { tag = w.tag; maker = Maker.Hart h; answer = w.answer } ∷ ws)) S (record { heard = (S d).heard; way = (S d).way })
    by_maker (Maker.Line c) = serving_dev s.devs d (with_reply (s.devs d) (record { tag = w.tag; maker = Maker.Line c; answer = w.answer } ∷ ws)) S (record { heard = (S d).heard; way = (S d).way })

serving_landed : (s : State) (d : ℕ) (ws : List Due) → AreServing s.devs → AreServing (landed s d ws).devs
serving_landed s d [] S = S
serving_landed s d (w ∷ ws) S = by_maker w.maker
  where
    by_maker : (maker : Maker) → AreServing (landed s d (record { tag = w.tag; maker = maker; answer = w.answer } ∷ ws)).devs
    by_maker (Maker.Hart h) = serving_dev s.devs d (record (s.devs d) { replied = ws }) S (record { heard = (S d).heard; way = (S d).way })
    by_maker (Maker.Line c) = serving_dev s.devs d (record (s.devs d) { replied = ws }) S (record { heard = (S d).heard; way = (S d).way })

pub serving_done : (setup : Setup) (s : State) (move : Move) → RepliesFit setup s → Can setup s move → AreServing s.devs → AreServing (done setup s move).devs
serving_done setup s (made (entry.Hart h)) fit c S =
    serving_issued h (event_of s h).2.shown (after_event setup s h) S
serving_done setup s (made (entry.Take d)) fit c S =
    let x = some_at (s.devs d).made (s.devs d).acted c.2.more in
    rw x.1 (serving_took s d x.0 (act_on (s.devs d) x.0) S)
serving_done setup s (made (entry.Send d)) fit c S =
    serving_dev s.devs d (with_phase (s.devs d) Phase.Sent) S (serving_sent (s.devs d) c.2.quiet c.2.asks (S d))
serving_done setup s (made (entry.ServeMem d)) fit c S =
    serving_served setup s d Memory (next_of (s.devs d)) fit (λ e. cc) c.2.asks refl c.2.sent S
serving_done setup s (made (entry.ServeIrq d)) fit c S =
    serving_served setup s d Interrupt (next_of (s.devs d)) fit (λ e. cc) c.2.asks refl c.2.sent S
serving_done setup s (made (entry.Got d)) fit c S =
    serving_dev s.devs d (with_got (s.devs d)) S (record { heard = (S d).heard; way = tt })
serving_done setup s (made (entry.Reply d)) fit c S = serving_reply s d (s.devs d).due S
serving_done setup s (made (entry.Deliver d)) fit c S = serving_landed s d (s.devs d).replied S
serving_done setup s (made (entry.Intend d)) fit c S =
    serving_dev s.devs d (with_phase (s.devs d) Phase.Intended) S (serving_intended (s.devs d) c.2.quiet c.2.asks (S d))
serving_done setup s (made (entry.Did d heard)) fit c S =
    serving_dev s.devs d (with_heard (s.devs d) heard) S
    (record { heard = serving_heard (s.devs d) heard (let q = c.1.intended in rw q refl) c.1.fits (S d); way = tt })
serving_done setup s (made (entry.Tick n)) fit c S = S
serving_done setup s (ended cause) fit c S = S
