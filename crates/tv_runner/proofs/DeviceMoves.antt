-- What the entries of a device make of a state: the device itself changes, and no other one; the mode stays.
use Rattle.std.proofs.Common.{◌≡◌, ◌≢◌, ℕ, List, [], ◌∷◌, ◌++◌, Option, Some, None, refl, ap, ◌∙◌}
use Rattle.std.specs.List.{slice_get}
use Rattle.tv_items.specs.declared.action.Action.{Action}
use Rattle.tv_items.specs.declared.action.Heard.{Heard}
use Rattle.tv_journal.specs.declared.Entry.{Entry}
use Rattle.tv_journal.specs.declared.Entry.TheVariants as entry
use Rattle.tv_plan.specs.Devices.{DeviceState}
use Rattle.tv_script.specs.Services.{Next, Asks, Rests, Loses}
use Rattle.tv_spec.specs.declared.Due.{Due}
use Rattle.tv_spec.specs.declared.Made.{Made}
use Rattle.tv_spec.specs.declared.Maker.{Maker}
use Rattle.tv_spec.specs.declared.Phase.{Phase}
use Rattle.tv_spec.specs.Devices.{act_on, answers_of, due_for, heard_in, next_of, with_act, with_got, with_phase, with_reply}
use Rattle.tv_spec.specs.Direct.{direct}
use Rattle.tv_spec.specs.Setup.{Setup}
use Rattle.tv_spec.specs.State.{DeviceRun, State, device_in}
use Rattle.tv_spec.specs.Step.{done, landed, made, noted, put_dev, served, took}
use Rattle.tv_spec.specs.Update.{update}
use Rattle.tv_spec.proofs.Rest.{beside_landed, beside_noted, beside_took, mode_served}
use Rattle.tv_spec.proofs.Serving.{devs_of_reached}
use Rattle.tv_spec.proofs.Updates.{update_other, update_same}

-- 1. Entries of a device

-- an entry of this device that brings nothing from outside
abbrev pub IsOf : ℕ → Entry → Type 0
IsOf d (entry.Take e) = e ≡ d
IsOf d (entry.Send e) = e ≡ d
IsOf d (entry.ServeMem e) = e ≡ d
IsOf d (entry.ServeIrq e) = e ≡ d
IsOf d (entry.Got e) = e ≡ d
IsOf d (entry.Reply e) = e ≡ d
IsOf d (entry.Deliver e) = e ≡ d
IsOf d e = ⊥

pub mode_kept : (setup : Setup) (s : State) (d : ℕ) (e : Entry) → IsOf d e → (done setup s (made e)).mode ≡ s.mode
mode_kept setup s d (entry.Take e) is = (beside_took s e (slice_get (s.devs e).made (s.devs e).acted)).mode_is
mode_kept setup s d (entry.Send e) is = refl
mode_kept setup s d (entry.ServeMem e) is = mode_served setup s e (next_of (s.devs e))
mode_kept setup s d (entry.ServeIrq e) is = mode_served setup s e (next_of (s.devs e))
mode_kept setup s d (entry.Got e) is = refl
mode_kept setup s d (entry.Reply e) is = (beside_noted s e (s.devs e).due).mode_is
mode_kept setup s d (entry.Deliver e) is = (beside_landed s e (s.devs e).replied).mode_is
mode_kept setup s d (entry.Hart hart) is = absurd is
mode_kept setup s d (entry.Intend e) is = absurd is
mode_kept setup s d (entry.Did e heard) is = absurd is
mode_kept setup s d (entry.Tick n) is = absurd is

-- 2. The devices then

noted_devs : (s : State) (d : ℕ) (ws : List Due) → (noted s d ws).devs ≡ s.devs
noted_devs s d [] = refl
noted_devs s d (w ∷ ws) = by_maker w.maker
  where
    by_maker : (maker : Maker) → (noted s d (record { tag = w.tag; maker = maker; answer = w.answer } ∷ ws)).devs ≡ s.devs
    by_maker (Maker.Hart h) = refl
    by_maker (Maker.Line c) = refl

landed_devs : (s : State) (d : ℕ) (w : Due) (ws : List Due) → (landed s d (w ∷ ws)).devs ≡ update s.devs d (record (s.devs d) { replied = ws })
landed_devs s d w ws = by_maker w.maker
  where
    by_maker : (maker : Maker) → (landed s d (record { tag = w.tag; maker = maker; answer = w.answer } ∷ ws)).devs ≡ update s.devs d (record (s.devs d) { replied = ws })
    by_maker (Maker.Hart h) = refl
    by_maker (Maker.Line c) = refl

-- what an entry makes of its own device
pub took_dev : (setup : Setup) (s : State) (d : ℕ) (m : Made) → slice_get (s.devs d).made (s.devs d).acted ≡ Some m
    → (done setup s (made (entry.Take d))).devs d ≡ with_act (s.devs d) m (act_on (s.devs d) m)
took_dev setup s d m is =
    ap (λ (o : Option Made). (took s d o).devs d) is
    ∙ ap (λ (f : ℕ → DeviceRun). update f d (with_act (s.devs d) m (act_on (s.devs d) m)) d) (devs_of_reached s (due_for (s.devs d).acted m.maker (answers_of m.item (act_on (s.devs d) m))))
    ∙ update_same s.devs d (with_act (s.devs d) m (act_on (s.devs d) m))

pub sent_dev : (setup : Setup) (s : State) (d : ℕ) → (done setup s (made (entry.Send d))).devs d ≡ with_phase (s.devs d) Phase.Sent
sent_dev setup s d = update_same s.devs d (with_phase (s.devs d) Phase.Sent)

served_dev : (setup : Setup) (s : State) (d : ℕ) (a : Action) → next_of (s.devs d) ≡ Asks a
    → (served setup s d (next_of (s.devs d))).devs d ≡ with_phase (s.devs d) (Phase.Served (direct (device_in setup.devices d) d s.local s.withdrawn a).heard)
served_dev setup s d a is =
    ap (λ (n : Next DeviceState). (served setup s d n).devs d) is
    ∙ update_same s.devs d (with_phase (s.devs d) (Phase.Served (direct (device_in setup.devices d) d s.local s.withdrawn a).heard))

pub mem_dev : (setup : Setup) (s : State) (d : ℕ) (a : Action) → next_of (s.devs d) ≡ Asks a
    → (done setup s (made (entry.ServeMem d))).devs d ≡ with_phase (s.devs d) (Phase.Served (direct (device_in setup.devices d) d s.local s.withdrawn a).heard)
mem_dev setup s d a is = served_dev setup s d a is

pub irq_dev : (setup : Setup) (s : State) (d : ℕ) (a : Action) → next_of (s.devs d) ≡ Asks a
    → (done setup s (made (entry.ServeIrq d))).devs d ≡ with_phase (s.devs d) (Phase.Served (direct (device_in setup.devices d) d s.local s.withdrawn a).heard)
irq_dev setup s d a is = served_dev setup s d a is

pub got_dev : (setup : Setup) (s : State) (d : ℕ) (heard : Heard) → (s.devs d).phase ≡ Phase.Served heard
    → (done setup s (made (entry.Got d))).devs d ≡ record (s.devs d) { got = (s.devs d).got ++ heard ∷ []; phase = Phase.Quiet }
got_dev setup s d heard is =
    update_same s.devs d (with_got (s.devs d))
    ∙ ap (λ (phase : Phase). record (s.devs d) { got = heard_in (s.devs d).got phase; phase = Phase.Quiet }) is

pub replied_dev : (setup : Setup) (s : State) (d : ℕ) (w : Due) (ws : List Due) → (s.devs d).due ≡ w ∷ ws
    → (done setup s (made (entry.Reply d))).devs d ≡ record (s.devs d) { due = ws; replied = (s.devs d).replied ++ w ∷ [] }
replied_dev setup s d w ws is =
    ap (λ (f : ℕ → DeviceRun). update f d (with_reply (s.devs d) (s.devs d).due) d) (noted_devs s d (s.devs d).due)
    ∙ update_same s.devs d (with_reply (s.devs d) (s.devs d).due)
    ∙ ap (λ (due : List Due). with_reply (s.devs d) due) is

pub delivered_dev : (setup : Setup) (s : State) (d : ℕ) (w : Due) (ws : List Due) → (s.devs d).replied ≡ w ∷ ws
    → (done setup s (made (entry.Deliver d))).devs d ≡ record (s.devs d) { replied = ws }
delivered_dev setup s d w ws is =
    ap (λ (replied : List Due). (landed s d replied).devs d) is
    ∙ ap (λ (f : ℕ → DeviceRun). f d) (landed_devs s d w ws)
    ∙ update_same s.devs d (record (s.devs d) { replied = ws })

-- 3. The other devices

put_other : (s : State) (e d k : ℕ) (v : DeviceRun) → e ≡ d → k ≢ d → (put_dev s e v).devs k ≡ s.devs k
put_other s e d k v is other = update_other s.devs e v k (λ same. other (same ∙ is))

served_other : (setup : Setup) (s : State) (e d k : ℕ) (n : Next DeviceState) → e ≡ d → k ≢ d → (served setup s e n).devs k ≡ s.devs k
served_other setup s e d k (Rests state) is other = refl
served_other setup s e d k (Loses state) is other = refl
served_other setup s e d k (Asks a) is other =
    put_other s e d k (with_phase (s.devs e) (Phase.Served (direct (device_in setup.devices e) e s.local s.withdrawn a).heard)) is other

took_other : (s : State) (e d k : ℕ) (o : Option Made) → e ≡ d → k ≢ d → (took s e o).devs k ≡ s.devs k
took_other s e d k None is other = refl
took_other s e d k (Some m) is other =
    ap (λ (f : ℕ → DeviceRun). update f e (with_act (s.devs e) m (act_on (s.devs e) m)) k) (devs_of_reached s (due_for (s.devs e).acted m.maker (answers_of m.item (act_on (s.devs e) m))))
    ∙ put_other s e d k (with_act (s.devs e) m (act_on (s.devs e) m)) is other

landed_other : (s : State) (e d k : ℕ) (ws : List Due) → e ≡ d → k ≢ d → (landed s e ws).devs k ≡ s.devs k
landed_other s e d k [] is other = refl
landed_other s e d k (w ∷ ws) is other =
    ap (λ (f : ℕ → DeviceRun). f k) (landed_devs s e w ws) ∙ put_other s e d k (record (s.devs e) { replied = ws }) is other

pub other_kept : (setup : Setup) (s : State) (d k : ℕ) (e : Entry) → IsOf d e → k ≢ d → (done setup s (made e)).devs k ≡ s.devs k
other_kept setup s d k (entry.Take e) is other = took_other s e d k (slice_get (s.devs e).made (s.devs e).acted) is other
other_kept setup s d k (entry.Send e) is other = put_other s e d k (with_phase (s.devs e) Phase.Sent) is other
other_kept setup s d k (entry.ServeMem e) is other = served_other setup s e d k (next_of (s.devs e)) is other
other_kept setup s d k (entry.ServeIrq e) is other = served_other setup s e d k (next_of (s.devs e)) is other
other_kept setup s d k (entry.Got e) is other = put_other s e d k (with_got (s.devs e)) is other
other_kept setup s d k (entry.Reply e) is other =
    ap (λ (f : ℕ → DeviceRun). update f e (with_reply (s.devs e) (s.devs e).due) k) (noted_devs s e (s.devs e).due)
    ∙ put_other s e d k (with_reply (s.devs e) (s.devs e).due) is other
other_kept setup s d k (entry.Deliver e) is other = landed_other s e d k (s.devs e).replied is other
other_kept setup s d k (entry.Hart hart) is other = absurd is
other_kept setup s d k (entry.Intend e) is other = absurd is
other_kept setup s d k (entry.Did e heard) is other = absurd is
other_kept setup s d k (entry.Tick n) is other = absurd is
