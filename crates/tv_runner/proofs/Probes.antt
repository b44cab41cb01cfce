-- A probe's service: at most one action, which a service inside the machine does; no bytes are lost.
use Rattle.std.proofs.Common.{◌≡◌, ◌≢◌, ℕ, ◌==◌, ◌/◌, Bool, true, false, if◌then◌else◌, List, [], ◌∷◌, take, Option, Some, None, refl, ap, sym, ◌∙◌, subst}
use Rattle.byteorder.specs.Endian.{little_bytes}
use Rattle.tv_base.specs.declared.limits.TheConstants.{PAGE_BYTES}
use Rattle.tv_items.specs.declared.action.Action.{Action}
use Rattle.tv_items.specs.declared.action.Action.TheVariants as action
use Rattle.tv_items.specs.declared.action.Heard.{Heard}
use Rattle.tv_items.specs.declared.action.Way.TheVariants.{Outside}
use Rattle.tv_items.specs.declared.item.Item.{Item}
use Rattle.tv_items.specs.Fits.{way_of}
use Rattle.tv_plan.specs.Devices.{DeviceState, act, next}
use Rattle.tv_plan.specs.Probe.{ProbeState, probe_action, probe_asks, probe_heard, probe_plan}
use Rattle.tv_script.specs.Scripts.{Stop}
use Rattle.tv_script.specs.Services.{Idle, Next, Asks, Rests, Loses, after, next_after, next_as, next_of, opened, replied}
use Rattle.tv_runner.specs.Lines.{IsProbe}

-- 1. What a probe's script comes to after replies

-- a script that stopped stays so
stopped : (p : ProbeState) (hs : List Heard) → after probe_plan.round (Stop (Idle p)) hs ≡ Stop (Idle p)
unfolding after replied
stopped p [] = refl
stopped p (h ∷ hs) = stopped p hs

-- it rests, or asks for the action that is under way
pub data NextOf (p : ProbeState) (n : Next ProbeState) : Type 0 where
  rests : (q : ProbeState) → n ≡ Rests q → NextOf p n
  asks_for : (a : Action) → probe_action p ≡ Some a → n ≡ Asks a → NextOf p n

script_next : (p : ProbeState) (o : Option Action) (hs : List Heard) → probe_action p ≡ o → NextOf p (next_of (after probe_plan.round (opened probe_plan.round (probe_asks p o)) hs))
unfolding after replied opened next_of
script_next p None hs is = NextOf.rests p (ap next_of (stopped p hs))
script_next p (Some a) [] is = NextOf.asks_for a is refl
script_next p (Some a) (h ∷ hs) is = NextOf.rests (probe_heard p h) (ap next_of (stopped (probe_heard p h) hs))

pub probe_next : (p : ProbeState) (hs : List Heard) → NextOf p (next_after probe_plan p hs)
probe_next p hs = script_next p (probe_action p) hs refl

-- 2. The same of a device that is a probe

-- an action of a probe is done inside the machine
inside : (p : ProbeState) (a : Action) → probe_action p ≡ Some a → way_of a ≢ Outside
inside p a is = by_going (p.going == 1) (p.going == 2) (p.going == 3) (p.going == 4) (p.going == 5) is
  where
    is_inside : (b : Action) → way_of b ≢ Outside → Some b ≡ Some a → way_of a ≢ Outside
    is_inside b in_it same = let e : b ≡ a = cc in subst (λ (x : Action). way_of x ≢ Outside) e in_it

    by_going : (one two three four five : Bool)
        → (if one then Some (action.Read p.addr p.len)
        else if two then Some (action.Write p.addr (take p.len (little_bytes 8 p.datum)))
        else if three then Some action.Raise
        else if four then Some (action.Release (p.addr / PAGE_BYTES) true)
        else if five then Some (action.Regain (p.addr / PAGE_BYTES))
        else None) ≡ Some a
        → way_of a ≢ Outside
    by_going true two three four five e = is_inside (action.Read p.addr p.len) (λ same. cc) e
    by_going false true three four five e = is_inside (action.Write p.addr (take p.len (little_bytes 8 p.datum))) (λ same. cc) e
    by_going false false true four five e = is_inside action.Raise (λ same. cc) e
    by_going false false false true five e = is_inside (action.Release (p.addr / PAGE_BYTES) true) (λ same. cc) e
    by_going false false false false true e = is_inside (action.Regain (p.addr / PAGE_BYTES)) (λ same. cc) e
    by_going false false false false false e = let f : ◌≡◌ {A = Option Action} None (Some a) = e in cc

pub asks_inside : (s : DeviceState) (hs : List Heard) (a : Action) → IsProbe s → next s hs ≡ Asks a → way_of a ≢ Outside
unfolding next
asks_inside (DeviceState.Probe p) hs a is e = by_next (next_after probe_plan p hs) (probe_next p hs) e
  where
    by_next : (n : Next ProbeState) → NextOf p n → next_as DeviceState.Probe n ≡ Asks a → way_of a ≢ Outside
    by_next n (NextOf.rests q r) e =
        let f : ◌≡◌ {A = Next DeviceState} (Rests (DeviceState.Probe q)) (Asks a) = ap (next_as DeviceState.Probe) (sym r) ∙ e in cc
    by_next n (NextOf.asks_for b under r) e =
        let f : ◌≡◌ {A = Next DeviceState} (Asks b) (Asks a) = ap (next_as DeviceState.Probe) (sym r) ∙ e in
        inside p a (under ∙ (let g : b ≡ a = cc in ap (λ (x : Action). Some x) g))
asks_inside (DeviceState.Block b) hs a is e = absurd is
asks_inside (DeviceState.Console c) hs a is e = absurd is
asks_inside (DeviceState.Entropy x) hs a is e = absurd is
asks_inside (DeviceState.Balloon b) hs a is e = absurd is

pub loses_none : (s last : DeviceState) (hs : List Heard) → IsProbe s → next s hs ≢ Loses last
unfolding next
loses_none (DeviceState.Probe p) last hs is e = by_next (next_after probe_plan p hs) (probe_next p hs) e
  where
    by_next : (n : Next ProbeState) → NextOf p n → next_as DeviceState.Probe n ≢ Loses last
    by_next n (NextOf.rests q r) e =
        let f : ◌≡◌ {A = Next DeviceState} (Rests (DeviceState.Probe q)) (Loses last) = ap (next_as DeviceState.Probe) (sym r) ∙ e in cc
    by_next n (NextOf.asks_for b under r) e =
        let f : ◌≡◌ {A = Next DeviceState} (Asks b) (Loses last) = ap (next_as DeviceState.Probe) (sym r) ∙ e in cc
loses_none (DeviceState.Block b) last hs is e = absurd is
loses_none (DeviceState.Console c) last hs is e = absurd is
loses_none (DeviceState.Entropy x) last hs is e = absurd is
loses_none (DeviceState.Balloon b) last hs is e = absurd is

-- a probe that rests is a probe still
pub rests_probe : (s last : DeviceState) (hs : List Heard) → IsProbe s → next s hs ≡ Rests last → IsProbe last
unfolding next
rests_probe (DeviceState.Probe p) last hs is e = by_next (next_after probe_plan p hs) (probe_next p hs) e
  where
    by_next : (n : Next ProbeState) → NextOf p n → next_as DeviceState.Probe n ≡ Rests last → IsProbe last
    by_next n (NextOf.rests q r) e =
        let f : ◌≡◌ {A = Next DeviceState} (Rests (DeviceState.Probe q)) (Rests last) = ap (next_as DeviceState.Probe) (sym r) ∙ e in
        let g : DeviceState.Probe q ≡ last = cc in subst IsProbe g tt
    by_next n (NextOf.asks_for b under r) e =
        let f : ◌≡◌ {A = Next DeviceState} (Asks b) (Rests last) = ap (next_as DeviceState.Probe) (sym r) ∙ e in cc
rests_probe (DeviceState.Block b) last hs is e = absurd is
rests_probe (DeviceState.Console c) last hs is e = absurd is
rests_probe (DeviceState.Entropy x) last hs is e = absurd is
rests_probe (DeviceState.Balloon b) last hs is e = absurd is

-- and so is one that acted
pub acts_probe : (s : DeviceState) (tag : ℕ) (i : Item) → IsProbe s → IsProbe (act s tag i).device
unfolding act
acts_probe (DeviceState.Probe p) tag i is = tt
acts_probe (DeviceState.Block b) tag i is = absurd is
acts_probe (DeviceState.Console c) tag i is = absurd is
acts_probe (DeviceState.Entropy x) tag i is = absurd is
acts_probe (DeviceState.Balloon b) tag i is = absurd is
