-- Why a burst has no event: what the next one shows finds the ring or a command tube full, or the journal has no room for it.
use Rattle.std.proofs.Common.{◌≡◌, ◌≢◌, ◌||◌, ℕ, ◌+◌, ◌-◌, ◌<◌, ◌≤◌, Bool, true, false, not, List, [], ◌∷◌, length, drop, get_or, None, refl, ap, sym, ◌∙◌, subst, arith}
use Rattle.std.proofs.lemmas.Bool.{false≢true, true≢false, le-leb, leb-true}
use Rattle.std.proofs.lemmas.List.{length-drop, length-map}
use Rattle.circular_buffer.specs.Buffer.{Buffer}
use Rattle.tv_base.specs.declared.Access.TheVariants as access
use Rattle.tv_base.specs.declared.limits.TheConstants.{DEBUG_RING_BYTES}
use Rattle.tv_hart.specs.declared.Did.{Did}
use Rattle.tv_hart.specs.declared.Did.TheVariants as did
use Rattle.tv_hart.specs.Hart.{first_hart}
use Rattle.tv_guest.specs.Burst.{Hosts}
use Rattle.tv_items.specs.declared.item.Item.{Item}
use Rattle.tv_side.specs.Sides.{SideState}
use Rattle.tv_spec.specs.declared.Closed.{Closed}
use Rattle.tv_spec.specs.declared.Made.{Made}
use Rattle.tv_spec.specs.declared.Shown.{Shown}
use Rattle.tv_spec.specs.declared.Shown.TheVariants as shown
use Rattle.tv_spec.specs.LocalState.{lines_of}
use Rattle.tv_spec.specs.Setup.{device_setup}
use Rattle.tv_spec.specs.State.{DeviceRun, State}
use Rattle.tv_spec.specs.Step.{event_of, event_where}
use Rattle.tv_spec.proofs.Ahead.{ahead_ready}
use Rattle.tv_spec.proofs.Memory.{IsToDevice}
use Rattle.tv_spec.proofs.Whole.{event_place}
use Rattle.std.specs.Prelude.{◌/◌}
use Rattle.tv_base.specs.declared.limits.TheConstants.{PAGE_BYTES}
use Rattle.tv_core.specs.Bursts.{AreGates, is_full, is_held_up}
use Rattle.tv_core.specs.Calls.{StalledBy}
use Rattle.tv_core.specs.Holds.{Holds, Parts, seen}
use Rattle.tv_core.specs.Seen.{debug_of, dev_of, setup_by, state_of}
use Rattle.tv_core.specs.Stands.{HartStands, tagged_from}
use Rattle.tv_core.proofs.Gates.{Gated, is_full as is_not_made, is_gated, stepped_gated}
use Rattle.tv_core.proofs.Room.{run_of}

-- 1. The guest stands for the state

pub hosts : (p : Parts) (hart : ℕ) → Holds p → hart < p.machine.harts → (state_of (seen p)).pending hart ≡ None → Hosts (setup_by (seen p)) (state_of (seen p)) hart p.guest
hosts p hart H exists free =
    let s : State = state_of (seen p) in
    let inside : hart < length p.guest.harts = (let r = H.harts in omega (arith, r, exists)) in
    let stood : HartStands (get_or p.guest.harts hart (first_hart hart)) (s.harts hart) None s.devs =
    (let r = H.stands.each_hart hart (first_hart hart) inside in let q = rw free at r in q) in
    record {
      exists = exists;
      count = H.harts;
      steps = H.steps;
      free = free;
      ready = ahead_ready s.harts s.pending s.devs hart (run_of p H).ahead free;
      hart_is = stood.0;
      local_is = H.stands.local_is;
      mode_is = H.stands.mode_is;
      events_are = H.stands.events_are;
    }

-- what its next event shows is shown to a device that is there
pub shown_there : (p : Parts) (hart : ℕ) → Holds p → IsToDevice (length p.sides) (event_of (state_of (seen p)) hart).2.shown
shown_there p hart H =
    let place = event_place (setup_by (seen p)) p.machine.ram (p.machine.ram / PAGE_BYTES) (state_of (seen p)) hart (run_of p H).whole in
    let count : length (setup_by (seen p)).devices ≡ length p.sides = length-map p.machine.device device_setup ∙ sym H.slots in
    subst (λ (n : ℕ). IsToDevice n (event_of (state_of (seen p)) hart).2.shown) count place.seen

-- 2. What is full

tagged_length : (tag : ℕ) (ms : List Made) → length (tagged_from tag ms) ≡ length ms
tagged_length tag [] = refl
tagged_length tag (m ∷ ms) = let r = tagged_length (tag + 1) ms in omega (arith, r)

-- the items in a device's command tube
pub items_count : (p : Parts) (d : ℕ) (none : SideState) → Holds p → d < length p.sides
    → length (get_or p.sides d none).items + (dev_of (seen p) d).acted ≡ length (dev_of (seen p) d).made
items_count p d none H within =
    let v : DeviceRun = dev_of (seen p) d in
    let R = H.stands.each_side d none within in
    let items : length (get_or p.sides d none).items ≡ length v.made - v.acted =
    ap (λ (xs : List (ℕ × Item)). length xs) R.commands ∙ tagged_length v.acted (drop v.acted v.made) ∙ length-drop v.acted v.made in
    let acted = (run_of p H).sound.within d in
    omega (arith, items, acted)

pub ring_count : (p : Parts) → Holds p → length p.ring.items + p.handed ≡ length (debug_of (seen p))
ring_count p H =
    let items : length p.ring.items ≡ length (debug_of (seen p)) - p.handed =
    ap (λ (b : Buffer ℕ). length b.items) H.ring_is ∙ length-drop p.handed (debug_of (seen p)) in
    let handed = H.handed in
    omega (arith, items, handed)

-- the ring or the tube is full where the code finds it so
pub held_up_stalls : (p : Parts) (none : SideState) (what : Shown) → Holds p → IsToDevice (length p.sides) what → is_held_up p.ring.items p.sides none what ≡ true → StalledBy (seen p) what
held_up_stalls p none shown.Nothing H there is = absurd (false≢true is)
held_up_stalls p none (shown.Finish finish) H there is = absurd (false≢true is)
held_up_stalls p none (shown.Byte byte) H there is =
    let full : DEBUG_RING_BYTES ≤ length p.ring.items = leb-true _ _ is in
    let count = ring_count p H in
    omega (arith, full, count)
held_up_stalls p none (shown.Access d how) H there is =
    let full : (get_or p.sides d none).tube ≤ length (get_or p.sides d none).items = leb-true _ _ is in
    let count = items_count p d none H there in
    let tube = (H.stands.each_side d none there).tube_is in
    omega (arith, full, count, tube)

pub held_up_not : (p : Parts) (none : SideState) (what : Shown) → Holds p → IsToDevice (length p.sides) what → is_held_up p.ring.items p.sides none what ≡ false → StalledBy (seen p) what → ⊥
held_up_not p none shown.Nothing H there is stalls = stalls
held_up_not p none (shown.Finish finish) H there is stalls = stalls
held_up_not p none (shown.Byte byte) H there is stalls =
    let count = ring_count p H in
    let full : DEBUG_RING_BYTES ≤ length p.ring.items = omega (arith, stalls, count) in
    false≢true (sym is ∙ le-leb _ _ full)
held_up_not p none (shown.Access d how) H there is stalls =
    let count = items_count p d none H there in
    let tube = (H.stands.each_side d none there).tube_is in
    let full : (get_or p.sides d none).tube ≤ length (get_or p.sides d none).items = omega (arith, stalls, count, tube) in
    false≢true (sym is ∙ le-leb _ _ full)

-- 3. What is closed

-- an event that isn't made needs what is closed, and one that is made doesn't
pub event_gated : (closed : Closed) (s : State) (hart : ℕ) → Gated closed (is_not_made (event_where closed s hart).0) (event_of s hart).2.shown
event_gated closed s hart = stepped_gated (s.harts hart) (record { local = s.local; closed = closed; shown = shown.Nothing }) (lines_of s.local hart) refl

pub full_gated : (closed : Closed) (s : State) (hart : ℕ) → (event_where closed s hart).0 ≡ did.Full → is_gated closed (event_of s hart).2.shown ≡ true
full_gated closed s hart full = sym (event_gated closed s hart).0 ∙ ap is_not_made full

pub made_open : (closed : Closed) (s : State) (hart : ℕ) → (event_where closed s hart).0 ≢ did.Full → is_gated closed (event_of s hart).2.shown ≡ false
made_open closed s hart some = sym (event_gated closed s hart).0 ∙ by_did (event_where closed s hart).0 some
  where
    by_did : (d : Did) → d ≢ did.Full → is_not_made d ≡ false
    by_did did.Full apart = absurd (apart refl)
    by_did did.Retired apart = refl
    by_did (did.Trapped cause) apart = refl
    by_did did.Held apart = refl

-- what is closed though nothing is full is closed for want of room for a load
abbrev pub IsLoad : Shown → Type 0
IsLoad (shown.Access d (access.Load width off)) = Unit {0}
IsLoad _ = ⊥

pub gated_load : (bytes : List ℕ) (sides : List SideState) (room : Bool) (closed : Closed) (none : SideState) (what : Shown) → AreGates bytes sides room closed → IsToDevice (length sides) what
    → is_gated closed what ≡ true → is_held_up bytes sides none what ≡ false → IsLoad what × (room ≡ false)
gated_load bytes sides room closed none shown.Nothing G there shut free = absurd (false≢true shut)
gated_load bytes sides room closed none (shown.Finish finish) G there shut free = absurd (false≢true shut)
gated_load bytes sides room closed none (shown.Byte byte) G there shut free = absurd (false≢true (sym free ∙ sym G.debug ∙ shut))
gated_load bytes sides room closed none (shown.Access d (access.Store width off value)) G there shut free = absurd (false≢true (sym free ∙ sym (G.stores d none there) ∙ shut))
gated_load bytes sides room closed none (shown.Access d (access.Load width off)) G there shut free =
    (tt, by_room room (sym (G.loads d none there) ∙ shut))
  where
    by_room : (b : Bool) → (is_full (get_or sides d none) || not b) ≡ true → b ≡ false
    by_room false is = refl
    by_room true is = absurd (false≢true (sym (rw free refl) ∙ is))

-- what is open is not full
pub open_free : (bytes : List ℕ) (sides : List SideState) (room : Bool) (closed : Closed) (none : SideState) (what : Shown) → AreGates bytes sides room closed → IsToDevice (length sides) what
    → is_gated closed what ≡ false → is_held_up bytes sides none what ≡ false
open_free bytes sides room closed none shown.Nothing G there free = refl
open_free bytes sides room closed none (shown.Finish finish) G there free = refl
open_free bytes sides room closed none (shown.Byte byte) G there free = sym G.debug ∙ free
open_free bytes sides room closed none (shown.Access d (access.Store width off value)) G there free = sym (G.stores d none there) ∙ free
open_free bytes sides room closed none (shown.Access d (access.Load width off)) G there free =
    by_full (is_full (get_or sides d none)) (sym (G.loads d none there) ∙ free)
  where
    by_full : (b : Bool) → (b || not room) ≡ false → b ≡ false
    by_full false is = refl
    by_full true is = absurd (true≢false is)
