-- The call that lets the oldest Reply of a device land.
use Rattle.std.proofs.Common.{◌≡◌, ℕ, ◌+◌, ◌<◌, inl, inr, Bool, true, false, List, [], ◌∷◌, length, map, get_or, set, Option, Some, None, refl, ap, sym, ◌∙◌, subst, arith, length-set}
use Rattle.std.proofs.Math.Seq.{map-set_same}
use Rattle.std.proofs.lemmas.Bool.Decides.{eqb_tells}
use Rattle.tv_base.specs.declared.limits.TheConstants.{HARTS}
use Rattle.tv_guest.specs.GuestState.{GuestState}
use Rattle.tv_hart.specs.Hart.{finished, first_hart}
use Rattle.tv_items.specs.declared.item.Verdict.{Verdict}
use Rattle.tv_journal.specs.declared.Entry.TheVariants as entry
use Rattle.tv_journal.specs.Journals.{IsReserved, JournalState, pushed_reserved}
use Rattle.tv_proxy.specs.declared.proxy.Landed.{Landed}
use Rattle.tv_proxy.specs.declared.proxy.Landed.TheVariants as reached
use Rattle.tv_proxy.specs.Proxies.{AcceptedSo, ProxyState}
use Rattle.tv_side.specs.Sides.{FirstIsAwaited, HasLandedFirst, IsAwaited, LandedSo, SideState}
use Rattle.tv_spec.specs.declared.Answer.{Answer}
use Rattle.tv_spec.specs.declared.Due.{Due}
use Rattle.tv_spec.specs.declared.Maker.{Maker}
use Rattle.tv_spec.specs.declared.Mode.{Mode}
use Rattle.tv_spec.specs.declared.Pending.{Pending}
use Rattle.tv_spec.specs.Room.{owed}
use Rattle.tv_spec.specs.Sound.{AreAwaited, load_at}
use Rattle.tv_spec.specs.State.{State, DeviceRun}
use Rattle.tv_spec.specs.Step.{Can, done, made, put_dev}
use Rattle.tv_spec.specs.Update.{update}
use Rattle.tv_spec.proofs.Owed.{owed_deliver, owed_finds_room}
use Rattle.tv_spec.proofs.Valid.{valid_small}
use Rattle.tv_wire.specs.declared.Msg.{Msg}
use Rattle.tv_wire.specs.declared.Msg.TheVariants as msg
use Rattle.tv_core.specs.Calls.{DeliveredSo}
use Rattle.tv_core.specs.Holds.{Holds, Parts, seen}
use Rattle.tv_core.specs.Seen.{Seen, dev_of, history, setup_by, state_of, with_entry}
use Rattle.tv_core.specs.Stands.{StandsFor, answer_message, due_message, tag_at}
use Rattle.tv_core.proofs.Entries.{IsWith, entry_holds}
use Rattle.tv_core.proofs.Makers.{AreForHarts, own_after}
use Rattle.tv_core.proofs.Replying.{IsLanded, landed_stands, maker_alone, tag_mine}
use Rattle.tv_core.proofs.Room.{records_for_alone, run_of}
use Rattle.tv_core.proofs.Takes.{has_device, ring_kept}

-- 1. The oldest Reply

-- it is the value of a load, for which a hart of the machine waits
record IsFirstReply (p : Parts) (d tag value hart : ℕ) (ws : List Due) : Type 0 where
  replied : (dev_of (seen p) d).replied ≡ record { tag = tag; maker = Maker.Hart hart; answer = Answer.Value value } ∷ ws
  waits : (state_of (seen p)).pending hart ≡ Some (load_at d tag true)
  exists : hart < p.machine.harts

record HasFirstReply (p : Parts) (d : ℕ) (w : Due) (ws : List Due) : Type 0 where
  value : ℕ
  hart : ℕ
  answer : w.answer ≡ Answer.Value value
  is : IsFirstReply p d w.tag value hart ws

first_reply : (p : Parts) (d : ℕ) (w : Due) (ws : List Due) → Holds p → (dev_of (seen p) d).replied ≡ w ∷ ws → HasFirstReply p d w ws
first_reply p d w ws H replied =
    let s : State = state_of (seen p) in
    let all : AreForHarts p.machine.harts (w ∷ ws) = (let r = (own_after p.machine p.image (history (seen p)) H.legal d).replied in let q = rw replied at r in q) in
    let k : ℕ = all.0.hart in
    let n : ℕ = all.0.value in
    let first : (s.devs d).replied ≡ record { tag = w.tag; maker = Maker.Hart k; answer = Answer.Value n } ∷ ws =
    replied ∙ ap (λ (m : Maker). record { tag = w.tag; maker = m; answer = w.answer } ∷ ws) all.0.maker_is
    ∙ ap (λ (a : Answer). record { tag = w.tag; maker = Maker.Hart k; answer = a } ∷ ws) all.0.answer_is in
    let awaited : AreAwaited s.pending d (s.devs d).acted true (record { tag = w.tag; maker = Maker.Hart k; answer = Answer.Value n } ∷ ws) =
    (let r = (run_of p H).sound.replied d in let q = rw first at r in q) in
    record {
      value = n;
      hart = k;
      answer = all.0.answer_is;
      is = record { replied = first; waits = awaited.1; exists = all.0.exists };
    }

replies_are : (p : Parts) (d : ℕ) (element : SideState) → element ≡ get_or p.sides d element → Holds p → d < length p.sides
    → element.replies ≡ map due_message (dev_of (seen p) d).replied
replies_are p d element at H within = ap (λ (x : SideState). x.replies) at ∙ (H.stands.each_side d element within).replies

waits_at : (p : Parts) (d h : ℕ) (element : SideState) → element ≡ get_or p.sides d element → Holds p → d < length p.sides → h < HARTS
    → get_or element.proxy.harts h None ≡ tag_at d ((state_of (seen p)).pending h)
waits_at p d h element at H within below = ap (λ (x : SideState). get_or x.proxy.harts h None) at ∙ H.stands.each_wait d element h within below

-- somebody waits for it
pub reply_awaited : (p : Parts) (d slot : ℕ) (element : SideState) → slot ≡ d → element ≡ get_or p.sides slot element → Holds p → d < length p.machine.device
    → FirstIsAwaited element.proxy element.replies
reply_awaited p d slot element slot_is here H exists =
    subst (λ (ms : List Msg). FirstIsAwaited element.proxy ms) (sym (replies_are p d element at H within)) (by_replied (dev_of (seen p) d).replied refl)
  where
    within : d < length p.sides
    within = let r = H.slots in omega (arith, r, exists)

    at : element ≡ get_or p.sides d element
    at = subst (λ (k : ℕ). element ≡ get_or p.sides k element) slot_is here

    by_replied : (ws : List Due) → (dev_of (seen p) d).replied ≡ ws → FirstIsAwaited element.proxy (map due_message ws)
    by_replied [] is = tt
    by_replied (w ∷ ws) is =
        let f = first_reply p d w ws H is in
        let harts = H.valid.harts.1 in
        let exists = f.is.exists in
        let below : f.hart < HARTS = omega (arith, harts, exists) in
        subst (λ (a : Answer). IsAwaited element.proxy (answer_message w.tag a)) (sym f.answer)
        (f.hart, waits_at p d f.hart element at H within below ∙ ap (tag_at d) f.is.waits ∙ tag_mine d w.tag true)

-- 2. What lands

-- a hart that waits for a load of a device with this tag
record IsWaitingAt (d tag : ℕ) (o : Option Pending) : Type 0 where
  place : Pending
  is : o ≡ Some place
  dev : place.dev ≡ d
  tag_is : place.tag ≡ tag

waiting_at : (d tag : ℕ) (o : Option Pending) → tag_at d o ≡ Some tag → IsWaitingAt d tag o
waiting_at d tag None is = cc
waiting_at d tag (Some q) is = elim (eqb_tells q.dev d) [
  | inl e ↦ let same : Some q.tag ≡ Some tag = (let r = rw e.0 at is in r) in record { place = q; is = refl; dev = e.1; tag_is = cc }
  | inr e ↦ absurd (let none : None ≡ Some tag = (let r = rw e.0 at is in r) in cc)
]

landed_side : (tube k : ℕ) (now : Mode) (v : DeviceRun) (ws : List Due) (old p : SideState) → StandsFor tube now v old
    → p ≡ record old { proxy = p.proxy; replies = p.replies } → p.proxy ≡ record old.proxy { harts = set old.proxy.harts k None } → p.replies ≡ map due_message ws
    → IsLanded tube k now v ws old p
landed_side tube k now v ws old p R others proxy_is replies_is =
    let proxy : ProxyState = record old.proxy { harts = set old.proxy.harts k None } in
    let q : SideState = record old { proxy = proxy; replies = map due_message ws } in
    let is : p ≡ q =
    others ∙ ap (λ (x : ProxyState). record old { proxy = x; replies = p.replies }) proxy_is
    ∙ ap (λ (ms : List Msg). record old { proxy = proxy; replies = ms }) replies_is in
    let good : IsLanded tube k now v ws old q = record {
      side = record {
        tube_is = R.tube_is;
        made = R.made;
        harts = length-set old.proxy.harts k None ∙ R.harts;
        commands = R.commands;
        replies = refl;
        transit = R.transit;
        told = R.told;
      };
      harts = refl;
    } in
    subst (λ (x : SideState). IsLanded tube k now v ws old x) (sym is) good

-- the value of the oldest Reply reached this hart
record HasReached (p : Parts) (d hart value : ℕ) (element later : SideState) : Type 0 where
  tag : ℕ
  rest : List Due
  first : IsFirstReply p d tag value hart rest
  side : IsLanded p.machine.tube hart (state_of (seen p)).mode (dev_of (seen p) d) rest element later

has_reached : (p : Parts) (d hart value : ℕ) (element later : SideState) (all : List Due) → Holds p → d < length p.sides → element ≡ get_or p.sides d element → hart < HARTS
    → HasLandedFirst element later (reached.Hart hart value) → (dev_of (seen p) d).replied ≡ all → HasReached p d hart value element later
has_reached p d hart value element later [] H within at below land replied =
    absurd (let none : element.replies ≡ [] = replies_are p d element at H within ∙ ap (map due_message) replied in let some = land.replies in cc)
has_reached p d hart value element later (w ∷ ws) H within at below land replied =
    let s : State = state_of (seen p) in
    let f = first_reply p d w ws H replied in
    let both : due_message w ∷ map due_message ws ≡ land.first ∷ later.replies =
    sym (replies_are p d element at H within ∙ ap (map due_message) replied) ∙ land.replies in
    let first : due_message w ≡ land.first = cc in
    let others : later.replies ≡ map due_message ws = cc in
    let message : land.first ≡ msg.Value w.tag f.value = sym first ∙ ap (answer_message w.tag) f.answer in
    let accepted = subst (λ (m : Msg). AcceptedSo element.proxy m later.proxy (Some (reached.Hart hart value))) message land.accepted in
    let waiting = waiting_at d w.tag (s.pending hart) (sym (waits_at p d hart element at H within below) ∙ accepted.1.waited) in
    let alone : hart ≡ f.hart = maker_alone p.machine.harts s d hart f.hart w.tag waiting.place true (run_of p H).sound f.is.waits waiting.is waiting.dev waiting.tag_is in
    record {
      tag = w.tag;
      rest = ws;
      first = subst (λ (k : ℕ). IsFirstReply p d w.tag value k ws) (sym alone)
          (subst (λ (n : ℕ). IsFirstReply p d w.tag n f.hart ws) (sym accepted.0) f.is);
      side = landed_side p.machine.tube hart s.mode (s.devs d) ws element later
          (subst (λ (x : SideState). StandsFor p.machine.tube s.mode (s.devs d) x) (sym at) (H.stands.each_side d element within))
          land.others accepted.1.state others;
    }

-- 3. The call

owed_less : (p : Parts) (d tag value hart : ℕ) (ws : List Due) → Holds p → IsFirstReply p d tag value hart ws
    → owed (done (setup_by (seen p)) (state_of (seen p)) (made (entry.Deliver d))) + 1 ≡ owed (state_of (seen p))
owed_less p d tag value hart ws H first =
    owed_deliver (setup_by (seen p)) (state_of (seen p)) d hart tag (Answer.Value value) ws (valid_small p.machine H.valid) (run_of p H).sound first.replied

after_landing : (p : Parts) (d tag value hart : ℕ) (ws : List Due) → IsFirstReply p d tag value hart ws
    → done (setup_by (seen p)) (state_of (seen p)) (made (entry.Deliver d))
    ≡ record (put_dev (record (state_of (seen p)) { pending = update (state_of (seen p)).pending hart None }) d (record (dev_of (seen p) d) { replied = ws })) { ticked = false }
after_landing p d tag value hart ws first = rw first.replied refl

pub deliver_reserved : (p : Parts) (d slot hart value : ℕ) (element later : SideState) (landed : Landed) → slot ≡ d → element ≡ get_or p.sides slot element
    → HasLandedFirst element later landed → landed ≡ reached.Hart hart value → hart < HARTS → Holds p → d < length p.machine.device → IsReserved p.journal (entry.Deliver d)
deliver_reserved p d slot hart value element later landed slot_is here land landed_is below H exists =
    let within : d < length p.sides = (let r = H.slots in omega (arith, r, exists)) in
    let at : element ≡ get_or p.sides d element = subst (λ (k : ℕ). element ≡ get_or p.sides k element) slot_is here in
    let m = has_reached p d hart value element later (dev_of (seen p) d).replied H within at below (subst (λ (l : Landed). HasLandedFirst element later l) landed_is land) refl in
    let one = records_for_alone p.journal (entry.Deliver d) tt in
    let less = owed_less p d m.tag value hart m.rest H m.first in
    let reserved = H.stands.reserved_is in
    record { records = omega (arith, one, less, reserved); bytes = omega arith }

-- nothing but a value lands
pub no_line_reached : (p : Parts) (d slot line : ℕ) (verdict : Verdict) (element later : SideState) (landed : Landed) → slot ≡ d → element ≡ get_or p.sides slot element
    → HasLandedFirst element later landed → landed ≡ reached.Line line verdict → Holds p → d < length p.machine.device → ⊥
no_line_reached p d slot line verdict element later landed slot_is here land landed_is H exists = by_replied (dev_of (seen p) d).replied refl
  where
    within : d < length p.sides
    within = let r = H.slots in omega (arith, r, exists)

    at : element ≡ get_or p.sides d element
    at = subst (λ (k : ℕ). element ≡ get_or p.sides k element) slot_is here

    at_line : HasLandedFirst element later (reached.Line line verdict)
    at_line = subst (λ (l : Landed). HasLandedFirst element later l) landed_is land

    by_replied : (ws : List Due) → (dev_of (seen p) d).replied ≡ ws → ⊥
    by_replied [] is = let none : element.replies ≡ [] = replies_are p d element at H within ∙ ap (map due_message) is in let some = land.replies in cc
    by_replied (w ∷ ws) is =
        let f = first_reply p d w ws H is in
        let both : due_message w ∷ map due_message ws ≡ at_line.first ∷ later.replies =
        sym (replies_are p d element at H within ∙ ap (map due_message) is) ∙ at_line.replies in
        let first : due_message w ≡ at_line.first = cc in
        let message : at_line.first ≡ msg.Value w.tag f.value = sym first ∙ ap (answer_message w.tag) f.answer in
        subst (λ (m : Msg). AcceptedSo element.proxy m later.proxy (Some (reached.Line line verdict))) message at_line.accepted

pub landed_call : (p : Parts) (d slot hart place value : ℕ) (element later : SideState) (landed : Landed) (guest : GuestState) (journal : JournalState)
    → slot ≡ d → place ≡ hart → element ≡ get_or p.sides slot element → HasLandedFirst element later landed → landed ≡ reached.Hart hart value → hart < HARTS
    → guest ≡ record p.guest { harts = set p.guest.harts hart (finished (get_or p.guest.harts hart (first_hart hart)) value) }
    → journal ≡ pushed_reserved p.journal (entry.Deliver d)
    → Holds p → d < length p.machine.device
    → Holds (record p { guest = guest; sides = set p.sides slot later; waits = set p.waits place false; journal = journal })
    × ((0 < length (dev_of (seen p) d).replied)
    × (seen (record p { guest = guest; sides = set p.sides slot later; waits = set p.waits place false; journal = journal }) ≡ with_entry (seen p) (entry.Deliver d)))
landed_call p d slot hart place value element later landed guest journal slot_is place_is here land landed_is below guest_is journal_is H exists =
    let s : State = state_of (seen p) in
    let t : State = done (setup_by (seen p)) s (made (entry.Deliver d)) in
    let within : d < length p.sides = (let r = H.slots in omega (arith, r, exists)) in
    let at : element ≡ get_or p.sides d element = subst (λ (k : ℕ). element ≡ get_or p.sides k element) slot_is here in
    let at_hart : HasLandedFirst element later (reached.Hart hart value) = subst (λ (l : Landed). HasLandedFirst element later l) landed_is land in
    let m = has_reached p d hart value element later (s.devs d).replied H within at below at_hart refl in
    let first = m.first in
    let less = owed_less p d m.tag value hart m.rest H m.first in
    let one = records_for_alone p.journal (entry.Deliver d) tt in
    let after : JournalState = pushed_reserved p.journal (entry.Deliver d) in
    let reserved : after.reserved_records ≡ owed t = (let r = H.stands.reserved_is in omega (arith, one, less, r)) in
    let some : 0 < length (s.devs d).replied = rw first.replied (omega arith) in
    let can : Can (setup_by (seen p)) s (made (entry.Deliver d)) = (has_device p.machine d exists, some) in
    let with : IsWith p.journal after (entry.Deliver d) = record {
      entries = refl;
      outer = refl;
      record_room = refl;
      payload_room = refl;
      reserved_bytes = omega arith;
    } in
    let with_hart : GuestState = record p.guest { harts = set p.guest.harts hart (finished (get_or p.guest.harts hart (first_hart hart)) value) } in
    let inside : hart < length p.guest.harts = (let r = H.harts in let q = first.exists in omega (arith, r, q)) in
    let stands = landed_stands p.machine.tube p.machine.harts p.guest p.grants.withdrawn p.sides p.waits p.journal.reserved_records after.reserved_records s t d hart value
    (record { tag = m.tag; maker = Maker.Hart hart; answer = Answer.Value value }) m.rest later element
    H.stands (run_of p H).sound within below inside first.replied refl first.waits
    (subst (λ (x : SideState). IsLanded p.machine.tube hart s.mode (s.devs d) m.rest x later) at m.side) (after_landing p d m.tag value hart m.rest m.first) reserved in
    let same_told : map (λ (x : SideState). x.told) (set p.sides d later) ≡ map (λ (x : SideState). x.told) p.sides =
    map-set_same (λ (x : SideState). x.told) p.sides d later element (ap (λ (x : SideState). x.told) at_hart.others ∙ ap (λ (x : SideState). x.told) at) in
    rw (slot_is, place_is, guest_is, journal_is) (
      entry_holds p (entry.Deliver d) with_hart p.grants (set p.sides d later) (set p.waits hart false) p.ring after H can with
          (record {
            harts = length-set p.guest.harts hart (finished (get_or p.guest.harts hart (first_hart hart)) value);
            steps = refl;
            slots = length-set p.sides d later;
            theirs = H.theirs;
          })
          stands (ring_kept p H)
          (owed_finds_room p.machine.journal_entries (setup_by (seen p)) s p.journal.entries (entry.Deliver d) H.room less),
      (some, rw same_told refl),
    )

-- the same, where what was seen before has another name
pub delivered_as : (before old new : Seen) (d : ℕ) (result : Bool) → before ≡ old → DeliveredSo before new d result → DeliveredSo old new d result
delivered_as before old new d result is so = subst (λ (s : Seen). DeliveredSo s new d result) is so

-- where there is no Reply, nothing changes
pub nothing_lands : (p : Parts) (d slot : ℕ) (element later : SideState) → slot ≡ d → element ≡ get_or p.sides slot element → LandedSo element later None
    → Holds p → d < length p.machine.device
    → ((dev_of (seen p) d).replied ≡ []) × (seen (record p { sides = set p.sides slot later }) ≡ seen p)
nothing_lands p d slot element later slot_is here land H exists =
    let within : d < length p.sides = (let r = H.slots in omega (arith, r, exists)) in
    let at : element ≡ get_or p.sides d element = subst (λ (k : ℕ). element ≡ get_or p.sides k element) slot_is here in
    let same_told : map (λ (x : SideState). x.told) (set p.sides d later) ≡ map (λ (x : SideState). x.told) p.sides =
    map-set_same (λ (x : SideState). x.told) p.sides d later element (ap (λ (x : SideState). x.told) land.1 ∙ ap (λ (x : SideState). x.told) at) in
    rw slot_is (empty (dev_of (seen p) d).replied (sym (replies_are p d element at H within) ∙ land.0), rw same_told refl)
  where
    empty : (ws : List Due) → map due_message ws ≡ [] → ws ≡ []
    empty [] is = refl
    empty (w ∷ ws) is = cc
