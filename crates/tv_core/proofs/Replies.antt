-- The call that replies to a load.
use Rattle.std.proofs.Common.{◌≡◌, ℕ, ◌+◌, ◌<◌, false, List, ◌∷◌, length, map, get_or, set, Some, refl, ap, sym, ◌∙◌, subst, arith, length-set}
use Rattle.std.proofs.Math.Seq.{map-set_same}
use Rattle.std.proofs.lemmas.List.{length-map}
use Rattle.tv_journal.specs.declared.Entry.TheVariants as entry
use Rattle.tv_journal.specs.Journals.{IsReserved, JournalState, pushed_reserved}
use Rattle.tv_side.specs.declared.TheConstants.{REPLIES}
use Rattle.tv_side.specs.Sides.{SideState, with_reply as with_message}
use Rattle.tv_spec.specs.Room.{owed}
use Rattle.tv_spec.specs.Sound.{AreAwaited, load_at}
use Rattle.tv_spec.specs.declared.Answer.{Answer}
use Rattle.tv_spec.specs.declared.Due.{Due}
use Rattle.tv_spec.specs.declared.Maker.{Maker}
use Rattle.tv_spec.specs.State.{State}
use Rattle.tv_spec.specs.Step.{Can, done, made}
use Rattle.tv_spec.proofs.Owed.{owed_finds_room, owed_reply}
use Rattle.tv_spec.proofs.Valid.{valid_small}
use Rattle.tv_wire.specs.declared.Msg.TheVariants as msg
use Rattle.tv_core.specs.Calls.{IsFirstDue}
use Rattle.tv_core.specs.Holds.{Holds, Parts, seen}
use Rattle.tv_core.specs.Seen.{dev_of, history, setup_by, state_of, with_entry}
use Rattle.tv_core.specs.Stands.{due_message}
use Rattle.tv_core.proofs.Entries.{IsWith, entry_holds}
use Rattle.tv_core.proofs.Few.{distinct_front, few_for_harts}
use Rattle.tv_core.proofs.Makers.{AreForHarts, own_after}
use Rattle.tv_core.proofs.Replying.{replied_stands}
use Rattle.tv_core.proofs.Room.{records_for_alone, run_of}
use Rattle.tv_core.proofs.Takes.{has_device, ring_kept}

-- the first answer without a Reply is for a hart, which waits for it
record IsDueTo (s : State) (d tag value k : ℕ) (ws : List Due) : Type 0 where
  due : (s.devs d).due ≡ record { tag = tag; maker = Maker.Hart k; answer = Answer.Value value } ∷ ws
  waits : s.pending k ≡ Some (load_at d tag false)

record HasMaker (s : State) (d tag value : ℕ) : Type 0 where
  hart : ℕ
  rest : List Due
  is : IsDueTo s d tag value hart rest

has_maker : (p : Parts) (d tag value : ℕ) → Holds p → IsFirstDue (dev_of (seen p) d) tag (Answer.Value value) → HasMaker (state_of (seen p)) d tag value
has_maker p d tag value H first =
    let s : State = state_of (seen p) in
    let w : Due = record { tag = tag; maker = first.maker; answer = Answer.Value value } in
    let all : AreForHarts p.machine.harts (w ∷ first.rest) = (let r = (own_after p.machine p.image (history (seen p)) H.legal d).due in let q = rw first.due at r in q) in
    let k : ℕ = all.0.hart in
    let due : (s.devs d).due ≡ record { tag = tag; maker = Maker.Hart k; answer = Answer.Value value } ∷ first.rest =
    first.due ∙ ap (λ (m : Maker). record { tag = tag; maker = m; answer = Answer.Value value } ∷ first.rest) all.0.maker_is in
    let awaited : AreAwaited s.pending d (s.devs d).acted false (record { tag = tag; maker = Maker.Hart k; answer = Answer.Value value } ∷ first.rest) =
    (let r = (run_of p H).sound.due d in let q = rw due at r in q) in
    record { hart = k; rest = first.rest; is = record { due = due; waits = awaited.1 } }

owed_less : (p : Parts) (d tag value : ℕ) → Holds p → IsFirstDue (dev_of (seen p) d) tag (Answer.Value value)
    → owed (done (setup_by (seen p)) (state_of (seen p)) (made (entry.Reply d))) + 1 ≡ owed (state_of (seen p))
owed_less p d tag value H first =
    let m = has_maker p d tag value H first in
    owed_reply (setup_by (seen p)) (state_of (seen p)) d m.hart tag (Answer.Value value) m.rest (valid_small p.machine H.valid) (run_of p H).sound m.is.due

pub reply_reserved : (p : Parts) (d tag value : ℕ) → Holds p → IsFirstDue (dev_of (seen p) d) tag (Answer.Value value) → IsReserved p.journal (entry.Reply d)
reply_reserved p d tag value H first =
    let one = records_for_alone p.journal (entry.Reply d) tt in
    let less = owed_less p d tag value H first in
    let reserved = H.stands.reserved_is in
    record { records = omega (arith, one, less, reserved); bytes = omega arith }

-- the reply tube has room
pub reply_finds_place : (p : Parts) (d slot : ℕ) (element : SideState) → slot ≡ d → element ≡ get_or p.sides slot element → Holds p → d < length p.machine.device
    → length element.replies < REPLIES
reply_finds_place p d slot element slot_is here H exists =
    let s : State = state_of (seen p) in
    let within : d < length p.sides = (let r = H.slots in omega (arith, r, exists)) in
    let at : element ≡ get_or p.sides d element = subst (λ (k : ℕ). element ≡ get_or p.sides k element) slot_is here in
    let replies : element.replies ≡ map due_message (s.devs d).replied = ap (λ (x : SideState). x.replies) at ∙ (H.stands.each_side d element within).replies in
    let sound = (run_of p H).sound in
    let few = few_for_harts p.machine.harts d (s.devs d).acted s.pending (s.devs d).replied (own_after p.machine p.image (history (seen p)) H.legal d).replied
    (sound.replied d) (distinct_front (s.devs d).replied (s.devs d).due (sound.distinct d)) in
    let harts = H.valid.harts.1 in
    rw (replies, length-map) (omega (arith, few, harts))

pub replied_call : (p : Parts) (d slot tag value : ℕ) (element later : SideState) (journal : JournalState) → slot ≡ d → element ≡ get_or p.sides slot element
    → later ≡ with_message element (msg.Value tag value) → journal ≡ pushed_reserved p.journal (entry.Reply d)
    → Holds p → d < length p.machine.device → IsFirstDue (dev_of (seen p) d) tag (Answer.Value value)
    → Holds (record p { sides = set p.sides slot later; journal = journal })
    × (seen (record p { sides = set p.sides slot later; journal = journal }) ≡ with_entry (seen p) (entry.Reply d))
replied_call p d slot tag value element later journal slot_is here later_is journal_is H exists first =
    let s : State = state_of (seen p) in
    let within : d < length p.sides = (let r = H.slots in omega (arith, r, exists)) in
    let at : element ≡ get_or p.sides d element = subst (λ (k : ℕ). element ≡ get_or p.sides k element) slot_is here in
    let m = has_maker p d tag value H first in
    let less = owed_less p d tag value H first in
    let one = records_for_alone p.journal (entry.Reply d) tt in
    let after : JournalState = pushed_reserved p.journal (entry.Reply d) in
    let reserved : after.reserved_records ≡ owed (done (setup_by (seen p)) s (made (entry.Reply d))) = (let r = H.stands.reserved_is in omega (arith, one, less, r)) in
    let can : Can (setup_by (seen p)) s (made (entry.Reply d)) = (has_device p.machine d exists, rw m.is.due (omega arith)) in
    let with : IsWith p.journal after (entry.Reply d) = record {
      entries = refl;
      outer = refl;
      record_room = refl;
      payload_room = refl;
      reserved_bytes = omega arith;
    } in
    let Good : SideState → Type 0 = λ x. Holds (record p { sides = set p.sides d (with_message x (msg.Value tag value)); journal = after })
    × (seen (record p { sides = set p.sides d (with_message x (msg.Value tag value)); journal = after }) ≡ with_entry (seen p) (entry.Reply d)) in
    let good : Good (get_or p.sides d element) = (
      entry_holds p (entry.Reply d) p.guest p.grants (set p.sides d (with_message (get_or p.sides d element) (msg.Value tag value))) p.waits p.ring after H can with
          (record { harts = refl; steps = refl; slots = length-set p.sides d (with_message (get_or p.sides d element) (msg.Value tag value)); theirs = H.theirs })
          (replied_stands p.machine.tube p.guest p.grants.withdrawn p.sides p.waits p.journal.reserved_records after.reserved_records s d m.hart tag (Answer.Value value) m.rest element
          H.stands within m.is.due m.is.waits reserved)
          (ring_kept p H)
          (owed_finds_room p.machine.journal_entries (setup_by (seen p)) s p.journal.entries (entry.Reply d) H.room less),
      rw (map-set_same (λ (x : SideState). x.told) p.sides d (with_message (get_or p.sides d element) (msg.Value tag value)) element refl) refl,
    ) in
    rw (slot_is, later_is, journal_is) (subst Good (sym at) good)
