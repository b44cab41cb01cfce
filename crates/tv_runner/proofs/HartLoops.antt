-- The turns of all harts of a core whose devices are done.
use Rattle.std.proofs.Common.{◌≡◌, ◌≢◌, ℕ, suc, ◌+◌, ◌<◌, ◌≤◌, List, length, Option, Some, None, refl, sym, ◌∙◌, arith}
use Rattle.tv_base.specs.declared.Why.{Why}
use Rattle.tv_journal.specs.Entries.{record_count}
use Rattle.tv_plan.specs.Probe.{ProbeState}
use Rattle.tv_spec.specs.Legal.{IsLegalRun}
use Rattle.tv_spec.specs.Room.{owed}
use Rattle.tv_core.specs.declared.proxied.Turn.{Turn}
use Rattle.tv_core.specs.Calls.{TurnedSo, why_of}
use Rattle.tv_core.specs.Seen.{HasHart, Seen, debug_of, state_of}
use Rattle.tv_core.specs.Stands.{IsUnderWay}
use Rattle.tv_runner.specs.Cores.{IsPartOf}
use Rattle.tv_runner.specs.Engines.{AreAtRest, AreTurnsDone, IsReady}
use Rattle.tv_runner.specs.Parts.{all_turns}
use Rattle.tv_runner.proofs.AtRest.{rest_turn}
use Rattle.tv_runner.proofs.CoreLoops.{AreTurned, IsAtRound, turned_all, turned_more, turned_none, turned_stop}
use Rattle.tv_runner.proofs.Loads.{carried_of, free_of, ring_takes}

-- the first hart neither waits nor stalls
pub at_round : (p : Seen) (probes : List ProbeState) (count : ℕ) → IsReady p probes count → IsLegalRun p.machine p.image p.entries p.outer
    → ((hart : ℕ) → HasHart p hart → IsUnderWay (state_of p).devs ((state_of p).pending hart)) → IsAtRound p
at_round p probes count ready run loads =
    let handed = ready.handed in
    let takes = ring_takes in
    let some = ready.valid.harts.0 in
    record {
      valid = ready.valid;
      legal = run;
      outer = ready.going.outer;
      runs = ready.going.runs;
      ring = omega (arith, handed, takes);
      free = free_of p probes 0 ready.valid run ready.devices (loads 0 (omega (arith, some)));
      carried = carried_of p probes 0 ready.valid run ready.devices handed;
    }

-- the harts before one had their turns, and the devices are at rest
pub record AreTurnedSo (old now : Seen) (probes : List ProbeState) (number : ℕ) : Type 0 where
  pub begins : IsAtRound old
  pub turned : AreTurned old now number
  pub rest : AreAtRest now probes

pub turned_first : (p : Seen) (probes : List ProbeState) (count : ℕ) → IsReady p probes count → IsLegalRun p.machine p.image p.entries p.outer
    → ((hart : ℕ) → HasHart p hart → IsUnderWay (state_of p).devs ((state_of p).pending hart)) → AreTurnedSo p p probes 0
turned_first p probes count ready run loads =
    let begins = at_round p probes count ready run loads in
    record { begins = begins; turned = turned_none p begins; rest = ready.devices.rest }

-- where the run goes on, the next one is due
pub turned_next : (old now new : Seen) (probes : List ProbeState) (number next hart : ℕ) (result : Turn) → AreTurnedSo old now probes number → hart ≡ number → next ≡ suc number → number < old.machine.harts
    → IsLegalRun new.machine new.image new.entries new.outer → record_count new.entries + owed (state_of new) ≤ new.machine.journal_entries → TurnedSo now new hart 64 result → why_of new ≡ None
    → AreTurnedSo old new probes next
turned_next old now new probes number next hart result T is next_is exists run room turn none =
    let more = turned_more old now new number next hart result T.begins T.turned is next_is exists (record { legal = run; room = room }) turn none in
    record {
      begins = T.begins;
      turned = more;
      rest = rest_turn now new probes hart result T.turned.on.outer (more.on.machine ∙ sym T.turned.on.machine) turn T.rest;
    }

-- the run ended in the turn of a hart
pub turned_over : (old now new : Seen) (probes : List ProbeState) (number hart : ℕ) (result : Turn) → AreTurnedSo old now probes number → hart ≡ number → number < old.machine.harts
    → IsLegalRun new.machine new.image new.entries new.outer → record_count new.entries + owed (state_of new) ≤ new.machine.journal_entries → TurnedSo now new hart 64 result → why_of new ≢ None
    → IsPartOf all_turns old new × (length (debug_of new) ≤ length (debug_of old) + 512)
turned_over old now new probes number hart result T is exists run room turn over = by_why (why_of new) refl
  where
    by_why : (o : Option Why) → why_of new ≡ o → IsPartOf all_turns old new × (length (debug_of new) ≤ length (debug_of old) + 512)
    by_why None none = absurd (over none)
    by_why (Some cause) some = turned_stop old now new number hart result cause T.begins T.turned is exists (record { legal = run; room = room }) turn some

-- all had theirs
pub turned_done : (old now : Seen) (probes : List ProbeState) (number : ℕ) → AreTurnedSo old now probes number → number ≡ old.machine.harts → AreTurnsDone old now probes
turned_done old now probes number T is =
    let some = T.begins.valid.harts.0 in
    record {
      going = record { outer = T.turned.on.outer; runs = T.turned.on.runs };
      events = T.turned.events (omega (arith, some, is));
      rest = T.rest;
    }

pub turned_whole : (old now : Seen) (probes : List ProbeState) (number : ℕ) → AreTurnedSo old now probes number → number ≡ old.machine.harts
    → IsPartOf all_turns old now × (length (debug_of now) ≤ length (debug_of old) + 512)
turned_whole old now probes number T is = turned_all old now number T.begins T.turned is

pub below_harts : (number count harts : ℕ) → count ≡ harts → number < count → number < harts
below_harts number count harts is below = omega (arith, is, below)

pub all_harts : (number count harts : ℕ) → count ≡ harts → number ≤ count → count ≤ number → number ≡ harts
all_harts number count harts is below over = omega (arith, is, below, over)
