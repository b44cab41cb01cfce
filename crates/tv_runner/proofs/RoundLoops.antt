-- Rounds of a core one after another, and their bytes, which are put after each.
use Rattle.std.proofs.Common.{◌≡◌, ◌≢◌, ℕ, suc, ◌+◌, ◌-◌, ◌<◌, ◌≤◌, Bool, true, List, [], ◌++◌, length, length-append, Option, Some, None, refl, ap, sym, ◌∙◌, subst, arith}
use Rattle.std.specs.Prelude.{IfNone, OnErr, OnOk, Result, drop, min, take}
use Rattle.std.specs.Result.{is_err}
use Rattle.std.proofs.Math.Seq.{drop-append_seam}
use Rattle.std.proofs.lemmas.List.{take_all}
use Rattle.tv_base.specs.declared.Why.{Why}
use Rattle.tv_machine.specs.declared.machine.Machine.{Machine}
use Rattle.tv_machine.specs.Valid.{IsValid}
use Rattle.tv_out.specs.Faults.{Rose}
use Rattle.tv_out.specs.Told.{ToldSink, appended, IsCut, IsSteady}
use Rattle.tv_out.proofs.Appended.{appended-nil, appended-twice}
use Rattle.tv_out.proofs.Pieces.{steady-on, steady-same}
use Rattle.tv_plan.specs.Probe.{ProbeState}
use Rattle.tv_spec.specs.declared.Mode.{Mode}
use Rattle.tv_spec.specs.Legal.{IsLegalRun}
use Rattle.tv_spec.specs.Shows.{cause_in}
use Rattle.tv_spec.specs.Solo.{round}
use Rattle.tv_core.specs.Calls.{HandedSo, waiting_bytes, why_of}
use Rattle.tv_core.specs.Seen.{Seen, debug_of, state_of}
use Rattle.tv_runner.specs.Cores.{IsPartOf, IsRunTo}
use Rattle.tv_runner.specs.Engines.{AreRounds, IsReady, IsRoundDone}
use Rattle.tv_runner.specs.Runs.{IsPut, rounds_of}
use Rattle.tv_runner.proofs.CoreParts.{goes_on}
use Rattle.tv_runner.proofs.CoreRounds.{events_below, handed_on, rounds_next, rounds_none}
use Rattle.tv_runner.proofs.Rounds.{put-by}
use Rattle.tv_runner.proofs.Silent.{round_shows}

-- 1. The bytes of a round

-- all that the round showed was handed out
pub record IsHandedOut (old new : Seen) (bytes : List ℕ) : Type 0 where
  pub bytes_are : debug_of new ≡ debug_of old ++ bytes
  pub handed : length (debug_of new) ≤ new.handed

min_all : (m n : ℕ) → n ≤ m → min m n ≡ n
min_all m n few = omega (arith, few)

drop_front : (n : ℕ) (xs ys : List ℕ) → n ≡ length xs → drop n (xs ++ ys) ≡ ys
drop_front n xs ys is = ap (λ (k : ℕ). drop k (xs ++ ys)) is ∙ drop-append_seam xs ys

-- the bytes that were waiting behind a round, of which a slice was given
pub handed_out : (old new later : Seen) (out : List ℕ) (most n : ℕ) → old.outer ≡ None → IsPartOf round old new → length (debug_of old) ≤ old.handed → old.handed ≤ length (debug_of old)
    → length (debug_of new) ≤ length (debug_of old) + 512 → most ≡ 512 → HandedSo new later out most n → IsHandedOut old later (take n out)
handed_out old new later out most n none is handed within few most_is H =
    let shows = round_shows old new none is in
    let same : new.handed ≡ length (debug_of old) = (let by = is.handed in omega (arith, by, handed, within)) in
    let waiting : waiting_bytes new ≡ shows.more = ap (λ (xs : List ℕ). drop new.handed xs) shows.bytes ∙ drop_front new.handed (debug_of old) shows.more same in
    let all : length (debug_of new) ≡ length (debug_of old) + length shows.more = ap (λ (xs : List ℕ). length xs) shows.bytes ∙ length-append (debug_of old) shows.more in
    let count : n ≡ length shows.more =
    H.count ∙ ap (λ (xs : List ℕ). min most (length xs)) waiting ∙ min_all most (length shows.more) (omega (arith, all, few, most_is)) in
    let taken : take n out ≡ shows.more =
    H.bytes ∙ ap (λ (xs : List ℕ). take n xs) waiting ∙ ap (λ (k : ℕ). take k shows.more) count ∙ take_all (length shows.more) shows.more (omega arith) in
    subst (λ (p : Seen). IsHandedOut old p (take n out)) (sym H.new_is) (record {
      bytes_are = shows.bytes ∙ ap (λ (xs : List ℕ). debug_of old ++ xs) (sym taken);
      handed = omega (arith, all, same, count);
    })

-- 2. Rounds that went on

-- so many rounds were carried out, none of them stopped the run, and their bytes went out
pub record IsAtRounds (old now : Seen) (before told : ToldSink) : Type 0 where
  pub count : ℕ
  pub run : IsRunTo (rounds_of count) old now
  pub few : count ≤ (state_of now).events
  pub bytes : told.bytes ≡ appended before.bytes (debug_of now)
  pub risen : before.faults ≤ told.faults
  pub steady : IsSteady before told

pub rounds_first : (p : Seen) (probes : List ProbeState) (count : ℕ) (told : ToldSink) → IsReady p probes count → debug_of p ≡ [] → IsAtRounds p p told told
rounds_first p probes count told ready silent = record {
  count = 0;
  run = rounds_none p ready.going.outer ready.going.runs;
  few = omega arith;
  bytes = sym (ap (λ (xs : List ℕ). appended told.bytes xs) silent ∙ appended-nil told.bytes);
  risen = omega arith;
  steady = steady-same told;
}

-- the engine behind a round that went on
pub ready_on : (old new later : Seen) (before probes : List ProbeState) (first count : ℕ) (bytes : List ℕ) → IsReady old before first → IsPartOf round old new → IsRoundDone old new probes
    → later ≡ record new { handed = later.handed } → IsHandedOut old later bytes → count ≡ first → IsReady later probes count
ready_on old new later before probes first count bytes ready is done later_is out same =
    let by : IsReady (record new { handed = later.handed }) probes count = record {
      valid = subst IsValid (sym is.machine) ready.valid;
      harts = same ∙ ready.harts ∙ ap (λ (m : Machine). m.harts) (sym is.machine);
      going = record { outer = done.going.outer; runs = done.going.runs };
      devices = record { rest = record { count = done.devices.rest.count; each = done.devices.rest.each }; through = done.devices.through };
      handed = subst (λ (p : Seen). length (debug_of p) ≤ later.handed) later_is out.handed;
    } in
    subst (λ (p : Seen). IsReady p probes count) (sym later_is) by

rounds_on : (first old new later : Seen) (start told : ToldSink) (at : IsAtRounds first old start told) → why_of old ≡ None → IsPartOf round old new → later ≡ record new { handed = later.handed }
    → IsRunTo (rounds_of (suc at.count)) first later
rounds_on first old new later start told at goes is later_is =
    subst (λ (p : Seen). IsRunTo (rounds_of (suc at.count)) first p) (sym later_is)
    (handed_on (rounds_of (suc at.count)) first new later.handed (rounds_next at.count first old new at.run goes is))

pub why_none : (p : Seen) (probes : List ProbeState) (count : ℕ) → IsReady p probes count → why_of p ≡ None
why_none p probes count ready = ap (λ (m : Mode). cause_in m) ready.going.runs

-- while the run goes on there are events left
pub steps_left : (first old : Seen) (probes : List ProbeState) (count : ℕ) (start told : ToldSink) → IsAtRounds first old start told → IsReady old probes count
    → IsLegalRun old.machine old.image old.entries old.outer → (state_of old).events < first.machine.steps
steps_left first old probes count start told at ready run =
    subst (λ (m : Machine). (state_of old).events < m.steps) at.run.machine (events_below old ready.valid run ready.going.runs)

-- a round more, behind which the run goes on
pub rounds_more : (first old new later : Seen) (probes : List ProbeState) (bytes : List ℕ) (start told now : ToldSink) → IsAtRounds first old start told → why_of old ≡ None → IsPartOf round old new
    → IsRoundDone old new probes → later ≡ record new { handed = later.handed } → IsHandedOut old later bytes
    → now.bytes ≡ appended told.bytes bytes → told.faults ≤ now.faults → IsSteady told now → IsAtRounds first later start now
rounds_more first old new later probes bytes start told now at goes is done later_is out went risen steady =
    let more = done.events in
    let same : (state_of later).events ≡ (state_of new).events = ap (λ (p : Seen). (state_of p).events) later_is in
    let few = at.few in
    let before = at.risen in
    record {
      count = suc at.count;
      run = rounds_on first old new later start told at goes is later_is;
      few = omega (arith, few, more, same);
      bytes = went ∙ ap (λ (t : Option (List ℕ)). appended t bytes) at.bytes ∙ appended-twice start.bytes (debug_of old) bytes ∙ ap (λ (xs : List ℕ). appended start.bytes xs) (sym out.bytes_are);
      risen = omega (arith, before, risen);
      steady = steady-on start told now at.steady steady;
    }

-- the last round
pub rounds_end : {E : Type 0} (first old new later : Seen) (probes : List ProbeState) (count : ℕ) (bytes : List ℕ) (went : Result (Unit {0}) E) (lost : Bool) (start told now : ToldSink)
    → IsAtRounds first old start told → IsReady old probes count → IsLegalRun old.machine old.image old.entries old.outer → IsPartOf round old new → later ≡ record new { handed = later.handed } → IsHandedOut old later bytes
    → lost ≡ is_err went → IfNone (why_of later) (lost ≡ true)
    → OnOk went (now.bytes ≡ appended told.bytes bytes) → OnOk went (IsSteady told now) → OnErr went (Rose told.faults now.faults) → OnErr went (IsCut bytes told.bytes now.bytes)
    → AreRounds first later lost start now
rounds_end first old new later probes count bytes went lost start told now at ready run is later_is out lost_is stopped all steady failed cut =
    let goes = why_none old probes count ready in
    let few = at.few in
    let below = steps_left first old probes count start told at ready run in
    record {
      earlier = at.count;
      middle = old;
      goes = goes_on old goes;
      before = at.run;
      part = rounds_on first old new later start told at goes is later_is;
      few = omega (arith, few, below);
      stopped = stopped;
      put = subst (λ (b : Bool). IsPut b (debug_of old) (debug_of later) start now) (sym lost_is)
          (subst (λ (xs : List ℕ). IsPut (is_err went) (debug_of old) xs start now) (sym out.bytes_are)
          (put-by went (debug_of old) bytes start told now at.bytes at.risen at.steady all steady failed cut));
    }

-- there are fewer events left behind a round
pub rounds_fall : (first old new later : Seen) (before probes : List ProbeState) (count : ℕ) (start told : ToldSink) → IsAtRounds first old start told → IsReady old before count
    → IsLegalRun old.machine old.image old.entries old.outer → IsRoundDone old new probes → later ≡ record new { handed = later.handed }
    → first.machine.steps - (state_of later).events < first.machine.steps - (state_of old).events
rounds_fall first old new later before probes count start told at ready run done later_is =
    let below = steps_left first old before count start told at ready run in
    let more = done.events in
    let same : (state_of later).events ≡ (state_of new).events = ap (λ (p : Seen). (state_of p).events) later_is in
    omega (arith, below, more, same)

-- a call that handed bytes out changed nothing else
pub only_handed : (new later : Seen) (out : List ℕ) (most n : ℕ) → HandedSo new later out most n → later ≡ record new { handed = later.handed }
only_handed new later out most n H =
    H.new_is ∙ ap (λ (k : ℕ). let q : Seen = record new { handed = k } in q) (sym (ap (λ (p : Seen). p.handed) H.new_is))

pub runs_too : (new later : Seen) → later ≡ record new { handed = later.handed } → why_of later ≡ None → why_of new ≡ None
runs_too new later is none = sym (ap why_of is) ∙ none

-- why no round follows
pub lost_so : (o : Option Why) (lost : Bool) → lost ≡ true → IfNone o (lost ≡ true)
lost_so None lost is = is
lost_so (Some cause) lost is = tt

pub ended_so : (o : Option Why) (lost : Bool) → o ≢ None → IfNone o (lost ≡ true)
ended_so None lost some = absurd (some refl)
ended_so (Some cause) lost some = tt
