-- What the answer of a command says of the output.
use Rattle.std.proofs.Common.{◌≡◌, ◌≢◌, ◌||◌, if◌then◌else◌, not, Bool, true, false, ℕ, List, Option, Some, None, Result, Ok, Err, inl, inr, refl, ap, subst, sym, ◌∙◌, arith}
use Rattle.std.specs.Prelude.{IsSome}
use Rattle.tv_machine.specs.declared.machine.Machine.{Machine}
use Rattle.tv_out.specs.Told.{ToldSink, IsAllOut}
use Rattle.tv_runner.specs.Runs.{IsPut, cause_by}
use Rattle.tv_spec.specs.Shows.{exit_status}
use Rattle.tv_top.specs.declared.Ended.{Ended}
use Rattle.tv_top.specs.declared.run.Run.{Run}
use Rattle.tv_top.specs.Answers.{Answers, ToldOutside, ended_by, sides_of}
use Rattle.tv_top.specs.Commands.{Does, DoesReplay, DoesSolo, Serves, image_name}
use Rattle.tv_top.specs.Refusals.{Refused, unreadable, too_long, faulty, misfit, no_journal, illegal, unwritable, no_memory, refused_status}
use Rattle.tv_top.specs.Stages.{Sides}
use Rattle.tv_top.specs.Steps.{IsSavedRun, Puts, Runs}
use Rattle.tv_words.specs.CommandLine.{Asked, solo, replay, check}
use Rattle.tv_top.proofs.Statuses.{run-not-9}

record RunOut (old new : ToldSink) (run : Run) : Type 0 where
  machine : Machine
  image : List ℕ
  created : Option ToldSink
  ran : IsSavedRun machine image created old new run

record TextOut (old new : ToldSink) : Type 0 where
  text : List ℕ
  whole : IsAllOut text old new

-- a run and a text went out; out of memory, nothing did
abbrev OutBy : Result (Option Run) Refused → ToldSink → ToldSink → Type 0
OutBy (Ok (Some run)) old new = RunOut old new run
OutBy (Ok None) old new = TextOut old new
OutBy (Err why) old new = why ≡ no_memory → new ≡ old

runs-out : (machine : Machine) (image : List ℕ) (created : Option ToldSink) (old new : ToldSink) (answer : Result (Option Run) Refused)
    → Runs machine image created old new answer → OutBy answer old new
runs-out machine image created old new (Ok (Some run)) ran = record { machine = machine; image = image; created = created; ran = ran }
runs-out machine image created old new (Ok None) ran = absurd ran
runs-out machine image created old new (Err no_memory) ran = λ _. ran
runs-out machine image created old new (Err (unreadable name)) ran = absurd ran
runs-out machine image created old new (Err too_long) ran = absurd ran
runs-out machine image created old new (Err (faulty why)) ran = absurd ran
runs-out machine image created old new (Err misfit) ran = absurd ran
runs-out machine image created old new (Err (no_journal at)) ran = absurd ran
runs-out machine image created old new (Err (illegal entry)) ran = absurd ran
runs-out machine image created old new (Err unwritable) ran = absurd ran

puts-out : (text : List ℕ) (old new : ToldSink) (answer : Result (Option Run) Refused) → Puts text old new answer → OutBy answer old new
puts-out text old new (Ok (Some run)) put = absurd put
puts-out text old new (Ok None) put = record { text = text; whole = put }
puts-out text old new (Err no_memory) put = absurd put
puts-out text old new (Err (unreadable name)) put = absurd put
puts-out text old new (Err too_long) put = absurd put
puts-out text old new (Err (faulty why)) put = absurd put
puts-out text old new (Err misfit) put = absurd put
puts-out text old new (Err (no_journal at)) put = absurd put
puts-out text old new (Err (illegal entry)) put = absurd put
puts-out text old new (Err unwritable) put = λ is. cc is

-- before it the output stayed; or the command stopped
later-out : (answer : Result (Option Run) Refused) (old middle new : ToldSink) → middle ≡ old → OutBy answer middle new → OutBy answer old new
later-out answer old middle new same by = subst (λ (sink : ToldSink). OutBy answer sink new) same by

stopped-out : (answer : Result (Option Run) Refused) (why : Refused) (old new : ToldSink) → answer ≡ Err why → new ≡ old → OutBy answer old new
stopped-out answer why old new is same = subst (λ (a : Result (Option Run) Refused). OutBy a old new) (sym is) (λ _. same)

solo-out : (machine : Machine) (name : List ℕ) (file : Option (List ℕ)) (before after : Sides) (answer : Result (Option Run) Refused)
    → DoesSolo machine name file before after answer → OutBy answer before.out after.out
solo-out machine name file before after answer (inr stopped) =
    stopped-out answer stopped.why before.out after.out stopped.answer_is stopped.refused.out_stays
solo-out machine name file before after answer (inl loaded) =
    later-out answer before.out loaded.middle.out after.out loaded.done.out_stays
    (elim loaded.then [
      | inl created ↦ later-out answer loaded.middle.out created.middle.out after.out created.done.out_stays
          (runs-out machine loaded.value created.value created.middle.out after.out answer created.then.on_out)
      | inr stopped ↦ stopped-out answer stopped.why loaded.middle.out after.out stopped.answer_is stopped.refused.out_stays
    ])

replay-out : (machine : Machine) (name file : List ℕ) (before after : Sides) (answer : Result (Option Run) Refused)
    → DoesReplay machine name file before after answer → OutBy answer before.out after.out
replay-out machine name file before after answer (inr stopped) =
    stopped-out answer stopped.why before.out after.out stopped.answer_is stopped.refused.out_stays
replay-out machine name file before after answer (inl loaded) =
    later-out answer before.out loaded.middle.out after.out loaded.done.out_stays
    (elim loaded.then [
      | inr stopped ↦ stopped-out answer stopped.why loaded.middle.out after.out stopped.answer_is stopped.refused.out_stays
      | inl has ↦ later-out answer loaded.middle.out has.middle.out after.out has.done.out_stays
          (elim has.then [
            | inr stopped ↦ stopped-out answer stopped.why has.middle.out after.out stopped.answer_is (ap (λ (s : Sides). s.out) stopped.refused.still)
            | inl judged ↦ later-out answer has.middle.out judged.middle.out after.out (ap (λ (s : Sides). s.out) judged.done.still)
                (puts-out judged.value judged.middle.out after.out answer judged.then.on_out)
          ])
    ])

does-out : (asked : Asked) (machine : Machine) (before after : Sides) (answer : Result (Option Run) Refused) → Does asked machine before after answer
    → OutBy answer before.out after.out
does-out (solo origin file) machine before after answer does = solo-out machine (image_name origin machine) file before after answer does
does-out (replay origin file) machine before after answer does = replay-out machine (image_name origin machine) file before after answer does
does-out (check name) machine before after answer does = puts-out _ before.out after.out answer does.on_out

serves-out : (asked : Asked) (before after : Sides) (answer : Result (Option Run) Refused) → Serves asked before after answer → OutBy answer before.out after.out
serves-out asked before after answer (inr stopped) =
    stopped-out answer stopped.why before.out after.out stopped.answer_is stopped.refused.out_stays
serves-out asked before after answer (inl taken) =
    later-out answer before.out taken.middle.out after.out taken.done.out_stays (does-out asked taken.value taken.middle after answer taken.then)

-- the status 9 is that of out of memory, and 0 that of no refusal
wants-memory : (why : Refused) → refused_status why ≡ 9 → why ≡ no_memory
wants-memory no_memory is = refl
wants-memory (unreadable name) is = absurd (omega arith)
wants-memory too_long is = absurd (omega arith)
wants-memory (faulty why) is = absurd (omega arith)
wants-memory misfit is = absurd (omega arith)
wants-memory (no_journal at) is = absurd (omega arith)
wants-memory (illegal entry) is = absurd (omega arith)
wants-memory unwritable is = absurd (omega arith)

not-done : (why : Refused) → refused_status why ≢ 0
not-done no_memory is = omega arith
not-done (unreadable name) is = omega arith
not-done too_long is = omega arith
not-done (faulty why) is = omega arith
not-done misfit is = omega arith
not-done (no_journal at) is = omega arith
not-done (illegal entry) is = omega arith
not-done unwritable is = omega arith

nine : (answer : Result (Option Run) Refused) (old new : ToldSink) → OutBy answer old new → (ended_by answer).status ≡ 9
    → ((ended_by answer).journal ≡ None) × (new ≡ old)
nine (Ok (Some run)) old new by is = absurd (run-not-9 run is)
nine (Ok None) old new by is = absurd (omega arith)
nine (Err why) old new by is = (refl, by (wants-memory why is))

-- a run with the status 0 lost no byte
run-sound : (lost saved : Bool) (status : ℕ) (before bytes : List ℕ) (old new : ToldSink) → (if lost || not saved then 5 else status) ≡ 0
    → IsPut lost before bytes old new → IsSome old.script → new.faults ≡ old.faults
run-sound true saved status before bytes old new is put told = absurd (omega arith)
run-sound false saved status before bytes old new is put told = put.steady.sound told

sound : (answer : Result (Option Run) Refused) (old new : ToldSink) → OutBy answer old new → (ended_by answer).status ≡ 0
    → IsSome old.script → new.faults ≡ old.faults
sound (Ok (Some run)) old new by is told =
    run-sound run.ran.lost run.saved (exit_status (cause_by run.ran.stop)) by.ran.is_run.middle.bytes by.ran.is_run.solo.bytes old new is by.ran.is_run.put told
sound (Ok None) old new by is told = by.whole.steady.sound told
sound (Err why) old new by is told = absurd (not-done why is)

-- what the status of an answer says
answered : (P : Ended → ToldSink → ToldSink → Type 0) (n : ℕ) → n ≢ 2
    → ((answer : Result (Option Run) Refused) (old new : ToldSink) → OutBy answer old new → (ended_by answer).status ≡ n → P (ended_by answer) old new)
    → (words : List (List ℕ)) (before after : ToldOutside) (ended : Ended) → Answers words before after ended → ended.status ≡ n → P ended before.out after.out
answered P n not_2 holds words before after ended answers is =
    elim answers.served [
      | inl served ↦ subst (λ (e : Ended). P e before.out after.out) (sym served.serves.ended_is)
          (holds served.serves.answer before.out after.out
          (serves-out served.asked (sides_of before) (sides_of after) served.serves.answer served.serves.served)
          (sym (ap (λ (e : Ended). e.status) served.serves.ended_is) ∙ is))
      | inr bad ↦ absurd (not_2 (sym is ∙ ap (λ (e : Ended). e.status) bad.ended_is))
    ]

pub nine-keeps : (words : List (List ℕ)) (before after : ToldOutside) (ended : Ended) → Answers words before after ended → ended.status ≡ 9
    → (ended.journal ≡ None) × (after.out ≡ before.out)
nine-keeps = answered (λ ended old new. (ended.journal ≡ None) × (new ≡ old)) 9 (λ no. omega arith) nine

pub zero-sound : (words : List (List ℕ)) (before after : ToldOutside) (ended : Ended) → Answers words before after ended → ended.status ≡ 0
    → IsSome before.out.script → after.out.faults ≡ before.out.faults
zero-sound = answered (λ ended old new. IsSome old.script → new.faults ≡ old.faults) 0 (λ no. omega arith) sound
