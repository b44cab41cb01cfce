-- What a command does, by what its stages did.
use Rattle.std.proofs.Common.{◌≡◌, List, ℕ, Option, Result, Ok, Err, inl, inr, refl, ap}
use Rattle.std.specs.Result.{result_map_both, IsErr, IsErrAnd}
use Rattle.tv_journal.specs.Journals.{JournalState}
use Rattle.tv_machine.specs.declared.machine.Machine.{Machine}
use Rattle.tv_out.specs.Told.{ToldStore, ToldSink}
use Rattle.tv_top.specs.declared.refusal.Refusal.{Refusal}
use Rattle.tv_top.specs.declared.run.Run.{Run}
use Rattle.tv_top.specs.Commands.{Does, DoesSolo, DoesReplay, Serves}
use Rattle.tv_top.specs.Refusals.{Refused, refused_by}
use Rattle.tv_top.specs.Stages.{sides}
use Rattle.tv_top.specs.Steps.{TakesMachine, LoadsImage, LoadsJournal, IsJudged, Creates, Runs, Puts}
use Rattle.tv_words.specs.CommandLine.{Asked, machine_of}

-- a refusal that is passed on
pub passed-on : {X Y : Type 0} (view : X → Y) (result : Result X Refusal) (why : Refusal) → IsErr result × IsErrAnd result (λ e. e ≡ why)
    → result_map_both view refused_by result ≡ Err (refused_by why)
passed-on view (Ok x) why is = cc is.0
passed-on view (Err e) why is = ap (λ x. Err (refused_by x)) is.1

pub passed-as : {X Y : Type 0} (view : X → Y) (result : Result X Refusal) (why : Refused) → IsErr result × IsErrAnd result (λ e. refused_by e ≡ why)
    → result_map_both view refused_by result ≡ Err why
passed-as view (Ok x) why is = cc is.0
passed-as view (Err e) why is = ap Err is.1

-- a run's journal had no file, or it ran
pub solo-uncreated : (machine : Machine) (name image : List ℕ) (file : Option (List ℕ)) (before middle after : ToldStore) (out : ToldSink) (why : Refused)
    → LoadsImage name machine.ram before middle (Ok image) → Creates file middle after (Err why)
    → DoesSolo machine name file (sides before out) (sides after out) (Err why)
solo-uncreated machine name image file before middle after out why loads creates = inl (record {
  value = image;
  middle = sides middle out;
  done = record { on_store = loads; out_stays = refl };
  then = inr (record { why = why; refused = record { on_store = creates; out_stays = refl }; answer_is = refl });
})

pub solo-ran : (machine : Machine) (name image : List ℕ) (file : Option (List ℕ)) (created : Option ToldSink) (before middle after : ToldStore) (old new : ToldSink)
    (answer : Result (Option Run) Refused) → LoadsImage name machine.ram before middle (Ok image) → Creates file middle after (Ok created)
    → Runs machine image created old new answer → DoesSolo machine name file (sides before old) (sides after new) answer
solo-ran machine name image file created before middle after old new answer loads creates runs = inl (record {
  value = image;
  middle = sides middle old;
  done = record { on_store = loads; out_stays = refl };
  then = inl (record {
    value = created;
    middle = sides after old;
    done = record { on_store = creates; out_stays = refl };
    then = record { on_out = runs; store_stays = refl };
  });
})

-- a replay had no journal, or it was judged
pub replay-without : (machine : Machine) (name image file : List ℕ) (before middle after : ToldStore) (out : ToldSink) (why : Refused)
    → LoadsImage name machine.ram before middle (Ok image) → LoadsJournal file middle after (Err why)
    → DoesReplay machine name file (sides before out) (sides after out) (Err why)
replay-without machine name image file before middle after out why loads journal = inl (record {
  value = image;
  middle = sides middle out;
  done = record { on_store = loads; out_stays = refl };
  then = inr (record { why = why; refused = record { on_store = journal; out_stays = refl }; answer_is = refl });
})

pub replay-illegal : (machine : Machine) (name image file : List ℕ) (journal : JournalState) (before middle after : ToldStore) (out : ToldSink) (why : Refused)
    → LoadsImage name machine.ram before middle (Ok image) → LoadsJournal file middle after (Ok journal) → IsJudged machine image journal (Err why)
    → DoesReplay machine name file (sides before out) (sides after out) (Err why)
replay-illegal machine name image file journal before middle after out why loads has judged = inl (record {
  value = image;
  middle = sides middle out;
  done = record { on_store = loads; out_stays = refl };
  then = inl (record {
    value = journal;
    middle = sides after out;
    done = record { on_store = has; out_stays = refl };
    then = inr (record { why = why; refused = record { holds = judged; still = refl }; answer_is = refl });
  });
})

pub replay-legal : (machine : Machine) (name image file text : List ℕ) (journal : JournalState) (before middle after : ToldStore) (old new : ToldSink)
    (answer : Result (Option Run) Refused) → LoadsImage name machine.ram before middle (Ok image) → LoadsJournal file middle after (Ok journal)
    → IsJudged machine image journal (Ok text) → Puts text old new answer → DoesReplay machine name file (sides before old) (sides after new) answer
replay-legal machine name image file text journal before middle after old new answer loads has judged puts = inl (record {
  value = image;
  middle = sides middle old;
  done = record { on_store = loads; out_stays = refl };
  then = inl (record {
    value = journal;
    middle = sides after old;
    done = record { on_store = has; out_stays = refl };
    then = inl (record {
      value = text;
      middle = sides after old;
      done = record { holds = judged; still = refl };
      then = record { on_out = puts; store_stays = refl };
    });
  });
})

-- a command had no machine, or it was carried out with it
pub without-machine : (asked : Asked) (before after : ToldStore) (out : ToldSink) (why : Refused) → TakesMachine (machine_of asked) before after (Err why)
    → Serves asked (sides before out) (sides after out) (Err why)
without-machine asked before after out why takes =
    inr (record { why = why; refused = record { on_store = takes; out_stays = refl }; answer_is = refl })

pub with-machine : (asked : Asked) (machine : Machine) (before middle after : ToldStore) (old new : ToldSink) (answer : Result (Option Run) Refused)
    → TakesMachine (machine_of asked) before middle (Ok machine) → Does asked machine (sides middle old) (sides after new) answer
    → Serves asked (sides before old) (sides after new) answer
with-machine asked machine before middle after old new answer takes does =
    inl (record { value = machine; middle = sides middle old; done = record { on_store = takes; out_stays = refl }; then = does })
