use Rattle.std.proofs.Common.{rules, ◌≡◌, ◌≢◌, ℕ, List, Some, Result, Ok, Err, IfOk, inr, refl, ap, sym, ◌∙◌}
use Rattle.std.proofs.lemmas.Result.{IfOk-weaker}
use Rattle.tv_out.specs.declared.LoadFault.{LoadFault}
use Rattle.tv_out.specs.declared.LoadFault.TheVariants as fault
use Rattle.tv_out.specs.Asked.{IsLoadDue, FollowsLoad}
use Rattle.tv_out.specs.Calls.{next_count}
use Rattle.tv_out.specs.Told.{StoreScript, ToldStore}
use Rattle.tv_fake.specs.MemoryStore.{script_of, told_by}
use Rattle.tv_fake.proofs.Raised.{raised-none}
use Rattle.tv_fake.proofs.Views.{given, not_due, due}
use Rattle.tv_fake.proofs.store.MemoryStoreStore.load.Goals as goal

-- an answer that says no failure of the store, where none was due
spared : {T : Type 0} (script : StoreScript) (name : List ℕ) (before now : ToldStore) (answer : Result T LoadFault) → answer ≢ Err fault.Failed
    → ¬ (IsLoadDue script name before) → now.faults ≡ before.faults → FollowsLoad (Some script) name before now answer
spared script name before now (Err fault.Failed) other works same = absurd (other refl)
spared script name before now (Err fault.TooLong) other works same = (works, same)
spared script name before now (Err fault.Memory) other works same = (works, same)
spared script name before now (Ok _) other works same = (works, same)

pub returns-in-None-clause-follows : goal.returns-in-None-clause-follows
returns-in-None-clause-follows c = (
  due (λ bytes. bytes.items) c.args.self.now.calls c.args.name.now c.args.self.now.tally c.args.self.now.objects.files.items (inr (sym c.in-None.ensures)),
  c.raise.ensures.total ∙ ap (λ tally. next_count tally.total) c.if-not-admit.ensures.admission.1,
)

pub returns-in-None-clause-later : goal.returns-in-None-clause-later
returns-in-None-clause-later c = rw (← c.if-not-admit.ensures.admission.1) c.raise.ensures.later

pub returns-then-len-most-clause-too_long : goal.returns-then-len-most-clause-too_long
returns-then-len-most-clause-too_long c _ = record {
  bytes = c.in-Some.bytes.now.items;
  held = given (λ bytes. bytes.items) c.args.name.now c.args.self.now.objects.files.items c.in-Some.bytes.now (sym c.in-Some.ensures);
  longer = search rules;
}

pub returns-then-len-most-clause-follows : goal.returns-then-len-most-clause-follows
returns-then-len-most-clause-follows c = (
  not_due (λ bytes. bytes.items) c.args.self.now.calls c.args.name.now c.args.self.now.tally c.args.self.now.objects.files.items c.in-Some.bytes.now
      c.if-not-admit.ensures.admission.0 (sym c.in-Some.ensures),
  ap (λ tally. tally.total) c.if-not-admit.ensures.admission.1,
)

pub returns-then-len-most-clause-elsewhere : goal.returns-then-len-most-clause-elsewhere
returns-then-len-most-clause-elsewhere c =
    rw c.if-not-admit.ensures.admission.1 (raised-none c.args.self.now.tally.counts.items c.args.self.now.tally.others c.args.name.now)

pub returns-clause-ok : goal.returns-clause-ok
returns-clause-ok c =
    let same : IfOk c.map_err.result (λ copy. copy.items ≡ c.in-Some.bytes.now.items) = search rules in
    IfOk-weaker c.map_err.result _ _ (λ copy is. rw is (given (λ bytes. bytes.items) c.args.name.now c.args.self.now.objects.files.items c.in-Some.bytes.now (sym c.in-Some.ensures))) same

pub returns-clause-follows : goal.returns-clause-follows
returns-clause-follows c =
    spared (script_of c.args.self.now) c.args.name.now (told_by c.args.self.now)
    (told_by (record { objects = c.args.self.now.objects; tally = c.admit.new.tally; calls = c.admit.new.calls })) c.map_err.result (search rules)
    (not_due (λ bytes. bytes.items) c.args.self.now.calls c.args.name.now c.args.self.now.tally c.args.self.now.objects.files.items c.in-Some.bytes.now
    c.if-not-admit.ensures.admission.0 (sym c.in-Some.ensures))
    (ap (λ tally. tally.total) c.if-not-admit.ensures.admission.1)

pub returns-clause-elsewhere : goal.returns-clause-elsewhere
returns-clause-elsewhere c =
    rw c.if-not-admit.ensures.admission.1 (raised-none c.args.self.now.tally.counts.items c.args.self.now.tally.others c.args.name.now)
