-- Records as they are stored, and the records that they are.
use Rattle.std.proofs.Common.{◌≡◌, ℕ, zero, suc, ◌+◌, ◌-◌, ◌≤◌, List, [], ◌∷◌, ◌++◌, Option, Some, None, length, take, drop, set, refl, ap, sym, ◌∙◌, subst, append-nil, arith}
use Rattle.std.proofs.Math.Seq.{drop-append_seam, take-length}
use Rattle.std.proofs.lemmas.Option.{none-some}
use Rattle.std.specs.Prelude.{flat_map, option_map}
use Rattle.std.proofs.lemmas.List.{take-append-le, drop-append-le, length-take-le, length-append, length-drop, length-map, take-map, drop-map, map-append, map-set}
use Rattle.std.specs.List.{AllByRecursion, slice_get}
use Rattle.tv_items.specs.declared.action.Heard.TheVariants as heard
use Rattle.tv_journal.specs.declared.Entry.{Entry}
use Rattle.tv_journal.specs.declared.Entry.TheVariants as entry
use Rattle.tv_journal.specs.declared.record.EndLine.{EndLine}
use Rattle.tv_journal.specs.declared.record.DeviceStep.{DeviceStep}
use Rattle.tv_journal.specs.declared.record.DeviceStep.TheVariants as step
use Rattle.tv_journal.specs.declared.record.Stored.{Stored}
use Rattle.tv_journal.specs.declared.record.Stored.TheVariants as stored
use Rattle.tv_journal.specs.Entries.{Record, Run, One, entries_in, entries_of, payload_in, payload_bytes}
use Rattle.tv_journal.specs.Grammar.{last_record, record_bytes, entry_spelled, lines_bytes, end_bytes, short}
use Rattle.tv_journal.proofs.Kept.{payload-more, payload-one, payload-run}
use Rattle.tv_journal.proofs.Added.{entries-push}
use Rattle.tv_journal.proofs.Files.{eqb-same}
use Rattle.tv_journal.specs.Reading.{IsTallied}
use Rattle.tv_base.specs.declared.limits.TheConstants.{PIECE_BYTES}
use Rattle.tv_journal.specs.declared.record.Store.{Store}
use Rattle.tv_journal.specs.Journals.{next_from, run_from, tick_from}
use Rattle.tv_journal.specs.Stores.{entry_and_count, run_of, tick_of, held, events_added, Lies, LiesIn, record_in, records_in, step_entry, step_kind, head_bytes, stored_bytes, stored_lines}

-- more payload behind that of a record leaves it as it is
pub bytes-longer : (payload more : List ℕ) (len at : ℕ) → at + len ≤ length payload → take len (drop at (payload ++ more)) ≡ take len (drop at payload)
bytes-longer payload more len at lies =
    ap (take len) (drop-append-le at payload more (omega arith)) ∙ take-append-le len (drop at payload) more (omega (arith, length-drop at payload))

pub record-longer : (payload more : List ℕ) (r : Stored) → LiesIn (length payload) r → record_in (payload ++ more) r ≡ record_in payload r
record-longer payload more (stored.Bytes device len at) lies =
    ap (λ (bytes : List ℕ). One (entry.Did device (heard.Bytes bytes))) (bytes-longer payload more len at lies.1)
record-longer payload more r lies = refl

pub held-longer : (payload more : List ℕ) (rs : List Stored) → AllByRecursion (LiesIn (length payload)) rs → records_in (payload ++ more) rs ≡ records_in payload rs
held-longer payload more [] lies = refl
held-longer payload more (r ∷ rs) lies =
    ap (λ (x : Record). x ∷ records_in (payload ++ more) rs) (record-longer payload more r lies.0)
    ∙ ap (λ (xs : List Record). record_in payload r ∷ xs) (held-longer payload more rs lies.1)

pub lies-within : (size later : ℕ) (r : Stored) → size ≤ later → LiesIn size r → LiesIn later r
lies-within size later (stored.Bytes device len at) within lies = (lies.0, omega (arith, lies.1))
lies-within size later r within lies = tt

pub lies-longer : (size later : ℕ) (rs : List Stored) → size ≤ later → AllByRecursion (LiesIn size) rs → AllByRecursion (LiesIn later) rs
lies-longer size later [] within lies = tt
lies-longer size later (r ∷ rs) within lies = (lies-within size later r within lies.0, lies-longer size later rs within lies.1)

pub lies-push : (size : ℕ) (rs : List Stored) (r : Stored) → AllByRecursion (LiesIn size) rs → LiesIn size r → AllByRecursion (LiesIn size) (rs ++ r ∷ [])
lies-push size [] r lies here = (here, tt)
lies-push size (x ∷ rs) r lies here = (lies.0, lies-push size rs r lies.1 here)

pub lies-at : (size : ℕ) (rs : List Stored) (n : ℕ) (r : Stored) → AllByRecursion (LiesIn size) rs → LiesIn size r → AllByRecursion (LiesIn size) (set rs n r)
lies-at size [] n r lies here = tt
lies-at size (x ∷ rs) zero r lies here = (here, lies.1)
lies-at size (x ∷ rs) (suc n) r lies here = (lies.0, lies-at size rs n r lies.1 here)

pub lies-found : (size : ℕ) (rs : List Stored) (n : ℕ) (r : Stored) → AllByRecursion (LiesIn size) rs → slice_get rs n ≡ Some r → LiesIn size r
lies-found size [] n r lies found = absurd (none-some r found)
lies-found size (x ∷ rs) zero r lies found = let same : x ≡ r = cc in subst (LiesIn size) same lies.0
lies-found size (x ∷ rs) (suc n) r lies found = lies-found size rs n r lies.1 found

pub lies-take : (size n : ℕ) (rs : List Stored) → AllByRecursion (LiesIn size) rs → AllByRecursion (LiesIn size) (take n rs)
lies-take size zero rs lies = tt
lies-take size (suc n) [] lies = tt
lies-take size (suc n) (r ∷ rs) lies = (lies.0, lies-take size n rs lies.1)

pub lies-drop : (size n : ℕ) (rs : List Stored) → AllByRecursion (LiesIn size) rs → AllByRecursion (LiesIn size) (drop n rs)
lies-drop size zero rs lies = lies
lies-drop size (suc n) [] lies = tt
lies-drop size (suc n) (r ∷ rs) lies = lies-drop size n rs lies.1

-- one record more
pub held-push : (payload : List ℕ) (rs : List Stored) (r : Stored) → records_in payload (rs ++ r ∷ []) ≡ records_in payload rs ++ record_in payload r ∷ []
held-push payload rs r = map-append (record_in payload) rs (r ∷ [])

-- one that carries no bytes
pub record-bare : (payload : List ℕ) (r : Stored) → LiesIn 0 r → record_in payload r ≡ record_in [] r
record-bare payload (stored.Bytes device len at) lies =
    let none : len ≡ 0 = omega (arith, lies.1) in
    ap (λ (n : ℕ). One (entry.Did device (heard.Bytes (take n (drop at payload))))) none
    ∙ sym (ap (λ (n : ℕ). One (entry.Did device (heard.Bytes (take n (drop at []))))) none)
record-bare payload r lies = refl

step-carries : (s : DeviceStep) (device : ℕ) → payload_in (step_entry s device) ≡ 0
step-carries step.Take device = refl
step-carries step.Send device = refl
step-carries step.ServeMem device = refl
step-carries step.ServeIrq device = refl
step-carries step.Got device = refl
step-carries step.Reply device = refl
step-carries step.Deliver device = refl
step-carries step.Intend device = refl

pub bare-carries : (r : Stored) → LiesIn 0 r → payload_bytes (entries_in (record_in [] r)) ≡ 0
bare-carries (stored.Run hart count) lies = payload-run count hart
bare-carries (stored.Step s device) lies = payload-one (step_entry s device) ∙ step-carries s device
bare-carries (stored.Done device) lies = payload-one (entry.Did device heard.Done)
bare-carries (stored.Failed device) lies = payload-one (entry.Did device heard.Failed)
bare-carries (stored.Bytes device len at) lies =
    let none : len ≡ 0 = omega (arith, lies.1) in
    let empty : List ℕ = [] in
    payload-one (entry.Did device (heard.Bytes (take len (drop at empty)))) ∙ ap (λ (n : ℕ). length (take n (drop at empty))) none
bare-carries (stored.Taken device count) lies = payload-one (entry.Did device (heard.Taken count))
bare-carries (stored.Tick n) lies = payload-one (entry.Tick n)

-- one whose bytes are the last of the payload
pub record-last : (payload bytes : List ℕ) (device : ℕ) → record_in (payload ++ bytes) (stored.Bytes device (length bytes) (length payload)) ≡ One (entry.Did device (heard.Bytes bytes))
record-last payload bytes device =
    ap (λ (xs : List ℕ). One (entry.Did device (heard.Bytes (take (length bytes) xs)))) (drop-append_seam payload bytes)
    ∙ ap (λ (xs : List ℕ). One (entry.Did device (heard.Bytes xs))) (take-length bytes)

-- bytes more, with their record
pub bytes-held : (payload bytes : List ℕ) (rs : List Stored) (device len at : ℕ) → len ≡ length bytes → at ≡ length payload → AllByRecursion (LiesIn (length payload)) rs
    → records_in (payload ++ bytes) (rs ++ stored.Bytes device len at ∷ []) ≡ records_in payload rs ++ One (entry.Did device (heard.Bytes bytes)) ∷ []
bytes-held payload bytes rs device len at len_is at_is lies =
    rw (len_is, at_is)
    (held-push (payload ++ bytes) rs (stored.Bytes device (length bytes) (length payload))
    ∙ ap (λ (xs : List Record). xs ++ record_in (payload ++ bytes) (stored.Bytes device (length bytes) (length payload)) ∷ []) (held-longer payload bytes rs lies)
    ∙ ap (λ (r : Record). records_in payload rs ++ r ∷ []) (record-last payload bytes device))

pub bytes-lie : (payload bytes : List ℕ) (rs : List Stored) (device len at : ℕ) → len ≡ length bytes → at ≡ length payload → length bytes ≤ PIECE_BYTES
    → AllByRecursion (LiesIn (length payload)) rs → AllByRecursion (LiesIn (length (payload ++ bytes))) (rs ++ stored.Bytes device len at ∷ [])
bytes-lie payload bytes rs device len at len_is at_is few lies =
    lies-push (length (payload ++ bytes)) rs (stored.Bytes device len at) (lies-longer (length payload) (length (payload ++ bytes)) rs (omega (arith, length-append payload bytes)) lies)
    (omega arith, omega (arith, length-append payload bytes))

-- a record more, which carries no bytes
pub bare-held : (payload : List ℕ) (rs : List Stored) (r : Stored) → LiesIn 0 r → records_in payload (rs ++ r ∷ []) ≡ records_in payload rs ++ record_in [] r ∷ []
bare-held payload rs r lies = held-push payload rs r ∙ ap (λ (x : Record). records_in payload rs ++ x ∷ []) (record-bare payload r lies)

pub bare-lies : (size : ℕ) (rs : List Stored) (r : Stored) → LiesIn 0 r → AllByRecursion (LiesIn size) rs → AllByRecursion (LiesIn size) (rs ++ r ∷ [])
bare-lies size rs r here lies = lies-push size rs r lies (lies-within 0 size r (omega arith) here)

-- more events of the last record's hart
pub events-joined : (payload : List ℕ) (rs : List Stored) (hart last count more at : ℕ) → Some (last, count) ≡ run_of (last_record (records_in payload rs)) → hart ≡ last
    → at ≡ length rs - 1 → records_in payload (set rs at (stored.Run last (count + more))) ≡ events_added (records_in payload rs) hart more
events-joined payload rs hart last count more at is same at_is =
    rw (← is, same, eqb-same last, at_is, length-map rs (record_in payload)) (map-set (record_in payload) rs (length rs - 1) (stored.Run last (count + more)))

-- what is counted of the records, with one more
pub tally-more : (old new : Store) (events more : ℕ) (r : Record) → IsTallied old events → held new ≡ held old ++ r ∷ [] → Lies new
    → length new.payload.items ≡ length old.payload.items + payload_bytes (entries_in r) → more ≡ length (entries_in r) → IsTallied new (events + more)
tally-more old new events more r tallied held_is lies payload_is more_is = record {
  counted = rw (held_is, entries-push (held old) r) (omega (arith, tallied.counted, length-append (entries_of (held old)) (entries_in r)));
  carried = rw (held_is, entries-push (held old) r, payload-more (entries_of (held old)) (entries_in r)) (omega (arith, tallied.carried));
  lies = lies;
}

-- the bytes of a record in the file
pub step-spelled : (s : DeviceStep) (device : ℕ) → step_kind s ∷ device ∷ [] ≡ entry_spelled (step_entry s device)
step-spelled step.Take device = refl
step-spelled step.Send device = refl
step-spelled step.ServeMem device = refl
step-spelled step.ServeIrq device = refl
step-spelled step.Got device = refl
step-spelled step.Reply device = refl
step-spelled step.Deliver device = refl
step-spelled step.Intend device = refl

pub stored-spelled : (payload : List ℕ) (r : Stored) → LiesIn (length payload) r → stored_bytes payload r ≡ record_bytes (record_in payload r)
stored-spelled payload (stored.Run hart count) lies = append-nil (head_bytes (stored.Run hart count))
stored-spelled payload (stored.Step s device) lies = append-nil (head_bytes (stored.Step s device)) ∙ step-spelled s device
stored-spelled payload (stored.Done device) lies = append-nil (head_bytes (stored.Done device))
stored-spelled payload (stored.Failed device) lies = append-nil (head_bytes (stored.Failed device))
stored-spelled payload (stored.Bytes device len at) lies =
    let bytes = take len (drop at payload) in
    ap (λ (n : ℕ). 0x0A ∷ device ∷ 2 ∷ (short n ++ bytes)) (sym (length-take-le len (drop at payload) (omega (arith, lies.1, length-drop at payload))))
stored-spelled payload (stored.Taken device count) lies = append-nil (head_bytes (stored.Taken device count))
stored-spelled payload (stored.Tick n) lies = append-nil (head_bytes (stored.Tick n))

pub all-spelled : (payload : List ℕ) (rs : List Stored) → AllByRecursion (LiesIn (length payload)) rs
    → flat_map (stored_bytes payload) rs ≡ flat_map record_bytes (records_in payload rs)
all-spelled payload [] lies = refl
all-spelled payload (r ∷ rs) lies =
    ap (λ (xs : List ℕ). xs ++ flat_map (stored_bytes payload) rs) (stored-spelled payload r lies.0)
    ∙ ap (λ (xs : List ℕ). record_bytes (record_in payload r) ++ xs) (all-spelled payload rs lies.1)

pub lines-spelled : (payload : List ℕ) (rs : List Stored) (end : Option EndLine) → AllByRecursion (LiesIn (length payload)) rs
    → stored_lines payload rs end ≡ lines_bytes (records_in payload rs) end
lines-spelled payload rs None lies = all-spelled payload rs lies
lines-spelled payload rs (Some end) lies =
    let n = end.records in
    let front : flat_map (stored_bytes payload) (take n rs) ≡ flat_map record_bytes (take n (records_in payload rs)) =
    all-spelled payload (take n rs) (lies-take _ n rs lies) ∙ ap (flat_map record_bytes) (sym (take-map (record_in payload) n rs)) in
    let back : flat_map (stored_bytes payload) (drop n rs) ≡ flat_map record_bytes (drop n (records_in payload rs)) =
    all-spelled payload (drop n rs) (lies-drop _ n rs lies) ∙ ap (flat_map record_bytes) (sym (drop-map (record_in payload) n rs)) in
    ap (λ (xs : List ℕ). (xs ++ end_bytes end) ++ flat_map (stored_bytes payload) (drop n rs)) front
    ∙ ap (λ (xs : List ℕ). (flat_map record_bytes (take n (records_in payload rs)) ++ end_bytes end) ++ xs) back

-- what is found behind a cursor
pub next-none : (at : ℕ) (found : Option Record) → None ≡ option_map entry_and_count found → ◌≡◌ {A = Option (Entry × ℕ) × ℕ} (None, at) (next_from at found)
next-none at None is = refl
next-none at (Some r) is = absurd (none-some (entry_and_count r) is)

pub next-some : (at : ℕ) (found : Option Record) (x : Entry × ℕ) → Some x ≡ option_map entry_and_count found → ◌≡◌ {A = Option (Entry × ℕ) × ℕ} (Some x, at + 1) (next_from at found)
next-some at None x is = absurd (none-some x (sym is))
next-some at (Some r) x is = ap (λ (o : Option (Entry × ℕ)). let p : Option (Entry × ℕ) × ℕ = (o, at + 1) in p) is

pub run-none : (at : ℕ) (found : Option Record) → None ≡ run_of found → ◌≡◌ {A = Option (ℕ × ℕ) × ℕ} (None, at) (run_from at found)
run-none at None is = refl
run-none at (Some (One e)) is = refl
run-none at (Some (Run hart count)) is = absurd (none-some (hart, count) is)

pub run-some : (at : ℕ) (found : Option Record) (x : ℕ × ℕ) → Some x ≡ run_of found → ◌≡◌ {A = Option (ℕ × ℕ) × ℕ} (Some x, at + 1) (run_from at found)
run-some at None x is = absurd (none-some x (sym is))
run-some at (Some (One e)) x is = absurd (none-some x (sym is))
run-some at (Some (Run hart count)) x is = ap (λ (o : Option (ℕ × ℕ)). let p : Option (ℕ × ℕ) × ℕ = (o, at + 1) in p) is

pub tick-none : (at : ℕ) (found : Option Record) → None ≡ tick_of found → ◌≡◌ {A = Option ℕ × ℕ} (None, at) (tick_from at found)
tick-none at (Some (One (entry.Tick n))) is = absurd (none-some n is)
tick-none at found is = refl

pub tick-some : (at : ℕ) (found : Option Record) (n : ℕ) → Some n ≡ tick_of found → ◌≡◌ {A = Option ℕ × ℕ} (Some n, at + 1) (tick_from at found)
tick-some at (Some (One (entry.Tick m))) n is = ap (λ (o : Option ℕ). let p : Option ℕ × ℕ = (o, at + 1) in p) is
tick-some at found n is = absurd (none-some n (sym is))
