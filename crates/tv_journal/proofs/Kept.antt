-- What a journal keeps stays so where an entry is added.
use Rattle.std.proofs.Common.{◌≡◌, ℕ, ◌+◌, ◌-◌, ◌^◌, ◌<◌, ◌≤◌, List, [], ◌∷◌, ◌++◌, Option, Some, None, replicate, length, take, drop, refl, ap, sym, ◌∙◌, arith, length-append, inl, inr, length-set}
use Rattle.std.proofs.lemmas.Bool.{false≢true}
use Rattle.std.proofs.lemmas.Bool.Decides.{eqb_tells}
use Rattle.std.proofs.lemmas.List.{take-append-le, drop-append-le, length-replicate}
use Rattle.std.proofs.lemmas.List.Folds.{sum_by-replicate}
use Rattle.std.proofs.lemmas.List.Sums.{sum_by-append}
use Rattle.std.specs.List.{AllByRecursion}
use Rattle.std.specs.Option.{is_some}
use Rattle.tv_items.specs.declared.action.Heard.{Heard}
use Rattle.tv_items.specs.declared.action.Heard.TheVariants as heard
use Rattle.tv_journal.specs.declared.Entry.{Entry}
use Rattle.tv_journal.specs.declared.Entry.TheVariants as entry
use Rattle.tv_journal.specs.declared.record.EndLine.{EndLine}
use Rattle.tv_journal.specs.Entries.{Record, Run, One, entries_of, records_of, record_count, payload_in, payload_bytes}
use Rattle.tv_journal.specs.Grammar.{IsRecord, IsOutcome, Differs, AreApart, EndFits, last_record, IsNoRun, outer_of}
use Rattle.tv_journal.specs.JournalFields.{IsKept}
use Rattle.tv_journal.specs.Journals.{IsOuterEnd, IsEntry, MayFollow}
use Rattle.tv_journal.specs.Stores.{run_of, FitsEntry, CanCount, added, events_added, events_behind, record_needed}
use Rattle.tv_journal.proofs.Added.{last_after-none, each-push, apart-push, ends-with, entries-push, entries-added, entries-events, each-longer, apart-longer}
use Rattle.tv_journal.proofs.Records.{IsSome, records-of-runs, each-is-some, count-again, kept-records}

-- a last run has no more events than there are
pub run-within : (rs : List Record) (hart count : ℕ) → last_record rs ≡ Some (Run hart count) → count ≤ length (entries_of rs)
run-within rs hart count is =
    let front = take (length rs - 1) rs in
    let parts : entries_of rs ≡ entries_of front ++ replicate count (entry.Hart hart) =
    ap entries_of (ends-with rs (Run hart count) is) ∙ entries-push front (Run hart count) in
    rw parts (omega (arith, length-append (entries_of front) (replicate count (entry.Hart hart)), length-replicate count (entry.Hart hart)))

pub can-count-last : (rs : List Record) (more : ℕ) (last : Option Record) → last_record rs ≡ last → length (entries_of rs) + more < 2 ^ 32 → CanCount last more
can-count-last rs more None is few = omega arith
can-count-last rs more (Some (One e)) is few = omega arith
can-count-last rs more (Some (Run hart count)) is few = omega (arith, run-within rs hart count is)

pub can-count : (rs : List Record) (more : ℕ) → length (entries_of rs) + more < 2 ^ 32 → CanCount (last_record rs) more
can-count rs more few = can-count-last rs more (last_record rs) refl few

-- records stay in range
pub each-behind : (rs : List Record) (hart more : ℕ) (last : Option Record) → last_record rs ≡ last → AllByRecursion IsRecord rs → hart < 8 → 0 < more → CanCount last more
    → AllByRecursion IsRecord (events_behind rs hart more (run_of last))
each-behind rs hart more None is each fits some can = each-push IsRecord rs (Run hart more) each (fits, some, can)
each-behind rs hart more (Some (One e)) is each fits some can = each-push IsRecord rs (Run hart more) each (fits, some, can)
each-behind rs hart more (Some (Run last count)) is each fits some can =
    elim (eqb_tells hart last) [
      | inl same ↦ rw same.0 (each-longer IsRecord rs (Run last count) (Run last (count + more)) is each (omega arith, omega arith, omega arith))
      | inr other ↦ rw other.0 (each-push IsRecord rs (Run hart more) each (fits, some, omega arith))
    ]

pub each-events : (rs : List Record) (hart more : ℕ) → AllByRecursion IsRecord rs → hart < 8 → 0 < more → CanCount (last_record rs) more
    → AllByRecursion IsRecord (events_added rs hart more)
each-events rs hart more each fits some can = each-behind rs hart more (last_record rs) refl each fits some can

outcome-fits : (device : ℕ) (h : Heard) → FitsEntry (entry.Did device h) → IsEntry (entry.Did device h) → (device < 8) × IsOutcome h
outcome-fits device heard.Done fits is = (fits, tt)
outcome-fits device heard.Refused fits is = absurd is
outcome-fits device heard.Failed fits is = (fits, tt)
outcome-fits device (heard.Bytes bytes) fits is = fits
outcome-fits device (heard.Taken count) fits is = (fits, is)

pub each-added : (rs : List Record) (e : Entry) → AllByRecursion IsRecord rs → FitsEntry e → IsEntry e → CanCount (last_record rs) 1
    → AllByRecursion IsRecord (added rs e)
each-added rs (entry.Hart hart) each fits is can = each-events rs hart 1 each fits (omega arith) can
each-added rs (entry.Did device h) each fits is can = each-push IsRecord rs (One (entry.Did device h)) each (outcome-fits device h fits is)
each-added rs (entry.Tick n) each fits is can = each-push IsRecord rs (One (entry.Tick n)) each (is, fits)
each-added rs e each fits is can = each-push IsRecord rs (One e) each fits

-- records stay apart
pub apart-behind : (rs : List Record) (hart more : ℕ) (last : Option Record) → last_record rs ≡ last → AreApart None rs → AreApart None (events_behind rs hart more (run_of last))
apart-behind rs hart more None is apart = apart-push None rs (Run hart more) apart (rw (last_after-none rs ∙ is) tt)
apart-behind rs hart more (Some (One e)) is apart = apart-push None rs (Run hart more) apart (rw (last_after-none rs ∙ is) tt)
apart-behind rs hart more (Some (Run last count)) is apart =
    elim (eqb_tells hart last) [
      | inl same ↦ rw same.0 (apart-longer rs last count (count + more) is apart)
      | inr other ↦ rw other.0 (apart-push None rs (Run hart more) apart (rw (last_after-none rs ∙ is) other.1))
    ]

pub apart-events : (rs : List Record) (hart more : ℕ) → AreApart None rs → AreApart None (events_added rs hart more)
apart-events rs hart more apart = apart-behind rs hart more (last_record rs) refl apart

pub differs-one : (before : Option Record) (e : Entry) → Differs before (One e)
differs-one None e = tt
differs-one (Some (One _)) e = tt
differs-one (Some (Run _ _)) e = tt

pub apart-added : (rs : List Record) (e : Entry) → AreApart None rs → AreApart None (added rs e)
apart-added rs (entry.Hart hart) apart = apart-events rs hart 1 apart
apart-added rs e apart = apart-push None rs (One e) apart (differs-one _ e)

-- an end line stays where it is
pub end-one : (rs : List Record) (end : Option EndLine) (e : Entry) → EndFits rs end → EndFits (rs ++ One e ∷ []) end
end-one rs None e ended = tt
end-one rs (Some end) e ended =
    let place : end.records ≤ length rs = ended.place in
    record {
      place = omega (arith, length-append rs (One e ∷ []));
      cause = ended.cause;
      entries = rw (take-append-le end.records rs (One e ∷ []) place) ended.entries;
      after = rw (drop-append-le end.records rs (One e ∷ []) place) (each-push IsNoRun (drop end.records rs) (One e) ended.after tt);
    }

pub end-added : (rs : List Record) (end : Option EndLine) (e : Entry) → EndFits rs end → MayFollow (outer_of end) e → EndFits (added rs e) end
end-added rs None e ended follows = tt
end-added rs (Some end) (entry.Hart hart) ended follows = absurd follows
end-added rs (Some end) e ended follows = end-one rs (Some end) e ended

-- bytes of payload
pub payload-more : (first second : List Entry) → payload_bytes (first ++ second) ≡ payload_bytes first + payload_bytes second
unfolding payload_bytes
payload-more first second = sum_by-append payload_in first second

pub payload-one : (e : Entry) → payload_bytes (e ∷ []) ≡ payload_in e
unfolding payload_bytes
payload-one e = omega arith

pub payload-run : (n hart : ℕ) → payload_bytes (replicate n (entry.Hart hart)) ≡ 0
unfolding payload_bytes
payload-run n hart = sum_by-replicate payload_in n (entry.Hart hart) ∙ omega arith

-- an entry more
pub kept-added : (rs : List Record) (end : Option EndLine) (events payload : ℕ) (e : Entry) → IsKept rs end events payload
    → length (entries_of rs) < 2 ^ 32 - 1 → length (added rs e) < 2 ^ 32 → FitsEntry e → IsEntry e → MayFollow (outer_of end) e
    → IsKept (added rs e) end (events + 1) (payload + payload_in e)
kept-added rs end events payload e kept few bound fits is follows = record {
  are = record {
    each = each-added rs e kept.are.each fits is (can-count rs 1 (omega arith));
    apart = apart-added rs e kept.are.apart;
    few = bound;
    ended = end-added rs end e kept.are.ended follows;
  };
  counted = rw (entries-added rs e) (omega (arith, kept.counted, length-append (entries_of rs) (e ∷ [])));
  carried = rw (entries-added rs e, payload-more (entries_of rs) (e ∷ []), payload-one e) (omega (arith, kept.carried));
}

-- events of a hart more, where no end was set
pub end-open : (rs : List Record) (end : Option EndLine) → outer_of end ≡ None → EndFits rs end
end-open rs None none = tt
end-open rs (Some end) none = absurd (false≢true (ap is_some (sym none)))

pub kept-events : (rs : List Record) (end : Option EndLine) (events payload hart more : ℕ) → IsKept rs end events payload
    → length (entries_of rs) + more < 2 ^ 32 → length (events_added rs hart more) < 2 ^ 32 → hart < 8 → 0 < more → outer_of end ≡ None
    → IsKept (events_added rs hart more) end (events + more) payload
kept-events rs end events payload hart more kept few bound fits some none = record {
  are = record {
    each = each-events rs hart more kept.are.each fits some (can-count rs more few);
    apart = apart-events rs hart more kept.are.apart;
    few = bound;
    ended = end-open (events_added rs hart more) end none;
  };
  counted = rw (entries-events rs hart more) (omega (arith, kept.counted, length-append (entries_of rs) (replicate more (entry.Hart hart)), length-replicate more (entry.Hart hart)));
  carried = rw (entries-events rs hart more, payload-more (entries_of rs) (replicate more (entry.Hart hart)), payload-run more hart) (omega (arith, kept.carried));
}

-- the records with an entry added are as many as they were, and those that it needs
pub length-behind : (rs : List Record) (hart more : ℕ) (last : Option Record) → last_record rs ≡ last → length (events_behind rs hart more (run_of last)) ≡ length rs + record_needed last (entry.Hart hart)
length-behind rs hart more None is = length-append rs (Run hart more ∷ [])
length-behind rs hart more (Some (One e)) is = length-append rs (Run hart more ∷ [])
length-behind rs hart more (Some (Run last count)) is = elim (eqb_tells hart last) [
  | inl same ↦ rw same.0 (length-set rs (length rs - 1) (Run last (count + more)) ∙ omega arith)
  | inr other ↦ rw other.0 (length-append rs (Run hart more ∷ []))
]

pub length-events : (rs : List Record) (hart more : ℕ) → length (events_added rs hart more) ≡ length rs + record_needed (last_record rs) (entry.Hart hart)
length-events rs hart more = length-behind rs hart more (last_record rs) refl

pub length-added : (rs : List Record) (e : Entry) → length (added rs e) ≡ length rs + record_needed (last_record rs) e
length-added rs (entry.Hart hart) = length-events rs hart 1
length-added rs e = length-append rs (One e ∷ [])

pub count-kept : (rs : List Record) (end : Option EndLine) (events payload : ℕ) → IsKept rs end events payload → record_count (entries_of rs) ≡ length rs
count-kept rs end events payload kept = count-again rs kept.are.each kept.are.apart

-- so the definition counts them as the code does
some-behind : (rs : List Record) (hart : ℕ) (last : Option Record) → last_record rs ≡ last → AllByRecursion IsSome rs → AllByRecursion IsSome (events_behind rs hart 1 (run_of last))
some-behind rs hart None is each = each-push IsSome rs (Run hart 1) each (omega arith)
some-behind rs hart (Some (One e)) is each = each-push IsSome rs (Run hart 1) each (omega arith)
some-behind rs hart (Some (Run last count)) is each =
    elim (eqb_tells hart last) [
      | inl same ↦ rw same.0 (each-longer IsSome rs (Run last count) (Run last (count + 1)) is each (omega arith))
      | inr other ↦ rw other.0 (each-push IsSome rs (Run hart 1) each (omega arith))
    ]

some-added : (rs : List Record) (e : Entry) → AllByRecursion IsSome rs → AllByRecursion IsSome (added rs e)
some-added rs (entry.Hart hart) each = some-behind rs hart (last_record rs) refl each
some-added rs e each = each-push IsSome rs (One e) each tt

pub count-added : (rs : List Record) (end : Option EndLine) (events payload : ℕ) (e : Entry) → IsKept rs end events payload
    → record_count (entries_of rs ++ e ∷ []) ≡ length rs + record_needed (last_record rs) e
unfolding record_count
count-added rs end events payload e kept =
    ap (λ (es : List Entry). length (records_of es)) (sym (entries-added rs e))
    ∙ ap length (records-of-runs None (added rs e) (some-added rs e (each-is-some rs kept.are.each)) (apart-added rs e kept.are.apart))
    ∙ length-added rs e

-- the end that no event made is that of the end line
pub has-line : (rs : List Record) (end : Option EndLine) (events payload : ℕ) (entries : List Entry) → IsKept rs end events payload → entries_of rs ≡ entries
    → IsOuterEnd entries (outer_of end)
has-line rs end events payload entries kept is = record {
  line = end;
  fits = rw (kept-records rs entries kept.are.each kept.are.apart is) kept.are.ended;
  outer_is = refl;
}
