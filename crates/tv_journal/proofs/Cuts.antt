-- The records of entries: they hold those entries, and a front of them is the records of its own entries.
use Rattle.std.proofs.Common.{◌≡◌, ℕ, zero, suc, ◌+◌, ◌<◌, ◌≤◌, List, [], ◌∷◌, ◌++◌, Option, Some, None, replicate, length, take, refl, ap, sym, ◌∙◌, arith, add-one, inl, inr}
use Rattle.std.proofs.lemmas.Bool.Decides.{eqb_tells}
use Rattle.std.proofs.lemmas.List.{length-take}
use Rattle.std.specs.List.{AllByRecursion}
use Rattle.tv_journal.specs.declared.Entry.{Entry}
use Rattle.tv_journal.specs.declared.Entry.TheVariants as entry
use Rattle.tv_journal.specs.Entries.{Record, Run, One, entries_of, joined, records_of, record_count}
use Rattle.tv_journal.specs.Grammar.{AreApart}
use Rattle.tv_journal.proofs.Records.{IsSome, records-of-runs}

-- an event before records
pub entries-joined : (e : Entry) (rs : List Record) → entries_of (joined e rs) ≡ e ∷ entries_of rs
entries-joined (entry.Hart hart) [] = refl
entries-joined (entry.Hart hart) (One e ∷ rs) = refl
entries-joined (entry.Hart hart) (Run other count ∷ rs) = elim (eqb_tells hart other) [
  | inl same ↦ rw (same.0, add-one) (ap (λ (h : ℕ). entry.Hart h ∷ (replicate count (entry.Hart other) ++ entries_of rs)) (sym same.1))
  | inr apart ↦ rw apart.0 refl
]
entries-joined e rs = refl

-- the events of the records of entries are those entries
pub entries-again : (es : List Entry) → entries_of (records_of es) ≡ es
unfolding records_of
entries-again [] = refl
entries-again (e ∷ es) = entries-joined e (records_of es) ∙ ap (λ (more : List Entry). e ∷ more) (entries-again es)

-- each of those records has an event, and none is a run of the hart of the one before it
pub some-joined : (e : Entry) (rs : List Record) → AllByRecursion IsSome rs → AllByRecursion IsSome (joined e rs)
some-joined (entry.Hart hart) [] each = (omega arith, tt)
some-joined (entry.Hart hart) (One e ∷ rs) each = (omega arith, each)
some-joined (entry.Hart hart) (Run other count ∷ rs) each = elim (eqb_tells hart other) [
  | inl same ↦ rw same.0 (let some : 0 < count + 1 = omega arith in (some, each.1))
  | inr apart ↦ rw apart.0 (let some : 0 < 1 = omega arith in (some, each))
]
some-joined e rs each = (tt, each)

pub each-some : (es : List Entry) → AllByRecursion IsSome (records_of es)
unfolding records_of
each-some [] = tt
each-some (e ∷ es) = some-joined e (records_of es) (each-some es)

apart-longer-first : (hart m n : ℕ) (rs : List Record) → AreApart (Some (Run hart m)) rs → AreApart (Some (Run hart n)) rs
apart-longer-first hart m n [] apart = tt
apart-longer-first hart m n (One e ∷ rs) apart = apart
apart-longer-first hart m n (Run other k ∷ rs) apart = apart

apart-behind-one : (e : Entry) (rs : List Record) → AreApart None rs → AreApart (Some (One e)) rs
apart-behind-one e [] apart = tt
apart-behind-one e (One f ∷ rs) apart = apart
apart-behind-one e (Run hart k ∷ rs) apart = apart

pub apart-joined : (e : Entry) (rs : List Record) → AreApart None rs → AreApart None (joined e rs)
apart-joined (entry.Hart hart) [] apart = (tt, tt)
apart-joined (entry.Hart hart) (One e ∷ rs) apart = (tt, apart)
apart-joined (entry.Hart hart) (Run other count ∷ rs) apart = elim (eqb_tells hart other) [
  | inl same ↦ rw same.0 (tt, apart-longer-first other count (count + 1) rs apart.1)
  | inr differs ↦ rw differs.0 (tt, ((λ is. differs.1 (sym is)), apart.1))
]
apart-joined e rs apart = (tt, apart-behind-one e rs apart)

pub are-apart : (es : List Entry) → AreApart None (records_of es)
unfolding records_of
are-apart [] = tt
are-apart (e ∷ es) = apart-joined e (records_of es) (are-apart es)

-- a front of records
each-front : (n : ℕ) (rs : List Record) → AllByRecursion IsSome rs → AllByRecursion IsSome (take n rs)
each-front zero rs each = tt
each-front (suc n) [] each = tt
each-front (suc n) (r ∷ rs) each = (each.0, each-front n rs each.1)

apart-front : (n : ℕ) (before : Option Record) (rs : List Record) → AreApart before rs → AreApart before (take n rs)
apart-front zero before rs apart = tt
apart-front (suc n) before [] apart = tt
apart-front (suc n) before (r ∷ rs) apart = (apart.0, apart-front n (Some r) rs apart.1)

pub records-of-front : (es : List Entry) (n : ℕ) → records_of (entries_of (take n (records_of es))) ≡ take n (records_of es)
records-of-front es n =
    records-of-runs None (take n (records_of es)) (each-front n (records_of es) (each-some es)) (apart-front n None (records_of es) (are-apart es))

pub count-of-front : (es : List Entry) (n : ℕ) → n ≤ record_count es → record_count (entries_of (take n (records_of es))) ≡ n
unfolding record_count
count-of-front es n within = ap length (records-of-front es n) ∙ grind (arith, length-take)
