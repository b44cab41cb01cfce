-- Records and the entries that they hold.
use Rattle.std.proofs.Common.{◌≡◌, ℕ, zero, suc, ◌*◌, ◌-◌, ◌^◌, ◌<◌, ◌≤◌, List, [], ◌∷◌, ◌++◌, Option, Some, None, replicate, length, refl, ap, sym, ◌∙◌, append-nil, arith, inl, inr}
use Rattle.std.proofs.lemmas.Bool.Decides.{nat_tests, eqb_tells}
use Rattle.std.proofs.lemmas.Grind.{common_steps}
use Rattle.std.specs.List.{AllByRecursion}
use Rattle.tv_journal.specs.declared.Entry.{Entry}
use Rattle.tv_journal.specs.declared.Entry.TheVariants as entry
use Rattle.tv_journal.specs.Entries.{Record, Run, One, entries_of, joined, records_of, record_count}
use Rattle.tv_journal.specs.Grammar.{IsRecord, AreApart}

-- an event of a hart before records of which the first is not of that hart
pub joined-apart : (hart n : ℕ) (rs : List Record) → AreApart (Some (Run hart n)) rs → joined (entry.Hart hart) rs ≡ Run hart 1 ∷ rs
joined-apart hart n [] apart = refl
joined-apart hart n (One e ∷ rs) apart = refl
joined-apart hart n (Run other m ∷ rs) apart = grind (arith, nat_tests)

-- events of a hart before such records are one record
pub run-joined : (k hart n : ℕ) (es : List Entry) (rs : List Record) → AreApart (Some (Run hart n)) rs → records_of es ≡ rs
    → records_of (replicate (suc k) (entry.Hart hart) ++ es) ≡ Run hart (suc k) ∷ rs
unfolding records_of
run-joined zero hart n es rs apart is = ap (joined (entry.Hart hart)) is ∙ joined-apart hart n rs apart
run-joined (suc k) hart n es rs apart is =
    ap (joined (entry.Hart hart)) (run-joined k hart n es rs apart is) ∙ grind (arith, nat_tests)

-- records that are as many, of which the first ones are runs of the same hart, or no runs
abbrev pub IsLike : Record → Record → Type 0
IsLike (Run hart m) (Run other n) = hart ≡ other
IsLike (One a) (One b) = Unit {0}
IsLike _ _ = ⊥

abbrev pub AreAlike : List Record → List Record → Type 0
AreAlike [] [] = Unit {0}
AreAlike (r ∷ rs) (s ∷ ss) = IsLike r s × (length rs ≡ length ss)
AreAlike _ _ = ⊥

alike-many : (rs ss : List Record) → AreAlike rs ss → length rs ≡ length ss
alike-many [] [] like = refl
alike-many (r ∷ rs) (s ∷ ss) like = ap suc like.1
alike-many [] (s ∷ ss) like = absurd like
alike-many (r ∷ rs) [] like = absurd like

-- an entry before them leaves them so
joined-alike : (e : Entry) (rs ss : List Record) → AreAlike rs ss → AreAlike (joined e rs) (joined e ss)
joined-alike (entry.Hart hart) [] [] like = (refl, refl)
joined-alike (entry.Hart hart) (One x ∷ rs) (One y ∷ ss) like = (refl, ap suc like.1)
joined-alike (entry.Hart hart) (Run a m ∷ rs) (Run b n ∷ ss) like =
    rw (← like.0) (elim (eqb_tells hart a) [
      | inl same ↦ rw same.0 (refl, like.1)
      | inr other ↦ rw other.0 (refl, ap suc like.1)
    ])
joined-alike (entry.Hart hart) [] (s ∷ ss) like = absurd like
joined-alike (entry.Hart hart) (r ∷ rs) [] like = absurd like
joined-alike (entry.Hart hart) (Run a m ∷ rs) (One y ∷ ss) like = absurd like.0
joined-alike (entry.Hart hart) (One x ∷ rs) (Run b n ∷ ss) like = absurd like.0
joined-alike e rs ss like = (tt, alike-many rs ss like)

run-alike : (es : List Entry) (hart k : ℕ) → AreAlike (records_of (es ++ replicate (suc k) (entry.Hart hart))) (records_of (es ++ entry.Hart hart ∷ []))
unfolding records_of
run-alike [] hart k =
    let run : records_of (replicate (suc k) (entry.Hart hart)) ≡ Run hart (suc k) ∷ [] =
    ap records_of (sym (append-nil (replicate (suc k) (entry.Hart hart)))) ∙ run-joined k hart 1 [] [] tt refl in
    rw run (refl, refl)
run-alike (x ∷ es) hart k = joined-alike x _ _ (run-alike es hart k)

-- some events of a hart take as much room as one of them
pub run-count : (es : List Entry) (hart k : ℕ) → record_count (es ++ replicate (suc k) (entry.Hart hart)) ≡ record_count (es ++ entry.Hart hart ∷ [])
unfolding record_count
run-count es hart k = alike-many _ _ (run-alike es hart k)

-- a record as the records of entries are: a run of some events, or no event of a hart
abbrev pub IsSome : Record → Type 0
IsSome (Run hart count) = 0 < count
IsSome (One (entry.Hart hart)) = ⊥
IsSome (One _) = Unit {0}

-- the records of the events of records are those records
pub records-of-runs : (before : Option Record) (rs : List Record) → AllByRecursion IsSome rs → AreApart before rs → records_of (entries_of rs) ≡ rs
unfolding records_of
records-of-runs before [] each apart = refl
records-of-runs before (Run hart zero ∷ rs) each apart = absurd (omega arith)
records-of-runs before (Run hart (suc k) ∷ rs) each apart =
    run-joined k hart (suc k) (entries_of rs) rs apart.1 (records-of-runs (Some (Run hart (suc k))) rs each.1 apart.1)
records-of-runs before (One (entry.Hart hart) ∷ rs) each apart = absurd each.0
records-of-runs before (One e ∷ rs) each apart = ap (λ (more : List Record). One e ∷ more) (records-of-runs (Some (One e)) rs each.1 apart.1)

is-some : (r : Record) → IsRecord r → IsSome r
is-some (Run hart count) is = is.1
is-some (One (entry.Hart hart)) is = absurd is
is-some (One e) is = tt

pub each-is-some : (rs : List Record) → AllByRecursion IsRecord rs → AllByRecursion IsSome rs
each-is-some [] each = tt
each-is-some (r ∷ rs) each = (is-some r each.0, each-is-some rs each.1)

pub records-again : (before : Option Record) (rs : List Record) → AllByRecursion IsRecord rs → AreApart before rs → records_of (entries_of rs) ≡ rs
records-again before rs each apart = records-of-runs before rs (each-is-some rs each) apart

pub count-again : (rs : List Record) → AllByRecursion IsRecord rs → AreApart None rs → record_count (entries_of rs) ≡ length rs
unfolding record_count
count-again rs each apart = ap length (records-again None rs each apart)

-- no more events than records can count
pub entries_at_most : (rs : List Record) → AllByRecursion IsRecord rs → length (entries_of rs) ≤ (2 ^ 32 - 1) * length rs
entries_at_most [] each = omega arith
entries_at_most (One e ∷ rs) each = let more = entries_at_most rs each.1 in omega arith
entries_at_most (Run hart count ∷ rs) each =
    let more = entries_at_most rs each.1 in grind (arith, common_steps)

-- the records of a journal, as its entries show them
pub kept-records : (rs : List Record) (entries : List Entry) → AllByRecursion IsRecord rs → AreApart None rs → entries_of rs ≡ entries → records_of entries ≡ rs
kept-records rs entries each apart is = ap records_of (sym is) ∙ records-again None rs each apart
