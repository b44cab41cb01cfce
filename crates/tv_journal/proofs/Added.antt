-- Records with one more at their end, or with an entry added.
use Rattle.std.proofs.Common.{◌≡◌, ℕ, zero, suc, ◌+◌, ◌-◌, ◌<◌, List, [], ◌∷◌, ◌++◌, Option, Some, None, replicate, length, set, take, refl, ap, sym, ◌∙◌, append_assoc, append-nil, arith, length-set, inl, inr}
use Rattle.std.proofs.lemmas.Bool.Decides.{eqb_tells}
use Rattle.std.proofs.lemmas.Grind.{flat_map-append, take-set_at}
use Rattle.std.proofs.lemmas.List.{take_more, take_all}
use Rattle.std.proofs.lemmas.Option.{slice_get_within, get_or_from_slice_get}
use Rattle.std.specs.List.{AllByRecursion, slice_get}
use Rattle.tv_journal.specs.declared.Entry.{Entry}
use Rattle.tv_journal.specs.declared.Entry.TheVariants as entry
use Rattle.tv_journal.specs.Entries.{Record, Run, One, entries_in, entries_of}
use Rattle.tv_journal.specs.Grammar.{Differs, AreApart, last_record}
use Rattle.tv_journal.specs.Stores.{run_of, added, events_added, events_behind}

-- the last of the records, or else the one that stands before them
abbrev pub last_after : Option Record → List Record → Option Record
last_after before [] = before
last_after before (r ∷ rs) = last_after (Some r) rs

pub last_after-push : (before : Option Record) (rs : List Record) (r : Record) → last_after before (rs ++ r ∷ []) ≡ Some r
last_after-push before [] r = refl
last_after-push before (x ∷ rs) r = last_after-push (Some x) rs r

pub last_after-some : (x : Record) (rs : List Record) → last_after (Some x) rs ≡ slice_get (x ∷ rs) (length rs)
last_after-some x [] = refl
last_after-some x (r ∷ rs) = last_after-some r rs

pub last_after-none : (rs : List Record) → last_after None rs ≡ last_record rs
last_after-none [] = refl
last_after-none (x ∷ rs) = let one_less : length (x ∷ rs) - 1 ≡ length rs = omega arith in rw one_less (last_after-some x rs)

pub last_record-push : (rs : List Record) (r : Record) → last_record (rs ++ r ∷ []) ≡ Some r
last_record-push rs r = sym (last_after-none (rs ++ r ∷ [])) ∙ last_after-push None rs r

-- the same element so often more
pub replicate-more : (n more : ℕ) (e : Entry) → replicate (n + more) e ≡ replicate n e ++ replicate more e
replicate-more zero more e =
    let same : 0 + more ≡ more = omega arith in
    ap (λ (k : ℕ). replicate k e) same
replicate-more (suc n) more e =
    let same : suc n + more ≡ suc (n + more) = omega arith in
    ap (λ (k : ℕ). replicate k e) same ∙ ap (λ (es : List Entry). e ∷ es) (replicate-more n more e)

-- what holds of each record holds of each with one more
pub each-push : (P : Record → Type 0) (rs : List Record) (r : Record) → AllByRecursion P rs → P r → AllByRecursion P (rs ++ r ∷ [])
each-push P [] r each here = (here, tt)
each-push P (x ∷ rs) r each here = (each.0, each-push P rs r each.1 here)

pub each-front : (P : Record → Type 0) (rs : List Record) (r : Record) → AllByRecursion P (rs ++ r ∷ []) → AllByRecursion P rs × P r
each-front P [] r each = (tt, each.0)
each-front P (x ∷ rs) r each = let more = each-front P rs r each.1 in ((each.0, more.0), more.1)

-- one more record that differs from the last
pub apart-push : (before : Option Record) (rs : List Record) (r : Record) → AreApart before rs → Differs (last_after before rs) r → AreApart before (rs ++ r ∷ [])
apart-push before [] r apart here = (here, tt)
apart-push before (x ∷ rs) r apart here = (apart.0, apart-push (Some x) rs r apart.1 here)

pub apart-front : (before : Option Record) (rs : List Record) (r : Record) → AreApart before (rs ++ r ∷ []) → AreApart before rs × Differs (last_after before rs) r
apart-front before [] r apart = (tt, apart.0)
apart-front before (x ∷ rs) r apart = let more = apart-front (Some x) rs r apart.1 in ((apart.0, more.0), more.1)

-- how long a run is does not matter to what stands before it
pub differs-same : (before : Option Record) (hart m n : ℕ) → Differs before (Run hart m) → Differs before (Run hart n)
differs-same None hart m n differs = tt
differs-same (Some (One _)) hart m n differs = tt
differs-same (Some (Run _ _)) hart m n differs = differs

-- records with a last one are those before it and that one
pub ends-with : (rs : List Record) (r : Record) → last_record rs ≡ Some r → rs ≡ take (length rs - 1) rs ++ r ∷ []
ends-with rs r is =
    let within : length rs - 1 < length rs = slice_get_within rs (length rs - 1) r is in
    let all : length rs - 1 + 1 ≡ length rs = omega arith in
    sym (take_all (length rs - 1 + 1) rs (omega arith)) ∙ take_more rs (length rs - 1) r within
    ∙ ap (λ (x : Record). take (length rs - 1) rs ++ x ∷ []) (get_or_from_slice_get rs (length rs - 1) r r is)

pub set-last : (rs : List Record) (old r : Record) → last_record rs ≡ Some old → set rs (length rs - 1) r ≡ take (length rs - 1) rs ++ r ∷ []
set-last rs old r is =
    let within : length rs - 1 < length rs = slice_get_within rs (length rs - 1) old is in
    sym (take_all (length rs - 1 + 1) (set rs (length rs - 1) r) (omega (arith, length-set rs (length rs - 1) r)))
    ∙ take-set_at rs (length rs - 1) (length rs - 1 + 1) r refl within

-- what adding an entry comes to: one record more, or the last one with one event more
pub entries-push : (rs : List Record) (r : Record) → entries_of (rs ++ r ∷ []) ≡ entries_of rs ++ entries_in r
entries-push rs r = flat_map-append entries_in rs (r ∷ []) ∙ ap (λ (es : List Entry). entries_of rs ++ es) (append-nil (entries_in r))

-- the last record with so many events more
pub entries-longer : (rs : List Record) (hart count more : ℕ) → last_record rs ≡ Some (Run hart count)
    → entries_of (set rs (length rs - 1) (Run hart (count + more))) ≡ entries_of rs ++ replicate more (entry.Hart hart)
entries-longer rs hart count more is =
    let front = take (length rs - 1) rs in
    ap entries_of (set-last rs (Run hart count) (Run hart (count + more)) is)
    ∙ entries-push front (Run hart (count + more))
    ∙ ap (λ (es : List Entry). entries_of front ++ es) (replicate-more count more (entry.Hart hart))
    ∙ sym (append_assoc (entries_of front) (replicate count (entry.Hart hart)) (replicate more (entry.Hart hart)))
    ∙ ap (λ (es : List Entry). es ++ replicate more (entry.Hart hart)) (sym (ap entries_of (ends-with rs (Run hart count) is) ∙ entries-push front (Run hart count)))

pub entries-behind : (rs : List Record) (hart more : ℕ) (last : Option Record) → last_record rs ≡ last
    → entries_of (events_behind rs hart more (run_of last)) ≡ entries_of rs ++ replicate more (entry.Hart hart)
entries-behind rs hart more None is = entries-push rs (Run hart more)
entries-behind rs hart more (Some (One e)) is = entries-push rs (Run hart more)
entries-behind rs hart more (Some (Run last count)) is =
    elim (eqb_tells hart last) [
      | inl same ↦ rw same.0 (entries-longer rs last count more is ∙ ap (λ (h : ℕ). entries_of rs ++ replicate more (entry.Hart h)) (sym same.1))
      | inr other ↦ rw other.0 (entries-push rs (Run hart more))
    ]

pub entries-events : (rs : List Record) (hart more : ℕ) → entries_of (events_added rs hart more) ≡ entries_of rs ++ replicate more (entry.Hart hart)
entries-events rs hart more = entries-behind rs hart more (last_record rs) refl

pub entries-added : (rs : List Record) (e : Entry) → entries_of (added rs e) ≡ entries_of rs ++ e ∷ []
entries-added rs (entry.Hart hart) = entries-events rs hart 1
entries-added rs e = entries-push rs (One e)

-- a record in place of the last one
pub each-longer : (P : Record → Type 0) (rs : List Record) (old r : Record) → last_record rs ≡ Some old → AllByRecursion P rs → P r
    → AllByRecursion P (set rs (length rs - 1) r)
each-longer P rs old r is each here =
    let front : AllByRecursion P (take (length rs - 1) rs ++ old ∷ []) = rw (← ends-with rs old is) each in
    rw (set-last rs old r is) (each-push P (take (length rs - 1) rs) r (each-front P _ _ front).0 here)

pub apart-longer : (rs : List Record) (hart count later : ℕ) → last_record rs ≡ Some (Run hart count) → AreApart None rs
    → AreApart None (set rs (length rs - 1) (Run hart later))
apart-longer rs hart count later is apart =
    let front : AreApart None (take (length rs - 1) rs ++ Run hart count ∷ []) = rw (← ends-with rs (Run hart count) is) apart in
    let parts = apart-front None (take (length rs - 1) rs) (Run hart count) front in
    rw (set-last rs (Run hart count) (Run hart later) is)
    (apart-push None (take (length rs - 1) rs) (Run hart later) parts.0 (differs-same _ hart count later parts.1))
