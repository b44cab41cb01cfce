-- A journal has one spelling, and a file one reading.
use Rattle.std.proofs.Common.{◌≡◌, ℕ, zero, suc, ◌<◌, ◌≤◌, List, [], ◌∷◌, Option, Some, None, length, take, refl, ap, sym, ◌∙◌, subst, arith, length-append}
use Rattle.std.proofs.lemmas.List.{length-replicate}
use Rattle.std.proofs.lemmas.Option.{none-some}
use Rattle.std.specs.List.{AllByRecursion}
use Rattle.tv_base.specs.declared.Why.{Why}
use Rattle.tv_journal.specs.declared.Entry.{Entry}
use Rattle.tv_journal.specs.declared.Entry.TheVariants as entry
use Rattle.tv_journal.specs.declared.record.EndLine.{EndLine}
use Rattle.tv_journal.specs.Entries.{Record, Run, One, entries_in, entries_of}
use Rattle.tv_journal.specs.Grammar.{Lines, IsRecord, EndFits, SpellsJournal, file_bytes, outer_of}
use Rattle.tv_journal.specs.Reading.{Read, first_read, read_all}
use Rattle.tv_journal.proofs.Files.{read-file, behind}
use Rattle.tv_journal.proofs.Records.{kept-records}

-- each record has an entry
pub some-entry : (r : Record) → IsRecord r → 0 < length (entries_in r)
some-entry (One e) is = omega arith
some-entry (Run hart count) is = omega (arith, length-replicate count (entry.Hart hart))

-- so the number of entries before a place tells the place
pub same-place : (rs : List Record) (m n : ℕ) → AllByRecursion IsRecord rs → m ≤ length rs → n ≤ length rs
    → length (entries_of (take m rs)) ≡ length (entries_of (take n rs)) → m ≡ n
same-place [] m n each fits_m fits_n same = omega arith
same-place (r ∷ rs) zero zero each fits_m fits_n same = refl
same-place (r ∷ rs) zero (suc n) each fits_m fits_n same =
    absurd (omega (arith, some-entry r each.0, length-append (entries_in r) (entries_of (take n rs))))
same-place (r ∷ rs) (suc m) zero each fits_m fits_n same =
    absurd (omega (arith, some-entry r each.0, length-append (entries_in r) (entries_of (take m rs))))
same-place (r ∷ rs) (suc m) (suc n) each fits_m fits_n same =
    ap suc (same-place rs m n each.1 (omega arith) (omega arith)
    (omega (arith, length-append (entries_in r) (entries_of (take m rs)), length-append (entries_in r) (entries_of (take n rs)))))

pub same-line : (a b : EndLine) → a.records ≡ b.records → a.entries ≡ b.entries → a.why ≡ b.why → a ≡ b
same-line a b records entries cause =
    ap (λ (n : ℕ). let e : EndLine = record { records = n; entries = a.entries; why = a.why } in e) records
    ∙ ap (λ (n : ℕ). let e : EndLine = record { records = b.records; entries = n; why = a.why } in e) entries
    ∙ ap (λ (w : Why). let e : EndLine = record { records = b.records; entries = b.entries; why = w } in e) cause

pub same-end : (rs : List Record) (a b : Option EndLine) → AllByRecursion IsRecord rs → EndFits rs a → EndFits rs b → outer_of a ≡ outer_of b → a ≡ b
same-end rs None None each fits_a fits_b same = refl
same-end rs None (Some b) each fits_a fits_b same = absurd (none-some (b.entries, b.why) same)
same-end rs (Some a) None each fits_a fits_b same = absurd (none-some (a.entries, a.why) (sym same))
same-end rs (Some a) (Some b) each fits_a fits_b same =
    let pair : ◌≡◌ {A = ℕ × Why} (a.entries, a.why) (b.entries, b.why) = cc in
    let entries : a.entries ≡ b.entries = ap (λ (p : ℕ × Why). p.0) pair in
    let place : a.records ≡ b.records =
    same-place rs a.records b.records each fits_a.place fits_b.place (sym fits_a.entries ∙ entries ∙ fits_b.entries) in
    ap Some (same-line a b place entries (ap (λ (p : ℕ × Why). p.1) pair))

pub same-lines : (a b : Lines) → a.records ≡ b.records → a.end ≡ b.end → a ≡ b
same-lines a b records end =
    ap (λ (rs : List Record). let lines : Lines = record { records = rs; end = a.end } in lines) records
    ∙ ap (λ (e : Option EndLine). let lines : Lines = record { records = b.records; end = e } in lines) end

pub one-spelling : (first second : List ℕ) (entries : List Entry) (outer : Option (ℕ × Why)) → SpellsJournal first entries outer → SpellsJournal second entries outer
    → first ≡ second
one-spelling first second entries outer a b =
    let records : a.lines.records ≡ b.lines.records =
    sym (kept-records a.lines.records entries a.are.each a.are.apart (sym a.entries_are)) ∙ kept-records b.lines.records entries b.are.each b.are.apart (sym b.entries_are) in
    let ended : EndFits b.lines.records a.lines.end = subst (λ (rs : List Record). EndFits rs a.lines.end) records a.are.ended in
    let end : a.lines.end ≡ b.lines.end = same-end b.lines.records a.lines.end b.lines.end b.are.each ended b.are.ended (sym a.outer_is ∙ b.outer_is) in
    a.spelled ∙ ap file_bytes (same-lines a.lines b.lines records end) ∙ sym b.spelled

pub one-reading : (bytes : List ℕ) (first second : List Entry) (before after : Option (ℕ × Why)) → SpellsJournal bytes first before → SpellsJournal bytes second after
    → (first ≡ second) × (before ≡ after)
one-reading bytes first second before after a b =
    let same : Some (behind a.lines.records a.lines.end) ≡ Some (behind b.lines.records b.lines.end) =
    sym (read-file a.lines a.are) ∙ ap (λ (xs : List ℕ). read_all (Some first_read) xs) (sym a.spelled ∙ b.spelled) ∙ read-file b.lines b.are in
    let read : behind a.lines.records a.lines.end ≡ behind b.lines.records b.lines.end = cc in
    (a.entries_are ∙ ap (λ (r : Read). entries_of r.records) read ∙ sym b.entries_are, a.outer_is ∙ ap (λ (r : Read). outer_of r.end) read ∙ sym b.outer_is)
