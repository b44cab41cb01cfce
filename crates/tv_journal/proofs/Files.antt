-- A journal file is read to its end.
use Rattle.std.proofs.Common.{◌≡◌, ◌≢◌, ℕ, zero, suc, ◌+◌, ◌-◌, ◌^◌, ◌<◌, ◌≤◌, ltb, leb, cond, Bool, get_or, List, [], ◌∷◌, ◌++◌, Option, Some, None, true, false, eqb, length, take, drop, refl, ap, sym, ◌∙◌, append_assoc, append-nil, arith, length-append}
use Rattle.std.specs.Prelude.{codes, flat_map, if◌then◌else◌, nat_lt}
use Rattle.std.specs.Int.{w16, w32, to_le_bytes, from_le_bytes}
use Rattle.std.specs.List.{AllByRecursion}
use Rattle.std.proofs.lemmas.Bool.{ne_eqb, lt-ltb, le-ltb, le-leb}
use Rattle.std.proofs.lemmas.Nat.{from_le_bytes-to_le_bytes_2, from_le_bytes-to_le_bytes_4}
use Rattle.std.proofs.lemmas.List.{take-append-drop, length-take-le}
use Rattle.tv_base.specs.declared.Why.{Why}
use Rattle.tv_base.specs.declared.Why.TheVariants as why
use Rattle.tv_journal.specs.declared.record.EndLine.{EndLine}
use Rattle.tv_items.specs.declared.action.Heard.{Heard}
use Rattle.tv_items.specs.declared.action.Heard.TheVariants as heard
use Rattle.tv_journal.specs.declared.Entry.{Entry}
use Rattle.tv_journal.specs.declared.Entry.TheVariants as entry
use Rattle.tv_journal.specs.declared.reader.Code.{Code}
use Rattle.tv_journal.specs.declared.reader.Code.TheVariants as code
use Rattle.tv_journal.specs.declared.reader.Spot.TheVariants as spot
use Rattle.tv_journal.specs.Entries.{Record, Run, One, entries_of}
use Rattle.tv_journal.specs.Grammar.{Lines, entry_spelled, record_bytes, lines_bytes, end_bytes, closing_bytes, file_bytes, cause_byte, IsRecord, IsOutcome, IsSingle, IsNoRun, Differs, AreApart, AreLines, last_record}
use Rattle.tv_journal.specs.Reading.{Read, first_read, read_byte, read_next, read_all, is_of_hart, code_byte, greatest_length, with_length}
use Rattle.tv_journal.proofs.Added.{last_after, last_after-none, last_record-push}

-- bytes in two parts
pub read_all-append : (r : Option Read) (xs ys : List ℕ) → read_all r (xs ++ ys) ≡ read_all (read_all r xs) ys
unfolding read_all
read_all-append r [] ys = refl
read_all-append r (x ∷ xs) ys = read_all-append (read_next r x) xs ys

-- at the start of a line
abbrev pub at_line : List Record → Option EndLine → Read
at_line rs end = record { spot = spot.Line; field = []; records = rs; end = end }

-- behind the file
abbrev pub behind : List Record → Option EndLine → Read
behind rs end = record { spot = spot.Done; field = []; records = rs; end = end }

pub read-magic : (ys : List ℕ) → read_all (Some first_read) (codes "TVJ1" ++ ys) ≡ read_all (Some (at_line [] None)) ys
unfolding read_all read_byte
read-magic ys = refl

pub eqb-same : (n : ℕ) → eqb n n ≡ true
eqb-same n = grind arith

pub not-full : (rs : List Record) → length rs < 2 ^ 32 - 1 → eqb (length rs) (2 ^ 32 - 1) ≡ false
not-full rs few = ne_eqb (length rs) (2 ^ 32 - 1) (λ is. omega arith)

-- a code and a length
pub read-length : (device n : ℕ) (c : Code) (rs : List Record) (end : Option EndLine) (ys : List ℕ) → device < 8 → n ≤ greatest_length c → length rs < 2 ^ 32 - 1
    → read_all (Some (at_line rs end)) (0x0A ∷ device ∷ code_byte c ∷ (to_le_bytes w16 n ++ ys)) ≡ read_all (Some (with_length device c (at_line rs end) n)) ys
unfolding read_all read_byte
read-length device n code.Done rs end ys low most few =
    let first : leb (get_or (to_le_bytes w16 n) 0 0) 0 ≡ true = le-leb _ 0 (omega arith) in
    let again : from_le_bytes w16 (to_le_bytes w16 n) ≡ n = from_le_bytes-to_le_bytes_2 n (omega arith) in
    rw (not-full rs few, lt-ltb device 8 low, first, again, le-leb n 0 most) refl
read-length device n code.Failed rs end ys low most few =
    let first : leb (get_or (to_le_bytes w16 n) 0 0) 0 ≡ true = le-leb _ 0 (omega arith) in
    let again : from_le_bytes w16 (to_le_bytes w16 n) ≡ n = from_le_bytes-to_le_bytes_2 n (omega arith) in
    rw (not-full rs few, lt-ltb device 8 low, first, again, le-leb n 0 most) refl
read-length device n code.Bytes rs end ys low most few =
    let first : leb (get_or (to_le_bytes w16 n) 0 0) 4096 ≡ true = le-leb _ 4096 (omega arith) in
    let again : from_le_bytes w16 (to_le_bytes w16 n) ≡ n = from_le_bytes-to_le_bytes_2 n (omega arith) in
    rw (not-full rs few, lt-ltb device 8 low, first, again, le-leb n 4096 most) refl
read-length device n code.Taken rs end ys low most few =
    let first : leb (get_or (to_le_bytes w16 n) 0 0) 4096 ≡ true = le-leb _ 4096 (omega arith) in
    let again : from_le_bytes w16 (to_le_bytes w16 n) ≡ n = from_le_bytes-to_le_bytes_2 n (omega arith) in
    rw (not-full rs few, lt-ltb device 8 low, first, again, le-leb n 4096 most) refl

-- in the bytes that a device heard
abbrev pub in_bytes : ℕ → ℕ → List ℕ → List Record → Option EndLine → Read
in_bytes device len field rs end = record { spot = spot.Bytes device len; field = field; records = rs; end = end }

pub read-byte : (device len x : ℕ) (front : List ℕ) (rs : List Record) (end : Option EndLine) (ys : List ℕ)
    → read_all (Some (in_bytes device len front rs end)) (x ∷ ys)
    ≡ read_all (if nat_lt (length (front ++ x ∷ [])) len then Some (in_bytes device len (front ++ x ∷ []) rs end)
    else Some (at_line (rs ++ One (entry.Did device (heard.Bytes (front ++ x ∷ []))) ∷ []) end)) ys
unfolding read_all read_byte
read-byte device len x front rs end ys = refl

pub read-bytes : (device len x : ℕ) (front rest : List ℕ) (rs : List Record) (end : Option EndLine) (ys : List ℕ) → length front + length (x ∷ rest) ≡ len
    → read_all (Some (in_bytes device len front rs end)) ((x ∷ rest) ++ ys)
    ≡ read_all (Some (at_line (rs ++ One (entry.Did device (heard.Bytes (front ++ x ∷ rest))) ∷ []) end)) ys
read-bytes device len x front [] rs end ys is =
    let whole : ltb (length (front ++ x ∷ [])) len ≡ false = le-ltb (length (front ++ x ∷ [])) len (omega (arith, length-append front (x ∷ []))) in
    read-byte device len x front rs end ys ∙ rw whole refl
read-bytes device len x front (y ∷ rest) rs end ys is =
    let more : ltb (length (front ++ x ∷ [])) len ≡ true = lt-ltb (length (front ++ x ∷ [])) len (omega (arith, length-append front (x ∷ []))) in
    read-byte device len x front rs end ((y ∷ rest) ++ ys)
    ∙ rw more (read-bytes device len y (front ++ x ∷ []) rest rs end ys (omega (arith, length-append front (x ∷ [])))
    ∙ ap (λ (bytes : List ℕ). read_all (Some (at_line (rs ++ One (entry.Did device (heard.Bytes bytes)) ∷ []) end)) ys) (append_assoc front (x ∷ []) (y ∷ rest)))

-- what a device heard
pub read-heard : (device : ℕ) (h : Heard) (rs : List Record) (end : Option EndLine) (ys : List ℕ) → device < 8 → IsOutcome h → length rs < 2 ^ 32 - 1
    → read_all (Some (at_line rs end)) (entry_spelled (entry.Did device h) ++ ys) ≡ read_all (Some (at_line (rs ++ One (entry.Did device h) ∷ []) end)) ys
read-heard device heard.Done rs end ys low is few = read-length device 0 code.Done rs end ys low (omega arith) few
read-heard device heard.Refused rs end ys low is few = absurd is
read-heard device heard.Failed rs end ys low is few = read-length device 0 code.Failed rs end ys low (omega arith) few
read-heard device (heard.Taken count) rs end ys low is few = read-length device count code.Taken rs end ys low is few
read-heard device (heard.Bytes []) rs end ys low is few = read-length device 0 code.Bytes rs end ys low (omega arith) few
read-heard device (heard.Bytes (b ∷ bytes)) rs end ys low is few =
    let len = length (b ∷ bytes) in
    let some : eqb len 0 ≡ false = ne_eqb len 0 (λ none. omega arith) in
    ap (λ (xs : List ℕ). read_all (Some (at_line rs end)) (0x0A ∷ device ∷ 2 ∷ xs)) (append_assoc (to_le_bytes w16 len) (b ∷ bytes) ys)
    ∙ read-length device len code.Bytes rs end ((b ∷ bytes) ++ ys) low is few
    ∙ ap (λ (test : Bool). read_all (Some (cond test (at_line (rs ++ One (entry.Did device (heard.Bytes [])) ∷ []) end) (in_bytes device len [] rs end))) ((b ∷ bytes) ++ ys)) some
    ∙ read-bytes device len b [] bytes rs end ys (omega arith)

-- a number stands for itself
pub read-tick : (n : ℕ) (rs : List Record) (end : Option EndLine) (ys : List ℕ) → 0 < n → n < 2 ^ 32 → length rs < 2 ^ 32 - 1
    → read_all (Some (at_line rs end)) (entry_spelled (entry.Tick n) ++ ys) ≡ read_all (Some (at_line (rs ++ One (entry.Tick n) ∷ []) end)) ys
unfolding read_all read_byte
read-tick n rs end ys some fits few =
    let again : from_le_bytes w32 (to_le_bytes w32 n) ≡ n = from_le_bytes-to_le_bytes_4 n fits in
    let not_zero : eqb n 0 ≡ false = ne_eqb n 0 (λ is. omega arith) in
    rw (not-full rs few, again, not_zero) refl

-- a record that is no run
pub read-one : (e : Entry) (rs : List Record) (end : Option EndLine) (ys : List ℕ) → IsSingle e → length rs < 2 ^ 32 - 1
    → read_all (Some (at_line rs end)) (entry_spelled e ++ ys) ≡ read_all (Some (at_line (rs ++ One e ∷ []) end)) ys
unfolding read_all read_byte
read-one (entry.Hart hart) rs end ys is few = absurd is
read-one (entry.Take device) rs end ys is few = rw (not-full rs few, lt-ltb device 8 is) refl
read-one (entry.Send device) rs end ys is few = rw (not-full rs few, lt-ltb device 8 is) refl
read-one (entry.ServeMem device) rs end ys is few = rw (not-full rs few, lt-ltb device 8 is) refl
read-one (entry.ServeIrq device) rs end ys is few = rw (not-full rs few, lt-ltb device 8 is) refl
read-one (entry.Got device) rs end ys is few = rw (not-full rs few, lt-ltb device 8 is) refl
read-one (entry.Reply device) rs end ys is few = rw (not-full rs few, lt-ltb device 8 is) refl
read-one (entry.Deliver device) rs end ys is few = rw (not-full rs few, lt-ltb device 8 is) refl
read-one (entry.Intend device) rs end ys is few = rw (not-full rs few, lt-ltb device 8 is) refl
read-one (entry.Did device h) rs end ys is few = read-heard device h rs end ys is.0 is.1 few
read-one (entry.Tick n) rs end ys is few = read-tick n rs end ys is.0 is.1 few

pub not-of-hart : (before : Option Record) (hart count : ℕ) → Differs before (Run hart count) → is_of_hart before hart ≡ false
not-of-hart None hart count differs = refl
not-of-hart (Some (One _)) hart count differs = refl
not-of-hart (Some (Run last _)) hart count differs = ne_eqb hart last differs

pub read-hart : (hart count : ℕ) (rs : List Record) (ys : List ℕ) → IsRecord (Run hart count) → length rs < 2 ^ 32 - 1
    → Differs (last_record rs) (Run hart count)
    → read_all (Some (at_line rs None)) (record_bytes (Run hart count) ++ ys) ≡ read_all (Some (at_line (rs ++ Run hart count ∷ []) None)) ys
unfolding read_all read_byte
read-hart hart count rs ys fits few differs =
    let low : ltb hart 8 ≡ true = lt-ltb hart 8 fits.0 in
    let other : is_of_hart (last_record rs) hart ≡ false = not-of-hart (last_record rs) hart count differs in
    let again : from_le_bytes w32 (to_le_bytes w32 count) ≡ count = from_le_bytes-to_le_bytes_4 count fits.2 in
    let not_zero : eqb count 0 ≡ false = ne_eqb count 0 (λ is. omega arith) in
    rw (not-full rs few, low, other, again, not_zero) refl

-- a run stands before an end line alone
abbrev pub MayStand : Option EndLine → List Record → Type 0
MayStand None rs = Unit {0}
MayStand (Some _) rs = AllByRecursion IsNoRun rs

may-rest : (end : Option EndLine) (r : Record) (more : List Record) → MayStand end (r ∷ more) → MayStand end more
may-rest None r more may = tt
may-rest (Some end) r more may = may.1

-- records, one after the other
pub read-records : (more rs : List Record) (end : Option EndLine) (ys : List ℕ) → AllByRecursion IsRecord more → AreApart (last_record rs) more
    → length rs + length more < 2 ^ 32 → MayStand end more
    → read_all (Some (at_line rs end)) (flat_map record_bytes more ++ ys) ≡ read_all (Some (at_line (rs ++ more) end)) ys
read-records [] rs end ys each apart few may = rw append-nil refl
read-records (One e ∷ more) rs end ys each apart few may =
    let r = One e in
    ap (λ (xs : List ℕ). read_all (Some (at_line rs end)) xs) (append_assoc (entry_spelled e) (flat_map record_bytes more) ys)
    ∙ read-one e rs end (flat_map record_bytes more ++ ys) each.0 (omega arith)
    ∙ read-records more (rs ++ r ∷ []) end ys each.1 (rw (last_record-push rs r) apart.1) (omega (arith, length-append rs (r ∷ []))) (may-rest end r more may)
    ∙ ap (λ (xs : List Record). read_all (Some (at_line xs end)) ys) (append_assoc rs (r ∷ []) more)
read-records (Run hart count ∷ more) rs None ys each apart few may =
    let r = Run hart count in
    read-hart hart count rs (flat_map record_bytes more ++ ys) each.0 (omega arith) apart.0
    ∙ read-records more (rs ++ r ∷ []) None ys each.1 (rw (last_record-push rs r) apart.1) (omega (arith, length-append rs (r ∷ []))) tt
    ∙ ap (λ (xs : List Record). read_all (Some (at_line xs None)) ys) (append_assoc rs (r ∷ []) more)
read-records (Run hart count ∷ more) rs (Some end) ys each apart few may = absurd may.0

-- an end line
abbrev pub end_after : List Record → Why → EndLine
end_after rs cause = record { records = length rs; entries = length (entries_of rs); why = cause }

pub read-cause : (rs : List Record) (cause : Why) (ys : List ℕ) → cause_byte cause ≢ None
    → read_all (Some (at_line rs None)) (end_bytes (end_after rs cause) ++ ys) ≡ read_all (Some (at_line rs (Some (end_after rs cause)))) ys
unfolding read_all read_byte
read-cause rs why.Full ys is = refl
read-cause rs why.DebugLost ys is = refl
read-cause rs why.ListenFailed ys is = refl
read-cause rs why.CrewRefused ys is = refl
read-cause rs why.PowerOff ys is = absurd (is refl)
read-cause rs why.Stopped ys is = absurd (is refl)
read-cause rs (why.Failed code) ys is = absurd (is refl)
read-cause rs (why.Lost device) ys is = absurd (is refl)
read-cause rs why.Steps ys is = absurd (is refl)

pub end-is : (rs : List Record) (end : EndLine) → end.records ≡ length rs → end.entries ≡ length (entries_of rs) → end_after rs end.why ≡ end
end-is rs end records entries =
    ap (λ (n : ℕ). let e : EndLine = record { records = n; entries = length (entries_of rs); why = end.why } in e) (sym records)
    ∙ ap (λ (n : ℕ). let e : EndLine = record { records = end.records; entries = n; why = end.why } in e) (sym entries)

pub read-end : (rs : List Record) (end : EndLine) (ys : List ℕ) → cause_byte end.why ≢ None → end.records ≡ length rs → end.entries ≡ length (entries_of rs)
    → read_all (Some (at_line rs None)) (end_bytes end ++ ys) ≡ read_all (Some (at_line rs (Some end))) ys
read-end rs end ys cause records entries =
    read-cause rs end.why ys cause ∙ ap (λ (e : EndLine). read_all (Some (at_line rs (Some e))) ys) (end-is rs end records entries)

-- the end of a file
pub read-closing : (rs : List Record) (end : Option EndLine) → read_all (Some (at_line rs end)) (closing_bytes (length rs)) ≡ Some (behind rs end)
unfolding read_all read_byte
read-closing rs end = simp eqb-same refl

-- records before a place, and behind it
pub each-parts : (P : Record → Type 0) (n : ℕ) (rs : List Record) → AllByRecursion P rs → AllByRecursion P (take n rs) × AllByRecursion P (drop n rs)
each-parts P zero rs each = (tt, each)
each-parts P (suc n) [] each = (tt, tt)
each-parts P (suc n) (r ∷ rs) each = let more = each-parts P n rs each.1 in ((each.0, more.0), more.1)

pub apart-parts : (n : ℕ) (before : Option Record) (rs : List Record) → AreApart before rs → AreApart before (take n rs) × AreApart (last_after before (take n rs)) (drop n rs)
apart-parts zero before rs apart = (tt, apart)
apart-parts (suc n) before [] apart = (tt, tt)
apart-parts (suc n) before (r ∷ rs) apart = let more = apart-parts n (Some r) rs apart.1 in ((apart.0, more.0), more.1)

-- the lines of a file
pub read-lines : (rs : List Record) (end : Option EndLine) (ys : List ℕ) → AreLines (record { records = rs; end = end })
    → read_all (Some (at_line [] None)) (lines_bytes rs end ++ ys) ≡ read_all (Some (at_line rs end)) ys
read-lines rs None ys are = read-records rs [] None ys are.each are.apart (omega arith) tt
read-lines rs (Some end) ys are =
    let before = take end.records rs in
    let after = drop end.records rs in
    let each = each-parts IsRecord end.records rs are.each in
    let apart = apart-parts end.records None rs are.apart in
    let later : AreApart (last_record before) after = rw (← last_after-none before) apart.1 in
    let place : end.records ≡ length before = sym (length-take-le end.records rs are.ended.place) in
    ap (λ (xs : List ℕ). read_all (Some (at_line [] None)) xs)
    (append_assoc (flat_map record_bytes before ++ end_bytes end) (flat_map record_bytes after) ys
    ∙ append_assoc (flat_map record_bytes before) (end_bytes end) (flat_map record_bytes after ++ ys))
    ∙ read-records before [] None (end_bytes end ++ (flat_map record_bytes after ++ ys)) each.0 apart.0 (omega arith) tt
    ∙ read-end before end (flat_map record_bytes after ++ ys) are.ended.cause place are.ended.entries
    ∙ read-records after before (Some end) ys each.1 later (omega (arith, length-append before after, ap length (take-append-drop end.records rs))) are.ended.after
    ∙ ap (λ (xs : List Record). read_all (Some (at_line xs (Some end))) ys) (take-append-drop end.records rs)

-- the whole file
pub read-file : (lines : Lines) → AreLines lines → read_all (Some first_read) (file_bytes lines) ≡ Some (behind lines.records lines.end)
read-file lines are =
    read-magic (lines_bytes lines.records lines.end ++ closing_bytes (length lines.records))
    ∙ read-lines lines.records lines.end (closing_bytes (length lines.records)) are
    ∙ read-closing lines.records lines.end
