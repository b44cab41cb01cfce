-- What the reader has read goes on to the end of some journal file.
use Rattle.std.proofs.Common.{◌≡◌, ◌⊎◌, ℕ, zero, suc, ◌+◌, ◌-◌, ◌<◌, ◌≤◌, ltb, List, [], ◌∷◌, ◌++◌, Option, Some, None, Bool, true, false, cond, eqb, length, get_or, refl, ap, sym, ◌∙◌, append_assoc, append-nil, arith, length-append, inl, inr}
use Rattle.std.specs.Prelude.{codes}
use Rattle.std.specs.List.{AllByRecursion}
use Rattle.std.specs.Int.{w16, w32, from_le_bytes}
use Rattle.std.proofs.lemmas.Bool.{ne_eqb, lt-ltb, le-leb, ltb-false}
use Rattle.std.proofs.lemmas.Bool.Decides.{eqb_tells}
use Rattle.tv_base.specs.declared.Why.TheVariants as why
use Rattle.tv_items.specs.declared.action.Heard.TheVariants as heard
use Rattle.tv_journal.specs.declared.Entry.TheVariants as entry
use Rattle.tv_journal.specs.declared.record.DeviceStep.{DeviceStep}
use Rattle.tv_journal.specs.declared.reader.Code.{Code}
use Rattle.tv_journal.specs.declared.reader.Code.TheVariants as code
use Rattle.tv_journal.specs.declared.reader.Spot.{Spot}
use Rattle.tv_journal.specs.declared.reader.Spot.TheVariants as spot
use Rattle.tv_journal.specs.Entries.{Record, Run, One}
use Rattle.tv_journal.specs.Grammar.{number, BeginsJournal, file_bytes, last_record}
use Rattle.tv_journal.specs.Reading.{Read, read_byte, read_at, is_of_hart, AreBytes, IsAt, Follows, bytes_so_far, moved, with_record, with_end, with_length, greatest_length, IsLengthByte}
use Rattle.tv_journal.specs.Stores.{step_entry}
use Rattle.tv_journal.proofs.Files.{eqb-same}
use Rattle.tv_journal.proofs.Fronts.{follows-more, bytes-at}

-- at most so many bytes are wanting to the end of a shortest file
abbrev pub wanting : Spot → Read → ℕ
wanting spot.Magic r = 24 - length r.field
wanting spot.Line r = 5
wanting spot.Hart r = 14
wanting (spot.Count hart) r = 10 - length r.field
wanting (spot.Device step) r = 6
wanting spot.Outcome r = 302
wanting (spot.Code device) r = 301
wanting (spot.Length device code) r = 300 - length r.field
wanting (spot.Bytes device len) r = 5 + (len - length r.field)
wanting spot.Tick r = 10 - length r.field
wanting spot.Cause r = 6
wanting spot.Closing r = 4 - length r.field
wanting spot.Done r = 0

-- some byte leads on
pub record GoesAt (sp : Spot) (r : Read) : Type 0 where
  pub byte : ℕ
  pub next : Read
  pub fits : byte < 256
  pub reads : read_at sp r byte ≡ Some next
  pub nearer : wanting next.spot next < wanting sp r

pub other-hart : (before : Option Record) → (hart : ℕ) × (hart < 8) × (is_of_hart before hart ≡ false)
other-hart None = (0, omega arith, refl)
other-hart (Some (One _)) = (0, omega arith, refl)
other-hart (Some (Run last _)) = elim (eqb_tells 0 last) [
  | inl same ↦ (1, omega arith, ne_eqb 1 last (λ is. omega (arith, same.1)))
  | inr other ↦ (0, omega arith, other.0)
]

pub not-zero : (field : List ℕ) → length (field ++ 1 ∷ []) ≡ 4 → eqb (from_le_bytes w32 (field ++ 1 ∷ [])) 0 ≡ false
not-zero [] is = absurd (omega arith)
not-zero (a ∷ []) is = absurd (omega arith)
not-zero (a ∷ b ∷ []) is = absurd (omega arith)
not-zero (a ∷ b ∷ c ∷ []) is = ne_eqb _ 0 (λ zero_is. omega arith)
not-zero (a ∷ b ∷ c ∷ d ∷ rest) is = absurd (omega (arith, length-append rest (1 ∷ [])))

-- a read that stays where it is
pub wanting-still : (sp : Spot) (r : Read) (field : List ℕ) → r.spot ≡ sp → wanting r.spot (record r { field = field }) ≡ wanting sp (record r { field = field })
wanting-still sp r field is = ap (λ (x : Spot). wanting x (record r { field = field })) is

pub bytes-magic : AreBytes (codes "TVJ1")
bytes-magic = (omega arith, (omega arith, (omega arith, (omega arith, tt))))

pub bytes-number : (n : ℕ) → AreBytes (number n)
bytes-number n = (omega arith, (omega arith, (omega arith, (omega arith, tt))))

pub goes-magic : (r : Read) (v : Bool) → r.spot ≡ spot.Magic → length r.field < 4 → ltb (length r.field + 1) 4 ≡ v → GoesAt spot.Magic r
goes-magic r true here_is within test =
    let b = get_or (codes "TVJ1") (length r.field) 0 in
    record {
      byte = b;
      next = record r { field = r.field ++ b ∷ [] };
      fits = bytes-at (codes "TVJ1") (length r.field) bytes-magic;
      reads = rw (eqb-same b, test) refl;
      nearer = rw (wanting-still spot.Magic r (r.field ++ b ∷ []) here_is) (omega (arith, length-append r.field (b ∷ [])));
    }
goes-magic r false here_is within test =
    let b = get_or (codes "TVJ1") (length r.field) 0 in
    record {
      byte = b;
      next = moved r spot.Line;
      fits = bytes-at (codes "TVJ1") (length r.field) bytes-magic;
      reads = rw (eqb-same b, test) refl;
      nearer = omega arith;
    }

pub goes-closing : (r : Read) (v : Bool) → r.spot ≡ spot.Closing → length r.field < 4 → ltb (length r.field + 1) 4 ≡ v → GoesAt spot.Closing r
goes-closing r true here_is within test =
    let b = get_or (number (length r.records)) (length r.field) 0 in
    record {
      byte = b;
      next = record r { field = r.field ++ b ∷ [] };
      fits = bytes-at (number (length r.records)) (length r.field) (bytes-number (length r.records));
      reads = rw (eqb-same b, test) refl;
      nearer = rw (wanting-still spot.Closing r (r.field ++ b ∷ []) here_is) (omega (arith, length-append r.field (b ∷ [])));
    }
goes-closing r false here_is within test =
    let b = get_or (number (length r.records)) (length r.field) 0 in
    record {
      byte = b;
      next = moved r spot.Done;
      fits = bytes-at (number (length r.records)) (length r.field) (bytes-number (length r.records));
      reads = rw (eqb-same b, test) refl;
      nearer = omega arith;
    }

pub goes-count : (hart : ℕ) (r : Read) (v : Bool) → r.spot ≡ spot.Count hart → length r.field < 4 → ltb (length (r.field ++ 1 ∷ [])) 4 ≡ v → GoesAt (spot.Count hart) r
goes-count hart r true here_is within test = record {
  byte = 1;
  next = record r { field = r.field ++ 1 ∷ [] };
  fits = omega arith;
  reads = rw test refl;
  nearer = rw (wanting-still (spot.Count hart) r (r.field ++ 1 ∷ []) here_is) (omega (arith, length-append r.field (1 ∷ [])));
}
goes-count hart r false here_is within test =
    let four : length (r.field ++ 1 ∷ []) ≡ 4 = omega (arith, length-append r.field (1 ∷ []), ltb-false (length (r.field ++ 1 ∷ [])) 4 test) in
    record {
      byte = 1;
      next = with_record r (Run hart (from_le_bytes w32 (r.field ++ 1 ∷ [])));
      fits = omega arith;
      reads = rw (test, not-zero r.field four) refl;
      nearer = omega arith;
    }

pub goes-tick : (r : Read) (v : Bool) → r.spot ≡ spot.Tick → length r.field < 4 → ltb (length (r.field ++ 1 ∷ [])) 4 ≡ v → GoesAt spot.Tick r
goes-tick r true here_is within test = record {
  byte = 1;
  next = record r { field = r.field ++ 1 ∷ [] };
  fits = omega arith;
  reads = rw test refl;
  nearer = rw (wanting-still spot.Tick r (r.field ++ 1 ∷ []) here_is) (omega (arith, length-append r.field (1 ∷ [])));
}
goes-tick r false here_is within test =
    let four : length (r.field ++ 1 ∷ []) ≡ 4 = omega (arith, length-append r.field (1 ∷ []), ltb-false (length (r.field ++ 1 ∷ [])) 4 test) in
    record {
      byte = 1;
      next = with_record r (One (entry.Tick (from_le_bytes w32 (r.field ++ 1 ∷ []))));
      fits = omega arith;
      reads = rw (test, not-zero r.field four) refl;
      nearer = omega arith;
    }

pub goes-hart : (r : Read) → GoesAt spot.Hart r
goes-hart r =
    let hart = other-hart (last_record r.records) in
    record {
      byte = hart.0;
      next = moved r (spot.Count hart.0);
      fits = omega arith;
      reads = rw (lt-ltb hart.0 8 hart.1, hart.2) refl;
      nearer = omega arith;
    }

pub goes-device : (step : DeviceStep) (r : Read) → GoesAt (spot.Device step) r
goes-device step r = record { byte = 0; next = with_record r (One (step_entry step 0)); fits = omega arith; reads = refl; nearer = omega arith }

pub goes-outcome : (r : Read) → GoesAt spot.Outcome r
goes-outcome r = record { byte = 0; next = moved r (spot.Code 0); fits = omega arith; reads = refl; nearer = omega arith }

pub goes-code : (device : ℕ) (r : Read) → GoesAt (spot.Code device) r
goes-code device r = record { byte = 0; next = moved r (spot.Length device code.Done); fits = omega arith; reads = refl; nearer = omega arith }

-- a zero may be the last byte of a length, whatever the byte before it
small-length : (c : Code) (field : List ℕ) → AllByRecursion (IsLengthByte c) field → length (field ++ 0 ∷ []) ≡ 2 → IsLengthByte c (from_le_bytes w16 (field ++ 0 ∷ []))
small-length c [] each two = absurd (omega arith)
small-length c (a ∷ []) each two = (omega (arith, each.0.0), omega (arith, each.0.1))
small-length c (a ∷ b ∷ rest) each two = absurd (omega (arith, length-append rest (0 ∷ [])))

wanting-bytes : (v : Bool) (device len : ℕ) (more : Record) (r : Read) → len < 256
    → wanting (cond v (with_record r more) (moved r (spot.Bytes device len))).spot (cond v (with_record r more) (moved r (spot.Bytes device len))) < 299
wanting-bytes true device len more r low = omega arith
wanting-bytes false device len more r low = omega arith

wanting-length : (device len : ℕ) (c : Code) (r : Read) → len < 256 → wanting (with_length device c r len).spot (with_length device c r len) < 299
wanting-length device len code.Done r low = omega arith
wanting-length device len code.Failed r low = omega arith
wanting-length device len code.Taken r low = omega arith
wanting-length device len code.Bytes r low = wanting-bytes (eqb len 0) device len (One (entry.Did device (heard.Bytes []))) r low

pub goes-length : (device : ℕ) (c : Code) (r : Read) (v : Bool) → r.spot ≡ spot.Length device c → length r.field < 2 → AllByRecursion (IsLengthByte c) r.field
    → ltb (length (r.field ++ 0 ∷ [])) 2 ≡ v → GoesAt (spot.Length device c) r
goes-length device c r true here_is within each test = record {
  byte = 0;
  next = record r { field = r.field ++ 0 ∷ [] };
  fits = omega arith;
  reads = rw (test, le-leb 0 (greatest_length c) (omega arith)) refl;
  nearer = rw (wanting-still (spot.Length device c) r (r.field ++ 0 ∷ []) here_is) (omega (arith, length-append r.field (0 ∷ [])));
}
goes-length device c r false here_is within each test =
    let two : length (r.field ++ 0 ∷ []) ≡ 2 = omega (arith, length-append r.field (0 ∷ []), ltb-false (length (r.field ++ 0 ∷ [])) 2 test) in
    let small = small-length c r.field each two in
    record {
      byte = 0;
      next = with_length device c r (from_le_bytes w16 (r.field ++ 0 ∷ []));
      fits = omega arith;
      reads = rw (test, le-leb (from_le_bytes w16 (r.field ++ 0 ∷ [])) (greatest_length c) small.1) refl;
      nearer = let less = wanting-length device (from_le_bytes w16 (r.field ++ 0 ∷ [])) c r small.0 in omega (arith, length-append r.field (0 ∷ []));
    }

pub goes-bytes : (device len : ℕ) (r : Read) (v : Bool) → r.spot ≡ spot.Bytes device len → length r.field < len → ltb (length (r.field ++ 0 ∷ [])) len ≡ v
    → GoesAt (spot.Bytes device len) r
goes-bytes device len r true here_is within test = record {
  byte = 0;
  next = record r { field = r.field ++ 0 ∷ [] };
  fits = omega arith;
  reads = rw test refl;
  nearer = rw (wanting-still (spot.Bytes device len) r (r.field ++ 0 ∷ []) here_is) (omega (arith, length-append r.field (0 ∷ [])));
}
goes-bytes device len r false here_is within test = record {
  byte = 0;
  next = with_record r (One (entry.Did device (heard.Bytes (r.field ++ 0 ∷ []))));
  fits = omega arith;
  reads = rw test refl;
  nearer = omega arith;
}

-- behind the file, or on the way there
pub goes : (sp : Spot) (r : Read) → r.spot ≡ sp → IsAt sp r → (sp ≡ spot.Done) ⊎ GoesAt sp r
goes spot.Magic r here_is at = inr (goes-magic r (ltb (length r.field + 1) 4) here_is at.0 refl)
goes spot.Line r here_is at = inr (record { byte = 0; next = moved r spot.Closing; fits = omega arith; reads = refl; nearer = omega arith })
goes spot.Hart r here_is at = inr (goes-hart r)
goes (spot.Count hart) r here_is at = inr (goes-count hart r (ltb (length (r.field ++ 1 ∷ [])) 4) here_is at.0 refl)
goes (spot.Device step) r here_is at = inr (goes-device step r)
goes spot.Outcome r here_is at = inr (goes-outcome r)
goes (spot.Code device) r here_is at = inr (goes-code device r)
goes (spot.Length device c) r here_is at = inr (goes-length device c r (ltb (length (r.field ++ 0 ∷ [])) 2) here_is at.0 at.1 refl)
goes (spot.Bytes device len) r here_is at = inr (goes-bytes device len r (ltb (length (r.field ++ 0 ∷ [])) len) here_is at.0 refl)
goes spot.Tick r here_is at = inr (goes-tick r (ltb (length (r.field ++ 1 ∷ [])) 4) here_is at.0 refl)
goes spot.Cause r here_is at = inr (record { byte = 1; next = with_end r why.Full; fits = omega arith; reads = refl; nearer = omega arith })
goes spot.Closing r here_is at = inr (goes-closing r (ltb (length r.field + 1) 4) here_is at.0 refl)
goes spot.Done r here_is at = inl refl

-- behind a file
pub is-file : (r : Read) (bytes : List ℕ) → Follows r bytes → r.spot ≡ spot.Done → bytes ≡ file_bytes (record { records = r.records; end = r.end })
is-file r bytes follows done = follows.bytes_are ∙ ap (λ (sp : Spot). bytes_so_far sp r) done

-- what is read begins some file
pub begins-by : (n : ℕ) (r : Read) (bytes : List ℕ) → wanting r.spot r ≤ n → Follows r bytes → BeginsJournal bytes
unfolding read_byte
begins-by zero r bytes near follows = elim (goes r.spot r refl follows.at) [
  | inl done ↦ record { rest = []; lines = record { records = r.records; end = r.end }; are = follows.lines; spelled = append-nil bytes ∙ is-file r bytes follows done }
  | inr on ↦ absurd (omega (arith, on.nearer))
]
begins-by (suc n) r bytes near follows = elim (goes r.spot r refl follows.at) [
  | inl done ↦ record { rest = []; lines = record { records = r.records; end = r.end }; are = follows.lines; spelled = append-nil bytes ∙ is-file r bytes follows done }
  | inr on ↦
      let more : BeginsJournal (bytes ++ on.byte ∷ []) =
      begins-by n on.next (bytes ++ on.byte ∷ []) (omega (arith, on.nearer)) (follows-more r on.next on.byte bytes follows on.fits on.reads) in
      record { rest = on.byte ∷ more.rest; lines = more.lines; are = more.are; spelled = sym (append_assoc bytes (on.byte ∷ []) more.rest) ∙ more.spelled }
]

pub begins : (r : Read) (bytes : List ℕ) → Follows r bytes → BeginsJournal bytes
begins r bytes follows = begins-by (wanting r.spot r) r bytes (omega arith) follows
