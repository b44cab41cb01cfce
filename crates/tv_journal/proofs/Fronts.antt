-- What the reader has read is the front of some journal file.
use Rattle.std.proofs.Common.{◌≡◌, ◌⊎◌, ◌&&◌, ◌||◌, not, ℕ, zero, suc, ◌+◌, ◌-◌, ◌^◌, ◌<◌, ◌≤◌, ltb, leb, List, [], ◌∷◌, ◌++◌, Option, Some, None, Bool, true, false, cond, eqb, length, get_or, take, drop, refl, ap, sym, ◌∙◌, subst, append_assoc, append-nil, arith, length-append, inl, inr}
use Rattle.std.specs.Prelude.{codes, flat_map}
use Rattle.std.specs.List.{AllByRecursion}
use Rattle.std.specs.Int.{w16, w32, from_le_bytes}
use Rattle.std.proofs.lemmas.Bool.{ltb-true, ltb-false, leb-true, eqb-true, eqb-false, false≢true}
use Rattle.std.proofs.lemmas.Option.{none-some}
use Rattle.std.proofs.lemmas.Grind.{flat_map-append}
use Rattle.std.proofs.lemmas.List.{take-append-le, drop-append-le, take_more, take_all, drop_all}
use Rattle.std.proofs.lemmas.Nat.{le_bytes_2, le_bytes_4}
use Rattle.tv_base.specs.declared.Why.{Why}
use Rattle.tv_base.specs.declared.Why.TheVariants as why
use Rattle.tv_journal.specs.declared.record.EndLine.{EndLine}
use Rattle.tv_items.specs.declared.action.Heard.TheVariants as heard
use Rattle.tv_journal.specs.declared.Entry.{Entry}
use Rattle.tv_journal.specs.declared.Entry.TheVariants as entry
use Rattle.tv_journal.specs.declared.record.DeviceStep.{DeviceStep}
use Rattle.tv_journal.specs.declared.record.DeviceStep.TheVariants as step
use Rattle.tv_journal.specs.declared.reader.Code.{Code}
use Rattle.tv_journal.specs.declared.reader.Code.TheVariants as code
use Rattle.tv_journal.specs.declared.reader.Spot.{Spot}
use Rattle.tv_journal.specs.declared.reader.Spot.TheVariants as spot
use Rattle.tv_journal.specs.Entries.{Record, Run, One, entries_of}
use Rattle.tv_journal.specs.Grammar.{number, short, entry_spelled, record_bytes, lines_bytes, end_bytes, cause_byte, IsRecord, IsSingle, IsNoRun, Differs, AreLines, EndFits, last_record}
use Rattle.tv_journal.specs.Reading.{Read, first_read, read_byte, read_at, is_full, has_end, is_of_hart, AreBytes, IsAt, line_so_far, bytes_so_far, Follows, moved, with_record, with_end, line_read, kind_read, step_read, device_read, outcome_read, code_read, code_byte, greatest_length, length_read, with_length, bytes_read, IsLengthByte, hart_read, number_read, cause_read, fixed_read}
use Rattle.tv_journal.specs.Stores.{step_at, step_entry, step_kind}
use Rattle.tv_journal.proofs.Kept.{differs-one}
use Rattle.tv_journal.proofs.Stored.{step-spelled}
use Rattle.tv_journal.proofs.Added.{last_after-none, each-push, apart-push, differs-same}

-- the same at a place that is known
pub follows-at : (sp : Spot) (r : Read) (bytes : List ℕ) → r.spot ≡ sp → AreLines (record { records = r.records; end = r.end }) → IsAt sp r
    → bytes ≡ bytes_so_far sp r → Follows r bytes
follows-at sp r bytes is are at bytes_are = record {
  lines = are;
  at = subst (λ (x : Spot). IsAt x r) (sym is) at;
  bytes_are = subst (λ (x : Spot). bytes ≡ bytes_so_far x r) (sym is) bytes_are;
}

-- one way or the other
pub either : (b : Bool) (x y : Option Read) (s : Read) → cond b x y ≡ Some s → ((b ≡ true) × (x ≡ Some s)) ⊎ ((b ≡ false) × (y ≡ Some s))
either true x y s is = inl (refl, is)
either false x y s is = inr (refl, is)

pub if_true : (b : Bool) (x s : Read) → cond b (Some x) None ≡ Some s → (b ≡ true) × (x ≡ s)
if_true true x s is = (refl, cc)
if_true false x s is = absurd (none-some s is)

pub if_false : (b : Bool) (x s : Read) → cond b None (Some x) ≡ Some s → (b ≡ false) × (x ≡ s)
if_false true x s is = absurd (none-some s is)
if_false false x s is = (refl, cc)

-- bytes of a number
pub bytes-at : (bs : List ℕ) (i : ℕ) → AreBytes bs → get_or bs i 0 < 256
bytes-at [] i each = omega arith
bytes-at (b ∷ bs) zero each = each.0
bytes-at (b ∷ bs) (suc i) each = bytes-at bs i each.1

pub bytes-push : (bs : List ℕ) (b : ℕ) → AreBytes bs → b < 256 → AreBytes (bs ++ b ∷ [])
bytes-push [] b each here = (here, tt)
bytes-push (x ∷ bs) b each here = (each.0, bytes-push bs b each.1 here)

pub number-fits : (bs : List ℕ) → length bs ≡ 4 → AreBytes bs → from_le_bytes w32 bs < 2 ^ 32
number-fits [] four each = omega arith
number-fits (a ∷ []) four each = absurd (omega arith)
number-fits (a ∷ b ∷ []) four each = absurd (omega arith)
number-fits (a ∷ b ∷ c ∷ []) four each = absurd (omega arith)
number-fits (a ∷ b ∷ c ∷ d ∷ []) four each = omega arith
number-fits (a ∷ b ∷ c ∷ d ∷ e ∷ rest) four each = absurd (omega arith)

pub number-is : (bs : List ℕ) → length bs ≡ 4 → AreBytes bs → number (from_le_bytes w32 bs) ≡ bs
number-is bs four each = le_bytes_4 bs (from_le_bytes w32 bs) four (λ i. bytes-at bs i each) refl

-- a byte more in a line
pub more-in-line : (front line : List ℕ) (b : ℕ) → (codes "TVJ1" ++ (front ++ line)) ++ b ∷ [] ≡ codes "TVJ1" ++ (front ++ (line ++ b ∷ []))
more-in-line front line b = ap (λ (xs : List ℕ). codes "TVJ1" ++ xs) (append_assoc front line (b ∷ []))

-- a line more
pub lines-push : (rs : List Record) (end : Option EndLine) (r : Record) → EndFits rs end → lines_bytes (rs ++ r ∷ []) end ≡ lines_bytes rs end ++ record_bytes r
lines-push rs None r ended = flat_map-append record_bytes rs (r ∷ []) ∙ ap (λ (xs : List ℕ). flat_map record_bytes rs ++ xs) (append-nil (record_bytes r))
lines-push rs (Some end) r ended =
    let before = flat_map record_bytes (take end.records rs) ++ end_bytes end in
    let place : end.records ≤ length rs = ended.place in
    let front : take end.records (rs ++ r ∷ []) ≡ take end.records rs = take-append-le end.records rs (r ∷ []) place in
    let later : drop end.records (rs ++ r ∷ []) ≡ drop end.records rs ++ r ∷ [] = drop-append-le end.records rs (r ∷ []) place in
    rw (front, later)
    (ap (λ (xs : List ℕ). before ++ xs)
    (flat_map-append record_bytes (drop end.records rs) (r ∷ []) ∙ ap (λ (xs : List ℕ). flat_map record_bytes (drop end.records rs) ++ xs) (append-nil (record_bytes r)))
    ∙ sym (append_assoc before (flat_map record_bytes (drop end.records rs)) (record_bytes r)))

pub MayEnd : Option EndLine → Record → Type 0
MayEnd None r = Unit {0}
MayEnd (Some _) r = IsNoRun r

pub end-push : (rs : List Record) (end : Option EndLine) (r : Record) → EndFits rs end → MayEnd end r → EndFits (rs ++ r ∷ []) end
unfolding MayEnd
end-push rs None r ended may = tt
end-push rs (Some end) r ended may =
    let place : end.records ≤ length rs = ended.place in
    record {
      place = omega (arith, length-append rs (r ∷ []));
      cause = ended.cause;
      entries = rw (take-append-le end.records rs (r ∷ []) place) ended.entries;
      after = rw (drop-append-le end.records rs (r ∷ []) place) (each-push IsNoRun (drop end.records rs) r ended.after may);
    }

pub are-push : (rs : List Record) (end : Option EndLine) (r : Record) → AreLines (record { records = rs; end = end }) → IsRecord r
    → Differs (last_record rs) r → length rs < 2 ^ 32 - 1 → MayEnd end r → AreLines (record { records = rs ++ r ∷ []; end = end })
unfolding MayEnd
are-push rs end r are fits differs few may = record {
  each = each-push IsRecord rs r are.each fits;
  apart = apart-push None rs r are.apart (rw (last_after-none rs) differs);
  few = omega (arith, length-append rs (r ∷ []));
  ended = end-push rs end r are.ended may;
}

-- a record was read whole
pub follows-record : (r : Read) (sp : Spot) (more : Record) (b : ℕ) → AreLines (record { records = r.records; end = r.end }) → IsRecord more
    → Differs (last_record r.records) more → length r.records < 2 ^ 32 - 1 → MayEnd r.end more → line_so_far sp r ++ b ∷ [] ≡ record_bytes more
    → Follows (with_record r more) ((codes "TVJ1" ++ (lines_bytes r.records r.end ++ line_so_far sp r)) ++ b ∷ [])
follows-record r sp more b are fits differs few may whole = record {
  lines = are-push r.records r.end more are fits differs few may;
  at = refl;
  bytes_are =
      more-in-line (lines_bytes r.records r.end) (line_so_far sp r) b
      ∙ ap (λ (xs : List ℕ). codes "TVJ1" ++ xs)
      (ap (λ (xs : List ℕ). lines_bytes r.records r.end ++ xs) whole ∙ sym (lines-push r.records r.end more are.ended)
      ∙ sym (append-nil (lines_bytes (r.records ++ more ∷ []) r.end)));
}

-- the same after a byte more
pub is-then : (x s : Read) (bytes : List ℕ) → Some x ≡ Some s → Follows x bytes → Follows s bytes
is-then x s bytes is follows = let same : x ≡ s = cc in subst (λ (t : Read). Follows t bytes) same follows

pub no-end : (end : Option EndLine) → has_end end ≡ false → end ≡ None
no-end None is = refl
no-end (Some end) is = absurd (false≢true (sym is))

pub neither : (a b : Bool) → (a || b) ≡ false → (a ≡ false) × (b ≡ false)
neither true b is = absurd (false≢true (sym is))
neither false b is = (refl, is)

pub both : (a b : Bool) → (a && b) ≡ true → (a ≡ true) × (b ≡ true)
both true b is = (refl, is)
both false b is = absurd (false≢true is)

pub not-true : (a : Bool) → not a ≡ true → a ≡ false
not-true true is = absurd (false≢true is)
not-true false is = refl

pub not-full : (r : Read) → length r.records < 2 ^ 32 → is_full r ≡ false → length r.records < 2 ^ 32 - 1
not-full r few is = let apart = eqb-false (length r.records) (2 ^ 32 - 1) is in omega arith

pub differs-if : (before : Option Record) (hart : ℕ) → is_of_hart before hart ≡ false → Differs before (Run hart 1)
differs-if None hart is = tt
differs-if (Some (One _)) hart is = tt
differs-if (Some (Run last _)) hart is = eqb-false hart last is

-- the kind of a line
abbrev pub LineFront : Read → Read → ℕ → Type 0
LineFront r s b = Follows s ((codes "TVJ1" ++ (lines_bytes r.records r.end ++ [])) ++ b ∷ [])

-- a kind that leads to the fields of its line
pub after-kind : (r s : Read) (next : Spot) (b : ℕ) → AreLines (record { records = r.records; end = r.end }) → IsAt next (moved r next)
    → line_so_far next (moved r next) ≡ b ∷ [] → bytes_so_far next (moved r next) ≡ codes "TVJ1" ++ (lines_bytes r.records r.end ++ line_so_far next (moved r next))
    → Some (moved r next) ≡ Some s → LineFront r s b
after-kind r s next b are at begun so_far is =
    is-then (moved r next) s _ is
    (record {
      lines = are;
      at = at;
      bytes_are =
          more-in-line (lines_bytes r.records r.end) [] b ∙ ap (λ (xs : List ℕ). codes "TVJ1" ++ (lines_bytes r.records r.end ++ xs)) (sym begun) ∙ sym so_far;
    })

-- the kinds of steps
step-is : (b : ℕ) (v : Bool) (here found : DeviceStep) (rest : Option DeviceStep) → cond v (Some here) rest ≡ Some found → ((v ≡ true) × (here ≡ found)) ⊎ ((v ≡ false) × (rest ≡ Some found))
step-is b true here found rest is = inl (refl, cc)
step-is b false here found rest is = inr (refl, is)

pub kind-of-step : (b : ℕ) (found : DeviceStep) → step_at b ≡ Some found → step_kind found ≡ b
kind-of-step b found is =
    elim (step-is b (eqb b 0x02) step.Take found _ is) [
      | inl takes ↦ ap step_kind (sym takes.1) ∙ sym (eqb-true b 0x02 takes.0)
      | inr no_take ↦ elim (step-is b (eqb b 0x03) step.Send found _ no_take.1) [
        | inl send ↦ ap step_kind (sym send.1) ∙ sym (eqb-true b 0x03 send.0)
        | inr no_send ↦ elim (step-is b (eqb b 0x04) step.ServeMem found _ no_send.1) [
          | inl memory ↦ ap step_kind (sym memory.1) ∙ sym (eqb-true b 0x04 memory.0)
          | inr no_memory ↦ elim (step-is b (eqb b 0x05) step.ServeIrq found _ no_memory.1) [
            | inl irq ↦ ap step_kind (sym irq.1) ∙ sym (eqb-true b 0x05 irq.0)
            | inr no_irq ↦ elim (step-is b (eqb b 0x06) step.Got found _ no_irq.1) [
              | inl got ↦ ap step_kind (sym got.1) ∙ sym (eqb-true b 0x06 got.0)
              | inr no_got ↦ elim (step-is b (eqb b 0x07) step.Reply found _ no_got.1) [
                | inl reply ↦ ap step_kind (sym reply.1) ∙ sym (eqb-true b 0x07 reply.0)
                | inr no_reply ↦ elim (step-is b (eqb b 0x08) step.Deliver found _ no_reply.1) [
                  | inl deliver ↦ ap step_kind (sym deliver.1) ∙ sym (eqb-true b 0x08 deliver.0)
                  | inr no_deliver ↦ elim (step-is b (eqb b 0x09) step.Intend found None no_deliver.1) [
                    | inl intend ↦ ap step_kind (sym intend.1) ∙ sym (eqb-true b 0x09 intend.0)
                    | inr none ↦ absurd (none-some found none.1)
                  ]
                ]
              ]
            ]
          ]
        ]
      ]
    ]

pub after-step : (r s : Read) (b : ℕ) (found : Option DeviceStep) → AreLines (record { records = r.records; end = r.end }) → length r.records < 2 ^ 32 - 1
    → step_at b ≡ found → step_read r found ≡ Some s → LineFront r s b
after-step r s b None are few found is = absurd (none-some s is)
after-step r s b (Some here) are few found is =
    after-kind r s (spot.Device here) b are few (ap (λ (n : ℕ). n ∷ []) (kind-of-step b here found)) refl is

pub after-record_kind : (r s : Read) (b : ℕ) → AreLines (record { records = r.records; end = r.end }) → length r.records < 2 ^ 32 - 1 → kind_read r b ≡ Some s
    → LineFront r s b
after-record_kind r s b are few is =
    elim (either (eqb b 0x01) _ _ s is) [
      | inl hart ↦
          let parts = if_false (has_end r.end) (moved r spot.Hart) s hart.1 in
          after-kind r s spot.Hart b are (no-end r.end parts.0, few) (ap (λ (n : ℕ). n ∷ []) (sym (eqb-true b 0x01 hart.0))) refl (ap Some parts.1)
      | inr no_hart ↦ elim (either (eqb b 0x0A) _ _ s no_hart.1) [
        | inl outcome ↦ after-kind r s spot.Outcome b are few (ap (λ (n : ℕ). n ∷ []) (sym (eqb-true b 0x0A outcome.0))) refl outcome.1
        | inr no_outcome ↦ elim (either (eqb b 0x0B) _ _ s no_outcome.1) [
          | inl tick ↦ after-kind r s spot.Tick b are (omega arith, tt, few) (ap (λ (n : ℕ). n ∷ []) (sym (eqb-true b 0x0B tick.0))) refl tick.1
          | inr no_tick ↦ after-step r s b (step_at b) are few refl no_tick.1
        ]
      ]
    ]

pub after-line : (r s : Read) (b : ℕ) → AreLines (record { records = r.records; end = r.end }) → line_read r b ≡ Some s → LineFront r s b
after-line r s b are is =
    elim (either (eqb b 0x00) _ _ s is) [
      | inl closing ↦ after-kind r s spot.Closing b are (omega arith, refl) (ap (λ (n : ℕ). n ∷ []) (sym (eqb-true b 0x00 closing.0))) refl closing.1
      | inr no_closing ↦ elim (either (eqb b 0x10) _ _ s no_closing.1) [
        | inl end ↦
            let parts = if_false (has_end r.end) (moved r spot.Cause) s end.1 in
            after-kind r s spot.Cause b are (no-end r.end parts.0) (ap (λ (n : ℕ). n ∷ []) (sym (eqb-true b 0x10 end.0))) refl (ap Some parts.1)
        | inr no_end ↦ elim (either (is_full r) None _ s no_end.1) [
          | inl full ↦ absurd (none-some s full.1)
          | inr free ↦ after-record_kind r s b are (not-full r are.few free.0) free.1
        ]
      ]
    ]

pub positive : (n : ℕ) → eqb n 0 ≡ false → 0 < n
positive n test = let not_zero = eqb-false n 0 test in omega arith

pub may-end-none : (end : Option EndLine) (r : Record) → end ≡ None → MayEnd end r
unfolding MayEnd
may-end-none None r is = tt
may-end-none (Some end) r is = absurd (none-some end (sym is))

pub may-end-one : (end : Option EndLine) (e : Entry) → MayEnd end (One e)
unfolding MayEnd
may-end-one None e = tt
may-end-one (Some end) e = tt

pub after-hart : (r s : Read) (b : ℕ) → AreLines (record { records = r.records; end = r.end }) → IsAt spot.Hart r → hart_read r b ≡ Some s
    → Follows s ((codes "TVJ1" ++ (lines_bytes r.records r.end ++ 0x01 ∷ [])) ++ b ∷ [])
after-hart r s b are at is =
    let parts = if_true (ltb b 8 && not (is_of_hart (last_record r.records) b)) (moved r (spot.Count b)) s is in
    let tests = both (ltb b 8) (not (is_of_hart (last_record r.records) b)) parts.0 in
    subst (λ (t : Read). Follows t ((codes "TVJ1" ++ (lines_bytes r.records r.end ++ 0x01 ∷ [])) ++ b ∷ [])) parts.1
    (record {
      lines = are;
      at = (omega arith, tt, at.0, at.1, ltb-true b 8 tests.0, differs-if (last_record r.records) b (not-true _ tests.1));
      bytes_are = more-in-line (lines_bytes r.records r.end) (0x01 ∷ []) b;
    })

-- a number that is not 0
pub number-whole : (field : List ℕ) (b : ℕ) → length field < 4 → AreBytes field → b < 256 → ltb (length (field ++ b ∷ [])) 4 ≡ false
    → (length (field ++ b ∷ []) ≡ 4) × AreBytes (field ++ b ∷ [])
number-whole field b short bytes here test =
    let long = ltb-false (length (field ++ b ∷ [])) 4 test in
    (omega (arith, length-append field (b ∷ [])), bytes-push field b bytes here)

pub after-count : (hart : ℕ) (r s : Read) (b : ℕ) → AreLines (record { records = r.records; end = r.end }) → IsAt (spot.Count hart) r → b < 256 → r.spot ≡ spot.Count hart
    → number_read r (λ n. Run hart n) (r.field ++ b ∷ []) ≡ Some s
    → Follows s ((codes "TVJ1" ++ (lines_bytes r.records r.end ++ 0x01 ∷ hart ∷ r.field)) ++ b ∷ [])
after-count hart r s b are at here here_is is =
    let field = r.field ++ b ∷ [] in
    elim (either (ltb (length field) 4) _ _ s is) [
      | inl short ↦ is-then _ s _ short.1
          (follows-at (spot.Count hart) _ _ here_is are (ltb-true (length field) 4 short.0, bytes-push r.field b at.1 here, at.2, at.3, at.4, at.5)
          (more-in-line (lines_bytes r.records r.end) (0x01 ∷ hart ∷ r.field) b))
      | inr long ↦
          let whole = number-whole r.field b at.0 at.1 here long.0 in
          let parts = if_false (eqb (from_le_bytes w32 field) 0) (with_record r (Run hart (from_le_bytes w32 field))) s long.1 in
          subst (λ (t : Read). Follows t ((codes "TVJ1" ++ (lines_bytes r.records r.end ++ 0x01 ∷ hart ∷ r.field)) ++ b ∷ [])) parts.1
          (follows-record r (spot.Count hart) (Run hart (from_le_bytes w32 field)) b are
          (at.4, positive (from_le_bytes w32 field) parts.0, number-fits field whole.0 whole.1)
          (differs-same (last_record r.records) hart 1 (from_le_bytes w32 field) at.5) at.3 (may-end-none r.end (Run hart (from_le_bytes w32 field)) at.2)
          (ap (λ (xs : List ℕ). 0x01 ∷ hart ∷ xs) (sym (number-is field whole.0 whole.1))))
    ]

pub after-tick : (r s : Read) (b : ℕ) → AreLines (record { records = r.records; end = r.end }) → IsAt spot.Tick r → b < 256 → r.spot ≡ spot.Tick
    → number_read r (λ n. One (entry.Tick n)) (r.field ++ b ∷ []) ≡ Some s
    → Follows s ((codes "TVJ1" ++ (lines_bytes r.records r.end ++ 0x0B ∷ r.field)) ++ b ∷ [])
after-tick r s b are at here here_is is =
    let field = r.field ++ b ∷ [] in
    elim (either (ltb (length field) 4) _ _ s is) [
      | inl short ↦ is-then _ s _ short.1
          (follows-at spot.Tick _ _ here_is are (ltb-true (length field) 4 short.0, bytes-push r.field b at.1 here, at.2)
          (more-in-line (lines_bytes r.records r.end) (0x0B ∷ r.field) b))
      | inr long ↦
          let whole = number-whole r.field b at.0 at.1 here long.0 in
          let parts = if_false (eqb (from_le_bytes w32 field) 0) (with_record r (One (entry.Tick (from_le_bytes w32 field)))) s long.1 in
          subst (λ (t : Read). Follows t ((codes "TVJ1" ++ (lines_bytes r.records r.end ++ 0x0B ∷ r.field)) ++ b ∷ [])) parts.1
          (follows-record r spot.Tick (One (entry.Tick (from_le_bytes w32 field))) b are
          (positive (from_le_bytes w32 field) parts.0, number-fits field whole.0 whole.1)
          (differs-one (last_record r.records) (entry.Tick (from_le_bytes w32 field))) at.2 (may-end-one r.end (entry.Tick (from_le_bytes w32 field)))
          (ap (λ (xs : List ℕ). 0x0B ∷ xs) (sym (number-is field whole.0 whole.1))))
    ]

-- a record that is no run was read whole
pub follows-one : (r : Read) (sp : Spot) (e : Entry) (b : ℕ) → AreLines (record { records = r.records; end = r.end }) → IsSingle e → length r.records < 2 ^ 32 - 1
    → line_so_far sp r ++ b ∷ [] ≡ entry_spelled e
    → Follows (with_record r (One e)) ((codes "TVJ1" ++ (lines_bytes r.records r.end ++ line_so_far sp r)) ++ b ∷ [])
follows-one r sp e b are is few whole = follows-record r sp (One e) b are is (differs-one (last_record r.records) e) few (may-end-one r.end e) whole

-- the device of a step
pub single-step : (step : DeviceStep) (device : ℕ) → device < 8 → IsSingle (step_entry step device)
single-step step.Take device low = low
single-step step.Send device low = low
single-step step.ServeMem device low = low
single-step step.ServeIrq device low = low
single-step step.Got device low = low
single-step step.Reply device low = low
single-step step.Deliver device low = low
single-step step.Intend device low = low

pub after-device : (step : DeviceStep) (r s : Read) (b : ℕ) → AreLines (record { records = r.records; end = r.end }) → IsAt (spot.Device step) r → device_read step r b ≡ Some s
    → Follows s ((codes "TVJ1" ++ (lines_bytes r.records r.end ++ step_kind step ∷ [])) ++ b ∷ [])
after-device step r s b are at is =
    let parts = if_true (ltb b 8) (with_record r (One (step_entry step b))) s is in
    subst (λ (t : Read). Follows t ((codes "TVJ1" ++ (lines_bytes r.records r.end ++ step_kind step ∷ [])) ++ b ∷ [])) parts.1
    (follows-one r (spot.Device step) (step_entry step b) b are (single-step step b (ltb-true b 8 parts.0)) at (step-spelled step b))

-- the device of what it heard, and its code
pub after-outcome : (r s : Read) (b : ℕ) → AreLines (record { records = r.records; end = r.end }) → IsAt spot.Outcome r → outcome_read r b ≡ Some s
    → Follows s ((codes "TVJ1" ++ (lines_bytes r.records r.end ++ 0x0A ∷ [])) ++ b ∷ [])
after-outcome r s b are at is =
    let parts = if_true (ltb b 8) (moved r (spot.Code b)) s is in
    subst (λ (t : Read). Follows t ((codes "TVJ1" ++ (lines_bytes r.records r.end ++ 0x0A ∷ [])) ++ b ∷ [])) parts.1
    (record { lines = are; at = (at, ltb-true b 8 parts.0); bytes_are = more-in-line (lines_bytes r.records r.end) (0x0A ∷ []) b })

pub follows-code : (device : ℕ) (c : Code) (r : Read) → AreLines (record { records = r.records; end = r.end }) → IsAt (spot.Code device) r
    → Follows (moved r (spot.Length device c)) ((codes "TVJ1" ++ (lines_bytes r.records r.end ++ 0x0A ∷ device ∷ [])) ++ code_byte c ∷ [])
follows-code device c r are at = record {
  lines = are;
  at = (omega arith, tt, at.0, at.1);
  bytes_are = more-in-line (lines_bytes r.records r.end) (0x0A ∷ device ∷ []) (code_byte c);
}

pub after-code : (device : ℕ) (r s : Read) (b : ℕ) → AreLines (record { records = r.records; end = r.end }) → IsAt (spot.Code device) r → code_read device r b ≡ Some s
    → Follows s ((codes "TVJ1" ++ (lines_bytes r.records r.end ++ 0x0A ∷ device ∷ [])) ++ b ∷ [])
after-code device r s b are at is =
    elim (either (eqb b 0) _ _ s is) [
      | inl done ↦ is-then _ s _ done.1 (rw (eqb-true b 0 done.0) (follows-code device code.Done r are at))
      | inr no_done ↦ elim (either (eqb b 1) _ _ s no_done.1) [
        | inl failed ↦ is-then _ s _ failed.1 (rw (eqb-true b 1 failed.0) (follows-code device code.Failed r are at))
        | inr no_failed ↦ elim (either (eqb b 2) _ _ s no_failed.1) [
          | inl bytes ↦ is-then _ s _ bytes.1 (rw (eqb-true b 2 bytes.0) (follows-code device code.Bytes r are at))
          | inr no_bytes ↦ elim (either (eqb b 3) _ _ s no_bytes.1) [
            | inl taken ↦ is-then _ s _ taken.1 (rw (eqb-true b 3 taken.0) (follows-code device code.Taken r are at))
            | inr none ↦ absurd (none-some s none.1)
          ]
        ]
      ]
    ]

-- the length of what it heard
pub short-is : (bs : List ℕ) → length bs ≡ 2 → AreBytes bs → short (from_le_bytes w16 bs) ≡ bs
short-is bs two each = le_bytes_2 bs (from_le_bytes w16 bs) two (λ i. bytes-at bs i each) refl

pub are-bytes : (c : Code) (bs : List ℕ) → AllByRecursion (IsLengthByte c) bs → AreBytes bs
are-bytes c [] each = tt
are-bytes c (b ∷ bs) each = (each.0.0, are-bytes c bs each.1)

pub length-push : (c : Code) (bs : List ℕ) (b : ℕ) → AllByRecursion (IsLengthByte c) bs → IsLengthByte c b → AllByRecursion (IsLengthByte c) (bs ++ b ∷ [])
length-push c [] b each here = (here, tt)
length-push c (x ∷ bs) b each here = (each.0, length-push c bs b each.1 here)

-- a whole length
pub follows-bytes : (device len b : ℕ) (r : Read) (v : Bool) → AreLines (record { records = r.records; end = r.end }) → IsAt (spot.Length device code.Bytes) r
    → len ≤ 4096 → r.field ++ b ∷ [] ≡ short len → eqb len 0 ≡ v
    → Follows (cond v (with_record r (One (entry.Did device (heard.Bytes [])))) (moved r (spot.Bytes device len)))
    ((codes "TVJ1" ++ (lines_bytes r.records r.end ++ 0x0A ∷ device ∷ 2 ∷ r.field)) ++ b ∷ [])
follows-bytes device len b r true are at most field_is test =
    let none : len ≡ 0 = eqb-true len 0 test in
    follows-one r (spot.Length device code.Bytes) (entry.Did device (heard.Bytes [])) b are (at.3, omega arith) at.2
    (ap (λ (xs : List ℕ). 0x0A ∷ device ∷ 2 ∷ xs) (field_is ∙ ap short none))
follows-bytes device len b r false are at most field_is test =
    let some = eqb-false len 0 test in
    record {
      lines = are;
      at = (omega arith, most, at.2, at.3);
      bytes_are =
          more-in-line (lines_bytes r.records r.end) (0x0A ∷ device ∷ 2 ∷ r.field) b
          ∙ ap (λ (xs : List ℕ). codes "TVJ1" ++ (lines_bytes r.records r.end ++ 0x0A ∷ device ∷ 2 ∷ xs)) (field_is ∙ sym (append-nil (short len)));
    }

pub follows-length : (device len b : ℕ) (c : Code) (r : Read) → AreLines (record { records = r.records; end = r.end }) → IsAt (spot.Length device c) r
    → len ≤ greatest_length c → r.field ++ b ∷ [] ≡ short len
    → Follows (with_length device c r len) ((codes "TVJ1" ++ (lines_bytes r.records r.end ++ 0x0A ∷ device ∷ code_byte c ∷ r.field)) ++ b ∷ [])
follows-length device len b code.Done r are at most field_is =
    let none : len ≡ 0 = omega arith in
    follows-one r (spot.Length device code.Done) (entry.Did device heard.Done) b are (at.3, tt) at.2
    (ap (λ (xs : List ℕ). 0x0A ∷ device ∷ 0 ∷ xs) (field_is ∙ ap short none))
follows-length device len b code.Failed r are at most field_is =
    let none : len ≡ 0 = omega arith in
    follows-one r (spot.Length device code.Failed) (entry.Did device heard.Failed) b are (at.3, tt) at.2
    (ap (λ (xs : List ℕ). 0x0A ∷ device ∷ 1 ∷ xs) (field_is ∙ ap short none))
follows-length device len b code.Bytes r are at most field_is = follows-bytes device len b r (eqb len 0) are at most field_is refl
follows-length device len b code.Taken r are at most field_is =
    follows-one r (spot.Length device code.Taken) (entry.Did device (heard.Taken len)) b are (at.3, most) at.2
    (ap (λ (xs : List ℕ). 0x0A ∷ device ∷ 3 ∷ xs) field_is)

pub after-length : (device : ℕ) (c : Code) (r s : Read) (b : ℕ) → AreLines (record { records = r.records; end = r.end }) → IsAt (spot.Length device c) r → b < 256
    → r.spot ≡ spot.Length device c → length_read device c r b (r.field ++ b ∷ []) ≡ Some s
    → Follows s ((codes "TVJ1" ++ (lines_bytes r.records r.end ++ 0x0A ∷ device ∷ code_byte c ∷ r.field)) ++ b ∷ [])
after-length device c r s b are at here here_is is =
    let field = r.field ++ b ∷ [] in
    elim (either (ltb (length field) 2) _ _ s is) [
      | inl short ↦
          let parts = if_true (leb b (greatest_length c)) (record r { field = field }) s short.1 in
          subst (λ (t : Read). Follows t ((codes "TVJ1" ++ (lines_bytes r.records r.end ++ 0x0A ∷ device ∷ code_byte c ∷ r.field)) ++ b ∷ [])) parts.1
          (follows-at (spot.Length device c) (record r { field = field }) _ here_is are
          (ltb-true (length field) 2 short.0, length-push c r.field b at.1 (here, leb-true b (greatest_length c) parts.0), at.2, at.3)
          (more-in-line (lines_bytes r.records r.end) (0x0A ∷ device ∷ code_byte c ∷ r.field) b))
      | inr long ↦
          let parts = if_true (leb (from_le_bytes w16 field) (greatest_length c)) (with_length device c r (from_le_bytes w16 field)) s long.1 in
          let more = ltb-false (length field) 2 long.0 in
          let two : length field ≡ 2 = omega (arith, length-append r.field (b ∷ []), at.0) in
          subst (λ (t : Read). Follows t ((codes "TVJ1" ++ (lines_bytes r.records r.end ++ 0x0A ∷ device ∷ code_byte c ∷ r.field)) ++ b ∷ [])) parts.1
          (follows-length device (from_le_bytes w16 field) b c r are at (leb-true _ _ parts.0)
          (sym (short-is field two (bytes-push r.field b (are-bytes c r.field at.1) here))))
    ]

-- the bytes that it heard
pub after-bytes : (device len : ℕ) (r s : Read) (b : ℕ) → AreLines (record { records = r.records; end = r.end }) → IsAt (spot.Bytes device len) r
    → r.spot ≡ spot.Bytes device len → bytes_read device len r (r.field ++ b ∷ []) ≡ Some s
    → Follows s ((codes "TVJ1" ++ (lines_bytes r.records r.end ++ 0x0A ∷ device ∷ 2 ∷ (short len ++ r.field))) ++ b ∷ [])
after-bytes device len r s b are at here_is is =
    let field = r.field ++ b ∷ [] in
    let more : (short len ++ r.field) ++ b ∷ [] ≡ short len ++ field = append_assoc (short len) r.field (b ∷ []) in
    elim (either (ltb (length field) len) _ _ s is) [
      | inl few ↦ is-then _ s _ few.1
          (follows-at (spot.Bytes device len) (record r { field = field }) _ here_is are (ltb-true (length field) len few.0, at.1, at.2, at.3)
          (more-in-line (lines_bytes r.records r.end) (0x0A ∷ device ∷ 2 ∷ (short len ++ r.field)) b
          ∙ ap (λ (xs : List ℕ). codes "TVJ1" ++ (lines_bytes r.records r.end ++ 0x0A ∷ device ∷ 2 ∷ xs)) more))
      | inr all ↦
          let most = ltb-false (length field) len all.0 in
          let whole : length field ≡ len = omega (arith, length-append r.field (b ∷ []), at.0) in
          is-then _ s _ all.1
          (follows-one r (spot.Bytes device len) (entry.Did device (heard.Bytes field)) b are (at.3, omega (arith, at.1)) at.2
          (ap (λ (xs : List ℕ). 0x0A ∷ device ∷ 2 ∷ xs) (more ∙ ap (λ (n : ℕ). short n ++ field) (sym whole))))
    ]

-- an end line was read whole
pub follows-end : (r : Read) (cause : Why) (byte : ℕ) → AreLines (record { records = r.records; end = r.end }) → r.end ≡ None → cause_byte cause ≡ Some byte
    → Follows (with_end r cause) ((codes "TVJ1" ++ (lines_bytes r.records r.end ++ 0x10 ∷ [])) ++ byte ∷ [])
follows-end r cause byte are none is = record {
  lines = record {
    each = are.each;
    apart = are.apart;
    few = are.few;
    ended = record {
      place = omega arith;
      cause = λ no. none-some byte (sym no ∙ is);
      entries = ap (λ (rs : List Record). length (entries_of rs)) (sym (take_all (length r.records) r.records (omega arith)));
      after = rw (drop_all (length r.records) r.records (omega arith)) tt;
    };
  };
  at = refl;
  bytes_are =
      more-in-line (lines_bytes r.records r.end) (0x10 ∷ []) byte
      ∙ ap (λ (xs : List ℕ). codes "TVJ1" ++ xs) (rw (none, is, take_all (length r.records) r.records (omega arith), drop_all (length r.records) r.records (omega arith)) (sym (append-nil _ ∙ append-nil _)));
}

pub after-cause : (r s : Read) (b : ℕ) → AreLines (record { records = r.records; end = r.end }) → IsAt spot.Cause r → cause_read r b ≡ Some s
    → Follows s ((codes "TVJ1" ++ (lines_bytes r.records r.end ++ 0x10 ∷ [])) ++ b ∷ [])
after-cause r s b are at is =
    elim (either (eqb b 1) _ _ s is) [
      | inl one ↦ is-then _ s _ one.1 (rw (eqb-true b 1 one.0) (follows-end r why.Full 1 are at refl))
      | inr no_one ↦ elim (either (eqb b 2) _ _ s no_one.1) [
        | inl two ↦ is-then _ s _ two.1 (rw (eqb-true b 2 two.0) (follows-end r why.DebugLost 2 are at refl))
        | inr no_two ↦ elim (either (eqb b 3) _ _ s no_two.1) [
          | inl three ↦ is-then _ s _ three.1 (rw (eqb-true b 3 three.0) (follows-end r why.ListenFailed 3 are at refl))
          | inr no_three ↦ elim (either (eqb b 4) _ _ s no_three.1) [
            | inl four ↦ is-then _ s _ four.1 (rw (eqb-true b 4 four.0) (follows-end r why.CrewRefused 4 are at refl))
            | inr none ↦ absurd (none-some s none.1)
          ]
        ]
      ]
    ]

-- bytes that stand fast
pub fixed-more : (expected field : List ℕ) (b : ℕ) → field ≡ take (length field) expected → length field < length expected → eqb b (get_or expected (length field) 0) ≡ true
    → field ++ b ∷ [] ≡ take (length field + 1) expected
fixed-more expected field b is within test =
    ap (λ (xs : List ℕ). xs ++ b ∷ []) is
    ∙ ap (λ (x : ℕ). take (length field) expected ++ x ∷ []) (eqb-true b (get_or expected (length field) 0) test)
    ∙ sym (take_more expected (length field) 0 within)

pub after-magic : (r s : Read) (b : ℕ) → AreLines (record { records = r.records; end = r.end }) → IsAt spot.Magic r → r.spot ≡ spot.Magic
    → fixed_read r (codes "TVJ1") spot.Line b ≡ Some s → Follows s (r.field ++ b ∷ [])
after-magic r s b are at here_is is =
    elim (either (eqb b (get_or (codes "TVJ1") (length r.field) 0)) _ None s is) [
      | inl good ↦
          let more : r.field ++ b ∷ [] ≡ take (length r.field + 1) (codes "TVJ1") = fixed-more (codes "TVJ1") r.field b at.1 at.0 good.0 in
          elim (either (ltb (length r.field + 1) 4) _ _ s good.1) [
            | inl short ↦ is-then _ s _ short.1
                (follows-at spot.Magic _ _ here_is are (
                  omega (arith, length-append r.field (b ∷ []), ltb-true (length r.field + 1) 4 short.0),
                  more ∙ ap (λ (n : ℕ). take n (codes "TVJ1")) (sym (length-append r.field (b ∷ []))),
                  at.2,
                  at.3,
                )
                refl)
            | inr long ↦
                let four : length r.field + 1 ≡ 4 = omega (arith, ltb-false (length r.field + 1) 4 long.0) in
                is-then _ s _ long.1
                (record { lines = are; at = refl; bytes_are = more ∙ ap (λ (n : ℕ). take n (codes "TVJ1")) four ∙ rw (at.2, at.3) refl })
          ]
      | inr bad ↦ absurd (none-some s bad.1)
    ]

pub after-closing : (r s : Read) (b : ℕ) → AreLines (record { records = r.records; end = r.end }) → IsAt spot.Closing r → r.spot ≡ spot.Closing
    → fixed_read r (number (length r.records)) spot.Done b ≡ Some s
    → Follows s ((codes "TVJ1" ++ (lines_bytes r.records r.end ++ 0x00 ∷ r.field)) ++ b ∷ [])
after-closing r s b are at here_is is =
    let expected = number (length r.records) in
    elim (either (eqb b (get_or expected (length r.field) 0)) _ None s is) [
      | inl good ↦
          let more : r.field ++ b ∷ [] ≡ take (length r.field + 1) expected = fixed-more expected r.field b at.1 at.0 good.0 in
          elim (either (ltb (length r.field + 1) 4) _ _ s good.1) [
            | inl short ↦ is-then _ s _ short.1
                (follows-at spot.Closing _ _ here_is are (
                  omega (arith, length-append r.field (b ∷ []), ltb-true (length r.field + 1) 4 short.0),
                  more ∙ ap (λ (n : ℕ). take n expected) (sym (length-append r.field (b ∷ []))),
                )
                (more-in-line (lines_bytes r.records r.end) (0x00 ∷ r.field) b))
            | inr long ↦
                let four : length r.field + 1 ≡ 4 = omega (arith, ltb-false (length r.field + 1) 4 long.0) in
                let whole : r.field ++ b ∷ [] ≡ expected = more ∙ ap (λ (n : ℕ). take n expected) four in
                is-then _ s _ long.1
                (record {
                  lines = are;
                  at = tt;
                  bytes_are =
                      more-in-line (lines_bytes r.records r.end) (0x00 ∷ r.field) b
                      ∙ ap (λ (xs : List ℕ). codes "TVJ1" ++ (lines_bytes r.records r.end ++ 0x00 ∷ xs)) whole;
                })
          ]
      | inr bad ↦ absurd (none-some s bad.1)
    ]

-- a byte more
pub step-at : (sp : Spot) (r s : Read) (b : ℕ) (bytes : List ℕ) → r.spot ≡ sp → AreLines (record { records = r.records; end = r.end }) → IsAt sp r
    → bytes ≡ bytes_so_far sp r → b < 256 → read_at sp r b ≡ Some s → Follows s (bytes ++ b ∷ [])
step-at spot.Magic r s b bytes here_is are at bytes_are here is = rw bytes_are (after-magic r s b are at here_is is)
step-at spot.Line r s b bytes here_is are at bytes_are here is = rw bytes_are (after-line r s b are is)
step-at spot.Hart r s b bytes here_is are at bytes_are here is = rw bytes_are (after-hart r s b are at is)
step-at (spot.Count hart) r s b bytes here_is are at bytes_are here is = rw bytes_are (after-count hart r s b are at here here_is is)
step-at (spot.Device step) r s b bytes here_is are at bytes_are here is = rw bytes_are (after-device step r s b are at is)
step-at spot.Outcome r s b bytes here_is are at bytes_are here is = rw bytes_are (after-outcome r s b are at is)
step-at (spot.Code device) r s b bytes here_is are at bytes_are here is = rw bytes_are (after-code device r s b are at is)
step-at (spot.Length device c) r s b bytes here_is are at bytes_are here is = rw bytes_are (after-length device c r s b are at here here_is is)
step-at (spot.Bytes device len) r s b bytes here_is are at bytes_are here is = rw bytes_are (after-bytes device len r s b are at here_is is)
step-at spot.Tick r s b bytes here_is are at bytes_are here is = rw bytes_are (after-tick r s b are at here here_is is)
step-at spot.Cause r s b bytes here_is are at bytes_are here is = rw bytes_are (after-cause r s b are at is)
step-at spot.Closing r s b bytes here_is are at bytes_are here is = rw bytes_are (after-closing r s b are at here_is is)
step-at spot.Done r s b bytes here_is are at bytes_are here is = absurd (none-some s is)

pub follows-more : (r s : Read) (b : ℕ) (bytes : List ℕ) → Follows r bytes → b < 256 → read_byte r b ≡ Some s → Follows s (bytes ++ b ∷ [])
unfolding read_byte
follows-more r s b bytes follows here is = step-at r.spot r s b bytes refl follows.lines follows.at follows.bytes_are here is

pub follows-first : Follows first_read []
follows-first = record {
  lines = record { each = tt; apart = tt; few = omega arith; ended = tt };
  at = (omega arith, refl, refl, refl);
  bytes_are = refl;
}
