-- Bytes that are gathered in a piece and put when it is full.
use Rattle.std.proofs.Common.{◌≡◌, ℕ, suc, ◌<◌, ◌≤◌, List, [], ◌∷◌, ◌++◌, Option, Result, Ok, Err, OnOk, OnErr, length, get_or, take, drop, refl, ap, sym, ◌∙◌, subst, append_assoc, append-nil, drop-cons, arith}
use Rattle.std.specs.Prelude.{⊤, IsErr, flat_map}
use Rattle.std.specs.Option.{option_map}
use Rattle.std.proofs.lemmas.Grind.{flat_map-append}
use Rattle.std.proofs.lemmas.List.{take-append-drop}
use Rattle.tv_base.specs.declared.Failed.{Failed}
use Rattle.tv_out.specs.declared.Short.{Short}
use Rattle.tv_out.specs.Calls.{after_call}
use Rattle.tv_out.specs.Told.{ToldSink, FollowsPut, FellShort, appended}
use Rattle.tv_out.proofs.Appended.{appended-twice, appended-nil}
use Rattle.tv_out.proofs.Pieces.{steady_put, steady-same, steady-on}
use Rattle.tv_journal.specs.declared.record.Stored.{Stored}
use Rattle.tv_journal.specs.Writing.{IsWriting, IsAllPut, IsPartPut, WritesOn, EndsIn, PutGives}
use Rattle.tv_journal.proofs.Puts.{goes-none, goes-next, room-next, short-next, short-more}

-- nothing is written yet
pub writing-none : (start : ToldSink) → IsWriting [] start start []
writing-none start = record {
  put = [];
  parts = refl;
  told = sym (appended-nil start.bytes);
  goes_on = goes-none start.script;
  was_room = λ some. let none : 0 < 0 = some in absurd (omega arith);
  steady = steady-same start;
}

-- the piece went out
pub writing-put : (written : List ℕ) (start old new : ToldSink) (piece : List ℕ) (done : ⊤) → IsWriting written start old piece → 0 < length piece → length piece ≤ 4096 → new.bytes ≡ appended old.bytes piece
    → new.script ≡ option_map after_call old.script → FollowsPut old.script old.bytes (length piece) old.faults new.faults (Ok done) → IsWriting (written ++ []) start new []
writing-put written start old new piece done so_far some fits told script follows = record {
  put = so_far.put ++ piece;
  parts = append-nil written ∙ so_far.parts ∙ sym (append-nil (so_far.put ++ piece));
  told = told ∙ ap (λ (t : Option (List ℕ)). appended t piece) so_far.told ∙ appended-twice start.bytes so_far.put piece;
  goes_on = goes-next start.script old.script new.script old.bytes so_far.put piece old.faults new.faults done so_far.goes_on script some fits follows;
  was_room = λ _. room-next start.script old.script start.bytes so_far.put piece old.faults new.faults done so_far.goes_on some fits
      (subst (λ (t : Option (List ℕ)). FollowsPut old.script t (length piece) old.faults new.faults (Ok done)) so_far.told follows);
  steady = steady-on start old new so_far.steady (steady_put (length piece) old new done follows script);
}

-- the piece went out in part
pub writing-cut : (written : List ℕ) (start old new : ToldSink) (piece more : List ℕ) (short : Short) → IsWriting written start old piece → 0 < length piece
    → new.bytes ≡ appended old.bytes (take short.taken piece) → FollowsPut {T = ⊤} old.script old.bytes (length piece) old.faults new.faults (Err short) → IsPartPut (written ++ more) start new
writing-cut written start old new piece more short so_far some told follows =
    let n = short.taken in
    record {
      cut = record {
        front = so_far.put ++ take n piece;
        rest = drop n piece ++ more;
        parts =
            ap (λ (xs : List ℕ). xs ++ more) (so_far.parts ∙ ap (λ (xs : List ℕ). so_far.put ++ xs) (sym (take-append-drop n piece)) ∙ sym (append_assoc so_far.put (take n piece) (drop n piece)))
            ∙ append_assoc (so_far.put ++ take n piece) (drop n piece) more;
        told = told ∙ ap (λ (t : Option (List ℕ)). appended t (take n piece)) so_far.told ∙ appended-twice start.bytes so_far.put (take n piece);
      };
      fell_short = subst (λ (xs : List ℕ). FellShort start.script start.bytes (length (xs ++ more))) (sym so_far.parts)
          (short-next start.script old.script start.bytes so_far.put piece more old.faults new.faults short so_far.goes_on some
          (subst (λ (t : Option (List ℕ)). FollowsPut {T = ⊤} old.script t (length piece) old.faults new.faults (Err short)) so_far.told follows));
    }

-- a front of a front
pub cut-more : (bytes more : List ℕ) (old new : ToldSink) → IsPartPut bytes old new → IsPartPut (bytes ++ more) old new
cut-more bytes more old new part = record {
  cut = record {
    front = part.cut.front;
    rest = part.cut.rest ++ more;
    parts = ap (λ (xs : List ℕ). xs ++ more) part.cut.parts ∙ append_assoc part.cut.front part.cut.rest more;
    told = part.cut.told;
  };
  fell_short = short-more old.script old.bytes bytes more part.fell_short;
}

-- all went out
pub writing-all : (written : List ℕ) (start now : ToldSink) → 0 < length written → IsWriting written start now [] → IsAllPut written start now
writing-all written start now some so_far =
    let same : so_far.put ≡ written = sym (append-nil so_far.put) ∙ sym so_far.parts in
    subst (λ (xs : List ℕ). IsAllPut xs start now) same
    (record { told = so_far.told; steady = so_far.steady; was_room = so_far.was_room (subst (λ (xs : List ℕ). 0 < length xs) (sym same) some) })

-- a record, with those before it and behind it
pub bytes-at : (spelled : Stored → List ℕ) (rs : List Stored) (i : ℕ) (r : Stored) → i < length rs → r ≡ get_or rs i r
    → flat_map spelled rs ≡ (flat_map spelled (take i rs) ++ spelled r) ++ flat_map spelled (drop (suc i) rs)
bytes-at spelled rs i r within is =
    ap (flat_map spelled) (sym (take-append-drop i rs))
    ∙ flat_map-append spelled (take i rs) (drop i rs)
    ∙ ap (λ (more : List Stored). flat_map spelled (take i rs) ++ flat_map spelled more) (drop-cons rs i r within ∙ ap (λ (x : Stored). x ∷ drop (suc i) rs) (sym is))
    ∙ sym (append_assoc (flat_map spelled (take i rs)) (spelled r) (flat_map spelled (drop (suc i) rs)))

-- the sink failed at a record
pub cut-in-records : (spelled : Stored → List ℕ) (rs : List Stored) (i : ℕ) (r : Stored) (written : List ℕ) (start new : ToldSink) → i < length rs → r ≡ get_or rs i r
    → IsPartPut ((written ++ flat_map spelled (take i rs)) ++ spelled r) start new → IsPartPut (written ++ flat_map spelled rs) start new
cut-in-records spelled rs i r written start new within is cut =
    let before = flat_map spelled (take i rs) in
    let behind = flat_map spelled (drop (suc i) rs) in
    subst (λ (xs : List ℕ). IsPartPut xs start new)
    (append_assoc (written ++ before) (spelled r) behind ∙ append_assoc written before (spelled r ++ behind)
    ∙ ap (λ (xs : List ℕ). written ++ xs) (sym (append_assoc before (spelled r) behind) ∙ sym (bytes-at spelled rs i r within is)))
    (cut-more ((written ++ before) ++ spelled r) behind start new cut)

-- bytes and then bytes
pub writes-after : (a b : List ℕ) (old mid new : ToldSink) (p q r : List ℕ) → WritesOn a old p mid q → WritesOn b mid q new r → WritesOn (a ++ b) old p new r
writes-after a b old mid new p q r first second = λ (start : ToldSink) (written : List ℕ) (so_far : IsWriting written start old p).
    subst (λ (xs : List ℕ). IsWriting xs start new r) (append_assoc written a b) (second start (written ++ a) (first start written so_far))

pub ends-after : (a b : List ℕ) (old mid new : ToldSink) (p q : List ℕ) → WritesOn a old p mid q → EndsIn b mid q new → EndsIn (a ++ b) old p new
ends-after a b old mid new p q first second = λ (start : ToldSink) (written : List ℕ) (so_far : IsWriting written start old p).
    subst (λ (xs : List ℕ). IsPartPut xs start new) (append_assoc written a b) (second start (written ++ a) (first start written so_far))

pub ends-before : (a b : List ℕ) (old new : ToldSink) (p : List ℕ) → EndsIn a old p new → EndsIn (a ++ b) old p new
ends-before a b old new p ends = λ (start : ToldSink) (written : List ℕ) (so_far : IsWriting written start old p).
    subst (λ (xs : List ℕ). IsPartPut xs start new) (append_assoc written a b) (cut-more (written ++ a) b start new (ends start written so_far))

-- what was written from the start, with nothing waiting
pub written-whole : (bytes : List ℕ) (old new : ToldSink) → 0 < length bytes → WritesOn bytes old [] new [] → IsAllPut bytes old new
written-whole bytes old new some writes = writing-all bytes old new some (writes old [] (writing-none old))

pub cut-whole : (bytes : List ℕ) (old new : ToldSink) → EndsIn bytes old [] new → IsPartPut bytes old new
cut-whole bytes old new ends = ends old [] (writing-none old)

-- what holds at an error that is returned as it came
pub at-err : {P : Type 0} (r : Result ⊤ Failed) → P → OnErr r P
at-err (Ok _) holds = tt
at-err (Err _) holds = holds

pub gives-cut : (r : Result ⊤ Failed) (bytes : List ℕ) (old new : ToldSink) → IsErr r → IsPartPut bytes old new → PutGives r bytes old new
gives-cut (Ok _) bytes old new is cut = absurd (cc is)
gives-cut (Err _) bytes old new is cut = cut

-- what follows from what an error says
pub on-err : (P Q : Type 0) (r : Result ⊤ Failed) → (P → Q) → OnErr r P → OnErr r Q
on-err P Q (Ok _) then on = on
on-err P Q (Err _) then on = then on

pub gives-whole : (r : Result ⊤ Failed) (bytes : List ℕ) (old new : ToldSink) → 0 < length bytes → OnOk r (WritesOn bytes old [] new []) → OnErr r (EndsIn bytes old [] new) → PutGives r bytes old new
gives-whole (Ok _) bytes old new some ok err = written-whole bytes old new some ok
gives-whole (Err _) bytes old new some ok err = cut-whole bytes old new err

pub on-ok : (P Q : Type 0) (r : Result ⊤ Failed) → (P → Q) → OnOk r P → OnOk r Q
on-ok P Q (Ok _) then on = then on
on-ok P Q (Err _) then on = on
