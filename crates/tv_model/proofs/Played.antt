-- A replay, record by record.
use Rattle.std.proofs.Common.{◌≡◌, ℕ, zero, suc, ◌+◌, ◌-◌, ◌<◌, ◌≤◌, List, [], ◌∷◌, ◌++◌, Option, Some, None, replicate, map, length, get_or, take, drop, refl, ap, sym, ◌∙◌, subst, append_assoc, append-nil, length-append, arith}
use Rattle.std.specs.List.{slice_get}
use Rattle.std.specs.Option.{option_map}
use Rattle.std.specs.Prelude.{Err}
use Rattle.std.proofs.lemmas.Grind.{flat_map-append}
use Rattle.std.proofs.lemmas.List.{drop_more, take_more, length-replicate, replicate-append-replicate}
use Rattle.std.proofs.lemmas.Option.{slice_get_within, get_or_from_slice_get, slice_get-get_or}
use Rattle.std.proofs.Math.Seq.{take-append_seam}
use Rattle.tv_base.specs.declared.Why.{Why}
use Rattle.tv_journal.specs.declared.Entry.{Entry}
use Rattle.tv_journal.specs.declared.Entry.TheVariants as entry
use Rattle.tv_journal.specs.Entries.{Record, Run, One, entries_in, entries_of, record_count, records_of}
use Rattle.tv_journal.specs.Journals.{IsOuterEnd, next_from, next_record, next_run, next_tick, run_from, tick_from}
use Rattle.tv_journal.specs.Stores.{entry_and_count}
use Rattle.tv_journal.proofs.Cuts.{entries-again, count-of-front}
use Rattle.tv_machine.specs.declared.machine.Machine.{Machine}
use Rattle.tv_spec.specs.Legal.{IsLegal, HasPlace, after, with_outer}
use Rattle.tv_spec.specs.Setup.{Setup, setup_of}
use Rattle.tv_spec.specs.State.{State, first_state}
use Rattle.tv_spec.specs.Step.{Move, made, ended, Can}
use Rattle.tv_spec.proofs.Moves.{after-append, legal-append}
use Rattle.tv_model.specs.declared.fault.StepFault.{StepFault}
use Rattle.tv_model.specs.Monitor.{IsFirst}
use Rattle.tv_model.specs.Moves.{AreMade}
use Rattle.tv_model.specs.MonitorState.{MonitorState, setup_in, state_in}
use Rattle.tv_model.specs.Monitor.{status_of}
use Rattle.tv_model.specs.Replay.{IsFirstIllegal, IsLegalWith, IsRecordOf, entry_count, state_after}
use Rattle.tv_model.specs.Replaying.{StepsNext, StepsOften, StopsAmong, HasLeft, IsDueTooLate, due, not_due, closer}
use Rattle.tv_model.proofs.Stepping.{at_same, count-append, count-replicate, count-due, with-due, with-front, IsAtBorder, border-first, border-due, border-end, border-place, border-closer, left-of-border, entries-parts}

-- a front of the moves was made: those of the first n records, and the outer end if it isn't still to come
pub record IsPlayed (machine : Machine) (image : List ℕ) (entries : List Entry) (outer : Option (ℕ × Why)) (now : MonitorState) (n : ℕ) (left : Option (ℕ × Why)) : Type 0 where
  pub front : List Move
  pub parts : with_outer entries outer ≡ front ++ with_outer (entries_of (drop n (records_of entries))) left
  pub legal : IsLegal (setup_of machine) (first_state machine image) front
  pub setup : (setup_in now) ≡ setup_of machine
  pub state : state_in now ≡ state_after machine image front
  pub count : entry_count front ≡ length (entries_of (take n (records_of entries)))
  pub border : IsAtBorder (drop n (records_of entries)) left

pub played-first : (machine : Machine) (image : List ℕ) (entries : List Entry) (outer : Option (ℕ × Why)) (now : MonitorState) → IsFirst now machine image → IsOuterEnd entries outer
    → IsPlayed machine image entries outer now 0 outer
played-first machine image entries outer now first end = record {
  front = [];
  parts = ap (λ (es : List Entry). with_outer es outer) (sym (entries-again entries));
  legal = tt;
  setup = first.setup;
  state = first.state;
  count = refl;
  border = border-first entries outer end;
}

-- moves more
played-more : (machine : Machine) (image : List ℕ) (entries : List Entry) (outer : Option (ℕ × Why)) (now next : MonitorState) (n m : ℕ) (left later : Option (ℕ × Why)) (moves : List Move)
    → IsPlayed machine image entries outer now n left → AreMade now next moves
    → with_outer (entries_of (drop n (records_of entries))) left ≡ moves ++ with_outer (entries_of (drop m (records_of entries))) later
    → length (entries_of (take n (records_of entries))) + entry_count moves ≡ length (entries_of (take m (records_of entries)))
    → IsAtBorder (drop m (records_of entries)) later → IsPlayed machine image entries outer next m later
played-more machine image entries outer now next n m left later moves played more parts count border =
    let legal : IsLegal (setup_of machine) (state_after machine image played.front) moves =
    at_same (λ setup s. IsLegal setup s moves) (setup_in now) (setup_of machine) (state_in now) (state_after machine image played.front) played.setup played.state more.legal in
    let rest = with_outer (entries_of (drop m (records_of entries))) later in
    record {
      front = played.front ++ moves;
      parts = played.parts ∙ ap (λ (ms : List Move). played.front ++ ms) parts ∙ sym (append_assoc played.front moves rest);
      legal = legal-append (setup_of machine) (first_state machine image) played.front moves played.legal legal;
      setup = more.setup ∙ played.setup;
      state = more.state ∙ ap (λ (setup : Setup). after setup (state_in now) moves) played.setup ∙ ap (λ (s : State). after (setup_of machine) s moves) played.state
          ∙ sym (after-append (setup_of machine) (first_state machine image) played.front moves);
      count = count-append played.front moves ∙ ap (λ (k : ℕ). k + entry_count moves) played.count ∙ count;
      border = border;
    }

-- an outer end that is due
pub played-due : (machine : Machine) (image : List ℕ) (entries : List Entry) (outer : Option (ℕ × Why)) (now next : MonitorState) (n : ℕ) (left : Option (ℕ × Why))
    → IsPlayed machine image entries outer now n left → AreMade now next (due left) → IsPlayed machine image entries outer next n (not_due left)
played-due machine image entries outer now next n left played more =
    played-more machine image entries outer now next n n left (not_due left) (due left) played more (with-due _ left)
    (let none = count-due left in omega arith) (border-due _ left played.border)

-- a record
pub entries-counted : (r : Record) (e : Entry) (count : ℕ) → ◌≡◌ {A = Entry × ℕ} (e, count) (entry_and_count r) → entries_in r ≡ replicate count e
entries-counted (Run hart n) e count is = ap (λ (p : Entry × ℕ). replicate p.1 p.0) (sym is)
entries-counted (One f) e count is = ap (λ (p : Entry × ℕ). replicate p.1 p.0) (sym is)

map-replicate : (n : ℕ) (e : Entry) → map made (replicate n e) ≡ replicate n (made e)
map-replicate zero e = refl
map-replicate (suc n) e = ap (λ (ms : List Move). made e ∷ ms) (map-replicate n e)

-- the record behind the first n, as what it holds
pub record IsNext (rs : List Record) (n : ℕ) (e : Entry) (count : ℕ) : Type 0 where
  pub found : Record
  pub at : slice_get rs n ≡ Some found
  pub holds : entries_in found ≡ replicate count e

next-from : (rs : List Record) (n cursor : ℕ) (e : Entry) (count : ℕ) (found : Option Record) → slice_get rs n ≡ found
    → ◌≡◌ {A = Option (Entry × ℕ) × ℕ} (Some (e, count), cursor) (next_from n found) → IsNext rs n e count × (cursor ≡ n + 1)
next-from rs n cursor e count None at is = absurd (let no : ◌≡◌ {A = Option (Entry × ℕ)} (Some (e, count)) None = ap (λ (p : Option (Entry × ℕ) × ℕ). p.0) is in cc)
next-from rs n cursor e count (Some r) at is =
    let same : ◌≡◌ {A = Option (Entry × ℕ)} (Some (e, count)) (Some (entry_and_count r)) = ap (λ (p : Option (Entry × ℕ) × ℕ). p.0) is in
    (record { found = r; at = at; holds = entries-counted r e count cc }, ap (λ (p : Option (Entry × ℕ) × ℕ). p.1) is)

pub next-found : (rs : List Record) (n at cursor : ℕ) (e : Entry) (count : ℕ) → ◌≡◌ {A = Option (Entry × ℕ) × ℕ} (Some (e, count), cursor) (next_record rs at) → at ≡ n
    → IsNext rs n e count × (cursor ≡ n + 1)
next-found rs n at cursor e count is here = subst (λ (k : ℕ). IsNext rs k e count × (cursor ≡ k + 1)) here (next-from rs at cursor e count (slice_get rs at) refl is)

pub next-none : (rs : List Record) (n cursor : ℕ) (d : Record) → ◌≡◌ {A = Option (Entry × ℕ) × ℕ} (None, cursor) (next_record rs n) → n < length rs → ⊥
next-none rs n cursor d is within =
    let no : ◌≡◌ {A = Option (Entry × ℕ) × ℕ} (None, cursor) (Some (entry_and_count (get_or rs n d)), n + 1) = is ∙ ap (λ (o : Option Record). next_from n o) (slice_get-get_or rs n d within) in
    let none : ◌≡◌ {A = Option (Entry × ℕ)} None (Some (entry_and_count (get_or rs n d))) = ap (λ (p : Option (Entry × ℕ) × ℕ). p.0) no in
    cc

drop-next : (rs : List Record) (n count : ℕ) (e : Entry) (next : IsNext rs n e count) → drop n rs ≡ next.found ∷ drop (n + 1) rs
drop-next rs n count e next =
    drop_more rs n next.found (slice_get_within rs n next.found next.at)
    ∙ ap (λ (r : Record). r ∷ drop (n + 1) rs) (get_or_from_slice_get rs n next.found next.found next.at)

length-next : (rs : List Record) (n count : ℕ) (e : Entry) (next : IsNext rs n e count) → length (entries_in next.found) ≡ count
length-next rs n count e next = ap length next.holds ∙ length-replicate count e

-- the entries of the first n records, and of that one
count-next : (rs : List Record) (n count : ℕ) (e : Entry) → IsNext rs n e count → length (entries_of (take n rs)) + count ≡ length (entries_of (take (n + 1) rs))
count-next rs n count e next =
    let within : n < length rs = slice_get_within rs n next.found next.at in
    let take_is : take (n + 1) rs ≡ take n rs ++ next.found ∷ [] =
    take_more rs n next.found within ∙ ap (λ (r : Record). take n rs ++ r ∷ []) (get_or_from_slice_get rs n next.found next.found next.at) in
    let parts : entries_of (take (n + 1) rs) ≡ entries_of (take n rs) ++ entries_in next.found =
    ap entries_of take_is ∙ flat_map-append entries_in (take n rs) (next.found ∷ []) ∙ ap (λ (es : List Entry). entries_of (take n rs) ++ es) (append-nil (entries_in next.found)) in
    let long = length-next rs n count e next in
    omega (arith, ap length parts, length-append (entries_of (take n rs)) (entries_in next.found))

pub left-next : (rs : List Record) (n count : ℕ) (e : Entry) (outer : Option (ℕ × Why)) → IsNext rs n e count → IsAtBorder (drop n rs) (not_due outer) → HasLeft count (not_due outer)
left-next rs n count e outer next border =
    subst (λ (k : ℕ). HasLeft k (not_due outer)) (length-next rs n count e next)
    (left-of-border next.found (drop (n + 1) rs) outer (subst (λ (rs : List Record). IsAtBorder rs (not_due outer)) (drop-next rs n count e next) border))

parts-next : (rs : List Record) (n count : ℕ) (e : Entry) (outer : Option (ℕ × Why)) → IsNext rs n e count → IsAtBorder (drop n rs) (not_due outer)
    → with_outer (entries_of (drop n rs)) (not_due outer) ≡ replicate count (made e) ++ with_outer (entries_of (drop (n + 1) rs)) (closer count (not_due outer))
parts-next rs n count e outer next border =
    let more = entries_of (drop (n + 1) rs) in
    let long = length-replicate count e in
    let left : HasLeft (length (replicate count e)) (not_due outer) =
    subst (λ (k : ℕ). HasLeft k (not_due outer)) (sym long) (left-next rs n count e outer next border) in
    ap (λ (rs : List Record). with_outer (entries_of rs) (not_due outer)) (drop-next rs n count e next)
    ∙ ap (λ (es : List Entry). with_outer (es ++ more) (not_due outer)) next.holds
    ∙ with-front (replicate count e) more (not_due outer) left
    ∙ ap (λ (ms : List Move). ms ++ with_outer more (closer (length (replicate count e)) (not_due outer))) (map-replicate count e)
    ∙ ap (λ (k : ℕ). replicate count (made e) ++ with_outer more (closer k (not_due outer))) long

pub played-record : (machine : Machine) (image : List ℕ) (entries : List Entry) (outer : Option (ℕ × Why)) (now next : MonitorState) (n count : ℕ) (e : Entry) (left : Option (ℕ × Why))
    → IsPlayed machine image entries outer now n (not_due left) → IsNext (records_of entries) n e count → AreMade now next (replicate count (made e))
    → IsPlayed machine image entries outer next (n + 1) (closer count (not_due left))
played-record machine image entries outer now next n count e left played found more =
    played-more machine image entries outer now next n (n + 1) (not_due left) (closer count (not_due left)) (replicate count (made e)) played more
    (parts-next (records_of entries) n count e left found played.border)
    (let counted = count-replicate count e in let longer = count-next (records_of entries) n count e found in omega arith)
    (subst (λ (k : ℕ). IsAtBorder (drop (n + 1) (records_of entries)) (closer k (not_due left))) (length-next (records_of entries) n count e found)
    (border-closer found.found (drop (n + 1) (records_of entries)) left
    (subst (λ (rs : List Record). IsAtBorder rs (not_due left)) (drop-next (records_of entries) n count e found) played.border)))

-- an entry of a record may not stand
pub entry-illegal : (machine : Machine) (image : List ℕ) (entries : List Entry) (outer : Option (ℕ × Why)) (now : MonitorState) (n count : ℕ) (e : Entry) (left : Option (ℕ × Why))
    → IsPlayed machine image entries outer now n (not_due left) → IsNext (records_of entries) n e count → StopsAmong now e count → IsFirstIllegal machine image entries outer n
entry-illegal machine image entries outer now n count e left played found stops =
    let rest = with_outer (entries_of (drop (n + 1) (records_of entries))) (closer count (not_due left)) in
    let k = count - (stops.times + 1) in
    let moves = replicate stops.times (made e) in
    let count_is : count ≡ stops.times + suc k = omega (arith, stops.few) in
    let split : replicate count (made e) ≡ moves ++ made e ∷ replicate k (made e) =
    ap (λ (m : ℕ). replicate m (made e)) count_is ∙ sym (replicate-append-replicate stops.times (suc k) (made e)) in
    let legal : IsLegal (setup_of machine) (state_after machine image played.front) moves =
    at_same (λ setup s. IsLegal setup s moves) (setup_in now) (setup_of machine) (state_in now) (state_after machine image played.front) played.setup played.state stops.legal in
    let cannot : Can (setup_of machine) (after (setup_of machine) (state_after machine image played.front) moves) (made e) → ⊥ =
    at_same (λ setup s. Can setup (after setup s moves) (made e) → ⊥) (setup_in now) (setup_of machine) (state_in now) (state_after machine image played.front) played.setup played.state stops.cannot in
    let counted : entry_count (played.front ++ moves) ≡ length (entries_of (take n (records_of entries))) + stops.times =
    count-append played.front moves ∙ ap (λ (m : ℕ). m + entry_count moves) played.count
    ∙ ap (λ (m : ℕ). length (entries_of (take n (records_of entries))) + m) (count-replicate stops.times e) in
    record {
      front = played.front ++ moves;
      move = made e;
      rest = replicate k (made e) ++ rest;
      parts = played.parts
          ∙ ap (λ (ms : List Move). played.front ++ ms) (parts-next (records_of entries) n count e left found played.border
          ∙ ap (λ (ms : List Move). ms ++ rest) split ∙ append_assoc moves (made e ∷ replicate k (made e)) rest)
          ∙ sym (append_assoc played.front moves (made e ∷ (replicate k (made e) ++ rest)));
      legal = legal-append (setup_of machine) (first_state machine image) played.front moves played.legal legal;
      cannot = subst (λ (s : State). Can (setup_of machine) s (made e) → ⊥) (sym (after-append (setup_of machine) (first_state machine image) played.front moves)) cannot;
      number = (let is : IsRecordOf (records_of entries) (entry_count (played.front ++ moves)) n = record {
        behind = omega (arith, counted);
        within = omega (arith, counted, count-next (records_of entries) n count e found, stops.few);
      } in is);
    }

-- the outer end may not stand
front-of-entries : (entries : List Entry) (n : ℕ) → take (length (entries_of (take n (records_of entries)))) entries ≡ entries_of (take n (records_of entries))
front-of-entries entries n =
    let front = entries_of (take n (records_of entries)) in
    ap (λ (es : List Entry). take (length front) es) (sym (entries-again entries) ∙ sym (entries-parts n (records_of entries)))
    ∙ take-append_seam front (entries_of (drop n (records_of entries)))

pub end-illegal : (machine : Machine) (image : List ℕ) (entries : List Entry) (outer : Option (ℕ × Why)) (now : MonitorState) (n : ℕ) (left : Option (ℕ × Why))
    → IsPlayed machine image entries outer now n left → n ≤ record_count entries → IsDueTooLate now left → IsFirstIllegal machine image entries outer n
end-illegal machine image entries outer now n left played within late =
    let es = entries_of (drop n (records_of entries)) in
    record {
      front = played.front;
      move = ended late.cause;
      rest = map made es;
      parts = played.parts ∙ ap (λ (left : Option (ℕ × Why)). played.front ++ with_outer es left) late.due;
      legal = played.legal;
      cannot = at_same (λ setup s. Can setup s (ended late.cause) → ⊥) (setup_in now) (setup_of machine) (state_in now) (state_after machine image played.front) played.setup played.state late.cannot;
      number =
          sym (ap (λ (k : ℕ). record_count (take k entries)) played.count ∙ ap record_count (front-of-entries entries n) ∙ count-of-front entries n within);
    }

-- everything was made
no-more : (entries : List Entry) → drop (record_count entries) (records_of entries) ≡ []
unfolding record_count
no-more entries = none-behind (records_of entries)
  where
    none-behind : (rs : List Record) → drop (length rs) rs ≡ []
    none-behind [] = refl
    none-behind (r ∷ rs) = none-behind rs

pub all-legal : (machine : Machine) (image : List ℕ) (entries : List Entry) (outer left : Option (ℕ × Why)) (now : MonitorState) → IsOuterEnd entries outer
    → IsAtBorder (drop (record_count entries) (records_of entries)) left
    → IsPlayed machine image entries outer now (record_count entries) (not_due left) → IsLegalWith machine image entries outer (status_of now.guest.mode)
all-legal machine image entries outer left now end border played =
    let nothing : with_outer (entries_of (drop (record_count entries) (records_of entries))) (not_due left) ≡ [] =
    ap (λ (rs : List Record). with_outer (entries_of rs) (not_due left)) (no-more entries) ∙ border-end left (subst (λ (rs : List Record). IsAtBorder rs left) (no-more entries) border) in
    let whole : with_outer entries outer ≡ played.front = played.parts ∙ ap (λ (ms : List Move). played.front ++ ms) nothing ∙ append-nil played.front in
    record {
      run = record {
        place = subst (λ (es : List Entry). HasPlace es outer) (entries-again entries) (border-place (records_of entries) outer (border-first entries outer end));
        legal = subst (IsLegal (setup_of machine) (first_state machine image)) (sym whole) played.legal;
      };
      status_is = ap (λ (s : State). status_of s.mode) played.state ∙ ap (λ (ms : List Move). status_of (state_after machine image ms).mode) (sym whole);
    }

pub counted : (entries : List Entry) (n : ℕ) → n < record_count entries → n < length (records_of entries)
unfolding record_count
counted entries n within = within

-- a record that was found as a run, or as a tick
run-as-record : (at later hart count : ℕ) (found : Option Record) → ◌≡◌ {A = Option (ℕ × ℕ) × ℕ} (Some (hart, count), later) (run_from at found)
    → ◌≡◌ {A = Option (Entry × ℕ) × ℕ} (Some (entry.Hart hart, count), later) (next_from at found)
run-as-record at later hart count None is = absurd (let no : ◌≡◌ {A = Option (ℕ × ℕ)} (Some (hart, count)) None = ap (λ (p : Option (ℕ × ℕ) × ℕ). p.0) is in cc)
run-as-record at later hart count (Some (One e)) is = absurd (let no : ◌≡◌ {A = Option (ℕ × ℕ)} (Some (hart, count)) None = ap (λ (p : Option (ℕ × ℕ) × ℕ). p.0) is in cc)
run-as-record at later hart count (Some (Run h n)) is = ap (λ (p : Option (ℕ × ℕ) × ℕ). let q : Option (Entry × ℕ) × ℕ = (option_map (λ (r : ℕ × ℕ). let x : Entry × ℕ = (entry.Hart r.0, r.1) in x) p.0, p.1) in q) is

pub run-found : (rs : List Record) (at later hart count : ℕ) → ◌≡◌ {A = Option (ℕ × ℕ) × ℕ} (Some (hart, count), later) (next_run rs at)
    → ◌≡◌ {A = Option (Entry × ℕ) × ℕ} (Some (entry.Hart hart, count), later) (next_record rs at)
run-found rs at later hart count is = run-as-record at later hart count (slice_get rs at) is

tick-as-record : (at later n : ℕ) (found : Option Record) → ◌≡◌ {A = Option ℕ × ℕ} (Some n, later) (tick_from at found)
    → ◌≡◌ {A = Option (Entry × ℕ) × ℕ} (Some (entry.Tick n, 1), later) (next_from at found)
tick-as-record at later n (Some (One (entry.Tick m))) is = ap (λ (p : Option ℕ × ℕ). let q : Option (Entry × ℕ) × ℕ = (option_map (λ (k : ℕ). let x : Entry × ℕ = (entry.Tick k, 1) in x) p.0, p.1) in q) is
tick-as-record at later n found is = absurd (let no : ◌≡◌ {A = Option ℕ} (Some n) None = ap (λ (p : Option ℕ × ℕ). p.0) is in cc)

pub tick-found : (rs : List Record) (at later n : ℕ) → ◌≡◌ {A = Option ℕ × ℕ} (Some n, later) (next_tick rs at)
    → ◌≡◌ {A = Option (Entry × ℕ) × ℕ} (Some (entry.Tick n, 1), later) (next_record rs at)
tick-found rs at later n is = tick-as-record at later n (slice_get rs at) is

-- a run of which an event was not made
pub run-stops : (rs : List Record) (at later : ℕ) (old new : MonitorState) (run : ℕ × ℕ) (fault : StepFault) → ◌≡◌ {A = Option (ℕ × ℕ) × ℕ} (Some run, later) (next_run rs at)
    → StepsOften old new (entry.Hart run.0) run.1 (Err fault) → StepsNext rs at later old new (Err fault)
run-stops rs at later old new run fault is steps = record {
  entry = entry.Hart run.0;
  count = run.1;
  next = run-found rs at later run.0 run.1 is;
  counted = tt;
  steps = steps;
}
