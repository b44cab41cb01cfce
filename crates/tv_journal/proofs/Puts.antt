-- Puts of a writer by the script of its sink.
use Rattle.std.proofs.Common.{◌≡◌, ℕ, ◌+◌, ◌-◌, ◌^◌, ◌<◌, ◌≤◌, List, ◌++◌, Option, Some, None, Ok, Err, Contains, length, length-append, refl, sym, subst, inl, inr, arith}
use Rattle.std.specs.Prelude.{⊤}
use Rattle.std.specs.Option.{option_map}
use Rattle.std.proofs.lemmas.Bool.{cases_lt}
use Rattle.tv_out.specs.declared.Short.{Short}
use Rattle.tv_out.specs.Calls.{RoomScript, IsFailing, next_count, after_call, calls_ahead}
use Rattle.tv_out.specs.Told.{FollowsPut, appended, WasRoom, FellShort}
use Rattle.tv_journal.specs.Writing.{IsMadeOn, IsLater, GoesOn}

-- no call yet
pub goes-none : (script : Option RoomScript) → GoesOn script script 0
goes-none None = tt
goes-none (Some script) = record {
  calls = 0;
  few = omega arith;
  enough = omega arith;
  worked = λ ahead within. absurd (omega arith);
  made = inl (omega arith);
  failing = refl;
  room = refl;
}

-- one call more
made-next : (start calls now : ℕ) → IsMadeOn start calls now → IsMadeOn start (calls + 1) (next_count now)
made-next start calls now made = elim made [
  | inl exact ↦ elim (cases_lt now (2 ^ 64 - 1)) [ inl below ↦ inl (omega arith) | inr last ↦ inr (omega arith, omega arith) ]
  | inr last ↦ let a = last.0 in let b = last.1 in inr (omega arith, omega arith)
]

-- the next call fails exactly where it was due to from the start
due-from-start : (start now : RoomScript) (bytes : ℕ) (goes : IsLater start now bytes) → IsFailing now.calls → IsFailing (calls_ahead start.calls goes.calls)
due-from-start start now bytes goes failing = elim failing [
  | inl listed ↦ elim goes.made [
    | inl exact ↦ inl (subst (λ (n : ℕ). Contains start.calls.failing n) exact (subst (λ (ns : List ℕ). Contains ns now.calls.made) goes.failing listed))
    | inr last ↦ inr last.0
  ]
  | inr last ↦ elim goes.made [ inl exact ↦ inr (omega arith) | inr later ↦ inr later.0 ]
]

due-by-start : (start now : RoomScript) (bytes : ℕ) (goes : IsLater start now bytes) → IsFailing (calls_ahead start.calls goes.calls) → IsFailing now.calls
due-by-start start now bytes goes failing = elim goes.made [
  | inl exact ↦ elim failing [
    | inl listed ↦ inl (subst (λ (ns : List ℕ). Contains ns now.calls.made) (sym goes.failing) (subst (λ (n : ℕ). Contains start.calls.failing n) (sym exact) listed))
    | inr last ↦ inr (omega arith)
  ]
  | inr last ↦ inr last.1
]

worked-next : (start now : RoomScript) (bytes : ℕ) (goes : IsLater start now bytes) → ¬ (IsFailing now.calls) → (ahead : ℕ) → ahead < goes.calls + 1 → ¬ (IsFailing (calls_ahead start.calls ahead))
worked-next start now bytes goes works ahead within failing = elim (cases_lt ahead goes.calls) [
  | inl before ↦ goes.worked ahead before failing
  | inr last ↦
      let same : ahead ≡ goes.calls = omega arith in
      works (due-by-start start now bytes goes (subst (λ (n : ℕ). IsFailing (calls_ahead start.calls n)) same failing))
]

-- a piece more went out whole
later-next : (start now : RoomScript) (put piece : List ℕ) → IsLater start now (length put) → 0 < length piece → length piece ≤ 4096 → ¬ (IsFailing now.calls)
    → IsLater start (after_call now) (length (put ++ piece))
later-next start now put piece goes some fits works = record {
  calls = goes.calls + 1;
  few = let few = goes.few in omega (arith, length-append put piece);
  enough = let enough = goes.enough in omega (arith, length-append put piece);
  worked = worked-next start now (length put) goes works;
  made = made-next start.calls.made goes.calls now.calls.made goes.made;
  failing = goes.failing;
  room = goes.room;
}

works-by : (now : RoomScript) (told : Option (List ℕ)) (asked before after : ℕ) (done : ⊤) → FollowsPut (Some now) told asked before after (Ok done) → ¬ (IsFailing now.calls)
works-by now None asked before after done follows = follows.0
works-by now (Some held) asked before after done follows = follows.0.works

pub goes-next : (start now new : Option RoomScript) (told : Option (List ℕ)) (put piece : List ℕ) (before after : ℕ) (done : ⊤) → GoesOn start now (length put) → new ≡ option_map after_call now
    → 0 < length piece → length piece ≤ 4096 → FollowsPut now told (length piece) before after (Ok done) → GoesOn start new (length (put ++ piece))
goes-next None now new told put piece before after done goes is some fits follows = tt
goes-next (Some start) None new told put piece before after done goes is some fits follows = absurd goes
goes-next (Some start) (Some now) new told put piece before after done goes is some fits follows =
    rw is (later-next start now put piece goes some fits (works-by now told (length piece) before after done follows))

pub room-next : (start now : Option RoomScript) (told : Option (List ℕ)) (put piece : List ℕ) (before after : ℕ) (done : ⊤) → GoesOn start now (length put)
    → 0 < length piece → length piece ≤ 4096 → FollowsPut now (appended told put) (length piece) before after (Ok done) → WasRoom start told (length (put ++ piece))
room-next None now told put piece before after done goes some fits follows = tt
room-next (Some start) None told put piece before after done goes some fits follows = absurd goes
room-next (Some start) (Some now) None put piece before after done goes some fits follows = tt
room-next (Some start) (Some now) (Some held) put piece before after done goes some fits follows =
    let later = later-next start now put piece goes some fits follows.0.works in
    record {
      works = λ ahead within. later.worked ahead (let enough = later.enough in omega arith);
      fits = let room = goes.room in let fit = follows.0.fits in omega (arith, length-append put piece, length-append held put);
    }

-- a piece more fell short
pub short-next : (start now : Option RoomScript) (told : Option (List ℕ)) (put piece more : List ℕ) (before after : ℕ) (short : Short) → GoesOn start now (length put)
    → 0 < length piece → FollowsPut {T = ⊤} now (appended told put) (length piece) before after (Err short)
    → FellShort start told (length ((put ++ piece) ++ more))
short-next None now told put piece more before after short goes some follows = tt
short-next (Some start) None told put piece more before after short goes some follows = absurd goes
short-next (Some start) (Some now) None put piece more before after short goes some follows = tt
short-next (Some start) (Some now) (Some held) put piece more before after short goes some follows = elim follows.0 [
  | inl refused ↦ inl (record {
    ahead = goes.calls;
    within = let few = goes.few in omega (arith, length-append put piece, length-append (put ++ piece) more);
    fails = due-from-start start now (length put) goes refused.0;
  })
  | inr full ↦ inr (let over = full.0 in let room = goes.room in omega (arith, length-append put piece, length-append (put ++ piece) more, length-append held put))
]

-- more bytes fall short where fewer did
pub short-more : (start : Option RoomScript) (told : Option (List ℕ)) (bytes more : List ℕ) → FellShort start told (length bytes) → FellShort start told (length (bytes ++ more))
short-more None told bytes more short = tt
short-more (Some start) None bytes more short = tt
short-more (Some start) (Some held) bytes more short = elim short [
  | inl due ↦ inl (record { ahead = due.ahead; within = let within = due.within in omega (arith, length-append bytes more); fails = due.fails })
  | inr over ↦ inr (omega (arith, length-append bytes more))
]
