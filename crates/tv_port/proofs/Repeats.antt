-- A service repeated from its replies.
use Rattle.std.proofs.Common.{◌≡◌, ◌++◌, ℕ, List, [], ◌∷◌, drop, length, Option, Some, None, refl, ap, sym, ◌∙◌, subst, append_assoc, append-nil}
use Rattle.std.proofs.lemmas.Option.{none-some, same_Some}
use Rattle.tv_items.specs.declared.action.Action.{Action}
use Rattle.tv_items.specs.declared.action.Heard.{Heard}
use Rattle.tv_items.specs.declared.item.Verdict.{Verdict}
use Rattle.tv_items.specs.Fits.{FitsAction}
use Rattle.tv_script.specs.Happenings.{Happening, answered, told_of, Wanted, asks, tells, replies, verdicts}
use Rattle.tv_script.specs.Services.{Next, Asks, Rests, Loses, wants, IsServiceFrom, AwaitsService}
use Rattle.tv_script.proofs.Wanted.{asked_next}
use Rattle.tv_script.specs.Answers.{FitsNext, IsHeardFrom, IsHeard}
use Rattle.tv_port.specs.Replays.{ReplayMoved, AwaitsFrom, NextSo, RepeatedSo}

-- a reply that fits the next action
fits_next : {S : Type 0} (n : Next S) (a : Action) (h : Heard) → NextSo n (Some a) → FitsAction a h → FitsNext n h
fits_next (Asks action) a h e f = subst (λ (x : Action). FitsAction x h) (same_Some a action e) f
fits_next (Rests state) a h e f = absurd (none-some a (sym e))
fits_next (Loses state) a h e f = absurd (none-some a (sym e))

-- the replies of a service are awaited in it
awaits_from : {S : Type 0} (next : List Heard → Next S) (told : List Heard → List Verdict) (before : List Heard) (said : List Verdict) (list : List Heard) (xs : List Happening) (w : Wanted)
    → IsHeardFrom next before list → IsServiceFrom next told before said xs → wants next told (before ++ replies xs) (said ++ verdicts xs) ≡ Some w → AwaitsFrom list xs w
awaits_from next told before said [] [] w h i e = tt
awaits_from next told before said (g ∷ gs) [] (tells v) h i e = tt
awaits_from {S = S} next told before said (g ∷ gs) [] (asks a) h i e =
    let f : wants next told before said ≡ Some (asks a) = (let r = rw (append-nil, append-nil) at e in r) in
    subst (λ (n : Next S). FitsNext n g) (asked_next (drop (length said) (told before)) (next before) a f) h.0
awaits_from next told before said list (told_of v ∷ xs) w h i e =
    awaits_from next told before (said ++ v ∷ []) list xs w h i.1 (ap (λ (vs : List Verdict). wants next told (before ++ replies xs) vs) (append_assoc said (v ∷ []) (verdicts xs)) ∙ e)
awaits_from next told before said [] (answered x ∷ xs) w h i e = tt
awaits_from next told before said (g ∷ gs) (answered x ∷ xs) w h i e = λ same.
    awaits_from next told (before ++ x.heard ∷ []) said gs xs w (subst (λ (k : Heard). IsHeardFrom next (before ++ k ∷ []) gs) same h.1) i.1
    (ap (λ (hs : List Heard). wants next told hs (said ++ verdicts xs)) (append_assoc before (x.heard ∷ []) (replies xs)) ∙ e)

pub awaits_replies : {S : Type 0} (next : List Heard → Next S) (told : List Heard → List Verdict) (list : List Heard) → IsHeard next list → AwaitsService (AwaitsFrom list) next told
awaits_replies next told list h = record { each = λ xs w i e. awaits_from next told [] [] list xs w h i e }

-- the first reply, which fits the action that is next before any
pub heard_first : {S : Type 0} (next : List Heard → Next S) (a : Action) (h : Heard) → NextSo (next []) (Some a) → FitsAction a h → IsHeard next (h ∷ [])
heard_first next a h n f = (fits_next (next []) a h n f, tt)

-- the replies that are left after some
heard_rest : {S : Type 0} (next : List Heard → Next S) (before hs rest : List Heard) → IsHeardFrom next before (hs ++ rest) → IsHeardFrom next (before ++ hs) rest
heard_rest next before [] rest h = rw append-nil h
heard_rest next before (g ∷ hs) rest h =
    subst (λ (gs : List Heard). IsHeardFrom next gs rest) (append_assoc before (g ∷ []) hs) (heard_rest next (before ++ g ∷ []) hs rest h.1)

-- where no action is next no reply is left
none_left : {S : Type 0} (next : List Heard → Next S) (hs rest : List Heard) → IsHeardFrom next hs rest → ((h : Heard) → FitsNext (next hs) h → ⊥) → rest ≡ []
none_left next hs [] h not = refl
none_left next hs (g ∷ rest) h not = absurd (not g h.0)

all_heard : {S : Type 0} (next : List Heard → Next S) (list hs rest : List Heard) → IsHeard next list → list ≡ hs ++ rest → ((h : Heard) → FitsNext (next hs) h → ⊥) → hs ≡ list
all_heard next list hs rest h e not =
    sym (append-nil hs) ∙ ap (λ (gs : List Heard). hs ++ gs) (sym (none_left next hs rest (heard_rest next [] hs rest (subst (λ (gs : List Heard). IsHeardFrom next [] gs) e h)) not)) ∙ sym e

pub repeated_rests : {S : Type 0} (next : List Heard → Next S) (list later : List Heard) (at : ℕ) (xs : List Happening) (new : S) → IsHeard next list → ReplayMoved list 0 xs later at → next (replies xs) ≡ Rests new
    → RepeatedSo (next list) new None
repeated_rests {S = S} next list later at xs new h m e =
    let f : replies xs ≡ list = all_heard next list (replies xs) (drop at list) h m.rest (λ g k. (let r = rw e at k in r)) in
    subst (λ (n : Next S). RepeatedSo n new None) (sym e ∙ ap next f) (refl, refl)

pub repeated_loses : {S : Type 0} (next : List Heard → Next S) (list later : List Heard) (at : ℕ) (xs : List Happening) (new : S) → IsHeard next list → ReplayMoved list 0 xs later at → next (replies xs) ≡ Loses new
    → RepeatedSo (next list) new None
repeated_loses {S = S} next list later at xs new h m e =
    let f : replies xs ≡ list = all_heard next list (replies xs) (drop at list) h m.rest (λ g k. (let r = rw e at k in r)) in
    subst (λ (n : Next S). RepeatedSo n new None) (sym e ∙ ap next f) (refl, refl)

pub repeated_asks : {S : Type 0} (next : List Heard → Next S) (list later : List Heard) (at : ℕ) (xs : List Happening) (new : S) (a : Action) (result : Option Action)
    → ReplayMoved list 0 xs later at → drop at later ≡ [] → next (replies xs) ≡ Asks a → result ≡ Some a → RepeatedSo (next list) new result
repeated_asks {S = S} next list later at xs new a result m none e f =
    let g : list ≡ replies xs = m.rest ∙ ap (λ (gs : List Heard). replies xs ++ gs) (ap (drop at) (sym m.same) ∙ none) ∙ append-nil (replies xs) in
    subst (λ (n : Next S). RepeatedSo n new result) (sym e ∙ ap next (sym g)) f

-- what is next, of a device that is the same
pub next_so : {S : Type 0} (n : Next S) (new : S) (result : Option Action) → RepeatedSo n new result → NextSo n result
next_so (Asks action) new result r = r
next_so (Rests state) new result r = r.0
next_so (Loses state) new result r = r.0

-- the list from its beginning
pub moved_first : (list first later : List Heard) (start at : ℕ) (xs : List Happening) → first ≡ list → start ≡ 0 → ReplayMoved first start xs later at → ReplayMoved list 0 xs later at
moved_first list first later start at xs e f m = (let r = rw (e, f) at m in r)
