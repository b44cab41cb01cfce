-- What the worker keeps lets it make its calls, and is kept by them.
use Rattle.std.proofs.lemmas.Bool.{true≢false}
use Rattle.std.specs.Option.{is_some}
use Rattle.std.proofs.Common.{◌≡◌, ℕ, Bool, true, false, List, [], ◌∷◌, ◌++◌, map, Option, Some, None, refl, ap, sym, ◌∙◌, subst}
use Rattle.tv_items.specs.declared.action.Action.{Action}
use Rattle.tv_items.specs.declared.action.Heard.{Heard}
use Rattle.tv_items.specs.declared.item.Item.{Item}
use Rattle.tv_items.specs.declared.item.Item.TheVariants as item
use Rattle.tv_plan.specs.Devices.{DeviceState, Acted, act, next}
use Rattle.tv_port.specs.Acting.{ActedSo}
use Rattle.tv_port.specs.declared.device.Acted.{Acted as ActedCode}
use Rattle.tv_port.specs.Replays.{RepeatedSo}
use Rattle.tv_script.specs.Answers.{FitsNext, IsHeard, IsHeardFrom}
use Rattle.tv_script.specs.Services.{Next, Asks, Rests, Loses}
use Rattle.tv_spec.specs.declared.Answer.{Answer}
use Rattle.tv_spec.specs.declared.Due.{Due}
use Rattle.tv_spec.specs.declared.Phase.{Phase}
use Rattle.tv_spec.specs.Devices.{IsOver, NoLoadDue, answers_of, next_of, rested}
use Rattle.tv_spec.specs.Held.{Brought, Began, Learned, Replied, Held, Owes, held_from, next_held, owes, owes_for}
use Rattle.tv_spec.proofs.HeldFold.{next_of_held}
use Rattle.tv_core.specs.Calls.{IsFirstDue, RestsNow}
use Rattle.tv_core.specs.Seen.{Seen, dev_of}
use Rattle.tv_probed.specs.Keeping.{BringsSo, Keeps, begun, due_by, learned, taken, value_due}

-- 1. What a worker may do

-- the next action, where none is under way
next_kept : (p : Seen) (d harts : ℕ) (device : DeviceState) (heard : List Heard) (due : Option (ℕ × ℕ)) → Keeps p d harts device heard false due
    → ((dev_of p d).phase ≡ Phase.Quiet) × (next_of (dev_of p d) ≡ next device heard)
next_kept p d harts device heard due K =
    let x = next_of_held (dev_of p d) (ap (λ (h : Held). h.busy) K.held) in
    (x.0, x.1 ∙ ap next_held K.held)

rests_now : (p : Seen) (d harts : ℕ) (device new : DeviceState) (heard : List Heard) → Keeps p d harts device heard false None
    → RepeatedSo (next device heard) new None → RestsNow (dev_of p d)
rests_now p d harts device new heard K repeated =
    let x = next_kept p d harts device heard None K in
    record { quiet = x.0; over = subst IsOver (sym x.1) (by_next (next device heard) repeated); answered = no_load (dev_of p d).due (ap (λ (h : Held). h.due) K.held) }
  where
    by_next : (n : Next DeviceState) → RepeatedSo n new None → IsOver n
    by_next (Asks action) is = let e : ◌≡◌ {A = Option Action} None (Some action) = is in cc
    by_next (Rests state) is = tt
    by_next (Loses state) is = tt

    no_load : (due : List Due) → map owes due ≡ [] → NoLoadDue due
    no_load [] is = tt
    no_load (w ∷ ws) is = let e : ◌≡◌ {A = List Owes} (owes w ∷ map owes ws) [] = is in cc

first_due : (p : Seen) (d harts : ℕ) (device : DeviceState) (heard : List Heard) (busy : Bool) (tag value : ℕ) → Keeps p d harts device heard busy (Some (tag, value))
    → IsFirstDue (dev_of p d) tag (Answer.Value value)
first_due p d harts device heard busy tag value K = by_due (dev_of p d).due refl (ap (λ (h : Held). h.due) K.held)
  where
    by_due : (due : List Due) → (dev_of p d).due ≡ due → map owes due ≡ record { tag = tag; answer = Answer.Value value } ∷ [] → IsFirstDue (dev_of p d) tag (Answer.Value value)
    by_due [] is none = let e : ◌≡◌ {A = List Owes} [] (record { tag = tag; answer = Answer.Value value } ∷ []) = none in cc
    by_due (w ∷ ws) is some =
        let e : ◌≡◌ {A = List Owes} (owes w ∷ map owes ws) (record { tag = tag; answer = Answer.Value value } ∷ []) = some in
        let first : owes w ≡ record { tag = tag; answer = Answer.Value value } = cc in
        let tag_is : w.tag ≡ tag = ap (λ (o : Owes). o.tag) first in
        let answer_is : w.answer ≡ Answer.Value value = ap (λ (o : Owes). o.answer) first in
        record { maker = w.maker; rest = ws; due = is ∙ (λ i. record { tag = tag_is i; maker = w.maker; answer = answer_is i } ∷ ws) }

-- 2. What it keeps after a call

-- by what it holds then
kept : (p q : Seen) (d harts : ℕ) (device later : DeviceState) (heard more : List Heard) (busy active : Bool) (due left : Option (ℕ × ℕ)) (brought : List Brought)
    → Keeps p d harts device heard busy due → BringsSo p q d brought
    → held_from (record { device = device; heard = heard; busy = busy; due = due_by due }) brought ≡ record { device = later; heard = more; busy = active; due = due_by left }
    → IsHeard (next later) more → Keeps q d harts later more active left
kept p q d harts device later heard more busy active due left brought K B is fits = record {
  exists = rw B.machine K.exists;
  harts = ap (λ m. m.harts) B.machine ∙ K.harts;
  held = B.held ∙ ap (λ (h : Held). held_from h brought) K.held ∙ is;
  fits = fits;
}

same_keeps : (p q : Seen) (d harts : ℕ) (device : DeviceState) (heard : List Heard) (busy : Bool) (due : Option (ℕ × ℕ)) → Keeps p d harts device heard busy due
    → BringsSo p q d [] → Keeps q d harts device heard busy due
same_keeps p q d harts device heard busy due K B = kept p q d harts device device heard heard busy busy due due [] K B refl K.fits

due_is : (tag : ℕ) (i : Item) (a : Acted) → owes_for tag (answers_of i a) ≡ due_by (value_due tag i a.value)
due_is tag (item.Load width off) a = refl
due_is tag (item.Store width off value) a = refl
due_is tag (item.Target pages) a = refl
due_is tag item.Stats a = refl
due_is tag (item.Resize sectors) a = refl

took_keeps : (p q : Seen) (d harts tag : ℕ) (i : Item) (device middle later : DeviceState) (heard : List Heard) (acted : ActedCode)
    → Keeps p d harts device heard false None → RepeatedSo (next device heard) middle None → BringsSo p q d (taken (Some (tag, i)))
    → ActedSo (act middle tag i) later acted → Keeps q d harts later [] false (value_due tag i acted.value)
took_keeps p q d harts tag i device middle later heard acted K repeated B acted_so =
    let rests : rested device (next device heard) ≡ middle = by_next (next device heard) repeated in
    let due : owes_for tag (answers_of i (act middle tag i)) ≡ due_by (value_due tag i acted.value) =
    due_is tag i (act middle tag i) ∙ ap (λ (n : ℕ). due_by (value_due tag i n)) (sym acted_so.value) in
    kept p q d harts device later heard [] false false None (value_due tag i acted.value) (taken (Some (tag, i))) K B
    (rw rests (λ j. record { device = (sym acted_so.device) j; heard = []; busy = false; due = due j })) tt
  where
    by_next : (n : Next DeviceState) → RepeatedSo n middle None → rested device n ≡ middle
    by_next (Asks action) is = let e : ◌≡◌ {A = Option Action} None (Some action) = is in cc
    by_next (Rests state) is = sym is.1
    by_next (Loses state) is = sym is.1

sent_keeps : (p q : Seen) (d harts : ℕ) (device : DeviceState) (heard : List Heard) (due : Option (ℕ × ℕ)) (sent : Bool) → Keeps p d harts device heard false due
    → BringsSo p q d (begun sent) → Keeps q d harts device heard sent due
sent_keeps p q d harts device heard due true K B = kept p q d harts device device heard heard false true due due (Began ∷ []) K B refl K.fits
sent_keeps p q d harts device heard due false K B = same_keeps p q d harts device heard false due K B

heard_more : (n : List Heard → Next DeviceState) (before hs : List Heard) (h : Heard) → IsHeardFrom n before hs → FitsNext (n (before ++ hs)) h → IsHeardFrom n before (hs ++ h ∷ [])
heard_more n before [] h is fits = (subst (λ (xs : List Heard). FitsNext (n xs) h) (append_nil before) fits, tt)
  where
    append_nil : (xs : List Heard) → xs ++ [] ≡ xs
    append_nil [] = refl
    append_nil (x ∷ xs) = ap (λ (ys : List Heard). x ∷ ys) (append_nil xs)
heard_more n before (x ∷ hs) h is fits =
    (is.0, heard_more n (before ++ x ∷ []) hs h is.1 (subst (λ (xs : List Heard). FitsNext (n xs) h) (sym (assoc before)) fits))
  where
    assoc : (xs : List Heard) → (xs ++ x ∷ []) ++ hs ≡ xs ++ x ∷ hs
    assoc [] = refl
    assoc (y ∷ xs) = ap (λ (ys : List Heard). y ∷ ys) (assoc xs)

got_keeps : (p q : Seen) (d harts : ℕ) (device : DeviceState) (heard : List Heard) (busy : Bool) (due : Option (ℕ × ℕ)) (h : Heard) → Keeps p d harts device heard busy due
    → BringsSo p q d (learned (Some h)) → FitsNext (next (dev_of p d).device (dev_of p d).got) h → Keeps q d harts device (heard ++ h ∷ []) false due
got_keeps p q d harts device heard busy due h K B fits =
    let at : FitsNext (next device heard) h =
    subst (λ (x : Held). FitsNext (next x.device x.heard) h) K.held fits in
    kept p q d harts device device heard (heard ++ h ∷ []) busy false due due (Learned h ∷ []) K B refl (heard_more (next device) [] heard h K.fits at)

replied_keeps : (p q : Seen) (d harts : ℕ) (device : DeviceState) (heard : List Heard) (busy : Bool) (due : ℕ × ℕ) → Keeps p d harts device heard busy (Some due)
    → BringsSo p q d (Replied ∷ []) → Keeps q d harts device heard busy None
replied_keeps p q d harts device heard busy due K B = kept p q d harts device device heard heard busy busy (Some due) None (Replied ∷ []) K B refl K.fits

-- 3. The same, as calls have their values

-- nothing is there
none_there : {A : Type 0} (o : Option A) (has : Bool) → has ≡ is_some o → has ≡ false → o ≡ None
none_there None has has_is none = refl
none_there (Some x) has has_is none = absurd (true≢false (sym has_is ∙ none))

pub rests_call : (p : Seen) (d harts : ℕ) (device new : DeviceState) (heard replies : List Heard) (busy owes_one asks_one : Bool) (due : Option (ℕ × ℕ)) (result : Option Action)
    → Keeps p d harts device heard busy due → busy ≡ false → owes_one ≡ is_some due → owes_one ≡ false → replies ≡ heard
    → RepeatedSo (next device replies) new result → asks_one ≡ is_some result → asks_one ≡ false → RestsNow (dev_of p d)
rests_call p d harts device new heard replies busy owes_one asks_one due result K idle owes_is none replies_are repeated asks_is over =
    rests_now p d harts device new heard
    (subst (λ (o : Option (ℕ × ℕ)). Keeps p d harts device heard false o) (none_there due owes_one owes_is none)
    (subst (λ (b : Bool). Keeps p d harts device heard b due) idle K))
    (subst (λ (o : Option Action). RepeatedSo (next device heard) new o) (none_there result asks_one asks_is over)
    (subst (λ (hs : List Heard). RepeatedSo (next device hs) new result) replies_are repeated))

pub took_call : (p q : Seen) (d harts tag : ℕ) (i : Item) (device middle later : DeviceState) (heard replies left : List Heard) (busy owes_one asks_one : Bool)
    (due after : Option (ℕ × ℕ)) (result : Option Action) (acted : ActedCode)
    → Keeps p d harts device heard busy due → busy ≡ false → owes_one ≡ is_some due → owes_one ≡ false → replies ≡ heard
    → RepeatedSo (next device replies) middle result → asks_one ≡ is_some result → asks_one ≡ false
    → BringsSo p q d (taken (Some (tag, i))) → ActedSo (act middle tag i) later acted → left ≡ [] → after ≡ value_due tag i acted.value
    → Keeps q d harts later left busy after
took_call p q d harts tag i device middle later heard replies left busy owes_one asks_one due after result acted K idle owes_is none replies_are repeated asks_is over B acted_so left_is after_is =
    rw (left_is, after_is, idle) (took_keeps p q d harts tag i device middle later heard acted
    (subst (λ (o : Option (ℕ × ℕ)). Keeps p d harts device heard false o) (none_there due owes_one owes_is none)
    (subst (λ (b : Bool). Keeps p d harts device heard b due) idle K))
    (subst (λ (o : Option Action). RepeatedSo (next device heard) middle o) (none_there result asks_one asks_is over)
    (subst (λ (hs : List Heard). RepeatedSo (next device hs) middle result) replies_are repeated))
    B acted_so)

pub sent_call : (p q : Seen) (d harts : ℕ) (device : DeviceState) (heard : List Heard) (busy sent : Bool) (due : Option (ℕ × ℕ)) → Keeps p d harts device heard busy due
    → busy ≡ false → BringsSo p q d (begun sent) → Keeps q d harts device heard sent due
sent_call p q d harts device heard busy sent due K idle B =
    sent_keeps p q d harts device heard due sent (subst (λ (b : Bool). Keeps p d harts device heard b due) idle K) B

pub got_call : (p q : Seen) (d harts : ℕ) (device : DeviceState) (heard between later : List Heard) (busy : Bool) (due : Option (ℕ × ℕ)) (h : Heard)
    → Keeps p d harts device heard busy due → between ≡ heard → later ≡ between ++ h ∷ []
    → BringsSo p q d (learned (Some h)) → FitsNext (next (dev_of p d).device (dev_of p d).got) h → Keeps q d harts device later false due
got_call p q d harts device heard between later busy due h K between_is later_is B fits =
    subst (λ (xs : List Heard). Keeps q d harts device xs false due) (sym (later_is ∙ ap (λ (xs : List Heard). xs ++ h ∷ []) between_is))
    (got_keeps p q d harts device heard busy due h K B fits)

pub due_call : (p : Seen) (d harts tag value : ℕ) (device : DeviceState) (heard : List Heard) (busy : Bool) (due : Option (ℕ × ℕ)) → Keeps p d harts device heard busy due
    → due ≡ Some (tag, value) → IsFirstDue (dev_of p d) tag (Answer.Value value)
due_call p d harts tag value device heard busy due K is =
    first_due p d harts device heard busy tag value (subst (λ (o : Option (ℕ × ℕ)). Keeps p d harts device heard busy o) is K)

pub replied_call : (p q : Seen) (d harts tag value : ℕ) (device : DeviceState) (heard : List Heard) (busy : Bool) (due : Option (ℕ × ℕ)) → Keeps p d harts device heard busy due
    → due ≡ Some (tag, value) → BringsSo p q d (Replied ∷ []) → Keeps q d harts device heard busy None
replied_call p q d harts tag value device heard busy due K is B =
    replied_keeps p q d harts device heard busy (tag, value) (subst (λ (o : Option (ℕ × ℕ)). Keeps p d harts device heard busy o) is K) B
