-- A service as rounds: a round is a script, and where it goes over another follows; where it stops, the service ends.
use Rattle.std.specs.Prelude.{◌≡◌, ◌<◌, ◌++◌, ℕ, List, [], ◌∷◌, length, drop, Option, Some, None}
use Rattle.tv_items.specs.declared.action.Action.{Action}
use Rattle.tv_items.specs.declared.action.Heard.{Heard}
use Rattle.tv_items.specs.declared.item.Verdict.{Verdict}
use Rattle.tv_script.specs.Happenings.{Happening, answered, told_of, Wanted, asks, tells, replies, verdicts}
use Rattle.tv_script.specs.Scripts.{Script, Over, Stop, Ask, Tell, Reached, Cut}
use Rattle.tv_script.specs.declared.service.Turned.{Turned}
use Rattle.tv_script.specs.declared.service.Turned.TheVariants as turned
use Rattle.tv_script.specs.declared.service.Served.{Served}
use Rattle.tv_script.specs.declared.service.Served.TheVariants as served

-- the end of a service, with the device's state: no action is left, or bytes of a put are lost
pub data End (S : Type 0) : Type 0 where
  Idle : (state : S) → End S
  Lost : (state : S) → End S

-- 1. The plan of a device

-- what a service begins with, and each round after it, from the states where they begin
pub record Plan (S : Type 0) : Type 0 where
  pub begins : S → Script (End S) S
  pub round : S → Script (End S) S

-- where a round is over another follows
unfoldable pub opened : {S : Type 0} → (S → Script (End S) S) → Script (End S) S → Script (End S) S
opened round (Over state) = round state
opened round (Stop end) = Stop end
opened round (Ask action then) = Ask action then
opened round (Tell verdict then) = Tell verdict (opened round then)

-- after a reply
unfoldable pub replied : {S : Type 0} → (S → Script (End S) S) → Script (End S) S → Heard → Script (End S) S
replied round (Over state) h = Over state
replied round (Stop end) h = Stop end
replied round (Ask action then) h = opened round (then h)
replied round (Tell verdict then) h = replied round then h

-- after the replies so far
unfoldable pub after : {S : Type 0} → (S → Script (End S) S) → Script (End S) S → List Heard → Script (End S) S
after round s [] = s
after round s (h ∷ hs) = after round (replied round s h) hs

-- what a device does next: it asks, or its service is at its end
pub data Next (S : Type 0) : Type 0 where
  Asks : (action : Action) → Next S
  Rests : (state : S) → Next S
  Loses : (state : S) → Next S

-- past the verdicts that are told first, the next action
unfoldable pub next_of : {S : Type 0} → Script (End S) S → Next S
next_of (Over state) = Rests state
next_of (Stop (Idle state)) = Rests state
next_of (Stop (Lost state)) = Loses state
next_of (Ask action then) = Asks action
next_of (Tell verdict then) = next_of then

-- the verdicts that are told first
unfoldable pub first_told : {S : Type 0} → Script (End S) S → List Verdict
first_told (Over state) = []
first_told (Stop end) = []
first_told (Ask action then) = []
first_told (Tell verdict then) = verdict ∷ first_told then

-- the verdicts that the replies so far decided, and those before them
unfoldable pub told_of_replies : {S : Type 0} → (S → Script (End S) S) → Script (End S) S → List Heard → List Verdict
told_of_replies round s [] = first_told s
told_of_replies round s (h ∷ hs) = first_told s ++ told_of_replies round (replied round s h) hs

-- a service from a state on
abbrev pub service : {S : Type 0} → Plan S → S → Script (End S) S
service plan s = opened plan.round (plan.begins s)

-- the next action after these replies
abbrev pub next_after : {S : Type 0} → Plan S → S → List Heard → Next S
next_after plan s heard = next_of (after plan.round (service plan s) heard)

-- the verdicts after these replies, in order
abbrev pub told_after : {S : Type 0} → Plan S → S → List Heard → List Verdict
told_after plan s heard = told_of_replies plan.round (service plan s) heard

-- the same in states of another kind
abbrev pub next_as : {S T : Type 0} → (S → T) → Next S → Next T
next_as into (Asks action) = Asks action
next_as into (Rests state) = Rests (into state)
next_as into (Loses state) = Loses (into state)

-- 2. A service over a port, whatever decides what is next

-- what a device wants: the oldest verdict that was decided and not told, or else its next action
abbrev pub asked_by : {S : Type 0} → Next S → Option Wanted
asked_by (Asks action) = Some (asks action)
asked_by (Rests state) = None
asked_by (Loses state) = None

abbrev pub wanted_by : {S : Type 0} → List Verdict → Next S → Option Wanted
wanted_by [] next = asked_by next
wanted_by (v ∷ vs) next = Some (tells v)

abbrev pub wants : {S : Type 0} → (List Heard → Next S) → (List Heard → List Verdict) → List Heard → List Verdict → Option Wanted
wants next told heard said = wanted_by (drop (length said) (told heard)) (next heard)

-- what happens is what the device wants, each time after what happened before
abbrev pub IsServiceFrom : {S : Type 0} → (List Heard → Next S) → (List Heard → List Verdict) → List Heard → List Verdict → List Happening → Type 0
IsServiceFrom next told heard said [] = Unit {0}
IsServiceFrom next told heard said (answered x ∷ xs) = (wants next told heard said ≡ Some (asks x.action)) × IsServiceFrom next told (heard ++ x.heard ∷ []) said xs
IsServiceFrom next told heard said (told_of v ∷ xs) = (wants next told heard said ≡ Some (tells v)) × IsServiceFrom next told heard (said ++ v ∷ []) xs

-- a port awaits each action and each verdict of a service as it comes
pub record AwaitsService {S : Type 0} (awaits : List Happening → Wanted → Type 0) (next : List Heard → Next S) (told : List Heard → List Verdict) : Type 0 where
  pub each : (xs : List Happening) (w : Wanted) → IsServiceFrom next told [] [] xs → wants next told (replies xs) (verdicts xs) ≡ Some w → awaits xs w

-- the port did not answer the next action
pub record Unanswered {S Q : Type 0} (over : Q → Type 0) (stopped : Q → Option Action) (q : Q) (next : Next S) : Type 0 where
  pub action : Action
  pub is_next : next ≡ Asks action
  pub at : stopped q ≡ Some action
  pub ends : over q

abbrev pub EndsSo : {S Q : Type 0} → (Q → Type 0) → (Q → Option Action) → Q → Next S → S → Served → Type 0
EndsSo over stopped q next new served.Idle = next ≡ Rests new
EndsSo over stopped q next new served.Lost = next ≡ Loses new
EndsSo over stopped q next new served.Ended = Unanswered over stopped q next

-- a service: what happened is what the device wanted, each time; each verdict was told; and the end is its end
pub record ServedSo {S Q : Type 0} (moved : Q → List Happening → Q → Type 0) (over : Q → Type 0) (stopped : Q → Option Action) (p : Q)
    (next : List Heard → Next S) (told : List Heard → List Verdict) (q : Q) (new : S) (result : Served) : Type 0 where
  pub happened : List Happening
  pub went : moved p happened q
  pub plan : IsServiceFrom next told [] [] happened
  pub all_told : told (replies happened) ≡ verdicts happened
  pub ends : EndsSo over stopped q (next (replies happened)) new result

-- 3. What a call did of a round, and the state that it left

abbrev pub TurnedSo : {S Q : Type 0} → (Q → List Happening → Q → Type 0) → (Q → Type 0) → (Q → Option Action) → Q → Script (End S) S → Q → S → Turned → Type 0
TurnedSo moved over stopped p s q new turned.Again = Reached moved p s q (Over new)
TurnedSo moved over stopped p s q new turned.Idle = Reached moved p s q (Stop (Idle new))
TurnedSo moved over stopped p s q new turned.Lost = Reached moved p s q (Stop (Lost new))
TurnedSo moved over stopped p s q new turned.Ended = Cut moved over stopped p s q

-- another round follows only where there was a reply
abbrev pub IsLower : ℕ → ℕ → Turned → Type 0
IsLower old new turned.Again = new < old
IsLower old new t = Unit {0}

-- no further round follows
abbrev pub IsEnd : Turned → Type 0
IsEnd turned.Again = ⊥
IsEnd t = Unit {0}
