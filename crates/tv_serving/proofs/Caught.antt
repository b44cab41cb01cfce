-- What a call of a queue that gave no value comes to.
use Rattle.std.proofs.Common.{◌≡◌, ◌++◌, List, Option, Err, subst, sym}
use Rattle.tv_items.specs.declared.action.Action.{Action}
use Rattle.tv_script.specs.Happenings.{Happening, Wanted}
use Rattle.tv_script.specs.Scripts.{Script, AwaitsAll, Cut, caught}
use Rattle.tv_script.specs.Services.{End, TurnedSo}
use Rattle.tv_script.specs.declared.service.Turned.{Turned}
use Rattle.tv_script.specs.declared.service.Turned.TheVariants as turned
use Rattle.tv_script.proofs.Scripts.{caught_cut, awaits_stop}
use Rattle.tv_script.proofs.Turns.{turned_stop}
use Rattle.tv_virtio.specs.declared.queue.QueueStop.{QueueStop}
use Rattle.tv_virtio.specs.declared.queue.QueueStop.TheVariants as stop
use Rattle.tv_virtio.specs.Queue.{RanSo}
use Rattle.tv_serving.specs.Stops.{AwaitsStop, StoppedSo}

-- what the port awaits then
pub stop_awaited : {A S Q : Type 0} (moved : Q → List Happening → Q → Type 0) (over : Q → Type 0) (stopped : Q → Option Action) (awaits : Q → List Happening → Wanted → Type 0) (p q : Q) (s : Script QueueStop A) (g : QueueStop → Script (End S) S)
    (f : A → Script (End S) S) (why : QueueStop) (t : Script (End S) S)
    → ((p q : Q) (xs ys : List Happening) (w : Wanted) → moved p xs q → awaits p (xs ++ ys) w → awaits q ys w)
    → AwaitsAll (awaits p) (caught s g f) → RanSo moved over stopped p s q (Err why) → g why ≡ t → AwaitsStop (awaits q) why t
stop_awaited moved over stopped awaits p q s g f stop.Ended t goes_on a d e = tt
stop_awaited moved over stopped awaits p q s g f stop.Empty t goes_on a d e = awaits_stop moved awaits p q s g f stop.Empty t goes_on a d e
stop_awaited moved over stopped awaits p q s g f stop.Refused t goes_on a d e = awaits_stop moved awaits p q s g f stop.Refused t goes_on a d e
stop_awaited moved over stopped awaits p q s g f (stop.Malformed fault number) t goes_on a d e = awaits_stop moved awaits p q s g f (stop.Malformed fault number) t goes_on a d e

cut_after : {S Q : Type 0} (moved : Q → List Happening → Q → Type 0) (over : Q → Type 0) (stopped : Q → Option Action) (p q r : Q) (s : Script (End S) S) (new : S) (result : Turned)
    → Cut moved over stopped p s q → r ≡ q → result ≡ turned.Ended → TurnedSo moved over stopped p s r new result
cut_after {Q = Q} moved over stopped p q r s new result d e ended =
    subst (λ (t : Turned). TurnedSo moved over stopped p s r new t) (sym ended) (subst (λ (x : Q). Cut moved over stopped p s x) (sym e) d)

-- and what the round comes to
pub stop_turned : {A S Q : Type 0} (moved : Q → List Happening → Q → Type 0) (over : Q → Type 0) (stopped : Q → Option Action) (p q r : Q) (s : Script QueueStop A) (g : QueueStop → Script (End S) S)
    (f : A → Script (End S) S) (why : QueueStop) (t : Script (End S) S) (new : S) (result : Turned)
    → ((p q r : Q) (xs ys : List Happening) → moved p xs q → moved q ys r → moved p (xs ++ ys) r)
    → RanSo moved over stopped p s q (Err why) → g why ≡ t → StoppedSo moved over stopped q why t r new result → TurnedSo moved over stopped p (caught s g f) r new result
stop_turned moved over stopped p q r s g f stop.Ended t new result joins d e h = cut_after moved over stopped p q r (caught s g f) new result (caught_cut moved over stopped p q s g f d) h.0 h.1
stop_turned moved over stopped p q r s g f stop.Empty t new result joins d e h = turned_stop moved over stopped p q r s g f stop.Empty t new result joins d e h
stop_turned moved over stopped p q r s g f stop.Refused t new result joins d e h = turned_stop moved over stopped p q r s g f stop.Refused t new result joins d e h
stop_turned moved over stopped p q r s g f (stop.Malformed fault number) t new result joins d e h = turned_stop moved over stopped p q r s g f (stop.Malformed fault number) t new result joins d e h
