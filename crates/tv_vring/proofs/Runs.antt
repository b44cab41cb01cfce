-- What calls did of scripts, one after another.
use Rattle.std.proofs.Common.{◌≡◌, ◌++◌, ◌∙◌, List, Option, Result, Ok, Err, refl, subst, sym, ap}
use Rattle.std.specs.Prelude.{IsErr, IsErrAnd}
use Rattle.tv_items.specs.declared.action.Action.{Action}
use Rattle.tv_script.specs.Happenings.{Happening, Wanted}
use Rattle.tv_script.specs.Scripts.{Script, Over, Stop, ◌>>=◌, AwaitsAll, Reached}
use Rattle.tv_script.proofs.Scripts.{reached_on, reached_second, reached_stop, cut_first, cut_on, awaits_on, awaits_first}
use Rattle.tv_virtio.specs.Queue.{RanSo}
use Rattle.tv_virtio.specs.declared.queue.QueueStop.{QueueStop}
use Rattle.tv_virtio.specs.declared.queue.QueueStop.TheVariants as stop

-- further calls from a place that was reached
pub ran_on : {A Q : Type 0} (moved : Q → List Happening → Q → Type 0) (over : Q → Type 0) (stopped : Q → Option Action) (p q r : Q) (s t : Script QueueStop A) (result : Result A QueueStop)
    → ((p q r : Q) (xs ys : List Happening) → moved p xs q → moved q ys r → moved p (xs ++ ys) r)
    → Reached moved p s q t → RanSo moved over stopped q t r result → RanSo moved over stopped p s r result
ran_on moved over stopped p q r s t (Ok value) joins d e = reached_on moved p q r s t (Over value) joins d e
ran_on moved over stopped p q r s t (Err stop.Ended) joins d e = cut_on moved over stopped p q r s t joins d e
ran_on moved over stopped p q r s t (Err stop.Empty) joins d e = reached_on moved p q r s t (Stop stop.Empty) joins d e
ran_on moved over stopped p q r s t (Err stop.Refused) joins d e = reached_on moved p q r s t (Stop stop.Refused) joins d e
ran_on moved over stopped p q r s t (Err (stop.Malformed fault number)) joins d e = reached_on moved p q r s t (Stop (stop.Malformed fault number)) joins d e

-- the first of two calls gave a value, and then the second ran
pub ran_then : {A B Q : Type 0} (moved : Q → List Happening → Q → Type 0) (over : Q → Type 0) (stopped : Q → Option Action) (p q r : Q) (s : Script QueueStop A) (value : A) (f : A → Script QueueStop B) (result : Result B QueueStop)
    → ((p q r : Q) (xs ys : List Happening) → moved p xs q → moved q ys r → moved p (xs ++ ys) r)
    → Reached moved p s q (Over value) → RanSo moved over stopped q (f value) r result → RanSo moved over stopped p (s >>= f) r result
ran_then moved over stopped p q r s value f result joins d e = ran_on moved over stopped p q r (s >>= f) (f value) result joins (reached_second moved p q s value f (f value) d refl) e

-- the first of two calls gave no value
pub ran_no_further : {A B Q : Type 0} (moved : Q → List Happening → Q → Type 0) (over : Q → Type 0) (stopped : Q → Option Action) (p q : Q) (s : Script QueueStop A) (f : A → Script QueueStop B) (why : QueueStop)
    → RanSo moved over stopped p s q (Err why) → RanSo moved over stopped p (s >>= f) q (Err why)
ran_no_further moved over stopped p q s f stop.Ended e = cut_first moved over stopped p q s f e
ran_no_further moved over stopped p q s f stop.Empty e = reached_stop moved p q s stop.Empty f e
ran_no_further moved over stopped p q s f stop.Refused e = reached_stop moved p q s stop.Refused f e
ran_no_further moved over stopped p q s f (stop.Malformed fault number) e = reached_stop moved p q s (stop.Malformed fault number) f e

-- what the port awaits of the second of two
pub awaits_second : {A B Q : Type 0} (moved : Q → List Happening → Q → Type 0) (awaits : Q → List Happening → Wanted → Type 0) (p q : Q) (s : Script QueueStop A) (value : A) (f : A → Script QueueStop B) (t : Script QueueStop B)
    → ((p q : Q) (xs ys : List Happening) (w : Wanted) → moved p xs q → awaits p (xs ++ ys) w → awaits q ys w)
    → AwaitsAll (awaits p) (s >>= f) → Reached moved p s q (Over value) → f value ≡ t → AwaitsAll (awaits q) t
awaits_second {A = A} {B = B} moved awaits p q s value f t goes_on w d e = awaits_on moved awaits p q (s >>= f) t goes_on w (reached_second moved p q s value f t d e)

-- what the port awaits of the second of three
pub awaits_middle : {A B C Q : Type 0} (moved : Q → List Happening → Q → Type 0) (awaits : Q → List Happening → Wanted → Type 0) (p q : Q) (s : Script QueueStop A) (value : A) (f : A → Script QueueStop B) (t : Script QueueStop C) (h : C → Script QueueStop B)
    → ((p q : Q) (xs ys : List Happening) (w : Wanted) → moved p xs q → awaits p (xs ++ ys) w → awaits q ys w)
    → AwaitsAll (awaits p) (s >>= f) → Reached moved p s q (Over value) → f value ≡ t >>= h → AwaitsAll (awaits q) t
awaits_middle moved awaits p q s value f t h goes_on w d e = awaits_first (awaits q) t h (awaits_second moved awaits p q s value f (t >>= h) goes_on w d e)

-- the first of two calls gave a value, and from there the second led on
pub reached_then : {A B Q : Type 0} (moved : Q → List Happening → Q → Type 0) (p q r : Q) (s : Script QueueStop A) (value : A) (f : A → Script QueueStop B) (t : Script QueueStop B)
    → ((p q r : Q) (xs ys : List Happening) → moved p xs q → moved q ys r → moved p (xs ++ ys) r)
    → Reached moved p s q (Over value) → Reached moved q (f value) r t → Reached moved p (s >>= f) r t
reached_then moved p q r s value f t joins d e = reached_on moved p q r (s >>= f) (f value) t joins (reached_second moved p q s value f (f value) d refl) e

-- A loop whose script, at the place that was reached, begins with a call: what the port awaits of the call, where the call leads, and what it
-- means that it gave no value.
pub call_awaited : {A B Q : Type 0} (moved : Q → List Happening → Q → Type 0) (awaits : Q → List Happening → Wanted → Type 0) (p q : Q) (s t : Script QueueStop B) (a : Script QueueStop A) (f : A → Script QueueStop B)
    → ((p q : Q) (xs ys : List Happening) (w : Wanted) → moved p xs q → awaits p (xs ++ ys) w → awaits q ys w)
    → AwaitsAll (awaits p) s → Reached moved p s q t → t ≡ a >>= f → AwaitsAll (awaits q) a
call_awaited {B = B} moved awaits p q s t a f goes_on w d e =
    awaits_first (awaits q) a f (subst (λ (u : Script QueueStop B). AwaitsAll (awaits q) u) e (awaits_on moved awaits p q s t goes_on w d))

pub call_leads : {A B Q : Type 0} (moved : Q → List Happening → Q → Type 0) (p q r : Q) (s t u : Script QueueStop B) (a : Script QueueStop A) (f : A → Script QueueStop B) (value : A)
    → ((p q r : Q) (xs ys : List Happening) → moved p xs q → moved q ys r → moved p (xs ++ ys) r)
    → Reached moved p s q t → t ≡ a >>= f → Reached moved q a r (Over value) → f value ≡ u → Reached moved p s r u
call_leads {B = B} moved p q r s t u a f value joins d e b h =
    reached_on moved p q r s t u joins d (subst (λ (v : Script QueueStop B). Reached moved q v r u) (sym e) (reached_second moved q r a value f u b h))

pub call_stops : {A B Q : Type 0} (moved : Q → List Happening → Q → Type 0) (over : Q → Type 0) (stopped : Q → Option Action) (p q r : Q) (s t : Script QueueStop B) (a : Script QueueStop A) (f : A → Script QueueStop B) (why : QueueStop)
    → ((p q r : Q) (xs ys : List Happening) → moved p xs q → moved q ys r → moved p (xs ++ ys) r)
    → Reached moved p s q t → t ≡ a >>= f → RanSo moved over stopped q a r (Err why) → RanSo moved over stopped p s r (Err why)
call_stops {B = B} moved over stopped p q r s t a f why joins d e b =
    ran_on moved over stopped p q r s t (Err why) joins d (subst (λ (v : Script QueueStop B). RanSo moved over stopped q v r (Err why)) (sym e) (ran_no_further moved over stopped q r a f why b))

-- an error that was passed on
pub passed_on : {A B : Type 0} (view : Result A QueueStop → Result B QueueStop) (result : Result A QueueStop) (why : QueueStop) → view (Err why) ≡ Err why
    → IsErr result × IsErrAnd result (λ e. e ≡ why) → view result ≡ Err why
passed_on view (Ok value) why e is = cc is.0
passed_on view (Err other) why e is = ap (λ w. view (Err w)) is.1 ∙ e

-- the call gave no value, and its stop was passed on
pub call_passed : {A B Q : Type 0} (moved : Q → List Happening → Q → Type 0) (over : Q → Type 0) (stopped : Q → Option Action) (p q r : Q) (s t : Script QueueStop B) (a : Script QueueStop A) (f : A → Script QueueStop B) (why : QueueStop) (result : Result B QueueStop)
    → ((p q r : Q) (xs ys : List Happening) → moved p xs q → moved q ys r → moved p (xs ++ ys) r)
    → Reached moved p s q t → t ≡ a >>= f → RanSo moved over stopped q a r (Err why) → result ≡ Err why → RanSo moved over stopped p s r result
call_passed {B = B} moved over stopped p q r s t a f why result joins d e b is =
    subst (λ (x : Result B QueueStop). RanSo moved over stopped p s r x) (sym is) (call_stops moved over stopped p q r s t a f why joins d e b)
