-- A tube of messages stays one, whatever is pushed and popped.
use Rattle.std.proofs.Common.{◌≡◌, ◌∙◌, ℕ, ◌<◌, ◌≤◌, List, [], ◌∷◌, Bool, true, length, map, All, Some, IfSome, refl, ap, sym, subst, arith, length-append}
use Rattle.std.proofs.lemmas.Bool.{lt-ltb}
use Rattle.std.proofs.lemmas.List.{length-map}
use Rattle.std.proofs.lemmas.List.Elements.{All-append, All-cons, All-nil, All-head, All-tail}
use Rattle.tv_tube.specs.Messages.{TubeState, pushed, with_last, with_first}
use Rattle.tv_wire.specs.Reading.{reading}
use Rattle.tv_wire.specs.Spelling.{IsMessage}
use Rattle.tv_wire.specs.declared.Msg.{Msg}
use Rattle.tv_side.specs.Messages.{AreMessages, IsSpelt, message_in, read_or_any}

-- what bytes are read as is the message in them
read_as : (bytes : List ℕ) (m : Msg) → reading bytes ≡ Some m → message_in bytes ≡ m
read_as bytes m is = ap read_or_any is

is_spelt : (bytes : List ℕ) (m : Msg) → reading bytes ≡ Some m → IsMessage m → IsSpelt bytes
is_spelt bytes m is legal = record { spelt = is ∙ ap (λ (x : Msg). Some x) (sym (read_as bytes m is)); legal = rw (read_as bytes m is) legal }

pub pushed_messages : (tube now : TubeState) (bytes : List ℕ) (m : Msg) (added : Bool) → AreMessages tube
    → length (map message_in tube.messages) < tube.places → reading bytes ≡ Some m → IsMessage m
    → ◌≡◌ {A = Bool × TubeState} (added, now) (pushed tube bytes) → AreMessages now
pushed_messages tube now bytes m added are room is legal e =
    let free : length tube.messages < tube.places = rw (← length-map tube.messages message_in) room in
    let test : ◌≡◌ {A = Bool × TubeState} (pushed tube bytes) (true, with_last tube bytes) = rw (lt-ltb (length tube.messages) tube.places free) refl in
    let now_is : now ≡ with_last tube bytes = ap (λ (p : Bool × TubeState). p.1) (e ∙ test) in
    rw now_is record {
      spelt = All-append IsSpelt tube.messages (bytes ∷ []) are.spelt (All-cons IsSpelt bytes [] (is_spelt bytes m is legal) (All-nil IsSpelt));
      within = rw (length-append tube.messages (bytes ∷ [])) (omega (arith, free));
    }

pub popped_messages : (tube later : TubeState) (bytes : List ℕ) → AreMessages tube → tube ≡ with_first bytes later → AreMessages later
popped_messages tube later bytes are e =
    let all : All IsSpelt (bytes ∷ later.messages) = subst (λ (t : TubeState). All IsSpelt t.messages) e are.spelt in
    record {
      spelt = All-tail IsSpelt bytes later.messages all;
      within = let s : length (bytes ∷ later.messages) ≤ later.places = subst (λ (t : TubeState). length t.messages ≤ t.places) e are.within in omega (arith, s);
    }

pub popped_legal : (tube later : TubeState) (bytes : List ℕ) → AreMessages tube → tube ≡ with_first bytes later → IfSome (reading bytes) IsMessage
popped_legal tube later bytes are e =
    let all : All IsSpelt (bytes ∷ later.messages) = subst (λ (t : TubeState). All IsSpelt t.messages) e are.spelt in
    let first : IsSpelt bytes = All-head IsSpelt bytes later.messages all in
    rw first.spelt first.legal
