-- Messages that lie one after the other.
use Rattle.std.proofs.Common.{◌≡◌, ◌∙◌, ℕ, ◌+◌, ◌-◌, ◌*◌, ◌<◌, ◌≤◌, suc, List, [], ◌∷◌, ◌++◌, Bool, true, false, length, take, drop, min, arith, refl, ap, length-append}
use Rattle.std.proofs.lemmas.Bool.{lt-ltb, le-ltb}
use Rattle.std.proofs.lemmas.List.{take-append-le, drop-append-le, length-drop}
use Rattle.std.proofs.Math.Nat.{min-eq_left}
use Rattle.std.proofs.Math.Seq.{take-length}
use Rattle.circular_buffer.specs.Buffer.{Buffer, buffer}
use Rattle.tv_tube.specs.Messages.{TubeState, messages_of, HaveBytes, IsTube, pushed}

-- there are as many messages as lengths
pub count_is : (lengths bytes : List ℕ) → length (messages_of lengths bytes) ≡ length lengths
count_is [] bytes = refl
count_is (n ∷ lengths) bytes = ap suc (count_is lengths (drop n bytes))

-- so many messages have at most so many bytes
pub within_room : (lengths : List ℕ) (total : ℕ) → HaveBytes lengths total → total ≤ length lengths * 4160
within_room [] total held = omega (arith, held)
within_room (n ∷ lengths) total held =
    let later : total - n ≤ length lengths * 4160 = within_room lengths (total - n) held.2 in
    omega (arith, later, held.0, held.1)

-- one more message
pub more_held : (lengths : List ℕ) (total n : ℕ) → HaveBytes lengths total → n ≤ 4160 → HaveBytes (lengths ++ n ∷ []) (total + n)
more_held [] total n held fits = (fits, omega (arith, held), omega (arith, held))
more_held (k ∷ lengths) total n held fits =
    let later : HaveBytes (lengths ++ n ∷ []) (total - k + n) = more_held lengths (total - k) n held.2 fits in
    let same : total + n - k ≡ total - k + n = omega (arith, held.1) in
    (held.0, omega (arith, held.1), rw same later)

-- the message of the bytes behind the others
pub more_messages : (lengths bytes message : List ℕ) → HaveBytes lengths (length bytes)
    → messages_of (lengths ++ length message ∷ []) (bytes ++ message) ≡ messages_of lengths bytes ++ message ∷ []
more_messages [] [] message held = ap (λ m. m ∷ []) (take-length message)
more_messages [] (b ∷ bytes) message held = absurd (omega (arith, held))
more_messages (n ∷ lengths) bytes message held =
    let left : HaveBytes lengths (length (drop n bytes)) = rw (length-drop n bytes) held.2 in
    rw (take-append-le n bytes message held.1, drop-append-le n bytes message held.1)
    (ap (λ ms. take n bytes ∷ ms) (more_messages lengths (drop n bytes) message left))

-- what a buffer with room takes is the whole message
pub whole : (bytes message : List ℕ) (capacity count : ℕ) → length bytes + length message ≤ capacity
    → count ≡ min (length message) (capacity - length bytes) → bytes ++ take count message ≡ bytes ++ message
whole bytes message capacity count room count_is =
    let all : count ≡ length message = count_is ∙ min-eq_left (omega (arith, room)) in
    rw (all, take-length message) refl

-- there is room for a message where a place is free
pub room_for : (lengths bytes : Buffer ℕ) (n : ℕ) → IsTube lengths bytes → n ≤ 4160 → length lengths.items < lengths.capacity
    → length bytes.items + n ≤ bytes.capacity
room_for lengths bytes n tube fits free =
    let held : length bytes.items ≤ length lengths.items * 4160 = within_room lengths.items (length bytes.items) tube.held in
    omega (arith, held, tube.room, fits, free)

-- a tube with a message more
pub tube_more : (lengths bytes : Buffer ℕ) (message : List ℕ) → IsTube lengths bytes → length message ≤ 4160
    → length lengths.items < lengths.capacity
    → IsTube (buffer (lengths.items ++ length message ∷ []) lengths.capacity) (buffer (bytes.items ++ message) bytes.capacity)
tube_more lengths bytes message tube fits free = record {
  held = rw (length-append bytes.items message) (more_held lengths.items (length bytes.items) (length message) tube.held fits);
  within = rw (length-append lengths.items (length message ∷ [])) (omega (arith, free));
  few = tube.few;
  room = tube.room;
}

-- a message is added exactly where a place is free
pub pushed_is : (lengths bytes message : List ℕ) (places : ℕ) → HaveBytes lengths (length bytes) → length lengths < places
    → ◌≡◌ {A = Bool × TubeState} (true, record { messages = messages_of (lengths ++ length message ∷ []) (bytes ++ message); places = places })
    (pushed (record { messages = messages_of lengths bytes; places = places }) message)
pushed_is lengths bytes message places held free =
    rw (count_is lengths bytes, lt-ltb _ _ free)
    (ap (λ ms. (true, record { messages = ms; places = places })) (more_messages lengths bytes message held))

pub not_pushed : (lengths bytes message : List ℕ) (places : ℕ) → places ≤ length lengths
    → ◌≡◌ {A = Bool × TubeState} (false, record { messages = messages_of lengths bytes; places = places })
    (pushed (record { messages = messages_of lengths bytes; places = places }) message)
not_pushed lengths bytes message places full = rw (count_is lengths bytes, le-ltb _ _ full) refl
