-- Of any kind of frame: what begins a frame can be made one.
use Rattle.std.proofs.Common.{◌≡◌, ◌∙◌, ◌==◌, ℕ, zero, suc, ◌+◌, ◌*◌, ◌-◌, ◌<◌, ◌≤◌, leb, Bool, true, false, cond, if◌then◌else◌, List, [], ◌∷◌, ◌++◌, length, slice_index, length-append, ap, sym, subst, arith, append-nil}
use Rattle.std.proofs.lemmas.Bool.{lt-leb}
use Rattle.std.proofs.lemmas.List.{append_assoc}
use Rattle.std.specs.Cmp.Derive.{both_true}
use Rattle.byteorder.specs.Endian.{little_number}
use Rattle.tv_ctl_wire.specs.Frames.{AreBytes}
use Rattle.tv_ctl_wire.specs.Reading.{Kind, sized, opens, coded, counted, begins}
use Rattle.tv_ctl_wire.proofs.Fronts.{when_or, byte_front, number_front, late_next, byte_behind}
use Rattle.tv_ctl_wire.proofs.Wholes.{Lawful, IsWhole, sized_whole, same_code, same_count, size_is, least_size}
use Rattle.tv_wire.proofs.Answered.{both}

-- the byte that may stand behind so many bytes
next_at : (A : Type 0) (k : Kind A) (spells : List ℕ → A → Type 0) → Lawful A k spells → ℕ → List ℕ → ℕ
next_at A k spells laws at bytes =
    if at == 0 then 10
    else if at == 1 then laws.second (slice_index bytes 0)
    else if at == 4 then 1
    else if at == 5 then laws.code (little_number 2 bytes)
    else if at == 14 then laws.count (slice_index bytes 5) (little_number 2 bytes)
    else 0

either : (b : Bool) (x y : ℕ) → x < 256 → y < 256 → cond b x y < 256
either true x y one other = one
either false x y one other = other

next_fits : (A : Type 0) (k : Kind A) (spells : List ℕ → A → Type 0) (laws : Lawful A k spells) (at : ℕ) (bytes : List ℕ)
    → next_at A k spells laws at bytes < 256
unfolding next_at
next_fits A k spells laws at bytes =
    either (at == 0) 10 _ (omega arith)
    (either (at == 1) _ _ (laws.bytes.0 (slice_index bytes 0))
    (either (at == 4) 1 _ (omega arith)
    (either (at == 5) _ _ (laws.bytes.1 (little_number 2 bytes))
    (either (at == 14) _ 0 (laws.bytes.2 (slice_index bytes 5) (little_number 2 bytes)) (omega arith)))))

number_of_two : (b c : ℕ) → little_number 2 (b ∷ c ∷ []) ≡ b + 256 * c
number_of_two b c = omega arith

sized_next : (A : Type 0) (k : Kind A) (spells : List ℕ → A → Type 0) (laws : Lawful A k spells) (front : List ℕ) → AreBytes front
    → sized k front ≡ true → sized k (front ++ next_at A k spells laws (length front) front ∷ []) ≡ true
unfolding sized next_at
sized_next A k spells laws [] each h = laws.start
sized_next A k spells laws (b ∷ []) each h = ap k.size (number_of_two b (laws.second b)) ∙ laws.high b (each 0) h
sized_next A k spells laws (b ∷ c ∷ front) each h =
    sized_whole A k (b ∷ c ∷ front) (next_at A k spells laws (length (b ∷ c ∷ front)) (b ∷ c ∷ front) ∷ []) (omega arith) h

behind : (A : Type 0) (k : Kind A) (spells : List ℕ → A → Type 0) (laws : Lawful A k spells) (front : List ℕ) (at : ℕ)
    → length front ≡ at → slice_index (front ++ next_at A k spells laws (length front) front ∷ []) at ≡ next_at A k spells laws at front
behind A k spells laws front at l =
    byte_behind at (next_at A k spells laws (length front) front) front l ∙ ap (λ (n : ℕ). next_at A k spells laws n front) l

opens_next : (A : Type 0) (k : Kind A) (spells : List ℕ → A → Type 0) (laws : Lawful A k spells) (front : List ℕ)
    → opens front ≡ true → opens (front ++ next_at A k spells laws (length front) front ∷ []) ≡ true
unfolding opens next_at
opens_next A k spells laws front h =
    let byte : ℕ = next_at A k spells laws (length front) front in
    let first = both _ _ h in
    let second = both _ _ first.1 in
    both_true (late_next 2 byte (slice_index front 2 == 0) (slice_index (front ++ byte ∷ []) 2 == 0) front
    (λ m. ap (λ (b : ℕ). b == 0) (byte_front 2 front (byte ∷ []) m)) (λ l. ap (λ (b : ℕ). b == 0) (behind A k spells laws front 2 l)) first.0)
    (both_true (late_next 3 byte (slice_index front 3 == 0) (slice_index (front ++ byte ∷ []) 3 == 0) front
    (λ m. ap (λ (b : ℕ). b == 0) (byte_front 3 front (byte ∷ []) m)) (λ l. ap (λ (b : ℕ). b == 0) (behind A k spells laws front 3 l)) second.0)
    (late_next 4 byte (slice_index front 4 == 1) (slice_index (front ++ byte ∷ []) 4 == 1) front
    (λ m. ap (λ (b : ℕ). b == 1) (byte_front 4 front (byte ∷ []) m)) (λ l. ap (λ (b : ℕ). b == 1) (behind A k spells laws front 4 l)) second.1))

coded_next : (A : Type 0) (k : Kind A) (spells : List ℕ → A → Type 0) (laws : Lawful A k spells) (front : List ℕ)
    → sized k front ≡ true → coded k front ≡ true → coded k (front ++ next_at A k spells laws (length front) front ∷ []) ≡ true
unfolding coded next_at
coded_next A k spells laws front size h =
    let byte : ℕ = next_at A k spells laws (length front) front in
    late_next 5 byte _ _ front (λ m. same_code A k front (byte ∷ []) m)
    (λ l.
    ap (λ (c : ℕ). k.takes c (little_number 2 (front ++ byte ∷ []))) (behind A k spells laws front 5 l)
    ∙ ap (λ (n : ℕ). k.takes (laws.code (little_number 2 front)) n) (number_front front (byte ∷ []) (omega (arith, l)))
    ∙ laws.some_code (little_number 2 front) (size_is A k front (omega (arith, l)) size)) h

takes_is : (A : Type 0) (k : Kind A) (front : List ℕ) → 5 < length front → coded k front ≡ true
    → k.takes (slice_index front 5) (little_number 2 front) ≡ true
unfolding coded
takes_is A k front m h = when_or (leb (length front) 5) _ h (lt-leb (length front) 5 m)

-- the code of a frame goes with its length
pub frame_takes : (A : Type 0) (k : Kind A) → ((size : ℕ) → k.size size ≡ true → 10 ≤ size) → (frame : List ℕ) → IsWhole A k frame
    → k.takes (slice_index frame 5) (little_number 2 frame) ≡ true
frame_takes A k least frame is =
    let long = least_size A k least frame is in
    takes_is A k frame (omega (arith, long)) (both _ _ (both _ _ is.begun).1).0

counted_next : (A : Type 0) (k : Kind A) (spells : List ℕ → A → Type 0) (laws : Lawful A k spells) (front : List ℕ)
    → coded k front ≡ true → counted k front ≡ true → counted k (front ++ next_at A k spells laws (length front) front ∷ []) ≡ true
unfolding counted next_at
counted_next A k spells laws front code h =
    let byte : ℕ = next_at A k spells laws (length front) front in
    late_next 14 byte _ _ front (λ m. same_count A k front (byte ∷ []) m)
    (λ l.
    ap (λ (c : ℕ). k.counts c (little_number 2 (front ++ byte ∷ [])) (slice_index (front ++ byte ∷ []) 14)) (byte_front 5 front (byte ∷ []) (omega (arith, l)))
    ∙ ap (λ (n : ℕ). k.counts (slice_index front 5) n (slice_index (front ++ byte ∷ []) 14)) (number_front front (byte ∷ []) (omega (arith, l)))
    ∙ ap (λ (b : ℕ). k.counts (slice_index front 5) (little_number 2 front) b) (behind A k spells laws front 14 l)
    ∙ laws.some_count (slice_index front 5) (little_number 2 front) (takes_is A k front (omega (arith, l)) code)) h

next_begins : (A : Type 0) (k : Kind A) (spells : List ℕ → A → Type 0) (laws : Lawful A k spells) (front : List ℕ) → AreBytes front
    → begins k front ≡ true → begins k (front ++ next_at A k spells laws (length front) front ∷ []) ≡ true
next_begins A k spells laws front each h =
    let halves = both _ _ h in
    let first = both _ _ halves.0 in
    let second = both _ _ halves.1 in
    both_true (both_true (sized_next A k spells laws front each first.0) (opens_next A k spells laws front first.1))
    (both_true (coded_next A k spells laws front first.0 second.0) (counted_next A k spells laws front second.0 second.1))

more_bytes : (front : List ℕ) (byte : ℕ) → AreBytes front → byte < 256 → AreBytes (front ++ byte ∷ [])
more_bytes [] byte each fits zero = fits
more_bytes [] byte each fits (suc i) = omega arith
more_bytes (b ∷ front) byte each fits zero = each 0
more_bytes (b ∷ front) byte each fits (suc i) = more_bytes front byte (λ j. each (suc j)) fits i

-- bytes, and what makes them a frame
pub record Completed (A : Type 0) (k : Kind A) (front : List ℕ) : Type 0 where
  pub rest : List ℕ
  pub is : IsWhole A k (front ++ rest)
  pub each : AreBytes (front ++ rest)

one_more : (A : Type 0) (k : Kind A) (front : List ℕ) (byte : ℕ) → Completed A k (front ++ byte ∷ []) → Completed A k front
one_more A k front byte c =
    let same : (front ++ byte ∷ []) ++ c.rest ≡ front ++ (byte ∷ c.rest) = append_assoc front (byte ∷ []) c.rest in
    record { rest = byte ∷ c.rest; is = subst (IsWhole A k) same c.is; each = subst AreBytes same c.each }

completed_in : (A : Type 0) (k : Kind A) (spells : List ℕ → A → Type 0) (laws : Lawful A k spells) (left : ℕ) (front : List ℕ) → AreBytes front
    → begins k front ≡ true → 2 ≤ length front → length front + left ≡ little_number 2 front + 4 → Completed A k front
completed_in A k spells laws zero front each h two size =
    let same : front ≡ front ++ [] = sym (append-nil front) in
    record {
      rest = [];
      is = subst (IsWhole A k) same (record { begun = h; size = omega (arith, size) });
      each = subst AreBytes same each;
    }
completed_in A k spells laws (suc left) front each h two size =
    let byte : ℕ = next_at A k spells laws (length front) front in
    one_more A k front byte
    (completed_in A k spells laws left (front ++ byte ∷ []) (more_bytes front byte each (next_fits A k spells laws (length front) front))
    (next_begins A k spells laws front each h) (omega (arith, two, length-append front (byte ∷ [])))
    (omega (arith, size, length-append front (byte ∷ []), number_front front (byte ∷ []) two)))

completed_two : (A : Type 0) (k : Kind A) (spells : List ℕ → A → Type 0) (laws : Lawful A k spells) (front : List ℕ) → AreBytes front
    → begins k front ≡ true → 2 ≤ length front → length front ≤ little_number 2 front + 4 → Completed A k front
completed_two A k spells laws front each h two few =
    completed_in A k spells laws ((little_number 2 front + 4) - length front) front each h two (omega (arith, few))

completed_one : (A : Type 0) (k : Kind A) (spells : List ℕ → A → Type 0) (laws : Lawful A k spells) (b : ℕ) → AreBytes (b ∷ [])
    → begins k (b ∷ []) ≡ true → Completed A k (b ∷ [])
completed_one A k spells laws b each h =
    let byte : ℕ = next_at A k spells laws 1 (b ∷ []) in
    let bytes : List ℕ = b ∷ byte ∷ [] in
    let now : begins k bytes ≡ true = next_begins A k spells laws (b ∷ []) each h in
    let least = laws.least (little_number 2 bytes) (size_is A k bytes (omega arith) (both _ _ (both _ _ now).0).0) in
    one_more A k (b ∷ []) byte
    (completed_two A k spells laws bytes (more_bytes (b ∷ []) byte each (next_fits A k spells laws 1 (b ∷ []))) now (omega arith) (omega (arith, least)))

pub completed : (A : Type 0) (k : Kind A) (spells : List ℕ → A → Type 0) (laws : Lawful A k spells) (front : List ℕ) → AreBytes front
    → begins k front ≡ true → (2 ≤ length front → length front ≤ little_number 2 front + 4) → Completed A k front
completed A k spells laws (b ∷ c ∷ front) each h few =
    completed_two A k spells laws (b ∷ c ∷ front) each h (omega arith) (few (omega arith))
completed A k spells laws (b ∷ []) each h few = completed_one A k spells laws b each h
completed A k spells laws [] each h few =
    let byte : ℕ = next_at A k spells laws 0 [] in
    one_more A k [] byte
    (completed_one A k spells laws byte (more_bytes [] byte each (next_fits A k spells laws 0 [])) (next_begins A k spells laws [] each h))
