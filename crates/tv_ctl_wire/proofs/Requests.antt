-- Requests are a lawful kind of frame.
use Rattle.std.proofs.Common.{◌≡◌, ◌∙◌, ◌==◌, ℕ, ◌+◌, ◌*◌, ◌^◌, ◌<◌, ◌≤◌, Bool, true, false, cond, List, [], ◌∷◌, ◌++◌, length, take, drop, slice_index, refl, ap, sym, subst, arith, append-nil}
use Rattle.std.proofs.lemmas.Bool.{false≢true, lt-ltb, ltb-true, le-leb, ne_eqb}
use Rattle.std.proofs.lemmas.Bool.Decides.{nat_tests}
use Rattle.std.proofs.lemmas.List.{drop_all, length-drop}
use Rattle.std.specs.Cmp.Derive.{both_true}
use Rattle.byteorder.specs.Endian.{little_bytes, little_number}
use Rattle.byteorder.specs.Numbers.{little_number-reads_back}
use Rattle.tv_ctl_wire.specs.declared.Cut.{Cut}
use Rattle.tv_ctl_wire.specs.declared.Cut.TheVariants as cut
use Rattle.tv_ctl_wire.specs.Cuts.{CutSo}
use Rattle.tv_ctl_wire.specs.Frames.{AreBytes, SpellsRequest, HasBody, is_known, request_body, frame_bytes}
use Rattle.tv_ctl_wire.specs.Reading.{reading, begins, sized, opens, coded, counted, requests, request, is_request_size, is_size_of, request_of}
use Rattle.tv_ctl_wire.proofs.Cutting.{cut_of, front_read, front_whole}
use Rattle.tv_ctl_wire.proofs.Framed.{framed, frame_is}
use Rattle.tv_ctl_wire.proofs.Rest.{frame_takes}
use Rattle.tv_ctl_wire.proofs.Wholes.{Lawful, IsWhole, size_is, least_size}
use Rattle.tv_request.specs.Requests.{is_request}
use Rattle.tv_request.specs.declared.Request.{Request}
use Rattle.tv_wire.proofs.Answered.{both, same}
use Rattle.tv_wire.proofs.Digits.{bytes_behind, all_again, number_fits}
use Rattle.tv_wire.proofs.Found.{byte_again}

-- one way or the other
choose : (P : Request → Type 0) (b : Bool) (x y : Request) → (b ≡ true → P x) → (b ≡ false → P y) → P (cond b x y)
choose P true x y one other = one refl
choose P false x y one other = other refl

-- what a body says of its length and of what is read of it
pub record Told (op id device value : ℕ) (body : List ℕ) : Type 0 where
  pub size : is_size_of op (10 + length body) ≡ true
  pub few : length body ≤ 4086
  pub read : request_of (frame_bytes op id body) ≡ request op id device value

told_4 : (id device value : ℕ) → id < 256 ^ 8 → value < 256 ^ 4 → Told 4 id device value (device ∷ little_bytes 4 value)
unfolding request_of
told_4 id device value fits low = record {
  size = refl;
  few = omega arith;
  read = rw (little_number-reads_back 8 id (device ∷ little_bytes 4 value) fits, little_number-reads_back 4 value [] low) refl;
}

told_5 : (id device : ℕ) → id < 256 ^ 8 → Told 5 id device 0 (device ∷ [])
unfolding request_of
told_5 id device fits = record {
  size = refl;
  few = omega arith;
  read = rw (little_number-reads_back 8 id (device ∷ []) fits) refl;
}

told_6 : (id device value : ℕ) → id < 256 ^ 8 → value < 256 ^ 8 → Told 6 id device value (device ∷ little_bytes 8 value)
unfolding request_of
told_6 id device value fits low = record {
  size = refl;
  few = omega arith;
  read = rw (little_number-reads_back 8 id (device ∷ little_bytes 8 value) fits, little_number-reads_back 8 value [] low) refl;
}

told_bare : (op id : ℕ) (body : List ℕ) → id < 256 ^ 8 → (op == 4) ≡ false → (op == 5) ≡ false → (op == 6) ≡ false → length body ≤ 4086
    → is_size_of op (10 + length body) ≡ true → Told op id 0 0 body
unfolding request_of
told_bare op id body fits e4 e5 e6 few size = record {
  size = size;
  few = few;
  read = rw (e4, e5, e6, little_number-reads_back 8 id body fits) refl;
}

low_value : (id device value : ℕ) → is_request (request 4 id device value) ≡ true → value < 256 ^ 4
unfolding is_request
low_value id device value legal = ltb-true value (2 ^ 32) legal

no_value : (id device value : ℕ) → is_request (request 5 id device value) ≡ true → value ≡ 0
unfolding is_request
no_value id device value legal = same value 0 legal

no_parts : (op id device value : ℕ) → (op == 4) ≡ false → (op == 5) ≡ false → (op == 6) ≡ false → is_request (request op id device value) ≡ true
    → (device ≡ 0) × (value ≡ 0)
unfolding is_request
no_parts op id device value e4 e5 e6 legal =
    let zeros = rw (e4, e5, e6) at legal in
    let parts = both (device == 0) (value == 0) zeros in
    (same device 0 parts.0, same value 0 parts.1)

when_4 : (op id device value : ℕ) (body : List ℕ) → op ≡ 4 → id < 256 ^ 8 → is_request (request op id device value) ≡ true
    → HasBody (is_known op) (request op id device value) body → Told op id device value body
when_4 op id device value body is fits =
    subst (λ (o : ℕ). is_request (request o id device value) ≡ true → HasBody (is_known o) (request o id device value) body → Told o id device value body)
    (sym is) (λ legal has. subst (Told 4 id device value) (sym has) (told_4 id device value fits (low_value id device value legal)))

when_5 : (op id device value : ℕ) (body : List ℕ) → op ≡ 5 → id < 256 ^ 8 → is_request (request op id device value) ≡ true
    → HasBody (is_known op) (request op id device value) body → Told op id device value body
when_5 op id device value body is fits =
    subst (λ (o : ℕ). is_request (request o id device value) ≡ true → HasBody (is_known o) (request o id device value) body → Told o id device value body)
    (sym is) (λ legal has.
    subst (λ (v : ℕ). Told 5 id device v body) (sym (no_value id device value legal)) (subst (Told 5 id device 0) (sym has) (told_5 id device fits)))

when_6 : (op id device value : ℕ) (body : List ℕ) → op ≡ 6 → id < 256 ^ 8 → value < 256 ^ 8
    → HasBody (is_known op) (request op id device value) body → Told op id device value body
when_6 op id device value body is fits low =
    subst (λ (o : ℕ). HasBody (is_known o) (request o id device value) body → Told o id device value body)
    (sym is) (λ has. subst (Told 6 id device value) (sym has) (told_6 id device value fits low))

bare_body : (op id device value : ℕ) (body : List ℕ) (known : Bool) → is_known op ≡ known → (op == 4) ≡ false → (op == 5) ≡ false → (op == 6) ≡ false
    → HasBody known (request op id device value) body → (length body ≤ 4086) × (is_size_of op (10 + length body) ≡ true)
bare_body op id device value body true known e4 e5 e6 has =
    let none : body ≡ [] = has ∙ rw (e4, e5, e6) refl in
    (rw none (omega arith), rw (none, e4, e5, e6, known) refl)
bare_body op id device value body false known e4 e5 e6 has =
    let few = has.0 in
    (omega (arith, few), rw (e4, e5, e6, known) refl)

when_bare : (op id device value : ℕ) (body : List ℕ) → (op == 4) ≡ false → (op == 5) ≡ false → (op == 6) ≡ false → id < 256 ^ 8
    → is_request (request op id device value) ≡ true → HasBody (is_known op) (request op id device value) body → Told op id device value body
when_bare op id device value body e4 e5 e6 fits legal has =
    let zeros = no_parts op id device value e4 e5 e6 legal in
    let sizes = bare_body op id device value body (is_known op) refl e4 e5 e6 has in
    rw (zeros.0, zeros.1) (told_bare op id body fits e4 e5 e6 sizes.0 sizes.1)

told_by : (op id device value : ℕ) (body : List ℕ) (b4 b5 b6 : Bool) → (op == 4) ≡ b4 → (op == 5) ≡ b5 → (op == 6) ≡ b6
    → id < 256 ^ 8 → value < 256 ^ 8 → is_request (request op id device value) ≡ true → HasBody (is_known op) (request op id device value) body
    → Told op id device value body
told_by op id device value body true b5 b6 e4 e5 e6 fits low legal has = when_4 op id device value body (same op 4 e4) fits legal has
told_by op id device value body false true b6 e4 e5 e6 fits low legal has = when_5 op id device value body (same op 5 e5) fits legal has
told_by op id device value body false false true e4 e5 e6 fits low legal has = when_6 op id device value body (same op 6 e6) fits low has
told_by op id device value body false false false e4 e5 e6 fits low legal has = when_bare op id device value body e4 e5 e6 fits legal has

pub told : (bytes : List ℕ) (r : Request) (s : SpellsRequest bytes r) → Told r.op r.id r.device r.value s.body
told bytes r s =
    told_by r.op r.id r.device r.value s.body (r.op == 4) (r.op == 5) (r.op == 6) refl refl refl s.id s.value s.legal s.has

whole : (frame : List ℕ) (r : Request) → SpellsRequest frame r → IsWhole Request requests frame
whole frame r s =
    let t = told frame r s in
    let size : is_request_size (10 + length s.body) ≡ true = grind (arith, nat_tests, t.few) in
    subst (IsWhole Request requests) (sym s.spelt)
    (framed Request requests r.op r.id s.body (omega (arith, t.few)) size t.size refl)

again : (frame : List ℕ) (r : Request) → SpellsRequest frame r → request_of frame ≡ r
again frame r s = ap request_of s.spelt ∙ (told frame r s).read

has_4 : (op id device value : ℕ) (body : List ℕ) → op ≡ 4 → body ≡ device ∷ little_bytes 4 value → HasBody (is_known op) (request op id device value) body
has_4 op id device value body is h = subst (λ (o : ℕ). HasBody (is_known o) (request o id device value) body) (sym is) h

has_5 : (op id device value : ℕ) (body : List ℕ) → op ≡ 5 → body ≡ device ∷ [] → HasBody (is_known op) (request op id device value) body
has_5 op id device value body is h = subst (λ (o : ℕ). HasBody (is_known o) (request o id device value) body) (sym is) h

has_6 : (op id device value : ℕ) (body : List ℕ) → op ≡ 6 → body ≡ device ∷ little_bytes 8 value → HasBody (is_known op) (request op id device value) body
has_6 op id device value body is h = subst (λ (o : ℕ). HasBody (is_known o) (request o id device value) body) (sym is) h

has_bare : (op id : ℕ) (body : List ℕ) (known : Bool) → is_known op ≡ known → (op == 4) ≡ false → (op == 5) ≡ false → (op == 6) ≡ false
    → is_size_of op (10 + length body) ≡ true → 14 + length body ≤ 4100 → AreBytes body → HasBody known (request op id 0 0) body
has_bare op id body true known e4 e5 e6 size few each =
    let ten = rw (e4, e5, e6, known) at size in
    let bare = same (10 + length body) 10 ten in
    drop_all 0 body (omega (arith, bare)) ∙ rw (e4, e5, e6) refl
has_bare op id body false known e4 e5 e6 size few each = (few, each)

-- what a whole frame says
pub record Parts (frame : List ℕ) : Type 0 where
  pub long : 14 ≤ length frame
  pub few : length frame ≤ 4100
  pub takes : is_size_of (slice_index frame 5) (little_number 2 frame) ≡ true
  pub size : length frame ≡ little_number 2 frame + 4
  pub id : little_number 8 (drop 6 frame) < 2 ^ 64
  pub spelt : frame ≡ frame_bytes (slice_index frame 5) (little_number 8 (drop 6 frame)) (drop 14 frame)

found_4 : (frame : List ℕ) → AreBytes frame → Parts frame → (slice_index frame 5 == 4) ≡ true
    → SpellsRequest frame (request (slice_index frame 5) (little_number 8 (drop 6 frame)) (slice_index frame 14) (little_number 4 (drop 15 frame)))
unfolding is_request
found_4 frame each p e4 =
    let op : ℕ = slice_index frame 5 in
    let is : op ≡ 4 = same op 4 e4 in
    let size : little_number 2 frame ≡ 15 = same (little_number 2 frame) 15 (subst (λ (o : ℕ). is_size_of o (little_number 2 frame) ≡ true) is p.takes) in
    let rest : AreBytes (drop 15 frame) = bytes_behind 15 frame each in
    let low = number_fits 4 (drop 15 frame) rest in
    record {
      legal = rw e4 (lt-ltb (little_number 4 (drop 15 frame)) (2 ^ 32) low);
      op = each 5;
      id = p.id;
      device = each 14;
      value = omega (arith, low);
      body = drop 14 frame;
      has = has_4 op (little_number 8 (drop 6 frame)) (slice_index frame 14) (little_number 4 (drop 15 frame)) (drop 14 frame) is
          (sym (ap (λ (bs : List ℕ). slice_index frame 14 ∷ bs) (all_again 4 (drop 15 frame) rest (rw (length-drop 15 frame) (omega (arith, size, p.size))))
          ∙ byte_again 14 frame (omega (arith, size, p.size))));
      spelt = p.spelt;
    }

found_5 : (frame : List ℕ) → AreBytes frame → Parts frame → (slice_index frame 5 == 5) ≡ true
    → SpellsRequest frame (request (slice_index frame 5) (little_number 8 (drop 6 frame)) (slice_index frame 14) 0)
unfolding is_request
found_5 frame each p e5 =
    let op : ℕ = slice_index frame 5 in
    let is : op ≡ 5 = same op 5 e5 in
    let size : little_number 2 frame ≡ 11 = same (little_number 2 frame) 11 (subst (λ (o : ℕ). is_size_of o (little_number 2 frame) ≡ true) is p.takes) in
    let none : drop 15 frame ≡ [] = drop_all 15 frame (omega (arith, size, p.size)) in
    record {
      legal = rw is refl;
      op = each 5;
      id = p.id;
      device = each 14;
      value = omega arith;
      body = drop 14 frame;
      has = has_5 op (little_number 8 (drop 6 frame)) (slice_index frame 14) 0 (drop 14 frame) is
          (sym (ap (λ (bs : List ℕ). slice_index frame 14 ∷ bs) (sym none) ∙ byte_again 14 frame (omega (arith, size, p.size))));
      spelt = p.spelt;
    }

found_6 : (frame : List ℕ) → AreBytes frame → Parts frame → (slice_index frame 5 == 6) ≡ true
    → SpellsRequest frame (request (slice_index frame 5) (little_number 8 (drop 6 frame)) (slice_index frame 14) (little_number 8 (drop 15 frame)))
unfolding is_request
found_6 frame each p e6 =
    let op : ℕ = slice_index frame 5 in
    let is : op ≡ 6 = same op 6 e6 in
    let size : little_number 2 frame ≡ 19 = same (little_number 2 frame) 19 (subst (λ (o : ℕ). is_size_of o (little_number 2 frame) ≡ true) is p.takes) in
    let rest : AreBytes (drop 15 frame) = bytes_behind 15 frame each in
    record {
      legal = rw is refl;
      op = each 5;
      id = p.id;
      device = each 14;
      value = number_fits 8 (drop 15 frame) rest;
      body = drop 14 frame;
      has = has_6 op (little_number 8 (drop 6 frame)) (slice_index frame 14) (little_number 8 (drop 15 frame)) (drop 14 frame) is
          (sym (ap (λ (bs : List ℕ). slice_index frame 14 ∷ bs) (all_again 8 (drop 15 frame) rest (rw (length-drop 15 frame) (omega (arith, size, p.size))))
          ∙ byte_again 14 frame (omega (arith, size, p.size))));
      spelt = p.spelt;
    }

found_bare : (frame : List ℕ) → AreBytes frame → Parts frame → (slice_index frame 5 == 4) ≡ false → (slice_index frame 5 == 5) ≡ false
    → (slice_index frame 5 == 6) ≡ false → SpellsRequest frame (request (slice_index frame 5) (little_number 8 (drop 6 frame)) 0 0)
unfolding is_request
found_bare frame each p e4 e5 e6 =
    let op : ℕ = slice_index frame 5 in
    let count : 10 + length (drop 14 frame) ≡ little_number 2 frame = rw (length-drop 14 frame) (omega (arith, p.long, p.size)) in
    record {
      legal = rw (e4, e5, e6) refl;
      op = each 5;
      id = p.id;
      device = omega arith;
      value = omega arith;
      body = drop 14 frame;
      has = has_bare op (little_number 8 (drop 6 frame)) (drop 14 frame) (is_known op) refl e4 e5 e6
          (ap (is_size_of op) count ∙ p.takes) (omega (arith, count, p.few, p.size)) (bytes_behind 14 frame each);
      spelt = p.spelt;
    }

by_op : (frame : List ℕ) → AreBytes frame → Parts frame → SpellsRequest frame (request_of frame)
unfolding request_of
by_op frame each p =
    choose (SpellsRequest frame) (slice_index frame 5 == 4) _ _ (found_4 frame each p)
    (λ e4. choose (SpellsRequest frame) (slice_index frame 5 == 5) _ _ (found_5 frame each p)
    (λ e5. choose (SpellsRequest frame) (slice_index frame 5 == 6) _ _ (found_6 frame each p)
    (λ e6. found_bare frame each p e4 e5 e6)))

size_least : (size : ℕ) → is_request_size size ≡ true → 10 ≤ size
size_least size h = grind (arith, nat_tests, h)

size_most : (size : ℕ) → is_request_size size ≡ true → size ≤ 4096
size_most size h = grind (arith, nat_tests, h)

second_is : (first : ℕ) → first < 256 → is_request_size (first + 256 * 1) ≡ true
second_is first fits = grind (arith, nat_tests, fits)

-- what is read of a whole frame, by the laws of which it doesn't take part
parts_of : (frame : List ℕ) → AreBytes frame → IsWhole Request requests frame → Parts frame
parts_of frame each is =
    let parts = frame_is Request requests size_least frame each is in
    let size = size_is Request requests frame (omega (arith, parts.0)) (both _ _ (both _ _ is.begun).0).0 in
    let most = size_most (little_number 2 frame) size in
    record {
      long = parts.0;
      few = omega (arith, most, is.size);
      takes = frame_takes Request requests size_least frame is;
      size = is.size;
      id = number_fits 8 (drop 6 frame) (bytes_behind 6 frame each);
      spelt = parts.1;
    }

pub laws : Lawful Request requests SpellsRequest
laws = record {
  second = λ first. 1;
  code = λ size. 7;
  count = λ op size. 0;
  start = refl;
  low = λ first rest h. refl;
  high = λ first fits h. second_is first fits;
  least = size_least;
  some_code = λ size h. refl;
  some_count = λ op size h. refl;
  no_count = λ op byte. refl;
  bytes = (λ first. omega arith, λ size. omega arith, λ op size. omega arith);
  found = λ frame each is. by_op frame each (parts_of frame each is);
  whole = whole;
  again = again;
}

pub cut_is : (bytes : List ℕ) (r : Cut Request) → AreBytes bytes → r ≡ reading requests bytes → CutSo Request SpellsRequest bytes r
cut_is bytes r each is = cut_of Request requests SpellsRequest laws bytes r each is

pub front_is : (bytes : List ℕ) (r : Cut Request) → r ≡ reading requests bytes → (frame rest : List ℕ) (request : Request) → SpellsRequest frame request
    → bytes ≡ frame ++ rest → r ≡ cut.Whole request (length frame)
front_is bytes r is frame rest request spelt same =
    is ∙ ap (λ (bs : List ℕ). reading requests bs) same ∙ front_read Request requests SpellsRequest laws frame rest request spelt

pub short_begins : (bytes : List ℕ) → length bytes < 2 → begins requests bytes ≡ true
unfolding sized opens coded counted
short_begins [] short = refl
short_begins (b ∷ []) short = refl
short_begins (b ∷ c ∷ bytes) short = absurd (omega (arith, short))

-- what the whole frame at a front is made of
pub record FrontParts (frame : List ℕ) : Type 0 where
  pub long : 14 ≤ length frame
  pub takes : is_size_of (slice_index frame 5) (little_number 2 frame) ≡ true

pub front_parts : (bytes : List ℕ) (end : ℕ) → begins requests bytes ≡ true → 2 ≤ length bytes → end ≡ little_number 2 bytes + 4
    → end ≤ length bytes → FrontParts (take end bytes)
front_parts bytes end h two end_is few =
    let is : IsWhole Request requests (take (little_number 2 bytes + 4) bytes) =
    front_whole Request requests SpellsRequest laws bytes h two (omega (arith, end_is, few)) in
    rw end_is (record {
      long = least_size Request requests size_least (take (little_number 2 bytes + 4) bytes) is;
      takes = frame_takes Request requests size_least (take (little_number 2 bytes + 4) bytes) is;
    })

pub read_back : (bytes : List ℕ) (r : Request) (size : ℕ) → SpellsRequest bytes r → length bytes ≡ size → reading requests bytes ≡ cut.Whole r size
read_back bytes r size spelt is =
    ap (λ (bs : List ℕ). reading requests bs) (sym (append-nil bytes)) ∙ front_read Request requests SpellsRequest laws bytes [] r spelt ∙ ap (cut.Whole r) is

known_at : (op at : ℕ) → 1 ≤ at → at ≤ 6 → op ≡ at → is_known op ≡ false → ⊥
known_at op at low high is e =
    let known : is_known op ≡ true = both_true (le-leb 1 op (omega (arith, is, low))) (le-leb op 6 (omega (arith, is, high))) in
    false≢true (sym e ∙ known)

unknown_not : (op at : ℕ) → 1 ≤ at → at ≤ 6 → is_known op ≡ false → (op == at) ≡ false
unknown_not op at low high e = ne_eqb op at (λ is. known_at op at low high is e)

no_body : (op id device value : ℕ) → is_known op ≡ false → request_body (request op id device value) ≡ []
no_body op id device value e =
    rw (unknown_not op 4 (omega arith) (omega arith) e, unknown_not op 5 (omega arith) (omega arith) e, unknown_not op 6 (omega arith) (omega arith) e) refl

body_of : (op id device value : ℕ) (known : Bool) → is_known op ≡ known → is_request (request op id device value) ≡ true
    → HasBody known (request op id device value) (request_body (request op id device value))
body_of op id device value true e legal = refl
body_of op id device value false e legal =
    let none : request_body (request op id device value) ≡ [] = no_body op id device value e in
    rw none (omega arith, λ i. omega arith)

-- the body that is written is one of those that may stand
pub has_body : (r : Request) → is_request r ≡ true → HasBody (is_known r.op) r (request_body r)
has_body r legal = body_of r.op r.id r.device r.value (is_known r.op) refl legal

same_body : (b : Bool) (r : Request) (one other : List ℕ) → b ≡ true → HasBody b r one → HasBody b r other → one ≡ other
same_body true r one other known has had = has ∙ sym had
same_body false r one other known has had = absurd (false≢true known)

pub one_spelling : (first second : List ℕ) (r : Request) → is_known r.op ≡ true → SpellsRequest first r → SpellsRequest second r → first ≡ second
one_spelling first second r known one other =
    one.spelt ∙ ap (frame_bytes r.op r.id) (same_body (is_known r.op) r one.body other.body known one.has other.has) ∙ sym other.spelt
