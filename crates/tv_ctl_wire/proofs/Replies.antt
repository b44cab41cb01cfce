-- Replies are a lawful kind of frame.
use Rattle.std.proofs.Common.{◌≡◌, ◌∙◌, ◌==◌, ◌&&◌, ◌||◌, ℕ, zero, suc, ◌+◌, ◌-◌, ◌*◌, ◌/◌, ◌%◌, ◌^◌, ◌<◌, ◌≤◌, leb, Bool, true, false, cond, List, [], ◌∷◌, ◌++◌, Option, Some, None, length, flat_map, take, drop, slice_index, refl, ap, sym, subst, arith, append-nil}
use Rattle.std.proofs.lemmas.Bool.{false≢true, lt-leb, le-leb, leb-true, ne_eqb}
use Rattle.std.proofs.lemmas.Bool.Decides.{nat_tests}
use Rattle.std.proofs.lemmas.List.{drop_all, length-drop}
use Rattle.std.specs.Cmp.Derive.{both_true}
use Rattle.byteorder.specs.Endian.{little_bytes, little_number}
use Rattle.byteorder.specs.Numbers.{little_number-reads_back}
use Rattle.tv_ctl_wire.specs.declared.Cut.{Cut}
use Rattle.tv_ctl_wire.specs.declared.Cut.TheVariants as cut
use Rattle.tv_ctl_wire.specs.Cuts.{CutSo}
use Rattle.tv_ctl_wire.specs.Frames.{AreBytes, SpellsReply, reply_body, stats_body, FitsStats, frame_bytes}
use Rattle.tv_ctl_wire.specs.Reading.{reading, begins, sized, opens, coded, counted, replies, reply, begins_reply, is_reply_size, is_stats_size, is_size_of_status, is_count, reply_of}
use Rattle.tv_ctl_wire.proofs.Cutting.{cut_of, front_read, front_whole}
use Rattle.tv_ctl_wire.proofs.Framed.{framed, frame_is}
use Rattle.tv_ctl_wire.proofs.Fronts.{when_or}
use Rattle.tv_ctl_wire.proofs.Rest.{frame_takes}
use Rattle.tv_ctl_wire.proofs.Wholes.{Lawful, IsWhole, least_size}
use Rattle.tv_request.specs.Requests.{is_reply, is_reply_of}
use Rattle.tv_request.specs.declared.ReplyFrame.{ReplyFrame}
use Rattle.tv_wire.proofs.Again.{again_pairs}
use Rattle.tv_wire.proofs.Answered.{both, same}
use Rattle.tv_wire.proofs.Digits.{bytes_behind, all_again, number_fits}
use Rattle.tv_wire.proofs.Found.{byte_again, pairs_again, pairs_count, pairs_fit}
use Rattle.tv_wire.proofs.Written.{size_is as pairs_size}
use Rattle.tv_wire.specs.Reading.{pairs_read}
use Rattle.tv_wire.specs.Spelling.{pair_bytes, FitPairs}

-- one way or the other
choose : (P : ReplyFrame → Type 0) (b : Bool) (x y : ReplyFrame) → (b ≡ true → P x) → (b ≡ false → P y) → P (cond b x y)
choose P true x y one other = one refl
choose P false x y one other = other refl

-- what a reply's body says of its length and of what is read of it
pub record Told (status id other : ℕ) (stats : Option (List (ℕ × ℕ))) (body : List ℕ) : Type 0 where
  pub size : is_reply_size (10 + length body) ≡ true
  pub takes : is_size_of_status status (10 + length body) ≡ true
  pub counts : is_count status (10 + length body) (slice_index body 0) ≡ true
  pub few : length body ≤ 4086
  pub read : reply_of (frame_bytes status id body) ≡ reply status id other stats

told_6 : (id other : ℕ) → id < 256 ^ 8 → other < 256 ^ 8 → Told 6 id other None (little_bytes 8 other)
unfolding reply_of
told_6 id other fits low = record {
  size = refl;
  takes = refl;
  counts = refl;
  few = omega arith;
  read = rw (little_number-reads_back 8 id (little_bytes 8 other) fits, little_number-reads_back 8 other [] low) refl;
}

le_nine : (status : ℕ) → status ≤ 9 → (leb status 9 && (10 == 10)) ≡ true
le_nine status low = grind (arith, nat_tests, low)

by_zero : (b : Bool) {y : Bool} → y ≡ true → cond b true y ≡ true
by_zero true h = refl
by_zero false h = h

and_false : (b : Bool) → (b && false) ≡ false
and_false true = refl
and_false false = refl

or_last : (b t : Bool) → t ≡ true → (b || t) ≡ true
or_last true t h = refl
or_last false t h = h

no_count_of : (status byte : ℕ) → is_count status 10 byte ≡ true
no_count_of status byte = rw (and_false (status == 0)) refl

same_test : (n m : ℕ) → n ≡ m → (n == m) ≡ true
same_test n m e = grind (arith, nat_tests, e)

ends_in_one : (n : ℕ) → (11 + 10 * n) % 10 ≡ 1
ends_in_one n = omega arith

stats_size_is : (n : ℕ) → n ≤ 32 → is_stats_size (11 + 10 * n) ≡ true
stats_size_is n few =
    both_true (both_true (le-leb 11 (11 + 10 * n) (omega arith)) (le-leb (11 + 10 * n) 331 (omega (arith, few)))) (same_test ((11 + 10 * n) % 10) 1 (ends_in_one n))

reply_size_of : (size : ℕ) → is_stats_size size ≡ true → is_reply_size size ≡ true
reply_size_of size h = or_last (size == 10) _ (or_last (size == 18) _ h)

count_when : (b : Bool) (size byte : ℕ) → size ≡ 11 + 10 * byte → cond b (size == 11 + 10 * byte) true ≡ true
count_when true size byte e = same_test size (11 + 10 * byte) e
count_when false size byte e = refl

count_is : (n : ℕ) → is_count 0 (11 + 10 * n) n ≡ true
count_is n = count_when (is_stats_size (11 + 10 * n)) (11 + 10 * n) n refl

low_takes : (status : ℕ) → status ≤ 9 → (status == 6) ≡ false → is_size_of_status status 10 ≡ true
low_takes status low e6 = by_zero (status == 0) (rw e6 (le_nine status low))

told_bare : (status id : ℕ) → status ≤ 9 → (status == 6) ≡ false → id < 256 ^ 8 → Told status id 0 None []
unfolding reply_of
told_bare status id low e6 fits = record {
  size = refl;
  takes = low_takes status low e6;
  counts = no_count_of status 0;
  few = omega arith;
  read = rw (e6, little_number-reads_back 8 id [] fits) refl;
}

told_stats : (id : ℕ) (pairs : List (ℕ × ℕ)) → length pairs ≤ 32 → FitPairs pairs → id < 256 ^ 8
    → Told 0 id 0 (Some pairs) (length pairs ∷ flat_map pair_bytes pairs)
unfolding reply_of
told_stats id pairs few fit fits =
    let body : List ℕ = length pairs ∷ flat_map pair_bytes pairs in
    let size : 10 + length body ≡ 11 + 10 * length pairs = omega (arith, pairs_size pairs) in
    let stats : is_stats_size (11 + 10 * length pairs) ≡ true = stats_size_is (length pairs) few in
    let longer : (length (frame_bytes 0 id body) == 14) ≡ false = ne_eqb (length (frame_bytes 0 id body)) 14 (λ e. absurd (omega (arith, e))) in
    record {
      size = ap is_reply_size size ∙ reply_size_of (11 + 10 * length pairs) stats;
      takes = ap (is_size_of_status 0) size ∙ or_last (11 + 10 * length pairs == 10) (is_stats_size (11 + 10 * length pairs)) stats;
      counts = ap (λ (n : ℕ). is_count 0 n (length pairs)) size ∙ count_is (length pairs);
      few = omega (arith, few, size);
      read = rw (longer, little_number-reads_back 8 id body fits, again_pairs pairs fit) refl;
    }

when_6 : (status id other : ℕ) (stats : Option (List (ℕ × ℕ))) → (status == 6) ≡ true → id < 256 ^ 8 → other < 256 ^ 8
    → is_reply_of status other stats ≡ true → Told status id other stats (cond (status == 6) (little_bytes 8 other) (stats_body stats))
when_6 status id other None e6 fits low legal =
    let is = same status 6 e6 in rw e6 (subst (λ (s : ℕ). Told s id other None (little_bytes 8 other)) (sym is) (told_6 id other fits low))
when_6 status id other (Some pairs) e6 fits low legal =
    let zero = both (status == 0) (other == 0) legal in
    absurd (omega (arith, same status 6 e6, same status 0 zero.0))

not_6 : (b c : Bool) → (b || c) ≡ true → b ≡ false → c ≡ true
not_6 true c h e = absurd (false≢true (sym e))
not_6 false c h e = h

when_other : (status id other : ℕ) (stats : Option (List (ℕ × ℕ))) → (status == 6) ≡ false → id < 256 ^ 8 → FitsStats stats
    → is_reply_of status other stats ≡ true → Told status id other stats (cond (status == 6) (little_bytes 8 other) (stats_body stats))
when_other status id other None e6 fits fit legal =
    let tests = both (leb status 9) (status == 6 || other == 0) legal in
    let low : status ≤ 9 = leb-true status 9 tests.0 in
    let none : other ≡ 0 = same other 0 (not_6 (status == 6) (other == 0) tests.1 e6) in
    rw (e6, none) (told_bare status id low e6 fits)
when_other status id other (Some pairs) e6 fits fit legal =
    let zero = both (status == 0) (other == 0) legal in
    rw (same status 0 zero.0, same other 0 zero.1) (told_stats id pairs fit.0 fit.1 fits)

told_by : (status id other : ℕ) (stats : Option (List (ℕ × ℕ))) (b : Bool) → (status == 6) ≡ b → id < 256 ^ 8 → other < 256 ^ 8 → FitsStats stats
    → is_reply_of status other stats ≡ true → Told status id other stats (cond (status == 6) (little_bytes 8 other) (stats_body stats))
told_by status id other stats true e fits low fit legal = when_6 status id other stats e fits low legal
told_by status id other stats false e fits low fit legal = when_other status id other stats e fits fit legal

told : (frame : List ℕ) (r : ReplyFrame) → SpellsReply frame r → Told r.status r.id r.other r.stats (reply_body r)
unfolding is_reply
told frame r s = told_by r.status r.id r.other r.stats (r.status == 6) refl s.id s.other s.stats s.legal

whole : (frame : List ℕ) (r : ReplyFrame) → SpellsReply frame r → IsWhole ReplyFrame replies frame
whole frame r s =
    let t = told frame r s in
    subst (IsWhole ReplyFrame replies) (sym s.spelt)
    (framed ReplyFrame replies r.status r.id (reply_body r) (omega (arith, t.few)) t.size t.takes t.counts)

again : (frame : List ℕ) (r : ReplyFrame) → SpellsReply frame r → reply_of frame ≡ r
again frame r s = ap reply_of s.spelt ∙ (told frame r s).read

-- what a whole frame says
pub record Parts (frame : List ℕ) : Type 0 where
  pub long : 14 ≤ length frame
  pub takes : is_size_of_status (slice_index frame 5) (little_number 2 frame) ≡ true
  pub counts : counted replies frame ≡ true
  pub size : length frame ≡ little_number 2 frame + 4
  pub id : little_number 8 (drop 6 frame) < 2 ^ 64
  pub spelt : frame ≡ frame_bytes (slice_index frame 5) (little_number 8 (drop 6 frame)) (drop 14 frame)

-- the length of a reply with another status than 6
when_both : (b c t : Bool) → b ≡ true → c ≡ true → cond (b && c) t true ≡ true → t ≡ true
when_both true true t one other h = h
when_both true false t one other h = absurd (false≢true other)
when_both false c t one other h = absurd (false≢true one)

cases_zero : (status size : ℕ) (b : Bool) → (status == 0) ≡ b → is_size_of_status status size ≡ true → (status == 6) ≡ false → (size == 10) ≡ false
    → (status ≡ 0) × (is_stats_size size ≡ true)
cases_zero status size true e h e6 e10 =
    let tests = rw e at h in
    (same status 0 e, not_6 (size == 10) (is_stats_size size) tests e10)
cases_zero status size false e h e6 e10 =
    let tests = rw (e, e6) at h in
    absurd (false≢true (sym e10 ∙ (both (leb status 9) (size == 10) tests).1))

size_cases : (status size : ℕ) → is_size_of_status status size ≡ true → (status == 6) ≡ false → (size == 10) ≡ false
    → (status ≡ 0) × (is_stats_size size ≡ true)
size_cases status size h e6 e10 = cases_zero status size (status == 0) refl h e6 e10

-- the numbers of a whole reply that has some
stats_counted : (frame : List ℕ) → is_size_of_status (slice_index frame 5) (little_number 2 frame) ≡ true → counted replies frame ≡ true
    → length frame ≡ little_number 2 frame + 4 → (slice_index frame 5 == 6) ≡ false → (length frame == 14) ≡ false
    → (slice_index frame 5 ≡ 0) × (little_number 2 frame ≡ 11 + 10 * slice_index frame 14) × (slice_index frame 14 ≤ 32)
unfolding counted
stats_counted frame takes counts size e6 e14 =
    let n : ℕ = little_number 2 frame in
    let other : (n == 10) ≡ false = grind (arith, nat_tests, size, e14) in
    let found = size_cases (slice_index frame 5) n takes e6 other in
    let tests = both _ _ found.1 in
    let bounds = both _ _ tests.0 in
    let least : 11 ≤ n = leb-true 11 n bounds.0 in
    let most : n ≤ 331 = leb-true n 331 bounds.1 in
    let came = when_or (leb (length frame) 14) _ counts (lt-leb (length frame) 14 (omega (arith, size, least))) in
    let test : cond ((slice_index frame 5 == 0) && is_stats_size n) (n == 11 + 10 * slice_index frame 14) true ≡ true = came in
    let now : (n == 11 + 10 * slice_index frame 14) ≡ true = when_both (slice_index frame 5 == 0) (is_stats_size n) (n == 11 + 10 * slice_index frame 14) (same_test (slice_index frame 5) 0 found.0) found.1 test in
    let number = same n (11 + 10 * slice_index frame 14) now in
    (found.0, number, omega (arith, number, most))

found_6 : (frame : List ℕ) → AreBytes frame → Parts frame → (slice_index frame 5 == 6) ≡ true
    → SpellsReply frame (reply (slice_index frame 5) (little_number 8 (drop 6 frame)) (little_number 8 (drop 14 frame)) None)
unfolding is_reply
found_6 frame each p e6 =
    let status : ℕ = slice_index frame 5 in
    let is : status ≡ 6 = same status 6 e6 in
    let size : little_number 2 frame ≡ 18 = same (little_number 2 frame) 18 (subst (λ (s : ℕ). is_size_of_status s (little_number 2 frame) ≡ true) is p.takes) in
    let rest : AreBytes (drop 14 frame) = bytes_behind 14 frame each in
    record {
      legal = rw is refl;
      id = p.id;
      other = number_fits 8 (drop 14 frame) rest;
      stats = tt;
      spelt = p.spelt ∙ ap (frame_bytes status (little_number 8 (drop 6 frame)))
          (sym (rw e6 (all_again 8 (drop 14 frame) rest (rw (length-drop 14 frame) (omega (arith, size, p.size))))));
    }

low_by : (status size : ℕ) (b c : Bool) → (status == 0) ≡ b → (status == 6) ≡ c → is_size_of_status status size ≡ true → status ≤ 9
low_by status size true c e0 e6 h = omega (arith, same status 0 e0)
low_by status size false true e0 e6 h = omega (arith, same status 6 e6)
low_by status size false false e0 e6 h = let tests = rw (e0, e6) at h in leb-true status 9 (both (leb status 9) (size == 10) tests).0

status_low : (status size : ℕ) → is_size_of_status status size ≡ true → status ≤ 9
status_low status size h = low_by status size (status == 0) (status == 6) refl refl h

found_bare : (frame : List ℕ) → AreBytes frame → Parts frame → (slice_index frame 5 == 6) ≡ false → (length frame == 14) ≡ true
    → SpellsReply frame (reply (slice_index frame 5) (little_number 8 (drop 6 frame)) 0 None)
unfolding is_reply
found_bare frame each p e6 e14 =
    let status : ℕ = slice_index frame 5 in
    let none : drop 14 frame ≡ [] = drop_all 14 frame (omega (arith, same (length frame) 14 e14)) in
    record {
      legal = both_true (le-leb status 9 (status_low status (little_number 2 frame) p.takes)) (or_last (status == 6) (0 == 0) refl);
      id = p.id;
      other = omega arith;
      stats = tt;
      spelt = p.spelt ∙ ap (frame_bytes status (little_number 8 (drop 6 frame))) (none ∙ sym (rw e6 refl));
    }

found_stats : (frame : List ℕ) → AreBytes frame → Parts frame → (slice_index frame 5 == 6) ≡ false → (length frame == 14) ≡ false
    → SpellsReply frame (reply (slice_index frame 5) (little_number 8 (drop 6 frame)) 0 (Some (pairs_read (slice_index frame 14) (drop 15 frame))))
unfolding is_reply
found_stats frame each p e6 e14 =
    let status : ℕ = slice_index frame 5 in
    let count : ℕ = slice_index frame 14 in
    let pairs : List (ℕ × ℕ) = pairs_read count (drop 15 frame) in
    let c = stats_counted frame p.takes p.counts p.size e6 e14 in
    let rest : AreBytes (drop 15 frame) = bytes_behind 15 frame each in
    let back : flat_map pair_bytes pairs ≡ drop 15 frame =
    pairs_again count (drop 15 frame) rest (rw (length-drop 15 frame) (omega (arith, c.1, p.size))) in
    record {
      legal = both_true (same_test status 0 c.0) refl;
      id = p.id;
      other = omega arith;
      stats = (rw (pairs_count count (drop 15 frame)) c.2, pairs_fit count (drop 15 frame) rest);
      spelt = p.spelt ∙ ap (frame_bytes status (little_number 8 (drop 6 frame)))
          (sym (rw e6 (ap (λ (n : ℕ). n ∷ flat_map pair_bytes pairs) (pairs_count count (drop 15 frame))
          ∙ ap (λ (bs : List ℕ). count ∷ bs) back ∙ byte_again 14 frame (omega (arith, c.1, p.size)))));
    }

by_status : (frame : List ℕ) → AreBytes frame → Parts frame → SpellsReply frame (reply_of frame)
unfolding reply_of
by_status frame each p =
    choose (SpellsReply frame) (slice_index frame 5 == 6) _ _ (found_6 frame each p)
    (λ e6. choose (SpellsReply frame) (length frame == 14) _ _ (found_bare frame each p e6) (found_stats frame each p e6))

size_least : (size : ℕ) → is_reply_size size ≡ true → 10 ≤ size
size_least size h = grind (arith, nat_tests, h)

-- the second byte of a length that begins with this one
second_of : ℕ → ℕ
second_of first = cond (is_reply_size first) 0 1

code_of : ℕ → ℕ
code_of size = cond (size == 18) 6 0

count_of : ℕ → ℕ
count_of size = (size - 11) / 10 % 256

zero_more : (first : ℕ) → first + 256 * 0 ≡ first
zero_more first = omega arith

one_more : (first : ℕ) → first + 256 * 1 ≡ 256 + first
one_more first = omega arith

second_is : (b : Bool) (first : ℕ) → is_reply_size first ≡ b → begins_reply first ≡ true → is_reply_size (first + 256 * cond b 0 1) ≡ true
second_is true first e h = ap is_reply_size (zero_more first) ∙ e
second_is false first e h =
    ap is_reply_size (one_more first) ∙ reply_size_of (256 + first) (not_6 (is_reply_size first) (is_stats_size (256 + first)) h e)

without : (b c d : Bool) → (b || (c || d)) ≡ true → c ≡ false → (b || d) ≡ true
without true c d h e = refl
without false true d h e = absurd (false≢true (sym e))
without false false d h e = h

code_is : (b : Bool) (size : ℕ) → (size == 18) ≡ b → is_reply_size size ≡ true → is_size_of_status (cond b 6 0) size ≡ true
code_is true size e h = e
code_is false size e h = without (size == 10) (size == 18) (is_stats_size size) h e

stats_bounds : (size : ℕ) → is_stats_size size ≡ true → (11 ≤ size) × (size ≤ 331) × (size % 10 ≡ 1)
stats_bounds size h =
    let tests = both _ _ h in
    let bounds = both _ _ tests.0 in
    (leb-true 11 size bounds.0, leb-true size 331 bounds.1, same (size % 10) 1 tests.1)

count_back : (size : ℕ) → is_stats_size size ≡ true → size ≡ 11 + 10 * count_of size
unfolding count_of
count_back size h = let b = stats_bounds size h in omega (arith, b.0, b.1, b.2)

count_at : (b : Bool) (size : ℕ) → (is_stats_size size) ≡ b → (c : Bool) → cond (c && b) (size == 11 + 10 * count_of size) true ≡ true
count_at false size e c = rw (and_false c) refl
count_at true size e c = count_when (c && true) size (count_of size) (count_back size e)

-- a length of two bytes whose first alone is none
low_at : (first rest : ℕ) (b : Bool) → is_reply_size first ≡ b → is_reply_size (first + 256 * rest) ≡ true → begins_reply first ≡ true
low_at first rest true e h = rw e refl
low_at first zero false e h = absurd (false≢true (sym e ∙ ap is_reply_size (sym (zero_more first)) ∙ h))
low_at first (suc rest) false e h =
    let size : ℕ = first + 256 * suc rest in
    let stats : is_stats_size size ≡ true =
    not_6 (size == 18) (is_stats_size size) (not_6 (size == 10) (size == 18 || is_stats_size size) h (ne_eqb size 10 (λ e. absurd (omega (arith, e))))) (ne_eqb size 18 (λ e. absurd (omega (arith, e)))) in
    let most = (stats_bounds size stats).1 in
    let one : rest ≡ 0 = omega (arith, most) in
    let same_size : 256 + first ≡ size = omega (arith, one) in
    or_last (is_reply_size first) (is_stats_size (256 + first)) (ap (λ (n : ℕ). is_stats_size n) same_size ∙ stats)

low_first : (first rest : ℕ) → is_reply_size (first + 256 * rest) ≡ true → begins_reply first ≡ true
low_first first rest h = low_at first rest (is_reply_size first) refl h

bit_fits : (b : Bool) → cond b 0 1 < 256
bit_fits true = omega arith
bit_fits false = omega arith

code_fits : (b : Bool) → cond b 6 0 < 256
code_fits true = omega arith
code_fits false = omega arith

parts_of : (frame : List ℕ) → AreBytes frame → IsWhole ReplyFrame replies frame → Parts frame
parts_of frame each is =
    let parts = frame_is ReplyFrame replies size_least frame each is in
    record {
      long = parts.0;
      takes = frame_takes ReplyFrame replies size_least frame is;
      counts = (both _ _ (both _ _ is.begun).1).1;
      size = is.size;
      id = number_fits 8 (drop 6 frame) (bytes_behind 6 frame each);
      spelt = parts.1;
    }

pub laws : Lawful ReplyFrame replies SpellsReply
unfolding second_of code_of count_of
laws = record {
  second = second_of;
  code = code_of;
  count = λ status size. count_of size;
  start = refl;
  low = low_first;
  high = λ first fits h. second_is (is_reply_size first) first refl h;
  least = size_least;
  some_code = λ size h. code_is (size == 18) size refl h;
  some_count = λ status size h. count_at (is_stats_size size) size refl (status == 0);
  no_count = no_count_of;
  bytes = (λ first. bit_fits (is_reply_size first), λ size. code_fits (size == 18), λ status size. omega arith);
  found = λ frame each is. by_status frame each (parts_of frame each is);
  whole = whole;
  again = again;
}

pub cut_is : (bytes : List ℕ) (r : Cut ReplyFrame) → AreBytes bytes → r ≡ reading replies bytes → CutSo ReplyFrame SpellsReply bytes r
cut_is bytes r each is = cut_of ReplyFrame replies SpellsReply laws bytes r each is

pub front_is : (bytes : List ℕ) (r : Cut ReplyFrame) → r ≡ reading replies bytes → (frame rest : List ℕ) (reply : ReplyFrame) → SpellsReply frame reply
    → bytes ≡ frame ++ rest → r ≡ cut.Whole reply (length frame)
front_is bytes r is frame rest reply spelt same =
    is ∙ ap (λ (bs : List ℕ). reading replies bs) same ∙ front_read ReplyFrame replies SpellsReply laws frame rest reply spelt

pub none_begins : (bytes : List ℕ) → length bytes ≡ 0 → begins replies bytes ≡ true
unfolding sized opens coded counted
none_begins [] none = refl
none_begins (b ∷ bytes) none = absurd (omega (arith, none))

only : (b : Bool) → ((b && true) && true) ≡ b
only true = refl
only false = refl

pub one_begins : (bytes : List ℕ) → 1 ≤ length bytes → length bytes < 2 → begins replies bytes ≡ begins_reply (slice_index bytes 0)
unfolding sized opens coded counted
one_begins [] some few = absurd (omega (arith, some))
one_begins (b ∷ []) some few = only (begins_reply b)
one_begins (b ∷ c ∷ bytes) some few = absurd (omega (arith, few))

-- what the whole frame at a front is made of
pub record FrontParts (frame : List ℕ) : Type 0 where
  pub long : 14 ≤ length frame
  pub takes : is_size_of_status (slice_index frame 5) (little_number 2 frame) ≡ true
  pub counts : counted replies frame ≡ true

pub front_parts : (bytes : List ℕ) (end : ℕ) → begins replies bytes ≡ true → 2 ≤ length bytes → end ≡ little_number 2 bytes + 4
    → end ≤ length bytes → FrontParts (take end bytes)
front_parts bytes end h two end_is few =
    let is : IsWhole ReplyFrame replies (take (little_number 2 bytes + 4) bytes) =
    front_whole ReplyFrame replies SpellsReply laws bytes h two (omega (arith, end_is, few)) in
    rw end_is (record {
      long = least_size ReplyFrame replies size_least (take (little_number 2 bytes + 4) bytes) is;
      takes = frame_takes ReplyFrame replies size_least (take (little_number 2 bytes + 4) bytes) is;
      counts = (both _ _ (both _ _ is.begun).1).1;
    })

-- what a whole reply that has numbers says of them
pub pairs_told : (frame : List ℕ) → is_size_of_status (slice_index frame 5) (little_number 2 frame) ≡ true → counted replies frame ≡ true
    → length frame ≡ little_number 2 frame + 4 → (slice_index frame 5 == 6) ≡ false → (length frame == 14) ≡ false
    → (slice_index frame 14 ≤ 32) × (length (drop 15 frame) ≡ 10 * slice_index frame 14)
pairs_told frame takes counts size e6 e14 =
    let c = stats_counted frame takes counts size e6 e14 in
    (c.2, rw (length-drop 15 frame) (omega (arith, c.1, size)))

pub read_back : (bytes : List ℕ) (r : ReplyFrame) (size : ℕ) → SpellsReply bytes r → length bytes ≡ size → reading replies bytes ≡ cut.Whole r size
read_back bytes r size spelt is =
    ap (λ (bs : List ℕ). reading replies bs) (sym (append-nil bytes)) ∙ front_read ReplyFrame replies SpellsReply laws bytes [] r spelt ∙ ap (cut.Whole r) is

fits_none : (status other : ℕ) (stats : Option (List (ℕ × ℕ))) → is_reply_of status other stats ≡ true → status ≡ 6 → FitsStats stats
fits_none status other None legal is = tt
fits_none status other (Some pairs) legal is =
    let zero = both (status == 0) (other == 0) legal in
    absurd (omega (arith, is, same status 0 zero.0))

pub waiting_fits : (r : ReplyFrame) → is_reply r ≡ true → r.status ≡ 6 → FitsStats r.stats
unfolding is_reply
waiting_fits r legal is = fits_none r.status r.other r.stats legal is
