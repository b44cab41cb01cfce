-- Bytes that are read as a message spell it.
use Rattle.std.proofs.Common.{◌≡◌, ◌∙◌, ◌==◌, ◌&&◌, ℕ, suc, zero, ◌+◌, ◌*◌, ◌<◌, ◌≤◌, ltb, leb, List, [], ◌∷◌, ◌++◌, Option, Some, None, Bool, true, false, cond, length, flat_map, drop, slice_index, IfSome, IfNone, length-append, refl, ap, sym, subst, arith}
use Rattle.std.proofs.lemmas.Bool.{le-leb}
use Rattle.std.specs.Cmp.Derive.{both_true}
use Rattle.std.proofs.lemmas.Bool.Decides.{nat_tests}
use Rattle.std.proofs.lemmas.List.{drop_more, drop_all, drop-drop, length-drop}
use Rattle.std.proofs.lemmas.Option.{none-some, same_Some}
use Rattle.byteorder.specs.Endian.{little_bytes, little_number}
use Rattle.byteorder.specs.Numbers.{little_from-append}
use Rattle.tv_base.specs.declared.Width.{Width}
use Rattle.tv_base.specs.declared.Width.TheVariants.{B1, B2, B4, B8}
use Rattle.tv_base.specs.Width.{width_bytes}
use Rattle.tv_wire.specs.declared.Msg.{Msg}
use Rattle.tv_wire.specs.declared.Msg.TheVariants as msg
use Rattle.tv_wire.specs.Reading as read
use Rattle.tv_wire.specs.Spelling.{Parts, message_bytes, joined, parts, parts_of, pair_bytes, piece_bytes, bool_byte, is_answer, is_piece, is_place, is_value, is_resize, IsMessage, FitsBody, FitPairs, SpellsMessage}
use Rattle.tv_wire.proofs.Digits.{AreBytes, bytes_behind, front_again, all_again, number_fits}
use Rattle.tv_wire.proofs.Whole.{reads_back}
use Rattle.tv_wire.proofs.Answered.{cases, when, unless, both, same}

-- a message whose body has these bytes
record BodyOf (kind tag : ℕ) (body : List ℕ) (m : Msg) : Type 0 where
  pub parts_are : parts_of m ≡ parts kind tag body
  pub legal : IsMessage m
  pub fits : FitsBody m

-- what was read is this message
known : (kind tag : ℕ) (body : List ℕ) (n m : Msg) → BodyOf kind tag body n → Some n ≡ Some m → BodyOf kind tag body m
known kind tag body n m is found = subst (BodyOf kind tag body) (same_Some n m found) is

-- a byte, and the bytes behind it
pub byte_again : (n : ℕ) (bs : List ℕ) → n < length bs → slice_index bs n ∷ drop (n + 1) bs ≡ drop n bs
byte_again n bs more = sym (drop_more bs n 0 more)

-- a number of two bytes, and one of eight behind it
numbers_again : (bs : List ℕ) → AreBytes bs → 10 ≤ length bs
    → (little_bytes 2 (little_number 2 bs) ++ little_bytes 8 (little_number 8 (drop 2 bs))) ++ drop 10 bs ≡ bs
numbers_again bs each long =
    let value : little_bytes 8 (little_number 8 (drop 2 bs)) ++ drop 8 (drop 2 bs) ≡ drop 2 bs =
    front_again 8 (drop 2 bs) (bytes_behind 2 bs each) (rw (length-drop 2 bs) (omega (arith, long))) in
    ap (λ (cs : List ℕ). little_bytes 2 (little_number 2 bs) ++ (little_bytes 8 (little_number 8 (drop 2 bs)) ++ cs)) (sym (drop-drop 8 2 bs))
    ∙ ap (λ (cs : List ℕ). little_bytes 2 (little_number 2 bs) ++ cs) value
    ∙ front_again 2 bs each (omega (arith, long))

width_found : (n k : ℕ) (w width : Width) → width_bytes w ≡ k → (n == k) ≡ true → Some w ≡ Some width → width_bytes width ≡ n
width_found n k w width size is found = ap width_bytes (sym (same_Some w width found)) ∙ size ∙ sym (same n k is)

width_is : (n : ℕ) (width : Width) → read.width_read n ≡ Some width → width_bytes width ≡ n
width_is n width is =
    cases (n == 1) (Some B1) _ width (λ e f. width_found n 1 B1 width refl e f)
    (λ _ at_2. cases (n == 2) (Some B2) _ width (λ e f. width_found n 2 B2 width refl e f)
    (λ _ at_4. cases (n == 4) (Some B4) _ width (λ e f. width_found n 4 B4 width refl e f)
    (λ _ at_8. let last = when (n == 8) (Some B8) width at_8 in width_found n 8 B8 width refl last.0 last.1) at_4) at_2) is

found_load_at : (tag off : ℕ) (body : List ℕ) (m : Msg) (width : Option Width) → AreBytes body → length body ≡ 3
    → off ≡ little_number 2 (drop 1 body) → read.width_read (slice_index body 0) ≡ width → read.load_at tag width off ≡ Some m → BodyOf 1 tag body m
found_load_at tag off body m None each size off_is width_read is = absurd (none-some m is)
found_load_at tag off body m (Some width) each size off_is width_read is =
    let found = when (is_place width off) (Some (msg.Load tag width off)) m is in
    let rest : little_bytes 2 off ≡ drop 1 body =
    ap (little_bytes 2) off_is ∙ all_again 2 (drop 1 body) (bytes_behind 1 body each) (rw (length-drop 1 body) (omega (arith, size))) in
    known 1 tag body (msg.Load tag width off) m (record {
      parts_are = ap (parts 1 tag)
          (ap (λ (n : ℕ). n ∷ little_bytes 2 off) (width_is (slice_index body 0) width width_read)
          ∙ ap (λ (bs : List ℕ). slice_index body 0 ∷ bs) rest ∙ byte_again 0 body (omega (arith, size)));
      legal = found.0;
      fits = rw off_is (number_fits 2 (drop 1 body) (bytes_behind 1 body each));
    }) found.1

found_load : (tag : ℕ) (body : List ℕ) (m : Msg) → AreBytes body → read.load_read tag body ≡ Some m → BodyOf 1 tag body m
found_load tag body m each is =
    let found = when (length body == 3) _ m is in
    found_load_at tag (little_number 2 (drop 1 body)) body m (read.width_read (slice_index body 0)) each (same (length body) 3 found.0) refl refl found.1

found_store_at : (tag off value : ℕ) (body : List ℕ) (m : Msg) (width : Option Width) → AreBytes body → length body ≡ 11
    → off ≡ little_number 2 (drop 1 body) → value ≡ little_number 8 (drop 3 body) → read.width_read (slice_index body 0) ≡ width
    → read.store_at tag width off value ≡ Some m → BodyOf 2 tag body m
found_store_at tag off value body m None each size off_is value_is width_read is = absurd (none-some m is)
found_store_at tag off value body m (Some width) each size off_is value_is width_read is =
    let found = when (is_place width off && is_value width value) (Some (msg.Store tag width off value)) m is in
    let behind : AreBytes (drop 1 body) = bytes_behind 1 body each in
    let value_bytes : little_bytes 8 value ≡ little_bytes 8 (little_number 8 (drop 2 (drop 1 body))) =
    ap (little_bytes 8) value_is ∙ ap (λ (bs : List ℕ). little_bytes 8 (little_number 8 bs)) (sym (drop-drop 2 1 body)) in
    let none : drop 10 (drop 1 body) ≡ [] = drop_all 10 (drop 1 body) (rw (length-drop 1 body) (omega (arith, size))) in
    let rest : little_bytes 2 off ++ little_bytes 8 value ≡ drop 1 body =
    ap (λ (n : ℕ). little_bytes 2 n ++ little_bytes 8 value) off_is
    ∙ ap (λ (bs : List ℕ). little_bytes 2 (little_number 2 (drop 1 body)) ++ bs) value_bytes
    ∙ ap (λ (bs : List ℕ). (little_bytes 2 (little_number 2 (drop 1 body)) ++ little_bytes 8 (little_number 8 (drop 2 (drop 1 body)))) ++ bs) (sym none)
    ∙ numbers_again (drop 1 body) behind (rw (length-drop 1 body) (omega (arith, size))) in
    known 2 tag body (msg.Store tag width off value) m (record {
      parts_are = ap (parts 2 tag)
          (ap (λ (n : ℕ). n ∷ (little_bytes 2 off ++ little_bytes 8 value)) (width_is (slice_index body 0) width width_read)
          ∙ ap (λ (bs : List ℕ). slice_index body 0 ∷ bs) rest ∙ byte_again 0 body (omega (arith, size)));
      legal = found.0;
      fits = (rw off_is (number_fits 2 (drop 1 body) behind), rw value_is (number_fits 8 (drop 3 body) (bytes_behind 3 body each)));
    }) found.1

found_store : (tag : ℕ) (body : List ℕ) (m : Msg) → AreBytes body → read.store_read tag body ≡ Some m → BodyOf 2 tag body m
found_store tag body m each is =
    let found = when (length body == 11) _ m is in
    found_store_at tag (little_number 2 (drop 1 body)) (little_number 8 (drop 3 body)) body m (read.width_read (slice_index body 0)) each
    (same (length body) 11 found.0) refl refl refl found.1

found_value : (tag : ℕ) (body : List ℕ) (m : Msg) → AreBytes body → read.value_read tag body ≡ Some m → BodyOf 3 tag body m
found_value tag body m each is =
    let found = when (length body == 8) (Some (msg.Value tag (little_number 8 body))) m is in
    known 3 tag body (msg.Value tag (little_number 8 body)) m (record {
      parts_are = ap (parts 3 tag) (all_again 8 body each (same (length body) 8 found.0));
      legal = tt;
      fits = number_fits 8 body each;
    }) found.1

found_target : (tag : ℕ) (body : List ℕ) (m : Msg) → AreBytes body → read.target_read tag body ≡ Some m → BodyOf 4 tag body m
found_target tag body m each is =
    let found = when (length body == 4) (Some (msg.Target tag (little_number 4 body))) m is in
    known 4 tag body (msg.Target tag (little_number 4 body)) m (record {
      parts_are = ap (parts 4 tag) (all_again 4 body each (same (length body) 4 found.0));
      legal = tt;
      fits = number_fits 4 body each;
    }) found.1

found_regain : (tag : ℕ) (body : List ℕ) (m : Msg) → AreBytes body → read.regain_read tag body ≡ Some m → BodyOf 12 tag body m
found_regain tag body m each is =
    let found = when (length body == 4) (Some (msg.Regain tag (little_number 4 body))) m is in
    known 12 tag body (msg.Regain tag (little_number 4 body)) m (record {
      parts_are = ap (parts 12 tag) (all_again 4 body each (same (length body) 4 found.0));
      legal = tt;
      fits = number_fits 4 body each;
    }) found.1

found_resize : (tag : ℕ) (body : List ℕ) (m : Msg) → AreBytes body → read.resize_read tag body ≡ Some m → BodyOf 6 tag body m
found_resize tag body m each is =
    let found = when (length body == 4 && is_resize (little_number 4 body)) (Some (msg.Resize tag (little_number 4 body))) m is in
    let tests = both (length body == 4) (is_resize (little_number 4 body)) found.0 in
    known 6 tag body (msg.Resize tag (little_number 4 body)) m (record {
      parts_are = ap (parts 6 tag) (all_again 4 body each (same (length body) 4 tests.0));
      legal = tests.1;
      fits = number_fits 4 body each;
    }) found.1

found_read : (tag : ℕ) (body : List ℕ) (m : Msg) → AreBytes body → read.read_read tag body ≡ Some m → BodyOf 8 tag body m
found_read tag body m each is =
    let addr : ℕ = little_number 8 body in
    let len : ℕ = little_number 2 (drop 8 body) in
    let found = when (length body == 10 && is_piece len) (Some (msg.Read tag addr len)) m is in
    let tests = both (length body == 10) (is_piece len) found.0 in
    let size = same (length body) 10 tests.0 in
    let behind : AreBytes (drop 8 body) = bytes_behind 8 body each in
    known 8 tag body (msg.Read tag addr len) m (record {
      parts_are = ap (parts 8 tag)
          (ap (λ (bs : List ℕ). little_bytes 8 addr ++ bs) (all_again 2 (drop 8 body) behind (rw (length-drop 8 body) (omega (arith, size))))
          ∙ front_again 8 body each (omega (arith, size)));
      legal = tests.1;
      fits = (number_fits 8 body each, number_fits 2 (drop 8 body) behind);
    }) found.1

-- a length and so many bytes
record PieceOf (body bytes : List ℕ) : Type 0 where
  pub bytes_are : piece_bytes bytes ≡ body
  pub legal : is_piece (length bytes) ≡ true

found_piece : (body bytes : List ℕ) → AreBytes body → read.piece_read body ≡ Some bytes → PieceOf body bytes
found_piece body bytes each is =
    let found = when (leb 3 (length body) && leb (length body) 4098 && (little_number 2 body + 2 == length body)) (Some (drop 2 body)) bytes is in
    let tests = both (leb 3 (length body) && leb (length body) 4098) (little_number 2 body + 2 == length body) found.0 in
    let bounds = both (leb 3 (length body)) (leb (length body) 4098) tests.0 in
    let long : 3 ≤ length body = grind (arith, nat_tests, bounds.0) in
    let short : length body ≤ 4098 = grind (arith, nat_tests, bounds.1) in
    let size = same (little_number 2 body + 2) (length body) tests.1 in
    let count : length (drop 2 body) ≡ little_number 2 body = rw (length-drop 2 body) (omega (arith, size)) in
    let front = front_again 2 body each (omega (arith, long)) in
    let legal : is_piece (length (drop 2 body)) ≡ true = both_true (le-leb 1 (length (drop 2 body)) (rw (length-drop 2 body) (omega (arith, long)))) (le-leb (length (drop 2 body)) 4096 (rw (length-drop 2 body) (omega (arith, short)))) in
    subst (PieceOf body) (same_Some (drop 2 body) bytes found.1) (record {
      bytes_are = ap (λ (n : ℕ). little_bytes 2 n ++ drop 2 body) count ∙ front;
      legal = legal;
    })

found_bytes_of : (tag : ℕ) (body : List ℕ) (m : Msg) (bytes : Option (List ℕ)) → AreBytes body → read.piece_read body ≡ bytes
    → read.bytes_of tag bytes ≡ Some m → BodyOf 9 tag body m
found_bytes_of tag body m None each piece is = absurd (none-some m is)
found_bytes_of tag body m (Some bytes) each piece is =
    let found = found_piece body bytes each piece in
    known 9 tag body (msg.Bytes tag bytes) m (record { parts_are = ap (parts 9 tag) found.bytes_are; legal = found.legal; fits = tt }) is

found_bytes : (tag : ℕ) (body : List ℕ) (m : Msg) → AreBytes body → read.bytes_read tag body ≡ Some m → BodyOf 9 tag body m
found_bytes tag body m each is = found_bytes_of tag body m (read.piece_read body) each refl is

found_write_of : (tag addr : ℕ) (body : List ℕ) (m : Msg) (bytes : Option (List ℕ)) → AreBytes body → 8 ≤ length body
    → addr ≡ little_number 8 body → read.piece_read (drop 8 body) ≡ bytes → read.write_of tag addr bytes ≡ Some m → BodyOf 10 tag body m
found_write_of tag addr body m None each long addr_is piece is = absurd (none-some m is)
found_write_of tag addr body m (Some bytes) each long addr_is piece is =
    let found = found_piece (drop 8 body) bytes (bytes_behind 8 body each) piece in
    known 10 tag body (msg.Write tag addr bytes) m (record {
      parts_are = ap (parts 10 tag)
          (ap (λ (n : ℕ). little_bytes 8 n ++ piece_bytes bytes) addr_is
          ∙ ap (λ (bs : List ℕ). little_bytes 8 (little_number 8 body) ++ bs) found.bytes_are ∙ front_again 8 body each long);
      legal = found.legal;
      fits = rw addr_is (number_fits 8 body each);
    }) is

found_write : (tag : ℕ) (body : List ℕ) (m : Msg) → AreBytes body → read.write_read tag body ≡ Some m → BodyOf 10 tag body m
found_write tag body m each is =
    let found = unless (ltb (length body) 8) _ m is in
    let long : 8 ≤ length body = grind (arith, nat_tests, found.0) in
    found_write_of tag (little_number 8 body) body m (read.piece_read (drop 8 body)) each long refl refl found.1

pub pairs_count : (count : ℕ) (body : List ℕ) → length (read.pairs_read count body) ≡ count
pairs_count zero body = refl
pairs_count (suc count) body = ap suc (pairs_count count (drop 10 body))

pub pairs_fit : (count : ℕ) (body : List ℕ) → AreBytes body → FitPairs (read.pairs_read count body)
pairs_fit zero body each = tt
pairs_fit (suc count) body each =
    (number_fits 2 body each, number_fits 8 (drop 2 body) (bytes_behind 2 body each), pairs_fit count (drop 10 body) (bytes_behind 10 body each))

pub pairs_again : (count : ℕ) (body : List ℕ) → AreBytes body → length body ≡ 10 * count → flat_map pair_bytes (read.pairs_read count body) ≡ body
pairs_again zero [] each size = refl
pairs_again zero (b ∷ body) each size = absurd (omega (arith, size))
pairs_again (suc count) body each size =
    let rest : flat_map pair_bytes (read.pairs_read count (drop 10 body)) ≡ drop 10 body =
    pairs_again count (drop 10 body) (bytes_behind 10 body each) (rw (length-drop 10 body) (omega (arith, size))) in
    ap (λ (bs : List ℕ). pair_bytes (little_number 2 body, little_number 8 (drop 2 body)) ++ bs) rest
    ∙ numbers_again body each (omega (arith, size))

found_answer_at : (tag status other count : ℕ) (body : List ℕ) (m : Msg) → AreBytes body → 6 ≤ length body → status ≡ slice_index body 0
    → other ≡ little_number 4 (drop 1 body) → count ≡ slice_index body 5 → read.answer_at tag status other count body ≡ Some m → BodyOf 7 tag body m
found_answer_at tag status other count body m each long status_is other_is count_is is =
    let stats : List (ℕ × ℕ) = read.pairs_read count (drop 6 body) in
    let found = when (is_answer status other count && (length body == 6 + 10 * count)) (Some (msg.Answer tag status other stats)) m is in
    let tests = both (is_answer status other count) (length body == 6 + 10 * count) found.0 in
    let size = same (length body) (6 + 10 * count) tests.1 in
    let pairs : flat_map pair_bytes stats ≡ drop 6 body =
    pairs_again count (drop 6 body) (bytes_behind 6 body each) (rw (length-drop 6 body) (omega (arith, size))) in
    let counted : length stats ∷ flat_map pair_bytes stats ≡ drop 4 (drop 1 body) =
    ap (λ (n : ℕ). n ∷ flat_map pair_bytes stats) (pairs_count count (drop 6 body) ∙ count_is)
    ∙ ap (λ (bs : List ℕ). slice_index body 5 ∷ bs) pairs ∙ byte_again 5 body (omega (arith, long)) ∙ sym (drop-drop 4 1 body) in
    let behind : little_bytes 4 other ++ (length stats ∷ flat_map pair_bytes stats) ≡ drop 1 body =
    ap (λ (n : ℕ). little_bytes 4 n ++ (length stats ∷ flat_map pair_bytes stats)) other_is
    ∙ ap (λ (bs : List ℕ). little_bytes 4 (little_number 4 (drop 1 body)) ++ bs) counted
    ∙ front_again 4 (drop 1 body) (bytes_behind 1 body each) (rw (length-drop 1 body) (omega (arith, long))) in
    known 7 tag body (msg.Answer tag status other stats) m (record {
      parts_are = ap (parts 7 tag)
          (ap (λ (n : ℕ). n ∷ (little_bytes 4 other ++ (length stats ∷ flat_map pair_bytes stats))) status_is
          ∙ ap (λ (bs : List ℕ). slice_index body 0 ∷ bs) behind ∙ byte_again 0 body (omega (arith, long)));
      legal = rw (pairs_count count (drop 6 body)) tests.0;
      fits = (
        rw status_is (each 0),
        rw other_is (number_fits 4 (drop 1 body) (bytes_behind 1 body each)),
        pairs_fit count (drop 6 body) (bytes_behind 6 body each),
      );
    }) found.1

found_answer : (tag : ℕ) (body : List ℕ) (m : Msg) → AreBytes body → read.answer_read tag body ≡ Some m → BodyOf 7 tag body m
found_answer tag body m each is =
    let found = unless (ltb (length body) 6) _ m is in
    let long : 6 ≤ length body = grind (arith, nat_tests, found.0) in
    found_answer_at tag (slice_index body 0) (little_number 4 (drop 1 body)) (slice_index body 5) body m each long refl refl refl found.1

found_release_of : (tag page byte : ℕ) (hold : Bool) (body : List ℕ) (m : Msg) → AreBytes body → length body ≡ 5 → page ≡ little_number 4 body
    → bool_byte hold ≡ slice_index body 4 → Some (msg.Release tag page hold) ≡ Some m → BodyOf 11 tag body m
found_release_of tag page byte hold body m each size page_is byte_is is =
    let none : drop 5 body ≡ [] = drop_all 5 body (omega (arith, size)) in
    let last : bool_byte hold ∷ [] ≡ drop 4 body =
    ap (λ (n : ℕ). n ∷ []) byte_is ∙ ap (λ (bs : List ℕ). slice_index body 4 ∷ bs) (sym none) ∙ byte_again 4 body (omega (arith, size)) in
    known 11 tag body (msg.Release tag page hold) m (record {
      parts_are = ap (parts 11 tag)
          (ap (λ (n : ℕ). little_bytes 4 n ++ (bool_byte hold ∷ [])) page_is
          ∙ ap (λ (bs : List ℕ). little_bytes 4 (little_number 4 body) ++ bs) last ∙ front_again 4 body each (omega (arith, size)));
      legal = tt;
      fits = rw page_is (number_fits 4 body each);
    }) is

found_release : (tag : ℕ) (body : List ℕ) (m : Msg) → AreBytes body → read.release_read tag body ≡ Some m → BodyOf 11 tag body m
found_release tag body m each is =
    let page : ℕ = little_number 4 body in
    let hold : ℕ = slice_index body 4 in
    let found = when (length body == 5) _ m is in
    let size = same (length body) 5 found.0 in
    cases (hold == 0) (Some (msg.Release tag page false)) _ m (λ e f. found_release_of tag page hold false body m each size refl (sym (same hold 0 e)) f)
    (λ _ other. let last = when (hold == 1) (Some (msg.Release tag page true)) m other in
    found_release_of tag page hold true body m each size refl (sym (same hold 1 last.0)) last.1) found.1

-- the messages without a body
found_bare_of : (kind code tag : ℕ) (body : List ℕ) (n m : Msg) → body ≡ [] → (kind == code) ≡ true → BodyOf code tag [] n → Some n ≡ Some m
    → BodyOf kind tag body m
found_bare_of kind code tag body n m none is bare found =
    let now = known code tag [] n m bare found in
    record {
      parts_are = now.parts_are ∙ ap (λ (k : ℕ). parts k tag []) (sym (same kind code is)) ∙ ap (parts kind tag) (sym none);
      legal = now.legal;
      fits = now.fits;
    }

found_bare : (kind tag : ℕ) (body : List ℕ) (m : Msg) → read.bare_read kind tag body ≡ Some m → BodyOf kind tag body m
found_bare kind tag body m is =
    let found = when (length body == 0) _ m is in
    let size = same (length body) 0 found.0 in
    let none : body ≡ [] = drop_all 0 body (omega (arith, size)) in
    cases (kind == 5) _ _ m (λ e. found_bare_of kind 5 tag body (msg.Stats tag) m none e (record { parts_are = refl; legal = tt; fits = tt }))
    (λ _ at_13. cases (kind == 13) _ _ m (λ e. found_bare_of kind 13 tag body (msg.MemDone tag) m none e (record { parts_are = refl; legal = tt; fits = tt }))
    (λ _ at_14. cases (kind == 14) _ _ m (λ e. found_bare_of kind 14 tag body (msg.MemRefused tag) m none e (record { parts_are = refl; legal = tt; fits = tt }))
    (λ _ at_15. cases (kind == 15) _ _ m (λ e. found_bare_of kind 15 tag body (msg.Raise tag) m none e (record { parts_are = refl; legal = tt; fits = tt }))
    (λ _ at_16. cases (kind == 16) _ _ m (λ e. found_bare_of kind 16 tag body (msg.IrqDone tag) m none e (record { parts_are = refl; legal = tt; fits = tt }))
    (λ _ at_17. let last = when (kind == 17) _ m at_17 in
    found_bare_of kind 17 tag body (msg.IrqRefused tag) m none last.0 (record { parts_are = refl; legal = tt; fits = tt }) last.1)
    at_16) at_15) at_14) at_13) found.1

-- one kind, or one of those behind it
at_kind : (kind code tag : ℕ) (body : List ℕ) (m : Msg) (x y : Option Msg) → (x ≡ Some m → BodyOf code tag body m) → (y ≡ Some m → BodyOf kind tag body m)
    → cond (kind == code) x y ≡ Some m → BodyOf kind tag body m
at_kind kind code tag body m x y here other is =
    cases (kind == code) x y m (λ e f. subst (λ (k : ℕ). BodyOf k tag body m) (sym (same kind code e)) (here f)) (λ _ f. other f) is

found_body : (kind tag : ℕ) (body : List ℕ) (m : Msg) → AreBytes body → read.body_read kind tag body ≡ Some m → BodyOf kind tag body m
unfolding read.body_read
found_body kind tag body m each =
    at_kind kind 1 tag body m _ _ (found_load tag body m each)
    (at_kind kind 2 tag body m _ _ (found_store tag body m each)
    (at_kind kind 3 tag body m _ _ (found_value tag body m each)
    (at_kind kind 4 tag body m _ _ (found_target tag body m each)
    (at_kind kind 6 tag body m _ _ (found_resize tag body m each)
    (at_kind kind 7 tag body m _ _ (found_answer tag body m each)
    (at_kind kind 8 tag body m _ _ (found_read tag body m each)
    (at_kind kind 9 tag body m _ _ (found_bytes tag body m each)
    (at_kind kind 10 tag body m _ _ (found_write tag body m each)
    (at_kind kind 11 tag body m _ _ (found_release tag body m each)
    (at_kind kind 12 tag body m _ _ (found_regain tag body m each)
    (found_bare kind tag body m)))))))))))

-- bytes of the right number are their parts together
parts_again : (bytes : List ℕ) → AreBytes bytes → 7 ≤ length bytes → little_number 2 bytes + 2 ≡ length bytes
    → joined (parts (slice_index bytes 2) (little_number 4 (drop 3 bytes)) (drop 7 bytes)) ≡ bytes
parts_again bytes each long size =
    let count : 5 + length (drop 7 bytes) ≡ little_number 2 bytes = rw (length-drop 7 bytes) (omega (arith, long, size)) in
    let tag : little_bytes 4 (little_number 4 (drop 3 bytes)) ++ drop 7 bytes ≡ drop 3 bytes =
    ap (λ (bs : List ℕ). little_bytes 4 (little_number 4 (drop 3 bytes)) ++ bs) (sym (drop-drop 4 3 bytes))
    ∙ front_again 4 (drop 3 bytes) (bytes_behind 3 bytes each) (rw (length-drop 3 bytes) (omega (arith, long))) in
    ap (λ (n : ℕ). little_bytes 2 n ++ (slice_index bytes 2 ∷ (little_bytes 4 (little_number 4 (drop 3 bytes)) ++ drop 7 bytes))) count
    ∙ ap (λ (bs : List ℕ). little_bytes 2 (little_number 2 bytes) ++ (slice_index bytes 2 ∷ bs)) tag
    ∙ ap (λ (bs : List ℕ). little_bytes 2 (little_number 2 bytes) ++ bs) (byte_again 2 bytes (omega (arith, long)))
    ∙ front_again 2 bytes each (omega (arith, long))

pub spells_found : (bytes : List ℕ) (m : Msg) → AreBytes bytes → read.reading bytes ≡ Some m → SpellsMessage bytes m
unfolding message_bytes
spells_found bytes m each is =
    let kind : ℕ = slice_index bytes 2 in
    let tag : ℕ = little_number 4 (drop 3 bytes) in
    let found = unless (ltb (length bytes) 7) _ m is in
    let long : 7 ≤ length bytes = grind (arith, nat_tests, found.0) in
    let whole = when (little_number 2 bytes + 2 == length bytes) (read.body_read kind tag (drop 7 bytes)) m found.1 in
    let body = found_body kind tag (drop 7 bytes) m (bytes_behind 7 bytes each) whole.1 in
    record {
      legal = body.legal;
      tag = rw (ap (λ (p : Parts). p.tag) body.parts_are) (number_fits 4 (drop 3 bytes) (bytes_behind 3 bytes each));
      body = body.fits;
      spelt = sym (ap joined body.parts_are ∙ parts_again bytes each long (same (little_number 2 bytes + 2) (length bytes) whole.0));
    }

pub found_is : (bytes : List ℕ) (read_as : Option Msg) → AreBytes bytes → read_as ≡ read.reading bytes → IfSome read_as (λ m. SpellsMessage bytes m)
found_is bytes None each is = tt
found_is bytes (Some m) each is = spells_found bytes m each (sym is)

pub none_is : (bytes : List ℕ) (read_as : Option Msg) → read_as ≡ read.reading bytes → IfNone read_as ((m : Msg) → SpellsMessage bytes m → ⊥)
none_is bytes None is = λ m spells. none-some m (is ∙ reads_back bytes m spells)
none_is bytes (Some n) is = tt

-- the first two bytes tell how many there are
size_told : (bytes : List ℕ) (m : Msg) → SpellsMessage bytes m → (7 ≤ length bytes) × (little_number 2 bytes + 2 ≡ length bytes)
size_told bytes m spells =
    let found = unless (ltb (length bytes) 7) _ m (reads_back bytes m spells) in
    let whole = when (little_number 2 bytes + 2 == length bytes) (read.body_read (slice_index bytes 2) (little_number 4 (drop 3 bytes)) (drop 7 bytes)) m found.1 in
    (grind (arith, nat_tests, found.0), same (little_number 2 bytes + 2) (length bytes) whole.0)

pub nothing_behind : (first second rest : List ℕ) (m n : Msg) → SpellsMessage first m → SpellsMessage second n → second ≡ first ++ rest → rest ≡ []
nothing_behind first second rest m n one other behind =
    let size = size_told first m one in
    let whole = size_told second n other in
    let number : little_number 2 second ≡ little_number 2 first = ap (little_number 2) behind ∙ little_from-append 2 first rest (omega (arith, size.0)) in
    let long : length second ≡ length first + length rest = ap length behind ∙ length-append first rest in
    drop_all 0 rest (omega (arith, number, long, size.1, whole.1))
