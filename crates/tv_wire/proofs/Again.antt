-- What is read of a message's spelling is that message.
use Rattle.std.proofs.Common.{◌≡◌, ◌∙◌, ◌==◌, ◌&&◌, ℕ, ◌+◌, ◌*◌, ◌^◌, ◌<◌, ◌≤◌, List, [], ◌∷◌, ◌++◌, Some, Bool, true, false, length, flat_map, drop, slice_index, refl, ap, arith}
use Rattle.std.proofs.lemmas.Bool.{le-ltb, le-leb}
use Rattle.std.proofs.lemmas.Bool.Decides.{nat_tests}
use Rattle.byteorder.specs.Endian.{little_bytes, little_number}
use Rattle.byteorder.specs.Numbers.{little_number-reads_back}
use Rattle.tv_wire.specs.declared.Msg.TheVariants as msg
use Rattle.tv_wire.specs.Reading.{reading, body_read, width_read, piece_read, bytes_of, write_of, write_read, answer_read, pairs_read}
use Rattle.tv_wire.specs.Spelling.{joined, parts, bool_byte, piece_bytes, pair_bytes, is_place, is_value, is_resize, is_answer, is_piece, FitPairs}
use Rattle.tv_wire.proofs.Written.{size_is}
use Rattle.tv_base.specs.declared.Width.{Width}
use Rattle.tv_base.specs.declared.Width.TheVariants.{B1, B2, B4, B8}
use Rattle.tv_base.specs.Width.{width_bytes}

same_number : (n m : ℕ) → n ≡ m → (n == m) ≡ true
same_number n m same = grind (arith, nat_tests, same)

-- bytes of the right number are read by their kind, their tag and their body
reading_is : (bytes : List ℕ) → 7 ≤ length bytes → little_number 2 bytes + 2 ≡ length bytes
    → reading bytes ≡ body_read (slice_index bytes 2) (little_number 4 (drop 3 bytes)) (drop 7 bytes)
reading_is bytes long same = rw (le-ltb (length bytes) 7 long, same_number (little_number 2 bytes + 2) (length bytes) same) refl

-- joined parts are read as these parts
pub by_parts : (kind tag : ℕ) (body : List ℕ) → length body < 65531 → tag < 256 ^ 4
    → reading (joined (parts kind tag body)) ≡ body_read kind tag body
by_parts kind tag body few fits =
    let bytes = joined (parts kind tag body) in
    let size : little_number 2 bytes ≡ 5 + length body = little_number-reads_back 2 (5 + length body) (kind ∷ (little_bytes 4 tag ++ body)) (omega (arith, few)) in
    let tag_is : little_number 4 (little_bytes 4 tag ++ body) ≡ tag = little_number-reads_back 4 tag body fits in
    reading_is bytes (omega arith) (omega (arith, size)) ∙ ap (λ (t : ℕ). body_read kind t body) tag_is

pub again_value : (tag value : ℕ) → value < 256 ^ 8 → body_read 3 tag (little_bytes 8 value) ≡ Some (msg.Value tag value)
unfolding body_read
again_value tag value fits = ap (λ (v : ℕ). Some (msg.Value tag v)) (little_number-reads_back 8 value [] fits)

pub again_target : (tag pages : ℕ) → pages < 256 ^ 4 → body_read 4 tag (little_bytes 4 pages) ≡ Some (msg.Target tag pages)
unfolding body_read
again_target tag pages fits = ap (λ (n : ℕ). Some (msg.Target tag n)) (little_number-reads_back 4 pages [] fits)

pub again_regain : (tag page : ℕ) → page < 256 ^ 4 → body_read 12 tag (little_bytes 4 page) ≡ Some (msg.Regain tag page)
unfolding body_read
again_regain tag page fits = ap (λ (n : ℕ). Some (msg.Regain tag n)) (little_number-reads_back 4 page [] fits)

pub again_resize : (tag sectors : ℕ) → sectors < 256 ^ 4 → is_resize sectors ≡ true
    → body_read 6 tag (little_bytes 4 sectors) ≡ Some (msg.Resize tag sectors)
unfolding body_read
again_resize tag sectors fits is = rw (little_number-reads_back 4 sectors [] fits, is) refl

pub again_read : (tag addr len : ℕ) → addr < 256 ^ 8 → len < 256 ^ 2 → is_piece len ≡ true
    → body_read 8 tag (little_bytes 8 addr ++ little_bytes 2 len) ≡ Some (msg.Read tag addr len)
unfolding body_read
again_read tag addr len addr_fits len_fits is =
    rw (little_number-reads_back 8 addr (little_bytes 2 len) addr_fits, little_number-reads_back 2 len [] len_fits, is) refl

again_width : (width : Width) → width_read (width_bytes width) ≡ Some width
again_width B1 = refl
again_width B2 = refl
again_width B4 = refl
again_width B8 = refl

pub again_load : (tag off : ℕ) (width : Width) → off < 256 ^ 2 → is_place width off ≡ true
    → body_read 1 tag (width_bytes width ∷ little_bytes 2 off) ≡ Some (msg.Load tag width off)
unfolding body_read
again_load tag off width fits is = rw (again_width width, little_number-reads_back 2 off [] fits, is) refl

pub again_release : (tag page : ℕ) (hold : Bool) → page < 256 ^ 4
    → body_read 11 tag (little_bytes 4 page ++ (bool_byte hold ∷ [])) ≡ Some (msg.Release tag page hold)
unfolding body_read
again_release tag page true fits = ap (λ (n : ℕ). Some (msg.Release tag n true)) (little_number-reads_back 4 page (1 ∷ []) fits)
again_release tag page false fits = ap (λ (n : ℕ). Some (msg.Release tag n false)) (little_number-reads_back 4 page (0 ∷ []) fits)

pub again_store : (tag off value : ℕ) (width : Width) → off < 256 ^ 2 → value < 256 ^ 8 → (is_place width off && is_value width value) ≡ true
    → body_read 2 tag (width_bytes width ∷ (little_bytes 2 off ++ little_bytes 8 value)) ≡ Some (msg.Store tag width off value)
unfolding body_read
again_store tag off value width off_fits value_fits is =
    rw (again_width width, little_number-reads_back 2 off (little_bytes 8 value) off_fits, little_number-reads_back 8 value [] value_fits, is) refl

piece_when : (body : List ℕ) → 3 ≤ length body → length body ≤ 4098 → little_number 2 body + 2 ≡ length body
    → piece_read body ≡ Some (drop 2 body)
piece_when body some few same =
    rw (le-leb 3 (length body) some, le-leb (length body) 4098 few, same_number (little_number 2 body + 2) (length body) same) refl

again_piece : (bytes : List ℕ) → 1 ≤ length bytes → length bytes ≤ 4096 → piece_read (piece_bytes bytes) ≡ Some bytes
again_piece bytes some few =
    let size : little_number 2 (piece_bytes bytes) ≡ length bytes = little_number-reads_back 2 (length bytes) bytes (omega (arith, few)) in
    piece_when (piece_bytes bytes) (omega (arith, some)) (omega (arith, few)) (omega (arith, size))

pub again_bytes : (tag : ℕ) (bytes : List ℕ) → 1 ≤ length bytes → length bytes ≤ 4096
    → body_read 9 tag (piece_bytes bytes) ≡ Some (msg.Bytes tag bytes)
unfolding body_read
again_bytes tag bytes some few = ap (bytes_of tag) (again_piece bytes some few)

write_when : (tag addr : ℕ) (body : List ℕ) → 8 ≤ length body → little_number 8 body ≡ addr
    → write_read tag body ≡ write_of tag addr (piece_read (drop 8 body))
write_when tag addr body long same = rw (le-ltb (length body) 8 long, same) refl

pub again_write : (tag addr : ℕ) (bytes : List ℕ) → addr < 256 ^ 8 → 1 ≤ length bytes → length bytes ≤ 4096
    → body_read 10 tag (little_bytes 8 addr ++ piece_bytes bytes) ≡ Some (msg.Write tag addr bytes)
unfolding body_read
again_write tag addr bytes fits some few =
    write_when tag addr (little_bytes 8 addr ++ piece_bytes bytes) (omega arith) (little_number-reads_back 8 addr (piece_bytes bytes) fits)
    ∙ ap (write_of tag addr) (again_piece bytes some few)

pub again_stats : (tag : ℕ) → body_read 5 tag [] ≡ Some (msg.Stats tag)
unfolding body_read
again_stats tag = refl

pub again_mem_done : (tag : ℕ) → body_read 13 tag [] ≡ Some (msg.MemDone tag)
unfolding body_read
again_mem_done tag = refl

pub again_mem_refused : (tag : ℕ) → body_read 14 tag [] ≡ Some (msg.MemRefused tag)
unfolding body_read
again_mem_refused tag = refl

pub again_raise : (tag : ℕ) → body_read 15 tag [] ≡ Some (msg.Raise tag)
unfolding body_read
again_raise tag = refl

pub again_irq_done : (tag : ℕ) → body_read 16 tag [] ≡ Some (msg.IrqDone tag)
unfolding body_read
again_irq_done tag = refl

pub again_irq_refused : (tag : ℕ) → body_read 17 tag [] ≡ Some (msg.IrqRefused tag)
unfolding body_read
again_irq_refused tag = refl

pub again_pairs : (pairs : List (ℕ × ℕ)) → FitPairs pairs → pairs_read (length pairs) (flat_map pair_bytes pairs) ≡ pairs
again_pairs [] fit = refl
again_pairs (p ∷ pairs) fit =
    rw (little_number-reads_back 2 p.0 (little_bytes 8 p.1 ++ flat_map pair_bytes pairs) fit.0, little_number-reads_back 8 p.1 (flat_map pair_bytes pairs) fit.1)
    (ap (λ (ps : List (ℕ × ℕ)). p ∷ ps) (again_pairs pairs fit.2))

answer_when : (tag status other count : ℕ) (stats : List (ℕ × ℕ)) (body : List ℕ) → 6 ≤ length body → slice_index body 0 ≡ status
    → little_number 4 (drop 1 body) ≡ other → slice_index body 5 ≡ count → is_answer status other count ≡ true
    → length body ≡ 6 + 10 * count → pairs_read count (drop 6 body) ≡ stats → answer_read tag body ≡ Some (msg.Answer tag status other stats)
answer_when tag status other count stats body long status_is other_is count_is is size stats_is =
    rw (le-ltb (length body) 6 long, status_is, other_is, count_is, is, same_number (length body) (6 + 10 * count) size, stats_is) refl

pub again_answer : (tag status other : ℕ) (stats : List (ℕ × ℕ)) → other < 256 ^ 4 → FitPairs stats → is_answer status other (length stats) ≡ true
    → body_read 7 tag (status ∷ (little_bytes 4 other ++ (length stats ∷ flat_map pair_bytes stats))) ≡ Some (msg.Answer tag status other stats)
unfolding body_read
again_answer tag status other stats other_fits fits is =
    let rest : List ℕ = length stats ∷ flat_map pair_bytes stats in
    answer_when tag status other (length stats) stats (status ∷ (little_bytes 4 other ++ rest)) (omega arith) refl
    (little_number-reads_back 4 other rest other_fits) refl is (omega (arith, size_is stats)) (again_pairs stats fits)
