-- A message's bytes, put together and read again.
use Rattle.std.proofs.Common.{◌≡◌, ◌∙◌, ℕ, ◌+◌, ◌^◌, ◌<◌, ◌≤◌, List, [], ◌∷◌, ◌++◌, Some, true, length, drop, take, ap, sym, arith, append-nil}
use Rattle.std.proofs.lemmas.Bool.Decides.{nat_tests}
use Rattle.std.proofs.lemmas.List.{take_all, drop_at, drop_all, drop-drop, length-drop, length-take, append_assoc}
use Rattle.byteorder.specs.Endian.{little_bytes}
use borrow.Rule.Slice.PartMut.{post_of, mid_of}
use Rattle.tv_wire.specs.declared.Msg.{Msg}
use Rattle.tv_wire.specs.declared.Msg.TheVariants as msg
use Rattle.tv_wire.specs.Reading.{reading}
use Rattle.tv_wire.specs.Spelling.{message_bytes, parts_of, is_answer, is_piece, IsMessage, FitsBody, SpellsMessage}
use Rattle.tv_wire.proofs.Written.{size_is}
use Rattle.tv_wire.proofs.Again.{by_parts, again_value, again_target, again_regain, again_resize, again_read, again_load, again_release, again_store, again_bytes, again_write, again_stats, again_mem_done, again_mem_refused, again_raise, again_irq_done, again_irq_refused, again_answer}

-- a body that was written behind seven bytes
behind : (out head body part : List ℕ) (n : ℕ) → length out ≡ 4160 → part ≡ body ++ drop n (mid_of 7 4153 out)
    → head ++ drop 7 (take 7 out ++ (part ++ post_of 7 4153 out)) ≡ (head ++ body) ++ drop (7 + n) out
behind out head body part n size part_is =
    let all : mid_of 7 4153 out ≡ drop 7 out = take_all 4153 (drop 7 out) (rw (length-drop 7 out) (omega (arith, size))) in
    let none : post_of 7 4153 out ≡ [] = drop_all 4153 (drop 7 out) (rw (length-drop 7 out) (omega (arith, size))) in
    let seven : length (take 7 out) ≡ 7 = omega (arith, size, length-take 7 out) in
    let now : part ≡ body ++ drop (7 + n) out = part_is ∙ ap (λ (bs : List ℕ). body ++ drop n bs) all ∙ ap (λ (bs : List ℕ). body ++ bs) (drop-drop n 7 out) in
    ap (λ (bs : List ℕ). head ++ bs) (drop_at (take 7 out) (part ++ post_of 7 4153 out) 7 seven)
    ∙ ap (λ (bs : List ℕ). head ++ (part ++ bs)) none
    ∙ ap (λ (bs : List ℕ). head ++ bs) (append-nil part ∙ now)
    ∙ sym (append_assoc head body (drop (7 + n) out))

-- what is written for a message
pub written_is : (m : Msg) (out part new : List ℕ) (n kind tag : ℕ) → length out ≡ 4160 → n ≡ length (parts_of m).body
    → kind ≡ (parts_of m).kind → tag ≡ (parts_of m).tag → part ≡ (parts_of m).body ++ drop n (mid_of 7 4153 out)
    → new ≡ (little_bytes 2 (5 + n) ++ (kind ∷ little_bytes 4 tag)) ++ drop 7 (take 7 out ++ (part ++ post_of 7 4153 out))
    → new ≡ message_bytes m ++ drop (7 + n) out
unfolding message_bytes
written_is m out part new n kind tag size n_is kind_is tag_is part_is new_is =
    new_is ∙ behind out (little_bytes 2 (5 + n) ++ (kind ∷ little_bytes 4 tag)) (parts_of m).body part n size part_is
    ∙ ap (λ (bs : List ℕ). (bs ++ (parts_of m).body) ++ drop (7 + n) out)
    (ap (λ (k : ℕ). little_bytes 2 (5 + k) ++ (kind ∷ little_bytes 4 tag)) n_is
    ∙ ap (λ (k : ℕ). little_bytes 2 (5 + length (parts_of m).body) ++ (k ∷ little_bytes 4 tag)) kind_is
    ∙ ap (λ (k : ℕ). little_bytes 2 (5 + length (parts_of m).body) ++ ((parts_of m).kind ∷ little_bytes 4 k)) tag_is)

pub length_is : (m : Msg) → length (message_bytes m) ≡ 7 + length (parts_of m).body
unfolding message_bytes
length_is m = omega arith

pub piece_is : (n : ℕ) → is_piece n ≡ true → (1 ≤ n) × (n ≤ 4096)
piece_is n is = (grind (arith, nat_tests, is), grind (arith, nat_tests, is))

pub answer_is : (status other count : ℕ) → is_answer status other count ≡ true → count ≤ 32
answer_is status other count is = grind (arith, nat_tests, is)

-- a message is read from its bytes
pub again : (m : Msg) → IsMessage m → (parts_of m).tag < 2 ^ 32 → FitsBody m → reading (message_bytes m) ≡ Some m
unfolding message_bytes
again (msg.Load tag width off) legal fits body = by_parts 1 tag (parts_of (msg.Load tag width off)).body (omega arith) fits ∙ again_load tag off width body legal
again (msg.Store tag width off value) legal fits body =
    by_parts 2 tag (parts_of (msg.Store tag width off value)).body (omega arith) fits ∙ again_store tag off value width body.0 body.1 legal
again (msg.Value tag value) legal fits body = by_parts 3 tag (little_bytes 8 value) (omega arith) fits ∙ again_value tag value body
again (msg.Target tag pages) legal fits body = by_parts 4 tag (little_bytes 4 pages) (omega arith) fits ∙ again_target tag pages body
again (msg.Stats tag) legal fits body = by_parts 5 tag [] (omega arith) fits ∙ again_stats tag
again (msg.Resize tag sectors) legal fits body = by_parts 6 tag (little_bytes 4 sectors) (omega arith) fits ∙ again_resize tag sectors body legal
again (msg.Answer tag status other stats) legal fits body =
    let few : length stats ≤ 32 = answer_is status other (length stats) legal in
    by_parts 7 tag (parts_of (msg.Answer tag status other stats)).body (omega (arith, few, size_is stats)) fits
    ∙ again_answer tag status other stats body.1 body.2 legal
again (msg.Read tag addr len) legal fits body =
    by_parts 8 tag (little_bytes 8 addr ++ little_bytes 2 len) (omega arith) fits ∙ again_read tag addr len body.0 body.1 legal
again (msg.Bytes tag bytes) legal fits body =
    let is = piece_is (length bytes) legal in
    by_parts 9 tag (parts_of (msg.Bytes tag bytes)).body (omega (arith, is.1)) fits ∙ again_bytes tag bytes is.0 is.1
again (msg.Write tag addr bytes) legal fits body =
    let is = piece_is (length bytes) legal in
    by_parts 10 tag (parts_of (msg.Write tag addr bytes)).body (omega (arith, is.1)) fits ∙ again_write tag addr bytes body is.0 is.1
again (msg.Release tag page hold) legal fits body =
    by_parts 11 tag (parts_of (msg.Release tag page hold)).body (omega arith) fits ∙ again_release tag page hold body
again (msg.Regain tag page) legal fits body = by_parts 12 tag (little_bytes 4 page) (omega arith) fits ∙ again_regain tag page body
again (msg.MemDone tag) legal fits body = by_parts 13 tag [] (omega arith) fits ∙ again_mem_done tag
again (msg.MemRefused tag) legal fits body = by_parts 14 tag [] (omega arith) fits ∙ again_mem_refused tag
again (msg.Raise tag) legal fits body = by_parts 15 tag [] (omega arith) fits ∙ again_raise tag
again (msg.IrqDone tag) legal fits body = by_parts 16 tag [] (omega arith) fits ∙ again_irq_done tag
again (msg.IrqRefused tag) legal fits body = by_parts 17 tag [] (omega arith) fits ∙ again_irq_refused tag

pub reads_back : (bytes : List ℕ) (m : Msg) → SpellsMessage bytes m → reading bytes ≡ Some m
reads_back bytes m spells = ap reading spells.spelt ∙ again m spells.legal spells.tag spells.body
