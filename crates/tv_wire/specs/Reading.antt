-- The message that bytes spell: from the bytes to the message, where `Spelling` goes from the message to its bytes.
use Rattle.std.specs.Prelude.{◌==◌, ◌&&◌, ℕ, zero, suc, ◌+◌, ◌*◌, nat_le, nat_lt, true, false, if◌then◌else◌, List, [], ◌∷◌, length, drop, slice_index, Option, Some, None}
use Rattle.byteorder.specs.Endian.{little_number}
use Rattle.tv_base.specs.declared.Width.{Width}
use Rattle.tv_base.specs.declared.Width.TheVariants.{B1, B2, B4, B8}
use Rattle.tv_base.specs.declared.limits.TheConstants.{PIECE_BYTES}
use Rattle.tv_wire.specs.declared.Msg.{Msg}
use Rattle.tv_wire.specs.declared.Msg.TheVariants as msg
use Rattle.tv_wire.specs.Spelling.{is_place, is_value, is_resize, is_answer, is_piece}

-- the width of so many bytes
abbrev pub width_read : ℕ → Option Width
width_read n = if n == 1 then Some B1 else if n == 2 then Some B2 else if n == 4 then Some B4 else if n == 8 then Some B8 else None

abbrev pub load_at : ℕ → Option Width → ℕ → Option Msg
load_at tag None off = None
load_at tag (Some width) off = if is_place width off then Some (msg.Load tag width off) else None

abbrev pub load_read : ℕ → List ℕ → Option Msg
load_read tag body =
    if length body == 3 then load_at tag (width_read (slice_index body 0)) (little_number 2 (drop 1 body)) else None

abbrev pub store_at : ℕ → Option Width → ℕ → ℕ → Option Msg
store_at tag None off value = None
store_at tag (Some width) off value = if is_place width off && is_value width value then Some (msg.Store tag width off value) else None

abbrev pub store_read : ℕ → List ℕ → Option Msg
store_read tag body =
    if length body == 11
    then store_at tag (width_read (slice_index body 0)) (little_number 2 (drop 1 body)) (little_number 8 (drop 3 body))
    else None

abbrev pub value_read : ℕ → List ℕ → Option Msg
value_read tag body = if length body == 8 then Some (msg.Value tag (little_number 8 body)) else None

abbrev pub target_read : ℕ → List ℕ → Option Msg
target_read tag body = if length body == 4 then Some (msg.Target tag (little_number 4 body)) else None

abbrev pub resize_read : ℕ → List ℕ → Option Msg
resize_read tag body =
    if length body == 4 && is_resize (little_number 4 body) then Some (msg.Resize tag (little_number 4 body)) else None

-- so many tags with their numbers
abbrev pub pairs_read : ℕ → List ℕ → List (ℕ × ℕ)
pairs_read zero body = []
pairs_read (suc n) body = (little_number 2 body, little_number 8 (drop 2 body)) ∷ pairs_read n (drop 10 body)

abbrev pub answer_at : ℕ → ℕ → ℕ → ℕ → List ℕ → Option Msg
answer_at tag status other count body =
    if is_answer status other count && length body == 6 + 10 * count
    then Some (msg.Answer tag status other (pairs_read count (drop 6 body))) else None

abbrev pub answer_read : ℕ → List ℕ → Option Msg
answer_read tag body =
    if nat_lt (length body) 6 then None
    else answer_at tag (slice_index body 0) (little_number 4 (drop 1 body)) (slice_index body 5) body

abbrev pub read_read : ℕ → List ℕ → Option Msg
read_read tag body =
    if length body == 10 && is_piece (little_number 2 (drop 8 body))
    then Some (msg.Read tag (little_number 8 body) (little_number 2 (drop 8 body))) else None

-- a length from 1 to 4096, and then so many bytes
abbrev pub piece_read : List ℕ → Option (List ℕ)
piece_read body =
    if nat_le 3 (length body) && nat_le (length body) (PIECE_BYTES + 2) && little_number 2 body + 2 == length body
    then Some (drop 2 body) else None

abbrev pub bytes_of : ℕ → Option (List ℕ) → Option Msg
bytes_of tag None = None
bytes_of tag (Some bytes) = Some (msg.Bytes tag bytes)

abbrev pub bytes_read : ℕ → List ℕ → Option Msg
bytes_read tag body = bytes_of tag (piece_read body)

abbrev pub write_of : ℕ → ℕ → Option (List ℕ) → Option Msg
write_of tag addr None = None
write_of tag addr (Some bytes) = Some (msg.Write tag addr bytes)

abbrev pub write_read : ℕ → List ℕ → Option Msg
write_read tag body =
    if nat_lt (length body) 8 then None else write_of tag (little_number 8 body) (piece_read (drop 8 body))

abbrev pub release_at : ℕ → ℕ → ℕ → Option Msg
release_at tag page hold =
    if hold == 0 then Some (msg.Release tag page false) else if hold == 1 then Some (msg.Release tag page true) else None

abbrev pub release_read : ℕ → List ℕ → Option Msg
release_read tag body =
    if length body == 5 then release_at tag (little_number 4 body) (slice_index body 4) else None

abbrev pub regain_read : ℕ → List ℕ → Option Msg
regain_read tag body = if length body == 4 then Some (msg.Regain tag (little_number 4 body)) else None

-- the messages without a body
abbrev pub bare_of : ℕ → ℕ → Option Msg
bare_of kind tag =
    if kind == 5 then Some (msg.Stats tag)
    else if kind == 13 then Some (msg.MemDone tag)
    else if kind == 14 then Some (msg.MemRefused tag)
    else if kind == 15 then Some (msg.Raise tag)
    else if kind == 16 then Some (msg.IrqDone tag)
    else if kind == 17 then Some (msg.IrqRefused tag)
    else None

abbrev pub bare_read : ℕ → ℕ → List ℕ → Option Msg
bare_read kind tag body = if length body == 0 then bare_of kind tag else None

-- the message of a kind that a body spells
unfoldable pub body_read : ℕ → ℕ → List ℕ → Option Msg
body_read kind tag body =
    if kind == 1 then load_read tag body
    else if kind == 2 then store_read tag body
    else if kind == 3 then value_read tag body
    else if kind == 4 then target_read tag body
    else if kind == 6 then resize_read tag body
    else if kind == 7 then answer_read tag body
    else if kind == 8 then read_read tag body
    else if kind == 9 then bytes_read tag body
    else if kind == 10 then write_read tag body
    else if kind == 11 then release_read tag body
    else if kind == 12 then regain_read tag body
    else bare_read kind tag body

abbrev pub reading : List ℕ → Option Msg
reading bytes =
    if nat_lt (length bytes) 7 then None
    else if little_number 2 bytes + 2 == length bytes
    then body_read (slice_index bytes 2) (little_number 4 (drop 3 bytes)) (drop 7 bytes)
    else None
