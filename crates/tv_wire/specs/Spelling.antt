-- The bytes of messages: `len u16, kind u8, tag u32, body`, where `len` counts the bytes after itself. All numbers are
-- little-endian.
use Rattle.std.specs.Prelude.{◌≡◌, ◌==◌, ◌&&◌, ◌||◌, IsTrue, ℕ, ◌+◌, ◌%◌, ◌^◌, ◌<◌, nat_le, nat_lt, Bool, true, false, if◌then◌else◌, List, [], ◌∷◌, ◌++◌, length, flat_map}
use Rattle.byteorder.specs.Endian.{little_bytes}
use Rattle.tv_base.specs.declared.Width.{Width}
use Rattle.tv_base.specs.Width.{width_bytes}
use Rattle.tv_base.specs.declared.limits.TheConstants.{DISK_SECTORS, PIECE_BYTES}
use Rattle.tv_items.specs.declared.stats.TheConstants.{STATS}
use Rattle.tv_wire.specs.declared.Msg.{Msg}
use Rattle.tv_wire.specs.declared.Msg.TheVariants as msg

-- a tag, and its number
abbrev pub pair_bytes : ℕ × ℕ → List ℕ
pair_bytes pair = little_bytes 2 pair.0 ++ little_bytes 8 pair.1

-- a length, and then so many bytes
abbrev pub piece_bytes : List ℕ → List ℕ
piece_bytes bytes = little_bytes 2 (length bytes) ++ bytes

abbrev pub bool_byte : Bool → ℕ
bool_byte true = 1
bool_byte false = 0

-- a message's kind, its tag and the bytes of its body
pub record Parts : Type 0 where
  pub kind : ℕ
  pub tag : ℕ
  pub body : List ℕ

abbrev pub parts : ℕ → ℕ → List ℕ → Parts
parts kind tag body = record { kind = kind; tag = tag; body = body }

abbrev pub parts_of : Msg → Parts
parts_of (msg.Load tag width off) = parts 1 tag (width_bytes width ∷ little_bytes 2 off)
parts_of (msg.Store tag width off value) = parts 2 tag (width_bytes width ∷ (little_bytes 2 off ++ little_bytes 8 value))
parts_of (msg.Value tag value) = parts 3 tag (little_bytes 8 value)
parts_of (msg.Target tag pages) = parts 4 tag (little_bytes 4 pages)
parts_of (msg.Stats tag) = parts 5 tag []
parts_of (msg.Resize tag sectors) = parts 6 tag (little_bytes 4 sectors)
parts_of (msg.Answer tag status other stats) = parts 7 tag (status ∷ (little_bytes 4 other ++ (length stats ∷ flat_map pair_bytes stats)))
parts_of (msg.Read tag addr len) = parts 8 tag (little_bytes 8 addr ++ little_bytes 2 len)
parts_of (msg.Bytes tag bytes) = parts 9 tag (piece_bytes bytes)
parts_of (msg.Write tag addr bytes) = parts 10 tag (little_bytes 8 addr ++ piece_bytes bytes)
parts_of (msg.Release tag page hold) = parts 11 tag (little_bytes 4 page ++ (bool_byte hold ∷ []))
parts_of (msg.Regain tag page) = parts 12 tag (little_bytes 4 page)
parts_of (msg.MemDone tag) = parts 13 tag []
parts_of (msg.MemRefused tag) = parts 14 tag []
parts_of (msg.Raise tag) = parts 15 tag []
parts_of (msg.IrqDone tag) = parts 16 tag []
parts_of (msg.IrqRefused tag) = parts 17 tag []

abbrev pub joined : Parts → List ℕ
joined p = little_bytes 2 (5 + length p.body) ++ (p.kind ∷ (little_bytes 4 p.tag ++ p.body))

unfoldable pub message_bytes : Msg → List ℕ
message_bytes m = joined (parts_of m)

-- an offset is a multiple of the width, and the access ends within a device's 4096 bytes
abbrev pub is_place : Width → ℕ → Bool
is_place width off = off % width_bytes width == 0 && nat_le (off + width_bytes width) 4096

-- the bits above the width are 0
abbrev pub is_value : Width → ℕ → Bool
is_value width value = nat_lt value (256 ^ width_bytes width)

abbrev pub is_resize : ℕ → Bool
is_resize sectors = nat_le 1 sectors && nat_le sectors DISK_SECTORS

-- a status, the tag of a request that waits, and how many numbers there are
abbrev pub is_answer : ℕ → ℕ → ℕ → Bool
is_answer status other count =
    if status == 0 then other == 0 && nat_le count STATS
    else if status == 6 then count == 0
    else (status == 5 || status == 7) && (other == 0 && count == 0)

abbrev pub is_piece : ℕ → Bool
is_piece len = nat_le 1 len && nat_le len PIECE_BYTES

-- what a message may say beyond the types of its parts
abbrev pub IsMessage : Msg → Type 0
IsMessage (msg.Load tag width off) = IsTrue (is_place width off)
IsMessage (msg.Store tag width off value) = IsTrue (is_place width off && is_value width value)
IsMessage (msg.Resize tag sectors) = IsTrue (is_resize sectors)
IsMessage (msg.Answer tag status other stats) = IsTrue (is_answer status other (length stats))
IsMessage (msg.Read tag addr len) = IsTrue (is_piece len)
IsMessage (msg.Bytes tag bytes) = IsTrue (is_piece (length bytes))
IsMessage (msg.Write tag addr bytes) = IsTrue (is_piece (length bytes))
IsMessage m = Unit {0}

abbrev pub FitPairs : List (ℕ × ℕ) → Type 0
FitPairs [] = Unit {0}
FitPairs (p ∷ pairs) = (p.0 < 2 ^ 16) × (p.1 < 2 ^ 64) × FitPairs pairs

-- what the types of its parts say, but for the tag
abbrev pub FitsBody : Msg → Type 0
FitsBody (msg.Load tag width off) = off < 2 ^ 16
FitsBody (msg.Store tag width off value) = (off < 2 ^ 16) × (value < 2 ^ 64)
FitsBody (msg.Value tag value) = value < 2 ^ 64
FitsBody (msg.Target tag pages) = pages < 2 ^ 32
FitsBody (msg.Resize tag sectors) = sectors < 2 ^ 32
FitsBody (msg.Answer tag status other stats) = (status < 2 ^ 8) × (other < 2 ^ 32) × FitPairs stats
FitsBody (msg.Read tag addr len) = (addr < 2 ^ 64) × (len < 2 ^ 16)
FitsBody (msg.Write tag addr bytes) = addr < 2 ^ 64
FitsBody (msg.Release tag page hold) = page < 2 ^ 32
FitsBody (msg.Regain tag page) = page < 2 ^ 32
FitsBody m = Unit {0}

-- bytes that spell a message
pub record SpellsMessage (bytes : List ℕ) (message : Msg) : Type 0 where
  pub legal : IsMessage message
  pub tag : (parts_of message).tag < 2 ^ 32
  pub body : FitsBody message
  pub spelt : bytes ≡ message_bytes message
