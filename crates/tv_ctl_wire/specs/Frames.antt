-- The bytes of control frames: `len u32, version u8, code u8, id u64, body`, where `len` counts the bytes after itself and
-- the code is a request's operation or a reply's status. All numbers are little-endian.
use Rattle.std.specs.Prelude.{◌≡◌, ◌==◌, ◌&&◌, ℕ, ◌+◌, ◌^◌, ◌<◌, ◌≤◌, nat_le, Bool, true, false, if◌then◌else◌, List, [], ◌∷◌, ◌++◌, Option, Some, None, length, flat_map, get_or}
use Rattle.byteorder.specs.Endian.{little_bytes}
use Rattle.tv_ctl_wire.specs.declared.TheConstants.{VERSION, HEAD_BYTES, FRAME_BYTES}
use Rattle.tv_request.specs.Requests.{IsRequest, IsReply}
use Rattle.tv_request.specs.declared.Request.{Request}
use Rattle.tv_request.specs.declared.ReplyFrame.{ReplyFrame}
use Rattle.tv_wire.specs.Spelling.{pair_bytes, FitPairs}

abbrev pub frame_bytes : ℕ → ℕ → List ℕ → List ℕ
frame_bytes code id body = little_bytes 4 (10 + length body) ++ (VERSION ∷ (code ∷ (little_bytes 8 id ++ body)))

-- each is a byte
abbrev pub AreBytes : List ℕ → Type 0
AreBytes bytes = (i : ℕ) → get_or bytes i 0 < 256

-- whether an operation has a meaning
abbrev pub is_known : ℕ → Bool
is_known op = nat_le 1 op && nat_le op 6

-- the body of an operation that has one
abbrev pub request_body : Request → List ℕ
request_body r =
    if r.op == 4 then r.device ∷ little_bytes 4 r.value
    else if r.op == 5 then r.device ∷ []
    else if r.op == 6 then r.device ∷ little_bytes 8 r.value
    else []

-- an operation without a meaning has a body of any bytes, which says nothing
abbrev pub HasBody : Bool → Request → List ℕ → Type 0
HasBody true r body = body ≡ request_body r
HasBody false r body = (HEAD_BYTES + length body ≤ FRAME_BYTES) × AreBytes body

-- bytes that spell a request
pub record SpellsRequest (bytes : List ℕ) (request : Request) : Type 0 where
  pub legal : IsRequest request
  pub op : request.op < 2 ^ 8
  pub id : request.id < 2 ^ 64
  pub device : request.device < 2 ^ 8
  pub value : request.value < 2 ^ 64
  pub body : List ℕ
  pub has : HasBody (is_known request.op) request body
  pub spelt : bytes ≡ frame_bytes request.op request.id body

abbrev pub stats_body : Option (List (ℕ × ℕ)) → List ℕ
stats_body None = []
stats_body (Some pairs) = length pairs ∷ flat_map pair_bytes pairs

abbrev pub reply_body : ReplyFrame → List ℕ
reply_body r = if r.status == 6 then little_bytes 8 r.other else stats_body r.stats

-- what the type of statistics says
abbrev pub FitsStats : Option (List (ℕ × ℕ)) → Type 0
FitsStats None = Unit {0}
FitsStats (Some pairs) = (length pairs ≤ 32) × FitPairs pairs

-- bytes that spell a reply
pub record SpellsReply (bytes : List ℕ) (reply : ReplyFrame) : Type 0 where
  pub legal : IsReply reply
  pub id : reply.id < 2 ^ 64
  pub other : reply.other < 2 ^ 64
  pub stats : FitsStats reply.stats
  pub spelt : bytes ≡ frame_bytes reply.status reply.id (reply_body reply)
