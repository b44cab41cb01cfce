-- The frame that bytes begin with: from the bytes to what they say, where `Frames` goes from that to its bytes.
use Rattle.std.specs.Prelude.{◌==◌, ◌&&◌, ◌||◌, ℕ, ◌+◌, ◌*◌, ◌%◌, nat_le, nat_lt, Bool, true, if◌then◌else◌, List, Option, Some, None, length, take, drop, slice_index}
use Rattle.byteorder.specs.Endian.{little_number}
use Rattle.tv_ctl_wire.specs.declared.TheConstants.{VERSION, HEAD_BYTES}
use Rattle.tv_ctl_wire.specs.declared.Cut.{Cut}
use Rattle.tv_ctl_wire.specs.declared.Cut.TheVariants as cut
use Rattle.tv_ctl_wire.specs.Frames.{is_known}
use Rattle.tv_request.specs.declared.Request.{Request}
use Rattle.tv_request.specs.declared.ReplyFrame.{ReplyFrame}
use Rattle.tv_wire.specs.Reading.{pairs_read}

-- a kind of frame: which bytes may begin it, which lengths it has after these four bytes, which code goes with which
-- length, which byte may begin the body, and what a whole frame says
pub record Kind (A : Type 0) : Type 0 where
  pub first : ℕ → Bool
  pub size : ℕ → Bool
  pub takes : ℕ → ℕ → Bool
  pub counts : ℕ → ℕ → ℕ → Bool
  pub value : List ℕ → A

-- a test of a byte that may not have come yet
abbrev pub late : ℕ → Bool → List ℕ → Bool
late at test bytes = nat_le (length bytes) at || test

unfoldable pub sized : {A : Type 0} → Kind A → List ℕ → Bool
sized k bytes =
    if nat_lt (length bytes) 2 then late 0 (k.first (slice_index bytes 0)) bytes else k.size (little_number 2 bytes)

unfoldable pub opens : List ℕ → Bool
opens bytes =
    late 2 (slice_index bytes 2 == 0) bytes && (late 3 (slice_index bytes 3 == 0) bytes && late 4 (slice_index bytes 4 == VERSION) bytes)

unfoldable pub coded : {A : Type 0} → Kind A → List ℕ → Bool
coded k bytes = late 5 (k.takes (slice_index bytes 5) (little_number 2 bytes)) bytes

unfoldable pub counted : {A : Type 0} → Kind A → List ℕ → Bool
counted k bytes = late 14 (k.counts (slice_index bytes 5) (little_number 2 bytes) (slice_index bytes 14)) bytes

-- whether these bytes begin a frame, or begin with one
abbrev pub begins : {A : Type 0} → Kind A → List ℕ → Bool
begins k bytes = (sized k bytes && opens bytes) && (coded k bytes && counted k bytes)

-- whether the frame that these bytes begin goes on
abbrev pub goes_on : List ℕ → Bool
goes_on bytes = nat_lt (length bytes) 2 || nat_lt (length bytes) (little_number 2 bytes + 4)

abbrev pub reading : {A : Type 0} → Kind A → List ℕ → Cut A
reading k bytes =
    if begins k bytes
    then (if goes_on bytes then cut.More else cut.Whole (k.value (take (little_number 2 bytes + 4) bytes)) (little_number 2 bytes + 4))
    else cut.Bad

abbrev pub request : ℕ → ℕ → ℕ → ℕ → Request
request op id device value = record { op = op; id = id; device = device; value = value }

-- the request of a whole frame
unfoldable pub request_of : List ℕ → Request
request_of frame =
    let op : ℕ = slice_index frame 5 in
    let id : ℕ = little_number 8 (drop 6 frame) in
    if op == 4 then request op id (slice_index frame 14) (little_number 4 (drop 15 frame))
    else if op == 5 then request op id (slice_index frame 14) 0
    else if op == 6 then request op id (slice_index frame 14) (little_number 8 (drop 15 frame))
    else request op id 0 0

-- a length of a request, 4 bytes less than the frame's
abbrev pub is_request_size : ℕ → Bool
is_request_size size = nat_le 10 size && nat_le size 4096

-- the length that goes with an operation
abbrev pub is_size_of : ℕ → ℕ → Bool
is_size_of op size =
    if op == 4 then size == 15
    else if op == 5 then size == 11
    else if op == 6 then size == 19
    else if is_known op then size == 10
    else true

abbrev pub requests : Kind Request
requests = record {
  first = λ byte. true;
  size = is_request_size;
  takes = is_size_of;
  counts = λ op size byte. true;
  value = request_of;
}

abbrev pub reply : ℕ → ℕ → ℕ → Option (List (ℕ × ℕ)) → ReplyFrame
reply status id other stats = record { status = status; id = id; other = other; stats = stats }

unfoldable pub reply_of : List ℕ → ReplyFrame
reply_of frame =
    let status : ℕ = slice_index frame 5 in
    let id : ℕ = little_number 8 (drop 6 frame) in
    if status == 6 then reply status id (little_number 8 (drop 14 frame)) None
    else if length frame == HEAD_BYTES then reply status id 0 None
    else reply status id 0 (Some (pairs_read (slice_index frame 14) (drop 15 frame)))

-- 11 bytes, and ten more for each of so many numbers
abbrev pub is_stats_size : ℕ → Bool
is_stats_size size = (nat_le 11 size && nat_le size 331) && size % 10 == 1

abbrev pub is_reply_size : ℕ → Bool
is_reply_size size = size == 10 || (size == 18 || is_stats_size size)

-- the low bytes of such lengths, of which some take two
abbrev pub begins_reply : ℕ → Bool
begins_reply byte = is_reply_size byte || is_stats_size (256 + byte)

abbrev pub is_size_of_status : ℕ → ℕ → Bool
is_size_of_status status size =
    if status == 0 then size == 10 || is_stats_size size
    else if status == 6 then size == 18
    else nat_le status 9 && size == 10

abbrev pub is_count : ℕ → ℕ → ℕ → Bool
is_count status size byte = if status == 0 && is_stats_size size then size == 11 + 10 * byte else true

abbrev pub replies : Kind ReplyFrame
replies = record {
  first = begins_reply;
  size = is_reply_size;
  takes = is_size_of_status;
  counts = is_count;
  value = reply_of;
}
