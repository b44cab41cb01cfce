-- What requests and replies may say beyond the types of their parts.
use Rattle.std.specs.Prelude.{◌==◌, ◌&&◌, ◌||◌, ◌^◌, IsTrue, ℕ, nat_le, nat_lt, Bool, if◌then◌else◌, List, Option, Some, None}
use Rattle.tv_request.specs.declared.Request.{Request}
use Rattle.tv_request.specs.declared.ReplyFrame.{ReplyFrame}

-- the parts that an operation doesn't use are 0
unfoldable pub is_request : Request → Bool
is_request r =
    if r.op == 4 then nat_lt r.value (2 ^ 32)
    else if r.op == 5 then r.value == 0
    else r.op == 6 || (r.device == 0 && r.value == 0)

abbrev pub IsRequest : Request → Type 0
IsRequest r = IsTrue (is_request r)

-- there are statistics beside status 0 alone, and another request beside status 6 alone
abbrev pub is_reply_of : ℕ → ℕ → Option (List (ℕ × ℕ)) → Bool
is_reply_of status other None = nat_le status 9 && (status == 6 || other == 0)
is_reply_of status other (Some pairs) = status == 0 && other == 0

unfoldable pub is_reply : ReplyFrame → Bool
is_reply r = is_reply_of r.status r.other r.stats

abbrev pub IsReply : ReplyFrame → Type 0
IsReply r = IsTrue (is_reply r)
