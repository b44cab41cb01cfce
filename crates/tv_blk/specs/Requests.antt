-- What a request came to.
use Rattle.std.specs.Prelude.{ℕ, ◌/◌, Bool, List, [], length, Result, Ok, Err}
use Rattle.tv_items.specs.declared.action.Action.TheVariants as action
use Rattle.tv_blk.specs.declared.request.Outcome.{Outcome}
use Rattle.tv_blk.specs.declared.request.Outcome.TheVariants as outcome
use Rattle.tv_plan.specs.Block.{Response, done, failed, heard_whether, unsupported, read_sectors, response_read, response_whether, write_sectors}
use Rattle.tv_script.specs.Scripts.{Script, Ask, ◌>>=◌}
use Rattle.tv_virtio.specs.declared.queue.QueueStop.{QueueStop}

-- its response, where these bytes are answered so far
abbrev pub response_of : List ℕ → Outcome → Response
response_of answered outcome.Read = done answered
response_of answered outcome.Done = done []
response_of answered (outcome.Named bytes) = done bytes
response_of answered outcome.Failed = failed
response_of answered outcome.Unsupported = unsupported

abbrev pub responded : List ℕ → Result Outcome QueueStop → Result Response QueueStop
responded answered (Ok came) = Ok (response_of answered came)
responded answered (Err why) = Err why

-- a flush, and requests on sectors that the disk has
abbrev pub flushed : Script QueueStop Bool
flushed = Ask action.Flush heard_whether

abbrev pub whole_read : ℕ → ℕ → Script QueueStop Response
whole_read count sector = read_sectors count sector [] >>= response_read

abbrev pub whole_written : ℕ → List ℕ → Script QueueStop Response
whole_written sector bytes = write_sectors (length bytes / 512) sector bytes >>= response_whether
