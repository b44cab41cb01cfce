-- A call of a queue that gave no value: a script goes on by what the stop means, or the port ended.
use Rattle.std.specs.Prelude.{◌≡◌, List, Option}
use Rattle.tv_items.specs.declared.action.Action.{Action}
use Rattle.tv_script.specs.Happenings.{Happening, Wanted}
use Rattle.tv_script.specs.Scripts.{Script, AwaitsAll}
use Rattle.tv_script.specs.Services.{End, TurnedSo}
use Rattle.tv_script.specs.declared.service.Turned.{Turned}
use Rattle.tv_script.specs.declared.service.Turned.TheVariants as turned
use Rattle.tv_virtio.specs.declared.queue.QueueStop.{QueueStop}
use Rattle.tv_virtio.specs.declared.queue.QueueStop.TheVariants as stop

-- the port awaits what a stop means, where it didn't end
abbrev pub AwaitsStop : {S : Type 0} → (List Happening → Wanted → Type 0) → QueueStop → Script (End S) S → Type 0
AwaitsStop awaits stop.Ended s = Unit {0}
AwaitsStop awaits why s = AwaitsAll awaits s

-- it was done, or the port ended
abbrev pub StoppedSo : {S Q : Type 0} → (Q → List Happening → Q → Type 0) → (Q → Type 0) → (Q → Option Action) → Q → QueueStop → Script (End S) S → Q → S → Turned → Type 0
StoppedSo moved over stopped p stop.Ended s q new result = (q ≡ p) × (result ≡ turned.Ended)
StoppedSo moved over stopped p why s q new result = TurnedSo moved over stopped p s q new result
