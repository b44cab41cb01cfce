-- What a store means for the device, beside its definition.
use Rattle.std.specs.Prelude.{◌<◌, ℕ}
use Rattle.tv_transport.specs.declared.registers.Effect.{Effect}
use Rattle.tv_transport.specs.declared.registers.Effect.TheVariants as effect

-- a queue that was made ready is one of so many
abbrev pub IsOfQueue : ℕ → Effect → Type 0
IsOfQueue queues (effect.Ready n) = n < queues
IsOfQueue queues e = Unit {0}
