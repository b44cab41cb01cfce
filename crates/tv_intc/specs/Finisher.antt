-- The register that ends a run.
use Rattle.std.specs.Prelude.{◌==◌, ℕ, ◌/◌, ◌%◌, ◌^◌, if◌then◌else◌, Option, Some, None}
use Rattle.tv_intc.specs.declared.ending.Finish.{Finish}
use Rattle.tv_intc.specs.declared.ending.Finish.TheVariants.{Off, Failed}

-- what a store of 4 bytes asks for: 0x5555 switches off, a low half of 0x3333 fails with the high half as code
abbrev pub finish_of : ℕ → Option Finish
finish_of value =
    if value == 0x5555 then Some Off
    else if value % 2 ^ 16 == 0x3333 then Some (Failed (value / 2 ^ 16))
    else None
