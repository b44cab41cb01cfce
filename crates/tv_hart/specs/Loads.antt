-- What becomes of the number that a load finds (RISC-V Unprivileged ISA, chapter "RV64I", "Load and Store Instructions").
use Rattle.std.specs.Prelude.{ℕ, ◌/◌, ◌%◌, ◌^◌}
use Rattle.tv_base.specs.declared.Width.{Width}
use Rattle.tv_base.specs.Width.{width_bytes}
use Rattle.tv_exec.specs.Arithmetic.{sign_extended_from}
use Rattle.tv_hart.specs.declared.loads.Extension.{Extension}
use Rattle.tv_hart.specs.declared.loads.Extension.TheVariants as extension

-- a loaded number as one of 64 bits; only its low bytes count, as many as the width has
abbrev pub extended : Extension → Width → ℕ → ℕ
extended extension.Zero width value = value % 256 ^ width_bytes width
extended extension.Sign width value =
    sign_extended_from (256 ^ width_bytes width / 2) (value % 256 ^ width_bytes width)
