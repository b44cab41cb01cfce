use Rattle.std.proofs.Common.{◌≡◌, arith, sym, subst, ℕ}
use Rattle.tv_machine.specs.Valid.{IsWithin}
use Rattle.tv_probed.proofs.tests.first_pages.Goals as goal

pub returns : goal.returns
returns c =
    let both : c.from_bits_retain.result.0 ≡ 3 = c.from_bits_retain.ensures tt in
    record {
      some = omega (arith, c.requires.0);
      base = omega arith;
      end = omega (arith, c.requires.1);
      rights = subst (λ (n : ℕ). IsWithin 1 3 n) (sym both) (omega arith, omega arith);
    }
