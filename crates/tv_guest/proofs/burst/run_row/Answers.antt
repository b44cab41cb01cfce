use Rattle.std.proofs.Common.{◌≡◌, ◌+◌, ℕ, suc, subst, arith}
use Rattle.tv_guest.proofs.Rows.{IsUncounted, uncounted_more}
use Rattle.tv_guest.proofs.burst.run_row.Goals as goal

pub loop-made-preserved : goal.loop-made-preserved
loop-made-preserved c =
    let more : suc c.loop-made.made ≡ c.loop-made.made + 1 = omega arith in (
      subst (λ (n : ℕ). IsUncounted c.args.lines c.args.hart.now c.args.local.now n c.plain.new.self c.plain.new.place) more
          (uncounted_more c.args.lines c.args.hart.now c.loop-made.hart c.plain.new.self c.args.local.now c.loop-made.local c.plain.new.place c.loop-made.made c.requires c.loop-made.invariant.0
          c.if-plain.ensures.event c.plain.ensures.rest c.plain.ensures.calm),
      omega (arith, c.loop-made-test.true),
    )
