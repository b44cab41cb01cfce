use Rattle.std.proofs.Common.{rules, ◌≡◌, ◌+◌, ◌≤◌, ◌^◌, ℕ, Bool, false, sym}
use Rattle.tv_grants.specs.Grants.{may_touch, ranges_of}
use Rattle.tv_grants.proofs.Bytes.{each_fails, each_since, none_touched}
use Rattle.tv_grants.proofs.access.are_touched.Goals as goal

pub returns-in-None-touched_bytes : goal.returns-in-None-touched_bytes
returns-in-None-touched_bytes c =
    let touched : ℕ → Bool = λ i. may_touch (ranges_of c.args.dev c.args.grants.now) c.args.withdrawn.now c.args.right.0 (c.args.addr + i) in
    let fails : touched c.loop-done.done ≡ false = search rules in
    sym (each_fails c.args.n touched c.loop-done.done (search rules) fails)

pub returns-in-None : goal.returns-in-None
returns-in-None c =
    let touched : ℕ → Bool = λ i. may_touch (ranges_of c.args.dev c.args.grants.now) c.args.withdrawn.now c.args.right.0 (c.args.addr + i) in
    let past : 2 ^ 64 ≤ c.args.addr + c.loop-done.done = search rules in
    sym (each_fails c.args.n touched c.loop-done.done (search rules) (none_touched _ _ _ _ _ c.requires.inside past))

pub returns : goal.returns
returns c =
    let touched : ℕ → Bool = λ i. may_touch (ranges_of c.args.dev c.args.grants.now) c.args.withdrawn.now c.args.right.0 (c.args.addr + i) in
    sym (each_since c.args.n touched (λ i below. c.loop-done.invariant i (search rules)))
