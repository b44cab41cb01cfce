use Rattle.std.proofs.Common.{rules, ◌≡◌, ◌+◌, ℕ, Bool}
use Rattle.tv_grants.specs.Grants.{may_touch, ranges_of, right_to, is_allowed}
use Rattle.tv_grants.proofs.Bytes.{each_at, each_since}
use Rattle.tv_grants.proofs.Grants.allowed.Goals as goal

pub returns-clause-each : goal.returns-clause-each
returns-clause-each c =
    let touched : ℕ → Bool = λ i. may_touch (ranges_of c.args.dev c.args.self.now.ranges) c.args.self.now.withdrawn (right_to c.args.write) (c.args.addr + i) in
    let is : c.are_touched.result ≡ is_allowed (ranges_of c.args.dev c.args.self.now.ranges) c.args.self.now.withdrawn (right_to c.args.write) c.args.addr c.args.len = search rules in
    (rw is (λ t. each_at c.args.len touched (search rules)), rw is (λ all. search (rules, each_since c.args.len touched all)))
