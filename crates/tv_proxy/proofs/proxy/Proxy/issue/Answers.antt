use Rattle.std.proofs.Common.{rules, arith, ap, ◌∙◌, ◌<◌}
use Rattle.tv_proxy.specs.Proxies.{Maker, NobodyWaits, ProxyState}
use Rattle.tv_proxy.proofs.Waits.{proxy_fresh}
use Rattle.tv_proxy.proofs.proxy.Proxy.issue.Goals as goal

pub invariant_of-self : goal.invariant_of-self
invariant_of-self c =
    let p : ProxyState = record { made = c.self.inside.made; harts = c.self.inside.harts; lines = c.self.inside.lines } in
    let state = c.next_tag-tag.ensures.state in
    let below : c.next_tag-tag.result < p.made = omega (arith, ap (λ (s : ProxyState). s.made) (c.self.view_is ∙ state), c.next_tag-tag.ensures.tag) in
    proxy_fresh p (Maker.hart c.from.result) c.next_tag-tag.result (search rules) c.self.invariant below
    (let r : NobodyWaits p c.next_tag-tag.result = rw c.self.view_is c.next_tag-tag.ensures.fresh in r)
