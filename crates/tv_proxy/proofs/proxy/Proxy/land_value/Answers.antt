use Rattle.std.proofs.Common.{rules, refl, None, Some, ◌≡◌, slice_index_or}
use Rattle.tv_proxy.specs.Proxies.{Maker, ProxyState}
use Rattle.tv_proxy.proofs.Waits.{proxy_landed, landed_once}
use Rattle.tv_proxy.proofs.proxy.Proxy.land_value.Goals as goal

pub invariant_of-self : goal.invariant_of-self
invariant_of-self c = proxy_landed (record { made = c.self.inside.made; harts = c.self.inside.harts; lines = c.self.inside.lines }) (Maker.hart c.from.result) (search rules) c.self.invariant

pub returns : goal.returns
returns c =
    let waited : slice_index_or c.self.inside.harts c.in_ok-hart.hart None ≡ Some c.args.tag = rw c.in_ok-hart.ensures.1 c.in_ok-place_of.ensures.found in
    let p : ProxyState = record { made = c.self.inside.made; harts = c.self.inside.harts; lines = c.self.inside.lines } in
    (refl, rw (← c.self.view_is, c.from.ensures, c.get.ensures.number) (landed_once p (Maker.hart c.in_ok-hart.hart) c.args.tag (search rules) c.self.invariant waited))
