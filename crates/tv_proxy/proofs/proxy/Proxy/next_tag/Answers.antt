use Rattle.tv_proxy.proofs.Waits.{posted_fresh, proxy_posted}
use Rattle.tv_proxy.proofs.proxy.Proxy.next_tag.Goals as goal

pub invariant_of-self : goal.invariant_of-self
invariant_of-self c = proxy_posted (record { made = c.self.inside.made; harts = c.self.inside.harts; lines = c.self.inside.lines }) c.self.invariant

pub returns-clause-fresh : goal.returns-clause-fresh
returns-clause-fresh c = posted_fresh (record { made = c.self.inside.made; harts = c.self.inside.harts; lines = c.self.inside.lines }) c.self.invariant
