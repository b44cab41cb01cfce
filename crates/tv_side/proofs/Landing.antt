-- What is taken out of the tubes of one device.
use Rattle.std.proofs.Common.{◌≡◌, List, ◌∷◌, All, Option, Some, None, refl, subst}
use Rattle.std.proofs.lemmas.List.Elements.{All-tail}
use Rattle.tv_wire.specs.declared.Msg.{Msg}
use Rattle.tv_wire.specs.declared.Msg.TheVariants as msg
use Rattle.tv_proxy.specs.declared.proxy.Landed.{Landed}
use Rattle.tv_proxy.specs.Proxies.{ProxyState, Maker, IsProxy, CanAccept, AcceptedSo}
use Rattle.tv_side.specs.Fields.{HasItem}
use Rattle.tv_side.specs.Messages.{MessagesState, with_first}
use Rattle.tv_side.specs.Sides.{SideState, FirstIsAwaited, IsAwaited, LandedSo}

-- the items behind the first one
pub later_items : (old later : MessagesState) (m : Msg) → old ≡ with_first m later → All HasItem old.messages → All HasItem later.messages
later_items old later m e all = All-tail HasItem m later.messages (subst (λ (t : MessagesState). All HasItem t.messages) e all)

pub first_awaited : (old later : MessagesState) (m : Msg) (p : ProxyState) → old ≡ with_first m later → FirstIsAwaited p old.messages → IsAwaited p m
first_awaited old later m p e first = subst (λ (t : MessagesState). FirstIsAwaited p t.messages) e first

-- what is awaited may be accepted, since one maker alone waits for its tag
pub may_land : (p : ProxyState) (m : Msg) → IsProxy p → IsAwaited p m → CanAccept p m
may_land p (msg.Value tag value) is a =
    λ c w. let same : Maker.line c ≡ Maker.hart a.0 = is.alone (Maker.hart a.0) tag a.1 (Maker.line c) w in cc
may_land p (msg.Answer tag status other stats) is a =
    λ h w. let same : Maker.hart h ≡ Maker.line a.0 = is.alone (Maker.line a.0) tag a.1 (Maker.hart h) w in cc
may_land p m is a = absurd a

-- and is not passed over
not_passed : (p later : ProxyState) (m : Msg) → IsAwaited p m → AcceptedSo p m later None → ⊥
not_passed p later (msg.Value tag value) a passed = passed.nobody (Maker.hart a.0) a.1
not_passed p later (msg.Answer tag status other stats) a passed = passed.nobody (Maker.line a.0) a.1
not_passed p later m a passed = absurd a

pub landed_first : (s : SideState) (later : ProxyState) (m : Msg) (more : List Msg) (result : Option Landed) → s.replies ≡ m ∷ more
    → IsAwaited s.proxy m → AcceptedSo s.proxy m later result → LandedSo s (record s { proxy = later; replies = more }) result
landed_first s later m more (Some landed) e a accepted = record { first = m; replies = e; accepted = accepted; others = refl }
landed_first s later m more None e a accepted = absurd (not_passed s.proxy later m a accepted)
