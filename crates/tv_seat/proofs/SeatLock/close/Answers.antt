use Rattle.std.proofs.Common.{◌<◌, sym, ap, ◌∙◌, subst}
use Rattle.std.specs.Prelude.{Contains, map, ◌+◌}
use Rattle.tv_seat.specs.Claims.{IsClaim}
use Rattle.tv_seat.specs.Rule.{Each}
use Rattle.tv_seat.specs.Seats.{IsEverySeat}
use Rattle.tv_seat.proofs.Closing.{removed, some_seat, numbers_behind, all_claimed}
use Rattle.tv_seat.proofs.SeatLock.close.Goals as goal

pub close-requires-clause-every : goal.close-requires-clause-every
close-requires-clause-every g c k below =
    let seats = removed c.args.seats.items c.remove.new.self.items c.remove.result (some_seat _ c.requires.every) c.remove.ensures.value c.remove.ensures.items in
    let every = subst (λ ss. IsEverySeat ss) seats c.requires.every in
    let made = ap (λ m. m.0.made) c.gather.ensures.first ∙ ap (λ s. s.made) c.token.view_is in
    let has = numbers_behind c.token.inside.token.me.0.others c.remove.new.self.items (k + 1) (every.1 k (subst (λ n. k < n) made below)) in
    subst (λ cs. Contains (map (λ claim. claim.number) cs) (k + 1)) (sym (ap (λ m. m.0.others) c.gather.ensures.first)) has

pub returns : goal.returns
returns g c =
    let seats = removed c.args.seats.items c.remove.new.self.items c.remove.result (some_seat _ c.requires.every) c.remove.ensures.value c.remove.ensures.items in
    all_claimed (λ claim. IsClaim g.T.Kept.history g.T.Kept.tally c.close.result claim) c.args.seats.items c.remove.result c.remove.new.self.items c.token.inside.token.me.0.others seats
    (subst (λ own. IsClaim g.T.Kept.history g.T.Kept.tally c.close.result own) (ap (λ m. m.0.own) c.gather.ensures.first ∙ ap (λ s. s.own) c.token.view_is) c.close.ensures.own)
    (subst (λ cs. Each (λ claim. IsClaim g.T.Kept.history g.T.Kept.tally c.close.result claim) cs) (ap (λ m. m.0.others) c.gather.ensures.first) c.close.ensures.others)
