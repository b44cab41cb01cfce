-- What a core stands for where a burst showed an access to a device.
use Rattle.std.proofs.Common.{◌≡◌, ℕ, suc, ◌+◌, ◌≤◌, List, [], ◌∷◌, ◌++◌, length, length-set, length-append, drop, refl, ap, ◌∙◌, arith}
use Rattle.std.proofs.lemmas.List.{drop-append-le}
use Rattle.tv_base.specs.declared.Access.{Access}
use Rattle.tv_base.specs.declared.Access.TheVariants as access
use Rattle.tv_items.specs.declared.item.Item.{Item}
use Rattle.tv_proxy.specs.Messages.{item_of as item_by}
use Rattle.tv_side.specs.Sides.{SideState, with_access}
use Rattle.tv_spec.specs.declared.Made.{Made}
use Rattle.tv_spec.specs.declared.Maker.{Maker}
use Rattle.tv_spec.specs.declared.Mode.{Mode}
use Rattle.tv_spec.specs.Devices.{item_of, with_item}
use Rattle.tv_spec.specs.State.{DeviceRun}
use Rattle.tv_core.specs.Stands.{StandsFor, tagged_from}

-- an item more behind those in the tube
tagged_more : (tag : ℕ) (ms : List Made) (m : Made) → tagged_from tag (ms ++ m ∷ []) ≡ tagged_from tag ms ++ (tag + length ms, m.item) ∷ []
tagged_more tag [] m = ap (λ (n : ℕ). (n, m.item) ∷ []) (let r : tag ≡ tag + 0 = omega arith in r)
tagged_more tag (x ∷ ms) m =
    ap (λ (xs : List (ℕ × Item)). (tag, x.item) ∷ xs) (tagged_more (tag + 1) ms m
    ∙ ap (λ (n : ℕ). tagged_from (tag + 1) ms ++ (n, m.item) ∷ []) (let r : (tag + 1) + length ms ≡ tag + suc (length ms) = omega arith in r))

-- the side of a device to which an access was issued
pub side_issued : (tube : ℕ) (now : Mode) (v : DeviceRun) (p : SideState) (hart : ℕ) (how : Access) → item_by how ≡ item_of how → StandsFor tube now v p → v.acted ≤ length v.made → length (drop v.acted v.made) + v.acted ≡ length v.made
    → StandsFor tube now (with_item v (record { item = item_of how; maker = Maker.Hart hart })) (with_access p hart how)
side_issued tube now v p hart (access.Load width off) same R within count =
    let m : Made = record { item = item_of (access.Load width off); maker = Maker.Hart hart } in
    let tag : v.acted + length (drop v.acted v.made) ≡ p.proxy.made = (let made = R.made in omega (arith, made, count)) in
    record {
      tube_is = R.tube_is;
      made = rw (length-append v.made (m ∷ [])) (ap (λ (n : ℕ). n + 1) R.made);
      harts = rw length-set R.harts;
      commands = rw (drop-append-le v.acted v.made (m ∷ []) within, R.commands, tagged_more v.acted (drop v.acted v.made) m, tag) refl;
      replies = R.replies;
      transit = R.transit;
      told = R.told;
    }
side_issued tube now v p hart (access.Store width off value) same R within count =
    let m : Made = record { item = item_of (access.Store width off value); maker = Maker.Hart hart } in
    let tag : v.acted + length (drop v.acted v.made) ≡ p.proxy.made = (let made = R.made in omega (arith, made, count)) in
    record {
      tube_is = R.tube_is;
      made = rw (length-append v.made (m ∷ [])) (ap (λ (n : ℕ). n + 1) R.made);
      harts = R.harts;
      commands = rw (drop-append-le v.acted v.made (m ∷ []) within, R.commands, tagged_more v.acted (drop v.acted v.made) m, tag, same) refl;
      replies = R.replies;
      transit = R.transit;
      told = R.told;
    }
