-- Who waits for what, after a maker began to wait or stopped waiting.
use Rattle.std.proofs.Common.{◌≡◌, ◌≢◌, ◌⊎◌, inl, inr, ℕ, ◌<◌, List, length, get_or, set, Option, Some, None, refl, sym, ◌∙◌, arith}
use Rattle.std.proofs.lemmas.Bool.Decides.{eqb_tells}
use Rattle.std.proofs.lemmas.Grind.{get_or-set_at}
use Rattle.std.proofs.lemmas.List.{get_or-set_other}
use Rattle.tv_proxy.specs.Proxies.{ProxyState, Maker, waits_for, with_waiting, posted, NobodyWaits, IsProxy, HasLanded}

place_set : (waiting : List (Option ℕ)) (i j : ℕ) (t : Option ℕ) (tag : ℕ) → i < length waiting → get_or (set waiting i t) j None ≡ Some tag
    → ((j ≡ i) × (t ≡ Some tag)) ⊎ ((j ≢ i) × (get_or waiting j None ≡ Some tag))
place_set waiting i j t tag within w = elim (eqb_tells j i) [
  | inl same ↦ inl (same.1, sym (get_or-set_at waiting i j t None same.1 within) ∙ w)
  | inr other ↦ inr (other.1, sym (get_or-set_other waiting i j t None other.1) ∙ w)
]

-- the proxy has a place for the maker
abbrev pub HasPlace : ProxyState → Maker → Type 0
HasPlace p (Maker.hart h) = h < length p.harts
HasPlace p (Maker.line c) = c < length p.lines

-- a maker that waits for a tag is the one that was just given it, or another one that had it before
pub waits_with : (p : ProxyState) (m k : Maker) (t : Option ℕ) (tag : ℕ) → HasPlace p m → waits_for (with_waiting p m t) k ≡ Some tag
    → ((k ≡ m) × (t ≡ Some tag)) ⊎ ((k ≢ m) × (waits_for p k ≡ Some tag))
waits_with p (Maker.hart h) (Maker.hart k) t tag within w = elim (place_set p.harts h k t tag within w) [
  | inl e ↦ inl (let r : Maker.hart k ≡ Maker.hart h = rw e.0 refl in r, e.1)
  | inr e ↦ inr (λ same. e.0 cc, e.1)
]
waits_with p (Maker.hart h) (Maker.line c) t tag within w = inr (λ same. cc, w)
waits_with p (Maker.line c) (Maker.hart h) t tag within w = inr (λ same. cc, w)
waits_with p (Maker.line c) (Maker.line k) t tag within w = elim (place_set p.lines c k t tag within w) [
  | inl e ↦ inl (let r : Maker.line k ≡ Maker.line c = rw e.0 refl in r, e.1)
  | inr e ↦ inr (λ same. e.0 cc, e.1)
]

made_same : (p : ProxyState) (m : Maker) (t : Option ℕ) → (with_waiting p m t).made ≡ p.made
made_same p (Maker.hart h) t = refl
made_same p (Maker.line c) t = refl

waits_posted : (p : ProxyState) (k : Maker) → waits_for p k ≡ waits_for (posted p) k
waits_posted p (Maker.hart h) = refl
waits_posted p (Maker.line c) = refl

-- one item more, for which nobody waits
pub proxy_posted : (p : ProxyState) → IsProxy p → IsProxy (posted p)
proxy_posted p is = record {
  made = λ k tag w. let r : tag < p.made = is.made k tag (waits_posted p k ∙ w) in omega arith;
  alone = λ a tag x b y. is.alone a tag (waits_posted p a ∙ x) b (waits_posted p b ∙ y);
}

-- a maker waits for a new tag, or no more
pub proxy_with : (p : ProxyState) (m : Maker) (t : Option ℕ) → HasPlace p m → IsProxy p
    → ((tag : ℕ) → t ≡ Some tag → (tag < p.made) × ((k : Maker) → waits_for p k ≢ Some tag)) → IsProxy (with_waiting p m t)
proxy_with p m t within is fresh = record {
  made = λ k tag w. rw (made_same p m t) (elim (waits_with p m k t tag within w) [ inl e ↦ (fresh tag e.1).0 | inr e ↦ is.made k tag e.1 ]);
  alone = λ a tag x b y. elim (waits_with p m a t tag within x) [
    | inl e ↦ elim (waits_with p m b t tag within y) [ inl f ↦ f.0 ∙ sym e.0 | inr f ↦ absurd ((fresh tag e.1).1 b f.1) ]
    | inr e ↦ elim (waits_with p m b t tag within y) [ inl f ↦ absurd ((fresh tag f.1).1 a e.1) | inr f ↦ is.alone a tag e.1 b f.1 ]
  ];
}

-- the tag of one item more is waited for by nobody
pub posted_fresh : (p : ProxyState) → IsProxy p → NobodyWaits (posted p) p.made
posted_fresh p is k w = let r : p.made < p.made = is.made k p.made (waits_posted p k ∙ w) in absurd (omega arith)

-- a maker waits for a tag that nobody waits for
pub proxy_fresh : (p : ProxyState) (m : Maker) (tag : ℕ) → HasPlace p m → IsProxy p → tag < p.made → NobodyWaits p tag
    → IsProxy (with_waiting p m (Some tag))
proxy_fresh p m tag within is below fresh =
    proxy_with p m (Some tag) within is (λ t e. let same : t ≡ tag = cc in rw same (below, fresh))

-- a maker waits no more
pub proxy_landed : (p : ProxyState) (m : Maker) → HasPlace p m → IsProxy p → IsProxy (with_waiting p m None)
proxy_landed p m within is = proxy_with p m None within is (λ tag e. cc)

-- then nobody waits for its tag
pub landed_once : (p : ProxyState) (m : Maker) (tag : ℕ) → HasPlace p m → IsProxy p → waits_for p m ≡ Some tag
    → HasLanded p m tag (with_waiting p m None)
landed_once p m tag within is waited = record {
  waited = waited;
  state = refl;
  once = λ k w. elim (waits_with p m k None tag within w) [ inl e ↦ cc | inr e ↦ e.0 (is.alone m tag waited k e.1) ];
}
