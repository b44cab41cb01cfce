-- The laws of a line as a port.
use Rattle.std.proofs.Common.{◌≡◌, ℕ, ◌+◌, List, [], ◌++◌, append_assoc, append-nil, refl, ap, sym, ◌∙◌, subst, arith}
use Rattle.tv_items.specs.declared.action.Heard.{Heard}
use Rattle.tv_machine.specs.declared.machine.Machine.{Machine}
use Rattle.tv_plan.specs.Devices.{DeviceState}
use Rattle.tv_script.specs.Happenings.{Happening, Wanted, replies}
use Rattle.tv_spec.specs.Solo.{Going, onward}
use Rattle.tv_spec.specs.State.{DeviceRun}
use Rattle.tv_port.specs.Replays.{replies-append}
use Rattle.tv_core.specs.Seen.{HasDevice, Seen, dev_of, setup_by}
use Rattle.tv_runner.specs.Cores.{bounds_by}
use Rattle.tv_runner.specs.Lines.{HappenedSo, IsAwaited, IsHeardBy, IsServedOn, IsWanted, entries_of, going_of}

-- 1. Nothing happened

pub served_none : (d : ℕ) (p : Seen) → IsServedOn d p p
served_none d p = record {
  machine = refl;
  image = refl;
  handed = refl;
  made = 0;
  few = omega arith;
  records = omega arith;
  leads = λ (answers : ℕ → List Heard) (left : ℕ).
      (let none : left ≡ 0 + left = omega arith in
      ap (λ (n : ℕ). onward (entries_of d n (setup_by p) (bounds_by p)) (going_of p answers)) none);
  ends = λ ends. ends;
  others = λ e other. refl;
}

pub line_stays : (at : ℕ) (p : Seen) → (at ≡ at) × HappenedSo at p [] p
line_stays at p = (
  refl,
  record {
    on = served_none at p;
    heard = record { made = refl; acted = refl; device = refl; got = sym (append-nil (dev_of p at).got) };
    still = λ still. still;
  },
)

-- 2. One after the other

same_machine : (d left : ℕ) (p q : Seen) (g : Going) → q.machine ≡ p.machine
    → ◌≡◌ {A = Going} (onward (entries_of d left (setup_by q) (bounds_by q)) g) (onward (entries_of d left (setup_by p) (bounds_by p)) g)
same_machine d left p q g same = ap (λ (m : Machine). let x : Seen = record p { machine = m } in onward (entries_of d left (setup_by x) (bounds_by x)) g) same

pub served_on : (d : ℕ) (p q r : Seen) → IsServedOn d p q → IsServedOn d q r → IsServedOn d p r
served_on d p q r a b = record {
  machine = b.machine ∙ a.machine;
  image = b.image ∙ a.image;
  handed = b.handed ∙ a.handed;
  made = a.made + b.made;
  few = (let one = a.few in let two = b.few in omega (arith, one, two));
  records = (let one = a.records in let two = b.records in omega (arith, one, two));
  leads = λ (answers : ℕ → List Heard) (left : ℕ).
      (let all : a.made + (b.made + left) ≡ (a.made + b.made) + left = omega arith in
      sym (same_machine d left p q (going_of r answers) a.machine)
      ∙ b.leads answers left
      ∙ same_machine d (b.made + left) p q (going_of q answers) a.machine
      ∙ a.leads answers (b.made + left)
      ∙ ap (λ (n : ℕ). onward (entries_of d n (setup_by p) (bounds_by p)) (going_of p answers)) all);
  ends = λ ends. b.ends (a.ends ends);
  others = λ e other. b.others e other ∙ a.others e other;
}

heard_on : (u v w : DeviceRun) (xs ys : List Happening) → IsHeardBy u v (replies xs) → IsHeardBy v w (replies ys) → IsHeardBy u w (replies (xs ++ ys))
heard_on u v w xs ys a b = record {
  made = b.made ∙ a.made;
  acted = b.acted ∙ a.acted;
  device = b.device ∙ a.device;
  got = b.got
      ∙ ap (λ (hs : List Heard). hs ++ replies ys) a.got
      ∙ append_assoc u.got (replies xs) (replies ys)
      ∙ ap (λ (hs : List Heard). u.got ++ hs) (sym (replies-append xs ys));
}

happened_on : (d : ℕ) (p q r : Seen) (xs ys : List Happening) → HappenedSo d p xs q → HappenedSo d q ys r → HappenedSo d p (xs ++ ys) r
happened_on d p q r xs ys a b = record {
  on = served_on d p q r a.on b.on;
  heard = heard_on (dev_of p d) (dev_of q d) (dev_of r d) xs ys a.heard b.heard;
  still = λ still. b.still (a.still still);
}

pub line_joins : (a b c : ℕ) (p q r : Seen) (xs ys : List Happening) → (b ≡ a) × HappenedSo a p xs q → (c ≡ b) × HappenedSo b q ys r → (c ≡ a) × HappenedSo a p (xs ++ ys) r
line_joins a b c p q r xs ys first second =
    (second.0 ∙ first.0, happened_on a p q r xs ys first.1 (subst (λ (d : ℕ). HappenedSo d q ys r) first.0 second.1))

-- 3. What it awaits later

awaited_on : (d : ℕ) (p q : Seen) (xs ys : List Happening) (w : Wanted) → HappenedSo d p xs q → IsAwaited p d (xs ++ ys) w → IsAwaited q d ys w
awaited_on d p q xs ys w happened awaited =
    let got : (dev_of p d).got ++ replies (xs ++ ys) ≡ (dev_of q d).got ++ replies ys =
    ap (λ (hs : List Heard). (dev_of p d).got ++ hs) (replies-append xs ys)
    ∙ sym (append_assoc (dev_of p d).got (replies xs) (replies ys))
    ∙ ap (λ (hs : List Heard). hs ++ replies ys) (sym happened.heard.got) in
    record {
      exists = subst (λ (m : Machine). HasDevice (record q { machine = m }) d) (sym happened.on.machine) awaited.exists;
      wanted = subst (λ (s : DeviceState). IsWanted s ((dev_of q d).got ++ replies ys) w) (sym happened.heard.device)
          (subst (λ (hs : List Heard). IsWanted (dev_of p d).device hs w) got awaited.wanted);
      still = happened.still awaited.still;
      ends = happened.on.ends awaited.ends;
    }

pub line_goes_on : (a b : ℕ) (p q : Seen) (xs ys : List Happening) (w : Wanted) → (b ≡ a) × HappenedSo a p xs q → IsAwaited p a (xs ++ ys) w → IsAwaited q b ys w
line_goes_on a b p q xs ys w moved awaited = subst (λ (d : ℕ). IsAwaited q d ys w) (sym moved.0) (awaited_on a p q xs ys w moved.1 awaited)
