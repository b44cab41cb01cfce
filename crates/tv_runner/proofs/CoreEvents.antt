-- An event of a hart of a core stalls exactly where it makes none in the schedule: what it shows finds a command tube full.
use Rattle.std.proofs.Common.{◌≡◌, ℕ, zero, suc, ◌+◌, ◌<◌, ◌≤◌, inl, inr, true, false, List, [], ◌∷◌, ◌++◌, length, length-append, refl, ap, sym, ◌∙◌, subst, arith}
use Rattle.std.proofs.Math.ListN.{get_or-append}
use Rattle.std.proofs.Math.Seq.{get_or-append_seam}
use Rattle.std.proofs.lemmas.Bool.{false≢true, le-leb, leb-true}
use Rattle.std.proofs.lemmas.Bool.Decides.{eqb_tells, leb_tells}
use Rattle.std.proofs.lemmas.List.{length-map}
use Rattle.tv_base.specs.declared.Access.TheVariants as access
use Rattle.tv_base.specs.declared.limits.TheConstants.{DEBUG_RING_BYTES}
use Rattle.tv_hart.specs.declared.Did.{Did}
use Rattle.tv_hart.specs.declared.Did.TheVariants as did
use Rattle.tv_machine.specs.Valid.{IsValid}
use Rattle.tv_spec.specs.declared.Shown.{Shown}
use Rattle.tv_spec.specs.declared.Shown.TheVariants as shown
use Rattle.tv_spec.specs.Legal.{IsLegal, IsLegalRun, after}
use Rattle.tv_spec.specs.Reach.{is_closed}
use Rattle.tv_spec.specs.Setup.{Setup, device_setup}
use Rattle.tv_spec.specs.Solo.{Bounds, closed_in, full_below, is_full}
use Rattle.tv_spec.specs.State.{DeviceRun, State}
use Rattle.tv_spec.specs.Step.{Move, done, event_of, event_where}
use Rattle.tv_spec.proofs.Memory.{IsToDevice}
use Rattle.tv_spec.proofs.Valid.{run_first, valid_ranges}
use Rattle.tv_spec.proofs.Whole.{AreInRam, IsWhole, event_place, whole_done}
use Rattle.tv_core.specs.Calls.{StalledBy, Stalls}
use Rattle.tv_core.specs.Seen.{Seen, debug_of, first_by, history, setup_by, state_of}
use Rattle.tv_core.proofs.Gates.{is_full as is_not_made, is_gated}
use Rattle.tv_core.proofs.Stopping.{event_gated, full_gated}
use Rattle.tv_runner.specs.Cores.{bounds_by}

-- 1. What is closed

length_full : (tube : ℕ) (devs : ℕ → DeviceRun) (n : ℕ) → length (full_below tube devs n) ≡ n
length_full tube devs zero = refl
length_full tube devs (suc n) =
    let front = length_full tube devs n in
    let whole = length-append (full_below tube devs n) (is_full tube (devs n) ∷ []) in
    whole ∙ omega (arith, front)

full_at : (tube : ℕ) (devs : ℕ → DeviceRun) (n d : ℕ) → d < n → is_closed (full_below tube devs n) d ≡ is_full tube (devs d)
full_at tube devs zero d within = absurd (omega (arith, within))
full_at tube devs (suc n) d within = elim (eqb_tells d n) [
  | inl e ↦ (let last : is_closed (full_below tube devs (suc n)) (length (full_below tube devs n)) ≡ is_full tube (devs n) = get_or-append_seam (full_below tube devs n) (is_full tube (devs n)) [] false in
      let here : length (full_below tube devs n) ≡ d = length_full tube devs n ∙ sym e.1 in
      subst (λ (k : ℕ). is_closed (full_below tube devs (suc n)) k ≡ is_full tube (devs d)) here (last ∙ ap (λ (k : ℕ). is_full tube (devs k)) (sym e.1)))
  | inr e ↦ (let before : d < n = (let apart = e.1 in omega (arith, within, apart)) in
      let count = length_full tube devs n in
      get_or-append (full_below tube devs n) (is_full tube (devs n) ∷ []) false d (omega (arith, before, count)) ∙ full_at tube devs n d before)
]

-- what an event shows needs what is closed where it finds a command tube full
gated_stalls : (p : Seen) (what : Shown) → IsToDevice (length (setup_by p).devices) what → is_gated (closed_in (setup_by p) (bounds_by p) (state_of p)) what ≡ true → StalledBy p what
gated_stalls p shown.Nothing there is = absurd (false≢true is)
gated_stalls p (shown.Byte byte) there is = absurd (false≢true is)
gated_stalls p (shown.Finish finish) there is = absurd (false≢true is)
gated_stalls p (shown.Access d (access.Load width off)) there is = leb-true _ _ (sym (full_at p.machine.tube (state_of p).devs (length (setup_by p).devices) d there) ∙ is)
gated_stalls p (shown.Access d (access.Store width off value)) there is = leb-true _ _ (sym (full_at p.machine.tube (state_of p).devs (length (setup_by p).devices) d there) ∙ is)

-- and the other way round, where the ring has room
stalls_gated : (p : Seen) (what : Shown) → IsToDevice (length (setup_by p).devices) what → length (debug_of p) < p.handed + DEBUG_RING_BYTES → StalledBy p what
    → is_gated (closed_in (setup_by p) (bounds_by p) (state_of p)) what ≡ true
stalls_gated p shown.Nothing there ring stalls = absurd stalls
stalls_gated p (shown.Byte byte) there ring stalls = absurd (omega (arith, ring, stalls))
stalls_gated p (shown.Finish finish) there ring stalls = absurd stalls
stalls_gated p (shown.Access d (access.Load width off)) there ring stalls = full_at p.machine.tube (state_of p).devs (length (setup_by p).devices) d there ∙ le-leb _ _ stalls
stalls_gated p (shown.Access d (access.Store width off value)) there ring stalls = full_at p.machine.tube (state_of p).devs (length (setup_by p).devices) d there ∙ le-leb _ _ stalls

-- 2. The devices that are there

whole_after : (setup : Setup) (bytes pages : ℕ) (s : State) (moves : List Move) → AreInRam bytes setup.devices → IsLegal setup s moves → IsWhole setup bytes pages s → IsWhole setup bytes pages (after setup s moves)
whole_after setup bytes pages s [] within legal w = w
whole_after setup bytes pages s (move ∷ moves) within legal w =
    whole_after setup bytes pages (done setup s move) moves within legal.1 (whole_done setup bytes pages s move within legal.0 w)

-- what the next event of a hart shows is to a device of the machine
pub record IsThere (p : Seen) : Type 0 where
  pub bytes : ℕ
  pub pages : ℕ
  pub whole : IsWhole (setup_by p) bytes pages (state_of p)

no_shorter : (xs ys : List ℕ) → length xs ≤ length (xs ++ ys)
no_shorter xs ys = let all = length-append xs ys in omega (arith, all)

-- memory has at least the bytes that the machine says
all_ram : (p : Seen) → IsValid p.machine → p.machine.ram ≤ length (first_by p).local.ram
all_ram p valid = elim (leb_tells (length p.image) p.machine.ram) [
  | inl e ↦ (let is = (run_first p.machine p.image valid e.1).whole.ram in omega (arith, is))
  | inr e ↦ (let more : length p.image ≤ length (first_by p).local.ram = no_shorter p.image _ in let above = e.1 in omega (arith, more, above))
]

-- the ranges of all devices lie in memory, as a run begins
pub ranges_inside : (p : Seen) → IsValid p.machine → AreInRam (length (first_by p).local.ram) (setup_by p).devices
ranges_inside p valid slot k none below =
    let more : p.machine.ram ≤ length (first_by p).local.ram = all_ram p valid in
    let r = valid_ranges p.machine valid slot k none below in
    let end = r.end in
    record { some = r.some; base = r.base; end = omega (arith, end, more); rights = r.rights }

pub whole_first : (p : Seen) → IsWhole (setup_by p) (length (first_by p).local.ram) (length (first_by p).withdrawn) (first_by p)
whole_first p = record { ram = refl; count = sym (length-map p.machine.device device_setup); withdrawn = refl }

pub is_there : (p : Seen) → IsValid p.machine → IsLegalRun p.machine p.image p.entries p.outer → IsThere p
is_there p valid run = record {
  bytes = length (first_by p).local.ram;
  pages = length (first_by p).withdrawn;
  whole = whole_after (setup_by p) (length (first_by p).local.ram) (length (first_by p).withdrawn) (first_by p) (history p) (ranges_inside p valid) run.legal (whole_first p);
}

pub to_device : (p : Seen) (hart : ℕ) → IsThere p → IsToDevice (length (setup_by p).devices) (event_of (state_of p) hart).2.shown
to_device p hart there = (event_place (setup_by p) there.bytes there.pages (state_of p) hart there.whole).seen

-- 3. Stalls

-- the event of a hart as the schedule has it
abbrev pub did_in : Setup → Bounds → State → ℕ → Did
did_in setup bounds s hart = (event_where (closed_in setup bounds s) s hart).0

pub full_stalls : (p : Seen) (hart : ℕ) → IsThere p → did_in (setup_by p) (bounds_by p) (state_of p) hart ≡ did.Full → Stalls p hart
full_stalls p hart there full =
    gated_stalls p (event_of (state_of p) hart).2.shown (to_device p hart there) (full_gated (closed_in (setup_by p) (bounds_by p) (state_of p)) (state_of p) hart full)

pub stalls_full : (p : Seen) (hart : ℕ) → IsThere p → length (debug_of p) < p.handed + DEBUG_RING_BYTES → Stalls p hart → did_in (setup_by p) (bounds_by p) (state_of p) hart ≡ did.Full
stalls_full p hart there ring stalls =
    by_did (did_in (setup_by p) (bounds_by p) (state_of p) hart)
    ((event_gated (closed_in (setup_by p) (bounds_by p) (state_of p)) (state_of p) hart).0 ∙ stalls_gated p (event_of (state_of p) hart).2.shown (to_device p hart there) ring stalls)
  where
    by_did : (d : Did) → is_not_made d ≡ true → d ≡ did.Full
    by_did did.Full is = refl
    by_did did.Retired is = absurd (false≢true is)
    by_did (did.Trapped cause) is = absurd (false≢true is)
    by_did did.Held is = absurd (false≢true is)
