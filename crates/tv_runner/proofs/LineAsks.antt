-- What happens at a line where its device asks for an action.
use Rattle.std.proofs.Common.{◌≡◌, ◌≢◌, ℕ, ◌-◌, ◌<◌, ◌≤◌, Bool, true, false, List, [], ◌∷◌, ◌++◌, append-nil, Option, Some, None, refl, ap, sym, ◌∙◌, subst, arith}
use Rattle.std.specs.Option.{is_some}
use Rattle.std.proofs.lemmas.Bool.{true≢false}
use Rattle.tv_items.specs.declared.action.Action.{Action}
use Rattle.tv_items.specs.declared.action.Heard.{Heard}
use Rattle.tv_items.specs.declared.action.Way.{Way}
use Rattle.tv_items.specs.Fits.{FitsAction, way_of}
use Rattle.tv_journal.specs.Entries.{record_count}
use Rattle.tv_machine.specs.declared.machine.Machine.{Machine}
use Rattle.tv_plan.specs.Devices.{DeviceState, next}
use Rattle.tv_script.specs.Answers.{FitsNext}
use Rattle.tv_script.specs.Happenings.{asks, once}
use Rattle.tv_script.specs.Services.{Next, Asks}
use Rattle.tv_spec.specs.declared.Phase.{Phase}
use Rattle.tv_spec.specs.declared.Stop.{Stop}
use Rattle.tv_spec.specs.Devices.{CanServe, GoesBy, with_phase}
use Rattle.tv_spec.specs.State.{DeviceRun}
use Rattle.tv_core.specs.Calls.{why_of}
use Rattle.tv_core.specs.Seen.{HasDevice, Seen, dev_of}
use Rattle.tv_runner.specs.Cores.{EndsBy, stop_for}
use Rattle.tv_runner.specs.LineLaws.{line_stays, served_on}
use Rattle.tv_runner.specs.Lines.{GoesTo, HappenedSo, HeardSo, IsAnswered, IsAwaited, IsGoing, IsHeardBy, IsReplied, IsServedOn, IsStill, IsWanted, StopsIn, asked, next_got, with_heard}
use Rattle.tv_runner.proofs.CoreParts.{runs_by}

-- 1. Where an action is asked for

-- there is none
pub none_there : {A : Type 0} (o : Option A) (result : Option A) (has : Bool) → result ≡ o → has ≡ is_some result → has ≡ false → o ≡ None
none_there None result has is has_is none = refl
none_there (Some x) result has is has_is none = absurd (true≢false (ap is_some (sym is) ∙ sym has_is ∙ none))

pub some_there : {A : Type 0} (o : Option A) (result : Option A) (has : Bool) → result ≡ o → has ≡ is_some result → has ≡ true → o ≢ None
some_there o result has is has_is some none = absurd (true≢false (sym some ∙ has_is ∙ ap is_some (is ∙ none)))

pub wanted_next : (p : Seen) (d : ℕ) (a : Action) → IsAwaited p d [] (asks a) → next_got (dev_of p d) ≡ Asks a
wanted_next p d a awaited =
    (subst (λ (hs : List Heard). IsWanted (dev_of p d).device hs (asks a)) (append-nil (dev_of p d).got) awaited.wanted).0

pub going_there : (p : Seen) (d : ℕ) (a : Action) → IsAwaited p d [] (asks a) → why_of p ≡ None → IsGoing p
going_there p d a awaited none = record {
  outer = subst (λ (o : Option Stop). EndsBy o p) (ap stop_for none) awaited.ends;
  runs = runs_by p none;
}

pub stopped_at : (p q : Seen) (d : ℕ) (a : Action) → next_got (dev_of p d) ≡ Asks a → (dev_of q d).device ≡ (dev_of p d).device → (dev_of q d).got ≡ (dev_of p d).got
    → asked (next_got (dev_of q d)) ≡ Some a
stopped_at p q d a is device_is got_is =
    ap (λ (s : DeviceState). asked (next s (dev_of q d).got)) device_is
    ∙ ap (λ (hs : List Heard). asked (next (dev_of p d).device hs)) got_is
    ∙ ap asked is

-- 2. Where it isn't answered

-- the run had ended
pub over_before : (p : Seen) (d : ℕ) → HappenedSo d p [] p
over_before p d = (line_stays d p).1

-- or it ends as the action begins
pub over_first : (p q : Seen) (d : ℕ) → StopsIn d p q → HappenedSo d p [] q
over_first p q d stops = record {
  on = stops.on;
  heard = subst (λ (v : DeviceRun). IsHeardBy (dev_of p d) v []) (sym stops.dev) (record { made = refl; acted = refl; device = refl; got = sym (append-nil (dev_of p d).got) });
  still = λ still runs. absurd (stops.over runs);
}

-- or as the service is to do it
pub over_then : (p q r : Seen) (d : ℕ) (phase : Phase) → GoesTo d p q (with_phase (dev_of p d) phase) → StopsIn d q r → HappenedSo d p [] r
over_then p q r d phase goes stops = record {
  on = served_on d p q r goes.on stops.on;
  heard = subst (λ (v : DeviceRun). IsHeardBy (dev_of p d) v []) (sym (stops.dev ∙ goes.dev)) (record { made = refl; acted = refl; device = refl; got = sym (append-nil (dev_of p d).got) });
  still = λ still runs. absurd (stops.over runs);
}

-- 3. Where it is

pub has_still : (p q : Seen) (d : ℕ) → q.machine ≡ p.machine → HasDevice p d → HasDevice q d
has_still p q d same exists = subst (λ (m : Machine). HasDevice (record q { machine = m }) d) (sym same) exists

pub can_serve : (p q : Seen) (d : ℕ) (a : Action) (way : Way) → next_got (dev_of p d) ≡ Asks a → way ≡ way_of a → GoesTo d p q (with_phase (dev_of p d) Phase.Sent) → CanServe (dev_of q d) way
can_serve p q d a way is way_is goes =
    subst (λ (v : DeviceRun). CanServe v way) (sym goes.dev)
    (record { sent = refl; asks = subst (GoesBy way) (sym is) (sym way_is) })

pub answered_still : (p q : Seen) (d : ℕ) (phase : Phase) → IsAnswered (dev_of p d) → GoesTo d p q (with_phase (dev_of p d) phase) → IsAnswered (dev_of q d)
answered_still p q d phase answered goes = subst IsAnswered (sym goes.dev) (record { due = answered.due; replied = answered.replied })

pub replied_there : (p q : Seen) (d : ℕ) (heard : Heard) → IsAnswered (dev_of p d) → GoesTo d p q (with_phase (dev_of p d) (Phase.Served heard)) → IsReplied (dev_of q d)
replied_there p q d heard answered goes =
    subst IsReplied (sym goes.dev) (record { served = tt; answered = record { due = answered.due; replied = answered.replied } })

-- the three steps of an exchange
pub record IsExchanged (p q r s : Seen) (d : ℕ) (heard : Heard) : Type 0 where
  pub begun : GoesTo d p q (with_phase (dev_of p d) Phase.Sent)
  pub reply : Heard
  pub done : GoesTo d q r (with_phase (dev_of q d) (Phase.Served reply))
  pub got : HeardSo d r s heard

dev_then : (p q r s : Seen) (d : ℕ) (heard : Heard) → IsExchanged p q r s d heard → (dev_of p d).phase ≡ Phase.Quiet → dev_of s d ≡ record (dev_of p d) { got = (dev_of p d).got ++ heard ∷ []; phase = Phase.Quiet }
dev_then p q r s d heard ex quiet =
    ex.got.goes.dev
    ∙ ap (λ (v : DeviceRun). with_heard v heard) (ex.done.dev ∙ ap (λ (v : DeviceRun). with_phase v (Phase.Served ex.reply)) ex.begun.dev)

pub exchanged_on : (p q r s : Seen) (d : ℕ) (heard : Heard) → IsExchanged p q r s d heard → IsServedOn d p s
exchanged_on p q r s d heard ex = served_on d p r s (served_on d p q r ex.begun.on ex.done.on) ex.got.goes.on

pub exchanged : (p q r s : Seen) (d : ℕ) (a : Action) (heard : Heard) → IsStill (dev_of p d) → IsExchanged p q r s d heard → HappenedSo d p (once a heard) s
exchanged p q r s d a heard still ex =
    let dev = dev_then p q r s d heard ex still.quiet in
    record {
      on = exchanged_on p q r s d heard ex;
      heard = subst (λ (v : DeviceRun). IsHeardBy (dev_of p d) v (heard ∷ [])) (sym dev) (record { made = refl; acted = refl; device = refl; got = refl });
      still = λ before runs. subst IsStill (sym dev) (record { quiet = refl; answered = record { due = still.answered.due; replied = still.answered.replied } });
    }

pub fits_there : (p q r s : Seen) (d : ℕ) (a : Action) (heard : Heard) → next_got (dev_of p d) ≡ Asks a → IsExchanged p q r s d heard → FitsAction a heard
fits_there p q r s d a heard is ex =
    let dev : dev_of r d ≡ with_phase (with_phase (dev_of p d) Phase.Sent) (Phase.Served ex.reply) = ex.done.dev ∙ ap (λ (v : DeviceRun). with_phase v (Phase.Served ex.reply)) ex.begun.dev in
    subst (λ (n : Next DeviceState). FitsNext n heard) (ap next_got dev ∙ is) ex.got.fits

-- 4. The records that are left

pub left_on : (d : ℕ) (p q : Seen) → IsServedOn d p q → q.machine.journal_entries - record_count q.entries ≤ p.machine.journal_entries - record_count p.entries
left_on d p q on =
    let same : q.machine.journal_entries ≡ p.machine.journal_entries = ap (λ (m : Machine). m.journal_entries) on.machine in
    let more = on.records in
    omega (arith, same, more)

pub left_less : (p q r s : Seen) (d : ℕ) (heard : Heard) → IsExchanged p q r s d heard → s.machine.journal_entries - record_count s.entries < p.machine.journal_entries - record_count p.entries
left_less p q r s d heard ex =
    let on = exchanged_on p q r s d heard ex in
    let same : s.machine.journal_entries ≡ p.machine.journal_entries = ap (λ (m : Machine). m.journal_entries) on.machine in
    let one = ex.begun.on.records in
    let two = ex.done.on.records in
    let three = ex.got.grows in
    let room = ex.got.room in
    omega (arith, same, one, two, three, room)

-- 5. The same, where the slot is known by equations

pub over_at : (a b e : ℕ) (p q r : Seen) → b ≡ a → e ≡ b → GoesTo a p q (with_phase (dev_of p a) Phase.Sent) → StopsIn b q r → (e ≡ a) × HappenedSo a p [] r
over_at a b e p q r one two goes stops = (two ∙ one, over_then p q r a Phase.Sent goes (subst (λ (d : ℕ). StopsIn d q r) one stops))

pub exchanged_at : (a b e f : ℕ) (p q r s : Seen) (action : Action) (heard : Heard) → b ≡ a → e ≡ b → f ≡ e → IsStill (dev_of p a) → GoesTo a p q (with_phase (dev_of p a) Phase.Sent)
    → (reply : Heard) × GoesTo b q r (with_phase (dev_of q b) (Phase.Served reply)) → HeardSo e r s heard → (f ≡ a) × HappenedSo a p (once action heard) s
exchanged_at a b e f p q r s action heard one two three still goes done got =
    let served : (reply : Heard) × GoesTo a q r (with_phase (dev_of q a) (Phase.Served reply)) =
    subst (λ (d : ℕ). (reply : Heard) × GoesTo d q r (with_phase (dev_of q d) (Phase.Served reply))) one done in (
      three ∙ two ∙ one,
      exchanged p q r s a action heard still (record { begun = goes; reply = served.0; done = served.1; got = subst (λ (d : ℕ). HeardSo d r s heard) (two ∙ one) got }),
    )
