-- The console's state after a take, and after an input.
use Rattle.std.proofs.Common.{◌≡◌, ◌+◌, ◌%◌, ◌≤◌, ◌<◌, ℕ, List, [], ◌∷◌, length, take, min, set, get_or, Bool, true, false, Option, Some, None, Result, Ok, Err, is_ok, All, refl, ap, sym, ◌∙◌, arith, inl, inr}
use Rattle.std.specs.Prelude.{OnOk}
use Rattle.std.proofs.lemmas.List.{set-set, set-get_or, set_past, get_or-set_same, take_all}
use Rattle.std.proofs.lemmas.List.Elements.{All-set, All-get_or}
use Rattle.std.proofs.lemmas.Bool.{cases_lt}
use Rattle.tv_virtio.specs.declared.queue.QueueRegs.{QueueRegs}
use Rattle.tv_virtio.specs.Queue.{Took}
use Rattle.tv_virtio.specs.Spans.{total}
use Rattle.tv_virtio.specs.declared.queue.QueueStop.{QueueStop}
use Rattle.tv_base.specs.declared.limits.TheConstants.{PIECE_BYTES}
use Rattle.tv_vring.specs.declared.ring.Taken.{Taken}
use Rattle.tv_vring.specs.Rings.{Ring, TookSo, raised_at, raised_where, lowered_at, with_kept, with_fresh}
use Rattle.tv_script.specs.Scripts.{Stop}
use Rattle.tv_script.specs.Services.{Idle}
use Rattle.tv_plan.specs.Console.{ConsoleState, console_part, console_hand, console_rested, received, receive}
use Rattle.tv_console.specs.Parts.{Parts, IsIndex, state_of, kept_of, console_steps}
use Rattle.tv_console.specs.declared.console.Console.TheInside.{Inside}

abbrev pub seen : Inside → Parts
seen c = record { registers = c.regs; ring = c.ring; ended = c.ended; serving = c.serving }

-- 1. Indices of queues

pub indices_raised : (xs : List ℕ) (n : ℕ) (done : Bool) → All IsIndex xs → All IsIndex (raised_where xs n done)
indices_raised xs n true all = All-set IsIndex xs n _ (omega arith) all
indices_raised xs n false all = all

pub indices_taken : (old new : Ring) (q : QueueRegs) (done : Bool) → All IsIndex old.last → TookSo old new q done → All IsIndex new.last
indices_taken old new q done all h = rw h.last (indices_raised old.last q.number done all)

pub indices_fresh : (r : Ring) (n : ℕ) → All IsIndex r.last → All IsIndex (with_fresh r n).last
indices_fresh r n all = All-set IsIndex r.last n 0 (omega arith) all

pub indices_kept : (r : Ring) (taken : Option ℕ) → All IsIndex r.last → All IsIndex (with_kept r taken).last
indices_kept r None all = all
indices_kept r (Some n) all = All-set IsIndex r.last n _ (omega arith) all

lowered_within : (xs : List ℕ) (n : ℕ) → n < length xs → get_or xs n 0 < 65536 → lowered_at (raised_at xs n) n ≡ xs
lowered_within xs n h k =
    let raised : ℕ = (get_or xs n 0 + 1) % 65536 in
    let same : get_or (set xs n raised) n 0 ≡ raised = get_or-set_same xs n raised 0 h in
    let back : (raised + 65535) % 65536 ≡ get_or xs n 0 = omega arith in
    set-set xs n raised ((get_or (set xs n raised) n 0 + 65535) % 65536) ∙ ap (λ (m : ℕ). set xs n ((m + 65535) % 65536)) same ∙ ap (λ (m : ℕ). set xs n m) back ∙ set-get_or xs n 0

lowered_past : (xs : List ℕ) (n : ℕ) → length xs ≤ n → lowered_at (raised_at xs n) n ≡ xs
lowered_past xs n h = ap (λ (ys : List ℕ). lowered_at ys n) (set_past xs n ((get_or xs n 0 + 1) % 65536) h) ∙ set_past xs n ((get_or xs n 0 + 65535) % 65536) h

-- an index that rose and then fell is as before
lowered_again : (xs : List ℕ) (n : ℕ) → All IsIndex xs → lowered_at (raised_at xs n) n ≡ xs
lowered_again xs n all = elim (cases_lt n (length xs)) [ inl h ↦ lowered_within xs n h (All-get_or IsIndex xs n 0 h all) | inr h ↦ lowered_past xs n h ]

-- 2. A take

kept_last : (r : Ring) (last : List ℕ) (taken : Option ℕ) (n : ℕ) → taken ≡ Some n → lowered_at r.last n ≡ last → (with_kept r taken).last ≡ last
kept_last r last taken n e h = rw e h

kept_used : (r : Ring) (taken : Option ℕ) → (with_kept r taken).used ≡ r.used
kept_used r None = refl
kept_used r (Some n) = refl

-- the chain kept, the state is as before the take
kept_state : (e : Parts) (q : QueueRegs) (new : Ring) → All IsIndex e.ring.last → TookSo e.ring new q true → kept_of (record e { ring = new }) ≡ state_of e
kept_state e q new all h =
    let last : (with_kept new new.taken).last ≡ e.ring.last = kept_last new e.ring.last new.taken q.number h.taken (rw h.last (lowered_again e.ring.last q.number all)) in
    let used : (with_kept new new.taken).used ≡ e.ring.used = kept_used new new.taken ∙ h.used in
    rw (last, used) refl

pub kept_part : (e : Parts) (q : QueueRegs) (new : Ring) (result : Result Taken QueueStop) → All IsIndex e.ring.last → TookSo e.ring new q (is_ok result)
    → OnOk result (console_steps.part (kept_of (record e { ring = new })) ≡ console_steps.part (state_of e))
kept_part e q new (Ok taken) all h = ap console_steps.part (kept_state e q new all h)
kept_part e q new (Err why) all h = tt

-- 3. An input

pub received_none : (kept c : ConsoleState) (q : QueueRegs) (took : Took) (bytes : List ℕ) → length bytes ≡ 0 → received kept c q took bytes ≡ Stop (Idle (record (console_rested kept) { ended = true }))
received_none kept c q took [] h = refl
received_none kept c q took (b ∷ bs) h = absurd (omega (arith, h))

pub received_some : (kept c : ConsoleState) (q : QueueRegs) (took : Took) (bytes answered : List ℕ) (len : ℕ) → 0 < length bytes → answered ≡ bytes → len ≡ length bytes
    → received kept c q took bytes ≡ console_hand c q took (take len answered)
received_some kept c q took [] answered len h a l = absurd (omega (arith, h))
received_some kept c q took (b ∷ bs) answered len h a l =
    let whole : take len answered ≡ b ∷ bs = rw (a, l) (take_all (length (b ∷ bs)) (b ∷ bs) (omega arith)) in
    ap (λ (xs : List ℕ). console_hand c q took xs) (sym whole)

-- 4. Which queue it is

pub part_received : (kept c : ConsoleState) (q : QueueRegs) (took : Took) (most : ℕ) → q.number ≡ 0 → most ≡ min (total took.chain.writable) PIECE_BYTES → console_part kept c q took ≡ receive kept c q took most
part_received kept c q took most n m = rw (n, m) refl
