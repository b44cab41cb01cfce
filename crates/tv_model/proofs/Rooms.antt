-- Memory for an item more, at each device.
use Rattle.std.proofs.Common.{◌≡◌, ℕ, ◌+◌, ◌<◌, true, inl, inr, List, [], ◌∷◌, zero, suc, length, map, get_or, set, refl, ap, sym, ◌∙◌, arith}
use Rattle.std.proofs.lemmas.Bool.Decides.{eqb_tells}
use Rattle.std.proofs.lemmas.Grind.{get_or-set_at}
use Rattle.std.proofs.lemmas.List.{get_or-set_other}
use Rattle.std.proofs.Math.Seq.{map-set_same}
use Rattle.tv_spec.specs.State.{DeviceRun}
use Rattle.tv_spec.proofs.Updates.{same_function}
use Rattle.tv_model.specs.MonitorState.{SlotState, no_slot, run_at}
use Rattle.tv_model.specs.Parts.{HasRoom, run_of}

-- the first i have it
abbrev pub HaveRoom : List SlotState → ℕ → Type 0
HaveRoom slots i = (k : ℕ) → k < i → HasRoom (get_or slots k no_slot)

pub room_more : (slots : List SlotState) (i : ℕ) (x : SlotState) → i < length slots → HaveRoom slots i → x.spare ≡ true → HaveRoom (set slots i x) (i + 1)
room_more slots i x within room spare k below = elim (eqb_tells k i) [
  | inl same ↦ ap (λ (s : SlotState). s.spare) (get_or-set_at slots i k x no_slot same.1 within) ∙ spare
  | inr other ↦ ap (λ (s : SlotState). s.spare) (get_or-set_other slots i k x no_slot other.1) ∙ room k (omega (arith, below, other.1))
]

pub runs_same : (slots : List SlotState) (i : ℕ) (x was : SlotState) → x.run ≡ (get_or slots i was).run → map run_of (set slots i x) ≡ map run_of slots
runs_same slots i x was same = map-set_same run_of slots i x was same

pub run_mapped : (slots : List SlotState) (j : ℕ) → run_at slots j ≡ get_or (map run_of slots) j no_slot.run
run_mapped [] j = refl
run_mapped (s ∷ slots) zero = refl
run_mapped (s ∷ slots) (suc j) = run_mapped slots j

pub runs_at : (slots later : List SlotState) → map run_of later ≡ map run_of slots → ◌≡◌ {A = ℕ → DeviceRun} (run_at later) (run_at slots)
runs_at slots later same = same_function _ _ (λ (j : ℕ).
    run_mapped later j ∙ ap (λ (rs : List DeviceRun). get_or rs j no_slot.run) same ∙ sym (run_mapped slots j))
