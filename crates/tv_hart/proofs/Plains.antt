-- An event that is not counted yet is the event, whatever the control and status registers are.
use Rattle.std.proofs.Common.{◌≡◌, ℕ, ◌%◌, ◌==◌, true, Some, None, refl, ap, ◌∙◌}
use Rattle.tv_base.specs.declared.Width.{Width}
use Rattle.tv_hart.specs.declared.Did.TheVariants.{Retired}
use Rattle.tv_hart.specs.declared.effect.Effect.{Effect}
use Rattle.tv_hart.specs.declared.effect.Effect.TheVariants as effect
use Rattle.tv_hart.specs.declared.loads.Extension.{Extension}
use Rattle.tv_hart.specs.declared.place.Loaded.{Loaded}
use Rattle.tv_hart.specs.declared.place.Stored.{Stored}
use Rattle.tv_hart.specs.Effect.{effect_of}
use Rattle.tv_hart.specs.Hart.{after_load, after_store, carried, fetched, interrupted, next_pc, row, with_csrs}
use Rattle.tv_hart.specs.HartState.{HartState}
use Rattle.tv_hart.specs.Operation.{operation_of}
use Rattle.tv_hart.specs.Place.{Meaning}
use Rattle.tv_hart.specs.Plain.{moved, IsPlainEvent, IsNumberLoaded, IsNumberStored}
use Rattle.tv_isa.specs.declared.Instr.{Instr}
use Rattle.tv_isa.specs.Table.{reading}
use Rattle.tv_trap.specs.CsrState.{CsrState}
use Rattle.tv_trap.specs.Traps.{counted}

-- an effect comes to this, whatever the control and status registers are
abbrev pub ComesTo : {P : Type 0} → Meaning P → HartState → P → ℕ → Effect → HartState → P → Type 0
ComesTo m h p word e new q =
    (csrs : CsrState) (lines : ℕ) → csrs.hart ≡ h.csrs.hart → carried m (with_csrs h csrs) p lines word e ≡ (Retired, with_csrs new (counted csrs true None), q)

-- so does the event at whose pc a word of this effect lies
pub plain_event : {P : Type 0} (m : Meaning P) (h new : HartState) (p q : P) (word : ℕ) (instr : Instr) (e : Effect)
    → m.fetch p h.pc ≡ Some word → reading word ≡ Some instr → effect_of (operation_of instr) h.registers h.pc ≡ e → ComesTo m h p word e new q → IsPlainEvent m h p new q
plain_event {P = P} m h new p q word instr e fetch_is read_is effect_is comes csrs lines same none =
    let here : HartState = with_csrs h csrs in
    ap (interrupted m here p lines) none
    ∙ ap (fetched m here p lines) fetch_is
    ∙ ap (row m here p lines word) read_is
    ∙ ap (carried m here p lines word) effect_is
    ∙ comes csrs lines same

-- effect by effect
pub put_comes : {P : Type 0} (m : Meaning P) (h new : HartState) (p : P) (word rd value : ℕ) → new ≡ moved h (next_pc h) rd value → ComesTo m h p word (effect.Put rd value) new p
put_comes m h new p word rd value is csrs lines same = rw is refl

pub pass_comes : {P : Type 0} (m : Meaning P) (h new : HartState) (p : P) (word : ℕ) → new ≡ moved h (next_pc h) 0 0 → ComesTo m h p word effect.Pass new p
pass_comes m h new p word is csrs lines same = rw is refl

pub jump_comes : {P : Type 0} (m : Meaning P) (h new : HartState) (p : P) (word rd target : ℕ) → (target % 4 == 0) ≡ true → new ≡ moved h target rd (next_pc h)
    → ComesTo m h p word (effect.Jump rd target) new p
jump_comes m h new p word rd target aligned is csrs lines same = rw (is, aligned) refl

pub goto_comes : {P : Type 0} (m : Meaning P) (h new : HartState) (p : P) (word target : ℕ) → (target % 4 == 0) ≡ true → new ≡ moved h target 0 (next_pc h)
    → ComesTo m h p word (effect.Goto target) new p
goto_comes m h new p word target aligned is csrs lines same = rw (is, aligned) refl

pub load_comes : {P : Type 0} (m : Meaning P) (h new : HartState) (p : P) (word : ℕ) (width : Width) (extension : Extension) (rd addr : ℕ) → IsNumberLoaded m h p width extension rd addr new
    → ComesTo m h p word (effect.Load width extension rd addr) new p
load_comes {P = P} m h new p word width extension rd addr is csrs lines same =
    let here : HartState = with_csrs h csrs in
    let loads : m.load p csrs.hart width addr ≡ _ = is.load csrs.hart in
    rw (is.aligned, is.hart) (ap (λ (r : Loaded × P). after_load here width extension rd addr r) loads)

pub store_comes : {P : Type 0} (m : Meaning P) (h new : HartState) (p q : P) (word : ℕ) (width : Width) (addr value : ℕ) → IsNumberStored m h p width addr value new q
    → ComesTo m h p word (effect.Store width addr value) new q
store_comes {P = P} m h new p q word width addr value is csrs lines same =
    let here : HartState = with_csrs h csrs in
    let stores : m.store p csrs.hart width addr value ≡ _ = ap (λ (n : ℕ). m.store p n width addr value) same ∙ is.store in
    rw (is.aligned, is.hart) (ap (λ (r : Stored × P). after_store here addr r) stores)
