-- A guest as its run begins.
use Rattle.std.proofs.Common.{◌≡◌, ℕ, ◌+◌, ◌≤◌, List, Bool, true, leb, length, refl, ap, ◌∙◌, subst, arith, inl, inr}
use Rattle.std.proofs.lemmas.Bool.{le-leb}
use Rattle.std.proofs.lemmas.Bool.Decides.{eqb_tells}
use Rattle.std.specs.Bool.{OnTrue}
use Rattle.tv_hart.specs.HartState.{HartState}
use Rattle.tv_machine.specs.declared.machine.Machine.{Machine}
use Rattle.tv_ram.specs.Memory.{is_inside, ram_base, with_bytes, with_image, zeros}
use Rattle.tv_ram.proofs.Inside.{image_written, length_zeros}
use Rattle.tv_spec.specs.declared.Mode.TheVariants as mode
use Rattle.tv_spec.specs.LocalState.{LocalState, first_local}
use Rattle.tv_guest.specs.Guest.{AreFirst, IsFirst}
use Rattle.tv_guest.proofs.Guests.{guest_of}

-- an image that fits lies within memory
image_inside : (bytes n : ℕ) → n ≤ bytes → is_inside bytes ram_base n ≡ true
image_inside bytes n fits =
    let last : leb (ram_base + n) (ram_base + bytes) ≡ true = le-leb (ram_base + n) (ram_base + bytes) (omega arith) in
    elim (eqb_tells n 0) [ inl none ↦ rw none.0 refl | inr some ↦ rw (some.0, last) refl ]

pub first_guest : (machine : Machine) (image blank ram : List ℕ) (harts : List HartState) (local : LocalState) (devices : ℕ) (loaded : Bool) → AreFirst harts machine.harts → blank ≡ zeros machine.ram
    → loaded ≡ is_inside (length blank) ram_base (length image) → OnTrue loaded (ram ≡ with_bytes blank ram_base image) → length image ≤ machine.ram
    → devices ≡ length machine.device → local ≡ first_local machine.harts devices ram
    → IsFirst (guest_of harts local mode.Running 0 machine.steps) machine image
first_guest machine image blank ram harts local devices loaded first blank_is loaded_is written fits count local_is =
    let long : length blank ≡ machine.ram = ap length blank_is ∙ length_zeros machine.ram in
    let fits_blank : length image ≤ length blank = omega arith in
    let yes : loaded ≡ true = loaded_is ∙ image_inside (length blank) (length image) fits_blank in
    let done : OnTrue true (ram ≡ with_bytes blank ram_base image) = subst (λ (b : Bool). OnTrue b (ram ≡ with_bytes blank ram_base image)) yes written in
    let ram_is : ram ≡ with_image machine.ram image =
    done ∙ ap (λ (xs : List ℕ). with_bytes xs ram_base image) blank_is ∙ image_written machine.ram image in
    record {
      steps = refl;
      count = first.count_is;
      each = first.each;
      local = local_is ∙ ap (λ (n : ℕ). first_local machine.harts n ram) count ∙ ap (first_local machine.harts (length machine.device)) ram_is;
      mode_is = refl;
      events = refl;
    }
