-- A device acts on its next item, by what the code of that came to.
use Rattle.std.proofs.Common.{◌≡◌, ℕ, ◌+◌, ◌<◌, List, [], ◌++◌, length, get_or, Option, Some, refl, ap, sym, ◌∙◌, subst}
use Rattle.std.proofs.lemmas.Option.{slice_get-get_or}
use Rattle.tv_items.specs.declared.action.Heard.{Heard}
use Rattle.tv_plan.specs.Devices.{Acted, DeviceState, act, next}
use Rattle.tv_script.specs.Services.{Next}
use Rattle.tv_spec.specs.declared.Due.{Due}
use Rattle.tv_spec.specs.declared.Made.{Made}
use Rattle.tv_spec.specs.declared.Phase.{Phase}
use Rattle.tv_spec.specs.Devices.{CanTake, IsOver, NoLoadDue, act_on, answers_of, due_for, next_of, rested}
use Rattle.tv_spec.specs.State.{DeviceRun}
use Rattle.tv_model.specs.Slots.{IsRested, IsTaken, reached_by}

-- a device with nothing under way goes on from what it got
pub next_quiet : (v : DeviceRun) → v.phase ≡ Phase.Quiet → next_of v ≡ next v.device v.got
next_quiet v quiet = rw quiet refl

pub slot_taken : (v : DeviceRun) (m : Made) (other device : DeviceState) (got : List Heard) (due : List Due) (tag value : ℕ) (reached : Option (ℕ × ℕ))
    → got ≡ [] → v.phase ≡ Phase.Quiet → v.acted < length v.made → NoLoadDue v.due → IsRested (next v.device v.got) v.device other
    → m ≡ get_or v.made v.acted m → tag ≡ v.acted → device ≡ (act other tag m.item).device → value ≡ (act other tag m.item).value
    → ((acted : Acted) → acted.value ≡ value → due ≡ v.due ++ due_for tag m.maker (answers_of m.item acted)) → reached ≡ reached_by m value
    → CanTake v × IsTaken v (record { made = v.made; acted = v.acted + 1; device = device; got = got; phase = v.phase; due = due; replied = v.replied }) reached
slot_taken v m other device got due tag value reached none quiet below free rest at tag_is device_is value_is due_is reached_is = (
  record { quiet = quiet; over = subst (λ (n : Next DeviceState). IsOver n) (sym next_is) rest.over; answered = free; more = below },
  record {
    made = m;
    at = slice_get-get_or v.made v.acted m below ∙ ap (λ (x : Made). Some x) (sym at);
    new_is = λ i. record {
      made = v.made;
      acted = v.acted + 1;
      device = (device_is ∙ ap (λ (a : Acted). a.device) (sym act_is)) i;
      got = none i;
      phase = quiet i;
      due = due_path i;
      replied = v.replied;
    };
    reached_is = reached_is ∙ ap (reached_by m) (value_is ∙ ap (λ (a : Acted). a.value) (sym act_is));
  },
)
  where
    next_is : next_of v ≡ next v.device v.got
    next_is = next_quiet v quiet

    act_is : act_on v m ≡ act other tag m.item
    act_is =
        ap (λ (n : Next DeviceState). act (rested v.device n) v.acted m.item) next_is
        ∙ ap (λ (d : DeviceState). act d v.acted m.item) (sym rest.device_is) ∙ ap (λ (n : ℕ). act other n m.item) (sym tag_is)

    due_path : due ≡ v.due ++ due_for v.acted m.maker (answers_of m.item (act_on v m))
    due_path =
        due_is (act_on v m) (ap (λ (a : Acted). a.value) act_is ∙ sym value_is)
        ∙ ap (λ (n : ℕ). v.due ++ due_for n m.maker (answers_of m.item (act_on v m))) tag_is
