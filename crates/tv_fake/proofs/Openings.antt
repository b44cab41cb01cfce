-- Objects that a store gives, or refuses to give.
use Rattle.std.proofs.Common.{◌≡◌, ℕ, List, Some, Result, Ok, Err, true, refl, ap, sym, ◌∙◌, arith}
use Rattle.std.specs.Result.{is_err}
use Rattle.tv_out.specs.Asked.{HasOpened, Kind, after_load}
use Rattle.tv_out.specs.Shelf as told
use Rattle.tv_out.specs.Shelf.{first_named, without_first, after_giving}
use Rattle.tv_out.specs.Told.{ToldStore, StoreScript, Files}
use Rattle.tv_fake.specs.declared.shelf.Named.{Named}
use Rattle.tv_fake.specs.declared.tally.Tally.{Tally}
use Rattle.tv_fake.specs.Giving.{IsGift}
use Rattle.tv_fake.specs.Shelf.{objects, shelf_of}
use Rattle.tv_fake.specs.Tally.{faults_by_name}
use Rattle.tv_fake.proofs.Raised.{raised-none}
use Rattle.tv_fake.proofs.Views.{given, not_due, due, shelf-given}

-- what a store tells by these parts
abbrev pub telling : Files → Tally → StoreScript → ToldStore
telling files tally script = record { files = files; faults = tally.total; name_faults = Some (faults_by_name tally); script = Some script }

-- an object was given
pub opened : {T A E : Type 0} (kind : Kind A) (IsNew : A → Type 0) (view : T → A) (name : List ℕ) (files : Files) (script : StoreScript) (before now : Tally)
    (entries left : List (Named T)) (object : T) → kind.shelf script ≡ shelf_of view entries → IsNew (view object)
    → IsGift {E = E} script.calls name before now (first_named name (objects entries)) (Ok object) → objects left ≡ after_giving {E = E} (Ok object) name (objects entries)
    → HasOpened {E = E} kind IsNew name (telling files before script) (telling files now (kind.with_shelf (after_load script) (shelf_of view left))) (Ok (view object))
opened {A = A} {E = E} kind IsNew view name files script before now entries left object stands is_new gift rest = record {
  is_new = is_new;
  is_given = rw stands (given view name entries object gift.1);
  asked = rw gift.2 (record {
    files = refl;
    elsewhere = raised-none before.counts.items before.others name;
    cause = record { later = omega arith; failed = tt };
    at_name = tt;
  });
  follows = rw stands (not_due view script.calls name before entries object gift.0 gift.1, rw gift.2 refl);
  script = ap (λ (shelf : List (told.Named A)). Some (kind.with_shelf (after_load script) shelf))
      (shelf-given {E = E} view name entries left (Ok object) rest ∙ ap (λ (shelf : List (told.Named A)). without_first name shelf) (sym stands));
}

-- none was given
pub refused : {T A E : Type 0} (kind : Kind A) (IsNew : A → Type 0) (view : T → A) (name : List ℕ) (files : Files) (script : StoreScript) (before now : Tally)
    (entries left : List (Named T)) (answer : Result A E) (failed : E) → kind.shelf script ≡ shelf_of view entries → is_err answer ≡ true
    → IsGift {T = T} script.calls name before now (first_named name (objects entries)) (Err failed) → objects left ≡ after_giving {T = T} (Err failed) name (objects entries)
    → HasOpened kind IsNew name (telling files before script) (telling files now (kind.with_shelf (after_load script) (shelf_of view left))) answer
refused kind IsNew view name files script before now entries left (Ok _) failed stands is gift rest = absurd (cc is)
refused {A = A} kind IsNew view name files script before now entries left (Err _) failed stands is gift rest = record {
  is_new = tt;
  is_given = tt;
  asked = record {
    files = refl;
    elsewhere = gift.1.elsewhere;
    cause = record { later = gift.1.later; failed = omega (arith, gift.1.total) };
    at_name = omega (arith, gift.1.at_name);
  };
  follows = rw stands (due view script.calls name before entries gift.0, gift.1.total);
  script = ap (λ (shelf : List (told.Named A)). Some (kind.with_shelf (after_load script) shelf))
      (shelf-given {X = A} view name entries left (Err failed) rest ∙ sym stands);
}
