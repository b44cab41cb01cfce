-- What arguments add to what is given.
use Rattle.std.proofs.Common.{◌≡◌, ℕ, ◌+◌, ◌≤◌, ◌++◌, Bool, true, false, cond, List, [], ◌∷◌, length, refl, sym, ◌∙◌, ap, subst, arith, Option, Some, None, option_map, option_to_list, append_assoc, append-nil, length-append}
use Rattle.std.specs.List.{flat_map}
use Rattle.tv_words.specs.declared.word.Setting.{Setting}
use Rattle.tv_words.specs.declared.word.Setting.TheVariants.{Steps, Journal}
use Rattle.tv_words.specs.Arguments.{Argument, plain, apart, joined, bare, name_in, value_in, flats_in, Given}
use Rattle.tv_words.specs.Reading.{one_more, once, with_name, with_value, with_flat}

abbrev pub count : Bool → ℕ
count b = cond b 1 0

-- arguments and further names add this
pub record Adds (arguments : List Argument) (names : List (List ℕ)) (old new : Given) : Type 0 where
  pub names_are : old.names ++ (flat_map name_in arguments ++ names) ≡ new.names
  pub steps_are : option_to_list old.steps ++ flat_map (value_in Steps) arguments ≡ option_to_list new.steps
  pub journal_is : option_to_list old.journal ++ flat_map (value_in Journal) arguments ≡ option_to_list new.journal
  pub flat_is : count old.flat + flats_in arguments ≡ count new.flat

-- what is given with one more argument, if there is room for it
abbrev pub added : Argument → Given → Option Given
added (plain text) g = with_name g text
added (apart which value) g = with_value which g value
added (joined which value) g = with_value which g value
added bare g = with_flat g

abbrev parts : List (List ℕ) → Option (List ℕ) → Option (List ℕ) → Bool → Given
parts ns s j f = record { names = ns; steps = s; journal = j; flat = f }

-- nothing added is nothing changed
same_option : (o o' : Option (List ℕ)) → option_to_list o ++ [] ≡ option_to_list o' → o ≡ o'
same_option None None e = refl
same_option None (Some y) e = absurd (cc)
same_option (Some x) None e = absurd (cc)
same_option (Some x) (Some y) e = cc

same_count : (f f' : Bool) → count f + 0 ≡ count f' → f ≡ f'
same_count true true e = refl
same_count true false e = absurd (omega arith)
same_count false true e = absurd (omega arith)
same_count false false e = refl

same_parts : (n n' : List (List ℕ)) (s s' j j' : Option (List ℕ)) (f f' : Bool) → n ≡ n' → s ≡ s' → j ≡ j' → f ≡ f' → parts n s j f ≡ parts n' s' j' f'
same_parts n n' s s' j j' f f' en es ej ef = cc

pub same_given : (g h : Given) → Adds [] [] g h → g ≡ h
same_given g h adds =
    same_parts _ _ _ _ _ _ _ _ (sym (append-nil g.names) ∙ adds.names_are) (same_option _ _ adds.steps_are) (same_option _ _ adds.journal_is) (same_count _ _ adds.flat_is)

-- one argument adds what it gives
one_more_is : (names : List (List ℕ)) (text : List ℕ) (more : List (List ℕ)) → one_more names text ≡ Some more → names ++ (text ∷ []) ≡ more
one_more_is [] text more e = cc
one_more_is (first ∷ []) text more e = cc
one_more_is (first ∷ second ∷ rest) text more e = absurd (cc)

once_is : (o : Option (List ℕ)) (text : List ℕ) (more : Option (List ℕ)) → once o text ≡ Some more → option_to_list o ++ (text ∷ []) ≡ option_to_list more
once_is None text None e = absurd (cc)
once_is None text (Some value) e = cc
once_is (Some old) text more e = absurd (cc)

name_adds : (ns : List (List ℕ)) (s j : Option (List ℕ)) (f : Bool) (text : List ℕ) (new : Given) (o : Option (List (List ℕ))) → one_more ns text ≡ o
    → option_map (λ all. parts all s j f) o ≡ Some new → Adds (plain text ∷ []) [] (parts ns s j f) new
name_adds ns s j f text new None is e = absurd (cc)
name_adds ns s j f text new (Some more) is e =
    let at : parts more s j f ≡ new = cc in
    subst (λ (h : Given). Adds (plain text ∷ []) [] (parts ns s j f) h) at
    (record { names_are = one_more_is ns text more is; steps_are = append-nil _; journal_is = append-nil _; flat_is = omega arith })

-- the option's value is the one thing that is added
pub record AddsValue (which : Setting) (value : List ℕ) (old new : Given) : Type 0 where
  pub names_are : old.names ≡ new.names
  pub steps_are : option_to_list old.steps ++ value_in Steps (apart which value) ≡ option_to_list new.steps
  pub journal_is : option_to_list old.journal ++ value_in Journal (apart which value) ≡ option_to_list new.journal
  pub flat_is : old.flat ≡ new.flat

steps_add : (ns : List (List ℕ)) (s j : Option (List ℕ)) (f : Bool) (value : List ℕ) (new : Given) (o : Option (Option (List ℕ))) → once s value ≡ o
    → option_map (λ more. parts ns more j f) o ≡ Some new → AddsValue Steps value (parts ns s j f) new
steps_add ns s j f value new None is e = absurd (cc)
steps_add ns s j f value new (Some more) is e =
    let at : parts ns more j f ≡ new = cc in
    subst (λ (h : Given). AddsValue Steps value (parts ns s j f) h) at
    (record { names_are = refl; steps_are = once_is s value more is; journal_is = append-nil _; flat_is = refl })

journal_adds : (ns : List (List ℕ)) (s j : Option (List ℕ)) (f : Bool) (value : List ℕ) (new : Given) (o : Option (Option (List ℕ))) → once j value ≡ o
    → option_map (λ more. parts ns s more f) o ≡ Some new → AddsValue Journal value (parts ns s j f) new
journal_adds ns s j f value new None is e = absurd (cc)
journal_adds ns s j f value new (Some more) is e =
    let at : parts ns s more f ≡ new = cc in
    subst (λ (h : Given). AddsValue Journal value (parts ns s j f) h) at
    (record { names_are = refl; steps_are = append-nil _; journal_is = once_is j value more is; flat_is = refl })

value_adds : (which : Setting) (value : List ℕ) (old new : Given) → with_value which old value ≡ Some new → AddsValue which value old new
value_adds Steps value old new e = steps_add old.names old.steps old.journal old.flat value new _ refl e
value_adds Journal value old new e = journal_adds old.names old.steps old.journal old.flat value new _ refl e

apart_adds : (which : Setting) (value : List ℕ) (old new : Given) → AddsValue which value old new → Adds (apart which value ∷ []) [] old new
apart_adds which value old new adds = record {
  names_are = append-nil _ ∙ adds.names_are;
  steps_are = ap (λ given. option_to_list old.steps ++ given) (append-nil _) ∙ adds.steps_are;
  journal_is = ap (λ given. option_to_list old.journal ++ given) (append-nil _) ∙ adds.journal_is;
  flat_is = rw adds.flat_is (omega arith);
}

joined_adds : (which : Setting) (value : List ℕ) (old new : Given) → AddsValue which value old new → Adds (joined which value ∷ []) [] old new
joined_adds Steps value old new adds = record {
  names_are = append-nil _ ∙ adds.names_are;
  steps_are = adds.steps_are;
  journal_is = adds.journal_is;
  flat_is = rw adds.flat_is (omega arith);
}
joined_adds Journal value old new adds = record {
  names_are = append-nil _ ∙ adds.names_are;
  steps_are = adds.steps_are;
  journal_is = adds.journal_is;
  flat_is = rw adds.flat_is (omega arith);
}

bare_adds : (ns : List (List ℕ)) (s j : Option (List ℕ)) (f : Bool) (new : Given) → with_flat (parts ns s j f) ≡ Some new → Adds (bare ∷ []) [] (parts ns s j f) new
bare_adds ns s j true new e = absurd (cc)
bare_adds ns s j false new e =
    let at : parts ns s j true ≡ new = cc in
    subst (λ (h : Given). Adds (bare ∷ []) [] (parts ns s j false) h) at
    (record { names_are = append-nil _; steps_are = append-nil _; journal_is = append-nil _; flat_is = refl })

pub added_adds : (argument : Argument) (old new : Given) → added argument old ≡ Some new → Adds (argument ∷ []) [] old new
added_adds (plain text) old new e = name_adds old.names old.steps old.journal old.flat text new _ refl e
added_adds (apart which value) old new e = apart_adds which value old new (value_adds which value old new e)
added_adds (joined which value) old new e = joined_adds which value old new (value_adds which value old new e)
added_adds bare old new e = bare_adds old.names old.steps old.journal old.flat new e

-- one argument and then others
flats_cons : (argument : Argument) (arguments : List Argument) → flats_in (argument ∷ arguments) ≡ flats_in (argument ∷ []) + flats_in arguments
flats_cons (plain text) arguments = omega arith
flats_cons (apart which value) arguments = omega arith
flats_cons (joined which value) arguments = omega arith
flats_cons bare arguments = omega arith

regroup : {A : Type 0} → (a b c d : List A) → (a ++ ((b ++ []) ++ [])) ++ (c ++ d) ≡ a ++ ((b ++ c) ++ d)
regroup a b c d = simp (append_assoc, append-nil)

regroup-2 : {A : Type 0} → (a b c : List A) → (a ++ (b ++ [])) ++ c ≡ a ++ (b ++ c)
regroup-2 a b c = simp (append_assoc, append-nil)

pub adds_both : (argument : Argument) (arguments : List Argument) (names : List (List ℕ)) (g h k : Given)
    → Adds (argument ∷ []) [] g h → Adds arguments names h k → Adds (argument ∷ arguments) names g k
adds_both argument arguments names g h k first second = record {
  names_are = sym (regroup g.names (name_in argument) (flat_map name_in arguments) names) ∙ ap (λ l. l ++ (flat_map name_in arguments ++ names)) first.names_are ∙ second.names_are;
  steps_are = sym (regroup-2 (option_to_list g.steps) (value_in Steps argument) (flat_map (value_in Steps) arguments)) ∙ ap (λ l. l ++ flat_map (value_in Steps) arguments) first.steps_are ∙ second.steps_are;
  journal_is = sym (regroup-2 (option_to_list g.journal) (value_in Journal argument) (flat_map (value_in Journal) arguments)) ∙ ap (λ l. l ++ flat_map (value_in Journal) arguments) first.journal_is ∙ second.journal_is;
  flat_is = omega (arith, flats_cons argument arguments, first.flat_is, second.flat_is);
}

pub adds_rest : (argument : Argument) (arguments : List Argument) (names : List (List ℕ)) (g h k : Given)
    → Adds (argument ∷ []) [] g h → Adds (argument ∷ arguments) names g k → Adds arguments names h k
adds_rest argument arguments names g h k first both = record {
  names_are = ap (λ l. l ++ (flat_map name_in arguments ++ names)) (sym first.names_are) ∙ regroup g.names (name_in argument) (flat_map name_in arguments) names ∙ both.names_are;
  steps_are = ap (λ l. l ++ flat_map (value_in Steps) arguments) (sym first.steps_are) ∙ regroup-2 (option_to_list g.steps) (value_in Steps argument) (flat_map (value_in Steps) arguments) ∙ both.steps_are;
  journal_is = ap (λ l. l ++ flat_map (value_in Journal) arguments) (sym first.journal_is) ∙ regroup-2 (option_to_list g.journal) (value_in Journal argument) (flat_map (value_in Journal) arguments) ∙ both.journal_is;
  flat_is = omega (arith, flats_cons argument arguments, first.flat_is, both.flat_is);
}

-- there is room for an argument where what is given in the end has two names at most
pub record HasRoom (argument : Argument) (g : Given) : Type 0 where
  pub given : Given
  pub is : added argument g ≡ Some given

name_room : (ns : List (List ℕ)) (s j : Option (List ℕ)) (f : Bool) (text : List ℕ) (rest new : List (List ℕ)) → ns ++ (text ∷ rest) ≡ new → length new ≤ 2
    → HasRoom (plain text) (parts ns s j f)
name_room [] s j f text rest new e few = record { given = parts (text ∷ []) s j f; is = refl }
name_room (first ∷ []) s j f text rest new e few = record { given = parts (first ∷ text ∷ []) s j f; is = refl }
name_room (first ∷ second ∷ more) s j f text rest new e few =
    absurd (omega (arith, length-append more (text ∷ rest), ap length e))

once_room : (o new : Option (List ℕ)) (value : List ℕ) (rest : List (List ℕ)) → option_to_list o ++ (value ∷ rest) ≡ option_to_list new → once o value ≡ Some (Some value)
once_room None new value rest e = refl
once_room (Some old) None value rest e = absurd (cc)
once_room (Some old) (Some other) value rest e = absurd (cc)

value_room : (which : Setting) (value : List ℕ) (arguments : List Argument) (names : List (List ℕ)) (g k : Given) → Adds (apart which value ∷ arguments) names g k
    → (h : Given) × (with_value which g value ≡ Some h)
value_room Steps value arguments names g k adds = (record g { steps = Some value }, rw (once_room g.steps k.steps value _ adds.steps_are) refl)
value_room Journal value arguments names g k adds = (record g { journal = Some value }, rw (once_room g.journal k.journal value _ adds.journal_is) refl)

as_apart : (which : Setting) (value : List ℕ) (arguments : List Argument) (names : List (List ℕ)) (g k : Given)
    → Adds (joined which value ∷ arguments) names g k → Adds (apart which value ∷ arguments) names g k
as_apart Steps value arguments names g k adds =
    record { names_are = adds.names_are; steps_are = adds.steps_are; journal_is = adds.journal_is; flat_is = adds.flat_is }
as_apart Journal value arguments names g k adds =
    record { names_are = adds.names_are; steps_are = adds.steps_are; journal_is = adds.journal_is; flat_is = adds.flat_is }

bare_room : (ns : List (List ℕ)) (s j : Option (List ℕ)) (f f' : Bool) (n : ℕ) → count f + (n + 1) ≡ count f' → HasRoom bare (parts ns s j f)
bare_room ns s j false f' n e = record { given = parts ns s j true; is = refl }
bare_room ns s j true true n e = absurd (omega arith)
bare_room ns s j true false n e = absurd (omega arith)

pub has_room : (argument : Argument) (arguments : List Argument) (names : List (List ℕ)) (g k : Given)
    → Adds (argument ∷ arguments) names g k → length k.names ≤ 2 → HasRoom argument g
has_room (plain text) arguments names g k adds few = name_room g.names g.steps g.journal g.flat text _ k.names adds.names_are few
has_room (apart which value) arguments names g k adds few =
    let room : (h : Given) × (with_value which g value ≡ Some h) = value_room which value arguments names g k adds in
    record { given = room.0; is = room.1 }
has_room (joined which value) arguments names g k adds few =
    let room : (h : Given) × (with_value which g value ≡ Some h) = value_room which value arguments names g k (as_apart which value arguments names g k adds) in
    record { given = room.0; is = room.1 }
has_room bare arguments names g k adds few = bare_room g.names g.steps g.journal g.flat k.flat _ adds.flat_is
