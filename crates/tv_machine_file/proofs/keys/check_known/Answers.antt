use Rattle.std.proofs.Common.{rules, ◌≡◌, ◌∷◌, Some, string_bytes, false, true, sym, subst, ap, ◌∙◌}
use Rattle.std.proofs.lemmas.Map.Keys.{sorted_tail}
use Rattle.std.specs.List.Sorted.{IsStrictlySortedBy}
use Rattle.std.specs.String.{string_cmp}
use Rattle.tv_machine_file.specs.declared.fault.FileFault.TheVariants.{Unknown}
use Rattle.tv_machine_file.specs.Keys.{is_among, known_keys, key_path}
use Rattle.tv_machine_file.proofs.Unknown.{first_unknown}
use Rattle.tv_machine_file.proofs.keys.check_known.Goals as goal

pub returns-then-not-is_known-clause-fault : goal.returns-then-not-is_known-clause-fault
returns-then-not-is_known-clause-fault c =
    let step : c.loop-key.key-iterator ≡ c.in-Some.key.now ∷ c.next.new.self = search rules in
    let unknown : is_among (string_bytes c.in-Some.key.now) (known_keys c.args.kind) ≡ false = search rules in
    let fault = first_unknown c.args.kind c.args.path.now c.in-Some.key.now c.next.new.self (subst (IsStrictlySortedBy string_cmp) step c.loop-key.invariant.sorted) unknown in (
      c.broken.ensures.key,
      λ n. rw (c.loop-key.invariant.unknown, step, fault)
          (sym (ap Some (c.broken.ensures.fault n ∙ ap (λ text. Unknown (key_path c.args.path.now text)) c.as_str-then-not-is_known.ensures.value))),
    )

pub loop-key-preserved : goal.loop-key-preserved
loop-key-preserved c =
    let step : c.loop-key.key-iterator ≡ c.in-Some.key.now ∷ c.next.new.self = search rules in
    let known : is_among (string_bytes c.in-Some.key.now) (known_keys c.args.kind) ≡ true = search rules in
    record {
      unknown = c.loop-key.invariant.unknown ∙ rw (step, known);
      sorted = sorted_tail string_cmp c.in-Some.key.now c.next.new.self (subst (IsStrictlySortedBy string_cmp) step c.loop-key.invariant.sorted);
    }
