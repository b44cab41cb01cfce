use Rattle.std.proofs.Common.{◌≡◌, ℕ, ◌+◌, ◌-◌, ◌++◌, List, length, take, drop, sym, ap, ◌∙◌, arith}
use Rattle.std.proofs.Math.Seq.{take-add}
use Rattle.std.proofs.lemmas.List.{take_at, length-take-le}
use Rattle.tv_fake.proofs.copy.copy_part.Goals as goal

-- the bytes up to the part's end are those before it and the part, which stands at a slice's front
part_front : (bytes part rest : List ℕ) (at count : ℕ) → part ≡ take (at + count - at) (drop at bytes) → length part ≡ count →
    take (at + count) bytes ≡ take at bytes ++ take count (part ++ rest)
part_front bytes part rest at count is long =
    let same : at + count - at ≡ count = omega arith in
    take-add at count bytes
    ∙ ap (λ bytes'. take at bytes ++ bytes') (ap (λ n. take n (drop at bytes)) (sym same) ∙ sym is ∙ sym (take_at part rest count long))

pub returns-clause-before : goal.returns-clause-before
returns-clause-before c =
    part_front c.args.bytes.now c.copy_from_slice.new.self (drop c.args.count c.args.out.now) c.args.at c.args.count
    c.copy_from_slice.ensures.after (omega (arith, length-take-le c.args.count c.args.out.now c.requires.room))
