use Rattle.std.proofs.Common.{◌≡◌, ◌≤◌, ℕ, true, sym, subst, slice_set, arith}
use Rattle.tv_fake.specs.declared.shelf.Named.{Named}
use Rattle.tv_fake.specs.Shelf.{is_named}
use Rattle.tv_fake.specs.Tally.{faults_in}
use Rattle.tv_fake.proofs.Raised.{raised-listed, raised-unlisted}
use Rattle.tv_fake.proofs.tally.Tally.raise.Goals as goal

pub returns-in-Some-clause-elsewhere : goal.returns-in-Some-clause-elsewhere
returns-in-Some-clause-elsewhere c =
    let counts = c.args.self.now.counts.items in
    let name = c.args.name.now in
    let entry = c.index_mut-count.result.now in
    let raised : Named ℕ = record { name = entry.name; object = c.saturating_add-count.result } in
    let named : is_named name entry ≡ true = subst (λ (e : Named ℕ). is_named name e ≡ true) (sym c.index_mut-count.ensures.value) (c.in-Some.ensures.found.named _) in
    let more : (faults_in counts c.args.self.now.others).count_of name ≤ c.saturating_add-count.result =
    rw (c.in-Some.ensures.found.first entry) (subst (λ (e : Named ℕ). e.object ≤ c.saturating_add-count.result) c.index_mut-count.ensures.value (omega arith)) in
    raised-listed name counts (slice_set counts c.in-Some.at raised) c.args.self.now.others c.saturating_add-count.result
    (c.in-Some.ensures.found.replaced raised named) more

pub returns-in-None-clause-elsewhere : goal.returns-in-None-clause-elsewhere
returns-in-None-clause-elsewhere c =
    raised-unlisted c.args.name.now c.args.self.now.counts.items c.args.self.now.others c.saturating_add-self-in-None.result (omega arith)
