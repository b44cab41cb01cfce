use Rattle.std.proofs.Common.{◌≡◌, ◌+◌, ◌≤◌, ℕ, subst}
use Rattle.tv_journal.specs.Entries.{record_count}
use Rattle.tv_spec.specs.Held.{held_from, held_of, own}
use Rattle.tv_spec.specs.Room.{owed}
use Rattle.tv_spec.proofs.HeldFold.{held_after}
use Rattle.tv_core.specs.Fields.{parts_of, seen_in}
use Rattle.tv_core.specs.Seen.{Seen, HasHart, dev_of, first_by, history, setup_by, state_of}
use Rattle.tv_core.specs.Stands.{IsUnderWay}
use Rattle.tv_core.proofs.Waiting.{loads_under_way}
use Rattle.tv_core.proofs.proxied.Proxied.is_legal.Goals as goal

pub returns-clause-held : goal.returns-clause-held
returns-clause-held c = λ d.
    subst (λ (s : Seen). held_of (dev_of s d) ≡ held_from (held_of ((first_by s).devs d)) (own (setup_by s) (first_by s) d (history s))) c.self.view_is
    (held_after (setup_by (seen_in c.self.inside)) (first_by (seen_in c.self.inside)) d (history (seen_in c.self.inside)) c.self.invariant.legal)

pub returns-clause-room : goal.returns-clause-room
returns-clause-room c = subst (λ (s : Seen). record_count s.entries + owed (state_of s) ≤ s.machine.journal_entries) c.self.view_is c.self.invariant.room

pub returns-clause-loads : goal.returns-clause-loads
returns-clause-loads c =
    subst (λ (s : Seen). (hart : ℕ) → HasHart s hart → IsUnderWay (state_of s).devs ((state_of s).pending hart)) c.self.view_is
    (λ hart exists. loads_under_way (parts_of c.self.inside) c.self.invariant hart exists)
