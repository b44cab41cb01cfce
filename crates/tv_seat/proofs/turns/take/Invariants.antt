use Rattle.std.proofs.Common.{◌≡◌, ℕ, ◌%◌, ◌^◌, []}
use Rattle.tv_seat.specs.declared.views.Stage.TheVariants.{Waits}
use Rattle.tv_seat.proofs.turns.take.Given as goal

-- the seat waits with the ticket that it drew
abbrev pub invariant-loop : goal.invariant-loop
invariant-loop g l =
    (l.token.table_id ≡ l.fn.token.table_id)
    × (t : ℕ) × (t % 2 ^ 64 ≡ l.ticket) × (l.token.me ≡ (record l.fn.token.me.0 { stage = Waits t }, []))
