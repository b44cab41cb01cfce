-- A round of the console.
use Rattle.std.proofs.Common.{◌≡◌, ◌≤◌, ◌+◌, ◌∙◌, min, ℕ, zero, suc, Bool, true, false, if◌then◌else◌, List, [], ◌∷◌, ◌++◌, length, take, drop, slice_index, Some, refl, ap, sym, arith, append_assoc, append-nil}
use Rattle.std.proofs.lemmas.List.{length-drop, length-take, take-append-drop}
use Rattle.tv_script.specs.Scripts.{Script, Over, ◌>>=◌, caught}
use Rattle.tv_script.specs.Services.{End}
use Rattle.tv_virtio.specs.declared.queue.QueueRegs.{QueueRegs}
use Rattle.tv_virtio.specs.declared.queue.QueueStop.{QueueStop}
use Rattle.tv_virtio.specs.declared.queue.Span.{Span}
use Rattle.tv_virtio.specs.Spans.{pieces, total}
use Rattle.tv_virtio.specs.Queue.{Took, take_chain, give_chain}
use Rattle.tv_plan.specs.Serving.{index_raised}
use Rattle.tv_plan.specs.Console.{ConsoleState, console_finish, console_hand, console_part, console_round, console_stopped, input, put_all, put_pieces, receive, received, sent, transmit}
use Rattle.tv_quiet.specs.World.{World, Performed, perform}
use Rattle.tv_quiet.specs.Meaning.{GivenSo, IsQuiet, cut, is_wanted}
use Rattle.tv_quiet.specs.Consoles.{ReceivedSo, SentSo, console_after, most_taken}
use Rattle.tv_quiet.proofs.Memory.{not_zero}
use Rattle.tv_quiet.proofs.Leaving.{perform_caught_value, takes}
use Rattle.tv_quiet.proofs.Filled.{total_first, total_pieces}
use Rattle.tv_quiet.proofs.Cuts.{gave_first}

-- 1. Puts

output_same : (w : World) (b1 b2 : List ℕ) → b1 ≡ b2
    → (let r : Performed QueueStop Bool = record { world = record w { output = b1 }; end = Over true } in r) ≡ record { world = record w { output = b2 }; end = Over true }
output_same w b1 b2 e = rw e refl

pieces_put : (w : World) (ps : List Span) (bytes : List ℕ) → length bytes ≡ total ps
    → perform w (put_pieces ps bytes) ≡ record { world = record w { output = w.output ++ bytes }; end = Over true }
unfolding perform put_pieces ◌>>=◌
pieces_put w [] [] e = output_same w w.output (w.output ++ []) (sym (append-nil w.output))
pieces_put w [] (b ∷ bytes) e = absurd (omega (arith, e))
pieces_put w (p ∷ ps) bytes e =
    let t : total (p ∷ ps) ≡ p.len + total ps = total_first p ps in
    pieces_put (record w { output = w.output ++ take p.len bytes }) ps (drop p.len bytes) (length-drop p.len bytes ∙ omega (arith, t, e))
    ∙ output_same w _ (w.output ++ bytes)
    (append_assoc w.output (take p.len bytes) (drop p.len bytes) ∙ ap (λ (bs : List ℕ). w.output ++ bs) (take-append-drop p.len bytes))

all_put : (w : World) (bytes : List ℕ) → perform w (put_all bytes) ≡ record { world = record w { output = w.output ++ bytes }; end = Over true }
all_put w bytes =
    let s : Span = record { addr = 0; len = length bytes } in
    pieces_put w (pieces s) bytes (sym (total_pieces s))

-- 2. A chain goes back

finished : (w : World) (c : ConsoleState) (wanted : Bool)
    → perform w (console_finish c wanted) ≡ record { world = record w { raised = if wanted then w.raised + 1 else w.raised }; end = (perform w (console_finish c false)).end }
unfolding perform
finished w c true = refl
finished w c false = refl

-- the device after a give, from the state in which its chain was taken
abbrev given_back : ConsoleState → QueueRegs → Script (End ConsoleState) ConsoleState
given_back c q = console_finish (record c { used = index_raised c.used q.number }) false

record Handed (w : World) (c : ConsoleState) (q : QueueRegs) (took : Took) (bytes : List ℕ) : Type 0 where
  memory : ℕ → ℕ
  is : perform w (console_hand c q took bytes) ≡ record {
    world = record w { memory = memory; raised = if is_wanted w.memory q then w.raised + 1 else w.raised };
    end = given_back c q;
  }
  given : GivenSo w.memory memory q (slice_index c.used q.number) took.head (cut (length bytes) took.chain.writable) bytes

handed : (w : World) (c : ConsoleState) (q : QueueRegs) (took : Took) (bytes : List ℕ) → IsQuiet q (slice_index c.used q.number) took.chain.writable
    → length bytes ≤ total took.chain.writable → Handed w c q took bytes
unfolding perform
handed w c q took bytes h few =
    let g = gave_first w q (slice_index c.used q.number) took.head took.chain.writable bytes h few in
    let w2 : World = record w { memory = g.memory } in
    let c2 : ConsoleState = record c { used = index_raised c.used q.number } in
    record {
      memory = g.memory;
      is =
          perform_caught_value w w2 (give_chain q (slice_index c.used q.number) took.head took.chain.writable bytes) (is_wanted w.memory q) (console_stopped c) (console_finish c2) g.is
          ∙ finished w2 c2 (is_wanted w.memory q);
      given = g.given;
    }

-- 3. What goes out

sends : (kept c : ConsoleState) (q : QueueRegs) (took : Took) → q.number ≡ 1 → console_part kept c q took ≡ transmit c q took
sends kept c q took is = rw is refl

pub sent_quiet : (w : World) (c : ConsoleState) (q : QueueRegs) (took : Took) → q.number ≡ 1 → (perform w (take_chain q (slice_index c.last q.number))).end ≡ Over took
    → IsQuiet q (slice_index c.used q.number) took.chain.writable → SentSo w c q took (perform w (console_round c (Some q)))
unfolding perform
sent_quiet w c q took one t h =
    let c1 : ConsoleState = record c { last = index_raised c.last q.number } in
    let w2 : World = record w { output = w.output ++ took.readable } in
    let g = handed w2 c1 q took [] h (omega arith) in
    let is : perform w (console_round c (Some q))
    ≡ record { world = record w2 { memory = g.memory; raised = if is_wanted w.memory q then w.raised + 1 else w.raised }; end = Over (console_after c q) } =
    perform_caught_value w w (take_chain q (slice_index c.last q.number)) took (console_stopped c) (console_part c c1 q) (takes w q (slice_index c.last q.number) took t)
    ∙ ap (λ (s : Script (End ConsoleState) ConsoleState). perform w s) (sends c c1 q took one)
    ∙ perform_caught_value w w2 (put_all took.readable) true (console_stopped c1) (sent c1 q took) (all_put w took.readable)
    ∙ g.is in
    rw is (record { given = g.given; output = refl; raised = refl; end = refl })

-- 4. What comes in

receives : (kept c : ConsoleState) (q : QueueRegs) (took : Took) → q.number ≡ 0 → console_part kept c q took ≡ receive kept c q took (most_taken took)
receives kept c q took is = rw is refl

some_received : (kept c : ConsoleState) (q : QueueRegs) (took : Took) (bytes : List ℕ) → 1 ≤ length bytes → received kept c q took bytes ≡ console_hand c q took bytes
some_received kept c q took [] some = absurd (omega (arith, some))
some_received kept c q took (b ∷ bs) some = refl

asks : (kept c : ConsoleState) (q : QueueRegs) (took : Took) (most : ℕ) → 1 ≤ most
    → receive kept c q took most ≡ caught (input most) (console_stopped c) (received kept c q took)
asks kept c q took most some = rw (not_zero most some) refl

took_input : (w : World) (kept c : ConsoleState) (q : QueueRegs) (took : Took) (most : ℕ) → 1 ≤ length w.input
    → perform w (receive kept c q took most) ≡ perform (record w { input = drop most w.input }) (console_hand c q took (take most w.input))
unfolding perform caught
took_input w kept c q took zero some = refl
took_input w kept c q took (suc most) some =
    let long : length (take (suc most) w.input) ≡ min (suc most) (length w.input) = length-take (suc most) w.input in
    ap (λ (s : Script (End ConsoleState) ConsoleState). perform w s) (asks kept c q took (suc most) (omega arith))
    ∙ ap (λ (s : Script (End ConsoleState) ConsoleState). perform (record w { input = drop (suc most) w.input }) s)
    (some_received kept c q took (take (suc most) w.input) (omega (arith, long, some)))

pub received_quiet : (w : World) (c : ConsoleState) (q : QueueRegs) (took : Took) → q.number ≡ 0 → (perform w (take_chain q (slice_index c.last q.number))).end ≡ Over took
    → 1 ≤ length w.input → IsQuiet q (slice_index c.used q.number) took.chain.writable → ReceivedSo w c q took (perform w (console_round c (Some q)))
unfolding perform
received_quiet w c q took none t some h =
    let most : ℕ = most_taken took in
    let bytes : List ℕ = take most w.input in
    let long : length bytes ≡ min most (length w.input) = length-take most w.input in
    let c1 : ConsoleState = record c { last = index_raised c.last q.number } in
    let w2 : World = record w { input = drop most w.input } in
    let g = handed w2 c1 q took bytes h (omega (arith, long)) in
    let is : perform w (console_round c (Some q))
    ≡ record { world = record w2 { memory = g.memory; raised = if is_wanted w.memory q then w.raised + 1 else w.raised }; end = Over (console_after c q) } =
    perform_caught_value w w (take_chain q (slice_index c.last q.number)) took (console_stopped c) (console_part c c1 q) (takes w q (slice_index c.last q.number) took t)
    ∙ ap (λ (s : Script (End ConsoleState) ConsoleState). perform w s) (receives c c1 q took none)
    ∙ took_input w c c1 q took most some
    ∙ g.is in
    rw is (record { given = g.given; input = refl; raised = refl; end = refl })
