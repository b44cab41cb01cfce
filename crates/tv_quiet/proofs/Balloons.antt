-- A round of the balloon's first two queues.
use Rattle.std.proofs.Common.{◌≡◌, ◌+◌, ◌*◌, ◌%◌, ◌==◌, ◌∙◌, ℕ, Bool, true, false, if◌then◌else◌, List, [], ◌∷◌, length, slice_index, Some, refl, ap, sym, subst, arith}
use Rattle.std.proofs.lemmas.List.{length-replicate}
use Rattle.byteorder.specs.Endian.{little_number}
use Rattle.tv_base.specs.declared.limits.TheConstants.{PAGE_BYTES}
use Rattle.tv_script.specs.Scripts.{Script, Over, ◌>>=◌, caught}
use Rattle.tv_script.specs.Services.{End}
use Rattle.tv_transport.specs.Registers.{has}
use Rattle.tv_virtio.specs.declared.queue.QueueRegs.{QueueRegs}
use Rattle.tv_virtio.specs.Queue.{Took, take_chain, give_chain}
use Rattle.tv_plan.specs.Serving.{index_raised}
use Rattle.tv_plan.specs.Balloon.{BalloonState, MUST_TELL_HOST, balloon_finish, balloon_hand, balloon_part, balloon_round, balloon_stopped, deflate, each_page, inflate, page_action, page_numbers}
use Rattle.tv_quiet.specs.World.{World, bytes_at, perform, written, zeros}
use Rattle.tv_quiet.specs.Meaning.{Apart, GivenSo, IsQuiet, cut, is_wanted}
use Rattle.tv_quiet.specs.Balloons.{DeflatedSo, InflatedSo, PagesApart, balloon_after, marked, zeroed}
use Rattle.tv_quiet.proofs.Memory.{bytes_at_apart}
use Rattle.tv_quiet.proofs.Leaving.{perform_caught_value, takes}
use Rattle.tv_quiet.proofs.Cuts.{gave_first}

-- 1. Pages

pages_held : (w : World) (pages : List ℕ)
    → perform w (each_page (inflate true) pages) ≡ record { world = record w { memory = zeroed w.memory pages; withdrawn = marked w.withdrawn pages true }; end = Over tt }
unfolding perform each_page ◌>>=◌
pages_held w [] = refl
pages_held w (page ∷ pages) =
    pages_held (record w { memory = written w.memory (page * PAGE_BYTES) zeros; withdrawn = written w.withdrawn page (true ∷ []) }) pages

pages_emptied : (w : World) (pages : List ℕ) → perform w (each_page (inflate false) pages) ≡ record { world = record w { memory = zeroed w.memory pages }; end = Over tt }
unfolding perform each_page ◌>>=◌
pages_emptied w [] = refl
pages_emptied w (page ∷ pages) = pages_emptied (record w { memory = written w.memory (page * PAGE_BYTES) zeros }) pages

pages_inflated : (w : World) (hold : Bool) (pages : List ℕ) → perform w (each_page (inflate hold) pages) ≡ record {
  world = record w { memory = zeroed w.memory pages; withdrawn = if hold then marked w.withdrawn pages true else w.withdrawn };
  end = Over tt;
}
pages_inflated w true pages = pages_held w pages
pages_inflated w false pages = pages_emptied w pages

pages_deflated : (w : World) (pages : List ℕ) → perform w (each_page deflate pages) ≡ record { world = record w { withdrawn = marked w.withdrawn pages false }; end = Over tt }
unfolding perform each_page ◌>>=◌
pages_deflated w [] = refl
pages_deflated w (page ∷ pages) = pages_deflated (record w { withdrawn = written w.withdrawn page (false ∷ []) }) pages

length_zeros : length zeros ≡ PAGE_BYTES
unfolding zeros
length_zeros = length-replicate {A = ℕ} PAGE_BYTES 0

-- bytes apart from the pages stay
zeroed_apart : (m : ℕ → ℕ) (pages : List ℕ) (at n : ℕ) → PagesApart pages at n → bytes_at (zeroed m pages) at n ≡ bytes_at m at n
zeroed_apart m [] at n apart = refl
zeroed_apart m (page ∷ pages) at n apart =
    zeroed_apart (written m (page * PAGE_BYTES) zeros) pages at n apart.1
    ∙ bytes_at_apart m (page * PAGE_BYTES) zeros at n (subst (λ (k : ℕ). Apart (page * PAGE_BYTES) k at n) (sym length_zeros) apart.0)

-- 2. A chain goes back

finished : (w : World) (b : BalloonState) (wanted : Bool)
    → perform w (balloon_finish b wanted) ≡ record { world = record w { raised = if wanted then w.raised + 1 else w.raised }; end = (perform w (balloon_finish b false)).end }
unfolding perform
finished w b true = refl
finished w b false = refl

abbrev given_back : BalloonState → QueueRegs → Script (End BalloonState) BalloonState
given_back b q = balloon_finish (record b { used = index_raised b.used q.number }) false

record Handed (w : World) (b : BalloonState) (q : QueueRegs) (took : Took) : Type 0 where
  memory : ℕ → ℕ
  is : perform w (balloon_hand b q took tt) ≡ record {
    world = record w { memory = memory; raised = if is_wanted w.memory q then w.raised + 1 else w.raised };
    end = given_back b q;
  }
  given : GivenSo w.memory memory q (slice_index b.used q.number) took.head (cut 0 took.chain.writable) []

handed : (w : World) (b : BalloonState) (q : QueueRegs) (took : Took) → IsQuiet q (slice_index b.used q.number) took.chain.writable → Handed w b q took
unfolding perform
handed w b q took h =
    let g = gave_first w q (slice_index b.used q.number) took.head took.chain.writable [] h (omega arith) in
    let w2 : World = record w { memory = g.memory } in
    let b2 : BalloonState = record b { used = index_raised b.used q.number } in
    record {
      memory = g.memory;
      is =
          perform_caught_value w w2 (give_chain q (slice_index b.used q.number) took.head took.chain.writable []) (is_wanted w.memory q) (balloon_stopped b) (balloon_finish b2) g.is
          ∙ finished w2 b2 (is_wanted w.memory q);
      given = g.given;
    }

-- 3. Rounds

moves : (b : BalloonState) (q : QueueRegs) (took : Took) (number : ℕ) → q.number ≡ number → (number == 2) ≡ false
    → balloon_part b q took ≡ caught (each_page (page_action b.registers number) (page_numbers took.readable)) (balloon_stopped b) (balloon_hand b q took)
moves b q took number is past = rw (is, past) refl

pub inflated_quiet : (w : World) (b : BalloonState) (q : QueueRegs) (took : Took) → q.number ≡ 0 → (perform w (take_chain q (slice_index b.last q.number))).end ≡ Over took
    → PagesApart (page_numbers took.readable) q.driver 2 → IsQuiet q (slice_index b.used q.number) took.chain.writable
    → InflatedSo w b q took (perform w (balloon_round b (Some q)))
unfolding perform
inflated_quiet w b q took none t apart h =
    let pages : List ℕ = page_numbers took.readable in
    let hold : Bool = has b.registers.accepted MUST_TELL_HOST in
    let b1 : BalloonState = record b { last = index_raised b.last q.number } in
    let w2 : World = record w { memory = zeroed w.memory pages; withdrawn = if hold then marked w.withdrawn pages true else w.withdrawn } in
    let g = handed w2 b1 q took h in
    let flags : is_wanted w2.memory q ≡ is_wanted w.memory q = ap (λ (bs : List ℕ). little_number 2 bs % 2 == 0) (zeroed_apart w.memory pages q.driver 2 apart) in
    let is : perform w (balloon_round b (Some q))
    ≡ record { world = record w2 { memory = g.memory; raised = if is_wanted w2.memory q then w.raised + 1 else w.raised }; end = Over (balloon_after b q) } =
    perform_caught_value w w (take_chain q (slice_index b.last q.number)) took (balloon_stopped b) (balloon_part b1 q) (takes w q (slice_index b.last q.number) took t)
    ∙ ap (λ (s : Script (End BalloonState) BalloonState). perform w s) (moves b1 q took 0 none refl)
    ∙ perform_caught_value w w2 (each_page (inflate hold) pages) tt (balloon_stopped b1) (balloon_hand b1 q took) (pages_inflated w hold pages)
    ∙ g.is in
    rw is (record { given = g.given; withdrawn = refl; raised = ap (λ (wanted : Bool). if wanted then w.raised + 1 else w.raised) flags; end = refl })

pub deflated_quiet : (w : World) (b : BalloonState) (q : QueueRegs) (took : Took) → q.number ≡ 1 → (perform w (take_chain q (slice_index b.last q.number))).end ≡ Over took
    → IsQuiet q (slice_index b.used q.number) took.chain.writable → DeflatedSo w b q took (perform w (balloon_round b (Some q)))
unfolding perform
deflated_quiet w b q took one t h =
    let pages : List ℕ = page_numbers took.readable in
    let b1 : BalloonState = record b { last = index_raised b.last q.number } in
    let w2 : World = record w { withdrawn = marked w.withdrawn pages false } in
    let g = handed w2 b1 q took h in
    let is : perform w (balloon_round b (Some q))
    ≡ record { world = record w2 { memory = g.memory; raised = if is_wanted w.memory q then w.raised + 1 else w.raised }; end = Over (balloon_after b q) } =
    perform_caught_value w w (take_chain q (slice_index b.last q.number)) took (balloon_stopped b) (balloon_part b1 q) (takes w q (slice_index b.last q.number) took t)
    ∙ ap (λ (s : Script (End BalloonState) BalloonState). perform w s) (moves b1 q took 1 one refl)
    ∙ perform_caught_value w w2 (each_page deflate pages) tt (balloon_stopped b1) (balloon_hand b1 q took) (pages_deflated w pages)
    ∙ g.is in
    rw is (record { given = g.given; withdrawn = refl; raised = refl; end = refl })
