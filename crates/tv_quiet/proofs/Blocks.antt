-- A round of the block device.
use Rattle.std.proofs.Common.{◌≡◌, ◌≤◌, ◌+◌, ◌-◌, ◌/◌, ◌==◌, ◌&&◌, ◌∙◌, not, ℕ, zero, suc, Bool, true, false, if◌then◌else◌, List, [], ◌∷◌, ◌++◌, length, take, drop, replicate, slice_index, Option, Some, refl, ap, sym, arith, append_assoc, append-nil, length-append}
use Rattle.std.proofs.lemmas.Bool.{le-ltb}
use Rattle.std.proofs.lemmas.List.{length-take-le, length-replicate}
use Rattle.byteorder.specs.Endian.{little_number}
use Rattle.tv_script.specs.Scripts.{Script, Over, ◌>>=◌}
use Rattle.tv_script.specs.Services.{End}
use Rattle.tv_virtio.specs.declared.queue.QueueRegs.{QueueRegs}
use Rattle.tv_virtio.specs.declared.queue.QueueStop.{QueueStop}
use Rattle.tv_virtio.specs.Spans.{total}
use Rattle.tv_virtio.specs.Queue.{Took, take_chain, give_chain}
use Rattle.tv_plan.specs.Serving.{index_raised}
use Rattle.tv_plan.specs.Block.{BlockDisk, BlockState, Response, are_sectors, block_answer, block_finish, block_flush, block_hand, block_id, block_in, block_out, block_request, block_round, block_served, block_stopped, done, failed, read_sectors, response_bytes, response_read, response_whether, unsupported, write_sectors}
use Rattle.tv_quiet.specs.World.{World, Performed, perform, written}
use Rattle.tv_quiet.specs.Meaning.{IsQuiet, is_wanted}
use Rattle.tv_quiet.specs.Blocks.{BlockMeans, Served, block_after, read_means, request_means, responds, sectors_in, sectors_of, write_means}
use Rattle.tv_quiet.proofs.Memory.{not_zero, same_function, written_append, written_none}
use Rattle.tv_quiet.proofs.Leaving.{perform_value, perform_caught_value, takes}
use Rattle.tv_quiet.proofs.Rounds.{gave}

-- 1. Sectors

content_same : (w : World) (b1 b2 : List ℕ) → b1 ≡ b2
    → (let r : Performed QueueStop (Option (List ℕ)) = record { world = w; end = Over (Some b1) } in r) ≡ record { world = w; end = Over (Some b2) }
content_same w b1 b2 e = rw e refl

sectors_read : (w : World) (n sector : ℕ) (got : List ℕ) → perform w (read_sectors n sector got) ≡ record { world = w; end = Over (Some (got ++ sectors_of w.disk sector n)) }
unfolding perform read_sectors ◌>>=◌
sectors_read w zero sector got = content_same w got (got ++ []) (sym (append-nil got))
sectors_read w (suc n) sector got =
    sectors_read w n (sector + 1) (got ++ w.disk sector) ∙ content_same w _ _ (append_assoc got (w.disk sector) (sectors_of w.disk (sector + 1) n))

disk_same : (w : World) (d1 d2 : ℕ → List ℕ) → d1 ≡ d2
    → (let r : Performed QueueStop Bool = record { world = record w { disk = d1 }; end = Over true } in r) ≡ record { world = record w { disk = d2 }; end = Over true }
disk_same w d1 d2 e = ap (λ (d : ℕ → List ℕ). let r : Performed QueueStop Bool = record { world = record w { disk = d }; end = Over true } in r) e

sectors_wrote : (w : World) (n sector : ℕ) (bytes : List ℕ)
    → perform w (write_sectors n sector bytes) ≡ record { world = record w { disk = written w.disk sector (sectors_in bytes n) }; end = Over true }
unfolding perform write_sectors ◌>>=◌
sectors_wrote w zero sector bytes =
    disk_same w w.disk (written w.disk sector []) (same_function _ _ (λ (k : ℕ). sym (written_none w.disk sector [] k refl)))
sectors_wrote w (suc n) sector bytes =
    let here : List (List ℕ) = take 512 bytes ∷ [] in
    let rest : List (List ℕ) = sectors_in (drop 512 bytes) n in
    sectors_wrote (record w { disk = written w.disk sector here }) n (sector + 1) (drop 512 bytes)
    ∙ disk_same w (written (written w.disk sector here) (sector + 1) rest) (written w.disk sector (sectors_in bytes (suc n)))
    (same_function _ _ (λ (k : ℕ). written_append w.disk sector here rest k))

-- 2. Requests

abbrev as_served : World → Served → Performed QueueStop Response
as_served w m = record { world = record w { disk = m.disk }; end = Over m.response }

either_served : (w : World) (b : Bool) (s t : Script QueueStop Response) (x y : Served) → perform w s ≡ as_served w x → perform w t ≡ as_served w y
    → perform w (if b then s else t) ≡ as_served w (if b then x else y)
either_served w true s t x y e f = e
either_served w false s t x y e f = f

failed_served : (w : World) → perform w (let s : Script QueueStop Response = Over failed in s) ≡ as_served w (responds w.disk failed)
unfolding perform
failed_served w = refl

read_served : (w : World) (capacity sector len : ℕ) → perform w (block_in capacity sector len) ≡ as_served w (read_means w.disk capacity sector len)
unfolding perform
read_served w capacity sector len =
    either_served w (are_sectors capacity sector len) (read_sectors (len / 512) sector [] >>= response_read) (Over failed)
    (responds w.disk (done (sectors_of w.disk sector (len / 512)))) (responds w.disk failed)
    (perform_value w w (read_sectors (len / 512) sector []) (Some (sectors_of w.disk sector (len / 512))) response_read (sectors_read w (len / 512) sector []))
    (failed_served w)

write_served : (w : World) (capacity : ℕ) (readonly : Bool) (sector : ℕ) (bytes : List ℕ)
    → perform w (block_out capacity readonly sector bytes) ≡ as_served w (write_means w.disk capacity readonly sector bytes)
unfolding perform
write_served w capacity readonly sector bytes =
    let n : ℕ = length bytes / 512 in
    let d : ℕ → List ℕ = written w.disk sector (sectors_in bytes n) in
    either_served w (not readonly && are_sectors capacity sector (length bytes)) (write_sectors n sector bytes >>= response_whether) (Over failed)
    (responds d (done [])) (responds w.disk failed)
    (perform_value w (record w { disk = d }) (write_sectors n sector bytes) true response_whether (sectors_wrote w n sector bytes))
    (failed_served w)

flush_served : (w : World) → perform w block_flush ≡ as_served w (responds w.disk (done []))
unfolding perform ◌>>=◌
flush_served w = refl

value_served : (w : World) (r : Response) → perform w (let s : Script QueueStop Response = Over r in s) ≡ as_served w (responds w.disk r)
unfolding perform
value_served w r = refl

request_served : (w : World) (d : BlockDisk) (readable : List ℕ) (len : ℕ) → perform w (block_request d readable len) ≡ as_served w (request_means w.disk d readable len)
request_served w d readable len =
    let kind : ℕ = little_number 4 readable in
    let sector : ℕ = little_number 8 (drop 8 readable) in
    either_served w (kind == 0) _ _ _ _ (read_served w d.sectors sector len)
    (either_served w (kind == 1) _ _ _ _ (write_served w d.sectors d.readonly sector (drop 16 readable))
    (either_served w (kind == 4) _ _ _ _ (flush_served w)
    (either_served w (kind == 8) _ _ _ _ (value_served w (done (block_id d.slot))) (value_served w unsupported))))

-- 3. A round

serves : (b : BlockState) (q : QueueRegs) (took : Took) (writable : ℕ) → 16 ≤ length took.readable → 1 ≤ writable
    → block_served b q took writable ≡ block_answer b q took (writable - 1)
serves b q took writable long some = rw (le-ltb (length took.readable) 16 long, not_zero writable some) refl

length_response : (len writable : ℕ) (r : Response) → 1 ≤ writable → len ≡ writable - 1 → length (response_bytes len r) ≡ writable
length_response len writable r some is =
    let padded : List ℕ = r.content ++ replicate len 0 in
    let long : length padded ≡ length r.content + len = length-append r.content (replicate len 0) ∙ ap (λ (k : ℕ). length r.content + k) (length-replicate len 0) in
    let front : length (take len padded) ≡ len = length-take-le len padded (omega (arith, long)) in
    length-append (take len padded) (r.status ∷ []) ∙ ap (λ (k : ℕ). k + 1) front ∙ omega (arith, some, is)

finished : (w : World) (b : BlockState) (wanted : Bool)
    → perform w (block_finish b wanted) ≡ record { world = record w { raised = if wanted then w.raised + 1 else w.raised }; end = (perform w (block_finish b false)).end }
unfolding perform
finished w b true = refl
finished w b false = refl

-- a round that finds a request, on quiet memory
pub block_quiet : (w : World) (b : BlockState) (q : QueueRegs) (took : Took) → (perform w (take_chain q (slice_index b.last q.number))).end ≡ Over took
    → 16 ≤ length took.readable → 1 ≤ total took.chain.writable → IsQuiet q (slice_index b.used q.number) took.chain.writable
    → BlockMeans w b q took (perform w (block_round b (Some q)))
unfolding perform
block_quiet w b q took t long some h =
    let len : ℕ = total took.chain.writable - 1 in
    let m : Served = request_means w.disk b.disk took.readable len in
    let bytes : List ℕ = response_bytes len m.response in
    let b1 : BlockState = record b { last = index_raised b.last q.number } in
    let b2 : BlockState = record b1 { used = index_raised b.used q.number } in
    let w2 : World = record w { disk = m.disk } in
    let g = gave w2 q (slice_index b.used q.number) took.head took.chain.writable bytes h (length_response len (total took.chain.writable) m.response some refl) in
    let w3 : World = record w2 { memory = g.memory } in
    let is : perform w (block_round b (Some q)) ≡ record { world = record w3 { raised = if is_wanted w.memory q then w.raised + 1 else w.raised }; end = Over (block_after b q) } =
    perform_caught_value w w (take_chain q (slice_index b.last q.number)) took (block_stopped b) (λ found. block_served b1 q found (total found.chain.writable)) (takes w q (slice_index b.last q.number) took t)
    ∙ ap (λ (s : Script (End BlockState) BlockState). perform w s) (serves b1 q took (total took.chain.writable) long some)
    ∙ perform_caught_value w w2 (block_request b.disk took.readable len) m.response (block_stopped b1) (λ r. block_hand b1 q took (response_bytes len r)) (request_served w b.disk took.readable len)
    ∙ perform_caught_value w2 w3 (give_chain q (slice_index b.used q.number) took.head took.chain.writable bytes) (is_wanted w.memory q) (block_stopped b1) (block_finish b2) g.is
    ∙ finished w3 b2 (is_wanted w.memory q) in
    rw is (record { given = g.given; disk = refl; raised = refl; end = refl })
