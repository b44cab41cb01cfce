-- Rounds one after another.
use Rattle.std.proofs.Common.{◌≡◌, ℕ, zero, suc, ◌+◌, ◌-◌, ◌≤◌, List, ◌++◌, Option, Some, None, false, refl, ap, sym, ◌∙◌, subst, arith}
use Rattle.std.specs.Prelude.{Result, Ok, Err, OnOk, OnErr}
use Rattle.std.specs.Result.{is_err}
use Rattle.tv_out.specs.Faults.{Rose}
use Rattle.tv_out.specs.Told.{ToldSink, appended, IsCut, IsSteady}
use Rattle.tv_out.proofs.Appended.{appended-twice}
use Rattle.tv_spec.specs.declared.Stop.{Stop}
use Rattle.tv_spec.specs.Setup.{Setup}
use Rattle.tv_spec.specs.Solo.{Bounds, Solo, onward, round, rounds}
use Rattle.tv_runner.specs.Runs.{IsPut}
use Rattle.tv_out.proofs.Pieces.{steady-on}
use Rattle.std.proofs.lemmas.Bool.{false≢true}
use Rattle.tv_runner.proofs.On.{onward-round, onward-same, onward-twice}

-- so many rounds, and more of them
pub rounds-on : (setup : Setup) (bounds : Bounds) (n k total : ℕ) (solo : Solo) → total ≡ n + k → rounds setup bounds total solo ≡ onward (rounds setup bounds k) (rounds setup bounds n solo)
unfolding rounds
rounds-on setup bounds zero k total solo is =
    let same : total ≡ k = omega arith in
    ap (λ n. rounds setup bounds n solo) same
rounds-on setup bounds (suc n) k total solo is =
    let same : total ≡ suc (n + k) = omega arith in
    ap (λ n. rounds setup bounds n solo) same
    ∙ onward-twice (rounds setup bounds (n + k)) (rounds setup bounds n) (rounds setup bounds k) (round setup bounds solo) (λ s. rounds-on setup bounds n k (n + k) s refl)

-- one round
pub one-round : (setup : Setup) (bounds : Bounds) (solo : Solo) → rounds setup bounds 1 solo ≡ round setup bounds solo
unfolding rounds
one-round setup bounds solo = onward-round (round setup bounds solo)

-- a round more
pub rounds-more : (setup : Setup) (bounds : Bounds) (n : ℕ) (solo : Solo) → rounds setup bounds (suc n) solo ≡ onward (round setup bounds) (rounds setup bounds n solo)
rounds-more setup bounds n solo =
    rounds-on setup bounds n 1 (suc n) solo (omega arith) ∙ onward-same (rounds setup bounds 1) (round setup bounds) (rounds setup bounds n solo) (one-round setup bounds)

-- where rounds stop, more of them change nothing
pub rounds-stay : (setup : Setup) (bounds : Bounds) (n total : ℕ) (solo after : Solo) (stopped : Stop) → n ≤ total → rounds setup bounds n solo ≡ (after, Some stopped) → rounds setup bounds total solo ≡ (after, Some stopped)
rounds-stay setup bounds n total solo after stopped few is =
    rounds-on setup bounds n (total - n) total solo (omega arith) ∙ ap (onward (rounds setup bounds (total - n))) is

-- the bytes of a round were put behind those of the rounds before, or some of them were lost
pub put-by : {E : Type 0} (went : Result (Unit {0}) E) (said ring : List ℕ) (before now after : ToldSink) → now.bytes ≡ appended before.bytes said → before.faults ≤ now.faults → IsSteady before now
    → OnOk went (after.bytes ≡ appended now.bytes ring) → OnOk went (IsSteady now after) → OnErr went (Rose now.faults after.faults) → OnErr went (IsCut ring now.bytes after.bytes)
    → IsPut (is_err went) said (said ++ ring) before after
put-by (Ok done) said ring before now after told risen steady all steady_on failed cut = record {
  told = all ∙ ap (λ t. appended t ring) told ∙ appended-twice before.bytes said ring;
  steady = steady-on before now after steady steady_on;
}
put-by (Err fault) said ring before now after told risen steady all steady_on failed cut = record {
  last = ring;
  parts = refl;
  cut = subst (λ (t : Option (List ℕ)). IsCut ring t after.bytes) told cut;
  fault = omega (arith, failed, risen);
}

-- no round
pub rounds-zero : (setup : Setup) (bounds : Bounds) (solo : Solo) → rounds setup bounds 0 solo ≡ (solo, None)
unfolding rounds
rounds-zero setup bounds solo = refl

-- where no byte was lost
pub went-out : {E : Type 0} (P : Type 0) (went : Result (Unit {0}) E) → is_err went ≡ false → OnOk went P → P
went-out P (Ok done) is holds = holds
went-out P (Err fault) is holds = absurd (false≢true (sym is))
