-- A line that is put by one call.
use Rattle.std.proofs.Common.{ℕ, ◌≤◌, ◌<◌, ◌^◌, List, length, take, drop, refl, sym, arith, Option, Some, None, IfSome, decimal, length-append}
use Rattle.std.proofs.lemmas.Fmt.{length-decimal-le}
use Rattle.std.proofs.lemmas.List.{take-append-drop}
use Rattle.tv_out.specs.Told.{appended, IsCut}
use Rattle.tv_top.specs.Texts.{legal_line, status_text}

-- the front of a text went out
pub front-cut : (n : ℕ) (text : List ℕ) (old : Option (List ℕ)) → IsCut text old (appended old (take n text))
front-cut n text old = record { front = take n text; rest = drop n text; parts = sym (take-append-drop n text); told = refl }

-- the line of a legal run is short
short-status : (status : Option ℕ) → IfSome status (λ s. s < 2 ^ 8) → length (status_text status) ≤ 20
short-status None few = omega arith
short-status (Some s) few = length-decimal-le 20 s (omega arith) (omega arith) (omega arith)

pub short-line : (records events : ℕ) (status : Option ℕ) → records < 2 ^ 32 → events < 2 ^ 64 → IfSome status (λ s. s < 2 ^ 8)
    → length (legal_line records events status) ≤ 4096
short-line records events status few_records few_events few =
    let r : length (decimal records) ≤ 20 = length-decimal-le 20 records (omega arith) (omega arith) (omega arith) in
    let e : length (decimal events) ≤ 20 = length-decimal-le 20 events (omega arith) (omega arith) (omega arith) in
    let s : length (status_text status) ≤ 20 = short-status status few in
    simp length-append (omega arith)
