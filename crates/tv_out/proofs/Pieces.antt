-- Bytes that are put piece by piece.
use Rattle.std.proofs.Common.{◌≡◌, ℕ, ◌≤◌, List, ◌++◌, Option, Some, None, Ok, take, drop, refl, sym, ap, ◌∙◌, append_assoc, arith, take-append-drop}
use Rattle.std.specs.Prelude.{IsSome}
use Rattle.std.specs.Option.{option_map}
use Rattle.tv_out.specs.Calls.{RoomScript, after_call}
use Rattle.tv_out.specs.Told.{ToldSink, FollowsPut, IsAllOut, IsCut, IsSteady, appended}
use Rattle.tv_out.proofs.Appended.{appended-twice}

-- a put that went out whole
sound-put : {T : Type 0} (script : Option RoomScript) (bytes : Option (List ℕ)) (n before now : ℕ) (done : T) → FollowsPut {T = T} script bytes n before now (Ok done)
    → IsSome script → now ≡ before
sound-put None bytes n before now done follows told = cc told
sound-put (Some script) None n before now done follows told = follows.1
sound-put (Some script) (Some held) n before now done follows told = follows.1

tells-put : (script now : Option RoomScript) → now ≡ option_map after_call script → IsSome script → IsSome now
tells-put None now is told = cc told
tells-put (Some script) now is told = rw is refl

pub steady_put : {T : Type 0} (n : ℕ) (old new : ToldSink) (done : T) → FollowsPut {T = T} old.script old.bytes n old.faults new.faults (Ok done)
    → new.script ≡ option_map after_call old.script → IsSteady old new
steady_put n old new done follows script = record {
  tells = tells-put old.script new.script script;
  sound = sound-put old.script old.bytes n old.faults new.faults done follows;
}

-- no put, and puts after puts
pub steady-same : (sink : ToldSink) → IsSteady sink sink
steady-same sink = record { tells = λ told. told; sound = λ told. refl }

pub steady-on : (old mid new : ToldSink) → IsSteady old mid → IsSteady mid new → IsSteady old new
steady-on old mid new first second = record {
  tells = λ told. second.tells (first.tells told);
  sound = λ told. second.sound (first.tells told) ∙ first.sound told;
}

-- all of the bytes but the rest went out
pub record IsPutUpTo (rest bytes : List ℕ) (old now : ToldSink) : Type 0 where
  pub front : List ℕ
  pub parts : bytes ≡ front ++ rest
  pub told : now.bytes ≡ appended old.bytes front
  pub later : old.faults ≤ now.faults
  pub steady : IsSteady old now

-- a piece more went out
pub put-more : (n : ℕ) (rest bytes : List ℕ) (old mid now : ToldSink) → IsPutUpTo rest bytes old mid → IsAllOut (take n rest) mid now → mid.faults ≤ now.faults
    → IsPutUpTo (drop n rest) bytes old now
put-more n rest bytes old mid now so_far out later = record {
  front = so_far.front ++ take n rest;
  parts = so_far.parts ∙ ap (λ xs. so_far.front ++ xs) (sym (take-append-drop n rest)) ∙ sym (append_assoc so_far.front (take n rest) (drop n rest));
  told = out.told ∙ ap (λ t. appended t (take n rest)) so_far.told ∙ appended-twice old.bytes so_far.front (take n rest);
  later = omega arith;
  steady = steady-on old mid now so_far.steady out.steady;
}

-- a front of a piece went out
pub cut_put : (k : ℕ) (bytes : List ℕ) (old new : Option (List ℕ)) → new ≡ appended old (take k bytes) → IsCut bytes old new
cut_put k bytes old new told = record {
  front = take k bytes;
  rest = drop k bytes;
  parts = sym (take-append-drop k bytes);
  told = told;
}

-- a piece went out in part, and the rest did not
pub put-part : (n : ℕ) (rest bytes : List ℕ) (old mid : ToldSink) (now : Option (List ℕ)) → IsPutUpTo rest bytes old mid
    → IsCut (take n rest) mid.bytes now → IsCut bytes old.bytes now
put-part n rest bytes old mid now so_far cut = record {
  front = so_far.front ++ cut.front;
  rest = cut.rest ++ drop n rest;
  parts = so_far.parts
      ∙ ap (λ xs. so_far.front ++ xs)
      (sym (take-append-drop n rest) ∙ ap (λ xs. xs ++ drop n rest) cut.parts ∙ append_assoc cut.front cut.rest (drop n rest))
      ∙ sym (append_assoc so_far.front cut.front (cut.rest ++ drop n rest));
  told = cut.told ∙ ap (λ t. appended t cut.front) so_far.told ∙ appended-twice old.bytes so_far.front cut.front;
}
