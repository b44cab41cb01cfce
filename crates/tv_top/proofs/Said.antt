-- A line that is put at once, or in parts.
use Rattle.std.proofs.Common.{◌≡◌, ℕ, ◌≤◌, ◌<◌, List, [], ◌++◌, length, take, drop, codes, refl, ap, sym, ◌∙◌, append_assoc, append-nil, inl, inr, arith, Result, Ok, Err, OnOk, OnErr}
use Rattle.std.specs.Prelude.{⊤}
use Rattle.std.specs.Option.{option_map}
use Rattle.std.specs.Result.{is_err}
use Rattle.std.proofs.lemmas.List.{take-append-drop}
use Rattle.tv_base.specs.declared.limits.TheConstants.{PIECE_BYTES}
use Rattle.tv_out.specs.declared.Short.{Short}
use Rattle.tv_out.specs.Calls.{after_call}
use Rattle.tv_out.specs.Faults.{Rose, HasCause}
use Rattle.tv_out.specs.Told.{ToldSink, appended, gone, IsCut}
use Rattle.tv_out.proofs.Appended.{appended-twice}
use Rattle.tv_top.specs.Texts.{HasGone, IsSaid}

-- a part went out only in part, and nothing after it
pub gone-cut : (part more : List ℕ) (old new : ToldSink) → IsCut part old.bytes new.bytes → Rose old.faults new.faults → HasGone (part ++ more) old new
gone-cut part more old new cut rose = record {
  front = cut.front;
  rest = cut.rest ++ more;
  parts = ap (λ xs. xs ++ more) cut.parts ∙ append_assoc cut.front cut.rest more;
  told = cut.told;
  whole = inr rose;
}

-- a part went out, and so did what comes after it
pub gone-on : (part more : List ℕ) (old mid new : ToldSink) → mid.bytes ≡ appended old.bytes part → old.faults ≤ mid.faults
    → HasGone more mid new → HasGone (part ++ more) old new
gone-on part more old mid new told later said = record {
  front = part ++ said.front;
  rest = said.rest;
  parts = ap (λ xs. part ++ xs) said.parts ∙ sym (append_assoc part said.front said.rest);
  told = said.told ∙ ap (λ t. appended t said.front) told ∙ appended-twice old.bytes part said.front;
  whole = elim said.whole [ inl none ↦ inl none | inr rose ↦ inr (omega arith) ];
}

-- the last part went out, or not whole, by its answer
pub gone-last : {E : Type 0} (answer : Result ⊤ E) (part : List ℕ) (old new : ToldSink) → OnOk answer (new.bytes ≡ appended old.bytes part)
    → OnErr answer (IsCut part old.bytes new.bytes) → OnErr answer (Rose old.faults new.faults) → HasGone part old new
gone-last (Ok _) part old new told cut rose = record { front = part; rest = []; parts = sym (append-nil part); told = told; whole = inl refl }
gone-last (Err _) part old new told cut rose =
    record { front = cut.front; rest = cut.rest; parts = cut.parts; told = cut.told; whole = inr rose }

-- a line longer than a piece
pub said-long : (text : List ℕ) (old new : ToldSink) → PIECE_BYTES < length text → HasGone text old new → IsSaid text old new
said-long text old new long went = record { gone = went; once = λ few. absurd (omega (arith, long, few)) }

put-gone : (answer : Result ⊤ Short) (text : List ℕ) (old new : ToldSink) → new.bytes ≡ appended old.bytes (gone answer text)
    → HasCause old.faults new.faults (is_err answer) → HasGone text old new
put-gone (Ok _) text old new told cause = record { front = text; rest = []; parts = sym (append-nil text); told = told; whole = inl refl }
put-gone (Err short) text old new told cause = record {
  front = take short.taken text;
  rest = drop short.taken text;
  parts = sym (take-append-drop short.taken text);
  told = told;
  whole = inr cause.failed;
}

-- a line that went by one put
pub said-put : (answer : Result ⊤ Short) (line text : List ℕ) (old new : ToldSink) → line ≡ codes "tv: " ++ text → new.bytes ≡ appended old.bytes (gone answer line)
    → HasCause old.faults new.faults (is_err answer) → new.script ≡ option_map after_call old.script → IsSaid (codes "tv: " ++ text) old new
said-put answer line text old new is told cause script =
    record { gone = put-gone answer (codes "tv: " ++ text) old new (rw is at told) cause; once = λ _. script }
