-- A history with a move more.
use Rattle.std.proofs.Common.{◌≡◌, ℕ, List, [], ◌∷◌, ◌++◌, length, map, take, drop, Option, Some, None, refl, ap, sym, ◌∙◌, arith, append_assoc, length-append}
use Rattle.std.proofs.lemmas.List.{take-append-le, drop-append-le, take_all, drop_all}
use Rattle.tv_base.specs.declared.Why.{Why}
use Rattle.tv_journal.specs.declared.Entry.{Entry}
use Rattle.tv_spec.specs.Legal.{after, IsLegal, HasPlace, with_outer}
use Rattle.tv_spec.specs.Setup.{Setup}
use Rattle.tv_spec.specs.Shows.{bytes_of, cause_in, debug_bytes, end_of, or_else}
use Rattle.tv_spec.specs.State.{State}
use Rattle.tv_spec.specs.Step.{Move, made, ended, Can, done}
use Rattle.tv_spec.proofs.Moves.{after-append, legal-append}
use Rattle.tv_spec.proofs.SoFar.{cause-more, debug-append, moves-more}
use Rattle.tv_core.specs.Holds.{EndsFor}

-- an entry more stands behind the others
pub outer_more : (entries : List Entry) (e : Entry) (outer : Option (ℕ × Why)) → HasPlace entries outer
    → with_outer (entries ++ e ∷ []) outer ≡ with_outer entries outer ++ made e ∷ []
outer_more entries e None place = moves-more entries e
outer_more entries e (Some (k, cause)) place =
    rw (take-append-le k entries (e ∷ []) place, drop-append-le k entries (e ∷ []) place, moves-more (drop k entries) e)
    (sym (append_assoc (map made (take k entries)) (ended cause ∷ map made (drop k entries)) (made e ∷ [])))

-- an end that is set stands behind all entries
pub outer_set : (entries : List Entry) (cause : Why) → with_outer entries (Some (length entries, cause)) ≡ with_outer entries None ++ ended cause ∷ []
outer_set entries cause =
    rw (take_all (length entries) entries (omega arith), drop_all (length entries) entries (omega arith)) refl

pub place_more : (entries : List Entry) (e : Entry) (outer : Option (ℕ × Why)) → HasPlace entries outer → HasPlace (entries ++ e ∷ []) outer
place_more entries e None place = tt
place_more entries e (Some (k, cause)) place = rw (length-append entries (e ∷ [])) (omega (arith, place))

-- moves that are legal, with one more that may stand
pub record IsMore (setup : Setup) (first : State) (moves more : List Move) (move : Move) : Type 0 where
  pub legal : IsLegal setup first more
  pub state : after setup first more ≡ done setup (after setup first moves) move
  pub bytes : debug_bytes setup first more ≡ debug_bytes setup first moves ++ bytes_of (after setup first moves) move

append_nil : (xs : List ℕ) → xs ++ [] ≡ xs
append_nil [] = refl
append_nil (x ∷ xs) = ap (λ (ys : List ℕ). x ∷ ys) (append_nil xs)

pub is_more : (setup : Setup) (first : State) (moves more : List Move) (move : Move) → more ≡ moves ++ move ∷ [] → IsLegal setup first moves
    → Can setup (after setup first moves) move → IsMore setup first moves more move
is_more setup first moves more move is legal can = record {
  legal = rw is (legal-append setup first moves (move ∷ []) legal (can, tt));
  state = rw is (after-append setup first moves (move ∷ []));
  bytes = rw is (
      debug-append setup first moves (move ∷ [])
      ∙ ap (λ (xs : List ℕ). debug_bytes setup first moves ++ xs) (append_nil (bytes_of (after setup first moves) move))
      );
}

-- the first cause of an ending stays
pub ends_more : (setup : Setup) (s : State) (e : Entry) (outer : Option (ℕ × Why)) → Can setup s (made e) → EndsFor outer (cause_in s.mode)
    → EndsFor outer (cause_in (done setup s (made e)).mode)
ends_more setup s e None can ends = tt
ends_more setup s e (Some end) can ends =
    cause-more setup s e can ∙ ap (λ (cause : Option Why). or_else cause (or_else (end_of setup s (made e)) None)) ends
