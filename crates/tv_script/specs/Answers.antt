-- Replies that answer what a device asks for.
use Rattle.std.specs.Prelude.{List, [], ◌∷◌, ◌++◌}
use Rattle.tv_items.specs.declared.action.Heard.{Heard}
use Rattle.tv_items.specs.Fits.{FitsAction}
use Rattle.tv_script.specs.Services.{Next, Asks, Rests, Loses}

-- a reply to the next action
abbrev pub FitsNext : {S : Type 0} → Next S → Heard → Type 0
FitsNext (Asks action) h = FitsAction action h
FitsNext (Rests state) h = ⊥
FitsNext (Loses state) h = ⊥

-- each reply answers the next action after those before it
abbrev pub IsHeardFrom : {S : Type 0} → (List Heard → Next S) → List Heard → List Heard → Type 0
IsHeardFrom next before [] = Unit {0}
IsHeardFrom next before (h ∷ hs) = FitsNext (next before) h × IsHeardFrom next (before ++ h ∷ []) hs

abbrev pub IsHeard : {S : Type 0} → (List Heard → Next S) → List Heard → Type 0
IsHeard next hs = IsHeardFrom next [] hs
