-- Scripts on a world that nobody else changes.
use Rattle.std.specs.Prelude.{ℕ, zero, suc, ◌+◌, ◌-◌, ◌*◌, nat_lt, if◌then◌else◌, Bool, true, false, List, [], ◌∷◌, ◌++◌, take, drop, replicate}
use Rattle.std.proofs.Common.{get_or}
use Rattle.tv_base.specs.declared.limits.TheConstants.{PAGE_BYTES}
use Rattle.tv_items.specs.declared.action.Action.{Action}
use Rattle.tv_items.specs.declared.action.Action.TheVariants as action
use Rattle.tv_items.specs.declared.action.Heard.{Heard}
use Rattle.tv_items.specs.declared.action.Heard.TheVariants as heard
use Rattle.tv_script.specs.Scripts.{Script, Over, Stop, Ask, Tell}

-- the byte at each address of guest memory, and which pages are withdrawn from devices; the bytes of each sector of the disk; what
-- went out, and what is still to come in; the random bytes in the order in which they come, and how many were drawn; and how often the
-- interrupt was raised
pub record World : Type 0 where
  pub memory : ℕ → ℕ
  pub withdrawn : ℕ → Bool
  pub disk : ℕ → List ℕ
  pub output : List ℕ
  pub input : List ℕ
  pub random : ℕ → ℕ
  pub drawn : ℕ
  pub raised : ℕ

-- so many bytes from a place on
unfoldable pub bytes_at : (ℕ → ℕ) → ℕ → ℕ → List ℕ
bytes_at m at zero = []
bytes_at m at (suc n) = m at ∷ bytes_at m (suc at) n

-- memory with these bytes from a place on, or whatever else lies at places in a row
unfoldable pub written : {A : Type 0} → (ℕ → A) → ℕ → List A → ℕ → A
written m at bytes x = if nat_lt x at then m x else get_or bytes (x - at) (m x)

-- a page of zeros
unfoldable pub zeros : List ℕ
zeros = replicate PAGE_BYTES 0

-- what an action hears, where every action is granted and none fails
abbrev pub hears : World → Action → Heard
hears w (action.Read addr len) = heard.Bytes (bytes_at w.memory addr len)
hears w (action.DiskRead sector) = heard.Bytes (w.disk sector)
hears w (action.Input most) = heard.Bytes (take most w.input)
hears w (action.Random len) = heard.Bytes (bytes_at w.random w.drawn len)
hears w a = heard.Done

-- what it makes of the world
abbrev pub makes : World → Action → World
makes w (action.Write addr bytes) = record w { memory = written w.memory addr bytes }
makes w (action.Release page hold) = record w {
  memory = written w.memory (page * PAGE_BYTES) zeros;
  withdrawn = if hold then written w.withdrawn page (true ∷ []) else w.withdrawn;
}
makes w (action.Regain page) = record w { withdrawn = written w.withdrawn page (false ∷ []) }
makes w (action.DiskWrite sector bytes) = record w { disk = written w.disk sector (bytes ∷ []) }
makes w (action.Put bytes) = record w { output = w.output ++ bytes }
makes w (action.Input most) = record w { input = drop most w.input }
makes w (action.Random len) = record w { drawn = w.drawn + len }
makes w action.Raise = record w { raised = w.raised + 1 }
makes w a = w

pub record Performed (E A : Type 0) : Type 0 where
  pub world : World
  pub end : Script E A

-- the world after a script, and the script's end
unfoldable pub perform : {E A : Type 0} → World → Script E A → Performed E A
perform w (Over value) = record { world = w; end = Over value }
perform w (Stop why) = record { world = w; end = Stop why }
perform w (Ask action go) = perform (makes w action) (go (hears w action))
perform w (Tell verdict rest) = perform w rest
