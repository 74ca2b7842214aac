-- A window at work, line by line: what the functions of src/ promise.
--
-- Glossary
--   State           a window at work: its progress and its buffer; within and state build one
--   start_of a b    the progress of a window that is to show the lines from a up to b
--   placed          the state after a line that is asked for: behind those before it, or the end where it does not fit
--   step t l        the state after one more line l; step_from: the same, by its fields; steps ls t: after the lines ls
--   shown_so_far p  what a window shows at the progress p
--   Going p n       the progress p stays inside a buffer of n octets and the numbers of 64 bits
use Rattle.std.specs.Prelude.{ℕ, ◌+◌, ◌-◌, ◌<◌, ◌≤◌, cond, List, [], ◌∷◌, length, leb, eqb}
use Rattle.put.specs.Put.{put}
use Rattle.windows.specs.declared.Progress.{Progress}
use Rattle.windows.specs.declared.Shown.{Shown}

pub record State : Type 0 where
  pub progress : Progress
  pub buffer : List ℕ

abbrev pub within : Progress → List ℕ → State
within p d = record { progress = p; buffer = d }

abbrev pub state : ℕ → ℕ → ℕ → ℕ → List ℕ → State
state skip left lines octets d = record { progress = record { skip = skip; left = left; lines = lines; octets = octets }; buffer = d }

-- nothing is shown yet of the lines from `first` up to, not including, `end`
abbrev pub start_of : ℕ → ℕ → Progress
start_of first end = record { skip = first; left = end - first; lines = 0; octets = 0 }

-- a line that fits is put behind those before it; the first that does not fit is the end
abbrev pub placed : ℕ → ℕ → ℕ → List ℕ → List ℕ → State
placed left lines octets d l =
    cond (leb (octets + length l) (length d)) (state 0 (left - 1) (lines + 1) (octets + length l) (put d octets l)) (state 0 0 lines octets d)

unfoldable pub step_from : ℕ → ℕ → ℕ → ℕ → List ℕ → List ℕ → State
step_from skip left lines octets d l =
    cond (eqb left 0) (state skip left lines octets d)
    (cond (eqb skip 0) (placed left lines octets d l) (state (skip - 1) left lines octets d))

abbrev pub step : State → List ℕ → State
step t l = step_from t.progress.skip t.progress.left t.progress.lines t.progress.octets t.buffer l

unfoldable pub steps : List (List ℕ) → State → State
steps [] t = t
steps (l ∷ ls) t = steps ls (step t l)

abbrev pub shown_so_far : Progress → Shown
shown_so_far p = record { lines = p.lines; octets = p.octets }

pub record Going (p : Progress) (room : ℕ) : Type 0 where
  pub within : p.octets ≤ room
  pub few : p.lines + p.left < 18446744073709551616
