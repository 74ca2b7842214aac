-- What has to hold for the counting to stay in its numbers.
--
-- Glossary
--   Small l         every number of l is below 2 ^ 63, so that it can grow by one
--   Bounded n t     no count and no total of t is greater than n, and t has at most 64 schemes
--   Ready t m room  t can take the message m, with a map of `room` cells to work in
--   Start t s room  t can take the messages of the accepted file s, likewise
use Rattle.std.specs.Prelude.{ℕ, ◌≤◌, ◌<◌, List, length, get_or}
use Rattle.token.specs.Walk.{Accepts}
use Rattle.tallying.specs.declared.Tally.{Tally}
use Rattle.tallying.specs.Tally.{LIMIT}

abbrev pub Small : List ℕ → Type 0
Small l = (j : ℕ) → get_or l j 0 < 9223372036854775808

pub record Bounded (n : ℕ) (t : Tally) : Type 0 where
  pub few : t.table.count ≤ 64
  pub types : (j : ℕ) → get_or t.types j 0 ≤ n
  pub answers : (j : ℕ) → get_or t.answers j 0 ≤ n
  pub counts : (j : ℕ) → get_or t.table.counts j 0 ≤ n
  pub others : t.table.others ≤ n
  pub headers : t.headers ≤ n
  pub vectors : t.vectors ≤ n
  pub bare : t.bare ≤ n

-- a file's messages have at most 65,535 octets
pub record Ready (t : Tally) (m : List ℕ) (room : ℕ) : Type 0 where
  pub bounded : Bounded 4295032830 t
  pub long : 40 ≤ length m
  pub short : length m ≤ 65535
  pub within : length m ≤ room

pub record Start (t : Tally) (s : List ℕ) (room : ℕ) : Type 0 where
  pub bounded : Bounded LIMIT t
  pub accepted : Accepts s
  pub within : length s ≤ room
