-- A whole conversation replayed, and what ends the replay of it once it is changed. Document 02, C-19.
--
-- Glossary
--   written x        the messages that the end x wrote in the examples' whole conversation, numbered 0 to 3, 7, 10, 11, and 4 to 6, 8, 9, 12
--   case             a case of the examples' two lists, with marks and messages; reordered: its initiator's list in another order
--   Saw, saw         what is seen of a replay: the side of each turn and the choice after it, and the ending; that of a case
--   turns_seen n     the first n of the six turns of the whole conversation
--   WholeReplayed    the whole conversation is replayed to its end, in these turns
--   Example          a case, the number of turns that are seen of it, and its ending; ends makes one; examples: a list of them
--   Right, AllRight  an example holds; all of a list do
--   Endings          the examples hold
use Rattle.std.specs.Prelude.{ℕ, ◌≡◌, Bool, true, false, List, [], ◌∷◌, ◌++◌, map, take, drop, replicate}
use Rattle.std.proofs.Math.Option.{Option, none, some}
use Rattle.token.specs.Split.{join}
use Rattle.schemes.specs.Lists.{Id, join_ids}
use Rattle.conversation.specs.Runs.{world}
use Rattle.conversation.specs.Claims.{written_in}
use Rattle.conversation.specs.Worked.{scheme, opened, conversation}
use Rattle.sides.specs.Replay.{Case, Ending, initiator, acceptor, neither, finished, refused, unopened, replay_of}

abbrev pub written : Bool → List (List ℕ)
written x = written_in x (world opened) conversation

abbrev pub case : ℕ → ℕ → List (List ℕ) → List (List ℕ) → Case
case mi ma i a = record {
  i = record { list = join_ids opened.initiator; marks = mi; file = some (join i) };
  a = record { list = join_ids opened.acceptor; marks = ma; file = some (join a) };
}

abbrev pub reordered : Case → Case
reordered c = record { i = record { list = scheme 2 ++ scheme 3; marks = c.i.marks; file = c.i.file }; a = c.a }

pub record Saw : Type 0 where
  pub turns : List (Bool × Option Id)
  pub ending : Ending

abbrev pub saw : Case → Saw
saw c =
    record {
      turns = map (λ t. (t.turn.acceptor, t.choice)) (replay_of c (replicate 1100 0)).turns;
      ending = (replay_of c (replicate 1100 0)).ending;
    }

abbrev pub turns_seen : ℕ → List (Bool × Option Id)
turns_seen n =
    take n (
    (false, none) ∷ (true, none)
    ∷ (false, some (scheme 3)) ∷ (true, some (scheme 3)) ∷ (false, some (scheme 3)) ∷ (true, some (scheme 3))
    ∷ []
    )

-- its acceptor marks scheme 2, so that scheme 3 is chosen
abbrev pub WholeReplayed : Type 0
WholeReplayed = saw (case 0 2 (written false) (written true)) ≡ record { turns = turns_seen 6; ending = finished }

pub record Example : Type 0 where
  pub of : Case
  pub turns : ℕ
  pub ending : Ending

abbrev pub ends : Case → ℕ → Ending → Example
ends c n e = record { of = c; turns = n; ending = e }

abbrev pub examples : List Example
examples =
    -- no messages at all; no file
    ends (case 0 2 [] []) 0 finished
    ∷ ends (record { i = (case 0 2 [] []).i; a = record { list = (case 0 2 [] []).a.list; marks = 2; file = none } }) 0 unopened
    -- marks beyond the list
    ∷ ends (case 4 2 (written false) (written true)) 0 (refused 19 0 neither)
    -- octets behind the last message, of either file
    ∷ ends (case 0 2 (take 1 (written false) ++ ((1 ∷ 2 ∷ []) ∷ [])) (written true)) 0 (refused 2 128 initiator)
    ∷ ends (case 0 2 (written false) (take 1 (written true) ++ ((1 ∷ 2 ∷ []) ∷ []))) 0 (refused 2 112 acceptor)
    -- a number is missing, stands twice, stands behind a higher one
    ∷ ends (case 0 2 (written false) (drop 1 (written true))) 0 (refused 24 0 neither)
    ∷ ends (case 0 2 (written false) (written true ++ drop 5 (written true))) 0 (refused 24 0 neither)
    ∷ ends (case 0 2 (drop 1 (written false) ++ take 1 (written false)) (written true)) 0 (refused 24 0 neither)
    -- the acceptor begins
    ∷ ends (case 0 2 [] (take 1 (written false))) 0 (refused 18 0 initiator)
    -- the initiator's NEGO lists its own schemes in another order
    ∷ ends (reordered (case 0 2 (written false) (written true))) 0 (refused 28 0 initiator)
    -- without its mark, the acceptor's NEGO would list scheme 2 too
    ∷ ends (case 0 0 (written false) (written true)) 1 (refused 28 0 acceptor)
    -- with both marked, it would list nothing
    ∷ ends (case 0 6 (written false) (written true)) 1 (refused 28 0 acceptor)
    -- the initiator marks the one scheme of the reply
    ∷ ends (case 1 2 (written false) (written true)) 2 (refused 28 0 initiator)
    ∷ []

abbrev pub Right : Example → Type 0
Right e = saw e.of ≡ record { turns = turns_seen e.turns; ending = e.ending }

abbrev pub AllRight : List Example → Type 0
AllRight [] = Unit {0}
AllRight (e ∷ es) = Right e × AllRight es

abbrev pub Endings : Type 0
Endings = AllRight examples
