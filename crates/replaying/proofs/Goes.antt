-- One turn played: the replay goes on, or has ended, as the definition has it.
-- Assumes nothing.
use Prim.Native.Nat.{ℕ, ◌+◌, ◌*◌, ◌-◌, ◌<◌, ◌≤◌}
use mathlib.Core.Path.{◌≡◌, refl, sym, ap, subst, ◌∙◌}
use mathlib.Core.Bool.{Bool, true, false, cond, not}
use mathlib.Core.Logic.{◌⊎◌, inl, inr}
use mathlib.Core.List.{List, [], ◌∷◌}
use native.Mathlib.Omega.{arith}
use Rattle.std.proofs.Common.{Some, None, Result, Ok, Err, is_none}
use lib.ListN.{length, take, drop, length-drop}
use lib.Seq.{drop-drop}
use lib.Dec.{eqb}
use borrow.Author.Tests.{eq-eqb, ne_eqb, eqb-true, eqb-false}
use Rattle.octets.proofs.Bools.{which, no_true}
use Rattle.octets.proofs.Slices.{tail_all}
use Rattle.token.specs.Split.{join}
use Rattle.token.specs.Walk.{Accepts}
use Rattle.conversation.specs.declared.Record.{Record}
use Rattle.conversation.specs.Outcomes.{Outcome}
use Rattle.conversation.specs.Runs.{is_accepted}
use Rattle.sides.specs.Merging.{Turn, token, messages_of, run_from}
use Rattle.sides.specs.Turning.{owed, heard_turn, spoke}
use Rattle.sides.specs.Replay.{Case, Sides, Played, Ending, finished, refused, by, outcome_of, so_played, marks_of, with_turn, play_from, choice_of}
use Rattle.sides.proofs.Cutting.{Pieces, piece-long, piece-size, messages-join}
use Rattle.sides.proofs.Heard.{Heard, heard-turn, AllExact, Gone, gone-through, heard-accepts, refused-same}
use Rattle.sides.proofs.Spoken.{spoke-counts, spoke-keeps}
use Rattle.merging.specs.declared.Next.{Next}
use Rattle.merging.specs.Merged.{next_in, turns_left}
use Rattle.merging.proofs.Rows.{Says, initiators, acceptors, says, says-none, run-octets, run-front, run-left, run-within, pieces-run, turns-initiator, turns-acceptor, turns-none}
use Rattle.replaying.specs.declared.Fault.{Fault}
use Rattle.replaying.specs.declared.Marks.{Marks}
use Rattle.replaying.specs.declared.Replay.{Replay}
use Rattle.replaying.specs.Playing.{whose_as, fault_as, ending_as, sides_in, left_of, marked, rest_of, Level, Fine, Stood, stood, role_of, place_of, file_by, went_on, side_of, ended_with, refused_by, after_turn, Ready, octets_in, Goes}
use Rattle.replaying.proofs.Plays.{level-swap, level_by}

pieces_exact : (ms : List (List ℕ)) → Pieces ms → AllExact ms
pieces_exact [] p = tt
pieces_exact (m ∷ ms) p = (record { long = piece-long m p.0; exact = λ rest. piece-size m rest p.0 }, pieces_exact ms p.1)

rest-on : (m : Marks) (i a : List ℕ) (s : Replay) (d : List ℕ) → is_none s.end ≡ true → rest_of m i a s d ≡ play_from (marked m) (sides_in s d) (left_of s i a)
unfolding rest_of
rest-on m i a s d e = rw e

rest_over : (m : Marks) (i a : List ℕ) (s : Replay) (d : List ℕ) → is_none s.end ≡ false
    → rest_of m i a s d ≡ record { turns = []; sides = sides_in s d; ending = ending_as s.end }
unfolding rest_of
rest_over m i a s d e = rw e

play-none : (c : Case) (s : Sides) → play_from c s [] ≡ record { turns = []; sides = s; ending = finished }
unfolding play_from
play-none c s = refl

play-on : (c : Case) (s : Sides) (t : Turn) (ts : List Turn) → is_accepted (outcome_of c s t).answer ≡ true
    → play_from c s (t ∷ ts) ≡ with_turn (record { turn = t; choice = choice_of (so_played c s t).i }) (play_from c (so_played c s t) ts)
unfolding play_from
play-on c s t ts e = rw e

play-ends : (c : Case) (s : Sides) (t : Turn) (ts : List Turn) → is_accepted (outcome_of c s t).answer ≡ false
    → play_from c s (t ∷ ts)
    ≡ record {
      turns = [];
      sides = s;
      ending = refused (outcome_of c s t).answer.refusal (outcome_of c s t).answer.place.0
          (by (cond (eqb (outcome_of c s t).answer.refusal 28) t.acceptor (not t.acceptor)));
    }
unfolding play_from
play-ends c s t ts e = rw e

by_number : (b : Bool) → by b ≡ whose_as (side_of b)
by_number false = refl
by_number true = refl

-- what is left of the file of a role, and the longest run at its front
abbrev part : List ℕ → List ℕ → Replay → Bool → List ℕ
part i a s x = drop (place_of x s) (file_by x i a)

abbrev run : List ℕ → List ℕ → Replay → Bool → List (List ℕ)
run i a s x = run_from s.number (messages_of (part i a s x))

abbrev size : List ℕ → List ℕ → Replay → Bool → ℕ
size i a s x = length (join (run i a s x))

still-fine : (i a : List ℕ) (s : Replay) (r : Result (Unit {0}) Fault) → Fine i a s → Fine i a (ended_with s r)
still-fine i a s r fine =
    record {
      short_i = fine.short_i;
      short_a = fine.short_a;
      in_i = fine.in_i;
      in_a = fine.in_a;
      numbers = fine.numbers;
      few = fine.few;
      level = fine.level;
    }

-- by cases: the file of a role
module _ (i a : List ℕ) (s : Replay) (fine : Fine i a s) where
  short-by : (x : Bool) → length (file_by x i a) ≤ 65535
  short-by false = fine.short_i
  short-by true = fine.short_a

  in-by : (x : Bool) → place_of x s ≤ length (file_by x i a)
  in-by false = fine.in_i
  in-by true = fine.in_a

  length_part : (x : Bool) → place_of x s + length (part i a s x) ≡ length (file_by x i a)
  length_part x = omega (arith, length-drop (place_of x s) (file_by x i a), in-by x)

  within : (x : Bool) → place_of x s + size i a s x ≤ length (file_by x i a)
  within x = omega (arith, length_part x, run-within s.number (part i a s x))

-- one turn
module _ (m : Marks) (i a : List ℕ) (s : Replay) (d : List ℕ) (fine : Fine i a s) (more : is_none s.end ≡ true) where
  -- no turn is left
  none_left : length (run i a s false) ≤ 0 → length (run i a s true) ≤ 0 → Goes m i a s d (ended_with s (Ok tt)) d
  none_left f g = record {
    fine = still-fine i a s (Ok tt) fine;
    step = inr (record {
      over = refl;
      still_i = refl;
      still_a = refl;
      same = refl;
      come =
          rest-on m i a s d more
          ∙ ap (play_from (marked m) (sides_in s d)) (turns-none s.number (messages_of (part i a s false)) (messages_of (part i a s true)) f g)
          ∙ play-none (marked m) (sides_in s d)
          ∙ sym (rest_over m i a (ended_with s (Ok tt)) d refl);
    });
  }

  -- a turn of a role: false the initiator's, true the acceptor's
  abbrev turn : Bool → Turn
  turn x = record { acceptor = x; messages = run i a s x }

  abbrev marks-by : Bool → ℕ
  marks-by x = marks_of x (marked m)

  abbrev out : Bool → Outcome
  out x = heard_turn (owed (marks-by x) (role_of x s) (token (turn x))) (role_of (not x) s) d (token (turn x))

  abbrev spoken : Bool → Record
  spoken x = spoke (marks-by x) (role_of x s) (run i a s x)

  abbrev behind : Bool → Replay
  behind x = went_on x s (spoken x) (out x).answer.next (size i a s x) (length (run i a s x))

  -- by cases: what the definition of a replay has of the turn
  same_out : (x : Bool) → outcome_of (marked m) (sides_in s d) (turn x) ≡ out x
  same_out false = refl
  same_out true = refl

  same-sides : (x : Bool) → so_played (marked m) (sides_in s d) (turn x) ≡ sides_in (behind x) (out x).transcript
  same-sides false = refl
  same-sides true = refl

  left_behind : (x : Bool) → messages_of (drop (place_of x s + size i a s x) (file_by x i a)) ≡ drop (length (run i a s x)) (messages_of (part i a s x))
  left_behind x = ap messages_of (sym (drop-drop (size i a s x) (place_of x s) (file_by x i a))) ∙ run-left s.number (part i a s x)

  first-left : (x : Bool) → (x ≡ true → length (run i a s false) ≤ 0) → 0 < length (run i a s x) → left_of s i a ≡ turn x ∷ left_of (behind x) i a
  first-left false none some =
      turns-initiator s.number (messages_of (part i a s false)) (messages_of (part i a s true)) some
      ∙ ap (λ (l : List (List ℕ)). turn false ∷ turns_left (s.number + length (run i a s false)) l (messages_of (part i a s true)))
      (sym (left_behind false))
  first-left true none some =
      turns-acceptor s.number (messages_of (part i a s false)) (messages_of (part i a s true)) (none refl) some
      ∙ ap (λ (l : List (List ℕ)). turn true ∷ turns_left (s.number + length (run i a s true)) (messages_of (part i a s false)) l)
      (sym (left_behind true))

  -- by cases: the places and the records behind it
  record Moved (x : Bool) : Type 0 where
    own : place_of x (behind x) ≡ place_of x s + size i a s x
    in_i : (behind x).iplace ≤ length i
    in_a : (behind x).aplace ≤ length a
    both : (behind x).iplace + (behind x).aplace ≡ s.iplace + s.aplace + size i a s x

  moved : (x : Bool) → Moved x
  moved false = record { own = refl; in_i = within i a s fine false; in_a = fine.in_a; both = omega arith }
  moved true = record { own = refl; in_i = fine.in_i; in_a = within i a s fine true; both = omega arith }

  level-behind : (x : Bool) (w r : Record) → Level w r → Level (cond x r w) (cond x w r)
  level-behind false w r l = l
  level-behind true w r l = level-swap w r l

  module _ (x : Bool) (none : x ≡ true → length (run i a s false) ≤ 0) (some : 0 < length (run i a s x)) where
    octets-run : 64 * length (run i a s x) ≤ size i a s x
    octets-run = run-octets s.number (part i a s x)

    mine : messages_of (token (turn x)) ≡ run i a s x
    mine = messages-join (run i a s x) (pieces-run s.number (part i a s x))

    -- accepted
    module _ (e : (out x).answer.refusal ≡ 0) where
      heard : Heard (role_of (not x) s) (token (turn x)) (out x).answer.next
      heard = (heard-turn (owed (marks-by x) (role_of x s) (token (turn x))) (role_of (not x) s) d (token (turn x)) (eq-eqb _ _ e)).1

      gone : Gone (role_of (not x) s) (run i a s x) heard.n
      gone = gone-through (role_of (not x) s) (run i a s x) heard.n heard.scan
          (pieces_exact (run i a s x) (pieces-run s.number (part i a s x))) heard.is

      octets-are : octets_in x i a s (behind x) ≡ token (turn x)
      octets-are =
          let k : place_of x (behind x) - place_of x s ≡ size i a s x = omega (arith, (moved x).own) in
          ap (λ (j : ℕ). take j (part i a s x)) k ∙ run-front s.number (part i a s x)

      level-both : Level (spoken x) (out x).answer.next
      level-both =
          let l = level_by x s fine.level in
          let c = spoke-counts (marks-by x) (role_of x s) (run i a s x) in
          let next = heard.next in
          let used-r : (out x).answer.next.used ≡ (role_of (not x) s).used + size i a s x = ap (λ (y : Record). y.used) next in
          let sequence-r : (out x).answer.next.sequence ≡ (role_of (not x) s).sequence + heard.n = ap (λ (y : Record). y.sequence) next in
          let count-r : (out x).answer.next.count ≡ (role_of (not x) s).count = ap (λ (y : Record). y.count) next in
          record {
            few_w = omega (arith, spoke-keeps (marks-by x) (role_of x s) (run i a s x), l.few_w);
            few_r = omega (arith, l.few_r);
            used = omega (arith, c.0, l.used);
            sequence = omega (arith, c.1, l.sequence, gone.count);
          }

      goes : Goes m i a s d (behind x) (out x).transcript
      goes = record {
        fine = record {
          short_i = fine.short_i;
          short_a = fine.short_a;
          in_i = (moved x).in_i;
          in_a = (moved x).in_a;
          numbers = omega (arith, fine.numbers, octets-run, (moved x).both);
          few = omega (arith, fine.few, some);
          level = level-behind x (spoken x) (out x).answer.next level-both;
        };
        step = inl (record {
          on = more;
          kept = refl;
          one = refl;
          less = omega (arith, (moved x).in_i, (moved x).in_a, (moved x).both, octets-run, some);
          octets = ap (λ (l : List ℕ). join (messages_of l)) octets-are ∙ ap join mine ∙ sym octets-are;
          accepted =
              subst Accepts (sym octets-are)
              (heard-accepts (role_of (not x) s) (token (turn x)) heard.n heard.scan (omega (arith, heard.short)) heard.is);
          come =
              rest-on m i a s d more
              ∙ ap (play_from (marked m) (sides_in s d)) (first-left x none some)
              ∙ play-on (marked m) (sides_in s d) (turn x) (left_of (behind x) i a)
              (ap (λ (o : Outcome). is_accepted o.answer) (same_out x) ∙ eq-eqb _ _ e)
              ∙ ap (λ (y : Sides). with_turn (record { turn = turn x; choice = choice_of y.i }) (play_from (marked m) y (left_of (behind x) i a)))
              (same-sides x)
              ∙ ap (λ (p : Played). with_turn (record { turn = turn x; choice = choice_of (behind x).initiator }) p)
              (sym (rest-on m i a (behind x) (out x).transcript more))
              ∙ ap (λ (l : List (List ℕ)). with_turn (record { turn = record { acceptor = x; messages = l }; choice = choice_of (behind x).initiator })
              (rest_of m i a (behind x) (out x).transcript)) (sym (ap messages_of octets-are ∙ mine));
        });
      }

    -- refused
    abbrev fault : Fault
    fault = refused_by x (out x).answer

    abbrev ended_by_lem : List ℕ → Outcome → Played
    ended_by_lem l o =
        record {
          turns = [];
          sides = sides_in s l;
          ending = refused o.answer.refusal o.answer.place.0 (by (cond (eqb o.answer.refusal 28) x (not x)));
        }

    fault-ends : refused (out x).answer.refusal (out x).answer.place.0 (by (cond (eqb (out x).answer.refusal 28) x (not x))) ≡ fault_as fault
    fault-ends = ap (refused (out x).answer.refusal (out x).answer.place.0) (by_number (cond (eqb (out x).answer.refusal 28) x (not x)))

    ends : ((out x).answer.refusal ≡ 0 → ⊥) → Goes m i a s d (ended_with s (Err fault)) (out x).transcript
    ends h = record {
      fine = still-fine i a s (Err fault) fine;
      step = inr (record {
        over = refl;
        still_i = refl;
        still_a = refl;
        same = refl;
        come =
            rest-on m i a s d more
            ∙ ap (play_from (marked m) (sides_in s d)) (first-left x none some)
            ∙ play-ends (marked m) (sides_in s d) (turn x) (left_of (behind x) i a)
            (ap (λ (o : Outcome). is_accepted o.answer) (same_out x) ∙ ne_eqb _ _ h)
            ∙ ap (ended_by_lem d) (same_out x)
            ∙ ap (λ (l : List ℕ). ended_by_lem l (out x))
            (sym (refused-same (owed (marks-by x) (role_of x s) (token (turn x))) (role_of (not x) s) d (token (turn x)) h))
            ∙ ap (λ (z : Ending). record { turns = []; sides = sides_in s (out x).transcript; ending = z }) fault-ends
            ∙ sym (rest_over m i a (ended_with s (Err fault)) (out x).transcript refl);
      });
    }

    -- either
    after : (r : Replay) (d' : List ℕ) → stood r d' ≡ after_turn x (marks-by x) s d (token (turn x)) (length (run i a s x)) → Goes m i a s d r d'
    unfolding after_turn
    after r d' is = go (which (eqb (out x).answer.refusal 0)) where
      go : (eqb (out x).answer.refusal 0 ≡ true) ⊎ (eqb (out x).answer.refusal 0 ≡ false) → Goes m i a s d r d'
      go (inl e) =
          let y : stood r d' ≡ stood (went_on x s (spoke (marks-by x) (role_of x s) (messages_of (token (turn x)))) (out x).answer.next (size i a s x)
          (length (run i a s x))) (out x).transcript = is ∙ rw e in
          subst (λ (z : Stood). Goes m i a s d z.replay z.transcript)
          (sym (y
          ∙ ap (λ (l : List (List ℕ)). stood
          (went_on x s (spoke (marks-by x) (role_of x s) l) (out x).answer.next (size i a s x) (length (run i a s x))) (out x).transcript) mine))
          (goes (eqb-true _ _ e))
      go (inr e) =
          let y : stood r d' ≡ stood (ended_with s (Err fault)) (out x).transcript = is ∙ rw e in
          subst (λ (z : Stood). Goes m i a s d z.replay z.transcript) (sym y) (ends (eqb-false _ _ e))

-- in the words of the code
abbrev octets_by : Bool → Next → ℕ
octets_by x n = cond x n.acceptor n.initiator

abbrev left_in : List ℕ → ℕ → List ℕ
left_in file place = take (length file - place) (drop place file)

module _ (i a : List ℕ) (s : Replay) (fine : Fine i a s) where
  same-next : next_in s.number (left_in i s.iplace) (left_in a s.aplace) ≡ next_in s.number (part i a s false) (part i a s true)
  same-next =
      ap (λ (l : List ℕ). next_in s.number l (left_in a s.aplace)) (tail_all i s.iplace) ∙ ap (next_in s.number (part i a s false)) (tail_all a s.aplace)

  pub turn-none : None ≡ next_in s.number (left_in i s.iplace) (left_in a s.aplace) → (m : Marks) (d : List ℕ) → is_none s.end ≡ true
      → Goes m i a s d (ended_with s (Ok tt)) d
  turn-none e m d more = let z = says-none s.number (part i a s false) (part i a s true) (e ∙ same-next) in none_left m i a s d fine more z.0 z.1

  module _ (n : Next) (n-is : Some n ≡ next_in s.number (left_in i s.iplace) (left_in a s.aplace)) where
    record First (x : Bool) : Type 0 where
      none : x ≡ true → length (run i a s false) ≤ 0
      octets : octets_by x n ≡ size i a s x
      count : n.messages ≡ length (run i a s x)
      some : 0 < length (run i a s x)

    first : (x : Bool) → n.acceptors ≡ x → Says s.number (part i a s false) (part i a s true) n → First x
    first false e (initiators p r o q k) = record { none = λ h. no_true h; octets = o; count = k; some = p }
    first false e (acceptors p f r o q k) = no_true (sym e ∙ r)
    first true e (initiators p r o q k) = no_true (sym r ∙ e)
    first true e (acceptors p f r o q k) = record { none = λ h. p; octets = q; count = k; some = f }

    module _ (x : Bool) (role : n.acceptors ≡ x) where
      first-x : First x
      first-x = first x role (says s.number (part i a s false) (part i a s true) n (n-is ∙ same-next))

      abbrev here : List ℕ
      here = take (octets_by x n) (left_in (file_by x i a) (place_of x s))

      here-is : here ≡ join (run i a s x)
      here-is =
          ap (take (octets_by x n)) (tail_all (file_by x i a) (place_of x s)) ∙ ap (λ (j : ℕ). take j (part i a s x)) first-x.octets
          ∙ run-front s.number (part i a s x)

      pub turn-within : octets_by x n ≤ length (left_in (file_by x i a) (place_of x s))
      turn-within =
          omega (arith, first-x.octets, ap length (tail_all (file_by x i a) (place_of x s)), run-within s.number (part i a s x))

      pub turn-ready : Ready s (length here) n.messages
      turn-ready =
          let l : length here ≡ size i a s x = ap length here-is in
          let w = within i a s fine x in
          let short = short-by i a s fine x in
          let o = run-octets s.number (part i a s x) in
          record {
            level = fine.level;
            long = omega (arith, first-x.some);
            room_i = omega (arith, fine.in_i, fine.short_i);
            room_a = omega (arith, fine.in_a, fine.short_a);
            numbers = omega (arith, fine.numbers, fine.in_i, fine.in_a, fine.short_i, fine.short_a, first-x.count);
            turns = omega (arith, fine.few, fine.numbers, fine.in_i, fine.in_a, fine.short_i, fine.short_a);
          }

      pub turn-goes : (m : Marks) (d : List ℕ) → is_none s.end ≡ true → (r : Replay) (d' : List ℕ)
          → stood r d' ≡ after_turn x (marks_of x (marked m)) s d here n.messages → Goes m i a s d r d'
      turn-goes m d more r d' is =
          after m i a s d fine more x first-x.none first-x.some r d'
          (is ∙ ap (λ (l : List ℕ). after_turn x (marks_of x (marked m)) s d l n.messages) here-is
          ∙ ap (after_turn x (marks_of x (marked m)) s d (join (run i a s x))) first-x.count)
