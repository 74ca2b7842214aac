-- All turns, and the whole replay, in the words of the code.
-- Assumes nothing.
use Prim.Native.Nat.{ℕ, suc, ◌+◌, ◌-◌, ◌/◌, ◌<◌, ◌≤◌}
use mathlib.Core.Path.{◌≡◌, refl, sym, ap, subst, ◌∙◌}
use mathlib.Core.Bool.{Bool, true, false, cond, ◌&&◌}
use mathlib.Core.Logic.{◌⊎◌, inl, inr}
use mathlib.Core.List.{List, [], ◌∷◌}
use native.Mathlib.Omega.{arith}
use Rattle.std.proofs.Common.{Option, Some, None, Err, is_none}
use lib.ListN.{length, replicate}
use Rattle.octets.proofs.Bools.{no_true, and_l, and_r}
use Rattle.schemes.specs.Lists.{list_ok}
use Rattle.conversation.specs.Outcomes.{zero_id}
use Rattle.conversation.specs.Writing.{opening}
use Rattle.schemes.specs.Sets.{below}
use Rattle.sides.specs.Merging.{Turn, messages_of, turns_of, in_row}
use Rattle.sides.specs.Replay.{Case, Whose, initiator, acceptor, neither, given_ok, first_ending, file_ending, messages_by, Ending, finished, refused, unopened, Sides, Shown, Played, before, opened, so_played, turns_in, ended_by, conversation_in, play_from, replay_of, with_turn, choice_of}
use Rattle.replaying.specs.declared.Marks.{Marks}
use Rattle.replaying.specs.declared.Fault.{Fault}
use Rattle.replaying.specs.declared.Fault.TheVariants as fault
use Rattle.replaying.specs.declared.Replay.{Replay}
use Rattle.replaying.proofs.Befores.{few-in, file-short, is_finished}
use Rattle.replaying.specs.Playing.{file_if, octets_of, case_with, fault_as, ending_as, Summary, summary, counted, sides_in, played_as, left_of, marked, rest_of, begun_with, Begun, Fine, turn_in, Further, Ended, Goes}

-- 1. the loop

abbrev one : Bool → ℕ
one b = cond b 1 0

pub left : List ℕ → List ℕ → Replay → ℕ
left i a s = (length i - s.iplace) + (length a - s.aplace) + one (is_none s.end)

more-turns : (k k' : ℕ) (p : Played) (t : Shown) → k' ≡ k + 1 → counted k (summary (with_turn t p)) ≡ counted k' (summary p)
more-turns k k' p t e =
    let z : k + suc (length p.turns) ≡ k' + length p.turns =
    omega arith in ap (λ (n : ℕ). record { turns = n; sides = p.sides; ending = p.ending }) z

counted_none : (u : Summary) → counted 0 u ≡ u
counted_none u = let z : 0 + u.turns ≡ u.turns = omega arith in ap (λ (n : ℕ). record { turns = n; sides = u.sides; ending = u.ending }) z

pub record AllOn (m : Marks) (i a : List ℕ) (total : Summary) (s : Replay) (d : List ℕ) : Type 0 where
  pub fine : Fine i a s
  pub come : total ≡ counted s.turns (summary (rest_of m i a s d))

pub all-begins : (m : Marks) (i a : List ℕ) (s : Replay) (d : List ℕ) → Fine i a s × (is_none s.end ≡ true)
    → AllOn m i a (counted s.turns (summary (rest_of m i a s d))) s d
all-begins m i a s d h = record { fine = h.0; come = refl }

module _ (m : Marks) (i a : List ℕ) (total : Summary) (s : Replay) (d : List ℕ) (on : AllOn m i a total s d) where
  pub all-fine : Fine i a s
  all-fine = on.fine

  pub all-ends : is_none s.end ≡ false → played_as s d ≡ total
  unfolding rest_of
  all-ends e =
      let z : s.turns ≡ s.turns + 0 = omega arith in
      sym (on.come
      ∙ ap (λ (b : Bool). counted s.turns
      (summary
      (cond b (play_from (marked m) (sides_in s d) (left_of s i a)) (record { turns = []; sides = sides_in s d; ending = ending_as s.end })))) e
      ∙ ap (λ (k : ℕ). record { turns = k; sides = sides_in s d; ending = ending_as s.end }) (sym z))

  module _ (more : is_none s.end ≡ true) (s' : Replay) (d' : List ℕ) (goes : Goes m i a s d s' d') where
    pub all-on : AllOn m i a total s' d'
    all-on = go goes.step where
      go : Further m i a s d s' d' ⊎ Ended m i a s d s' d' → AllOn m i a total s' d'
      go (inl f) = record {
        fine = goes.fine;
        come =
            on.come ∙ ap (λ (p : Played). counted s.turns (summary p)) f.come
            ∙ more-turns s.turns s'.turns (rest_of m i a s' d') (record { turn = turn_in i a s s'; choice = choice_of s'.initiator })
            f.one;
      }
      go (inr f) = record {
        fine = goes.fine;
        come = on.come ∙ ap (λ (p : Played). counted s.turns (summary p)) f.come
            ∙ ap (λ (k : ℕ). counted k (summary (rest_of m i a s' d'))) (sym f.same);
      }

    pub all-less : left i a s' < left i a s
    unfolding left
    all-less = go goes.step where
      go : Further m i a s d s' d' ⊎ Ended m i a s d s' d' → left i a s' < left i a s
      go (inl f) = rw (more, f.on) (omega (arith, f.less))
      go (inr f) = rw (more, f.over) (omega (arith, f.still_i, f.still_a))

-- 2. the whole

-- what play asks of what comes before it
first-l : (x y : Ending) → first_ending x y ≡ finished → x ≡ finished
first-l finished y e = refl
first-l (refused n p w) y e = e
first-l unopened y e = e

first_r : (x y : Ending) → first_ending x y ≡ finished → y ≡ finished
unfolding is_finished
first_r finished y e = e
first_r (refused n p w) y e = no_true (ap is_finished e)
first_r unopened y e = no_true (ap is_finished e)

ok-given : (b : Bool) (n p : ℕ) (w : Whose) → cond b finished (refused n p w) ≡ finished → b ≡ true
unfolding is_finished
ok-given true n p w e = refl
ok-given false n p w e = no_true (ap is_finished e)

-- play goes by the marks alone
module _ (il al : List ℕ) (m : Marks) (i a : Option (List ℕ)) where
  same_step : (x : Bool) (ms : List (List ℕ)) (ts : List Turn) → ((s : Sides) → play_from (case_with il al m i a) s ts ≡ play_from (marked m) s ts)
      → (s : Sides) → play_from (case_with il al m i a) s (record { acceptor = x; messages = ms } ∷ ts)
      ≡ play_from (marked m) s (record { acceptor = x; messages = ms } ∷ ts)
  unfolding play_from
  same_step false ms ts ih s = rw (ih (so_played (marked m) s (record { acceptor = false; messages = ms })))
  same_step true ms ts ih s = rw (ih (so_played (marked m) s (record { acceptor = true; messages = ms })))

  same-marks : (s : Sides) (ts : List Turn) → play_from (case_with il al m i a) s ts ≡ play_from (marked m) s ts
  unfolding play_from
  same-marks s [] = refl
  same-marks s (t ∷ ts) = same_step t.acceptor t.messages ts (λ s'. same-marks s' ts) s

-- of an ending before play
ended-first : (x : Fault) (s : Sides) (p : Played) → ended_by (fault_as x) s p ≡ record { turns = []; sides = s; ending = fault_as x }
ended-first fault.Unopened s p = refl
ended-first (fault.Refused n p w) s q = refl

opened-counts : (x : Bool) (list v : List ℕ) → list_ok list ≡ true
    → ((opening x list v).next.count ≤ 16) × (((opening x list v).next.used ≡ 0) × ((opening x list v).next.sequence ≡ 0))
unfolding opening
opened-counts x list v h = rw h (few-in list h, (refl, refl))

module _ (il al : List ℕ) (m : Marks) (i a : Option (List ℕ)) where
  abbrev the-case : Case
  the-case = case_with il al m i a

  module _ (x : Fault) (x-is : fault_as x ≡ before (case_with il al m i a)) where
    ended-come : (d : List ℕ) → rest_of m (octets_of i) (octets_of a) (begun_with il al (replicate 16 0) (Some (Err x))) d ≡ replay_of the-case d
    unfolding rest_of replay_of
    ended-come d =
        sym (ap (λ (z : Ending). ended_by z (opened the-case [] d) (play_from the-case (opened the-case (turns_in the-case) d) (turns_in the-case)))
        (sym x-is)
        ∙ ended-first x (opened the-case [] d) (play_from the-case (opened the-case (turns_in the-case) d) (turns_in the-case)))

    pub start-ended : (r : Replay) → r ≡ begun_with il al (replicate 16 0) (Some (Err x))
        → Begun (case_with il al m i a) m (octets_of i) (octets_of a) r
    start-ended r r-is =
        subst (λ (z : Replay). Begun the-case m (octets_of i) (octets_of a) z) (sym r-is)
        (record { going = λ h. no_true h; none_yet = refl; come = ended-come })

  module _ (none : finished ≡ before (case_with il al m i a)) where
    given_both : given_ok the-case.i && given_ok the-case.a ≡ true
    unfolding before
    given_both = ok-given _ _ _ _ (first-l _ _ (sym none))

    abbrev end-i : Ending
    end-i = file_ending initiator (file_if i)

    abbrev end-a : Ending
    end-a = file_ending acceptor (file_if a)

    abbrev end_row : Ending
    end_row = cond (in_row (messages_by the-case.i) (messages_by the-case.a)) finished (refused 24 0 neither)

    files-ok : first_ending end-i (first_ending end-a end_row) ≡ finished
    unfolding before
    files-ok = first_r (cond (given_ok the-case.i && given_ok the-case.a) finished (refused 19 0 neither)) _ (sym none)

    list-i : list_ok il ≡ true
    list-i = and_l (list_ok il) (below (length il / 16) m.initiator) (and_l (given_ok the-case.i) (given_ok the-case.a) given_both)

    list-a : list_ok al ≡ true
    list-a = and_l (list_ok al) (below (length al / 16) m.acceptor) (and_r (given_ok the-case.i) (given_ok the-case.a) given_both)

    pub whole-short-i : length (octets_of i) ≤ 65535
    whole-short-i = file-short initiator i (sym (first-l end-i (first_ending end-a end_row) files-ok))

    pub whole-short-a : length (octets_of a) ≤ 65535
    whole-short-a = file-short acceptor a (sym (first-l end-a end_row (first_r end-i (first_ending end-a end_row) files-ok)))

    whole_is : (d : List ℕ) → replay_of the-case d ≡ play_from the-case (opened the-case (turns_in the-case) d) (turns_in the-case)
    unfolding replay_of
    whole_is d = rw (sym none)

    module _ (v : List ℕ) (v-is : v ≡ conversation_in (turns_of (messages_of (octets_of i)) (messages_of (octets_of a)))) (s : Replay)
        (s-is : s ≡ begun_with il al v None) where
      whole-begins : Fine (octets_of i) (octets_of a) s
      whole-begins =
          let oi = opened-counts false il v list-i in
          let oa = opened-counts true al zero_id list-a in
          subst (Fine (octets_of i) (octets_of a)) (sym s-is) (record {
            short_i = whole-short-i;
            short_a = whole-short-a;
            in_i = omega arith;
            in_a = omega arith;
            numbers = omega arith;
            few = omega arith;
            level = record { few_w = oi.0; few_r = oa.0; used = oi.1.0 ∙ sym oa.1.0; sequence = oi.1.1 ∙ sym oa.1.1 };
          })

      whole-left : (d : List ℕ) → rest_of m (octets_of i) (octets_of a) s d ≡ replay_of the-case d
      unfolding rest_of
      whole-left d =
          ap (λ (z : Replay). rest_of m (octets_of i) (octets_of a) z d) s-is
          ∙ ap (λ (w : List ℕ). play_from (marked m) (sides_in (begun_with il al w None) d) (turns_in the-case)) v-is
          ∙ sym (whole_is d ∙ same-marks il al m i a (opened the-case (turns_in the-case) d) (turns_in the-case))

      pub start-goes : Begun (case_with il al m i a) m (octets_of i) (octets_of a) s
      start-goes = record {
        going = λ h. whole-begins;
        none_yet = ap (λ (z : Replay). z.turns) s-is;
        come = whole-left;
      }

-- from a replay before its first turn to the whole
module _ (c : Case) (m : Marks) (i a : List ℕ) (s : Replay) (begun : Begun c m i a s) where
  pub begun-fine : is_none s.end ≡ true → Fine i a s
  begun-fine h = begun.going h

  begun-counted : (d : List ℕ) → counted s.turns (summary (rest_of m i a s d)) ≡ summary (replay_of c d)
  begun-counted d =
      ap (λ (k : ℕ). counted k (summary (rest_of m i a s d))) begun.none_yet ∙ counted_none (summary (rest_of m i a s d))
      ∙ ap summary (begun.come d)

  pub whole-ended : (d : List ℕ) → is_none s.end ≡ false → played_as s d ≡ summary (replay_of c d)
  unfolding rest_of
  whole-ended d e =
      let z : s.turns ≡ 0 = begun.none_yet in
      ap (λ (k : ℕ). record { turns = k; sides = sides_in s d; ending = ending_as s.end }) z
      ∙ sym (ap
      (λ (b : Bool). summary
      (cond b (play_from (marked m) (sides_in s d) (left_of s i a)) (record { turns = []; sides = sides_in s d; ending = ending_as s.end }))) e)
      ∙ ap summary (begun.come d)

  pub whole-played : (d : List ℕ) (r : Replay) (d' : List ℕ) → played_as r d' ≡ counted s.turns (summary (rest_of m i a s d))
      → played_as r d' ≡ summary (replay_of c d)
  whole-played d r d' e = e ∙ begun-counted d

pub ruleset alls = (all-begins, all-fine, all-ends, all-on, all-less)

pub ruleset starts = (start-ended, whole-short-i, whole-short-a, start-goes)

pub ruleset wholes = (begun-fine, whole-ended, whole-played)
