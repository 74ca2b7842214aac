-- The call: 18 and 1, the messages, 16, and the outcome, in the words of the code.
-- Assumes nothing.
use Prim.Native.Nat.{ℕ, zero, suc, ◌+◌, ◌-◌, ◌<◌, ◌≤◌, min}
use mathlib.Core.Path.{◌≡◌, refl, sym, ap, ◌∙◌}
use mathlib.Core.Bool.{Bool, true, false}
use mathlib.Core.List.{List, [], ◌∷◌, ◌++◌}
use native.Mathlib.Omega.{arith}
use lib.ListN.{length}
use lib.Dec.{eqb, leb}
use borrow.Author.Tests.{le-leb, lt-leb, leb-true, ne_eqb}
use Rattle.message.specs.Layout.{size, front}
use Rattle.message.specs.Check.{first_failing}
use Rattle.message.proofs.Tables.{AllTrue}
use Rattle.token.specs.Token.{refused as cut_at, chain_of, passes}
use Rattle.put.specs.Put.{Written}
use Rattle.refusal.specs.declared.Refusal.{Refusal}
use Rattle.refusal.specs.Refusals.{number_of}
use Rattle.conversation.specs.declared.Record.{Record}
use Rattle.conversation.specs.declared.Scan.{Scan}
use Rattle.conversation.specs.declared.Answer.{Answer}
use Rattle.conversation.specs.State.{closed, limit_rows}
use Rattle.conversation.specs.Turns.{may_read}
use Rattle.conversation.specs.Outcomes.{Outcome, answered, closed_by, row}
use Rattle.conversation.specs.Admitting.{Admitted, on, stop, admit}
use Rattle.conversation.specs.Reading.{conversation_of, start_of, Judged, whole, then_judge, judge, judged, taken, taken_as, accepted, finish, token_rows, reading_token}
use Rattle.conversation.proofs.Rows.{true-behind}
use Rattle.conversation.proofs.Tokens.{judged-first}
use Rattle.std.proofs.Common.{Result, Ok, Err}
use Rattle.refusal.specs.declared.Refusal.TheVariants as refusal
use Rattle.token.specs.declared.Refused.{Refused}
use Rattle.calls.specs.Calls.{room_for, call_refusal, Inside}
use Rattle.calls.proofs.Refusals.{limits-inside, limits-stop, limits-on, call-refused, call-given, call-passed}
use Rattle.receiving.specs.Receiving.{judged_as, Taking, Judging, halted_as}

-- 18 and 1
pub before-limits : (r : Record) (size : ℕ) (e : Refusal) → number_of e ≡ first_failing (limit_rows r) → number_of e ≡ call_refusal r (token_rows r size)
before-limits r size = limits-stop r (token_rows r size)

module _ (r : Record) (size : ℕ) (z : 0 ≡ first_failing (limit_rows r)) (a : Bool) (a-is : a ≡ may_read r) where
  behind : (x : ℕ) → x ≡ first_failing (token_rows r size) → x ≡ call_refusal r (token_rows r size)
  behind = limits-on r (token_rows r size) z

  pub before-turn : a ≡ false → 18 ≡ call_refusal r (token_rows r size)
  before-turn e = behind 18 (rw (← a-is, e))

  pub before-long : a ≡ true → 65535 < size → 1 ≡ call_refusal r (token_rows r size)
  before-long e h = behind 1 (rw (← a-is, e, lt-leb _ _ h))

  pub before-none : a ≡ true → size ≤ 65535 → 0 ≡ call_refusal r (token_rows r size)
  before-none e h = behind 0 (rw (← a-is, e, le-leb _ _ h))

pub ruleset befores = (before-turn, before-long, before-none)

-- a token's messages are no more than its octets
few : (r : Record) (t s : List ℕ) (k at q : ℕ) (v : List ℕ) (n : ℕ) (c : Scan) (m : ℕ) (d : Scan) → judge r t n c (chain_of s k at q v) ≡ whole m d
    → m ≤ n + length s
unfolding judge chain_of
few r t [] k at q v n c m d e = let f : n ≡ m = cc in omega arith
few r t (x ∷ s) (suc k) at q v n c m d e = let i = few r t s k at q v n c m d e in omega arith
few r t (x ∷ s) zero at q v n c m d e = go (passes (x ∷ s) q v) refl (few r t s (size (x ∷ s) - 1) (at + size (x ∷ s)) (q + 1) v (n + 1)) where
  then : (a : Admitted) (rest : Scan → Judged) → ((b : Scan) → rest b ≡ whole m d → m ≤ n + 1 + length s) → then_judge a at rest ≡ whole m d
      → m ≤ n + suc (length s)
  then (on b) rest ih f = let i = ih b f in omega arith
  then (stop j) rest ih f = let z : ◌≡◌ {A = ℕ} 0 1 = cc in absurd (omega arith)

  go : (b : Bool) → passes (x ∷ s) q v ≡ b
      → ((b : Scan) (m : ℕ) (d : Scan) → judge r t (n + 1) b (chain_of s (size (x ∷ s) - 1) (at + size (x ∷ s)) (q + 1) v) ≡ whole m d
      → m ≤ n + 1 + length s) → m ≤ n + suc (length s)
  go true p ih =
      then (admit r t c (front (x ∷ s))) (λ b. judge r t (n + 1) b (chain_of s (size (x ∷ s) - 1) (at + size (x ∷ s)) (q + 1) v)) (λ b. ih b m d)
      (rw p at e)
  go false p ih = let f = rw p at e in let z : ◌≡◌ {A = ℕ} 0 1 = cc in absurd (omega arith)

judged-few : (r : Record) (t : List ℕ) (n : ℕ) (d : Scan) → judged r t ≡ whole n d → n ≤ length t
unfolding judged
judged-few r t n d e = go (eqb (length t) 0) refl where
  go : (b : Bool) → eqb (length t) 0 ≡ b → n ≤ length t
  go true p = let f = rw p at e in none f where
    none : judge r t 0 (start_of r) (cut_at 2 0) ≡ whole n d → n ≤ length t
    none f = unfold judge in (let z : ◌≡◌ {A = ℕ} 0 1 = cc in absurd (omega arith))
  go false p = let i = few r t t 0 0 r.sequence (conversation_of r t) 0 (start_of r) n d (rw p at e) in omega arith

-- 12 closes the record
module _ (r : Record) (n : ℕ) where
  pub closed-now : n ≡ 12 → closed r ≡ closed_by n r
  closed-now e = rw e

  pub closed-not : (n ≡ 12 → ⊥) → r ≡ closed_by n r
  closed-not e = rw (ne_eqb n 12 e)

pub ruleset closings = (closed-now, closed-not)

-- the answer to a token that is halted
pub halted-answer : (r : Record) (f : Refused) (n : ℕ) → n ≡ number_of f.refusal → (next : Record) → next ≡ closed_by n r → (a : Answer) → a
    ≡ answered n f.place.0 next
    → a ≡ halted_as r (judged_as (Err f))
halted-answer r f n n-is next next-is a a-is = rw (sym n-is) (a-is ∙ ap (answered n f.place.0) next-is)

-- an accepted token
pub accept-is : (r : Record) (d t : List ℕ) (n : ℕ) (c : Scan) (d' : List ℕ) (next : ℕ) → Written d r.used (length t) t d' next → (after : Record)
    → after ≡ taken r t n c → ◌≡◌ {A = Outcome} (record { answer = taken_as after n; transcript = d' }) (accepted r d t n c)
accept-is r d t n c d' next w after after_is = rw (w.holds, after_is)

-- 16
module _ (r : Record) (d t : List ℕ) (j : Result (ℕ × Scan) Refused) where
  pub finish-halted : (f : Refused) → j ≡ Err f → (a : Answer) → a ≡ halted_as r (judged_as (Err f))
      → ◌≡◌ {A = Outcome} (record { answer = a; transcript = d }) (finish r d t (judged_as j))
  unfolding finish
  finish-halted f e a a-is = rw (a-is, e)

  module _ (n : ℕ) (c : Scan) (j-whole : j ≡ Ok (n, c)) where
    pub finish-taking : Judging r t j → Taking r (length t) n
    finish-taking w =
        let e : judged r t ≡ whole n c = sym w.says ∙ ap judged_as j-whole in
        record { inside = w.inside; forty = (judged-first r t n c e).forty; short = w.short; messages = judged-few r t n c e }

    module _ (b : Bool) (b-is : b ≡ room_for r.used (0 + length t) (length d)) where
      room : room_for r.used (length t) (length d) ≡ b
      room = let e : length t ≡ 0 + length t = omega arith in rw e (sym b-is)

      pub finish-16 : b ≡ false → (a : Answer) → a ≡ answered (number_of refusal.Room) 0 r
          → ◌≡◌ {A = Outcome} (record { answer = a; transcript = d }) (finish r d t (judged_as j))
      unfolding finish
      finish-16 e a a-is = rw (a-is, j-whole, room, e)

      pub finish-room : b ≡ true → r.used + length t ≤ length d
      finish-room e = omega (arith, leb-true (r.used + length t) (min (length d) 65535) (room ∙ e))

      pub finish-accepted : b ≡ true → (x : Outcome) → x ≡ accepted r d t n c → x ≡ finish r d t (judged_as j)
      unfolding finish
      finish-accepted e x x-is = x-is ∙ rw (j-whole, room, e)

pub ruleset finishes = (halted-answer, accept-is, finish-halted, finish-taking, finish-16, finish-room, finish-accepted)

-- the whole call
module _ (r : Record) (d t : List ℕ) where
  pub read-refused : (e : Refusal) → number_of e ≡ call_refusal r (token_rows r (length t)) → (a : Answer) → a ≡ answered (number_of e) 0 r
      → ◌≡◌ {A = Outcome} (record { answer = a; transcript = d }) (reading_token r d t)
  unfolding reading_token
  read-refused e e-is a a-is = rw a-is (call-refused r (token_rows r (length t)) e e-is d (finish r d t (judged r t)))

  module _ (z : 0 ≡ call_refusal r (token_rows r (length t))) where
    given : AllTrue (limit_rows r ++ token_rows r (length t))
    given = call-given r (token_rows r (length t)) refl z

    pub read-inside : Inside r
    read-inside = limits-inside r (token_rows r (length t)) given

    pub read_short : length t ≤ 65535
    read_short = leb-true _ _ (true-behind (limit_rows r ++ (row 18 (may_read r) ∷ [])) (row 1 (leb (length t) 65535)) [] given)

    module _ (j : Result (ℕ × Scan) Refused) (j-is : judged_as j ≡ judged r t) where
      pub read-judging : Judging r t j
      read-judging = record { inside = read-inside; short = read_short; says = j-is }

      pub read-on : (x : Outcome) → x ≡ finish r d t (judged_as j) → x ≡ reading_token r d t
      unfolding reading_token
      read-on x x-is = x-is ∙ ap (finish r d t) j-is ∙ call-passed r (token_rows r (length t)) refl z d (finish r d t (judged r t))

pub ruleset calls = (read-refused, read-inside, read_short, read-judging, read-on)
