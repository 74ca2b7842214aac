-- One turn of the loop over a peer's token, in the words of the code: x is what the loop began with, n the messages let through before.
-- Assumes nothing.
use Prim.Native.Nat.{ℕ, ◌+◌, ◌-◌, ◌<◌, ◌≤◌}
use mathlib.Core.Path.{◌≡◌, refl, sym, ap, ◌∙◌}
use mathlib.Core.Bool.{true, false, cond}
use mathlib.Core.Logic.{◌⊎◌, inl, inr}
use mathlib.Core.List.{List, [], ◌∷◌}
use native.Mathlib.Omega.{arith}
use lib.ListN.{length, take, drop}
use lib.Seq.{length-take-le}
use lib.Dec.{eqb}
use borrow.Author.Tests.{eq-eqb, ne_eqb, eqb-false}
use Rattle.octets.proofs.Bools.{which}
use Rattle.octets.proofs.Slices.{tail_all}
use Rattle.octets.specs.Octets.{octets}
use Rattle.message.specs.declared.Header.{Header}
use Rattle.std.proofs.Common.{Result, Ok, Err}
use Rattle.refusal.specs.declared.Refusal.{Refusal}
use Rattle.refusal.specs.Refusals.{number_of}
use Rattle.message.specs.Layout.{head_of}
use Rattle.message.specs.Check.{first_failing, said, fields_of}
use Rattle.message.proofs.Tables.{verdict-refused}
use Rattle.token.specs.Token.{next_rows, passes, next_verdict, Chain, chain_of}
use Rattle.token.proofs.Cuts.{turn-pass, turn-fail}
use Rattle.token.proofs.Messages.{passed, size_is, sized, ends-within, left_less, left-count, left-place, short}
use Rattle.conversation.specs.declared.Record.{Record}
use Rattle.conversation.specs.declared.Scan.{Scan}
use Rattle.conversation.specs.Turns.{reads}
use Rattle.conversation.specs.Admitting.{Admitted, admit}
use Rattle.conversation.specs.Reading.{conversation_of, start_of, Judged, whole, halted, then_judge, judge, judged}
use Rattle.std.proofs.Common.{Result, Ok, Err}
use Rattle.refusal.specs.declared.Refusal.{Refusal}
use Rattle.admitting.specs.Admissions.{admitted}
use Rattle.admitting.proofs.Admits.{admitted-named}

-- what is carried into the first message
module _ (r : Record) (c : Scan) (c-is : c ≡ start_of r) where
  pub start-named : c.named ≤ 0
  start-named = omega (arith, ap (λ (z : Scan). z.named) c-is)

  pub start-judged : (t : List ℕ) (ms : Chain) → judge r t 0 (start_of r) ms ≡ judge r t 0 c ms
  start-judged t ms = ap (λ (z : Scan). judge r t 0 z ms) (sym c-is)

-- a message that is read, and what is left after it
module _ (rest : List ℕ) (q : ℕ) (v : List ℕ) (m : Result Header Refusal) (m-is : said m ≡ next_verdict rest q v) (h : Header) (m-reads : m ≡ Ok h) where
  here : (64 ≤ h.length) × (h.length ≤ length rest)
  here = sized rest q v m m-is h m-reads

  pub whole_length : h.length ≡ length (take h.length rest)
  whole_length = sym (length-take-le h.length rest here.1)

  pub scheme-there : 56 ≤ length (take h.length rest)
  scheme-there = omega (arith, whole_length, here)

  pub place-fits : (at L : ℕ) → at + length rest ≡ L → L ≤ 65535 → at + h.length < 18446744073709551616
  place-fits at L e w = omega (arith, here)

  module _ (r : Record) (t : List ℕ) (c : Scan) (a : Result Scan Refusal) (a-is : admitted a ≡ admit r t c (take h.length rest)) where
    judged-here : (at n : ℕ) → judge r t n c (chain_of rest 0 at q v)
        ≡ then_judge (admitted a) at (λ d. judge r t (n + 1) d (chain_of (drop h.length rest) 0 (at + h.length) (q + 1) v))
    unfolding judge
    judged-here at n =
        ap (judge r t n c) (turn-pass at q v rest (passed rest q v m m-is h m-reads).0)
        ∙ ap (λ (k : ℕ). then_judge (admit r t c (take k rest)) at (λ d. judge r t (n + 1) d (chain_of (drop k rest) 0 (at + k) (q + 1) v)))
        (size_is rest q v m m-is h m-reads)
        ∙ ap (λ (z : Admitted). then_judge z at (λ d. judge r t (n + 1) d (chain_of (drop h.length rest) 0 (at + h.length) (q + 1) v))) (sym a-is)

    pub judge-stopped : (at n : ℕ) (x : Judged) → x ≡ judge r t n c (chain_of rest 0 at q v) → (k : Refusal) → a ≡ Err k → halted (number_of k) at ≡ x
    judge-stopped at n x inv k e =
        sym (inv ∙ judged-here at n
        ∙ ap (λ (z : Result Scan Refusal). then_judge (admitted z) at
        (λ d. judge r t (n + 1) d (chain_of (drop h.length rest) 0 (at + h.length) (q + 1) v))) e)

    module _ (d : Scan) (a-on : a ≡ Ok d) where
      pub judge-named : (n : ℕ) → c.named ≤ n → d.named ≤ n + 1
      judge-named n w = let u = admitted-named r t c (take h.length rest) d (sym a-is ∙ ap admitted a-on) in omega arith

      pub judge-on : (at n : ℕ) (x : Judged) → x ≡ judge r t n c (chain_of rest 0 at q v) → (next : ℕ) → next ≡ at + h.length
          → x ≡ judge r t (n + 1) d (chain_of (take (length rest - h.length) (drop h.length rest)) 0 next (q + 1) v)
      judge-on at n x inv next next-is =
          inv ∙ judged-here at n
          ∙ ap (λ (z : Result Scan Refusal). then_judge (admitted z) at
          (λ e. judge r t (n + 1) e (chain_of (drop h.length rest) 0 (at + h.length) (q + 1) v))) a-on
          ∙ ap (λ (l : List ℕ). judge r t (n + 1) d (chain_of l 0 (at + h.length) (q + 1) v)) (sym (tail_all rest h.length))
          ∙ ap (λ (k : ℕ). judge r t (n + 1) d (chain_of (take (length rest - h.length) (drop h.length rest)) 0 k (q + 1) v)) (sym next-is)

-- a message that 2 to 13 refuse
cut-chain : (r : Record) (t rest : List ℕ) (at q : ℕ) (v : List ℕ) (n : ℕ) (c : Scan) → 0 < length rest → passes rest q v ≡ false
    → judge r t n c (chain_of rest 0 at q v) ≡ halted (first_failing (next_rows rest q v)) at
unfolding judge
cut-chain r t rest at q v n c some e = ap (judge r t n c) (turn-fail at q v rest some e)

module _ (r : Record) (t rest : List ℕ) (at q : ℕ) (v : List ℕ) (n : ℕ) (c : Scan) (x : Judged)
    (inv : x ≡ judge r t n c (chain_of rest 0 at q v)) where
  pub judge-end : length rest ≤ 0 → whole n c ≡ x
  judge-end e = go rest e ∙ sym inv where
    go : (l : List ℕ) → length l ≤ 0 → whole n c ≡ judge r t n c (chain_of l 0 at q v)
    go [] w = unfold chain_of judge in refl
    go (y ∷ l) w = absurd (omega arith)

  pub judge-cut : 0 < length rest → (m : Result Header Refusal) → said m ≡ next_verdict rest q v → (f : Refusal) → m ≡ Err f → halted (number_of f) at ≡ x
  judge-cut some m m-is f e =
      ap (λ (j : ℕ). halted j at) (sym failed.1)
      ∙ sym (inv ∙ cut-chain r t rest at q v n c some failed.0) where
        failed : (passes rest q v ≡ false) × (first_failing (next_rows rest q v) ≡ number_of f)
        failed = unfold next_verdict in verdict-refused (next_rows rest q v) (fields_of (head_of rest)) (number_of f) (sym m-is ∙ ap said e)

pub ruleset judgings = (
  start-named,
  start-judged,
  ends-within,
  scheme-there,
  left_less,
  left-count,
  left-place,
  judge-stopped,
  judge-named,
  judge-on,
  judge-end,
  judge-cut,
)

-- the conversation where it stands
module _ (token : ℕ) (t own : List ℕ) where
  pub expected-first : token ≡ 0 → octets 16 t 24 ≡ cond (eqb token 0) (octets 16 t 24) own
  expected-first e = rw (eq-eqb _ _ e)

  pub expected-own : (token ≡ 0 → ⊥) → own ≡ cond (eqb token 0) (octets 16 t 24) own
  expected-own e = rw (ne_eqb _ _ e)

-- the whole token
module _ (r : Record) (t : List ℕ) where
  pub expected-is : (token : ℕ) → token ≡ reads r → (v : List ℕ) → v ≡ cond (eqb token 0) (octets 16 t 24) r.conversation → v ≡ conversation_of r t
  unfolding conversation_of
  expected-is token token-is v v-is = v-is ∙ ap (λ (k : ℕ). cond (eqb k 0) (octets 16 t 24) r.conversation) token-is

  pub conversation-first : (token : ℕ) → token ≡ reads r → token ≡ 0 → (x : List ℕ) → x ≡ octets 16 t 24 → x ≡ conversation_of r t
  unfolding conversation_of
  conversation-first token token-is e x x-is = rw (eq-eqb (reads r) 0 (sym token-is ∙ e)) x-is

  pub conversation-own : (token : ℕ) → token ≡ reads r → (token ≡ 0 → ⊥) → r.conversation ≡ conversation_of r t
  unfolding conversation_of
  conversation-own token token-is e = rw (ne_eqb (reads r) 0 (λ q. e (token-is ∙ q)))

  pub judged-short : length t < 40 → halted 2 0 ≡ judged r t
  judged-short h = go (which (eqb (length t) 0)) where
    some : eqb (length t) 0 ≡ false → 0 < length t
    some e = let u : length t ≡ 0 → ⊥ = eqb-false _ _ e in omega arith

    f : (passes t r.sequence (conversation_of r t) ≡ false) × (first_failing (next_rows t r.sequence (conversation_of r t)) ≡ 2)
    f = short t r.sequence (conversation_of r t) h

    go : (eqb (length t) 0 ≡ true) ⊎ (eqb (length t) 0 ≡ false) → halted 2 0 ≡ judged r t
    go (inl e) = unfold judged judge in rw e
    go (inr e) =
        unfold judged in
        rw e (sym (cut-chain r t t 0 r.sequence (conversation_of r t) 0 (start_of r) (some e) f.0 ∙ ap (λ (k : ℕ). halted k 0) f.1))

  pub judged-whole : 40 ≤ length t → (v : List ℕ) → v ≡ conversation_of r t → (x : Judged)
      → x ≡ judge r t 0 (start_of r) (chain_of t 0 0 r.sequence v) → x ≡ judged r t
  unfolding judged
  judged-whole h v v-is x x-is =
      let some : length t ≡ 0 → ⊥ = λ z. omega arith in
      rw (ne_eqb _ _ some, ← v-is) x-is

pub ruleset tokens = (expected-first, expected-own, expected-is, conversation-first, conversation-own, judged-short, judged-whole)
