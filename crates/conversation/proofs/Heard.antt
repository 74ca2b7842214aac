-- What an end reads of its peer's VERIFYs: at most one for each scheme, and what the record's flag says of it.
-- Assumes nothing.
use Prim.Native.Nat.{ℕ, suc, ◌+◌, ◌≤◌, ◌<◌}
use mathlib.Core.Path.{◌≡◌, refl, sym, ap, subst, ◌∙◌}
use mathlib.Core.Bool.{Bool, true, false, cond, not, ◌&&◌, ◌||◌}
use mathlib.Core.Logic.{◌⊎◌, inl, inr}
use mathlib.Core.List.{List, [], ◌∷◌}
use native.Mathlib.Omega.{arith}
use lib.ListN.{length, get_or}
use lib.Dec.{eqb, leb, ltb}
use borrow.Author.Tests.{eqb-true, ne_eqb, leb-true, ltb-true, lt-ltb}
use Rattle.octets.specs.Octets.{same_octets}
use Rattle.octets.proofs.Bools.{which, no_true, and_l, and_r}
use Rattle.octets.proofs.Same.{same-eq, same_refl}
use Rattle.message.specs.Layout.{head_of}
use Rattle.message.proofs.Tables.{AllTrue}
use Rattle.token.specs.Token.{Chain, end, refused as cut_at, message}
use Rattle.schemes.specs.Lists.{Id, mem, place, keep}
use Rattle.schemes.proofs.Replies.{get_or-place}
use Rattle.conversation.specs.declared.Record.{Record}
use Rattle.conversation.specs.declared.Scan.{Scan}
use Rattle.conversation.specs.State.{NONE, own_of, scheme_at, replied, limit_rows}
use Rattle.conversation.specs.Turns.{FURTHER, NEGO, METADATA, EXCHANGE, VERIFY, class_of, after_opening, after, reads}
use Rattle.conversation.specs.Writing.{starts_with}
use Rattle.conversation.specs.Admitting.{scheme_in, listed_by, is_at, exchange_fits, further_fits, scheme_fits, confirmed_for, passed, Admitted, on, stop, admit}
use Rattle.conversation.specs.Reading.{whole, halted, judge}
use Rattle.conversation.specs.Logs.{messages_in}
use Rattle.conversation.specs.Claims.{is_verify, verify_for}
use Rattle.conversation.proofs.Tokens.{not-stop}
use Rattle.conversation.proofs.Inside.{own-length, place-own, further-mem, further-kind}

-- 1. a message that is let through: what it has, and what is carried on

-- a VERIFY is one by its type
verify-kind : (b : Bool) (type : ℕ) → eqb (class_of b type) VERIFY ≡ eqb type 6
unfolding class_of
verify-kind true type = elim (which (eqb type 6)) [
  | inl e ↦ let z : type ≡ 6 = eqb-true _ _ e in rw z
  | inr e ↦ rw e (go (eqb type 1) (eqb type 3) (eqb type 4) (eqb type 7))
] where
  go : (x y z u : Bool) → eqb (cond x 1 (cond y 2 (cond z 3 (cond u 5 0)))) 4 ≡ false
  go true y z u = refl
  go false true z u = refl
  go false false true u = refl
  go false false false true = refl
  go false false false false = refl
verify-kind false type = elim (which (eqb type 6)) [
  | inl e ↦ let z : type ≡ 6 = eqb-true _ _ e in rw z
  | inr e ↦ rw e (go (eqb type 0) (eqb type 2) (eqb type 5) (eqb type 7))
] where
  go : (x y z u : Bool) → eqb (cond x 1 (cond y 2 (cond z 3 (cond u 5 0)))) 4 ≡ false
  go true y z u = refl
  go false true z u = refl
  go false false true u = refl
  go false false false true = refl
  go false false false false = refl

module _ (r : Record) (t : List ℕ) (c d : Scan) (m : List ℕ) (e : admit r t c m ≡ on d) where
  abbrev kind : ℕ
  kind = class_of (not r.acceptor) (head_of m).kind

  abbrev id' : Id
  id' = scheme_in m

  abbrev spent : Bool
  spent = confirmed_for r c id'

  parts : (not (eqb (after (reads r) c.position spent kind) 0) ≡ true)
      × ((scheme_fits r t c kind id' ≡ true) × (passed r c kind (after (reads r) c.position spent kind) id' ≡ d))
  unfolding admit
  parts =
      let a = not-stop (not (eqb (after (reads r) c.position spent kind) 0)) 14 _ d e in
      let b = not-stop (scheme_fits r t c kind id') 15 _ d a.1 in
      let is : passed r c kind (after (reads r) c.position spent kind) id' ≡ d = cc in
      (a.0, (b.0, is))

  pub may : not (eqb (after (reads r) c.position spent kind) 0) ≡ true
  may = parts.0

  pub fitting : scheme_fits r t c kind id' ≡ true
  fitting = parts.1.0

  pub position-then : after (reads r) c.position spent kind ≡ d.position
  unfolding passed
  position-then = ap (λ (s : Scan). s.position) parts.1.1

  pub heard-then : spent || eqb kind VERIFY ≡ d.confirmed
  unfolding passed
  heard-then = ap (λ (s : Scan). s.confirmed) parts.1.1

  pub requested-then : cond (eqb kind EXCHANGE && eqb (reads r) 0) (place (own_of r) id') c.requested ≡ d.requested
  unfolding passed
  requested-then = ap (λ (s : Scan). s.requested) parts.1.1

  pub chosen-then : cond (eqb (reads r) FURTHER) (place (own_of r) id') c.chosen ≡ d.chosen
  unfolding passed
  chosen-then = ap (λ (s : Scan). s.chosen) parts.1.1

  pub verify-is : is_verify m ≡ eqb kind VERIFY
  verify-is = sym (verify-kind (not r.acceptor) (head_of m).kind)

  -- a VERIFY is let through where the peer's one is not spent
  pub unspent : eqb kind VERIFY ≡ true → spent ≡ false
  unfolding after
  unspent v = elim (which spent) [ inl s ↦ no_true (rw (v, s) at may) | inr s ↦ s ]

low-place : (l : List Id) (s : Id) → place l s < length l → get_or l (place l s) [] ≡ s
unfolding place
low-place [] s h = absurd (omega arith)
low-place (x ∷ l) s h = elim (which (same_octets s x)) [
  | inl e ↦ rw e (sym (same-eq s x e))
  | inr e ↦ rw e (low-place l s (let w : suc (place l s) < length (x ∷ l) = rw e at h in omega arith))
]

starts-same : (l : List Id) (a b : Id) → starts_with l a ≡ true → starts_with l b ≡ true → a ≡ b
starts-same [] a b p q = no_true p
starts-same (x ∷ l) a b p q = same-eq a x p ∙ sym (same-eq b x q)

and-false : (b : Bool) → b && false ≡ false
and-false true = refl
and-false false = refl

-- 2. the VERIFYs of a chain, message by message

module _ (id : Id) where
  abbrev pub one : List ℕ → ℕ
  one m = cond (verify_for id m) 1 0

  sum-keep : (x : List ℕ) (l : List (List ℕ)) (n : ℕ) → n + one x + length (keep (verify_for id) l) ≡ n + length (keep (verify_for id) (x ∷ l))
  sum-keep x l n = elim (which (verify_for id x)) [ inl b ↦ rw b (omega arith) | inr b ↦ rw b (omega arith) ]

  pub judge-sums : (P : Scan → ℕ → Type 0) (r : Record) (t : List ℕ)
      → ((c d : Scan) (m : List ℕ) (n : ℕ) → P c n → admit r t c m ≡ on d → P d (n + one m))
      → (k : ℕ) (c : Scan) (ch : Chain) (j : ℕ) (d : Scan) (n : ℕ) → P c n → judge r t k c ch ≡ whole j d
      → P d (n + length (keep (verify_for id) (messages_in ch)))
  unfolding judge messages_in
  judge-sums P r t f k c end j d n p e =
      let z : c ≡ d = cc in
      let y : n ≡ n + 0 = omega arith in
      subst (λ (x : Scan). P x (n + 0)) z (subst (P c) y p)
  judge-sums P r t f k c (cut_at m a) j d n p e = let z : ◌≡◌ {A = ℕ} 0 1 = cc in absurd (omega arith)
  judge-sums P r t f k c (message m ms) j d n p e = go (admit r t c m.octets) refl (λ c' n'. judge-sums P r t f (k + 1) c' ms j d n') where
    go : (a : Admitted) → admit r t c m.octets ≡ a
        → ((c' : Scan) (n' : ℕ) → P c' n' → judge r t (k + 1) c' ms ≡ whole j d → P d (n' + length (keep (verify_for id) (messages_in ms))))
        → P d (n + length (keep (verify_for id) (m.octets ∷ messages_in ms)))
    go (on c') is ih = subst (P d) (sum-keep m.octets (messages_in ms) n) (ih c' (n + one m.octets) (f c c' m.octets n p is) (rw is at e))
    go (stop j') is ih = let w : halted j' m.place ≡ whole j d = rw is at e in let z : ◌≡◌ {A = ℕ} 0 1 = cc in absurd (omega arith)

  -- what a message counts
  other-one : (r : Record) (t : List ℕ) (c d : Scan) (m : List ℕ) (e : admit r t c m ≡ on d)
      → eqb (class_of (not r.acceptor) (head_of m).kind) VERIFY ≡ false → one m ≡ 0
  other-one r t c d m e v = let no : is_verify m ≡ false = verify-is r t c d m e ∙ v in rw no

  verify-one : (r : Record) (t : List ℕ) (c d : Scan) (m : List ℕ) (e : admit r t c m ≡ on d)
      → eqb (class_of (not r.acceptor) (head_of m).kind) VERIFY ≡ true → one m ≡ cond (same_octets id (scheme_in m)) 1 0
  verify-one r t c d m e v = let yes : is_verify m ≡ true = verify-is r t c d m e ∙ v in rw yes

  -- 3. a later token

  module _ (r : Record) (t : List ℕ) (f : eqb (reads r) FURTHER ≡ true) where
    -- the VERIFYs of the chosen scheme that are read
    pub record Later (c : Scan) (n : ℕ) : Type 0 where
      pub low : c.chosen < r.count
      pub most : n ≤ 1
      pub says : id ≡ scheme_at r c.chosen → n ≡ cond c.confirmed 1 0

    record Names (c d : Scan) (m : List ℕ) : Type 0 where
      low : d.chosen < r.count
      scheme : scheme_at r d.chosen ≡ scheme_in m
      fits : further_fits r c.chosen (scheme_in m) ≡ true

    -- a message makes its scheme the chosen one
    names : (c d : Scan) (m : List ℕ) → admit r t c m ≡ on d → Names c d m
    unfolding scheme_fits
    names c d m e =
        let k = further-kind r (reads r) c.position (spent r t c d m e) (kind r t c d m e) f (may r t c d m e) in
        let g : further_fits r c.chosen (scheme_in m) ≡ true = rw (k.0, k.1, f) at (fitting r t c d m e) in
        let own : mem (scheme_in m) (own_of r) ≡ true = further-mem r c.chosen (scheme_in m) g in
        let at : place (own_of r) (scheme_in m) ≡ d.chosen = sym (rw f) ∙ chosen-then r t c d m e in
        record {
          low = subst (λ (n : ℕ). n < r.count) at (place-own r (scheme_in m) own);
          scheme = ap (scheme_at r) (sym at) ∙ get_or-place (own_of r) (scheme_in m) own;
          fits = g;
        }

    -- after a message, where the flag said before it how many of its scheme there were
    then-later : (c d : Scan) (m : List ℕ) (n : ℕ) (e : admit r t c m ≡ on d) → n ≤ 1
        → (id ≡ scheme_in m → n ≡ cond (confirmed_for r c (scheme_in m)) 1 0) → Later d (n + one m)
    then-later c d m n e most says = go (which (eqb (kind r t c d m e) VERIFY)) where
      x : Names c d m
      x = names c d m e

      go : (eqb (kind r t c d m e) VERIFY ≡ true) ⊎ (eqb (kind r t c d m e) VERIFY ≡ false) → Later d (n + one m)
      go (inr v) =
          let zero : one m ≡ 0 = other-one r t c d m e v in
          let same : confirmed_for r c (scheme_in m) ≡ d.confirmed =
          sym (or-false (confirmed_for r c (scheme_in m))) ∙ ap (λ (b : Bool). confirmed_for r c (scheme_in m) || b) (sym v)
          ∙ heard-then r t c d m e in
          let is : n ≡ n + one m = omega arith in
          record {
            low = x.low;
            most = omega arith;
            says = λ z. sym is ∙ says (z ∙ x.scheme) ∙ ap (λ (b : Bool). cond b 1 0) same;
          } where
            or-false : (b : Bool) → b || false ≡ b
            or-false true = refl
            or-false false = refl
      go (inl v) =
          let fresh : confirmed_for r c (scheme_in m) ≡ false = unspent r t c d m e v in
          let confirmed : true ≡ d.confirmed = sym (rw (fresh, v)) ∙ heard-then r t c d m e in
          let counts = verify-one r t c d m e v in
          elim (which (same_octets id (scheme_in m))) [
            | inl q ↦
                let none : n ≡ 0 = says (same-eq _ _ q) ∙ rw fresh in
                let one-is : one m ≡ 1 = counts ∙ rw q in
                record {
                  low = x.low;
                  most = omega arith;
                  says = λ z. (let w : n + one m ≡ 1 = omega arith in w) ∙ ap (λ (b : Bool). cond b 1 0) confirmed;
                }
            | inr q ↦
                let none : one m ≡ 0 = counts ∙ rw q in
                record {
                  low = x.low;
                  most = omega arith;
                  says = λ z. no_true (sym q ∙ subst (λ (i : Id). same_octets id i ≡ true) (z ∙ x.scheme) (same_refl id));
                }
          ]

    module _ (limits : AllTrue (limit_rows r)) where
      not_none : (k : ℕ) → k < r.count → eqb k NONE ≡ false
      not_none k h =
          let (l1, (l2, rest)) = limits in
          let few : r.count ≤ 16 = leb-true _ _ l2 in
          let some : k ≡ NONE → ⊥ = λ z. omega arith in
          ne_eqb _ _ some

      pub later-step : (c d : Scan) (m : List ℕ) (n : ℕ) → Later c n → admit r t c m ≡ on d → Later d (n + one m)
      unfolding confirmed_for
      later-step c d m n h e =
          let none : eqb c.chosen NONE ≡ false = not_none c.chosen h.low in
          let same : confirmed_for r c (scheme_in m) ≡ c.confirmed =
          ap (λ (b : Bool). cond b (c.confirmed && (is_at r r.requested (scheme_in m) && mem (scheme_in m) (replied r))) c.confirmed)
          (ap (λ (b : Bool). eqb r.stage 1 && b) none ∙ and-false (eqb r.stage 1)) in
          let g : is_at r c.chosen (scheme_in m) ≡ true = rw none at (names c d m e).fits in
          let is : scheme_in m ≡ scheme_at r c.chosen =
          same-eq _ _ (and_r (ltb c.chosen r.count) (same_octets (scheme_in m) (scheme_at r c.chosen)) g) in
          then-later c d m n e h.most (λ z. h.says (z ∙ is) ∙ ap (λ (b : Bool). cond b 1 0) (sym same))

      -- the acceptor's first later token: the first message fixes the choice
      module _ (st : r.stage ≡ 1) (n₀ : ℕ) (most : n₀ ≤ 1)
          (early : mem id (own_of r) ≡ true → n₀ ≡ cond (r.confirmed && is_at r r.requested id) 1 0) where
        abbrev pub Chooses : Scan → ℕ → Type 0
        Chooses c n = ((c.chosen ≡ NONE) × ((c.confirmed ≡ r.confirmed) × (n ≡ n₀))) ⊎ Later c n

        pub chooses-step : (c d : Scan) (m : List ℕ) (n : ℕ) → Chooses c n → admit r t c m ≡ on d → Chooses d (n + one m)
        chooses-step c d m n (inr h) e = inr (later-step c d m n h e)
        chooses-step c d m n (inl (none, (same, is))) e = inr (then-later c d m n e (omega arith) says) where
          in-reply : mem (scheme_in m) (replied r) ≡ true
          in-reply =
              let g : r.acceptor && mem (scheme_in m) (replied r) ≡ true =
              rw none at (names c d m e).fits in and_r r.acceptor (mem (scheme_in m) (replied r)) g

          flag : confirmed_for r c (scheme_in m) ≡ r.confirmed && is_at r r.requested (scheme_in m)
          flag = unfold confirmed_for in
              rw (st, none, same, in-reply) (ap (λ (b : Bool). r.confirmed && b) (and-true (is_at r r.requested (scheme_in m)))) where
                and-true : (b : Bool) → b && true ≡ b
                and-true true = refl
                and-true false = refl

          says : id ≡ scheme_in m → n ≡ cond (confirmed_for r c (scheme_in m)) 1 0
          says z =
              let own : mem id (own_of r) ≡ true =
              subst (λ (i : Id). mem i (own_of r) ≡ true) (sym z) (further-mem r c.chosen (scheme_in m) (names c d m e).fits) in
              is ∙ early own ∙ ap (λ (i : Id). cond (r.confirmed && is_at r r.requested i) 1 0) z ∙ ap (λ (b : Bool). cond b 1 0) (sym flag)

  -- 4. the first token and the reply: a VERIFY stands at place 2, and nothing after it

  module _ (token : ℕ) (o : leb token 1 ≡ true) where
    opens-low : (p : ℕ) (h : Bool) (k : ℕ) → eqb k VERIFY ≡ false → after token p h k ≤ 2
    unfolding after after_opening
    opens-low p h k v = rw (v, o) (go (eqb k NEGO) (eqb k METADATA) (eqb k EXCHANGE) (eqb p 0) (eqb p 1)) where
      go : (x y z a b : Bool) → cond x (cond a 1 0) (cond y (cond b 1 0) (cond z (cond b 2 0) 0)) ≤ 2
      go true y z true b = omega arith
      go true y z false b = omega arith
      go false true z a true = omega arith
      go false true z a false = omega arith
      go false false true a true = omega arith
      go false false true a false = omega arith
      go false false false a b = omega arith

    -- the exchange alone brings the turn to place 2
    opens-asks : (p : ℕ) (h : Bool) (k : ℕ) → eqb k VERIFY ≡ false → after token p h k ≡ 2 → eqb k EXCHANGE ≡ true
    unfolding after after_opening
    opens-asks p h k v e = go (eqb k NEGO) (eqb k METADATA) (eqb k EXCHANGE) (eqb p 0) (eqb p 1) (rw (v, o) at e) where
      go : (x y z a b : Bool) → ◌≡◌ {A = ℕ} (cond x (cond a 1 0) (cond y (cond b 1 0) (cond z (cond b 2 0) 0))) 2 → z ≡ true
      go true y z true b q = absurd (omega arith)
      go true y z false b q = absurd (omega arith)
      go false true z a true q = absurd (omega arith)
      go false true z a false q = absurd (omega arith)
      go false false true a b q = refl
      go false false false a b q = absurd (omega arith)

    opens-verify : (p : ℕ) (h : Bool) (k : ℕ) → eqb k VERIFY ≡ true → not (eqb (after token p h k) 0) ≡ true → (p ≡ 2) × (after token p h k ≡ 3)
    unfolding after after_opening
    opens-verify p true k v m = no_true (rw v at m)
    opens-verify p false k v m =
        let z : k ≡ 4 = eqb-true _ _ v in
        elim (which (eqb p 2)) [ inl e ↦ (eqb-true _ _ e, rw (z, o, e)) | inr e ↦ no_true (rw (z, o, e) at m) ]

    opens-none : (p : ℕ) (h : Bool) (k : ℕ) → p ≡ 3 → not (eqb (after token p h k) 0) ≡ true → ⊥
    unfolding after after_opening
    opens-none p h k e m = go (eqb k NEGO) (eqb k METADATA) (eqb k EXCHANGE) (eqb k VERIFY) h (rw (e, o) at m) where
      go : (x y z u w : Bool) → not (eqb (cond (u && w) 0 (cond x 0 (cond y 0 (cond z 0 (cond u 0 0))))) 0) ≡ true → ⊥
      go x y z true true q = no_true q
      go true y z true false q = no_true q
      go true y z false w q = no_true q
      go false true z true false q = no_true q
      go false true z false w q = no_true q
      go false false true true false q = no_true q
      go false false true false w q = no_true q
      go false false false true false q = no_true q
      go false false false false w q = no_true q

  module _ (r : Record) (t : List ℕ) (o : leb (reads r) 1 ≡ true) (other : eqb r.stage 1 ≡ false) (Link : Scan → Type 0)
      (link : (c d : Scan) (m : List ℕ) → Link c → (e : admit r t c m ≡ on d) → eqb (kind r t c d m e) VERIFY ≡ false → Link d)
      (linked : (c d : Scan) (m : List ℕ) → Link c → (e : admit r t c m ≡ on d) → c.position ≡ 2 → eqb (kind r t c d m e) VERIFY ≡ true
      → mem id (own_of r) ≡ true → same_octets id (scheme_in m) ≡ is_at r d.requested id) where
    pub record Waits (c : Scan) (n : ℕ) : Type 0 where
      pub quiet : c.confirmed ≡ false
      pub zero : n ≡ 0
      pub chain : Link c

    pub record Spoke (c : Scan) (n : ℕ) : Type 0 where
      pub confirmed : c.confirmed ≡ true
      pub at : c.position ≡ 3
      pub most : n ≤ 1
      pub says : mem id (own_of r) ≡ true → n ≡ cond (is_at r c.requested id) 1 0

    abbrev pub Opens : Scan → ℕ → Type 0
    Opens c n = Waits c n ⊎ Spoke c n

    pub opens-step : (c d : Scan) (m : List ℕ) (n : ℕ) → Opens c n → admit r t c m ≡ on d → Opens d (n + one m)
    opens-step c d m n (inr s) e = absurd (opens-none (reads r) o c.position (spent r t c d m e) (kind r t c d m e) s.at (may r t c d m e))
    opens-step c d m n (inl w) e = go (which (eqb (kind r t c d m e) VERIFY)) where
      plain : confirmed_for r c (scheme_in m) ≡ false
      plain = unfold confirmed_for in rw other w.quiet

      go : (eqb (kind r t c d m e) VERIFY ≡ true) ⊎ (eqb (kind r t c d m e) VERIFY ≡ false) → Opens d (n + one m)
      go (inr v) =
          let none : one m ≡ 0 = other-one r t c d m e v in
          let was : n ≡ 0 = w.zero in
          inl (record { quiet = sym (heard-then r t c d m e) ∙ rw (plain, v); zero = omega arith; chain = link c d m w.chain e v })
      go (inl v) =
          let p = opens-verify (reads r) o c.position (spent r t c d m e) (kind r t c d m e) v (may r t c d m e) in
          let was : n ≡ 0 = w.zero in
          let counts : one m ≡ cond (same_octets id (scheme_in m)) 1 0 = verify-one r t c d m e v in
          let is : n + one m ≡ one m = omega arith in
          inr (record {
            confirmed = sym (heard-then r t c d m e) ∙ rw (plain, v);
            at = sym (position-then r t c d m e) ∙ p.1;
            most = subst (λ (k : ℕ). k ≤ 1) (sym (is ∙ counts)) (few (same_octets id (scheme_in m)));
            says = λ own. is ∙ counts ∙ ap (λ (b : Bool). cond b 1 0) (linked c d m w.chain e p.0 v own);
          }) where
            few : (b : Bool) → cond b 1 0 ≤ 1
            few true = omega arith
            few false = omega arith

  -- 5. what an early VERIFY is for: the scheme at the AP_REQUEST's place

  at_place : (r : Record) (s : Id) → mem id (own_of r) ≡ true → same_octets id s ≡ is_at r (place (own_of r) s) id
  at_place r s own = elim (which (same_octets id s)) [
    | inl q ↦
        let own' : mem s (own_of r) ≡ true = subst (λ (i : Id). mem i (own_of r) ≡ true) (same-eq id s q) own in
        let same : scheme_at r (place (own_of r) s) ≡ s = get_or-place (own_of r) s own' in
        let yes : is_at r (place (own_of r) s) id ≡ true =
        rw (lt-ltb _ _ (place-own r s own')) (subst (λ (i : Id). same_octets id i ≡ true) (sym same) q) in
        q ∙ sym yes
    | inr q ↦ q ∙ sym (elim (which (ltb (place (own_of r) s) r.count)) [
      | inl h ↦
          let low : place (own_of r) s < length (own_of r) = subst (λ (n : ℕ). place (own_of r) s < n) (sym (own-length r)) (ltb-true _ _ h) in
          rw h (subst (λ (i : Id). same_octets id i ≡ false) (sym (low-place (own_of r) s low)) q)
      | inr h ↦ rw h
    ])
  ]

  module _ (r : Record) (t : List ℕ) (o : leb (reads r) 1 ≡ true) where
    exchange-fits : (c d : Scan) (m : List ℕ) (e : admit r t c m ≡ on d) → 3 ≤ kind r t c d m e → exchange_fits r t (scheme_in m) ≡ true
    unfolding scheme_fits
    exchange-fits c d m e low =
        let one-not : kind r t c d m e ≡ 1 → ⊥ = λ z. omega arith in
        let two-not : kind r t c d m e ≡ 2 → ⊥ = λ z. omega arith in
        let early : reads r ≤ 1 = leb-true _ _ o in
        let further-not : reads r ≡ 2 → ⊥ = λ z. omega arith in
        rw (ne_eqb _ _ one-not, ne_eqb _ _ two-not, ne_eqb _ _ further-not) at (fitting r t c d m e)

    module _ (first : reads r ≡ 0) where
      abbrev pub FirstLink : Scan → Type 0
      FirstLink c = c.position ≡ 2 → (s : Id) × ((starts_with (listed_by t) s ≡ true) × (c.requested ≡ place (own_of r) s))

      pub first-link : (c d : Scan) (m : List ℕ) → FirstLink c → (e : admit r t c m ≡ on d) → eqb (kind r t c d m e) VERIFY ≡ false → FirstLink d
      first-link c d m w e v p =
          let ex : eqb (kind r t c d m e) EXCHANGE ≡ true =
          opens-asks (reads r) o c.position (spent r t c d m e) (kind r t c d m e) v (position-then r t c d m e ∙ p) in
          let three : kind r t c d m e ≡ 3 = eqb-true _ _ ex in
          let fits = exchange-fits c d m e (omega arith) in (
            scheme_in m,
            (
              and_l (starts_with (listed_by t) (scheme_in m)) (eqb (reads r) 0 || is_at r r.requested (scheme_in m)) fits,
              sym
                  (requested-then r t c d m e) ∙ rw (ex, first),
            ),
          )

      pub first-linked : (c d : Scan) (m : List ℕ) → FirstLink c → (e : admit r t c m ≡ on d) → c.position ≡ 2 → eqb (kind r t c d m e) VERIFY ≡ true
          → mem id (own_of r) ≡ true → same_octets id (scheme_in m) ≡ is_at r d.requested id
      first-linked c d m w e p v own =
          let x = w p in
          let four : kind r t c d m e ≡ 4 = eqb-true _ _ v in
          let fits = exchange-fits c d m e (omega arith) in
          let starts : starts_with (listed_by t) (scheme_in m) ≡ true =
          and_l (starts_with (listed_by t) (scheme_in m)) (eqb (reads r) 0 || is_at r r.requested (scheme_in m)) fits in
          let same : x.0 ≡ scheme_in m = starts-same (listed_by t) x.0 (scheme_in m) x.1.0 starts in
          let not_three : kind r t c d m e ≡ 3 → ⊥ = λ z. omega arith in
          let kept : c.requested ≡ d.requested = sym (rw (ne_eqb _ _ not_three)) ∙ requested-then r t c d m e in
          at_place r (scheme_in m) own ∙ ap (λ (k : ℕ). is_at r k id) (ap (place (own_of r)) (sym same) ∙ sym x.1.1 ∙ kept)

    module _ (answer : reads r ≡ 1) where
      abbrev pub AnswerLink : Scan → Type 0
      AnswerLink c = c.requested ≡ r.requested

      kept-requested : (c d : Scan) (m : List ℕ) (e : admit r t c m ≡ on d) → c.requested ≡ d.requested
      kept-requested c d m e =
          let no : eqb (kind r t c d m e) EXCHANGE && eqb (reads r) 0 ≡ false = rw answer (and-false (eqb (kind r t c d m e) EXCHANGE)) in
          sym (rw no) ∙ requested-then r t c d m e

      pub answer-link : (c d : Scan) (m : List ℕ) → AnswerLink c → (e : admit r t c m ≡ on d) → eqb (kind r t c d m e) VERIFY ≡ false → AnswerLink d
      answer-link c d m w e v = sym (kept-requested c d m e) ∙ w

      pub answer-linked : (c d : Scan) (m : List ℕ) → AnswerLink c → (e : admit r t c m ≡ on d) → c.position ≡ 2
          → eqb (kind r t c d m e) VERIFY ≡ true → mem id (own_of r) ≡ true → same_octets id (scheme_in m) ≡ is_at r d.requested id
      answer-linked c d m w e p v own =
          let four : kind r t c d m e ≡ 4 = eqb-true _ _ v in
          let fits =
          and_r (starts_with (listed_by t) (scheme_in m)) (eqb (reads r) 0 || is_at r r.requested (scheme_in m))
          (exchange-fits c d m e (omega arith)) in
          let here : is_at r r.requested (scheme_in m) ≡ true = rw answer at fits in
          let low = and_l (ltb r.requested r.count) (same_octets (scheme_in m) (scheme_at r r.requested)) here in
          let is : scheme_in m ≡ scheme_at r r.requested =
          same-eq _ _ (and_r (ltb r.requested r.count) (same_octets (scheme_in m) (scheme_at r r.requested)) here) in
          ap (same_octets id) is ∙ sym (rw low) ∙ ap (λ (k : ℕ). is_at r k id) (sym w ∙ kept-requested c d m e)
