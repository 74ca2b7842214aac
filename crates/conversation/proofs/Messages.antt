-- Messages one after the other, each with its length and its number in its header: those that are written, and those of a token that is read.
-- Assumes nothing.
use Prim.Native.Nat.{ℕ, zero, suc, ◌+◌, ◌*◌, ◌-◌, ◌≤◌, ◌<◌}
use mathlib.Core.Path.{◌≡◌, refl, sym, ap, subst, ◌∙◌}
use mathlib.Core.Bool.{Bool, true, false, cond}
use mathlib.Core.Logic.{◌⊎◌, inl, inr}
use mathlib.Core.List.{List, [], ◌∷◌, ◌++◌, append-nil}
use native.Mathlib.Nat.{add-zero}
use native.Mathlib.Omega.{arith}
use lib.ListN.{length, take, drop, length-append, take-append-drop}
use lib.Seq.{take_at, take-length, drop_at, drop-nil}
use lib.Dec.{eqb}
use borrow.Author.Tests.{ne_eqb}
use Rattle.octets.proofs.Bools.{which, no_true}
use Rattle.message.specs.Layout.{Head, shape_of, header_of, head_of, content_of, vectors_of, size, front}
use Rattle.message.specs.Check.{SIGNATURE, Row, FirstFails, common_rows, version_ok, all_keep_rule, critical_ok, checksum_ok, content_rows, body_rows, front_rows}
use Rattle.message.proofs.Tables.{AllTrue, given, refuses-first, without}
use Rattle.token.specs.Token.{order_rows, next_rows, passes, Chain, end, refused as cut_at, message, chain_of}
use Rattle.token.specs.Split.{Message, Numbered, join}
use Rattle.token.proofs.Cuts.{passes-sized, drop-one, turn-pass, turn-fail}
use Rattle.token.proofs.Splits.{front-message, message-head, message-order, message-length}
use Rattle.token.proofs.Joins.{join-append}
use Rattle.put.specs.Put.{joined}
use Rattle.put.proofs.Laws.{joined-append}
use Rattle.encode.specs.declared.Heading.{Heading}
use Rattle.encode.specs.Encode.{Whole, Contents, of_nego, of_exchange, of_verify, of_alert, size_of, head_fields, body_fields, encoded}
use Rattle.encode.proofs.Sizes.{length-encoded}
use Rattle.roundtrip.proofs.Heads.{head-fields}
use Rattle.conversation.specs.declared.Record.{Record}
use Rattle.conversation.specs.declared.Scan.{Scan}
use Rattle.conversation.specs.Turns.{NEGO, type_of}
use Rattle.conversation.specs.Outcomes.{row}
use Rattle.conversation.specs.Admitting.{Admitted, on, stop, admit}
use Rattle.conversation.specs.Reading.{conversation_of, start_of, whole, halted, judge, chain_for, judged}
use Rattle.conversation.specs.Logs.{messages_in, InOrder}
use Rattle.conversation.proofs.Rows.{fails-one, true-behind}
use Rattle.conversation.proofs.Tokens.{empty-judged, Numbers, judged-numbers}

-- 1. a message, whatever follows it

pub record Framed (q : ℕ) (m : List ℕ) : Type 0 where
  pub long : 64 ≤ length m
  pub exact : (rest : List ℕ) → size (m ++ rest) ≡ length m
  pub number : (rest : List ℕ) → (head_of (m ++ rest)).sequence ≡ q

-- messages numbered on from q
abbrev pub FramedFrom : ℕ → List (List ℕ) → Type 0
FramedFrom q [] = Unit {0}
FramedFrom q (m ∷ ms) = Framed q m × FramedFrom (q + 1) ms

pub framed-more : (q : ℕ) (ms ns : List (List ℕ)) → FramedFrom q ms → FramedFrom (q + length ms) ns → FramedFrom q (ms ++ ns)
framed-more q [] ns a b = subst (λ (k : ℕ). FramedFrom k ns) (add-zero q) b
framed-more q (m ∷ ms) ns a b =
    let e : q + length (m ∷ ms) ≡ q + 1 + length ms = omega arith in
    (a.0, framed-more (q + 1) ms ns a.1 (subst (λ (k : ℕ). FramedFrom k ns) e b))

pub framed-behind : (q : ℕ) (ms ns : List (List ℕ)) → FramedFrom q (ms ++ ns) → FramedFrom (q + length ms) ns
framed-behind q [] ns a = subst (λ (k : ℕ). FramedFrom k ns) (sym (add-zero q)) a
framed-behind q (m ∷ ms) ns a =
    let e : q + 1 + length ms ≡ q + length (m ∷ ms) = omega arith in
    subst (λ (k : ℕ). FramedFrom k ns) e (framed-behind (q + 1) ms ns a.1)

pub framed-long : (q : ℕ) (ms : List (List ℕ)) → FramedFrom q ms → 64 * length ms ≤ length (join ms)
framed-long q [] a = omega arith
framed-long q (m ∷ ms) a = let h = framed-long (q + 1) ms a.1 in let l = a.0.long in omega (arith, length-append m (join ms))

pub framed-order : (q : ℕ) (ms : List (List ℕ)) → FramedFrom q ms → InOrder q ms
framed-order q [] a = tt
framed-order q (m ∷ ms) a = (ap (λ (s : List ℕ). (head_of s).sequence) (sym (append-nil m)) ∙ a.0.number [], framed-order (q + 1) ms a.1)

-- messages without a critical extension
abbrev pub Plain : List ℕ → Type 0
Plain m = (rest : List ℕ) → critical_ok (content_of (shape_of (head_of (m ++ rest)).kind) m) ≡ true

abbrev pub AllPlain : List (List ℕ) → Type 0
AllPlain [] = Unit {0}
AllPlain (m ∷ ms) = Plain m × AllPlain ms

pub plain_more : (ms ns : List (List ℕ)) → AllPlain ms → AllPlain ns → AllPlain (ms ++ ns)
plain_more [] ns a b = b
plain_more (m ∷ ms) ns a b = (a.0, plain_more ms ns a.1 b)

pub plain-behind : (ms ns : List (List ℕ)) → AllPlain (ms ++ ns) → AllPlain ns
plain-behind [] ns a = a
plain-behind (m ∷ ms) ns a = plain-behind ms ns a.1

pub join_one : (ms : List (List ℕ)) (m : List ℕ) → join (ms ++ (m ∷ [])) ≡ join ms ++ m
join_one ms m = join-append ms (m ∷ []) ∙ ap (λ (l : List ℕ). join ms ++ l) (append-nil m)

-- 2. the same octets are the same messages

record Fronts (q p : ℕ) (m n x y : List ℕ) : Type 0 where
  same : m ≡ n
  rest : x ≡ y
  number : q ≡ p

same-front : (q p : ℕ) (m n x y : List ℕ) → Framed q m → Framed p n → m ++ x ≡ n ++ y → Fronts q p m n x y
same-front q p m n x y a b e =
    let l : length m ≡ length n = sym (a.exact x) ∙ ap (λ (s : List ℕ). size s) e ∙ b.exact y in
    record {
      same = sym (take_at m x (length m) refl) ∙ ap (take (length m)) e ∙ take_at n y (length m) (sym l);
      rest = sym (drop_at m x (length m) refl) ∙ ap (drop (length m)) e ∙ drop_at n y (length m) (sym l);
      number = sym (a.number x) ∙ ap (λ (s : List ℕ). (head_of s).sequence) e ∙ b.number y;
    }

no-message : {A : Type 0} (q : ℕ) (m x : List ℕ) → Framed q m → [] ≡ m ++ x → A
no-message q m x a e = absurd (let l = a.long in omega (arith, length-append m x, ap length e))

pub same-messages : (q p : ℕ) (ms ns : List (List ℕ)) → FramedFrom q ms → FramedFrom p ns → join ms ≡ join ns → ms ≡ ns
same-messages q p [] [] a b e = refl
same-messages q p [] (n ∷ ns) a b e = no-message p n (join ns) b.0 e
same-messages q p (m ∷ ms) [] a b e = no-message q m (join ms) a.0 (sym e)
same-messages q p (m ∷ ms) (n ∷ ns) a b e =
    let f = same-front q p m n (join ms) (join ns) a.0 b.0 e in
    let i = same-messages (q + 1) (p + 1) ms ns a.1 b.1 f.rest in
    ap (λ (l : List ℕ). l ∷ ms) f.same ∙ ap (λ (l : List (List ℕ)). n ∷ l) i

pub same_start : (q p : ℕ) (ms ns : List (List ℕ)) → FramedFrom q ms → FramedFrom p ns → join ms ≡ join ns → 0 < length (join ns) → q ≡ p
same_start q p ms [] a b e h = absurd (omega arith)
same_start q p [] (n ∷ ns) a b e h = no-message p n (join ns) b.0 e
same_start q p (m ∷ ms) (n ∷ ns) a b e h = (same-front q p m n (join ms) (join ns) a.0 b.0 e).number

-- 3. a written message

pub least : (c : Contents) → 64 ≤ size_of c
least (of_nego o) = omega arith
least (of_exchange p) = omega arith
least (of_verify k) = omega arith
least (of_alert p) = omega arith

module _ (h : Heading) (c : Contents) (known : h.kind.0 ≤ 7) (number : h.sequence < 4294967296) (id : length h.conversation ≡ 16) (w : Whole c)
    (short : length (encoded h c) ≤ 65535) where
  head-written : (rest : List ℕ) → head_of (encoded h c ++ rest)
      ≡ record {
        signature = SIGNATURE;
        kind = h.kind.0;
        sequence = h.sequence;
        header = header_of (shape_of h.kind.0);
        length = size_of c;
        conversation = h.conversation;
      }
  unfolding encoded
  head-written rest =
      let n : length (encoded h c) ≡ size_of c = length-encoded h id c w in
      let fs : List (List ℕ) = head_fields h (size_of c) ++ body_fields c in
      ap head_of (sym (joined-append fs (rest ∷ []) ∙ ap (λ (l : List ℕ). joined fs ++ l) (append-nil rest)))
      ∙ head-fields h (size_of c) (body_fields c ++ (rest ∷ [])) known number (omega arith) id

  pub written-framed : Framed h.sequence (encoded h c)
  written-framed =
      let n : length (encoded h c) ≡ size_of c = length-encoded h id c w in
      record {
        long = omega (arith, least c);
        exact = λ rest. ap (λ (g : Head). g.length) (head-written rest) ∙ sym n;
        number = λ rest. ap (λ (g : Head). g.sequence) (head-written rest);
      }

  pub written-plain : critical_ok (content_of (shape_of h.kind.0) (encoded h c)) ≡ true → Plain (encoded h c)
  written-plain plain rest = ap (λ (g : Head). critical_ok (content_of (shape_of g.kind) (encoded h c))) (head-written rest) ∙ plain

-- no kind of message but a NEGO has extensions
pub plain-kind : (a : Bool) (kind : ℕ) (m : List ℕ) → eqb kind NEGO ≡ false → critical_ok (content_of (shape_of (type_of a kind)) m) ≡ true
unfolding type_of shape_of content_of
plain-kind true kind m e = rw e (go (eqb kind 2) (eqb kind 3) (eqb kind 4)) where
  go : (x y z : Bool) → critical_ok (content_of (shape_of (cond x 3 (cond y 4 (cond z 6 7)))) m) ≡ true
  go true y z = refl
  go false true z = refl
  go false false true = refl
  go false false false = refl
plain-kind false kind m e = rw e (go (eqb kind 2) (eqb kind 3) (eqb kind 4)) where
  go : (x y z : Bool) → critical_ok (content_of (shape_of (cond x 2 (cond y 5 (cond z 6 7)))) m) ≡ true
  go true y z = refl
  go false true z = refl
  go false false true = refl
  go false false false = refl

-- 4. the messages of a token that is read

-- the row of 12 in a message's table, between those before it and the one after it
abbrev before-12 : List ℕ → ℕ → List ℕ → List Row
before-12 s q v =
    common_rows (length s) (head_of s)
    ++ (order_rows (head_of s) q v
    ++ (row 10 (version_ok (content_of (shape_of (head_of s).kind) (front s)))
    ∷ row 11 (all_keep_rule (header_of (shape_of (head_of s).kind)) (size s) (vectors_of (content_of (shape_of (head_of s).kind) (front s))))
    ∷ []))

abbrev critical-row : List ℕ → Bool
critical-row s = critical_ok (content_of (shape_of (head_of s).kind) (front s))

abbrev behind-12 : List ℕ → List Row
behind-12 s = row 13 (checksum_ok (content_of (shape_of (head_of s).kind) (front s))) ∷ []

next-12 : (s : List ℕ) (q : ℕ) (v : List ℕ) → next_rows s q v ≡ before-12 s q v ++ (row 12 (critical-row s) ∷ behind-12 s)
unfolding next_rows common_rows order_rows front_rows body_rows content_rows
next-12 s q v = refl

passed-plain : (q : ℕ) (v m : List ℕ) → Message q v m → critical_ok (content_of (shape_of (head_of m).kind) m) ≡ true
passed-plain q v m e =
    let all : AllTrue (before-12 m q v ++ (row 12 (critical-row m) ∷ behind-12 m)) =
    subst AllTrue (next-12 m q v) (given (next_rows m q v) e.pass) in
    let is : front m ≡ m = ap (λ (k : ℕ). take k m) e.exact ∙ take-length m in
    subst (λ (f : List ℕ). critical_ok (content_of (shape_of (head_of m).kind) f) ≡ true) is
    (true-behind (before-12 m q v) (row 12 (critical-row m)) (behind-12 m) all)

pub numbered-framed : (q : ℕ) (v : List ℕ) (ms : List (List ℕ)) → Numbered q v ms → FramedFrom q ms
numbered-framed q v [] e = tt
numbered-framed q v (m ∷ ms) e = (
  record {
    long = message-length q v m e.0;
    exact = λ rest. ap (λ (g : Head). g.length) (message-head q v m rest e.0) ∙ e.0.exact;
    number = λ rest. ap (λ (g : Head). g.sequence) (message-head q v m rest e.0) ∙ (message-order q v m e.0).0;
  },
  numbered-framed (q + 1) v ms e.1,
)

numbered-plain : (q : ℕ) (v : List ℕ) (ms : List (List ℕ)) → Numbered q v ms → AllPlain ms
numbered-plain q v [] e = tt
numbered-plain q v (m ∷ ms) e = (
  λ rest. ap (λ (g : Head). critical_ok (content_of (shape_of g.kind) m)) (message-head q v m rest e.0) ∙ passed-plain q v m e.0,
  numbered-plain (q + 1) v ms e.1,
)

-- a chain without a refusal
abbrev pub Ends : Chain → Type 0
Ends end = Unit {0}
Ends (cut_at n p) = ⊥
Ends (message m ms) = Ends ms

record Cut (s : List ℕ) (q : ℕ) (v : List ℕ) (ms : List (List ℕ)) : Type 0 where
  joins : join ms ≡ s
  numbered : Numbered q v ms

cut-whole : (xs : List ℕ) (k place q : ℕ) (v : List ℕ) → Ends (chain_of xs k place q v) → Cut (drop k xs) q v (messages_in (chain_of xs k place q v))
unfolding chain_of messages_in
cut-whole [] k place q v h = record { joins = sym (drop-nil k); numbered = tt }
cut-whole (x ∷ xs) (suc k) place q v h = cut-whole xs k place q v h
cut-whole (x ∷ xs) zero place q v h = go (which (passes (x ∷ xs) q v)) (cut-whole xs (size (x ∷ xs) - 1) (place + size (x ∷ xs)) (q + 1) v) h where
  go : (passes (x ∷ xs) q v ≡ true) ⊎ (passes (x ∷ xs) q v ≡ false)
      → (Ends (chain_of xs (size (x ∷ xs) - 1) (place + size (x ∷ xs)) (q + 1) v)
      → Cut (drop (size (x ∷ xs) - 1) xs) (q + 1) v (messages_in (chain_of xs (size (x ∷ xs) - 1) (place + size (x ∷ xs)) (q + 1) v)))
      → Ends (chain_of (x ∷ xs) 0 place q v) → Cut (x ∷ xs) q v (messages_in (chain_of (x ∷ xs) 0 place q v))
  go (inl e) ih g =
      let z = passes-sized (x ∷ xs) q v e in
      let d : drop (size (x ∷ xs) - 1) xs ≡ drop (size (x ∷ xs)) (x ∷ xs) = drop-one x xs (size (x ∷ xs)) (omega (arith, z)) in
      let i = ih (rw e at g) in
      rw e (record {
        joins = ap (λ (l : List ℕ). front (x ∷ xs) ++ l) (i.joins ∙ d) ∙ take-append-drop (size (x ∷ xs)) (x ∷ xs);
        numbered = (front-message (x ∷ xs) q v e, i.numbered);
      })
  go (inr e) ih g = absurd (rw e at g)

record Counts (k n : ℕ) (ch : Chain) : Type 0 where
  ends : Ends ch
  count : k ≡ n + length (messages_in ch)

judge-counts : (r : Record) (t : List ℕ) (n : ℕ) (c : Scan) (ch : Chain) (k : ℕ) (d : Scan) → judge r t n c ch ≡ whole k d → Counts k n ch
unfolding judge messages_in
judge-counts r t n c end k d e = let z : n ≡ k = cc in record { ends = tt; count = omega arith }
judge-counts r t n c (cut_at m a) k d e = let z : ◌≡◌ {A = ℕ} 0 1 = cc in absurd (omega arith)
judge-counts r t n c (message m ms) k d e = go (admit r t c m.octets) refl (λ c'. judge-counts r t (n + 1) c' ms k d) where
  go : (a : Admitted) → admit r t c m.octets ≡ a → ((c' : Scan) → judge r t (n + 1) c' ms ≡ whole k d → Counts k (n + 1) ms)
      → Counts k n (message m ms)
  go (on c') is ih = let i = ih c' (rw is at e) in record { ends = i.ends; count = let h = i.count in omega arith }
  go (stop j) is ih = let w : halted j m.place ≡ whole k d = rw is at e in let z : ◌≡◌ {A = ℕ} 0 1 = cc in absurd (omega arith)

-- what each message keeps, a token that is read keeps
pub judge-keeps : (P : Scan → Type 0) (r : Record) (t : List ℕ) → ((c d : Scan) (m : List ℕ) → P c → admit r t c m ≡ on d → P d)
    → (n : ℕ) (c : Scan) (ch : Chain) (k : ℕ) (d : Scan) → P c → judge r t n c ch ≡ whole k d → P d
unfolding judge
judge-keeps P r t f n c end k d p e = let z : c ≡ d = cc in subst P z p
judge-keeps P r t f n c (cut_at m a) k d p e = let z : ◌≡◌ {A = ℕ} 0 1 = cc in absurd (omega arith)
judge-keeps P r t f n c (message m ms) k d p e = go (admit r t c m.octets) refl (λ c' q. judge-keeps P r t f (n + 1) c' ms k d q) where
  go : (a : Admitted) → admit r t c m.octets ≡ a → ((c' : Scan) → P c' → judge r t (n + 1) c' ms ≡ whole k d → P d) → P d
  go (on c') is ih = ih c' (f c c' m.octets p is) (rw is at e)
  go (stop j) is ih = let w : halted j m.place ≡ whole k d = rw is at e in let z : ◌≡◌ {A = ℕ} 0 1 = cc in absurd (omega arith)

pub record Taken (r : Record) (t : List ℕ) (n : ℕ) : Type 0 where
  pub some : 0 < length t
  pub joins : join (messages_in (chain_for r t)) ≡ t
  pub framed : FramedFrom r.sequence (messages_in (chain_for r t))
  pub plain : AllPlain (messages_in (chain_for r t))
  pub count : n ≡ length (messages_in (chain_for r t))

pub token-taken : (r : Record) (t : List ℕ) (n : ℕ) (c : Scan) → judged r t ≡ whole n c → Taken r t n
unfolding judged
token-taken r [] n c e = absurd (empty-judged r n c (unfold judged in e))
token-taken r (x ∷ t) n c e =
    let some : length (x ∷ t) ≡ 0 → ⊥ = λ z. omega arith in
    let v : List ℕ = conversation_of r (x ∷ t) in
    let is : chain_for r (x ∷ t) ≡ chain_of (x ∷ t) 0 0 r.sequence v = rw (ne_eqb _ _ some) in
    let k = judge-counts r (x ∷ t) 0 (start_of r) (chain_for r (x ∷ t)) n c e in
    let g = cut-whole (x ∷ t) 0 0 r.sequence v (subst Ends is k.ends) in
    record {
      some = omega arith;
      joins = ap (λ (h : Chain). join (messages_in h)) is ∙ g.joins;
      framed =
          subst (λ (h : Chain). FramedFrom r.sequence (messages_in h)) (sym is)
          (numbered-framed r.sequence v (messages_in (chain_of (x ∷ t) 0 0 r.sequence v)) g.numbered);
      plain =
          subst (λ (h : Chain). AllPlain (messages_in h)) (sym is)
          (numbered-plain r.sequence v (messages_in (chain_of (x ∷ t) 0 0 r.sequence v)) g.numbered);
      count = let h = k.count in omega arith;
    }

-- 5. messages without a critical extension are never refused with 12

abbrev pub Not12 : ℕ → Type 0
Not12 n = n ≡ 12 → ⊥

without-12 : (s : List ℕ) (q : ℕ) (v : List ℕ) → without 12 (before-12 s q v) ≡ true
unfolding common_rows order_rows
without-12 s q v = refl

never-12 : (m rest : List ℕ) (p q : ℕ) (v : List ℕ) → Framed p m → Plain m → (n : ℕ) → FirstFails n (next_rows (m ++ rest) q v) → Not12 n
never-12 m rest p q v f u n g e =
    let s : List ℕ = m ++ rest in
    let h : FirstFails n (before-12 s q v ++ (row 12 (critical-row s) ∷ behind-12 s)) = subst (FirstFails n) (next-12 s q v) g in
    let is : front s ≡ m = ap (λ (k : ℕ). take k s) (f.exact rest) ∙ take_at m rest (length m) refl in
    let plain : critical-row s ≡ true = ap (λ (l : List ℕ). critical_ok (content_of (shape_of (head_of s).kind) l)) is ∙ u rest in
    no_true (sym (fails-one 12 (before-12 s q v) (critical-row s) (behind-12 s) n (without-12 s q v) refl h e).1 ∙ plain)

chain-12 : (p : ℕ) (ms : List (List ℕ)) → FramedFrom p ms → AllPlain ms → (place q : ℕ) (v : List ℕ) → Numbers Not12 (chain_of (join ms) 0 place q v)
chain-12 p [] f u place q v = unfold chain_of in tt
chain-12 p (m ∷ ms) f u place q v = go (which (passes (m ++ join ms) q v)) (chain-12 (p + 1) ms f.1 u.1 (place + length m) (q + 1) v) where
  go : (passes (m ++ join ms) q v ≡ true) ⊎ (passes (m ++ join ms) q v ≡ false) → Numbers Not12 (chain_of (join ms) 0 (place + length m) (q + 1) v)
      → Numbers Not12 (chain_of (m ++ join ms) 0 place q v)
  go (inl e) ih =
      let z : size (m ++ join ms) ≡ length m = f.0.exact (join ms) in
      let same : chain_of (drop (size (m ++ join ms)) (m ++ join ms)) 0 (place + size
      (m ++ join ms)) (q + 1) v ≡ chain_of (join ms) 0 (place + length m) (q + 1) v =
      ap (λ (k : ℕ). chain_of (drop k (m ++ join ms)) 0 (place + k) (q + 1) v) z
      ∙ ap (λ (l : List ℕ). chain_of l 0 (place + length m) (q + 1) v) (drop_at m (join ms) (length m) refl) in
      subst (Numbers Not12) (sym (turn-pass place q v (m ++ join ms) e)) (subst (Numbers Not12) (sym same) ih)
  go (inr e) ih =
      let some : 0 < length (m ++ join ms) = (let l = f.0.long in omega (arith, length-append m (join ms))) in
      subst (Numbers Not12) (sym (turn-fail place q v (m ++ join ms) some e))
      (never-12 m (join ms) p q v f.0 u.0 _ (refuses-first (next_rows (m ++ join ms) q v) e))

pub turn-12 : (r : Record) (t : List ℕ) (p : ℕ) (ms : List (List ℕ)) → FramedFrom p ms → AllPlain ms → join ms ≡ t → (n place : ℕ)
    → judged r t ≡ halted n place → Not12 n
turn-12 r t p ms f u is n place e = judged-numbers Not12 (λ z. omega arith) (λ z. omega arith) r t (numbers t is) n place e where
  numbers : (s : List ℕ) → join ms ≡ s → Numbers Not12 (chain_for r s)
  numbers [] is = λ z. omega arith
  numbers (x ∷ s) is =
      let some : length (x ∷ s) ≡ 0 → ⊥ = λ z. omega arith in
      rw (ne_eqb _ _ some)
      (subst (λ (l : List ℕ). Numbers Not12 (chain_of l 0 0 r.sequence (conversation_of r (x ∷ s)))) is
      (chain-12 p ms f u 0 r.sequence (conversation_of r (x ∷ s))))
