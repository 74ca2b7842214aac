-- What a written message says, by its octets: its head, whatever follows it, and its scheme.
-- Assumes nothing.
use Prim.Native.Nat.{ℕ, zero, suc, ◌+◌, ◌*◌, ◌<◌, ◌≤◌}
use mathlib.Core.Path.{◌≡◌, refl, sym, ap, subst, ◌∙◌}
use mathlib.Core.Logic.{inl, inr}
use mathlib.Core.List.Memᴰ
use mathlib.Core.List.{List, [], ◌∷◌, ◌++◌, append-nil, Memᴰ}
use native.Mathlib.Omega.{arith}
use lib.ListN.{length, take, drop, get_or, length-append, length-drop}
use lib.Seq.{take-add, take-append-le, drop-append-le}
use Rattle.message.specs.Layout.{Head, shape_of, header_of, head_of, size}
use Rattle.message.specs.Check.{SIGNATURE}
use Rattle.message.specs.Show.{ids_at}
use Rattle.put.specs.Put.{joined}
use Rattle.put.proofs.Laws.{joined-append}
use Rattle.encode.specs.declared.Heading.{Heading}
use Rattle.encode.specs.Encode.{Whole, Contents, of_exchange, size_of, head_fields, body_fields, encoded}
use Rattle.encode.proofs.Sizes.{length-encoded}
use Rattle.roundtrip.proofs.Fields.{octets-at}
use Rattle.roundtrip.proofs.Heads.{head-fields}
use Rattle.schemes.specs.Lists.{Id, join_ids}
use Rattle.conversation.specs.declared.Record.{Record}
use Rattle.conversation.specs.State.{own_of, scheme_at}
use Rattle.conversation.specs.Turns.{type_of}
use Rattle.conversation.specs.Writing.{heading, message_of, Speech, request, checksum, alarm, class_in, contents_in}
use Rattle.conversation.specs.Admitting.{scheme_in}
use Rattle.conversation.proofs.Inside.{own-length}
use Rattle.conversation.proofs.Messages.{least}
use Rattle.conversation.proofs.Logs.{type-known}

-- 1. the head

pub record Headed (type q : ℕ) (v m : List ℕ) : Type 0 where
  pub long : 64 ≤ length m
  pub exact : (rest : List ℕ) → size (m ++ rest) ≡ length m
  pub number : (rest : List ℕ) → (head_of (m ++ rest)).sequence ≡ q
  pub talk : (rest : List ℕ) → (head_of (m ++ rest)).conversation ≡ v
  pub kind : (head_of m).kind ≡ type

module _ (r : Record) (kind : ℕ) (c : Contents) (number : r.sequence ≤ 1023) (id : length r.conversation ≡ 16) (w : Whole c)
    (short : length (message_of r kind c) ≤ 65535) where
  head-written : (rest : List ℕ) → head_of (message_of r kind c ++ rest)
      ≡ record {
        signature = SIGNATURE;
        kind = type_of r.acceptor kind;
        sequence = r.sequence;
        header = header_of (shape_of (type_of r.acceptor kind));
        length = size_of c;
        conversation = r.conversation;
      }
  unfolding encoded
  head-written rest =
      let h : Heading = heading r kind in
      let n : length (encoded h c) ≡ size_of c = length-encoded h id c w in
      let fs : List (List ℕ) = head_fields h (size_of c) ++ body_fields c in
      ap head_of (sym (joined-append fs (rest ∷ []) ∙ ap (λ (l : List ℕ). joined fs ++ l) (append-nil rest)))
      ∙ head-fields h (size_of c) (body_fields c ++ (rest ∷ [])) (type-known r.acceptor kind) (omega arith) (omega arith) id

  pub headed : Headed (type_of r.acceptor kind) r.sequence r.conversation (message_of r kind c)
  headed =
      let n : length (message_of r kind c) ≡ size_of c = length-encoded (heading r kind) id c w in
      record {
        long = omega (arith, least c);
        exact = λ rest. ap (λ (g : Head). g.length) (head-written rest) ∙ sym n;
        number = λ rest. ap (λ (g : Head). g.sequence) (head-written rest);
        talk = λ rest. ap (λ (g : Head). g.conversation) (head-written rest);
        kind = ap (λ (s : List ℕ). (head_of s).kind) (sym (append-nil (message_of r kind c))) ∙ ap (λ (g : Head). g.kind) (head-written []);
      }

-- 2. the scheme

scheme-at : (r : Record) (kind : ℕ) (s : Id) (c : Contents) (more : List (List ℕ)) → body_fields c ≡ s ∷ more → length r.conversation ≡ 16
    → length s ≡ 16 → scheme_in (message_of r kind c) ≡ s
unfolding encoded
scheme-at r kind s c more is talk whole =
    octets-at 6 40 (head_fields (heading r kind) (size_of c) ++ body_fields c) (simp (length-append, talk)) s more
    (ap (λ (l : List (List ℕ)). l) is) 16 whole

pub scheme-exchange : (r : Record) (kind : ℕ) (s value : List ℕ) → length r.conversation ≡ 16 → length s ≡ 16
    → scheme_in (message_of r kind (of_exchange (record { scheme = s; value = value }))) ≡ s
scheme-exchange r kind s value talk whole = scheme-at r kind s (of_exchange (record { scheme = s; value = value })) _ refl talk whole

pub scheme-spoken : (r : Record) (s : Id) (c : Speech) → length r.conversation ≡ 16 → length s ≡ 16
    → scheme_in (message_of r (class_in c) (contents_in s c)) ≡ s
scheme-spoken r s (request value) talk whole = scheme-exchange r _ s value talk whole
scheme-spoken r s (checksum type value) talk whole = scheme-at r _ s (contents_in s (checksum type value)) _ refl talk whole
scheme-spoken r s (alarm code) talk whole = scheme-at r _ s (contents_in s (alarm code)) _ refl talk whole

pub scheme-front : (m rest : List ℕ) → 64 ≤ length m → scheme_in (m ++ rest) ≡ scheme_in m
scheme-front m rest h =
    ap (take 16) (drop-append-le 40 m rest (omega arith))
    ∙ take-append-le 16 (drop 40 m) rest (omega (arith, length-drop 40 m))

-- 3. the own list

index : (l : List Id) → ((k : ℕ) → k < length l → length (get_or l k []) ≡ 16) → (s : Id) → Memᴰ s l → length s ≡ 16
index [] h s m = absurd (Memᴰ.not-nil m)
index (x ∷ l) h s m = elim (Memᴰ.cases_cons m) [
  | inl e ↦ ap length e ∙ h 0 (omega arith)
  | inr i ↦ index l (λ k w. h (suc k) (omega arith)) s i
]

pub own-sized : (r : Record) → ((k : ℕ) → k < r.count → length (scheme_at r k) ≡ 16) → (s : Id) → Memᴰ s (own_of r) → length s ≡ 16
own-sized r h = index (own_of r) (λ k w. h k (subst (λ (n : ℕ). k < n) (own-length r) w))

ids-joined : (n : ℕ) (a : List ℕ) → ((s : Id) → Memᴰ s (ids_at n a) → length s ≡ 16) → take (16 * n) a ≡ join_ids (ids_at n a)
unfolding ids_at
ids-joined zero a h = refl
ids-joined (suc n) a h =
    let e : 16 * suc n ≡ 16 + 16 * n = omega arith in
    ap (λ (k : ℕ). take k a) e ∙ take-add 16 (16 * n) a ∙ ap (λ (l : List ℕ). take 16 a ++ l)
    (ids-joined n (drop 16 a) (λ s m. h s (Memᴰ.tail m)))

pub own-joined : (r : Record) → ((k : ℕ) → k < r.count → length (scheme_at r k) ≡ 16) → take (16 * r.count) r.list ≡ join_ids (own_of r)
own-joined r h = ids-joined r.count r.list (own-sized r h)
