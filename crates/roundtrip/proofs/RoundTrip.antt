-- Demand 2's round trip: what is written reads back, whatever follows it; by itself, where a writer put it, and in a token.
-- Assumes nothing.
use Prim.Native.Nat.{ℕ, suc, ◌+◌, ◌*◌, ◌/◌, ◌%◌, ◌≤◌, ◌<◌}
use mathlib.Core.Path.{◌≡◌, refl, sym, ap, subst, ◌∙◌}
use mathlib.Core.Bool.{true, false, ◌&&◌}
use mathlib.Core.Logic.{◌⊎◌, inl, inr}
use mathlib.Core.List.{List, [], ◌∷◌, ◌++◌, append_assoc, append-nil}
use native.Mathlib.Omega.{arith}
use lib.ListN.{length, take, drop, length-append}
use lib.Seq.{take_at, drop_at, length-take-le}
use lib.Dec.{leb, eqb}
use borrow.Author.Tests.{leb-true, eqb-true}
use Rattle.octets.proofs.Bools.{which, both}
use Rattle.message.specs.Layout.{header_of, pads_of, Head, head_of, size, content_of, vectors_of}
use Rattle.message.specs.Check.{all_keep_rule, first_failing, FirstFails}
use Rattle.message.proofs.Tables.{refuses-first}
use Rattle.message.specs.Show.{ids_at, ids_of, schemes_in}
use Rattle.token.specs.Token.{passes, next_rows}
use Rattle.token.specs.Split.{Message, Numbered, join}
use Rattle.message.proofs.Shapes.{header-least}
use Rattle.token.proofs.Splits.{numbered-accepted, stops-refused}
use Rattle.put.specs.Put.{put, joined}
use Rattle.elements.specs.Elements.{items_fit}
use Rattle.encode.specs.declared.Heading.{Heading}
use Rattle.encode.specs.Encode.{Whole, Offer, Contents, of_nego, of_exchange, of_verify, of_alert, size_of, has_kind, fits_fields, encodable, encoded, written, unwritten, storing}
use Rattle.roundtrip.specs.ReadBack.{InRange, Sent, shape_for, content_read, ordinary_in, Shows, ReadsBack, Stands, Outgoing, octets_of_all, InSequence, AllOrdinary, ReadEncode, NegoBegins, WrittenAccepted, CriticalRefused, StoredStands, pads_zero, PadsWritten}
use Rattle.roundtrip.proofs.Arrays.{types-fit}
use Rattle.roundtrip.proofs.Heads.{fitting, stops-encoded, size-encoded, head-encoded, front-encoded, verdict-encoded, passes-encoded}
use Rattle.roundtrip.proofs.Layouts.{nego-listed, nego-content, nego-pads, nego-rules, nego-shows, exchange-content, exchange-pads, exchange-rules, exchange-shows, verify-content, verify-pads, verify-rules, verify-shows, alert-content, alert-pads, alert-rules, alert-shows}

-- what the layouts give, for any contents
record Laid (h : Heading) (c : Contents) : Type 0 where
  content : content_of (shape_for c) (encoded h c) ≡ content_read c
  pads : pads_zero (encoded h c) (pads_of (shape_for c)) ≡ true
  rules : all_keep_rule (header_of (shape_for c)) (size_of c) (vectors_of (content_read c)) ≡ true
  shows : Shows c (encoded h c)

record NegoFits (o : Offer) : Type 0 where
  ids : length o.schemes % 16 ≡ 0
  count : length o.schemes ≤ 1048560
  fit : items_fit o.extensions ≡ true

nego-fits : (h : Heading) (o : Offer) → Sent h (of_nego o) → NegoFits o
unfolding encodable
nego-fits h o s =
    let a = both (has_kind (of_nego o) h.kind.0) (fits_fields (of_nego o)) s.can in
    let b = both (eqb (length o.schemes % 16) 0) (leb (length o.schemes) 1048560 && items_fit o.extensions) a.1 in
    let f = both (leb (length o.schemes) 1048560) (items_fit o.extensions) b.1 in
    record { ids = eqb-true (length o.schemes % 16) 0 b.0; count = leb-true (length o.schemes) 1048560 f.0; fit = f.1 }

laid : (h : Heading) (c : Contents) → Sent h c → InRange c → Laid h c
unfolding encodable
laid h (of_nego o) s range =
    let f = nego-fits h o s in
    record {
      content = nego-content h s.id o s.whole f.ids f.count f.fit (types-fit o.extensions range);
      pads = nego-pads h s.id o s.whole f.ids f.count f.fit;
      rules = nego-rules h s.id o s.whole f.ids f.count f.fit (types-fit o.extensions range);
      shows = nego-shows h s.id o s.whole f.ids f.count f.fit (types-fit o.extensions range);
    }
laid h (of_exchange p) s range =
    let n = leb-true (length p.value) 4294967231 (both (has_kind (of_exchange p) h.kind.0) (fits_fields (of_exchange p)) s.can).1 in
    record {
      content = exchange-content h s.id p s.whole n;
      pads = exchange-pads h s.id p s.whole n;
      rules = exchange-rules h s.id p s.whole n;
      shows = exchange-shows h s.id p s.whole n;
    }
laid h (of_verify k) s range =
    let n = leb-true (length k.value) 4294967215 (both (has_kind (of_verify k) h.kind.0) (fits_fields (of_verify k)) s.can).1 in
    record {
      content = verify-content h s.id k s.whole range n;
      pads = verify-pads h s.id k s.whole range n;
      rules = verify-rules h s.id k s.whole range n;
      shows = verify-shows h s.id k s.whole range n;
    }
laid h (of_alert p) s range =
    let f = (both (has_kind (of_alert p) h.kind.0) (fits_fields (of_alert p)) s.can).1 in
    record {
      content = alert-content h s.id p s.whole range.0 f (types-fit p.alerts range.1);
      pads = alert-pads h s.id p s.whole range.0 f (types-fit p.alerts range.1);
      rules = alert-rules h s.id p s.whole range.0 f (types-fit p.alerts range.1);
      shows = alert-shows h s.id p s.whole range.0 f (types-fit p.alerts range.1);
    }

-- "writers still send zeros"
pub pads-written : PadsWritten
pads-written h c s range = (laid h c s range).pads

-- the round trip, every kind
pub read-encode : ReadEncode
read-encode h c s range r =
    let l = laid h c s range in
    record {
      size = size-encoded h c s;
      head = head-encoded h c s r;
      front = front-encoded h c s r;
      content = l.content;
      verdict = verdict-encoded h c s r l.content l.rules;
      shows = l.shows;
    }

-- What begins with a written NEGO reads as that NEGO: its type and its schemes, whatever follows.
pub nego-begins : NegoBegins
nego-begins h o s r =
    let f = nego-fits h o s in (
      ap (λ (g : Head). g.kind) (head-encoded h (of_nego o) s r),
      ap schemes_in (front-encoded h (of_nego o) s r)
          ∙ (nego-listed h s.id o s.whole f.ids f.count f.fit).1,
    )

-- ids that are joined are the ids of the array
abbrev pub AllIds : List (List ℕ) → Type 0
AllIds [] = Unit {0}
AllIds (i ∷ is) = (length i ≡ 16) × AllIds is

length_ids : (is : List (List ℕ)) → AllIds is → length (joined is) ≡ 16 * length is
length_ids [] e = refl
length_ids (i ∷ is) e = let k = length_ids is e.1 in omega (arith, length-append i (joined is), e.0)

ids_at_lem : (is : List (List ℕ)) → AllIds is → ids_at (length is) (joined is) ≡ is
unfolding ids_at
ids_at_lem [] e = refl
ids_at_lem (i ∷ is) e = rw (take_at i (joined is) 16 e.0, drop_at i (joined is) 16 e.0) (ap (λ (l : List (List ℕ)). i ∷ l) (ids_at_lem is e.1))

pub ids-joined : (is : List (List ℕ)) → AllIds is → ids_of (joined is) ≡ is
ids-joined is e =
    let k = length_ids is e in
    let n : length (joined is) / 16 ≡ length is = omega arith in
    rw n (ids_at_lem is e)

-- a written message is one message, whole and no more, with its number in its conversation
pub encoded-message : (h : Heading) (c : Contents) → Sent h c → InRange c → ordinary_in c ≡ true
    → Message h.sequence h.conversation (encoded h c)
encoded-message h c s range o =
    let l = laid h c s range in
    let e = append-nil (encoded h c) in
    record {
      pass = ap (λ (m : List ℕ). passes m h.sequence h.conversation) (sym e) ∙ passes-encoded h c s [] l.content l.rules o;
      exact = ap size (sym e) ∙ ap (λ (g : Head). g.length) (head-encoded h c s []) ∙ sym (size-encoded h c s);
    }

all-numbered : (q : ℕ) (v : List ℕ) (ms : List Outgoing) → InSequence q v ms → AllOrdinary ms → Numbered q v (octets_of_all ms)
all-numbered q v [] e o = tt
all-numbered q v (m ∷ ms) e o =
    let one = encoded-message m.heading m.contents e.0.0 e.0.1 o.0 in (
      subst (λ (n : ℕ). Message n v (encoded m.heading m.contents)) e.1.0
          (subst (λ (w : List ℕ). Message m.heading.sequence w (encoded m.heading m.contents)) e.1.1.0 one),
      all-numbered (q + 1) v ms e.1.1.1 o.1,
    )

-- A token of written messages, numbered in sequence and of one conversation, is accepted, and its list is those messages.
pub written-accepted : WrittenAccepted
written-accepted q v m ms e o w =
    numbered-accepted q v (encoded m.heading m.contents) (octets_of_all ms) (all-numbered q v (m ∷ ms) e o) w

count-all : (ms : List Outgoing) → length (octets_of_all ms) ≡ length ms
count-all [] = refl
count-all (m ∷ ms) = ap suc (count-all ms)

-- number and conversation of what begins with written messages, or with the one behind them
record Begins (q : ℕ) (v s : List ℕ) : Type 0 where
  number : (head_of s).sequence ≡ q
  conversation : (head_of s).conversation ≡ v

begins-with : (q : ℕ) (v : List ℕ) (m : Outgoing) (ms : List Outgoing) (r : List ℕ) → InSequence q v (m ∷ ms)
    → Begins q v (encoded m.heading m.contents ++ r)
begins-with q v m ms r e =
    let k = head-encoded m.heading m.contents e.0.0 r in
    record { number = ap (λ (g : Head). g.sequence) k ∙ e.1.0; conversation = ap (λ (g : Head). g.conversation) k ∙ e.1.1.0 }

begins : (q : ℕ) (v : List ℕ) (ms : List Outgoing) (m : Outgoing) (r : List ℕ) → InSequence q v ms → InSequence (q + length ms) v (m ∷ [])
    → Begins q v (join (octets_of_all ms) ++ (encoded m.heading m.contents ++ r))
begins q v [] m r e f = let b = begins-with (q + 0) v m [] r f in record { number = omega (arith, b.number); conversation = b.conversation }
begins q v (x ∷ xs) m r e f =
    rw (append_assoc (encoded x.heading x.contents) (join (octets_of_all xs)) (encoded m.heading m.contents ++ r))
    (begins-with q v x xs _ e)

-- a written message with a critical extension fails by 12
pub critical-stops : (h : Heading) (c : Contents) → Sent h c → InRange c → ordinary_in c ≡ false → (r : List ℕ)
    → (passes (encoded h c ++ r) h.sequence h.conversation ≡ false)
    × (first_failing (next_rows (encoded h c ++ r) h.sequence h.conversation) ≡ 12)
critical-stops h c s range o r = let l = laid h c s range in stops-encoded h c s r l.content l.rules o

pub some-octets : (h : Heading) (c : Contents) → Sent h c → (r : List ℕ) → 0 < length (encoded h c ++ r)
some-octets h c s r =
    let k = (fitting h c s.can).header in
    omega (arith, size-encoded h c s, length-append (encoded h c) r, header-least (shape_for c))

-- It stops its token there with 12, whatever follows it.
pub critical-refused : CriticalRefused
critical-refused q v ms m r e f o c w =
    let h = m.heading in
    let t = encoded h m.contents ++ r in
    let s = join (octets_of_all ms) ++ t in
    let b = begins q v ms m r e f in
    let stop = critical-stops h m.contents f.0.0 f.0.1 c r in
    let first : FirstFails 12 (next_rows t h.sequence h.conversation) =
    subst (λ (j : ℕ). FirstFails j (next_rows t h.sequence h.conversation)) stop.1
    (refuses-first (next_rows t h.sequence h.conversation) stop.0) in
    let j : h.sequence ≡ (head_of s).sequence + length (octets_of_all ms) = omega (arith, f.1.0, b.number, count-all ms) in
    let d : h.conversation ≡ (head_of s).conversation = f.1.1.0 ∙ sym b.conversation in
    stops-refused s 12 (length (join (octets_of_all ms)))
    (inr (inr (
      octets_of_all ms,
      (
        t,
        record {
          short = w;
          some = some-octets h m.contents f.0.0 r;
          joins = refl;
          numbered =
              subst (λ (i : ℕ). Numbered i (head_of s).conversation (octets_of_all ms)) (sym b.number)
              (subst (λ (i : List ℕ). Numbered q i (octets_of_all ms)) (sym b.conversation) (all-numbered q v ms e o));
          place = refl;
          first =
              subst (λ (i : ℕ). FirstFails 12 (next_rows t i (head_of s).conversation)) j
              (subst (λ (i : List ℕ). FirstFails 12 (next_rows t h.sequence i)) d first);
        },
      ),
    )))

-- Where a writer answers a next place, the message stands at its place and every other octet is as it was.
pub stored-stands : StoredStands
unfolding storing
stored-stands d at h c next d' e = go (which (encodable h c && leb (at + length (encoded h c)) (length d))) where
  m : List ℕ
  m = encoded h c

  layer : put d at m ≡ take at d ++ (m ++ drop (at + length m) d)
  layer = unfold put in append_assoc (take at d) m (drop (at + length m) d)

  go : (encodable h c && leb (at + length (encoded h c)) (length d) ≡ true) ⊎ (encodable h c && leb (at + length (encoded h c)) (length d) ≡ false)
      → Stands d at h c next d'
  go (inr f) = let w : unwritten d ≡ written next d' = simp f at e in let z : ◌≡◌ {A = ℕ} 0 1 = cc in absurd (omega arith)
  go (inl f) =
      let b = both (encodable h c) (leb (at + length (encoded h c)) (length d)) f in
      let room = leb-true (at + length (encoded h c)) (length d) b.1 in
      let w : written (at + length (encoded h c)) (put d at (encoded h c)) ≡ written next d' = simp f at e in
      let n : at + length (encoded h c) ≡ next = cc in
      let k : put d at (encoded h c) ≡ d' = cc in
      let l : length (take at d) ≡ at = length-take-le at d (omega arith) in
      record {
        can = b.0;
        after = sym n;
        room = omega arith;
        before = ap (take at) (sym k ∙ layer) ∙ take_at (take at d) (m ++ drop (at + length m) d) at l;
        from = ap (drop at) (sym k ∙ layer) ∙ drop_at (take at d) (m ++ drop (at + length m) d) at l ∙ ap (λ (j : ℕ). encoded h c ++ drop j d) n;
      }

-- So a reader at that place finds the message as it was written, whatever the buffer holds behind it.
pub stored-reads : (d : List ℕ) (at : ℕ) (h : Heading) (c : Contents) (next : ℕ) (d' : List ℕ) → storing d at h c ≡ written next d'
    → h.sequence < 4294967296 → length h.conversation ≡ 16 → Whole c → InRange c
    → (drop at d' ≡ encoded h c ++ drop next d) × ReadsBack h c (drop next d)
stored-reads d at h c next d' e number id whole range =
    let t = stored-stands d at h c next d' e in
    (t.from, read-encode h c (record { can = t.can; number = number; id = id; whole = whole }) range (drop next d))
