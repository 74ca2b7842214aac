-- The lines of a message's content by their index, in the words of the code: t is the text before, x the text after.
-- Assumes nothing.
use Prim.Native.Nat.{ℕ, suc, ◌+◌, ◌*◌, ◌-◌, ◌/◌, ◌<◌, ◌≤◌}
use mathlib.Core.Path.{◌≡◌, refl, sym, ap, subst, ◌∙◌}
use mathlib.Core.Bool.{true}
use mathlib.Core.List.{List, [], ◌∷◌, ◌++◌}
use native.Mathlib.Nat.{add-sub_cancel_left}
use native.Mathlib.Omega.{arith}
use lib.ListN.{length, take, drop, get_or, length-append, get_or-eq_default}
use borrow.Author.Tests.{le-leb, leb-true, leb-false}
use mathlib.Core.Logic.{inl, inr}
use lib.Dec.{leb}
use Rattle.octets.proofs.Bools.{which, both}
use Rattle.octets.specs.Octets.{le, octets}
use Rattle.vector.specs.declared.Vector.{Vector}
use Rattle.vector.specs.Vector.{keeps_rule, part, shown}
use Rattle.message.specs.Layout.{Shape, nego, exchange, verify, alert, head_of, shape_of, Element, element_at, elements_of, content_of, vectors_of, scheme_vector, extension_vector, exchange_vector, checksum_vector, alert_vector}
use Rattle.message.specs.Check.{all_keep_rule}
use Rattle.message.specs.Show.{id_at, ids_of}
use Rattle.message.proofs.Shapes.{shape-nego, shape-exchange, shape-verify, shape-alert, header-least}
use Rattle.message.proofs.Ids.{length_ids, id-at}
use Rattle.text.specs.Text.{Text, written}
use Rattle.parts.proofs.Shows.{length-elements}
use Rattle.lines.specs.Lines.{message_line, scheme_line, extension_line, exchange_line, checksum_line, error_line, alert_line, numbered, message_lines}
use Rattle.lines.specs.Fit.{Fit, shape_in, lines_in}
use Rattle.lines.proofs.Lists.{length-numbered, get_or-numbered, get_or-elements, in-first, in-second}

-- a vector that keeps its rule is shown whole
kept : (header : ℕ) (m : List ℕ) (v : Vector) (a : List ℕ) → keeps_rule header (length m) v ≡ true → a ≡ shown header m v → a ≡ part m v
unfolding shown
kept header m v a e h = h ∙ rw e

-- the element that stands nowhere
abbrev none : Element
none = element_at [] 0

written_none : (t : Text) (l : List (List ℕ)) → l ≡ [] → t ≡ written l t
unfolding written
written_none t l e = rw e

same : (t x : Text) (k l : List (List ℕ)) → k ≡ l → x ≡ written k t → x ≡ written l t
same t x k l e h = h ∙ ap (λ (p : List (List ℕ)). written p t) e

-- the lines of an array's elements
size : (f : ℕ → Element → List (List ℕ)) (a : List ℕ) → length (numbered f (elements_of a)) ≡ length a / 12
size f a = length-numbered f 0 (elements_of a) ∙ length-elements (length a / 12) a 0

element : (f : ℕ → Element → List (List ℕ)) (a : List ℕ) (k : ℕ) → k < length a / 12
    → get_or (numbered f (elements_of a)) k [] ≡ f k (element_at a (12 * k))
element f a k h =
    let n : k < length (elements_of a) = omega (arith, length-elements (length a / 12) a 0) in
    let i : 0 + k ≡ k = omega arith in
    let at : 0 + 12 * k ≡ 12 * k = omega arith in
    get_or-numbered f 0 (elements_of a) k none n
    ∙ ap (λ (j : ℕ). f j (get_or (elements_of a) k none)) i
    ∙ ap (f k) (get_or-elements (length a / 12) a 0 k none h ∙ ap (element_at a) at)

-- a NEGO: its arrays, and its lines
module _ (m : List ℕ) (fit : Fit nego m) where
  nego-rules : (keeps_rule 96 (length m) (scheme_vector m) ≡ true) × (keeps_rule 96 (length m) (extension_vector m) ≡ true)
  unfolding all_keep_rule vectors_of content_of
  nego-rules =
      let a = both (keeps_rule 96 (length m) (scheme_vector m)) _ fit.rule in
      let b = both (keeps_rule 96 (length m) (extension_vector m)) _ a.1 in
      (a.0, b.0)

  module _ (a : List ℕ) (a-is : a ≡ shown 96 m (scheme_vector m)) where
    -- the two lists of lines, over the octets that the readers hand back
    schemes : List (List (List ℕ))
    schemes = numbered scheme_line (ids_of a)

    others : List ℕ → List (List (List ℕ))
    others b = numbered extension_line (elements_of b)

    length-schemes : length schemes ≡ length a / 16
    unfolding schemes
    length-schemes = length-numbered scheme_line 0 (ids_of a) ∙ length_ids (length a / 16) a

    nego-lines : (b : List ℕ) → b ≡ shown 96 m (extension_vector m) → lines_in nego m ≡ schemes ++ others b
    unfolding schemes others content_of
    nego-lines b b-is =
        sym (ap (λ (l : List ℕ). numbered scheme_line (ids_of l) ++ numbered extension_line (elements_of b))
        (kept 96 m (scheme_vector m) a nego-rules.0 a-is)
        ∙ ap (λ (l : List ℕ). numbered scheme_line (ids_of (part m (scheme_vector m))) ++ numbered extension_line (elements_of l))
        (kept 96 m (extension_vector m) b nego-rules.1 b-is))

    pub nego-count : (b : List ℕ) → b ≡ shown 96 m (extension_vector m) → 1 + (length a / 16 + length b / 12) ≡ 1 + length (lines_in nego m)
    unfolding others
    nego-count b b-is =
        let n : length (lines_in nego m) ≡ length schemes + length (others b) = ap length (nego-lines b b-is) ∙ length-append schemes (others b) in
        omega (arith, n, length-schemes, size extension_line b)

    module _ (j : ℕ) (t x : Text) where
      pub nego-scheme : j < length a / 16 → x ≡ written (scheme_line j (take (16 * j + 16 - 16 * j) (drop (16 * j) a))) t
          → x ≡ written (get_or (lines_in nego m) j []) t
      unfolding schemes
      nego-scheme h e =
          let n : j < length (ids_of a) = omega (arith, length_ids (length a / 16) a) in
          let k : 0 + j ≡ j = omega arith in
          let c : take (16 * j + 16 - 16 * j) (drop (16 * j) a) ≡ take 16 (drop (16 * j) a) = simp add-sub_cancel_left in
          let b = shown 96 m (extension_vector m) in
          let g : get_or (lines_in nego m) j [] ≡ scheme_line j (take 16 (drop (16 * j) a)) =
          ap (λ (ls : List (List (List ℕ))). get_or ls j []) (nego-lines b refl)
          ∙ in-first schemes (others b) j (length a / 16) [] length-schemes h
          ∙ get_or-numbered scheme_line 0 (ids_of a) j [] n
          ∙ ap (λ (i : ℕ). scheme_line i (get_or (ids_of a) j [])) k
          ∙ ap (scheme_line j) (id-at (length a / 16) a j h) in
          same t x _ _ (ap (scheme_line j) c ∙ sym g) e

      module _ (past : length a / 16 ≤ j) (b : List ℕ) (b-is : b ≡ shown 96 m (extension_vector m)) where
        behind : get_or (lines_in nego m) j [] ≡ get_or (others b) (j - length a / 16) []
        behind =
            ap (λ (ls : List (List (List ℕ))). get_or ls j []) (nego-lines b b-is)
            ∙ in-second schemes (others b) j (length a / 16) [] length-schemes past

        pub nego-extension : j - length a / 16 < length b / 12
            → x ≡ written (extension_line (j - length a / 16) (element_at b (12 * (j - length a / 16)))) t → x ≡ written (get_or (lines_in nego m) j []) t
        unfolding others
        nego-extension h e = same t x _ _ (sym (behind ∙ element extension_line b (j - length a / 16) h)) e

        pub nego-past : length b / 12 ≤ j - length a / 16 → t ≡ written (get_or (lines_in nego m) j []) t
        unfolding others
        nego-past h =
            written_none t _ (behind ∙ get_or-eq_default (numbered extension_line (elements_of b)) [] (omega (arith, size extension_line b)))

-- an id where the message has room for it
scheme-is : (m i : List ℕ) → 56 ≤ length m → i ≡ id_at m 40 → i ≡ octets 16 m 40
unfolding id_at
scheme-is m i h e = e ∙ simp (le-leb 56 (length m) h)

-- a message of one scheme: its line, the next one, and the others
module _ (shape : Shape) (m : List ℕ) (l : List (List ℕ)) (ls : List (List (List ℕ))) (is : lines_in shape m ≡ scheme_line 0 (octets 16 m 40) ∷ l ∷ ls)
    (j : ℕ) where
  line_first : 56 ≤ length m → j ≡ 0 → (i : List ℕ) → i ≡ id_at m 40 → scheme_line 0 i ≡ get_or (lines_in shape m) j []
  line_first room h i i-is =
      ap (scheme_line 0) (scheme-is m i room i-is)
      ∙ sym (ap (λ (k : ℕ). get_or (lines_in shape m) k []) h ∙ ap (λ (k : List (List (List ℕ))). get_or k 0 []) is)

  line_second : j ≡ 1 → l ≡ get_or (lines_in shape m) j []
  line_second h = sym (ap (λ (k : ℕ). get_or (lines_in shape m) k []) h ∙ ap (λ (k : List (List (List ℕ))). get_or k 1 []) is)

  line_other : (j ≡ 0 → ⊥) → (j ≡ 1 → ⊥) → get_or (lines_in shape m) j [] ≡ get_or ls (j - 2) []
  line_other h g =
      let e : j ≡ suc (suc (j - 2)) = omega arith in
      ap (λ (k : ℕ). get_or (lines_in shape m) k []) e ∙ ap (λ (k : List (List (List ℕ))). get_or k (suc (suc (j - 2))) []) is

exchange-lines : (m : List ℕ) → lines_in exchange m ≡ scheme_line 0 (octets 16 m 40) ∷ exchange_line (exchange_vector m) ∷ []
unfolding content_of
exchange-lines m = refl

verify-lines : (m : List ℕ) → lines_in verify m ≡ scheme_line 0 (octets 16 m 40) ∷ checksum_line (le 4 m 64) (checksum_vector m) ∷ []
unfolding content_of
verify-lines m = refl

module _ (m : List ℕ) (fit : Fit exchange m) (j : ℕ) (t x : Text) where
  pub exchange-scheme : j ≡ 0 → (i : List ℕ) → i ≡ id_at m 40 → x ≡ written (scheme_line 0 i) t → x ≡ written (get_or (lines_in exchange m) j []) t
  exchange-scheme h i i-is e = same t x _ _ (line_first exchange m _ _ (exchange-lines m) j (omega (arith, fit.room)) h i i-is) e

  pub exchange-value : j ≡ 1 → x ≡ written (exchange_line (exchange_vector m)) t → x ≡ written (get_or (lines_in exchange m) j []) t
  exchange-value h e = same t x _ _ (line_second exchange m _ _ (exchange-lines m) j h) e

  pub exchange-past : (j ≡ 0 → ⊥) → (j ≡ 1 → ⊥) → t ≡ written (get_or (lines_in exchange m) j []) t
  exchange-past h g = written_none t _ (line_other exchange m _ _ (exchange-lines m) j h g)

module _ (m : List ℕ) (fit : Fit verify m) (j : ℕ) (t x : Text) where
  pub verify-scheme : j ≡ 0 → (i : List ℕ) → i ≡ id_at m 40 → x ≡ written (scheme_line 0 i) t → x ≡ written (get_or (lines_in verify m) j []) t
  verify-scheme h i i-is e = same t x _ _ (line_first verify m _ _ (verify-lines m) j (omega (arith, fit.room)) h i i-is) e

  pub verify-checksum : j ≡ 1 → x ≡ written (checksum_line (le 4 m 64) (checksum_vector m)) t → x ≡ written (get_or (lines_in verify m) j []) t
  verify-checksum h e = same t x _ _ (line_second verify m _ _ (verify-lines m) j h) e

  pub verify-past : (j ≡ 0 → ⊥) → (j ≡ 1 → ⊥) → t ≡ written (get_or (lines_in verify m) j []) t
  verify-past h g = written_none t _ (line_other verify m _ _ (verify-lines m) j h g)

-- an ALERT: its scheme, its error, its alerts
module _ (m : List ℕ) (fit : Fit alert m) where
  alert-lines : (b : List ℕ) → b ≡ shown 72 m (alert_vector m)
      → lines_in alert m ≡ scheme_line 0 (octets 16 m 40) ∷ error_line (le 4 m 56) ∷ numbered alert_line (elements_of b)
  unfolding content_of vectors_of all_keep_rule
  alert-lines b b-is =
      let a = both (keeps_rule 72 (length m) (alert_vector m)) _ fit.rule in
      ap (λ (l : List ℕ). scheme_line 0 (octets 16 m 40) ∷ error_line (le 4 m 56) ∷ numbered alert_line (elements_of l))
      (sym (kept 72 m (alert_vector m) b a.0 b-is))

  pub alert-count : (b : List ℕ) → b ≡ shown 72 m (alert_vector m) → 3 + length b / 12 ≡ 1 + length (lines_in alert m)
  alert-count b b-is = let n = ap length (alert-lines b b-is) in omega (arith, n, size alert_line b)

  module _ (j : ℕ) (t x : Text) where
    pub alert-scheme : j ≡ 0 → (i : List ℕ) → i ≡ id_at m 40 → x ≡ written (scheme_line 0 i) t → x ≡ written (get_or (lines_in alert m) j []) t
    alert-scheme h i i-is e = same t x _ _ (line_first alert m _ _ (alert-lines _ refl) j (omega (arith, fit.room)) h i i-is) e

    pub alert-error : j ≡ 1 → x ≡ written (error_line (le 4 m 56)) t → x ≡ written (get_or (lines_in alert m) j []) t
    alert-error h e = same t x _ _ (line_second alert m _ _ (alert-lines _ refl) j h) e

    module _ (some : j ≡ 0 → ⊥) (more : j ≡ 1 → ⊥) (b : List ℕ) (b-is : b ≡ shown 72 m (alert_vector m)) where
      pub alert-element : j - 2 < length b / 12 → x ≡ written (alert_line (j - 2) (element_at b (12 * (j - 2)))) t
          → x ≡ written (get_or (lines_in alert m) j []) t
      alert-element h e = same t x _ _ (sym (line_other alert m _ _ (alert-lines b b-is) j some more ∙ element alert_line b (j - 2) h)) e

      pub alert-past : length b / 12 ≤ j - 2 → t ≡ written (get_or (lines_in alert m) j []) t
      alert-past h =
          written_none t _
          (line_other alert m _ _ (alert-lines b b-is) j some more
          ∙ get_or-eq_default (numbered alert_line (elements_of b)) [] (omega (arith, size alert_line b)))

pub ruleset contents = (
  nego-scheme,
  nego-extension,
  nego-past,
  exchange-scheme,
  exchange-value,
  exchange-past,
  verify-scheme,
  verify-checksum,
  verify-past,
  alert-scheme,
  alert-error,
  alert-element,
  alert-past,
)

-- the message's kind decides the layout
module _ (m : List ℕ) (fit : Fit (shape_in m) m) where
  pub fit-head : 40 ≤ length m
  fit-head = omega (arith, fit.room, header-least (shape_in m))

  pub fit-kind : 8 + 4 ≤ length m
  fit-kind = omega (arith, fit-head)

  module _ (kind : ℕ) (kind-is : kind ≡ le 4 m 8) where
    shape-of : (s : Shape) → shape_of kind ≡ s → shape_in m ≡ s
    unfolding head_of
    shape-of s e = ap shape_of (sym kind-is) ∙ e

    as-shape : (s : Shape) → shape_of kind ≡ s → Fit s m
    as-shape s e = subst (λ (h : Shape). Fit h m) (shape-of s e) fit

    pub as-nego : kind ≤ 1 → Fit nego m
    as-nego p = as-shape nego (shape-nego kind p)

    pub as-exchange : 1 < kind → kind ≤ 5 → Fit exchange m
    as-exchange p q = as-shape exchange (shape-exchange kind p q)

    pub as-verify : 1 < kind → 5 < kind → kind ≡ 6 → Fit verify m
    as-verify p q e = as-shape verify (shape-verify kind p q e)

    pub as-alert : 1 < kind → 5 < kind → (kind ≡ 6 → ⊥) → Fit alert m
    as-alert p q e = as-shape alert (shape-alert kind p q e)

    counted : (s : Shape) → shape_of kind ≡ s → (n : ℕ) → n ≡ 1 + length (lines_in s m) → n ≡ 1 + length (lines_in (shape_in m) m)
    counted s e n h = h ∙ ap (λ (g : Shape). 1 + length (lines_in g m)) (sym (shape-of s e))

    pub count-nego : kind ≤ 1 → (a b : List ℕ) → a ≡ shown 96 m (scheme_vector m) → b ≡ shown 96 m (extension_vector m)
        → 1 + (length a / 16 + length b / 12) ≡ 1 + length (lines_in (shape_in m) m)
    count-nego p a b a-is b-is = counted nego (shape-nego kind p) _ (nego-count m (as-nego p) a a-is b b-is)

    three : (s : Shape) → shape_of kind ≡ s → length (lines_in s m) ≡ 2 → 3 ≡ 1 + length (lines_in (shape_in m) m)
    three s e h = counted s e 3 (omega (arith, h))

    pub count-three : 1 < kind → kind ≤ 6 → 3 ≡ 1 + length (lines_in (shape_in m) m)
    count-three p q =
        elim (which (leb kind 5)) [
          | inl e ↦ three exchange (shape-exchange kind p (leb-true _ _ e)) (unfold content_of in refl)
          | inr e ↦ let g : 5 < kind = leb-false _ _ e in
              three verify (shape-verify kind p g (omega arith)) (unfold content_of in refl)
        ]

    pub count-alert : 1 < kind → 6 < kind → (b : List ℕ) → b ≡ shown 72 m (alert_vector m) → 3 + length b / 12 ≡ 1 + length (lines_in (shape_in m) m)
    count-alert p q b b-is =
        let h : shape_of kind ≡ alert = shape-alert kind p (omega arith) (λ e. omega arith) in
        counted alert h _ (alert-count m (as-shape alert h) b b-is)

    -- the line with an index, by the kind
    module _ (place index : ℕ) (some : index ≡ 0 → ⊥) (t x : Text) where
      behind-line : (s : Shape) → shape_of kind ≡ s → x ≡ written (get_or (lines_in s m) (index - 1) []) t
          → x ≡ written (get_or (message_lines place m) index []) t
      unfolding message_lines
      behind-line s e h =
          let n : index ≡ suc (index - 1) = omega arith in
          same t x _ _
          (ap (λ (g : Shape). get_or (lines_in g m) (index - 1) []) (sym (shape-of s e))
          ∙ ap (λ (k : ℕ). get_or (message_line place (head_of m) ∷ lines_in (shape_in m) m) k []) (sym n)) h

      pub line-nego : kind ≤ 1 → x ≡ written (get_or (lines_in nego m) (index - 1) []) t → x ≡ written (get_or (message_lines place m) index []) t
      line-nego p h = behind-line nego (shape-nego kind p) h

      pub line-exchange : 1 < kind → kind ≤ 5 → x ≡ written (get_or (lines_in exchange m) (index - 1) []) t
          → x ≡ written (get_or (message_lines place m) index []) t
      line-exchange p q h = behind-line exchange (shape-exchange kind p q) h

      pub line-verify : 1 < kind → 5 < kind → kind ≡ 6 → x ≡ written (get_or (lines_in verify m) (index - 1) []) t
          → x ≡ written (get_or (message_lines place m) index []) t
      line-verify p q e h = behind-line verify (shape-verify kind p q e) h

      pub line-alert : 1 < kind → 5 < kind → (kind ≡ 6 → ⊥) → x ≡ written (get_or (lines_in alert m) (index - 1) []) t
          → x ≡ written (get_or (message_lines place m) index []) t
      line-alert p q e h = behind-line alert (shape-alert kind p q e) h

pub line-own : (m : List ℕ) (place index : ℕ) (t x : Text) → index ≡ 0 → x ≡ written (message_line place (head_of m)) t
    → x ≡ written (get_or (message_lines place m) index []) t
unfolding message_lines
line-own m place index t x e h = rw e h

pub ruleset kinds = (
  fit-head,
  fit-kind,
  as-nego,
  as-exchange,
  as-verify,
  as-alert,
  count-nego,
  count-three,
  count-alert,
  line-own,
  line-nego,
  line-exchange,
  line-verify,
  line-alert,
)
