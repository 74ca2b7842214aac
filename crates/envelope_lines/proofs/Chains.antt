-- Each line as the calls that write it, one behind the other, in the words of the code: t is the text before, u the text after.
-- Assumes nothing.
use Prim.Native.Nat.{ℕ, ◌+◌, ◌-◌, ◌≤◌, ◌<◌}
use mathlib.Core.Path.{◌≡◌, refl, sym, ap, ◌∙◌}
use mathlib.Core.Bool.{Bool, true, false, not}
use mathlib.Core.List.{List, [], ◌∷◌, ◌++◌}
use mathlib.Core.Option.{some}
use mathlib.Core.Option.{Option as Maybe}
use Rattle.std.specs.Prelude.{Option, Some, None, Result, Ok, Err, is_some}
use Rattle.refusal.specs.declared.Refusal.{Refusal}
use Rattle.refusal.specs.Refusals.{number_of}
use native.Mathlib.Numerals.{add-one}
use native.Mathlib.Omega.{arith}
use lib.ListN.{length, drop, take, get_or, drop_of_length-le}
use lib.Seq.{drop-cons}
use mathlib.Core.Logic.{◌⊎◌, inl, inr}
use lib.Dec.{leb, eqb}
use lib.Pointwise.{pointwise}
use Rattle.std.specs.List.{starts_with}
use borrow.Author.Tests.{leb-true, eqb-true, eqb-false, ne_eqb}
use Rattle.octets.specs.Octets.{same_octets}
use Rattle.octets.proofs.Bools.{which}
use Rattle.text.specs.Text.{quoted, decimal, decimal64, digits_of, Text, written}
use Rattle.text.proofs.Pieces.{then}
use Rattle.der.specs.Got.{Got, ok, no, check}
use Rattle.der.specs.Holder.{octets_at}
use Rattle.der.specs.declared.Part.{Part as Section}
use Rattle.der.proofs.Answers.{got-ok, got-no, got-placed}
use Rattle.envelope.specs.Reading.{list_of, envelope_of}
use Rattle.envelope.specs.Answers.{shown, mechanisms_in, Reads}
use Rattle.envelope.specs.declared.Init.{Init}
use Rattle.envelope.specs.declared.Resp.{Resp}
use Rattle.envelope.specs.declared.Envelope.{Envelope as Lent}
use Rattle.envelope.specs.declared.Envelope.TheVariants as lent
use Rattle.envelope.proofs.Tails.{token-inside, token-size, token-place}
use Rattle.envelope_parts.specs.Parts.{octets_in, mechanism_of, is_negoex}
use Rattle.envelope_parts.proofs.Mechanisms.{each-mechanism}
use Rattle.envelope_lines.specs.Lines.{octets_text, mechanism_line, mechanism_lines, octets_line, named_lines, state_line, token_line, last_lines, head_line, refused_text, text_of, envelope_text, octets_of, token_in, begun, wrote_line}
use Rattle.envelope_lines.specs.Answers.{TokenAt, InitAt, told_init, RespAt, told_resp}

-- a field OCTETS; w says whether it is empty
module _ (t u : Text) (v : List ℕ) (w : Bool) (w-is : w ≡ eqb (length v) 0) where
  pub octets-none : w ≡ true → u ≡ written (quoted "-" ∷ []) t → u ≡ written (octets_text v) t
  unfolding octets_text
  octets-none h e = go v (sym w-is ∙ h) where
    go : (v : List ℕ) → eqb (length v) 0 ≡ true → u ≡ written (octets_text v) t
    go [] h = e
    go (x ∷ v) h = let z = eqb-true (length (x ∷ v)) 0 h in absurd (omega arith)

  pub octets-some : w ≡ false → u ≡ written (digits_of v) t → u ≡ written (octets_text v) t
  unfolding octets_text
  octets-some h e = go v (sym w-is ∙ h) e where
    go : (v : List ℕ) → eqb (length v) 0 ≡ false → u ≡ written (digits_of v) t → u ≡ written (octets_text v) t
    go [] h e = absurd (eqb-false 0 0 h refl)
    go (x ∷ v) h e = e

pub ruleset octets = (octets-none, octets-some)

pub octets-line : (t a b u : Text) (w v z : List ℕ) → a ≡ written (w ∷ []) t → b ≡ written (octets_text v) a → u ≡ written (z ∷ []) b
    → u ≡ written (w ∷ (octets_text v ++ (z ∷ []))) t
octets-line t a b u w v z f g h = then t a u _ _ f (then a b u _ _ g h)

-- a mechanism's line
module _ (t a b c u : Text) (k : ℕ) (v : List ℕ) (e1 : a ≡ written (quoted "mechanism " ∷ decimal64 k ∷ []) t) (e2 : b ≡ written (quoted " " ∷ []) a)
    (e3 : c ≡ written (octets_text v) b)
    (w : Bool) (w-is : w ≡ is_negoex v) where
  whole : (z : List ℕ) → u ≡ written (z ∷ []) c → u ≡ written (quoted "mechanism " ∷ decimal64 k ∷ quoted " " ∷ (octets_text v ++ (z ∷ []))) t
  whole z e = then t a u _ _ e1 (then a b u _ _ e2 (then b c u _ _ e3 e))

  pub mechanism-negoex : w ≡ true → u ≡ written (quoted " negoex\n" ∷ []) c → u ≡ written (mechanism_line k v) t
  unfolding mechanism_line
  mechanism-negoex h e = rw (← w-is, h) (whole (quoted " negoex\n") e)

  pub mechanism-other : w ≡ false → u ≡ written (quoted "\n" ∷ []) c → u ≡ written (mechanism_line k v) t
  unfolding mechanism_line
  mechanism-other h e = rw (← w-is, h) (whole (quoted "\n") e)

pub ruleset mechanisms = (mechanism-negoex, mechanism-other)

-- the mechanisms of a list, one by one
shown-mechanism : (v : List ℕ) (k : ℕ) → k < length (mechanisms_in v) → mechanism_of k v ≡ get_or (mechanisms_in v) k []
unfolding check
shown-mechanism v k h = go (which (leb (length v) 65535)) (list_of v) refl h where
  go : (leb (length v) 65535 ≡ true) ⊎ (leb (length v) 65535 ≡ false) → (g : Got (List (List ℕ))) → list_of v ≡ g → k < length (mechanisms_in v)
      → mechanism_of k v ≡ get_or (mechanisms_in v) k []
  go (inl b) (ok ms) e h = rw (b, e) (each-mechanism v ms k (leb-true _ _ b) e)
  go (inl b) (no n) e h = let z : k < length {A = List ℕ} [] = rw (b, e) at h in absurd (omega arith)
  go (inr b) g e h = let z : k < length {A = List ℕ} [] = rw b at h in absurd (omega arith)

module _ (v : List ℕ) (k : ℕ) (x t : Text) (inv : x ≡ written (mechanism_lines k (drop k (mechanisms_in v))) t) where
  pub mechanisms-more : (n : ℕ) → n ≡ length (mechanisms_in v) → k < n → (m : List ℕ) → m ≡ mechanism_of k v → (u : Text)
      → u ≡ written (mechanism_line k m) t
      → x ≡ written (mechanism_lines (k + 1) (drop (k + 1) (mechanisms_in v))) u
  unfolding mechanism_lines
  mechanisms-more n n-is h m m-is u e =
      let l : k < length (mechanisms_in v) = omega arith in
      let z : m ≡ get_or (mechanisms_in v) k [] = m-is ∙ shown-mechanism v k l in
      inv ∙ more (drop k (mechanisms_in v)) (get_or (mechanisms_in v) k []) (drop (k + 1) (mechanisms_in v))
      (rw add-one (drop-cons (mechanisms_in v) k [] l)) (e ∙ ap (λ (w : List ℕ). written (mechanism_line k w) t) z) where
        more : (ms : List (List ℕ)) (m : List ℕ) (ns : List (List ℕ)) → ms ≡ m ∷ ns → u ≡ written (mechanism_line k m) t
            → written (mechanism_lines k ms) t ≡ written (mechanism_lines (k + 1) ns) u
        more ms m ns is e = rw is (sym (then t u (written (mechanism_lines (k + 1) ns) u) (mechanism_line k m) (mechanism_lines (k + 1) ns) e refl))

  pub mechanisms-end : (n : ℕ) → n ≡ length (mechanisms_in v) → n ≤ k → t ≡ x
  unfolding mechanism_lines written
  mechanisms-end n n-is h = let g : length (mechanisms_in v) ≤ k = omega arith in sym (inv ∙ rw (drop_of_length-le (mechanisms_in v) g))

pub ruleset turns = (mechanisms-more, mechanisms-end)

-- fields that may be missing
pub absent-is : (f : Option Section) (b : Bool) → is_some f ≡ not b → b ≡ true → f ≡ None
absent-is None b e h = refl
absent-is (Some p) b e h = let z : ◌≡◌ {A = Bool} true false = e ∙ ap not h in cc

pub there-is : (f : Option Section) (b : Bool) → is_some f ≡ not b → b ≡ false → (s v : List ℕ) → v ≡ octets_in s f → shown s f ≡ some v
there-is None b e h s v v-is = let z : ◌≡◌ {A = Bool} false true = e ∙ ap not h in cc
there-is (Some p) b e h s v v-is = rw v-is

module _ (t : Text) (s : List ℕ) (f : Option Section) where
  module _ (absent : f ≡ None) where
    pub octets-absent : (w : List ℕ) → t ≡ written (octets_line w (shown s f)) t
    unfolding octets_line written
    octets-absent w = rw absent

    pub named-absent : t ≡ written (named_lines (shown s f)) t
    unfolding named_lines written
    named-absent = rw absent

    pub state-absent : t ≡ written (state_line (shown s f)) t
    unfolding state_line written
    state-absent = rw absent

    pub token-absent : (k : Option Section) → t ≡ written (token_line s (shown s f) (shown s k)) t
    unfolding token_line written
    token-absent k = rw absent

  module _ (u : Text) (v : List ℕ) (here : shown s f ≡ some v) where
    pub octets-there : (w : List ℕ) → u ≡ written (w ∷ (octets_text v ++ (quoted "\n" ∷ []))) t → u ≡ written (octets_line w (shown s f)) t
    unfolding octets_line
    octets-there w x = rw here x

    pub named-there : u ≡ written (mechanism_line 0 v) t → u ≡ written (named_lines (shown s f)) t
    unfolding named_lines
    named-there x = rw here x

    pub state-there : (a : Text) (n : ℕ) → n ≡ get_or v 0 0 → a ≡ written (quoted "state " ∷ decimal n ∷ []) t → u ≡ written (quoted "\n" ∷ []) a
        → u ≡ written (state_line (shown s f)) t
    unfolding state_line
    state-there a n n-is x y = rw (here, ← n-is) (then t a u _ _ x y)

-- the token's line
module _ (t : Text) (s : List ℕ) (f k : Option Section) (at : TokenAt s f k) (p : Section) (there : f ≡ Some p) where
  pub token-order : p.from ≤ p.end
  token-order = (token-inside s f k at.inside at.last p there).0

  pub token-there : (x y u : Text) → x ≡ written (quoted "token at=" ∷ decimal64 p.from ∷ []) t
      → y ≡ written (quoted " length=" ∷ decimal64 (p.end - p.from) ∷ []) x → u ≡ written (quoted "\n" ∷ []) y
      → u ≡ written (token_line s (shown s f) (shown s k)) t
  unfolding token_line
  token-there x y u q r z =
      rw (there, token-place s f k at.inside at.last p there, token-size s f k at.inside at.last p there)
      (then t y u _ _ (then t x y _ _ q r) z)

pub ruleset tokens = (token-absent, token-order, token-there)

pub last-lines : (t a u : Text) (s : List ℕ) (f k : Maybe (List ℕ)) → a ≡ written (token_line s f k) t
    → u ≡ written (octets_line (quoted "checksum ") k) a → u ≡ written (last_lines s f k) t
unfolding last_lines
last-lines t a u s f k e g = then t a u _ _ e g

pub head-line : (t a u : Text) (w s : List ℕ) → a ≡ written (w ∷ decimal64 (length s) ∷ []) t → u ≡ written (quoted "\n" ∷ []) a
    → u ≡ written (head_line w s) t
unfolding head_line
head-line t a u w s e g = then t a u _ _ e g

pub refused-line : (t a u : Text) (n : ℕ) → a ≡ written (quoted "refused " ∷ decimal n ∷ []) t → u ≡ written (quoted " at=0\n" ∷ []) a
    → u ≡ written (refused_text n) t
unfolding refused_text
refused-line t a u n e g = then t a u _ _ e g

pub wrote-line : (t a u : Text) (v : List ℕ) → a ≡ written (quoted "wrote " ∷ decimal64 (length v) ∷ []) t
    → u ≡ written (quoted " " ∷ (octets_text v ++ (quoted "\n" ∷ []))) a → u ≡ written (wrote_line v) t
unfolding wrote_line
wrote-line t a u v e g = then t a u _ _ e g

-- the whole text
module _ (s : List ℕ) (i : Init) (t a b c u : Text) where
  pub init-text : a ≡ written (head_line (quoted "envelope init length=") s) t
      → b ≡ written (mechanism_lines 0 (mechanisms_in (octets_at s i.list))) a
      → c ≡ written (octets_line (quoted "flags ") (shown s i.flags)) b
      → u ≡ written (last_lines s (shown s i.token) (shown s i.checksum)) c → u ≡ written (text_of s (told_init s i)) t
  unfolding text_of
  init-text e f g h = then t a u _ _ e (then a b u _ _ f (then b c u _ _ g h))

module _ (s : List ℕ) (r : Resp) (t a b c u : Text) where
  pub resp-text : a ≡ written (head_line (quoted "envelope resp length=") s) t → b ≡ written (state_line (shown s r.state)) a
      → c ≡ written (named_lines (shown s r.mechanism)) b
      → u ≡ written (last_lines s (shown s r.token) (shown s r.checksum)) c → u ≡ written (text_of s (told_resp s r)) t
  unfolding text_of
  resp-text e f g h = then t a u _ _ e (then a b u _ _ f (then b c u _ _ g h))

field-octets : (s : List ℕ) (f : Option Section) → octets_in s f ≡ octets_of (shown s f)
field-octets s (Some p) = refl
field-octets s None = refl

module _ (s : List ℕ) (r : Result Lent Refusal) (says : Reads s (length s) (envelope_of s) r) where
  pub text-refused : (t u : Text) (e : Refusal) → r ≡ Err e → (n : ℕ) → n ≡ number_of e → u ≡ written (refused_text n) t → u ≡ written (envelope_text s) t
  unfolding text_of
  text-refused t u e k n n-is h = rw (got-no says e k, ← n-is) h

  pub token-none : (e : Refusal) → r ≡ Err e → [] ≡ token_in s
  token-none e k = rw (got-no says e k)

  module _ (i : Init) (r-is : r ≡ Ok (lent.Init i)) where
    pub text-init : (t u : Text) → u ≡ written (text_of s (told_init s i)) t → u ≡ written (envelope_text s) t
    text-init t u h = rw (got-ok says (lent.Init i) r-is) h

    pub init-placed : InitAt s i
    init-placed = got-placed says (lent.Init i) r-is

    pub token-init : (v : List ℕ) → v ≡ octets_in s i.token → v ≡ token_in s
    token-init v h = rw (got-ok says (lent.Init i) r-is) (h ∙ field-octets s i.token)

  module _ (i : Resp) (r-is : r ≡ Ok (lent.Resp i)) where
    pub text-resp : (t u : Text) → u ≡ written (text_of s (told_resp s i)) t → u ≡ written (envelope_text s) t
    text-resp t u h = rw (got-ok says (lent.Resp i) r-is) h

    pub resp-placed : RespAt s i
    resp-placed = got-placed says (lent.Resp i) r-is

    pub token-resp : (v : List ℕ) → v ≡ octets_in s i.token → v ≡ token_in s
    token-resp v h = rw (got-ok says (lent.Resp i) r-is) (h ∙ field-octets s i.token)

pub ruleset texts = (text-refused, text-init, text-resp, init-placed, resp-placed)

pub ruleset parts = (token-none, token-init, token-resp)

-- a prefix is compared from its own side
eqb-flip : (x y : ℕ) → eqb x y ≡ eqb y x
eqb-flip x y = go (which (eqb x y)) where
  go : (eqb x y ≡ true) ⊎ (eqb x y ≡ false) → eqb x y ≡ eqb y x
  go (inl e) = rw (eqb-true x y e)
  go (inr e) = e ∙ sym (ne_eqb y x (λ z. eqb-false x y e (sym z)))

flipped : (a b : List ℕ) → pointwise eqb a b ≡ same_octets b a
unfolding same_octets
flipped [] [] = refl
flipped [] (y ∷ b) = refl
flipped (x ∷ a) [] = refl
flipped (x ∷ a) (y ∷ b) = rw (flipped a b, eqb-flip x y)

pub begun-is : (v : List ℕ) (r : Bool) → r ≡ starts_with eqb v (quoted "NEGOEXTS") → r ≡ begun v
begun-is v r e = e ∙ flipped (quoted "NEGOEXTS") (take 8 v)
