-- The token of an envelope, in the words of the code.
-- Assumes nothing.
use Prim.Native.Nat.{ℕ, ◌-◌, ◌≤◌}
use mathlib.Core.Path.{◌≡◌, ◌∙◌}
use mathlib.Core.List.{List}
use lib.ListN.{length}
use lib.Dec.{leb}
use borrow.Author.Tests.{leb-true}
use Rattle.std.specs.Prelude.{Option, Some, None, Result, Ok, Err, IsErrAnd, ok_or}
use Rattle.refusal.specs.declared.Refusal.{Refusal}
use Rattle.der.specs.Got.{Got, ok}
use Rattle.der.specs.declared.Part.{Part as Section}
use Rattle.der.proofs.Gots.{check-ok}
use Rattle.der.proofs.Answers.{got-ok, got-no, got-placed}
use Rattle.envelope.specs.Reading.{envelope_of}
use Rattle.envelope.specs.Answers.{shown, told, Reads}
use Rattle.envelope.specs.declared.Init.{Init}
use Rattle.envelope.specs.declared.Resp.{Resp}
use Rattle.envelope.specs.declared.Envelope.{Envelope as Lent}
use Rattle.envelope.specs.declared.Envelope.TheVariants as lent
use Rattle.envelope.proofs.Tails.{token-size, token-place}
use Rattle.envelope_token.specs.declared.Carried.{Carried}
use Rattle.envelope_token.specs.Tokens.{Span, span_in, span_of, carried_of, said, TokenAt}

-- ---- the words of `span`
module _ (s : List ℕ) (f k : Option Section) (at : TokenAt s f k) where
  module _ (p : Section) (there : f ≡ Some p) where
    pub span-there : ◌≡◌ {A = Got Span} (ok (record { place = p.from; size = p.end - p.from })) (span_in s (shown s f) (shown s k))
    span-there = rw (there, token-place s f k at.inside at.last p there, token-size s f k at.inside at.last p there)

pub token-there : (f : Option Section) (e : Refusal) (r : Result Section Refusal) (p : Section) → r ≡ ok_or f e → r ≡ Ok p → f ≡ Some p
token-there None e r p k h = cc
token-there (Some q) e r p k h = cc

-- ---- the words of `find_token`
module _ (s : List ℕ) (r : Result Lent Refusal) (says : Reads s (length s) (envelope_of s) r) where
  pub carried-refused : (e : Refusal) → r ≡ Err e → (x : Result Carried Refusal) → IsErrAnd x (λ y. y ≡ e) → said x ≡ carried_of s
  unfolding carried_of
  carried-refused e k (Ok y) h = absurd h
  carried-refused e k (Err y) h = rw (h, got-no says e k)

  module _ (x : Lent) (r-is : r ≡ Ok x) where
    short : length s ≤ 65535
    unfolding envelope_of
    short = leb-true _ _ (check-ok (leb (length s) 65535) 1 _ (told s x) (got-ok says x r-is)).0

    carried-is : span_of s (told s x) ≡ carried_of s
    unfolding carried_of
    carried-is = rw (got-ok says x r-is)

    pub init-at : (i : Init) → x ≡ lent.Init i → TokenAt s i.token i.checksum
    init-at i e = let placed = rw e at (got-placed says x r-is) in record { inside = placed.1.token_in; last = placed.1.last; short = short }

    pub resp-at : (i : Resp) → x ≡ lent.Resp i → TokenAt s i.token i.checksum
    resp-at i e = let placed = rw e at (got-placed says x r-is) in record { inside = placed.1.token_in; last = placed.1.last; short = short }

    pub carried-init : (i : Init) → x ≡ lent.Init i → (y : Result Carried Refusal) → said y ≡ span_in s (shown s i.token) (shown s i.checksum)
        → said y ≡ carried_of s
    carried-init i e y y-is = y-is ∙ rw e at carried-is

    pub carried-resp : (i : Resp) → x ≡ lent.Resp i → (y : Result Carried Refusal) → said y ≡ span_in s (shown s i.token) (shown s i.checksum)
        → said y ≡ carried_of s
    carried-resp i e y y-is = y-is ∙ rw e at carried-is
