-- A message's reading, header first and then the body, in the words of the code.
-- Assumes nothing.
use Prim.Native.Nat.{ℕ, ◌≤◌}
use mathlib.Core.Path.{◌≡◌, refl, sym, ap, ◌∙◌}
use mathlib.Core.Bool.{Bool, true, false, cond}
use mathlib.Core.List.{List, [], ◌∷◌}
use native.Mathlib.Omega.{arith}
use lib.ListN.{length, take}
use lib.Seq.{length-take-le}
use lib.Dec.{eqb}
use borrow.Author.Tests.{ne_eqb}
use Rattle.std.proofs.Common.{Result, Ok, Err}
use Rattle.refusal.specs.declared.Refusal.{Refusal}
use Rattle.refusal.specs.Refusals.{number_of}
use Rattle.refusal.proofs.Numbers.{number_some}
use Rattle.message.specs.declared.Header.{Header}
use Rattle.message.specs.Layout.{Shape, head_of, shape_of, header_of, size, front}
use Rattle.message.specs.Check.{Row, first_failing, common_rows, body_rows, content_rows, front_rows, message_rows, refusal_of, Verdict, read, refused, verdict, said, fields_of, header_verdict, body_verdict, message_verdict, Passed}
use Rattle.message.proofs.Tables.{verdict-is, verdict-append, verdict-read, verdict-refused}
use Rattle.message.proofs.Headers.{header-passed}

-- a number of the table is never 0, so 0 says that all rows pass
abbrev pub Numbered : List Row → Type 0
Numbered [] = Unit {0}
Numbered (r ∷ rs) = (r.number ≡ 0 → ⊥) × Numbered rs

pub decided : (rs : List Row) (v : Verdict) → Numbered rs → verdict rs v ≡ cond (eqb (first_failing rs) 0) v (refused (first_failing rs))
decided [] v e = refl
decided (r ∷ rs) v e = go r.test (decided rs v e.1) where
  go : (b : Bool) → verdict rs v ≡ cond (eqb (first_failing rs) 0) v (refused (first_failing rs))
      → cond b (verdict rs v) (refused r.number) ≡ cond (eqb (cond b (first_failing rs) r.number) 0) v
      (refused (cond b (first_failing rs) r.number))
  go true ih = ih
  go false ih = rw (ne_eqb _ _ e.0)

body-numbered : (shape : Shape) (len : ℕ) (m : List ℕ) → Numbered (body_rows shape len m)
unfolding body_rows content_rows
body-numbered shape len m = ((λ e. omega arith), ((λ e. omega arith), ((λ e. omega arith), ((λ e. omega arith), tt))))

module _ (s : List ℕ) (h : Header) (p : Passed s h) where
  -- the message's own slice holds its header
  pub body-room : header_of (shape_of h.kind.0) ≤ length (take h.length s)
  body-room = let e = length-take-le h.length s p.within in let a = p.header in omega arith

  module _ (n : ℕ) (n-is : n ≡ refusal_of (shape_of h.kind.0) (take h.length s)) where
    number_is : n ≡ first_failing (front_rows s)
    unfolding refusal_of front_rows
    number_is =
        n-is ∙ ap (λ (k : ℕ). first_failing (body_rows (shape_of h.kind.0) k (take h.length s))) (length-take-le h.length s p.within)
        ∙ ap (λ (g : Header). first_failing (body_rows (shape_of g.kind.0) g.length (take g.length s))) p.is

    body_is : body_verdict s h ≡ cond (eqb n 0) (read h) (refused n)
    unfolding body_verdict front_rows
    body_is =
        rw number_is
        (decided (body_rows (shape_of (head_of s).kind) (size s) (front s)) (read h) (body-numbered (shape_of (head_of s).kind) (size s) (front s)))

  pub body_refused : (e : Refusal) → number_of e ≡ refusal_of (shape_of h.kind.0) (take h.length s) → refused (number_of e) ≡ body_verdict s h
  body_refused e n-is =
      let some : number_of e ≡ 0 → ⊥ = λ z. omega (arith, number_some e) in
      sym (body_is (number_of e) n-is ∙ rw (ne_eqb _ _ some))

  pub body-read : 0 ≡ refusal_of (shape_of h.kind.0) (take h.length s) → read h ≡ body_verdict s h
  body-read n-is = sym (body_is 0 n-is)

-- A reading that goes on behind the header: where the header is refused, so is the whole; where it passes as h, the rest decides.
module _ (s : List ℕ) (rest : Header → Verdict) (all : Verdict)
    (all-is : all ≡ verdict (common_rows (length s) (head_of s)) (rest (fields_of (head_of s))))
    (r : Result Header Refusal) (r-is : said r ≡ header_verdict s) where
  pub header_refused : (e : Refusal) → r ≡ Err e → said r ≡ all
  unfolding header_verdict
  header_refused e here =
      let t = verdict-refused (common_rows (length s) (head_of s)) (fields_of (head_of s)) (number_of e) (sym r-is ∙ ap said here) in
      ap said here ∙ ap refused (sym t.1) ∙ sym (all-is ∙ verdict-is (common_rows (length s) (head_of s)) _ ∙ rw t.0)

  pub header_read : (h : Header) → r ≡ Ok h → (x : Result Header Refusal) → said x ≡ rest h → said x ≡ all
  unfolding header_verdict
  header_read h e x x-is =
      let t = verdict-read (common_rows (length s) (head_of s)) (fields_of (head_of s)) h (sym r-is ∙ ap said e) in
      x-is ∙ ap rest (sym t.1) ∙ sym (all-is ∙ verdict-is (common_rows (length s) (head_of s)) _ ∙ rw t.0)

-- the whole message: what the header's reading says, and then the body's
message-is : (s : List ℕ) → message_verdict s ≡ verdict (common_rows (length s) (head_of s)) (body_verdict s (fields_of (head_of s)))
unfolding message_verdict message_rows body_verdict
message-is s = verdict-append (common_rows (length s) (head_of s)) (front_rows s) (read (fields_of (head_of s)))

module _ (s : List ℕ) (r : Result Header Refusal) (r-is : said r ≡ header_verdict s) where
  pub header-whole : (h : Header) → r ≡ Ok h → Passed s h
  header-whole h e = header-passed s h (sym r-is ∙ ap said e)

  pub message-refused : (e : Refusal) → r ≡ Err e → said r ≡ message_verdict s
  message-refused = header_refused s (body_verdict s) (message_verdict s) (message-is s) r r-is

  pub message-read : (h : Header) → r ≡ Ok h → (x : Result Header Refusal) → said x ≡ body_verdict s h → said x ≡ message_verdict s
  message-read = header_read s (body_verdict s) (message_verdict s) (message-is s) r r-is

pub ruleset readings = (body-room, body_refused, body-read, message-refused, header-whole, message-read)
