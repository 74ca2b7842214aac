-- The loop that cuts a file, in the words of the code.
-- Assumes nothing.
use Prim.Native.Nat.{ℕ, suc, ◌+◌, ◌-◌, ◌<◌, ◌≤◌}
use mathlib.Core.Path.{◌≡◌, sym, ap, ◌∙◌}
use mathlib.Core.Bool.{true, false}
use mathlib.Core.List.{List, [], ◌∷◌}
use native.Mathlib.Omega.{arith}
use lib.ListN.{length, take, drop, length-drop}
use borrow.Author.Tests.{le-leb, lt-leb}
use Rattle.octets.proofs.Slices.{tail_all}
use Rattle.std.specs.Prelude.{Option, Some, None, IsSomeAnd}
use Rattle.std.proofs.Common.{Result, Ok, Err}
use Rattle.vector.specs.declared.TokenPlace.{TokenPlace}
use Rattle.refusal.specs.declared.Refusal.{Refusal}
use Rattle.refusal.specs.Refusals.{number_of}
use Rattle.message.specs.declared.Header.{Header}
use Rattle.message.specs.Layout.{head_of, size, front}
use Rattle.message.specs.Check.{first_failing, common_rows, said, fields_of, header_verdict}
use Rattle.message.proofs.Tables.{verdict-read, verdict-refused}
use Rattle.token.specs.declared.Refused.{Refused}
use Rattle.token.specs.Token.{Chain, refused as cut_at, message}
use Rattle.conversation.specs.Logs.{messages_in}
use Rattle.sides.specs.Merging.{fits, cut_from, cut_of}
use Rattle.sides.proofs.Cutting.{fits-sized, turn-fits, turn-stops}
use Rattle.merging.specs.declared.Cut.{Cut}
use Rattle.merging.specs.Merged.{stop_in, Cutting, cutting, cut_by, file_cut}

-- 1. what a header's reading says

module _ (rest : List ℕ) (m : Result Header Refusal) (m-is : said m ≡ header_verdict rest) where
  module _ (h : Header) (m-reads : m ≡ Ok h) where
    reads : (fits rest ≡ true) × (fields_of (head_of rest) ≡ h)
    unfolding header_verdict
    reads = verdict-read (common_rows (length rest) (head_of rest)) (fields_of (head_of rest)) h (sym m-is ∙ ap said m-reads)

    pub header-fits : fits rest ≡ true
    header-fits = reads.0

    pub header-size : size rest ≡ h.length
    header-size = ap (λ (g : Header). g.length) reads.1

    pub header-number : (head_of rest).sequence ≡ h.sequence
    header-number = ap (λ (g : Header). g.sequence) reads.1

    pub header-long : (64 ≤ h.length) × (h.length ≤ length rest)
    header-long = let z = fits-sized rest reads.0 in (omega (arith, z, header-size), omega (arith, z, header-size))

    pub header-within : h.length ≤ length rest
    header-within = header-long.1

    pub header-left : length (take (length rest - h.length) (drop h.length rest)) ≡ length rest - h.length
    header-left = ap length (tail_all rest h.length) ∙ length-drop h.length rest

    pub header-less : length (take (length rest - h.length) (drop h.length rest)) < length rest
    header-less = omega (arith, header-left, header-long)

  pub header_refused : (f : Refusal) → m ≡ Err f → (fits rest ≡ false) × (first_failing (common_rows (length rest) (head_of rest)) ≡ number_of f)
  unfolding header_verdict
  header_refused f e = verdict-refused (common_rows (length rest) (head_of rest)) (fields_of (head_of rest)) (number_of f) (sym m-is ∙ ap said e)

-- 2. the loop: what is left of the file, its place, and how many messages stand before

abbrev more : ℕ → Cutting → Cutting
more n c = record { messages = n + c.messages; stop = c.stop }

pub record CutOn (file rest : List ℕ) (place messages : ℕ) : Type 0 where
  pub short : length file ≤ 65535
  pub few : messages + length rest ≤ length file
  pub at : place + length rest ≡ length file
  pub come : cut_by (cut_of file) ≡ more messages (cut_by (cut_from rest 0 place))

pub cut-begins : (file : List ℕ) → length file ≤ 65535 → CutOn file file 0 0
cut-begins file h =
    record {
      short = h;
      few = omega arith;
      at = omega arith;
      come = (let z : length (messages_in (cut_of file)) ≡ 0 + length (messages_in (cut_of file)) = omega arith in
          ap (λ (k : ℕ). record { messages = k; stop = stop_in (cut_of file) }) z);
    }

module _ (file rest : List ℕ) (place messages : ℕ) (on : CutOn file rest place messages) where
  pub cut-counts : messages + 1 < 4294967296
  cut-counts = omega (arith, on.short, on.few)

  pub cut-ends : length rest ≤ 0 → record { messages = messages; stop = None } ≡ cut_by (cut_of file)
  cut-ends e = go rest e ∙ sym on.come where
    go : (l : List ℕ) → length l ≤ 0 → record { messages = messages; stop = None } ≡ more messages (cut_by (cut_from l 0 place))
    go [] w =
        unfold cut_from messages_in in
        (let z : messages ≡ messages + 0 = omega arith in ap (λ (k : ℕ). record { messages = k; stop = None }) z)
    go (x ∷ l) w = absurd (omega arith)

  module _ (m : Result Header Refusal) (m-is : said m ≡ header_verdict rest) where
    module _ (h : Header) (m-reads : m ≡ Ok h) where
      pub cut-place : place + h.length < 18446744073709551616
      cut-place = omega (arith, on.at, on.short, header-long rest m m-is h m-reads)

      pub cut_on : (next : ℕ) → next ≡ place + h.length → CutOn file (take (length rest - h.length) (drop h.length rest)) next (messages + 1)
      cut_on next next-is =
          let left = header-left rest m m-is h m-reads in
          let long = header-long rest m m-is h m-reads in
          record {
            short = on.short;
            few = omega (arith, on.few);
            at = omega (arith, on.at);
            come =
                on.come
                ∙ ap (λ (ch : Chain). more messages (cut_by ch)) (turn-fits place rest (header-fits rest m m-is h m-reads))
                ∙ counted (front rest) (cut_from (drop (size rest) rest) 0 (place + size rest))
                ∙ ap (λ (k : ℕ). more (messages + 1) (cut_by (cut_from (drop k rest) 0 (place + k)))) (header-size rest m m-is h m-reads)
                ∙ ap (λ (l : List ℕ). more (messages + 1) (cut_by (cut_from l 0 (place + h.length)))) (sym (tail_all rest h.length))
                ∙ ap (λ (k : ℕ). more (messages + 1) (cut_by (cut_from (take (length rest - h.length) (drop h.length rest)) 0 k))) (sym next-is);
          } where
            counted : (o : List ℕ) (ch : Chain)
                → more messages (cut_by (message (record { place = place; octets = o }) ch)) ≡ more (messages + 1) (cut_by ch)
            counted o ch =
                unfold messages_in in
                (let z : messages + suc (length (messages_in ch)) ≡ messages + 1 + length (messages_in ch) = omega arith in
                ap (λ (i : ℕ). record { messages = i; stop = stop_in ch }) z)

-- a refusal, at its place
module _ (file rest : List ℕ) (place : TokenPlace) (messages : ℕ) (on : CutOn file rest place.0 messages) (some : 0 < length rest) (m : Result Header Refusal)
    (m-is : said m ≡ header_verdict rest) where
  cut-stops : (f : Refusal) → m ≡ Err f
      → record { messages = messages; stop = Some (record { number = number_of f; place = place.0 }) } ≡ cut_by (cut_of file)
  cut-stops f e =
      let z = header_refused rest m m-is f e in
      sym (on.come ∙ ap (λ (ch : Chain). more messages (cut_by ch)) (turn-stops place.0 rest some z.0)
      ∙ stopped (first_failing (common_rows (length rest) (head_of rest)))
      ∙ ap (λ (j : ℕ). record { messages = messages; stop = Some (record { number = j; place = place.0 }) }) z.1) where
        stopped : (j : ℕ) → more messages (cut_by (cut_at j place.0)) ≡ record { messages = messages; stop = Some (record { number = j; place = place.0 }) }
        stopped j =
            unfold messages_in in
            (let z : messages + 0 ≡ messages = omega arith in
            ap (λ (i : ℕ). record { messages = i; stop = Some (record { number = j; place = place.0 }) }) z)

  -- as the code hands it on, by a closure that adds the place
  pub cut-stopped : (f : Refusal) → m ≡ Err f → (x : Option Refused) → {P : Refused → Type 0} → IsSomeAnd x P
      → ((r : Refused) → P r → r ≡ record { refusal = f; place = place }) → cutting (record { messages = messages; refused = x }) ≡ cut_by (cut_of file)
  cut-stopped f e None h g = absurd h
  cut-stopped f e (Some r) h g = ap (λ (y : Refused). cutting (record { messages = messages; refused = Some y })) (g r h) ∙ cut-stops f e

pub ruleset cuts = (header-within, header-less, cut-begins, cut-counts, cut-ends, cut-place, cut_on)

-- 3. the file

pub file-long : (file : List ℕ) → 65535 < length file → record { messages = 0; stop = Some (record { number = 1; place = 0 }) } ≡ file_cut file
unfolding file_cut
file-long file h = rw (lt-leb _ _ h)

pub file-short : (file : List ℕ) → length file ≤ 65535 → (r : Cut) → cutting r ≡ cut_by (cut_of file) → cutting r ≡ file_cut file
unfolding file_cut
file-short file h r e = rw (le-leb _ _ h) e

pub ruleset files = (file-long, file-short)
