-- Every message taken is the first that can be read behind the one before it. So the pieces cover the file, and no two skipped ones stand side by side.
-- Assumes nothing.
use Prim.Native.Nat.{ℕ, zero, suc, ◌+◌, ◌-◌, ◌<◌, ◌≤◌}
use mathlib.Core.Path.{◌≡◌, refl, sym, ap, subst, ◌∙◌}
use mathlib.Core.Bool.{Bool, true, false, cond}
use mathlib.Core.Logic.{◌⊎◌, inl, inr}
use mathlib.Core.List.{List, [], ◌∷◌, ◌++◌, Memᴰ}
use native.Mathlib.Omega.{arith}
use lib.ListN.{length, take, drop}
use lib.Seq.{take-add, drop-drop, take-length}
use lib.Dec.{ltb}
use borrow.Author.Tests.{ltb-true, ltb-false, lt-ltb, le-ltb}
use Rattle.octets.proofs.Bools.{which}
use Rattle.message.specs.Layout.{size, front}
use Rattle.token.specs.Token.{Placed}
use Rattle.recovery.specs.Recovery.{readable, taken_from, taken_of, Piece, taken, skipped, skip_to, pieces_from, pieces_of}
use Rattle.recovery.specs.Pieces.{extent, FollowOn, joined_in, Apart, PiecesCover, PiecesApart, TakenReadable, SkippedUnreadable}
use Rattle.recovery.proofs.Turns.{readable-front, take-first, skip_first}

-- at no place from a up to b can a message be read
abbrev Clean : List ℕ → ℕ → ℕ → Type 0
Clean s a b = (i : ℕ) → a ≤ i → i < b → readable (drop i s) ≡ false

-- a message of the file s that can be read where it stands
record Stands (s : List ℕ) (m : Placed) : Type 0 where
  reads : readable (drop m.place s) ≡ true
  octets : m.octets ≡ front (drop m.place s)

abbrev FirstFit : List ℕ → ℕ → List Placed → Type 0
FirstFit s a [] = (a ≤ length s) × Clean s a (length s)
FirstFit s a (m ∷ ms) = (a ≤ m.place) × (Clean s a m.place × (Stands s m × FirstFit s (m.place + length m.octets) ms))

drop-next : (s : List ℕ) (p x : ℕ) (xs : List ℕ) → drop p s ≡ x ∷ xs → drop (p + 1) s ≡ xs
drop-next s p x xs e = sym (drop-drop 1 p s) ∙ ap (drop 1) e

first-fit : (s xs : List ℕ) (k p a : ℕ) → drop p s ≡ xs → p + length xs ≡ length s → k ≤ length xs → a ≤ p + k → Clean s a (p + k)
    → FirstFit s a (taken_from xs k p)
unfolding taken_from
first-fit s [] k p a is ends fits from clean = (omega arith, λ i h g. clean i h (omega arith))
first-fit s (x ∷ xs) (suc k) p a is ends fits from clean =
    first-fit s xs k (p + 1) a (drop-next s p x xs is) (omega arith) (omega arith) (omega arith) (λ i h g. clean i h (omega arith))
first-fit s (x ∷ xs) zero p a is ends fits from clean =
    step (which (readable (x ∷ xs)))
    (λ b. first-fit s xs (size (x ∷ xs) - 1) (p + 1) b (drop-next s p x xs is) (omega arith))
    (first-fit s xs 0 (p + 1) a (drop-next s p x xs is) (omega arith) (omega arith) (omega arith)) where
      step : (readable (x ∷ xs) ≡ true) ⊎ (readable (x ∷ xs) ≡ false)
          → ((b : ℕ) → size (x ∷ xs) - 1 ≤ length xs → b ≤ p + 1 + (size (x ∷ xs) - 1) → Clean s b (p + 1 + (size (x ∷ xs) - 1))
          → FirstFit s b (taken_from xs (size (x ∷ xs) - 1) (p + 1)))
          → (Clean s a (p + 1 + 0) → FirstFit s a (taken_from xs 0 (p + 1)))
          → FirstFit s a (taken_from (x ∷ xs) 0 p)
      step (inl e) take skip =
          let z = readable-front (x ∷ xs) e in
          subst (FirstFit s a) (sym (take-first x xs p e)) (
            omega arith,
            (
              (λ i h g. clean i h (omega arith)),
              (
                record { reads = ap readable is ∙ e; octets = ap front (sym is) },
                take (p + length (front (x ∷ xs)))
                    (omega (arith, z.within, z.some)) (omega (arith, z.is, z.some)) (λ i h g. absurd (omega (arith, z.is, z.some))),
              ),
            ),
          )
      step (inr e) take skip =
          subst (FirstFit s a) (sym (skip_first x xs p e)) (skip (λ i h g. at i h g (which (ltb i p)))) where
            at : (i : ℕ) → a ≤ i → i < p + 1 + 0 → (ltb i p ≡ true) ⊎ (ltb i p ≡ false) → readable (drop i s) ≡ false
            at i h g (inl t) = clean i h (let w : i < p = ltb-true _ _ t in omega arith)
            at i h g (inr t) =
                let w : p ≤ i = ltb-false _ _ t in let n : i ≡ p = omega arith in ap (λ (j : ℕ). readable (drop j s)) n ∙ ap readable is ∙ e

fits : (s : List ℕ) → FirstFit s 0 (taken_of s)
fits s = first-fit s s 0 0 0 refl (omega arith) (omega arith) (omega arith) (λ i h g. absurd (omega arith))

-- what skipping adds
module _ (a b : ℕ) (ps : List Piece) where
  pub skip-some : a < b → skip_to a b ps ≡ skipped a (b - a) ∷ ps
  unfolding skip_to
  skip-some h = rw (lt-ltb a b h)

  pub skip-none : b ≤ a → skip_to a b ps ≡ ps
  unfolding skip_to
  skip-none h = rw (le-ltb a b h)

  -- a property of pieces that holds behind a stretch, skipped or empty
  skip_by : (P : List Piece → Type 0) → a ≤ b → (a < b → P (skipped a (b - a) ∷ ps)) → (a ≡ b → P ps) → P (skip_to a b ps)
  skip_by P h some none = go (which (ltb a b)) where
    go : (ltb a b ≡ true) ⊎ (ltb a b ≡ false) → P (skip_to a b ps)
    go (inl e) = let w : a < b = ltb-true _ _ e in subst P (sym (skip-some w)) (some w)
    go (inr e) = let w : b ≤ a = ltb-false _ _ e in subst P (sym (skip-none w)) (none (omega arith))

skip-follow : (a b end : ℕ) (ps : List Piece) → a ≤ b → FollowOn b ps end → FollowOn a (skip_to a b ps) end
skip-follow a b end ps h f =
    skip_by a b ps (λ (qs : List Piece). FollowOn a qs end) h
    (λ w. let n : a + (b - a) ≡ b = omega arith in (refl, (omega arith, subst (λ (k : ℕ). FollowOn k ps end) (sym n) f)))
    (λ w. subst (λ (k : ℕ). FollowOn k ps end) (sym w) f)

follow : (s : List ℕ) (a : ℕ) (ms : List Placed) → FirstFit s a ms → FollowOn a (pieces_from a ms (length s)) (length s)
unfolding pieces_from
follow s a [] (h, c) = skip-follow a (length s) (length s) [] h refl
follow s a (m ∷ ms) (h, (c, (t, r))) =
    let z = readable-front (drop m.place s) t.reads in
    skip-follow a m.place (length s) (taken m ∷ pieces_from (m.place + length m.octets) ms (length s)) h
    (refl, (omega (arith, z.some, z.is, ap length t.octets), follow s (m.place + length m.octets) ms r))

-- pieces that follow on are the octets between, joined
follow-joined : (s : List ℕ) (ps : List Piece) (a end : ℕ) → FollowOn a ps end → end ≤ length s
    → (a ≤ end) × (joined_in s ps ≡ take (end - a) (drop a s))
follow-joined s [] a end f h = let z : 0 ≡ end - a = omega arith in (omega arith, ap (λ (k : ℕ). take k (drop a s)) z)
follow-joined s (p ∷ ps) a end (first, (some, rest)) h =
    let (le, is) = follow-joined s ps (a + extent p) end rest h in
    let n : extent p + (end - (a + extent p)) ≡ end - a = omega arith in (
      omega arith,
      ap (λ (k : ℕ). take (extent p) (drop k s) ++ joined_in s ps) first
          ∙ ap (λ (l : List ℕ). take (extent p) (drop a s) ++ l) (is ∙ ap (take (end - (a + extent p))) (sym (drop-drop (extent p) a s)))
          ∙ sym (take-add (extent p) (end - (a + extent p)) (drop a s))
          ∙ ap (λ (k : ℕ). take k (drop a s)) n,
    )

pub pieces-cover : PiecesCover
pieces-cover s =
    let f = follow s 0 (taken_of s) (fits s) in
    let z : length s - 0 ≡ length s = omega arith in
    (f, (follow-joined s (pieces_of s) 0 (length s) f (omega arith)).1 ∙ ap (λ (k : ℕ). take k s) z ∙ take-length s)

-- behind a skipped stretch stands a message, or nothing
skip-apart : (a b : ℕ) (m : Placed) (ps : List Piece) → Apart ps → Apart (skip_to a b (taken m ∷ ps))
unfolding skip_to
skip-apart a b m ps h = go (ltb a b) where
  go : (c : Bool) → Apart (cond c (skipped a (b - a) ∷ taken m ∷ ps) (taken m ∷ ps))
  go true = h
  go false = h

end-apart : (a b : ℕ) → Apart (skip_to a b [])
unfolding skip_to
end-apart a b = go (ltb a b) where
  go : (c : Bool) → Apart (cond c (skipped a (b - a) ∷ []) [])
  go true = tt
  go false = tt

apart : (a : ℕ) (ms : List Placed) (end : ℕ) → Apart (pieces_from a ms end)
unfolding pieces_from
apart a [] end = end-apart a end
apart a (m ∷ ms) end = skip-apart a m.place m (pieces_from (m.place + length m.octets) ms end) (apart (m.place + length m.octets) ms end)

pub pieces-apart : PiecesApart
pieces-apart s = apart 0 (taken_of s) (length s)

-- what is said of each piece holds of one that is among them
abbrev Says : List ℕ → Piece → Type 0
Says s (taken m) = Stands s m
Says s (skipped place n) = Clean s place (place + n)

abbrev SaysAll : List ℕ → List Piece → Type 0
SaysAll s [] = Unit {0}
SaysAll s (p ∷ ps) = Says s p × SaysAll s ps

skip-says : (s : List ℕ) (a b : ℕ) (ps : List Piece) → a ≤ b → Clean s a b → SaysAll s ps → SaysAll s (skip_to a b ps)
skip-says s a b ps h c all =
    skip_by a b ps (SaysAll s) h
    (λ w. ((λ i g k. c i g (omega arith)), all))
    (λ w. all)

says : (s : List ℕ) (a : ℕ) (ms : List Placed) → FirstFit s a ms → SaysAll s (pieces_from a ms (length s))
unfolding pieces_from
says s a [] (h, c) = skip-says s a (length s) [] h c tt
says s a (m ∷ ms) (h, (c, (t, r))) =
    skip-says s a m.place (taken m ∷ pieces_from (m.place + length m.octets) ms (length s)) h c (t, says s (m.place + length m.octets) ms r)

says-one : (s : List ℕ) (p : Piece) (ps : List Piece) → Memᴰ p ps → SaysAll s ps → Says s p
says-one s p [] i all = elim i [ ]
says-one s p (q ∷ ps) (Memᴰ.head e) all = subst (Says s) (sym e) all.0
says-one s p (q ∷ ps) (Memᴰ.tail i) all = says-one s p ps i all.1

pub taken-readable : TakenReadable
taken-readable s m i = let t = says-one s (taken m) (pieces_of s) i (says s 0 (taken_of s) (fits s)) in (t.reads, t.octets)

pub skipped-unreadable : SkippedUnreadable
skipped-unreadable s place n i = says-one s (skipped place n) (pieces_of s) i (says s 0 (taken_of s) (fits s))
