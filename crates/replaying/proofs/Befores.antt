-- What ends a replay before play, in the words of the code.
-- Assumes nothing.
use Prim.Native.Nat.{ℕ, zero, suc, ◌+◌, ◌-◌, ◌/◌, ◌%◌, ◌<◌, ◌≤◌}
use mathlib.Core.Path.{◌≡◌, refl, sym, ap, ◌∙◌}
use mathlib.Core.Bool.{Bool, true, false, cond, ◌&&◌}
use mathlib.Core.Logic.{◌⊎◌, inl, inr}
use mathlib.Core.List.{List, [], ◌∷◌}
use native.Mathlib.Omega.{arith}
use Rattle.std.specs.Prelude.{Option, Some, None}
use Rattle.std.proofs.lemmas.Option.{none-some}
use Rattle.std.proofs.Math.Option.{some}
use lib.ListN.{length}
use lib.Dec.{eqb, leb}
use borrow.Author.Tests.{leb-true}
use Rattle.octets.proofs.Bools.{which, no_true, and_l, and_r}
use Rattle.refusal.specs.Refusals.{number_of}
use Rattle.message.specs.Layout.{size}
use Rattle.message.specs.Show.{ids_of}
use Rattle.message.proofs.Ids.{length_ids}
use Rattle.token.specs.declared.Refused.{Refused}
use Rattle.schemes.specs.Lists.{distinct, list_ok, one_to16}
use Rattle.schemes.specs.Sets.{below}
use Rattle.conversation.specs.Logs.{messages_in}
use Rattle.sides.specs.Merging.{fits, cut_from, messages_of, turns_of, together, in_row}
use Rattle.sides.specs.Replay.{Whose, initiator, acceptor, neither, Ending, finished, refused, unopened, first_ending, cut_ending, file_ending, before}
use Rattle.merging.specs.declared.Cut.{Cut}
use Rattle.merging.specs.Merged.{Stop, stop_in, stop_of, Cutting, cutting, file_cut}
use Rattle.replaying.specs.declared.Marks.{Marks}
use Rattle.replaying.specs.declared.Fault.{Fault}
use Rattle.replaying.specs.declared.Fault.TheVariants as fault
use Rattle.replaying.specs.Playing.{file_if, octets_of, case_with, fault_as, files_ending}

-- 1. lists and marks

pub few-in : (list : List ℕ) → list_ok list ≡ true → length list / 16 ≤ 16
unfolding list_ok
few-in list h =
    let o : one_to16 (ids_of list) ≡ true = and_r (eqb (length list % 16) 0) (one_to16 (ids_of list)) h in
    let f : leb 1 (length (ids_of list)) && leb (length (ids_of list)) 16 ≡ true =
    and_l (leb 1 (length (ids_of list)) && leb (length (ids_of list)) 16) (distinct (ids_of list)) o in
    let n : length (ids_of list) ≤ 16 = leb-true _ _ (and_r (leb 1 (length (ids_of list))) (leb (length (ids_of list)) 16) f) in
    omega (arith, length_ids (length list / 16) list)

module _ (list : List ℕ) (b : Bool) (b-is : b ≡ list_ok list) where
  pub given-small : b ≡ true → length list / 16 < 4294967296
  given-small e = omega (arith, few-in list (sym b-is ∙ e))

-- 2. a file

abbrev end_by : Whose → Option Stop → Ending
end_by w None = finished
end_by w (Some r) = refused r.number r.place w

cut-ending : (w : Whose) (xs : List ℕ) (k p : ℕ) → cut_ending w (cut_from xs k p) ≡ end_by w (stop_in (cut_from xs k p))
unfolding cut_from cut_ending
cut-ending w [] k p = refl
cut-ending w (x ∷ xs) (suc k) p = cut-ending w xs k p
cut-ending w (x ∷ xs) zero p = go (which (fits (x ∷ xs))) (cut-ending w xs (size (x ∷ xs) - 1) (p + size (x ∷ xs))) where
  go : (fits (x ∷ xs) ≡ true) ⊎ (fits (x ∷ xs) ≡ false)
      → cut_ending w (cut_from xs (size (x ∷ xs) - 1) (p + size (x ∷ xs))) ≡ end_by w (stop_in (cut_from xs (size (x ∷ xs) - 1) (p + size (x ∷ xs))))
      → cut_ending w (cut_from (x ∷ xs) 0 p) ≡ end_by w (stop_in (cut_from (x ∷ xs) 0 p))
  go (inl e) ih = rw e ih
  go (inr e) ih = rw e

file-ending : (w : Whose) (file : List ℕ) → file_ending w (some file) ≡ end_by w (file_cut file).stop
unfolding file_cut
file-ending w file = elim (which (leb (length file) 65535)) [
  | inl e ↦ rw e (cut-ending w file 0 0)
  | inr e ↦ rw e
]

cut-few : (xs : List ℕ) (k p : ℕ) → length (messages_in (cut_from xs k p)) ≤ length xs
unfolding cut_from messages_in
cut-few [] k p = omega arith
cut-few (x ∷ xs) (suc k) p = let i = cut-few xs k p in omega arith
cut-few (x ∷ xs) zero p = go (which (fits (x ∷ xs))) (cut-few xs (size (x ∷ xs) - 1) (p + size (x ∷ xs))) where
  go : (fits (x ∷ xs) ≡ true) ⊎ (fits (x ∷ xs) ≡ false) → length (messages_in (cut_from xs (size (x ∷ xs) - 1) (p + size (x ∷ xs)))) ≤ length xs
      → length (messages_in (cut_from (x ∷ xs) 0 p)) ≤ length (x ∷ xs)
  go (inl e) ih = rw e (omega arith)
  go (inr e) ih = rw e (omega arith)

-- a file that nothing refuses is short, and cut to its end
file-whole : (file : List ℕ) → None ≡ (file_cut file).stop → (length file ≤ 65535) × ((file_cut file).messages ≡ length (messages_of file))
unfolding file_cut
file-whole file z = elim (which (leb (length file) 65535)) [
  | inl e ↦ (leb-true _ _ e, rw e)
  | inr e ↦ absurd (none-some (record { number = 1; place = 0 }) (rw e at z))
]

-- an ending that is the last turn's, or another
unfoldable pub is_finished : Ending → Bool
is_finished finished = true
is_finished (refused n p w) = false
is_finished unopened = false

not-finished : (f : Fault) → fault_as f ≡ finished → ⊥
unfolding is_finished
not-finished fault.Unopened e = no_true (ap is_finished e)
not-finished (fault.Refused n p w) e = no_true (ap is_finished e)

-- the end of a cut that ends with no refusal
whole-stop : (w : Whose) (r : Option Stop) → finished ≡ end_by w r → None ≡ r
unfolding is_finished
whole-stop w None e = refl
whole-stop w (Some r) e = no_true (sym (ap is_finished e))

module _ (w : Whose) (file : List ℕ) (c : Cut) (c-is : cutting c ≡ file_cut file) where
  stop-is : stop_of c.refused ≡ (file_cut file).stop
  stop-is = ap (λ (z : Cutting). z.stop) c-is

  pub file-counted : c.refused ≡ None → (finished ≡ file_ending w (some file)) × (c.messages ≡ length (messages_of file))
  file-counted e =
      let z : None ≡ (file_cut file).stop = sym (ap stop_of e) ∙ stop-is in
      (sym (file-ending w file ∙ ap (end_by w) (sym z)), ap (λ (z : Cutting). z.messages) c-is ∙ (file-whole file z).1)

  pub file-refused : (r : Refused) → c.refused ≡ Some r → (n : ℕ) → n ≡ number_of r.refusal → refused n r.place.0 w ≡ file_ending w (some file)
  file-refused r e n n-is =
      ap (λ (k : ℕ). refused k r.place.0 w) n-is
      ∙ sym (file-ending w file ∙ ap (end_by w) (sym stop-is ∙ ap stop_of e))

pub file-short : (w : Whose) (file : Option (List ℕ)) → finished ≡ file_ending w (file_if file) → length (octets_of file) ≤ 65535
unfolding is_finished
file-short w None e = no_true (sym (ap is_finished e))
file-short w (Some file) e = (file-whole file (whole-stop w (file_cut file).stop (e ∙ file-ending w file))).0

-- 3. the files, in order

first-fault : (f : Fault) (e : Ending) → fault_as f ≡ first_ending (fault_as f) e
first-fault fault.Unopened e = refl
first-fault (fault.Refused n p w) e = refl

module _ (i a : Option (List ℕ)) where
  abbrev last : Ending
  last = cond (in_row (messages_of (octets_of i)) (messages_of (octets_of a))) finished (refused 24 0 neither)

  abbrev rest : Ending
  rest = first_ending (file_ending acceptor (file_if a)) last

  pub ends-file-i : (f : Fault) → fault_as f ≡ file_ending initiator (file_if i) → fault_as f ≡ files_ending i a
  unfolding files_ending
  ends-file-i f e = first-fault f rest ∙ ap (λ (x : Ending). first_ending x rest) e

  module _ (whole-i : finished ≡ file_ending initiator (file_if i)) where
    files-a : files_ending i a ≡ rest
    unfolding files_ending
    files-a = ap (λ (x : Ending). first_ending x rest) (sym whole-i)

    pub ends-file-a : (f : Fault) → fault_as f ≡ file_ending acceptor (file_if a) → fault_as f ≡ files_ending i a
    ends-file-a f e = first-fault f last ∙ ap (λ (x : Ending). first_ending x last) e ∙ sym files-a

    module _ (whole-a : finished ≡ file_ending acceptor (file_if a)) (n k : ℕ) (n-is : n ≡ length (messages_of (octets_of i)))
        (k-is : k ≡ length (messages_of (octets_of a))) where
      pub row-sum : n + k < 4294967296
      row-sum = omega (arith, cut-few (octets_of i) 0 0, cut-few (octets_of a) 0 0, file-short initiator i whole-i, file-short acceptor a whole-a)

      module _ (b : Bool) (b-is : b ≡ eqb (together (turns_of (messages_of (octets_of i)) (messages_of (octets_of a)))) (n + k)) where
        files-row : files_ending i a ≡ cond b finished (refused 24 0 neither)
        files-row =
            files-a ∙ ap (λ (x : Ending). first_ending x last) (sym whole-a)
            ∙ sym (ap (λ (x : Bool). cond x finished (refused 24 0 neither))
            (b-is ∙ ap (λ (j : ℕ). eqb (together (turns_of (messages_of (octets_of i)) (messages_of (octets_of a)))) (j + k)) n-is
            ∙ ap (λ (j : ℕ). eqb (together (turns_of (messages_of (octets_of i)) (messages_of (octets_of a)))) (length (messages_of (octets_of i)) + j)) k-is))

        pub ends-row : b ≡ false → (e : Ending) → e ≡ refused 24 0 neither → e ≡ files_ending i a
        ends-row z e e-is = e-is ∙ sym (files-row ∙ ap (λ (x : Bool). cond x finished (refused 24 0 neither)) z)

        pub ends-none : b ≡ true → finished ≡ files_ending i a
        ends-none z = sym (files-row ∙ ap (λ (x : Bool). cond x finished (refused 24 0 neither)) z)

-- 4. the lists before them

module _ (il al : List ℕ) (m : Marks) (i a : Option (List ℕ)) where
  abbrev ok-i : Bool
  ok-i = list_ok il && below (length il / 16) m.initiator

  abbrev ok-a : Bool
  ok-a = list_ok al && below (length al / 16) m.acceptor

  lists-bad : ok-i && ok-a ≡ false → before (case_with il al m i a) ≡ refused 19 0 neither
  unfolding before
  lists-bad e = rw e

  pub ends-list-i : (gi : Bool) → gi ≡ ok-i → gi ≡ false → (e : Ending) → e ≡ refused 19 0 neither → e ≡ before (case_with il al m i a)
  ends-list-i gi gi-is z e e-is = e-is ∙ sym (lists-bad (ap (λ (x : Bool). x && ok-a) (sym gi-is ∙ z)))

  pub ends-list-a : (gi : Bool) → gi ≡ ok-i → gi ≡ true → (ga : Bool) → ga ≡ ok-a → ga ≡ false → (e : Ending) → e ≡ refused 19 0 neither
      → e ≡ before (case_with il al m i a)
  ends-list-a gi gi-is t ga ga-is z e e-is = e-is ∙ sym (lists-bad (ap (λ (x : Bool). x && ok-a) (sym gi-is ∙ t) ∙ (sym ga-is ∙ z)))

  pub ends-files : (gi : Bool) → gi ≡ ok-i → gi ≡ true → (ga : Bool) → ga ≡ ok-a → ga ≡ true → (e : Ending) → e ≡ files_ending i a
      → e ≡ before (case_with il al m i a)
  unfolding before files_ending
  ends-files gi gi-is ti ga ga-is ta e e-is = e-is ∙ sym (rw (sym gi-is ∙ ti, sym ga-is ∙ ta))
