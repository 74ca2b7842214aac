-- The ids of a list, one behind the other, in the words of the code.
-- Assumes nothing.
use Prim.Native.Nat.{ℕ, ◌-◌, ◌≤◌, ◌<◌}
use mathlib.Core.Path.{◌≡◌, sym, ap, ◌∙◌}
use mathlib.Core.List.{List, ◌++◌, append-nil}
use native.Mathlib.Omega.{arith}
use lib.ListN.{length, take, length-append}
use lib.Seq.{length-take-le}
use Rattle.put.specs.Put.{Written}
use Rattle.text.proofs.Pieces.{take_put}
use Rattle.std.proofs.Common.{Option, Some, None}
use Rattle.fields.specs.Fields.{Octets, of, behind_all, front, bad, fit, id_of, id_as}
use Rattle.fields.proofs.Decoding.{behind-twice, behind-none, fits, fits_not, fit-long}
use Rattle.script.specs.Grammar.{first, others, both, ids_of}
use Rattle.script.specs.Places.{fields_from}
use Rattle.script.proofs.Places.{past_none, field_there}

-- the ids of a list: those in front stand already at the front of d
module _ (s d : List ℕ) (room n at : ℕ) (x : Octets) (inv : x ≡ behind_all (take n d) (ids_of (fields_from s at))) (inside : n ≤ length d)
    (sized : length d ≡ room) where
  pub ids-end : length s < at → front n (take n d) ≡ fit room x
  unfolding ids_of
  ids-end h =
      fits room n x (take n d) (inv ∙ rw (past_none s at h) (ap of (append-nil (take n d)))) (length-take-le n d inside) (omega arith)

  module _ (more : at ≤ length s) (f : List ℕ) (f-is : f ≡ first (fields_from s at)) (r : Option (List ℕ)) (r-is : id_as r ≡ id_of f) where
    ids_next : x ≡ behind_all (take n d) (both (id_as r) (ids_of (others (fields_from s at))))
    unfolding ids_of
    ids_next = inv ∙ ap (λ (fs : List (List ℕ)). behind_all (take n d) (ids_of fs)) (field_there s at more) ∙ rw (← f-is, ← r-is)

    pub ids-bad : r ≡ None → bad ≡ fit room x
    ids-bad h = fits_not room x (ids_next ∙ rw h)

    module _ (o : List ℕ) (good : r ≡ Some o) (whole : length o ≡ 16) where
      ids-one : x ≡ behind_all (take n d ++ o) (ids_of (others (fields_from s at)))
      ids-one = ids_next ∙ rw good (behind-twice (take n d) o (ids_of (others (fields_from s at))))

      pub ids-full : length d - n < 16 → bad ≡ fit room x
      ids-full h =
          let l : length (take n d) ≡ n = length-take-le n d inside in
          fit-long room (take n d ++ o) (ids_of (others (fields_from s at))) (omega (arith, length-append (take n d) o))
          ∙ ap (fit room) (sym ids-one)

      pub ids_more : 16 ≤ length d - n → (d' : List ℕ) (next : ℕ) → Written d n (length o) o d' next → (to : ℕ)
          → fields_from s to ≡ others (fields_from s at)
          → x ≡ behind_all (take next d') (ids_of (fields_from s to))
      ids_more h d' next w to e =
          ids-one ∙ rw (← e, w.after, w.holds)
          (ap (λ (l : List ℕ). behind_all l (ids_of (fields_from s to))) (sym (take_put d n o (omega arith))))

pub ids-start : (s d : List ℕ) (from : ℕ) → ids_of (fields_from s from) ≡ behind_all (take 0 d) (ids_of (fields_from s from))
ids-start s d from = behind-none (ids_of (fields_from s from))

pub ruleset id-lists = (ids-start, ids-end, ids-bad, ids-full, ids_more)
