-- A line's command, field after field, in the words of the code.
-- Assumes nothing.
use Prim.Native.Nat.{ℕ, ◌≤◌, ◌<◌}
use mathlib.Core.Path.{◌≡◌, refl, sym, ap, ◌∙◌}
use mathlib.Core.Bool.{Bool, true, false, cond, not}
use mathlib.Core.List.{List, [], ◌∷◌}
use native.Mathlib.Omega.{arith}
use lib.ListN.{length}
use lib.Dec.{eqb}
use lib.Pointwise.{pointwise}
use Rattle.std.proofs.Common.{Option, Some, None}
use Rattle.std.specs.Option.{is_some}
use borrow.Author.Tests.{ne_eqb}
use Rattle.octets.specs.Octets.{same_octets}
use Rattle.octets.proofs.Same.{same-eq}
use Rattle.text.specs.Text.{quoted}
use Rattle.elements.specs.declared.Elements.{Elements}
use Rattle.elements.specs.Elements.{no_elements}
use Rattle.script.specs.declared.Verb.{Verb}
use Rattle.script.specs.declared.Verb.TheVariants as call
use Rattle.script.specs.declared.Kind.{Kind}
use Rattle.script.specs.declared.Kind.TheVariants as kind
use Rattle.script.specs.declared.Form.{Form as FormText}
use Rattle.fields.specs.Fields.{Numeral, is, nothing, of, none, front, bad, fit}
use Rattle.octets.proofs.Same.{compared}
use Rattle.script.specs.Grammar.{fields_of, first, others, kind_of, kind_of_rest, form_as, form_of, past, number_in, has_id, id_in, rest_in, Line, line, bad_line, number_then, octets_then, front_then, items_in, items_then, from_random, from_rest, from_id, from_number, called, chosen, ends, verbs, speeches, speech_verb, place_from, place_of, verb_of, call_verb, number_of_verb, number_of_end, fields_line, command_of}
use Rattle.script.specs.Places.{fields_from}
use Rattle.script.proofs.Places.{past_none, from_start, field_there}

module _ (s : List ℕ) (from : ℕ) (b : Bool) where
  pub past-read : b ≡ true → (r : ℕ) → fields_from s r ≡ others (fields_from s from) → fields_from s r ≡ past b (fields_from s from)
  past-read h r e = rw h e

  pub past-not : b ≡ false → fields_from s from ≡ past b (fields_from s from)
  past-not h = rw h

-- the fields of a call, and one of these
pub form-number : (f : FormText) (v : ℕ) → form_as f ≡ form_of v → kind_of f.number ≡ (form_of v).number
form-number f v e = ap (λ f. f.number) e

pub form-id : (f : FormText) (v : ℕ) → form_as f ≡ form_of v → kind_of f.id ≡ (form_of v).id
form-id f v e = ap (λ f. f.id) e

pub form-rest : (f : FormText) (v : ℕ) → form_as f ≡ form_of v → kind_of_rest f.rest ≡ (form_of v).rest
form-rest f v e = ap (λ f. f.rest) e

pub some-kind : (k : Option Kind) → is_some k ≡ not (eqb (kind_of k) 0)
some-kind None = refl
some-kind (Some kind.Room) = refl
some-kind (Some kind.Marks) = refl
some-kind (Some kind.Code) = refl
some-kind (Some kind.Id) = refl
some-kind (Some kind.Conversation) = refl
some-kind (Some kind.Octets) = refl
some-kind (Some kind.Ids) = refl

plain-kind : (k : Option Kind) → (kind_of k ≡ 6 → ⊥) × (kind_of k ≡ 9 → ⊥)
plain-kind None = (λ e. absurd (omega arith), λ e. absurd (omega arith))
plain-kind (Some kind.Room) = (λ e. absurd (omega arith), λ e. absurd (omega arith))
plain-kind (Some kind.Marks) = (λ e. absurd (omega arith), λ e. absurd (omega arith))
plain-kind (Some kind.Code) = (λ e. absurd (omega arith), λ e. absurd (omega arith))
plain-kind (Some kind.Id) = (λ e. absurd (omega arith), λ e. absurd (omega arith))
plain-kind (Some kind.Conversation) = (λ e. absurd (omega arith), λ e. absurd (omega arith))
plain-kind (Some kind.Octets) = (λ e. absurd (omega arith), λ e. absurd (omega arith))
plain-kind (Some kind.Ids) = (λ e. absurd (omega arith), λ e. absurd (omega arith))

module _ (verb : ℕ) (acceptor : Bool) (marks n : ℕ) (i : List ℕ) (fs : List (List ℕ)) (room kind : ℕ) (kind-is : kind ≡ (form_of verb).rest) where
  abbrev by_kind : ℕ → Line
  by_kind k =
      cond (eqb k 6) (from_random fs room (line verb acceptor marks n i))
      (cond (eqb k 9) (items_then room [] (items_in fs) (line verb acceptor marks n i false))
      (front_then (fit room (rest_in k fs)) (line verb acceptor marks n i false no_elements)))

  from-rest-is : from_rest verb acceptor marks n i fs room ≡ by_kind kind
  unfolding from_rest
  from-rest-is = ap by_kind (sym kind-is)

  pub from-rest-extensions : kind ≡ 6 → (x : Line) → x ≡ from_random fs room (line verb acceptor marks n i)
      → x ≡ from_rest verb acceptor marks n i fs room
  from-rest-extensions h x e = e ∙ sym (from-rest-is ∙ rw h)

  pub from-rest-alerts : kind ≡ 9 → (x : Line) → x ≡ items_then room [] (items_in fs) (line verb acceptor marks n i false)
      → x ≡ from_rest verb acceptor marks n i fs room
  from-rest-alerts h x e = e ∙ sym (from-rest-is ∙ rw h)

  module _ (k : Option Kind) (k-is : kind ≡ kind_of k) where
    from-rest-octets : from_rest verb acceptor marks n i fs room
        ≡ front_then (fit room (rest_in (kind_of k) fs)) (line verb acceptor marks n i false no_elements)
    from-rest-octets = from-rest-is ∙ rw k-is (rw (ne_eqb _ _ (plain-kind k).0, ne_eqb _ _ (plain-kind k).1))

    pub from-rest-bad : bad ≡ fit room (rest_in (kind_of k) fs) → bad_line ≡ from_rest verb acceptor marks n i fs room
    from-rest-bad h = sym (from-rest-octets ∙ rw (← h))

    pub from-rest-good : (m : ℕ) (o : List ℕ) → front m o ≡ fit room (rest_in (kind_of k) fs) → (e : Elements) → e ≡ no_elements
        → line verb acceptor marks n i false e m o ≡ from_rest verb acceptor marks n i fs room
    from-rest-good m o h e e-is = rw e-is (sym (from-rest-octets ∙ rw (← h)))

module _ (verb : ℕ) (acceptor : Bool) (marks n : ℕ) (fs : List (List ℕ)) (room kind : ℕ) (kind-is : kind ≡ (form_of verb).id)
    (b : Bool) (b-is : b ≡ has_id kind acceptor) where
  from-id-is : from_id verb acceptor marks n fs room ≡ octets_then (id_in b fs) (λ i. from_rest verb acceptor marks n i (past b fs) room)
  unfolding from_id
  from-id-is = simp (sym kind-is, sym b-is)

  pub from-id-bad : none ≡ id_in b fs → bad_line ≡ from_id verb acceptor marks n fs room
  from-id-bad h = sym (from-id-is ∙ rw (← h))

  pub from-id-good : (i : List ℕ) → of i ≡ id_in b fs → (gs : List (List ℕ)) → gs ≡ past b fs → (x : Line)
      → x ≡ from_rest verb acceptor marks n i gs room → x ≡ from_id verb acceptor marks n fs room
  from-id-good i h gs e x x-is = x-is ∙ rw e (sym (from-id-is ∙ rw (← h)))

module _ (verb : ℕ) (acceptor : Bool) (marks : ℕ) (fs : List (List ℕ)) (room kind : ℕ) (kind-is : kind ≡ (form_of verb).number) where
  from-number-is : from_number verb acceptor marks fs room
      ≡ number_then (number_in kind fs) (λ n. from_id verb acceptor marks n (past (not (eqb kind 0)) fs) room)
  unfolding from_number
  from-number-is = simp (sym kind-is)

  pub from-number-bad : nothing ≡ number_in kind fs → bad_line ≡ from_number verb acceptor marks fs room
  from-number-bad h = sym (from-number-is ∙ rw (← h))

  pub from-number-good : (n : ℕ) → is n ≡ number_in kind fs → (b : Bool) → b ≡ not (eqb kind 0) → (gs : List (List ℕ)) → gs ≡ past b fs → (x : Line)
      → x ≡ from_id verb acceptor marks n gs room → x ≡ from_number verb acceptor marks fs room
  from-number-good n h b b-is gs e x x-is = x-is ∙ rw (e, b-is) (sym (from-number-is ∙ rw (← h)))

-- the places of words, in the words of the code
pub place_verbs : (w : List ℕ) → place_of w verbs
    ≡ cond (pointwise eqb w (quoted "offer")) 1
    (cond (pointwise eqb w (quoted "reply")) 2
    (cond (pointwise eqb w (quoted "metadata")) 3
    (cond (pointwise eqb w (quoted "exchange")) 4
    (cond (pointwise eqb w (quoted "verify")) 5
    (cond (pointwise eqb w (quoted "alert")) 6
    (cond (pointwise eqb w (quoted "read")) 7
    (cond (pointwise eqb w (quoted "choose")) 8 0)))))))
unfolding place_from fields_of
place_verbs w = simp compared

pub choose-or-none : (b : Bool) → 0 ≡ call_verb (cond b 8 0)
choose-or-none true = refl
choose-or-none false = refl

pub place_ends : (w : List ℕ) → place_of w ends ≡ cond (pointwise eqb w (quoted "i")) 1 (cond (pointwise eqb w (quoted "a")) 2 0)
unfolding place_from fields_of
place_ends w = simp compared

pub place_speeches : (w : List ℕ) → place_of w speeches
    ≡ cond (pointwise eqb w (quoted "exchange")) 1 (cond (pointwise eqb w (quoted "verify")) 2 (cond (pointwise eqb w (quoted "alert")) 3 0))
unfolding place_from fields_of
place_speeches w = simp compared

module _ (s : List ℕ) (from p : ℕ) where
  pub verb_more : from ≤ length s → verb_of p (fields_from s from) ≡ p
  unfolding verb_of
  verb_more h = rw (field_there s from h)

  pub verb_alone : length s < from → verb_of p (fields_from s from) ≡ cond (eqb p 7) 9 p
  unfolding verb_of
  verb_alone h = rw (past_none s from h)

-- `choose`, whatever stands behind it, and no other word
chosen-word : (fs : List (List ℕ)) → verb_of (place_of (quoted "choose") verbs) fs ≡ 8
unfolding verb_of place_from fields_of same_octets
chosen-word [] = refl
chosen-word (f ∷ fs) = refl

pub choose-verb : (w : List ℕ) (fs : List (List ℕ)) → pointwise eqb w (quoted "choose") ≡ true → verb_of (place_of w verbs) fs ≡ 8
choose-verb w fs h = rw (same-eq w (quoted "choose") (sym (compared w (quoted "choose")) ∙ h)) (chosen-word fs)

abbrev place_by : Bool → Bool → Bool → Bool → Bool → Bool → Bool → ℕ
place_by a b c d e f g = cond a 1 (cond b 2 (cond c 3 (cond d 4 (cond e 5 (cond f 6 (cond g 7 0))))))

no-choose : (a b c d e f g : Bool) (fs : List (List ℕ)) → call_verb (verb_of (place_by a b c d e f g) fs) ≡ verb_of (place_by a b c d e f g) fs
unfolding verb_of
no-choose true b c d e f g [] = refl
no-choose true b c d e f g (x ∷ fs) = refl
no-choose false true c d e f g [] = refl
no-choose false true c d e f g (x ∷ fs) = refl
no-choose false false true d e f g [] = refl
no-choose false false true d e f g (x ∷ fs) = refl
no-choose false false false true e f g [] = refl
no-choose false false false true e f g (x ∷ fs) = refl
no-choose false false false false true f g [] = refl
no-choose false false false false true f g (x ∷ fs) = refl
no-choose false false false false false true g [] = refl
no-choose false false false false false true g (x ∷ fs) = refl
no-choose false false false false false false true [] = refl
no-choose false false false false false false true (x ∷ fs) = refl
no-choose false false false false false false false [] = refl
no-choose false false false false false false false (x ∷ fs) = refl

pub other-verb : (w : List ℕ) (fs : List (List ℕ)) → pointwise eqb w (quoted "choose") ≡ false
    → call_verb (verb_of (place_of w verbs) fs) ≡ verb_of (place_of w verbs) fs
other-verb w fs h = rw (place_verbs w, h) (no-choose _ _ _ _ _ _ _ fs)

-- a verb and an end
verb-some : (v : Verb) → eqb (number_of_verb v) 0 ≡ false
verb-some call.Offer = refl
verb-some call.Reply = refl
verb-some call.Metadata = refl
verb-some call.Exchange = refl
verb-some call.Verify = refl
verb-some call.Alert = refl
verb-some call.Read = refl
verb-some call.Turn = refl
verb-some call.Open = refl
verb-some call.ChooseExchange = refl
verb-some call.ChooseVerify = refl
verb-some call.ChooseAlert = refl
verb-some call.Other = refl

called-some : (v : Verb) (a : Bool) (marks : ℕ) (fs : List (List ℕ)) (room : ℕ)
    → called (number_of_verb v) (number_of_end (Some a)) marks fs room ≡ from_number (number_of_verb v) a marks fs room
unfolding called
called-some v false marks fs room = rw (verb-some v)
called-some v true marks fs room = rw (verb-some v)

called-none : (a : Bool) (marks : ℕ) (fs : List (List ℕ)) (room : ℕ) → called 0 (number_of_end (Some a)) marks fs room ≡ bad_line
unfolding called
called-none false marks fs room = refl
called-none true marks fs room = refl

called-nowhere : (v marks : ℕ) (fs : List (List ℕ)) (room : ℕ) → called v 0 marks fs room ≡ bad_line
unfolding called
called-nowhere v marks fs room = refl

-- `choose`, from MARKS on
module _ (a : Bool) (fs : List (List ℕ)) (room : ℕ) where
  pub chosen-bad : nothing ≡ number_in 2 fs → bad_line ≡ chosen (number_of_end (Some a)) fs room
  unfolding chosen
  chosen-bad h = rw (← h)

  module _ (m : ℕ) (h : is m ≡ number_in 2 fs) (gs : List (List ℕ)) (gs-is : gs ≡ others fs) (w : List ℕ) (w-is : w ≡ first gs) where
    chosen-by : chosen (number_of_end (Some a)) fs room ≡ called (speech_verb (place_of w speeches)) (number_of_end (Some a)) m (others gs) room
    unfolding chosen
    chosen-by = rw (← h, w-is, gs-is)

    pub chosen-nothing : 0 ≡ speech_verb (place_of w speeches) → bad_line ≡ chosen (number_of_end (Some a)) fs room
    chosen-nothing v = sym (chosen-by ∙ rw (← v) (called-none a m (others gs) room))

    pub chosen-good : (u : Verb) → number_of_verb u ≡ speech_verb (place_of w speeches) → (hs : List (List ℕ)) → hs ≡ others gs → (x : Line)
        → x ≡ from_number (number_of_verb u) a m hs room → x ≡ chosen (number_of_end (Some a)) fs room
    chosen-good u v hs hs-is x e = e ∙ sym (chosen-by ∙ rw (← v, ← hs-is) (called-some u a m hs room))

chosen-nowhere : (fs : List (List ℕ)) (room : ℕ) → chosen 0 fs room ≡ bad_line
unfolding chosen
chosen-nowhere fs room = go (number_in 2 fs) where
  go : (x : Numeral) → number_then x (λ m. called (speech_verb (place_of (first (others fs)) speeches)) 0 m (others (others fs)) room) ≡ bad_line
  go (is m) = called-nowhere (speech_verb (place_of (first (others fs)) speeches)) m (others (others fs)) room
  go nothing = refl

not-eight : (v : Verb) → eqb (number_of_verb v) 8 ≡ false
not-eight call.Offer = refl
not-eight call.Reply = refl
not-eight call.Metadata = refl
not-eight call.Exchange = refl
not-eight call.Verify = refl
not-eight call.Alert = refl
not-eight call.Read = refl
not-eight call.Turn = refl
not-eight call.Open = refl
not-eight call.ChooseExchange = refl
not-eight call.ChooseVerify = refl
not-eight call.ChooseAlert = refl
not-eight call.Other = refl

-- the line of two fields and those behind them, of which the second may be missing
abbrev by_verb : ℕ → ℕ → List (List ℕ) → ℕ → Line
by_verb verb end fs room = cond (eqb verb 8) (chosen end fs room) (called verb end 0 fs room)

abbrev line_with : List ℕ → List (List ℕ) → ℕ → Line
line_with w fs room =
    cond (same_octets w (quoted "open"))
    (called 10 (place_of (first fs) ends) 0 (others fs) room)
    (by_verb (verb_of (place_of (first fs) verbs) (others fs)) (place_of w ends) (others fs) room)

either-bad : (b : Bool) → cond b bad_line bad_line ≡ bad_line
either-bad true = refl
either-bad false = refl

-- nothing is no end and no verb
no_end : (verb : ℕ) (fs : List (List ℕ)) (room : ℕ) → called verb (place_of [] ends) 0 fs room ≡ bad_line
unfolding called place_from fields_of same_octets
no_end verb fs room = refl

no-verb : (end room : ℕ) → by_verb (verb_of (place_of [] verbs) []) end [] room ≡ bad_line
unfolding called verb_of place_from fields_of same_octets
no-verb end room = either-bad (eqb end 0)

line-is : (w : List ℕ) (fs : List (List ℕ)) (room : ℕ) → fields_line (w ∷ fs) room ≡ line_with w fs room
unfolding fields_line
line-is w [] room = sym (rw (no_end 10 [] room, no-verb (place_of w ends) room) (either-bad (same_octets w (quoted "open"))))
line-is w (x ∷ fs) room = refl

module _ (s : List ℕ) (at from : ℕ) (at-is : fields_from s at ≡ others (fields_from s 0)) (from_is : fields_from s from ≡ others (fields_from s at))
    (w x : List ℕ) (w-is : w ≡ first (fields_from s 0)) (x-is : x ≡ first (fields_from s at)) (b : Bool) (b-is : b ≡ pointwise eqb w (quoted "open"))
    (room : ℕ) (l : Line) where
  command-is : command_of s room ≡ cond b (called 10 (place_of x ends) 0 (fields_from s from) room)
      (by_verb (verb_of (place_of x verbs) (fields_from s from)) (place_of w ends) (fields_from s from) room)
  unfolding command_of
  command-is =
      ap (λ (fs : List (List ℕ)). fields_line fs room) (sym (from_start s) ∙ field_there s 0 (omega arith))
      ∙ line-is (first (fields_from s 0)) (others (fields_from s 0)) room
      ∙ simp (b-is, compared, w-is, x-is, from_is, at-is)

  module _ (h : b ≡ true) where
    pub command-open-bad : 0 ≡ place_of x ends → bad_line ≡ command_of s room
    command-open-bad e = sym (command-is ∙ rw (h, ← e) (called-nowhere 10 0 (fields_from s from) room))

    pub command-open : (a : Bool) → number_of_end (Some a) ≡ place_of x ends → l ≡ from_number 10 a 0 (fields_from s from) room → l ≡ command_of s room
    command-open a e l-is = l-is ∙ sym (command-is ∙ rw (h, ← e) (called-some call.Open a 0 (fields_from s from) room))

  module _ (h : b ≡ false) where
    pub command-nowhere : 0 ≡ place_of w ends → bad_line ≡ command_of s room
    command-nowhere e =
        sym (command-is
        ∙ rw (h, ← e) (rw (
          chosen-nowhere (fields_from s from) room,
          called-nowhere (verb_of (place_of x verbs) (fields_from s from)) 0 (fields_from s from)
              room,
        )
        (either-bad (eqb (verb_of (place_of x verbs) (fields_from s from)) 8))))

    module _ (a : Bool) (e : number_of_end (Some a) ≡ place_of w ends) (o : Bool) (o-is : o ≡ pointwise eqb x (quoted "choose")) where
      pub command-choose : o ≡ true → l ≡ chosen (number_of_end (Some a)) (fields_from s from) room → l ≡ command_of s room
      command-choose z l-is = l-is ∙ sym (command-is ∙ rw (h, ← e, choose-verb x (fields_from s from) (sym o-is ∙ z)))

      module _ (z : o ≡ false) where
        same-verb : (n : ℕ) → n ≡ call_verb (verb_of (place_of x verbs) (fields_from s from)) → verb_of (place_of x verbs) (fields_from s from) ≡ n
        same-verb n v = sym (v ∙ other-verb x (fields_from s from) (sym o-is ∙ z))

        pub command-nothing : 0 ≡ call_verb (verb_of (place_of x verbs) (fields_from s from)) → bad_line ≡ command_of s room
        command-nothing v = sym (command-is ∙ rw (h, ← e, same-verb 0 v) (called-none a 0 (fields_from s from) room))

        pub command-call : (u : Verb) → number_of_verb u ≡ call_verb (verb_of (place_of x verbs) (fields_from s from))
            → l ≡ from_number (number_of_verb u) a 0 (fields_from s from) room → l ≡ command_of s room
        command-call u v l-is =
            l-is ∙ sym (command-is ∙ rw (h, ← e, same-verb (number_of_verb u) v) (rw (not-eight u) (called-some u a 0 (fields_from s from) room)))

pub ruleset commands = (command-open-bad, command-open, command-nowhere, command-choose, command-nothing, command-call)

pub ruleset choices = (chosen-bad, chosen-nothing, chosen-good)

pub ruleset pasts = (past-read, past-not)

pub ruleset from-rests = (form-rest, from-rest-extensions, from-rest-alerts, from-rest-bad, from-rest-good)

pub ruleset from-ids = (form-id, from-id-bad, from-id-good)

pub ruleset from-numbers = (form-number, some-kind, from-number-bad, from-number-good)
