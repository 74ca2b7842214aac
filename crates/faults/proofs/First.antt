-- The field at fault is the first whose test fails.
-- Assumes nothing.
use Prim.Native.Nat.{ℕ, ◌+◌, ◌*◌, ◌<◌, ◌≤◌}
use mathlib.Core.Path.{◌≡◌, refl, sym, ap, subst, ◌∙◌}
use mathlib.Core.Bool.{Bool, true, false, cond, not, ◌&&◌}
use mathlib.Core.Logic.{inl, inr}
use mathlib.Core.List.{List, [], ◌∷◌, ◌++◌}
use native.Mathlib.Omega.{arith}
use lib.ListN.{length, drop}
use lib.Seq.{length-take-le, take-take, drop_at}
use lib.Dec.{eqb}
use borrow.Author.Tests.{le-leb, lt-ltb}
use Rattle.octets.proofs.Bools.{which, no_true, and_l, and_r}
use Rattle.octets.specs.Octets.{le, signed32, negative}
use Rattle.vector.specs.declared.Vector.{Vector}
use Rattle.vector.specs.Vector.{keeps_rule, part, shown}
use Rattle.message.specs.Layout.{Shape, nego, exchange, verify, alert, shape_of, header_of, Head, head_of, Element, elements_of, values_of, scheme_vector, extension_vector, content_of, vectors_of, size, front}
use Rattle.message.specs.Check.{FirstFails, common_rows, all_pass, all_keep_rule, none_critical, content_rows, body_rows, front_rows}
use Rattle.message.specs.Show.{first_of}
use Rattle.message.proofs.Tables.{giving}
use Rattle.message.proofs.Headers.{common-sized}
use Rattle.message.proofs.Local.{head-front}
use Rattle.token.specs.Token.{order_rows, next_rows}
use Rattle.token.specs.Split.{join}
use Rattle.token.proofs.Splits.{refused-stops}
use Rattle.coverage.specs.Coverage.{header_in, vectors_in}
use Rattle.faults.specs.declared.Spot.{Spot}
use Rattle.faults.specs.Faults.{spot, no_spot, first_broken, broken_in, vector_spot, broken_spot, first_critical, critical_spot, checksum_spot, spot_of}
use Rattle.faults.specs.Claims.{Check, common_checks, order_checks, vector_checks, critical_checks, content_checks, checks_of, FirstCheck, FaultFirst}
use Rattle.faults.proofs.Spots.{at-number}

-- ---- lists of checks
-- those of vectors that all keep their rule pass
vectors-pass : (shape : Shape) (len : ℕ) (m : List ℕ) (vs : List Vector) (k n : ℕ) (x : Spot) (cs : List Check)
    → all_keep_rule (header_of shape) len vs ≡ true → FirstCheck n x cs → FirstCheck n x (vector_checks shape len m vs k ++ cs)
unfolding vector_checks all_keep_rule
vectors-pass shape len m [] k n x cs e f = f
vectors-pass shape len m (v ∷ vs) k n x cs e f =
    inr (
      and_l (keeps_rule (header_of shape) len v) (all_keep_rule (header_of shape) len vs) e,
      vectors-pass shape len m vs (k + 1) n x cs
          (and_r (keeps_rule (header_of shape) len v) (all_keep_rule (header_of shape) len vs) e) f,
    )

-- and where one breaks it, the first that does is found
vectors-fail : (shape : Shape) (len : ℕ) (m : List ℕ) (vs : List Vector) (k : ℕ) (cs : List Check) → all_keep_rule (header_of shape) len vs ≡ false
    → FirstCheck 11 (vector_spot shape m (first_broken (header_of shape) len vs k)) (vector_checks shape len m vs k ++ cs)
unfolding vector_checks all_keep_rule first_broken
vectors-fail shape len m [] k cs e = absurd (no e) where
  no : true ≡ false → ⊥
  no p = let z : ◌≡◌ {A = ℕ} 0 1 = cc in omega arith
vectors-fail shape len m (v ∷ vs) k cs e = elim (which (keeps_rule (header_of shape) len v)) [
  | inl t ↦ inr (
    t,
    subst
        (λ (b : Bool). FirstCheck 11 (vector_spot shape m (cond b (first_broken (header_of shape) len vs (k + 1)) k))
        (vector_checks shape len m vs (k + 1) ++ cs)) (sym t)
        (vectors-fail shape len m vs (k + 1) cs (sym (ap (λ (b : Bool). b && all_keep_rule (header_of shape) len vs) t) ∙ e)),
  )
  | inr t ↦ inl (t, (refl, sym (ap (λ (b : Bool). vector_spot shape m (cond b (first_broken (header_of shape) len vs (k + 1)) k)) t)))
]

pub broken-few : (header len : ℕ) (vs : List Vector) (k : ℕ) → all_keep_rule header len vs ≡ false → first_broken header len vs k < k + length vs
unfolding all_keep_rule first_broken
broken-few header len [] k e = absurd (no e) where
  no : true ≡ false → ⊥
  no p = let z : ◌≡◌ {A = ℕ} 0 1 = cc in omega arith
broken-few header len (v ∷ vs) k e = elim (which (keeps_rule header len v)) [
  | inl t ↦ rw t (let a = broken-few header len vs (k + 1) (sym (ap (λ (b : Bool). b && all_keep_rule header len vs) t) ∙ e) in omega arith)
  | inr t ↦ rw t (omega arith)
]

criticals-fail : (m : List ℕ) (es : List Element) (k : ℕ) → none_critical es ≡ false
    → FirstCheck 12 (spot 27 (first_critical es k) ((extension_vector m).offset.0 + 12 * first_critical es k) 4) (critical_checks m es k)
unfolding critical_checks none_critical first_critical
criticals-fail m [] k e = absurd (no e) where
  no : true ≡ false → ⊥
  no p = let z : ◌≡◌ {A = ℕ} 0 1 = cc in omega arith
criticals-fail m (x ∷ es) k e = elim (which (not (negative (signed32 x.type)))) [
  | inl t ↦ inr (
    t,
    subst
        (λ (b : Bool). FirstCheck 12
        (spot 27 (cond b (first_critical es (k + 1)) k) ((extension_vector m).offset.0 + 12 * cond b (first_critical es (k + 1)) k) 4)
        (critical_checks m es (k + 1))) (sym t) (criticals-fail m es (k + 1) (sym (ap (λ (b : Bool). b && none_critical es) t) ∙ e)),
  )
  | inr t ↦ inl (
    t,
    (
      refl,
      sym
          (ap (λ (b : Bool). spot 27 (cond b (first_critical es (k + 1)) k) ((extension_vector m).offset.0 + 12 * cond b (first_critical es (k + 1)) k) 4)
          t),
    ),
  )
]

-- a check list with nothing behind it
behind-none : (n : ℕ) (x : Spot) (cs : List Check) → FirstCheck n x (cs ++ []) → FirstCheck n x cs
behind-none n x [] f = f
behind-none n x (c ∷ cs) (inl a) = inl a
behind-none n x (c ∷ cs) (inr (t, f)) = inr (t, behind-none n x cs f)

-- ---- a message whose header has passed
module _ (m : List ℕ) (shape : Shape) (is : shape_of (head_of m).kind ≡ shape) (room : header_of shape ≤ length m) where
  own-vectors : vectors_in m ≡ vectors_of (content_of shape m)
  unfolding vectors_in
  own-vectors =
      let h : header_in m ≤ length m =
      subst (λ (x : Shape). header_of x ≤ length m) (sym is) room in (rw (le-leb _ _ h) refl) ∙ ap (λ (x : Shape). vectors_of (content_of x m)) is

  pub broken-is : all_keep_rule (header_of shape) (length m) (vectors_of (content_of shape m)) ≡ false
      → vector_spot shape m (first_broken (header_of shape) (length m) (vectors_of (content_of shape m)) 0) ≡ broken_spot m
  unfolding broken_spot
  broken-is e =
      let b : broken_in m ≡ first_broken (header_of shape) (length m) (vectors_of (content_of shape m)) 0 =
      ap (λ (x : Shape). first_broken (header_of x) (length m) (vectors_in m) 0) is
      ∙ ap (λ (vs : List Vector). first_broken (header_of shape) (length m) vs 0) own-vectors in
      let few : broken_in m < length (vectors_in m) =
      omega (arith, b, ap length own-vectors, broken-few (header_of shape) (length m) (vectors_of (content_of shape m)) 0 e) in
      sym (
      ap (λ (c : Bool). cond c (vector_spot (shape_of (head_of m).kind) m (broken_in m)) no_spot) (lt-ltb _ _ few)
      ∙ ap (λ (x : Shape). vector_spot x m (broken_in m)) is
      ∙ ap (vector_spot shape m) b
      )

  pub vector_fault : (n : ℕ) → 11 ≡ n → all_keep_rule (header_of shape) (length m) (vectors_of (content_of shape m)) ≡ false → (cs : List Check)
      → FirstCheck n (spot_of n m) (vector_checks shape (length m) m (vectors_of (content_of shape m)) 0 ++ cs)
  unfolding spot_of
  vector_fault n e f cs =
      subst (λ (k : ℕ). FirstCheck k (spot_of k m) (vector_checks shape (length m) m (vectors_of (content_of shape m)) 0 ++ cs)) e
      (subst (λ (x : Spot). FirstCheck 11 x (vector_checks shape (length m) m (vectors_of (content_of shape m)) 0 ++ cs)) (broken-is f)
      (vectors-fail shape (length m) m (vectors_of (content_of shape m)) 0 cs f))

-- the rule of a NEGO's extension vector, which stands second
pub second-keeps : (m : List ℕ) → all_keep_rule 96 (length m) (vectors_of (content_of nego m)) ≡ true → keeps_rule 96 (length m) (extension_vector m) ≡ true
unfolding vectors_of content_of all_keep_rule
second-keeps m e =
    let vs = values_of (elements_of (part m (extension_vector m))) in
    let rest : (keeps_rule 96 (length m) (extension_vector m) && all_keep_rule 96 (length m) vs) ≡ true =
    and_r (keeps_rule 96 (length m) (scheme_vector m)) (keeps_rule 96 (length m) (extension_vector m) && all_keep_rule 96 (length m) vs) e in
    and_l (keeps_rule 96 (length m) (extension_vector m)) (all_keep_rule 96 (length m) vs) rest

pub critical-is : (m : List ℕ) → 96 ≤ length m → keeps_rule 96 (length m) (extension_vector m) ≡ true
    → spot 27 (first_critical (elements_of (part m (extension_vector m))) 0)
    ((extension_vector m).offset.0 + 12 * first_critical (elements_of (part m (extension_vector m))) 0) 4 ≡ critical_spot m
unfolding critical_spot shown
critical-is m h e = sym (simp (le-leb _ _ h, e))

pub checksum-header-is : (m : List ℕ) → 80 ≤ length m → eqb (le 4 m 56) 20 ≡ false → spot 13 0 56 4 ≡ checksum_spot m
unfolding checksum_spot
checksum-header-is m h e = sym (simp (le-leb _ _ h, e))

pub checksum-scheme-is : (m : List ℕ) → 80 ≤ length m → eqb (le 4 m 56) 20 ≡ true → spot 14 0 60 4 ≡ checksum_spot m
unfolding checksum_spot
checksum-scheme-is m h e = sym (simp (le-leb _ _ h, e))

content-fault : (m : List ℕ) (shape : Shape) → shape_of (head_of m).kind ≡ shape → header_of shape ≤ length m → (n : ℕ)
    → FirstFails n (content_rows (header_of shape) (length m) (content_of shape m)) → FirstCheck n (spot_of n m) (content_checks shape (length m) m)
unfolding content_rows content_checks content_of spot_of
content-fault m nego is room n f = elim f [
  | inl a ↦ inl (a.0, (a.1, at-number n m (spot 8 0 72 8) 10 (sym a.1) refl))
  | inr a ↦ inr (
    a.0,
    elim a.1 [
      | inl b ↦ vector_fault m nego is room n b.1 b.0 (critical_checks m (elements_of (part m (extension_vector m))) 0)
      | inr b ↦ elim b.1 [
        | inl c ↦ vectors-pass nego (length m) m (vectors_of (content_of nego m)) 0 n (spot_of n m)
            (critical_checks m (elements_of (part m (extension_vector m))) 0) b.0
            (subst (λ (k : ℕ). FirstCheck k (spot_of k m) (critical_checks m (elements_of (part m (extension_vector m))) 0)) c.1
            (subst (λ (x : Spot). FirstCheck 12 x (critical_checks m (elements_of (part m (extension_vector m))) 0))
            (critical-is m room (second-keeps m b.0))
            (criticals-fail m (elements_of (part m (extension_vector m))) 0 c.0)))
        | inr c ↦ elim c.1 [ inl d ↦ no_true (sym d.0) | inr d ↦ absurd d.1 ]
      ]
    ],
  )
]
content-fault m exchange is room n f = elim f [
  | inl a ↦ no_true (sym a.0)
  | inr a ↦ elim a.1 [
    | inl b ↦ behind-none n (spot_of n m) (vector_checks exchange (length m) m (vectors_of (content_of exchange m)) 0)
        (vector_fault m exchange is room n b.1 b.0 [])
    | inr b ↦ elim b.1 [
      | inl c ↦ no_true (sym c.0)
      | inr c ↦ elim c.1 [ inl d ↦ no_true (sym d.0) | inr d ↦ absurd d.1 ]
    ]
  ]
]
content-fault m verify is room n f = elim f [
  | inl a ↦ no_true (sym a.0)
  | inr a ↦ elim a.1 [
    | inl b ↦ vector_fault m verify is room n b.1 b.0 _
    | inr b ↦ elim b.1 [
      | inl c ↦ no_true (sym c.0)
      | inr c ↦ elim c.1 [
        | inl d ↦ vectors-pass verify (length m) m (vectors_of (content_of verify m)) 0 n (spot_of n m) _ b.0 (elim (which (eqb (le 4 m 56) 20)) [
          | inl t ↦ inr (
            t,
            inl (
              sym (ap (λ (x : Bool). x && eqb (le 4 m 60) 1) t)
                  ∙ d.0,
              (d.1, at-number n m (spot 14 0 60 4) 13 (sym d.1) (checksum-scheme-is m room t)),
            ),
          )
          | inr t ↦ inl (t, (d.1, at-number n m (spot 13 0 56 4) 13 (sym d.1) (checksum-header-is m room t)))
        ])
        | inr d ↦ absurd d.1
      ]
    ]
  ]
]
content-fault m alert is room n f = elim f [
  | inl a ↦ no_true (sym a.0)
  | inr a ↦ elim a.1 [
    | inl b ↦ behind-none n (spot_of n m) (vector_checks alert (length m) m (vectors_of (content_of alert m)) 0)
        (vector_fault m alert is room n b.1 b.0 [])
    | inr b ↦ elim b.1 [
      | inl c ↦ no_true (sym c.0)
      | inr c ↦ elim c.1 [ inl d ↦ no_true (sym d.0) | inr d ↦ absurd d.1 ]
    ]
  ]
]

-- ---- the message at the front of s
body-fault : (s : List ℕ) (n : ℕ) → all_pass (common_rows (length s) (head_of s)) ≡ true → FirstFails n (front_rows s)
    → FirstCheck n (spot_of n (first_of s)) (content_checks (shape_of (head_of s).kind) (size s) (front s))
unfolding front_rows body_rows first_of
body-fault s n ok f =
    let z = common-sized (length s) (head_of s) ok in
    let long : length (front s) ≡ size s = length-take-le (size s) s z.within in
    let head : head_of (front s) ≡ head_of s = head-front s (front s) ok (omega arith) (take-take (size s) (size s) s (omega arith)) in
    let is : shape_of (head_of (front s)).kind ≡ shape_of (head_of s).kind = ap (λ (h : Head). shape_of h.kind) head in
    let first : first_of s ≡ front s = simp (le-leb _ _ z.forty, le-leb _ _ z.within) in
    let found : FirstCheck n (spot_of n (front s)) (content_checks (shape_of (head_of s).kind) (length (front s)) (front s)) =
    content-fault (front s) (shape_of (head_of s).kind) is (omega (arith, z.header, z.holds)) n
    (subst (λ (k : ℕ). FirstFails n (content_rows (header_of (shape_of (head_of s).kind)) k (content_of (shape_of (head_of s).kind) (front s))))
    (sym long) f) in
    subst (λ (l : List ℕ). FirstCheck n (spot_of n l) (content_checks (shape_of (head_of s).kind) (size s) (front s))) (sym first)
    (subst (λ (k : ℕ). FirstCheck n (spot_of n (front s)) (content_checks (shape_of (head_of s).kind) k (front s))) long found)

front-fault : (s : List ℕ) (q : ℕ) (v : List ℕ) (n : ℕ) → FirstFails n (next_rows s q v) → FirstCheck n (spot_of n (first_of s)) (checks_of s q v)
unfolding next_rows common_rows order_rows checks_of common_checks order_checks spot_of
front-fault s q v n f = elim f [
  | inl a ↦ inl (a.0, (a.1, at-number n (first_of s) no_spot 2 (sym a.1) refl))
  | inr a ↦ inr (
    a.0,
    elim a.1 [
      | inl b ↦ inl (b.0, (b.1, at-number n (first_of s) (spot 1 0 0 8) 3 (sym b.1) refl))
      | inr b ↦ inr (
        b.0,
        elim b.1 [
          | inl c ↦ inl (c.0, (c.1, at-number n (first_of s) (spot 2 0 8 4) 4 (sym c.1) refl))
          | inr c ↦ inr (
            c.0,
            elim c.1 [
              | inl d ↦ inl (d.0, (d.1, at-number n (first_of s) (spot 4 0 16 4) 5 (sym d.1) refl))
              | inr d ↦ inr (
                d.0,
                elim d.1 [
                  | inl e ↦ inl (e.0, (e.1, at-number n (first_of s) (spot 5 0 20 4) 6 (sym e.1) refl))
                  | inr e ↦ inr (
                    e.0,
                    elim e.1 [
                      | inl g ↦ inl (g.0, (g.1, at-number n (first_of s) (spot 5 0 20 4) 6 (sym g.1) refl))
                      | inr g ↦ inr (
                        g.0,
                        elim g.1 [
                          | inl h ↦ inl (h.0, (h.1, at-number n (first_of s) (spot 3 0 12 4) 7 (sym h.1) refl))
                          | inr h ↦ inr (
                            h.0,
                            elim h.1 [
                              | inl i ↦ inl (i.0, (i.1, at-number n (first_of s) (spot 6 0 24 16) 8 (sym i.1) refl))
                              | inr i ↦ inr (
                                i.0,
                                body-fault s n (giving (common_rows (length s) (head_of s)) (a.0, (b.0, (c.0, (d.0, (e.0, (g.0, tt)))))))
                                    i.1,
                              )
                            ],
                          )
                        ],
                      )
                    ],
                  )
                ],
              )
            ],
          )
        ],
      )
    ],
  )
]

pub fault-first : FaultFirst
fault-first s n p e some short = elim (refused-stops s n p e) [
  | inl a ↦ absurd (omega (arith, a))
  | inr a ↦ elim a [
    | inl b ↦ absurd (omega (arith, b))
    | inr b ↦
        let (ms, (rest, stop)) = b in
        let left : rest ≡ drop p s = sym (ap (drop p) (sym stop.joins) ∙ drop_at (join ms) rest p (sym stop.place)) in (
          (head_of s).sequence + length ms,
          (
            (head_of s).conversation,
            subst (λ (l : List ℕ). FirstCheck n (spot_of n (first_of l)) (checks_of l ((head_of s).sequence + length ms) (head_of s).conversation)) left
                (front-fault rest ((head_of s).sequence + length ms) (head_of s).conversation n stop.first),
          ),
        )
  ]
]
