-- What reading finds behind the header of a written message, a layout at a time: its content, zero pads, vectors that keep their rule, and what
-- they show.
-- Assumes nothing.
use Prim.Native.Nat.{ℕ, ◌+◌, ◌*◌, ◌/◌, ◌%◌, ◌<◌, ◌≤◌}
use mathlib.Core.Path.{◌≡◌, refl, ap, ◌∙◌}
use mathlib.Core.Bool.{true}
use mathlib.Core.List.{List, ◌∷◌, ◌++◌, append-nil}
use native.Mathlib.Omega.{arith}
use lib.ListN.{length, drop, length-append}
use lib.Signed.{mag}
use Rattle.octets.specs.Octets.{le, octets}
use Rattle.vector.specs.declared.Vector.{Vector}
use Rattle.vector.specs.Vector.{keeps_rule, part, shown}
use Rattle.vector.proofs.Rule.{inside-rule}
use Rattle.message.specs.Layout.{nego, exchange, verify, alert, pads_of, content_of, vectors_of, scheme_vector, extension_vector, exchange_vector, checksum_vector, alert_vector, elements_of}
use Rattle.message.specs.Check.{all_keep_rule}
use Rattle.message.specs.Show.{ids_of, schemes_in}
use Rattle.put.specs.Put.{unsigned32}
use Rattle.elements.specs.Elements.{offset_of, item_octets, items_fit}
use Rattle.elements.proofs.Views.{fit_small}
use Rattle.roundtrip.proofs.Arrays.{TypesFit, Reads, array-reads, offset-small}
use Rattle.encode.specs.declared.Heading.{Heading}
use Rattle.encode.specs.Encode.{Offer, Payload, Checksum, Alarm, Contents, of_nego, of_exchange, of_verify, of_alert, size_of, head_fields, body_fields, encoded}
use Rattle.roundtrip.specs.ReadBack.{placed_vector, content_read, Shows, pads_zero}
use Rattle.encode.proofs.Sizes.{length-encoded}
use Rattle.roundtrip.proofs.Fields.{zeros-le, number_at, octets-at, drop-joined, shown-field, behind_header, payload-rule, payload-shown, signed-shown, unsigned_small}

module _ (h : Heading) (id : length h.conversation ≡ 16) where
  abbrev fields : Contents → List (List ℕ)
  fields c = head_fields h (size_of c) ++ body_fields c

  -- the first field behind the common header
  first_field : (c : Contents) (x : List ℕ) (rest : List (List ℕ)) → body_fields c ≡ x ∷ rest → (n : ℕ) → length x ≡ n → octets n (encoded h c) 40 ≡ x
  unfolding encoded
  first_field c x rest e n w = octets-at 6 40 (fields c) (simp (length-append, id)) x rest e n w

  -- NEGO
  module _ (o : Offer) (whole : length o.random ≡ 32) (ids : length o.schemes % 16 ≡ 0) (count : length o.schemes ≤ 1048560)
      (fit : items_fit o.extensions ≡ true) where
    nego-random : octets 32 (encoded h (of_nego o)) 40 ≡ o.random
    nego-random = first_field (of_nego o) o.random _ refl 32 whole

    nego-version : le 8 (encoded h (of_nego o)) 72 ≡ 0
    unfolding encoded
    nego-version = number_at 7 72 (fields (of_nego o)) (simp (length-append, id, whole)) 8 0 _ refl (omega arith)

    nego-offset : le 4 (encoded h (of_nego o)) 80 ≡ 96
    unfolding encoded
    nego-offset = number_at 8 80 (fields (of_nego o)) (simp (length-append, id, whole)) 4 96 _ refl (omega arith)

    nego-count : le 2 (encoded h (of_nego o)) 84 ≡ length o.schemes / 16
    unfolding encoded
    nego-count = number_at 9 84 (fields (of_nego o)) (simp (length-append, id, whole)) 2 (length o.schemes / 16) _ refl (omega arith)

    nego-pad : le 2 (encoded h (of_nego o)) 86 ≡ 0
    unfolding encoded
    nego-pad = number_at 10 86 (fields (of_nego o)) (simp (length-append, id, whole)) 2 0 _ refl (omega arith)

    nego-extensions : le 4 (encoded h (of_nego o)) 88 ≡ offset_of (length o.extensions) (96 + length o.schemes)
    unfolding encoded
    nego-extensions =
        number_at 11 88 (fields (of_nego o)) (simp (length-append, id, whole)) 4 (offset_of (length o.extensions) (96 + length o.schemes)) _ refl
        (offset-small _ _ (omega arith))

    nego-many : le 2 (encoded h (of_nego o)) 92 ≡ length o.extensions
    unfolding encoded
    nego-many =
        let k =
        (fit_small o.extensions fit).few in
        number_at 12 92 (fields (of_nego o)) (simp (length-append, id, whole)) 2 (length o.extensions) _ refl (omega arith)

    nego-behind : drop (96 + length o.schemes) (encoded h (of_nego o)) ≡ item_octets (96 + length o.schemes) o.extensions
    unfolding encoded
    nego-behind = drop-joined 15 (fields (of_nego o)) (96 + length o.schemes) (simp (length-append, id, whole) (omega arith)) ∙ append-nil _

    nego-length : length (encoded h (of_nego o)) ≡ size_of (of_nego o)
    nego-length = length-encoded h id (of_nego o) whole

    nego-vector : extension_vector (encoded h (of_nego o)) ≡ placed_vector 12 (96 + length o.schemes) (length o.extensions)
    nego-vector = simp (nego-extensions, nego-many)

    nego-pad-2 : le 2 (encoded h (of_nego o)) 94 ≡ 0
    unfolding encoded
    nego-pad-2 = number_at 13 94 (fields (of_nego o)) (simp (length-append, id, whole)) 2 0 _ refl (omega arith)

    nego-scheme-vector : scheme_vector (encoded h (of_nego o)) ≡ behind_header 16 96 (length o.schemes / 16)
    nego-scheme-vector = simp (nego-offset, nego-count)

    pub nego-pads : pads_zero (encoded h (of_nego o)) (pads_of nego) ≡ true
    unfolding pads_zero
    nego-pads = simp (zeros-le 2 (encoded h (of_nego o)) 86, zeros-le 2 (encoded h (of_nego o)) 94, nego-pad, nego-pad-2)

    nego-schemes : octets (length o.schemes) (encoded h (of_nego o)) 96 ≡ o.schemes
    unfolding encoded
    nego-schemes = octets-at 14 96 (fields (of_nego o)) (simp (length-append, id, whole)) o.schemes _ refl (length o.schemes) refl

    counted : length o.schemes / 16 * 16 ≡ length o.schemes
    counted = omega arith

    nego-schemes-rule : keeps_rule 96 (size_of (of_nego o)) (behind_header 16 96 (length o.schemes / 16)) ≡ true
    nego-schemes-rule = inside-rule _ _ _ (record { behind = omega arith; before = omega arith })

    -- the schemes show whatever the extensions' types are
    pub nego-listed : (shown 96 (encoded h (of_nego o)) (scheme_vector (encoded h (of_nego o))) ≡ o.schemes)
        × (schemes_in (encoded h (of_nego o)) ≡ ids_of o.schemes)
    unfolding schemes_in
    nego-listed =
        let e : shown 96 (encoded h (of_nego o)) (scheme_vector (encoded h (of_nego o))) ≡ o.schemes =
        rw nego-scheme-vector
        (shown-field 96 (encoded h (of_nego o)) o.schemes (behind_header 16 96 (length o.schemes / 16)) (rw nego-length nego-schemes-rule)
        (rw counted nego-schemes)) in
        (e, ap ids_of e)

    module _ (types : TypesFit o.extensions) where
      nego-reads : Reads 96 (encoded h (of_nego o)) (96 + length o.schemes) o.extensions
      nego-reads =
          let k = (fit_small o.extensions fit).size in
          let n = nego-length in
          array-reads 96 (encoded h (of_nego o)) (96 + length o.schemes) o.extensions (omega arith) nego-behind n (omega arith) types

      pub nego-content : content_of nego (encoded h (of_nego o)) ≡ content_read (of_nego o)
      unfolding content_of
      nego-content =
          let a = nego-random in
          let b = nego-version in
          let s = nego-scheme-vector in
          let v = nego-vector in
          let e = ap (λ (v : Vector). elements_of (part (encoded h (of_nego o)) v)) nego-vector ∙ nego-reads.elements in
          cc

      pub nego-rules : all_keep_rule 96 (size_of (of_nego o)) (vectors_of (content_read (of_nego o))) ≡ true
      unfolding all_keep_rule vectors_of
      nego-rules =
          let a = rw nego-length at nego-reads.array in
          let r = rw nego-length at nego-reads.rules in
          rw (nego-schemes-rule, a) r

      pub nego-shows : Shows (of_nego o) (encoded h (of_nego o))
      nego-shows = (nego-listed.0, (nego-listed.1, rw nego-vector nego-reads.shows))

  -- the messages of header 64
  module _ (p : Payload) (whole : length p.scheme ≡ 16) (size : length p.value ≤ 4294967231) where
    exchange-scheme : octets 16 (encoded h (of_exchange p)) 40 ≡ p.scheme
    exchange-scheme = first_field (of_exchange p) p.scheme _ refl 16 whole

    exchange-offset : le 4 (encoded h (of_exchange p)) 56 ≡ 64
    unfolding encoded
    exchange-offset = number_at 7 56 (fields (of_exchange p)) (simp (length-append, id, whole)) 4 64 _ refl (omega arith)

    exchange-length : le 4 (encoded h (of_exchange p)) 60 ≡ length p.value
    unfolding encoded
    exchange-length = number_at 8 60 (fields (of_exchange p)) (simp (length-append, id, whole)) 4 (length p.value) _ refl (omega arith)

    exchange-value : octets (length p.value) (encoded h (of_exchange p)) 64 ≡ p.value
    unfolding encoded
    exchange-value = octets-at 9 64 (fields (of_exchange p)) (simp (length-append, id, whole)) p.value _ refl (length p.value) refl

    pub exchange-content : content_of exchange (encoded h (of_exchange p)) ≡ content_read (of_exchange p)
    unfolding content_of
    exchange-content = simp (exchange-scheme, exchange-offset, exchange-length)

    pub exchange-pads : pads_zero (encoded h (of_exchange p)) (pads_of exchange) ≡ true
    unfolding pads_zero
    exchange-pads = refl

    pub exchange-rules : all_keep_rule 64 (size_of (of_exchange p)) (vectors_of (content_read (of_exchange p))) ≡ true
    unfolding all_keep_rule vectors_of
    exchange-rules = rw (payload-rule 1 64 (length p.value) p.value (omega arith))

    pub exchange-shows : Shows (of_exchange p) (encoded h (of_exchange p))
    exchange-shows =
        let v : exchange_vector (encoded h (of_exchange p)) ≡ behind_header 1 64 (length p.value) = simp (exchange-offset, exchange-length) in
        rw v (payload-shown 1 64 (length p.value) p.value (omega arith) (encoded h (of_exchange p))
        (length-encoded h id (of_exchange p) whole) exchange-value)

  -- VERIFY
  module _ (k : Checksum) (whole : length k.scheme ≡ 16) (range : mag k.type < 2147483648) (size : length k.value ≤ 4294967215) where
    verify-scheme : octets 16 (encoded h (of_verify k)) 40 ≡ k.scheme
    verify-scheme = first_field (of_verify k) k.scheme _ refl 16 whole

    verify-header : le 4 (encoded h (of_verify k)) 56 ≡ 20
    unfolding encoded
    verify-header = number_at 7 56 (fields (of_verify k)) (simp (length-append, id, whole)) 4 20 _ refl (omega arith)

    verify-checksum : le 4 (encoded h (of_verify k)) 60 ≡ 1
    unfolding encoded
    verify-checksum = number_at 8 60 (fields (of_verify k)) (simp (length-append, id, whole)) 4 1 _ refl (omega arith)

    verify-type : le 4 (encoded h (of_verify k)) 64 ≡ unsigned32 k.type
    unfolding encoded
    verify-type =
        number_at 9 64 (fields (of_verify k)) (simp (length-append, id, whole)) 4 (unsigned32 k.type) _ refl (unsigned_small k.type range)

    verify-offset : le 4 (encoded h (of_verify k)) 68 ≡ 80
    unfolding encoded
    verify-offset = number_at 10 68 (fields (of_verify k)) (simp (length-append, id, whole)) 4 80 _ refl (omega arith)

    verify-length : le 4 (encoded h (of_verify k)) 72 ≡ length k.value
    unfolding encoded
    verify-length = number_at 11 72 (fields (of_verify k)) (simp (length-append, id, whole)) 4 (length k.value) _ refl (omega arith)

    verify-pad : le 4 (encoded h (of_verify k)) 76 ≡ 0
    unfolding encoded
    verify-pad = number_at 12 76 (fields (of_verify k)) (simp (length-append, id, whole)) 4 0 _ refl (omega arith)

    verify-value : octets (length k.value) (encoded h (of_verify k)) 80 ≡ k.value
    unfolding encoded
    verify-value = octets-at 13 80 (fields (of_verify k)) (simp (length-append, id, whole)) k.value _ refl (length k.value) refl

    pub verify-content : content_of verify (encoded h (of_verify k)) ≡ content_read (of_verify k)
    unfolding content_of
    verify-content = simp (verify-scheme, verify-header, verify-checksum, verify-type, verify-offset, verify-length)

    pub verify-pads : pads_zero (encoded h (of_verify k)) (pads_of verify) ≡ true
    unfolding pads_zero
    verify-pads = simp (zeros-le 4 (encoded h (of_verify k)) 76, verify-pad)

    pub verify-rules : all_keep_rule 80 (size_of (of_verify k)) (vectors_of (content_read (of_verify k))) ≡ true
    unfolding all_keep_rule vectors_of
    verify-rules = rw (payload-rule 1 80 (length k.value) k.value (omega arith))

    pub verify-shows : Shows (of_verify k) (encoded h (of_verify k))
    verify-shows =
        let v : checksum_vector (encoded h (of_verify k)) ≡ behind_header 1 80 (length k.value) = simp (verify-offset, verify-length) in (
          rw v (payload-shown 1 80 (length k.value) k.value (omega arith) (encoded h (of_verify k))
              (length-encoded h id (of_verify k) whole) verify-value),
          signed-shown 80 _ 64 k.type
              (omega (arith, length-encoded h id (of_verify k) whole)) verify-type range,
        )

  -- ALERT
  module _ (p : Alarm) (whole : length p.scheme ≡ 16) (range : mag p.code < 2147483648) (fit : items_fit p.alerts ≡ true)
      (types : TypesFit p.alerts) where
    alert-scheme : octets 16 (encoded h (of_alert p)) 40 ≡ p.scheme
    alert-scheme = first_field (of_alert p) p.scheme _ refl 16 whole

    alert-code : le 4 (encoded h (of_alert p)) 56 ≡ unsigned32 p.code
    unfolding encoded
    alert-code =
        number_at 7 56 (fields (of_alert p)) (simp (length-append, id, whole)) 4 (unsigned32 p.code) _ refl (unsigned_small p.code range)

    alert-offset : le 4 (encoded h (of_alert p)) 60 ≡ offset_of (length p.alerts) 72
    unfolding encoded
    alert-offset =
        number_at 8 60 (fields (of_alert p)) (simp (length-append, id, whole)) 4 (offset_of (length p.alerts) 72) _ refl
        (offset-small _ _ (omega arith))

    alert-count : le 2 (encoded h (of_alert p)) 64 ≡ length p.alerts
    unfolding encoded
    alert-count =
        let k =
        (fit_small p.alerts fit).few in
        number_at 9 64 (fields (of_alert p)) (simp (length-append, id, whole)) 2 (length p.alerts) _ refl (omega arith)

    alert-pad : le 2 (encoded h (of_alert p)) 66 ≡ 0
    unfolding encoded
    alert-pad = number_at 10 66 (fields (of_alert p)) (simp (length-append, id, whole)) 2 0 _ refl (omega arith)

    alert-pad-2 : le 4 (encoded h (of_alert p)) 68 ≡ 0
    unfolding encoded
    alert-pad-2 = number_at 11 68 (fields (of_alert p)) (simp (length-append, id, whole)) 4 0 _ refl (omega arith)

    alert-behind : drop 72 (encoded h (of_alert p)) ≡ item_octets 72 p.alerts
    unfolding encoded
    alert-behind = drop-joined 12 (fields (of_alert p)) 72 (simp (length-append, id, whole)) ∙ append-nil _

    alert-length : length (encoded h (of_alert p)) ≡ size_of (of_alert p)
    alert-length = length-encoded h id (of_alert p) whole

    alert-reads : Reads 72 (encoded h (of_alert p)) 72 p.alerts
    alert-reads =
        let k = (fit_small p.alerts fit).size in
        let n = alert-length in
        array-reads 72 (encoded h (of_alert p)) 72 p.alerts (omega arith) alert-behind n (omega arith) types

    alert-vector : alert_vector (encoded h (of_alert p)) ≡ placed_vector 12 72 (length p.alerts)
    alert-vector = simp (alert-offset, alert-count)

    pub alert-content : content_of alert (encoded h (of_alert p)) ≡ content_read (of_alert p)
    unfolding content_of
    alert-content =
        let a = alert-scheme in
        let b = alert-code in
        let v = alert-vector in
        let e = ap (λ (v : Vector). elements_of (part (encoded h (of_alert p)) v)) alert-vector ∙ alert-reads.elements in
        cc

    pub alert-pads : pads_zero (encoded h (of_alert p)) (pads_of alert) ≡ true
    unfolding pads_zero
    alert-pads = simp (zeros-le 2 (encoded h (of_alert p)) 66, zeros-le 4 (encoded h (of_alert p)) 68, alert-pad, alert-pad-2)

    pub alert-rules : all_keep_rule 72 (size_of (of_alert p)) (vectors_of (content_read (of_alert p))) ≡ true
    unfolding all_keep_rule vectors_of
    alert-rules =
        let a = rw alert-length at alert-reads.array in
        let r = rw alert-length at alert-reads.rules in
        rw a r

    pub alert-shows : Shows (of_alert p) (encoded h (of_alert p))
    alert-shows = (rw alert-vector alert-reads.shows, signed-shown 72 _ 56 p.code (omega (arith, alert-length)) alert-code range)
