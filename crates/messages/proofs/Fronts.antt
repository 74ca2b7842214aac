-- The message at the front is no longer than what it is the front of. Assumes nothing.
use Rattle.std.proofs.Common.{ℕ, ◌≡◌, ◌+◌, ◌-◌, ◌<◌, ◌≤◌, List, ap, [], length, take, drop, cond, leb, Bool, true, false, arith, length-take, length-drop}
use Rattle.message.specs.Layout.{size, front}
use Rattle.message.specs.Show.{first_of}

part_within : (s : List ℕ) (a b : Bool) → length (cond a (cond b (front s) []) []) ≤ length s
part_within s true true = omega (arith, length-take (size s) s)
part_within s true false = omega arith
part_within s false b = omega arith

pub front_within : (s m : List ℕ) → m ≡ first_of s → length m ≤ length s
unfolding first_of
front_within s m e = omega (arith, ap length e, part_within s (leb 40 (length s)) (leb (size s) (length s)))

-- what is left behind it, with the message, is as long as all
pub left_with : (s m : List ℕ) → m ≡ first_of s → length (take (length s - length m) (drop (length m) s)) + length m ≡ length s
left_with s m e =
    omega (arith, front_within s m e, length-take (length s - length m) (drop (length m) s), length-drop (length m) s)

-- a message that has a length has octets
pub some_octets : (m : List ℕ) → 0 < length m → m ≡ [] → ⊥
some_octets m h e = absurd (omega (arith, ap length e))
