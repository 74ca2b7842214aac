use Rattle.std.proofs.Common.{rules, ◌≡◌, length, arith, refl, sym, ◌∙◌}
use Rattle.std.proofs.lemmas.List.{nil_from_length}
use Rattle.octets.proofs.Slices.{tail_all}
use Rattle.messages.proofs.Fronts.{front_within, left_with, some_octets}
use Rattle.messages.proofs.MessagesIterator.next.Goals as goal

pub returns-then-is_empty-clause-steps : goal.returns-then-is_empty-clause-steps
returns-then-is_empty-clause-steps c = (sym c.first-m.ensures ∙ nil_from_length _ (search rules), refl)

pub slice_bounds-self-count : goal.slice_bounds-self-count
slice_bounds-self-count c = front_within _ _ c.first-m.ensures

pub slice_bounds-self-start : goal.slice_bounds-self-start
slice_bounds-self-start c = search (rules, front_within)

pub overflow_add-self : goal.overflow_add-self
overflow_add-self c = record { fits = omega (arith, front_within _ _ c.first-m.ensures, c.args.self.now.within) }

pub invariant_of-self : goal.invariant_of-self
invariant_of-self c = record { within = omega (arith, left_with _ _ c.first-m.ensures, c.args.self.now.within) }

pub returns-clause-steps : goal.returns-clause-steps
returns-clause-steps c = record {
  stands = refl;
  message = c.first-m.ensures;
  some = some_octets _ (search rules);
  left = tail_all c.args.self.now.rest.now (length c.first-m.result.now);
  next = refl;
}

pub returns-clause-goes : goal.returns-clause-goes
returns-clause-goes c = record {
  on = λ _. (tt, tt, (let e : length c.first-m.result.now ≡ 0 → ⊥ = search rules in omega (arith, left_with _ _ c.first-m.ensures)));
  keeps = tt;
  rests = λ _. tt;
}
