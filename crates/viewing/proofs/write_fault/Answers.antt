use Rattle.std.proofs.Common.{rules, ◌≡◌, refl, true, false}
use Rattle.std.specs.Prelude.{is_ok}
use Rattle.viewing.proofs.Faults.{entry-full, entry-written, entry-small, fault-taken, fault-some, refusing}
use Rattle.viewing.proofs.write_fault.Goals as goal

pub returns-then-is_ok : goal.returns-then-is_ok
returns-then-is_ok c =
    let ok : is_ok c.accepted.result ≡ true = search rules in
    (fault-taken _ _ c.accepted.result c.accepted.ensures ok, search rules)

pub returns-then-buffer-lt-SIZE : goal.returns-then-buffer-lt-SIZE
returns-then-buffer-lt-SIZE c =
    let not : is_ok c.accepted.result ≡ false = search rules in
    let no = refusing _ c.accepted.result c.accepted.ensures not in
    (fault-some _ _ no.0 no.1 _ refl _ _ (entry-full _ _ (search rules)), tt)

pub returns : goal.returns
returns c =
    let not : is_ok c.accepted.result ≡ false = search rules in
    let no = refusing _ c.accepted.result c.accepted.ensures not in (
      fault-some _ _ no.0 no.1 _ c.fault.ensures _ _ (entry-written _ _ (search rules) _ _ c.put_entry.ensures),
      entry-small _ _ _ _ c.put_entry.ensures,
    )
