use Rattle.std.proofs.Common.{rules}
use Rattle.viewing.proofs.Coverages.{coverage-full, coverage-written, token-small}
use Rattle.viewing.proofs.write_coverage.Goals as goal

pub returns-then-buffer-length : goal.returns-then-buffer-length
returns-then-buffer-length c = (coverage-full _ c.in_ok-accepted.ensures.0 _ (search rules), tt)

pub returns : goal.returns
returns c =
    (coverage-written _ c.in_ok-accepted.ensures.0 _ (search rules) _ c.mask_token.ensures, token-small _ c.in_ok-accepted.ensures.0)
