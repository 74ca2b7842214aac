use Rattle.std.proofs.Common.{◌∙◌, refl, arith, length}
use Rattle.std.proofs.lemmas.Slice.{put_mid-paste}
use Rattle.put.proofs.Laws.{copied}
use Rattle.put.proofs.put_octets.Goals as goal

pub returns : goal.returns
returns c =
    let v = c.args.v.now in
    record {
      size = refl;
      after = refl;
      holds = put_mid-paste _ _ _ _ v (length v) c.copy_from_slice.ensures.after (omega arith) refl ∙ copied c.args.d.now c.args.at v;
    }
