use Rattle.std.proofs.Common.{◌∙◌, pos, length, ap, subst}
use Rattle.std.proofs.lemmas.List.{length-replicate}
use Rattle.nil_pres.specs.Presented.{Presented, IsPresented}
use Rattle.overlap_test.specs.Ways.{images}
use Rattle.overlap_test.proofs.ways.Ways.reserve.Goals as goal

pub returns : goal.returns
returns c =
    let n = c.count-n.result in
    let size = length-replicate n (pos 0) ∙ c.count-n.ensures.count
    ∙ ap (λ (p : Presented). length p.names) c.pres.ensures.pres in
    record {
      presented = subst IsPresented c.pres.ensures.pres c.count-n.ensures.lawful;
      checked = c.pres.ensures.multiplies;
      ws = c.in_ok-reserve.ensures;
      images = c.in_ok-images.ensures
          ∙ ap (λ (p : Presented). images p c.args.i) c.pres-2.ensures.pres;
      vectors = (
        ap length c.in_ok-zero.ensures ∙ size,
        (
          ap length c.in_ok-zero-2.ensures ∙ size,
          (
            ap length c.in_ok-zero-3.ensures ∙ size,
            (ap length c.in_ok-zero-4.ensures ∙ size, tt),
          ),
        ),
      );
    }
