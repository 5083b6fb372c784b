use Rattle.calc_replies.proofs.WrittenText.{listed_at, written_reply}
use Rattle.calc_replies.proofs.written.written_product.Goals as goal

pub returns-in-Ok : goal.returns-in-Ok
returns-in-Ok c =
    written_reply c.args.factors.now c.in-Some.lister c.in-Ok.text
    (listed_at _ _ _ c.in_ok-lister.ensures c.in-Some.is) c.in-Ok.ensures.text c.in-Ok.ensures.fits
