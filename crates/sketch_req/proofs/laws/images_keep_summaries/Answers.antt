use Rattle.std.proofs.Common.{◌++◌}
use Rattle.sketch_req.proofs.images.Texts.{one_sketch}
use Rattle.sketch_req.proofs.images.Written.{written_lem}
use Rattle.sketch_req.specs.ImageLaws.{without_coins}
use Rattle.sketch_req.specs.Written.{image_text}
use Rattle.sketch_req.proofs.tails.Summaries.{image-summarizes, written-summarizes}
use Rattle.sketch_req.proofs.laws.images_keep_summaries.Goals as goal

pub returns-clause-image : goal.returns-clause-image
returns-clause-image g c =
    image-summarizes g.met.T.Ord.total g.T.ReqValue.spelling (one_sketch g.met.T.Ord.total g.T.ReqValue.spelling g.met.T.ReqValue.is_prefix_free c.requires.codec)

pub returns-clause-written : goal.returns-clause-written
returns-clause-written g c =
    written-summarizes g.met.T.Ord.total g.T.ReqValue.spelling (λ s t rest others sound spelled i.
    one_sketch g.met.T.Ord.total g.T.ReqValue.spelling g.met.T.ReqValue.is_prefix_free c.requires.codec (image_text g.T.ReqValue.spelling s ++ rest) (without_coins s) t rest others
    (written_lem g.T.ReqValue.spelling s rest sound spelled) i)
