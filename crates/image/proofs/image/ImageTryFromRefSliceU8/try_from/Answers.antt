use Rattle.image.proofs.Passing.{image_of}
use Rattle.image.proofs.image.ImageTryFromRefSliceU8.try_from.Goals as goal

pub returns : goal.returns
returns c = let h = c.in_ok-files_of.ensures in image_of c.args.bytes.now h.fields h.is_image
