-- The four bytes of word i are put. Assumes nothing.
use Rattle.std.proofs.Common.{arith}
use Rattle.little_endian.proofs.Image.{put_holds}
use Rattle.little_endian.proofs.put_image_word.Goals as goal

pub returns : goal.returns
returns c = put_holds _ _ _ _ c.requires (omega arith) c.put_word.ensures
