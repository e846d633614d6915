-- All that is claimed of words in bytes beside the contracts. `proofs/Claims.antt` proves it. Assumes nothing.
use Rattle.little_endian.specs.Word.{WordIsReadBack, BytesOfWordRead}
use Rattle.little_endian.specs.Image.{WordsSettleBytes}

pub record Claims : Type 0 where
  pub word_is_read_back : WordIsReadBack
  pub bytes_of_word_read : BytesOfWordRead
  pub words_settle_bytes : WordsSettleBytes
