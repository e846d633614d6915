-- Every claim of specs/Claims.antt, proved. Assumes nothing.
use Rattle.little_endian.specs.Claims.{Claims}
use Rattle.little_endian.proofs.Laws.{word_is_read_back, bytes_of_word_read}
use Rattle.little_endian.proofs.Settled.{words_settle_bytes}

pub claims : Claims
claims = record { word_is_read_back = word_is_read_back; bytes_of_word_read = bytes_of_word_read; words_settle_bytes = words_settle_bytes }
