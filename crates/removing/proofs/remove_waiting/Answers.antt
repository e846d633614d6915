-- `removing::remove_waiting` meets its contract: the words tidied are packed, and in packed words the entry's gap is closed. Assumes nothing.
use Rattle.removing.proofs.Removing.{entry_gone}
use Rattle.removing.proofs.remove_waiting.Goals as goal

pub returns : goal.returns
returns c =
    let s = c in
    let a = s.args in
    entry_gone a.c a.j a.queue.now a.detector.now _ _ _ s.requires.j_bound s.requires.rooms_fit c.tidy.ensures c.close_gap.ensures (rw c.at_rest.ensures)
