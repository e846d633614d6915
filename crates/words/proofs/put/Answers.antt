-- `words::put` meets its contract: a slice copied over is words stored one after another, and what is copied are the words given. Assumes nothing.
use Rattle.std.proofs.Common.{◌≡◌, ◌-◌, ◌+◌, length, take, drop, arith, rules, sym, ap, ◌∙◌, length-drop}
use lib.Seq.{length-take-le}
use Rattle.words.proofs.Laws.{put_given}
use Rattle.words.proofs.put.Goals as goal

pub returns : goal.returns
returns g c =
    let a = c.args in
    let ws = a.ws.now in
    let w = c.copy_from_slice.ensures in
    let k : length (take (a.at + g.row.N - a.at) (drop a.at ws)) ≡ a.at + g.row.N - a.at = length-take-le _ _ (omega (arith, length-drop a.at ws)) in
    rw w.after (put_given ws a.words a.at (a.at + g.row.N - a.at) (ap length (sym w.after) ∙ w.len ∙ k) (omega arith) (search rules))
