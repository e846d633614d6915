-- The search of the n entries answers what the search from place i on does.
use mathlib.Core.Path.{◌≡◌}
use Rattle.rules.specs.Search.{search_queue}
use Rattle.layout.specs.Forms.{entry_form, read_many}
use Rattle.layout.proofs.Searches.{entries_from}
use Rattle.layout.proofs.place_of.Given as goal

abbrev pub invariant-loop-i : goal.invariant-loop-i
invariant-loop-i l = search_queue 0 l.x (read_many entry_form l.n l.ws) ≡ search_queue l.i l.x (entries_from l.ws l.n l.i)
