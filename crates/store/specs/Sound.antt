-- Document 01, "A store is sound if ..", of a record and its buffers; and that open gives such a store and each call keeps it. The claims. Assumes
-- nothing.
use Rattle.std.specs.Prelude.{ℕ, ◌*◌, ◌≤◌, ◌≡◌, ◌↔◌, true, get_or}
use Rattle.rules.specs.Sound.{SoundContents}
use Rattle.rules.specs.Calls.{Call}
use Rattle.store.specs.declared.Control.{Control}
use Rattle.layout.specs.Memory.{Lent}
use Rattle.store.specs.Memory.{numbers_of, store_of}
use Rattle.store.specs.Refusals.{in_range, sized_in}
use Rattle.store.specs.Calls.{opened, checked, does}

pub record SoundIn (c : Control) (m : Lent) : Type 0 where
  -- "its record is in range", the numbers of its functions too
  pub in_range : in_range c ≡ true
  pub buffers : sized_in c m ≡ true
  -- the parts of the paragraph that the rules know, of the store that record and words stand for
  pub contents : SoundContents (numbers_of c) (store_of c m)
  -- "places past the lengths are zero"
  pub queue_zeros : (i : ℕ) → 3 * c.queue_len ≤ i → get_or m.queue i 0 ≡ 0
  pub detector_zeros : (i : ℕ) → 2 * c.detector_len ≤ i → get_or m.detector i 0 ≡ 0

-- "Open gives a sound store"
abbrev pub OpenIsSound : Type 0
OpenIsSound = (c : Control) (m : Lent) → (opened c m).answer.number ≡ 0 → SoundIn (opened c m).answer.control (opened c m).lent

-- "and each call keeps it sound"
abbrev pub CallKeepsSound : Type 0
CallKeepsSound = (call : Call) (c : Control) (m : Lent) → SoundIn c m → SoundIn (does call c m).answer.control (does call c m).lent

abbrev pub CheckKeepsSound : Type 0
CheckKeepsSound = (c : Control) (m : Lent) → SoundIn c m → SoundIn (checked c m).answer.control (checked c m).lent

-- "Check: accepted exactly for a sound store", both ways
abbrev pub CheckIsExact : Type 0
CheckIsExact = (c : Control) (m : Lent) → ((checked c m).answer.number ≡ 0) ↔ SoundIn c m
