-- Demand 2, proved along the history. Assumes nothing.
use Prim.Native.Nat.{ℕ}
use mathlib.Core.Path.{◌≡◌, refl, sym, ◌∙◌, ap, subst}
use mathlib.Core.Logic.{⊎_elim}
use mathlib.Core.Bool.{not}
use mathlib.Core.Option.{Option, none, some, none-ne-some}
use Rattle.lists.specs.Lists.{◌∈◌}
use Rattle.numbers.proofs.Ranges.{good_nonzero}
use Rattle.rules.specs.Store.{Store, Numbers, IntoCells}
use Rattle.rules.specs.Search.{search, lookup}
use Rattle.rules.specs.Calls.{refuse_if, or_refuse7, find, does}
use Rattle.rules.specs.Sound.{present, IsGood, SoundContents}
use Rattle.rules.specs.Keeps.{after_call}
use Rattle.rules.specs.Demand2.{opened, open_refused, called, History, opens, next, held, recalled, told, Lies, Demand2}
use Rattle.rules.proofs.Places.{in_present}
use Rattle.rules.proofs.Lookup.{Looked, looked, search_finds}
use Rattle.rules.proofs.CallsKept.{call_keeps_sound, call_changes_lookup}
use Rattle.rules.proofs.Open.{fresh-sound, fresh-lookup}

-- what holds of the store along a history
pub record Going (past : History) : Type 0 where
  pub into : IntoCells (held past).numbers
  pub sound : SoundContents (held past).numbers (held past).store
  pub knows : (k : ℕ) → IsGood k → lookup (held past).numbers k (held past).store ≡ recalled k past

pub going : (past : History) → Going past
unfolding held recalled
going (opens n into) = record { into = into; sound = fresh-sound n; knows = λ k good. fresh-lookup n k good }
going (next past (opened n into)) = record { into = into; sound = fresh-sound n; knows = λ k good. fresh-lookup n k good }
going (next past open_refused) = let g = going past in record { into = g.into; sound = g.sound; knows = g.knows }
going (next past (called call)) = on (going past)
  where
    on : Going past → Going (next past (called call))
    on g = unfold held recalled in record {
      into = g.into;
      sound = call_keeps_sound (held past).numbers g.into call (held past).store g.sound;
      knows = λ k good. call_changes_lookup (held past).numbers g.into call (held past).store g.sound k good
          ∙ ap (after_call k call (does (held past).numbers call (held past).store).answer) (g.knows k good);
    }

module _ (n : Numbers) (s : Store) (sound : SoundContents n s) (k : ℕ) (good : IsGood k) where
  -- find answers what lookup finds
  pub found : (o : Option ℕ) → lookup n k s ≡ o → (find n k s).answer ≡ told o
  unfolding find
  found o e = subst (λ b. (refuse_if (not b) 4 s (or_refuse7 (lookup n k s) s s)).answer ≡ told o) (sym good)
      (subst (λ l. (or_refuse7 l s s).answer ≡ told o) (sym e) (answers o))
    where
      answers : (o : Option ℕ) → (or_refuse7 o s s).answer ≡ told o
      answers none = refl
      answers (some v) = refl

  -- a key lies where the search finds it, or nowhere
  pub places : (o : Option ℕ) → lookup n k s ≡ o → Lies o k s
  places o e = go o (subst (Looked n s sound k good) e (looked n s sound k good))
    where
      go : (o : Option ℕ) → Looked n s sound k good o → Lies o k s
      go (some v) t = unfold Looked in ⊎_elim
          (λ t. (search n k s, t.2, λ p at. sym (search_finds n s sound k good p at)))
          (λ t. absurd (none-ne-some v (sym t.0))) t
      go none t = unfold Looked in ⊎_elim (λ t. absurd (none-ne-some t.0 t.1)) (λ t p at. t.1 (subst (λ x. x ∈ present s) at (in_present s p (λ z. good_nonzero k good (sym at ∙ z))))) t

pub demand_2 : Demand2
demand_2 past k good = let g = going past in record {
  finds = found (held past).numbers (held past).store g.sound k good (recalled k past) (g.knows k good);
  lies = places (held past).numbers (held past).store g.sound k good (recalled k past) (g.knows k good);
}
