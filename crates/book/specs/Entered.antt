-- What comes of entries that are posted at the keepers. Assumes nothing.
use Rattle.std.specs.Prelude.{◌≡◌, ℕ, Some, None, Ok, Err, Option, Result, slice_index}
use Rattle.keeper.specs.declared.keepers.Registers as registers
use Rattle.keeper.specs.Meaning.{Meaning, verdict, register_of, Follows}
use Rattle.keeper.specs.declared.entries.Entry.{Entry}
use Rattle.rules.specs.declared.refusals.Refusal.{Refusal}
use Rattle.rules.specs.declared.refusals.EntryFault.{EntryFault}
use Rattle.rules.specs.Rulings.{keepers_say}
use Rattle.rules.specs.Runs.{GoesOn, Posted}

-- what a keeper has to say to an entry: a fault comes with the register that the entry names
abbrev pub Says : Meaning → Entry → Result (Unit {0}) EntryFault → Type 0
Says m e (Ok u) = verdict m e ≡ Ok tt
Says m e (Err f) = (verdict m e ≡ Err f.fault) × (f.register ≡ register_of e)

module _ {K : Type 0} (r : registers.Ghosts K) where
  -- it is accepted and the keeper goes on as its type does, or refused and the keeper is the very same
  abbrev pub Posts : K → Entry → Result (Unit {0}) EntryFault → K → Type 0
  Posts k e (Ok u) k' = (verdict (r.meaning k) e ≡ Ok tt) × Follows (r.meaning k) e (Ok tt) (r.meaning k') × r.conduct k e k'
  Posts k e (Err f) k' = (verdict (r.meaning k) e ≡ Err f.fault) × (f.register ≡ register_of e) × (k' ≡ k)

  -- the same, and what is then in the register that the entry names
  abbrev pub Entered : K → Entry → Result ℕ EntryFault → K → Type 0
  Entered k e (Ok v) k' = Posts k e (Ok tt) k' × (v ≡ slice_index (r.meaning k').amounts (register_of e))
  Entered k e (Err f) k' = Posts k e (Err f) k'

  -- the same, where a refusal says which keeper it is of
  abbrev pub EnteredAs : (EntryFault → Refusal) → K → Entry → Result ℕ Refusal → K → Type 0
  EnteredAs of k e (Ok v) k' = Entered k e (Ok v) k'
  EnteredAs of k e (Err d) k' = (f : EntryFault) × (d ≡ of f) × Entered k e (Err f) k'

-- what the two keepers say to their entries, both asked before the first of them
abbrev pub both_say : Meaning → Meaning → Option Entry → Option Entry → Option Refusal
both_say m g e f =
    keepers_say m.amounts g.amounts
    (record { money = record { spare = m.spare; need = m.need }; goods = record { spare = g.spare; need = g.need } })
    e f

-- both entries are made and the keepers go on as their types do, or the first refusal stands and both are the same
module _ {M G : Type 0} (m : registers.Ghosts M) (g : registers.Ghosts G) where
  abbrev pub Transferred : M → G → Option Entry → Option Entry → Result (Unit {0}) Refusal → M → G → Type 0
  Transferred a b e f (Ok u) a' b' =
      (both_say (m.meaning a) (g.meaning b) e f ≡ None)
      × (Posted (m.meaning a) e (m.meaning a') × GoesOn m.conduct a e a')
      × (Posted (g.meaning b) f (g.meaning b') × GoesOn g.conduct b f b')
  Transferred a b e f (Err d) a' b' = (both_say (m.meaning a) (g.meaning b) e f ≡ Some d) × (a' ≡ a) × (b' ≡ b)
