-- The law of whole runs, from any start with a fair charge; `replay` takes it from here.
use Rattle.std.proofs.Common.{◌≡◌, ℕ, ◌+◌, ◌≤◌, Bool, true, false, cond, not, ◌&&◌, ◌⊎◌, List, [], ◌∷◌, ◌++◌, pos, ◌-ℤ◌, ◌≤ℤ◌, ◌<ℤ◌, is_some, Some, None, Option, refl, inl, inr, append_assoc, arith}
use Rattle.std.proofs.lemmas.Int.{ints}
use Rattle.keeper.specs.declared.keepers.Registers as registers
use Rattle.charge.specs.declared.ChargeRule as rule
use Rattle.charge.specs.Charges.{Fair}
use Rattle.rules.specs.declared.rows.Row.{Row}
use Rattle.rules.specs.declared.refusals.Refusal.{Refusal}
use Rattle.rules.specs.declared.calls.Call.{Call}
use Rattle.rules.specs.declared.requests.Request.{Request}
use Rattle.rules.specs.declared.requests.Request.TheVariants.{Make, Ask}
use Rattle.rules.specs.Limits.{Ledger, position, position_holds}
use Rattle.rules.specs.Rulings.{Feed, ruling}
use Rattle.rules.specs.Effects.{after}
use Rattle.rules.specs.Runs.{takes, is_rating, is_call_of_rating, next, feed, reached, Run}
use Rattle.rules.specs.History.{Done}
use Rattle.rules.specs.Law.{Start, start, opened, rows_of, NoWorse}
use Rattle.rules.proofs.Prefixes.{reached-append, run_append}
use Rattle.rules.proofs.Laws.{Firm}
use Rattle.law.specs.Lawful.{KeepsLaw, RunsAreLawful}
use Rattle.law.proofs.Holding.{position_of}
use Rattle.law.proofs.Accepting.{accepts_when}
use Rattle.law.proofs.Backing.{stays_firm}
use Rattle.law.proofs.Sound.{call_backs}
use Rattle.law.proofs.Standing.{Kept, kept_by_runs, always}

-- ---- no step but a rating leaves a free position limit negative and lower than before

-- not below zero, or not lower than before
abbrev FirmAt : Ledger → Ledger → ℕ → Type 0
FirmAt b e m = (position_holds e m ≤ position e m) ⊎ (position b m + position_holds e m ≤ position e m + position_holds b m)

firm_signed : (p h p' h' : ℕ) → (h' ≤ p') ⊎ (p + h' ≤ p' + h) → (pos p' -ℤ pos h') <ℤ pos 0 → (pos p -ℤ pos h) ≤ℤ (pos p' -ℤ pos h')
firm_signed p h p' h' (inl x) l = absurd (omega (arith, ints))
firm_signed p h p' h' (inr x) l = omega (arith, ints)

no_worse_from : (b e : Ledger) → ((m : ℕ) → FirmAt b e m) → NoWorse b e
no_worse_from b e c m l = firm_signed (position b m) (position_holds b m) (position e m) (position_holds e m) (c m) l

unmoved : (b : Ledger) → NoWorse b b
unmoved b = no_worse_from b b (λ m. inr (omega arith))

module _ (rows : List Row) (xs ys : List ℕ) (past : List Done) (b : Ledger) (k : Kept rows xs ys past b) where
  made_firm : (f : Feed) (c : Call) → is_call_of_rating c ≡ false → (t : Bool) (e : Option Refusal) → ruling b f c ≡ e → NoWorse b (cond (t && not (is_some e)) (after b c) b)
  made_firm f c r true None e =
      let a = accepts_when b f c e in no_worse_from b (after b c) (λ m. stays_firm b c (position_of m) a (call_backs rows past b c a k.tie k.sound (position_of m) tt (inl r)))
  made_firm f c r true (Some x) e = unmoved b
  made_firm f c r false x e = unmoved b

  request_firm : (f : Feed) (r : Request) → is_rating r ≡ false → NoWorse b (next b f r)
  request_firm f (Make c) r = made_firm f c r (takes b.half c) (ruling b f c) refl
  request_firm f (Ask q) r = unmoved b

firm : (o : Start) → Fair o.charge → Firm o
firm o fair before s run rating =
    let p = reached (opened o) before in
    let first : Run (opened o) before = (run_append (opened o) before (s ∷ []) run).0 in
    rw (reached-append (opened o) before (s ∷ [])) (request_firm (rows_of o) o.money.amounts o.goods.amounts _ p.ledger (kept_by_runs o fair before first) (feed p) s.request rating)

-- ---- the law

-- of any run from a start with a fair charge
pub lawful : RunsAreLawful
lawful o fair steps run =
    record {
      always = λ before rest e. always o fair before (run_append (opened o) before rest (rw e run)).0;
      firm = λ before s rest e n. firm o fair before s (run_append (opened o) (before ++ s ∷ []) rest (rw (append_assoc before (s ∷ []) rest, e) run)).0 n;
    }

-- of any run from rows, two keepers and a rule, by the rule's law
pub lawful_from : {M G R : Type 0} (m : registers.Ghosts M) (g : registers.Ghosts G) (r : rule.Ghosts R) (rows : List Row) (money : M) (goods : G) (charges : R) →
    ((rate price a b : ℕ) → a + b ≤ 10000 → r.charge charges rate price a + r.charge charges rate price b ≤ r.charge charges rate price (a + b)) →
    KeepsLaw (start m g r rows money goods charges)
lawful_from m g r rows money goods charges splits = lawful (start m g r rows money goods charges) (record { splits = splits })
