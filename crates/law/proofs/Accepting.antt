-- What an accepted call has passed: the book's checks by name, and both keepers.
use Rattle.std.proofs.Common.{◌≡◌, ℕ, List, [], ◌∷◌, Some, None, Ok, Err, Option, Result, refl, inl, inr, arith}
use Rattle.std.proofs.lemmas.Bool.{cases_Bool}
use Rattle.keeper.specs.declared.entries.Entry.{Entry}
use Rattle.keeper.specs.declared.entries.KeeperFault.{KeeperFault}
use Rattle.keeper.specs.Meaning.{register_of, judged}
use Rattle.keeper.proofs.Entering.{Fits, fits}
use Rattle.rules.specs.declared.refusals.Refusal.{Refusal}
use Rattle.rules.specs.declared.calls.Call.{Call}
use Rattle.rules.specs.Limits.{Ledger}
use Rattle.rules.specs.Checks.{Check, checks}
use Rattle.rules.specs.Entries.{entries}
use Rattle.rules.specs.Rulings.{Capacity, Feed, by_money, by_goods, money_says, goods_says, first_said, keepers_say, first_met, ruling}
use Rattle.law.proofs.Entering.{FitsIf}
use Rattle.law.proofs.Passing.{AllFalse, Passed, passed}

-- no check is met, and then what comes last is silent
none_met : (cs : List Check) (last : Option Refusal) → first_met cs last ≡ None → AllFalse cs × (last ≡ None)
none_met [] last h = (tt, h)
none_met (c ∷ cs) last h =
    elim (cases_Bool c.0) [
      | inl e ↦ let z : Some c.1 ≡ None = rw e at h in let w : ◌≡◌ {A = ℕ} 0 1 = cc in absurd (omega arith)
      | inr e ↦ let k = none_met cs last (rw e at h) in ((e, k.0), k.1)
    ]

money_silent : (r : ℕ) (v : Result (Unit {0}) KeeperFault) → by_money r v ≡ None → v ≡ Ok tt
money_silent r (Ok u) h = refl
money_silent r (Err e) h = let z : ◌≡◌ {A = ℕ} 0 1 = cc in absurd (omega arith)

goods_silent : (r : ℕ) (v : Result (Unit {0}) KeeperFault) → by_goods r v ≡ None → v ≡ Ok tt
goods_silent r (Ok u) h = refl
goods_silent r (Err e) h = let z : ◌≡◌ {A = ℕ} 0 1 = cc in absurd (omega arith)

both_silent : (x y : Option Refusal) → first_said x y ≡ None → (x ≡ None) × (y ≡ None)
both_silent None y h = (refl, h)
both_silent (Some e) y h = let z : ◌≡◌ {A = ℕ} 0 1 = cc in absurd (omega arith)

money_fits : (xs : List ℕ) (s : Capacity) (e : Entry) → money_says xs s e ≡ None → Fits xs e
money_fits xs s e h = fits xs s.spare (s.need e) e (money_silent (register_of e) (judged xs s.spare (s.need e) e) h)

goods_fits : (xs : List ℕ) (s : Capacity) (e : Entry) → goods_says xs s e ≡ None → Fits xs e
goods_fits xs s e h = fits xs s.spare (s.need e) e (goods_silent (register_of e) (judged xs s.spare (s.need e) e) h)

keepers_fit : (xs ys : List ℕ) (f : Feed) (m g : Option Entry) → keepers_say xs ys f m g ≡ None → FitsIf xs m × FitsIf ys g
keepers_fit xs ys f None None h = (tt, tt)
keepers_fit xs ys f None (Some g) h = (tt, goods_fits ys f.goods g h)
keepers_fit xs ys f (Some m) None h = (money_fits xs f.money m h, tt)
keepers_fit xs ys f (Some m) (Some g) h =
    let k = both_silent (money_says xs f.money m) (goods_says ys f.goods g) h in (money_fits xs f.money m k.0, goods_fits ys f.goods g k.1)

pub record Accepts (b : Ledger) (c : Call) : Type 0 where
  pub passed : Passed b c
  pub money : FitsIf b.money (entries b c).money
  pub goods : FitsIf b.goods (entries b c).goods

pub accepts_when : (b : Ledger) (f : Feed) (c : Call) → ruling b f c ≡ None → Accepts b c
accepts_when b f c h =
    let k = none_met (checks b c) (keepers_say b.money b.goods f (entries b c).money (entries b c).goods) h in
    let l = keepers_fit b.money b.goods f (entries b c).money (entries b c).goods k.1 in
    record { passed = passed b c k.0; money = l.0; goods = l.1 }
