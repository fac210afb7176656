-- What the entry of a call, if it makes one, does to each register.
use Rattle.std.proofs.Common.{◌≡◌, ℕ, ◌+◌, Bool, true, false, cond, eqb, List, get_or, Some, None, Option, sym, refl, inl, inr}
use Rattle.std.proofs.lemmas.Bool.{cases_Bool, eqb-true}
use Rattle.keeper.specs.declared.entries.Entry.{Entry}
use Rattle.keeper.specs.declared.entries.Entry.TheVariants.{Credit, Debit, Transfer}
use Rattle.keeper.proofs.Entering.{Fits, posted_at}
use Rattle.rules.specs.Entries.{transfer}
use Rattle.rules.specs.Effects.{entered}
use Rattle.rules.specs.History.{brings, takes_out}

-- an entry that fits, or none
abbrev pub FitsIf : List ℕ → Option Entry → Type 0
FitsIf xs None = Unit {0}
FitsIf xs (Some e) = Fits xs e

pub entered_at : (xs : List ℕ) (e : Option Entry) → FitsIf xs e → (r : ℕ) → get_or (entered xs e) r 0 + takes_out r e ≡ get_or xs r 0 + brings r e
entered_at xs None h r = refl
entered_at xs (Some (Credit g a)) h r = posted_at xs (Credit g a) h r
entered_at xs (Some (Debit g a)) h r = posted_at xs (Debit g a) h r
entered_at xs (Some (Transfer g q a)) h r = posted_at xs (Transfer g q a) h r

pub none_either : (v : Bool) → cond {A = ℕ} v 0 0 ≡ 0
none_either true = refl
none_either false = refl

-- a sum of 0 moves nothing, so that it makes no entry
pub transfer_takes : (g q a r : ℕ) → takes_out r (transfer g q a) ≡ cond (eqb g r) a 0
transfer_takes g q a r = elim (cases_Bool (eqb a 0)) [ inl e ↦ let z : a ≡ 0 = eqb-true a 0 e in rw z (sym (none_either (eqb g r))) | inr e ↦ rw e refl ]

pub transfer_brings : (g q a r : ℕ) → brings r (transfer g q a) ≡ cond (eqb q r) a 0
transfer_brings g q a r = elim (cases_Bool (eqb a 0)) [ inl e ↦ let z : a ≡ 0 = eqb-true a 0 e in rw z (sym (none_either (eqb q r))) | inr e ↦ rw e refl ]
