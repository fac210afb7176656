-- From the checks of a call, and what the section made of it, to what is owed of the call.
use Rattle.std.proofs.Common.{◌≡◌, ℕ, Bool, true, false, cond, List, [], ◌∷◌, Some, None, Ok, Err, IsErrAnd, Option, Result, refl, ap, ◌∙◌, arith}
use Rattle.std.proofs.lemmas.Result.{err_from_is_err_and}
use Rattle.rules.specs.declared.refusals.Refusal.{Refusal}
use Rattle.rules.specs.declared.requests.Answers.{Answers}
use Rattle.rules.specs.declared.calls.Call.{Call}
use Rattle.rules.specs.Checks.{Check, checks}
use Rattle.rules.specs.Effects.{answer, half_after, section_after}
use Rattle.rules.specs.Entries.{Entries, entries, no_entry}
use Rattle.rules.specs.Limits.{Section}
use Rattle.rules.specs.Rulings.{allowed, first_met}
use Rattle.rules.specs.Runs.{Called, Snapshot}
use Rattle.section.specs.declared.section.Section as section
use Rattle.section.specs.Views.{section_of}

one_err : (t : Bool) (d e : Refusal) (r : Result (Unit {0}) Refusal) (o : Option Refusal) → (r ≡ Err e → o ≡ Some e) → cond t (Err d) r ≡ Err e → cond t (Some d) o ≡ Some e
one_err true d e r o rest h = cc
one_err false d e r o rest h = rest h

pub allowed_err : (cs : List Check) (last : Option Refusal) (e : Refusal) → allowed cs ≡ Err e → first_met cs last ≡ Some e
allowed_err [] last e h = let z : ◌≡◌ {A = ℕ} 0 1 = cc in absurd (omega arith)
allowed_err (c ∷ cs) last e h = one_err c.0 c.1 e (allowed cs) (first_met cs last) (allowed_err cs last e) h

one_ok : (t : Bool) (d : Refusal) (r : Result (Unit {0}) Refusal) (o last : Option Refusal) → (r ≡ Ok tt → o ≡ last) → cond t (Err d) r ≡ Ok tt → cond t (Some d) o ≡ last
one_ok true d r o last rest h = let z : ◌≡◌ {A = ℕ} 0 1 = cc in absurd (omega arith)
one_ok false d r o last rest h = rest h

pub allowed_ok : (cs : List Check) (last : Option Refusal) → allowed cs ≡ Ok tt → first_met cs last ≡ last
allowed_ok [] last h = refl
allowed_ok (c ∷ cs) last h = one_ok c.0 c.1 (allowed cs) (first_met cs last) last (allowed_ok cs last) h

-- a snapshot with another section
abbrev pub with_section : Snapshot → Section → Snapshot
with_section p d =
    record {
      ledger = record { top = p.ledger.top; charge = p.ledger.charge; half = p.ledger.half; section = d; money = p.ledger.money; goods = p.ledger.goods };
      money = p.money;
      goods = p.goods;
    }

module _ (went : Entries → Type 0) (p : Snapshot) (c : Call) (same : went no_entry) where
  -- a call that its checks refuse has touched nothing; its refusal is what a `?` returns
  pub refused : (e : Refusal) → allowed (checks p.ledger c) ≡ Err e → (r : Result Answers Refusal) → IsErrAnd r (λ x. x ≡ e) → Called went p c r p
  refused e h r out =
      let exit = err_from_is_err_and r out in
      rw (exit.1, exit.2) (allowed_err (checks p.ledger c) _ e h, refl, same)

  -- a call that makes no entry, and keeps the half of the day, is accepted with its effect on the section
  pub accepted : entries p.ledger c ≡ no_entry → half_after p.ledger.half c ≡ p.ledger.half → (v : Answers) (d : Section) → allowed (checks p.ledger c) ≡ Ok tt → v ≡ answer p.ledger c → d ≡ section_after p.ledger c → Called went p c (Ok v) (with_section p d)
  accepted none half v d ok is effect = rw (none, half) (allowed_ok (checks p.ledger c) None ok, is, ap (λ x. (with_section p x).ledger) effect, refl, refl, same)

  -- a call that the section refuses, and that leaves the very section
  pub refused_by_section : {V : Type 0} (f : Result V Refusal → Result Answers Refusal) → ((d : Refusal) → f (Err d) ≡ Err d) → (s s' : section.Section) → section_of s ≡ p.ledger.section → (e : Refusal) → allowed (checks p.ledger c) ≡ Err e → s' ≡ s → (r : Result V Refusal) → IsErrAnd r (λ x. x ≡ e) → Called went p c (f r) (with_section p (section_of s'))
  refused_by_section f at s s' before e h is r out =
      let exit = err_from_is_err_and r out in
      rw (exit.1, at, exit.2) (allowed_err (checks p.ledger c) _ e h, ap (with_section p) (ap section_of is ∙ before), same)
