-- What a call is refused for: the first of the book's checks that is met, else what the keepers say. Assumes nothing.
use Rattle.std.specs.Prelude.{◌≡◌, ℕ, cond, List, [], ◌∷◌, Some, None, Ok, Err, Option, Result}
use Rattle.keeper.specs.Meaning.{judged, register_of}
use Rattle.keeper.specs.declared.entries.Entry.{Entry}
use Rattle.keeper.specs.declared.entries.KeeperFault.{KeeperFault}
use Rattle.rules.specs.declared.refusals.Refusal.{Refusal}
use Rattle.rules.specs.declared.refusals.Refusal.TheVariants.{Money, Goods}
use Rattle.rules.specs.declared.calls.Call.{Call}
use Rattle.rules.specs.Limits.{Ledger}
use Rattle.rules.specs.Checks.{Check, checks}
use Rattle.rules.specs.Entries.{entries}

-- what a keeper answers just before a call, besides its amounts
pub record Capacity : Type 0 where
  pub spare : ℕ
  pub need : Entry → ℕ

pub record Feed : Type 0 where
  pub money : Capacity
  pub goods : Capacity

abbrev pub by_money : ℕ → Result (Unit {0}) KeeperFault → Option Refusal
by_money r (Ok u) = None
by_money r (Err f) = Some (Money (record { fault = f; register = r }))

abbrev pub by_goods : ℕ → Result (Unit {0}) KeeperFault → Option Refusal
by_goods r (Ok u) = None
by_goods r (Err f) = Some (Goods (record { fault = f; register = r }))

-- what a keeper with these amounts says to an entry
abbrev pub money_says : List ℕ → Capacity → Entry → Option Refusal
money_says xs s e = by_money (register_of e) (judged xs s.spare (s.need e) e)

abbrev pub goods_says : List ℕ → Capacity → Entry → Option Refusal
goods_says ys s e = by_goods (register_of e) (judged ys s.spare (s.need e) e)

abbrev pub first_said : Option Refusal → Option Refusal → Option Refusal
first_said None e = e
first_said (Some d) e = Some d

-- both keepers are asked before the first entry, money first
abbrev pub keepers_say : List ℕ → List ℕ → Feed → Option Entry → Option Entry → Option Refusal
keepers_say xs ys f None None = None
keepers_say xs ys f None (Some g) = goods_says ys f.goods g
keepers_say xs ys f (Some m) None = money_says xs f.money m
keepers_say xs ys f (Some m) (Some g) = first_said (money_says xs f.money m) (goods_says ys f.goods g)

-- the first check that is met, else what comes last
abbrev pub first_met : List Check → Option Refusal → Option Refusal
first_met [] last = last
first_met (c ∷ cs) last = cond c.0 (Some c.1) (first_met cs last)

-- the book's own word: the first check that is met, if any
abbrev pub allowed : List Check → Result (Unit {0}) Refusal
allowed [] = Ok tt
allowed (c ∷ cs) = cond c.0 (Err c.1) (allowed cs)

-- such checks came out: none is met and so much is known of the value, or it is refused for the first that is met
abbrev pub Checked : {V : Type 0} → List Check → (V → Type 0) → Result V Refusal → Type 0
Checked cs ok (Ok v) = (allowed cs ≡ Ok tt) × ok v
Checked cs ok (Err e) = allowed cs ≡ Err e

-- what a call is refused for: the book's checks, then the keepers
abbrev pub ruling : Ledger → Feed → Call → Option Refusal
ruling b f c = first_met (checks b c) (keepers_say b.money b.goods f (entries b c).money (entries b c).goods)
