-- The law of whole runs. Assumes nothing.
use Rattle.std.specs.Prelude.{◌≡◌, ℕ, ◌+◌, ◌≤◌, false, List, [], ◌∷◌, ◌++◌, map, pos, ◌≤ℤ◌, ◌<ℤ◌, slice_index}
use Rattle.keeper.specs.Meaning.{Meaning}
use Rattle.keeper.specs.declared.keepers.Registers as registers
use Rattle.charge.specs.declared.ChargeRule as rule
use Rattle.charge.specs.Charges.{Charge}
use Rattle.rules.specs.declared.rows.Row.{Row}
use Rattle.rules.specs.declared.requests.Request.{Request}
use Rattle.rules.specs.Terms.{in_force}
use Rattle.rules.specs.Holds.{payment_to_date}
use Rattle.rules.specs.Limits.{Ledger, opening, free_position, free_clearing, free_goods}
use Rattle.rules.specs.Runs.{Keepers, Meant, Response, is_rating, Snapshot, Step, reached, Run}
use Rattle.rules.specs.History.{Done, accepted, trade_in, row_in, kilograms_in, payments_in, endings, money_brought, money_taken, goods_brought, goods_taken}

-- what a run starts from: rows, the charge rule's top and charge, and what the two keepers mean
pub record Start : Type 0 where
  pub rows : List Row
  pub top : ℕ
  pub charge : Charge
  pub money : Meaning
  pub goods : Meaning

-- the start that is made of rows, two keepers and a rule
abbrev pub start : {M G R : Type 0} → registers.Ghosts M → registers.Ghosts G → rule.Ghosts R → List Row → M → G → R → Start
start m g r rows money goods charges = record { rows = rows; top = r.top charges; charge = r.charge charges; money = m.meaning money; goods = g.meaning goods }

-- the opening ledger, with the two keepers
abbrev pub opened : Start → Snapshot
opened o = record { ledger = opening o.top o.charge o.rows o.money.amounts o.goods.amounts; money = o.money; goods = o.goods }

abbrev pub rows_of : Start → List Row
rows_of o = in_force o.top o.rows

-- what stands at a point that accepted calls led to from a start
pub record Stands (o : Start) (calls : List Done) (p : Snapshot) : Type 0 where
  -- the keepers have the ledger's amounts
  pub money_kept : p.money.amounts ≡ p.ledger.money
  pub goods_kept : p.goods.amounts ≡ p.ledger.goods
  -- each amount is the opening amount and all that was brought, less all that was taken
  pub money_balance : (r : ℕ) → slice_index p.money.amounts r + money_taken (rows_of o) calls r ≡ slice_index o.money.amounts r + money_brought (rows_of o) calls r
  pub goods_balance : (r : ℕ) → slice_index p.goods.amounts r + goods_taken (rows_of o) calls r ≡ slice_index o.goods.amounts r + goods_brought (rows_of o) calls r
  -- no free clearing limit and no free goods limit is below zero
  pub clearing_free : (m : ℕ) → pos 0 ≤ℤ free_clearing p.ledger m
  pub goods_free : (m i : ℕ) → i ≤ 15 → pos 0 ≤ℤ free_goods p.ledger m i
  -- no contract ended twice
  pub ended_once : (n : ℕ) → endings (rows_of o) [] calls n ≤ 1
  -- the payments for each contract are its price × kilograms ÷ lot weight, rounded down
  pub paid : (n : ℕ) → payments_in calls n ≡ payment_to_date (row_in (rows_of o) calls n) (trade_in calls n).price (kilograms_in calls n)

-- no free position limit is left negative and lower than before
abbrev pub NoWorse : Ledger → Ledger → Type 0
NoWorse b b' = (m : ℕ) → free_position b' m <ℤ pos 0 → free_position b m ≤ℤ free_position b' m

-- what the law of whole runs says of the steps of a run
pub record Lawful (o : Start) (steps : List Step) : Type 0 where
  -- at the start and after each step, amounts, limits, endings and payments stand
  pub always : (before rest : List Step) → before ++ rest ≡ steps → Stands o (accepted before) (reached (opened o) before)
  -- no step but a rating leaves a free position limit negative and lower than before
  pub firm : (before : List Step) (s : Step) (rest : List Step) → before ++ s ∷ rest ≡ steps → is_rating s.request ≡ false →
      NoWorse (reached (opened o) before).ledger (reached (opened o) (before ++ s ∷ [])).ledger

-- what is owed of a run: its start and keepers, the requests and responses, and what is seen of the book at the end, over which keepers
pub record RunLaw {M G : Type 0} (m : registers.Ghosts M) (g : registers.Ghosts G) (o : Start) (first : Keepers M G) (requests : List Request) (responses : List Response) (end : Snapshot) (last : Keepers M G) : Type 0 where
  -- the first two keepers mean what the start says
  pub money_first : o.money ≡ m.meaning first.money
  pub goods_first : o.goods ≡ g.meaning first.goods
  -- the steps are the requests, in sequence, with the response to each
  pub steps : List Step
  pub asked : map (λ s. s.request) steps ≡ requests
  pub answered : map (λ s. s.response) steps ≡ responses
  -- each answer and each reply is the ledger's, fed nothing but the start and, before each request, the keepers' spares and needs
  pub ruled : Run (opened o) steps
  -- those spares and needs are what the two keepers come to from the first on, as keepers of their types go on by the ledger's entries, and by nothing else
  pub meant : Meant m g (opened o) first steps last
  -- the steps lead to what is seen of the book
  pub ended : end ≡ reached (opened o) steps
  -- and they keep the law
  pub lawful : Lawful o steps
