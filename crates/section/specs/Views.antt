-- What a section stands for, and the ledger that it makes with a charge rule and the keepers' amounts. Assumes nothing.
use Rattle.std.specs.Prelude.{ℕ, Bool, List, [], vec_items}
use Rattle.keeper.specs.declared.keepers.Registers as registers
use Rattle.charge.specs.declared.ChargeRule as rule
use Rattle.rules.specs.declared.rows.Row.{Row}
use Rattle.rules.specs.Limits as limits
use Rattle.section.specs.declared.section.Section.{Section}

-- the rules' section
abbrev pub section_of : Section → limits.Section
section_of d =
    record {
      day = d.day;
      rows = vec_items d.rows;
      orders = vec_items d.orders.items;
      contracts = vec_items d.contracts.items;
      last_order = d.orders.last;
      last_contract = d.contracts.last;
    }

-- the ledger of a section in a half of the day, under a rule, with the amounts of the money and of the goods keeper
abbrev pub ledger_of : {R : Type 0} → limits.Half → rule.Ghosts R → Section → R → List ℕ → List ℕ → limits.Ledger
ledger_of h r d charges money goods = record { top = r.top charges; charge = r.charge charges; half = h; section = section_of d; money = money; goods = goods }

-- the rules' section at the opening
abbrev pub opened_section : List Row → limits.Section
opened_section rows = record { day = 0; rows = rows; orders = []; contracts = []; last_order = 0; last_contract = 0 }

-- ledgers for what looks at some parts alone, and so is the same by the whole ledger: the other parts are empty
abbrev pub section_alone : Section → limits.Ledger
section_alone d = record { top = 0; charge = λ _ _ _. 0; half = limits.trading; section = section_of d; money = []; goods = [] }

abbrev pub section_and_goods : Section → List ℕ → limits.Ledger
section_and_goods d goods = record { top = 0; charge = λ _ _ _. 0; half = limits.trading; section = section_of d; money = []; goods = goods }

abbrev pub amounts_alone : List ℕ → List ℕ → limits.Ledger
amounts_alone money goods = record { top = 0; charge = λ _ _ _. 0; half = limits.trading; section = opened_section []; money = money; goods = goods }

-- a section under a rule
abbrev pub section_under : {R : Type 0} → rule.Ghosts R → Section → R → limits.Ledger
section_under r d charges = ledger_of limits.trading r d charges [] []

-- both keepers know a member: all its registers are there
abbrev pub known_to : {M G : Type 0} → registers.Ghosts M → registers.Ghosts G → M → G → ℕ → Bool
known_to m g money goods n = limits.known (amounts_alone (m.meaning money).amounts (g.meaning goods).amounts) n
