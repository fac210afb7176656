-- What is seen of a book. Assumes nothing.
use Rattle.keeper.specs.declared.keepers.Registers as registers
use Rattle.charge.specs.declared.ChargeRule as rule
use Rattle.rules.specs.Limits.{Half}
use Rattle.rules.specs.Runs.{Keepers, Snapshot}
use Rattle.section.specs.Views.{ledger_of}
use Rattle.section.specs.declared.section.Section.{Section}
use Rattle.book.specs.declared.book.Book.{Book}

-- the two keepers of a book
abbrev pub keepers_of : {H M G R : Type 0} → Book H M G R → Keepers M G
keepers_of b = record { money = b.money; goods = b.goods }

-- what a book gives back: its keepers of money and of goods, and its charge rule
abbrev pub parts_of : {H M G R : Type 0} → Book H M G R → M × G × R
parts_of b = (b.money, b.goods, b.rule)

module _ {M G R : Type 0} (h : Half) (m : registers.Ghosts M) (g : registers.Ghosts G) (r : rule.Ghosts R) where
  -- a section in a half of the day over two keepers and a rule: its ledger, and what the two keepers mean beside it
  abbrev pub seen : Section → M → G → R → Snapshot
  seen d money goods charges =
      record {
        ledger = ledger_of h r d charges (m.meaning money).amounts (g.meaning goods).amounts;
        money = m.meaning money;
        goods = g.meaning goods;
      }

  abbrev pub snapshot_of : {H : Type 0} → Book H M G R → Snapshot
  snapshot_of b = seen b.section b.money b.goods b.rule
