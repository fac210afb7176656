-- A day over the lists of a caller. Assumes nothing.
use Rattle.std.specs.Prelude.{◌≡◌, ℕ, Bool, true, false, min, List, [], ◌∷◌, ◌++◌, drop, length, replicate}
use Rattle.std.specs.List.{flat_map}
use Rattle.keeper.specs.declared.table.TableKeeper.{TableKeeper}
use Rattle.keeper.specs.contracts.table.TableKeeperRegisters.TheImpl.{ghosts as table}
use Rattle.keeper.specs.Meaning.{Meaning, tabled}
use Rattle.charge.specs.Charges.{Charge}
use Rattle.rules.specs.declared.rows.Row.{Row}
use Rattle.rules.specs.Law.{RunLaw, Start}
use Rattle.rules.specs.Runs.{Keepers, Response, Snapshot}
use Rattle.report.specs.declared.faults.SheetFault.TheVariants.{LongSheet}
use Rattle.report.specs.declared.lines.ReportLine.TheVariants.{Refused}
use Rattle.report.specs.Parsed.{code, parsed_lines, request_in, row_in}
use Rattle.report.specs.Reports.{report_of, too_long}
use Rattle.report.specs.Texts.{report_text}

-- a table of empty registers: one for each place, 1,024 at most
abbrev pub emptied : ℕ → Meaning
emptied places = tabled (replicate {A = ℕ} (min places 1024) 0)

-- a day starts from a sheet's rows, a charge rule, and so many places for money and for goods
abbrev pub day_start : ℕ → Charge → ℕ → ℕ → List Row → Start
day_start top charge money goods rows = record { rows = rows; top = top; charge = charge; money = emptied money; goods = emptied goods }

-- a table keeper that is opened over a list
pub record Opened (t : TableKeeper) (list : List ℕ) : Type 0 where
  pub registers : t.registers ≡ min (length list) 1024
  pub places : t.places.now ≡ replicate t.registers 0 ++ drop t.registers list

-- a list that had places for registers: the amounts in these, and beyond them what was there
abbrev pub list_after : List ℕ → List ℕ → List ℕ
list_after amounts places = amounts ++ drop (min (length places) 1024) places

module _ (top : ℕ) (charge : Charge) (money goods sheet : List ℕ) where
  -- a day that is run, over tables opened over the two lists: it keeps the law of whole runs, this is the text of its report, and the lists end with the ledger's amounts
  pub record DayRun (text money' goods' : List ℕ) : Type 0 where
    pub first : Keepers TableKeeper TableKeeper
    pub last : Keepers TableKeeper TableKeeper
    pub money_opened : Opened first.money money
    pub goods_opened : Opened first.goods goods
    pub responses : List Response
    pub end : Snapshot
    pub law : RunLaw table table (day_start top charge (length money) (length goods) (flat_map row_in (parsed_lines sheet))) first (flat_map request_in (parsed_lines sheet)) responses end last
    pub written : text ≡ report_text (report_of sheet responses end.ledger)
    pub money_left : money' ≡ list_after end.ledger.money money
    pub goods_left : goods' ≡ list_after end.ledger.goods goods

  -- a sheet that is too long is refused whole, and the lists are as they were
  abbrev pub DayReportedIf : List ℕ → List ℕ → List ℕ → Bool → Type 0
  DayReportedIf text money' goods' true = (text ≡ report_text (Refused 0 (code LongSheet) ∷ [])) × (money' ≡ money) × (goods' ≡ goods)
  DayReportedIf text money' goods' false = DayRun text money' goods'

  abbrev pub DayReported : List ℕ → List ℕ → List ℕ → Type 0
  DayReported text money' goods' = DayReportedIf text money' goods' (too_long sheet)
