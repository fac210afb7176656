use Rattle.report.proofs.Tables.{each_ok}
use Rattle.console.proofs.run_sheet.Goals as goal

pub returns : goal.returns
returns c = each_ok c.run_day.result c.run_day.ensures.ok (λ text day. record { money = _; goods = _; day = day })
