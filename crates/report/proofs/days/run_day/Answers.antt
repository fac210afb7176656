use Rattle.std.proofs.Common.{◌≡◌, rules}
use Rattle.report.proofs.Tables.{Tables, day_refused, day_reported, day_run, each_ok}
use Rattle.report.proofs.days.run_day.Goals as goal

pub returns-then-sheet-gt-MAX_SHEET_BYTES-clause-ok : goal.returns-then-sheet-gt-MAX_SHEET_BYTES-clause-ok
returns-then-sheet-gt-MAX_SHEET_BYTES-clause-ok g c =
    each_ok c.refuse_whole.result c.refuse_whole.ensures (λ text is. day_refused _ _ _ _ c.args.sheet.now _ c.if-sheet-gt-MAX_SHEET_BYTES.true is)

pub returns-clause-ok : goal.returns-clause-ok
returns-clause-ok g c =
    let a = c.args in
    let money = c.open-money in
    let goods = c.open-goods in
    let first : Tables = record { money = money.result; goods = goods.result } in
    let last : Tables = record { money = c.run.new.money; goods = c.run.new.goods } in
    let short = c.if-sheet-gt-MAX_SHEET_BYTES.false in
    let ran = day_run (g.R.ChargeRule.top a.rule) (g.R.ChargeRule.charge a.rule) a.money.now a.goods.now a.sheet.now first (record { registers = money.ensures.count; places = money.ensures.places }) (record { registers = goods.ensures.count; places = goods.ensures.places })
    money.ensures.amounts goods.ensures.amounts _ last short (c.run.ensures a.sheet.now short c.in_ok-ready.ensures) in
    let of_money : last.money.places.ghost_name ≡ _ = ran.1.money in
    let of_goods : last.goods.places.ghost_name ≡ _ = ran.1.goods in
    day_reported _ _ a.money.now a.goods.now a.sheet.now _ _ _ last short ran.0 (search rules) (search rules)
