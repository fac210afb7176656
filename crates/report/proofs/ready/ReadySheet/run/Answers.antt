use Rattle.std.proofs.Common.{◌≡◌, List, string_bytes, refl, ap, rules}
use Rattle.law.proofs.Whole.{lawful_from}
use Rattle.rules.specs.declared.rows.Row.{Row}
use Rattle.rules.specs.Law.{opened, start}
use Rattle.rules.specs.Limits.{trading}
use Rattle.rules.specs.Runs.{Keepers, Snapshot}
use Rattle.sheet.specs.Cursors.{lines_left}
use Rattle.book.specs.Views.{seen}
use Rattle.report.specs.Reports.{ReportedText}
use Rattle.report.proofs.Whole.{book_behind, whole}
use Rattle.report.proofs.ready.ReadySheet.run.Goals as goal

pub returns : goal.returns
returns g c =
    λ sheet short ready.
    let a = c.args in
    let m = g.M.Registers in
    let k = g.G.Registers in
    let r = g.R.ChargeRule in
    let from = λ (xs : List Row). start m k r xs a.money.now a.goods.now a.rule in
    let own : Keepers g.row.M.Denot g.row.G.Denot = record { money = a.money.now; goods = a.goods.now } in
    let ran = c.run_section.result in
    let last : Keepers g.row.M.Denot g.row.G.Denot = record { money = ran.money.now; goods = ran.goods.now } in
    let lines = lines_left a.self.lines in
    let p : Snapshot = seen trading m k r a.self.section a.money.now a.goods.now a.rule in
    let first : p ≡ opened (from ready.rows) =
    ap (λ d. record { ledger = record { top = r.top a.rule; charge = r.charge a.rule; half = trading; section = d; money = (m.meaning a.money.now).amounts; goods = (k.meaning a.goods.now).amounts }; money = m.meaning a.money.now; goods = k.meaning a.goods.now }) ready.opened in
    let run = book_behind m k p _ lines a.self.report c.run_section.new.report (record { money = ran.money; goods = ran.goods }) c.run_section.ensures in
    let money : ran.money.ghost_name ≡ _ = run.1.money in
    let goods : ran.goods.ghost_name ≡ _ = run.1.goods in
    let done : ReportedText m k from own sheet (string_bytes c.into_text.result) last =
    whole m k from own sheet (λ rs. refl) (λ rs. refl) (λ rs. lawful_from m k r rs a.money.now a.goods.now a.rule (g.met.R.ChargeRule.splits a.rule)) ready.blank ready.no_text ready.no_lines
    ready.rows lines a.self.report ready.taken p first c.run_section.new.report last run.0 (string_bytes c.into_text.result) c.into_text.ensures short in
    search rules
