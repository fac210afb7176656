use Rattle.std.proofs.Common.{◌≡◌, true, false, w64, sym, ap, rules, ◌∙◌}
use Rattle.std.proofs.lemmas.Bool.{cond-true, cond-false}
use Rattle.std.proofs.lemmas.Int.{to_z-of_z}
use Rattle.rules.specs.declared.rows.Row.{Row}
use Rattle.rules.specs.Holds.{holds_goods}
use Rattle.rules.specs.Limits.{Ledger, free_goods, free_position, trading}
use Rattle.rules.specs.Orders.{is_in_goods}
use Rattle.section.specs.Views.{ledger_of}
use Rattle.section.proofs.section.Section.order_limit.Goals as goal

pub returns-then-is_in_goods : goal.returns-then-is_in_goods
returns-then-is_in_goods g c =
    let a = c.args in
    let b : Ledger = ledger_of trading g.R.ChargeRule a.self.now a.rule.now (g.M.Registers.meaning a.money.now).amounts (g.G.Registers.meaning a.goods.now).amounts in
    let o = a.order.now in
    let goods : is_in_goods b o ≡ true = ap (λ (r : Row). holds_goods r.kind o.side) (sym c.requires.row) ∙ sym c.is_in_goods.ensures ∙ c.if-is_in_goods.true in
    to_z-of_z w64 c.free_goods.result (search rules) ∙ c.free_goods.ensures ∙ ap (λ m. free_goods b m o.instrument) c.requires.member ∙ sym (cond-true _ _ _ goods)

pub returns-else-is_in_goods : goal.returns-else-is_in_goods
returns-else-is_in_goods g c =
    let a = c.args in
    let b : Ledger = ledger_of trading g.R.ChargeRule a.self.now a.rule.now (g.M.Registers.meaning a.money.now).amounts (g.G.Registers.meaning a.goods.now).amounts in
    let o = a.order.now in
    let money : is_in_goods b o ≡ false = ap (λ (r : Row). holds_goods r.kind o.side) (sym c.requires.row) ∙ sym c.is_in_goods.ensures ∙ c.if-is_in_goods.false in
    to_z-of_z w64 c.free_money.result (search rules) ∙ c.free_money.ensures ∙ ap (free_position b) c.requires.member ∙ sym (cond-false _ _ _ money)
