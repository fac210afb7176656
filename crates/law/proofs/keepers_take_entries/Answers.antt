use Rattle.std.proofs.Common.{[], append-nil}
use Rattle.law.proofs.Lent.{kept_by}
use Rattle.law.proofs.keepers_take_entries.Goals as goal

pub returns : goal.returns
returns g c =
    λ o first requests responses end last law.
    let stands = law.lawful.always law.steps [] (append-nil law.steps) in
    kept_by g.M.Registers g.G.Registers o first law.steps end last law.meant law.ended stands.money_kept stands.goods_kept law.money_first law.goods_first
