-- The limits that a section's rows, orders and contracts keep, so that no sum or product of theirs overflows. Assumes nothing.
use Rattle.std.specs.Prelude.{ℕ, Bool, true, ◌&&◌, Some, None, Option, nat_le}
use Rattle.rules.specs.declared.rows.Row.{Row}
use Rattle.rules.specs.declared.orders.LiveOrder.{LiveOrder}
use Rattle.rules.specs.declared.contracts.State.{State}
use Rattle.rules.specs.declared.contracts.State.TheVariants.{Unfunded, Funded}
use Rattle.rules.specs.declared.contracts.Contract.{Contract}

-- the kilograms of no contract, and the kopecks of its value, are above these
abbrev pub heaviest : ℕ
heaviest = 1000000000

abbrev pub dearest : ℕ
dearest = 10000000000000

abbrev pub fit_row : Row → Bool
fit_row r = nat_le r.number 15 && (nat_le r.weight 100000 && (nat_le r.funding 90 && nat_le r.delivery 90))

abbrev pub fit_order : LiveOrder → Bool
fit_order o = nat_le o.order.member 63 && (nat_le o.order.instrument 15 && (nat_le o.order.price 1000000000 && nat_le o.rest 10000))

abbrev pub fit_state : State → Bool
fit_state Unfunded = true
fit_state (Funded kg paid) = nat_le kg heaviest

-- the state that an event leads to, or none
abbrev pub fit_next : Option State → Bool
fit_next None = true
fit_next (Some s) = fit_state s

abbrev pub fit_contract : Contract → Bool
fit_contract k =
    nat_le k.buyer 63 && (nat_le k.seller 63 && (nat_le k.instrument 15 && (nat_le k.trade.price 1000000000 && (nat_le k.trade.lots 10000
    && (nat_le k.delivery 36590 && fit_state k.state)))))

-- one order or one contract holds no more of a register: the two highest charges, of a contract's buyer and its seller
abbrev pub most_of_one : ℕ
most_of_one = 200000000000000

-- no more is held of a register by 256 orders, or by 256 contracts
abbrev pub most_of_list : ℕ
most_of_list = 51200000000000000

-- and no more by both together
abbrev pub most_held : ℕ
most_held = 102400000000000000
