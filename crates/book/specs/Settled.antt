-- The answers of a delivery and of a default. Assumes nothing.
use Rattle.std.specs.Prelude.{Ok, Err, Result}
use Rattle.rules.specs.declared.refusals.Refusal.{Refusal}
use Rattle.rules.specs.declared.requests.Answers.{Answers}
use Rattle.rules.specs.Answering.{two}
use Rattle.book.specs.declared.session.Delivered.{Delivered}
use Rattle.book.specs.declared.session.Penalty.{Penalty}

abbrev pub delivered_of : Answers → Delivered
delivered_of a = record { kilograms = a.first; payment = a.second }

abbrev pub penalty_of : Answers → Penalty
penalty_of a = record { paid = a.first; unpaid = a.second }

abbrev pub answers_of_delivery : Result Delivered Refusal → Result Answers Refusal
answers_of_delivery (Ok d) = Ok (two d.kilograms d.payment)
answers_of_delivery (Err e) = Err e

abbrev pub answers_of_default : Result Penalty Refusal → Result Answers Refusal
answers_of_default (Ok p) = Ok (two p.paid p.unpaid)
answers_of_default (Err e) = Err e
