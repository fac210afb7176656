use Rattle.std.proofs.Common.{◌≡◌, ◌∷◌, length, sym, refl, ap, ◌∙◌, arith, ltb-false, ltb-true}
use Rattle.sheet.specs.Sheets.{lines_of}
use Rattle.sheet.proofs.LineEnds.{no_line, next_line}
use Rattle.sheet.proofs.feeds.LinesIterator.next.Goals as goal

pub returns-in_default-clause-steps : goal.returns-in_default-clause-steps
returns-in_default-clause-steps c = let n = no_line c.args.self.now.left.now (omega (arith, ltb-true)) in (n, n)

pub returns : goal.returns
returns c =
    let next : lines_of c.args.self.now.left.now ≡ c.cut.result.0.now ∷ lines_of c.unwrap_or-self.result.now =
    next_line c.args.self.now.left.now c.cut.result.0.now c.cut.result.1 _ (omega (arith, ltb-false)) refl c.cut.ensures
    ∙ ap (λ t. c.cut.result.0.now ∷ lines_of t.now) (sym c.unwrap_or-self.ensures) in
    record { steps = next; goes = record { on = λ _. (tt, tt, omega (arith, ap length next)); keeps = tt; rests = λ _. tt } }
