use Rattle.std.proofs.Common.{sym, ap, ◌∙◌}
use Rattle.sheet.specs.Forms.{number_in}
use Rattle.sheet.specs.Tokens.{field_text}
use Rattle.sheet.proofs.Numbers.{no_number, number_is}
use Rattle.sheet.proofs.forms.U64FieldValue.read.Goals as goal

pub returns-in-Number : goal.returns-in-Number
returns-in-Number c = number_is _ _ c.number.ensures ∙ sym (ap (λ f. number_in (field_text f)) c.in-Number.is)

pub returns-in_default : goal.returns-in_default
returns-in_default c = sym (no_number c.args.token.field c.args.token.classified c.in_default.not-Number)
