-- The members at the end of a report, one number on.
use Rattle.std.proofs.Common.{◌≡◌, ℕ, suc, ◌+◌, Bool, true, false, cond, List, [], ◌∷◌, ◌++◌, Some, None, Option, sym, refl, ap, ◌∙◌, subst, arith}
use Rattle.std.proofs.lemmas.List.{append-nil}
use Rattle.rules.specs.Limits.{Ledger}
use Rattle.report.specs.Reports.{is_listed, member_of, members_below}
use Rattle.report.specs.Runs.{Adds}
use Rattle.report.specs.Texts.{line_text, report_text}
use Rattle.report.specs.declared.lines.ReportLine.{ReportLine}
use Rattle.report.proofs.Adding.{nothing, text_more}

listed_line : (t : Bool) (x l : ReportLine) → cond t (Some x) None ≡ Some l → cond t (x ∷ []) [] ≡ l ∷ []
listed_line true x l e = let is : x ≡ l = cc in ap (λ y. y ∷ []) is
listed_line false x l e = cc

no_line : (t : Bool) (x : ReportLine) → ((l : ReportLine) → cond t (Some x) None ≡ Some l → ⊥) → cond t (x ∷ []) [] ≡ []
no_line true x none = absurd (none x refl)
no_line false x none = refl

module _ (b : Ledger) (before : List ℕ) where
  -- the members below a number are reported
  abbrev pub Below : ℕ → List ℕ → Type 0
  Below k text = Adds before (report_text (members_below b k)) text

  pub below_none : Below 0 before
  unfolding members_below
  below_none = nothing before before refl

  below_next : (k : ℕ) (text : List ℕ) → Adds before (report_text (members_below b k ++ cond (is_listed b k) (member_of b k ∷ []) [])) text → Below (k + 1) text
  unfolding members_below
  below_next k text adds = let at : suc k ≡ k + 1 = omega arith in subst (λ i. Below i text) at adds

  module _ (k : ℕ) (text : List ℕ) (so : Below k text) (o : Option ReportLine) (is : o ≡ cond (is_listed b k) (Some (member_of b k)) None) where
    pub below_more : (l : ReportLine) → o ≡ Some l → (text' : List ℕ) → Adds text (line_text l) text' → Below (k + 1) text'
    below_more l some text' adds =
        below_next k text' (subst (λ ls. Adds before (report_text (members_below b k ++ ls)) text') (sym (listed_line (is_listed b k) (member_of b k) l (sym is ∙ some))) (text_more (members_below b k) l so adds))

    pub below_same : ((l : ReportLine) → o ≡ Some l → ⊥) → Below (k + 1) text
    below_same none =
        below_next k text (subst (λ ls. Adds before (report_text (members_below b k ++ ls)) text) (sym (no_line (is_listed b k) (member_of b k) (λ l e. none l (is ∙ e)))) (subst (λ ls. Adds before (report_text ls) text) (sym (append-nil (members_below b k))) so))
