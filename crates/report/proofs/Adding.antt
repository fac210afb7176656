-- Texts of reports, piece after piece.
use Rattle.std.proofs.Common.{◌≡◌, ℕ, List, [], ◌∷◌, ◌++◌, sym, refl, ap, ◌∙◌, subst}
use Rattle.std.proofs.lemmas.List.{append-nil, append_assoc, flat_map_more}
use Rattle.report.specs.Runs.{Adds}
use Rattle.report.specs.Texts.{line_text, report_text}
use Rattle.report.specs.declared.lines.ReportLine.{ReportLine}

-- one piece of text after another, and none
pub more : {s t u xs ys : List ℕ} → Adds s xs t → Adds t ys u → Adds s (xs ++ ys) u
more {s} {t} {u} {xs} {ys} p q = record { all = q.all ∙ ap (λ l. l ++ ys) p.all ∙ append_assoc s xs ys }

pub nothing : (s t : List ℕ) → t ≡ s → Adds s [] t
nothing s t same = record { all = same ∙ sym (append-nil s) }

-- a line more of the text
pub text_more : {before text text' : List ℕ} (lines : List ReportLine) (l : ReportLine) → Adds before (report_text lines) text → Adds text (line_text l) text' → Adds before (report_text (lines ++ l ∷ [])) text'
text_more {before} {text} {text'} lines l p q = subst (λ xs. Adds before xs text') (flat_map_more line_text [] lines l) (more p q)

pub text_both : (xs ys : List ReportLine) → report_text (xs ++ ys) ≡ report_text xs ++ report_text ys
text_both [] ys = refl
text_both (x ∷ xs) ys = ap (λ zs. line_text x ++ zs) (text_both xs ys) ∙ sym (append_assoc (line_text x) (report_text xs) (report_text ys))
