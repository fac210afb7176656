-- Rows in force: their numbers are low, and a rating changes nothing of them but the rate.
use Rattle.std.proofs.Common.{◌≡◌, ℕ, ◌≤◌, true, not, ◌&&◌, eqb, leb, List, [], ◌∷◌, map, is_some, fold, sym, refl, ap, ◌∙◌, inl, inr, arith}
use Rattle.std.specs.List.{AllByRecursion as All}
use Rattle.std.proofs.ByRecursion.{All-push, All-map, All-weaker}
use Rattle.std.proofs.lemmas.Bool.{cases_Bool, and_parts, leb-true}
use Rattle.rules.specs.declared.rows.Row.{Row}
use Rattle.rules.specs.Terms.{found_row, good_row, admitted, in_force}
use Rattle.rules.specs.Holds.{payment_to_date}
use Rattle.rules.specs.Limits.{row_of, no_row}
use Rattle.rules.specs.Effects.{rerated}
use Rattle.rules.proofs.Payments.{paid_at_any_rate}
use Rattle.law.proofs.Lists.{found_has}

-- ---- all but the rate

abbrev pub unrated : Row → Row
unrated r = record { number = r.number; kind = r.kind; weight = r.weight; funding = r.funding; delivery = r.delivery; rate = 0 }

-- two rows that differ in their rate at most
abbrev pub Alike : Row → Row → Type 0
Alike r s = unrated r ≡ unrated s

-- what does not look at the rate is the same of both
pub alike : {A : Type 0} (f : Row → A) → ((r : Row) → f (unrated r) ≡ f r) → (r s : Row) → Alike r s → f r ≡ f s
alike f h r s e = sym (h r) ∙ ap f e ∙ h s

pub paid_alike : (r s : Row) → Alike r s → (price kg : ℕ) → payment_to_date r price kg ≡ payment_to_date s price kg
paid_alike r s e price kg = alike (λ x. payment_to_date x price kg) (λ x. paid_at_any_rate x 0 price kg) r s e

pub rerated_alike : (i j rate : ℕ) (rs : List Row) → Alike (row_of (map (rerated j rate) rs) i) (row_of rs i)
rerated_alike i j rate [] = refl
rerated_alike i j rate (r ∷ rs) =
    let q = rerated_alike i j rate rs in
    elim (cases_Bool (eqb r.number j)) [
      | inl e ↦ elim (cases_Bool (eqb r.number i)) [ inl f ↦ simp (e, f) | inr f ↦ simp (e, f) q ]
      | inr e ↦ elim (cases_Bool (eqb r.number i)) [ inl f ↦ simp (e, f) | inr f ↦ simp (e, f) q ]
    ]

-- ---- numbers up to 15

abbrev pub Low : Row → Type 0
Low r = r.number ≤ 15

low_admitted : (top : ℕ) (rows : List Row) (r : Row) → All Low rows → All Low (admitted top rows r)
low_admitted top rows r a =
    elim (cases_Bool (good_row top r && not (is_some (found_row r.number rows)))) [
      | inl e ↦ rw e (All-push Low rows r a (leb-true r.number 15 (and_parts (leb r.number 15) _ (and_parts (good_row top r) (not (is_some (found_row r.number rows))) e).0).0))
      | inr e ↦ rw e a
    ]

low_folded : (top : ℕ) (kept rows : List Row) → All Low kept → All Low (fold (admitted top) kept rows)
low_folded top kept [] a = a
low_folded top kept (r ∷ rows) a = low_folded top (admitted top kept r) rows (low_admitted top kept r a)

pub low_in_force : (top : ℕ) (rows : List Row) → All Low (in_force top rows)
low_in_force top rows = low_folded top [] rows tt

pub low_rerated : (i rate : ℕ) (rows : List Row) → All Low rows → All Low (map (rerated i rate) rows)
low_rerated i rate rows a =
    All-map Low (rerated i rate) rows (All-weaker Low (λ r. Low (rerated i rate r)) (λ r h. elim (cases_Bool (eqb r.number i)) [ inl e ↦ rw e h | inr e ↦ rw e h ]) rows a)

pub low_row : (rows : List Row) (i : ℕ) → All Low rows → is_some (found_row i rows) ≡ true → i ≤ 15
low_row rows i a h = let k = found_has (λ (r : Row). r.number) Low i rows no_row h a in omega (arith, k.0, k.1)
