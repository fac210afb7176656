-- Lists whose numbers rise: what a search finds there, and what keeps them so.
use Rattle.std.proofs.Common.{◌≡◌, ℕ, zero, suc, ◌<◌, ◌≤◌, Bool, true, false, cond, ◌||◌, eqb, List, [], ◌∷◌, ◌++◌, length, get_or, map, filter, set, not, Some, None, Option, Result, Ok, Err, MatchOption, refl, sym, ap, subst, ◌∙◌, ⊎_elim, ◌==◌, ◌&&◌, is_some, fold, arith}
use Rattle.std.specs.List.{HoldsAt, remove}
use Rattle.std.specs.List.Sorted.{IsBinarySearchResult, IsNonDecreasingBy, IsPartitionPoint, IsSearchInRange}
use Rattle.std.specs.declared.cmp.Ordering.TheVariants.{Less, Equal, Greater}
use Rattle.std.specs.Result.{result_ok}
use Rattle.std.specs.Ordering.{nat_cmp, ordering_index}
use Rattle.std.proofs.lemmas.Cmp.{ranked}
use Rattle.std.proofs.lemmas.Bool.{cases_lt, cond-true, cond-false, eq-eqb, ne_eqb}
use Rattle.std.proofs.lemmas.Bool.Decides.{nat_tests}
use Rattle.std.proofs.lemmas.List.{get_or_default, get_or-map, length-map}
use Rattle.std.proofs.lemmas.Option.{slice_get_cases}
use Rattle.std.proofs.lemmas.List.Elements.{All-filter, All-get_or, All-map, All-push, All-weaker}
use Rattle.std.proofs.lemmas.List.Kept.{AllPairs-filter}
use Rattle.std.proofs.lemmas.List.Quantifiers.{all_pairs_push}
use Rattle.rules.specs.Terms.{admits, admitted, found, found_row, good_row, in_force}
use mathlib.Core.Bool.{true≢false}
use Rattle.rules.specs.declared.orders.LiveOrder.{LiveOrder}
use Rattle.rules.specs.declared.contracts.Trade.{Trade}
use Rattle.rules.specs.declared.contracts.State.{State}
use Rattle.rules.specs.declared.contracts.Contract.{Contract}
use Rattle.rules.specs.Orders.{lowered_by}
use Rattle.rules.specs.Effects.{in_state, rerated, settled, with_state}
use Rattle.rules.specs.Limits.{found_contract}
use Rattle.rules.specs.declared.rows.Row.{Row}
use Rattle.std.specs.Bool.{⊤}
use Rattle.section.specs.Numbers.{Distinct, IndexOf, IsIndexOf, Rising, other}
use Rattle.section.proofs.Lists.{changed}

module _ {X : Type 0} (number : X → ℕ) where
  abbrev Below : X → X → Type 0
  Below x y = number x < number y

  module _ (n : ℕ) where
    -- no element has the number n
    abbrev Absent : List X → Type 0
    Absent xs = (j : ℕ) (d : X) → j < length xs → number (get_or xs j d) ≡ n → ⊥

    rest : (x : X) (xs : List X) → Absent (x ∷ xs) → Absent xs
    rest x xs none j d lt = none (suc j) d (omega (arith, lt))

    pub found_none : (xs : List X) → Absent xs → found number n xs ≡ None
    found_none [] none = refl
    found_none (x ∷ xs) none = cond-false _ _ _ (ne_eqb _ n (none 0 x (omega arith))) ∙ found_none xs (rest x xs none)

    pub others_none : (xs : List X) → Absent xs → filter (other number n) xs ≡ xs
    others_none [] none = refl
    others_none (x ∷ xs) none = ap (λ t. cond (not t) (x ∷ filter (other number n) xs) (filter (other number n) xs)) (ne_eqb _ n (none 0 x (omega arith))) ∙ ap (λ ys. x ∷ ys) (others_none xs (rest x xs none))

    pub changed_none : (f : X → X) (xs : List X) → Absent xs → map (changed number n f) xs ≡ xs
    changed_none f [] none = refl
    changed_none f (x ∷ xs) none = ap (λ t. cond t (f x) x ∷ map (changed number n f) xs) (ne_eqb _ n (none 0 x (omega arith))) ∙ ap (λ ys. x ∷ ys) (changed_none f xs (rest x xs none))

    -- only the one at k has it
    pub record Only (xs : List X) (k : ℕ) (d : X) : Type 0 where
      pub inside : k < length xs
      pub has : number (get_or xs k d) ≡ n
      pub below : (j : ℕ) → j < k → number (get_or xs j d) ≡ n → ⊥
      pub above : (j : ℕ) (e : X) → k < j → j < length xs → number (get_or xs j e) ≡ n → ⊥

    first : (x : X) (xs : List X) (d : X) → Only (x ∷ xs) 0 d → Absent xs
    first x xs d only j e lt = only.above (suc j) e (omega arith) (omega (arith, lt))

    later : (x : X) (xs : List X) (k : ℕ) (d : X) → Only (x ∷ xs) (suc k) d → Only xs k d
    later x xs k d only = record {
      inside = omega (arith, only.inside);
      has = only.has;
      below = λ j lt. only.below (suc j) (omega (arith, lt));
      above = λ j e lt h. only.above (suc j) e (omega (arith, lt)) (omega (arith, h));
    }

    pub found_at : (xs : List X) (k : ℕ) (d : X) → Only xs k d → found number n xs ≡ Some (get_or xs k d)
    found_at [] k d only = absurd (omega (arith, only.inside))
    found_at (x ∷ xs) zero d only = cond-true _ _ _ (eq-eqb _ n only.has)
    found_at (x ∷ xs) (suc k) d only = cond-false _ _ _ (ne_eqb _ n (only.below 0 (omega arith))) ∙ found_at xs k d (later x xs k d only)

    pub others_at : (xs : List X) (k : ℕ) (d : X) → Only xs k d → filter (other number n) xs ≡ remove xs k
    others_at [] k d only = absurd (omega (arith, only.inside))
    others_at (x ∷ xs) zero d only = ap (λ t. cond (not t) (x ∷ filter (other number n) xs) (filter (other number n) xs)) (eq-eqb _ n only.has) ∙ others_none xs (first x xs d only)
    others_at (x ∷ xs) (suc k) d only = ap (λ t. cond (not t) (x ∷ filter (other number n) xs) (filter (other number n) xs)) (ne_eqb _ n (only.below 0 (omega arith))) ∙ ap (λ ys. x ∷ ys) (others_at xs k d (later x xs k d only))

    pub changed_at : (f : X → X) (xs : List X) (k : ℕ) (d : X) → Only xs k d → map (changed number n f) xs ≡ set xs k (f (get_or xs k d))
    changed_at f [] k d only = absurd (omega (arith, only.inside))
    changed_at f (x ∷ xs) zero d only = ap (λ t. cond t (f x) x ∷ map (changed number n f) xs) (eq-eqb _ n only.has) ∙ ap (λ ys. f x ∷ ys) (changed_none f xs (first x xs d only))
    changed_at f (x ∷ xs) (suc k) d only = ap (λ t. cond t (f x) x ∷ map (changed number n f) xs) (ne_eqb _ n (only.below 0 (omega arith))) ∙ ap (λ ys. x ∷ ys) (changed_at f xs k d (later x xs k d only))

  -- a list and a last number that are equal to such
  same : (xs ys : List X) (last now : ℕ) → ys ≡ xs → now ≡ last → Rising number xs last → Rising number ys now
  same xs ys last now is so up = subst (λ zs. Rising number zs now) (sym is) (subst (λ n. Rising number xs n) (sym so) up)

  -- one more, above the last
  pub rising_push : (xs ys : List X) (last now : ℕ) (y : X) → ys ≡ xs ++ y ∷ [] → now ≡ number y → last < number y → Rising number xs last → Rising number ys now
  rising_push xs ys last now y is so above up =
      let below : (k : ℕ) (d : X) → k < length xs → number (get_or xs k d) < number y = λ k d h. let at = All-get_or (λ x. number x ≤ last) xs k d h up.1 in omega (arith, at, above) in
      let under = All-weaker (λ x. number x ≤ last) (λ x. number x ≤ number y) (λ x h. omega (arith, h, above)) xs up.1 in
      same _ _ _ _ is so (all_pairs_push Below xs y up.0 below, All-push (λ x. number x ≤ number y) xs y under (omega arith))

  -- some of them
  pub rising_kept : (keep : X → Bool) (xs ys : List X) (last now : ℕ) → ys ≡ filter keep xs → now ≡ last → Rising number xs last → Rising number ys now
  rising_kept keep xs ys last now is so up = same _ _ _ _ is so (AllPairs-filter Below keep xs up.0, All-filter keep (λ x. number x ≤ last) xs up.1)

  -- each changed, but for its number
  pub rising_mapped : (f : X → X) → ((x : X) → number (f x) ≡ number x) → (xs ys : List X) (last now : ℕ) → ys ≡ map f xs → now ≡ last → Rising number xs last → Rising number ys now
  rising_mapped f keeps xs ys last now is so up =
      let at : (i : ℕ) (d : X) → i < length xs → number (get_or (map f xs) i d) ≡ number (get_or xs i d) = λ i d h. ap number (get_or-map f xs i d d h) ∙ keeps _ in
      let long = length-map xs f in
      let under = All-weaker (λ x. number x ≤ last) (λ x. number (f x) ≤ last) (λ x h. let e = keeps x in omega (arith, h, e)) xs up.1 in
      same _ _ _ _ is so (
        λ i j d lt h. (let a = at i d (omega (arith, lt, h, long)) in let b = at j d (omega (arith, h, long)) in let c = up.0 i j d lt (omega (arith, h, long)) in omega (arith, a, b, c)),
        All-map (λ x. number x ≤ last) f xs under,
      )

  module _ (xs : List X) (last n : ℕ) (up : Rising number xs last) where
    -- one that has the number is the only one
    pub only_at : (k : ℕ) (d : X) → k < length xs → number (get_or xs k d) ≡ n → Only n xs k d
    only_at k d h e = record {
      inside = h;
      has = e;
      below = λ j lt same. (let less = up.0 j k d lt h in omega (arith, less, same, e));
      above = λ j f lt inside same. (let more = up.0 k j f lt inside in let here = ap number (get_or_default xs k f d h) in omega (arith, more, same, e, here));
    }

    -- what a binary search by the number finds in what is lent of them
    comparisons_rise : IsNonDecreasingBy (λ x. ordering_index (nat_cmp (number x) n)) xs
    comparisons_rise i j d le h =
        let rise : number (get_or xs i d) ≤ number (get_or xs j d) = grind (arith, up.0 i j d, λ (same : i ≡ j). ap (λ k. number (get_or xs k d)) same) in
        grind (arith, nat_tests)

    pub at_index : (k : ℕ) → k < length xs → HoldsAt (λ x. number x ≡ n) xs k → IsIndexOf number n xs k
    at_index k h has =
        record {
          inside = h;
          has = has;
          first = ⊎_elim (λ s. found_at n xs k s.0 (only_at k s.0 h (has s.0)) ∙ ap Some s.3 ∙ sym s.2) (λ p. absurd (omega (arith, p.0))) (slice_get_cases xs k).1;
        }

    -- one that is at an index is changed there alone
    pub replaced_at : (f : X → X) (k : ℕ) (x : X) → IsIndexOf number n xs k → x ≡ get_or xs k x → (ys : List X) → ys ≡ set xs k (f x) → ys ≡ map (changed number n f) xs
    replaced_at f k x at is ys now = now ∙ ap (λ y. set xs k (f y)) is ∙ sym (changed_at n f xs k x (only_at k x at.inside (at.has x)))

    pub searched : (r : Result ℕ ℕ) (lent : List X) → lent ≡ xs → IsSearchInRange r (length lent) → IsBinarySearchResult (λ y. nat_cmp (number y) n) lent r → IndexOf number n xs (result_ok r)
    searched (Ok k) lent is inside equal = at_index k (omega (arith, inside, ap length is)) (λ d. ranked _ n _ (sym (subst (λ l. nat_cmp (number (get_or l k d)) n ≡ Equal) is (equal d))))
    searched (Err k) lent is inside parts =
        let parted : IsPartitionPoint (λ y. nat_cmp (number y) n ≡ Less) (λ y. nat_cmp (number y) n ≡ Greater) xs k =
        subst (λ l. IsPartitionPoint (λ y. nat_cmp (number y) n ≡ Less) (λ y. nat_cmp (number y) n ≡ Greater) l k) is (parts (subst (λ l. IsNonDecreasingBy (λ y. ordering_index (nat_cmp (number y) n)) l) (sym is) comparisons_rise)) in
        found_none n xs (λ j d h here. ⊎_elim (λ (below : j < k). let less : number (get_or xs j d) < n = ranked _ n _ (sym (parted.0 j d (omega arith) below)) in absurd (omega (arith, less, here))) (λ (above : k ≤ j). let more : n < number (get_or xs j d) = ranked _ n _ (sym (parted.1 j d above h)) in absurd (omega (arith, more, here))) (cases_lt j k))

-- lists in which no two have one number
module _ {X : Type 0} (number : X → ℕ) where
  abbrev Apart : X → X → Type 0
  Apart x y = number x ≡ number y → ⊥

  no_some : (x : X) → Some x ≡ None → ⊥
  no_some x h = subst (λ o. MatchOption o ⊥ (λ _. ⊤)) h tt

  left : (b : Bool) (x : X) (o : Option X) → cond b (Some x) o ≡ None → o ≡ None
  left true x o h = absurd (no_some x h)
  left false x o h = h

  pub none_found : (n : ℕ) (xs : List X) → found number n xs ≡ None → Absent number n xs
  none_found n [] none j d lt same = omega (arith, lt)
  none_found n (x ∷ xs) none zero d lt same = no_some x (sym (cond-true _ _ _ (eq-eqb _ n same)) ∙ none)
  none_found n (x ∷ xs) none (suc j) d lt same = none_found n xs (left (number x == n) x (found number n xs) none) j d (omega (arith, lt)) same

  pub distinct_push : (xs : List X) (y : X) → found number (number y) xs ≡ None → Distinct number xs → Distinct number (xs ++ y ∷ [])
  distinct_push xs y none up = all_pairs_push Apart xs y up (none_found (number y) xs none)

  -- each changed, but for its number
  pub distinct_mapped : (f : X → X) → ((x : X) → number (f x) ≡ number x) → (xs ys : List X) → ys ≡ map f xs → Distinct number xs → Distinct number ys
  distinct_mapped f keeps xs ys is up =
      let at : (i : ℕ) (d : X) → i < length xs → number (get_or (map f xs) i d) ≡ number (get_or xs i d) = λ i d h. ap number (get_or-map f xs i d d h) ∙ keeps _ in
      let long = length-map xs f in
      subst (λ zs. Distinct number zs) (sym is) (λ i j d lt h same. (let a = at i d (omega (arith, lt, h, long)) in let b = at j d (omega (arith, h, long)) in up i j d lt (omega (arith, h, long)) (sym a ∙ same ∙ b)))

  -- one that has a number is what a search for it finds
  pub distinct_found : (n : ℕ) (xs : List X) → Distinct number xs → (k : ℕ) (d : X) → k < length xs → number (get_or xs k d) ≡ n → found number n xs ≡ Some (get_or xs k d)
  distinct_found n xs up k d h e =
      let only : Only number n xs k d = record {
        inside = h;
        has = e;
        below = λ j lt same. up j k d lt h (same ∙ sym e);
        above = λ j f lt inside same. (let here = ap number (get_or_default xs k f d h) in up k j f lt inside (omega (arith, same, e, here)));
      } in
      found_at number n xs k d only

-- a trade and an event leave the numbers
changed_number : {X : Type 0} (number : X → ℕ) (t : Bool) (x y : X) → number x ≡ number y → number (cond t x y) ≡ number y
changed_number number true x y e = e
changed_number number false x y e = refl

pub lowered_number : (t : Trade) (o : LiveOrder) → (lowered_by t o).order.number ≡ o.order.number
lowered_number t o = changed_number (λ o. o.order.number) (eqb o.order.number t.buy || eqb o.order.number t.sell) _ o refl

pub in_state_number : (n : ℕ) (s : State) (k : Contract) → (in_state n s k).trade.contract ≡ k.trade.contract
in_state_number n s k = changed_number (λ k. k.trade.contract) (eqb k.trade.contract n) _ k refl

pub rerated_number : (i rate : ℕ) (r : Row) → (rerated i rate r).number ≡ r.number
rerated_number i rate r = changed_number (λ r. r.number) (eqb r.number i) _ r refl

-- no two rows in force have one number
module _ (top : ℕ) where
  none_in : (b : Bool) (o : Option Row) → (b && not (is_some o)) ≡ true → o ≡ None
  none_in b None e = refl
  none_in true (Some r) e = absurd (true≢false (sym e))
  none_in false (Some r) e = absurd (true≢false (sym e))

  admitted_distinct : (rows : List Row) (r : Row) → Distinct (λ r. r.number) rows → (b : Bool) → admits top rows r ≡ b → Distinct (λ r. r.number) (cond b (rows ++ r ∷ []) rows)
  admitted_distinct rows r up true e = distinct_push (λ r. r.number) rows r (none_in (good_row top r) (found_row r.number rows) e) up
  admitted_distinct rows r up false e = up

  fold_distinct : (listed rows : List Row) → Distinct (λ r. r.number) listed → Distinct (λ r. r.number) (fold (admitted top) listed rows)
  fold_distinct listed [] up = up
  fold_distinct listed (r ∷ rows) up = fold_distinct (admitted top listed r) rows (admitted_distinct listed r up (admits top listed r) refl)

  pub in_force_distinct : (rows : List Row) → Distinct (λ r. r.number) (in_force top rows)
  in_force_distinct rows = fold_distinct [] rows (λ i j d lt h same. omega (arith, h))

-- an event of a contract that is not there changes none
pub settled_none : (n : ℕ) (s : Option State) (contracts : List Contract) → found_contract n contracts ≡ None → settled n s contracts ≡ contracts
settled_none n None contracts none = others_none (λ k. k.trade.contract) n contracts (none_found (λ k. k.trade.contract) n contracts none)
settled_none n (Some s) contracts none = changed_none (λ k. k.trade.contract) n (with_state s) contracts (none_found (λ k. k.trade.contract) n contracts none)
