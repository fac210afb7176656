-- What a run leaves in lent lists: the keepers accept the ledger's entries, and a type of keeper says what each does.
use Rattle.std.proofs.Common.{◌≡◌, ℕ, suc, ◌+◌, ◌<◌, List, [], ◌∷◌, ◌++◌, drop, length, take, set, Some, None, Option, sym, ap, ◌∙◌, subst, append_assoc, append-nil, arith}
use Rattle.std.specs.Option.{option_to_list}
use Rattle.std.proofs.lemmas.List.{drop-set-lt, take-append-drop, take_more_set}
use Rattle.keeper.specs.declared.keepers.Registers as registers
use Rattle.keeper.specs.declared.entries.Entry.{Entry}
use Rattle.keeper.specs.declared.journal.JournalKeeper.{JournalKeeper}
use Rattle.keeper.specs.declared.table.TableKeeper.{TableKeeper}
use Rattle.keeper.specs.Conducts.{JournalGoesOn, TableGoesOn}
use Rattle.keeper.specs.Meaning.{Conduct}
use Rattle.rules.specs.Runs.{GoesOn, Keepers, Meant, Snapshot, Step, feed, made, onward, reached}
use Rattle.rules.specs.Law.{Start, opened}
use Rattle.law.specs.Lent.{Accepts, JournalLast, KeptBy, goods_entries, money_entries}

-- ---- a table, and a journal

pub table_after : (t : TableKeeper) (es : List Entry) (t' : TableKeeper) → Accepts TableGoesOn t es t'
    → (drop t.registers t'.places.now ≡ drop t.registers t.places.now) × (t'.registers ≡ t.registers) × (t'.places.ghost_name ≡ t.places.ghost_name)
table_after t [] t' h = (ap (λ x. drop t.registers x.places.now) h, ap (λ x. x.registers) h, ap (λ x. x.places.ghost_name) h)
table_after t (e ∷ es) t' h =
    let j = h.0 in
    let once = h.1 in
    let rest = table_after j es t' h.2 in
    (subst (λ n. drop n t'.places.now ≡ drop n j.places.now) once.registers rest.0 ∙ once.beyond, rest.1 ∙ once.registers, rest.2 ∙ once.same_reference)

pub table_places : (t t' : TableKeeper) → drop t.registers t'.places.now ≡ drop t.registers t.places.now → t'.registers ≡ t.registers
    → t'.places.now ≡ take t'.registers t'.places.now ++ drop t.registers t.places.now
table_places t t' beyond same =
    sym (take-append-drop t'.registers t'.places.now) ∙ ap (λ n. take t'.registers t'.places.now ++ drop n t'.places.now) same ∙ ap (λ xs. take t'.registers t'.places.now ++ xs) beyond

-- one entry more in front of those that are written
module _ (w k n : ℕ) (ps qs : List Entry) (e : Entry) (es : List Entry) (next : k ≡ w + 1) (within : w < length ps) where
  entries_more : take (k + n) qs ≡ take k (set ps w e) ++ es → take (w + suc n) qs ≡ take w ps ++ e ∷ es
  entries_more h =
      let at : k + n ≡ w + suc n = omega (arith, next) in
      ap (λ i. take i qs) (sym at) ∙ h ∙ ap (λ i. take i (set ps w e) ++ es) next ∙ ap (λ xs. xs ++ es) (take_more_set ps w e within) ∙ append_assoc (take w ps) (e ∷ []) es

  unwritten_more : drop (k + n) qs ≡ drop (k + n) (set ps w e) → drop (w + suc n) qs ≡ drop (w + suc n) ps
  unwritten_more h =
      let at : k + n ≡ w + suc n = omega (arith, next) in
      ap (λ i. drop i qs) (sym at) ∙ h ∙ ap (λ i. drop i (set ps w e)) at ∙ drop-set-lt (w + suc n) ps w e (omega arith)

pub journal_after : (j : JournalKeeper) (es : List Entry) (j' : JournalKeeper) → Accepts JournalGoesOn j es j' → JournalLast j es j'
journal_after j [] j' h =
    record {
      written = ap (λ x. x.written) h ∙ omega arith;
      entries = ap (λ x. take (j.written + 0) x.places.now) h ∙ ap (λ i. take i j.places.now) (omega arith) ∙ sym (append-nil (take j.written j.places.now));
      unwritten = ap (λ x. drop (j.written + 0) x.places.now) h;
      same_reference = ap (λ x. x.places.ghost_name) h;
    }
journal_after j (e ∷ es) j' h =
    let k = h.0 in
    let once = h.1 in
    let rest = journal_after k es j' h.2 in
    let within : j.written < length j.places.now = omega (arith, once.written, once.room, k.within, j.fitting) in
    record {
      written = omega (arith, rest.written, once.written);
      entries = entries_more j.written k.written (length es) j.places.now j'.places.now e es once.written within (rest.entries ∙ ap (λ ps. take k.written ps ++ es) once.places);
      unwritten = unwritten_more j.written k.written (length es) j.places.now j'.places.now e es once.written within (rest.unwritten ∙ ap (λ ps. drop (k.written + length es) ps) once.places);
      same_reference = rest.same_reference ∙ once.same_reference;
    }

-- ---- the keepers of a run

accepts_more : {K : Type 0} (conduct : Conduct K) (o : Option Entry) (es : List Entry) (a c b : K) → GoesOn conduct a o c → Accepts conduct c es b → Accepts conduct a (option_to_list o ++ es) b
accepts_more conduct None es a c b goes h = subst (λ x. Accepts conduct x es b) goes h
accepts_more conduct (Some e) es a c b goes h = (c, goes, h)

module _ {M G : Type 0} (m : registers.Ghosts M) (g : registers.Ghosts G) where
  accept_money : (p : Snapshot) (a : Keepers M G) (ss : List Step) (b : Keepers M G) → Meant m g p a ss b → Accepts m.conduct a.money (money_entries p ss) b.money
  accept_money p a [] b h = ap (λ x. x.money) h
  accept_money p a (s ∷ ss) b h =
      accepts_more m.conduct (made p.ledger (feed p) s.request).money (money_entries (onward p s) ss) a.money h.0.money b.money h.1.0 (accept_money (onward p s) h.0 ss b h.4)

  accept_goods : (p : Snapshot) (a : Keepers M G) (ss : List Step) (b : Keepers M G) → Meant m g p a ss b → Accepts g.conduct a.goods (goods_entries p ss) b.goods
  accept_goods p a [] b h = ap (λ x. x.goods) h
  accept_goods p a (s ∷ ss) b h =
      accepts_more g.conduct (made p.ledger (feed p) s.request).goods (goods_entries (onward p s) ss) a.goods h.0.goods b.goods h.1.1 (accept_goods (onward p s) h.0 ss b h.4)

  -- what the last keepers mean stands where the steps lead
  meaning_last : (p : Snapshot) (a : Keepers M G) (ss : List Step) (b : Keepers M G) → Meant m g p a ss b → p.money ≡ m.meaning a.money → p.goods ≡ g.meaning a.goods
      → ((reached p ss).money ≡ m.meaning b.money) × ((reached p ss).goods ≡ g.meaning b.goods)
  meaning_last p a [] b h em eg = (em ∙ ap (λ x. m.meaning x.money) (sym h), eg ∙ ap (λ x. g.meaning x.goods) (sym h))
  meaning_last p a (s ∷ ss) b h em eg = meaning_last (onward p s) h.0 ss b h.4 h.2 h.3

  pub kept_by : (o : Start) (first : Keepers M G) (steps : List Step) (end : Snapshot) (last : Keepers M G) → Meant m g (opened o) first steps last → end ≡ reached (opened o) steps
      → (reached (opened o) steps).money.amounts ≡ (reached (opened o) steps).ledger.money → (reached (opened o) steps).goods.amounts ≡ (reached (opened o) steps).ledger.goods
      → o.money ≡ m.meaning first.money → o.goods ≡ g.meaning first.goods → KeptBy m g o first steps end last
  kept_by o first steps end last meant ended money goods em eg =
      let last_means = meaning_last (opened o) first steps last meant em eg in
      record {
        money = accept_money (opened o) first steps last meant;
        goods = accept_goods (opened o) first steps last meant;
        money_amounts = ap (λ x. x.amounts) (sym last_means.0) ∙ money ∙ ap (λ x. x.ledger.money) (sym ended);
        goods_amounts = ap (λ x. x.amounts) (sym last_means.1) ∙ goods ∙ ap (λ x. x.ledger.goods) (sym ended);
      }
