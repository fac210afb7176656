-- A day over table keepers: where it starts, and that each stands on the very list to its end.
use Rattle.std.proofs.Common.{◌≡◌, ℕ, ◌<◌, ◌≤◌, false, List, [], ◌∷◌, ◌++◌, drop, length, take, Some, None, Option, min, replicate, refl, sym, ap, ◌∙◌, ap₂, subst, subst₂, append-nil, Ok, Err, Result}
use Rattle.std.specs.List.{flat_map}
use Rattle.std.proofs.lemmas.Bool.{le-ltb, lt-ltb}
use Rattle.std.proofs.lemmas.List.{drop_at, length-replicate}
use Rattle.std.specs.Prelude.{IfOk}
use Rattle.charge.specs.Charges.{Charge}
use Rattle.keeper.specs.Meaning.{tabled}
use Rattle.keeper.specs.declared.entries.Entry.{Entry}
use Rattle.keeper.specs.declared.keepers.Registers as registers
use Rattle.keeper.specs.declared.table.TableKeeper.{TableKeeper}
use Rattle.keeper.specs.contracts.table.TableKeeperRegisters.TheImpl.{ghosts as table}
use Rattle.rules.specs.declared.rows.Row.{Row}
use Rattle.keeper.specs.Conducts.{TableGoesOn}
use Rattle.rules.specs.declared.requests.Request.{Request}
use Rattle.rules.specs.Law.{RunLaw, Start, opened}
use Rattle.rules.specs.Runs.{GoesOn, Keepers, Meant, Response, Snapshot, Step, feed, made, onward}
use Rattle.law.specs.Lent.{Accepts, goods_entries, money_entries}
use Rattle.law.proofs.Lent.{kept_by, table_after, table_places}
use Rattle.report.specs.declared.faults.SheetFault.TheVariants.{LongSheet}
use Rattle.report.specs.declared.lines.ReportLine.TheVariants.{Refused}
use Rattle.report.specs.Days.{DayReported, DayReportedIf, DayRun, Opened, day_start, list_after}
use Rattle.report.specs.Parsed.{code, parsed_lines, request_in, row_in}
use Rattle.report.specs.Reports.{ReportedIf, ReportedText}
use Rattle.report.specs.Texts.{report_text}

-- what no entry changes is the same at the end of a run
module _ {M G V : Type 0} (m : registers.Ghosts M) (g : registers.Ghosts G) where
  once : {K : Type 0} (k : registers.Ghosts K) (of : K → V) → ((x : K) (e : Entry) (y : K) → k.conduct x e y → of y ≡ of x) → (a : K) (o : Option Entry) (b : K) → GoesOn k.conduct a o b → of b ≡ of a
  once k of stays a None b h = ap of h
  once k of stays a (Some e) b h = stays a e b h

  pub money_stays : (of : M → V) → ((x : M) (e : Entry) (y : M) → m.conduct x e y → of y ≡ of x) → (p : Snapshot) (a : Keepers M G) (ss : List Step) (b : Keepers M G) → Meant m g p a ss b → of b.money ≡ of a.money
  money_stays of stays p a [] b h = ap (λ x. of x.money) h
  money_stays of stays p a (s ∷ ss) b h = money_stays of stays (onward p s) h.0 ss b h.4 ∙ once m of stays a.money (made p.ledger (feed p) s.request).money h.0.money h.1.0

  pub goods_stays : (of : G → V) → ((x : G) (e : Entry) (y : G) → g.conduct x e y → of y ≡ of x) → (p : Snapshot) (a : Keepers M G) (ss : List Step) (b : Keepers M G) → Meant m g p a ss b → of b.goods ≡ of a.goods
  goods_stays of stays p a [] b h = ap (λ x. of x.goods) h
  goods_stays of stays p a (s ∷ ss) b h = goods_stays of stays (onward p s) h.0 ss b h.4 ∙ once g of stays a.goods (made p.ledger (feed p) s.request).goods h.0.goods h.1.1

abbrev pub Tables : Type 0
Tables = Keepers TableKeeper TableKeeper

-- the very lists
pub record SameLists (a b : Tables) : Type 0 where
  pub money : b.money.places.ghost_name ≡ a.money.places.ghost_name
  pub goods : b.goods.places.ghost_name ≡ a.goods.places.ghost_name

pub same_lists : (o : Start) (first : Tables) (requests : List Request) (responses : List Response) (end : Snapshot) (last : Tables) → RunLaw table table o first requests responses end last → SameLists first last
same_lists o first requests responses end last law = record {
  money = money_stays table table (λ t. t.places.ghost_name) (λ x e y c. c.same_reference) (opened o) first law.steps last law.meant;
  goods = goods_stays table table (λ t. t.places.ghost_name) (λ x e y c. c.same_reference) (opened o) first law.steps last law.meant;
}

-- what a table that is opened over a list leaves in it after entries
left_in : (t : TableKeeper) (places : List ℕ) (es : List Entry) (t' : TableKeeper) (amounts : List ℕ) → Opened t places → Accepts TableGoesOn t es t' → take t'.registers t'.places.now ≡ amounts → t'.places.now ≡ list_after amounts places
left_in t places es t' amounts op entries has =
    let after = table_after t es t' entries in
    table_places t t' after.0 after.1
    ∙ ap₂ (λ xs ys. xs ++ drop t.registers ys) has op.places
    ∙ ap (λ ys. amounts ++ ys) (drop_at (replicate t.registers 0) (drop t.registers places) t.registers (length-replicate t.registers 0))
    ∙ ap (λ n. amounts ++ drop n places) op.registers

module _ (top : ℕ) (charge : Charge) (money goods sheet : List ℕ) where
  -- a day that is reported, over tables opened over the lists
  pub day_run : (first : Tables) → Opened first.money money → Opened first.goods goods → (table.meaning first.money).amounts ≡ replicate (min (length money) 1024) 0 → (table.meaning first.goods).amounts ≡ replicate (min (length goods) 1024) 0
      → (text : List ℕ) (last : Tables) → length sheet ≤ 65536 → ReportedText table table (λ rows. record { rows = rows; top = top; charge = charge; money = table.meaning first.money; goods = table.meaning first.goods }) first sheet text last
      → DayRun top charge money goods sheet text last.money.places.now last.goods.places.now × SameLists first last
  day_run first om og am ag text last short reported =
      let from : List Row → Start = λ rows. record { rows = rows; top = top; charge = charge; money = table.meaning first.money; goods = table.meaning first.goods } in
      let run : ReportedIf table table from first sheet reported.report last false = subst (ReportedIf table table from first sheet reported.report last) (le-ltb 65536 (length sheet) short) reported.reported in
      let o : Start = day_start top charge (length money) (length goods) (flat_map row_in (parsed_lines sheet)) in
      let starts : from (flat_map row_in (parsed_lines sheet)) ≡ o = ap₂ (λ x y. record { rows = flat_map row_in (parsed_lines sheet); top = top; charge = charge; money = x; goods = y }) (ap tabled am) (ap tabled ag) in
      let law : RunLaw table table o first (flat_map request_in (parsed_lines sheet)) run.responses run.end last = subst (λ x. RunLaw table table x first (flat_map request_in (parsed_lines sheet)) run.responses run.end last) starts run.law in
      let stands = law.lawful.always law.steps [] (append-nil law.steps) in
      let kept = kept_by table table o first law.steps run.end last law.meant law.ended stands.money_kept stands.goods_kept law.money_first law.goods_first in (
        record {
          first = first;
          last = last;
          money_opened = om;
          goods_opened = og;
          responses = run.responses;
          end = run.end;
          law = law;
          written = reported.written ∙ ap report_text run.reported;
          money_left = left_in first.money money (money_entries (opened o) law.steps) last.money run.end.ledger.money om kept.money kept.money_amounts;
          goods_left = left_in first.goods goods (goods_entries (opened o) law.steps) last.goods run.end.ledger.goods og kept.goods kept.goods_amounts;
        },
        same_lists o first _ run.responses run.end last law,
      )

  -- the same, where the lists are what the tables have
  pub day_reported : (text money' goods' : List ℕ) (last : Tables) → length sheet ≤ 65536 → DayRun top charge money goods sheet text last.money.places.now last.goods.places.now → last.money.places.now ≡ money' → last.goods.places.now ≡ goods' → DayReported top charge money goods sheet text money' goods'
  day_reported text money' goods' last short run em eg =
      subst (DayReportedIf top charge money goods sheet text money' goods') (sym (le-ltb 65536 (length sheet) short))
      (subst₂ (DayRun top charge money goods sheet text) em eg run)

  pub day_refused : (text : List ℕ) → 65536 < length sheet → text ≡ report_text (Refused 0 (code LongSheet) ∷ []) → DayReported top charge money goods sheet text money goods
  day_refused text long is = subst (DayReportedIf top charge money goods sheet text money goods) (sym (lt-ltb 65536 (length sheet) long)) (is, refl, refl)

-- what follows of each value of a success
pub each_ok : {T E : Type 0} {P Q : T → Type 0} (r : Result T E) → IfOk r P → ((x : T) → P x → Q x) → IfOk r Q
each_ok (Ok x) h f = f x h
each_ok (Err e) h f = tt
