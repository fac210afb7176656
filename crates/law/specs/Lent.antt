-- What a run leaves in the lists that its keepers were lent. Assumes nothing.
use Rattle.std.specs.Prelude.{◌≡◌, ◌+◌, List, [], ◌∷◌, ◌++◌, drop, length, take}
use Rattle.std.specs.Option.{option_to_list}
use Rattle.keeper.specs.declared.keepers.Registers as registers
use Rattle.keeper.specs.declared.entries.Entry.{Entry}
use Rattle.keeper.specs.declared.journal.JournalKeeper.{JournalKeeper}
use Rattle.keeper.specs.declared.table.TableKeeper.{TableKeeper}
use Rattle.keeper.specs.Meaning.{Conduct}
use Rattle.rules.specs.declared.requests.Request.{Request}
use Rattle.rules.specs.Runs.{Keepers, Response, Snapshot, Step, feed, made, onward}
use Rattle.rules.specs.Law.{RunLaw, Start, opened}

-- a keeper accepts entries in turn, and goes on as its type does
abbrev pub Accepts : {K : Type 0} → Conduct K → K → List Entry → K → Type 0
Accepts conduct k [] k' = k' ≡ k
Accepts {K} conduct k (e ∷ es) k' = (j : K) × conduct k e j × Accepts conduct j es k'

-- the entries of money, and of goods, that the ledger makes over the steps of a run, in sequence
abbrev pub money_entries : Snapshot → List Step → List Entry
money_entries p [] = []
money_entries p (s ∷ ss) = option_to_list (made p.ledger (feed p) s.request).money ++ money_entries (onward p s) ss

abbrev pub goods_entries : Snapshot → List Step → List Entry
goods_entries p [] = []
goods_entries p (s ∷ ss) = option_to_list (made p.ledger (feed p) s.request).goods ++ goods_entries (onward p s) ss

-- from the first keepers to the last, both have accepted the ledger's entries, one for one, and have its amounts at the end
pub record KeptBy {M G : Type 0} (m : registers.Ghosts M) (g : registers.Ghosts G) (o : Start) (first : Keepers M G) (steps : List Step) (end : Snapshot) (last : Keepers M G) : Type 0 where
  pub money : Accepts m.conduct first.money (money_entries (opened o) steps) last.money
  pub goods : Accepts g.conduct first.goods (goods_entries (opened o) steps) last.goods
  pub money_amounts : (m.meaning last.money).amounts ≡ end.ledger.money
  pub goods_amounts : (g.meaning last.goods).amounts ≡ end.ledger.goods

-- so it is over every run that keeps the law
abbrev pub KeepersTakeEntries : {M G : Type 0} → registers.Ghosts M → registers.Ghosts G → Type 0
KeepersTakeEntries {M} {G} m g =
    (o : Start) (first : Keepers M G) (requests : List Request) (responses : List Response) (end : Snapshot) (last : Keepers M G)
    → (law : RunLaw m g o first requests responses end last) → KeptBy m g o first law.steps end last

-- the list lent to a table: its registers' amounts, and beyond them what was there; it is the very list
pub record TableLast (r : registers.Ghosts TableKeeper) (t t' : TableKeeper) : Type 0 where
  pub places : t'.places.now ≡ (r.meaning t').amounts ++ drop t.registers t.places.now
  pub registers : t'.registers ≡ t.registers
  pub same_reference : t'.places.ghost_name ≡ t.places.ghost_name

abbrev pub TablesLast : registers.Ghosts TableKeeper → Type 0
TablesLast r = (t : TableKeeper) (es : List Entry) (t' : TableKeeper) → Accepts r.conduct t es t' → TableLast r t t'

-- the list lent to a journal: what was written, then the entries in sequence, and all other places as they were; it is the very list
pub record JournalLast (j : JournalKeeper) (es : List Entry) (j' : JournalKeeper) : Type 0 where
  pub written : j'.written ≡ j.written + length es
  pub entries : take (j.written + length es) j'.places.now ≡ take j.written j.places.now ++ es
  pub unwritten : drop (j.written + length es) j'.places.now ≡ drop (j.written + length es) j.places.now
  pub same_reference : j'.places.ghost_name ≡ j.places.ghost_name

abbrev pub JournalsLast : registers.Ghosts JournalKeeper → Type 0
JournalsLast r = (j : JournalKeeper) (es : List Entry) (j' : JournalKeeper) → Accepts r.conduct j es j' → JournalLast j es j'
