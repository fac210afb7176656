-- A run over keepers that are lent, as a run over the keepers themselves: from what they were to what they have become.
use Rattle.std.proofs.Common.{◌≡◌, List, [], ◌∷◌, Some, None, Option, ap, ◌∙◌, MutBor}
use Rattle.keeper.specs.declared.keepers.Registers as registers
use Rattle.keeper.specs.declared.entries.Entry.{Entry}
use Rattle.rules.specs.declared.requests.Request.{Request}
use Rattle.rules.specs.Law.{RunLaw, Start}
use Rattle.rules.specs.Runs.{GoesOn, Keepers, Meant, Response, Snapshot, Step, feed, made, onward}
use Rattle.book.specs.Steps.{Ran}

-- a keeper behind a `&mut` means what it means itself, and goes on as it does itself behind the same reference
abbrev pub lent : {K : Type 0} → registers.Ghosts K → registers.Ghosts (MutBor K)
lent k =
    record {
      meaning = λ x. k.meaning x.now;
      bounded = λ x. k.bounded x.now;
      small = λ x e. k.small x.now e;
      conduct = λ x e y. k.conduct x.now e y.now × (y.ghost_name ≡ x.ghost_name);
    }

-- the two keepers behind their references
abbrev pub behind : {M G : Type 0} → Keepers (MutBor M) (MutBor G) → Keepers M G
behind a = record { money = a.money.now; goods = a.goods.now }

-- both references are the same as before
pub record SameLent {M G : Type 0} (a b : Keepers (MutBor M) (MutBor G)) : Type 0 where
  pub money : b.money.ghost_name ≡ a.money.ghost_name
  pub goods : b.goods.ghost_name ≡ a.goods.ghost_name

goes_behind : {K : Type 0} (k : registers.Ghosts K) (x : MutBor K) (o : Option Entry) (y : MutBor K) → GoesOn (lent k).conduct x o y → GoesOn k.conduct x.now o y.now × (y.ghost_name ≡ x.ghost_name)
goes_behind k x None y h = (ap (λ z. z.now) h, ap (λ z. z.ghost_name) h)
goes_behind k x (Some e) y h = h

module _ {M G : Type 0} (m : registers.Ghosts M) (g : registers.Ghosts G) where
  meant_behind : (p : Snapshot) (a : Keepers (MutBor M) (MutBor G)) (ss : List Step) (b : Keepers (MutBor M) (MutBor G)) → Meant (lent m) (lent g) p a ss b → Meant m g p (behind a) ss (behind b) × SameLent a b
  meant_behind p a [] b h = (ap (λ x. behind x) h, record { money = ap (λ x. x.money.ghost_name) h; goods = ap (λ x. x.goods.ghost_name) h })
  meant_behind p a (s ∷ ss) b h =
      let c = h.0 in
      let es = made p.ledger (feed p) s.request in
      let money = goes_behind m a.money es.money c.money h.1.0 in
      let goods = goes_behind g a.goods es.goods c.goods h.1.1 in
      let rest = meant_behind (onward p s) c ss b h.4 in (
        (behind c, (money.0, goods.0), h.2, h.3, rest.0),
        record { money = rest.1.money ∙ money.1; goods = rest.1.goods ∙ goods.1 },
      )

  -- steps of lent keepers are steps of the keepers themselves
  pub ran_behind : (p : Snapshot) (a : Keepers (MutBor M) (MutBor G)) (requests : List Request) (responses : List Response) (q : Snapshot) (b : Keepers (MutBor M) (MutBor G)) → Ran (lent m) (lent g) p a requests responses q b → Ran m g p (behind a) requests responses q (behind b) × SameLent a b
  ran_behind p a requests responses q b ran =
      let meant = meant_behind p a ran.steps b ran.meant in
      (record { steps = ran.steps; asked = ran.asked; answered = ran.answered; ruled = ran.ruled; meant = meant.0; ended = ran.ended }, meant.1)

  -- the law of a run of lent keepers is the law of the keepers themselves
  pub law_behind : (o : Start) (a : Keepers (MutBor M) (MutBor G)) (requests : List Request) (responses : List Response) (end : Snapshot) (b : Keepers (MutBor M) (MutBor G)) → RunLaw (lent m) (lent g) o a requests responses end b → RunLaw m g o (behind a) requests responses end (behind b) × SameLent a b
  law_behind o a requests responses end b law =
      let meant = meant_behind _ a law.steps b law.meant in
      (record { money_first = law.money_first; goods_first = law.goods_first; steps = law.steps; asked = law.asked; answered = law.answered; ruled = law.ruled; meant = meant.0; ended = law.ended; lawful = law.lawful }, meant.1)
