-- One more step of a run.
use Rattle.std.proofs.Common.{◌≡◌, List, [], ◌∷◌, ◌++◌, length, sym, refl, ap, ◌∙◌, subst}
use Rattle.std.proofs.lemmas.List.{length-map, map_push}
use Rattle.keeper.specs.declared.keepers.Registers as registers
use Rattle.rules.specs.declared.requests.Request.{Request}
use Rattle.rules.specs.Law.{RunLaw, Start, opened}
use Rattle.rules.specs.Runs.{FollowsOn, Keepers, KeepersGoOn, Meant, Response, Run, Snapshot, Step, feed, made, onward, reached}
use Rattle.law.specs.Lawful.{KeepsLaw}
use Rattle.book.specs.Steps.{Ran, Stepped}

run_more : (p : Snapshot) (ss : List Step) (s : Step) → Run p ss → FollowsOn (reached p ss) s → Run p (ss ++ s ∷ [])
run_more p [] s run follows = (follows, tt)
run_more p (t ∷ ts) s run follows = (run.0, run_more (onward p t) ts s run.1 follows)

reached_more : (p : Snapshot) (ss : List Step) (s : Step) → reached p (ss ++ s ∷ []) ≡ onward (reached p ss) s
reached_more p [] s = refl
reached_more p (t ∷ ts) s = reached_more (onward p t) ts s

module _ {M G : Type 0} (m : registers.Ghosts M) (g : registers.Ghosts G) where
  meant_more : (p : Snapshot) (a : Keepers M G) (ss : List Step) (s : Step) (b c : Keepers M G) → Meant m g p a ss b → let q = reached p ss in KeepersGoOn m g b (made q.ledger (feed q) s.request) c → s.money ≡ m.meaning c.money → s.goods ≡ g.meaning c.goods → Meant m g p a (ss ++ s ∷ []) c
  meant_more p a [] s b c meant goes em eg = (c, subst (λ x. KeepersGoOn m g x (made p.ledger (feed p) s.request) c) meant goes, em, eg, refl)
  meant_more p a (t ∷ ts) s b c meant goes em eg = (meant.0, meant.1, meant.2, meant.3, meant_more (onward p t) meant.0 ts s b c meant.4 goes em eg)

  -- a run of no request
  pub ran_none : (p q : Snapshot) (a b : Keepers M G) (responses : List Response) → q ≡ p → b ≡ a → responses ≡ [] → Ran m g p a [] responses q b
  ran_none p q a b responses e same none = record { steps = []; asked = refl; answered = sym none; ruled = tt; meant = same; ended = e }

  -- a run with one more request at its end
  pub ran_more : (p : Snapshot) (a : Keepers M G) (requests : List Request) (responses : List Response) (q : Snapshot) (b : Keepers M G) → Ran m g p a requests responses q b → (r : Request) (t : Response) (q' : Snapshot) (c : Keepers M G) → Stepped (λ es. KeepersGoOn m g b es c) q r t q' → q'.money ≡ m.meaning c.money → q'.goods ≡ g.meaning c.goods → Ran m g p a (requests ++ r ∷ []) (responses ++ t ∷ []) q' c
  ran_more p a requests responses q b ran r t q' c step em eg =
      let s : Step = record { request = r; response = t; money = q'.money; goods = q'.goods } in
      let follows : FollowsOn q s = record { response = step.responded; money = step.money; goods = step.goods } in
      let lands : q' ≡ onward q s = ap (λ b. record { ledger = b; money = q'.money; goods = q'.goods }) step.ledger in
      record {
        steps = ran.steps ++ s ∷ [];
        asked = map_push (λ (x : Step). x.request) ran.steps s ∙ ap (λ xs. xs ++ r ∷ []) ran.asked;
        answered = map_push (λ (x : Step). x.response) ran.steps s ∙ ap (λ xs. xs ++ t ∷ []) ran.answered;
        ruled = run_more p ran.steps s ran.ruled (subst (λ x. FollowsOn x s) ran.ended follows);
        meant = meant_more p a ran.steps s b c ran.meant (subst (λ x. KeepersGoOn m g b (made x.ledger (feed x) r) c) ran.ended step.keepers) em eg;
        ended = lands ∙ ap (λ x. onward x s) ran.ended ∙ sym (reached_more p ran.steps s);
      }

  -- a run from a start that keeps the law
  pub ran_lawful : (o : Start) (a : Keepers M G) (requests : List Request) (responses : List Response) (q : Snapshot) (b : Keepers M G) → o.money ≡ m.meaning a.money → o.goods ≡ g.meaning a.goods → KeepsLaw o → Ran m g (opened o) a requests responses q b → RunLaw m g o a requests responses q b
  ran_lawful o a requests responses q b em eg keeps ran =
      record { money_first = em; goods_first = eg; steps = ran.steps; asked = ran.asked; answered = ran.answered; ruled = ran.ruled; meant = ran.meant; ended = ran.ended; lawful = keeps ran.steps ran.ruled }

  -- as many responses as requests
  pub ran_length : (p : Snapshot) (a : Keepers M G) (requests : List Request) (responses : List Response) (q : Snapshot) (b : Keepers M G) → Ran m g p a requests responses q b → length requests ≡ length responses
  ran_length p a requests responses q b ran =
      ap length (sym ran.asked) ∙ length-map ran.steps (λ (s : Step). s.request) ∙ sym (length-map ran.steps (λ (s : Step). s.response)) ∙ ap length ran.answered
