-- One request to a book in either half of the day, and requests in turn. Assumes nothing.
use Rattle.std.specs.Prelude.{◌≡◌, List, map}
use Rattle.keeper.specs.declared.keepers.Registers as registers
use Rattle.rules.specs.declared.requests.Request.{Request}
use Rattle.rules.specs.Entries.{Entries}
use Rattle.rules.specs.Runs.{Keepers, Meant, Posted, Response, Run, Snapshot, Step, feed, made, next, outcome, reached}
use Rattle.book.specs.declared.view.BookView as view

-- a request leads from one snapshot to the next as the ledger has it, and each keeper accepts the entry that the
-- ledger makes there, and no other, as keepers of its type do
pub record Stepped (went : Entries → Type 0) (p : Snapshot) (request : Request) (response : Response) (q : Snapshot) : Type 0 where
  pub responded : response ≡ outcome p.ledger (feed p) request
  pub ledger : q.ledger ≡ next p.ledger (feed p) request
  pub money : Posted p.money (made p.ledger (feed p) request).money q.money
  pub goods : Posted p.goods (made p.ledger (feed p) request).goods q.goods
  pub keepers : went (made p.ledger (feed p) request)

-- a request to a book leads on from what is seen of it before to what is seen of it after
abbrev pub Steps : {B : Type 0} → view.Ghosts B → B → Request → Response → B → Type 0
Steps s b request response b' = Stepped (λ es. s.goes b es b') (s.snapshot b) request response (s.snapshot b')

-- two keepers took steps with these requests and responses, from one snapshot to another and from the first two to
-- the last
pub record Ran {M G : Type 0} (m : registers.Ghosts M) (g : registers.Ghosts G) (p : Snapshot) (a : Keepers M G) (requests : List Request) (responses : List Response) (q : Snapshot) (b : Keepers M G) : Type 0 where
  pub steps : List Step
  pub asked : map (λ s. s.request) steps ≡ requests
  pub answered : map (λ s. s.response) steps ≡ responses
  pub ruled : Run p steps
  pub meant : Meant m g p a steps b
  pub ended : q ≡ reached p steps
