-- A step leaves the ledger, or accepts one call: what the opening has and accepted calls keep holds after every run.
use Rattle.std.proofs.Common.{◌≡◌, Bool, true, false, cond, not, ◌&&◌, List, [], ◌∷◌, ◌++◌, is_some, Some, None, Option, Result, refl, append_assoc, append-nil, Err}
use Rattle.rules.specs.declared.refusals.Refusal.{Refusal}
use Rattle.rules.specs.declared.calls.Call.{Call}
use Rattle.rules.specs.declared.questions.Question.{Question}
use Rattle.rules.specs.declared.questions.Reply.{Reply}
use Rattle.rules.specs.declared.requests.Request.{Request}
use Rattle.rules.specs.declared.requests.Request.TheVariants.{Make, Ask}
use Rattle.rules.specs.declared.requests.RequestFault.TheVariants.{Misplaced}
use Rattle.rules.specs.Limits.{Ledger}
use Rattle.rules.specs.Rulings.{Feed, ruling}
use Rattle.rules.specs.Effects.{after, answer}
use Rattle.rules.specs.Questions.{reply}
use Rattle.rules.specs.Runs.{takes, next, outcome, ruled_as, replied_as, Snapshot, feed, Step, onward, reached, Run}
use Rattle.rules.specs.History.{Done, done_by, accepted}
use Rattle.law.proofs.Accepting.{Accepts, accepts_when}

abbrev pub done : Ledger → Call → Done
done b c = record { call = c; first = (answer b c).first; second = (answer b c).second }

-- a property of the accepted calls so far and the ledger that they led to
abbrev pub Property : Type 1
Property = List Done → Ledger → Type 0

-- accepted calls keep it
abbrev pub Keeps : Property → Type 0
Keeps I = (past : List Done) (b : Ledger) (c : Call) → takes b.half c ≡ true → Accepts b c → I past b → I (past ++ done b c ∷ []) (after b c)

made_keeps : (I : Property) → Keeps I → (past : List Done) (b : Ledger) (f : Feed) (c : Call) → I past b →
    (t : Bool) → takes b.half c ≡ t → (e : Option Refusal) → ruling b f c ≡ e →
    I (past ++ done_by (Make c) (cond t (ruled_as e (answer b c)) (Err Misplaced))) (cond (t && not (is_some e)) (after b c) b)
made_keeps I keeps past b f c i true t None e = keeps past b c t (accepts_when b f c e) i
made_keeps I keeps past b f c i true t (Some x) e = rw append-nil i
made_keeps I keeps past b f c i false t e r = rw append-nil i

asked_keeps : (I : Property) (past : List Done) (b : Ledger) (q : Question) (r : Result Reply Refusal) → I past b → I (past ++ done_by (Ask q) (replied_as r)) b
asked_keeps I past b q r i = rw append-nil i

request_keeps : (I : Property) → Keeps I → (past : List Done) (b : Ledger) (f : Feed) (r : Request) → I past b → I (past ++ done_by r (outcome b f r)) (next b f r)
request_keeps I keeps past b f (Make c) i = made_keeps I keeps past b f c i (takes b.half c) refl (ruling b f c) refl
request_keeps I keeps past b f (Ask q) i = asked_keeps I past b q (reply b q) i

pub runs_keep : (I : Property) → Keeps I → (past : List Done) (p : Snapshot) (ss : List Step) → Run p ss → I past p.ledger → I (past ++ accepted ss) (reached p ss).ledger
runs_keep I keeps past p [] run i = rw append-nil i
runs_keep I keeps past p (s ∷ ss) run i =
    let k : I (past ++ done_by s.request s.response) (next p.ledger (feed p) s.request) = rw run.0.response (request_keeps I keeps past p.ledger (feed p) s.request i) in
    rw (← append_assoc past (done_by s.request s.response) (accepted ss)) (runs_keep I keeps (past ++ done_by s.request s.response) (onward p s) ss run.1 k)
