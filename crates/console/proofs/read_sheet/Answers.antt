use Rattle.std.proofs.Common.{◌≡◌, ℕ, IfSome, List, Option, None, Some, take, subst₂}
use Rattle.std.specs.Option.{option_map}
use Rattle.console.proofs.read_sheet.Goals as goal

-- what is known of a front is known of the whole
front_known : (n : ℕ) (left : Option (List ℕ)) (items : List ℕ) → IfSome (option_map (take n) left) (λ xs. items ≡ xs) → IfSome left (λ bytes. items ≡ take n bytes)
front_known n None items h = tt
front_known n (Some xs) items h = h

pub returns : goal.returns
returns g c =
    let items = c.read_to_end.new.buf.items in
    let read = rw c.new-sheet.ensures.items at c.in_ok-read_to_end.ensures.bytes in
    front_known 65537 (g.I.Read.remaining c.args.input) items (subst₂ (λ (n : ℕ) i. IfSome (option_map (take n) (g.I.Read.remaining i)) (λ xs. items ≡ xs)) c.take.ensures.limit c.take.ensures.inner read)
