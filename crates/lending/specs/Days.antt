-- A day that is run over the memory of a caller. Assumes nothing.
use Rattle.std.specs.Prelude.{◌≡◌, ℕ, ◌<◌, ◌≤◌, ◌⊎◌, List, ◌++◌, length, drop}
use Rattle.charge.specs.Charges.{Charge}
use Rattle.report.specs.Days.{DayReported}

-- returned where memory is wanting
abbrev pub no_memory : ℕ
no_memory = 18446744073709551615

-- the memory of a caller: its money, its goods, and the buffer for the text
pub record Memory : Type 0 where
  pub money : List ℕ
  pub goods : List ℕ
  pub buffer : List ℕ

module _ (top : ℕ) (charge : Charge) (sheet : List ℕ) (before : Memory) where
  -- the length of the text is returned, and the text stands at the front of the buffer if it fits there; else the buffer is as it was
  pub record DayWritten (returned : ℕ) (after : Memory) : Type 0 where
    pub text : List ℕ
    pub day : DayReported top charge before.money before.goods sheet text after.money after.goods
    pub long : returned ≡ length text
    -- which is not what is returned where memory is wanting
    pub apart : returned < no_memory
    pub fits : length text ≤ length before.buffer → after.buffer ≡ text ++ drop (length text) before.buffer
    pub short : length before.buffer < length text → after.buffer ≡ before.buffer

  -- a day was run so, or memory was wanting and that of the caller is as it was
  abbrev pub DayRun : ℕ → Memory → Type 0
  DayRun returned after = DayWritten returned after ⊎ ((returned ≡ no_memory) × (after ≡ before))
