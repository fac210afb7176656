-- How a table and a journal go on by an entry that they accept. Assumes nothing.
use Rattle.std.specs.Prelude.{◌≡◌, ◌+◌, drop, take, slice_set}
use Rattle.keeper.specs.declared.entries.Entry.{Entry}
use Rattle.keeper.specs.declared.journal.JournalKeeper.{JournalKeeper}
use Rattle.keeper.specs.declared.table.TableKeeper.{TableKeeper}
use Rattle.keeper.specs.Meaning.{Meaning, Spends, tabled}
use Rattle.keeper.specs.Journal.{journaled}

-- what a table keeper means: its first places are its amounts
abbrev pub table_meaning : TableKeeper → Meaning
table_meaning t = tabled (take t.registers t.places.now)

-- the amount moves in place; the caller's places beyond the registers, and the count of these, are as before
pub record TableGoesOn (t : TableKeeper) (e : Entry) (t' : TableKeeper) : Type 0 where
  pub spends : Spends (table_meaning t) e (table_meaning t')
  pub beyond : drop t.registers t'.places.now ≡ drop t.registers t.places.now
  pub registers : t'.registers ≡ t.registers
  pub same_reference : t'.places.ghost_name ≡ t.places.ghost_name

-- what a journal keeper means
abbrev pub journal_meaning : JournalKeeper → Meaning
journal_meaning j = journaled j.registers j.room j.written j.places.now

-- the entry stands in the next place, one place more is written, and all else is as before
pub record JournalGoesOn (j : JournalKeeper) (e : Entry) (j' : JournalKeeper) : Type 0 where
  pub spends : Spends (journal_meaning j) e (journal_meaning j')
  pub places : j'.places.now ≡ slice_set j.places.now j.written e
  pub written : j'.written ≡ j.written + 1
  pub room : j'.room ≡ j.room
  pub registers : j'.registers ≡ j.registers
  pub same_reference : j'.places.ghost_name ≡ j.places.ghost_name
