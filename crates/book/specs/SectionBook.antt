-- The book in a section book. Assumes nothing.
use Rattle.std.specs.Prelude.{◌≡◌}
use Rattle.book.specs.Views.{parts_of}
use Rattle.book.specs.declared.book.Book.{Book}
use Rattle.book.specs.declared.halves.AnyHalf.{AnyHalf}
use Rattle.book.specs.declared.halves.Session.{Session}
use Rattle.book.specs.declared.halves.Trading.{Trading}
use Rattle.book.specs.declared.section_book.BookInHalf.{BookInHalf}
use Rattle.book.specs.declared.section_book.BookInHalf.TheVariants as halves
use Rattle.book.specs.declared.section_book.SectionBook.{SectionBook}
use Rattle.book.specs.declared.view.BookView as view

abbrev pub book_of : {M G R : Type 0} → SectionBook M G R → Book AnyHalf M G R
book_of b = b.book

-- two books that know their half in their own ways: the same is seen of both, and both give back the same
abbrev pub SameBook : {H I M G R : Type 0} → view.Ghosts (Book H M G R) → view.Ghosts (Book I M G R) → Book H M G R → Book I M G R → Type 0
SameBook s t b c = (s.snapshot b ≡ t.snapshot c) × (parts_of b ≡ parts_of c)

-- a book in a half of the day, and what is so of it in trading, and in the session
abbrev pub StandsInHalf : {M G R : Type 0} → (Book Trading M G R → Type 0) → (Book Session M G R → Type 0) → BookInHalf M G R → Type 0
StandsInHalf T S (halves.Trading t) = T t
StandsInHalf T S (halves.Session s) = S s
