-- Which half of the day it is. Assumes nothing.
use Rattle.rules.specs.Limits.{Half, session, trading}
use Rattle.book.specs.declared.halves.AnyHalf.{AnyHalf}
use Rattle.book.specs.declared.halves.AnyHalf.TheVariants.{Trading, Session}

abbrev pub half_of : AnyHalf → Half
half_of Trading = trading
half_of Session = session
