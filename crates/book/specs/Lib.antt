pub mod Halves
pub mod Entered
pub mod Views
pub mod Calls
pub mod Steps
pub mod Settled
pub mod SectionBook
