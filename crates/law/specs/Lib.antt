pub mod Lawful
pub mod Lent
