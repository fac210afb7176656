pub mod Adding
pub mod Opening
pub mod Onward
pub mod Listed
pub mod Whole
pub mod Tables
pub mod Room
