pub mod Exact
pub mod Cuts
pub mod Numbers
pub mod LineEnds
pub mod Values
