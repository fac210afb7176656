pub mod Calls
pub mod Shorts
pub mod Settling
pub mod Running
pub mod Lent
