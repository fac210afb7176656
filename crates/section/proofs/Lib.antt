pub mod Lists
pub mod Fitting
pub mod Holding
pub mod Rising
pub mod Settlements
