pub mod Parsed
pub mod Reports
pub mod Runs
pub mod Texts
pub mod LineTexts
pub mod Days
pub mod Ready
