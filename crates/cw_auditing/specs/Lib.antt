pub mod Auditing
pub mod Reauditing
